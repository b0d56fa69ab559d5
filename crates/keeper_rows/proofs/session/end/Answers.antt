use Rattle.ms_cell.proofs.Gathering.{rests_idle}
use Rattle.class_group.proofs.Gathering.{rests_idle as classes_idle}
use Rattle.keeper_rows.proofs.session.end.Goals as goal

pub close_cells-gate-requires-clause-idle : goal.close_cells-gate-requires-clause-idle
close_cells-gate-requires-clause-idle g c = rests_idle c.requires.0 c.args.shared.cells c.args.kept.seats.cells c.requires.1.cells

pub close_classes-journals-requires-clause-idle : goal.close_classes-journals-requires-clause-idle
close_classes-journals-requires-clause-idle g c = classes_idle c.requires.0 c.args.shared.classes c.args.kept.seats.classes c.requires.1.classes
