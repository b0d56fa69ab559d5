use Rattle.std.proofs.Common.{◌∙◌, List, ap, subst, Some}
use Rattle.zms_units.specs.declared.places.VdevRow.{VdevRow}
use Rattle.turn_passes.specs.Pairs.{Each}
use Rattle.ms_cell.specs.Turns.{Turns}
use Rattle.ms_cell.specs.Passes.{Passes}
use Rattle.ms_cell.specs.Closed.{StandsBy}
use Rattle.ms_cell.proofs.Bases.{made_rests, made_bases}
use Rattle.ms_cell.proofs.opening.make_cells.Goals as goal

pub returns-clause-rests : goal.returns-clause-rests
returns-clause-rests g c =
    let lists = c.in_ok-metaslabs.ensures in
    let t : Turns = record { vdevs = c.args.layout.vdevs; opened = c.args.opened.0; gate = c.in-Ok.gate; metaslabs = c.in_ok-metaslabs.metaslabs.items } in
    let p : Passes = record { gate = c.in-Ok.rest; metaslabs = c.in_ok-metaslabs.rests.items } in
    made_rests t p c.args.bases.items c.in-Ok.ensures.rest (c.in-Ok.ensures.fixed ∙ ap (λ k. Some (record { 0 = k })) c.new.ensures.opened) lists.counts.0 lists.counts.1 lists.rests
    (subst (λ (v : List VdevRow). Each (λ k base c'. StandsBy v c.args.opened.0 k base c') c.args.bases.items p.metaslabs) c.as_slice.ensures lists.stand)

pub returns-clause-bases : goal.returns-clause-bases
returns-clause-bases g c =
    let lists = c.in_ok-metaslabs.ensures in
    let p : Passes = record { gate = c.in-Ok.rest; metaslabs = c.in_ok-metaslabs.rests.items } in
    made_bases c.args.layout.vdevs c.args.opened.0 p c.args.bases.items
    (subst (λ (v : List VdevRow). Each (λ k base c'. StandsBy v c.args.opened.0 k base c') c.args.bases.items p.metaslabs) c.as_slice.ensures lists.stand)
