use Rattle.std.proofs.Common.{arith}
use Rattle.ms_model.proofs.checking.Checker.is_next_run.Goals as goal

pub cursor_place-requires : goal.cursor_place-requires
cursor_place-requires c =
    let long = c.requires.count.1 in
    let within = c.requires.run.within in
    let most = c.requires.most in
    (c.requires.count.0, omega arith)
