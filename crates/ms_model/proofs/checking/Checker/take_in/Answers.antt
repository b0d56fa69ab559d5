use Rattle.std.proofs.Common.{length, arith}
use Rattle.ms_model.specs.Legal.{IsWithin}
use Rattle.ms_model.proofs.checking.Checker.take_in.Goals as goal

pub cursor_place-requires : goal.cursor_place-requires
cursor_place-requires c =
    let within : IsWithin (length c.args.self.now.lasts.items) c.in-Grant.seg = rw c.in-Grant.is at c.requires.within in
    let some = within.some in
    let end = within.within in
    let most = c.requires.most in
    (omega arith, omega arith)
