use Rattle.std.proofs.Common.{◌≡◌, Bool, true, false, refl, ◌∙◌, ap}
use Rattle.std.specs.Prelude.{◌||◌, ◌&&◌, ◌==◌, cond}
use Rattle.std.specs.Str.{bytes_eq}
use Rattle.std.specs.Cmp.{nat_eq_equiv}
use Rattle.std.specs.Cmp.Lexicographic.{nat_list_eq_equiv}
use Rattle.cmd_text.proofs.reader.add_name.Goals as goal

or_known : (b c known : Bool) → b ≡ c → cond b true known ≡ (c || known)
or_known true c known e = rw (← e) refl
or_known false c known e = rw (← e) refl

pub returns-clause-added : goal.returns-clause-added
returns-clause-added c = λ l other.
    let lanes : (c.args.lane == l) ≡ (l == c.args.lane) = nat_eq_equiv.symm c.args.lane l in
    let names : bytes_eq c.args.name.now other ≡ bytes_eq other c.args.name.now = nat_list_eq_equiv.symm c.args.name.now other in
    c.in_ok-insert.ensures.updates.0 (l, record { ref_ptr = (0, 0); now = other })
    ∙ or_known _ _ _ (ap (λ b. b && bytes_eq c.args.name.now other) lanes ∙ ap (λ b. (l == c.args.lane) && b) names)
