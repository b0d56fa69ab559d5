-- What new passes know of a metaslab.
use Rattle.std.proofs.Common.{◌≡◌, ℕ, ◌+◌, ◌<◌, ◌≤◌, [], length, ap, ◌∙◌, sym, subst, arith}
use Rattle.ms_model.specs.Units.{settled_group}
use Rattle.ms_cell.specs.Turns.{Turns, origin_from}
use Rattle.ms_cell.specs.Passes.{Passes, AreFresh, fixed_of, seen_of, origin_in, seen_in}
use Rattle.ms_cell.proofs.Lifting.{some_at}

fresh_settled : (right : ℕ) (t : Turns) (p : Passes) (number : ℕ) → AreFresh right t p → number < length t.metaslabs → settled_group (origin_in p number) (seen_in p number) ≡ t.opened
fresh_settled right t p number f lt =
    let turn = some_at t.metaslabs number lt in
    let c = some_at p.metaslabs number (omega (arith, f.know.count)) in
    let knows = f.know.each number c.0 c.1 in
    let seen : seen_in p number ≡ [] = ap seen_of c.1 ∙ (f.each.at number turn.0 c.0 turn.1 c.1).seen in
    let opened : (origin_in p number).opened ≡ t.opened = ap (λ x. (origin_from (fixed_of x)).opened) c.1 ∙ (ap (λ x. (origin_from x).opened) knows.is ∙ knows.stands.group) in
    ap (settled_group (origin_in p number)) seen ∙ opened

-- a group that is near the opened one is near what new passes have seen settled
pub fresh_near : (right : ℕ) (t : Turns) (p : Passes) (number given group : ℕ) → given ≡ number → AreFresh right t p → number < length t.metaslabs → group ≤ t.opened + 3
    → group ≤ settled_group (origin_in p given) (seen_in p given) + 3
fresh_near right t p number given group same f lt near = subst (λ k. group ≤ settled_group (origin_in p k) (seen_in p k) + 3) (sym same) (omega (arith, fresh_settled right t p number f lt))
