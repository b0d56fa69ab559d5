-- The loader serves on behind what it does.
use Rattle.std.proofs.Common.{◌≡◌, Bool, [], ap, ◌∙◌, arith}
use Rattle.ms_model.specs.Units.{collected_group}
use Rattle.ms_cell.specs.Turns.{Turns, origin_from}
use Rattle.ms_cell.specs.Passes.{Passes, AreFresh, fixed_of, seen_of, origin_in, seen_in}
use Rattle.ms_cell.proofs.Gathering.{fresh_seated}
use Rattle.ms_cell.proofs.Lifting.{some_at}
use Rattle.alloc_rows.specs.Serving.{AreUncollected, IsServing, Keeps}

pub kept_along : (p q r : Passes) → Keeps p q → Keeps q r → Keeps p r
kept_along p q r first second t s = let one = first t s in let two = second t one.0 in (two.0, λ none. two.1 (one.1 none))

pub serves_kept : (t : Turns) (p q other : Passes) (collected : Bool) → Keeps p q → IsServing t p other collected → IsServing t q other collected
serves_kept t p q other collected keeps s = let both = keeps t s.keeper_at in record { keeper_at = both.0; other_at = s.other_at; uncollected = λ none. both.1 (s.uncollected none) }

-- new cells have collected nothing
fresh_uncollected : (t : Turns) (p : Passes) → AreFresh 0 t p → AreUncollected t p
fresh_uncollected t p f k lt =
    let turn = some_at t.metaslabs k lt in
    let c = some_at p.metaslabs k (omega (arith, f.know.count)) in
    let knows = f.know.each k c.0 c.1 in
    let seen : seen_in p k ≡ [] = ap seen_of c.1 ∙ (f.each.at k turn.0 c.0 turn.1 c.1).seen in
    let opened : (origin_in p k).opened ≡ t.opened = ap (λ x. (origin_from (fixed_of x)).opened) c.1 ∙ (ap (λ x. (origin_from x).opened) knows.is ∙ knows.stands.group) in
    ap (collected_group (origin_in p k)) seen ∙ opened

pub serves_at_first : (t : Turns) (keeper other : Passes) (collected : Bool) → AreFresh 0 t keeper → AreFresh 2 t other → IsServing t keeper other collected
serves_at_first t keeper other collected first second = record { keeper_at = fresh_seated 0 t keeper first; other_at = fresh_seated 2 t other second; uncollected = λ none. fresh_uncollected t keeper first }
