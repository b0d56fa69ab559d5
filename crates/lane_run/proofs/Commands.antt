-- The commands of one lane among those of all lanes.
use Rattle.std.proofs.Common.{◌≡◌, ◌≢◌, ◌==◌, ⊎_elim, Bool, true, false, cond, ℕ, suc, zero, ◌+◌, ◌<◌, ◌≤◌, List, [], ◌∷◌, ◌++◌, length, get_or, take, refl, sym, ◌∙◌, ap, arith, append-nil}
use Rattle.std.specs.List.{All, count_by, range_with_len, sum_by}
use Rattle.std.proofs.lemmas.Bool.{ne_eqb}
use Rattle.std.proofs.lemmas.Bool.Decides.{Decides-eqb, eqb_tells}
use Rattle.std.proofs.lemmas.List.Elements.{All-filter, All-head, All-tail, All-weaker, filter-append, filter_more}
use Rattle.std.proofs.lemmas.List.Sums.{sum_by-cons}
use Rattle.cmd_text.specs.declared.script.Command.{Command}
use Rattle.lane_run.specs.Runs.{commands_of}

pub commands_of-append : (lane : ℕ) (xs ys : List Command) → commands_of lane (xs ++ ys) ≡ commands_of lane xs ++ commands_of lane ys
commands_of-append lane xs ys = filter-append (λ c. lane == c.lane) xs ys

pub All-commands_of : (P : Command → Type 0) (lane : ℕ) (cs : List Command) → All P cs → All P (commands_of lane cs)
All-commands_of P lane cs all = All-filter (λ c. lane == c.lane) P cs all

-- one command more: it is the lane's own, or another's

next_of : (lane : ℕ) (cs : List Command) (i : ℕ) (c : Command) (own : Bool) → i < length cs → c ≡ get_or cs i c → (lane == c.lane) ≡ own
    → commands_of lane (take (i + 1) cs) ≡ commands_of lane (take i cs) ++ cond own (c ∷ []) []
next_of lane cs i c own lt at is =
    filter_more (λ c. lane == c.lane) cs i c lt
    ∙ (ap (λ (x : Command). commands_of lane (take i cs) ++ cond (lane == x.lane) (x ∷ []) []) (sym at)
    ∙ ap (λ (b : Bool). commands_of lane (take i cs) ++ cond b (c ∷ []) []) is)

pub next_is_own : (lane : ℕ) (cs : List Command) (i : ℕ) (c : Command) → i < length cs → c ≡ get_or cs i c → c.lane ≡ lane
    → commands_of lane (take (i + 1) cs) ≡ commands_of lane (take i cs) ++ c ∷ []
next_is_own lane cs i c lt at own = next_of lane cs i c true lt at ((Decides-eqb lane c.lane).1 (sym own))

pub next_is_anothers : (lane : ℕ) (cs : List Command) (i : ℕ) (c : Command) → i < length cs → c ≡ get_or cs i c → (c.lane ≢ lane)
    → commands_of lane (take (i + 1) cs) ≡ commands_of lane (take i cs)
next_is_anothers lane cs i c lt at other = next_of lane cs i c false lt at (ne_eqb lane c.lane (λ e. other (sym e))) ∙ append-nil (commands_of lane (take i cs))

-- how many commands the lanes have

one_more : (own : Bool) (c : Command) (cs : List Command) → length (cond own (c ∷ cs) cs) ≡ cond own 1 0 + length cs
one_more true c cs = omega arith
one_more false c cs = omega arith

count_more : (lanes : List ℕ) (c : Command) (cs : List Command)
    → sum_by (λ lane. length (commands_of lane (c ∷ cs))) lanes ≡ count_by (λ lane. lane == c.lane) lanes + sum_by (λ lane. length (commands_of lane cs)) lanes
count_more [] c cs = refl
count_more (lane ∷ lanes) c cs =
    let all = sum_by-cons (λ (l : ℕ). length (commands_of l (c ∷ cs))) lane lanes in
    let own = sum_by-cons (λ (l : ℕ). cond (l == c.lane) 1 0) lane lanes in
    let rest = sum_by-cons (λ (l : ℕ). length (commands_of l cs)) lane lanes in
    omega (arith, all, own, rest, one_more (lane == c.lane) c (commands_of lane cs), count_more lanes c cs)

none_counted : (lanes : List ℕ) → sum_by (λ lane. length (commands_of lane [])) lanes ≡ 0
none_counted [] = refl
none_counted (lane ∷ lanes) = omega (arith, sum_by-cons (λ (l : ℕ). length (commands_of l [])) lane lanes, none_counted lanes)

counted_once : (lanes : List ℕ) (cs : List Command) → All (λ c. count_by (λ lane. lane == c.lane) lanes ≡ 1) cs → sum_by (λ lane. length (commands_of lane cs)) lanes ≡ length cs
counted_once lanes [] once = none_counted lanes
counted_once lanes (c ∷ cs) once =
    let here = All-head (λ (x : Command). count_by (λ lane. lane == x.lane) lanes ≡ 1) c cs once in
    let there = counted_once lanes cs (All-tail (λ (x : Command). count_by (λ lane. lane == x.lane) lanes ≡ 1) c cs once) in
    omega (arith, count_more lanes c cs, here, there)

-- a number is met once among those from one to another, and not among those above it

met : (a k n : ℕ) (b : Bool) → (a == k) ≡ b → count_by (λ x. x == k) (range_with_len a (suc n)) ≡ cond b 1 0 + count_by (λ x. x == k) (range_with_len (a + 1) n)
met a k n b is = sum_by-cons (λ (x : ℕ). cond (x == k) 1 0) a (range_with_len (a + 1) n) ∙ ap (λ (y : Bool). cond y 1 0 + count_by (λ x. x == k) (range_with_len (a + 1) n)) is

none_above : (k a n : ℕ) → k < a → count_by (λ x. x == k) (range_with_len a n) ≡ 0
none_above k a zero above = refl
none_above k a (suc n) above =
    let later = none_above k (a + 1) n (omega arith) in
    ⊎_elim (λ (t : ((a == k) ≡ true) × (a ≡ k)). absurd (omega (arith, t.1))) (λ (t : ((a == k) ≡ false) × (a ≢ k)). omega (arith, met a k n false t.0, later)) (eqb_tells a k)

once_among : (k a n : ℕ) → a ≤ k → k < a + n → count_by (λ x. x == k) (range_with_len a n) ≡ 1
once_among k a zero from below = absurd (omega arith)
once_among k a (suc n) from below =
    ⊎_elim (λ (t : ((a == k) ≡ true) × (a ≡ k)). omega (arith, met a k n true t.0, none_above k (a + 1) n (omega (arith, t.1))))
    (λ (t : ((a == k) ≡ false) × (a ≢ k)). omega (arith, met a k n false t.0, once_among k (a + 1) n (omega (arith, t.1)) (omega arith))) (eqb_tells a k)

-- the commands of so many lanes are all that there are, if each is of one of them
pub counts_add_up : (lanes : ℕ) (cs : List Command) → All (λ c. (1 ≤ c.lane) × (c.lane ≤ lanes)) cs → sum_by (λ lane. length (commands_of lane cs)) (range_with_len 1 lanes) ≡ length cs
counts_add_up lanes cs all =
    counted_once (range_with_len 1 lanes) cs
    (All-weaker (λ (c : Command). (1 ≤ c.lane) × (c.lane ≤ lanes)) (λ (c : Command). count_by (λ lane. lane == c.lane) (range_with_len 1 lanes) ≡ 1) (λ c is. once_among c.lane 1 lanes is.0 (omega (arith, is.1))) cs all)
