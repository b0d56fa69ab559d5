-- The rows of a table, one by one.
use Rattle.std.proofs.Common.{◌≡◌, ℕ, ◌+◌, ◌<◌, ◌≤◌, List, [], ◌∷◌, ◌++◌, length, take, get_or, Result, Ok, Err, sym, ◌∙◌, subst}
use Rattle.std.specs.Prelude.{IfErr, IsErrAnd}
use Rattle.uber_ring.specs.declared.faults.TableFault.{TableFault}
use Rattle.std.proofs.lemmas.List.{take_more, take_all}

-- one more row, as it is pushed
pub rows_more : {X : Type 0} (was now all : List X) (row : X) (i : ℕ) (d : X) → i < length all → was ≡ take i all → row ≡ get_or all i d → now ≡ was ++ row ∷ [] → now ≡ take (i + 1) all
rows_more was now all row i d lt before is pushed =
    pushed ∙ (λ j. before j ++ is j ∷ []) ∙ sym (take_more all i d lt)

pub rows_all : {X : Type 0} (rows all : List X) (i : ℕ) → length all ≤ i → rows ≡ take i all → rows ≡ all
rows_all rows all i past is = is ∙ take_all i all past

-- what a `?` hands on
pub handed_on : {T : Type 0} (r : Result T TableFault) (fault : TableFault) (W : TableFault → Type 0) → IsErrAnd r (λ given. given ≡ fault) → W fault → IfErr r W
handed_on (Ok x) fault W given wrong = tt
handed_on (Err e) fault W given wrong = subst W (sym given) wrong
