-- The first wrong field of a list.
use Rattle.std.specs.Prelude.{IsTrue}
use Rattle.std.proofs.lemmas.Bool.{false≢true}
use Rattle.std.proofs.Common.{◌≡◌, Bool, false, ℕ, zero, suc, ◌+◌, ◌<◌, List, [], ◌∷◌, ◌++◌, refl, sym, ◌∙◌, ap, subst, arith, append_assoc}
use Rattle.std.proofs.lemmas.List.{append-nil}
use Rattle.std.proofs.lemmas.List.Concat.{flat_map-append}
use Rattle.std.specs.List.{flat_map, range_with_len}
use Rattle.vdev_map.specs.declared.layout.Part.TheVariants.{Table as TablePart}
use Rattle.uber_ring.specs.TableFields.{Field, field_place, Each, IsWrongAt, IsWrongIn}
use Rattle.uber_ring.specs.declared.faults.TableFault.{TableFault}
use Rattle.uber_ring.specs.declared.faults.TableFault.TheVariants.{Failed, Memory, TableDamaged, Malformed}

pub range-append : (a m n : ℕ) → range_with_len a (m + n) ≡ range_with_len a m ++ range_with_len (a + m) n
range-append a zero n =
    ap (λ (k : ℕ). range_with_len a k) (let e : 0 + n ≡ n = omega arith in e) ∙ ap (λ (b : ℕ). range_with_len b n) (let e : a ≡ a + 0 = omega arith in e)
range-append a (suc m) n =
    ap (λ (k : ℕ). range_with_len a k) (let e : suc m + n ≡ suc (m + n) = omega arith in e)
    ∙ ap (λ (xs : List ℕ). a ∷ xs) (range-append (a + 1) m n ∙ ap (λ (b : ℕ). range_with_len (a + 1) m ++ range_with_len b n) (let e : a + 1 + m ≡ a + suc m = omega arith in e))

module _ (P : Field → Type 0) where
  pub each-append : (xs ys : List Field) → Each P xs → Each P ys → Each P (xs ++ ys)
  each-append [] ys first second = second
  each-append (x ∷ xs) ys first second = (first.0, each-append xs ys first.1 second)

  pub each_left : (xs ys : List Field) → Each P (xs ++ ys) → Each P xs
  each_left [] ys both = tt
  each_left (x ∷ xs) ys both = (both.0, each_left xs ys both.1)

  pub each_right : (xs ys : List Field) → Each P (xs ++ ys) → Each P ys
  each_right [] ys both = both
  each_right (x ∷ xs) ys both = each_right xs ys both.1

  module _ (bytes : List ℕ) where
    pub wrong_here : (before : List Field) (field : Field) (after : List Field) (at : ℕ) → Each P before → (P field → ⊥) → at ≡ field_place bytes field → IsWrongAt P bytes (before ++ field ∷ after) at
    wrong_here before field after at held broken begins = record {
      field = field;
      first = record { before = before; after = after; split = refl; held = held; broken = broken };
      begins = begins;
    }

    pub fault_is : (fields : List Field) (at : ℕ) (fault : TableFault) → fault ≡ Malformed TablePart at → IsWrongAt P bytes fields at → IsWrongIn P bytes fields fault
    fault_is fields at fault is wrong = subst (λ (f : TableFault). IsWrongIn P bytes fields f) (sym is) (refl, wrong)

    wrong_front : (xs ys : List Field) (at : ℕ) → IsWrongAt P bytes xs at → IsWrongAt P bytes (xs ++ ys) at
    wrong_front xs ys at wrong =
        let f = wrong.first in
        record {
          field = wrong.field;
          first = record { before = f.before; after = f.after ++ ys; split = ap (λ (zs : List Field). zs ++ ys) f.split ∙ append_assoc f.before (wrong.field ∷ f.after) ys; held = f.held; broken = f.broken };
          begins = wrong.begins;
        }

    wrong_behind : (xs ys : List Field) (at : ℕ) → Each P xs → IsWrongAt P bytes ys at → IsWrongAt P bytes (xs ++ ys) at
    wrong_behind xs ys at right wrong =
        let f = wrong.first in
        record {
          field = wrong.field;
          first = record { before = xs ++ f.before; after = f.after; split = ap (λ (zs : List Field). xs ++ zs) f.split ∙ sym (append_assoc xs f.before (wrong.field ∷ f.after)); held = each-append xs f.before right f.held; broken = f.broken };
          begins = wrong.begins;
        }

    pub fault_front : (xs ys : List Field) (fault : TableFault) → IsWrongIn P bytes xs fault → IsWrongIn P bytes (xs ++ ys) fault
    fault_front xs ys Failed wrong = absurd wrong
    fault_front xs ys Memory wrong = tt
    fault_front xs ys (TableDamaged g k f) wrong = absurd wrong
    fault_front xs ys (Malformed part at) wrong = (wrong.0, wrong_front xs ys at wrong.1)

    pub fault_behind : (xs ys : List Field) (fault : TableFault) → Each P xs → IsWrongIn P bytes ys fault → IsWrongIn P bytes (xs ++ ys) fault
    fault_behind xs ys Failed right wrong = absurd wrong
    fault_behind xs ys Memory right wrong = tt
    fault_behind xs ys (TableDamaged g k f) right wrong = absurd wrong
    fault_behind xs ys (Malformed part at) right wrong = (wrong.0, wrong_behind xs ys at right wrong.1)

    -- rows of fields
    module _ (fields : ℕ → List Field) where
      abbrev up_to : ℕ → List Field
      up_to n = flat_map fields (range_with_len 0 n)

      row_more : (v : ℕ) → up_to (v + 1) ≡ up_to v ++ fields v
      row_more v =
          ap (λ (xs : List ℕ). flat_map fields xs) (range-append 0 v 1) ∙ flat_map-append fields (range_with_len 0 v) (range_with_len (0 + v) 1)
          ∙ ap (λ (xs : List Field). up_to v ++ xs) (ap (λ (b : ℕ). flat_map fields (range_with_len b 1)) (let e : 0 + v ≡ v = omega arith in e) ∙ append-nil (fields v))

      pub each_more : (v : ℕ) → Each P (up_to v) → Each P (fields v) → Each P (up_to (v + 1))
      each_more v before here = subst (λ (xs : List Field). Each P xs) (sym (row_more v)) (each-append (up_to v) (fields v) before here)

      split_at : (v rest : ℕ) → up_to (v + 1 + rest) ≡ up_to (v + 1) ++ flat_map fields (range_with_len (0 + (v + 1)) rest)
      split_at v rest = ap (λ (xs : List ℕ). flat_map fields xs) (range-append 0 (v + 1) rest) ∙ flat_map-append fields (range_with_len 0 (v + 1)) (range_with_len (0 + (v + 1)) rest)

      pub fault_row : (v rest n : ℕ) (fault : TableFault) → v + 1 + rest ≡ n → Each P (up_to v) → IsWrongIn P bytes (fields v) fault → IsWrongIn P bytes (up_to n) fault
      fault_row v rest n fault count before wrong =
          let here : IsWrongIn P bytes (up_to (v + 1)) fault = subst (λ (xs : List Field). IsWrongIn P bytes xs fault) (sym (row_more v)) (fault_behind (up_to v) (fields v) fault before wrong) in
          subst (λ (xs : List Field). IsWrongIn P bytes xs fault) (sym (split_at v rest) ∙ ap up_to count)
          (fault_front (up_to (v + 1)) (flat_map fields (range_with_len (0 + (v + 1)) rest)) fault here)

      -- each row's fields, from all of them
      pub each_row : (n v rest : ℕ) → v + 1 + rest ≡ n → Each P (up_to n) → Each P (fields v)
      each_row n v rest count all =
          each_right (up_to v) (fields v)
          (subst (λ (xs : List Field). Each P xs) (row_more v)
          (each_left (up_to (v + 1)) (flat_map fields (range_with_len (0 + (v + 1)) rest)) (subst (λ (xs : List Field). Each P xs) (ap up_to (sym count) ∙ split_at v rest) all)))

      pub each_all : (n : ℕ) → ((v : ℕ) → v < n → Each P (fields v)) → Each P (up_to n)
      each_all zero each = tt
      each_all (suc n) each = subst (λ (k : ℕ). Each P (up_to k)) (let e : n + 1 ≡ suc n = omega arith in e) (each_more n (each_all n (λ v lt. each v (omega arith))) (each n (omega arith)))

-- a test that failed
pub not_true : (b : Bool) (P : Type 0) → (P → IsTrue b) → b ≡ false → P → ⊥
not_true b P holds failed p = false≢true (sym failed ∙ holds p)
