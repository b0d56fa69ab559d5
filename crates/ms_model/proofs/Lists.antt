-- Lists that grow at the end.
use Rattle.std.proofs.Common.{◌≡◌, List, [], ◌∷◌, ◌++◌, refl, sym, ap, subst}
use Rattle.std.specs.List.{All}
use Rattle.std.proofs.lemmas.List.{append-nil}
use Rattle.std.proofs.lemmas.List.Elements.{All-nil, All-cons, All-head, All-tail}
use Rattle.std.proofs.Math.Seq.{append_snoc}

snoc_from : {A : Type 0} (P : List A → Type 0) → ((xs : List A) (x : A) → P xs → P (xs ++ x ∷ [])) → (done rest : List A) → P done → P (done ++ rest)
snoc_from P step done [] p = subst P (sym (append-nil done)) p
snoc_from P step done (x ∷ xs) p = subst P (append_snoc done x xs) (snoc_from P step (done ++ x ∷ []) xs (step done x p))

-- what holds of no items, and stays as an item comes at the end, holds of each list
pub by_snoc : {A : Type 0} (P : List A → Type 0) → P [] → ((xs : List A) (x : A) → P xs → P (xs ++ x ∷ [])) → (xs : List A) → P xs
by_snoc P none step xs = snoc_from P step [] xs none

-- where an item of a longer list stands: it is the last one, or among those before
pub data Standing {A : Type 0} (before : List A) (n : A) (rest h : List A) (x : A) : Type 0 where
  is_last : before ≡ h → n ≡ x → Standing before n rest h x
  is_earlier : (more : List A) → before ++ (n ∷ more) ≡ h → Standing before n rest h x

standing_next : {A : Type 0} (b y : A) (before : List A) (n : A) (rest h : List A) (x : A) → b ≡ y → Standing before n rest h x → Standing (b ∷ before) n rest (y ∷ h) x
standing_next b y before n rest h x same (is_last e f) = is_last (cc) f
standing_next b y before n rest h x same (is_earlier more e) = is_earlier more (cc)

pub standing : {A : Type 0} (before : List A) (n : A) (rest h : List A) (x : A) → before ++ (n ∷ rest) ≡ h ++ x ∷ [] → Standing before n rest h x
standing [] n rest [] x e = is_last refl (cc)
standing [] n rest (y ∷ h) x e = let same : n ≡ y = cc in is_earlier h (ap (λ a. a ∷ h) same)
standing (b ∷ []) n rest [] x e = cc
standing (b ∷ (c ∷ before)) n rest [] x e = cc
standing (b ∷ before) n rest (y ∷ h) x e =
    standing_next b y before n rest h x (cc) (standing before n rest h x (cc))

-- a fact of each item, of the two parts of a list

pub all_left : {A : Type 0} (P : A → Type 0) (xs ys : List A) → All P (xs ++ ys) → All P xs
all_left P [] ys all = All-nil P
all_left P (x ∷ xs) ys all = All-cons P x xs (All-head P x (xs ++ ys) all) (all_left P xs ys (All-tail P x (xs ++ ys) all))

pub all_right : {A : Type 0} (P : A → Type 0) (xs ys : List A) → All P (xs ++ ys) → All P ys
all_right P [] ys all = all
all_right P (x ∷ xs) ys all = all_right P xs ys (All-tail P x (xs ++ ys) all)
