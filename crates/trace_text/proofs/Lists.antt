-- Lists of texts, as far as a loop has come.
use Rattle.std.proofs.Common.{◌≡◌, ℕ, ◌+◌, ◌≤◌, ◌<◌, List, [], ◌∷◌, ◌++◌, length, take, drop, sym, ◌∙◌, ap, append_assoc, get_or, add-one, arith, suc}
use Rattle.std.specs.List.{flat_map}
use Rattle.std.proofs.lemmas.List.{append-nil, take-append-drop, take_all, length-take}
use Rattle.std.proofs.lemmas.Grind.{flat_map-append}
use Rattle.std.proofs.Math.Seq.{take-suc}
use Rattle.trace_text.specs.Numbers.{numbered}

-- a `flat_map` as far as a loop has come, at one element more and at the end

pub flat_map-more : {X : Type 0} (f : X → List ℕ) (xs : List X) (i : ℕ) (d : X) → i < length xs
    → flat_map f (take (i + 1) xs) ≡ flat_map f (take i xs) ++ f (get_or xs i d)
flat_map-more f xs i d lt =
    rw (add-one, take-suc xs i d) (flat_map-append f (take i xs) (get_or xs i d ∷ []) ∙ ap (λ l. flat_map f (take i xs) ++ l) (append-nil (f (get_or xs i d))))

pub flat_map-split : {X : Type 0} (f : X → List ℕ) (xs : List X) (i : ℕ) (d : X) → i < length xs
    → flat_map f xs ≡ flat_map f (take i xs) ++ (f (get_or xs i d) ++ flat_map f (drop (i + 1) xs))
flat_map-split f xs i d lt =
    ap (flat_map f) (sym (take-append-drop (i + 1) xs)) ∙ (flat_map-append f (take (i + 1) xs) (drop (i + 1) xs)
    ∙ (ap (λ l. l ++ flat_map f (drop (i + 1) xs)) (flat_map-more f xs i d lt) ∙ append_assoc (flat_map f (take i xs)) (f (get_or xs i d)) (flat_map f (drop (i + 1) xs))))

pub flat_map-all : {X : Type 0} (f : X → List ℕ) (xs : List X) (i : ℕ) → length xs ≤ i → flat_map f xs ≡ flat_map f (take i xs)
flat_map-all f xs i le = ap (flat_map f) (sym (take_all i xs le))

-- the same at an element that is named

pub flat_map-item_more : {X : Type 0} (f : X → List ℕ) (xs : List X) (i : ℕ) (x : X) → i < length xs → x ≡ get_or xs i x
    → flat_map f (take (i + 1) xs) ≡ flat_map f (take i xs) ++ f x
flat_map-item_more f xs i x lt at = flat_map-more f xs i x lt ∙ ap (λ y. flat_map f (take i xs) ++ f y) (sym at)

pub flat_map-item_split : {X : Type 0} (f : X → List ℕ) (xs : List X) (i : ℕ) (x : X) → i < length xs → x ≡ get_or xs i x
    → flat_map f xs ≡ flat_map f (take i xs) ++ (f x ++ flat_map f (drop (i + 1) xs))
flat_map-item_split f xs i x lt at = flat_map-split f xs i x lt ∙ ap (λ y. flat_map f (take i xs) ++ (f y ++ flat_map f (drop (i + 1) xs))) (sym at)

-- lines with their places, as far as a loop has come, at one more and at the end

pub numbered-append : {X : Type 0} (line : ℕ → X → List ℕ) (k : ℕ) (xs ys : List X)
    → numbered line k (xs ++ ys) ≡ numbered line k xs ++ numbered line (k + length xs) ys
numbered-append line k [] ys = ap (λ n. numbered line n ys) {x = k} {y = k + 0} (omega arith)
numbered-append line k (x ∷ xs) ys =
    ap (λ l. line k x ++ l) (numbered-append line (k + 1) xs ys ∙ ap (λ n. numbered line (k + 1) xs ++ numbered line n ys) {x = k + 1 + length xs} {y = k + suc (length xs)} (omega arith))
    ∙ sym (append_assoc (line k x) (numbered line (k + 1) xs) (numbered line (k + suc (length xs)) ys))

pub numbered-more : {X : Type 0} (line : ℕ → X → List ℕ) (k p : ℕ) (xs : List X) (i : ℕ) (d : X) → i < length xs → p ≡ k + i
    → numbered line k (take (i + 1) xs) ≡ numbered line k (take i xs) ++ line p (get_or xs i d)
numbered-more line k p xs i d lt e =
    rw (add-one, take-suc xs i d) (numbered-append line k (take i xs) (get_or xs i d ∷ [])
    ∙ ap (λ l. numbered line k (take i xs) ++ l) (append-nil _ ∙ ap (λ n. line n (get_or xs i d)) {x = k + length (take i xs)} {y = p} (omega (arith, length-take i xs))))

pub numbered-split : {X : Type 0} (line : ℕ → X → List ℕ) (k p : ℕ) (xs : List X) (i : ℕ) (d : X) → i < length xs → p ≡ k + i
    → numbered line k xs ≡ numbered line k (take i xs) ++ (line p (get_or xs i d) ++ numbered line (k + length (take (i + 1) xs)) (drop (i + 1) xs))
numbered-split line k p xs i d lt e =
    ap (numbered line k) (sym (take-append-drop (i + 1) xs)) ∙ (numbered-append line k (take (i + 1) xs) (drop (i + 1) xs)
    ∙ (ap (λ l. l ++ numbered line (k + length (take (i + 1) xs)) (drop (i + 1) xs)) (numbered-more line k p xs i d lt e) ∙ append_assoc (numbered line k (take i xs)) (line p (get_or xs i d)) _))

pub numbered-all : {X : Type 0} (line : ℕ → X → List ℕ) (k : ℕ) (xs : List X) (i : ℕ) → length xs ≤ i → numbered line k xs ≡ numbered line k (take i xs)
numbered-all line k xs i le = ap (numbered line k) (sym (take_all i xs le))

pub numbered-item_more : {X : Type 0} (line : ℕ → X → List ℕ) (k p : ℕ) (xs : List X) (i : ℕ) (x : X) → i < length xs → p ≡ k + i → x ≡ get_or xs i x
    → numbered line k (take (i + 1) xs) ≡ numbered line k (take i xs) ++ line p x
numbered-item_more line k p xs i x lt e at = numbered-more line k p xs i x lt e ∙ ap (λ y. numbered line k (take i xs) ++ line p y) (sym at)

pub numbered-item_split : {X : Type 0} (line : ℕ → X → List ℕ) (k p : ℕ) (xs : List X) (i : ℕ) (x : X) → i < length xs → p ≡ k + i → x ≡ get_or xs i x
    → numbered line k xs ≡ numbered line k (take i xs) ++ (line p x ++ numbered line (k + length (take (i + 1) xs)) (drop (i + 1) xs))
numbered-item_split line k p xs i x lt e at =
    numbered-split line k p xs i x lt e ∙ ap (λ y. numbered line k (take i xs) ++ (line p y ++ numbered line (k + length (take (i + 1) xs)) (drop (i + 1) xs))) (sym at)
