-- How the steps of a lane lie in a journal: parts join and come apart, and the lane's notes are those of its steps, in order.
use Rattle.std.proofs.Common.{◌≡◌, ℕ, List, [], ◌∷◌, ◌++◌, refl, sym, ap, ◌∙◌, append_assoc, eq-eqb, cond, Option, Some, None}
use Rattle.std.specs.Prelude.{◌==◌, IfSome}
use Rattle.std.specs.Option.{option_to_list}
use Rattle.std.proofs.lemmas.List.{append-nil, append_cancel_left}
use Rattle.std.proofs.lemmas.List.Elements.{filter-append}
use Rattle.lane_steps.specs.Steps.{Step, after, notes_at, notes_of, Quiet, Follows, Settled, IsPrefix}

module _ {N : Type 0} where
  pub prefix_whole : (h : List N) → IsPrefix h h
  prefix_whole h = ([], append-nil h)

  pub prefix_trans : (h i j : List N) → IsPrefix h i → IsPrefix i j → IsPrefix h j
  prefix_trans h i j p q = (p.0 ++ q.0, sym (append_assoc h p.0 q.0) ∙ (ap (λ l. l ++ q.0) p.1 ∙ q.1))

  pub notes_of-append : (ss ts : List (Step N)) → notes_of (ss ++ ts) ≡ notes_of ss ++ notes_of ts
  notes_of-append [] ts = refl
  notes_of-append (s ∷ ss) ts = ap (λ l. option_to_list s.note ++ l) (notes_of-append ss ts) ∙ sym (append_assoc (option_to_list s.note) (notes_of ss) (notes_of ts))

  cancel : (a b : List N) → a ++ b ≡ a → b ≡ []
  cancel a b e = append_cancel_left a b [] (e ∙ sym (append-nil a))

module _ {N : Type 0} (right : N → ℕ) (lane : ℕ) where
  abbrev at : List N → List N
  at = notes_at right lane

  abbrev Q : List N → List N → Type 0
  Q = Quiet right lane

  abbrev F : List N → List (Step N) → List N → Type 0
  F = Follows right lane

  pub notes_at-append : (xs ys : List N) → at (xs ++ ys) ≡ at xs ++ at ys
  notes_at-append xs ys = filter-append (λ n. lane == right n) xs ys

  -- one note or none, which needs the lane's right
  pub notes_at_own : (note : Option N) → IfSome note (λ n. right n ≡ lane) → at (option_to_list note) ≡ option_to_list note
  notes_at_own None own = refl
  notes_at_own (Some n) own = ap (λ b. cond b (n ∷ []) []) (eq-eqb lane (right n) (sym own))

  -- the journal grew, and the lane's notes stayed
  pub quiet_of : (h j : List N) → IsPrefix h j → at h ≡ at j → Q h j
  quiet_of h j p e = record {
    more = p.0;
    is = p.1;
    none = cancel (at h) (at p.0) (sym (notes_at-append h p.0) ∙ (ap at p.1 ∙ sym e));
  }

  pub quiet_none : (h : List N) → Q h h
  quiet_none h = record { more = []; is = append-nil h; none = refl }

  pub quiet_notes : (h j : List N) → Q h j → at j ≡ at h
  quiet_notes h j q = ap at (sym q.is) ∙ (notes_at-append h q.more ∙ (ap (λ l. at h ++ l) q.none ∙ append-nil (at h)))

  pub quiet_both : (h i j : List N) → Q h i → Q i j → Q h j
  quiet_both h i j p q = quiet_of h j (prefix_trans h i j (p.more, p.is) (q.more, q.is)) (sym (quiet_notes i j q ∙ quiet_notes h i p))

  -- the journal may grow by no note of the lane before its first step, between parts, and after its last step

  pub quiet_follows : (h i : List N) (ss : List (Step N)) (j : List N) → Q h i → F i ss j → F h ss j
  quiet_follows h i [] j q f = quiet_both h i j q f
  quiet_follows h i (s ∷ ss) j q f = (quiet_both h i s.before q f.0, f.1)

  pub follows_later : (h : List N) (ss : List (Step N)) (i j : List N) → F h ss i → Q i j → F h ss j
  follows_later h [] i j f q = quiet_both h i j f q
  follows_later h (s ∷ ss) i j f q = (f.0, (f.1.0, follows_later (after s) ss i j f.1.1 q))

  pub follows_both : (h : List N) (ss : List (Step N)) (i : List N) (ts : List (Step N)) (j : List N) → F h ss i → F i ts j → F h (ss ++ ts) j
  follows_both h [] i ts j f g = quiet_follows h i ts j f g
  follows_both h (s ∷ ss) i ts j f g = (f.0, (f.1.0, follows_both (after s) ss i ts j f.1.1 g))

  -- the lane's notes are those that it had, and then what its steps added
  pub follows_notes : (h : List N) (ss : List (Step N)) (j : List N) → F h ss j → at j ≡ at h ++ notes_of ss
  follows_notes h [] j f = quiet_notes h j f ∙ sym (append-nil (at h))
  follows_notes h (s ∷ ss) j f =
      follows_notes (after s) ss j f.1.1
      ∙ (ap (λ l. l ++ notes_of ss) (notes_at-append s.before (option_to_list s.note) ∙ (ap (λ l. l ++ at (option_to_list s.note)) (quiet_notes h s.before f.0) ∙ ap (λ l. at h ++ l) (notes_at_own s.note f.1.0)))
      ∙ append_assoc (at h) (option_to_list s.note) (notes_of ss))

  pub follows_prefix : (h : List N) (ss : List (Step N)) (j : List N) → F h ss j → IsPrefix h j
  follows_prefix h [] j f = (f.more, f.is)
  follows_prefix h (s ∷ ss) j f =
      prefix_trans h s.before j (f.0.more, f.0.is)
      (prefix_trans s.before (after s) j (option_to_list s.note, refl) (follows_prefix (after s) ss j f.1.1))

  -- what came: of the lane, the notes of its steps
  pub follows_grows : (h : List N) (ss : List (Step N)) (j : List N) → F h ss j → (rest : List N) × ((h ++ rest ≡ j) × (at rest ≡ notes_of ss))
  follows_grows h ss j f =
      let p = follows_prefix h ss j f in
      (p.0, (p.1, append_cancel_left (at h) (at p.0) (notes_of ss) (sym (notes_at-append h p.0) ∙ (ap at p.1 ∙ follows_notes h ss j f))))

  -- before a step, and from that step on
  pub follows_split : (h : List N) (ss : List (Step N)) (s : Step N) (ts : List (Step N)) (j : List N) → F h (ss ++ s ∷ ts) j → F h ss s.before × F s.before (s ∷ ts) j
  follows_split h [] s ts j f = (f.0, (quiet_none s.before, f.1))
  follows_split h (r ∷ ss) s ts j f = let rest = follows_split (after r) ss s ts j f.1.1 in ((f.0, (f.1.0, rest.0)), rest.1)

  -- a step's place stands after the notes of the lane's earlier steps, and of no later one
  pub follows_place : (h : List N) (ss : List (Step N)) (s : Step N) (ts : List (Step N)) (j : List N) → F h (ss ++ s ∷ ts) j → at s.before ≡ at h ++ notes_of ss
  follows_place h ss s ts j f = follows_notes h ss s.before (follows_split h ss s ts j f).0

  pub follows_within : (h : List N) (ss : List (Step N)) (s : Step N) (ts : List (Step N)) (j : List N) → F h (ss ++ s ∷ ts) j → IsPrefix s.before j
  follows_within h ss s ts j f = follows_prefix s.before (s ∷ ts) j (follows_split h ss s ts j f).1

  -- what comes after a place: of the lane, the notes of the steps from there on
  pub follows_rest : (h : List N) (ss : List (Step N)) (s : Step N) (ts : List (Step N)) (j : List N) → F h (ss ++ s ∷ ts) j
      → (rest : List N) × ((s.before ++ rest ≡ j) × (at rest ≡ notes_of (s ∷ ts)))
  follows_rest h ss s ts j f = follows_grows s.before (s ∷ ts) j (follows_split h ss s ts j f).1

  -- between two places: of the lane, the notes of the steps between
  pub follows_between : (h : List N) (ss : List (Step N)) (r : Step N) (ts : List (Step N)) (s : Step N) (us : List (Step N)) (j : List N)
      → F h (ss ++ r ∷ (ts ++ s ∷ us)) j → (rest : List N) × ((r.before ++ rest ≡ s.before) × (at rest ≡ notes_of (r ∷ ts)))
  follows_between h ss r ts s us j f =
      follows_grows r.before (r ∷ ts) s.before (follows_split r.before (r ∷ ts) s us j (follows_split h ss r (ts ++ s ∷ us) j f).1).0

  -- places never fall
  pub follows_order : (h : List N) (ss : List (Step N)) (r : Step N) (ts : List (Step N)) (s : Step N) (us : List (Step N)) (j : List N)
      → F h (ss ++ r ∷ (ts ++ s ∷ us)) j → IsPrefix (after r) s.before
  follows_order h ss r ts s us j f =
      let late = (follows_split h ss r (ts ++ s ∷ us) j f).1 in
      follows_prefix (after r) ts s.before (follows_split (after r) ts s us j late.1.1).0

  -- from what the lane knew at its end to the whole journal
  pub follows_settled : (h : List N) (ss : List (Step N)) (i j : List N) → F h ss i → Settled right lane i j → F h ss j
  follows_settled h ss i j f s = follows_later h ss i j f (quiet_of i j s.begins s.same)
