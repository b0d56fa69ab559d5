-- Journals of a class that grow by one note, and the induction over legal ones.
use Rattle.std.proofs.Common.{◌≡◌, ℕ, List, [], ◌∷◌, ◌++◌, refl, sym, ◌∙◌, ap, append_assoc, subst}
use Rattle.std.proofs.lemmas.List.Sums.{fold_push}
use Rattle.ms_model.proofs.Lists.{by_snoc, Standing, is_last, is_earlier, standing}
use Rattle.class_model.specs.Replay.{LaneNote, Pair, weight_after, weight_at, active_after, active_at, rotor_after, rotor_at, vdevs_of}
use Rattle.class_model.specs.Legal.{MayFollow, IsClassLegal}
use Rattle.class_model.specs.declared.origin.ClassOrigin.{ClassOrigin}

pub weight_at-push : (o : ClassOrigin) (h : List LaneNote) (n : LaneNote) (v i : ℕ) → weight_at o (h ++ n ∷ []) v i ≡ weight_after v i (weight_at o h v i) n.1
weight_at-push o h n v i = fold_push _ _ h n

pub active_at-push : (h : List LaneNote) (n : LaneNote) (v : ℕ) (p : Pair) → active_at (h ++ n ∷ []) v p ≡ active_after v p (active_at h v p) n.1
active_at-push h n v p = fold_push _ _ h n

pub rotor_at-push : (o : ClassOrigin) (h : List LaneNote) (n : LaneNote) → rotor_at o (h ++ n ∷ []) ≡ rotor_after (vdevs_of o) (rotor_at o h) n.1
rotor_at-push o h n = fold_push _ _ h n

pub legal_before : (o : ClassOrigin) (h rest : List LaneNote) → IsClassLegal o (h ++ rest) → IsClassLegal o h
legal_before o h rest legal before n more e =
    legal before n (more ++ rest) (sym (append_assoc before (n ∷ more) rest) ∙ ap (λ l. l ++ rest) e)

-- what holds before the first note, and stays by each note that may follow, holds of each legal journal
pub by_legal : (o : ClassOrigin) (P : List LaneNote → Type 0) → P []
    → ((h : List LaneNote) (n : LaneNote) → MayFollow o h n → P h → P (h ++ n ∷ []))
    → (h : List LaneNote) → IsClassLegal o h → P h
by_legal o P none step h legal =
    by_snoc (λ l. IsClassLegal o l → P l) (λ _. none)
    (λ l n before both. step l n (both l n [] refl) (before (legal_before o l (n ∷ []) both)))
    h legal

push_at : (o : ClassOrigin) (h : List LaneNote) (n : LaneNote) → IsClassLegal o h → MayFollow o h n
    → (before : List LaneNote) (m : LaneNote) (rest : List LaneNote) → Standing before m rest h n → MayFollow o before m
push_at o h n legal may before m rest (is_last e f) = subst (λ b. MayFollow o b m) (sym e) (subst (λ (k : LaneNote). MayFollow o h k) (sym f) may)
push_at o h n legal may before m rest (is_earlier more e) = legal before m more e

pub legal_push : (o : ClassOrigin) (h : List LaneNote) (n : LaneNote) → IsClassLegal o h → MayFollow o h n → IsClassLegal o (h ++ n ∷ [])
legal_push o h n legal may before m rest e = push_at o h n legal may before m rest (standing before m rest h n e)
