-- Journals that grow by one note, and the induction over legal ones.
use Rattle.std.proofs.Common.{◌≡◌, ℕ, Bool, true, false, cond, List, [], ◌∷◌, ◌++◌, refl, sym, ◌∙◌, ap, subst, append_assoc}
use Rattle.std.specs.Prelude.{◌||◌, ◌≢◌}
use Rattle.std.specs.List.{filter}
use Rattle.std.proofs.lemmas.List.{append-nil}
use Rattle.std.proofs.lemmas.List.Elements.{filter-append}
use Rattle.std.proofs.lemmas.List.Folds.{list_any-append}
use Rattle.std.proofs.lemmas.List.Sums.{fold_push}
use Rattle.ms_model.specs.Origin.{Origin}
use Rattle.ms_model.specs.Units.{noted, LastAct, act_on, last_act, act_within, settled_by, settled_group, collected_by, collected_group, loaded_by, is_loaded, disabled_by, worker_at}
use Rattle.ms_model.specs.Cursors.{cursor_by, cursor_at}
use Rattle.ms_model.specs.Gains.{gained_by, is_gained, gives, is_given}
use Rattle.ms_model.specs.Legal.{MayDo, IsLegal}
use Rattle.ms_model.specs.declared.notes.Act.{Act}
use Rattle.ms_model.specs.declared.notes.Act.TheVariants.{Collect, Settle, Unload}
use Rattle.ms_model.specs.declared.notes.Noted.{Noted}
use Rattle.ms_model.proofs.Lists.{by_snoc, Standing, is_last, is_earlier, standing}

-- one more note

pub last_act-push : (o : Origin) (h : List Noted) (note : Noted) (u : ℕ) → last_act o (h ++ note ∷ []) u ≡ act_on u (last_act o h u) note.lane note.act
last_act-push o h note u = fold_push _ _ h note

pub settled_group-push : (o : Origin) (h : List Noted) (note : Noted) → settled_group o (h ++ note ∷ []) ≡ settled_by (settled_group o h) note.act
settled_group-push o h note = fold_push _ _ h note

pub collected_group-push : (o : Origin) (h : List Noted) (note : Noted) → collected_group o (h ++ note ∷ []) ≡ collected_by (collected_group o h) note.act
collected_group-push o h note = fold_push _ _ h note

pub is_loaded-push : (h : List Noted) (note : Noted) → is_loaded (h ++ note ∷ []) ≡ loaded_by (is_loaded h) note.act
is_loaded-push h note = fold_push _ _ h note

pub worker_at-push : (h : List Noted) (note : Noted) → worker_at (h ++ note ∷ []) ≡ disabled_by (worker_at h) note.act
worker_at-push h note = fold_push _ _ h note

pub is_gained-push : (t : ℕ) (h : List Noted) (note : Noted) (u : ℕ) → is_gained t (h ++ note ∷ []) u ≡ gained_by t u (is_gained t h u) note.act
is_gained-push t h note u = fold_push _ _ h note

pub cursor_at-push : (h : List Noted) (note : Noted) (number : ℕ) → cursor_at (h ++ note ∷ []) number ≡ cursor_by number (cursor_at h number) note.act
cursor_at-push h note number = fold_push _ _ h note

-- acts that neither settle nor collect, nor give free space up
abbrev pub LeavesGroups : Act → Type 0
LeavesGroups (Collect _) = ⊥
LeavesGroups (Settle _) = ⊥
LeavesGroups Unload = ⊥
LeavesGroups _ = Unit {0}

settled_stays : (s : ℕ) (act : Act) → LeavesGroups act → settled_by s act ≡ s
settled_stays s (Settle _) leaves = absurd leaves
settled_stays s _ leaves = refl

collected_stays : (s : ℕ) (act : Act) → LeavesGroups act → collected_by s act ≡ s
collected_stays s (Collect _) leaves = absurd leaves
collected_stays s _ leaves = refl

pub no_unload : (act : Act) → LeavesGroups act → act ≢ Unload
no_unload act leaves e = subst LeavesGroups e leaves

pub settled_note : (o : Origin) (h : List Noted) (lane : ℕ) (act : Act) → LeavesGroups act → settled_group o (noted h lane act) ≡ settled_group o h
settled_note o h lane act leaves = settled_group-push o h (record { lane = lane; act = act }) ∙ settled_stays (settled_group o h) act leaves

pub collected_note : (o : Origin) (h : List Noted) (lane : ℕ) (act : Act) → LeavesGroups act → collected_group o (noted h lane act) ≡ collected_group o h
collected_note o h lane act leaves = collected_group-push o h (record { lane = lane; act = act }) ∙ collected_stays (collected_group o h) act leaves

or-false : (a b : Bool) → (a || (b || false)) ≡ (a || b)
or-false true b = refl
or-false false true = refl
or-false false false = refl

pub is_given-push : (t : ℕ) (h : List Noted) (note : Noted) (u : ℕ) → is_given t (h ++ note ∷ []) u ≡ (is_given t h u || gives t u note.act)
is_given-push t h note u = list_any-append _ h (note ∷ []) ∙ or-false _ _

-- the last act on a unit over the notes of groups up to t: `held` says whether it is a grant
abbrev pub held_act : Origin → List Noted → ℕ → ℕ → LastAct
held_act o h t u = last_act o (filter (λ note. act_within t note.act) h) u

held_push_at : (o : Origin) (kept : List Noted) (note : Noted) (u : ℕ) (b : Bool) → last_act o (kept ++ cond b (note ∷ []) []) u ≡ cond b (act_on u (last_act o kept u) note.lane note.act) (last_act o kept u)
held_push_at o kept note u true = last_act-push o kept note u
held_push_at o kept note u false = ap (λ l. last_act o l u) (append-nil kept)

pub held_act-push : (o : Origin) (h : List Noted) (note : Noted) (t u : ℕ)
    → held_act o (h ++ note ∷ []) t u ≡ cond (act_within t note.act) (act_on u (held_act o h t u) note.lane note.act) (held_act o h t u)
held_act-push o h note t u =
    ap (λ l. last_act o l u) (filter-append _ h (note ∷ [])) ∙ held_push_at o (filter (λ x. act_within t x.act) h) note u (act_within t note.act)

-- legal histories

pub legal_before : (o : Origin) (h rest : List Noted) → IsLegal o (h ++ rest) → IsLegal o h
legal_before o h rest legal before note more e =
    legal before note (more ++ rest) (sym (append_assoc before (note ∷ more) rest) ∙ ap (λ l. l ++ rest) e)

pub legal_last : (o : Origin) (h : List Noted) (note : Noted) (rest : List Noted) → IsLegal o (h ++ (note ∷ rest)) → MayDo o h note.lane note.act
legal_last o h note rest legal = legal h note rest refl

push_at : (o : Origin) (h : List Noted) (note : Noted) → IsLegal o h → MayDo o h note.lane note.act
    → (before : List Noted) (n : Noted) (rest : List Noted) → Standing before n rest h note → MayDo o before n.lane n.act
push_at o h note legal may before n rest (is_last e f) =
    subst (λ b. MayDo o b n.lane n.act) (sym e) (subst (λ (m : Noted). MayDo o h m.lane m.act) (sym f) may)
push_at o h note legal may before n rest (is_earlier more e) = legal before n more e

pub legal_push : (o : Origin) (h : List Noted) (note : Noted) → IsLegal o h → MayDo o h note.lane note.act → IsLegal o (h ++ note ∷ [])
legal_push o h note legal may before n rest e = push_at o h note legal may before n rest (standing before n rest h note e)

pub legal_none : (o : Origin) → IsLegal o []
legal_none o [] note rest e = cc
legal_none o (b ∷ before) note rest e = cc

-- what holds before the first note, and stays by each note that may follow, holds of each legal history
pub by_legal : (o : Origin) (P : List Noted → Type 0) → P []
    → ((h : List Noted) (note : Noted) → IsLegal o h → MayDo o h note.lane note.act → P h → P (h ++ note ∷ []))
    → (h : List Noted) → IsLegal o h → P h
by_legal o P none step h legal =
    by_snoc (λ l. IsLegal o l → P l) (λ _. none)
    (λ l note before both. let first : IsLegal o l = legal_before o l (note ∷ []) both in step l note first (legal_last o l note [] both) (before first))
    h legal
