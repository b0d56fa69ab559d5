-- What a note leaves of the last act on a unit, and of what a group holds.
use Rattle.std.proofs.Common.{◌≡◌, ℕ, ◌+◌, ◌≤◌, ◌<◌, Bool, true, false, cond, None, List, [], ◌∷◌, ◌++◌, refl, sym, ◌∙◌, ap, arith}
use Rattle.std.specs.Prelude.{nat_le, ◌≢◌}
use Rattle.std.specs.List.{All}
use Rattle.std.proofs.lemmas.Bool.{le-leb, lt-leb}
use Rattle.std.proofs.lemmas.List.Elements.{All-head}
use Rattle.zms_units.proofs.Bools.{same_cond}
use Rattle.ms_model.specs.Origin.{Origin}
use Rattle.ms_model.specs.Units.{LastAct, granted, untouched, act_on, first_act, last_act, act_within, is_grant, held, settled_by, settled_group, loaded_by, is_loaded}
use Rattle.ms_model.specs.Spaces.{is_live}
use Rattle.ms_model.specs.Legal.{ChangesAbove, MayDo, IsLegal}
use Rattle.ms_model.specs.declared.notes.Act.{Act}
use Rattle.ms_model.specs.declared.notes.Act.TheVariants.{Grant, Free, Unalloc, Collect, Settle, Load, Unload}
use Rattle.ms_model.specs.declared.notes.Noted.{Noted}
use Rattle.ms_model.proofs.Histories.{held_act, last_act-push, held_act-push, is_loaded-push, settled_group-push, by_legal}
use Rattle.ms_model.proofs.Lists.{by_snoc, all_left, all_right}

-- the act is a grant, free or take-back of a group of at most t
abbrev pub ChangesUpTo : ℕ → Act → Type 0
ChangesUpTo t (Grant group _) = group.0 ≤ t
ChangesUpTo t (Free group _) = group.0 ≤ t
ChangesUpTo t (Unalloc group _) = group.0 ≤ t
ChangesUpTo t _ = ⊥

held_at_above : (g t : ℕ) (now so_far : LastAct) → (g ≤ t → ⊥) → cond (nat_le g t) now so_far ≡ so_far
held_at_above g t now so_far none = ap (λ b. cond b now so_far) (lt-leb g t (omega arith))

held_quiet : (t u lane : ℕ) (act : Act) (so_far : LastAct) → (ChangesUpTo t act → ⊥) → cond (act_within t act) (act_on u so_far lane act) so_far ≡ so_far
held_quiet t u lane (Grant group seg) so_far none = held_at_above group.0 t _ so_far none
held_quiet t u lane (Free group seg) so_far none = held_at_above group.0 t _ so_far none
held_quiet t u lane (Unalloc group seg) so_far none = held_at_above group.0 t _ so_far none
held_quiet t u lane (Collect group) so_far none = same_cond (nat_le group.0 t) so_far
held_quiet t u lane (Settle group) so_far none = same_cond (nat_le group.0 t) so_far
held_quiet t u lane _ so_far none = refl

-- a note that changes no unit up to group t leaves what t holds
pub held_act-quiet : (o : Origin) (h : List Noted) (note : Noted) (t u : ℕ) → (ChangesUpTo t note.act → ⊥) → held_act o (h ++ note ∷ []) t u ≡ held_act o h t u
held_act-quiet o h note t u none = held_act-push o h note t u ∙ held_quiet t u note.lane note.act (held_act o h t u) none

pub held-quiet : (o : Origin) (h : List Noted) (note : Noted) (t u : ℕ) → (ChangesUpTo t note.act → ⊥) → held o (h ++ note ∷ []) t u ≡ held o h t u
held-quiet o h note t u none = ap is_grant (held_act-quiet o h note t u none)

-- a grant, free or take-back of a group of at most t moves what t holds as it moves the last act
pub held_act-change : (o : Origin) (h : List Noted) (note : Noted) (t u : ℕ) → ChangesUpTo t note.act
    → held_act o (h ++ note ∷ []) t u ≡ act_on u (held_act o h t u) note.lane note.act
held_act-change o h note t u within = held_act-push o h note t u ∙ changed t u note.lane note.act (held_act o h t u) within where
  changed : (t u lane : ℕ) (act : Act) (so_far : LastAct) → ChangesUpTo t act → cond (act_within t act) (act_on u so_far lane act) so_far ≡ act_on u so_far lane act
  changed t u lane (Grant group seg) so_far le = ap (λ b. cond b (act_on u so_far lane (Grant group seg)) so_far) (le-leb group.0 t le)
  changed t u lane (Free group seg) so_far le = ap (λ b. cond b (act_on u so_far lane (Free group seg)) so_far) (le-leb group.0 t le)
  changed t u lane (Unalloc group seg) so_far le = ap (λ b. cond b (act_on u so_far lane (Unalloc group seg)) so_far) (le-leb group.0 t le)
  changed t u lane _ so_far le = absurd le

-- where no note is of a group above t, group t holds what is live

kept_or_quiet : (t u lane : ℕ) (act : Act) (so_far : LastAct) → (ChangesAbove t act → ⊥) → cond (act_within t act) (act_on u so_far lane act) so_far ≡ act_on u so_far lane act
kept_or_quiet t u lane (Grant group seg) so_far none = ap (λ b. cond b (act_on u so_far lane (Grant group seg)) so_far) (le-leb group.0 t (omega arith))
kept_or_quiet t u lane (Free group seg) so_far none = ap (λ b. cond b (act_on u so_far lane (Free group seg)) so_far) (le-leb group.0 t (omega arith))
kept_or_quiet t u lane (Unalloc group seg) so_far none = ap (λ b. cond b (act_on u so_far lane (Unalloc group seg)) so_far) (le-leb group.0 t (omega arith))
kept_or_quiet t u lane (Collect group) so_far none = same_cond (nat_le group.0 t) so_far
kept_or_quiet t u lane (Settle group) so_far none = same_cond (nat_le group.0 t) so_far
kept_or_quiet t u lane _ so_far none = refl

changes_within : (g t : ℕ) → g ≤ t → t < g → ⊥
changes_within g t le lt = omega arith

-- a note that may follow changes no unit above three groups past the settled one
pub change_is_near : (o : Origin) (h : List Noted) (t lane : ℕ) (act : Act) → settled_group o h + 3 ≤ t → MayDo o h lane act → ChangesAbove t act → ⊥
change_is_near o h t lane (Grant group seg) le may lt = omega (arith, may.open_group.near)
change_is_near o h t lane (Free group seg) le may lt = omega (arith, may.open_group.near)
change_is_near o h t lane (Unalloc group seg) le may lt = omega (arith, may.open_group.near)
change_is_near o h t lane _ le may lt = lt

held_act-kept : (o : Origin) (h : List Noted) (note : Noted) (t u : ℕ) → (ChangesAbove t note.act → ⊥) → held_act o h t u ≡ last_act o h u
    → held_act o (h ++ note ∷ []) t u ≡ last_act o (h ++ note ∷ []) u
held_act-kept o h note t u none same =
    held_act-push o h note t u
    ∙ kept_or_quiet t u note.lane note.act (held_act o h t u) none
    ∙ ap (λ so_far. act_on u so_far note.lane note.act) same
    ∙ sym (last_act-push o h note u)

-- where no note changes a unit above group t, the last act over the notes up to t is the last act
pub held_act-all : (o : Origin) (h : List Noted) (t u : ℕ) → All (λ note. ChangesAbove t note.act → ⊥) h → held_act o h t u ≡ last_act o h u
held_act-all o h t u all =
    by_snoc (λ l. All (λ note. ChangesAbove t note.act → ⊥) l → held_act o l t u ≡ last_act o l u)
    (λ _. refl)
    (λ l note same both.
    held_act-kept o l note t u
    (All-head (λ n. ChangesAbove t n.act → ⊥) note [] (all_right (λ n. ChangesAbove t n.act → ⊥) l (note ∷ []) both))
    (same (all_left (λ n. ChangesAbove t n.act → ⊥) l (note ∷ []) both)))
    h all

pub settled_by_grows : (o : Origin) (h : List Noted) (lane : ℕ) (act : Act) → MayDo o h lane act → settled_group o h ≤ settled_by (settled_group o h) act
settled_by_grows o h lane (Settle group) may = omega (arith, may.0)
settled_by_grows o h lane _ may = omega arith

-- in a legal history a group three past the settled one holds what is live
pub held_act-near : (o : Origin) (h : List Noted) (t u : ℕ) → IsLegal o h → settled_group o h + 3 ≤ t → held_act o h t u ≡ last_act o h u
held_act-near o h t u legal le =
    by_legal o (λ l. settled_group o l + 3 ≤ t → held_act o l t u ≡ last_act o l u)
    (λ _. refl)
    (λ l note _ may same far.
    let near : settled_group o l + 3 ≤ t = omega (arith, settled_group-push o l note, settled_by_grows o l note.lane note.act may) in
    held_act-kept o l note t u (change_is_near o l t note.lane note.act near may) (same near))
    h legal le

pub held-near : (o : Origin) (h : List Noted) (t u : ℕ) → IsLegal o h → settled_group o h + 3 ≤ t → held o h t u ≡ is_live o h u
held-near o h t u legal le = ap is_grant (held_act-near o h t u legal le)

-- a metaslab that was never loaded is as its base says

is_grant-first : (o : Origin) (u : ℕ) (b : Bool) → is_grant (cond b (granted None o.opened) untouched) ≡ b
is_grant-first o u true = refl
is_grant-first o u false = refl

-- while nothing was loaded nothing was unloaded, and no unit was touched
pub record IsAsOpened (o : Origin) (h : List Noted) (u : ℕ) : Type 0 where
  pub last : last_act o h u ≡ first_act o u
  pub held_acts : (t : ℕ) → held_act o h t u ≡ first_act o u

as_opened_push : (o : Origin) (h : List Noted) (note : Noted) (u : ℕ) → ((t : ℕ) → ChangesUpTo t note.act → ⊥)
    → act_on u (last_act o h u) note.lane note.act ≡ last_act o h u → IsAsOpened o h u → IsAsOpened o (h ++ note ∷ []) u
as_opened_push o h note u none same as_is =
    record {
      last = last_act-push o h note u ∙ same ∙ as_is.last;
      held_acts = λ t. held_act-quiet o h note t u (none t) ∙ as_is.held_acts t;
    }

as_opened_do : (o : Origin) (h : List Noted) (u lane : ℕ) (act : Act) → MayDo o h lane act → (act ≡ Unload → ⊥)
    → loaded_by (is_loaded h) act ≡ false → (is_loaded h ≡ false → IsAsOpened o h u) → IsAsOpened o (h ++ (record { lane = lane; act = act }) ∷ []) u
as_opened_do o h u lane (Grant group seg) may kept idle as_is = let busy : is_loaded h ≡ true = may.takes.loaded in cc
as_opened_do o h u lane (Free group seg) may kept idle as_is = let busy : is_loaded h ≡ true = may.loaded in cc
as_opened_do o h u lane (Unalloc group seg) may kept idle as_is = let busy : is_loaded h ≡ true = may.loaded in cc
as_opened_do o h u lane Load may kept idle as_is = cc
as_opened_do o h u lane Unload may kept idle as_is = absurd (kept refl)
as_opened_do o h u lane _ may kept idle as_is = as_opened_push o h _ u (λ t x. x) refl (as_is idle)

pub as_opened : (o : Origin) (h : List Noted) (u : ℕ) → IsLegal o h → is_loaded h ≡ false → All (λ note. note.act ≢ Unload) h → IsAsOpened o h u
as_opened o h u legal idle kept =
    by_legal o (λ l. is_loaded l ≡ false → All (λ note. note.act ≢ Unload) l → IsAsOpened o l u)
    (λ _ _. record { last = refl; held_acts = λ t. refl })
    (λ l note _ may as_is out both.
    as_opened_do o l u note.lane note.act may
    (All-head (λ n. n.act ≢ Unload) note [] (all_right (λ n. n.act ≢ Unload) l (note ∷ []) both))
    (sym (is_loaded-push l note) ∙ out)
    (λ e. as_is e (all_left (λ n. n.act ≢ Unload) l (note ∷ []) both)))
    h legal idle kept

-- so each group holds what the base holds
pub held-as_opened : (o : Origin) (h : List Noted) (t u : ℕ) → IsLegal o h → is_loaded h ≡ false → All (λ note. note.act ≢ Unload) h → held o h t u ≡ o.base u
held-as_opened o h t u legal idle kept =
    ap is_grant ((as_opened o h u legal idle kept).held_acts t) ∙ is_grant-first o u (o.base u)
