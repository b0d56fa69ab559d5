-- What was freed waits.
use Rattle.std.proofs.Common.{◌≡◌, ℕ, ◌+◌, ◌≤◌, ◌<◌, Bool, true, false, List, [], ◌∷◌, ◌++◌, refl, ap, ◌∙◌, Some, arith, lt-ltb}
use Rattle.std.specs.Prelude.{not, nat_lt, ◌&&◌, if◌then◌else◌}
use Rattle.std.specs.List.{fold, All}
use Rattle.std.proofs.lemmas.Bool.{ltb-true, false_from_ne_true}
use Rattle.std.proofs.lemmas.List.Sums.{fold-append}
use Rattle.std.proofs.lemmas.List.Elements.{All-head, All-tail}
use Rattle.zms_units.specs.declared.segments.Seg.{Seg}
use Rattle.zms_units.specs.declared.segments.Group.{Group}
use Rattle.zms_units.specs.Segments.{Covers}
use Rattle.zms_units.proofs.Covers.{covers_yes}
use Rattle.ms_model.specs.Origin.{Origin}
use Rattle.ms_model.specs.Units.{LastAct, granted, taken_back, freed, act_on, is_grant, last_act}
use Rattle.ms_model.specs.Spaces.{keeps_busy}
use Rattle.ms_model.specs.Laws.{Spares, FreesWait}
use Rattle.ms_model.specs.declared.notes.Act.{Act}
use Rattle.ms_model.specs.declared.notes.Act.TheVariants.{Grant, Free, Unalloc}
use Rattle.ms_model.specs.declared.notes.Noted.{Noted}

spared : (u : ℕ) (so_far : LastAct) (lane : ℕ) (act : Act) → Spares u act → act_on u so_far lane act ≡ so_far
spared u so_far lane (Grant group seg) e = ap (λ (b : Bool). if b then granted (Some lane) group.0 else so_far) e
spared u so_far lane (Free group seg) e = ap (λ (b : Bool). if b then freed group.0 else so_far) e
spared u so_far lane (Unalloc group seg) e = ap (λ (b : Bool). if b then taken_back else so_far) e
spared u so_far lane _ e = refl

-- notes that don't change a unit's last act leave it
fold_spared : (u : ℕ) (so_far : LastAct) (rest : List Noted) → All (λ (note : Noted). Spares u note.act) rest → fold (λ a (note : Noted). act_on u a note.lane note.act) so_far rest ≡ so_far
fold_spared u so_far [] all = refl
fold_spared u so_far (note ∷ rest) all =
    ap (λ a. fold (λ a (note : Noted). act_on u a note.lane note.act) a rest) (spared u so_far note.lane note.act (All-head (λ (note : Noted). Spares u note.act) note rest all))
    ∙ fold_spared u so_far rest (All-tail (λ (note : Noted). Spares u note.act) note rest all)

pub still_freed : (o : Origin) (before : List Noted) (lane : ℕ) (group : Group) (seg : Seg) (rest : List Noted) (u : ℕ) → Covers seg u → All (λ (note : Noted). Spares u note.act) rest
    → last_act o (before ++ (record { lane = lane; act = Free group seg } ∷ rest)) u ≡ freed group.0
still_freed o before lane group seg rest u c all =
    fold-append _ _ before (record { lane = lane; act = Free group seg } ∷ rest)
    ∙ (ap (λ a. fold (λ a (note : Noted). act_on u a note.lane note.act) a rest) (ap (λ (b : Bool). if b then freed group.0 else last_act o before u) (covers_yes seg u c.0 c.1))
    ∙ fold_spared u (freed group.0) rest all)

waits : (s group : ℕ) (act : LastAct) → act ≡ freed group → s < group + 2 → (keeps_busy s act && not (is_grant act)) ≡ true
waits s group act e l = ap (λ a. keeps_busy s a && not (is_grant a)) e ∙ ap (λ (b : Bool). b && true) (lt-ltb s (group + 2) l)

ltb_not : (a b : ℕ) → b ≤ a → nat_lt a b ≡ false
ltb_not a b le = false_from_ne_true (nat_lt a b) (λ e. let lt = ltb-true a b e in omega arith)

is_over : (s group : ℕ) (act : LastAct) → act ≡ freed group → group + 2 ≤ s → not (keeps_busy s act) ≡ true
is_over s group act e l = ap (λ a. not (keeps_busy s a)) e ∙ ap (λ (b : Bool). not b) (ltb_not s (group + 2) l)

pub frees_wait_so : FreesWait
frees_wait_so o before lane group seg rest u c all =
    let still = still_freed o before lane group seg rest u c all in
    ((λ l. waits _ group.0 _ still l), (λ l. is_over _ group.0 _ still l))
