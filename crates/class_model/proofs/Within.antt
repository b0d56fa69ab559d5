-- In a legal journal what is active for a pair, or picked, is a metaslab of the vdev.
use Rattle.std.proofs.Common.{◌≡◌, ℕ, ◌<◌, Bool, true, false, eqb, Option, Some, None, List, refl, sym, ◌∙◌, subst}
use Rattle.std.specs.Prelude.{◌&&◌, if◌then◌else◌}
use Rattle.std.proofs.lemmas.Bool.{eqb-true}
use Rattle.ms_model.specs.declared.notes.ClassNote.{ClassNote}
use Rattle.ms_model.specs.declared.notes.ClassNote.TheVariants.{Pick, Granted, Missed, Weigh}
use Rattle.ms_model.specs.declared.notes.Got.{Got}
use Rattle.ms_model.specs.declared.notes.Start.{Start}
use Rattle.ms_model.specs.declared.notes.Start.TheVariants.{Active, Top, After}
use Rattle.class_model.specs.Replay.{LaneNote, Pair, is_pair, taken, metaslabs_of, active_after, active_at}
use Rattle.class_model.specs.Picks.{IsActiveOr, IsAnswer}
use Rattle.class_model.specs.Legal.{MayNote}
use Rattle.class_model.specs.Laws.{ActiveAreMetaslabs, PicksAreMetaslabs}
use Rattle.class_model.specs.declared.origin.ClassOrigin.{ClassOrigin}
use Rattle.class_model.proofs.Journals.{active_at-push, by_legal}
use Rattle.class_model.proofs.Pairs.{both_of, dropped_less}

abbrev Within : ClassOrigin → List LaneNote → Type 0
Within o h = (v i : ℕ) (p : Pair) → active_at h v p ≡ Some i → i < metaslabs_of o v

active_given : (o : ClassOrigin) (h : List LaneNote) (v bytes : ℕ) (m : Option ℕ) (g : Got) → ((i : ℕ) → m ≡ Some i → i < metaslabs_of o v) → IsActiveOr o h v bytes m (Some g)
    → g.index < metaslabs_of o v
active_given o h v bytes None g old answer = answer.is.0.within
active_given o h v bytes (Some i) g old answer = let same : i ≡ g.index = cc in subst (λ (k : ℕ). k < metaslabs_of o v) same (old i refl)

given : (o : ClassOrigin) (h : List LaneNote) (v : ℕ) (p : Pair) (bytes : ℕ) (start : Start) (g : Got) → Within o h → IsAnswer o h v p bytes start (Some g) → g.index < metaslabs_of o v
given o h v p bytes Active g old answer = active_given o h v bytes (active_at h v p) g (λ i e. old v i p e) answer
given o h v p bytes Top g old answer = answer.is.0.within
given o h v p bytes (After weight index) g old answer = answer.is.0.within

pick_within : (s : Bool) (x : Option ℕ) (got : Option Got) (i most : ℕ) → (if s then taken x got else x) ≡ Some i → (x ≡ Some i → i < most)
    → ((g : Got) → s ≡ true → got ≡ Some g → g.index < most) → i < most
pick_within false x got i most e old new = old e
pick_within true x None i most e old new = old e
pick_within true x (Some g) i most e old new = let same : g.index ≡ i = cc in subst (λ (k : ℕ). k < most) same (new g refl refl)

step : (o : ClassOrigin) (h : List LaneNote) (lane : ℕ) (n : ClassNote) → MayNote o h lane n → Within o h → (v i : ℕ) (p : Pair) → active_after v p (active_at h v p) n ≡ Some i
    → i < metaslabs_of o v
step o h lane (Pick a k w bytes start got) may old v i p e =
    pick_within (eqb w v && is_pair p a k) (active_at h v p) got i (metaslabs_of o v) e (old v i p)
    (λ g s is.
    subst (λ (u : ℕ). g.index < metaslabs_of o u) (eqb-true w v (both_of (eqb w v) (is_pair p a k) s).0)
    (given o h w (record { allocator = a; kind = k }) bytes start g old (subst (IsAnswer o h w (record { allocator = a; kind = k }) bytes start) is may.1.1)))
step o h lane (Granted id bytes weight) may old v i p e = old v i p e
step o h lane (Missed id weight) may old v i p e = old v i p (dropped_less (eqb id.vdev v) id.index _ i e)
step o h lane (Weigh id weight) may old v i p e = old v i p e

pub active_within : ActiveAreMetaslabs
active_within o h legal =
    by_legal o (Within o) (λ v i p e. absurd (cc))
    (λ l n may old v i p e. step o l n.0 n.1 may.1 old v i p (sym (active_at-push l n v p) ∙ e))
    h legal

pub picks_within : PicksAreMetaslabs
picks_within o h legal v p bytes start g answer = given o h v p bytes start g (active_within o h legal) answer
