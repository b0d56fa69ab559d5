-- An alloc closes no group.
use Rattle.std.proofs.Common.{◌≡◌, ℕ, List, refl, Option, None, Some, Result, Ok, Err}
use Rattle.zms_units.specs.declared.segments.Group.{Group}
use Rattle.zms_units.specs.declared.segments.Seg.{Seg}
use Rattle.zms_units.specs.declared.blocks.Dva.{Dva}
use Rattle.zms_units.specs.declared.blocks.Block.{Block}
use Rattle.zms_units.specs.declared.places.Class.{Class}
use Rattle.zms_units.specs.declared.places.MsId.{MsId}
use Rattle.ms_model.specs.declared.notes.ClassNote.{ClassNote}
use Rattle.ms_model.specs.declared.notes.Kind.{Kind}
use Rattle.ms_cell.specs.declared.loader.LoadFault.{LoadFault}
use Rattle.copy_walk.specs.Plans.{Plan}
use Rattle.copy_walk.specs.Steps.{Step as WalkStep}
use Rattle.lane_passes.specs.Lanes.{LaneEvent, Ground}
use Rattle.pool_alloc.specs.Asks.{Ask}
use Rattle.pool_alloc.specs.Looks.{IsPosted, IsGranting, IsFailing, IsLoading, missed, shut}
use Rattle.pool_alloc.specs.Walks.{Walks, IsLookedAt, begins, picks, fails, loads}
use Rattle.pool_alloc.specs.Places.{IsOn, IsFull, IsOnEither, IsPlaced, IsNowhere, ArePlaced, no_vdev, each_failed, on_class, on_normal, not_on_normal, on_neither, none, more}
use Rattle.pool_alloc.specs.Undoing.{AreTaken, IsUndone, IsLeft, AreUndone, taken, gone, refused, undone, left, none as none_taken, none as none_undone}
use Rattle.pool_alloc.specs.Allocs.{Holding, IsRefused, IsRefusal, InnerLine, IsTried, AllocLine}
use Rattle.pool_alloc.specs.Loads.{of_result, load_of_alloc, CountsOne, CountsAlloc}
use Rattle.pool_alloc.specs.declared.answers.AllocFault.{AllocFault}
use Rattle.pool_alloc.specs.declared.answers.AllocFault.TheVariants.{BadSize, BadCopies, NoSpace, Late, Device, Damaged, Suspended, Memory}
use Rattle.lane_run.specs.Answers.{alloc_answer}
use Rattle.lane_run.specs.declared.replies.Answer.{Answer}
use Rattle.lane_run.proofs.Closings.{IsCalm, calm_join, calm_metaslab, calm_class, calm_gate, calm_then}

module _ (g : Ground) where
  calm_posted : (lane : ℕ) (id : MsId) (note : ℕ → ClassNote) (es : List LaneEvent) → IsPosted lane id note g es → IsCalm es
  calm_posted lane id note es x = calm_then g _ _ es (λ fs y. calm_metaslab g _ _ fs y) (λ fs y. calm_class g _ _ fs y) x.turns

  calm_granting : (a : Ask) (id : MsId) (seg : Seg) (es : List LaneEvent) → IsGranting a id seg g es → IsCalm es
  calm_granting a id seg es x = calm_then g _ _ es (λ fs y. calm_metaslab g _ _ fs y) (λ fs y. calm_posted _ _ _ fs y) x.turns

  calm_failing : (a : Ask) (id : MsId) (es : List LaneEvent) → IsFailing a id g es → IsCalm es
  calm_failing a id es (missed count units x) = calm_then g _ _ es (λ fs y. calm_metaslab g _ _ fs y) (λ fs y. calm_posted _ _ _ fs y) x
  calm_failing a id es (shut count x) = calm_metaslab g _ _ es x

  calm_loading : (a : Ask) (id : MsId) (es : List LaneEvent) → IsLoading a id g es → IsCalm es
  calm_loading a id es x = calm_then g _ _ es (λ fs y. calm_metaslab g _ _ fs y) (λ fs y. calm_posted _ _ _ fs y) x

  -- a walk, and what it comes to

  calm_walk : (a : Ask) (kind : Kind) (p : Plan) (steps : List WalkStep) (es : List LaneEvent) → Walks a kind p g steps es → IsCalm es
  calm_walk a kind p _ _ begins = refl
  calm_walk a kind p _ _ (picks steps es fs pick x next y) = calm_join es fs (calm_walk a kind p steps es x) (calm_class g _ _ fs y.turn)
  calm_walk a kind p _ _ (fails steps es fs id x next y) = calm_join es fs (calm_walk a kind p steps es x) (calm_failing a id fs y)
  calm_walk a kind p _ _ (loads steps es fs id x next y) = calm_join es fs (calm_walk a kind p steps es x) (calm_loading a id fs y)

  calm_looked : (a : Ask) (kind : Kind) (p : Plan) (id : MsId) (Last : Ground → List LaneEvent → Type 0) (es : List LaneEvent) → ((fs : List LaneEvent) → Last g fs → IsCalm fs)
      → IsLookedAt a kind p id Last g es → IsCalm es
  calm_looked a kind p id Last es last x = calm_then g _ _ es (λ fs y. calm_walk a kind p x.steps fs y) last x.turns

  calm_on : (earlier : List Dva) (class : Class) (Ends : Plan → Ground → List LaneEvent → Type 0) (es : List LaneEvent) → ((p : Plan) (fs : List LaneEvent) → Ends p g fs → IsCalm fs)
      → IsOn earlier class Ends g es → IsCalm es
  calm_on earlier class Ends es ends x = calm_then g _ _ es (λ fs y. calm_class g _ _ fs y) (λ fs y. ends _ fs y) x.turns

  calm_full : (a : Ask) (earlier : List Dva) (class : Class) (es : List LaneEvent) (looked : ℕ) → IsFull a earlier class g es looked → IsCalm es
  calm_full a earlier class es _ (no_vdev x) = calm_class g _ _ es x
  calm_full a earlier class es _ (each_failed looked x) = calm_on earlier class _ es (λ p fs y. calm_walk a _ p y.steps fs y.walks) x

  calm_either : (a : Ask) (earlier : List Dva) (class : Class) (Ends : Plan → Ground → List LaneEvent → Type 0) (es : List LaneEvent) → ((p : Plan) (fs : List LaneEvent) → Ends p g fs → IsCalm fs)
      → IsOnEither a earlier class Ends g es → IsCalm es
  calm_either a earlier class Ends es ends (on_class x) = calm_on earlier class Ends es ends x
  calm_either a earlier class Ends es ends (on_normal looked other x) = calm_then g _ _ es (λ fs y. calm_full a earlier class fs looked y) (λ fs y. calm_on earlier _ Ends fs ends y) x

  calm_placed : (a : Ask) (class : Class) (earlier : List Dva) (dva : Dva) (es : List LaneEvent) → IsPlaced a class earlier dva g es → IsCalm es
  calm_placed a class earlier dva es x =
      calm_either a earlier class _ es (λ p fs y. calm_looked a _ p x.id _ fs (λ hs z. calm_granting a x.id x.seg hs z) y) x.on

  calm_nowhere : (a : Ask) (class : Class) (earlier : List Dva) (es : List LaneEvent) (looked : ℕ) → IsNowhere a class earlier g es looked → IsCalm es
  calm_nowhere a class earlier es _ (not_on_normal looked is x) = calm_full a earlier _ es looked x
  calm_nowhere a class earlier es _ (on_neither first second other x) = calm_then g _ _ es (λ fs y. calm_full a earlier _ fs first y) (λ fs y. calm_full a earlier _ fs second y) x

  calm_all_placed : (a : Ask) (class : Class) (dvas : List Dva) (es : List LaneEvent) → ArePlaced a class g dvas es → IsCalm es
  calm_all_placed a class _ _ none = refl
  calm_all_placed a class _ _ (more dvas dva es fs x y) = calm_join es fs (calm_all_placed a class dvas es x) (calm_placed a class dvas dva fs y)

  -- a taking back

  calm_taken : (lane : ℕ) (of : Group) (id : MsId) (from at : ℕ) (es : List LaneEvent) → AreTaken lane of id from g at es → IsCalm es
  calm_taken lane of id from _ _ none_taken = refl
  calm_taken lane of id from _ _ (taken at seg es fs x start y) = calm_join es fs (calm_taken lane of id from at es x) (calm_metaslab g _ _ fs y)
  calm_taken lane of id from _ _ (gone at es fs x y) = calm_join es fs (calm_taken lane of id from at es x) (calm_metaslab g _ _ fs y)
  calm_taken lane of id from _ _ (refused at unit es fs x less y) = calm_join es fs (calm_taken lane of id from at es x) (calm_metaslab g _ _ fs y)

  calm_undone : (lane : ℕ) (of : Group) (id : MsId) (seg : Seg) (es : List LaneEvent) → IsUndone lane of id seg g es → IsCalm es
  calm_undone lane of id seg es x = calm_then g _ _ es (λ fs y. calm_taken lane of id _ _ fs y) (λ fs y. calm_posted _ _ _ fs y) x

  calm_left : (lane : ℕ) (of : Group) (id : MsId) (seg : Seg) (group collected : Group) (es : List LaneEvent) → IsLeft lane of id seg group collected g es → IsCalm es
  calm_left lane of id seg group collected es x =
      calm_then g _ _ es (λ fs y. calm_taken lane of id _ _ fs y) (λ fs y. calm_then g _ _ fs (λ hs z. calm_metaslab g _ _ hs z) (λ hs z. calm_posted _ _ _ hs z) y) x.turns

  calm_all_undone : (lane : ℕ) (of : Group) (dvas stay : List Dva) (late : Option AllocFault) (es : List LaneEvent) → AreUndone lane of g dvas stay late es → IsCalm es
  calm_all_undone lane of _ _ _ _ none_undone = refl
  calm_all_undone lane of _ _ _ _ (undone dvas stay late id seg es fs x y) = calm_join es fs (calm_all_undone lane of dvas stay late es x) (calm_undone lane of id seg fs y)
  calm_all_undone lane of _ _ _ _ (left dvas stay late id seg group collected es fs x y) =
      calm_join es fs (calm_all_undone lane of dvas stay late es x) (calm_left lane of id seg group collected fs y)

  -- the whole

  calm_refused : (a : Ask) (class : Class) (earlier : List Dva) (fault : AllocFault) (es : List LaneEvent) → IsRefused a class earlier fault g es → IsCalm es
  calm_refused a class earlier (NoSpace looked) es x = calm_nowhere a class earlier es looked x
  calm_refused a class earlier (Late group collected) es x = calm_either a earlier class _ es (λ p fs y. calm_looked a _ p x.0 _ fs (λ hs z. calm_metaslab g _ _ hs z) y) x.1
  calm_refused a class earlier (Device before after) es x = calm_either a earlier class _ es (λ p fs y. calm_looked a _ p x.0 _ fs (λ hs z. calm_metaslab g _ _ hs z) y) x.1
  calm_refused a class earlier (Damaged id damage) es x = calm_either a earlier class _ es (λ p fs y. calm_looked a _ p x.0 _ fs (λ hs z. calm_metaslab g _ _ hs z) y) x.1
  calm_refused a class earlier (Suspended first) es x = calm_either a earlier class _ es (λ p fs y. calm_looked a _ p x.0 _ fs (λ hs z. calm_metaslab g _ _ hs z) y) x.1
  calm_refused a class earlier BadSize es x = absurd x
  calm_refused a class earlier BadCopies es x = absurd x
  calm_refused a class earlier (Memory kept) es x = absurd x

  calm_refusal : (a : Ask) (copies : ℕ) (class : Class) (fault : AllocFault) (es : List LaneEvent) → IsRefusal a copies class fault g es → IsCalm es
  calm_refusal a copies class fault es x =
      calm_then g _ _ es (λ fs y. calm_all_placed a class x.dvas fs y)
      (λ fs y. calm_then g _ _ fs (λ hs z. calm_refused a class x.dvas x.refusal hs z) (λ hs z. calm_all_undone a.lane a.group x.dvas x.left x.late hs z) y) x.turns

pub calm_holding : (g : Ground) (group : Group) (Inner : Ground → List LaneEvent → Type 0) (es : List LaneEvent) → ((fs : List LaneEvent) → Inner g fs → IsCalm fs) → Holding group Inner g es → IsCalm es
calm_holding g group Inner es inner x =
    calm_then g _ _ es (λ fs y. calm_gate g _ fs (λ h note z. z.0) y) (λ fs y. calm_then g _ _ fs inner (λ hs z. calm_gate g _ hs (λ h note is. is) z) y) x

nothing_told : (answer : Answer) → None ≡ Some answer → ⊥
nothing_told answer e = cc

module _ (lane size copies : ℕ) (class : Class) (g : Ground) (es : List LaneEvent) where
  refusal_of : (fault : AllocFault) → ((a : Ask) (fs : List LaneEvent) → InnerLine a class copies (Err fault) g fs → IsRefusal a copies class fault g fs) → IsTried lane size copies class (Err fault) g es → IsCalm es
  refusal_of fault is x = calm_holding g x.group _ es (λ fs y. calm_refusal g _ copies class fault fs (is _ fs y)) x.turns

  pub calm_alloc : (result : Result Block AllocFault) (answer : Answer) → alloc_answer result ≡ Some answer → AllocLine lane size class copies result g es → IsCalm es
  calm_alloc (Ok block) answer told x = calm_holding g x.group _ es (λ fs y. calm_all_placed g _ class block.copies fs y.1.1) x.turns
  calm_alloc (Err BadSize) answer told x = rw x.1 refl
  calm_alloc (Err BadCopies) answer told x = rw x.1.1 refl
  calm_alloc (Err (NoSpace looked)) answer told x = refusal_of (NoSpace looked) (λ a fs y. y) x
  calm_alloc (Err (Late group collected)) answer told x = refusal_of (Late group collected) (λ a fs y. y) x
  calm_alloc (Err (Device before after)) answer told x = refusal_of (Device before after) (λ a fs y. y) x
  calm_alloc (Err (Damaged id damage)) answer told x = refusal_of (Damaged id damage) (λ a fs y. y) x
  calm_alloc (Err (Suspended first)) answer told x = refusal_of (Suspended first) (λ a fs y. y) x
  calm_alloc (Err (Memory kept)) answer told x = absurd (nothing_told answer told)

-- what is counted is what is told
pub counts_told : (result : Result Block AllocFault) (answer : Answer) (count : ℕ) (last : Option LoadFault) (count_now : ℕ) (last_now : Option LoadFault) → alloc_answer result ≡ Some answer
    → CountsAlloc result count last count_now last_now → CountsOne (of_result load_of_alloc result) count last count_now last_now
counts_told (Ok block) answer count last count_now last_now told x = x
counts_told (Err BadSize) answer count last count_now last_now told x = x
counts_told (Err BadCopies) answer count last count_now last_now told x = x
counts_told (Err (NoSpace looked)) answer count last count_now last_now told x = x
counts_told (Err (Late group collected)) answer count last count_now last_now told x = x
counts_told (Err (Device before after)) answer count last count_now last_now told x = x
counts_told (Err (Damaged id damage)) answer count last count_now last_now told x = x
counts_told (Err (Suspended first)) answer count last count_now last_now told x = x
counts_told (Err (Memory kept)) answer count last count_now last_now told x = absurd (nothing_told answer told)
