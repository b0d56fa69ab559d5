-- How copies are taken back, from the turns of it.
use Rattle.std.proofs.Common.{◌≡◌, ℕ, zero, suc, ◌+◌, ◌-◌, ◌<◌, ◌≤◌, false, length, List, [], ◌∷◌, ◌++◌, take, drop, get_or, refl, sym, ap, subst, ◌∙◌, Option, Some, None, Result, Ok, Err, arith}
use Rattle.std.specs.Prelude.{IsErr}
use Rattle.std.specs.Option.{option_or}
use Rattle.std.proofs.lemmas.List.{append_assoc, take_more, take-append-drop, take_all}
use Rattle.std.proofs.lemmas.List.Elements.{All-append, All-push}
use Rattle.std.proofs.lemmas.Option.{slice_get-get_or}
use Rattle.zms_units.specs.declared.segments.Seg.{Seg}
use Rattle.zms_units.specs.declared.segments.Group.{Group}
use Rattle.zms_units.specs.declared.blocks.Dva.{Dva}
use Rattle.zms_units.specs.declared.places.MsId.{MsId}
use Rattle.zms_units.specs.declared.places.Class.{Class}
use Rattle.zms_units.specs.declared.places.VdevRow.{VdevRow}
use Rattle.zms_units.specs.Segments.{end_of, Covers}
use Rattle.vdev_map.specs.Numbers.{number_of, row_at}
use Rattle.ms_model.specs.Legal.{IsWithin}
use Rattle.ms_model.specs.Origin.{Origin}
use Rattle.ms_model.specs.declared.notes.Noted.{Noted}
use Rattle.class_model.specs.Replay.{LaneNote}
use Rattle.class_core.specs.Classes.{ClassState}
use Rattle.class_group.specs.Turns.{ClassTurns}
use Rattle.ms_core.specs.declared.faults.MsFault.TheVariants.{NotLive, Late as MsLate}
use Rattle.ms_cell.specs.Turns.{Turns}
use Rattle.ms_cell.specs.Answers.{UnallocAnswer}
use Rattle.ms_cell.specs.declared.answers.CellFault.{CellFault}
use Rattle.ms_cell.specs.declared.answers.CellFault.TheVariants.{Ms}
use Rattle.lane_passes.specs.Lanes.{LaneEvent, Ground, ground_of, IsSeated, Acted}
use Rattle.lane_passes.specs.Turns.{AtMetaslab, AtClass, Nothing}
use Rattle.lane_passes.specs.declared.passes.LanePasses.{LanePasses}
use Rattle.lane_passes.proofs.Acting.{acted_none, acted_as, acted_join}
use Rattle.pool_alloc.specs.Asks.{dva_of, offset_of, bytes_on, IsSegAt}
use Rattle.pool_alloc.specs.Looks.{IsLateAt, IsPosted, IsWeighed}
use Rattle.pool_alloc.specs.Posts.{note_of, IsPost, IsNotPosted}
use Rattle.pool_alloc.specs.declared.turns.Post.TheVariants.{Weigh}
use Rattle.pool_alloc.specs.Allocs.{grants, notes_grant, GrantNothing, answer_after}
use Rattle.pool_alloc.specs.Cuts.{IsLaid, AllLaid}
use Rattle.pool_alloc.specs.Frees.{Misplaced}
use Rattle.pool_alloc.specs.Undoing.{AreTaken, IsTakenAt, IsGoneAt, AreUndone, or_first}
use Rattle.pool_alloc.specs.Undoing.AreTaken.{none as none_taken, taken, gone, refused}
use Rattle.pool_alloc.specs.Undoing.AreUndone.{none as none_undone, undone, left as left_there}
use Rattle.pool_alloc.specs.Undone.{TakenLine, CopyUndone, CopiesUndone, HadMemory, late_of, left_with}
use Rattle.pool_alloc.specs.declared.undoing.Late.{Late}
use Rattle.pool_alloc.specs.declared.answers.AllocFault.{AllocFault}
use Rattle.pool_alloc.specs.declared.answers.AllocFault.TheVariants.{BadSize, BadCopies, NoSpace, Late as LateFault, Device, Damaged, Suspended, Memory}
use Rattle.pool_alloc.specs.declared.answers.FreeFault.{FreeFault}
use Rattle.pool_alloc.specs.declared.answers.FreeFault.TheVariants.{NoSuch, BadSeg, NotLive as FreeNotLive, Late as FreeLate, Device as FreeDevice, Damaged as FreeDamaged, Suspended as FreeSuspended, Memory as FreeMemory}

-- how a part ends: whole, since its group was collected, or for want of memory
abbrev pub whole : (E : Type 0) → Result (Option Late) E
whole E = Ok None

abbrev pub stays : (E : Type 0) → Late → Result (Option Late) E
stays E late = Ok (Some late)

abbrev pub wants : (E : Type 0) → E → Result (Option Late) E
wants E e = Err e

-- events that grant nothing
none_granted : (g : Ground) → GrantNothing g []
none_granted g = λ k d lt. absurd (omega (arith, lt))

one_quiet : (g : Ground) (e : LaneEvent) → grants e ≡ false → GrantNothing g (e ∷ [])
one_quiet g e quiet = All-push (λ (x : LaneEvent). grants x ≡ false) [] e (none_granted g) quiet

both_quiet : (g : Ground) (es fs : List LaneEvent) → GrantNothing g es → GrantNothing g fs → GrantNothing g (es ++ fs)
both_quiet g es fs a b = All-append (λ (x : LaneEvent). grants x ≡ false) es fs a b

metaslab_quiet : (number : ℕ) (Answer : Origin → List Noted → Option Noted → Type 0) (g : Ground) (es : List LaneEvent) (b : AtMetaslab number Answer g es) → notes_grant b.note ≡ false → GrantNothing g es
metaslab_quiet number Answer g es b quiet = subst (λ (l : List LaneEvent). GrantNothing g l) (sym b.is) (one_quiet g _ quiet)

class_quiet : (place : ℕ) (Answer : ClassState → Option LaneNote → Type 0) (g : Ground) (es : List LaneEvent) → AtClass place Answer g es → GrantNothing g es
class_quiet place Answer g es b = subst (λ (l : List LaneEvent). GrantNothing g l) (sym b.is) (one_quiet g _ refl)

taken_quiet : (lane : ℕ) (group : Group) (id : MsId) (seg : Seg) (g : Ground) (es : List LaneEvent) → IsTakenAt lane group id seg g es → GrantNothing g es
taken_quiet lane group id seg g es b = metaslab_quiet _ _ g es b (ap notes_grant b.answer.0)

gone_quiet : (lane : ℕ) (group : Group) (id : MsId) (unit : ℕ) (g : Ground) (es : List LaneEvent) → IsGoneAt lane group id unit g es → GrantNothing g es
gone_quiet lane group id unit g es b = metaslab_quiet _ _ g es b (ap notes_grant b.answer.0)

late_quiet : (asked : Group) (id : MsId) (group collected : Group) (g : Ground) (es : List LaneEvent) → IsLateAt asked id group collected g es → GrantNothing g es
late_quiet asked id group collected g es b = metaslab_quiet _ _ g es b (ap notes_grant b.answer.0)

refusal_quiet : (lane : ℕ) (group : Group) (id : MsId) (seg : Seg) (fault : CellFault) (g : Ground) (es : List LaneEvent)
    → AtMetaslab (number_of g.vdevs id) (UnallocAnswer lane group seg (Err fault)) g es → GrantNothing g es
refusal_quiet lane group id seg fault g es b = metaslab_quiet _ _ g es b (ap notes_grant b.answer.0)

not_posted_quiet : (id : MsId) (g : Ground) (es : List LaneEvent) → IsNotPosted id g es → GrantNothing g es
not_posted_quiet id g es x =
    let t = x.turns in
    subst (λ (l : List LaneEvent). GrantNothing g l) (sym t.whole) (both_quiet g t.one t.two (metaslab_quiet _ _ g t.one t.first (ap notes_grant t.first.answer.quiet)) (class_quiet _ _ g t.two t.second))

are_taken_quiet : (lane : ℕ) (group : Group) (id : MsId) (from : ℕ) (g : Ground) (at : ℕ) (es : List LaneEvent) → AreTaken lane group id from g at es → GrantNothing g es
are_taken_quiet lane group id from g _ _ none_taken = none_granted g
are_taken_quiet lane group id from g _ _ (taken at seg es fs before is turn) = both_quiet g es fs (are_taken_quiet lane group id from g at es before) (taken_quiet lane group id seg g fs turn)
are_taken_quiet lane group id from g _ _ (gone at es fs before turn) = both_quiet g es fs (are_taken_quiet lane group id from g at es before) (gone_quiet lane group id at g fs turn)
are_taken_quiet lane group id from g _ _ (refused at unit es fs before further turn) = both_quiet g es fs (are_taken_quiet lane group id from g at es before) (gone_quiet lane group id unit g fs turn)

-- a run of a segment that is not at its end
module _ (units : ℕ) (seg : Seg) (start stop end : ℕ) (within : IsWithin units seg) (is : end ≡ seg.start + seg.count) (ends : start ≤ seg.start + seg.count) (stops : stop ≤ seg.start + seg.count)
    (some : start < seg.start + seg.count → start < stop) (not_end : start ≡ end → ⊥) where
  pub before_end : start < seg.start + seg.count
  before_end = omega (arith, is, ends, not_end)

  pub run_some : start < stop
  run_some = some before_end

  pub run_within : IsWithin units (record { start = start; count = stop - start })
  run_within = record { some = omega (arith, run_some); within = omega (arith, run_some, stops, within.within) }

-- a turn, by what it answered
pub turn_as : {R : Type 0} (t : Turns) (group : Group) (id : MsId) (run : Seg) (result other : Result (Unit {0}) CellFault) (q r : LanePasses R) → result ≡ other
    → Acted t (λ g. AtMetaslab (number_of g.vdevs id) (UnallocAnswer q.lane group run result) g) q r → Acted t (λ g. AtMetaslab (number_of g.vdevs id) (UnallocAnswer q.lane group run other) g) q r
turn_as t group id run result other q r is a = subst (λ (x : Result (Unit {0}) CellFault). Acted t (λ g. AtMetaslab (number_of g.vdevs id) (UnallocAnswer q.lane group run x) g) q r) is a

-- a segment, run by run
module _ {R : Type 0} (t : Turns) (p : LanePasses R) (group : Group) (id : MsId) (seg : Seg) where
  gone_at : (lane : ℕ) (run : Seg) (unit : ℕ) (g : Ground) (es : List LaneEvent) → AtMetaslab (number_of g.vdevs id) (UnallocAnswer lane group run (Err (Ms (NotLive unit)))) g es → IsGoneAt lane group id unit g es
  gone_at lane run unit g es b = record { before = b.before; note = b.note; is = b.is; answer = (b.answer.0, b.answer.1.lowest.lacks) }

  -- the turn is the same lane's
  own_turn : (run : Seg) (result : Result (Unit {0}) CellFault) (q r : LanePasses R) → q.lane ≡ p.lane → Acted t (λ g. AtMetaslab (number_of g.vdevs id) (UnallocAnswer q.lane group run result) g) q r
      → Acted t (λ g. AtMetaslab (number_of g.vdevs id) (UnallocAnswer p.lane group run result) g) q r
  own_turn run result q r same a = subst (λ (n : ℕ). Acted t (λ g. AtMetaslab (number_of g.vdevs id) (UnallocAnswer n group run result) g) q r) same a

  pub begins_taking : (c : ClassTurns) → IsSeated t c p → Acted t (λ g es. AreTaken p.lane group id seg.start g seg.start es) p p
  begins_taking c s =
      acted_as t Nothing (λ g es. AreTaken p.lane group id seg.start g seg.start es) p p
      (λ es x. subst (λ (l : List LaneEvent). AreTaken p.lane group id seg.start (ground_of t p) seg.start l) (sym x) none_taken) (acted_none t c p s)

  pub takes_run : (at to : ℕ) (run : Seg) (q r : LanePasses R) → run.start ≡ at → to ≡ at + run.count → Acted t (λ g es. AreTaken p.lane group id seg.start g at es) p q
      → Acted t (λ g. AtMetaslab (number_of g.vdevs id) (UnallocAnswer q.lane group run (Ok (record {}))) g) q r → Acted t (λ g es. AreTaken p.lane group id seg.start g to es) p r
  takes_run at to run q r is to_is before turn =
      subst (λ (n : ℕ). Acted t (λ g es. AreTaken p.lane group id seg.start g n es) p r) (sym to_is)
      (acted_join t _ _ (λ g es. AreTaken p.lane group id seg.start g (at + run.count) es) p q r
      (λ es fs a b. taken at run es fs a is (record { before = b.before; note = b.note; is = b.is; answer = b.answer })) before (own_turn run (Ok (record {})) q r before.journey.lane turn))

  pub passes_unit : (at unit : ℕ) (run : Seg) (q r : LanePasses R) → unit ≡ at → Acted t (λ g es. AreTaken p.lane group id seg.start g at es) p q
      → Acted t (λ g. AtMetaslab (number_of g.vdevs id) (UnallocAnswer q.lane group run (Err (Ms (NotLive unit)))) g) q r → Acted t (λ g es. AreTaken p.lane group id seg.start g (at + 1) es) p r
  passes_unit at unit run q r is before turn =
      acted_join t _ _ (λ g es. AreTaken p.lane group id seg.start g (at + 1) es) p q r
      (λ es fs a b. gone at es fs a (subst (λ (u : ℕ). IsGoneAt p.lane group id u (ground_of t p) fs) is (gone_at p.lane run unit (ground_of t p) fs b)))
      before
      (own_turn run (Err (Ms (NotLive unit))) q r before.journey.lane turn)

  pub shortens_run : (at unit : ℕ) (run : Seg) (q r : LanePasses R) → at < unit → Acted t (λ g es. AreTaken p.lane group id seg.start g at es) p q
      → Acted t (λ g. AtMetaslab (number_of g.vdevs id) (UnallocAnswer q.lane group run (Err (Ms (NotLive unit)))) g) q r → Acted t (λ g es. AreTaken p.lane group id seg.start g at es) p r
  shortens_run at unit run q r further before turn =
      acted_join t _ _ (λ g es. AreTaken p.lane group id seg.start g at es) p q r
      (λ es fs a b. refused at unit es fs a further (gone_at p.lane run unit (ground_of t p) fs b)) before (own_turn run (Err (Ms (NotLive unit))) q r before.journey.lane turn)

  -- the unit that was refused is one of the run
  pub unit_within : (unit : ℕ) (run : Seg) (q r : LanePasses R) → Acted t (λ g. AtMetaslab (number_of g.vdevs id) (UnallocAnswer q.lane group run (Err (Ms (NotLive unit)))) g) q r → Covers run unit
  unit_within unit run q r a = a.fact.answer.1.lowest.inside

  pub taken_whole : (E : Type 0) (at : ℕ) (q : LanePasses R) → at ≡ end_of seg → Acted t (λ g es. AreTaken p.lane group id seg.start g at es) p q → Acted t (TakenLine p.lane group id seg (whole E)) p q
  taken_whole E at q is a = acted_as t _ (TakenLine p.lane group id seg (whole E)) p q (λ es x. subst (λ (n : ℕ). AreTaken p.lane group id seg.start (ground_of t p) n es) is x) a

  pub taken_late : (E : Type 0) (at : ℕ) (run : Seg) (late : Late) (q r : LanePasses R) → Covers seg at → Acted t (λ g es. AreTaken p.lane group id seg.start g at es) p q
      → Acted t (λ g. AtMetaslab (number_of g.vdevs id) (UnallocAnswer q.lane group run (Err (Ms (MsLate late.group late.collected)))) g) q r → Acted t (TakenLine p.lane group id seg (stays E late)) p r
  taken_late E at run late q r within before turn =
      acted_join t _ _ (TakenLine p.lane group id seg (stays E late)) p q r
      (λ es fs a b. (at, (within, record { one = es; two = fs; whole = refl; first = a; second = record { before = b.before; note = b.note; is = b.is; answer = b.answer } })))
      before
      turn

  pub taken_not : (E : Type 0) (e : E) (at : ℕ) (run : Seg) (fault : CellFault) (q r : LanePasses R) → Acted t (λ g es. AreTaken p.lane group id seg.start g at es) p q
      → Acted t (λ g. AtMetaslab (number_of g.vdevs id) (UnallocAnswer q.lane group run (Err fault)) g) q r → Acted t (TakenLine p.lane group id seg (wants E e)) p r
  taken_not E e at run fault q r before turn =
      acted_join t _ _ (TakenLine p.lane group id seg (wants E e)) p q r
      (λ es fs a b. both_quiet (ground_of t p) es fs (are_taken_quiet p.lane group id seg.start (ground_of t p) at es a) (refusal_quiet q.lane group id run fault (ground_of t p) fs b)) before turn

-- a segment that was taken back, and the post of its weight
line_quiet : (E : Type 0) (lane : ℕ) (group : Group) (id : MsId) (seg : Seg) (result : Result (Option Late) E) (g : Ground) (es : List LaneEvent) → TakenLine lane group id seg result g es → GrantNothing g es
line_quiet E lane group id seg (Ok None) g es x = are_taken_quiet lane group id seg.start g (end_of seg) es x
line_quiet E lane group id seg (Ok (Some late)) g es x =
    let turns = x.1.1 in
    subst (λ (l : List LaneEvent). GrantNothing g l) (sym turns.whole)
    (both_quiet g turns.one turns.two (are_taken_quiet lane group id seg.start g x.0 turns.one turns.first) (late_quiet group id late.group late.collected g turns.two turns.second))
line_quiet E lane group id seg (Err _) g es x = x

weighed : (lane : ℕ) (id : MsId) (g : Ground) (es : List LaneEvent) → IsPosted lane id (note_of id Weigh) g es → IsWeighed lane id g es
weighed lane id g es x =
    let t = x.turns in
    record {
      counts = x.counts;
      weight = x.weight;
      loaded = x.loaded;
      turns = record { one = t.one; two = t.two; whole = t.whole; first = t.first; second = record { before = t.second.before; note = t.second.note; is = t.second.is; answer = t.second.answer } };
    }

undone_so : (E F : Type 0) (lane : ℕ) (group : Group) (id : MsId) (seg : Seg) (late : Option Late) (g : Ground) (es fs : List LaneEvent) → TakenLine {E = E} lane group id seg (Ok late) g es → IsWeighed lane id g fs
    → CopyUndone {E = F} lane group id seg (Ok late) g (es ++ fs)
undone_so E F lane group id seg None g es fs x w = record { one = es; two = fs; whole = refl; first = x; second = w }
undone_so E F lane group id seg (Some late) g es fs x w =
    let turns = x.1.1 in
    record {
      at = x.0;
      within = x.1.0;
      turns = record {
        one = turns.one;
        two = turns.two ++ fs;
        whole = ap (λ (l : List LaneEvent). l ++ fs) turns.whole ∙ append_assoc turns.one turns.two fs;
        first = turns.first;
        second = record { one = turns.two; two = fs; whole = refl; first = turns.second; second = w };
      };
    }

copy_refused : (F : Type 0) (lane : ℕ) (group : Group) (id : MsId) (seg : Seg) (result : Result (Option Late) F) (g : Ground) (es : List LaneEvent) → IsErr result → GrantNothing g es → CopyUndone lane group id seg result g es
copy_refused F lane group id seg (Err _) g es is x = x
copy_refused F lane group id seg (Ok _) g es is x = cc

module _ {R : Type 0} (t : Turns) (group : Group) (id : MsId) (seg : Seg) where
  pub copy_not_posted : (E G F : Type 0) (late : Option Late) (e : G) (result : Result (Option Late) F) (p q r : LanePasses R) → IsErr result → Acted t (TakenLine {E = E} p.lane group id seg (Ok late)) p q
      → Acted t (IsPost {E = G} q.lane id Weigh (Err e)) q r → Acted t (CopyUndone p.lane group id seg result) p r
  copy_not_posted E G F late e result p q r is a b =
      acted_join t (TakenLine {E = E} p.lane group id seg (Ok late)) (IsPost {E = G} q.lane id Weigh (Err e)) (CopyUndone p.lane group id seg result) p q r
      (λ es fs x y. copy_refused F p.lane group id seg result (ground_of t p) (es ++ fs) is
      (both_quiet (ground_of t p) es fs (line_quiet E p.lane group id seg (Ok late) (ground_of t p) es x) (not_posted_quiet id (ground_of t p) fs y))) a b

  pub copy_undone : (E G F : Type 0) (late : Option Late) (done : Unit {0}) (p q r : LanePasses R) → Acted t (TakenLine {E = E} p.lane group id seg (Ok late)) p q → Acted t (IsPost {E = G} q.lane id Weigh (Ok done)) q r
      → Acted t (CopyUndone {E = F} p.lane group id seg (Ok late)) p r
  copy_undone E G F late done p q r a b =
      acted_join t (TakenLine {E = E} p.lane group id seg (Ok late)) (IsPost {E = G} q.lane id Weigh (Ok done)) (CopyUndone {E = F} p.lane group id seg (Ok late)) p q r
      (λ es fs x y. undone_so E F p.lane group id seg late (ground_of t p) es fs x (subst (λ (n : ℕ). IsWeighed n id (ground_of t p) fs) a.journey.lane (weighed q.lane id (ground_of t p) fs y))) a b

-- a copy that is laid has its segment, and is the copy of it
abbrev made : Class → ℕ → ℕ → ℕ → Dva
made class vdev offset size = record { class = class; vdev = vdev; offset = offset; size = size }

dva_laid : (vdevs : List VdevRow) (dva : Dva) (id : MsId) (seg : Seg) → dva.class ≡ (row_at vdevs dva.vdev).class → IsSegAt vdevs dva.vdev dva.offset dva.size id seg → dva ≡ dva_of vdevs id seg
dva_laid vdevs dva id seg class at =
    ap (λ (c : Class). made c dva.vdev dva.offset dva.size) class
    ∙ (ap (λ (o : ℕ). made (row_at vdevs dva.vdev).class dva.vdev o dva.size) at.offset_is
    ∙ (ap (λ (s : ℕ). made (row_at vdevs dva.vdev).class dva.vdev (offset_of vdevs id seg.start) s) at.size_is
    ∙ ap (λ (v : ℕ). made (row_at vdevs v).class v (offset_of vdevs id seg.start) (bytes_on vdevs v seg.count)) (sym at.on)))

pub laid_within : (vdevs : List VdevRow) (dva : Dva) (id : MsId) (seg : Seg) → IsSegAt vdevs dva.vdev dva.offset dva.size id seg → IsWithin (row_at vdevs id.vdev).units seg
laid_within vdevs dva id seg at = subst (λ (v : ℕ). IsWithin (row_at vdevs v).units seg) (sym at.on) at.within

not_misplaced : (vdevs : List VdevRow) (dva : Dva) (fault : FreeFault) → IsLaid vdevs dva → Misplaced vdevs (record { vdev = dva.vdev; offset = dva.offset; size = dva.size }) fault → ⊥
not_misplaced vdevs dva NoSuch laid wrong = omega (arith, wrong, laid.at.on, laid.at.is.vdev)
not_misplaced vdevs dva BadSeg laid wrong = wrong.1 laid.id laid.seg laid.at
not_misplaced vdevs dva (FreeNotLive _ _ _) laid wrong = wrong
not_misplaced vdevs dva (FreeLate _ _) laid wrong = wrong
not_misplaced vdevs dva (FreeDevice _ _) laid wrong = wrong
not_misplaced vdevs dva (FreeDamaged _ _) laid wrong = wrong
not_misplaced vdevs dva (FreeSuspended _) laid wrong = wrong
not_misplaced vdevs dva (FreeMemory _) laid wrong = wrong

-- an element of the copies, by the slice that lends them
module _ (vdevs : List VdevRow) (items copies : List Dva) (k : ℕ) (d : Dva) (is : items ≡ copies) (all : AllLaid vdevs copies) (lt : k < length items) where
  pub laid_at : IsLaid vdevs (get_or items k d)
  laid_at = subst (λ (l : List Dva). k < length l → IsLaid vdevs (get_or l k d)) (sym is) (λ w. all k (get_or copies k d) (slice_get-get_or copies k d w)) lt

  pub not_none : (fault : FreeFault) → Misplaced vdevs (record { vdev = (get_or items k d).vdev; offset = (get_or items k d).offset; size = (get_or items k d).size }) fault → ⊥
  not_none fault wrong = not_misplaced vdevs (get_or items k d) fault laid_at wrong

pub late_or : (first : Option Late) (late : Late) → late_of (option_or first (Some late)) ≡ or_first (late_of first) (LateFault late.group late.collected)
late_or None late = refl
late_or (Some _) late = refl

-- lists of copies: those from one on, and one more
drop_short : (k : ℕ) (items : List Dva) → length (drop k items) ≤ length items - k
drop_short zero items = omega arith
drop_short (suc k) [] = omega arith
drop_short (suc k) (x ∷ items) = let short = drop_short k items in omega (arith, short)

pub rest_is : (items copies : List Dva) (k : ℕ) → items ≡ copies → take (length items - k) (drop k items) ≡ drop k copies
rest_is items copies k is = take_all (length items - k) (drop k items) (drop_short k items) ∙ ap (λ (l : List Dva). drop k l) is

length_more : (l : List Dva) (x : Dva) → length (l ++ x ∷ []) ≡ length l + 1
length_more [] x = refl
length_more (y ∷ l) x = let so = length_more l x in omega (arith, so)

pub few_more : (late : Option Late) (dva : Dva) (left more : List Dva) (k : ℕ) → more ≡ left_with late dva left → length left ≤ k → length more ≤ k + 1
few_more None dva left more k is few = let same : length more ≡ length left = ap (λ (l : List Dva). length l) is in omega (arith, same, few)
few_more (Some _) dva left more k is few = let same : length more ≡ length left + 1 = ap (λ (l : List Dva). length l) is ∙ length_more left dva in omega (arith, same, few)

or_none : (first : Option Late) → option_or first None ≡ first
or_none None = refl
or_none (Some _) = refl

still_had : (refusal : AllocFault) (first : Option Late) → HadMemory refusal → HadMemory (answer_after refusal (late_of first))
still_had (NoSpace _) None had = had
still_had (NoSpace _) (Some _) had = had
still_had BadSize first had = had
still_had BadCopies first had = had
still_had (LateFault _ _) first had = had
still_had (Device _ _) first had = had
still_had (Damaged _ _) first had = had
still_had (Suspended _) first had = had
still_had (Memory _) first had = absurd had

all_undone : (lane : ℕ) (group : Group) (dvas left : List Dva) (refusal fault : AllocFault) (first : Option Late) (g : Ground) (es : List LaneEvent) → HadMemory refusal → fault ≡ answer_after refusal (late_of first)
    → AreUndone lane group g dvas left (late_of first) es → CopiesUndone lane group dvas refusal fault g es
all_undone lane group dvas left refusal (Memory kept) first g es had is x = absurd (subst HadMemory (sym is) (still_had refusal first had))
all_undone lane group dvas left refusal BadSize first g es had is x = record { left = left; late = late_of first; answer = is; undone = x }
all_undone lane group dvas left refusal BadCopies first g es had is x = record { left = left; late = late_of first; answer = is; undone = x }
all_undone lane group dvas left refusal (NoSpace _) first g es had is x = record { left = left; late = late_of first; answer = is; undone = x }
all_undone lane group dvas left refusal (LateFault _ _) first g es had is x = record { left = left; late = late_of first; answer = is; undone = x }
all_undone lane group dvas left refusal (Device _ _) first g es had is x = record { left = left; late = late_of first; answer = is; undone = x }
all_undone lane group dvas left refusal (Damaged _ _) first g es had is x = record { left = left; late = late_of first; answer = is; undone = x }
all_undone lane group dvas left refusal (Suspended _) first g es had is x = record { left = left; late = late_of first; answer = is; undone = x }

-- the copies of a block, one after the other
module _ {R : Type 0} (t : Turns) (p : LanePasses R) (group : Group) (copies : List Dva) where
  pub begins_copies : (c : ClassTurns) (left : List Dva) (first : Option Late) → IsSeated t c p → left ≡ [] → first ≡ None → Acted t (λ g es. AreUndone p.lane group g (take 0 copies) left (late_of first) es) p p
  begins_copies c left first s is none =
      acted_as t Nothing (λ g es. AreUndone p.lane group g (take 0 copies) left (late_of first) es) p p
      (λ es x. subst (λ (l : List LaneEvent). AreUndone p.lane group (ground_of t p) [] left (late_of first) l) (sym x)
      (subst (λ (l : List Dva). AreUndone p.lane group (ground_of t p) [] l (late_of first) []) (sym is)
      (subst (λ (f : Option Late). AreUndone p.lane group (ground_of t p) [] [] (late_of f) []) (sym none) none_undone))) (acted_none t c p s)

  module _ (k : ℕ) (d dva : Dva) (lt : k < length copies) (is : dva ≡ get_or copies k d) where
    one_more : take k copies ++ dva ∷ [] ≡ take (k + 1) copies
    one_more = ap (λ (x : Dva). take k copies ++ x ∷ []) is ∙ sym (take_more copies k d lt)

    module _ (id : MsId) (seg : Seg) (laid : IsLaid t.vdevs dva) (at : IsSegAt t.vdevs dva.vdev dva.offset dva.size id seg) (left : List Dva) (first : Option Late) (q r : LanePasses R)
        (before : Acted t (λ g es. AreUndone p.lane group g (take k copies) left (late_of first) es) p q) where
      own_line : (E : Type 0) (result : Result (Option Late) E) → Acted t (CopyUndone q.lane group id seg result) q r → Acted t (CopyUndone p.lane group id seg result) q r
      own_line E result a = subst (λ (n : ℕ). Acted t (CopyUndone n group id seg result) q r) before.journey.lane a

      is_copy : dva ≡ dva_of t.vdevs id seg
      is_copy = dva_laid t.vdevs dva id seg laid.class_is at

      pub undoes_one : (E : Type 0) → Acted t (CopyUndone q.lane group id seg (whole E)) q r → Acted t (λ g es. AreUndone p.lane group g (take (k + 1) copies) left (late_of first) es) p r
      undoes_one E a =
          subst (λ (l : List Dva). Acted t (λ g es. AreUndone p.lane group g l left (late_of first) es) p r) (ap (λ (x : Dva). take k copies ++ x ∷ []) (sym is_copy) ∙ one_more)
          (acted_join t _ (CopyUndone p.lane group id seg (whole E)) (λ g es. AreUndone p.lane group g (take k copies ++ dva_of t.vdevs id seg ∷ []) left (late_of first) es) p q r
          (λ es fs x y. undone (take k copies) left (late_of first) id seg es fs x y) before (own_line E (whole E) a))

      pub leaves_one : (E : Type 0) (late : Late) (more : List Dva) (then : Option Late) → more ≡ left ++ dva ∷ [] → then ≡ option_or first (Some late) → Acted t (CopyUndone q.lane group id seg (stays E late)) q r
          → Acted t (λ g es. AreUndone p.lane group g (take (k + 1) copies) more (late_of then) es) p r
      leaves_one E late more then more_is then_is a =
          subst (λ (l : List Dva). Acted t (λ g es. AreUndone p.lane group g (take (k + 1) copies) l (late_of then) es) p r) (ap (λ (x : Dva). left ++ x ∷ []) (sym is_copy) ∙ sym more_is)
          (subst (λ (f : Option AllocFault). Acted t (λ g es. AreUndone p.lane group g (take (k + 1) copies) (left ++ dva_of t.vdevs id seg ∷ []) f es) p r) (sym (ap late_of then_is ∙ late_or first late))
          (subst (λ (l : List Dva). Acted t (λ g es. AreUndone p.lane group g l (left ++ dva_of t.vdevs id seg ∷ []) (or_first (late_of first) (LateFault late.group late.collected)) es) p r)
          (ap (λ (x : Dva). take k copies ++ x ∷ []) (sym is_copy) ∙ one_more)
          (acted_join t _ (CopyUndone p.lane group id seg (stays E late))
          (λ g es. AreUndone p.lane group g (take k copies ++ dva_of t.vdevs id seg ∷ []) (left ++ dva_of t.vdevs id seg ∷ []) (or_first (late_of first) (LateFault late.group late.collected)) es) p q r
          (λ es fs x y. left_there (take k copies) left (late_of first) id seg late.group late.collected es fs x y) before (own_line E (stays E late) a))))

  -- an element of the slice, which was taken back or left
  pub keeps_one : (E : Type 0) (k : ℕ) (d : Dva) (items : List Dva) (lent : items ≡ copies) (all : AllLaid t.vdevs copies) (lt : k < length items) (id : MsId) (seg : Seg)
      → IsSegAt t.vdevs (get_or items k d).vdev (get_or items k d).offset (get_or items k d).size id seg → (left more : List Dva) (first then late : Option Late) (q r : LanePasses R)
      → more ≡ left_with late (get_or items k d) left → then ≡ option_or first late → Acted t (λ g es. AreUndone p.lane group g (take k copies) left (late_of first) es) p q
      → Acted t (CopyUndone {E = E} q.lane group id seg (Ok late)) q r → Acted t (λ g es. AreUndone p.lane group g (take (k + 1) copies) more (late_of then) es) p r
  keeps_one E k d items lent all lt id seg at left more first then None q r more_is then_is before a =
      let dva = get_or items k d in
      let within : k < length copies = subst (λ (l : List Dva). k < length l) lent lt in
      let is : dva ≡ get_or copies k d = ap (λ (l : List Dva). get_or l k d) lent in
      subst (λ (l : List Dva). Acted t (λ g es. AreUndone p.lane group g (take (k + 1) copies) l (late_of then) es) p r) (sym more_is)
      (subst (λ (f : Option Late). Acted t (λ g es. AreUndone p.lane group g (take (k + 1) copies) left (late_of f) es) p r) (sym (then_is ∙ or_none first))
      (undoes_one k d dva within is id seg (laid_at t.vdevs items copies k d lent all lt) at left first q r before E a))
  keeps_one E k d items lent all lt id seg at left more first then (Some late) q r more_is then_is before a =
      let dva = get_or items k d in
      let within : k < length copies = subst (λ (l : List Dva). k < length l) lent lt in
      let is : dva ≡ get_or copies k d = ap (λ (l : List Dva). get_or l k d) lent in
      leaves_one k d dva within is id seg (laid_at t.vdevs items copies k d lent all lt) at left first q r before E late more then more_is then_is a

  pub copies_ran_out : (E : Type 0) (e : E) (k : ℕ) (left : List Dva) (first : Option Late) (id : MsId) (seg : Seg) (refusal fault : AllocFault) (q r : LanePasses R) → fault ≡ Memory (left ++ drop k copies)
      → Acted t (λ g es. AreUndone p.lane group g (take k copies) left (late_of first) es) p q → Acted t (CopyUndone q.lane group id seg (wants E e)) q r → Acted t (CopiesUndone p.lane group copies refusal fault) p r
  copies_ran_out E e k left first id seg refusal fault q r is before a =
      subst (λ (f : AllocFault). Acted t (CopiesUndone p.lane group copies refusal f) p r) (sym is)
      (acted_join t _ (CopyUndone q.lane group id seg (wants E e)) (CopiesUndone p.lane group copies refusal (Memory (left ++ drop k copies))) p q r
      (λ es fs x y. record {
        done = take k copies;
        rest = drop k copies;
        left = left;
        late = late_of first;
        dvas_are = sym (take-append-drop k copies);
        kept_is = refl;
        turns = record { one = es; two = fs; whole = refl; first = x; second = y };
      }) before a)

  pub copies_undone : (k : ℕ) (left : List Dva) (first : Option Late) (refusal fault : AllocFault) (q : LanePasses R) → length copies ≤ k → HadMemory refusal → fault ≡ answer_after refusal (late_of first)
      → Acted t (λ g es. AreUndone p.lane group g (take k copies) left (late_of first) es) p q → Acted t (CopiesUndone p.lane group copies refusal fault) p q
  copies_undone k left first refusal fault q all had is a =
      acted_as t _ (CopiesUndone p.lane group copies refusal fault) p q
      (λ es x. all_undone p.lane group copies left refusal fault first (ground_of t p) es had is
      (subst (λ (l : List Dva). AreUndone p.lane group (ground_of t p) l left (late_of first) es) (take_all k copies all) x)) a
