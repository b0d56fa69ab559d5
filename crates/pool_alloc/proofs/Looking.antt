-- One look at a metaslab, as a fact of what the lane did.
use Rattle.std.proofs.Common.{◌≡◌, ℕ, ◌<◌, ◌≤◌, false, List, [], ◌++◌, length, refl, sym, ap, ◌∙◌, subst, arith, Option, None, Result, Ok, Err}
use Rattle.std.proofs.lemmas.List.Elements.{All-nil, All-cons, All-append}
use Rattle.std.proofs.lemmas.List.{append-nil, length-append}
use Rattle.zms_units.specs.declared.segments.Seg.{Seg}
use Rattle.zms_units.specs.declared.blocks.Dva.{Dva}
use Rattle.zms_units.specs.declared.places.MsId.{MsId}
use Rattle.zms_units.specs.declared.places.VdevRow.{VdevRow}
use Rattle.vdev_map.specs.Numbers.{IsIn, number_of, row_at}
use Rattle.vdev_map.proofs.InOrder.{one_number}
use Rattle.ms_model.specs.Legal.{IsWithin}
use Rattle.ms_model.specs.Origin.{Origin}
use Rattle.ms_model.specs.declared.notes.Noted.{Noted}
use Rattle.class_model.specs.Replay.{LaneNote}
use Rattle.class_core.specs.Classes.{ClassState}
use Rattle.ms_cell.specs.Turns.{Turns}
use Rattle.ms_cell.specs.Passes.{Passes, Seated, origin_in, fixed_of}
use Rattle.ms_cell.specs.Turns.{origin_from}
use Rattle.ms_cell.specs.Answers.{GrantAnswer}
use Rattle.ms_cell.specs.declared.answers.Look.{Look}
use Rattle.ms_cell.specs.declared.answers.Look.TheVariants.{Miss, NotLoaded}
use Rattle.ms_cell.specs.declared.answers.CellFault.{CellFault}
use Rattle.ms_cell.proofs.Lifting.{some_at}
use Rattle.class_group.specs.Turns.{ClassTurns}
use Rattle.lane_passes.specs.Lanes.{LaneEvent, Ground, ground_of, IsSeated, Acted}
use Rattle.lane_passes.specs.Turns.{AtMetaslab, AtClass, Nothing}
use Rattle.lane_passes.specs.declared.passes.LanePasses.{LanePasses}
use Rattle.lane_passes.proofs.Acting.{origin_same, acted_as, acted_join}
use Rattle.pool_alloc.specs.Asks.{Ask, AreUnitsOn, bytes_on, dva_of}
use Rattle.pool_alloc.specs.Looks.{IsPosted, IsGrantAt, IsGranting, IsFailing, missed, IsUnloadedAt, IsWeighed}
use Rattle.pool_alloc.specs.Posts.{note_of, IsPost, IsNotPosted}
use Rattle.pool_alloc.specs.Allocs.{GrantNothing, IsUnposted, grants, notes_grant}
use Rattle.pool_alloc.specs.Cuts.{IsLaid, LoadLine, LookLine, IsCutLook}
use Rattle.pool_alloc.specs.declared.looks.Looked.TheVariants.{Loaded}
use Rattle.pool_alloc.specs.declared.looks.Cut.{Cut}
use Rattle.pool_alloc.specs.declared.looks.Cut.TheVariants.{Late, Device, Damaged, Suspended, Memory, Unposted}
use Rattle.pool_alloc.specs.declared.turns.Post.{Post}
use Rattle.pool_alloc.specs.declared.turns.Post.TheVariants.{Granted as GrantedPost, Missed as MissedPost}

-- the units of the metaslab of an id, as its holder knows them
pub units_of_id : (right : ℕ) (t : Turns) (p : Passes) (id : MsId) → Seated right t p → IsIn t.vdevs id → number_of t.vdevs id < length t.metaslabs
    → (origin_in p (number_of t.vdevs id)).units ≡ (row_at t.vdevs id.vdev).units
units_of_id right t p id s in_ below =
    let k = number_of t.vdevs id in
    let there = some_at p.metaslabs k (omega (arith, below, s.know.count)) in
    let knows = s.know.each k there.0 there.1 in
    let same : knows.standing.id ≡ id = one_number t.vdevs id knows.standing.id in_ knows.stands.inside knows.stands.place in
    ap (λ f. (origin_from (fixed_of f)).units) there.1 ∙ (ap (λ f. (origin_from f).units) knows.is ∙ (knows.stands.units ∙ ap (λ (i : MsId). (row_at t.vdevs i.vdev).units) same))

-- what was granted lies within the metaslab
pub grant_within : {R : Type 0} (t : Turns) (c : ClassTurns) (p : LanePasses R) (a : Ask) (id : MsId) (count : ℕ) (seg : Seg) (es : List LaneEvent) → IsSeated t c p → IsIn t.vdevs id
    → number_of t.vdevs id < length t.metaslabs → IsGrantAt a id count seg (ground_of t p) es → (seg.count ≡ count) × IsWithin (row_at t.vdevs id.vdev).units seg
grant_within t c p a id count seg es s in_ below turn =
    let units = sym (ap (λ o. o.units) (origin_same t p (number_of t.vdevs id))) ∙ units_of_id p.lane t p.cells id s.cells in_ below in
    (turn.answer.long, subst (λ (n : ℕ). IsWithin n seg) units turn.answer.may.within)

pub laid : (vdevs : List VdevRow) (id : MsId) (seg : Seg) (dva : Dva) → IsIn vdevs id → IsWithin (row_at vdevs id.vdev).units seg → dva ≡ dva_of vdevs id seg → IsLaid vdevs dva
laid vdevs id seg dva in_ within is =
    subst (IsLaid vdevs) (sym is) (record {
      id = id;
      seg = seg;
      at = record { on = refl; is = in_; within = within; offset_is = refl; size_is = refl };
      class_is = refl;
    })

-- granted, and posted
pub granting : (a : Ask) (id : MsId) (seg : Seg) (count bytes : ℕ) (g : Ground) (es fs : List LaneEvent) → AreUnitsOn g.vdevs id.vdev a.size count → bytes ≡ bytes_on g.vdevs id.vdev count
    → IsGrantAt a id count seg g es → IsPosted a.lane id (note_of id (GrantedPost bytes)) g fs → IsGranting a id seg g (es ++ fs)
granting a id seg count bytes g es fs units is grant post = record {
  count = count;
  units = units;
  turns = record {
    one = es;
    two = fs;
    whole = refl;
    first = grant;
    second = subst (λ (b : ℕ). IsPosted a.lane id (note_of id (GrantedPost b)) g fs) is post;
  };
}

-- one turn without a grant
at_quiet : (number : ℕ) (Answer : Origin → List Noted → Option Noted → Type 0) (g : Ground) (es : List LaneEvent) (x : AtMetaslab number Answer g es) → notes_grant x.note ≡ false → GrantNothing g es × (length es ≡ 1)
at_quiet number Answer g es x quiet = (subst (GrantNothing g) (sym x.is) (All-cons (λ (e : LaneEvent). grants e ≡ false) _ [] quiet (All-nil (λ (e : LaneEvent). grants e ≡ false))), ap length x.is)

class_quiet : (place : ℕ) (Answer : ClassState → Option LaneNote → Type 0) (g : Ground) (es : List LaneEvent) → AtClass place Answer g es → GrantNothing g es × (length es ≡ 1)
class_quiet place Answer g es x = (subst (GrantNothing g) (sym x.is) (All-cons (λ (e : LaneEvent). grants e ≡ false) _ [] refl (All-nil (λ (e : LaneEvent). grants e ≡ false))), ap length x.is)

quiet_both : (g : Ground) (es fs : List LaneEvent) → GrantNothing g es → GrantNothing g fs → GrantNothing g (es ++ fs)
quiet_both g es fs a b = All-append (λ (e : LaneEvent). grants e ≡ false) es fs a b

none_noted : (added : Option Noted) → added ≡ None → notes_grant added ≡ false
none_noted added is = ap notes_grant is

-- a weight that was not posted
pub not_posted : (id : MsId) (g : Ground) (es : List LaneEvent) → IsNotPosted id g es → GrantNothing g es × (length es ≡ 2)
not_posted id g es x =
    let sight = at_quiet (number_of g.vdevs id) _ g x.turns.one x.turns.first (none_noted x.turns.first.note x.turns.first.answer.quiet) in
    let turn = class_quiet _ _ g x.turns.two x.turns.second in (
      subst (GrantNothing g) (sym x.turns.whole) (quiet_both g x.turns.one x.turns.two sight.0 turn.0),
      ap length x.turns.whole ∙ (length-append x.turns.one x.turns.two ∙ omega (arith, sight.1, turn.1)),
    )

module _ {R : Type 0} (t : Turns) where
  -- behind nothing
  pub acted_behind : (First Second : Ground → List LaneEvent → Type 0) (p q r : LanePasses R) → ((es : List LaneEvent) → First (ground_of t p) es → Second (ground_of t p) es) → Acted t Nothing p q → Acted t First q r
      → Acted t Second p r
  acted_behind First Second p q r means a b = acted_join t Nothing First Second p q r (λ es fs n x. subst (λ (l : List LaneEvent). Second (ground_of t p) (l ++ fs)) (sym n) (means fs x)) a b

  -- a post that went well, and one for which memory ran out
  pub post_ok : {E : Type 0} (lane held : ℕ) (id : MsId) (post : Post) (r : Result (Unit {0}) E) (u : Unit {0}) (p q : LanePasses R) → r ≡ Ok u → held ≡ lane → Acted t (IsPost held id post r) p q
      → Acted t (IsPosted lane id (note_of id post)) p q
  post_ok lane held id post r u p q is same a =
      acted_as t (IsPost held id post r) (IsPosted lane id (note_of id post)) p q
      (λ es x. subst (λ (n : ℕ). IsPosted n id (note_of id post) (ground_of t p) es) same (subst (λ (y : Result (Unit {0}) _). IsPost held id post y (ground_of t p) es) is x)) a

  pub post_err : {E : Type 0} (held : ℕ) (id : MsId) (post : Post) (r : Result (Unit {0}) E) (e : E) (p q : LanePasses R) → r ≡ Err e → Acted t (IsPost held id post r) p q → Acted t (λ g es. IsNotPosted id g es) p q
  post_err held id post r e p q is a = acted_as t (IsPost held id post r) (λ g es. IsNotPosted id g es) p q (λ es x. subst (λ (y : Result (Unit {0}) _). IsPost held id post y (ground_of t p) es) is x) a

  -- a look that answered so
  pub looked_so : (a : Ask) (id : MsId) (count : ℕ) (r y : Result Look CellFault) (p q : LanePasses R) → r ≡ y → Acted t (λ g. AtMetaslab (number_of g.vdevs id) (GrantAnswer a.lane a.group count r) g) p q
      → Acted t (λ g. AtMetaslab (number_of g.vdevs id) (GrantAnswer a.lane a.group count y) g) p q
  looked_so a id count r y p q is w = subst (λ (x : Result Look CellFault). Acted t (λ g. AtMetaslab (number_of g.vdevs id) (GrantAnswer a.lane a.group count x) g) p q) is w

-- a grant that was not posted
pub unposted : (a : Ask) (id : MsId) (seg : Seg) (count : ℕ) (g : Ground) (es fs : List LaneEvent) → AreUnitsOn g.vdevs id.vdev a.size count → IsGrantAt a id count seg g es → IsNotPosted id g fs
    → IsUnposted a id seg g (es ++ fs)
unposted a id seg count g es fs units grant post =
    let quiet = not_posted id g fs post in
    record { count = count; units = units; turns = record { one = es; two = fs; whole = refl; first = grant; second = (quiet.0, omega (arith, quiet.1)) } }

-- a miss that was posted, and one that was not
pub missing : (a : Ask) (id : MsId) (count : ℕ) (g : Ground) (es fs : List LaneEvent) → AreUnitsOn g.vdevs id.vdev a.size count → AtMetaslab (number_of g.vdevs id) (GrantAnswer a.lane a.group count (Ok Miss)) g es
    → IsPosted a.lane id (note_of id MissedPost) g fs → IsFailing a id g (es ++ fs)
missing a id count g es fs units look post = missed count units (record { one = es; two = fs; whole = refl; first = look; second = post })

pub missing_unposted : (a : Ask) (id : MsId) (count : ℕ) (g : Ground) (es fs : List LaneEvent) → AtMetaslab (number_of g.vdevs id) (GrantAnswer a.lane a.group count (Ok Miss)) g es → IsNotPosted id g fs
    → GrantNothing g (es ++ fs) × (length (es ++ fs) ≤ 3)
missing_unposted a id count g es fs look post =
    let quiet = not_posted id g fs post in
    let first = at_quiet _ _ g es look (ap notes_grant look.answer.0) in
    (quiet_both g es fs first.0 quiet.0, omega (arith, length-append es fs, first.1, quiet.1))

-- a load that was refused, behind a look
pub cut_load : (a : Ask) (id : MsId) (cut : Cut) (g : Ground) (es fs : List LaneEvent) → IsUnloadedAt a.group id g es → LoadLine a.lane id (Err cut) g fs → IsCutLook a id cut g (es ++ fs)
cut_load a id (Late group collected) g es fs look line = absurd line
cut_load a id (Device before after) g es fs look line = subst (IsUnloadedAt a.group id g) (sym (ap (λ (l : List LaneEvent). es ++ l) line ∙ append-nil es)) look
cut_load a id (Damaged at damage) g es fs look line = subst (IsUnloadedAt a.group id g) (sym (ap (λ (l : List LaneEvent). es ++ l) line ∙ append-nil es)) look
cut_load a id (Suspended first) g es fs look line = subst (IsUnloadedAt a.group id g) (sym (ap (λ (l : List LaneEvent). es ++ l) line ∙ append-nil es)) look
cut_load a id Memory g es fs look line =
    let first = at_quiet _ _ g es look (none_noted look.note look.answer.0) in
    (quiet_both g es fs first.0 line.0, omega (arith, length-append es fs, first.1, line.1))
cut_load a id (Unposted dva) g es fs look line = absurd line

pub nothing_tail : (g : Ground) (es : List LaneEvent) → Nothing g es → GrantNothing g es × (length es ≤ 2)
nothing_tail g es is = (subst (GrantNothing g) (sym is) (All-nil _), omega (arith, ap length is))

module _ {R : Type 0} (t : Turns) (a : Ask) (id : MsId) (count : ℕ) where
  -- a look that found free space not in memory, and what the load behind it came to
  pub loading_so : (r : Result (Unit {0}) Cut) (u : Unit {0}) (p q s : LanePasses R) → r ≡ Ok u → q.lane ≡ a.lane
      → Acted t (λ g. AtMetaslab (number_of g.vdevs id) (GrantAnswer a.lane a.group count (Ok NotLoaded)) g) p q → Acted t (LoadLine q.lane id r) q s → Acted t (LookLine a id (Ok Loaded)) p s
  loading_so r u p q s is same look load =
      acted_join t _ (LoadLine q.lane id r) _ p q s
      (λ es fs x y. record { one = es; two = fs; whole = refl; first = x; second = subst (λ (n : ℕ). IsWeighed n id (ground_of t p) fs) same (subst (λ (z : Result (Unit {0}) Cut). LoadLine q.lane id z (ground_of t p) fs) is y) }) look load

  pub cut_so : (r : Result (Unit {0}) Cut) (cut : Cut) (p q s : LanePasses R) → r ≡ Err cut → q.lane ≡ a.lane
      → Acted t (λ g. AtMetaslab (number_of g.vdevs id) (GrantAnswer a.lane a.group count (Ok NotLoaded)) g) p q → Acted t (LoadLine q.lane id r) q s → Acted t (LookLine a id (Err cut)) p s
  cut_so r cut p q s is same look load =
      acted_join t _ (LoadLine q.lane id r) _ p q s
      (λ es fs x y. cut_load a id cut (ground_of t p) es fs x (subst (λ (n : ℕ). LoadLine n id (Err cut) (ground_of t p) fs) same (subst (λ (z : Result (Unit {0}) Cut). LoadLine q.lane id z (ground_of t p) fs) is y))) look load
