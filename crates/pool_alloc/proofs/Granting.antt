-- How an allocation ends, from the copies that were placed and what came behind them.
use Rattle.std.proofs.Common.{◌≡◌, ℕ, zero, suc, ◌+◌, ◌<◌, length, List, [], ◌∷◌, ◌++◌, refl, sym, ap, subst, ◌∙◌, Option, Some, None, Result, Ok, Err, ◌⊎◌, arith}
use Rattle.std.specs.Prelude.{slice_get}
use Rattle.std.proofs.lemmas.List.{append-nil, length-append}
use Rattle.zms_units.specs.Limits.{IsBlockSize, MAX_BLOCK_SIZE}
use Rattle.zms_units.specs.declared.segments.Group.{Group}
use Rattle.zms_units.specs.declared.blocks.Dva.{Dva}
use Rattle.zms_units.specs.declared.blocks.Block.{Block}
use Rattle.zms_units.specs.declared.places.Class.{Class}
use Rattle.zms_units.specs.declared.places.VdevRow.{VdevRow}
use Rattle.ms_model.specs.Gates.{open_group}
use Rattle.ms_cell.specs.Turns.{Turns}
use Rattle.ms_cell.specs.declared.loader.LoadFault.{LoadFault}
use Rattle.class_group.specs.Turns.{ClassTurns}
use Rattle.lane_passes.specs.Lanes.{LaneEvent, Ground, ground_of, IsSeated, Acted}
use Rattle.lane_passes.specs.Turns.{AtGate, Nothing, Then}
use Rattle.lane_passes.specs.declared.passes.LanePasses.{LanePasses}
use Rattle.lane_passes.proofs.Acting.{acted_none, acted_as, acted_join, acted_then}
use Rattle.pool_alloc.specs.Asks.{Ask, kind_of}
use Rattle.pool_alloc.specs.Places.{IsOnEither, ArePlaced}
use Rattle.pool_alloc.specs.Places.ArePlaced.{none as none_placed, more as more_placed}
use Rattle.pool_alloc.specs.Walks.{IsLookedAt}
use Rattle.pool_alloc.specs.Allocs.{answer_after, IsRefused, IsRefusal, IsBroken, IsUnposted, RanOut, placing, posting, undoing, InnerLine, Holding, IsCopyCount, IsTried, AllocLine}
use Rattle.pool_alloc.specs.Undoing.{AreUndone}
use Rattle.pool_alloc.specs.Undoing.AreUndone.{none as none_undone, undone, left as left_there}
use Rattle.pool_alloc.specs.Undone.{CopiesUndone, AreAllUndone}
use Rattle.pool_alloc.specs.Cuts.{CopyLine, IsLaid, AllLaid, load_of_cut}
use Rattle.pool_alloc.specs.Ends.{refusal_of, kept_of, EndsBy, CutShort}
use Rattle.pool_alloc.specs.Loads.{load_of_alloc, CountsOne, CountsAlloc}
use Rattle.pool_alloc.proofs.Stepping.{counts_along}
use Rattle.pool_alloc.specs.declared.answers.AllocFault.{AllocFault}
use Rattle.pool_alloc.specs.declared.answers.AllocFault.TheVariants.{BadSize, BadCopies, NoSpace, Late as LateFault, Device as DeviceFault, Damaged as DamagedFault, Suspended as SuspendedFault, Memory as MemoryFault}
use Rattle.pool_alloc.specs.declared.looks.Cut.{Cut}
use Rattle.pool_alloc.specs.declared.looks.Cut.TheVariants.{Late, Device, Damaged, Suspended, Memory, Unposted}
use Rattle.pool_alloc.specs.declared.placing.Found.{Found}
use Rattle.pool_alloc.specs.declared.placing.Found.TheVariants.{Placed, Full}

-- one copy more is laid
laid_push : (vdevs : List VdevRow) (dvas : List Dva) (dva : Dva) → IsLaid vdevs dva → AllLaid vdevs dvas → (k : ℕ) (d : Dva) → slice_get (dvas ++ dva ∷ []) k ≡ Some d → IsLaid vdevs d
laid_push vdevs [] dva laid all zero d is = let same : dva ≡ d = cc in subst (IsLaid vdevs) same laid
laid_push vdevs [] dva laid all (suc k) d is = absurd (cc)
laid_push vdevs (x ∷ dvas) dva laid all zero d is = all 0 d is
laid_push vdevs (x ∷ dvas) dva laid all (suc k) d is = laid_push vdevs dvas dva laid (λ j c there. all (suc j) c there) k d is

pub laid_more : (vdevs : List VdevRow) (dvas more : List Dva) (dva : Dva) → more ≡ dvas ++ dva ∷ [] → IsLaid vdevs dva → AllLaid vdevs dvas → AllLaid vdevs more
laid_more vdevs dvas more dva is laid all = subst (λ (l : List Dva). AllLaid vdevs l) (sym is) (laid_push vdevs dvas dva laid all)

laid_nothing : (vdevs : List VdevRow) → AllLaid vdevs []
laid_nothing vdevs k d there = absurd (cc)

pub laid_none : (vdevs : List VdevRow) (dvas : List Dva) → dvas ≡ [] → AllLaid vdevs dvas
laid_none vdevs dvas is = subst (λ (l : List Dva). AllLaid vdevs l) (sym is) (laid_nothing vdevs)

pub one_longer : (dvas more : List Dva) (dva : Dva) (n : ℕ) → more ≡ dvas ++ dva ∷ [] → length dvas ≡ n → length more ≡ n + 1
one_longer dvas more dva n is long = omega (arith, ap (λ (l : List Dva). length l) is, length-append dvas (dva ∷ []))

-- what stood in the way of a copy's taking back is that its group was collected
pub left_late : (lane : ℕ) (of : Group) (g : Ground) (dvas left : List Dva) (late : Option AllocFault) (es : List LaneEvent) (fault : AllocFault) → AreUndone lane of g dvas left late es → late ≡ Some fault
    → (group : Group) × ((collected : Group) × (fault ≡ LateFault group collected))
left_late lane of g _ _ _ _ fault none_undone is = absurd (cc)
left_late lane of g _ _ _ _ fault (undone dvas left late id seg es fs before turn) is = left_late lane of g dvas left late es fault before is
left_late lane of g _ _ _ _ fault (left_there dvas left None id seg group collected es fs before turn) is = (group, (collected, (cc)))
left_late lane of g _ _ _ _ fault (left_there dvas left (Some late) id seg group collected es fs before turn) is = left_late lane of g dvas left (Some late) es fault before is

-- so it is no load refusal
no_load : (late : AllocFault) → (group : Group) × ((collected : Group) × (late ≡ LateFault group collected)) → load_of_alloc late ≡ None
no_load late x = ap load_of_alloc x.1.1

same_load : (lane : ℕ) (of : Group) (g : Ground) (dvas left : List Dva) (refusal : AllocFault) (late : Option AllocFault) (es : List LaneEvent) → AreUndone lane of g dvas left late es
    → load_of_alloc (answer_after refusal late) ≡ load_of_alloc refusal
same_load lane of g dvas left (NoSpace _) None es x = refl
same_load lane of g dvas left (NoSpace _) (Some late) es x = no_load late (left_late lane of g dvas left (Some late) es late x refl)
same_load lane of g dvas left BadSize late es x = refl
same_load lane of g dvas left BadCopies late es x = refl
same_load lane of g dvas left (LateFault _ _) late es x = refl
same_load lane of g dvas left (DeviceFault _ _) late es x = refl
same_load lane of g dvas left (DamagedFault _ _) late es x = refl
same_load lane of g dvas left (SuspendedFault _) late es x = refl
same_load lane of g dvas left (MemoryFault _) late es x = refl

-- what is counted of a load, by the answer
module _ (A : Type 0) (lane : ℕ) (group : Group) (dvas : List Dva) (g : Ground) (es : List LaneEvent) (count count_now : ℕ) (last last_now : Option LoadFault) where
  counts_all : (refusal fault : AllocFault) → AreAllUndone lane group dvas refusal fault g es → CountsOne (load_of_alloc refusal) count last count_now last_now → CountsOne (load_of_alloc fault) count last count_now last_now
  counts_all refusal fault x counts =
      subst (λ (l : Option LoadFault). CountsOne l count last count_now last_now) (sym (ap load_of_alloc x.answer ∙ same_load lane group g dvas x.left refusal x.late es x.undone)) counts

  counts_undone : (refusal fault : AllocFault) → CopiesUndone lane group dvas refusal fault g es → CountsOne (load_of_alloc refusal) count last count_now last_now → CountsAlloc {A = A} (Err fault) count last count_now last_now
  counts_undone refusal (MemoryFault kept) x counts = (load_of_alloc refusal, counts)
  counts_undone refusal BadSize x counts = counts_all refusal BadSize x counts
  counts_undone refusal BadCopies x counts = counts_all refusal BadCopies x counts
  counts_undone refusal (NoSpace looked) x counts = counts_all refusal (NoSpace looked) x counts
  counts_undone refusal (LateFault of collected) x counts = counts_all refusal (LateFault of collected) x counts
  counts_undone refusal (DeviceFault before after) x counts = counts_all refusal (DeviceFault before after) x counts
  counts_undone refusal (DamagedFault id damage) x counts = counts_all refusal (DamagedFault id damage) x counts
  counts_undone refusal (SuspendedFault first) x counts = counts_all refusal (SuspendedFault first) x counts

  counts_kept : (kept : List Dva) (fault : AllocFault) → fault ≡ MemoryFault kept → CountsOne None count last count_now last_now → CountsAlloc {A = A} (Err fault) count last count_now last_now
  counts_kept kept fault is counts = subst (λ (f : AllocFault). CountsAlloc {A = A} (Err f) count last count_now last_now) (sym is) (None, counts)

  counts_cut : (cut : Cut) (fault : AllocFault) → CutShort cut lane group dvas fault g es → CountsOne (load_of_cut cut) count last count_now last_now → CountsAlloc {A = A} (Err fault) count last count_now last_now
  counts_cut (Late of collected) fault x counts = counts_undone (LateFault of collected) fault x counts
  counts_cut (Device before after) fault x counts = counts_undone (DeviceFault before after) fault x counts
  counts_cut (Damaged id damage) fault x counts = counts_undone (DamagedFault id damage) fault x counts
  counts_cut (Suspended first) fault x counts = counts_undone (SuspendedFault first) fault x counts
  counts_cut Memory fault x counts = counts_kept dvas fault x.0 counts
  counts_cut (Unposted dva) fault x counts = counts_kept (dvas ++ dva ∷ []) fault x.0 counts

module _ {R : Type 0} (A : Type 0) (t : Turns) (group : Group) (dvas : List Dva) (r z : LanePasses R) (fault : AllocFault) (count mid count_now : ℕ) (last between last_now : Option LoadFault) (same : mid ≡ count)
    (still : between ≡ last) where
  pub counts_full : (looked : ℕ) → Acted t (CopiesUndone r.lane group dvas (NoSpace looked) fault) r z → CountsOne None mid between count_now last_now → CountsAlloc {A = A} (Err fault) count last count_now last_now
  counts_full looked x counts =
      counts_undone A r.lane group dvas (ground_of t r) x.events count count_now last last_now (NoSpace looked) fault x.fact (counts_along None count last mid between count_now last_now same still counts)

  pub counts_short : (cut : Cut) → Acted t (CutShort cut r.lane group dvas fault) r z → CountsOne (load_of_cut cut) mid between count_now last_now → CountsAlloc {A = A} (Err fault) count last count_now last_now
  counts_short cut x counts =
      counts_cut A r.lane group dvas (ground_of t r) x.events count count_now last last_now cut fault x.fact (counts_along (load_of_cut cut) count last mid between count_now last_now same still counts)

-- a fact of some events, behind which there were none
then_none : (Fact : Ground → List LaneEvent → Type 0) (g : Ground) (es fs : List LaneEvent) → Fact g es → fs ≡ [] → Fact g (es ++ fs)
then_none Fact g es fs x is = subst (λ (l : List LaneEvent). Fact g l) (sym (append-nil es) ∙ ap (λ (l : List LaneEvent). es ++ l) (sym is)) x

-- the next copy was not placed
module _ (a : Ask) (copies : ℕ) (class : Class) (dvas : List Dva) (g : Ground) (es fs hs : List LaneEvent) (few : length dvas < copies) (before : ArePlaced a class g dvas es) where
  -- it was refused, and those before it were taken back
  module _ (refusal : AllocFault) (refused : IsRefused a class dvas refusal g fs) where
    is_refusal : (fault : AllocFault) → AreAllUndone a.lane a.group dvas refusal fault g hs → IsRefusal a copies class fault g (es ++ (fs ++ hs))
    is_refusal fault x = record {
      dvas = dvas;
      left = x.left;
      refusal = refusal;
      late = x.late;
      few = few;
      answer = x.answer;
      turns = record { one = es; two = fs ++ hs; whole = refl; first = before; second = record { one = fs; two = hs; whole = refl; first = refused; second = x.undone } };
    }

    refusal_line : (fault : AllocFault) → CopiesUndone a.lane a.group dvas refusal fault g hs → InnerLine a class copies (Err fault) g (es ++ (fs ++ hs))
    refusal_line (MemoryFault kept) x =
        subst (λ (l : List Dva). RanOut a class g l (es ++ (fs ++ hs))) (sym x.kept_is)
        (undoing x.done x.rest x.left refusal x.late (es ++ (fs ++ hs)) (record {
          one = es;
          two = fs ++ hs;
          whole = refl;
          first = subst (λ (l : List Dva). ArePlaced a class g l es) x.dvas_are before;
          second = record { one = fs; two = hs; whole = refl; first = subst (λ (l : List Dva). IsRefused a class l refusal g fs) x.dvas_are refused; second = x.turns };
        }))
    refusal_line BadSize x = is_refusal BadSize x
    refusal_line BadCopies x = is_refusal BadCopies x
    refusal_line (NoSpace looked) x = is_refusal (NoSpace looked) x
    refusal_line (LateFault group collected) x = is_refusal (LateFault group collected) x
    refusal_line (DeviceFault first then) x = is_refusal (DeviceFault first then) x
    refusal_line (DamagedFault id damage) x = is_refusal (DamagedFault id damage) x
    refusal_line (SuspendedFault first) x = is_refusal (SuspendedFault first) x

  -- or memory ran out, and they stay
  kept_line : (placed kept : List Dva) (fault : AllocFault) → fault ≡ MemoryFault kept → placed ≡ kept → RanOut a class g placed (es ++ (fs ++ hs)) → InnerLine a class copies (Err fault) g (es ++ (fs ++ hs))
  kept_line placed kept fault is same x =
      subst (λ (f : AllocFault). InnerLine a class copies (Err f) g (es ++ (fs ++ hs))) (sym is) (subst (λ (l : List Dva). RanOut a class g l (es ++ (fs ++ hs))) same x)

  cut_line : (cut : Cut) (fault : AllocFault) → CopyLine a dvas class (Err cut) g fs → CutShort cut a.lane a.group dvas fault g hs → InnerLine a class copies (Err fault) g (es ++ (fs ++ hs))
  cut_line (Late group collected) fault line short = refusal_line (LateFault group collected) line fault short
  cut_line (Device first then) fault line short = refusal_line (DeviceFault first then) line fault short
  cut_line (Damaged id damage) fault line short = refusal_line (DamagedFault id damage) line fault short
  cut_line (Suspended first) fault line short = refusal_line (SuspendedFault first) line fault short
  cut_line Memory fault line short =
      kept_line dvas dvas fault short.0 refl
      (placing dvas (es ++ (fs ++ hs)) (record { one = es; two = fs ++ hs; whole = refl; first = before; second = then_none (IsOnEither a dvas class (IsBroken a (kind_of dvas))) g fs hs line short.1 }))
  cut_line (Unposted dva) fault line short =
      let id = line.0 in
      let seg = line.1.0 in
      kept_line _ (dvas ++ dva ∷ []) fault short.0 (ap (λ (d : Dva). dvas ++ d ∷ []) (sym line.1.1.0))
      (posting dvas id seg (es ++ (fs ++ hs)) (record {
        one = es;
        two = fs ++ hs;
        whole = refl;
        first = before;
        second = then_none (IsOnEither a dvas class (λ p. IsLookedAt a (kind_of dvas) p id (IsUnposted a id seg))) g fs hs line.1.1.1 short.1;
      }))

-- the copies, one after the other
module _ {R : Type 0} (t : Turns) (p : LanePasses R) (group : Group) (size : ℕ) (class : Class) where
  abbrev asked : ℕ → Ask
  asked lane = record { lane = lane; group = group; size = size }

  pub begins_placing : (c : ClassTurns) (dvas : List Dva) → IsSeated t c p → dvas ≡ [] → Acted t (λ g es. ArePlaced (asked p.lane) class g dvas es) p p
  begins_placing c dvas s is =
      acted_as t Nothing (λ g es. ArePlaced (asked p.lane) class g dvas es) p p
      (λ es x. subst (λ (l : List LaneEvent). ArePlaced (asked p.lane) class (ground_of t p) dvas l) (sym x)
      (subst (λ (l : List Dva). ArePlaced (asked p.lane) class (ground_of t p) l []) (sym is) none_placed)) (acted_none t c p s)

  module _ (dvas : List Dva) (q r : LanePasses R) (before : Acted t (λ g es. ArePlaced (asked p.lane) class g dvas es) p q) (result : Result Found Cut) (search : Acted t (CopyLine (asked q.lane) dvas class result) q r) where
    own_search : (ended : Result Found Cut) → result ≡ ended → Acted t (CopyLine (asked p.lane) dvas class ended) q r
    own_search ended is =
        subst (λ (n : ℕ). Acted t (CopyLine (asked n) dvas class ended) q r) before.journey.lane (subst (λ (e : Result Found Cut). Acted t (CopyLine (asked q.lane) dvas class e) q r) is search)

    pub places_one : (dva : Dva) (more : List Dva) → result ≡ Ok (Placed dva) → more ≡ dvas ++ dva ∷ [] → Acted t (λ g es. ArePlaced (asked p.lane) class g more es) p r
    places_one dva more is more_is =
        subst (λ (l : List Dva). Acted t (λ g es. ArePlaced (asked p.lane) class g l es) p r) (sym more_is)
        (acted_join t _ (CopyLine (asked p.lane) dvas class (Ok (Placed dva))) (λ g es. ArePlaced (asked p.lane) class g (dvas ++ dva ∷ []) es) p q r
        (λ es fs placed one. more_placed dvas dva es fs placed one) before (own_search (Ok (Placed dva)) is))

    module _ (copies : ℕ) (few : length dvas < copies) (fault : AllocFault) (z : LanePasses R) where
      -- a search that did not place the copy, and what came behind it
      ends : (ended : Result Found Cut) (Last : ℕ → Ground → List LaneEvent → Type 0)
          → ((es fs hs : List LaneEvent) → ArePlaced (asked p.lane) class (ground_of t p) dvas es → CopyLine (asked p.lane) dvas class ended (ground_of t p) fs → Last p.lane (ground_of t p) hs
          → InnerLine (asked p.lane) class copies (Err fault) (ground_of t p) (es ++ (fs ++ hs)))
          → result ≡ ended → Acted t (Last r.lane) r z → Acted t (InnerLine (asked p.lane) class copies (Err fault)) p z
      ends ended Last joins is last =
          acted_join t _ (Then (CopyLine (asked p.lane) dvas class ended) (Last p.lane)) (InnerLine (asked p.lane) class copies (Err fault)) p q z
          (λ es more placed rest. subst (λ (l : List LaneEvent). InnerLine (asked p.lane) class copies (Err fault) (ground_of t p) (es ++ l)) (sym rest.whole) (joins es rest.one rest.two placed rest.first rest.second))
          before
          (acted_then t (CopyLine (asked p.lane) dvas class ended) (Last p.lane) q r z (own_search ended is) (subst (λ (n : ℕ). Acted t (Last n) r z) (search.journey.lane ∙ before.journey.lane) last))

      pub ends_full : (looked : ℕ) → result ≡ Ok (Full looked) → Acted t (CopiesUndone r.lane group dvas (NoSpace looked) fault) r z → Acted t (InnerLine (asked p.lane) class copies (Err fault)) p z
      ends_full looked is back =
          ends (Ok (Full looked)) (λ n. CopiesUndone n group dvas (NoSpace looked) fault)
          (λ es fs hs placed line x. refusal_line (asked p.lane) copies class dvas (ground_of t p) es fs hs few placed (NoSpace looked) line fault x) is back

      pub ends_cut : (cut : Cut) → result ≡ Err cut → Acted t (CutShort cut r.lane group dvas fault) r z → Acted t (InnerLine (asked p.lane) class copies (Err fault)) p z
      ends_cut cut is short =
          ends (Err cut) (λ n. CutShort cut n group dvas fault) (λ es fs hs placed line x. cut_line (asked p.lane) copies class dvas (ground_of t p) es fs hs few placed cut fault line x) is short

-- memory ran out in the search: what was granted stays, and nothing more is done
ends_kept : (told : Option AllocFault) (lane : ℕ) (group : Group) (dvas kept held : List Dva) (g : Ground) (es : List LaneEvent) → told ≡ None → held ≡ kept → es ≡ [] → EndsBy told kept lane group dvas (MemoryFault held) g es
ends_kept None lane group dvas kept held g es is same nothing = (ap MemoryFault same, nothing)
ends_kept (Some refusal) lane group dvas kept held g es is same nothing = absurd (cc)

pub cut_kept : {R : Type 0} (t : Turns) (c : ClassTurns) (p : LanePasses R) (group : Group) (dvas : List Dva) (cut : Cut) (held : List Dva) → IsSeated t c p → refusal_of cut ≡ None → held ≡ kept_of dvas cut
    → Acted t (CutShort cut p.lane group dvas (MemoryFault held)) p p
cut_kept t c p group dvas cut held s is same =
    acted_as t Nothing (CutShort cut p.lane group dvas (MemoryFault held)) p p
    (λ es x. ends_kept (refusal_of cut) p.lane group dvas (kept_of dvas cut) held (ground_of t p) es is same x) (acted_none t c p s)

-- all copies were placed
pub ends_placed : {R : Type 0} (t : Turns) (p q : LanePasses R) (a : Ask) (class : Class) (copies : ℕ) (dvas : List Dva) → length dvas ≡ copies → Acted t (λ g es. ArePlaced a class g dvas es) p q
    → Acted t (InnerLine a class copies (Ok (record { group = a.group; copies = dvas }))) p q
ends_placed t p q a class copies dvas all x = acted_as t (λ g es. ArePlaced a class g dvas es) (InnerLine a class copies (Ok (record { group = a.group; copies = dvas }))) p q (λ es placed. (refl, (all, placed))) x

-- a refusal of what was asked, which a search never gives
abbrev IsOfAsk : AllocFault → Type 0
IsOfAsk BadSize = Unit {0}
IsOfAsk BadCopies = Unit {0}
IsOfAsk _ = ⊥

never_of_ask : (a : Ask) (class : Class) (dvas left : List Dva) (refusal : AllocFault) (late : Option AllocFault) (fault : AllocFault) (g : Ground) (es fs : List LaneEvent) → IsOfAsk fault → fault ≡ answer_after refusal late
    → IsRefused a class dvas refusal g es → AreUndone a.lane a.group g dvas left late fs → ⊥
never_of_ask a class dvas left BadSize late fault g es fs of is refused back = refused
never_of_ask a class dvas left BadCopies late fault g es fs of is refused back = refused
never_of_ask a class dvas left (MemoryFault _) late fault g es fs of is refused back = refused
never_of_ask a class dvas left (NoSpace _) None fault g es fs of is refused back = subst IsOfAsk is of
never_of_ask a class dvas left (NoSpace _) (Some late) fault g es fs of is refused back =
    subst IsOfAsk (is ∙ (left_late a.lane a.group g dvas left (Some late) fs late back refl).1.1) of
never_of_ask a class dvas left (LateFault _ _) late fault g es fs of is refused back = subst IsOfAsk is of
never_of_ask a class dvas left (DeviceFault _ _) late fault g es fs of is refused back = subst IsOfAsk is of
never_of_ask a class dvas left (DamagedFault _ _) late fault g es fs of is refused back = subst IsOfAsk is of
never_of_ask a class dvas left (SuspendedFault _) late fault g es fs of is refused back = subst IsOfAsk is of

refusal_of_ask : (a : Ask) (copies : ℕ) (class : Class) (fault : AllocFault) (g : Ground) (es : List LaneEvent) → IsOfAsk fault → IsRefusal a copies class fault g es → ⊥
refusal_of_ask a copies class fault g es of x =
    let behind = x.turns.second in never_of_ask a class x.dvas x.left x.refusal x.late fault g behind.one behind.two of x.answer behind.first behind.second

module _ (lane size copies : ℕ) (class : Class) (size_is : IsBlockSize size) (copies_are : IsCopyCount copies) (group : Group) (g : Ground) (es : List LaneEvent) where
  tried : (result : Result Block AllocFault) → Holding group (InnerLine (record { lane = lane; group = group; size = size }) class copies result) g es → IsTried lane size copies class result g es
  tried result held = record { size_is = size_is; copies_are = copies_are; group = group; turns = held }

  held_line : (result : Result Block AllocFault) → Holding group (InnerLine (record { lane = lane; group = group; size = size }) class copies result) g es → AllocLine lane size class copies result g es
  held_line (Ok block) held = tried (Ok block) held
  held_line (Err BadSize) held = absurd (refusal_of_ask _ copies class BadSize g _ (record {}) held.second.first)
  held_line (Err BadCopies) held = absurd (refusal_of_ask _ copies class BadCopies g _ (record {}) held.second.first)
  held_line (Err (NoSpace looked)) held = tried (Err (NoSpace looked)) held
  held_line (Err (LateFault of collected)) held = tried (Err (LateFault of collected)) held
  held_line (Err (DeviceFault before after)) held = tried (Err (DeviceFault before after)) held
  held_line (Err (DamagedFault id damage)) held = tried (Err (DamagedFault id damage)) held
  held_line (Err (SuspendedFault first)) held = tried (Err (SuspendedFault first)) held
  held_line (Err (MemoryFault kept)) held = tried (Err (MemoryFault kept)) held

module _ {R : Type 0} (t : Turns) (p : LanePasses R) (size copies : ℕ) (class : Class) where
  pub bad_size : (c : ClassTurns) → IsSeated t c p → (size ≡ 0) ⊎ (MAX_BLOCK_SIZE < size) → Acted t (AllocLine p.lane size class copies (Err BadSize)) p p
  bad_size c s bad = acted_as t Nothing (AllocLine p.lane size class copies (Err BadSize)) p p (λ es x. (bad, x)) (acted_none t c p s)

  pub bad_copies : (c : ClassTurns) → IsSeated t c p → IsBlockSize size → (copies ≡ 0) ⊎ (3 < copies) → Acted t (AllocLine p.lane size class copies (Err BadCopies)) p p
  bad_copies c s fits bad = acted_as t Nothing (AllocLine p.lane size class copies (Err BadCopies)) p p (λ es x. (fits, (bad, x))) (acted_none t c p s)

  pub tries : (size_is : IsBlockSize size) (copies_are : IsCopyCount copies) (group : Group) (result : Result Block AllocFault) (q r z : LanePasses R)
      → Acted t (λ g. AtGate (λ h note. (note ≡ None) × (group.0 ≡ open_group g.opened h)) g) p q → Acted t (InnerLine (record { lane = q.lane; group = group; size = size }) class copies result) q r
      → Acted t (AtGate (λ h note. note ≡ None)) r z → Acted t (AllocLine p.lane size class copies result) p z
  tries size_is copies_are group result q r z hold inner release =
      let own = subst (λ (n : ℕ). Acted t (InnerLine (record { lane = n; group = group; size = size }) class copies result) q r) hold.journey.lane inner in
      acted_as t (Holding group (InnerLine (record { lane = p.lane; group = group; size = size }) class copies result)) (AllocLine p.lane size class copies result) p z
      (λ es held. held_line p.lane size copies class size_is copies_are group (ground_of t p) es result held)
      (acted_then t (λ g. AtGate (λ h note. (note ≡ None) × (group.0 ≡ open_group g.opened h)) g) (Then (InnerLine (record { lane = p.lane; group = group; size = size }) class copies result) (AtGate (λ h note. note ≡ None))) p q z hold
      (acted_then t (InnerLine (record { lane = p.lane; group = group; size = size }) class copies result) (AtGate (λ h note. note ≡ None)) q r z own release))
