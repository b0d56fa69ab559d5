-- From the first flush on to where the opened group is the only one.
use Rattle.std.proofs.Common.{◌≡◌, ℕ, ◌%◌, ◌<◌, ◌≤◌, Option, Some, None, Result, Ok, Err, List, [], ◌∷◌, ◌++◌, length, get_or, refl, sym, ◌∙◌, ap, subst, arith, append_assoc, length-append}
use Rattle.std.proofs.lemmas.List.{append-nil, append_cancel_left}
use Rattle.std.specs.Prelude.{OnOk, OnErr}
use Rattle.zms_units.specs.declared.segments.Group.{Group}
use Rattle.zms_dev.specs.Disk.{DiskState, Tells, bytes_of, Only}
use Rattle.zms_dev.specs.Runs.{LeavesOnly, Untouched}
use Rattle.zms_dev.proofs.Moments.{OnlyNow, started}
use Rattle.uber_ring.specs.Slots.{IsValid}
use Rattle.uber_ring.specs.declared.slot.Uber.{Uber}
use Rattle.uber_ring.proofs.NewestSoFar.{one_in_slot}
use Rattle.meta_store.specs.Rewinds.{IsRewinding, SlotGroup, IsRing, IsTurned, IsTurnedLast, IsRewindable, HasFlush, Adds}
use Rattle.vdev_map.specs.declared.layout.Layout.{Layout}
use Rattle.vdev_map.specs.declared.table.Table.{Table}
use Rattle.meta_store.specs.Groups.{HasRows}
use Rattle.meta_store.specs.Heads.{head_of}
use Rattle.meta_store.specs.Kept.{LiesIn}
use Rattle.meta_store.specs.Stores.{HasStore, RestsAt, IsAtRest}
use Rattle.meta_store.proofs.FoundOnce.{one_table}
use Rattle.meta_store.proofs.Keeping.{SameKept, group_kept, kept_back}

pub adds_none : (old new : DiskState) → new.flushes ≡ old.flushes → Adds old new
adds_none old new same = record { more = []; noted = same ∙ sym (append-nil old.flushes) }

pub adds_one : {T E : Type 0} (old new : DiskState) (r : Result T E) → OnOk r (new.flushes ≡ old.flushes ++ new.moment ∷ []) → OnErr r (new.flushes ≡ old.flushes) → Adds old new
adds_one old new (Ok x) noted unnoted = record { more = new.moment ∷ []; noted = noted }
adds_one old new (Err e) noted unnoted = adds_none old new unnoted

pub adds_then : (old mid new : DiskState) → Adds old mid → Adds mid new → Adds old new
adds_then old mid new first second = record {
  more = first.more ++ second.more;
  noted = second.noted ∙ ap (λ (f : List ℕ). f ++ second.more) first.noted ∙ append_assoc old.flushes first.more second.more;
}

-- nothing is closed yet
pub rewinding_itself : (opened : Uber) (image : List ℕ) → IsValid image opened → IsRewinding opened image image
rewinding_itself opened image valid = record { valid = valid; no_more = λ uber is. is; keeps = λ uber is p kept lt. refl }

module _ (opened : Uber) (old : DiskState) (may : IsRewindable opened old) where
  abbrev P : List ℕ → Type 0
  P = IsRewinding opened (bytes_of old)

  pub still_whole : (c : List ℕ) → old.may_leave c → P c
  still_whole c now = subst P (sym (may.flushed c now)) (rewinding_itself opened (bytes_of old) may.valid)

  -- the ring was read
  pub turned_first : (new : DiskState) (groups : List (Option Group)) → Untouched old new → IsRing (bytes_of old) groups 128 → IsTurned opened (bytes_of old) new groups
  turned_first new groups rests ring = record {
    tells = rests.tells;
    flushed = λ c now. may.flushed c (rests.images c now) ∙ sym rests.contents;
    no_shorter = omega (arith, ap length rests.contents);
    run = subst P (sym rests.contents) (rewinding_itself opened (bytes_of old) may.valid);
    ring = subst (λ (b : List ℕ). IsRing b groups 128) (sym rests.contents) ring;
  }

pub turned_started : (opened : Uber) (start : List ℕ) (disk : DiskState) (groups : List (Option Group)) → OnlyNow disk → IsTurned opened start disk groups → LeavesOnly disk disk (IsRewinding opened start)
turned_started opened start disk groups only turned =
    started disk (IsRewinding opened start) (λ c left. subst (IsRewinding opened start) (sym (turned.flushed c (only c left))) turned.run)

-- no group of the ring is left but the opened one
module _ (opened : Uber) (start : List ℕ) (disk : DiskState) (groups : List (Option Group)) (len : length groups ≡ 128) (turned : IsTurned opened start disk groups)
    (none : (k : ℕ) (group : Group) → k < length groups → get_or groups k None ≡ Some group → group ≡ opened.group) where
  of_entry : (uber : Uber) → IsValid (bytes_of disk) uber → (found : Option Group) → get_or groups (uber.group.0 % 128) None ≡ found → SlotGroup (bytes_of disk) (uber.group.0 % 128) found → uber ≡ opened
  of_entry uber valid None is ring = absurd (ring uber refl valid)
  of_entry uber valid (Some group) is ring =
      let same : group ≡ opened.group = none (uber.group.0 % 128) group (omega arith) is in
      one_in_slot (bytes_of disk) uber opened (sym ring.0 ∙ ap (λ (g : Group). g.0 % 128) same) valid turned.run.valid

  pub turned_last : IsTurnedLast opened start disk
  turned_last = record {
    flushed = turned.flushed;
    no_shorter = turned.no_shorter;
    rewound = record {
      run = turned.run;
      only = λ uber valid. of_entry uber valid (get_or groups (uber.group.0 % 128) None) refl (turned.ring (uber.group.0 % 128) (omega arith));
    };
  }

-- the images since the first flush of a run are those since the end of that flush
pub first_flush : (old mid new : DiskState) (P : List ℕ → Type 0) (t : ℕ) (rest : List ℕ) → mid.flushes ≡ old.flushes ++ mid.moment ∷ [] → Adds mid new → new.flushes ≡ old.flushes ++ t ∷ rest
    → LeavesOnly mid new P → (c : List ℕ) → new.left_since t c → P c
first_flush old mid new P t rest noted adds flushes run c left =
    let all : old.flushes ++ (mid.moment ∷ adds.more) ≡ old.flushes ++ t ∷ rest =
    sym (append_assoc old.flushes (mid.moment ∷ []) adds.more) ∙ ap (λ (f : List ℕ). f ++ adds.more) (sym noted) ∙ sym adds.noted ∙ flushes in
    let same : mid.moment ∷ adds.more ≡ t ∷ rest = append_cancel_left old.flushes (mid.moment ∷ adds.more) (t ∷ rest) all in
    let moment : t ≡ mid.moment = cc in
    run.each c (subst (λ (n : ℕ). new.left_since n c) moment left)

pub no_flush : (old new : DiskState) (t : ℕ) (rest : List ℕ) → new.flushes ≡ old.flushes → new.flushes ≡ old.flushes ++ t ∷ rest → ⊥
no_flush old new t rest none flushes = omega (arith, ap length none, ap length flushes, length-append old.flushes (t ∷ rest))

pub has_flush : (old mid new : DiskState) → mid.flushes ≡ old.flushes ++ mid.moment ∷ [] → Adds mid new → HasFlush old new
has_flush old mid new noted adds = record {
  moment = mid.moment;
  rest = adds.more;
  noted = adds.noted ∙ ap (λ (f : List ℕ). f ++ adds.more) noted ∙ append_assoc old.flushes (mid.moment ∷ []) adds.more;
}

pub rewindable : (opened : Uber) (b : List ℕ) (mid : DiskState) → bytes_of mid ≡ b → Only (bytes_of mid) mid.may_leave → IsValid b opened → 135168 ≤ length b → IsRewindable opened mid
rewindable opened b mid same only valid long = record {
  flushed = only;
  valid = subst (λ (d : List ℕ). IsValid d opened) (sym same) valid;
  long = omega (arith, ap length same, long);
}

-- the store may go on
pub at_rest : (opened : Uber) (b : List ℕ) (disk : DiskState) (layout : Layout) (table : Table) → table.vdevs ≡ layout.vdevs → Tells disk → HasStore b opened layout table → LiesIn b opened → IsTurnedLast opened b disk → IsAtRest disk layout table
at_rest opened b disk layout table vdevs tells has lies last = record {
  tells = tells;
  each = λ c now. subst (RestsAt layout table) (sym (last.flushed c now)) here;
} where
  same : SameKept b (bytes_of disk) opened
  same p kept = last.rewound.run.keeps opened last.rewound.run.valid p kept (lies p kept)

  still : HasStore (bytes_of disk) opened layout table
  still = group_kept b (bytes_of disk) opened same (head_of layout) table has

  here : RestsAt layout table (bytes_of disk)
  here = record {
    uber = opened;
    newest = record { valid = last.rewound.run.valid; greatest = λ other valid. omega (arith, ap (λ (u : Uber). u.group.0) (last.rewound.only other valid)) };
    has = still;
    lies = λ other valid recent. subst (LiesIn (bytes_of disk)) (sym (last.rewound.only other valid))
        (λ p kept. omega (arith, lies p (kept_back b (bytes_of disk) opened same p kept), last.no_shorter));
    alike = λ other head rows valid recent there.
        let here_too : HasRows (bytes_of disk) opened head rows = subst (λ (u : Uber). HasRows (bytes_of disk) u head rows) (last.rewound.only other valid) there in
        ap (λ (t : Table). t.vdevs) (one_table (bytes_of disk) opened head (head_of layout) rows table here_too still.rows) ∙ vdevs;
  }
