-- Metaslabs that are shown, one after the other.
use Rattle.std.proofs.Common.{◌≡◌, ℕ, zero, suc, ◌+◌, ◌-◌, ◌*◌, ◌^◌, ◌<◌, ◌≤◌, Bool, true, false, Option, List, [], ◌∷◌, ◌++◌, length, get_or, inl, inr, refl, sym, ◌∙◌, ap, subst, arith}
use Rattle.zms_dev.specs.Disk.{DiskState, Tells, bytes_of}
use Rattle.zms_dev.specs.Runs.{Untouched}
use Rattle.zms_units.specs.Segments.{covered, total_of}
use Rattle.zms_units.specs.declared.places.MsId.{MsId}
use Rattle.zms_units.specs.declared.segments.Seg.{Seg}
use Rattle.std.specs.Prelude.{not}
use Rattle.std.proofs.lemmas.Nat.{mul-le}
use Rattle.std.proofs.Math.Pow.{pow_mono}
use Rattle.zms_units.specs.Runs.{AreMaximalRuns}
use Rattle.zms_units.specs.Weights.{IsHistogramOf, IsWeightOf}
use Rattle.zms_units.specs.declared.histograms.Histogram.{Histogram}
use Rattle.zms_units.specs.declared.places.Class.{Class}
use Rattle.zms_units.specs.declared.places.Class.TheVariants.{Normal}
use Rattle.zms_units.specs.declared.places.VdevRow.{VdevRow}
use Rattle.zms_units.proofs.Bools.{le_or}
use Rattle.zms_units.proofs.Counting.{rising_total, rising_units}
use Rattle.vdev_map.specs.declared.table.MsRow.{MsRow}
use Rattle.vdev_map.proofs.InOrder.{one_number}
use Rattle.zdb_report.specs.Texts.{is_asked, if_asked, live_bytes, vacant_bytes}
use Rattle.vdev_map.specs.Numbers.{IsIn, row_at, number_of, metaslabs_in}
use Rattle.vdev_map.specs.declared.table.Table.{Table}
use Rattle.space_map.specs.Replay.{Replays}
use Rattle.space_map.specs.declared.places.MapKind.TheVariants.{Side}
use Rattle.meta_store.specs.Words.{row_of, units_of, words_in, AreHeldRuns}
use Rattle.zdb_report.specs.Stats.{IsRow, IsStats, IsShown, AreShown, AreRows}
use Rattle.zdb_report.specs.declared.stats.MetaslabStats.{MetaslabStats}

-- what was found is shown
pub found_shown : (disk : DiskState) (table : Table) (number : ℕ) (runs : List Seg) (s : MetaslabStats)
    → (Tells disk → AreHeldRuns (words_in (bytes_of disk) table s.id) (units_of table s.id) runs) → IsStats table number (covered runs) s → IsShown disk table number s
found_shown disk table number runs s are stats = record {
  held = covered runs;
  words = λ tells u lt. let a = are tells in record { found = a.found; decodes = a.decodes; says = sym (a.maximal.whole u lt) };
  stats = stats;
}

-- a device that was only read shows what it showed
pub shown_before : (old mid : DiskState) (table : Table) (number : ℕ) (s : MetaslabStats) → (Tells old → Untouched old mid) → IsShown mid table number s → IsShown old table number s
shown_before old mid table number s rests shown = record {
  held = shown.held;
  words = λ tells u lt.
      let r = rests tells in
      subst (λ (b : List ℕ). Replays (Side (units_of table s.id)) (words_in b table s.id) u (shown.held u)) r.contents (shown.words r.tells u lt);
  stats = shown.stats;
}

pub none_shown : (disk : DiskState) (table : Table) → AreShown disk table 0 []
none_shown disk table = record { many = refl; each = λ number d lt. absurd (omega arith) }

-- one more
pub more_shown : (disk : DiskState) (table : Table) (count : ℕ) (stats : List MetaslabStats) (s : MetaslabStats) → AreShown disk table count stats → IsShown disk table count s
    → AreShown disk table (count + 1) (stats ++ s ∷ [])
more_shown disk table count stats s are is = record {
  many = pushed stats s ∙ ap (λ n. n + 1) are.many;
  each = λ number d lt. elim (le_or count number) [
    | inl last ↦
        let here : number ≡ length stats = omega (arith, are.many) in
        let same : number ≡ count = omega arith in
        subst (λ (x : MetaslabStats). IsShown disk table number x) (sym (ap (λ n. get_or (stats ++ s ∷ []) n d) here ∙ at_end stats s d))
        (subst (λ n. IsShown disk table n s) (sym same) is)
    | inr before ↦
        subst (λ (x : MetaslabStats). IsShown disk table number x) (sym (at_front stats s d number (omega (arith, are.many)))) (are.each number d before)
  ];
} where
  pushed : (xs : List MetaslabStats) (x : MetaslabStats) → length (xs ++ x ∷ []) ≡ length xs + 1
  pushed [] x = omega arith
  pushed (y ∷ ys) x = omega (arith, pushed ys x)

  at_end : (xs : List MetaslabStats) (x d : MetaslabStats) → get_or (xs ++ x ∷ []) (length xs) d ≡ x
  at_end [] x d = refl
  at_end (y ∷ ys) x d = at_end ys x d

  at_front : (xs : List MetaslabStats) (x d : MetaslabStats) (k : ℕ) → k < length xs → get_or (xs ++ x ∷ []) k d ≡ get_or xs k d
  at_front [] x d k lt = absurd (omega arith)
  at_front (y ∷ ys) x d zero lt = refl
  at_front (y ∷ ys) x d (suc k) lt = at_front ys x d k (omega arith)

-- what is shown has the table's rows
pub shown_rows : (disk : DiskState) (table : Table) (count : ℕ) (stats : List MetaslabStats) → AreShown disk table count stats → count ≡ metaslabs_in table.vdevs → AreRows table stats
shown_rows disk table count stats are all = record {
  many = are.many ∙ all;
  each = λ number d lt. (are.each number d (omega (arith, all))).stats.row;
}

-- what is told of a metaslab whose held runs were found
pub stats_are : (table : Table) (id : MsId) (vdevs : List VdevRow) (row : MsRow) (held : List Seg) (hist : Histogram) (weight units : ℕ) → IsIn table.vdevs id → vdevs ≡ table.vdevs → row ≡ row_of table id
    → AreMaximalRuns (covered held) (units_of table id) held → total_of held ≡ (row_of table id).held → IsHistogramOf (λ u. not (covered held u)) (row_at vdevs id.vdev).units (row_at vdevs id.vdev).ashift hist
    → IsWeightOf hist weight → units ≡ (row_at vdevs id.vdev).units
    → IsStats table (number_of table.vdevs id) (covered held)
    (record { id = id; class = (row_at vdevs id.vdev).class; ashift = (row_at vdevs id.vdev).ashift; row = row; live = row.held; vacant = units - row.held; hist = hist; weight = weight })
stats_are table id vdevs row held hist weight units in_ same is maximal count counted weighs many =
    let here : row_at vdevs id.vdev ≡ row_at table.vdevs id.vdev = ap (λ (v : List VdevRow). row_at v id.vdev) same in
    let kept : row.held ≡ total_of held = ap (λ (r : MsRow). r.held) is ∙ sym count in
    let all : units ≡ units_of table id = many ∙ ap (λ (r : VdevRow). r.units) here in
    let few : 0 + total_of held ≤ units_of table id = rising_total 0 (units_of table id) held maximal.rising in
    record {
      row = record {
        id = in_;
        is = refl;
        class = ap (λ (r : VdevRow). r.class) here;
        ashift = ap (λ (r : VdevRow). r.ashift) here;
        row = is;
        live = refl;
        vacant = rest row.held units (units_of table id) all (omega (arith, kept, few));
      };
      live = kept ∙ sym (rising_units 0 (units_of table id) held maximal.rising);
      hist = subst (λ (r : VdevRow). IsHistogramOf (λ u. not (covered held u)) r.units (row_at vdevs id.vdev).ashift hist) here counted;
      weight = weighs;
    }
  where
    rest : (a b n : ℕ) → b ≡ n → a ≤ n → a + (b - a) ≡ n
    rest a b n e le = omega arith

-- the bytes of a metaslab, from its row
module _ (table : Table) (number : ℕ) (id : MsId) (s : MetaslabStats) (in_ : IsIn table.vdevs id) (is : number_of table.vdevs id ≡ number) (told : IsRow table number s) where
  pub named : s.id ≡ id
  named = one_number table.vdevs id s.id in_ told.id (told.is ∙ sym is)

  class_is : (vdevs : List VdevRow) → vdevs ≡ table.vdevs → s.class ≡ (row_at vdevs id.vdev).class
  class_is vdevs same = told.class ∙ ap (λ (i : MsId). (row_at table.vdevs i.vdev).class) named ∙ ap (λ (v : List VdevRow). (row_at v id.vdev).class) (sym same)

  ashift_is : (vdevs : List VdevRow) → vdevs ≡ table.vdevs → s.ashift ≡ (row_at vdevs id.vdev).ashift
  ashift_is vdevs same = told.ashift ∙ ap (λ (i : MsId). (row_at table.vdevs i.vdev).ashift) named ∙ ap (λ (v : List VdevRow). (row_at v id.vdev).ashift) (sym same)

  live_is : s.live ≡ (row_of table id).held
  live_is = told.live ∙ ap (λ (r : MsRow). r.held) told.row ∙ ap (λ (i : MsId). (row_of table i).held) named

  -- of another class
  pub none_asked : (asked : Option Class) (bytes : MetaslabStats → ℕ) (vdevs : List VdevRow) (b : Bool) → vdevs ≡ table.vdevs → b ≡ is_asked asked (row_at vdevs id.vdev).class → b ≡ false → 0 ≡ if_asked asked bytes s
  none_asked asked bytes vdevs b same test refused =
      let off : is_asked asked s.class ≡ false = ap (is_asked asked) (class_is vdevs same) ∙ sym test ∙ refused in
      rw off refl

  all_asked : (asked : Option Class) (bytes : MetaslabStats → ℕ) (vdevs : List VdevRow) (b : Bool) → vdevs ≡ table.vdevs → b ≡ is_asked asked (row_at vdevs id.vdev).class → b ≡ true → bytes s ≡ if_asked asked bytes s
  all_asked asked bytes vdevs b same test meets =
      let on : is_asked asked s.class ≡ true = ap (is_asked asked) (class_is vdevs same) ∙ sym test ∙ meets in
      rw on refl

  -- and of one that is asked for
  pub live_asked : (asked : Option Class) (vdevs : List VdevRow) (b : Bool) (row : MsRow) (bytes : ℕ) → vdevs ≡ table.vdevs → b ≡ is_asked asked (row_at vdevs id.vdev).class → b ≡ true → row ≡ row_of table id
      → bytes ≡ row.held * 2 ^ (row_at vdevs id.vdev).ashift → bytes ≡ if_asked asked live_bytes s
  live_asked asked vdevs b row bytes same test meets row_is counted =
      let live : row.held ≡ s.live = ap (λ (r : MsRow). r.held) row_is ∙ sym live_is in
      counted ∙ ap (λ (n : ℕ). n * 2 ^ (row_at vdevs id.vdev).ashift) live ∙ ap (λ (n : ℕ). s.live * 2 ^ n) (sym (ashift_is vdevs same)) ∙ all_asked asked live_bytes vdevs b same test meets

  pub vacant_asked : (asked : Option Class) (vdevs : List VdevRow) (b : Bool) (row : MsRow) (bytes : ℕ) → vdevs ≡ table.vdevs → b ≡ is_asked asked (row_at vdevs id.vdev).class → b ≡ true → row ≡ row_of table id
      → bytes ≡ ((row_at vdevs id.vdev).units - row.held) * 2 ^ (row_at vdevs id.vdev).ashift → bytes ≡ if_asked asked vacant_bytes s
  vacant_asked asked vdevs b row bytes same test meets row_is counted =
      let live : row.held ≡ s.live = ap (λ (r : MsRow). r.held) row_is ∙ sym live_is in
      let units : (row_at vdevs id.vdev).units ≡ units_of table s.id = ap (λ (v : List VdevRow). (row_at v id.vdev).units) same ∙ ap (λ (i : MsId). units_of table i) (sym named) in
      let vacant : (row_at vdevs id.vdev).units - row.held ≡ s.vacant = omega (arith, told.vacant, live, units) in
      counted ∙ ap (λ (n : ℕ). n * 2 ^ (row_at vdevs id.vdev).ashift) vacant ∙ ap (λ (n : ℕ). s.vacant * 2 ^ n) (sym (ashift_is vdevs same)) ∙ all_asked asked vacant_bytes vdevs b same test meets

-- a metaslab has few bytes
pub bytes_few : (count ashift : ℕ) → count ≤ 131072 → ashift ≤ 12 → count * 2 ^ ashift ≤ 2 ^ 29
bytes_few count ashift few shift = mul-le count (2 ^ ashift) 131072 4096 few (pow_mono {i = ashift} {j = 12} shift)

pub few_each : (held units ashift live vacant : ℕ) → held ≤ units → units ≤ 131072 → ashift ≤ 12 → live ≡ held * 2 ^ ashift → vacant ≡ (units - held) * 2 ^ ashift → (live ≤ 2 ^ 29) × (vacant ≤ 2 ^ 29)
few_each held units ashift live vacant le few shift is rest =
    let one = bytes_few held ashift (omega arith) shift in
    let two = bytes_few (units - held) ashift (omega arith) shift in
    (omega (arith, is, one), omega (arith, rest, two))

-- any metaslab
abbrev pub no_stats : MetaslabStats
no_stats = record {
  id = record { vdev = 0; index = 0 };
  class = Normal;
  ashift = 0;
  row = record { place = 0; words = 0; unflushed = record { 0 = 0 }; held = 0; side = 0 };
  live = 0;
  vacant = 0;
  hist = record { runs = [] };
  weight = 0;
}
