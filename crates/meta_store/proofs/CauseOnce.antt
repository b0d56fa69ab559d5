-- An image shows one cause, and none where it opens.
use Rattle.std.proofs.Common.{◌≡◌, inl, inr, ℕ, ◌<◌, ◌≤◌, List, [], ◌∷◌, ◌++◌, refl, sym, ◌∙◌, ap, subst, arith}
use Rattle.std.proofs.lemmas.Bool.{cases_lt}
use Rattle.zms_units.specs.Limits.{GROUPS_END}
use Rattle.zms_units.specs.Runs.{units_in}
use Rattle.zms_units.specs.declared.faults.Damage.{Damage}
use Rattle.zms_units.specs.declared.faults.Damage.TheVariants.{Word, Counts, Unit as UnitDiffers}
use Rattle.zms_units.specs.declared.places.MsId.{MsId}
use Rattle.zms_units.specs.declared.segments.Group.{Group}
use Rattle.vdev_map.specs.Limits.{IsFlush, IsLog}
use Rattle.vdev_map.specs.Numbers.{number_of}
use Rattle.vdev_map.specs.declared.layout.Layout.{Layout}
use Rattle.vdev_map.specs.declared.layout.Head.{Head}
use Rattle.vdev_map.specs.declared.table.Table.{Table}
use Rattle.vdev_map.proofs.InOrder.{one_number}
use Rattle.uber_ring.specs.Heads.{HeadField, head_place, version_of}
use Rattle.uber_ring.specs.Slots.{HasNone}
use Rattle.uber_ring.specs.Numbers.{number_at}
use Rattle.uber_ring.specs.TableFields.{Field, Each, IsRight, HasTable, HasTableFault, table_bytes, field_place}
use Rattle.uber_ring.specs.declared.faults.TableFault.{TableFault}
use Rattle.uber_ring.specs.declared.faults.TableFault.TheVariants.{Failed as TableFailed, Memory as TableMemory, TableDamaged as DamagedTable, Malformed as MalformedTable}
use Rattle.uber_ring.specs.declared.head.HeadFault.{HeadFault}
use Rattle.uber_ring.specs.declared.head.HeadFault.TheVariants.{HeadDamaged as DamagedHead, Malformed as MalformedHead}
use Rattle.uber_ring.specs.declared.slot.Uber.{Uber}
use Rattle.uber_ring.proofs.ReadTables.{not_damaged, not_malformed}
use Rattle.space_map.specs.Replay.{is_held}
use Rattle.space_map.specs.declared.places.Found.{Found}
use Rattle.space_map.specs.declared.places.MapKind.TheVariants.{Side}
use Rattle.space_map.proofs.Deciding.{runs_certain, faults_certain, runs_show_no_fault}
use Rattle.meta_store.specs.Causes.{IsAsked, IsFirstDamaged, ShowsDamage, ShowsOf, Shows, IsRefused}
use Rattle.meta_store.specs.Faults.{of_head, of_table}
use Rattle.meta_store.specs.Groups.{HasRows, HasGroup}
use Rattle.meta_store.specs.Heads.{head_bytes, head_of, IsWholeHead, IsFieldRight, IsNoHead}
use Rattle.meta_store.specs.Stores.{Opens}
use Rattle.meta_store.specs.Words.{row_of, units_of, words_in, HoldUnits}
use Rattle.meta_store.specs.declared.causes.At.{At}
use Rattle.meta_store.specs.declared.causes.At.TheVariants.{Group as AtGroup}
use Rattle.meta_store.specs.declared.causes.OpenFault.TheVariants.{Cause}
use Rattle.meta_store.specs.declared.causes.OpenCause.{OpenCause}
use Rattle.meta_store.specs.declared.causes.OpenCause.TheVariants.{NoSlot, NotRetained, Spent, HeadDamaged, TableDamaged, Malformed, MapDamaged}
use Rattle.meta_store.proofs.FoundOnce.{one_asked, one_newest, one_head, one_table}

module _ (bytes : List ℕ) where
  all_right : (head : Head) → IsWholeHead bytes head → (field : HeadField) → IsFieldRight bytes field
  all_right head whole HeadField.text = record { right = whole.is.text; version = λ e. absurd (cc) }
  all_right head whole HeadField.version = record { right = omega (arith, zero_is); version = λ e. zero_is } where
    zero_is : number_at bytes 8 4 ≡ 0
    zero_is = whole.is.version ∙ ap version_of whole.whole
  all_right head whole HeadField.flush = record { right = subst IsFlush (sym whole.is.flush) whole.is.limits.flush; version = λ e. absurd (cc) }
  all_right head whole HeadField.log = record { right = subst IsLog (sym whole.is.log) whole.is.limits.log; version = λ e. absurd (cc) }
  all_right head whole HeadField.zeros = record { right = whole.is.zeros; version = λ e. absurd (cc) }

  pub whole_no_fault : (head : Head) (fault : HeadFault) → IsWholeHead bytes head → IsNoHead bytes fault → ⊥
  whole_no_fault head (DamagedHead kept found) whole shows = shows.2 (shows.1 ∙ sym whole.is.digest ∙ sym shows.0)
  whole_no_fault head (MalformedHead part at) whole shows = (shows.2).broken (all_right head whole (shows.2).field)

  pub one_no_head : (one other : HeadFault) → IsNoHead bytes one → IsNoHead bytes other → one ≡ other
  one_no_head (DamagedHead kept found) (DamagedHead kept' found') first second =
      let k : kept ≡ kept' = first.0 ∙ sym second.0 in
      let f : found ≡ found' = first.1 ∙ sym second.1 in
      (λ i. DamagedHead (k i) (f i))
  one_no_head (DamagedHead kept found) (MalformedHead part at) first second = absurd (first.2 (first.1 ∙ sym second.1 ∙ sym first.0))
  one_no_head (MalformedHead part at) (DamagedHead kept found) first second = absurd (second.2 (second.1 ∙ sym first.1 ∙ sym second.0))
  one_no_head (MalformedHead part at) (MalformedHead part' at') first second =
      let p : part ≡ part' = first.0 ∙ sym second.0 in
      let wrong = first.2 in
      let wrong' = second.2 in
      let place : at ≡ at' = elim (cases_lt (head_place wrong.field) (head_place wrong'.field)) [
        | inl lt ↦ absurd (wrong.broken (wrong'.before wrong.field lt))
        | inr ge ↦ elim (cases_lt (head_place wrong'.field) (head_place wrong.field)) [
          | inl lt ↦ absurd (wrong'.broken (wrong.before wrong'.field lt))
          | inr le ↦ omega (arith, wrong.begins, wrong'.begins)
        ]
      ] in
      (λ i. MalformedHead (p i) (place i))

-- a list has one first field that lacks P
first_once : (P : Field → Type 0) (before before' after after' : List Field) (field field' : Field) → before ++ field ∷ after ≡ before' ++ field' ∷ after' → Each P before → Each P before' → (P field → ⊥) → (P field' → ⊥) → field ≡ field'
first_once P [] [] after after' field field' same held held' broken broken' = cc
first_once P [] (x ∷ xs) after after' field field' same held held' broken broken' = let e : field ≡ x = cc in absurd (broken (subst P (sym e) held'.0))
first_once P (x ∷ xs) [] after after' field field' same held held' broken broken' = let e : x ≡ field' = cc in absurd (broken' (subst P e held.0))
first_once P (x ∷ xs) (y ∷ ys) after after' field field' same held held' broken broken' =
    let rest : xs ++ field ∷ after ≡ ys ++ field' ∷ after' = cc in
    first_once P xs ys after after' field field' rest held.1 held'.1 broken broken'

module _ (image : List ℕ) (uber : Uber) (head : Head) where
  -- faults that are neither the device's nor want of memory
  one_no_table : (fault other : TableFault) (cause cause' : OpenCause) → of_table fault ≡ Cause cause → of_table other ≡ Cause cause' → HasTableFault image head uber fault → HasTableFault image head uber other → fault ≡ other
  one_no_table TableFailed other cause cause' is is' first second = absurd (cc)
  one_no_table TableMemory other cause cause' is is' first second = absurd (cc)
  one_no_table (DamagedTable group kept found) TableFailed cause cause' is is' first second = absurd (cc)
  one_no_table (DamagedTable group kept found) TableMemory cause cause' is is' first second = absurd (cc)
  one_no_table (MalformedTable part at) TableFailed cause cause' is is' first second = absurd (cc)
  one_no_table (MalformedTable part at) TableMemory cause cause' is is' first second = absurd (cc)
  one_no_table (DamagedTable group kept found) (DamagedTable group' kept' found') cause cause' is is' first second =
      let g : group ≡ group' = first.0 ∙ sym second.0 in
      let k : kept ≡ kept' = first.1 ∙ sym second.1 in
      let f : found ≡ found' = first.2 ∙ sym second.2 in
      (λ i. DamagedTable (g i) (k i) (f i))
  one_no_table (DamagedTable group kept found) (MalformedTable part at) cause cause' is is' first second = absurd (first.3 (first.2 ∙ second.1 ∙ sym first.1))
  one_no_table (MalformedTable part at) (DamagedTable group kept found) cause cause' is is' first second = absurd (second.3 (second.2 ∙ first.1 ∙ sym second.1))
  one_no_table (MalformedTable part at) (MalformedTable part' at') cause cause' is is' first second =
      let bytes = table_bytes image uber in
      let wrong = first.2 in
      let wrong' = second.2 in
      let p : part ≡ part' = first.0 ∙ sym second.0 in
      let field : wrong.field ≡ wrong'.field =
      first_once (IsRight head uber bytes) wrong.first.before wrong'.first.before wrong.first.after wrong'.first.after wrong.field wrong'.field (sym wrong.first.split ∙ wrong'.first.split) wrong.first.held wrong'.first.held wrong.first.broken wrong'.first.broken in
      let place : at ≡ at' = wrong.begins ∙ ap (λ (f : Field). field_place bytes f) field ∙ sym wrong'.begins in
      (λ i. MalformedTable (p i) (place i))

  table_no_fault : (table : Table) (fault : TableFault) (cause : OpenCause) → of_table fault ≡ Cause cause → HasTable image head uber table → HasTableFault image head uber fault → ⊥
  table_no_fault table TableFailed cause is has shows = absurd (cc)
  table_no_fault table TableMemory cause is has shows = absurd (cc)
  table_no_fault table (DamagedTable group kept found) cause is has shows = not_damaged image head uber table has group kept found shows
  table_no_fault table (MalformedTable part at) cause is has shows = not_malformed image head uber table has part at shows

module _ (words : List ℕ) (units held : ℕ) where
  count_once : (n m : ℕ) → HoldUnits words units n → HoldUnits words units m → n ≡ m
  count_once n m first second =
      sym first.held ∙ ap (λ (f : List Found). units_in (is_held f) units) (runs_certain (Side units) words first.found second.found first.decodes second.decodes) ∙ second.held

  sound_no_damage : (damage : Damage) → HoldUnits words units held → ShowsDamage words units held damage → ⊥
  sound_no_damage (Word fault) sound shows = runs_show_no_fault (Side units) words sound.found fault sound.decodes shows
  sound_no_damage (Counts kept found) sound shows = shows.1.1 (count_once found held shows.1.0 sound)
  sound_no_damage (UnitDiffers u) sound shows = absurd shows

  damage_once : (one other : Damage) → ShowsDamage words units held one → ShowsDamage words units held other → one ≡ other
  damage_once (Word fault) (Word fault') first second = ap Word (faults_certain (Side units) words fault fault' first second)
  damage_once (Word fault) (Counts kept found) first second = absurd (runs_show_no_fault (Side units) words second.1.0.found fault second.1.0.decodes first)
  damage_once (Word fault) (UnitDiffers u) first second = absurd second
  damage_once (Counts kept found) (Word fault) first second = absurd (runs_show_no_fault (Side units) words first.1.0.found fault first.1.0.decodes second)
  damage_once (Counts kept found) (Counts kept' found') first second =
      let k : kept ≡ kept' = first.0 ∙ sym second.0 in
      let f : found ≡ found' = count_once found found' first.1.0 second.1.0 in
      (λ i. Counts (k i) (f i))
  damage_once (Counts kept found) (UnitDiffers u) first second = absurd second
  damage_once (UnitDiffers u) other first second = absurd first

damaged_once : (image : List ℕ) (table : Table) (id other : MsId) (damage damage' : Damage) → IsFirstDamaged image table id damage → IsFirstDamaged image table other damage' → MapDamaged id damage ≡ MapDamaged other damage'
damaged_once image table id other damage damage' first second = elim (cases_lt (number_of table.vdevs id) (number_of table.vdevs other)) [
  | inl lt ↦ absurd (sound_no_damage _ _ _ damage (second.before id first.in_table lt) first.shows)
  | inr ge ↦ elim (cases_lt (number_of table.vdevs other) (number_of table.vdevs id)) [
    | inl lt ↦ absurd (sound_no_damage _ _ _ damage' (first.before other second.in_table lt) second.shows)
    | inr le ↦
        let same : id ≡ other = one_number table.vdevs other id second.in_table first.in_table (let e : number_of table.vdevs id ≡ number_of table.vdevs other = omega arith in e) in
        let there : ShowsDamage (words_in image table other) (units_of table other) (row_of table other).held damage =
        subst (λ (i : MsId). ShowsDamage (words_in image table i) (units_of table i) (row_of table i).held damage) same first.shows in
        let d : damage ≡ damage' = damage_once (words_in image table other) (units_of table other) (row_of table other).held damage damage' there second.shows in
        (λ i. MapDamaged (same i) (d i))
  ]
]

-- the stage at which a group is refused
data Stage (image : List ℕ) (uber : Uber) (cause : OpenCause) : Type 0 where
  spent : GROUPS_END ≤ uber.group.0 → cause ≡ Spent uber.group → Stage image uber cause
  no_head : uber.group.0 < GROUPS_END → (fault : HeadFault) → cause ≡ of_head fault → IsNoHead (head_bytes image) fault → Stage image uber cause
  no_table : uber.group.0 < GROUPS_END → (head : Head) → IsWholeHead (head_bytes image) head → (fault : TableFault) → of_table fault ≡ Cause cause → HasTableFault image head uber fault → Stage image uber cause
  damaged : uber.group.0 < GROUPS_END → (head : Head) (table : Table) (id : MsId) (damage : Damage) → cause ≡ MapDamaged id damage → HasRows image uber head table → IsFirstDamaged image table id damage → Stage image uber cause

stage_of : (image : List ℕ) (uber : Uber) (cause : OpenCause) → ShowsOf image uber cause → Stage image uber cause
stage_of image uber NoSlot shows = absurd shows
stage_of image uber (NotRetained asked newest) shows = absurd shows
stage_of image uber (Spent group) shows = Stage.spent (subst (λ (g : Group). GROUPS_END ≤ g.0) shows.0 shows.1) (ap Spent shows.0)
stage_of image uber (HeadDamaged kept found) shows = Stage.no_head shows.0 (DamagedHead kept found) refl shows.1
stage_of image uber (TableDamaged group kept found) shows = Stage.no_table shows.0 (shows.1).head (shows.1).has_head (DamagedTable group kept found) refl (shows.1).shows
stage_of image uber (Malformed part at) shows = elim shows.1 [
  | inl head ↦ Stage.no_head shows.0 (MalformedHead part at) refl head
  | inr table ↦ Stage.no_table shows.0 table.head table.has_head (MalformedTable part at) refl table.shows
]
stage_of image uber (MapDamaged id damage) shows = Stage.damaged shows.0 (shows.1).head (shows.1).table id damage refl (shows.1).rows (shows.1).first

cause_of_table : (fault other : TableFault) (cause cause' : OpenCause) → fault ≡ other → of_table fault ≡ Cause cause → of_table other ≡ Cause cause' → cause ≡ cause'
cause_of_table fault other cause cause' same is is' = let e : of_table fault ≡ of_table other = ap of_table same in cc

module _ (image : List ℕ) (uber : Uber) where
  table_or_damage : (head head' : Head) (table : Table) (fault : TableFault) (cause : OpenCause) → IsWholeHead (head_bytes image) head → of_table fault ≡ Cause cause → HasTableFault image head uber fault → HasRows image uber head' table → ⊥
  table_or_damage head head' table fault cause has is shows rows =
      let same : head' ≡ head = one_head (head_bytes image) head' head rows.has_head has in
      table_no_fault image uber head table fault cause is (subst (λ (h : Head). HasTable image h uber table) same rows.has_table) shows

  one_stage : (one other : OpenCause) → Stage image uber one → Stage image uber other → one ≡ other
  one_stage one other (Stage.spent late is) (Stage.spent _ is') = is ∙ sym is'
  one_stage one other (Stage.spent late is) (Stage.no_head early _ _ _) = absurd (omega arith)
  one_stage one other (Stage.spent late is) (Stage.no_table early _ _ _ _ _) = absurd (omega arith)
  one_stage one other (Stage.spent late is) (Stage.damaged early _ _ _ _ _ _ _) = absurd (omega arith)
  one_stage one other (Stage.no_head early _ _ _) (Stage.spent late _) = absurd (omega arith)
  one_stage one other (Stage.no_head _ fault is shows) (Stage.no_head _ fault' is' shows') = is ∙ ap of_head (one_no_head (head_bytes image) fault fault' shows shows') ∙ sym is'
  one_stage one other (Stage.no_head _ fault is shows) (Stage.no_table _ head has _ _ _) = absurd (whole_no_fault (head_bytes image) head fault has shows)
  one_stage one other (Stage.no_head _ fault is shows) (Stage.damaged _ head table _ _ _ rows _) = absurd (whole_no_fault (head_bytes image) head fault rows.has_head shows)
  one_stage one other (Stage.no_table early _ _ _ _ _) (Stage.spent late _) = absurd (omega arith)
  one_stage one other (Stage.no_table _ head has _ _ _) (Stage.no_head _ fault is shows) = absurd (whole_no_fault (head_bytes image) head fault has shows)
  one_stage one other (Stage.no_table _ head has fault is shows) (Stage.no_table _ head' has' fault' is' shows') =
      let same : head' ≡ head = one_head (head_bytes image) head' head has' has in
      cause_of_table fault fault' one other
      (one_no_table image uber head fault fault' one other is is' shows (subst (λ (h : Head). HasTableFault image h uber fault') same shows')) is is'
  one_stage one other (Stage.no_table _ head has fault is shows) (Stage.damaged _ head' table _ _ _ rows _) = absurd (table_or_damage head head' table fault one has is shows rows)
  one_stage one other (Stage.damaged early _ _ _ _ _ _ _) (Stage.spent late _) = absurd (omega arith)
  one_stage one other (Stage.damaged _ head table _ _ _ rows _) (Stage.no_head _ fault is shows) = absurd (whole_no_fault (head_bytes image) head fault rows.has_head shows)
  one_stage one other (Stage.damaged _ head' table _ _ _ rows _) (Stage.no_table _ head has fault is shows) = absurd (table_or_damage head head' table fault other has is shows rows)
  one_stage one other (Stage.damaged _ head table id damage is rows first) (Stage.damaged _ head' table' id' damage' is' rows' first') =
      let same : table' ≡ table = one_table image uber head' head table' table rows' rows in
      is ∙ damaged_once image table id id' damage damage' first (subst (λ (t : Table). IsFirstDamaged image t id' damage') same first') ∙ sym is'

  opened_no_stage : (head : Head) (table : Table) (cause : OpenCause) → uber.group.0 < GROUPS_END → HasGroup image uber head table → Stage image uber cause → ⊥
  opened_no_stage head table cause early has (Stage.spent late _) = omega arith
  opened_no_stage head table cause early has (Stage.no_head _ fault is shows) = whole_no_fault (head_bytes image) head fault has.rows.has_head shows
  opened_no_stage head table cause early has (Stage.no_table _ head' has' fault is shows) = table_or_damage head' head table fault cause has' is shows has.rows
  opened_no_stage head table cause early has (Stage.damaged _ head' table' id damage is rows first) =
      let same : table' ≡ table = one_table image uber head' head table' table rows has.rows in
      let here : IsFirstDamaged image table id damage = subst (λ (t : Table). IsFirstDamaged image t id damage) same first in
      sound_no_damage (words_in image table id) (units_of table id) (row_of table id).held damage (has.sound id here.in_table) here.shows

-- where an image is refused
data Refusal (image : List ℕ) (at : At) (cause : OpenCause) : Type 0 where
  no_slot : HasNone image → cause ≡ NoSlot → Refusal image at cause
  refused : (asked newest : Group) → IsRefused image at asked newest → cause ≡ NotRetained asked newest → Refusal image at cause
  of_group : (uber : Uber) → IsAsked image at uber → Stage image uber cause → Refusal image at cause

refusal_of : (image : List ℕ) (at : At) (cause : OpenCause) → Shows image at cause → Refusal image at cause
refusal_of image at NoSlot shows = Refusal.no_slot shows refl
refusal_of image at (NotRetained asked newest) shows = Refusal.refused asked newest shows refl
refusal_of image at (Spent group) shows = Refusal.of_group shows.uber shows.asked (stage_of image shows.uber (Spent group) shows.shows)
refusal_of image at (HeadDamaged kept found) shows = Refusal.of_group shows.uber shows.asked (stage_of image shows.uber (HeadDamaged kept found) shows.shows)
refusal_of image at (TableDamaged group kept found) shows = Refusal.of_group shows.uber shows.asked (stage_of image shows.uber (TableDamaged group kept found) shows.shows)
refusal_of image at (Malformed part place) shows = Refusal.of_group shows.uber shows.asked (stage_of image shows.uber (Malformed part place) shows.shows)
refusal_of image at (MapDamaged id damage) shows = Refusal.of_group shows.uber shows.asked (stage_of image shows.uber (MapDamaged id damage) shows.shows)

module _ (image : List ℕ) (at : At) where
  one_refusal : (one other : OpenCause) → Refusal image at one → Refusal image at other → one ≡ other
  one_refusal one other (Refusal.no_slot _ is) (Refusal.no_slot _ is') = is ∙ sym is'
  one_refusal one other (Refusal.no_slot none _) (Refusal.refused _ _ there _) = absurd (none there.uber there.is_newest.valid)
  one_refusal one other (Refusal.no_slot none _) (Refusal.of_group uber asked _) = absurd (none uber asked.valid)
  one_refusal one other (Refusal.refused _ _ there _) (Refusal.no_slot none _) = absurd (none there.uber there.is_newest.valid)
  one_refusal one other (Refusal.refused asked newest there is) (Refusal.refused asked' newest' there' is') =
      let a : asked ≡ asked' = let e : AtGroup asked ≡ AtGroup asked' = sym there.asks ∙ there'.asks in cc in
      let n : newest ≡ newest' = sym there.newest_is ∙ ap (λ (u : Uber). u.group) (one_newest image there.uber there'.uber there.is_newest there'.is_newest) ∙ there'.newest_is in
      is ∙ (λ i. NotRetained (a i) (n i)) ∙ sym is'
  one_refusal one other (Refusal.refused _ _ there _) (Refusal.of_group uber asked _) = absurd (there.none uber asked)
  one_refusal one other (Refusal.of_group uber asked _) (Refusal.no_slot none _) = absurd (none uber asked.valid)
  one_refusal one other (Refusal.of_group uber asked _) (Refusal.refused _ _ there _) = absurd (there.none uber asked)
  one_refusal one other (Refusal.of_group uber asked stage) (Refusal.of_group uber' asked' stage') =
      one_stage image uber one other stage (subst (λ (u : Uber). Stage image u other) (one_asked image at uber' uber asked' asked) stage')

  pub cause_once : (one other : OpenCause) → Shows image at one → Shows image at other → one ≡ other
  cause_once one other first second = one_refusal one other (refusal_of image at one first) (refusal_of image at other second)

  opened_no_refusal : (layout : Layout) (table : Table) (cause : OpenCause) → Opens image at layout table → Refusal image at cause → ⊥
  opened_no_refusal layout table cause opens (Refusal.no_slot none _) = none opens.uber opens.asked.valid
  opened_no_refusal layout table cause opens (Refusal.refused _ _ there _) = there.none opens.uber opens.asked
  opened_no_refusal layout table cause opens (Refusal.of_group uber asked stage) =
      opened_no_stage image opens.uber (head_of layout) table cause opens.opened.early opens.opened.has (subst (λ (u : Uber). Stage image u cause) (one_asked image at uber opens.uber asked opens.asked) stage)

  pub opens_no_cause : (layout : Layout) (table : Table) (cause : OpenCause) → Opens image at layout table → Shows image at cause → ⊥
  opens_no_cause layout table cause opens shows = opened_no_refusal layout table cause opens (refusal_of image at cause shows)
