-- The layout that a table says.
use Rattle.std.proofs.Common.{◌≡◌, ℕ, ◌+◌, ◌-◌, ◌<◌, ◌≤◌, List, length, take, sym, ◌∙◌, ap, subst, arith}
use Rattle.std.proofs.lemmas.List.{take_all}
use Rattle.zms_units.specs.Limits.{GROUPS_END}
use Rattle.zms_units.specs.declared.places.MsId.{MsId}
use Rattle.zms_units.specs.declared.places.VdevRow.{VdevRow}
use Rattle.vdev_map.specs.Limits.{IsHead, IsLayout}
use Rattle.vdev_map.specs.Numbers.{IsIn, units_in}
use Rattle.vdev_map.specs.Tables.{IsTable}
use Rattle.vdev_map.specs.declared.layout.Form.TheVariants.{Whole}
use Rattle.vdev_map.specs.declared.layout.Head.{Head}
use Rattle.vdev_map.specs.declared.layout.Layout.{Layout}
use Rattle.vdev_map.specs.declared.table.Table.{Table}
use Rattle.uber_ring.specs.Slots.{IsValid}
use Rattle.uber_ring.specs.TableFields.{HasTable}
use Rattle.uber_ring.specs.declared.slot.Uber.{Uber}
use Rattle.meta_store.specs.Groups.{HasGroup, IsSound, layout_of}
use Rattle.meta_store.specs.Heads.{IsWholeHead, IsWholeLimits, head_bytes, head_of}
use Rattle.meta_store.specs.Stores.{IsStore, IsOpened}

pub table_layout : (head : Head) (table : Table) → IsHead head → IsTable head table → IsLayout (layout_of head table)
table_layout head table limits fits =
    let vdevs = table.vdevs in
    let count = fits.vdevs.count in
    let last : ℕ = length vdevs - 1 in
    let all : take (last + 1) vdevs ≡ vdevs = take_all (last + 1) vdevs (omega (arith, count.least)) in
    let within : units_in (take (last + 1) vdevs) ≤ 4194304 = (fits.units last (omega (arith, count.least))).so_far in
    let rows = fits.metaslab_rows in
    record {
      flush = limits.flush;
      log = limits.log;
      vdevs = record {
        count = count;
        shifts = fits.shifts;
        units = λ v lt. (fits.units v lt).each;
        metaslabs = fits.metaslabs;
        units_in_all = subst (λ (vs : List VdevRow). units_in vs ≤ 4194304) all within;
        metaslabs_in_all = omega (arith, rows.one_each, rows.most);
        normal = fits.vdevs.normal;
      };
    }

-- the head of that layout is the one that was read
pub head_again : (head : Head) (table : Table) → head.form ≡ Whole → head ≡ head_of (layout_of head table)
head_again head table whole = λ i. record { form = whole i; flush = head.flush; log = head.log }

module _ (head : Head) (table : Table) (layout : Layout) (is : layout ≡ layout_of head table) (whole : IsWholeLimits head) where
  same_head : head ≡ head_of layout
  same_head = head_again head table whole.whole ∙ ap head_of (sym is)

  pub store_limits : IsTable head table → IsStore layout table
  store_limits fits = record {
    limits = subst IsLayout (sym is) (table_layout head table whole.limits fits);
    vdevs = sym (ap (λ (l : Layout). l.vdevs) is);
    fits = subst (λ (h : Head). IsTable h table) same_head fits;
  }

  pub store_opened : (image : List ℕ) (uber : Uber) → uber.group.0 < GROUPS_END → IsValid image uber → IsWholeHead (head_bytes image) head → HasTable image head uber table
      → ((id : MsId) → IsIn table.vdevs id → IsSound image table id) → IsOpened image uber layout table
  store_opened image uber early valid has_head has_table sound = record {
    early = early;
    has = subst (λ (h : Head). HasGroup image uber h table) same_head (record {
      valid = valid;
      rows = record { has_head = has_head; has_table = has_table };
      sound = sound;
    });
  }
