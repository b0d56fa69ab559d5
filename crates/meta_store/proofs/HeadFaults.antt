-- The first fault of a head of version 0.
use Rattle.std.proofs.Common.{◌≡◌, ◌≢◌, ◌⊎◌, inl, inr, ℕ, ◌<◌, ◌≤◌, List, refl, ◌∙◌, ap, subst, arith}
use Rattle.zms_units.specs.Limits.{GROUPS_END}
use Rattle.vdev_map.specs.declared.layout.Form.{Form}
use Rattle.vdev_map.specs.declared.layout.Form.TheVariants.{Logged}
use Rattle.vdev_map.specs.declared.layout.Head.{Head}
use Rattle.vdev_map.specs.declared.layout.Part.{Part}
use Rattle.vdev_map.specs.declared.layout.Part.TheVariants.{Head as HeadPart}
use Rattle.uber_ring.specs.Heads.{HeadField, IsHeadOf, IsHeadRight, ShowsHeadFault, version_of, head_place}
use Rattle.uber_ring.specs.Numbers.{number_at}
use Rattle.uber_ring.specs.declared.head.HeadFault.{HeadFault}
use Rattle.uber_ring.specs.declared.head.HeadFault.TheVariants.{HeadDamaged, Malformed}
use Rattle.uber_ring.specs.declared.slot.Uber.{Uber}
use Rattle.meta_store.specs.Causes.{ShowsOf}
use Rattle.meta_store.specs.Faults.{of_head}
use Rattle.meta_store.specs.Heads.{head_bytes, IsFieldRight, IsFieldWrongAt, IsNoHead}

module _ (bytes : List ℕ) where
  -- only the text comes before the version
  text_before : IsHeadRight bytes HeadField.text → (other : HeadField) → head_place other < 8 → IsFieldRight bytes other
  text_before text HeadField.text lt = record { right = text; version = λ e. absurd (cc) }
  text_before text HeadField.version lt = absurd (omega arith)
  text_before text HeadField.flush lt = absurd (omega arith)
  text_before text HeadField.log lt = absurd (omega arith)
  text_before text HeadField.zeros lt = absurd (omega arith)

  version_wrong : IsHeadRight bytes HeadField.text → number_at bytes 8 4 ≢ 0 → IsFieldWrongAt bytes 8
  version_wrong text other = record {
    field = HeadField.version;
    begins = refl;
    broken = λ right. other (right.version refl);
    before = text_before text;
  }

  -- a head that is right, of the other version
  pub logged_wrong : (head : Head) → IsHeadOf bytes head → head.form ≡ Logged → IsNoHead bytes (Malformed HeadPart 8)
  logged_wrong head is logged =
      let one : number_at bytes 8 4 ≡ 1 = is.version ∙ ap (λ (form : Form). version_of form) logged in
      (refl, is.digest, version_wrong is.text (λ zero. omega arith))

  module _ (part : Part) (at : ℕ) (shows : ShowsHeadFault bytes (Malformed part at)) where
    -- the version is wrong, and the fault lies behind it
    pub version_first : 8 < at → number_at bytes 8 4 ≢ 0 → IsNoHead bytes (Malformed HeadPart 8)
    version_first behind other =
        let wrong = shows.2 in
        (refl, shows.1, version_wrong (wrong.before HeadField.text (omega (arith, wrong.begins))) other)

    -- it is not, or the fault comes no later
    pub same_fault : (at ≤ 8) ⊎ (number_at bytes 8 4 ≡ 0) → IsNoHead bytes (Malformed part at)
    same_fault either =
        let wrong = shows.2 in (
          shows.0,
          shows.1,
          record {
            field = wrong.field;
            begins = wrong.begins;
            broken = λ right. wrong.broken right.right;
            before = λ other lt. record { right = wrong.before other lt; version = λ e. zero_version other lt e either };
          },
        )
      where
        zero_version : (other : HeadField) → head_place other < head_place (shows.2).field → other ≡ HeadField.version → (at ≤ 8) ⊎ (number_at bytes 8 4 ≡ 0) → number_at bytes 8 4 ≡ 0
        zero_version other lt e (inl early) = let place : head_place other ≡ 8 = ap head_place e in let begins = (shows.2).begins in absurd (omega arith)
        zero_version other lt e (inr zero) = zero

-- the head's fault is the group's cause
pub head_cause : (image bytes : List ℕ) (uber : Uber) (fault : HeadFault) → bytes ≡ head_bytes image → uber.group.0 < GROUPS_END → IsNoHead bytes fault → ShowsOf image uber (of_head fault)
head_cause image bytes uber (HeadDamaged kept found) same early shows = (early, subst (λ (b : List ℕ). IsNoHead b (HeadDamaged kept found)) same shows)
head_cause image bytes uber (Malformed part at) same early shows = (early, inl (subst (λ (b : List ℕ). IsNoHead b (Malformed part at)) same shows))
