-- Journeys of a lane: they join, and what a lane stands on stays.
use Rattle.std.proofs.Common.{◌≡◌, ℕ, zero, suc, List, [], ◌∷◌, ◌++◌, length, refl, sym, ap, ◌∙◌, subst, arith, Option, None, Some}
use Rattle.std.specs.Prelude.{slice_get, map}
use Rattle.turn_cell.specs.Known.{Known}
use Rattle.ms_cell.specs.Turns.{Turns}
use Rattle.ms_cell.proofs.JournalLaws.{no_journey, journeys_join, stays_seated}
use Rattle.class_group.proofs.JournalLaws.{no_journey as class_no_journey, journeys_join as class_journeys_join, stays_seated as class_stays_seated}
use Rattle.lane_passes.specs.Lanes.{LaneEvent, at_cell, at_class, cell_events, class_steps, fixed_at, ground_of, IsSeated, Journey}
use Rattle.lane_passes.specs.Laws.{NoJourney, JourneysJoin, EventsJoin, StaysSeated, GroundsStay}
use Rattle.lane_passes.specs.declared.passes.LanePasses.{LanePasses}
use Rattle.ms_cell.specs.Journey.{Journey as CellJourney}
use Rattle.class_group.specs.Journey.{ClassStep, Journey as ClassJourney}
use Rattle.ms_model.specs.Events.{Event}
use Rattle.ms_core.specs.declared.kept.Standing.{Standing}
use Rattle.class_model.specs.declared.origin.ClassOrigin.{ClassOrigin}

pub cell_events-append : (es fs : List LaneEvent) → cell_events (es ++ fs) ≡ cell_events es ++ cell_events fs
cell_events-append [] fs = refl
cell_events-append (at_cell e ∷ es) fs = ap (λ (l : List Event). e ∷ l) (cell_events-append es fs)
cell_events-append (at_class s ∷ es) fs = cell_events-append es fs

pub class_steps-append : (es fs : List LaneEvent) → class_steps (es ++ fs) ≡ class_steps es ++ class_steps fs
class_steps-append [] fs = refl
class_steps-append (at_cell e ∷ es) fs = class_steps-append es fs
class_steps-append (at_class s ∷ es) fs = ap (λ (l : List ClassStep). s ∷ l) (class_steps-append es fs)

pub events_join : EventsJoin
events_join es fs = (cell_events-append es fs, class_steps-append es fs)

pub lane_no_journey : (R : Type 0) → NoJourney R
lane_no_journey R t c p s = record { lane = refl; cells = no_journey p.lane t p.cells s.cells; classes = class_no_journey p.lane c p.classes s.classes }

pub lane_journeys_join : (R : Type 0) → JourneysJoin R
lane_journeys_join R es fs p q r v w = record {
  lane = w.lane ∙ v.lane;
  cells =
      subst (λ (l : List Event). CellJourney p.lane l p.cells r.cells) (sym (cell_events-append es fs))
      (journeys_join p.lane (cell_events es) (cell_events fs) p.cells q.cells r.cells v.cells (subst (λ (n : ℕ). CellJourney n (cell_events fs) q.cells r.cells) v.lane w.cells));
  classes =
      subst (λ (l : List ClassStep). ClassJourney p.lane l p.classes r.classes) (sym (class_steps-append es fs))
      (class_journeys_join p.lane (class_steps es) (class_steps fs) p.classes q.classes r.classes v.classes (subst (λ (n : ℕ). ClassJourney n (class_steps fs) q.classes r.classes) v.lane w.classes));
}

pub lane_stays_seated : (R : Type 0) → StaysSeated R
lane_stays_seated R t c es p q s w =
    let at : IsSeated t c (record q { lane = p.lane }) = record {
      lane = s.lane;
      cells = stays_seated p.lane t (cell_events es) p.cells q.cells s.cells w.cells;
      classes = class_stays_seated p.lane c (class_steps es) p.classes q.classes s.classes w.classes;
      one = s.one;
    } in
    subst (λ (n : ℕ). IsSeated t c (record q { lane = n })) (sym w.lane) at

module _ {N F : Type 0} where
  -- passes that stand for the same, place by place
  pub fixed_same : (p q : List (Known N F)) → length q ≡ length p → ((k : ℕ) (c d : Known N F) → slice_get p k ≡ Some c → slice_get q k ≡ Some d → d.fixed ≡ c.fixed)
      → map (λ (c : Known N F). c.fixed) q ≡ map (λ (c : Known N F). c.fixed) p
  fixed_same [] [] e each = refl
  fixed_same [] (d ∷ q) e each = absurd (omega (arith, e))
  fixed_same (c ∷ p) [] e each = absurd (omega (arith, e))
  fixed_same (c ∷ p) (d ∷ q) e each =
      ap (λ (x : Option F). x ∷ map (λ (y : Known N F). y.fixed) q) (each zero c d refl refl)
      ∙ ap (λ (l : List (Option F)). c.fixed ∷ l) (fixed_same p q (omega (arith, e)) (λ k x y a b. each (suc k) x y a b))

  abbrev pub fixed_in : Option (Known N F) → Option F
  fixed_in None = None
  fixed_in (Some c) = c.fixed

  pub fixed_there : (p : List (Known N F)) (k : ℕ) → fixed_at (slice_get (map (λ (c : Known N F). c.fixed) p) k) ≡ fixed_in (slice_get p k)
  fixed_there [] k = refl
  fixed_there (x ∷ p) zero = refl
  fixed_there (x ∷ p) (suc k) = fixed_there p k

module _ {R : Type 0} (t : Turns) (es : List LaneEvent) (p q : LanePasses R) (w : Journey es p q) where
  metaslabs_stay : map (λ c. c.fixed) q.cells.metaslabs ≡ map (λ c. c.fixed) p.cells.metaslabs
  metaslabs_stay = fixed_same p.cells.metaslabs q.cells.metaslabs w.cells.count (λ k c d e f. (w.cells.each.at k c d e f).fixed)

  classes_stay : map (λ c. c.fixed) q.classes ≡ map (λ c. c.fixed) p.classes
  classes_stay = fixed_same p.classes q.classes w.classes.count (λ k c d e f. (w.classes.each.at k c d e f).fixed)

  ground_stays : ground_of t q ≡ ground_of t p
  ground_stays =
      ap (λ (l : List (Option Standing)). record { vdevs = t.vdevs; opened = t.opened; metaslabs = l; classes = map (λ c. c.fixed) q.classes }) metaslabs_stay
      ∙ ap (λ (l : List (Option ClassOrigin)). record { vdevs = t.vdevs; opened = t.opened; metaslabs = map (λ c. c.fixed) p.cells.metaslabs; classes = l }) classes_stay

pub lane_grounds_stay : (R : Type 0) → GroundsStay R
lane_grounds_stay R t es p q w = ground_stays t es p q w
