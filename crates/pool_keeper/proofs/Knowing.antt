-- What the keeper knows of a metaslab along what it does.
use Rattle.std.proofs.Common.{◌≡◌, ◌≢◌, ℕ, ◌<◌, cond, Bool, true, false, List, [], ◌∷◌, ◌++◌, length, sym, ◌∙◌, ap, subst, arith}
use Rattle.std.proofs.lemmas.List.{append-nil}
use Rattle.std.proofs.lemmas.List.Sums.{fold-append}
use Rattle.std.specs.List.{fold}
use Rattle.std.specs.Prelude.{◌==◌}
use Rattle.lane_steps.proofs.Steps.{prefix_trans, quiet_both, follows_prefix}
use Rattle.turn_cell.specs.Notes.{IsPrefix, notes_at}
use Rattle.turn_cell.specs.Known.{Known}
use Rattle.turn_cell.specs.Lanes.{Step, Went, Follows, Quiet, look, noting, after, notes_of}
use Rattle.turn_passes.proofs.Pairs.{some_at}
use Rattle.ms_model.specs.Origin.{Origin}
use Rattle.ms_model.specs.Parts.{right_of, gate_right}
use Rattle.ms_model.specs.Units.{collected_by, collected_group, settled_by, settled_group}
use Rattle.ms_model.specs.Events.{Event, at_gate, at_metaslab, gate_steps, metaslab_steps}
use Rattle.ms_model.specs.declared.notes.Noted.{Noted}
use Rattle.ms_model.specs.declared.notes.GateNote.{GateNote}
use Rattle.ms_core.specs.declared.kept.Standing.{Standing}
use Rattle.ms_cell.specs.Turns.{origin_from}
use Rattle.ms_cell.specs.Passes.{Passes, fixed_of, seen_of, origin_in, seen_in}
use Rattle.ms_cell.specs.Journey.{Journey}
use Rattle.ms_cell.proofs.Groups.{settled_notes, collected_notes}
use Rattle.ms_cell.proofs.Lifting.{step_there, step_elsewhere}
use Rattle.ms_cell.proofs.JournalLaws.{own_notes}
use Rattle.pool_keeper.specs.Groups.{IsKnown}

-- a look changes nothing that a holder did

module _ {N F : Type 0} (right : N → ℕ) (lane : ℕ) where
  pub went_look : (h : List N) (c d : Known N F) → Went right lane (look h ∷ []) c d → Went right lane [] c d
  went_look h c d w =
      let then : Quiet right lane h d.seen = subst (λ (l : List N). Quiet right lane l d.seen) (append-nil h) w.follows.1.1 in
      record { at = w.at; fixed = w.fixed; idle = w.idle; own = w.own; follows = quiet_both right lane c.seen h d.seen w.follows.0 then }

one_or_none : (b : Bool) (right : ℕ) (h : List Noted) (c d : Known Noted Standing) → Went right_of right (cond b (look h ∷ []) []) c d → Went right_of right [] c d
one_or_none true right h c d w = went_look right_of right h c d w
one_or_none false right h c d w = w

pub look_at : (right number : ℕ) (h : List Noted) (p q : Passes) → Journey right (at_metaslab number (look h) ∷ []) p q → Journey right [] p q
look_at right number h p q w = record {
  gate = w.gate;
  count = w.count;
  each = record { at = λ k c d e f. one_or_none (number == k) right h c d (w.each.at k c d e f) };
}

pub look_gate : (right : ℕ) (h : List GateNote) (p q : Passes) → Journey right (at_gate (look h) ∷ []) p q → Journey right [] p q
look_gate right h p q w = record { gate = went_look gate_right right h p.gate q.gate w.gate; count = w.count; each = w.each }

-- what a holder has seen grows

module _ (right : ℕ) (es : List Event) (p q : Passes) (w : Journey right es p q) where
  pub gate_grows : IsPrefix p.gate.seen q.gate.seen
  gate_grows = follows_prefix gate_right right p.gate.seen (gate_steps es) q.gate.seen w.gate.follows

  module _ (k : ℕ) (lt : k < length p.metaslabs) where
    pub seen_grows : IsPrefix (seen_in p k) (seen_in q k)
    seen_grows =
        let c = some_at p.metaslabs k lt in
        let d = some_at q.metaslabs k (omega (arith, w.count)) in
        let here : IsPrefix c.0.seen d.0.seen = follows_prefix right_of right c.0.seen (metaslab_steps k es) d.0.seen (w.each.at k c.0 d.0 c.1 d.1).follows in
        subst (λ x. IsPrefix x (seen_in q k)) (sym (ap seen_of c.1)) (subst (λ x. IsPrefix c.0.seen x) (sym (ap seen_of d.1)) here)

    pub origin_same : origin_in q k ≡ origin_in p k
    origin_same =
        let c = some_at p.metaslabs k lt in
        let d = some_at q.metaslabs k (omega (arith, w.count)) in
        ap (λ x. origin_from (fixed_of x)) d.1 ∙ (ap origin_from (w.each.at k c.0 d.0 c.1 d.1).fixed ∙ ap (λ x. origin_from (fixed_of x)) (sym c.1))

-- one turn at a metaslab

pub notes_there : (k : ℕ) (h : List Noted) (n : Noted) → notes_of (metaslab_steps k (at_metaslab k (noting h n) ∷ [])) ≡ n ∷ []
notes_there k h n = ap notes_of (step_there k (noting h n))

pub notes_elsewhere : (k j : ℕ) (s : Step Noted) → j ≢ k → notes_of (metaslab_steps j (at_metaslab k s ∷ [])) ≡ []
notes_elsewhere k j s ne = ap notes_of (step_elsewhere k j s ne)

module _ (right k : ℕ) (s : Step Noted) (p q : Passes) (w : Journey right (at_metaslab k s ∷ []) p q) (lt : k < length p.metaslabs) where
  step_follows : Follows right_of right (seen_in p k) (s ∷ []) (seen_in q k)
  step_follows =
      let c = some_at p.metaslabs k lt in
      let d = some_at q.metaslabs k (omega (arith, w.count)) in
      let here : Follows right_of right c.0.seen (s ∷ []) d.0.seen = subst (λ (l : List (Step Noted)). Follows right_of right c.0.seen l d.0.seen) (step_there k s) (w.each.at k c.0 d.0 c.1 d.1).follows in
      subst (λ x. Follows right_of right x (s ∷ []) (seen_in q k)) (sym (ap seen_of c.1)) (subst (λ x. Follows right_of right c.0.seen (s ∷ []) x) (sym (ap seen_of d.1)) here)

  -- the journal that it found goes on from what was seen, by notes of others
  pub step_quiet : Quiet right_of right (seen_in p k) s.before
  step_quiet = step_follows.0

  pub step_found : IsPrefix (seen_in p k) s.before
  step_found = (step_follows.0.more, step_follows.0.is)

  -- and what it left was seen
  pub step_left : IsPrefix (after s) (seen_in q k)
  step_left = (step_follows.1.1.more, step_follows.1.1.is)

-- the keeper's own notes tell the groups

module _ (es : List Event) (p q : Passes) (w : Journey 0 es p q) (o : Origin) (k : ℕ) (lt : k < length p.metaslabs) (more : List Noted) (is : notes_of (metaslab_steps k es) ≡ more) where
  own : notes_at right_of 0 (seen_in q k) ≡ notes_at right_of 0 (seen_in p k) ++ more
  own = (own_notes 0 es p q w).1 k lt ∙ ap (λ (l : List Noted). notes_at right_of 0 (seen_in p k) ++ l) is

  pub collected_then : collected_group o (seen_in q k) ≡ fold (λ x (n : Noted). collected_by x n.act) (collected_group o (seen_in p k)) more
  collected_then =
      sym (collected_notes o (seen_in q k))
      ∙ (ap (fold (λ x (n : Noted). collected_by x n.act) o.opened) own
      ∙ (fold-append (λ x (n : Noted). collected_by x n.act) o.opened (notes_at right_of 0 (seen_in p k)) more
      ∙ ap (λ y. fold (λ x (n : Noted). collected_by x n.act) y more) (collected_notes o (seen_in p k))))

  pub settled_then : settled_group o (seen_in q k) ≡ fold (λ x (n : Noted). settled_by x n.act) (settled_group o (seen_in p k)) more
  settled_then =
      sym (settled_notes o (seen_in q k))
      ∙ (ap (fold (λ x (n : Noted). settled_by x n.act) o.opened) own
      ∙ (fold-append (λ x (n : Noted). settled_by x n.act) o.opened (notes_at right_of 0 (seen_in p k)) more
      ∙ ap (λ y. fold (λ x (n : Noted). settled_by x n.act) y more) (settled_notes o (seen_in p k))))

-- where it noted nothing it knows what it knew
pub known_still : (es : List Event) (p q : Passes) (o : Origin) (k s c : ℕ) (mark : List Noted) → Journey 0 es p q → k < length p.metaslabs → notes_of (metaslab_steps k es) ≡ [] → IsKnown s c o mark (seen_in p k)
    → IsKnown s c o mark (seen_in q k)
known_still es p q o k s c mark w lt none was = record {
  begins = prefix_trans mark (seen_in p k) (seen_in q k) was.begins (seen_grows 0 es p q w k lt);
  legal = was.legal;
  mark_settled = was.mark_settled;
  mark_collected = was.mark_collected;
  seen_settled = settled_then es p q w o k lt [] none ∙ was.seen_settled;
  seen_collected = collected_then es p q w o k lt [] none ∙ was.seen_collected;
}

-- and where it noted nothing of groups
pub known_along : (es : List Event) (p q : Passes) (o : Origin) (k s c : ℕ) (mark more : List Noted) → Journey 0 es p q → k < length p.metaslabs → notes_of (metaslab_steps k es) ≡ more
    → ((x : ℕ) → (fold (λ y (n : Noted). collected_by y n.act) x more ≡ x) × (fold (λ y (n : Noted). settled_by y n.act) x more ≡ x)) → IsKnown s c o mark (seen_in p k) → IsKnown s c o mark (seen_in q k)
known_along es p q o k s c mark more w lt is quiet was = record {
  begins = prefix_trans mark (seen_in p k) (seen_in q k) was.begins (seen_grows 0 es p q w k lt);
  legal = was.legal;
  mark_settled = was.mark_settled;
  mark_collected = was.mark_collected;
  seen_settled = settled_then es p q w o k lt more is ∙ ((quiet (settled_group o (seen_in p k))).1 ∙ was.seen_settled);
  seen_collected = collected_then es p q w o k lt more is ∙ ((quiet (collected_group o (seen_in p k))).0 ∙ was.seen_collected);
}
