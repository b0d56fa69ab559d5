use Rattle.std.proofs.Common.{◌≡◌, ◌∙◌, Bool, true, false, take, get_or, refl, sym, ap, arith}
use Rattle.ms_core.proofs.Words.{◌||◌, ◌&&◌, not, take_all, list_any_more, Seg, covers, covered, covers_yes, covers_high, or_false, rising_at, rising_front}
use Rattle.ms_core.proofs.walking.add_gaps.Goals as goal

abbrev none : Seg
none = record { start = 0; count = 0 }

and_true : (b : Bool) → (b && true) ≡ b
and_true true = refl
and_true false = refl

-- one segment more is taken away
less : (c a b : Bool) → (not c && (a && not b)) ≡ (a && not (b || c))
less true true true = refl
less true true false = refl
less true false b = refl
less false a true = refl
less false true false = refl
less false false false = refl

pub add-requires-clause-segment : goal.add-requires-clause-segment
add-requires-clause-segment g c = record { some = c.requires.units.0; within = omega (arith, c.requires.units.1) }

pub loop-seg-init : goal.loop-seg-init
loop-seg-init g c = record {
  gaps = λ u. c.add.ensures.adds.added u ∙ (ap (λ b. covers (record { start = 0; count = c.args.units }) u || b) (c.requires.empty u) ∙ (or_false _ ∙ sym (and_true _)));
  spare = omega (arith, c.add.ensures.spare);
  memory = c.add.ensures.memory;
  others = c.add.ensures.adds.others;
}

pub remove-requires-clause-segment : goal.remove-requires-clause-segment
remove-requires-clause-segment g c =
    let at = rising_at 0 c.args.units c.args.held.now c.loop-seg.seg-index none c.requires.segs c.loop-seg-test.true in
    record { some = at.1; within = omega (arith, at.2, c.requires.units.1) }

pub remove-requires-clause-covered : goal.remove-requires-clause-covered
remove-requires-clause-covered g c = λ u there.
    let at = rising_at 0 c.args.units c.args.held.now c.loop-seg.seg-index none c.requires.segs c.loop-seg-test.true in
    c.loop-seg.invariant.gaps u
    ∙ rw (covers_yes (record { start = 0; count = c.args.units }) u (omega arith) (omega (arith, at.2, there.1)), rising_front 0 c.args.units c.args.held.now c.loop-seg.seg-index none c.requires.segs c.loop-seg-test.true u there.0) refl

pub remove-requires-clause-spare : goal.remove-requires-clause-spare
remove-requires-clause-spare g c = omega (arith, c.loop-seg.invariant.spare, c.requires.spare)

pub loop-seg-preserved : goal.loop-seg-preserved
loop-seg-preserved g c =
    let so_far = c.loop-seg.invariant in
    let held = c.args.held.now in
    let i = c.loop-seg.seg-index in
    record {
      gaps = λ u. c.remove.ensures.removed u
          ∙ (ap (λ b. not (covers (get_or held i none) u) && b) (so_far.gaps u)
          ∙ (less (covers (get_or held i none) u) (covers (record { start = 0; count = c.args.units }) u) (covered (take i held) u)
          ∙ ap (λ b. covers (record { start = 0; count = c.args.units }) u && not b) (sym (list_any_more (λ s. covers s u) held i none c.loop-seg-test.true))));
      spare = omega (arith, so_far.spare, c.remove.ensures.spare);
      memory = c.remove.ensures.memory ∙ so_far.memory;
      others = λ tree u d. c.remove.ensures.others tree u d ∙ so_far.others tree u d;
    }

pub returns-clause-fills : goal.returns-clause-fills
returns-clause-fills g c =
    let all : Seg = record { start = 0; count = c.args.units } in
    record {
      gaps = λ u l. c.loop-seg.invariant.gaps u ∙ rw (covers_yes all u (omega arith) (omega arith), take_all c.loop-seg.seg-index c.args.held.now c.loop-seg-test.false) refl;
      above = λ u l. c.loop-seg.invariant.gaps u ∙ rw (covers_high all u (omega arith)) refl;
      others = c.loop-seg.invariant.others;
    }
