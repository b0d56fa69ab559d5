use Rattle.std.proofs.Common.{◌<◌, ◌^◌, List, refl, subst, sym, ap, ◌∙◌, arith}
use Rattle.zms_units.specs.declared.segments.Seg.{Seg}
use Rattle.zms_units.specs.Runs.{AreMaximalRuns}
use Rattle.zms_units.specs.Segments.{total_of}
use Rattle.zms_units.proofs.Counting.{rising_total}
use Rattle.space_map.specs.Replay.{is_held}
use Rattle.space_map.specs.declared.places.Found.{Found}
use Rattle.meta_store.specs.Finding.{AreWithin, IsWordsFault}
use Rattle.meta_store.proofs.Handing.{handed_on}
use Rattle.meta_store.proofs.HeldRuns.{decodes_within, maximal_count}
use Rattle.meta_store.proofs.runs.runs_of.Goals as goal

pub returns-in_err-found-clause-fault : goal.returns-in_err-found-clause-fault
returns-in_err-found-clause-fault c =
    handed_on c.from_residual.result c.in_err-found.field-0.0 (IsWordsFault c.args.id c.args.words.now c.args.units c.args.held) c.from_residual.ensures.1 (c.in_err-found.ensures.fault c.args.held)

pub gathered-requires-clause-within : goal.gathered-requires-clause-within
gathered-requires-clause-within c =
    subst (λ (found : List Found). AreWithin c.args.units found) (sym c.deref.ensures.value)
    (decodes_within c.args.units c.args.words.now c.in_ok-found.found.items c.in_ok-found.ensures.ok)

pub unit_count-requires : goal.unit_count-requires
unit_count-requires c =
    let rising = c.in_ok-runs.ensures.rising in
    let few : total_of c.in_ok-runs.runs.items < 2 ^ 32 = omega (arith, rising_total 0 c.args.units c.in_ok-runs.runs.items rising, c.requires) in
    subst (λ (runs : List Seg). total_of runs < 2 ^ 32) (sym c.deref-2.ensures.value) few

pub returns-then-count-held-clause-fault : goal.returns-then-count-held-clause-fault
returns-then-count-held-clause-fault c =
    let found = c.in_ok-found.found.items in
    let all : AreMaximalRuns (is_held found) c.args.units c.in_ok-runs.runs.items = subst (λ (f : List Found). AreMaximalRuns (is_held f) c.args.units c.in_ok-runs.runs.items) c.deref.ensures.value c.in_ok-runs.ensures in (
      refl,
      (
        refl,
        (
          record {
            found = found;
            decodes = c.in_ok-found.ensures.ok;
            held = maximal_count (is_held found) c.args.units c.in_ok-runs.runs.items all ∙ sym (ap total_of c.deref-2.ensures.value) ∙ sym c.unit_count.ensures ∙ sym c.from-count.ensures;
          },
          c.if-count-held.true,
        ),
      ),
    )
