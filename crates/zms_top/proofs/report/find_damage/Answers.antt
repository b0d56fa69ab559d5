use Rattle.std.proofs.Common.{◌≡◌, ℕ, ◌<◌, ◌≤◌, List, [], ◌∷◌, length, get_or, drop, zero, suc, refl, sym, ◌∙◌, ap, add-one, arith}
use Rattle.std.specs.Prelude.{None, Some}
use Rattle.zms_top.specs.Ends.{damage_in, first_of, first_damage}
use Rattle.zms_top.specs.declared.replies.Reply.{Reply}
use Rattle.zms_top.proofs.report.find_damage.Goals as goal

at_one : (rs : List Reply) (k : ℕ) (r : Reply) → k < length rs → r ≡ get_or rs k r → first_damage (drop k rs) ≡ first_of (damage_in r.answer) (first_damage (drop (suc k) rs))
at_one [] k r lt at = absurd (omega (arith, lt))
at_one (x ∷ rs) zero r lt at = ap (λ y. first_of (damage_in y.answer) (first_damage rs)) (sym at)
at_one (x ∷ rs) (suc k) r lt at = at_one rs k r (omega (arith, lt)) at

at_end : (rs : List Reply) (k : ℕ) → length rs ≤ k → first_damage (drop k rs) ≡ None
at_end [] zero le = refl
at_end [] (suc k) le = refl
at_end (x ∷ rs) zero le = absurd (omega (arith, le))
at_end (x ∷ rs) (suc k) le = at_end rs k (omega (arith, le))

pub loop-reply-preserved : goal.loop-reply-preserved
loop-reply-preserved c =
    let one = at_one c.args.replies.now c.loop-reply.reply-index c.reply-item.result c.loop-reply-test.true c.reply-item.is in
    let none : damage_in c.reply-item.result.answer ≡ None = sym c.damage_of.ensures ∙ c.in_default.is in
    rw add-one (sym (one ∙ ap (λ d. first_of d (first_damage (drop (suc c.loop-reply.reply-index) c.args.replies.now))) none) ∙ c.loop-reply.invariant)

pub returns-in-Some : goal.returns-in-Some
returns-in-Some c =
    let one = at_one c.args.replies.now c.loop-reply.reply-index c.reply-item.result c.loop-reply-test.true c.reply-item.is in
    let some : damage_in c.reply-item.result.answer ≡ Some c.in-Some.cause = sym c.damage_of.ensures ∙ c.in-Some.is in
    sym (one ∙ ap (λ d. first_of d (first_damage (drop (suc c.loop-reply.reply-index) c.args.replies.now))) some) ∙ c.loop-reply.invariant

pub returns : goal.returns
returns c = sym (at_end _ _ c.loop-reply-test.false) ∙ c.loop-reply.invariant
