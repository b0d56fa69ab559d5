use Rattle.std.proofs.Common.{refl, sym, ◌∙◌, arith}
use Rattle.uber_ring.proofs.TableRows.{has_normal, has_no_normal}
use Rattle.uber_ring.proofs.front.has_normal.Goals as goal

pub returns-then-u32_at-eq0 : goal.returns-then-u32_at-eq0
returns-then-u32_at-eq0 c = (λ yes. has_normal c.args.bytes.now c.loop-v.v (omega arith) (sym c.u32_at.ensures ∙ c.if-u32_at-eq0.true), λ has. refl)

pub returns : goal.returns
returns c = (λ no. cc, λ has. absurd (has_no_normal c.args.bytes.now (λ v lt. c.loop-v.invariant v (omega arith)) has))
