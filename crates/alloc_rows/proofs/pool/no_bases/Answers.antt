use Rattle.std.proofs.Common.{◌≡◌, List, [], subst, sym, arith}
use Rattle.std.specs.List.{All}
use Rattle.std.proofs.lemmas.List.Elements.{All-push}
use Rattle.zms_units.specs.declared.segments.Seg.{Seg}
use Rattle.alloc_rows.proofs.pool.no_bases.Goals as goal

pub loop-preserved : goal.loop-preserved
loop-preserved c = record {
  count = omega (arith, c.loop.invariant.count, c.push_reserved.ensures.len);
  room = omega (arith, c.loop.invariant.room, c.push_reserved.ensures.capacity);
  empty = subst (λ (l : List (List Seg)). All (λ base. base ≡ []) l) (sym c.push_reserved.ensures.items) (All-push (λ base. base ≡ []) c.loop.bases.items _ c.loop.invariant.empty c.new.ensures);
}
