use Rattle.std.proofs.Common.{◌≡◌, Ok, Err, refl, subst, inl, rules}
use Rattle.zms_top.specs.Creations.{MakesPool, CreateEnds}
use Rattle.zms_top.proofs.CreateLemmas.{uncalled, refused_ends, made_ends}
use Rattle.zms_top.proofs.top.create.Goals as goal

pub returns-in_default : goal.returns-in_default
returns-in_default g c = CreateEnds.memory (inl (uncalled (g.D.Disk.state c.args.disk))) refl refl

pub returns-in-Ok-made : goal.returns-in-Ok-made
returns-in-Ok-made g c =
    let start = g.D.Disk.state c.args.disk in
    let end = g.D.Disk.state c.create-disk.result.0 in
    let made = c.create-disk.ensures in
    let all : MakesPool c.in-Ok.layout start end (g.D.Disk.faults c.args.disk) (g.D.Disk.faults c.create-disk.result.0) c.create-disk.result.1 = record {
      fault = made.fault;
      none = made.none;
      creating = λ tells. record {
        any_moment = made.any_moment tells;
        after_first = λ t rest is image left. made.after_first tells t rest is image left;
        spares = made.spares tells;
        pool = λ uber valid. made.pool uber tells valid;
      };
      done = made.done;
      memory = made.memory;
      steady = made.steady;
      failed = made.failed;
    } in
    let is : c.create-disk.result.1 ≡ Ok tt = search rules in
    let of_made = subst (λ m. MakesPool c.in-Ok.layout start end (g.D.Disk.faults c.args.disk) (g.D.Disk.faults c.create-disk.result.0) m) is all in
    let of_layout = subst (λ l. MakesPool l start end (g.D.Disk.faults c.args.disk) (g.D.Disk.faults c.create-disk.result.0) (Ok tt)) c.in-Ok.ensures.layout of_made in
    made_ends c.args.vdevs.now _ _ _ _ _ _ _ of_layout c.announce.ensures

pub returns : goal.returns
returns g c =
    let start = g.D.Disk.state c.args.disk in
    let end = g.D.Disk.state c.create-disk.result.0 in
    let made = c.create-disk.ensures in
    let all : MakesPool c.in-Ok.layout start end (g.D.Disk.faults c.args.disk) (g.D.Disk.faults c.create-disk.result.0) c.create-disk.result.1 = record {
      fault = made.fault;
      none = made.none;
      creating = λ tells. record {
        any_moment = made.any_moment tells;
        after_first = λ t rest is image left. made.after_first tells t rest is image left;
        spares = made.spares tells;
        pool = λ uber valid. made.pool uber tells valid;
      };
      done = made.done;
      memory = made.memory;
      steady = made.steady;
      failed = made.failed;
    } in
    let is : c.create-disk.result.1 ≡ Err c.in-Err.fault = c.in-Err.is in
    let of_made = subst (λ m. MakesPool c.in-Ok.layout start end (g.D.Disk.faults c.args.disk) (g.D.Disk.faults c.create-disk.result.0) m) is all in
    let of_layout = subst (λ l. MakesPool l start end (g.D.Disk.faults c.args.disk) (g.D.Disk.faults c.create-disk.result.0) (Err c.in-Err.fault)) c.in-Ok.ensures.layout of_made in
    refused_ends c.args.vdevs.now _ _ _ _ _ _ c.in-Err.fault c.refusal.result c.refusal.ensures of_layout refl
