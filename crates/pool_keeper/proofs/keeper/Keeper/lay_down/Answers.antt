use Rattle.std.proofs.Common.{◌≡◌, ◌+◌, None, sym, ◌∙◌, ap, subst}
use Rattle.zms_dev.specs.Causes.{one_more}
use Rattle.zms_dev.proofs.Sparing.{spares_less}
use Rattle.zms_units.specs.declared.places.MsId.{MsId}
use Rattle.zms_units.specs.declared.faults.Damage.{Damage}
use Rattle.meta_store.specs.Batches.{AreBatches, AreBacked}
use Rattle.meta_store.specs.declared.commit_faults.CommitFault.TheVariants.{Failed, Memory, Damaged}
use Rattle.pool_keeper.specs.History.{contents_of}
use Rattle.pool_keeper.specs.Keeper.{history_of}
use Rattle.pool_keeper.specs.Notes.{IsCounted}
use Rattle.pool_keeper.proofs.Results.{err_of, not_err_of, ok_no_err}
use Rattle.pool_keeper.proofs.Laying.{fits, resting, telling, finding, backed, then_committed, then_uncommitted, counted_next, not_damage}
use Rattle.pool_keeper.proofs.CommitImages.{beside_next, adds_of, some_none}
use Rattle.pool_keeper.proofs.keeper.Keeper.lay_down.Goals as goal

pub commit-requires-clause-batches : goal.commit-requires-clause-batches
commit-requires-clause-batches g c =
    subst (AreBatches c.args.self.now.store.table) (sym c.deref.ensures.value)
    (fits g.D.Disk.state g.D.Disk.faults c.args._cells.now c.args.self.now c.requires.of c.requires.sound c.requires.gathered c.requires.idle c.layout.ensures.table.vdevs)

pub returns-in-Ok-clause-laid : goal.returns-in-Ok-clause-laid
returns-in-Ok-clause-laid g c = λ s.
    let k = c.args.self.now in
    let did = c.in-Ok.ensures in
    let table = rw c.deref.ensures.value at did.table in
    let counted : g.D.Disk.faults k.store.disk ≡ g.D.Disk.faults k.start.store.value.disk = subst (IsCounted (g.D.Disk.faults k.start.store.value.disk) (g.D.Disk.faults k.store.disk)) c.requires.idle s.counts in
    record {
      layout = did.layout;
      group = table.group;
      counted = counted_next g.D.Disk.state g.D.Disk.faults c.args._cells.now k c.requires.of s c.requires.gathered c.requires.idle k.store.layout c.commit.new.self.table c.layout.ensures.table.vdevs table;
      counts = did.steady (ok_no_err _ Failed) ∙ counted;
      device = λ ready.
          let rests = resting g.D.Disk.state g.D.Disk.faults c.args._cells.now k c.requires.of s c.requires.gathered c.requires.idle ready in
          let tells = telling g.D.Disk.state g.D.Disk.faults c.args._cells.now k c.requires.of s c.requires.gathered c.requires.idle ready in
          let found = finding g.D.Disk.state g.D.Disk.faults c.args._cells.now k c.requires.of s c.requires.gathered c.requires.idle ready (g.met.D.Disk.reads_as k.store.disk tells) in
          let backs = backed g.D.Disk.state g.D.Disk.faults c.args._cells.now k c.requires.of s c.requires.gathered c.requires.idle ready in
          let run = rw c.deref.ensures.value at did.any_moment rests in
          let done = rw c.deref.ensures.value at did.done rests in
          then_committed g.D.Disk.state g.D.Disk.faults c.args._cells.now k c.requires.of s c.requires.gathered c.requires.idle ready c.commit.new.self.disk run (did.tells tells)
          (spares_less _ _ _ _ (beside_next k.store.layout k.store.table.vdevs (k.store.table.group.0 + 1) c.layout.ensures.table.vdevs) (did.spares tells)) (adds_of 4 _ _ (did.flushes tells))
          c.commit.new.self.layout c.commit.new.self.table did.layout done
          (did.at_rest rests (contents_of (history_of k.start s.journal) k.store.table.group.0) found (subst (AreBacked (contents_of (history_of k.start s.journal) k.store.table.group.0)) (sym c.deref.ensures.value) backs));
    }

memory_failed : Memory ≡ Failed → ⊥
memory_failed e = cc

pub returns-in-Err-Memory-clause-laid : goal.returns-in-Err-Memory-clause-laid
returns-in-Err-Memory-clause-laid g c = λ s.
    let k = c.args.self.now in
    let did = c.in-Err-Memory.ensures in
    let counted : g.D.Disk.faults k.store.disk ≡ g.D.Disk.faults k.start.store.value.disk = subst (IsCounted (g.D.Disk.faults k.start.store.value.disk) (g.D.Disk.faults k.store.disk)) c.requires.idle s.counts in
    record {
      layout = did.layout;
      table = did.same;
      counts = c.commit.ensures.steady (not_err_of c.commit.result c.in-Err-Memory.field-0 Failed c.in-Err-Memory.is (λ e. memory_failed (sym c.in-Err-Memory.field-0-is ∙ e))) ∙ counted;
      device = λ ready.
          let rests = resting g.D.Disk.state g.D.Disk.faults c.args._cells.now k c.requires.of s c.requires.gathered c.requires.idle ready in
          let tells = telling g.D.Disk.state g.D.Disk.faults c.args._cells.now k c.requires.of s c.requires.gathered c.requires.idle ready in
          let run = rw c.deref.ensures.value at did.any_moment rests in
          then_uncommitted g.D.Disk.state g.D.Disk.faults c.args._cells.now k c.requires.of s c.requires.gathered c.requires.idle ready c.commit.new.self.disk run (did.tells tells)
          (spares_less _ _ _ _ (beside_next k.store.layout k.store.table.vdevs (k.store.table.group.0 + 1) c.layout.ensures.table.vdevs) (did.spares tells)) (adds_of 4 _ _ (did.flushes tells))
          c.commit.new.self.layout c.commit.new.self.table None did.layout did.same (λ bad. bad) (λ image may. g.met.D.Disk.counts_now c.commit.new.self.disk _ image run.later may)
          (λ _. c.commit.ensures.memory rests (err_of c.commit.result c.in-Err-Memory.field-0 Memory c.in-Err-Memory.is c.in-Err-Memory.field-0-is));
    }

pub returns-in-Err-Failed-clause-laid : goal.returns-in-Err-Failed-clause-laid
returns-in-Err-Failed-clause-laid g c = λ s.
    let k = c.args.self.now in
    let did = c.in-Err-Failed.ensures in
    let counted : g.D.Disk.faults k.store.disk ≡ g.D.Disk.faults k.start.store.value.disk = subst (IsCounted (g.D.Disk.faults k.start.store.value.disk) (g.D.Disk.faults k.store.disk)) c.requires.idle s.counts in
    record {
      layout = did.layout;
      table = did.same;
      counts = (
        c.faults-before.ensures ∙ counted,
        (
          c.faults-after.ensures ∙ (c.commit.ensures.failed (err_of c.commit.result c.in-Err-Failed.field-0 Failed c.in-Err-Failed.is c.in-Err-Failed.field-0-is) ∙ ap one_more (sym c.faults-before.ensures)),
          sym c.faults-after.ensures,
        ),
      );
      device = λ ready.
          let rests = resting g.D.Disk.state g.D.Disk.faults c.args._cells.now k c.requires.of s c.requires.gathered c.requires.idle ready in
          let tells = telling g.D.Disk.state g.D.Disk.faults c.args._cells.now k c.requires.of s c.requires.gathered c.requires.idle ready in
          let run = rw c.deref.ensures.value at did.any_moment rests in
          then_uncommitted g.D.Disk.state g.D.Disk.faults c.args._cells.now k c.requires.of s c.requires.gathered c.requires.idle ready c.commit.new.self.disk run (did.tells tells)
          (spares_less _ _ _ _ (beside_next k.store.layout k.store.table.vdevs (k.store.table.group.0 + 1) c.layout.ensures.table.vdevs) (did.spares tells)) (adds_of 4 _ _ (did.flushes tells))
          c.commit.new.self.layout c.commit.new.self.table _ did.layout did.same (λ bad. bad) (λ image may. g.met.D.Disk.counts_now c.commit.new.self.disk _ image run.later may)
          (λ none. absurd (some_none _ none));
    }

damaged_failed : (id : MsId) (damage : Damage) → Damaged id damage ≡ Failed → ⊥
damaged_failed id damage e = cc

pub returns-in-Err-Damaged-clause-laid : goal.returns-in-Err-Damaged-clause-laid
returns-in-Err-Damaged-clause-laid g c = λ s.
    let k = c.args.self.now in
    let did = c.in-Err-Damaged.ensures in
    let counted : g.D.Disk.faults k.store.disk ≡ g.D.Disk.faults k.start.store.value.disk = subst (IsCounted (g.D.Disk.faults k.start.store.value.disk) (g.D.Disk.faults k.store.disk)) c.requires.idle s.counts in
    record {
      layout = did.layout;
      table = did.same;
      counts = c.commit.ensures.steady (not_err_of c.commit.result c.in-Err-Damaged.field-0 Failed c.in-Err-Damaged.is (λ e. damaged_failed c.in-Err-Damaged.id c.in-Err-Damaged.damage (sym c.in-Err-Damaged.field-0-is ∙ e))) ∙ counted;
      device = λ ready.
          let rests = resting g.D.Disk.state g.D.Disk.faults c.args._cells.now k c.requires.of s c.requires.gathered c.requires.idle ready in
          absurd (not_damage c.in-Err-Damaged.id c.in-Err-Damaged.damage c.in-Err-Damaged.field-0 c.in-Err-Damaged.field-0-is (did.honest rests));
    }
