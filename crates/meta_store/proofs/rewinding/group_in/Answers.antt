use Rattle.std.proofs.Common.{◌≡◌, List, ℕ, Option, subst}
use Rattle.zms_dev.specs.Disk.{bytes_of}
use Rattle.uber_ring.specs.Slots.{TheValid}
use Rattle.uber_ring.specs.declared.slot.Uber.{Uber}
use Rattle.meta_store.proofs.SlotGroups.{no_group, not_valid}
use Rattle.meta_store.proofs.rewinding.group_in.Goals as goal

pub returns-then-group-slot-clause-group : goal.returns-then-group-slot-clause-group
returns-then-group-slot-clause-group g c tells =
    no_group (bytes_of (g.D.Disk.state c.args.disk.now)) c.args.slot c.requires c.in_ok-group.group (c.in_ok-group.ensures.group tells) c.if-group-slot.true

pub returns-in-None-clause-group : goal.returns-in-None-clause-group
returns-in-None-clause-group g c tells =
    let image = bytes_of (g.D.Disk.state c.args.disk.now) in
    let group = c.in_ok-group.group in
    let rests = c.in_ok-group.ensures.rests tells in
    let found : TheValid image (λ uber. uber.group ≡ group) c.in_ok-valid.field-0 =
    subst (λ (b : List ℕ). TheValid b (λ uber. uber.group ≡ group) c.in_ok-valid.field-0) rests.contents (c.in_ok-valid.ensures.found rests.tells) in
    not_valid image c.args.slot c.requires group (c.in_ok-group.ensures.group tells) (subst (λ (o : Option Uber). TheValid image (λ uber. uber.group ≡ group) o) c.in-None.is found)
