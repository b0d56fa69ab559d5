use Rattle.std.proofs.Common.{◌≡◌, ℕ, List, [], ◌∷◌, ◌++◌, ◌∙◌, ap, refl, sym, subst}
use Rattle.ms_model.specs.declared.notes.ClassNote.TheVariants.{Pick}
use Rattle.class_model.specs.Replay.{LaneNote, IsVdevOf}
use Rattle.class_core.specs.Groups.{GroupState, group_at, IsPlaceOf}
use Rattle.class_core.specs.Classes.{ClassState}
use Rattle.class_core.specs.ClassInside.{origin_of}
use Rattle.class_model.specs.Legal.{allocator_of}
use Rattle.class_core.specs.Groups.{place_of, active_in, IsPick, Takes}
use Rattle.class_core.specs.Classes.{pair_of, finds_active, IsPicked}
use Rattle.class_core.proofs.Keeping.{renoted, read_back, kept_picked, picked_is}
use Rattle.class_core.proofs.cell.ClassCell.pick.Goals as goal

pub invariant_of-self-2 : goal.invariant_of-self-2
invariant_of-self-2 c =
    let o = origin_of c.self.inside.class c.self.inside.first.value.items in
    let h = c.self.inside.notes.items in
    let groups = c.self.inside.groups.items in
    let place = c.place_of-place.result in
    let got = c.in_ok-got.got in
    let x = c.index_mut-group.result.now in
    let note : LaneNote = (c.args.lane, Pick (allocator_of c.args.lane) c.args.kind c.args.vdev c.args.bytes c.args.start got) in
    let at : IsPlaceOf groups c.args.vdev place = subst (λ (l : List GroupState). IsPlaceOf l c.args.vdev place) c.deref.ensures.value c.place_of-place.ensures in
    let is : IsVdevOf o c.args.vdev = subst (λ (s : ClassState). IsVdevOf s.origin c.args.vdev) (sym c.self.view_is) c.requires.vdev in
    let there : x ≡ group_at groups place = read_back groups place x at.within c.index_mut-group.ensures.value in
    let pair : c.pair_of-pair.result ≡ place_of (pair_of c.args.lane c.args.kind) = c.pair_of-pair.ensures.place in
    let answer : IsPick (group_at groups place) (place_of (pair_of c.args.lane c.args.kind)) c.args.bytes c.args.start got =
    subst (λ (g : GroupState). IsPick g (place_of (pair_of c.args.lane c.args.kind)) c.args.bytes c.args.start got) there
    (subst (λ (k : ℕ). IsPick x k c.args.bytes c.args.start got) pair c.in_ok-got.ensures.answer) in
    let takes : Takes (group_at groups place) c.pick.new.self (place_of (pair_of c.args.lane c.args.kind)) got =
    subst (λ (g : GroupState). Takes g c.pick.new.self (place_of (pair_of c.args.lane c.args.kind)) got) there
    (subst (λ (k : ℕ). Takes x c.pick.new.self k got) pair c.in_ok-got.ensures.takes) in
    renoted o h c.push_reserved.new.self.items note groups c.self.inside.rotor place c.pick.new.self c.pick.new.self
    (c.push_reserved.ensures.items ∙ (ap (λ (l : List LaneNote). l ++ (c.args.lane, Pick c.allocator.result c.args.kind c.args.vdev c.args.bytes c.args.start got) ∷ []) c.reserve.ensures.items
    ∙ ap (λ (a : ℕ). h ++ (c.args.lane, Pick a c.args.kind c.args.vdev c.args.bytes c.args.start got) ∷ []) c.allocator.ensures.value))
    refl
    (kept_picked o h groups c.self.inside.rotor c.args.lane place c.self.invariant at.within c.requires.lane c.args.vdev c.args.bytes c.args.kind c.args.start got c.pick.new.self is at.vdev answer takes)

pub returns-clause-picked : goal.returns-clause-picked
returns-clause-picked c =
    let o = origin_of c.self.inside.class c.self.inside.first.value.items in
    let h = c.self.inside.notes.items in
    let groups = c.self.inside.groups.items in
    let place = c.place_of-place.result in
    let got = c.in_ok-got.got in
    let x = c.index_mut-group.result.now in
    let at : IsPlaceOf groups c.args.vdev place = subst (λ (l : List GroupState). IsPlaceOf l c.args.vdev place) c.deref.ensures.value c.place_of-place.ensures in
    let there : x ≡ group_at groups place = read_back groups place x at.within c.index_mut-group.ensures.value in
    let pair : c.pair_of-pair.result ≡ place_of (pair_of c.args.lane c.args.kind) = c.pair_of-pair.ensures.place in
    let answer : IsPick (group_at groups place) (place_of (pair_of c.args.lane c.args.kind)) c.args.bytes c.args.start got =
    subst (λ (g : GroupState). IsPick g (place_of (pair_of c.args.lane c.args.kind)) c.args.bytes c.args.start got) there
    (subst (λ (k : ℕ). IsPick x k c.args.bytes c.args.start got) pair c.in_ok-got.ensures.answer) in
    let was : c.finds_active-was_active.result ≡ finds_active c.args.start (active_in (group_at groups place) (place_of (pair_of c.args.lane c.args.kind))) =
    c.finds_active-was_active.ensures
    ∙ ap (finds_active c.args.start) (c.active.ensures ∙ (ap (λ (g : GroupState). active_in g c.pair_of-pair.result) there ∙ ap (active_in (group_at groups place)) pair)) in
    subst (λ (s : ClassState). IsPicked s c.args.lane c.args.kind c.args.vdev c.args.bytes c.args.start c.picked_of.result) c.self.view_is
    (picked_is o h groups c.self.inside.rotor c.args.lane place c.self.invariant at.within c.args.vdev c.args.bytes c.args.kind c.args.start got c.picked_of.result c.finds_active-was_active.result
    c.picked_of.ensures.got c.picked_of.ensures.was_active was at.vdev answer)
