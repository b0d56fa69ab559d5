use Rattle.std.proofs.Common.{◌≡◌, ℕ, length, set, arith, List, [], ◌∷◌, ◌++◌, ◌∙◌, ap, sym, subst}
use Rattle.std.proofs.lemmas.Grind.{common_steps}
use Rattle.ms_model.specs.declared.notes.ClassNote.TheVariants.{Granted}
use Rattle.class_model.specs.Replay.{LaneNote, IsIn}
use Rattle.class_core.specs.Groups.{GroupState, group_at, IsPlaceOf}
use Rattle.class_core.specs.Classes.{ClassState}
use Rattle.class_core.specs.ClassInside.{origin_of, IsKept}
use Rattle.class_core.specs.ClassInside.{rotor_next}
use Rattle.class_core.specs.declared.rotor.Rotor.{Rotor}
use Rattle.class_core.proofs.Mirroring.{weighed}
use Rattle.class_core.proofs.Keeping.{renoted, read_back, kept_granted}
use Rattle.class_core.proofs.cell.ClassCell.granted.Goals as goal

pub invariant_of-self-2 : goal.invariant_of-self-2
invariant_of-self-2 c =
    let o = origin_of c.self.inside.class c.self.inside.first.value.items in
    let h = c.self.inside.notes.items in
    let groups = c.self.inside.groups.items in
    let place = c.place_of-place.result in
    let r = c.self.inside.rotor in
    let note : LaneNote = (c.args.lane, Granted c.args.id c.args.bytes c.args.weight) in
    let at : IsPlaceOf groups c.args.id.vdev place = subst (λ (l : List GroupState). IsPlaceOf l c.args.id.vdev place) c.deref.ensures.value c.place_of-place.ensures in
    let is : IsIn o c.args.id = subst (λ (s : ClassState). IsIn s.origin c.args.id) (sym c.self.view_is) c.requires.id in
    let there : c.index_mut.result.now ≡ group_at groups place = read_back groups place c.index_mut.result.now at.within c.index_mut.ensures.value in
    let count : c.len.result ≡ length groups = grind (arith, common_steps) in
    let turned : c.after-self-inside.result ≡ rotor_next r (length groups) place c.args.bytes = c.after-self-inside.ensures ∙ ap (λ (n : ℕ). rotor_next r n place c.args.bytes) count in
    subst (λ (q : Rotor). IsKept o c.push_reserved.new.self.items (set groups place c.weigh.new.self) q) (sym turned)
    (renoted o h c.push_reserved.new.self.items note groups (rotor_next r (length groups) place c.args.bytes) place (weighed (group_at groups place) c.args.id.index c.args.weight) c.weigh.new.self
    (c.push_reserved.ensures.items ∙ ap (λ (l : List LaneNote). l ++ note ∷ []) c.reserve.ensures.items)
    (c.in_ok-weigh.ensures.ok ∙ ap (λ (g : GroupState). weighed g c.args.id.index c.args.weight) there)
    (kept_granted o h groups r place c.self.invariant at.within c.args.bytes c.args.lane c.requires.lane c.args.id c.args.weight is at.vdev))
