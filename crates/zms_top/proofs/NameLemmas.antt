-- The names of a lane's blocks, from command to command.
use Rattle.std.proofs.Common.{◌≡◌, ℕ, Bool, true, false, cond, Option, Some, None, List, [], ◌∷◌, ◌++◌, refl, sym, ◌∙◌, ap, subst}
use Rattle.std.specs.Prelude.{IfSome}
use Rattle.std.specs.HashMap.{IsEmpty}
use Rattle.std.specs.Str.{bytes_eq}
use Rattle.std.proofs.lemmas.List.Sums.{fold_push}
use Rattle.zms_units.specs.declared.blocks.Dva.{Dva}
use Rattle.zms_units.specs.declared.places.Class.{Class}
use Rattle.zms_units.specs.declared.segments.Group.{Group}
use Rattle.zms_units.specs.declared.segments.Seg.{Seg}
use Rattle.ms_model.specs.Legal.{IsWithin}
use Rattle.zms_top.specs.Answers.{Replied, copies_after}
use Rattle.zms_top.specs.Lines.{Shape, dva_at}
use Rattle.zms_top.specs.Names.{Blocks, seg_named, copies_at, Learns, AreNamed}
use Rattle.cmd_text.specs.declared.script.Command.{Command}
use Rattle.cmd_text.specs.declared.script.What.{What}
use Rattle.cmd_text.specs.declared.script.What.TheVariants.{Alloc}
use Rattle.zms_top.specs.declared.replies.Answer.{Answer}
use Rattle.zms_top.specs.declared.replies.Answer.TheVariants.{Granted}
use Rattle.zms_top.specs.declared.replies.Reply.{Reply}

none_named : {S : Type 0} (blocks : Blocks S) (name : List ℕ) → IsEmpty blocks → seg_named blocks name ≡ None
none_named blocks name e = rw e refl

pub named_none : {S : Type 0} (pool : Shape) (blocks : Blocks S) → IsEmpty blocks → AreNamed pool [] blocks
named_none pool blocks e = record {
  known = λ name. ap (copies_at pool) (none_named blocks name e);
  within = λ name. subst (λ s. IfSome s (IsWithin pool.units)) (sym (none_named blocks name e)) tt;
}

pub named_push : {S : Type 0} (pool : Shape) (done : List Replied) (c : Command) (r : Reply) (old new : Blocks S) → AreNamed pool done old → Learns pool c.what r.answer old new
    → AreNamed pool (done ++ record { command = c; reply = r } ∷ []) new
named_push pool done c r old new was learns =
    let next : Replied = record { command = c; reply = r } in
    record {
      known = λ name.
          learns.known name ∙ (ap (λ so_far. copies_after name so_far c.what r.answer) (was.known name)
          ∙ sym (fold_push (λ so_far (x : Replied). copies_after name so_far x.command.what x.reply.answer) None done next));
      within = learns.within was.within;
    }

-- a block is known by its name from then on

copies_cond : (pool : Shape) (b : Bool) (seg : Seg) (other : Option Seg) → copies_at pool (cond b (Some seg) other) ≡ cond b (Some (dva_at pool 0 seg ∷ [])) (copies_at pool other)
copies_cond pool true seg other = refl
copies_cond pool false seg other = refl

within_cond : (units : ℕ) (b : Bool) (seg : Seg) (other : Option Seg) → IsWithin units seg → IfSome other (IsWithin units) → IfSome (cond b (Some seg) other) (IsWithin units)
within_cond units true seg other is were = is
within_cond units false seg other is were = were

pub learns_granted : {S : Type 0} (pool : Shape) (name : List ℕ) (size : ℕ) (class : Class) (copies : ℕ) (group : Group) (seg : Seg) (dvas : List Dva) (old new : Blocks S)
    → dvas ≡ dva_at pool 0 seg ∷ [] → IsWithin pool.units seg
    → ((other : List ℕ) → seg_named new other ≡ cond (bytes_eq name other) (Some seg) (seg_named old other))
    → Learns pool (Alloc name size class copies) (Granted group dvas) old new
learns_granted pool name size class copies group seg dvas old new are within adds = rw are (record {
  known = λ other. ap (copies_at pool) (adds other) ∙ copies_cond pool (bytes_eq name other) seg (seg_named old other);
  within = λ were other. subst (λ s. IfSome s (IsWithin pool.units)) (sym (adds other)) (within_cond pool.units (bytes_eq name other) seg (seg_named old other) within (were other));
})

pub learns_nothing : {S : Type 0} (pool : Shape) (what : What) (answer : Answer) (blocks : Blocks S) → ((name : List ℕ) (so_far : Option (List Dva)) → copies_after name so_far what answer ≡ so_far)
    → Learns pool what answer blocks blocks
learns_nothing pool what answer blocks same = record { known = λ name. sym (same name (copies_at pool (seg_named blocks name))); within = λ were. were }
