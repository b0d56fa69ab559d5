-- The names of a lane's blocks, from command to command.
use Rattle.std.proofs.Common.{◌≡◌, ℕ, None, List, [], ◌∷◌, ◌++◌, refl, sym, ◌∙◌, ap, subst}
use Rattle.std.specs.Prelude.{◌≤◌, IfSome, length}
use Rattle.std.specs.HashMap.{IsEmpty}
use Rattle.std.proofs.lemmas.List.Sums.{fold_push}
use Rattle.cmd_text.specs.declared.script.Command.{Command}
use Rattle.lane_run.specs.Answers.{Replied, copies_after}
use Rattle.lane_run.specs.Names.{Blocks, block_named, copies_in, Learns, AreNamed}
use Rattle.lane_run.specs.declared.replies.Reply.{Reply}

none_named : {S : Type 0} (blocks : Blocks S) (name : List ℕ) → IsEmpty blocks → block_named blocks name ≡ None
none_named blocks name e = rw e refl

pub named_none : {S : Type 0} (blocks : Blocks S) → IsEmpty blocks → AreNamed [] blocks
named_none blocks e = record {
  known = λ name. ap copies_in (none_named blocks name e);
  small = λ name. subst (λ s. IfSome s (λ block. length block.copies ≤ 3)) (sym (none_named blocks name e)) tt;
}

pub named_push : {S : Type 0} (done : List Replied) (c : Command) (r : Reply) (old new : Blocks S) → AreNamed done old → Learns c.what r.answer old new → AreNamed (done ++ record { command = c; reply = r } ∷ []) new
named_push done c r old new was learns =
    let next : Replied = record { command = c; reply = r } in
    record {
      known = λ name.
          learns.known name ∙ (ap (λ so_far. copies_after name so_far c.what r.answer) (was.known name)
          ∙ sym (fold_push (λ so_far (x : Replied). copies_after name so_far x.command.what x.reply.answer) None done next));
      small = learns.small was.small;
    }
