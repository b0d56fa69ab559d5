-- Commands with their replies.
use Rattle.std.proofs.Common.{◌≡◌, ℕ, ◌+◌, ◌<◌, List, [], ◌∷◌, ◌++◌, length, get_or, zero, suc, take, drop, refl, sym, ◌∙◌, ap, append_assoc, arith}
use Rattle.std.specs.List.{flat_map}
use Rattle.std.proofs.lemmas.List.{take-append-drop}
use Rattle.std.proofs.lemmas.Grind.{flat_map-append}
use Rattle.run_text.specs.Replies.{reply_line}
use Rattle.trace_text.proofs.Lists.{flat_map-more}
use Rattle.lane_run.specs.Answers.{Replied, paired}
use Rattle.cmd_text.specs.declared.script.Command.{Command}
use Rattle.lane_run.specs.declared.replies.Reply.{Reply}

pub length-paired : (cs : List Command) (rs : List Reply) → length cs ≡ length rs → length (paired cs rs) ≡ length cs
length-paired [] rs e = refl
length-paired (c ∷ cs) [] e = absurd (omega arith)
length-paired (c ∷ cs) (r ∷ rs) e = ap (λ n. suc n) (length-paired cs rs (omega arith))

pub get_or-paired : (cs : List Command) (rs : List Reply) (i : ℕ) (c : Command) (r : Reply) (d : Replied) → length cs ≡ length rs → i < length cs
    → get_or (paired cs rs) i d ≡ record { command = get_or cs i c; reply = get_or rs i r }
get_or-paired [] rs i c r d e lt = absurd (omega arith)
get_or-paired (x ∷ cs) [] i c r d e lt = absurd (omega arith)
get_or-paired (x ∷ cs) (y ∷ rs) zero c r d e lt = refl
get_or-paired (x ∷ cs) (y ∷ rs) (suc i) c r d e lt = get_or-paired cs rs i c r d (omega arith) (omega arith)

both : (c d : Command) (r s : Reply) → c ≡ d → r ≡ s → reply_line (record { command = c; reply = r }) ≡ reply_line (record { command = d; reply = s })
both c d r s e f = rw (e, f) refl

-- the text of the replies as far as a loop has come, at one reply more, and what is left then

pub replies_more : (cs : List Command) (rs : List Reply) (i : ℕ) (c : Command) (r : Reply) → length cs ≡ length rs → i < length rs → c ≡ get_or cs i c → r ≡ get_or rs i r
    → flat_map reply_line (take (i + 1) (paired cs rs)) ≡ flat_map reply_line (take i (paired cs rs)) ++ reply_line (record { command = c; reply = r })
replies_more cs rs i c r same lt at_c at_r =
    let d : Replied = record { command = c; reply = r } in
    let there : get_or (paired cs rs) i d ≡ record { command = get_or cs i c; reply = get_or rs i r } = get_or-paired cs rs i c r d same (omega arith) in
    let within : i < length (paired cs rs) = omega (arith, length-paired cs rs same) in
    flat_map-more reply_line (paired cs rs) i d within
    ∙ ap (λ l. flat_map reply_line (take i (paired cs rs)) ++ l) (ap reply_line there ∙ both _ _ _ _ (sym at_c) (sym at_r))

pub replies_split : (cs : List Command) (rs : List Reply) (i : ℕ) (c : Command) (r : Reply) → length cs ≡ length rs → i < length rs → c ≡ get_or cs i c → r ≡ get_or rs i r
    → flat_map reply_line (paired cs rs) ≡ flat_map reply_line (take i (paired cs rs)) ++ (reply_line (record { command = c; reply = r }) ++ flat_map reply_line (drop (i + 1) (paired cs rs)))
replies_split cs rs i c r same lt at_c at_r =
    ap (flat_map reply_line) (sym (take-append-drop (i + 1) (paired cs rs)))
    ∙ (flat_map-append reply_line (take (i + 1) (paired cs rs)) (drop (i + 1) (paired cs rs))
    ∙ (ap (λ l. l ++ flat_map reply_line (drop (i + 1) (paired cs rs))) (replies_more cs rs i c r same lt at_c at_r)
    ∙ append_assoc (flat_map reply_line (take i (paired cs rs))) (reply_line (record { command = c; reply = r })) (flat_map reply_line (drop (i + 1) (paired cs rs)))))
