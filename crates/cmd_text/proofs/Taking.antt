-- A line more is said, or nothing that may be said next.
use Rattle.std.proofs.Common.{ℕ, ◌≤◌, Bool, true, false, List, length, subst}
use Rattle.std.specs.Prelude.{Result, Ok, Err, IfOk}
use Rattle.std.specs.Bool.{OnTrue, OnFalse}
use Rattle.std.proofs.lemmas.List.{append-nil}
use Rattle.std.proofs.Common.{sym}
use Rattle.cmd_text.specs.Grammar.{Reading, Says}
use Rattle.cmd_text.specs.Grammar.Reading.{Passed}
use Rattle.cmd_text.specs.Files.{make_list}
use Rattle.cmd_text.specs.Reading.{IsReader, Adds, Takes, Bars, Refuses}
use Rattle.cmd_text.specs.declared.reader.Reader.{Reader}
use Rattle.cmd_text.proofs.Once.{says_once}

pub on_true : (b : Bool) (P Q : Type 0) → (P → Q) → OnTrue b P → OnTrue b Q
on_true true P Q f h = f h
on_true false P Q f h = tt

pub on_false : (b : Bool) (P Q : Type 0) → (P → Q) → OnFalse b P → OnFalse b Q
on_false true P Q f h = tt
on_false false P Q f h = f h

pub ok_true : {E : Type 0} (r : Result Bool E) (P Q : Type 0) → (P → Q) → IfOk r (λ b. OnTrue b P) → IfOk r (λ b. OnTrue b Q)
ok_true (Ok b) P Q f h = on_true b P Q f h
ok_true (Err e) P Q f h = tt

pub ok_false : {E : Type 0} (r : Result Bool E) (P Q : Type 0) → (P → Q) → IfOk r (λ b. OnFalse b P) → IfOk r (λ b. OnFalse b Q)
ok_false (Ok b) P Q f h = on_false b P Q f h
ok_false (Err e) P Q f h = tt

pub passed_adds : (r : Reader) → IsReader r → Adds r r Passed
passed_adds r is = record { is = is; commands = sym (append-nil r.commands.items); makes = sym (append-nil (make_list r.make)) }

pub takes_of : (old new : Reader) (n : ℕ) (line : List ℕ) (r : Reading) → length line ≤ 200 → Says n line r → Adds old new r → Takes old new n line
takes_of old new n line r short says adds = record { reading = r; is_line = record { short = short; says = says }; adds = adds }

pub refuses_of : (old : Reader) (n : ℕ) (line : List ℕ) (r : Reading) → Says n line r → Bars old r → Refuses old n line
refuses_of old n line r says bars = λ s is. subst (Bars old) (says_once n line r s says is.says) bars
