-- The limits on all lines together, while one is said after another.
use Rattle.std.proofs.Common.{Bor, Option, Some, None, ◌≡◌, ℕ, zero, suc, ◌+◌, ◌≤◌, ◌<◌, Bool, true, false, List, [], ◌∷◌, ◌++◌, length, refl, sym, ◌∙◌, ap, subst, arith, inl, length-append, eq-eqb}
use Rattle.std.specs.Prelude.{◌||◌, ◌&&◌, ◌==◌, slice_get, if◌then◌else◌, max}
use Rattle.std.specs.List.{count_by, list_any, fold}
use Rattle.std.specs.HashSet.{HashSet}
use Rattle.std.proofs.lemmas.List.{append-nil}
use Rattle.std.proofs.lemmas.List.Folds.{list_any-append}
use Rattle.std.proofs.lemmas.Option.{slice_get_within}
use Rattle.std.proofs.lemmas.Bool.{eqb-true}
use Rattle.std.proofs.lemmas.Slice.Eq.{bytes_eq-Decides}
use Rattle.cmd_text.specs.Grammar.Reading.{Asked}
use Rattle.cmd_text.specs.Files.{IsNamed, AreNamedApart, begins_worker, is_worker, AreWithin, make_list, greatest_lane}
use Rattle.cmd_text.specs.Reading.{has_name, gives_block, gives_name, command_of, Learns, IsNameless, IsTwice, IsReader, Adds, Bars}
use Rattle.cmd_text.specs.declared.reader.Reader.{Reader}
use Rattle.cmd_text.specs.declared.script.Command.{Command}
use Rattle.cmd_text.specs.declared.script.Make.{Make}
use Rattle.cmd_text.specs.declared.script.What.{What}
use Rattle.cmd_text.specs.declared.script.What.TheVariants.{Alloc, Free, FreeSeg, Sync, Load, Unload, Init, Trim, AutoTrim}
use Rattle.cmd_text.proofs.Bytes.{and_split}
use Rattle.cmd_text.proofs.Lists.{slice_get_left, slice_get_end, Pushed, pushed}

-- names that were given

block_named : (w : What) (name : List ℕ) → IsNamed w name → gives_block name w ≡ true
block_named (Alloc own _ _ _) name is = (bytes_eq-Decides name own).1 (sym is)
block_named (Free _) name is = absurd is
block_named (FreeSeg _ _ _) name is = absurd is
block_named Sync name is = absurd is
block_named (Load _ _) name is = absurd is
block_named (Unload _ _) name is = absurd is
block_named (Init _) name is = absurd is
block_named (Trim _) name is = absurd is
block_named (AutoTrim _) name is = absurd is

named_block : (w : What) (name : List ℕ) → gives_block name w ≡ true → IsNamed w name
named_block (Alloc own _ _ _) name is = sym ((bytes_eq-Decides name own).0 is)
named_block (Free _) name is = cc
named_block (FreeSeg _ _ _) name is = cc
named_block Sync name is = cc
named_block (Load _ _) name is = cc
named_block (Unload _ _) name is = cc
named_block (Init _) name is = cc
named_block (Trim _) name is = cc
named_block (AutoTrim _) name is = cc

both_true : (a b : Bool) → a ≡ true → b ≡ true → (a && b) ≡ true
both_true a b e f = rw e f

true_or : (a b : Bool) → a ≡ true → (a || b) ≡ true
true_or a b e = rw e refl

or_true : (a b : Bool) → b ≡ true → (a || b) ≡ true
or_true true b e = refl
or_true false b e = e

gives_of : (c : Command) (lane : ℕ) (name : List ℕ) → lane ≡ c.lane → IsNamed c.what name → gives_name lane name c ≡ true
gives_of c lane name same is = both_true (lane == c.lane) (gives_block name c.what) (eq-eqb lane c.lane same) (block_named c.what name is)

-- a command of the lane that gives the name
pub record GivenAt (lane : ℕ) (name : List ℕ) (xs : List Command) : Type 0 where
  pub place : ℕ
  pub command : Command
  pub stands : slice_get xs place ≡ Some command
  pub of_lane : lane ≡ command.lane
  pub named : IsNamed command.what name

given : (lane : ℕ) (name : List ℕ) (xs : List Command) → GivenAt lane name xs → list_any (gives_name lane name) xs ≡ true
given lane name xs at = from xs at.place at.stands where
  from : (ys : List Command) (k : ℕ) → slice_get ys k ≡ Some at.command → list_any (gives_name lane name) ys ≡ true
  from [] k e = cc
  from (y ∷ ys) zero e =
      let same : y ≡ at.command = cc in
      true_or (gives_name lane name y) _ (ap (gives_name lane name) same ∙ gives_of at.command lane name at.of_lane at.named)
  from (y ∷ ys) (suc k) e = or_true (gives_name lane name y) _ (from ys k e)

given_next : (lane : ℕ) (name : List ℕ) (x : Command) (xs : List Command) → GivenAt lane name xs → GivenAt lane name (x ∷ xs)
given_next lane name x xs g = record { place = suc g.place; command = g.command; stands = g.stands; of_lane = g.of_lane; named = g.named }

given_here : (lane : ℕ) (name : List ℕ) (x : Command) (xs : List Command) → gives_name lane name x ≡ true → GivenAt lane name (x ∷ xs)
given_here lane name x xs e =
    let both : ((lane == x.lane) ≡ true) × (gives_block name x.what ≡ true) = and_split (lane == x.lane) (gives_block name x.what) e in
    record { place = 0; command = x; stands = refl; of_lane = eqb-true lane x.lane both.0; named = named_block x.what name both.1 }

given_by : (t : Bool) (lane : ℕ) (name : List ℕ) (x : Command) (xs : List Command) → gives_name lane name x ≡ t → ((list_any (gives_name lane name) xs ≡ true) → GivenAt lane name xs)
    → (t || list_any (gives_name lane name) xs) ≡ true → GivenAt lane name (x ∷ xs)
given_by true lane name x xs e rest is = given_here lane name x xs e
given_by false lane name x xs e rest is = given_next lane name x xs (rest is)

given_at : (lane : ℕ) (name : List ℕ) (xs : List Command) → list_any (gives_name lane name) xs ≡ true → GivenAt lane name xs
given_at lane name [] is = cc
given_at lane name (x ∷ xs) is = given_by (gives_name lane name x) lane name x xs refl (given_at lane name xs) is

nameless_none : (w : What) → IsNameless w → (name : List ℕ) → (IsNamed w name → ⊥) × (gives_block name w ≡ false)
nameless_none (Alloc own size class copies) is name = absurd is
nameless_none (Free _) is name = (λ n. n, refl)
nameless_none (FreeSeg _ _ _) is name = (λ n. n, refl)
nameless_none Sync is name = (λ n. n, refl)
nameless_none (Load _ _) is name = (λ n. n, refl)
nameless_none (Unload _ _) is name = (λ n. n, refl)
nameless_none (Init _) is name = (λ n. n, refl)
nameless_none (Trim _) is name = (λ n. n, refl)
nameless_none (AutoTrim _) is name = (λ n. n, refl)

and_false : (a b c : Bool) → b ≡ false → c ≡ ((a && b) || c)
and_false true b c e = rw e refl
and_false false b c e = refl

pub nameless_learns : {S : Type 0} (names : HashSet (ℕ × Bor (List ℕ)) S) (lane : ℕ) (w : What) → IsNameless w → Learns names names lane w
nameless_learns names lane w is =
    record {
      fresh = λ name named. absurd ((nameless_none w is name).0 named);
      known = λ l other. and_false (l == lane) (gives_block other w) (has_name names l other) (nameless_none w is other).1;
    }

-- a command more

abbrev pub one_worker : What → ℕ
one_worker w = if begins_worker w then 1 else 0

count_from : (xs ys : List Command) (n : ℕ) → fold (λ a x. a + (if is_worker x then 1 else 0)) n (xs ++ ys) ≡ fold (λ a x. a + (if is_worker x then 1 else 0)) (fold (λ a x. a + (if is_worker x then 1 else 0)) n xs) ys
count_from [] ys n = refl
count_from (x ∷ xs) ys n = count_from xs ys (n + (if is_worker x then 1 else 0))

pub workers_push : (xs : List Command) (c : Command) → count_by is_worker (xs ++ (c ∷ [])) ≡ count_by is_worker xs + one_worker c.what
workers_push xs c = count_from xs (c ∷ []) 0

lane_push : (xs : List Command) (c : Command) → 1 ≤ c.lane → greatest_lane (xs ++ (c ∷ [])) ≡ max (greatest_lane xs) c.lane
lane_push [] c low = omega arith
lane_push (x ∷ xs) c low = let rest : greatest_lane (xs ++ (c ∷ [])) ≡ max (greatest_lane xs) c.lane = lane_push xs c low in omega arith

apart_push : (xs : List Command) (c : Command) → ((j k : ℕ) (a b : Command) → j < k → slice_get xs j ≡ Some a → slice_get xs k ≡ Some b → AreNamedApart a b)
    → ((name : List ℕ) → GivenAt c.lane name xs → IsNamed c.what name → ⊥)
    → (j k : ℕ) (a b : Command) → j < k → Pushed xs c j a → Pushed xs c k b → AreNamedApart a b
apart_push xs c are fresh j k a b lt (Pushed.old e) (Pushed.old f) = are j k a b lt e f
apart_push xs c are fresh j k a b lt (Pushed.old e) (Pushed.new f g) =
    λ name lane one two. fresh name (record { place = j; command = a; stands = e; of_lane = ap (λ d. d.lane) g ∙ sym lane; named = one }) (subst (λ d. IsNamed d.what name) (sym g) two)
apart_push xs c are fresh j k a b lt (Pushed.new e f) (Pushed.old g) = absurd (omega (arith, slice_get_within xs k b g))
apart_push xs c are fresh j k a b lt (Pushed.new e f) (Pushed.new g h) = absurd (omega arith)

pub within_push : (xs : List Command) (makes : List Make) (c : Command) → AreWithin xs makes → makes ≡ [] → length xs < 200000 → count_by is_worker xs + one_worker c.what ≤ 16
    → ((name : List ℕ) → GivenAt c.lane name xs → IsNamed c.what name → ⊥) → AreWithin (xs ++ (c ∷ [])) makes
within_push xs makes c are none room workers fresh =
    record {
      alone = inl none;
      few = omega (arith, length-append xs (c ∷ []));
      workers = omega (arith, workers_push xs c);
      apart = λ j k a b lt e f. apart_push xs c are.apart fresh j k a b lt (pushed xs c j a e) (pushed xs c k b f);
    }

or-nil : (a b : Bool) → (a || (b || false)) ≡ (b || a)
or-nil true true = refl
or-nil true false = refl
or-nil false true = refl
or-nil false false = refl

pub makes_none : (m : Option Make) → m ≡ None → make_list m ≡ []
makes_none m e = ap make_list e

pub asked_adds : (old new : Reader) (lane line : ℕ) (w : What) → IsReader old → old.make ≡ None → length old.commands.items < 200000 → 1 ≤ lane
    → Learns old.names new.names lane w → old.workers + one_worker w ≤ 16
    → new.commands.items ≡ old.commands.items ++ (command_of lane line w ∷ []) → new.make ≡ old.make → new.lanes ≡ max old.lanes lane
    → new.workers ≡ old.workers + one_worker w → Adds old new (Asked (command_of lane line w))
asked_adds old new lane line w is none room low learns few commands make lanes workers =
    let c : Command = command_of lane line w in
    let xs : List Command = old.commands.items in
    let old_makes : make_list old.make ≡ [] = makes_none old.make none in
    let within : AreWithin (xs ++ (c ∷ [])) (make_list old.make) =
    within_push xs (make_list old.make) c is.within old_makes room (omega (arith, is.workers))
    (λ name at named. let yes : has_name old.names lane name ≡ true = is.known lane name ∙ given lane name xs at in let no : has_name old.names lane name ≡ false = learns.fresh name named in cc) in
    record {
      is = record {
        within = subst (λ m. AreWithin new.commands.items (make_list m)) (sym make) (subst (λ cs. AreWithin cs (make_list old.make)) (sym commands) within);
        lanes = lanes ∙ ap (λ l. max l lane) is.lanes ∙ sym (lane_push xs c low) ∙ ap greatest_lane (sym commands);
        workers = workers ∙ ap (λ n. n + one_worker w) is.workers ∙ sym (workers_push xs c) ∙ ap (count_by is_worker) (sym commands);
        known = λ l name.
            learns.known l name
            ∙ ap (λ b. ((l == lane) && gives_block name w) || b) (is.known l name)
            ∙ sym (list_any-append (gives_name l name) xs (c ∷ []) ∙ or-nil (list_any (gives_name l name) xs) (gives_name l name c))
            ∙ ap (list_any (gives_name l name)) (sym commands);
      };
      commands = commands;
      makes = ap make_list make ∙ sym (append-nil (make_list old.make));
    }

-- a name that the lane knows bars another of the same

pub twice_bars : (old : Reader) (lane line : ℕ) (w : What) → IsReader old → IsTwice old.names lane w → Bars old (Asked (command_of lane line w))
twice_bars old lane line w is twice within =
    let xs : List Command = old.commands.items in
    let at : GivenAt lane twice.name xs = given_at lane twice.name xs (sym (is.known lane twice.name) ∙ twice.known) in
    within.apart at.place (length xs) at.command (command_of lane line w) (slice_get_within xs at.place at.command at.stands)
    (slice_get_left xs (command_of lane line w ∷ []) at.place at.command at.stands) (slice_get_end xs (command_of lane line w) [])
    twice.name (sym at.of_lane) at.named twice.named
