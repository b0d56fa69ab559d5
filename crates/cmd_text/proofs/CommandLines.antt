-- The first command past the limit of commands times metaslabs.
use Rattle.std.proofs.Common.{◌≡◌, ℕ, zero, suc, ◌+◌, ◌-◌, ◌*◌, ◌/◌, ◌≤◌, ◌<◌, Option, Some, None, List, [], ◌∷◌, ◌++◌, length, refl, sym, ◌∙◌, ap, subst, arith, ◌⊎◌, inl, inr, length-append}
use Rattle.std.specs.Prelude.{slice_get, map, replicate, option_map}
use Rattle.std.specs.List.{flat_map}
use Rattle.std.proofs.Math.Nat.{div-mul-le_self, le-div_iff_mul-le, mul-le-mul_left}
use Rattle.std.proofs.lemmas.List.{append-nil, length-replicate, length-map}
use Rattle.std.proofs.lemmas.Bool.{cases_lt}
use Rattle.std.proofs.lemmas.Option.{slice_get-map}
use Rattle.cmd_text.specs.Grammar.{Reading, AreLines, commands_of, makes_of}
use Rattle.cmd_text.specs.Grammar.Reading.{Passed, Asked, Made}
use Rattle.cmd_text.specs.Files.{make_list, StandsAlone, IsFile}
use Rattle.cmd_text.specs.Past.{command_lines, IsFirstPast}
use Rattle.cmd_text.specs.declared.script.Command.{Command}
use Rattle.cmd_text.specs.declared.script.Make.{Make}
use Rattle.cmd_text.specs.declared.script.Script.{Script}
use Rattle.cmd_text.proofs.Lists.{slice_get_left}

-- a list cut at one of its places
record CutAt (xs : List ℕ) (k x : ℕ) : Type 0 where
  pub front : List ℕ
  pub back : List ℕ
  pub split : front ++ (x ∷ back) ≡ xs
  pub long : length front ≡ k

cut_at : (xs : List ℕ) (k x : ℕ) → slice_get xs k ≡ Some x → CutAt xs k x
cut_at [] k x e = cc
cut_at (y ∷ ys) zero x e = record { front = []; back = ys; split = cc; long = refl }
cut_at (y ∷ ys) (suc k) x e =
    let c : CutAt ys k x = cut_at ys k x e in
    record { front = y ∷ c.front; back = c.back; split = ap (λ l. y ∷ l) c.split; long = ap suc c.long }

past_at : (s : Script) (m k line : ℕ) → slice_get (command_lines s) k ≡ Some line → k * m ≤ 4194304 → 4194304 < (k + 1) * m → IsFirstPast s m line
past_at s m k line is few past =
    let c : CutAt (command_lines s) k line = cut_at (command_lines s) k line is in
    let more : length (c.front ++ (line ∷ [])) ≡ k + 1 = omega (arith, length-append c.front (line ∷ []), c.long) in
    record {
      front = c.front;
      back = c.back;
      split = c.split;
      few = subst (λ n. n * m ≤ 4194304) (sym c.long) few;
      past = subst (λ n. 4194304 < n * m) (sym more) past;
    }

-- so many are within, and one more is not
most_within : (m : ℕ) → 4194304 / m * m ≤ 4194304
most_within m = div-mul-le_self 4194304 m

one_more_past : (m : ℕ) → 0 < m → 4194304 < (4194304 / m + 1) * m
one_more_past m some = at (cases_lt 4194304 ((4194304 / m + 1) * m)) where
  at : ((4194304 < (4194304 / m + 1) * m) ⊎ ((4194304 / m + 1) * m ≤ 4194304)) → 4194304 < (4194304 / m + 1) * m
  at (inl lt) = lt
  at (inr le) = absurd (let more : 4194304 / m + 1 ≤ 4194304 / m = (le-div_iff_mul-le {k = m} {x = 4194304 / m + 1} {y = 4194304} some).1 le in omega arith)

-- the lines of the commands that stand alone, and of those of a make line behind them

pub command_past : (s : Script) (m : ℕ) (c : Command) → 0 < m → slice_get s.commands (4194304 / m) ≡ Some c → IsFirstPast s m c.line
command_past s m c some is =
    past_at s m (4194304 / m) c.line
    (slice_get_left (map (λ d. d.line) s.commands) (flat_map (λ k. replicate k.count k.line) (make_list s.make)) (4194304 / m) c.line
    (slice_get-map (λ d. d.line) s.commands (4194304 / m) ∙ ap (option_map (λ d. d.line)) is))
    (most_within m) (one_more_past m some)

get_behind : (xs ys : List ℕ) (n k x : ℕ) → n ≡ length xs + k → slice_get ys k ≡ Some x → slice_get (xs ++ ys) n ≡ Some x
get_behind [] ys n k x at e = let same : k ≡ n = omega (arith, at) in subst (λ m. slice_get ys m ≡ Some x) same e
get_behind (y ∷ xs) ys zero k x at e = absurd (omega (arith, at))
get_behind (y ∷ xs) ys (suc n) k x at e = get_behind xs ys n k x (omega (arith, at)) e

get_repeated : (n k x : ℕ) → k < n → slice_get (replicate n x) k ≡ Some x
get_repeated zero k x lt = absurd (omega arith)
get_repeated (suc n) zero x lt = refl
get_repeated (suc n) (suc k) x lt = get_repeated n k x (omega arith)

pub make_past : (s : Script) (m : ℕ) (k : Make) → 0 < m → s.make ≡ Some k → length s.commands ≤ 4194304 / m → 4194304 / m - length s.commands < k.count → IsFirstPast s m k.line
make_past s m k some is behind more =
    let own : List ℕ = map (λ d. d.line) s.commands in
    let j : ℕ = 4194304 / m - length s.commands in
    let made_lines : flat_map (λ o. replicate o.count o.line) (make_list s.make) ≡ replicate k.count k.line = ap (λ o. flat_map (λ o. replicate o.count o.line) (make_list o)) is ∙ append-nil (replicate k.count k.line) in
    let place : 4194304 / m ≡ length own + j = omega (arith, length-map s.commands (λ d. d.line)) in
    let at : slice_get (own ++ replicate k.count k.line) (4194304 / m) ≡ Some k.line = get_behind own (replicate k.count k.line) (4194304 / m) j k.line place (get_repeated k.count j k.line more) in
    past_at s m (4194304 / m) k.line (subst (λ l. slice_get (own ++ l) (4194304 / m) ≡ Some k.line) (sym made_lines) at) (most_within m) (one_more_past m some)

-- how many there are

pub many_alone : (s : Script) → s.make ≡ None → length (command_lines s) ≡ length s.commands
many_alone s none =
    let empty : flat_map (λ o. replicate o.count o.line) (make_list s.make) ≡ [] = ap (λ o. flat_map (λ o. replicate o.count o.line) (make_list o)) none in
    omega (arith, length-append (map (λ d. d.line) s.commands) (flat_map (λ o. replicate o.count o.line) (make_list s.make)), ap length empty, length-map s.commands (λ d. d.line))

pub many_made : (s : Script) (k : Make) → s.make ≡ Some k → length (command_lines s) ≡ length s.commands + k.count
many_made s k is =
    let made_lines : flat_map (λ o. replicate o.count o.line) (make_list s.make) ≡ replicate k.count k.line = ap (λ o. flat_map (λ o. replicate o.count o.line) (make_list o)) is ∙ append-nil (replicate k.count k.line) in
    omega (arith, length-append (map (λ d. d.line) s.commands) (flat_map (λ o. replicate o.count o.line) (make_list s.make)), ap length made_lines, length-replicate k.count k.line, length-map s.commands (λ d. d.line))

-- so many are within the limit
pub few_enough : (n m : ℕ) → n ≤ 4194304 / m → n * m ≤ 4194304
few_enough n m few = at m refl few where
  at : (k : ℕ) → m ≡ k → n ≤ 4194304 / k → n * k ≤ 4194304
  at zero e le = omega arith
  at (suc k) e le = (le-div_iff_mul-le {k = suc k} {x = n} {y = 4194304} (omega arith)).0 le

-- a make line of a file

made_few : (n : ℕ) (ls : List (List ℕ)) (rs : List Reading) (k : Make) (rest : List Make) → AreLines n ls rs → makes_of rs ≡ k ∷ rest → k.count ≤ 200000
made_few n [] [] k rest are e = cc
made_few n [] (r ∷ rs) k rest are e = absurd are
made_few n (l ∷ ls) [] k rest are e = absurd are
made_few n (l ∷ ls) (Passed ∷ rs) k rest are e = made_few (n + 1) ls rs k rest are.1 e
made_few n (l ∷ ls) (Asked c ∷ rs) k rest are e = made_few (n + 1) ls rs k rest are.1 e
made_few n (l ∷ ls) (Made m ∷ rs) k rest are e = let same : m ≡ k = cc in subst (λ o. o.count ≤ 200000) same are.0.says.0.few

file_many : (text : List ℕ) (s : Script) → IsFile text s → length (command_lines s) ≤ 200000
file_many text s file = by s.make refl file.good.within.alone where
  few : length s.commands ≤ 200000
  few = subst (λ l. length l ≤ 200000) (sym file.commands) file.good.within.few

  by : (o : Option Make) → s.make ≡ o → StandsAlone (commands_of file.readings) (makes_of file.readings) → length (command_lines s) ≤ 200000
  by None e alone = omega (arith, many_alone s e, few)
  by (Some k) e (inl none) = let same : k ∷ [] ≡ [] = ap make_list (sym e) ∙ file.make ∙ none in cc
  by (Some k) e (inr both) =
      let empty : length s.commands ≡ 0 = ap length (file.commands ∙ both.0) in
      omega (arith, many_made s k e, empty, made_few 1 _ file.readings k [] file.good.read (sym file.make ∙ ap make_list e))

pub files_few : (text : List ℕ) (s : Script) → IsFile text s → (metaslabs line : ℕ) → metaslabs ≤ 20 → IsFirstPast s metaslabs line → ⊥
files_few text s file metaslabs line few past =
    let n : ℕ = length (past.front ++ (line ∷ [])) in
    let whole : length (command_lines s) ≡ length past.front + length (line ∷ past.back) = ap length (sym past.split) ∙ length-append past.front (line ∷ past.back) in
    let many : n ≤ 200000 = omega (arith, length-append past.front (line ∷ []), whole, file_many text s file) in
    let product : n * metaslabs ≤ n * 20 = mul-le-mul_left n few in
    absurd (omega (arith, past.past, product, many))
