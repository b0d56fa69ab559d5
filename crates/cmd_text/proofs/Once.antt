-- A line says one thing.
use Rattle.std.proofs.Common.{◌≡◌, ℕ, ◌+◌, ◌≤◌, ◌<◌, true, List, [], ◌∷◌, ◌++◌, length, get_or, refl, sym, ◌∙◌, ap, arith, inl, inr}
use Rattle.std.specs.Prelude.{codes, decimal}
use Rattle.std.specs.List.{list_all}
use Rattle.std.proofs.lemmas.Fmt.{decimal_injective}
use Rattle.std.proofs.lemmas.Bool.Decides.{nat_tests}
use Rattle.zms_units.specs.declared.places.Class.{Class}
use Rattle.zms_units.specs.declared.places.Class.TheVariants.{Normal, Log, Special, Dedup}
use Rattle.cmd_text.specs.Words.{is_digit}
use Rattle.zms_units.specs.Classes.{class_word}
use Rattle.cmd_text.specs.Grammar.{IsWhat, IsCommand, line_text, IsPassedOver, Reading, Says, AreLines}
use Rattle.cmd_text.specs.Grammar.Reading.{Passed, Asked, Made}
use Rattle.cmd_text.specs.Reading.{Lacks, AreNumbers, word_text, what_text, IsBehind}
use Rattle.cmd_text.specs.declared.script.Command.{Command}
use Rattle.cmd_text.specs.declared.script.Make.{Make}
use Rattle.cmd_text.specs.declared.script.What.{What}
use Rattle.cmd_text.specs.declared.script.What.TheVariants.{Alloc, FreeSeg, Sync, Load, Unload, Init, Trim, AutoTrim}
use Rattle.cmd_text.specs.declared.lines.Word.{Word}
use Rattle.cmd_text.specs.declared.lines.Word.TheVariants.{AllocWord, FreeWord, FreeSegWord, LoadWord, UnloadWord, InitWord, TrimWord, AutoTrimWord}
use Rattle.cmd_text.proofs.Bytes.{cut_once, lacks_no_cut, decimal_lacks, name_lacks, decimal_plain, and_split}
use Rattle.cmd_text.proofs.FieldLemmas.{AllocParts, alloc_parts, alloc_second, alloc_third, class_lacks, free_name, SegParts, seg_parts, seg_second, PlaceParts, load_parts, unload_parts, VdevParts, init_parts, trim_parts, autotrim_parts, numbers_once, Formed, formed, lane_lacks, line_cut, lane_no_make}

class_once : (a b : Class) → class_word a ≡ class_word b → a ≡ b
class_once Normal Normal e = refl
class_once Log Log e = refl
class_once Special Special e = refl
class_once Dedup Dedup e = refl
class_once a b e = absurd (omega (arith, ap (λ l. get_or l 0 0) e))

same_alloc : (n m : List ℕ) (s t : ℕ) (c d : Class) (k l : ℕ) → n ≡ m → s ≡ t → c ≡ d → k ≡ l → Alloc n s c k ≡ Alloc m t d l
same_alloc n m s t c d k l e f g h = cc

alloc_once : (text : List ℕ) (v w : What) → AllocParts text v → AllocParts text w → v ≡ w
alloc_once text v w p q =
    let lacks : Lacks 32 q.name = name_lacks 32 refl q.name q.is_name in
    let low : Lacks 32 (decimal q.size) = decimal_lacks 32 q.size (omega arith) (omega (arith, q.fits)) in
    let second : (p.name ≡ q.name) × ((decimal p.size ++ (32 ∷ (class_word p.class ++ (32 ∷ decimal p.copies)))) ≡ (decimal q.size ++ (32 ∷ (class_word q.class ++ (32 ∷ decimal q.copies))))) =
    alloc_second text q.name _ v p q.text_is lacks in
    let third : (decimal p.size ≡ decimal q.size) × ((class_word p.class ++ (32 ∷ decimal p.copies)) ≡ (class_word q.class ++ (32 ∷ decimal q.copies))) =
    alloc_third text q.name _ (decimal q.size) _ v p q.text_is lacks refl low in
    let fourth : (class_word p.class ≡ class_word q.class) × (decimal p.copies ≡ decimal q.copies) =
    cut_once 32 (class_word p.class) (decimal p.copies) (class_word q.class) (decimal q.copies) (class_lacks p.class) (class_lacks q.class) third.1 in
    p.same
    ∙ same_alloc p.name q.name p.size q.size p.class q.class p.copies q.copies second.0
    (decimal_injective p.size q.size (omega (arith, p.fits)) (omega (arith, q.fits)) third.0)
    (class_once p.class q.class fourth.0)
    (decimal_injective p.copies q.copies (omega (arith, p.few)) (omega (arith, q.few)) fourth.1)
    ∙ sym q.same

same_seg : (a b c d e f : ℕ) → a ≡ b → c ≡ d → e ≡ f → FreeSeg a c e ≡ FreeSeg b d f
same_seg a b c d e f x y z = cc

seg_once : (text : List ℕ) (v w : What) → SegParts text v → SegParts text w → v ≡ w
seg_once text v w p q =
    let both : (decimal p.vdev ≡ decimal q.vdev) × AreNumbers (decimal q.offset ++ (32 ∷ decimal q.size)) 9223372036854775807 9223372036854775807 p.offset p.size =
    seg_second text (decimal q.vdev) _ v p q.text_is (decimal_lacks 32 q.vdev (omega arith) (omega (arith, q.low))) in
    let own : AreNumbers (decimal q.offset ++ (32 ∷ decimal q.size)) 9223372036854775807 9223372036854775807 q.offset q.size =
    record { fits = omega (arith, q.fits); also_fits = omega (arith, q.also_fits); text_is = refl } in
    let numbers : (p.offset ≡ q.offset) × (p.size ≡ q.size) = numbers_once _ _ _ p.offset p.size q.offset q.size (omega arith) (omega arith) both.1 own in
    p.same
    ∙ same_seg p.vdev q.vdev p.offset q.offset p.size q.size (decimal_injective p.vdev q.vdev (omega (arith, p.low)) (omega (arith, q.low)) both.0) numbers.0 numbers.1
    ∙ sym q.same

place_once : (make : ℕ → ℕ → What) (text : List ℕ) (v w : What) → PlaceParts make text v → PlaceParts make text w → v ≡ w
place_once make text v w p q =
    let both : (p.vdev ≡ q.vdev) × (p.index ≡ q.index) = numbers_once text 255 65535 p.vdev p.index q.vdev q.index (omega arith) (omega arith) p.numbers q.numbers in
    p.same ∙ ap (λ n. make n p.index) both.0 ∙ ap (make q.vdev) both.1 ∙ sym q.same

vdev_once : (make : ℕ → What) (text : List ℕ) (v w : What) → VdevParts make text v → VdevParts make text w → v ≡ w
vdev_once make text v w p q =
    p.same ∙ ap make (decimal_injective p.vdev q.vdev (omega (arith, p.low)) (omega (arith, q.low)) (p.text_is ∙ sym q.text_is)) ∙ sym q.same

once_behind : (k : Word) (text : List ℕ) (v w : What) → IsBehind (word_text k) text v → IsBehind (word_text k) text w → v ≡ w
once_behind AllocWord text v w a b = alloc_once text v w (alloc_parts text v a) (alloc_parts text w b)
once_behind FreeWord text v w a b = (free_name text v a).0 ∙ sym (free_name text w b).0
once_behind FreeSegWord text v w a b = seg_once text v w (seg_parts text v a) (seg_parts text w b)
once_behind LoadWord text v w a b = place_once Load text v w (load_parts text v a) (load_parts text w b)
once_behind UnloadWord text v w a b = place_once Unload text v w (unload_parts text v a) (unload_parts text w b)
once_behind InitWord text v w a b = vdev_once Init text v w (init_parts text v a) (init_parts text w b)
once_behind TrimWord text v w a b = vdev_once Trim text v w (trim_parts text v a) (trim_parts text w b)
once_behind AutoTrimWord text v w a b = vdev_once AutoTrim text v w (autotrim_parts text v a) (autotrim_parts text w b)

is_sync : (w : What) → Formed w → what_text w ≡ codes "sync" → w ≡ Sync
is_sync w (Formed.plain e) same = e
is_sync w (Formed.worded k text e) same = absurd (lacks_no_cut 32 (word_text k) text (codes "sync") refl (sym e ∙ same))

-- what a line asks for is told by its text
pub what_once : (v w : What) → IsWhat v → IsWhat w → what_text v ≡ what_text w → v ≡ w
what_once v w is is' same = at (formed w) where
  at : Formed w → v ≡ w
  at (Formed.plain e) = is_sync v (formed v) (same ∙ ap what_text e) ∙ sym e
  at (Formed.worded k text e) = once_behind k text v w (record { what = is; text_is = same ∙ e }) (record { what = is'; text_is = e })

same_command : (a b k l : ℕ) (v w : What) → a ≡ b → k ≡ l → v ≡ w
    → (let c : Command = record { lane = a; line = k; what = v } in c) ≡ (let d : Command = record { lane = b; line = l; what = w } in d)
same_command a b k l v w e f g = cc

same_make : (a b k l m n : ℕ) → a ≡ b → k ≡ l → m ≡ n
    → (let c : Make = record { number = a; count = k; line = m } in c) ≡ (let d : Make = record { number = b; count = l; line = n } in d)
same_make a b k l m n e f g = cc

first_digit : (ds : List ℕ) → 0 < length ds → list_all is_digit ds ≡ true → 48 ≤ get_or ds 0 0
first_digit [] some all = absurd (omega arith)
first_digit (d ∷ ds) some all = let one : is_digit d ≡ true = (and_split (is_digit d) (list_all is_digit ds) all).0 in grind (arith, nat_tests)

get_first : (xs ys : List ℕ) → 0 < length xs → get_or (xs ++ ys) 0 0 ≡ get_or xs 0 0
get_first [] ys some = absurd (omega arith)
get_first (x ∷ xs) ys some = refl

passed_low : (line : List ℕ) → IsPassedOver line → get_or line 0 0 < 48
passed_low line (inl e) = rw e (omega arith)
passed_low line (inr both) = let first : get_or line 0 0 ≡ 35 = ap (λ l. get_or l 0 0) both.1 in omega arith

asked_high : (line : List ℕ) (c : Command) → IsCommand c → line_text c ≡ line → 48 ≤ get_or line 0 0
asked_high line c is same =
    let plain = decimal_plain c.lane (omega (arith, is.last)) in
    let first : get_or line 0 0 ≡ get_or (decimal c.lane) 0 0 =
    ap (λ l. get_or l 0 0) (sym same ∙ line_cut c) ∙ get_first (decimal c.lane) _ plain.some in
    omega (arith, first_digit (decimal c.lane) plain.some plain.digits_only)

pub asked_not_passed : (line : List ℕ) (c : Command) → IsCommand c → line_text c ≡ line → IsPassedOver line → ⊥
asked_not_passed line c is same passed = omega (arith, passed_low line passed, asked_high line c is same)

pub made_not_passed : (n : ℕ) (line : List ℕ) (m : Make) → Says n line (Made m) → IsPassedOver line → ⊥
made_not_passed n line m says passed = omega (arith, passed_low line passed, ap (λ l. get_or l 0 0) says.1.0)

asked_not_made : (n : ℕ) (line : List ℕ) (c : Command) (m : Make) → Says n line (Asked c) → Says n line (Made m) → ⊥
asked_not_made n line c m one two =
    lane_no_make c (decimal c.lane) one.0 refl
    (cut_once 32 (codes "make") (decimal m.number ++ (32 ∷ decimal m.count)) (decimal c.lane) (what_text c.what) refl (lane_lacks c one.0) (two.1.0 ∙ sym one.1.0 ∙ line_cut c)).0

pub says_once : (n : ℕ) (line : List ℕ) (r s : Reading) → Says n line r → Says n line s → r ≡ s
says_once n line Passed Passed one two = refl
says_once n line Passed (Asked d) one two = absurd (asked_not_passed line d two.0 two.1.0 one)
says_once n line Passed (Made m) one two = absurd (made_not_passed n line m two one)
says_once n line (Asked c) Passed one two = absurd (asked_not_passed line c one.0 one.1.0 two)
says_once n line (Made m) Passed one two = absurd (made_not_passed n line m one two)
says_once n line (Asked c) (Made m) one two = absurd (asked_not_made n line c m one two)
says_once n line (Made m) (Asked c) one two = absurd (asked_not_made n line c m two one)
says_once n line (Asked c) (Asked d) one two =
    let both : (decimal c.lane ≡ decimal d.lane) × (what_text c.what ≡ what_text d.what) =
    cut_once 32 (decimal c.lane) (what_text c.what) (decimal d.lane) (what_text d.what) (lane_lacks c one.0) (lane_lacks d two.0)
    (sym (line_cut c) ∙ one.1.0 ∙ sym two.1.0 ∙ line_cut d) in
    ap Asked (same_command c.lane d.lane c.line d.line c.what d.what
    (decimal_injective c.lane d.lane (omega (arith, one.0.last)) (omega (arith, two.0.last)) both.0)
    (one.1.1 ∙ sym two.1.1)
    (what_once c.what d.what one.0.what two.0.what both.1))
says_once n line (Made m) (Made k) one two =
    let rest : decimal m.number ++ (32 ∷ decimal m.count) ≡ decimal k.number ++ (32 ∷ decimal k.count) =
    (cut_once 32 (codes "make") _ (codes "make") _ refl refl (one.1.0 ∙ sym two.1.0)).1 in
    let both : (m.number ≡ k.number) × (m.count ≡ k.count) =
    numbers_once (decimal k.number ++ (32 ∷ decimal k.count)) 4294967295 200000 m.number m.count k.number k.count (omega arith) (omega arith)
    (record { fits = one.0.number; also_fits = one.0.few; text_is = rest })
    (record { fits = two.0.number; also_fits = two.0.few; text_is = refl }) in
    ap Made (same_make m.number k.number m.count k.count m.line k.line both.0 both.1 (one.1.1 ∙ sym two.1.1))

pub lines_once : (n : ℕ) (ls : List (List ℕ)) (rs ss : List Reading) → AreLines n ls rs → AreLines n ls ss → rs ≡ ss
lines_once n [] [] [] one two = refl
lines_once n [] (r ∷ rs) ss one two = absurd one
lines_once n [] [] (s ∷ ss) one two = absurd two
lines_once n (l ∷ ls) [] ss one two = absurd one
lines_once n (l ∷ ls) (r ∷ rs) [] one two = absurd two
lines_once n (l ∷ ls) (r ∷ rs) (s ∷ ss) one two =
    let head : r ≡ s = says_once n l r s one.0.says two.0.says in
    let tail : rs ≡ ss = lines_once (n + 1) ls rs ss one.1 two.1 in cc
