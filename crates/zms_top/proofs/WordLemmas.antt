-- The words of the command line, as lists.
use Rattle.std.proofs.Common.{Option, Some, None, Bor, String, Global, ◌≡◌, ℕ, ◌+◌, ◌^◌, ◌≤◌, ◌<◌, true, false, List, [], ◌∷◌, ◌++◌, length, take, drop, get_or, inl, inr, refl, sym, ◌∙◌, ap, subst, arith}
use Rattle.std.specs.Prelude.{MatchOption, IfSome, IfNone, codes, map, string_bytes}
use Rattle.std.specs.Str.{bytes_eq}
use Rattle.std.proofs.lemmas.Slice.Eq.{bytes_eq-Decides}
use Rattle.std.proofs.Math.Seq.{take-append_seam}
use Rattle.std.proofs.lemmas.List.{append_cancel_left, take-append-drop}
use Rattle.std.proofs.lemmas.Fmt.{decimal_injective}
use Rattle.std.specs.Prelude.{◌⊎◌, IsTrue}
use Rattle.std.specs.List.{list_all}
use Rattle.meta_store.specs.declared.causes.At.{At}
use Rattle.meta_store.specs.declared.causes.At.TheVariants.{Newest, Group as AtGroup}
use Rattle.vdev_text.specs.Specs.{spec_text}
use Rattle.vdev_text.proofs.SpecLemmas.{spec_once}
use Rattle.zms_top.specs.Words.{is_pool_byte, IsPoolName, group_word, ArePoolAndGroup, AsksGroup, AsksAt, AsksOf, Asks}
use Rattle.zms_top.specs.declared.words.Asked.{Asked}
use Rattle.zms_top.specs.declared.words.Asked.TheVariants.{Create, Run, Report}

pub two_words : (words : List (String Global)) (a b : String Global) → 2 ≤ length words → length words < 3 → a ≡ get_or words 0 a → b ≡ get_or words 1 b
    → map string_bytes words ≡ string_bytes a ∷ (string_bytes b ∷ [])
two_words [] a b low high e f = absurd (omega arith)
two_words (x ∷ []) a b low high e f = absurd (omega arith)
two_words (x ∷ (y ∷ [])) a b low high e f = cc
two_words (x ∷ (y ∷ (z ∷ ws))) a b low high e f = absurd (omega arith)

pub three_words : (words : List (String Global)) (a b c : String Global) → 3 ≤ length words → length words < 4 → a ≡ get_or words 0 a → b ≡ get_or words 1 b → c ≡ get_or words 2 c
    → map string_bytes words ≡ string_bytes a ∷ (string_bytes b ∷ (string_bytes c ∷ []))
three_words [] a b c low high e f g = absurd (omega arith)
three_words (x ∷ []) a b c low high e f g = absurd (omega arith)
three_words (x ∷ (y ∷ [])) a b c low high e f g = absurd (omega arith)
three_words (x ∷ (y ∷ (z ∷ []))) a b c low high e f g = cc
three_words (x ∷ (y ∷ (z ∷ (v ∷ ws)))) a b c low high e f g = absurd (omega arith)

-- an option is no name
pub option_no_name : (group : ℕ) (name : List ℕ) → IsPoolName name → name ≡ group_word group → ⊥
option_no_name group name is same =
    let bytes : false ≡ true = subst (λ n. IsTrue (list_all is_pool_byte n)) same is.bytes in
    cc

-- an option tells its group
pub group_word_once : (m n : ℕ) → m < 10 ^ 19 → n < 10 ^ 19 → group_word m ≡ group_word n → m ≡ n
group_word_once m n fits fits' e = decimal_injective m n (omega (arith, fits)) (omega (arith, fits')) (append_cancel_left (codes "--group=") _ _ e)

-- two words tell one group
pub one_group : (one two p q : List ℕ) (m n : ℕ) → IsPoolName p → IsPoolName q → ArePoolAndGroup one two p m → ArePoolAndGroup one two q n → m ≡ n
one_group one two p q m n np nq first second = by first.either second.either where
  by : ((one ≡ p) × (two ≡ group_word m)) ⊎ ((one ≡ group_word m) × (two ≡ p)) → ((one ≡ q) × (two ≡ group_word n)) ⊎ ((one ≡ group_word n) × (two ≡ q)) → m ≡ n
  by (inl a) (inl b) = group_word_once m n first.short second.short (sym a.1 ∙ b.1)
  by (inr a) (inr b) = group_word_once m n first.short second.short (sym a.0 ∙ b.0)
  by (inl a) (inr b) = absurd (option_no_name n p np (sym a.0 ∙ b.0))
  by (inr a) (inl b) = absurd (option_no_name m q nq (sym b.0 ∙ a.0))

-- a command with a group names one group
same_group : (command : List ℕ) (words : List (List ℕ)) (p q : List ℕ) (m n : ℕ) → IsPoolName p → IsPoolName q → AsksGroup command p words m → AsksGroup command q words n → m ≡ n
same_group command words p q m n np nq one two =
    let both : command ∷ (one.one ∷ (one.two ∷ [])) ≡ command ∷ (two.one ∷ (two.two ∷ [])) = sym one.words_are ∙ two.words_are in
    let firsts : two.one ≡ one.one = cc in
    let seconds : two.two ≡ one.two = cc in
    one_group one.one one.two p q m n np nq one.are (subst (λ t. ArePoolAndGroup one.one t q n) seconds (subst (λ t. ArePoolAndGroup t two.two q n) firsts two.are))

-- a command at a group or at none
at_once : (command : List ℕ) (words : List (List ℕ)) (p q : List ℕ) (a b : At) → IsPoolName p → IsPoolName q → AsksAt command p words a → AsksAt command q words b → a ≡ b
at_once command words p q Newest Newest np nq one two = refl
at_once command words p q Newest (AtGroup n) np nq one two = let both : command ∷ (p ∷ []) ≡ command ∷ (two.one ∷ (two.two ∷ [])) = sym one ∙ two.words_are in cc
at_once command words p q (AtGroup m) Newest np nq one two = let both : command ∷ (one.one ∷ (one.two ∷ [])) ≡ command ∷ (q ∷ []) = sym one.words_are ∙ two in cc
at_once command words p q (AtGroup m) (AtGroup n) np nq one two = ap (λ (g : ℕ). AtGroup (record { 0 = g })) (same_group command words p q m.0 n.0 np nq one two)

-- the command stands first
leads : (command pool : List ℕ) (words : List (List ℕ)) (at : At) → AsksAt command pool words at → get_or words 0 [] ≡ command
leads command pool words Newest is = ap (λ (w : List (List ℕ)). get_or w 0 []) is
leads command pool words (AtGroup group) is = ap (λ (w : List (List ℕ)). get_or w 0 []) is.words_are

-- two commands whose second letters differ
apart : (words : List (List ℕ)) (c d : List ℕ) → get_or words 0 [] ≡ c → get_or words 0 [] ≡ d → get_or c 1 0 ≡ get_or d 1 0
apart words c d one two = ap (λ (l : List ℕ). get_or l 1 0) (sym one ∙ two)

-- words ask for one thing
asks_of_once : (words : List (List ℕ)) (p q : List ℕ) (x y : Asked) → IsPoolName p → IsPoolName q → AsksOf p words x → AsksOf q words y → x ≡ y
asks_of_once words p q (Run a) (Run b) np nq one two = ap Run (at_once (codes "run") words p q a b np nq one two)
asks_of_once words p q (Report a) (Report b) np nq one two = ap Report (at_once (codes "report") words p q a b np nq one two)
asks_of_once words p q (Run a) (Report b) np nq one two =
    let e : 117 ≡ 101 = apart words (codes "run") (codes "report") (leads (codes "run") p words a one) (leads (codes "report") q words b two) in absurd (omega (arith, e))
asks_of_once words p q (Report a) (Run b) np nq one two =
    let e : 101 ≡ 117 = apart words (codes "report") (codes "run") (leads (codes "report") p words a one) (leads (codes "run") q words b two) in absurd (omega (arith, e))
asks_of_once words p q (Run a) (Create n) np nq one two =
    let e : 117 ≡ 114 = apart words (codes "run") (codes "create") (leads (codes "run") p words a one) (ap (λ (w : List (List ℕ)). get_or w 0 []) two.0) in absurd (omega (arith, e))
asks_of_once words p q (Create m) (Run b) np nq one two =
    let e : 114 ≡ 117 = apart words (codes "create") (codes "run") (ap (λ (w : List (List ℕ)). get_or w 0 []) one.0) (leads (codes "run") q words b two) in absurd (omega (arith, e))
asks_of_once words p q (Report a) (Create n) np nq one two =
    let e : 101 ≡ 114 = apart words (codes "report") (codes "create") (leads (codes "report") p words a one) (ap (λ (w : List (List ℕ)). get_or w 0 []) two.0) in absurd (omega (arith, e))
asks_of_once words p q (Create m) (Report b) np nq one two =
    let e : 114 ≡ 101 = apart words (codes "create") (codes "report") (ap (λ (w : List (List ℕ)). get_or w 0 []) one.0) (leads (codes "report") q words b two) in absurd (omega (arith, e))
asks_of_once words p q (Create m) (Create n) np nq one two =
    let both : codes "create" ∷ (p ∷ (spec_text m ∷ [])) ≡ codes "create" ∷ (q ∷ (spec_text n ∷ [])) = sym one.0 ∙ two.0 in
    let texts : spec_text m ≡ spec_text n = cc in
    ap Create (spec_once (spec_text n) m n (record { vdevs = one.1; text_is = texts }) (record { vdevs = two.1; text_is = refl }))

pub asks_once : (words : List (List ℕ)) (x y : Asked) → Asks words x → Asks words y → x ≡ y
asks_once words x y one two = asks_of_once words one.pool two.pool x y one.name two.name one.are two.are

-- an answer that is asked for, or none where nothing is, is the only one
pub only_answer : (words : List (List ℕ)) (r : Option Asked) → IfSome r (λ asked. Asks words asked) → IfNone r ((asked : Asked) → Asks words asked → ⊥) → (asked : Asked) → Asks words asked → r ≡ Some asked
only_answer words None some none asked asks = absurd (none asked asks)
only_answer words (Some x) some none asked asks = ap Some (asks_once words x asked some asks)

-- the name is the third word, where the second is none
second_is : (words : List (String Global)) (command pool : List ℕ) (rest : List (List ℕ)) (second : String Global) → map string_bytes words ≡ command ∷ (pool ∷ rest) → second ≡ get_or words 1 second → string_bytes second ≡ pool
second_is [] command pool rest second are is = cc
second_is (x ∷ []) command pool rest second are is = cc
second_is (x ∷ (y ∷ ws)) command pool rest second are is = let behind : string_bytes y ∷ map string_bytes ws ≡ pool ∷ rest = cc in let here : string_bytes y ≡ pool = cc in ap string_bytes is ∙ here

third_is : (words : List (String Global)) (command one two : List ℕ) (third : String Global) → map string_bytes words ≡ command ∷ (one ∷ (two ∷ [])) → third ≡ get_or words 2 third → string_bytes third ≡ two
third_is [] command one two third are is = cc
third_is (x ∷ []) command one two third are is = cc
third_is (x ∷ (y ∷ [])) command one two third are is = cc
third_is (x ∷ (y ∷ (z ∷ ws))) command one two third are is =
    let behind : string_bytes y ∷ (string_bytes z ∷ map string_bytes ws) ≡ one ∷ (two ∷ []) = cc in
    let last : string_bytes z ∷ map string_bytes ws ≡ two ∷ [] = cc in
    let here : string_bytes z ≡ two = cc in ap string_bytes is ∙ here

named_at : (words : List (String Global)) (second third : String Global) (command pool : List ℕ) (at : At) → second ≡ get_or words 1 second → third ≡ get_or words 2 third → IsPoolName pool
    → AsksAt command pool (map string_bytes words) at → (IsPoolName (string_bytes second) → ⊥) → string_bytes third ≡ pool
named_at words second third command pool Newest one two name are other =
    absurd (other (subst IsPoolName (sym (second_is words command pool [] second are one)) name))
named_at words second third command pool (AtGroup group) one two name are other = by are.are.either where
  by : ((are.one ≡ pool) × (are.two ≡ group_word group.0)) ⊎ ((are.one ≡ group_word group.0) × (are.two ≡ pool)) → string_bytes third ≡ pool
  by (inl a) = absurd (other (subst IsPoolName (sym (second_is words command are.one (are.two ∷ []) second are.words_are one ∙ a.0)) name))
  by (inr a) = third_is words command are.one are.two third are.words_are two ∙ a.1

third_named : (words : List (String Global)) (second third : String Global) (asked : Asked) → second ≡ get_or words 1 second → third ≡ get_or words 2 third → (asks : Asks (map string_bytes words) asked)
    → (IsPoolName (string_bytes second) → ⊥) → string_bytes third ≡ asks.pool
third_named words second third (Create vdevs) one two asks other =
    absurd (other (subst IsPoolName (sym (second_is words (codes "create") asks.pool (spec_text vdevs ∷ []) second asks.are.0 one)) asks.name))
third_named words second third (Run at) one two asks other = named_at words second third (codes "run") asks.pool at one two asks.name asks.are other
third_named words second third (Report at) one two asks other = named_at words second third (codes "report") asks.pool at one two asks.name asks.are other

pub name_is_third : (words : List (String Global)) (second third : String Global) (asked : Asked) → second ≡ get_or words 1 second → third ≡ get_or words 2 third → Asks (map string_bytes words) asked
    → (IsPoolName (string_bytes second) → ⊥) → IsPoolName (string_bytes third) × ((x : Asked) × AsksOf (string_bytes third) (map string_bytes words) x)
name_is_third words second third asked one two asks other =
    let is = third_named words second third asked one two asks other in
    (subst IsPoolName (sym is) asks.name, (asked, subst (λ (n : List ℕ). AsksOf n (map string_bytes words) asked) (sym is) asks.are))

-- what stands behind a text

pub behind : (text head : List ℕ) → bytes_eq (take (length head) text) head ≡ true → head ++ drop (length head) text ≡ text
behind text head e =
    let same : take (length head) text ≡ head = (bytes_eq-Decides (take (length head) text) head).0 e in
    ap (λ l. l ++ drop (length head) text) (sym same) ∙ take-append-drop (length head) text

pub not_behind : (text head : List ℕ) → bytes_eq (take (length head) text) head ≡ false → (rest : List ℕ) → head ++ rest ≡ text → ⊥
not_behind text head e rest is =
    let same : take (length head) text ≡ head = ap (take (length head)) (sym is) ∙ take-append_seam head rest in
    let yes : bytes_eq (take (length head) text) head ≡ true = (bytes_eq-Decides (take (length head) text) head).1 same in
    cc

pub after_some : (text head : List ℕ) (r : Option (Bor (List ℕ)))
    → MatchOption r (bytes_eq (take (length head) text) head ≡ false)
    (λ x. (bytes_eq (take (length head) text) head ≡ true) × (x.now ≡ drop (length head) text) × (length x.now + length head ≡ length text))
    → IfSome r (λ rest. head ++ rest.now ≡ text)
after_some text head None m = tt
after_some text head (Some x) m = ap (λ l. head ++ l) m.1 ∙ behind text head m.0

pub after_none : (text head : List ℕ) (r : Option (Bor (List ℕ)))
    → MatchOption r (bytes_eq (take (length head) text) head ≡ false)
    (λ x. (bytes_eq (take (length head) text) head ≡ true) × (x.now ≡ drop (length head) text) × (length x.now + length head ≡ length text))
    → IfNone r ((rest : List ℕ) → head ++ rest ≡ text → ⊥)
after_none text head None m = not_behind text head m
after_none text head (Some x) m = tt
