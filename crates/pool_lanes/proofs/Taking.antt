-- Replies taken from the ends of the lists of lanes, the commands being gone through from their end.
use Rattle.std.proofs.Common.{◌≡◌, ◌≢◌, ⊎_elim, Bool, cond, ℕ, suc, zero, ◌+◌, ◌-◌, ◌<◌, ◌≤◌, List, [], ◌∷◌, ◌++◌, length, get_or, take, drop, map, refl, sym, ◌∙◌, ap, subst, arith, length-append, append_assoc, Some, set, length-set}
use Rattle.std.specs.Prelude.{reverse, slice_get}
use Rattle.std.specs.Option.{option_map}
use Rattle.std.specs.List.{All}
use Rattle.std.proofs.lemmas.Bool.{ne_eqb}
use Rattle.std.proofs.lemmas.Bool.Decides.{Decides-eqb}
use Rattle.std.proofs.lemmas.List.{drop_more, length-map, map-set, reverse-append}
use Rattle.std.proofs.lemmas.List.Elements.{All-head, All-tail}
use Rattle.std.proofs.lemmas.Option.{slice_get_within, slice_get-map}
use Rattle.turn_passes.proofs.Pairs.{get_set, one_item, read_at, some_at}
use Rattle.cmd_text.specs.declared.script.Command.{Command}
use Rattle.lane_run.specs.Runs.{commands_of}
use Rattle.lane_run.specs.declared.replies.Reply.{Reply}
use Rattle.lane_run.proofs.Commands.{next_is_own, next_is_anothers}
use Rattle.pool_lanes.specs.Merging.{replies_of, AreLists, AreMerged}

-- the lists when n commands are left: each has a reply for each command of its lane that is left, and with the replies that
-- were taken, from the last one back, it is whole
pub record AreLeft (cs : List Command) (whole : List (List Reply)) (n : ℕ) (lists : List (List Reply)) (done : List Reply) : Type 0 where
  pub count : length lists ≡ length whole
  pub lefts : (k : ℕ) (list : List Reply) → slice_get lists k ≡ Some list → length list ≡ length (commands_of (k + 1) (take n cs))
  pub wholes : (k : ℕ) (list : List Reply) → slice_get lists k ≡ Some list → slice_get whole k ≡ Some (list ++ replies_of (k + 1) done)
  pub lanes : map (λ (r : Reply). r.lane) done ≡ map (λ (c : Command). c.lane) (drop n cs)

replies_own : (lane : ℕ) (r : Reply) (rs : List Reply) → r.lane ≡ lane → replies_of lane (r ∷ rs) ≡ r ∷ replies_of lane rs
replies_own lane r rs is = ap (λ (b : Bool). cond b (r ∷ replies_of lane rs) (replies_of lane rs)) ((Decides-eqb r.lane lane).1 is)

replies_anothers : (lane : ℕ) (r : Reply) (rs : List Reply) → r.lane ≢ lane → replies_of lane (r ∷ rs) ≡ replies_of lane rs
replies_anothers lane r rs other = ap (λ (b : Bool). cond b (r ∷ replies_of lane rs) (replies_of lane rs)) (ne_eqb r.lane lane other)

nothing : (l : List Reply) → length l ≡ 0 → l ≡ []
nothing [] e = refl
nothing (x ∷ l) e = absurd (omega (arith, e))

-- the last of a list's front is one of the list
theirs_last : (P : Reply → Type 0) (rest ends : List Reply) (r : Reply) → All P ((rest ++ r ∷ []) ++ ends) → P r
theirs_last P [] ends r all = All-head P r ends all
theirs_last P (x ∷ rest) ends r all = theirs_last P rest ends r (All-tail P x ((rest ++ r ∷ []) ++ ends) all)

-- a place of the lists that a reply was taken from, and the others
module _ (cs : List Command) (whole : List (List Reply)) (n : ℕ) (lists : List (List Reply)) (done : List Reply) (c : Command) (rest : List Reply) (r : Reply) where
  left_here : (k : ℕ) (list : List Reply) → AreLeft cs whole (n + 1) lists done → n < length cs → c ≡ get_or cs n c → c.lane ≡ k + 1 → slice_get lists k ≡ Some list
      → list ≡ rest ++ r ∷ [] → length rest ≡ length (commands_of (k + 1) (take n cs))
  left_here k list was lt at own there last =
      let more = next_is_own (k + 1) cs n c lt at own in
      omega (arith, was.lefts k list there, ap length more, ap length last, length-append rest (r ∷ []), length-append (commands_of (k + 1) (take n cs)) (c ∷ []))

  whole_here : (k : ℕ) (list : List Reply) → AreLeft cs whole (n + 1) lists done → r.lane ≡ k + 1 → slice_get lists k ≡ Some list → list ≡ rest ++ r ∷ []
      → slice_get whole k ≡ Some (rest ++ replies_of (k + 1) (r ∷ done))
  whole_here k list was own there last =
      subst (λ (l : List Reply). slice_get whole k ≡ Some l)
      (ap (λ (l : List Reply). l ++ replies_of (k + 1) done) last ∙ (append_assoc rest (r ∷ []) (replies_of (k + 1) done) ∙ ap (λ (l : List Reply). rest ++ l) (sym (replies_own (k + 1) r done own))))
      (was.wholes k list there)

module _ (cs : List Command) (whole : List (List Reply)) where
  -- a lane that has commands left has replies left
  pub one_left : (n : ℕ) (lists : List (List Reply)) (done : List Reply) (c : Command) (list : List Reply) → AreLeft cs whole (n + 1) lists done → n < length cs
      → c ≡ get_or cs n c → 1 ≤ c.lane → slice_get lists (c.lane - 1) ≡ Some list → 0 < length list
  one_left n lists done c list was lt at low there =
      let more = next_is_own (c.lane - 1 + 1) cs n c lt at (omega arith) in
      omega (arith, was.lefts (c.lane - 1) list there, ap length more, length-append (commands_of (c.lane - 1 + 1) (take n cs)) (c ∷ []))

  pub one_taken : (n : ℕ) (lists : List (List Reply)) (done : List Reply) (c : Command) (list rest : List Reply) (r : Reply) → AreLists cs whole → AreLeft cs whole (n + 1) lists done → n < length cs
      → c ≡ get_or cs n c → slice_get lists (c.lane - 1) ≡ Some list → list ≡ rest ++ r ∷ [] → AreLeft cs whole n (set lists (c.lane - 1) rest) (r ∷ done)
  one_taken n lists done c list rest r are was lt at there last =
      let i = c.lane - 1 in
      let low : 1 ≤ c.lane = (subst (λ (x : Command). (1 ≤ x.lane) × (x.lane ≤ length whole)) (sym at) (are.lanes n c lt)).0 in
      let own : c.lane ≡ i + 1 = omega arith in
      let theirs = are.theirs i (list ++ replies_of (i + 1) done) (was.wholes i list there) in
      let is : r.lane ≡ i + 1 =
      theirs_last (λ (x : Reply). x.lane ≡ i + 1) rest (replies_of (i + 1) done) r
      (subst (λ (l : List Reply). All (λ (x : Reply). x.lane ≡ i + 1) (l ++ replies_of (i + 1) done)) last theirs) in
      record {
        count = length-set lists i rest ∙ was.count;
        lefts = λ k l e.
            ⊎_elim
            (λ (t : (k ≡ i) × (rest ≡ l)). subst (λ (x : ℕ). length l ≡ length (commands_of (x + 1) (take n cs))) (sym t.0) (ap length (sym t.1) ∙ left_here cs whole n lists done c rest r i list was lt at own there last))
            (λ (t : (k ≢ i) × (slice_get lists k ≡ Some l)). was.lefts k l t.1 ∙ ap length (next_is_anothers (k + 1) cs n c lt at (λ q. t.0 (omega arith))))
            (get_set lists i k rest l e);
        wholes = λ k l e.
            ⊎_elim
            (λ (t : (k ≡ i) × (rest ≡ l)).
            subst (λ (x : ℕ). slice_get whole x ≡ Some (l ++ replies_of (x + 1) (r ∷ done))) (sym t.0)
            (subst (λ (x : List Reply). slice_get whole i ≡ Some (x ++ replies_of (i + 1) (r ∷ done))) t.1 (whole_here cs whole n lists done c rest r i list was is there last)))
            (λ (t : (k ≢ i) × (slice_get lists k ≡ Some l)).
            subst (λ (x : List Reply). slice_get whole k ≡ Some (l ++ x)) (sym (replies_anothers (k + 1) r done (λ q. t.0 (omega (arith, is))))) (was.wholes k l t.1))
            (get_set lists i k rest l e);
        lanes =
            let here : r.lane ≡ c.lane = is ∙ sym own in
            let rest_of : drop n cs ≡ c ∷ drop (n + 1) cs = drop_more cs n c lt ∙ ap (λ (x : Command). x ∷ drop (n + 1) cs) (sym at) in
            ap (λ (x : ℕ). x ∷ map (λ (y : Reply). y.lane) done) here ∙ (ap (λ (l : List ℕ). c.lane ∷ l) was.lanes ∙ ap (map (λ (x : Command). x.lane)) (sym rest_of));
      }

  pub all_taken : (n : ℕ) (lists : List (List Reply)) (done : List Reply) → n ≡ 0 → AreLeft cs whole n lists done → AreMerged cs whole done
  all_taken zero lists done none left = record {
    lanes = left.lanes;
    each = λ k list e.
        let here = some_at lists k (omega (arith, left.count, slice_get_within whole k list e)) in
        let nil : here.0 ≡ [] = nothing here.0 (left.lefts k here.0 here.1) in
        one_item whole k (replies_of (k + 1) done) list (subst (λ (l : List Reply). slice_get whole k ≡ Some (l ++ replies_of (k + 1) done)) nil (left.wholes k here.0 here.1)) e;
  }
  all_taken (suc n) lists done none left = absurd (omega (arith, none))

-- the same of lists that stand for lists of replies, the replies that were taken being in the order in which they were taken
module _ {A : Type 0} (f : A → List Reply) (cs : List Command) (whole : List (List Reply)) (at : ℕ) (lists : List A) (replies : List Reply) (c : Command) (list : A) where
  pub lane_within : AreLists cs whole → AreLeft cs whole at (map f lists) (reverse replies) → 0 < at → at ≤ length cs → c ≡ get_or cs (at - 1) c
      → (1 ≤ c.lane) × (c.lane - 1 < length lists)
  lane_within are was some most is =
      let both = subst (λ (x : Command). (1 ≤ x.lane) × (x.lane ≤ length whole)) (sym is) (are.lanes (at - 1) c (omega arith)) in
      (both.0, omega (arith, both.0, both.1, was.count, length-map lists f))

  list_there : c.lane - 1 < length lists → list ≡ get_or lists (c.lane - 1) list → slice_get (map f lists) (c.lane - 1) ≡ Some (f list)
  list_there lt is = slice_get-map f lists (c.lane - 1) ∙ ap (option_map f) (read_at lists (c.lane - 1) list lt is)

  before : AreLeft cs whole at (map f lists) (reverse replies) → 0 < at → AreLeft cs whole (at - 1 + 1) (map f lists) (reverse replies)
  before was some = let same : at ≡ at - 1 + 1 = omega arith in subst (λ (n : ℕ). AreLeft cs whole n (map f lists) (reverse replies)) same was

  pub reply_left : AreLists cs whole → AreLeft cs whole at (map f lists) (reverse replies) → 0 < at → at ≤ length cs → c ≡ get_or cs (at - 1) c → list ≡ get_or lists (c.lane - 1) list
      → 0 < length (f list)
  reply_left are was some most is here =
      let fits = lane_within are was some most is in
      one_left cs whole (at - 1) (map f lists) (reverse replies) c (f list) (before was some) (omega arith) is fits.0 (list_there fits.1 here)

  pub reply_taken : (rest : A) (r : Reply) → AreLists cs whole → AreLeft cs whole at (map f lists) (reverse replies) → 0 < at → at ≤ length cs → c ≡ get_or cs (at - 1) c
      → list ≡ get_or lists (c.lane - 1) list → f list ≡ f rest ++ r ∷ [] → AreLeft cs whole (at - 1) (map f (set lists (c.lane - 1) rest)) (reverse (replies ++ r ∷ []))
  reply_taken rest r are was some most is here last =
      let fits = lane_within are was some most is in
      let taken = one_taken cs whole (at - 1) (map f lists) (reverse replies) c (f list) (f rest) r are (before was some) (omega arith) is (list_there fits.1 here) last in
      subst (λ (l : List (List Reply)). AreLeft cs whole (at - 1) l (reverse (replies ++ r ∷ []))) (sym (map-set f lists (c.lane - 1) rest))
      (subst (λ (l : List Reply). AreLeft cs whole (at - 1) (set (map f lists) (c.lane - 1) (f rest)) l) (sym (reverse-append replies (r ∷ []))) taken)
