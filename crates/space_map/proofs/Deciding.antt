-- What words hold is certain.
use Rattle.std.proofs.Common.{◌≡◌, ℕ, ◌+◌, List, [], ◌∷◌, ◌++◌, length, drop, refl, sym, ◌∙◌, ap, subst, arith, ◌≤◌, ◌⊎◌, inl, inr}
use Rattle.std.specs.Prelude.{None}
use Rattle.std.specs.List.{filter_map}
use Rattle.std.proofs.lemmas.List.{drop_all, drop-drop}
use Rattle.std.proofs.lemmas.List.Elements.{filter_map-append}
use Rattle.std.proofs.lemmas.List.Sums.{sum_by-append}
use Rattle.sm_entry.specs.Grammar.{Says, size_of}
use Rattle.sm_entry.specs.declared.Entry.{Entry}
use Rattle.sm_entry.specs.declared.Entry.TheVariants.{One, Two, Debug}
use Rattle.sm_entry.proofs.Entries.{one_fault, says_one, says_no_bad_pad, says_not_short}
use Rattle.zms_units.specs.declared.faults.MapCause.{MapCause}
use Rattle.zms_units.specs.declared.faults.MapFault.{MapFault}
use Rattle.space_map.specs.declared.places.MapKind.{MapKind}
use Rattle.space_map.specs.declared.places.Found.{Found}
use Rattle.space_map.specs.Layout.{Holds, sizes}
use Rattle.space_map.proofs.Holding.{holds_then, sizes-cons, sound_then}
use Rattle.space_map.specs.Reading.{AreSound, Decodes, IsFault, IsFirstFault, IsRefusal, IsRefusalAt, TakesEntry, fault_of, found_in}
use Rattle.space_map.specs.declared.faults.DecodeFault.{DecodeFault}
use Rattle.space_map.specs.declared.faults.DecodeFault.TheVariants.{Map, Memory}

-- no sound entry begins there
abbrev pub Stops : MapKind → ℕ → List ℕ → Type 0
Stops kind at words = (entry : Entry) → Says words entry → fault_of kind at entry ≡ None → ⊥

none_says : (entry : Entry) → Says [] entry → ⊥
none_says (One _ _ _) says = says
none_says (Two _ _ _ _) says = says
none_says (Debug _ _ _) says = says

pub none_stops : (kind : MapKind) (at : ℕ) → Stops kind at []
none_stops kind at entry says sound = none_says entry says

pub fault_stops : (kind : MapKind) (at : ℕ) (words : List ℕ) (cause : MapCause) → IsFault kind at words cause → Stops kind at words
fault_stops kind at words cause (IsFault.padded bad) entry says sound = says_no_bad_pad words entry says bad
fault_stops kind at words cause (IsFault.cut short _) entry says sound = says_not_short words entry says short
fault_stops kind at words cause (IsFault.cut_across short _) entry says sound = says_not_short words entry says short
fault_stops kind at words cause (IsFault.refused other _ said refusal) entry says sound =
    let same = says_one words entry other says said in
    absurd (cc)

-- two ways to read words up to where no sound entry begins are one
pub same_reading : (kind : MapKind) (at : ℕ) (words : List ℕ) (one other : List Entry) (rest left : List ℕ)
    → Holds words one rest → AreSound kind at one → Stops kind (at + sizes one) rest
    → Holds words other left → AreSound kind at other → Stops kind (at + sizes other) left
    → (one ≡ other) × (rest ≡ left)
same_reading kind at words [] [] rest left held sound stops held' sound' stops' = (refl, sym held ∙ held')
same_reading kind at words [] (entry ∷ entries) rest left held sound stops held' sound' stops' =
    absurd (stops entry (subst (λ (w : List ℕ). Says w entry) held held'.0) (subst (λ (n : ℕ). fault_of kind n entry ≡ None) (omega arith) sound'.0))
same_reading kind at words (entry ∷ entries) [] rest left held sound stops held' sound' stops' =
    absurd (stops' entry (subst (λ (w : List ℕ). Says w entry) held' held.0) (subst (λ (n : ℕ). fault_of kind n entry ≡ None) (omega arith) sound.0))
same_reading kind at words (entry ∷ entries) (entry' ∷ entries') rest left held sound stops held' sound' stops' =
    let same = says_one words entry entry' held.0 held'.0 in
    let next = at + size_of entry in
    let after = drop (size_of entry) words in
    let others = same_reading kind next after entries entries' rest left held.1 sound.1
    (subst (λ (n : ℕ). Stops kind n rest) (omega (arith, sizes-cons entry entries)) stops)
    (subst (λ (e : Entry). Holds (drop (size_of e) words) entries' left) (sym same) held'.1)
    (subst (λ (e : Entry). AreSound kind (at + size_of e) entries') (sym same) sound'.1)
    (subst (λ (n : ℕ). Stops kind n left) (let size : size_of entry ≡ size_of entry' = ap size_of same in omega (arith, sizes-cons entry' entries')) stops') in
    (cc (same, others.0), others.1)

pub runs_certain : (kind : MapKind) (words : List ℕ) (one other : List Found) → Decodes kind words one → Decodes kind words other → one ≡ other
runs_certain kind words one other decodes decodes' =
    let same = same_reading kind 0 words decodes.entries decodes'.entries [] [] decodes.held decodes.sound (none_stops kind (0 + sizes decodes.entries))
    decodes'.held decodes'.sound (none_stops kind (0 + sizes decodes'.entries)) in
    sym decodes.given ∙ (ap (λ entries. filter_map found_in entries) same.0 ∙ decodes'.given)

-- where the words stop for a fault
stops_at : (kind : MapKind) (words : List ℕ) (fault : MapFault) (first : IsFirstFault kind words fault) → Stops kind (0 + sizes first.entries) first.rest
stops_at kind words fault first =
    subst (λ (n : ℕ). Stops kind n first.rest) (let place = first.word in omega arith) (fault_stops kind fault.word first.rest fault.cause first.faulty)

no_fault_at_end : (kind : MapKind) (at : ℕ) (cause : MapCause) → IsFault kind at [] cause → ⊥
no_fault_at_end kind at cause (IsFault.padded bad) = omega (arith, bad.has_form)
no_fault_at_end kind at cause (IsFault.cut short _) = omega (arith, short.alone)
no_fault_at_end kind at cause (IsFault.cut_across short _) = omega (arith, short.alone)
no_fault_at_end kind at cause (IsFault.refused entry _ says _) = none_says entry says

pub runs_show_no_fault : (kind : MapKind) (words : List ℕ) (found : List Found) (fault : MapFault) → Decodes kind words found → IsFirstFault kind words fault → ⊥
runs_show_no_fault kind words found fault decodes first =
    let same = same_reading kind 0 words decodes.entries first.entries [] first.rest decodes.held decodes.sound (none_stops kind (0 + sizes decodes.entries))
    first.held first.sound (stops_at kind words fault first) in
    no_fault_at_end kind fault.word fault.cause (subst (λ (w : List ℕ). IsFault kind fault.word w fault.cause) (sym same.1) first.faulty)

pub same_cause : (kind : MapKind) (at : ℕ) (words : List ℕ) (a b : MapCause) → IsFault kind at words a → IsFault kind at words b → a ≡ b
same_cause kind at words a b (IsFault.padded bad) (IsFault.padded _) = refl
same_cause kind at words a b (IsFault.padded bad) (IsFault.cut short _) = absurd (one_fault words bad short)
same_cause kind at words a b (IsFault.padded bad) (IsFault.cut_across short _) = absurd (one_fault words bad short)
same_cause kind at words a b (IsFault.padded bad) (IsFault.refused entry _ says _) = absurd (says_no_bad_pad words entry says bad)
same_cause kind at words a b (IsFault.cut short _) (IsFault.padded bad) = absurd (one_fault words bad short)
same_cause kind at words a b (IsFault.cut _ _) (IsFault.cut _ _) = refl
same_cause kind at words a b (IsFault.cut _ inside) (IsFault.cut_across _ ends) = absurd (cc)
same_cause kind at words a b (IsFault.cut short _) (IsFault.refused entry _ says _) = absurd (says_not_short words entry says short)
same_cause kind at words a b (IsFault.cut_across short _) (IsFault.padded bad) = absurd (one_fault words bad short)
same_cause kind at words a b (IsFault.cut_across _ ends) (IsFault.cut _ inside) = absurd (cc)
same_cause kind at words a b (IsFault.cut_across _ _) (IsFault.cut_across _ _) = refl
same_cause kind at words a b (IsFault.cut_across short _) (IsFault.refused entry _ says _) = absurd (says_not_short words entry says short)
same_cause kind at words a b (IsFault.refused entry _ says _) (IsFault.padded bad) = absurd (says_no_bad_pad words entry says bad)
same_cause kind at words a b (IsFault.refused entry _ says _) (IsFault.cut short _) = absurd (says_not_short words entry says short)
same_cause kind at words a b (IsFault.refused entry _ says _) (IsFault.cut_across short _) = absurd (says_not_short words entry says short)
same_cause kind at words a b (IsFault.refused entry _ says refusal) (IsFault.refused other _ said refusal') =
    let same = says_one words entry other says said in
    cc

pub faults_certain : (kind : MapKind) (words : List ℕ) (one other : MapFault) → IsFirstFault kind words one → IsFirstFault kind words other → one ≡ other
faults_certain kind words one other first first' =
    let same = same_reading kind 0 words first.entries first'.entries first.rest first'.rest first.held first.sound (stops_at kind words one first)
    first'.held first'.sound (stops_at kind words other first') in
    let place : one.word ≡ other.word = first.word ∙ (ap sizes same.0 ∙ sym first'.word) in
    let there : IsFault kind one.word first.rest other.cause =
    subst (λ (n : ℕ). IsFault kind n first.rest other.cause) (sym place) (subst (λ (w : List ℕ). IsFault kind other.word w other.cause) (sym same.1) first'.faulty) in
    let cause = same_cause kind one.word first.rest one.cause other.cause first.faulty there in
    let fault : ℕ → MapCause → MapFault = λ n why. record { word = n; cause = why } in
    ap (λ (n : ℕ). fault n one.cause) place ∙ ap (λ (why : MapCause). fault other.word why) cause

-- sound entries up to a word, which give the runs so far
pub record IsReadUpTo (kind : MapKind) (words : List ℕ) (at : ℕ) (found : List Found) : Type 0 where
  pub entries : List Entry
  pub held : Holds words entries (drop at words)
  pub sound : AreSound kind 0 entries
  pub place : at ≡ sizes entries
  pub given : filter_map found_in entries ≡ found

pub read_none : (kind : MapKind) (words : List ℕ) → IsReadUpTo kind words 0 []
read_none kind words = record { entries = []; held = refl; sound = tt; place = refl; given = refl }

module _ (kind : MapKind) (words : List ℕ) (at : ℕ) (found : List Found) (so_far : IsReadUpTo kind words at found) where
  pub read_more : (next : ℕ) (after : List Found) → TakesEntry kind words at next found after → IsReadUpTo kind words next after
  read_more next after takes =
      let entry = takes.entry in
      let one : List Entry = entry ∷ [] in
      let rest : drop (size_of entry) (drop at words) ≡ drop next words = drop-drop (size_of entry) at words ∙ ap (λ (n : ℕ). drop n words) (let e = takes.next_word in omega arith) in
      record {
        entries = so_far.entries ++ one;
        held = holds_then words so_far.entries (drop at words) one (drop next words) so_far.held (takes.taken.says, rest);
        sound = sound_then kind 0 so_far.entries one so_far.sound (subst (λ (n : ℕ). fault_of kind n entry ≡ None) (let e = so_far.place in omega arith) takes.taken.sound, tt);
        place = takes.next_word ∙ (let e = so_far.place in omega (arith, sum_by-append size_of so_far.entries one, sizes-cons entry []));
        given = filter_map-append found_in so_far.entries one ∙ (ap (λ f. f ++ filter_map found_in one) so_far.given ∙ sym takes.found);
      }

  pub read_whole : length words ≤ at → Decodes kind words found
  read_whole all = record {
    entries = so_far.entries;
    held = subst (λ (w : List ℕ). Holds words so_far.entries w) (drop_all at words all) so_far.held;
    sound = so_far.sound;
    given = so_far.given;
  }

  pub read_refused : (fault : DecodeFault) → IsRefusalAt kind words at fault → IsRefusal kind words fault
  read_refused (Map fault) (place, faulty) = record {
    entries = so_far.entries;
    rest = drop at words;
    held = so_far.held;
    sound = so_far.sound;
    word = place ∙ so_far.place;
    faulty = subst (λ (n : ℕ). IsFault kind n (drop at words) fault.cause) (sym place) faulty;
  }
  read_refused Memory refusal = tt

-- what the words give, whatever else was answered
pub gives_runs : (kind : MapKind) (words : List ℕ) (runs : List Found) (fault : DecodeFault) → Decodes kind words runs → IsRefusal kind words fault → fault ≡ Memory
gives_runs kind words runs (Map fault) decodes first = absurd (runs_show_no_fault kind words runs fault decodes first)
gives_runs kind words runs Memory decodes refusal = refl

pub refuses_first : (kind : MapKind) (words : List ℕ) (fault : MapFault) (other : DecodeFault) → IsFirstFault kind words fault → IsRefusal kind words other
    → (other ≡ Map fault) ⊎ (other ≡ Memory)
refuses_first kind words fault (Map other) first refusal = inl (ap Map (faults_certain kind words other fault refusal first))
refuses_first kind words fault Memory first refusal = inr refl
