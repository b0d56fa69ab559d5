-- An entry's words, as they are written.
use Rattle.std.proofs.Common.{◌≡◌, ℕ, ◌≤◌, List, [], ◌∷◌, ◌++◌, length, take, set, refl, sym, ◌∙◌, ap, subst, arith}
use Rattle.sm_entry.specs.Grammar.{Says, IsFitting, size_of, entry_words}
use Rattle.sm_entry.specs.declared.Entry.{Entry}
use Rattle.sm_entry.proofs.Entries.{says_entry_words, says_take}

-- the words at the front of a buffer after they were written there
pub front_one : (out : List ℕ) (word : ℕ) → 1 ≤ length out → take 1 (set out 0 word) ≡ word ∷ []
front_one [] word room = absurd (omega (arith, room))
front_one (_ ∷ _) word room = refl

pub front_two : (out : List ℕ) (first second : ℕ) → 2 ≤ length out → take 2 (set (set out 0 first) 1 second) ≡ first ∷ second ∷ []
front_two [] first second room = absurd (omega (arith, room))
front_two (_ ∷ []) first second room = absurd (omega (arith, room))
front_two (_ ∷ _ ∷ _) first second room = refl

-- an entry's words that were written say it, whatever follows, and nothing else says it
module _ (entry : Entry) {written : List ℕ} (same : written ≡ entry_words entry) where
  pub written_again : IsFitting entry → (rest : List ℕ) → Says (written ++ rest) entry
  written_again fits rest =
      let P : List ℕ → Type 0 = λ words. Says (words ++ rest) entry in
      subst P (sym same) (says_entry_words entry fits rest)

  pub written_only : (size : ℕ) → size ≡ size_of entry → (words : List ℕ) → Says words entry → take size words ≡ written
  written_only size takes words says = ap (λ n. take n words) takes ∙ says_take words entry says ∙ sym same

pub ruleset writing = (front_one, front_two, written_again, written_only)
