-- The holds of each group, as the gate counts them.
use Rattle.std.proofs.Common.{◌≡◌, ℕ, zero, suc, ◌+◌, ◌-◌, ◌<◌, ◌≤◌, cond, leb, List, [], ◌∷◌, length, get_or, refl, sym, ap, ◌∙◌, arith, le-leb}
use Rattle.std.proofs.lemmas.Bool.{lt-leb}
use Rattle.txg_gate.specs.GateState.{GateState, synced_of, holds_of}

pub holds_settled : (s : GateState) (k : ℕ) → k ≤ synced_of s → holds_of s k ≡ 0
holds_settled s k le = ap (λ b. cond b 0 (get_or s.counts (k - (synced_of s + 1)) 0)) (le-leb k (synced_of s) le)

pub holds_above : (s : GateState) (k : ℕ) → synced_of s < k → holds_of s k ≡ get_or s.counts (k - (synced_of s + 1)) 0
holds_above s k lt = ap (λ b. cond b 0 (get_or s.counts (k - (synced_of s + 1)) 0)) (lt-leb k (synced_of s) lt)

-- the counts after the first of three left
abbrev pub shifted : List ℕ → List ℕ
shifted counts = get_or counts 1 0 ∷ get_or counts 2 0 ∷ 0 ∷ []

pub shifted_at : (counts : List ℕ) → length counts ≡ 3 → (k : ℕ) → get_or (shifted counts) k 0 ≡ get_or counts (suc k) 0
shifted_at [] e k = absurd (omega arith)
shifted_at (a ∷ []) e k = absurd (omega arith)
shifted_at (a ∷ b ∷ []) e k = absurd (omega arith)
shifted_at (a ∷ b ∷ c ∷ []) e zero = refl
shifted_at (a ∷ b ∷ c ∷ []) e (suc zero) = refl
shifted_at (a ∷ b ∷ c ∷ []) e (suc (suc zero)) = refl
shifted_at (a ∷ b ∷ c ∷ []) e (suc (suc (suc k))) = refl
shifted_at (a ∷ b ∷ c ∷ d ∷ counts) e k = absurd (omega arith)

-- a group that is settled takes its holds along, and the later groups keep theirs
pub settled_holds : (s t : GateState) (group later : ℕ) → t.counts ≡ shifted s.counts → length s.counts ≡ 3 → synced_of t ≡ group → group ≡ synced_of s + 1 → group < later → holds_of t later ≡ holds_of s later
settled_holds s t group later moved three is next lt =
    let place : suc (later - (synced_of t + 1)) ≡ later - (synced_of s + 1) = omega arith in
    holds_above t later (omega arith)
    ∙ (ap (λ (c : List ℕ). get_or c (later - (synced_of t + 1)) 0) moved
    ∙ (shifted_at s.counts three (later - (synced_of t + 1)) ∙ (ap (λ (i : ℕ). get_or s.counts i 0) place ∙ sym (holds_above s later (omega arith)))))

-- the first group above the settled one has the first count
pub holds_first : (s : GateState) → holds_of s (synced_of s + 1) ≡ get_or s.counts 0 0
holds_first s =
    let place : synced_of s + 1 - (synced_of s + 1) ≡ 0 = omega arith in
    holds_above s (synced_of s + 1) (omega arith) ∙ ap (λ (i : ℕ). get_or s.counts i 0) place

-- the settled group and the counts say the holds
pub same_holds : (s t : GateState) → synced_of s ≡ synced_of t → s.counts ≡ t.counts → (k : ℕ) → holds_of s k ≡ holds_of t k
same_holds s t synced counts k = ap (λ (x : ℕ × List ℕ). cond (leb k x.0) 0 (get_or x.1 (k - (x.0 + 1)) 0)) (λ i. (synced i, counts i))

-- a group that is not open yet has no holds
pub unheld : (s : GateState) (top : ℕ) → synced_of s < top → ((k : ℕ) → top ≤ synced_of s + k → get_or s.counts k 0 ≡ 0) → (later : ℕ) → top < later → holds_of s later ≡ 0
unheld s top ahead unused later lt = holds_above s later (omega arith) ∙ unused (later - (synced_of s + 1)) (omega arith)
