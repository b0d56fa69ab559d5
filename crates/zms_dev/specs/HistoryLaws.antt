-- The laws of a device, for one in memory.
use Rattle.std.proofs.Common.{◌≡◌, inl, inr, ℕ, ◌+◌, ◌-◌, ◌<◌, ◌≤◌, List, [], ◌∷◌, ◌++◌, length, take, drop, replicate, refl, sym, ◌∙◌, ap, subst, arith, length-append, length-drop}
use Rattle.std.proofs.lemmas.Bool.{cases_lt}
use Rattle.std.proofs.lemmas.List.{take_all, get_or-take, get_or-drop, get_or-replicate, get_or_past, get_or_append_left, get_or-append_right, length-replicate, length-take-le}
use Rattle.zms_dev.specs.Bytes.{byte, Outside, Holds, grown, overwritten}
use Rattle.zms_dev.specs.History.{Step, wrote, lost, flushed, looked, Stage, start, next, after, IsImage, WasImage}

length-grown : (old : List ℕ) (end : ℕ) → length (grown old end) ≡ length old + (end - length old)
length-grown old end = length-append old (replicate (end - length old) 0) ∙ ap (λ (n : ℕ). length old + n) (length-replicate (end - length old) 0)

byte-grown : (old : List ℕ) (end p : ℕ) → byte (grown old end) p ≡ byte old p
byte-grown old end p = elim (cases_lt p (length old)) [
  | inl in_old ↦ get_or_append_left old (replicate (end - length old) 0) 0 p in_old
  | inr behind ↦
      get_or-append_right old (replicate (end - length old) 0) (length old) p 0 refl behind
      ∙ byte-zeros (end - length old) (p - length old) ∙ sym (get_or_past old p 0 behind)
]
  where
    byte-zeros : (n k : ℕ) → byte (replicate n 0) k ≡ 0
    byte-zeros n k = elim (cases_lt k n) [
      | inl lt ↦ get_or-replicate n k 0 0 lt
      | inr le ↦ get_or_past (replicate n 0) k 0 (omega (arith, length-replicate {A = ℕ} n 0))
    ]

module _ (old : List ℕ) (at : ℕ) (bytes : List ℕ) where
  abbrev all : List ℕ
  all = grown old (at + length bytes)

  abbrev new : List ℕ
  new = take at all ++ bytes ++ drop (at + length bytes) all

  long : at + length bytes ≤ length all
  long = omega (arith, length-grown old (at + length bytes))

  front : length (take at all) ≡ at
  front = length-take-le at all (omega (arith, long))

  length-new : length new ≡ length all
  length-new = omega (arith, length-append (take at all ++ bytes) (drop (at + length bytes) all), length-append (take at all) bytes, length-drop (at + length bytes) all, front, long)

  below : length (take at all ++ bytes) ≡ at + length bytes
  below = omega (arith, length-append (take at all) bytes, front)

  inside : (k : ℕ) → k < length bytes → byte new (at + k) ≡ byte bytes k
  inside k lt =
      get_or_append_left (take at all ++ bytes) (drop (at + length bytes) all) 0 (at + k) (omega (arith, below))
      ∙ get_or-append_right (take at all) bytes at (at + k) 0 front (omega arith)
      ∙ ap (λ (j : ℕ). byte bytes j) (let e : at + k - at ≡ k = omega arith in e)

  outside : (p : ℕ) → Outside at (length bytes) p → byte new p ≡ byte old p
  outside p out = elim (cases_lt p at) [
    | inl before ↦
        get_or_append_left (take at all ++ bytes) (drop (at + length bytes) all) 0 p (omega (arith, below))
        ∙ get_or_append_left (take at all) bytes 0 p (omega (arith, front)) ∙ get_or-take at all p 0 before ∙ byte-grown old (at + length bytes) p
    | inr behind ↦
        let past : at + length bytes ≤ p = out behind in
        let place : at + length bytes + (p - (at + length bytes)) ≡ p = omega arith in
        get_or-append_right (take at all ++ bytes) (drop (at + length bytes) all) (at + length bytes) p 0 below past
        ∙ get_or-drop (at + length bytes) all (p - (at + length bytes)) 0 ∙ ap (λ (q : ℕ). byte all q) place ∙ byte-grown old (at + length bytes) p
  ]

  holds_new : Holds old at bytes new
  holds_new = record {
    inside = inside;
    outside = outside;
    no_shorter = omega (arith, length-new, length-grown old (at + length bytes));
    reaches = λ some. omega (arith, length-new, long);
    no_longer = omega (arith, length-new, length-grown old (at + length bytes));
  }

pub holds_overwritten : (old : List ℕ) (at : ℕ) (bytes : List ℕ) → Holds old at bytes (overwritten old at bytes)
holds_overwritten old at [] = record {
  inside = λ k lt. absurd (omega arith);
  outside = λ p out. refl;
  no_shorter = omega arith;
  reaches = λ some. absurd (omega arith);
  no_longer = omega arith;
}
holds_overwritten old at (first ∷ rest) = holds_new old at (first ∷ rest)

-- what is read is an image, after each step
reads_next : (s : Stage) (step : Step) → IsImage s s.seen → IsImage (next s step) (next s step).seen
reads_next s (wrote at bytes) reads =
    let holds = holds_overwritten s.seen at bytes in
    record {
      kept = λ p lt free. holds.outside p free.0 ∙ reads.kept p lt free.1;
      no_shorter = omega (arith, holds.no_shorter, reads.no_shorter);
      no_longer = λ none. absurd (cc);
    }
reads_next s (lost at len) reads = record { kept = λ p lt free. reads.kept p lt free.1; no_shorter = reads.no_shorter; no_longer = λ none. absurd (cc) }
reads_next s flushed reads = record { kept = λ p lt free. refl; no_shorter = omega arith; no_longer = λ none. omega arith }
reads_next s looked reads = reads

reads_after : (s : Stage) (steps : List Step) → IsImage s s.seen → IsImage (after s steps) (after s steps).seen
reads_after s [] reads = reads
reads_after s (step ∷ steps) reads = reads_after (next s step) steps (reads_next s step reads)

pub reads_now : (first : List ℕ) (steps : List Step) → IsImage (after (start first) steps) (after (start first) steps).seen
reads_now first steps =
    reads_after (start first) steps (record { kept = λ p lt free. refl; no_shorter = omega arith; no_longer = λ none. omega arith })

pub counts_this : (first : List ℕ) (steps : List Step) (t : ℕ) (c : List ℕ) → t ≤ length steps → IsImage (after (start first) steps) c → WasImage first steps t c
counts_this first steps t c le now = record {
  at = length steps;
  since = le;
  until = omega arith;
  is = subst (λ (taken : List Step). IsImage (after (start first) taken) c) (sym (take_all (length steps) steps (omega arith))) now;
}

pub only_this : (first : List ℕ) (steps : List Step) (c : List ℕ) → WasImage first steps (length steps) c → IsImage (after (start first) steps) c
only_this first steps c was =
    subst (λ (taken : List Step). IsImage (after (start first) taken) c) (take_all was.at steps was.since) was.is
