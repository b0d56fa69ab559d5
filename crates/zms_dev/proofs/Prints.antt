-- Texts written one behind the other.
use Rattle.std.proofs.Common.{◌≡◌, ℕ, ◌+◌, ◌≤◌, min, List, [], ◌++◌, length, take, Result, Ok, Err, refl, sym, ◌∙◌, ap, append_assoc, subst, arith}
use Rattle.std.specs.Prelude.{is_some, IsSome, IsErr, OnOk, OnErr}
use Rattle.std.proofs.lemmas.List.{append-nil, take-append-le, take_min}
use Rattle.std.proofs.Math.Seq.{take-append-add, take-length}
use Rattle.zms_dev.specs.Causes.{HasCause, one_more}
use Rattle.zms_dev.specs.Prints.{Prints, HandsOn}
use Rattle.zms_dev.specs.Stream.{SinkState, told}
use Rattle.zms_dev.proofs.Counts.{no_fewer, cause_then}

-- a sink took all of a text
pub record Took (old new : SinkState) (text : List ℕ) : Type 0 where
  pub kind : is_some new.taken ≡ is_some old.taken
  pub whole : IsSome old.taken → told new.taken ≡ told old.taken ++ text
  pub steady : new.faults ≡ old.faults

pub took_none : (a : SinkState) → Took a a []
took_none a = record { kind = refl; whole = λ _. sym (append-nil _); steady = refl }

took_then : {T E : Type 0} (a b c : SinkState) (xs ys : List ℕ) (x : T) → Took a b xs → Prints {T = T} {E = E} b c ys (Ok x) → Took a c (xs ++ ys)
took_then a b c xs ys x first then = record {
  kind = then.kind ∙ first.kind;
  whole = λ tells. then.whole (first.kind ∙ tells) ∙ (ap (λ l. l ++ ys) (first.whole tells) ∙ append_assoc (told a.taken) xs ys);
  steady = then.cause.steady ∙ first.steady;
}

whole_at_err : {T E : Type 0} (s : Result T E) (P : Type 0) → IsErr s → OnOk s P
whole_at_err (Ok x) P e = cc
whole_at_err (Err y) P e = tt

at_err : {T E : Type 0} (r : Result T E) (P : Type 0) → IsErr r → OnErr r P → P
at_err (Ok x) P e held = cc
at_err (Err y) P e held = held

held_at_err : {T E : Type 0} (s : Result T E) (P : Type 0) → P → OnErr s P
held_at_err (Ok x) P held = tt
held_at_err (Err y) P held = held

partly_then : (old mid new xs ys zs : List ℕ) (n : ℕ) → mid ≡ old ++ xs → new ≡ mid ++ take n ys → (m : ℕ) × (new ≡ old ++ take m (xs ++ (ys ++ zs)))
partly_then old mid new xs ys zs n e d =
    let m = min n (length ys) in
    let within : m ≤ length ys = omega arith in
    let front : take m (ys ++ zs) ≡ take n ys = take-append-le m ys zs within ∙ take_min n ys in
    let all : take (length xs + m) (xs ++ (ys ++ zs)) ≡ xs ++ take n ys = take-append-add xs (ys ++ zs) m ∙ ap (λ l. xs ++ l) front in
    (length xs + m, d ∙ (ap (λ l. l ++ take n ys) e ∙ (append_assoc old xs (take n ys) ∙ ap (λ l. old ++ l) (sym all))))

cause_at_err : {T E S F : Type 0} (f g h : ℕ) (r : Result T E) (s : Result S F) → g ≡ f → IsErr r → IsErr s → HasCause g h r → HasCause f h s
cause_at_err f g h r s same bad out cause =
    let more : h ≡ one_more f = at_err r _ bad cause.failed ∙ ap one_more same in
    record {
      later = omega (arith, no_fewer f, more);
      steady = whole_at_err s _ out;
      failed = held_at_err s _ more;
    }

is_err_of : {T E : Type 0} (r : Result T E) (y : E) → r ≡ Err y → IsErr r
is_err_of r y e = rw e refl

-- a text as far as a loop or a chain of `?` has come: one piece more, a piece that failed, and the end

pub took_more : {T E : Type 0} (a b c : SinkState) (xs ys text : List ℕ) (r : Result T E) (x : T)
    → Took a b xs → Prints b c ys r → r ≡ Ok x → text ≡ xs ++ ys → Took a c text
took_more a b c xs ys text r x first then ok e = rw e (took_then a b c xs ys x first (subst (λ s. Prints b c ys s) ok then))

pub prints_failed : {T E S F : Type 0} (a b c : SinkState) (xs ys zs text : List ℕ) (r : Result T E) (y : E) (s : Result S F)
    → Took a b xs → Prints b c ys r → r ≡ Err y → IsErr s → text ≡ xs ++ (ys ++ zs) → Prints a c text s
prints_failed a b c xs ys zs text r y s first then bad out e = rw e (record {
  kind = then.kind ∙ first.kind;
  whole = λ _. whole_at_err s _ out;
  partly = λ tells. let p = then.partly (first.kind ∙ tells) in partly_then _ _ _ xs ys zs p.0 (first.whole tells) p.1;
  cause = cause_at_err a.faults b.faults c.faults r s first.steady (is_err_of r y bad) out then.cause;
})

pub prints_all : {T E : Type 0} (a b : SinkState) (xs text : List ℕ) (x : T) → Took a b xs → text ≡ xs → Prints {T = T} {E = E} a b text (Ok x)
prints_all a b xs text x all e = rw e (record {
  kind = all.kind;
  whole = all.whole;
  partly = λ tells. (length xs, all.whole tells ∙ ap (λ l. told a.taken ++ l) (sym (take-length xs)));
  cause = record { later = omega (arith, all.steady); steady = all.steady; failed = tt };
})

-- the first call of a chain of `?`, and its last, whose result is handed on

pub took_first : {T E : Type 0} (a b : SinkState) (xs : List ℕ) (r : Result T E) (x : T) → Prints a b xs r → r ≡ Ok x → Took a b xs
took_first a b xs r x first ok = took_more a a b [] xs xs r x (took_none a) first ok refl

pub prints_failed_first : {T E S F : Type 0} (a b : SinkState) (xs zs text : List ℕ) (r : Result T E) (y : E) (s : Result S F)
    → Prints a b xs r → r ≡ Err y → IsErr s → text ≡ xs ++ zs → Prints a b text s
prints_failed_first a b xs zs text r y s first bad out e = prints_failed a a b [] xs zs text r y s (took_none a) first bad out e

tail_whole : {T E : Type 0} (r : Result T E) (old mid new xs ys : List ℕ) → mid ≡ old ++ xs → OnOk r (new ≡ mid ++ ys) → OnOk r (new ≡ old ++ (xs ++ ys))
tail_whole (Ok x) old mid new xs ys e d = d ∙ (ap (λ l. l ++ ys) e ∙ append_assoc old xs ys)
tail_whole (Err y) old mid new xs ys e d = tt

pub prints_tail : {T E : Type 0} (a b c : SinkState) (xs ys text : List ℕ) (r : Result T E) → Took a b xs → Prints b c ys r → text ≡ xs ++ ys → Prints a c text r
prints_tail a b c xs ys text r first then e = rw e (record {
  kind = then.kind ∙ first.kind;
  whole = λ tells. tail_whole r _ _ _ xs ys (first.whole tells) (then.whole (first.kind ∙ tells));
  partly = λ tells.
      let p = then.partly (first.kind ∙ tells) in
      let q = partly_then _ _ _ xs ys [] p.0 (first.whole tells) p.1 in
      (q.0, q.1 ∙ ap (λ l. told a.taken ++ take q.0 (xs ++ l)) (append-nil ys));
  cause = cause_then a.faults b.faults c.faults r first.steady then.cause;
})

-- a text, and the flush behind it
pub hands_on : {T E : Type 0} (a b c : SinkState) (text : List ℕ) (r s : Result T E) (x : T)
    → Prints a b text r → r ≡ Ok x → c.taken ≡ b.taken → OnOk s (c.handed ≡ b.taken) → HasCause b.faults c.faults s → HandsOn a c text s
hands_on a b c text r s x first ok same handed cause =
    let all = took_first a b text r x first ok in
    let told_same : told c.taken ≡ told b.taken = ap told same in
    record {
      prints = record {
        kind = ap is_some same ∙ all.kind;
        whole = λ tells. on_ok s (told_same ∙ all.whole tells);
        partly = λ tells. (length text, told_same ∙ all.whole tells ∙ ap (λ l. told a.taken ++ l) (sym (take-length text)));
        cause = cause_then a.faults b.faults c.faults s all.steady cause;
      };
      left = left_now s handed;
    }
  where
    on_ok : {T E P : Type 0} (r : Result T E) → P → OnOk r P
    on_ok (Ok x) held = held
    on_ok (Err y) held = tt

    left_now : {T E : Type 0} (r : Result T E) → OnOk r (c.handed ≡ b.taken) → OnOk r (c.handed ≡ c.taken)
    left_now (Ok x) handed = handed ∙ sym same
    left_now (Err y) handed = tt

-- a text that failed was not handed on
pub hands_on_failed : {T E S F : Type 0} (a b : SinkState) (text : List ℕ) (r : Result T E) (y : E) (s : Result S F)
    → Prints a b text r → r ≡ Err y → IsErr s → HandsOn a b text s
hands_on_failed a b text r y s first bad out = record {
  prints = prints_failed_first a b text [] text r y s first bad out (sym (append-nil text));
  left = whole_at_err s _ out;
}
