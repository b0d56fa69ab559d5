-- The steps in each journal of two lists of events, one after the other.
use Rattle.std.proofs.Common.{◌≡◌, ℕ, Bool, true, false, cond, List, [], ◌∷◌, ◌++◌, refl, ap}
use Rattle.std.specs.Prelude.{◌==◌}
use Rattle.ms_model.specs.Steps.{Step}
use Rattle.ms_model.specs.Events.{Event, at_gate, at_metaslab, gate_steps, metaslab_steps}
use Rattle.ms_model.specs.declared.notes.Noted.{Noted}

pub gate_steps-append : (es fs : List Event) → gate_steps (es ++ fs) ≡ gate_steps es ++ gate_steps fs
gate_steps-append [] fs = refl
gate_steps-append (at_gate s ∷ es) fs = ap (λ l. s ∷ l) (gate_steps-append es fs)
gate_steps-append (at_metaslab k s ∷ es) fs = gate_steps-append es fs

step_kept : (b : Bool) (s : Step Noted) (all left right : List (Step Noted)) → all ≡ left ++ right
    → cond b (s ∷ all) all ≡ cond b (s ∷ left) left ++ right
step_kept true s all left right e = ap (λ l. s ∷ l) e
step_kept false s all left right e = e

pub metaslab_steps-append : (place : ℕ) (es fs : List Event) → metaslab_steps place (es ++ fs) ≡ metaslab_steps place es ++ metaslab_steps place fs
metaslab_steps-append place [] fs = refl
metaslab_steps-append place (at_gate s ∷ es) fs = metaslab_steps-append place es fs
metaslab_steps-append place (at_metaslab k s ∷ es) fs =
    step_kept (k == place) s (metaslab_steps place (es ++ fs)) (metaslab_steps place es) (metaslab_steps place fs) (metaslab_steps-append place es fs)
