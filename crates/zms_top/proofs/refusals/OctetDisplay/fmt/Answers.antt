use Rattle.std.proofs.Common.{◌≡◌, ℕ, ◌<◌, ◌^◌, ◌-◌, ◌/◌, ◌%◌, false, [], ◌∷◌, rules, arith, ◌∙◌, ap}
use Rattle.std.specs.Fmt.{padded_integral, format_spec, digits}
use Rattle.std.proofs.lemmas.Fmt.{hex_byte}
use Rattle.std.proofs.Output.{has_written_of_eq}
use Rattle.trace_text.specs.Numbers.{hex_digit, hex_digits}
use Rattle.zms_top.proofs.refusals.OctetDisplay.fmt.Goals as goal

-- two digits are all of a byte
octet_text : (n : ℕ) → n < 256 → padded_integral (format_spec 32 0 4 2 (2 ^ 64 - 1)) false [] (digits 16 false n) ≡ hex_digits 2 n
octet_text n lt =
    let high : n / 16 ≡ (n / 16) % 16 = omega arith in
    hex_byte false n lt ∙ ap (λ d. hex_digit d ∷ (hex_digit (n % 16) ∷ [])) high

pub returns-clause-writes : goal.returns-clause-writes
returns-clause-writes g c = λ plain ok. has_written_of_eq _ _ _ _ _ (octet_text c.args.self.now.0 (omega arith)) (search rules)
