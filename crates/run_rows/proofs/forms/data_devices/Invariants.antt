use Rattle.std.proofs.Common.{◌≡◌, length}
use Rattle.run_rows.proofs.forms.data_devices.Given as goal

abbrev pub invariant-loop : goal.invariant-loop
invariant-loop l = length l.devices.items ≡ l.counter
