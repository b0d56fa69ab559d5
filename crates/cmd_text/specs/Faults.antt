-- Why a command file is refused, in words.
use Rattle.std.specs.Prelude.{ℕ, List, ◌++◌, codes, decimal}
use Rattle.cmd_text.specs.declared.script.TextFault.{TextFault}
use Rattle.cmd_text.specs.declared.script.TextFault.TheVariants.{Bad, Memory}

abbrev pub fault_text : TextFault → List ℕ
fault_text (Bad line) = codes "line " ++ (decimal line ++ codes " is not a command within the limits")
fault_text Memory = codes "out of memory"
