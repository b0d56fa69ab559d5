-- The words of the classes.
use Rattle.std.specs.Prelude.{ℕ, List, codes}
use Rattle.zms_units.specs.declared.places.Class.{Class}
use Rattle.zms_units.specs.declared.places.Class.TheVariants.{Normal, Log, Special, Dedup}

-- a class's word, byte by byte
abbrev pub class_word : Class → List ℕ
class_word Normal = codes "normal"
class_word Log = codes "log"
class_word Special = codes "special"
class_word Dedup = codes "dedup"
