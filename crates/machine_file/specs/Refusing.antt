-- Why a file is refused.
use Rattle.std.specs.Prelude.{◌≡◌, ℕ, List, Some, string_bytes}
use Rattle.serde_json.specs.Data.{Data}
use Rattle.machine_file.specs.declared.fault.MachineFault.{MachineFault}
use Rattle.machine_file.specs.declared.fault.MachineFault.TheVariants as fault
use Rattle.file_rules.specs.Whole.{Broken, broken_at, broken_in}
use Rattle.file_rules.specs.ValidFiles.{first_in_order}

-- the fault names this rule and this place, or memory ran out
abbrev pub Names : MachineFault → Broken → Type 0
Names (fault.Rule rule place) b = b ≡ broken_at rule (string_bytes place)
Names fault.Mem b = Unit {0}

-- a value breaks that rule first, or memory ran out
abbrev pub RefusesValue : Data → MachineFault → Type 0
RefusesValue file (fault.Rule rule place) = first_in_order file ≡ Some (broken_at rule (string_bytes place))
RefusesValue file fault.Mem = Unit {0}

-- bytes break that rule first, or memory ran out
abbrev pub Refuses : List ℕ → MachineFault → Type 0
Refuses bytes (fault.Rule rule place) = broken_in bytes ≡ Some (broken_at rule (string_bytes place))
Refuses bytes fault.Mem = Unit {0}
