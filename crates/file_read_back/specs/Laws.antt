-- That a machine is read back from what is written for it, and that texts determine its logs.
use Rattle.std.specs.Prelude.{◌≡◌, ◌≤◌, ℕ, List, codes, true, false, bytes_eq, Some, None}
use Rattle.serde_json.specs.Data.{Data}
use Rattle.serde_json.specs.Find.{get}
use Rattle.sleep_model.specs.declared.log.Log.{Log}
use Rattle.sleep_model.specs.declared.machine.Machine.{Machine}
use Rattle.sleep_model.specs.Fits.{IsWritable}
use Rattle.sleep_model.specs.Text.{text}
use Rattle.borrowed_json.specs.Look.{has_only}
use Rattle.file_rules.specs.Members.{file_members}
use Rattle.file_rules.specs.Whole.{first_broken, whole_machine, IsSpelled}
use Rattle.log_text.specs.Named.{AreNamed}
use Rattle.machine_file.specs.Spelling.{count, machine_value, ReadsBack}
use Rattle.sleep_script.specs.Generated.{generated}

-- the value that is written for what this value spells breaks no rule, and spells the same
abbrev pub SpellsAgain : Data → Type 0
SpellsAgain d = (first_broken (machine_value (whole_machine d)) ≡ None) × (whole_machine (machine_value (whole_machine d)) ≡ whole_machine d)

-- so it is of each value that breaks no rule
abbrev pub AllSpellAgain : Type 0
AllSpellAgain = (d : Data) → first_broken d ≡ None → SpellsAgain d

-- the second value is the first, but that it says version 2
pub record IsSecondOf (d e : Data) : Type 0 where
  pub version : get (codes "version") e ≡ Some (count 2)
  pub members : has_only file_members e ≡ true
  pub others : (name : List ℕ) → bytes_eq name (codes "version") ≡ false → get name e ≡ get name d

-- if the first breaks no rule, the second breaks none and spells the same machine
abbrev pub AllVersionsAlike : Type 0
AllVersionsAlike = (d e : Data) → IsSecondOf d e → first_broken d ≡ None → (first_broken e ≡ None) × (whole_machine e ≡ whole_machine d)

-- the names of each machine that a file spells are spelled as names are, and different
abbrev pub AllNamed : Type 0
AllNamed = (m : Machine) → IsSpelled m → AreNamed m

-- two logs that fit a machine which a file spells are one log if they have one text
abbrev pub TextsAreInjective : Type 0
TextsAreInjective = (m : Machine) → IsSpelled m → (a b : Log) → IsWritable m a → IsWritable m b → text m a ≡ text m b → a ≡ b

-- what is written for the generated machine of each seed and of 1 to 1000 devices is accepted, and spells it
abbrev pub AllGenerated : Type 0
AllGenerated = (seed devices : ℕ) → 1 ≤ devices → devices ≤ 1000 → ReadsBack (generated seed devices)
