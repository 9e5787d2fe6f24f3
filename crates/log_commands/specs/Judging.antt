-- What `check` says of an input: whether a log is legal and finished, else its first bad line and the number of the rule that this breaks
-- (own).
use Rattle.std.specs.Prelude.{◌≡◌, ◌≤◌, ℕ, Bool, true, false, List, ◌++◌, codes, length, Some}
use Rattle.sleep_model.specs.declared.log.Log.{Log}
use Rattle.sleep_model.specs.declared.machine.Machine.{Machine}
use Rattle.sleep_model.specs.Fits.{IsWritable}
use Rattle.rule_definitions.specs.Verdict.{IsGood}
use Rattle.sleep_model.specs.Text.{text}
use Rattle.file_rules.specs.Whole.{machine_in}
use Rattle.log_text.specs.Grammar.{IsFirstBad}
use Rattle.log_check.specs.declared.ending.Verdict.{Verdict}
use Rattle.log_check.specs.declared.ending.Verdict.TheVariants.{Good, Bad}
use Rattle.log_check.specs.Verdicts.{IsVerdict}
use Rattle.program_ending.specs.declared.refusal.Refusal.{Refusal}
use Rattle.program_ending.specs.Streams.{most_machine}
use Rattle.program_ending.specs.Texts.{with_number}
use Rattle.log_commands.specs.Input.{IsBadMachine, file_in, text_in}
use Rattle.log_commands.specs.Telling.{count_row}

-- a text has that verdict: that on the log whose text it is; if it is none's, its first line that the grammar has not is the first bad one
pub data IsVerdictOf (m : Machine) (bytes : List ℕ) : Verdict → Type 0 where
  OfLog : (log : Log) (v : Verdict) → IsWritable m log → text m log ≡ bytes → IsVerdict m log v → IsVerdictOf m bytes v
  OfLine : (line : ℕ) → IsFirstBad m bytes line → IsVerdictOf m bytes (Bad line 23)

-- the text of a verdict
abbrev pub verdict_text : Verdict → List ℕ
verdict_text Good = codes "legal\n"
verdict_text (Bad line definition) = with_number (codes "illegal line ") line ++ count_row (codes " definition ") definition

-- the log is legal and finished
abbrev pub is_good : Verdict → Bool
is_good Good = true
is_good (Bad line definition) = false

-- a text has a verdict, and this is its text
pub record ShowsVerdict (m : Machine) (bytes shown_text : List ℕ) (good : Bool) : Type 0 where
  pub verdict : Verdict
  pub is : IsVerdictOf m bytes verdict
  pub is_text : shown_text ≡ verdict_text verdict
  pub is_good : good ≡ is_good verdict

-- the bytes begin with a machine's file, and this is the text of the verdict on what follows it
pub record IsJudged (bytes shown_text : List ℕ) (good : Bool) : Type 0 where
  pub machine : Machine
  pub few : length (file_in bytes) ≤ most_machine
  pub spells : machine_in (file_in bytes) ≡ Some machine
  pub outcome : ShowsVerdict machine (text_in bytes) shown_text good

-- why there is no verdict: the machine's file is refused so
abbrev pub RefusesCheck : List ℕ → Refusal → Type 0
RefusesCheck bytes refusal = IsBadMachine (file_in bytes) refusal

-- the bytes are the text of a log that is legal and finished
pub record IsGoodText (m : Machine) (bytes : List ℕ) : Type 0 where
  pub log : Log
  pub fits : IsWritable m log
  pub is_text : text m log ≡ bytes
  pub good : IsGood m log
