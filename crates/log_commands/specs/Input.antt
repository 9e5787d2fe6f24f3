-- A machine with a log of it in one input: the machine's file up to the first newline, and after it the log's text (own).
use Rattle.std.specs.Prelude.{◌≡◌, ◌≤◌, ◌<◌, ℕ, List, length, string_bytes, Some}
use Rattle.sleep_base.specs.Cutting.{before, after_first}
use Rattle.sleep_model.specs.declared.log.Log.{Log}
use Rattle.sleep_model.specs.declared.machine.Machine.{Machine}
use Rattle.sleep_model.specs.Fits.{IsWritable}
use Rattle.sleep_model.specs.Text.{text}
use Rattle.file_rules.specs.Whole.{machine_in, broken_at, broken_in}
use Rattle.log_text.specs.Grammar.{IsFirstBad}
use Rattle.program_ending.specs.declared.refusal.Refusal.{Refusal}
use Rattle.program_ending.specs.declared.refusal.Refusal.TheVariants.{LongMachine, Broken, BadLine}
use Rattle.program_ending.specs.Streams.{most_machine}

-- the machine's file: the bytes before the first newline
abbrev pub file_in : List ℕ → List ℕ
file_in bytes = before 10 bytes

-- the log's text: the bytes after it
abbrev pub text_in : List ℕ → List ℕ
text_in bytes = after_first 10 bytes

-- the machine that its file spells, and the log that fits it, whose text follows
pub record IsLogIn (bytes : List ℕ) (m : Machine) (log : Log) : Type 0 where
  pub few : length (file_in bytes) ≤ most_machine
  pub spells : machine_in (file_in bytes) ≡ Some m
  pub fits : IsWritable m log
  pub is_text : text m log ≡ text_in bytes

-- why the machine's file is refused: it is too long, or that is the first rule that it breaks, and the first place that breaks it
abbrev pub IsBadMachine : List ℕ → Refusal → Type 0
IsBadMachine file LongMachine = most_machine < length file
IsBadMachine file (Broken rule place) = (length file ≤ most_machine) × (broken_in file ≡ Some (broken_at rule (string_bytes place)))
IsBadMachine file refusal = ⊥

-- why a log's text is refused: that is its first bad line
abbrev pub IsBadLog : Machine → List ℕ → Refusal → Type 0
IsBadLog m bytes (BadLine n) = IsFirstBad m bytes n
IsBadLog m bytes refusal = ⊥

-- a machine is spelled, and its log's text is refused so
pub record HasBadLog (bytes : List ℕ) (refusal : Refusal) : Type 0 where
  pub machine : Machine
  pub few : length (file_in bytes) ≤ most_machine
  pub spells : machine_in (file_in bytes) ≡ Some machine
  pub bad : IsBadLog machine (text_in bytes) refusal

-- why such an input is refused: for the machine, or else for the log
abbrev pub IsBadInput : List ℕ → Refusal → Type 0
IsBadInput bytes (BadLine n) = HasBadLog bytes (BadLine n)
IsBadInput bytes refusal = IsBadMachine (file_in bytes) refusal
