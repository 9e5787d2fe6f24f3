-- What was read and written by the time that a run of a file, gen or soak ends (own).
use Rattle.std.specs.Prelude.{◌≡◌, ℕ, Bool, true, false, List, string_bytes, Some, Result, Ok, Err}
use Rattle.sleep_base.specs.declared.outside.Failed.{Failed}
use Rattle.sleep_base.specs.Faults.{Rose}
use Rattle.sleep_model.specs.declared.log.Log.{Log}
use Rattle.sleep_model.specs.declared.log.LogEnd.{LogEnd}
use Rattle.sleep_model.specs.declared.log.LogEnd.TheVariants as end
use Rattle.sleep_model.specs.declared.machine.Machine.{Machine}
use Rattle.sleep_model.specs.Legal.{IsFinishedLog, IsStuckLog}
use Rattle.sleep_model.specs.Text.{text, source}
use Rattle.machine_file.specs.Spelling.{spelling}
use Rattle.file_rules.specs.Whole.{machine_in, broken_at, broken_in}
use Rattle.sleep_script.specs.Generated.{generated}
use Rattle.world_workers.specs.declared.fault.RunFault.{RunFault}
use Rattle.world_workers.specs.declared.fault.RunFault.TheVariants as fault
use Rattle.machine_rounds.specs.Runs.{IsRun, MayFillSource}
use Rattle.program_ending.specs.declared.ending.Ending.{Ending}
use Rattle.program_ending.specs.declared.ending.Ending.TheVariants.{Done, Stuck, Illegal, NoForm, ReadFault, WriteFault, Refused, NoMemory}
use Rattle.program_ending.specs.declared.refusal.Refusal.{Refusal}
use Rattle.program_ending.specs.declared.refusal.Refusal.TheVariants.{LongMachine, Broken, SourceFull}
use Rattle.program_ending.specs.Streams.{KeepsOut, ReadWhole, RefusesInput, Stream, Streams, Writes, most_machine}
use Rattle.program_ending.specs.CommandEndings.{Refuses}
use Rattle.run_commands.specs.Counting.{count_line, counts_of}
use Rattle.run_commands.specs.declared.run.Ran.{Ran}

-- ---- run

-- the run was stuck
abbrev pub is_stuck : LogEnd → Bool
is_stuck end.Finished = false
is_stuck (end.Stuck those) = true

-- the log of a run ends so: nothing is left to do, or nobody goes on
abbrev pub EndsAs : Machine → Log → Bool → Type 0
EndsAs m log false = IsFinishedLog m log
EndsAs m log true = IsStuckLog m log

-- the text is that of the log of a run of the machine that the bytes spell, which is stuck or not
pub record IsLogOf (bytes shown_text : List ℕ) (stuck : Bool) : Type 0 where
  pub machine : Machine
  pub log : Log
  pub spells : machine_in bytes ≡ Some machine
  pub run : IsRun machine log
  pub ends : EndsAs machine log stuck
  pub is_text : shown_text ≡ text machine log

-- the first rule that the bytes break is that one, and there
abbrev pub IsBroken : List ℕ → ℕ → List ℕ → Type 0
IsBroken bytes rule place = broken_in bytes ≡ Some (broken_at rule place)

-- the bytes spell a machine, and a source of that name has no place for a call
pub record FillsSource (bytes name : List ℕ) : Type 0 where
  pub machine : Machine
  pub number : ℕ
  pub spells : machine_in bytes ≡ Some machine
  pub full : MayFillSource machine number
  pub named : name ≡ source machine number

-- the ending names that source of the machine
abbrev pub IsFullNamed : Machine → ℕ → Ending → Type 0
IsFullNamed m s (Refused (SourceFull name)) = name ≡ source m s
IsFullNamed m s _ = ⊥

-- how the program ends if a run gives no log: a full source is named, and only a lack of memory is reported as such
abbrev pub IsEndingOfRun : Machine → RunFault → Ending → Type 0
IsEndingOfRun m (fault.SourceFull s) ending = IsFullNamed m s ending
IsEndingOfRun m fault.Mem ending = ending ≡ NoMemory

-- why the bytes give no log: they break a rule, or spell a machine that fills a source
abbrev pub RefusesRun : List ℕ → Refusal → Type 0
RefusesRun bytes (Broken rule place) = IsBroken bytes rule (string_bytes place)
RefusesRun bytes (SourceFull name) = FillsSource bytes name
RefusesRun bytes refusal = ⊥

-- the bytes spell that machine, and the log is that of a run of it
pub record IsRunOf (bytes : List ℕ) (m : Machine) (log : Log) : Type 0 where
  pub spells : machine_in bytes ≡ Some m
  pub run : IsRun m log

-- the bytes give a machine and the log of its run, or there is none
abbrev pub GivesRun : List ℕ → Result Ran Ending → Type 0
GivesRun bytes (Ok ran) = IsRunOf bytes ran.machine ran.log
GivesRun bytes (Err ending) = Refuses (RefusesRun bytes) ending

-- how the program ends once the text of a run, which was stuck or not, was written so
abbrev pub ending_of : Result Unit Failed → Bool → Ending
ending_of (Ok _) true = Stuck
ending_of (Ok _) false = Done
ending_of (Err _) stuck = WriteFault

-- the text of a machine's log was written, or a prefix of it, or memory ran out before
abbrev pub WritesText : Machine → Log → Stream → Stream → Ending → Type 0
WritesText machine log old new NoMemory = new ≡ old
WritesText machine log old new ending = Writes old new (text machine log) (is_stuck log.end) ending

-- the same of the log of a run
abbrev pub WritesLog : Ran → Stream → Stream → Ending → Type 0
WritesLog ran = WritesText ran.machine ran.log

-- the whole input was a machine file, and the text is that of its log
abbrev pub RanFile : Stream → Stream → List ℕ → Bool → Type 0
RanFile old new shown_text stuck = (bytes : List ℕ) × ReadWhole most_machine old new bytes × IsLogOf bytes shown_text stuck

-- the log's text was written, or a prefix of it
abbrev pub WroteLog : Streams → Streams → Ending → Type 0
WroteLog old new ending = (shown_text : List ℕ) × (stuck : Bool) × RanFile old.input new.input shown_text stuck × Writes old.output new.output shown_text stuck ending

-- what an ending of a run of a file means
abbrev pub RunEnded : Streams → Streams → Ending → Type 0
RunEnded old new Done = WroteLog old new Done
RunEnded old new Stuck = WroteLog old new Stuck
RunEnded old new WriteFault = WroteLog old new WriteFault
-- more than 16,777,216 bytes came, they break that rule first and there, or a source's history has no place for a call
RunEnded old new (Refused refusal) = RefusesInput most_machine LongMachine RefusesRun old.input new.input refusal × KeepsOut old new
-- a read failed
RunEnded old new ReadFault = Rose old.input.faults new.input.faults × KeepsOut old new
RunEnded old new NoMemory = KeepsOut old new
RunEnded old new Illegal = ⊥
RunEnded old new NoForm = ⊥

-- ---- gen

-- what an ending of gen means: the file of the generator's machine was written, or a prefix of it, or memory ran out
abbrev pub GenEnded : ℕ → ℕ → Stream → Stream → Ending → Type 0
GenEnded seed devices old new NoMemory = new ≡ old
GenEnded seed devices old new ending = Writes old new (spelling (generated seed devices)) false ending

-- ---- soak

-- the text is the line of the numbers of one log: that of a run of the generator's machine, which is stuck or not
pub record IsLineOf (seed devices : ℕ) (shown_text : List ℕ) (stuck : Bool) : Type 0 where
  pub log : Log
  pub run : IsRun (generated seed devices) log
  pub ends : EndsAs (generated seed devices) log stuck
  pub is_line : shown_text ≡ count_line (counts_of log) stuck

-- what an ending of soak means: the line was written, or a prefix of it, or memory ran out
abbrev pub SoakEnded : ℕ → ℕ → Stream → Stream → Ending → Type 0
SoakEnded seed devices old new NoMemory = new ≡ old
SoakEnded seed devices old new ending =
    (shown_text : List ℕ) × (stuck : Bool) × IsLineOf seed devices shown_text stuck × Writes old new shown_text stuck ending
