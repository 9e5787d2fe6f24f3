-- What the program has read and written by the time that it ends so (own).
use Rattle.std.specs.Prelude.{◌≡◌, ◌≤◌, ◌<◌, ◌-◌, ◌^◌, ◌⊎◌, ℕ, List, length, Option, Some, None}
use Rattle.sleep_model.specs.declared.log.Log.{Log}
use Rattle.sleep_model.specs.declared.machine.Machine.{Machine}
use Rattle.sleep_model.specs.Order.{parents_of}
use Rattle.command_line.specs.declared.command.Command.{Command}
use Rattle.command_line.specs.declared.command.Command.TheVariants.{Run, Gen, Soak, Check, Locks, Stats, Idle}
use Rattle.idle_loop.specs.declared.entry.IdleSizes.{IdleSizes}
use Rattle.file_rules.specs.Whole.{machine_in}
use Rattle.machine_rounds.specs.Runs.{MayFillSource}
use Rattle.program_ending.specs.declared.ending.Ending.{Ending}
use Rattle.program_ending.specs.declared.ending.Ending.TheVariants.{Done, Stuck, Illegal, NoForm, NoMemory}
use Rattle.program_ending.specs.Endings.{status_of}
use Rattle.program_ending.specs.Streams.{KeepsInput, KeepsOut, Streams, most_machine}
use Rattle.run_commands.specs.Endings.{GenEnded, RunEnded, SoakEnded}
use Rattle.idle_commands.specs.Endings.{IdleEnded}
use Rattle.lock_commands.specs.Command.{IsLocksOf}
use Rattle.lock_commands.specs.Endings.{LocksEnded, most_locks}
use Rattle.log_commands.specs.Endings.{CheckEnded, StatsEnded, most_input}
use Rattle.log_commands.specs.Input.{IsLogIn, file_in, text_in}
use Rattle.log_commands.specs.Judging.{IsGoodText}
use Rattle.log_commands.specs.Taking.{refusal_of}

-- words of no form: the program says so, or memory ran out
abbrev pub IsRefusal : Ending → Type 0
IsRefusal NoForm = Unit {0}
IsRefusal NoMemory = Unit {0}
IsRefusal _ = ⊥

-- what an ending means, by what the words ask for; if they are of no form, nothing is read or written
abbrev pub Ended : Option Command → Streams → Streams → Ending → Type 0
Ended None old new ending = IsRefusal ending × KeepsInput old new × KeepsOut old new
Ended (Some (Run workers)) old new ending = RunEnded old new ending
Ended (Some (Gen seed devices)) old new ending = KeepsInput old new × GenEnded seed devices old.output new.output ending
Ended (Some Check) old new ending = CheckEnded old new ending
Ended (Some Locks) old new ending = LocksEnded old new ending
Ended (Some Stats) old new ending = StatsEnded old new ending
Ended (Some (Idle wakers events sessions workers)) old new ending =
    KeepsInput old new × IdleEnded (record { wakers = wakers; events = events; sessions = sessions }) old.output new.output ending
Ended (Some (Soak seed devices)) old new ending = KeepsInput old new × SoakEnded seed devices old.output new.output ending

-- no fault was counted: the count stays, and is not at the end of its type
abbrev pub NoFault : ℕ → ℕ → Type 0
NoFault before now = (now ≡ before) × (now < 2 ^ 64 - 1)

-- no source of the machine can be filled
abbrev pub FillsNone : Machine → Type 0
FillsNone m = (s : ℕ) → ¬ (MayFillSource m s)

-- one of these statuses, or out of memory
abbrev pub IsOneOf : Ending → Ending → ℕ → Type 0
IsOneOf one other status = (status ≡ status_of one) ⊎ (status ≡ status_of other) ⊎ (status ≡ status_of NoMemory)

-- no fault was counted of the streams
abbrev pub NoFaults : Streams → Streams → Type 0
NoFaults old new = NoFault old.input.faults new.input.faults × NoFault old.output.faults new.output.faults

-- the input is these bytes, within the limit
abbrev pub IsInput : ℕ → Streams → List ℕ → Type 0
IsInput most now bytes = (now.input.bytes ≡ Some bytes) × (length bytes ≤ most)

-- completeness, if no fault is counted: an input that spells a machine none of whose sources can be filled gives a log, of a run that is
-- finished or stuck; gen writes its file, soak its line, idle the text of its log, check whether the text after a machine is that of a log
-- that is legal and finished, locks the answers to lines that are not refused, and stats the text for a machine and a log that fits it, no
-- link of which is refused; or memory ran out
abbrev pub Completes : Option Command → Streams → Streams → ℕ → Type 0
Completes None old new status = IsOneOf NoForm NoForm status
Completes (Some (Run workers)) old new status =
    (bytes : List ℕ) → IsInput most_machine old bytes → (m : Machine) → machine_in bytes ≡ Some m → FillsNone m → NoFaults old new
    → IsOneOf Done Stuck status
Completes (Some (Gen seed devices)) old new status = NoFault old.output.faults new.output.faults → IsOneOf Done Done status
Completes (Some (Soak seed devices)) old new status = NoFault old.output.faults new.output.faults → IsOneOf Done Stuck status
Completes (Some (Idle wakers events sessions workers)) old new status = NoFault old.output.faults new.output.faults → IsOneOf Done Done status
Completes (Some Check) old new status =
    (bytes : List ℕ) → IsInput most_input old bytes → (m : Machine) → length (file_in bytes) ≤ most_machine → machine_in (file_in bytes) ≡ Some m → NoFaults old new
    → (IsGoodText m (text_in bytes) → IsOneOf Done Done status) × ((IsGoodText m (text_in bytes) → ⊥) → IsOneOf Illegal Illegal status)
Completes (Some Locks) old new status =
    (bytes shown_text : List ℕ) → IsInput most_locks old bytes → IsLocksOf bytes shown_text → NoFaults old new → IsOneOf Done Done status
Completes (Some Stats) old new status =
    (bytes : List ℕ) → IsInput most_input old bytes → (m : Machine) → (log : Log) → IsLogIn bytes m log
    → refusal_of (parents_of m.devices) m.links log.entries ≡ None → NoFaults old new → IsOneOf Done Done status
