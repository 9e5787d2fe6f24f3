-- Short words for the terms of machines and logs, here and in the laws that `tools/dev try definitions` writes.
use Rattle.std.specs.Prelude.{ℕ, true, false, List, [], ℤ, Option}
use Rattle.sleep_model.specs.declared.entry.Actor.{Actor}
use Rattle.sleep_model.specs.declared.entry.Entry.{Entry}
use Rattle.sleep_model.specs.declared.entry.Kind.{Kind}
use Rattle.sleep_model.specs.declared.log.Log.{Log}
use Rattle.sleep_model.specs.declared.log.LogEnd.TheVariants.{Finished, Stuck}
use Rattle.sleep_model.specs.declared.log.Stats.{Stats}
use Rattle.sleep_model.specs.declared.log.Waiting.{Waiting}
use Rattle.sleep_model.specs.declared.log.Why.{Why}
use Rattle.sleep_model.specs.declared.machine.Answer.{Answer}
use Rattle.sleep_model.specs.declared.machine.Device.{Device}
use Rattle.sleep_model.specs.declared.machine.Link.{Link}
use Rattle.sleep_model.specs.declared.machine.Machine.{Machine}
use Rattle.sleep_model.specs.declared.machine.Notifier.{Notifier}
use Rattle.sleep_model.specs.declared.machine.Op.{Op}
use Rattle.sleep_model.specs.declared.machine.Report.{Report}
use Rattle.sleep_model.specs.declared.machine.Script.{Script}
use Rattle.sleep_model.specs.declared.machine.SourceCall.{SourceCall}
use Rattle.sleep_model.specs.declared.machine.Step.{Step}
use Rattle.sleep_model.specs.declared.machine.TaskKind.{TaskKind}
use Rattle.sleep_model.specs.declared.machine.What.{What}
use Rattle.sleep_model.specs.declared.word.EventNow.{EventNow}

-- an event word
abbrev pub word : ℕ → ℕ → ℕ → EventNow
word inpr count hard = record { inpr = inpr; count = count; hard = hard }

-- an entry
abbrev pub entry : ℕ → EventNow → Actor → Kind → Entry
entry time now who kind = record { time = time; now = now; actor = who; kind = kind }

-- a device with that parent; of its flags 1 is asynchronous, 2 may wake the machine, 4 is runtime suspended
abbrev pub device : List ℕ → Option ℕ → ℕ → Device
device name parent flags = record { name = name; parent = parent; flags = record { 0 = flags } }

-- an active link of that supplier and that consumer
abbrev pub link : ℕ → ℕ → Link
link supplier consumer = record { supplier = supplier; consumer = consumer; active = true }

-- a dormant link of that supplier and that consumer
abbrev pub dormant : ℕ → ℕ → Link
dormant supplier consumer = record { supplier = supplier; consumer = consumer; active = false }

-- a notifier with that priority
abbrev pub notifier : List ℕ → ℤ → Notifier
notifier name priority = record { name = name; priority = priority }

-- a task or an interrupt line that makes these steps so often
abbrev pub script : List ℕ → TaskKind → ℕ → List Step → Script
script name kind repeat steps = record { name = name; kind = kind; repeat = repeat; steps = steps }

-- an operation, made once
abbrev pub once : Op → Step
once op = record { op = op; times = 1 }

-- an operation, made so often
abbrev pub times : ℕ → Op → Step
times count op = record { op = op; times = count }

-- a thing's answer in that attempt, or in any, with what it reports meanwhile
abbrev pub answer : What → Option ℕ → ℤ → List Report → Answer
answer what attempt ret reports = record { what = what; attempt = attempt; ret = ret; reports = reports }

-- a call on that source
abbrev pub report : ℕ → SourceCall → Report
report source call = record { source = source; call = call }

-- a machine with nothing in it
abbrev pub empty_machine : Machine
empty_machine = record {
  alarm_ms = 1000;
  cpus = 1;
  auto_cycles = 16;
  devices = [];
  links = [];
  syscore = [];
  notifiers = [];
  sources = [];
  marks = [];
  actors = [];
  answers = [];
}

-- the statistics of a source
abbrev pub stats : ℕ → ℕ → ℕ → ℕ → ℕ → ℕ → ℕ → Stats
stats active events expired now total longest last = record { active_count = active; event_count = events; expire_count = expired; active_time = now; total_time = total; max_time = longest; last_time = last }

-- those of a source that was never called
abbrev pub unused : Stats
unused = stats 0 0 0 0 0 0 0

-- a finished log of these entries and statistics
abbrev pub log_of : List Entry → List Stats → Log
log_of entries stats = record { entries = entries; stats = stats; end = Finished }

-- a log of these entries and statistics that is stuck because these scripts wait
abbrev pub stuck_log : List Entry → List Stats → List Waiting → Log
stuck_log entries stats waiting = record { entries = entries; stats = stats; end = Stuck waiting }

-- a script that waits for that
abbrev pub waiting : Actor → Why → Waiting
waiting who why = record { actor = who; why = why }
