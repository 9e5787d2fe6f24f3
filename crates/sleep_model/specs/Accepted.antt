-- What holds of each machine that a file may spell.
use Rattle.std.specs.Prelude.{◌≡◌, ◌≤◌, ◌<◌, suc, ◌+◌, ◌*◌, Bool, true, false, ◌==◌, ◌&&◌, ◌||◌, List, [], ◌∷◌, length, reverse, ℤ, pos, negsuc, IfSome, is_some}
use Rattle.sleep_model.specs.declared.machine.Answer.{Answer}
use Rattle.sleep_model.specs.declared.machine.Machine.{Machine}
use Rattle.sleep_model.specs.declared.machine.Op.{Op}
use Rattle.sleep_model.specs.declared.machine.Op.TheVariants as op
use Rattle.sleep_model.specs.declared.machine.Report.{Report}
use Rattle.sleep_model.specs.declared.machine.Script.{Script}
use Rattle.sleep_model.specs.declared.machine.SourceCall.{SourceCall}
use Rattle.sleep_model.specs.declared.machine.SourceCall.TheVariants as call
use Rattle.sleep_model.specs.declared.machine.Step.{Step}
use Rattle.sleep_model.specs.declared.machine.What.{What}
use Rattle.sleep_model.specs.declared.machine.What.TheVariants as what
use Rattle.phase_table.specs.declared.phase.Phase.TheVariants as phase
use Rattle.sleep_model.specs.Answers.{errno_with, errors}
use Rattle.sleep_model.specs.Links.{AreLinks}
use Rattle.sleep_model.specs.Order.{EachAfterParent, parents_of}
use Rattle.sleep_model.specs.Places.{all_operations, link_steps, most_attempts}

-- ---- numbers that name things

-- what an operation names is there, and a sleep's or an event's length is at most a day, in ms
abbrev pub IsOp : Machine → Op → Type 0
IsOp m (op.Save count) = IfSome count (λ c. c < 4294967296)
IsOp m (op.State text if_saved) = length text ≤ 32
IsOp m (op.Autosleep text) = length text ≤ 32
IsOp m (op.Sleep ms) = ms ≤ 86400000
IsOp m (op.SleepD ms) = ms ≤ 86400000
IsOp m (op.Post mark) = mark < length m.marks
IsOp m (op.Wait mark) = mark < length m.marks
IsOp m (op.Runtime d to_suspended) = d < length m.devices
IsOp m (op.Link supplier consumer) = (supplier < length m.devices) × (consumer < length m.devices)
IsOp m (op.LinkState supplier consumer active) = (supplier < length m.devices) × (consumer < length m.devices)
IsOp m (op.Awake s) = s < length m.sources
IsOp m (op.Relax s) = s < length m.sources
IsOp m (op.Event s ms hard) = (s < length m.sources) × (ms ≤ 86400000)
IsOp m _ = Unit {0}

-- each of these steps is made 1 to 20,000 times, and names what is there
abbrev pub AreSteps : Machine → List Step → Type 0
AreSteps m [] = Unit {0}
AreSteps m (s ∷ ss) = (0 < s.times) × (s.times ≤ 20000) × IsOp m s.op × AreSteps m ss

-- each of these scripts is made 1 to 1,000 times, and its steps name what is there
abbrev pub AreScripts : Machine → List Script → Type 0
AreScripts m [] = Unit {0}
AreScripts m (s ∷ ss) = (0 < s.repeat) × (s.repeat ≤ 1000) × AreSteps m s.steps × AreScripts m ss

-- ---- answers

-- an answer of 1, which only a device's prepare may give (device_prepare)
abbrev pub is_one_allowed : What → Bool
is_one_allowed (what.Device d phase.Prepare) = true
is_one_allowed _ = false

-- the thing may answer so: 0, an error, or 1 if that is allowed
abbrev pub is_ret_of : What → ℤ → Bool
is_ret_of thing (pos n) = n == 0 || (n == 1 && is_one_allowed thing)
is_ret_of thing (negsuc n) = is_some (errno_with (suc n) errors)

-- the thing that answers is there
abbrev pub IsThing : Machine → What → Type 0
IsThing m (what.Device d p) = d < length m.devices
IsThing m (what.Syscore x) = x < length m.syscore
IsThing m (what.Notifier x) = x < length m.notifiers
IsThing m (what.Platform step) = Unit {0}

-- a report is a call of its maker's, and an event's length is at most a day, in ms
abbrev pub IsReport : SourceCall → Type 0
IsReport call.Expire = ⊥
IsReport (call.Event ms hard) = ms ≤ 86400000
IsReport _ = Unit {0}

-- each of these reports is of a source that is there, and may be made
abbrev pub AreReports : Machine → List Report → Type 0
AreReports m [] = Unit {0}
AreReports m (r ∷ rs) = (r.source < length m.sources) × IsReport r.call × AreReports m rs

-- each of these answers is of a thing that is there, and may be given; its reports are of sources that are there
abbrev pub AreAnswers : Machine → List Answer → Type 0
AreAnswers m [] = Unit {0}
AreAnswers m (a ∷ rest) =
    IsThing m a.what × (is_ret_of a.what a.ret ≡ true) × (length a.reports ≤ 16) × AreReports m a.reports
    × AreAnswers m rest

-- ---- the machine

-- a machine that a file may spell
pub record IsAccepted (m : Machine) : Type 0 where
  pub alarm_least : 0 < m.alarm_ms
  pub alarm_most : m.alarm_ms ≤ 86400000
  pub cpus_least : 0 < m.cpus
  pub cpus_most : m.cpus ≤ 64
  pub cycles_most : m.auto_cycles ≤ 1000
  pub devices : length m.devices ≤ 1000
  pub parents : EachAfterParent 0 (parents_of m.devices)
  pub few_links : length m.links + link_steps m.actors ≤ 4000
  pub links : AreLinks (parents_of m.devices) (reverse m.links)
  pub syscore : length m.syscore ≤ 32
  pub notifiers : length m.notifiers ≤ 32
  pub sources : length m.sources ≤ 255
  pub actors : length m.actors ≤ 256
  pub scripts : AreScripts m m.actors
  pub steps : length (all_operations m.actors) ≤ 200000
  pub answers : AreAnswers m m.answers
  pub few_answers : length m.answers ≤ 10000
  pub attempts : most_attempts m * (length m.devices + 50) ≤ 100000
