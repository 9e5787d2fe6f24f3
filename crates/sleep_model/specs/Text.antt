-- The text of a log: a line an entry, a line a source, and how the run ended.
use Rattle.std.specs.Prelude.{ℕ, suc, Bool, true, false, List, [], ◌∷◌, ◌++◌, codes, decimal, flat_map, ℤ, Option, Some, None, slice_get, unwrap_or, pos, negsuc}
use Rattle.sleep_base.specs.declared.errno.Errno.{Errno}
use Rattle.sleep_base.specs.declared.errno.Errno.TheVariants.{EINVAL}
use Rattle.sleep_base.specs.Errno.{errno_with, errors, name_of}
use Rattle.sleep_model.specs.declared.word.EventNow.{EventNow}
use Rattle.sleep_model.specs.declared.entry.Actor.{Actor}
use Rattle.sleep_model.specs.declared.entry.Actor.TheVariants as actor
use Rattle.sleep_model.specs.declared.entry.Entry.{Entry}
use Rattle.sleep_model.specs.declared.entry.Kind.{Kind}
use Rattle.sleep_model.specs.declared.entry.Kind.TheVariants as kind
use Rattle.sleep_model.specs.declared.entry.SkipCause.{SkipCause}
use Rattle.sleep_model.specs.declared.entry.SkipCause.TheVariants as cause
use Rattle.sleep_model.specs.declared.entry.FrozeEnd.{FrozeEnd}
use Rattle.sleep_model.specs.declared.entry.FrozeEnd.TheVariants.{AllFrozen, Timeout, Wakeup}
use Rattle.sleep_model.specs.declared.entry.Group.{Group}
use Rattle.sleep_model.specs.declared.entry.Group.TheVariants.{User, Kernel}
use Rattle.sleep_model.specs.declared.entry.State.{State}
use Rattle.sleep_model.specs.declared.entry.State.TheVariants.{Mem, Off}
use Rattle.sleep_model.specs.declared.entry.Thaw.TheVariants as thaw
use Rattle.sleep_model.specs.declared.machine.Notifier.{Notifier}
use Rattle.sleep_model.specs.declared.machine.PlatDo.{PlatDo}
use Rattle.sleep_model.specs.declared.machine.PlatDo.TheVariants as down
use Rattle.sleep_model.specs.declared.machine.PlatUndo.{PlatUndo}
use Rattle.sleep_model.specs.declared.machine.PlatUndo.TheVariants as up
use Rattle.sleep_model.specs.declared.machine.Machine.{Machine}
use Rattle.sleep_model.specs.declared.machine.Device.{Device}
use Rattle.sleep_model.specs.declared.machine.Script.{Script}
use Rattle.sleep_model.specs.declared.machine.TaskKind.{TaskKind}
use Rattle.sleep_model.specs.declared.machine.TaskKind.TheVariants.{Irq}
use Rattle.sleep_model.specs.declared.machine.TaskKind.TheVariants as task_kind
use Rattle.sleep_model.specs.declared.log.Log.{Log}
use Rattle.sleep_model.specs.declared.log.LogEnd.{LogEnd}
use Rattle.sleep_model.specs.declared.log.LogEnd.TheVariants.{Finished, Stuck}
use Rattle.sleep_model.specs.declared.log.Stats.{Stats}
use Rattle.sleep_model.specs.declared.log.Waiting.{Waiting}
use Rattle.sleep_model.specs.declared.log.Why.{Why}
use Rattle.sleep_model.specs.declared.log.Why.TheVariants.{InProgress, Mark}
use Rattle.phase_table.specs.Phases.{phase_name}

-- a space
abbrev pub space : List ℕ
space = 32 ∷ []

-- the end of a line
abbrev pub newline : List ℕ
newline = 10 ∷ []

-- the name of the thing with that number, in a list of names
abbrev pub name_in : Option (List ℕ) → List ℕ
name_in None = []
name_in (Some name) = name

-- the device's name
abbrev pub device_name : Option Device → List ℕ
device_name None = []
device_name (Some d) = d.name

-- 0, or the error's name
abbrev pub answer_text : Option Errno → List ℕ
answer_text None = codes "0"
answer_text (Some r) = name_of r

-- why a device was skipped
abbrev pub cause_text : SkipCause → List ℕ
cause_text cause.Error = codes "error"
cause_text cause.Pending = codes "pending"
cause_text cause.Direct = codes "direct"

-- the count that guards an attempt, or plain
abbrev pub guard_text : Option ℕ → List ℕ
guard_text None = codes "plain"
guard_text (Some c) = codes "guarded " ++ decimal c

-- an interrupt line, or a task
abbrev pub script_word : TaskKind → List ℕ
script_word Irq = codes "irq:"
script_word _ = codes "task:"

-- the word of a kind of task
abbrev pub kind_word : TaskKind → List ℕ
kind_word task_kind.User = codes "user"
kind_word task_kind.Kthread = codes "kthread"
kind_word task_kind.NoFreeze = codes "nofreeze"
kind_word task_kind.Irq = codes "irq"

-- a script as it is named in a log
abbrev pub script_text : Option Script → List ℕ
script_text None = []
script_text (Some s) = script_word s.kind ++ s.name

-- the names of the file's sources, autosleep last
abbrev pub source_names : Machine → List (List ℕ)
source_names m = m.sources ++ codes "autosleep" ∷ []

-- the name of the source with that number
abbrev pub source : Machine → ℕ → List ℕ
source m s = name_in (slice_get (source_names m) s)

-- who makes an entry
abbrev pub actor_text : Machine → Actor → List ℕ
actor_text m (actor.Script i) = script_text (slice_get m.actors i)
actor_text m actor.Auto = codes "auto"
actor_text m (actor.Dev d) = codes "dev:" ++ device_name (slice_get m.devices d)
actor_text m (actor.Timer s) = codes "timer:" ++ source m s
actor_text m actor.Time = codes "time"

-- the name of the device with that number
abbrev pub device : Machine → ℕ → List ℕ
device m d = device_name (slice_get m.devices d)

-- the notifier's name
abbrev pub notifier_name : Option Notifier → List ℕ
notifier_name None = []
notifier_name (Some x) = x.name

-- the name of the notifier with that number
abbrev pub notifier : Machine → ℕ → List ℕ
notifier m x = notifier_name (slice_get m.notifiers x)

-- the name of the syscore step with that number
abbrev pub syscore : Machine → ℕ → List ℕ
syscore m x = name_in (slice_get m.syscore x)

-- the name of the mark with that number
abbrev pub mark : Machine → ℕ → List ℕ
mark m x = name_in (slice_get m.marks x)

-- the script's name
abbrev pub task_name : Option Script → List ℕ
task_name None = []
task_name (Some s) = s.name

-- the name of the script with that number
abbrev pub task : Machine → ℕ → List ℕ
task m i = task_name (slice_get m.actors i)

-- what autosleep is set to
abbrev pub state_word : State → List ℕ
state_word Mem = codes "mem"
state_word Off = codes "off"

-- whom a freeze asks
abbrev pub group_word : Group → List ℕ
group_word User = codes "user"
group_word Kernel = codes "kernel"

-- the runtime status that is asked for, true for suspended
abbrev pub runtime_word : Bool → List ℕ
runtime_word true = codes "suspended"
runtime_word false = codes "active"

-- the state of a link
abbrev pub link_word : Bool → List ℕ
link_word true = codes "active"
link_word false = codes "dormant"

-- whether an event is hard
abbrev pub hard_word : Bool → List ℕ
hard_word true = codes "hard"
hard_word false = codes "soft"

-- the tasks that a failed freeze left, and the first of them
abbrev pub froze_text : Machine → FrozeEnd → List ℕ
froze_text m AllFrozen = codes "0"
froze_text m (Timeout left first) = codes "EBUSY timeout " ++ decimal left ++ space ++ task m first
froze_text m (Wakeup left first) = codes "EBUSY wakeup " ++ decimal left ++ space ++ task m first

-- the platform's step on the way down
abbrev pub down_word : PlatDo → List ℕ
down_word down.Begin = codes "begin"
down_word down.Prepare = codes "prepare"
down_word down.PrepareLate = codes "prepare_late"

-- the platform's step on the way up
abbrev pub up_word : PlatUndo → List ℕ
up_word up.Recover = codes "recover"
up_word up.Wake = codes "wake"
up_word up.Finish = codes "finish"
up_word up.End = codes "end"

-- the name of the error with that number, and EINVAL's if no error has it
abbrev pub error_text : ℕ → List ℕ
error_text n = name_of (unwrap_or (errno_with n errors) EINVAL)

-- what prepare answered: 0, 1, or an error's name
abbrev pub prepare_text : ℤ → List ℕ
prepare_text (pos n) = decimal n
prepare_text (negsuc n) = error_text (suc n)

-- entries of the platform, of processors and of syscore steps
abbrev pub platform_body : Machine → Kind → List ℕ
platform_body m (kind.PlatformDo what r) = codes "platform " ++ down_word what ++ space ++ answer_text r
platform_body m (kind.PlatformUndo what) = codes "platform " ++ up_word what
platform_body m (kind.CpuOff k) = codes "cpu off " ++ decimal k
platform_body m (kind.CpuBusy k) = codes "cpu EBUSY " ++ decimal k
platform_body m (kind.CpuOn k) = codes "cpu on " ++ decimal k
platform_body m (kind.Irqs true) = codes "irqs on"
platform_body m (kind.Irqs false) = codes "irqs off"
platform_body m (kind.SyscoreCheck r) = codes "syscore check " ++ answer_text r
platform_body m (kind.SyscoreSuspend x r) = codes "syscore suspend " ++ syscore m x ++ space ++ answer_text r
platform_body m (kind.SyscoreResume x) = codes "syscore resume " ++ syscore m x
platform_body m (kind.Enter true) = codes "enter EBUSY"
platform_body m (kind.Enter false) = codes "enter"
platform_body m (kind.Wake true) = codes "wake event"
platform_body m (kind.Wake false) = codes "wake alarm"
platform_body m kind.Clear = codes "clear"
platform_body m _ = []

-- entries of an attempt's start and end, of notifiers and of the freezer, and of the platform
abbrev pub attempt_body : Machine → Kind → List ℕ
attempt_body m (kind.Attempt n guarded) = codes "attempt " ++ decimal n ++ space ++ guard_text guarded
attempt_body m (kind.Over n r) = codes "over " ++ decimal n ++ space ++ answer_text r
attempt_body m (kind.NotifyPrepare x r) = codes "notify " ++ notifier m x ++ codes " prepare " ++ answer_text r
attempt_body m (kind.NotifyPost x) = codes "notify " ++ notifier m x ++ codes " post"
attempt_body m (kind.Freeze g) = codes "freeze " ++ group_word g
attempt_body m (kind.Froze g end) = codes "froze " ++ group_word g ++ space ++ froze_text m end
attempt_body m (kind.Thaw thaw.Kernel) = codes "thaw kernel"
attempt_body m (kind.Thaw thaw.All) = codes "thaw all"
attempt_body m k = platform_body m k

-- entries of device phases, and of attempts
abbrev pub phase_body : Machine → Kind → List ℕ
phase_body m (kind.Prepare d r) = codes "prepare " ++ device m d ++ space ++ prepare_text r
phase_body m (kind.Complete d) = codes "complete " ++ device m d
phase_body m (kind.Schedule p d) = codes "schedule " ++ phase_name p ++ space ++ device m d
phase_body m (kind.Begin p d) = codes "begin " ++ phase_name p ++ space ++ device m d
phase_body m (kind.End p d r) = codes "end " ++ phase_name p ++ space ++ device m d ++ space ++ answer_text r
phase_body m (kind.Skip p d why) = codes "skip " ++ phase_name p ++ space ++ device m d ++ space ++ cause_text why
phase_body m (kind.Done p r) = codes "done " ++ phase_name p ++ space ++ answer_text r
phase_body m k = attempt_body m k

-- entries of sources and of time, and of attempts
abbrev pub source_body : Machine → Kind → List ℕ
source_body m (kind.Awake s) = codes "awake " ++ source m s
source_body m (kind.Relax s) = codes "relax " ++ source m s
source_body m (kind.Event s ms hard) = codes "event " ++ source m s ++ space ++ decimal ms ++ space ++ hard_word hard
source_body m (kind.Expire s) = codes "expire " ++ source m s
source_body m (kind.Start s) = codes "start " ++ source m s
source_body m (kind.Finish s) = codes "finish " ++ source m s
source_body m (kind.Hard s) = codes "hard " ++ source m s
source_body m kind.Jump = codes "jump"
source_body m k = phase_body m k

-- entries of the autosleep work, and of all but the tasks
abbrev pub auto_body : Machine → Kind → List ℕ
auto_body m kind.AutoRun = codes "run"
auto_body m (kind.AutoSaved c) = codes "saved " ++ decimal c
auto_body m (kind.AutoUnsaved c) = codes "unsaved " ++ decimal c
auto_body m (kind.AutoAfter (Some c)) = codes "after " ++ decimal c
auto_body m (kind.AutoAfter None) = codes "after busy"
auto_body m kind.AutoAgain = codes "again"
auto_body m kind.AutoOff = codes "off"
auto_body m k = source_body m k

-- entries of sleeping, marks and the rest of a task's own steps
abbrev pub step_body : Machine → Kind → List ℕ
step_body m (kind.Sleep t) = codes "sleep " ++ decimal t
step_body m (kind.SleepD t) = codes "sleep_d " ++ decimal t
step_body m kind.Slept = codes "slept"
step_body m kind.Pass = codes "pass"
step_body m (kind.Post x) = codes "post " ++ mark m x
step_body m (kind.Got x) = codes "got " ++ mark m x
step_body m kind.Exit = codes "exit"
step_body m (kind.RuntimeAsk d to r) =
    codes "runtime " ++ device m d ++ space ++ runtime_word to ++ space ++ answer_text r
step_body m (kind.LinkAdd supplier consumer r) =
    codes "link " ++ device m supplier ++ space ++ device m consumer ++ space ++ answer_text r
step_body m (kind.LinkState supplier consumer active r) =
    codes "link_state " ++ device m supplier ++ space ++ device m consumer ++ space ++ link_word active ++ space
    ++ answer_text r
step_body m k = auto_body m k

-- what an entry says
abbrev pub body : Machine → Kind → List ℕ
body m kind.Frozen = codes "frozen"
body m kind.ReadWait = codes "read wait"
body m (kind.Read c) = codes "read " ++ decimal c
body m kind.ReadIntr = codes "read EINTR"
body m (kind.SaveWait c) = codes "save " ++ decimal c ++ codes " wait"
body m (kind.Saved c) = codes "save " ++ decimal c ++ codes " ok"
body m (kind.SaveErr c r) = codes "save " ++ decimal c ++ space ++ name_of r
body m kind.StateWait = codes "state wait"
body m (kind.StateErr r) = codes "state " ++ name_of r
body m kind.StateUnsaved = codes "state unsaved"
body m kind.AutoBad = codes "autosleep EINVAL"
body m (kind.AutoSet to) = codes "autosleep set " ++ state_word to
body m kind.AutoDone = codes "autosleep done"
body m k = step_body m k

-- the word: events in progress, registered, hard
abbrev pub word_text : EventNow → List ℕ
word_text now = decimal now.inpr ++ codes "/" ++ decimal now.count ++ codes "/" ++ decimal now.hard

-- the line of an entry
abbrev pub entry_line : Machine → Entry → List ℕ
entry_line m e =
    decimal e.time ++ space ++ word_text e.now ++ space ++ actor_text m e.actor ++ space ++ body m e.kind ++ newline

-- a source's counts, each after a space
abbrev pub counts_text : Stats → List ℕ
counts_text s = space ++ decimal s.active_count ++ space ++ decimal s.event_count ++ space ++ decimal s.expire_count

-- a source's times in ms, each after a space
abbrev pub times_text : Stats → List ℕ
times_text s =
    space ++ decimal s.active_time ++ space ++ decimal s.total_time ++ space ++ decimal s.max_time ++ space
    ++ decimal s.last_time

-- the line of a source
abbrev pub source_line : List ℕ → Stats → List ℕ
source_line name s = codes "source " ++ name ++ counts_text s ++ times_text s ++ newline

-- a line a source, in the order of the file
abbrev pub source_lines : List (List ℕ) → List Stats → List ℕ
source_lines (name ∷ names) (s ∷ stats) = source_line name s ++ source_lines names stats
source_lines _ _ = []

-- what a script that never exits waits for: an end of events, or a mark
abbrev pub waiting_text : Machine → Why → List ℕ
waiting_text m InProgress = codes "read"
waiting_text m (Mark x) = codes "mark " ++ mark m x
waiting_text m _ = []

-- the line of a script that never exits
abbrev pub waiting_line : Machine → Waiting → List ℕ
waiting_line m w = codes "stuck " ++ actor_text m w.actor ++ space ++ waiting_text m w.why ++ newline

-- how the run ended
abbrev pub end_text : Machine → LogEnd → List ℕ
end_text m Finished = codes "finished" ++ newline
end_text m (Stuck waiting) = flat_map (waiting_line m) waiting

-- the text of a log
abbrev pub text : Machine → Log → List ℕ
text m log = flat_map (entry_line m) log.entries ++ source_lines (source_names m) log.stats ++ end_text m log.end
