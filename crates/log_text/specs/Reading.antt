-- What a line has to say, if it is an entry's line at all: read leniently, since a line counts only if the entry spells it.
use Rattle.std.specs.Prelude.{ℕ, true, List, codes, Option, Some, None, option_map, option_and_then, if◌then◌else◌}
use Rattle.std.specs.Str.{bytes_eq}
use Rattle.sleep_base.specs.declared.errno.Errno.TheVariants.{EBUSY, EINVAL}
use Rattle.sleep_base.specs.Errno.{name_of}
use Rattle.sleep_model.specs.declared.word.EventNow.{EventNow}
use Rattle.sleep_model.specs.declared.entry.Actor.{Actor}
use Rattle.sleep_model.specs.declared.entry.Actor.TheVariants as actor
use Rattle.sleep_model.specs.declared.entry.Entry.{Entry}
use Rattle.sleep_model.specs.declared.entry.FrozeEnd.TheVariants as froze
use Rattle.sleep_model.specs.declared.entry.FrozeEnd.{FrozeEnd}
use Rattle.sleep_model.specs.declared.entry.Kind.{Kind}
use Rattle.sleep_model.specs.declared.entry.Kind.TheVariants as kind
use Rattle.sleep_model.specs.declared.log.Stats.{Stats}
use Rattle.sleep_model.specs.declared.log.Waiting.{Waiting}
use Rattle.sleep_model.specs.declared.log.Why.{Why}
use Rattle.sleep_model.specs.declared.log.Why.TheVariants as why
use Rattle.sleep_model.specs.declared.machine.Machine.{Machine}
use Rattle.sleep_model.specs.declared.machine.PlatUndo.TheVariants as up
use Rattle.sleep_model.specs.Text.{hard_word, link_word, runtime_word, source_names, up_word}
use Rattle.log_words.specs.declared.verb.Verb.{Verb}
use Rattle.log_words.specs.declared.verb.Verb.TheVariants as verb
use Rattle.log_text.specs.Named.{device_names, notifier_names, script_names}
use Rattle.sleep_base.specs.Cutting.{before, after_first}
use Rattle.log_text.specs.Cutting.{word, rest, word32, word64, index_in}
use Rattle.log_text.specs.Words.{errno_in, answer_in, prepare_in, phase_in, cause_in, group_in, thaw_in, state_in, down_in}
use Rattle.log_words.specs.Verbs.{verb_of}

-- ---- names

-- the device of that name
abbrev pub device_in : Machine → List ℕ → Option ℕ
device_in m t = index_in (device_names m) t

-- the source of that name, `autosleep` after those of the machine
abbrev pub source_in : Machine → List ℕ → Option ℕ
source_in m t = index_in (source_names m) t

-- the mark of that name
abbrev pub mark_in : Machine → List ℕ → Option ℕ
mark_in m t = index_in m.marks t

-- the notifier of that name
abbrev pub notifier_in : Machine → List ℕ → Option ℕ
notifier_in m t = index_in (notifier_names m) t

-- the syscore step of that name
abbrev pub syscore_in : Machine → List ℕ → Option ℕ
syscore_in m t = index_in m.syscore t

-- the script of that name
abbrev pub script_in : Machine → List ℕ → Option ℕ
script_in m t = index_in (script_names m) t

-- ---- entries of tasks and of the autosleep work

-- what follows `read`
abbrev pub read_kind : List ℕ → Option ℕ → Kind
read_kind t (Some c) = kind.Read c
read_kind t None = if bytes_eq t (codes "wait") then kind.ReadWait else kind.ReadIntr

-- what follows `save` and a count
abbrev pub save_kind : List ℕ → ℕ → Kind
save_kind t c =
    if bytes_eq t (codes "wait") then kind.SaveWait c
    else (if bytes_eq t (codes "ok") then kind.Saved c else kind.SaveErr c (errno_in t))

-- what follows `state`
abbrev pub state_kind : List ℕ → Kind
state_kind t =
    if bytes_eq t (codes "wait") then kind.StateWait
    else (if bytes_eq t (codes "unsaved") then kind.StateUnsaved else kind.StateErr (errno_in t))

-- what follows `autosleep`
abbrev pub autosleep_kind : List ℕ → Kind
autosleep_kind t =
    if bytes_eq t (name_of EINVAL) then kind.AutoBad
    else (if bytes_eq t (codes "done") then kind.AutoDone else kind.AutoSet (state_in (rest t)))

-- what follows `runtime`
abbrev pub runtime_kind : Machine → List ℕ → Option Kind
runtime_kind m t =
    option_map
    (λ d. kind.RuntimeAsk d (bytes_eq (word (rest t)) (runtime_word true)) (answer_in (rest (rest t))))
    (device_in m (word t))

-- what follows `link`
abbrev pub link_kind : Machine → List ℕ → Option Kind
link_kind m t =
    option_and_then
    (λ s. option_map (λ c. kind.LinkAdd s c (answer_in (rest (rest t)))) (device_in m (word (rest t))))
    (device_in m (word t))

-- what follows the ends of `link_state`
abbrev pub link_state_to : List ℕ → ℕ → ℕ → Kind
link_state_to t s c = kind.LinkState s c (bytes_eq (word t) (link_word true)) (answer_in (rest t))

-- what follows `link_state`
abbrev pub link_state_kind : Machine → List ℕ → Option Kind
link_state_kind m t =
    option_and_then
    (λ s. option_map (link_state_to (rest (rest t)) s) (device_in m (word (rest t))))
    (device_in m (word t))

-- what follows `event`
abbrev pub event_kind : Machine → List ℕ → Option Kind
event_kind m t =
    option_and_then
    (λ s. option_map (λ ms. kind.Event s ms (bytes_eq (rest (rest t)) (hard_word true))) (word32 (word (rest t))))
    (source_in m (word t))

-- ---- entries of device phases

-- what follows `prepare`
abbrev pub prepare_kind : Machine → List ℕ → Option Kind
prepare_kind m t = option_map (λ d. kind.Prepare d (prepare_in (rest t))) (device_in m (word t))

-- what follows `schedule`
abbrev pub schedule_kind : Machine → List ℕ → Option Kind
schedule_kind m t = option_map (λ d. kind.Schedule (phase_in (word t)) d) (device_in m (rest t))

-- what follows `begin`
abbrev pub begin_kind : Machine → List ℕ → Option Kind
begin_kind m t = option_map (λ d. kind.Begin (phase_in (word t)) d) (device_in m (rest t))

-- what follows `end`
abbrev pub end_kind : Machine → List ℕ → Option Kind
end_kind m t =
    option_map (λ d. kind.End (phase_in (word t)) d (answer_in (rest (rest t)))) (device_in m (word (rest t)))

-- what follows `skip`
abbrev pub skip_kind : Machine → List ℕ → Option Kind
skip_kind m t =
    option_map (λ d. kind.Skip (phase_in (word t)) d (cause_in (rest (rest t)))) (device_in m (word (rest t)))

-- ---- entries of attempts

-- what follows `attempt`
abbrev pub attempt_kind : List ℕ → Option Kind
attempt_kind t = option_map (λ n. kind.Attempt n (word32 (rest (rest t)))) (word32 (word t))

-- what follows `over`
abbrev pub over_kind : List ℕ → Option Kind
over_kind t = option_map (λ n. kind.Over n (answer_in (rest t))) (word32 (word t))

-- what follows `notify` and a notifier
abbrev pub notified_kind : List ℕ → ℕ → Kind
notified_kind t x = if bytes_eq t (codes "post") then kind.NotifyPost x else kind.NotifyPrepare x (answer_in (rest t))

-- what follows `notify`
abbrev pub notify_kind : Machine → List ℕ → Option Kind
notify_kind m t = option_map (notified_kind (rest t)) (notifier_in m (word t))

-- what follows `EBUSY` if a freeze failed
abbrev pub failed_end : List ℕ → ℕ → ℕ → FrozeEnd
failed_end why left first = if bytes_eq why (codes "timeout") then froze.Timeout left first else froze.Wakeup left first

-- how a freeze failed, and the tasks that it left
abbrev pub failed_in : Machine → List ℕ → Option FrozeEnd
failed_in m t =
    option_and_then
    (λ left. option_map (failed_end (word t) left) (script_in m (rest (rest t))))
    (word32 (word (rest t)))

-- how a freeze ended
abbrev pub froze_in : Machine → List ℕ → Option FrozeEnd
froze_in m t = if bytes_eq t (codes "0") then Some froze.AllFrozen else failed_in m (rest t)

-- what follows `froze`
abbrev pub froze_kind : Machine → List ℕ → Option Kind
froze_kind m t = option_map (kind.Froze (group_in (word t))) (froze_in m (rest t))

-- what follows `platform`
abbrev pub platform_kind : List ℕ → Kind
platform_kind t =
    if bytes_eq t (up_word up.Recover) then kind.PlatformUndo up.Recover
    else (if bytes_eq t (up_word up.Wake) then kind.PlatformUndo up.Wake
    else (if bytes_eq t (up_word up.Finish) then kind.PlatformUndo up.Finish
    else (if bytes_eq t (up_word up.End) then kind.PlatformUndo up.End
    else kind.PlatformDo (down_in (word t)) (answer_in (rest t)))))

-- the entries of a processor
abbrev pub processor_kind : List ℕ → ℕ → Kind
processor_kind t k =
    if bytes_eq t (codes "off") then kind.CpuOff k
    else (if bytes_eq t (codes "on") then kind.CpuOn k else kind.CpuBusy k)

-- what follows `cpu`
abbrev pub cpu_kind : List ℕ → Option Kind
cpu_kind t = option_map (processor_kind (word t)) (word32 (rest t))

-- what follows `syscore suspend`
abbrev pub syscore_down : Machine → List ℕ → Option Kind
syscore_down m t = option_map (λ x. kind.SyscoreSuspend x (answer_in (rest t))) (syscore_in m (word t))

-- what follows `syscore`
abbrev pub syscore_kind : Machine → List ℕ → Option Kind
syscore_kind m t =
    if bytes_eq (word t) (codes "check") then Some (kind.SyscoreCheck (answer_in (rest t)))
    else (if bytes_eq (word t) (codes "resume") then option_map kind.SyscoreResume (syscore_in m (rest t))
    else syscore_down m (rest t))

-- ---- by the first word

-- what follows a verb of an attempt
abbrev pub attempt_by : Machine → Verb → List ℕ → Option Kind
attempt_by m verb.Attempt t = attempt_kind t
attempt_by m verb.Over t = over_kind t
attempt_by m verb.Notify t = notify_kind m t
attempt_by m verb.Freeze t = Some (kind.Freeze (group_in t))
attempt_by m verb.Froze t = froze_kind m t
attempt_by m verb.Thaw t = Some (kind.Thaw (thaw_in t))
attempt_by m verb.Platform t = Some (platform_kind t)
attempt_by m verb.Cpu t = cpu_kind t
attempt_by m verb.Irqs t = Some (kind.Irqs (bytes_eq t (codes "on")))
attempt_by m verb.Syscore t = syscore_kind m t
attempt_by m verb.Enter t = Some (kind.Enter (bytes_eq t (name_of EBUSY)))
attempt_by m verb.Wake t = Some (kind.Wake (bytes_eq t (codes "event")))
attempt_by m verb.Clear t = Some kind.Clear
attempt_by m _ t = None

-- what follows a verb of a source or of time, and of an attempt
abbrev pub source_by : Machine → Verb → List ℕ → Option Kind
source_by m verb.Awake t = option_map kind.Awake (source_in m t)
source_by m verb.Relax t = option_map kind.Relax (source_in m t)
source_by m verb.Event t = event_kind m t
source_by m verb.Expire t = option_map kind.Expire (source_in m t)
source_by m verb.Start t = option_map kind.Start (source_in m t)
source_by m verb.Finish t = option_map kind.Finish (source_in m t)
source_by m verb.Hard t = option_map kind.Hard (source_in m t)
source_by m verb.Jump t = Some kind.Jump
source_by m v t = attempt_by m v t

-- what follows a verb of the autosleep work, and of all but tasks and devices
abbrev pub auto_by : Machine → Verb → List ℕ → Option Kind
auto_by m verb.Run t = Some kind.AutoRun
auto_by m verb.Saved t = option_map kind.AutoSaved (word32 t)
auto_by m verb.Unsaved t = option_map kind.AutoUnsaved (word32 t)
auto_by m verb.After t = Some (kind.AutoAfter (word32 t))
auto_by m verb.Again t = Some kind.AutoAgain
auto_by m verb.Off t = Some kind.AutoOff
auto_by m v t = source_by m v t

-- what follows a verb of a task, and of all but devices
abbrev pub task_by : Machine → Verb → List ℕ → Option Kind
task_by m verb.Frozen t = Some kind.Frozen
task_by m verb.Read t = Some (read_kind t (word32 t))
task_by m verb.Save t = option_map (save_kind (rest t)) (word32 (word t))
task_by m verb.State t = Some (state_kind t)
task_by m verb.Autosleep t = Some (autosleep_kind t)
task_by m verb.Sleep t = option_map kind.Sleep (word64 t)
task_by m verb.SleepD t = option_map kind.SleepD (word64 t)
task_by m verb.Slept t = Some kind.Slept
task_by m verb.Pass t = Some kind.Pass
task_by m verb.Post t = option_map kind.Post (mark_in m t)
task_by m verb.Got t = option_map kind.Got (mark_in m t)
task_by m verb.Exit t = Some kind.Exit
task_by m verb.Runtime t = runtime_kind m t
task_by m verb.Link t = link_kind m t
task_by m verb.LinkState t = link_state_kind m t
task_by m v t = auto_by m v t

-- what follows a verb
abbrev pub kind_by : Machine → Verb → List ℕ → Option Kind
kind_by m verb.Begin t = begin_kind m t
kind_by m verb.End t = end_kind m t
kind_by m verb.Prepare t = prepare_kind m t
kind_by m verb.Complete t = option_map kind.Complete (device_in m t)
kind_by m verb.Schedule t = schedule_kind m t
kind_by m verb.Skip t = skip_kind m t
kind_by m verb.Done t = Some (kind.Done (phase_in (word t)) (answer_in (rest t)))
kind_by m v t = task_by m v t

-- what an entry says
abbrev pub kind_in : Machine → List ℕ → Option Kind
kind_in m t = option_and_then (λ v. kind_by m v (rest t)) (verb_of (word t))

-- ---- the line

-- the word: events in progress, registered, hard
abbrev pub now_in : List ℕ → Option EventNow
now_in t =
    option_and_then
    (λ inpr. option_and_then
    (λ count. option_map (λ hard. record { inpr = inpr; count = count; hard = hard }) (word32 (after_first 47 (after_first 47 t))))
    (word32 (before 47 (after_first 47 t))))
    (word32 (before 47 t))

-- who makes an entry
abbrev pub actor_in : Machine → List ℕ → Option Actor
actor_in m t =
    if bytes_eq t (codes "auto") then Some actor.Auto
    else (if bytes_eq t (codes "time") then Some actor.Time
    else (if bytes_eq (before 58 t) (codes "dev") then option_map actor.Dev (device_in m (after_first 58 t))
    else (if bytes_eq (before 58 t) (codes "timer") then option_map actor.Timer (source_in m (after_first 58 t))
    else option_map actor.Script (script_in m (after_first 58 t)))))

-- an entry by the actor's text, and then by what it says
abbrev pub entry_by_text : Machine → ℕ → EventNow → List ℕ → Option Entry
entry_by_text m time now t =
    option_and_then
    (λ who. option_map (λ what. record { time = time; now = now; actor = who; kind = what }) (kind_in m (rest t)))
    (actor_in m (word t))

-- the entry of a line without its newline
abbrev pub entry_in : Machine → List ℕ → Option Entry
entry_in m t =
    option_and_then
    (λ time. option_and_then (λ now. entry_by_text m time now (rest (rest t))) (now_in (word (rest t))))
    (word64 (word t))

-- ---- the lines of sources and of stuck scripts

-- the times of a source, after its counts
abbrev pub times_in : ℕ → ℕ → ℕ → List ℕ → Option Stats
times_in active event expire t =
    option_and_then
    (λ active_time. option_and_then
    (λ total_time. option_and_then
    (λ max_time. option_map
    (λ last_time. record {
      active_count = active;
      event_count = event;
      expire_count = expire;
      active_time = active_time;
      total_time = total_time;
      max_time = max_time;
      last_time = last_time;
    })
    (word64 (rest (rest (rest t)))))
    (word64 (word (rest (rest t)))))
    (word64 (word (rest t))))
    (word64 (word t))

-- the statistics of a source, after its name
abbrev pub stats_in : List ℕ → Option Stats
stats_in t =
    option_and_then
    (λ active. option_and_then
    (λ event. option_and_then
    (λ expire. times_in active event expire (rest (rest (rest t))))
    (word32 (word (rest (rest t)))))
    (word32 (word (rest t))))
    (word32 (word t))

-- what a script that never exits waits for
abbrev pub why_in : Machine → List ℕ → Option Why
why_in m t = if bytes_eq t (codes "read") then Some why.InProgress else option_map why.Mark (mark_in m (rest t))

-- a script that never exits, after `stuck`
abbrev pub waiting_in : Machine → List ℕ → Option Waiting
waiting_in m t =
    option_and_then
    (λ i. option_map (λ cause. record { actor = actor.Script i; why = cause }) (why_in m (rest t)))
    (script_in m (after_first 58 (word t)))
