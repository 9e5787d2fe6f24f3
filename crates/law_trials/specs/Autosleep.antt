-- Whole logs of the autosleep work.
use Rattle.std.specs.Prelude.{true, false, List, [], ◌∷◌, codes, Some, None}
use Rattle.sleep_base.specs.declared.errno.Errno.TheVariants.{EBUSY}
use Rattle.sleep_model.specs.declared.entry.Entry.{Entry}
use Rattle.sleep_model.specs.declared.log.Log.{Log}
use Rattle.sleep_model.specs.declared.machine.Machine.{Machine}
use Rattle.sleep_model.specs.declared.entry.Actor.TheVariants as actor
use Rattle.sleep_model.specs.declared.entry.FrozeEnd.TheVariants as froze
use Rattle.sleep_model.specs.declared.entry.Group.TheVariants as group
use Rattle.sleep_model.specs.declared.entry.Kind.TheVariants as kind
use Rattle.sleep_model.specs.declared.entry.State.TheVariants as state
use Rattle.sleep_model.specs.declared.entry.Thaw.TheVariants as thaw
use Rattle.sleep_model.specs.declared.machine.Op.TheVariants as op
use Rattle.sleep_model.specs.declared.machine.PlatDo.TheVariants as down
use Rattle.sleep_model.specs.declared.machine.PlatUndo.TheVariants as up
use Rattle.sleep_model.specs.declared.machine.TaskKind.TheVariants as task
use Rattle.phase_table.specs.declared.phase.Phase.TheVariants as phase
use Rattle.law_trials.specs.Terms.{entry, word, script, once, empty_machine, stats, log_of}

-- autosleep is turned on, sleeps once, and is turned off: its machine
abbrev pub autosleep_machine : Machine
autosleep_machine = record empty_machine {
  actors =
      script (codes "w") task.User 1 (
      once (op.Autosleep (codes "mem"))
      ∷ once (op.Save None)
      ∷ once (op.Sleep 1200)
      ∷ once (op.Autosleep (codes "off"))
      ∷ once (op.Sleep 1000)
      ∷ [])
      ∷ [];
}

-- its entries
abbrev pub autosleep_entries : List Entry
autosleep_entries =
    entry 0 (word 0 0 0) (actor.Script 0) (kind.Awake 0)
    ∷ entry 0 (word 0 0 0) (actor.Script 0) (kind.Start 0)
    ∷ entry 0 (word 1 0 0) (actor.Script 0) (kind.AutoSet state.Mem)
    ∷ entry 0 (word 1 0 0) (actor.Script 0) (kind.Relax 0)
    ∷ entry 0 (word 1 0 0) (actor.Script 0) (kind.Finish 0)
    ∷ entry 0 (word 0 1 0) (actor.Script 0) kind.AutoDone
    ∷ entry 0 (word 0 1 0) actor.Auto kind.AutoRun
    ∷ entry 0 (word 0 1 0) (actor.Script 0) (kind.SaveErr 0 EBUSY)
    ∷ entry 0 (word 0 1 0) actor.Auto (kind.Read 1)
    ∷ entry 0 (word 0 1 0) (actor.Script 0) (kind.Sleep 1200)
    ∷ entry 0 (word 0 1 0) actor.Auto (kind.AutoSaved 1)
    ∷ entry 0 (word 0 1 0) actor.Auto (kind.Attempt 1 (Some 1))
    ∷ entry 0 (word 0 1 0) actor.Auto (kind.Freeze group.User)
    ∷ entry 0 (word 0 1 0) (actor.Script 0) kind.Frozen
    ∷ entry 0 (word 0 1 0) actor.Auto (kind.Froze group.User froze.AllFrozen)
    ∷ entry 0 (word 0 1 0) actor.Auto (kind.Freeze group.Kernel)
    ∷ entry 0 (word 0 1 0) actor.Auto (kind.Froze group.Kernel froze.AllFrozen)
    ∷ entry 0 (word 0 1 0) actor.Auto (kind.PlatformDo down.Begin None)
    ∷ entry 0 (word 0 1 0) actor.Auto (kind.Done phase.Prepare None)
    ∷ entry 0 (word 0 1 0) actor.Auto (kind.Done phase.Suspend None)
    ∷ entry 0 (word 0 1 0) actor.Auto (kind.PlatformDo down.Prepare None)
    ∷ entry 0 (word 0 1 0) actor.Auto (kind.Done phase.Late None)
    ∷ entry 0 (word 0 1 0) actor.Auto (kind.Done phase.Noirq None)
    ∷ entry 0 (word 0 1 0) actor.Auto (kind.PlatformDo down.PrepareLate None)
    ∷ entry 0 (word 0 1 0) actor.Auto (kind.Irqs false)
    ∷ entry 0 (word 0 1 0) actor.Auto (kind.SyscoreCheck None)
    ∷ entry 0 (word 0 1 0) actor.Auto (kind.Enter false)
    ∷ entry 1000 (word 0 1 0) actor.Time kind.Jump
    ∷ entry 1000 (word 0 1 0) actor.Auto (kind.Wake false)
    ∷ entry 1000 (word 0 1 0) actor.Auto (kind.Irqs true)
    ∷ entry 1000 (word 0 1 0) actor.Auto (kind.PlatformUndo up.Wake)
    ∷ entry 1000 (word 0 1 0) actor.Auto (kind.Done phase.ResumeNoirq None)
    ∷ entry 1000 (word 0 1 0) actor.Auto (kind.Done phase.Early None)
    ∷ entry 1000 (word 0 1 0) actor.Auto (kind.PlatformUndo up.Finish)
    ∷ entry 1000 (word 0 1 0) actor.Auto (kind.Done phase.Resume None)
    ∷ entry 1000 (word 0 1 0) actor.Auto (kind.Done phase.Complete None)
    ∷ entry 1000 (word 0 1 0) actor.Auto (kind.PlatformUndo up.End)
    ∷ entry 1000 (word 0 1 0) actor.Auto kind.Clear
    ∷ entry 1000 (word 0 1 0) actor.Auto (kind.Thaw thaw.All)
    ∷ entry 1000 (word 0 1 0) actor.Auto (kind.Over 1 None)
    ∷ entry 1000 (word 0 1 0) actor.Auto (kind.AutoAfter (Some 1))
    ∷ entry 1000 (word 0 1 0) actor.Auto (kind.SleepD 1500)
    ∷ entry 1200 (word 0 1 0) actor.Time kind.Jump
    ∷ entry 1200 (word 0 1 0) (actor.Script 0) kind.Slept
    ∷ entry 1200 (word 0 1 0) (actor.Script 0) (kind.Awake 0)
    ∷ entry 1200 (word 0 1 0) (actor.Script 0) (kind.Start 0)
    ∷ entry 1200 (word 1 1 0) (actor.Script 0) (kind.AutoSet state.Off)
    ∷ entry 1200 (word 1 1 0) (actor.Script 0) (kind.Relax 0)
    ∷ entry 1200 (word 1 1 0) (actor.Script 0) (kind.Finish 0)
    ∷ entry 1200 (word 0 2 0) (actor.Script 0) kind.AutoDone
    ∷ entry 1200 (word 0 2 0) (actor.Script 0) (kind.Sleep 2200)
    ∷ entry 1500 (word 0 2 0) actor.Time kind.Jump
    ∷ entry 1500 (word 0 2 0) actor.Auto kind.Slept
    ∷ entry 1500 (word 0 2 0) actor.Auto kind.AutoOff
    ∷ entry 2200 (word 0 2 0) actor.Time kind.Jump
    ∷ entry 2200 (word 0 2 0) (actor.Script 0) kind.Slept
    ∷ entry 2200 (word 0 2 0) (actor.Script 0) kind.Exit
    ∷ []

-- its log
abbrev pub autosleep : Log
autosleep = log_of autosleep_entries (stats 2 2 0 0 0 0 1200 ∷ [])
