-- Whole logs of attempts that sleep, and of attempts that a wakeup ends.
use Rattle.std.specs.Prelude.{true, false, List, [], ◌∷◌, codes, pos, Some, None}
use Rattle.sleep_base.specs.declared.errno.Errno.TheVariants.{EBUSY}
use Rattle.sleep_model.specs.declared.entry.Entry.{Entry}
use Rattle.sleep_model.specs.declared.log.Log.{Log}
use Rattle.sleep_model.specs.declared.machine.Machine.{Machine}
use Rattle.sleep_model.specs.declared.entry.Actor.TheVariants as actor
use Rattle.sleep_model.specs.declared.entry.FrozeEnd.TheVariants as froze
use Rattle.sleep_model.specs.declared.entry.Group.TheVariants as group
use Rattle.sleep_model.specs.declared.entry.Kind.TheVariants as kind
use Rattle.sleep_model.specs.declared.entry.SkipCause.TheVariants as cause
use Rattle.sleep_model.specs.declared.entry.Thaw.TheVariants as thaw
use Rattle.sleep_model.specs.declared.machine.Op.TheVariants as op
use Rattle.sleep_model.specs.declared.machine.PlatDo.TheVariants as down
use Rattle.sleep_model.specs.declared.machine.PlatUndo.TheVariants as up
use Rattle.sleep_model.specs.declared.machine.SourceCall.TheVariants as call
use Rattle.sleep_model.specs.declared.machine.TaskKind.TheVariants as task
use Rattle.sleep_model.specs.declared.machine.What.TheVariants as what
use Rattle.phase_table.specs.declared.phase.Phase.TheVariants as phase
use Rattle.law_trials.specs.Terms.{entry, word, device, script, once, times, answer, report, empty_machine, stats, unused, log_of}

-- an attempt of a machine without devices, under a saved count: its machine
abbrev pub smallest_attempt_machine : Machine
smallest_attempt_machine = record empty_machine {
  actors =
      script (codes "w") task.User 1 (once op.Read ∷ once (op.Save None) ∷ once (op.State (codes "mem") false) ∷ [])
      ∷ [];
}

-- an attempt of a parent and its child that nothing disturbs: its machine
abbrev pub parent_and_child_machine : Machine
parent_and_child_machine = record empty_machine {
  devices = device (codes "p") None 0 ∷ device (codes "c") (Some 0) 0 ∷ [];
  sources = codes "lid" ∷ [];
  actors =
      script (codes "w") task.User 1 (once op.Read ∷ once (op.Save None) ∷ once (op.State (codes "mem") false) ∷ [])
      ∷ [];
}

-- an event while the first of two devices suspends: the second is skipped, and a second attempt sleeps: its machine
abbrev pub event_stops_a_device_machine : Machine
event_stops_a_device_machine = record empty_machine {
  devices = device (codes "disk") None 0 ∷ device (codes "net") None 0 ∷ [];
  sources = codes "lid" ∷ [];
  marks = codes "a" ∷ codes "x" ∷ [];
  actors =
      script (codes "w") task.User 1 (
      once op.Read
      ∷ once (op.Save None)
      ∷ once (op.Post 0)
      ∷ once (op.State (codes "mem") false)
      ∷ once (op.State (codes "mem") false)
      ∷ [])
      ∷ script (codes "k") task.Irq 1 (once (op.Wait 0) ∷ times 10 (op.Post 1) ∷ once (op.Event 0 0 false) ∷ [])
      ∷ [];
}

-- its entries
abbrev pub event_stops_a_device_entries : List Entry
event_stops_a_device_entries =
    entry 0 (word 0 0 0) (actor.Script 0) (kind.Read 0)
    ∷ entry 0 (word 0 0 0) (actor.Script 0) (kind.Saved 0)
    ∷ entry 0 (word 0 0 0) (actor.Script 0) (kind.Post 0)
    ∷ entry 0 (word 0 0 0) (actor.Script 1) (kind.Got 0)
    ∷ entry 0 (word 0 0 0) (actor.Script 0) (kind.Attempt 1 (Some 0))
    ∷ entry 0 (word 0 0 0) (actor.Script 1) (kind.Post 1)
    ∷ entry 0 (word 0 0 0) (actor.Script 0) (kind.Freeze group.User)
    ∷ entry 0 (word 0 0 0) (actor.Script 1) (kind.Post 1)
    ∷ entry 0 (word 0 0 0) (actor.Script 0) (kind.Froze group.User froze.AllFrozen)
    ∷ entry 0 (word 0 0 0) (actor.Script 1) (kind.Post 1)
    ∷ entry 0 (word 0 0 0) (actor.Script 0) (kind.Freeze group.Kernel)
    ∷ entry 0 (word 0 0 0) (actor.Script 1) (kind.Post 1)
    ∷ entry 0 (word 0 0 0) (actor.Script 0) (kind.Froze group.Kernel froze.AllFrozen)
    ∷ entry 0 (word 0 0 0) (actor.Script 1) (kind.Post 1)
    ∷ entry 0 (word 0 0 0) (actor.Script 0) (kind.PlatformDo down.Begin None)
    ∷ entry 0 (word 0 0 0) (actor.Script 1) (kind.Post 1)
    ∷ entry 0 (word 0 0 0) (actor.Script 0) (kind.Prepare 0 (pos 0))
    ∷ entry 0 (word 0 0 0) (actor.Script 1) (kind.Post 1)
    ∷ entry 0 (word 0 0 0) (actor.Script 0) (kind.Prepare 1 (pos 0))
    ∷ entry 0 (word 0 0 0) (actor.Script 1) (kind.Post 1)
    ∷ entry 0 (word 0 0 0) (actor.Script 0) (kind.Done phase.Prepare None)
    ∷ entry 0 (word 0 0 0) (actor.Script 1) (kind.Post 1)
    ∷ entry 0 (word 0 0 0) (actor.Script 0) (kind.Begin phase.Suspend 1)
    ∷ entry 0 (word 0 0 0) (actor.Script 1) (kind.Post 1)
    ∷ entry 0 (word 0 0 0) (actor.Script 0) (kind.End phase.Suspend 1 None)
    ∷ entry 0 (word 0 0 0) (actor.Script 1) (kind.Event 0 0 false)
    ∷ entry 0 (word 0 0 0) (actor.Script 1) (kind.Start 0)
    ∷ entry 0 (word 1 0 0) (actor.Script 1) (kind.Finish 0)
    ∷ entry 0 (word 0 1 0) (actor.Script 0) (kind.Skip phase.Suspend 0 cause.Pending)
    ∷ entry 0 (word 0 1 0) (actor.Script 1) kind.Exit
    ∷ entry 0 (word 0 1 0) (actor.Script 0) (kind.Done phase.Suspend (Some EBUSY))
    ∷ entry 0 (word 0 1 0) (actor.Script 0) (kind.PlatformUndo up.Recover)
    ∷ entry 0 (word 0 1 0) (actor.Script 0) (kind.Begin phase.Resume 1)
    ∷ entry 0 (word 0 1 0) (actor.Script 0) (kind.End phase.Resume 1 None)
    ∷ entry 0 (word 0 1 0) (actor.Script 0) (kind.Done phase.Resume None)
    ∷ entry 0 (word 0 1 0) (actor.Script 0) (kind.Complete 1)
    ∷ entry 0 (word 0 1 0) (actor.Script 0) (kind.Complete 0)
    ∷ entry 0 (word 0 1 0) (actor.Script 0) (kind.Done phase.Complete None)
    ∷ entry 0 (word 0 1 0) (actor.Script 0) (kind.PlatformUndo up.End)
    ∷ entry 0 (word 0 1 0) (actor.Script 0) kind.Clear
    ∷ entry 0 (word 0 1 0) (actor.Script 0) (kind.Thaw thaw.All)
    ∷ entry 0 (word 0 1 0) (actor.Script 0) (kind.Over 1 (Some EBUSY))
    ∷ entry 0 (word 0 1 0) (actor.Script 0) (kind.Attempt 2 None)
    ∷ entry 0 (word 0 1 0) (actor.Script 0) (kind.Freeze group.User)
    ∷ entry 0 (word 0 1 0) (actor.Script 0) (kind.Froze group.User froze.AllFrozen)
    ∷ entry 0 (word 0 1 0) (actor.Script 0) (kind.Freeze group.Kernel)
    ∷ entry 0 (word 0 1 0) (actor.Script 0) (kind.Froze group.Kernel froze.AllFrozen)
    ∷ entry 0 (word 0 1 0) (actor.Script 0) (kind.PlatformDo down.Begin None)
    ∷ entry 0 (word 0 1 0) (actor.Script 0) (kind.Prepare 0 (pos 0))
    ∷ entry 0 (word 0 1 0) (actor.Script 0) (kind.Prepare 1 (pos 0))
    ∷ entry 0 (word 0 1 0) (actor.Script 0) (kind.Done phase.Prepare None)
    ∷ entry 0 (word 0 1 0) (actor.Script 0) (kind.Begin phase.Suspend 1)
    ∷ entry 0 (word 0 1 0) (actor.Script 0) (kind.End phase.Suspend 1 None)
    ∷ entry 0 (word 0 1 0) (actor.Script 0) (kind.Begin phase.Suspend 0)
    ∷ entry 0 (word 0 1 0) (actor.Script 0) (kind.End phase.Suspend 0 None)
    ∷ entry 0 (word 0 1 0) (actor.Script 0) (kind.Done phase.Suspend None)
    ∷ entry 0 (word 0 1 0) (actor.Script 0) (kind.PlatformDo down.Prepare None)
    ∷ entry 0 (word 0 1 0) (actor.Script 0) (kind.Begin phase.Late 1)
    ∷ entry 0 (word 0 1 0) (actor.Script 0) (kind.End phase.Late 1 None)
    ∷ entry 0 (word 0 1 0) (actor.Script 0) (kind.Begin phase.Late 0)
    ∷ entry 0 (word 0 1 0) (actor.Script 0) (kind.End phase.Late 0 None)
    ∷ entry 0 (word 0 1 0) (actor.Script 0) (kind.Done phase.Late None)
    ∷ entry 0 (word 0 1 0) (actor.Script 0) (kind.Begin phase.Noirq 1)
    ∷ entry 0 (word 0 1 0) (actor.Script 0) (kind.End phase.Noirq 1 None)
    ∷ entry 0 (word 0 1 0) (actor.Script 0) (kind.Begin phase.Noirq 0)
    ∷ entry 0 (word 0 1 0) (actor.Script 0) (kind.End phase.Noirq 0 None)
    ∷ entry 0 (word 0 1 0) (actor.Script 0) (kind.Done phase.Noirq None)
    ∷ entry 0 (word 0 1 0) (actor.Script 0) (kind.PlatformDo down.PrepareLate None)
    ∷ entry 0 (word 0 1 0) (actor.Script 0) (kind.Irqs false)
    ∷ entry 0 (word 0 1 0) (actor.Script 0) (kind.SyscoreCheck None)
    ∷ entry 0 (word 0 1 0) (actor.Script 0) (kind.Enter false)
    ∷ entry 1000 (word 0 1 0) actor.Time kind.Jump
    ∷ entry 1000 (word 0 1 0) (actor.Script 0) (kind.Wake false)
    ∷ entry 1000 (word 0 1 0) (actor.Script 0) (kind.Irqs true)
    ∷ entry 1000 (word 0 1 0) (actor.Script 0) (kind.PlatformUndo up.Wake)
    ∷ entry 1000 (word 0 1 0) (actor.Script 0) (kind.Begin phase.ResumeNoirq 0)
    ∷ entry 1000 (word 0 1 0) (actor.Script 0) (kind.End phase.ResumeNoirq 0 None)
    ∷ entry 1000 (word 0 1 0) (actor.Script 0) (kind.Begin phase.ResumeNoirq 1)
    ∷ entry 1000 (word 0 1 0) (actor.Script 0) (kind.End phase.ResumeNoirq 1 None)
    ∷ entry 1000 (word 0 1 0) (actor.Script 0) (kind.Done phase.ResumeNoirq None)
    ∷ entry 1000 (word 0 1 0) (actor.Script 0) (kind.Begin phase.Early 0)
    ∷ entry 1000 (word 0 1 0) (actor.Script 0) (kind.End phase.Early 0 None)
    ∷ entry 1000 (word 0 1 0) (actor.Script 0) (kind.Begin phase.Early 1)
    ∷ entry 1000 (word 0 1 0) (actor.Script 0) (kind.End phase.Early 1 None)
    ∷ entry 1000 (word 0 1 0) (actor.Script 0) (kind.Done phase.Early None)
    ∷ entry 1000 (word 0 1 0) (actor.Script 0) (kind.PlatformUndo up.Finish)
    ∷ entry 1000 (word 0 1 0) (actor.Script 0) (kind.Begin phase.Resume 0)
    ∷ entry 1000 (word 0 1 0) (actor.Script 0) (kind.End phase.Resume 0 None)
    ∷ entry 1000 (word 0 1 0) (actor.Script 0) (kind.Begin phase.Resume 1)
    ∷ entry 1000 (word 0 1 0) (actor.Script 0) (kind.End phase.Resume 1 None)
    ∷ entry 1000 (word 0 1 0) (actor.Script 0) (kind.Done phase.Resume None)
    ∷ entry 1000 (word 0 1 0) (actor.Script 0) (kind.Complete 1)
    ∷ entry 1000 (word 0 1 0) (actor.Script 0) (kind.Complete 0)
    ∷ entry 1000 (word 0 1 0) (actor.Script 0) (kind.Done phase.Complete None)
    ∷ entry 1000 (word 0 1 0) (actor.Script 0) (kind.PlatformUndo up.End)
    ∷ entry 1000 (word 0 1 0) (actor.Script 0) kind.Clear
    ∷ entry 1000 (word 0 1 0) (actor.Script 0) (kind.Thaw thaw.All)
    ∷ entry 1000 (word 0 1 0) (actor.Script 0) (kind.Over 2 None)
    ∷ entry 1000 (word 0 1 0) (actor.Script 0) kind.Exit
    ∷ []

-- its log
abbrev pub event_stops_a_device : Log
event_stops_a_device = log_of event_stops_a_device_entries (stats 1 1 0 0 0 0 0 ∷ unused ∷ [])

-- a hard event gives up an attempt without a saved count; the next attempt forgets it and sleeps: its machine
abbrev pub hard_event_machine : Machine
hard_event_machine = record empty_machine {
  sources = codes "lid" ∷ [];
  marks = codes "a" ∷ codes "x" ∷ [];
  actors =
      script (codes "w") task.User 1 (once (op.Post 0) ∷ once (op.State (codes "mem") false) ∷ once (op.State (codes "mem") false) ∷ [])
      ∷ script (codes "k") task.Irq 1 (once (op.Wait 0) ∷ once (op.Post 1) ∷ once (op.Event 0 0 true) ∷ [])
      ∷ [];
}

-- its entries
abbrev pub hard_event_entries : List Entry
hard_event_entries =
    entry 0 (word 0 0 0) (actor.Script 0) (kind.Post 0)
    ∷ entry 0 (word 0 0 0) (actor.Script 1) (kind.Got 0)
    ∷ entry 0 (word 0 0 0) (actor.Script 0) (kind.Attempt 1 None)
    ∷ entry 0 (word 0 0 0) (actor.Script 1) (kind.Post 1)
    ∷ entry 0 (word 0 0 0) (actor.Script 0) (kind.Freeze group.User)
    ∷ entry 0 (word 0 0 0) (actor.Script 1) (kind.Event 0 0 true)
    ∷ entry 0 (word 0 0 0) (actor.Script 1) (kind.Start 0)
    ∷ entry 0 (word 1 0 0) (actor.Script 1) (kind.Hard 0)
    ∷ entry 0 (word 1 0 1) (actor.Script 1) (kind.Finish 0)
    ∷ entry 0 (word 0 1 1) (actor.Script 0) (kind.Froze group.User froze.AllFrozen)
    ∷ entry 0 (word 0 1 1) (actor.Script 1) kind.Exit
    ∷ entry 0 (word 0 1 1) (actor.Script 0) (kind.Freeze group.Kernel)
    ∷ entry 0 (word 0 1 1) (actor.Script 0) (kind.Froze group.Kernel froze.AllFrozen)
    ∷ entry 0 (word 0 1 1) (actor.Script 0) (kind.PlatformDo down.Begin None)
    ∷ entry 0 (word 0 1 1) (actor.Script 0) (kind.Done phase.Prepare None)
    ∷ entry 0 (word 0 1 1) (actor.Script 0) (kind.Done phase.Suspend None)
    ∷ entry 0 (word 0 1 1) (actor.Script 0) (kind.PlatformDo down.Prepare None)
    ∷ entry 0 (word 0 1 1) (actor.Script 0) (kind.Done phase.Late None)
    ∷ entry 0 (word 0 1 1) (actor.Script 0) (kind.Done phase.Noirq None)
    ∷ entry 0 (word 0 1 1) (actor.Script 0) (kind.PlatformDo down.PrepareLate None)
    ∷ entry 0 (word 0 1 1) (actor.Script 0) (kind.Irqs false)
    ∷ entry 0 (word 0 1 1) (actor.Script 0) (kind.SyscoreCheck (Some EBUSY))
    ∷ entry 0 (word 0 1 1) (actor.Script 0) (kind.Irqs true)
    ∷ entry 0 (word 0 1 1) (actor.Script 0) (kind.PlatformUndo up.Wake)
    ∷ entry 0 (word 0 1 1) (actor.Script 0) (kind.Done phase.ResumeNoirq None)
    ∷ entry 0 (word 0 1 1) (actor.Script 0) (kind.Done phase.Early None)
    ∷ entry 0 (word 0 1 1) (actor.Script 0) (kind.PlatformUndo up.Finish)
    ∷ entry 0 (word 0 1 1) (actor.Script 0) (kind.Done phase.Resume None)
    ∷ entry 0 (word 0 1 1) (actor.Script 0) (kind.Done phase.Complete None)
    ∷ entry 0 (word 0 1 1) (actor.Script 0) (kind.PlatformUndo up.End)
    ∷ entry 0 (word 0 1 1) (actor.Script 0) kind.Clear
    ∷ entry 0 (word 0 1 1) (actor.Script 0) (kind.Thaw thaw.All)
    ∷ entry 0 (word 0 1 1) (actor.Script 0) (kind.Over 1 (Some EBUSY))
    ∷ entry 0 (word 0 1 1) (actor.Script 0) (kind.Attempt 2 None)
    ∷ entry 0 (word 0 1 1) (actor.Script 0) (kind.Freeze group.User)
    ∷ entry 0 (word 0 1 1) (actor.Script 0) (kind.Froze group.User froze.AllFrozen)
    ∷ entry 0 (word 0 1 1) (actor.Script 0) (kind.Freeze group.Kernel)
    ∷ entry 0 (word 0 1 1) (actor.Script 0) (kind.Froze group.Kernel froze.AllFrozen)
    ∷ entry 0 (word 0 1 1) (actor.Script 0) (kind.PlatformDo down.Begin None)
    ∷ entry 0 (word 0 1 1) (actor.Script 0) (kind.Done phase.Prepare None)
    ∷ entry 0 (word 0 1 1) (actor.Script 0) (kind.Done phase.Suspend None)
    ∷ entry 0 (word 0 1 1) (actor.Script 0) (kind.PlatformDo down.Prepare None)
    ∷ entry 0 (word 0 1 1) (actor.Script 0) (kind.Done phase.Late None)
    ∷ entry 0 (word 0 1 1) (actor.Script 0) (kind.Done phase.Noirq None)
    ∷ entry 0 (word 0 1 1) (actor.Script 0) (kind.PlatformDo down.PrepareLate None)
    ∷ entry 0 (word 0 1 1) (actor.Script 0) (kind.Irqs false)
    ∷ entry 0 (word 0 1 1) (actor.Script 0) (kind.SyscoreCheck None)
    ∷ entry 0 (word 0 1 1) (actor.Script 0) (kind.Enter false)
    ∷ entry 1000 (word 0 1 1) actor.Time kind.Jump
    ∷ entry 1000 (word 0 1 1) (actor.Script 0) (kind.Wake false)
    ∷ entry 1000 (word 0 1 1) (actor.Script 0) (kind.Irqs true)
    ∷ entry 1000 (word 0 1 1) (actor.Script 0) (kind.PlatformUndo up.Wake)
    ∷ entry 1000 (word 0 1 1) (actor.Script 0) (kind.Done phase.ResumeNoirq None)
    ∷ entry 1000 (word 0 1 1) (actor.Script 0) (kind.Done phase.Early None)
    ∷ entry 1000 (word 0 1 1) (actor.Script 0) (kind.PlatformUndo up.Finish)
    ∷ entry 1000 (word 0 1 1) (actor.Script 0) (kind.Done phase.Resume None)
    ∷ entry 1000 (word 0 1 1) (actor.Script 0) (kind.Done phase.Complete None)
    ∷ entry 1000 (word 0 1 1) (actor.Script 0) (kind.PlatformUndo up.End)
    ∷ entry 1000 (word 0 1 1) (actor.Script 0) kind.Clear
    ∷ entry 1000 (word 0 1 1) (actor.Script 0) (kind.Thaw thaw.All)
    ∷ entry 1000 (word 0 1 1) (actor.Script 0) (kind.Over 2 None)
    ∷ entry 1000 (word 0 1 1) (actor.Script 0) kind.Exit
    ∷ []

-- its log
abbrev pub hard_event : Log
hard_event = log_of hard_event_entries (stats 1 1 0 0 0 0 0 ∷ unused ∷ [])

-- a device's own suspend reports an event: its parent is skipped: its machine
abbrev pub callback_reports_machine : Machine
callback_reports_machine = record empty_machine {
  devices = device (codes "pci") None 0 ∷ device (codes "nic") (Some 0) 0 ∷ [];
  sources = codes "lan" ∷ [];
  actors =
      script (codes "w") task.User 1 (once op.Read ∷ once (op.Save None) ∷ once (op.State (codes "mem") false) ∷ [])
      ∷ [];
  answers = answer (what.Device 1 phase.Suspend) None (pos 0) (report 0 (call.Event 0 false) ∷ []) ∷ [];
}

-- its entries
abbrev pub callback_reports_entries : List Entry
callback_reports_entries =
    entry 0 (word 0 0 0) (actor.Script 0) (kind.Read 0)
    ∷ entry 0 (word 0 0 0) (actor.Script 0) (kind.Saved 0)
    ∷ entry 0 (word 0 0 0) (actor.Script 0) (kind.Attempt 1 (Some 0))
    ∷ entry 0 (word 0 0 0) (actor.Script 0) (kind.Freeze group.User)
    ∷ entry 0 (word 0 0 0) (actor.Script 0) (kind.Froze group.User froze.AllFrozen)
    ∷ entry 0 (word 0 0 0) (actor.Script 0) (kind.Freeze group.Kernel)
    ∷ entry 0 (word 0 0 0) (actor.Script 0) (kind.Froze group.Kernel froze.AllFrozen)
    ∷ entry 0 (word 0 0 0) (actor.Script 0) (kind.PlatformDo down.Begin None)
    ∷ entry 0 (word 0 0 0) (actor.Script 0) (kind.Prepare 0 (pos 0))
    ∷ entry 0 (word 0 0 0) (actor.Script 0) (kind.Prepare 1 (pos 0))
    ∷ entry 0 (word 0 0 0) (actor.Script 0) (kind.Done phase.Prepare None)
    ∷ entry 0 (word 0 0 0) (actor.Script 0) (kind.Begin phase.Suspend 1)
    ∷ entry 0 (word 0 0 0) (actor.Script 0) (kind.Event 0 0 false)
    ∷ entry 0 (word 0 0 0) (actor.Script 0) (kind.Start 0)
    ∷ entry 0 (word 1 0 0) (actor.Script 0) (kind.Finish 0)
    ∷ entry 0 (word 0 1 0) (actor.Script 0) (kind.End phase.Suspend 1 None)
    ∷ entry 0 (word 0 1 0) (actor.Script 0) (kind.Skip phase.Suspend 0 cause.Pending)
    ∷ entry 0 (word 0 1 0) (actor.Script 0) (kind.Done phase.Suspend (Some EBUSY))
    ∷ entry 0 (word 0 1 0) (actor.Script 0) (kind.PlatformUndo up.Recover)
    ∷ entry 0 (word 0 1 0) (actor.Script 0) (kind.Begin phase.Resume 1)
    ∷ entry 0 (word 0 1 0) (actor.Script 0) (kind.End phase.Resume 1 None)
    ∷ entry 0 (word 0 1 0) (actor.Script 0) (kind.Done phase.Resume None)
    ∷ entry 0 (word 0 1 0) (actor.Script 0) (kind.Complete 1)
    ∷ entry 0 (word 0 1 0) (actor.Script 0) (kind.Complete 0)
    ∷ entry 0 (word 0 1 0) (actor.Script 0) (kind.Done phase.Complete None)
    ∷ entry 0 (word 0 1 0) (actor.Script 0) (kind.PlatformUndo up.End)
    ∷ entry 0 (word 0 1 0) (actor.Script 0) kind.Clear
    ∷ entry 0 (word 0 1 0) (actor.Script 0) (kind.Thaw thaw.All)
    ∷ entry 0 (word 0 1 0) (actor.Script 0) (kind.Over 1 (Some EBUSY))
    ∷ entry 0 (word 0 1 0) (actor.Script 0) kind.Exit
    ∷ []

-- its log
abbrev pub callback_reports : Log
callback_reports = log_of callback_reports_entries (stats 1 1 0 0 0 0 0 ∷ unused ∷ [])
