-- Entries of broken logs that a law of sleep refuses.
use Rattle.std.specs.Prelude.{true, false, List, [], ◌∷◌, pos, Some, None}
use Rattle.sleep_base.specs.declared.errno.Errno.TheVariants.{EIO, EBUSY}
use Rattle.sleep_model.specs.declared.entry.Entry.{Entry}
use Rattle.sleep_model.specs.declared.entry.Actor.TheVariants as actor
use Rattle.sleep_model.specs.declared.entry.FrozeEnd.TheVariants as froze
use Rattle.sleep_model.specs.declared.entry.Group.TheVariants as group
use Rattle.sleep_model.specs.declared.entry.Kind.TheVariants as kind
use Rattle.sleep_model.specs.declared.entry.State.TheVariants as state
use Rattle.sleep_model.specs.declared.entry.Thaw.TheVariants as thaw
use Rattle.sleep_model.specs.declared.machine.PlatDo.TheVariants as down
use Rattle.sleep_model.specs.declared.machine.PlatUndo.TheVariants as up
use Rattle.phase_table.specs.declared.phase.Phase.TheVariants as phase
use Rattle.law_trials.specs.Terms.{entry, word}

-- no device resumes: each is completed while it is down
abbrev pub never_resumed_entries : List Entry
never_resumed_entries =
    entry 0 (word 0 0 0) (actor.Script 0) (kind.Read 0)
    ∷ entry 0 (word 0 0 0) (actor.Script 0) (kind.Saved 0)
    ∷ entry 0 (word 0 0 0) (actor.Script 0) (kind.Attempt 1 (Some 0))
    ∷ entry 0 (word 0 0 0) (actor.Script 0) (kind.Freeze group.User)
    ∷ entry 0 (word 0 0 0) (actor.Script 0) (kind.Froze group.User froze.AllFrozen)
    ∷ entry 0 (word 0 0 0) (actor.Script 0) (kind.Freeze group.Kernel)
    ∷ entry 0 (word 0 0 0) (actor.Script 0) (kind.Froze group.Kernel froze.AllFrozen)
    ∷ entry 0 (word 0 0 0) (actor.Script 0) (kind.PlatformDo down.Begin None)
    ∷ entry 0 (word 0 0 0) (actor.Script 0) (kind.Prepare 0 (pos 0))
    ∷ entry 0 (word 0 0 0) (actor.Script 0) (kind.Prepare 1 (pos 0))
    ∷ entry 0 (word 0 0 0) (actor.Script 0) (kind.Done phase.Prepare None)
    ∷ entry 0 (word 0 0 0) (actor.Script 0) (kind.Begin phase.Suspend 1)
    ∷ entry 0 (word 0 0 0) (actor.Script 0) (kind.End phase.Suspend 1 None)
    ∷ entry 0 (word 0 0 0) (actor.Script 0) (kind.Begin phase.Suspend 0)
    ∷ entry 0 (word 0 0 0) (actor.Script 0) (kind.End phase.Suspend 0 None)
    ∷ entry 0 (word 0 0 0) (actor.Script 0) (kind.Done phase.Suspend None)
    ∷ entry 0 (word 0 0 0) (actor.Script 0) (kind.PlatformDo down.Prepare None)
    ∷ entry 0 (word 0 0 0) (actor.Script 0) (kind.Begin phase.Late 1)
    ∷ entry 0 (word 0 0 0) (actor.Script 0) (kind.End phase.Late 1 None)
    ∷ entry 0 (word 0 0 0) (actor.Script 0) (kind.Begin phase.Late 0)
    ∷ entry 0 (word 0 0 0) (actor.Script 0) (kind.End phase.Late 0 None)
    ∷ entry 0 (word 0 0 0) (actor.Script 0) (kind.Done phase.Late None)
    ∷ entry 0 (word 0 0 0) (actor.Script 0) (kind.Begin phase.Noirq 1)
    ∷ entry 0 (word 0 0 0) (actor.Script 0) (kind.End phase.Noirq 1 None)
    ∷ entry 0 (word 0 0 0) (actor.Script 0) (kind.Begin phase.Noirq 0)
    ∷ entry 0 (word 0 0 0) (actor.Script 0) (kind.End phase.Noirq 0 None)
    ∷ entry 0 (word 0 0 0) (actor.Script 0) (kind.Done phase.Noirq None)
    ∷ entry 0 (word 0 0 0) (actor.Script 0) (kind.PlatformDo down.PrepareLate None)
    ∷ entry 0 (word 0 0 0) (actor.Script 0) (kind.Irqs false)
    ∷ entry 0 (word 0 0 0) (actor.Script 0) (kind.SyscoreCheck None)
    ∷ entry 0 (word 0 0 0) (actor.Script 0) (kind.Enter false)
    ∷ entry 1000 (word 0 0 0) actor.Time kind.Jump
    ∷ entry 1000 (word 0 0 0) (actor.Script 0) (kind.Wake false)
    ∷ entry 1000 (word 0 0 0) (actor.Script 0) (kind.Irqs true)
    ∷ entry 1000 (word 0 0 0) (actor.Script 0) (kind.PlatformUndo up.Wake)
    ∷ entry 1000 (word 0 0 0) (actor.Script 0) (kind.Done phase.ResumeNoirq None)
    ∷ entry 1000 (word 0 0 0) (actor.Script 0) (kind.Done phase.Early None)
    ∷ entry 1000 (word 0 0 0) (actor.Script 0) (kind.PlatformUndo up.Finish)
    ∷ entry 1000 (word 0 0 0) (actor.Script 0) (kind.Done phase.Resume None)
    ∷ entry 1000 (word 0 0 0) (actor.Script 0) (kind.Complete 1)
    ∷ entry 1000 (word 0 0 0) (actor.Script 0) (kind.Complete 0)
    ∷ entry 1000 (word 0 0 0) (actor.Script 0) (kind.Done phase.Complete None)
    ∷ entry 1000 (word 0 0 0) (actor.Script 0) (kind.PlatformUndo up.End)
    ∷ entry 1000 (word 0 0 0) (actor.Script 0) kind.Clear
    ∷ entry 1000 (word 0 0 0) (actor.Script 0) (kind.Thaw thaw.All)
    ∷ entry 1000 (word 0 0 0) (actor.Script 0) (kind.Over 1 None)
    ∷ entry 1000 (word 0 0 0) (actor.Script 0) kind.Exit
    ∷ []

-- an asynchronous device whose suspend failed is resumed
abbrev pub failed_is_resumed_entries : List Entry
failed_is_resumed_entries =
    entry 0 (word 0 0 0) (actor.Script 0) (kind.Attempt 1 None)
    ∷ entry 0 (word 0 0 0) (actor.Script 0) (kind.Freeze group.User)
    ∷ entry 0 (word 0 0 0) (actor.Script 0) (kind.Froze group.User froze.AllFrozen)
    ∷ entry 0 (word 0 0 0) (actor.Script 0) (kind.Freeze group.Kernel)
    ∷ entry 0 (word 0 0 0) (actor.Script 0) (kind.Froze group.Kernel froze.AllFrozen)
    ∷ entry 0 (word 0 0 0) (actor.Script 0) (kind.PlatformDo down.Begin None)
    ∷ entry 0 (word 0 0 0) (actor.Script 0) (kind.Prepare 0 (pos 0))
    ∷ entry 0 (word 0 0 0) (actor.Script 0) (kind.Prepare 1 (pos 0))
    ∷ entry 0 (word 0 0 0) (actor.Script 0) (kind.Done phase.Prepare None)
    ∷ entry 0 (word 0 0 0) (actor.Script 0) (kind.Schedule phase.Suspend 1)
    ∷ entry 0 (word 0 0 0) (actor.Dev 1) (kind.Begin phase.Suspend 1)
    ∷ entry 0 (word 0 0 0) (actor.Dev 1) (kind.End phase.Suspend 1 (Some EIO))
    ∷ entry 0 (word 0 0 0) (actor.Script 0) (kind.Done phase.Suspend (Some EIO))
    ∷ entry 0 (word 0 0 0) (actor.Script 0) (kind.PlatformUndo up.Recover)
    ∷ entry 0 (word 0 0 0) (actor.Script 0) (kind.Schedule phase.Resume 1)
    ∷ entry 0 (word 0 0 0) (actor.Dev 1) (kind.Begin phase.Resume 1)
    ∷ entry 0 (word 0 0 0) (actor.Dev 1) (kind.End phase.Resume 1 None)
    ∷ entry 0 (word 0 0 0) (actor.Script 0) (kind.Done phase.Resume None)
    ∷ entry 0 (word 0 0 0) (actor.Script 0) (kind.Complete 1)
    ∷ entry 0 (word 0 0 0) (actor.Script 0) (kind.Complete 0)
    ∷ entry 0 (word 0 0 0) (actor.Script 0) (kind.Done phase.Complete None)
    ∷ entry 0 (word 0 0 0) (actor.Script 0) (kind.PlatformUndo up.End)
    ∷ entry 0 (word 0 0 0) (actor.Script 0) kind.Clear
    ∷ entry 0 (word 0 0 0) (actor.Script 0) (kind.Thaw thaw.All)
    ∷ entry 0 (word 0 0 0) (actor.Script 0) (kind.Over 1 (Some EIO))
    ∷ entry 0 (word 0 0 0) (actor.Script 0) kind.Exit
    ∷ []

-- a device that was never prepared suspends, resumes and is completed
abbrev pub never_prepared_entries : List Entry
never_prepared_entries =
    entry 0 (word 0 0 0) (actor.Script 0) (kind.Read 0)
    ∷ entry 0 (word 0 0 0) (actor.Script 0) (kind.Saved 0)
    ∷ entry 0 (word 0 0 0) (actor.Script 0) (kind.Attempt 1 (Some 0))
    ∷ entry 0 (word 0 0 0) (actor.Script 0) (kind.Freeze group.User)
    ∷ entry 0 (word 0 0 0) (actor.Script 0) (kind.Froze group.User froze.AllFrozen)
    ∷ entry 0 (word 0 0 0) (actor.Script 0) (kind.Freeze group.Kernel)
    ∷ entry 0 (word 0 0 0) (actor.Script 0) (kind.Froze group.Kernel froze.AllFrozen)
    ∷ entry 0 (word 0 0 0) (actor.Script 0) (kind.PlatformDo down.Begin None)
    ∷ entry 0 (word 0 0 0) (actor.Script 0) (kind.Prepare 0 (pos 0))
    ∷ entry 0 (word 0 0 0) (actor.Script 0) (kind.Done phase.Prepare None)
    ∷ entry 0 (word 0 0 0) (actor.Script 0) (kind.Begin phase.Suspend 1)
    ∷ entry 0 (word 0 0 0) (actor.Script 0) (kind.End phase.Suspend 1 None)
    ∷ entry 0 (word 0 0 0) (actor.Script 0) (kind.Begin phase.Suspend 0)
    ∷ entry 0 (word 0 0 0) (actor.Script 0) (kind.End phase.Suspend 0 None)
    ∷ entry 0 (word 0 0 0) (actor.Script 0) (kind.Done phase.Suspend None)
    ∷ entry 0 (word 0 0 0) (actor.Script 0) (kind.PlatformDo down.Prepare None)
    ∷ entry 0 (word 0 0 0) (actor.Script 0) (kind.Begin phase.Late 1)
    ∷ entry 0 (word 0 0 0) (actor.Script 0) (kind.End phase.Late 1 None)
    ∷ entry 0 (word 0 0 0) (actor.Script 0) (kind.Begin phase.Late 0)
    ∷ entry 0 (word 0 0 0) (actor.Script 0) (kind.End phase.Late 0 None)
    ∷ entry 0 (word 0 0 0) (actor.Script 0) (kind.Done phase.Late None)
    ∷ entry 0 (word 0 0 0) (actor.Script 0) (kind.Begin phase.Noirq 1)
    ∷ entry 0 (word 0 0 0) (actor.Script 0) (kind.End phase.Noirq 1 None)
    ∷ entry 0 (word 0 0 0) (actor.Script 0) (kind.Begin phase.Noirq 0)
    ∷ entry 0 (word 0 0 0) (actor.Script 0) (kind.End phase.Noirq 0 None)
    ∷ entry 0 (word 0 0 0) (actor.Script 0) (kind.Done phase.Noirq None)
    ∷ entry 0 (word 0 0 0) (actor.Script 0) (kind.PlatformDo down.PrepareLate None)
    ∷ entry 0 (word 0 0 0) (actor.Script 0) (kind.Irqs false)
    ∷ entry 0 (word 0 0 0) (actor.Script 0) (kind.SyscoreCheck None)
    ∷ entry 0 (word 0 0 0) (actor.Script 0) (kind.Enter false)
    ∷ entry 1000 (word 0 0 0) actor.Time kind.Jump
    ∷ entry 1000 (word 0 0 0) (actor.Script 0) (kind.Wake false)
    ∷ entry 1000 (word 0 0 0) (actor.Script 0) (kind.Irqs true)
    ∷ entry 1000 (word 0 0 0) (actor.Script 0) (kind.PlatformUndo up.Wake)
    ∷ entry 1000 (word 0 0 0) (actor.Script 0) (kind.Begin phase.ResumeNoirq 0)
    ∷ entry 1000 (word 0 0 0) (actor.Script 0) (kind.End phase.ResumeNoirq 0 None)
    ∷ entry 1000 (word 0 0 0) (actor.Script 0) (kind.Begin phase.ResumeNoirq 1)
    ∷ entry 1000 (word 0 0 0) (actor.Script 0) (kind.End phase.ResumeNoirq 1 None)
    ∷ entry 1000 (word 0 0 0) (actor.Script 0) (kind.Done phase.ResumeNoirq None)
    ∷ entry 1000 (word 0 0 0) (actor.Script 0) (kind.Begin phase.Early 0)
    ∷ entry 1000 (word 0 0 0) (actor.Script 0) (kind.End phase.Early 0 None)
    ∷ entry 1000 (word 0 0 0) (actor.Script 0) (kind.Begin phase.Early 1)
    ∷ entry 1000 (word 0 0 0) (actor.Script 0) (kind.End phase.Early 1 None)
    ∷ entry 1000 (word 0 0 0) (actor.Script 0) (kind.Done phase.Early None)
    ∷ entry 1000 (word 0 0 0) (actor.Script 0) (kind.PlatformUndo up.Finish)
    ∷ entry 1000 (word 0 0 0) (actor.Script 0) (kind.Begin phase.Resume 0)
    ∷ entry 1000 (word 0 0 0) (actor.Script 0) (kind.End phase.Resume 0 None)
    ∷ entry 1000 (word 0 0 0) (actor.Script 0) (kind.Begin phase.Resume 1)
    ∷ entry 1000 (word 0 0 0) (actor.Script 0) (kind.End phase.Resume 1 None)
    ∷ entry 1000 (word 0 0 0) (actor.Script 0) (kind.Done phase.Resume None)
    ∷ entry 1000 (word 0 0 0) (actor.Script 0) (kind.Complete 1)
    ∷ entry 1000 (word 0 0 0) (actor.Script 0) (kind.Complete 0)
    ∷ entry 1000 (word 0 0 0) (actor.Script 0) (kind.Done phase.Complete None)
    ∷ entry 1000 (word 0 0 0) (actor.Script 0) (kind.PlatformUndo up.End)
    ∷ entry 1000 (word 0 0 0) (actor.Script 0) kind.Clear
    ∷ entry 1000 (word 0 0 0) (actor.Script 0) (kind.Thaw thaw.All)
    ∷ entry 1000 (word 0 0 0) (actor.Script 0) (kind.Over 1 None)
    ∷ entry 1000 (word 0 0 0) (actor.Script 0) kind.Exit
    ∷ []

-- the platform hears twice that the attempt begins, and once that it ends
abbrev pub begun_twice_entries : List Entry
begun_twice_entries =
    entry 0 (word 0 0 0) (actor.Script 0) (kind.Read 0)
    ∷ entry 0 (word 0 0 0) (actor.Script 0) (kind.Saved 0)
    ∷ entry 0 (word 0 0 0) (actor.Script 0) (kind.Attempt 1 (Some 0))
    ∷ entry 0 (word 0 0 0) (actor.Script 0) (kind.Freeze group.User)
    ∷ entry 0 (word 0 0 0) (actor.Script 0) (kind.Froze group.User froze.AllFrozen)
    ∷ entry 0 (word 0 0 0) (actor.Script 0) (kind.Freeze group.Kernel)
    ∷ entry 0 (word 0 0 0) (actor.Script 0) (kind.Froze group.Kernel froze.AllFrozen)
    ∷ entry 0 (word 0 0 0) (actor.Script 0) (kind.PlatformDo down.Begin None)
    ∷ entry 0 (word 0 0 0) (actor.Script 0) (kind.PlatformDo down.Begin None)
    ∷ entry 0 (word 0 0 0) (actor.Script 0) (kind.Done phase.Prepare None)
    ∷ entry 0 (word 0 0 0) (actor.Script 0) (kind.Done phase.Suspend None)
    ∷ entry 0 (word 0 0 0) (actor.Script 0) (kind.PlatformDo down.Prepare None)
    ∷ entry 0 (word 0 0 0) (actor.Script 0) (kind.Done phase.Late None)
    ∷ entry 0 (word 0 0 0) (actor.Script 0) (kind.Done phase.Noirq None)
    ∷ entry 0 (word 0 0 0) (actor.Script 0) (kind.PlatformDo down.PrepareLate None)
    ∷ entry 0 (word 0 0 0) (actor.Script 0) (kind.Irqs false)
    ∷ entry 0 (word 0 0 0) (actor.Script 0) (kind.SyscoreCheck None)
    ∷ entry 0 (word 0 0 0) (actor.Script 0) (kind.Enter false)
    ∷ entry 1000 (word 0 0 0) actor.Time kind.Jump
    ∷ entry 1000 (word 0 0 0) (actor.Script 0) (kind.Wake false)
    ∷ entry 1000 (word 0 0 0) (actor.Script 0) (kind.Irqs true)
    ∷ entry 1000 (word 0 0 0) (actor.Script 0) (kind.PlatformUndo up.Wake)
    ∷ entry 1000 (word 0 0 0) (actor.Script 0) (kind.Done phase.ResumeNoirq None)
    ∷ entry 1000 (word 0 0 0) (actor.Script 0) (kind.Done phase.Early None)
    ∷ entry 1000 (word 0 0 0) (actor.Script 0) (kind.PlatformUndo up.Finish)
    ∷ entry 1000 (word 0 0 0) (actor.Script 0) (kind.Done phase.Resume None)
    ∷ entry 1000 (word 0 0 0) (actor.Script 0) (kind.Done phase.Complete None)
    ∷ entry 1000 (word 0 0 0) (actor.Script 0) (kind.PlatformUndo up.End)
    ∷ entry 1000 (word 0 0 0) (actor.Script 0) kind.Clear
    ∷ entry 1000 (word 0 0 0) (actor.Script 0) (kind.Thaw thaw.All)
    ∷ entry 1000 (word 0 0 0) (actor.Script 0) (kind.Over 1 None)
    ∷ entry 1000 (word 0 0 0) (actor.Script 0) kind.Exit
    ∷ []

-- the attempt is over while the machine sleeps
abbrev pub never_woken_entries : List Entry
never_woken_entries =
    entry 0 (word 0 0 0) (actor.Script 0) (kind.Read 0)
    ∷ entry 0 (word 0 0 0) (actor.Script 0) (kind.Saved 0)
    ∷ entry 0 (word 0 0 0) (actor.Script 0) (kind.Attempt 1 (Some 0))
    ∷ entry 0 (word 0 0 0) (actor.Script 0) (kind.Freeze group.User)
    ∷ entry 0 (word 0 0 0) (actor.Script 0) (kind.Froze group.User froze.AllFrozen)
    ∷ entry 0 (word 0 0 0) (actor.Script 0) (kind.Freeze group.Kernel)
    ∷ entry 0 (word 0 0 0) (actor.Script 0) (kind.Froze group.Kernel froze.AllFrozen)
    ∷ entry 0 (word 0 0 0) (actor.Script 0) (kind.PlatformDo down.Begin None)
    ∷ entry 0 (word 0 0 0) (actor.Script 0) (kind.Done phase.Prepare None)
    ∷ entry 0 (word 0 0 0) (actor.Script 0) (kind.Done phase.Suspend None)
    ∷ entry 0 (word 0 0 0) (actor.Script 0) (kind.PlatformDo down.Prepare None)
    ∷ entry 0 (word 0 0 0) (actor.Script 0) (kind.Done phase.Late None)
    ∷ entry 0 (word 0 0 0) (actor.Script 0) (kind.Done phase.Noirq None)
    ∷ entry 0 (word 0 0 0) (actor.Script 0) (kind.PlatformDo down.PrepareLate None)
    ∷ entry 0 (word 0 0 0) (actor.Script 0) (kind.Irqs false)
    ∷ entry 0 (word 0 0 0) (actor.Script 0) (kind.SyscoreCheck None)
    ∷ entry 0 (word 0 0 0) (actor.Script 0) (kind.Enter false)
    ∷ entry 1000 (word 0 0 0) actor.Time kind.Jump
    ∷ entry 1000 (word 0 0 0) (actor.Script 0) (kind.Irqs true)
    ∷ entry 1000 (word 0 0 0) (actor.Script 0) (kind.PlatformUndo up.Wake)
    ∷ entry 1000 (word 0 0 0) (actor.Script 0) (kind.Done phase.ResumeNoirq None)
    ∷ entry 1000 (word 0 0 0) (actor.Script 0) (kind.Done phase.Early None)
    ∷ entry 1000 (word 0 0 0) (actor.Script 0) (kind.PlatformUndo up.Finish)
    ∷ entry 1000 (word 0 0 0) (actor.Script 0) (kind.Done phase.Resume None)
    ∷ entry 1000 (word 0 0 0) (actor.Script 0) (kind.Done phase.Complete None)
    ∷ entry 1000 (word 0 0 0) (actor.Script 0) (kind.PlatformUndo up.End)
    ∷ entry 1000 (word 0 0 0) (actor.Script 0) kind.Clear
    ∷ entry 1000 (word 0 0 0) (actor.Script 0) (kind.Thaw thaw.All)
    ∷ entry 1000 (word 0 0 0) (actor.Script 0) (kind.Over 1 None)
    ∷ entry 1000 (word 0 0 0) (actor.Script 0) kind.Exit
    ∷ []

-- the devices go down only in noirq, in neither suspend nor late, and the machine enters sleep
abbrev pub down_in_noirq_alone_entries : List Entry
down_in_noirq_alone_entries =
    entry 0 (word 0 0 0) (actor.Script 0) (kind.Read 0)
    ∷ entry 0 (word 0 0 0) (actor.Script 0) (kind.Saved 0)
    ∷ entry 0 (word 0 0 0) (actor.Script 0) (kind.Attempt 1 (Some 0))
    ∷ entry 0 (word 0 0 0) (actor.Script 0) (kind.Freeze group.User)
    ∷ entry 0 (word 0 0 0) (actor.Script 0) (kind.Froze group.User froze.AllFrozen)
    ∷ entry 0 (word 0 0 0) (actor.Script 0) (kind.Freeze group.Kernel)
    ∷ entry 0 (word 0 0 0) (actor.Script 0) (kind.Froze group.Kernel froze.AllFrozen)
    ∷ entry 0 (word 0 0 0) (actor.Script 0) (kind.PlatformDo down.Begin None)
    ∷ entry 0 (word 0 0 0) (actor.Script 0) (kind.Prepare 0 (pos 0))
    ∷ entry 0 (word 0 0 0) (actor.Script 0) (kind.Prepare 1 (pos 0))
    ∷ entry 0 (word 0 0 0) (actor.Script 0) (kind.Done phase.Prepare None)
    ∷ entry 0 (word 0 0 0) (actor.Script 0) (kind.Done phase.Suspend None)
    ∷ entry 0 (word 0 0 0) (actor.Script 0) (kind.PlatformDo down.Prepare None)
    ∷ entry 0 (word 0 0 0) (actor.Script 0) (kind.Done phase.Late None)
    ∷ entry 0 (word 0 0 0) (actor.Script 0) (kind.Begin phase.Noirq 1)
    ∷ entry 0 (word 0 0 0) (actor.Script 0) (kind.End phase.Noirq 1 None)
    ∷ entry 0 (word 0 0 0) (actor.Script 0) (kind.Begin phase.Noirq 0)
    ∷ entry 0 (word 0 0 0) (actor.Script 0) (kind.End phase.Noirq 0 None)
    ∷ entry 0 (word 0 0 0) (actor.Script 0) (kind.Done phase.Noirq None)
    ∷ entry 0 (word 0 0 0) (actor.Script 0) (kind.PlatformDo down.PrepareLate None)
    ∷ entry 0 (word 0 0 0) (actor.Script 0) (kind.Irqs false)
    ∷ entry 0 (word 0 0 0) (actor.Script 0) (kind.SyscoreCheck None)
    ∷ entry 0 (word 0 0 0) (actor.Script 0) (kind.Enter false)
    ∷ entry 1000 (word 0 0 0) actor.Time kind.Jump
    ∷ entry 1000 (word 0 0 0) (actor.Script 0) (kind.Wake false)
    ∷ entry 1000 (word 0 0 0) (actor.Script 0) (kind.Irqs true)
    ∷ entry 1000 (word 0 0 0) (actor.Script 0) (kind.PlatformUndo up.Wake)
    ∷ entry 1000 (word 0 0 0) (actor.Script 0) (kind.Begin phase.ResumeNoirq 0)
    ∷ entry 1000 (word 0 0 0) (actor.Script 0) (kind.End phase.ResumeNoirq 0 None)
    ∷ entry 1000 (word 0 0 0) (actor.Script 0) (kind.Begin phase.ResumeNoirq 1)
    ∷ entry 1000 (word 0 0 0) (actor.Script 0) (kind.End phase.ResumeNoirq 1 None)
    ∷ entry 1000 (word 0 0 0) (actor.Script 0) (kind.Done phase.ResumeNoirq None)
    ∷ entry 1000 (word 0 0 0) (actor.Script 0) (kind.Done phase.Early None)
    ∷ entry 1000 (word 0 0 0) (actor.Script 0) (kind.PlatformUndo up.Finish)
    ∷ entry 1000 (word 0 0 0) (actor.Script 0) (kind.Done phase.Resume None)
    ∷ entry 1000 (word 0 0 0) (actor.Script 0) (kind.Complete 1)
    ∷ entry 1000 (word 0 0 0) (actor.Script 0) (kind.Complete 0)
    ∷ entry 1000 (word 0 0 0) (actor.Script 0) (kind.Done phase.Complete None)
    ∷ entry 1000 (word 0 0 0) (actor.Script 0) (kind.PlatformUndo up.End)
    ∷ entry 1000 (word 0 0 0) (actor.Script 0) kind.Clear
    ∷ entry 1000 (word 0 0 0) (actor.Script 0) (kind.Thaw thaw.All)
    ∷ entry 1000 (word 0 0 0) (actor.Script 0) (kind.Over 1 None)
    ∷ entry 1000 (word 0 0 0) (actor.Script 0) kind.Exit
    ∷ []

-- the machine enters sleep while a user task was never asked to freeze
abbrev pub enters_without_a_freeze_entries : List Entry
enters_without_a_freeze_entries =
    entry 0 (word 0 0 0) (actor.Script 0) (kind.Awake 0)
    ∷ entry 0 (word 0 0 0) (actor.Script 0) (kind.Start 0)
    ∷ entry 0 (word 1 0 0) (actor.Script 0) (kind.AutoSet state.Mem)
    ∷ entry 0 (word 1 0 0) (actor.Script 0) (kind.Relax 0)
    ∷ entry 0 (word 1 0 0) (actor.Script 0) (kind.Finish 0)
    ∷ entry 0 (word 0 1 0) (actor.Script 0) kind.AutoDone
    ∷ entry 0 (word 0 1 0) actor.Auto kind.AutoRun
    ∷ entry 0 (word 0 1 0) (actor.Script 0) (kind.SaveErr 0 EBUSY)
    ∷ entry 0 (word 0 1 0) actor.Auto (kind.Read 1)
    ∷ entry 0 (word 0 1 0) (actor.Script 0) (kind.Sleep 1200)
    ∷ entry 0 (word 0 1 0) actor.Auto (kind.AutoSaved 1)
    ∷ entry 0 (word 0 1 0) actor.Auto (kind.Attempt 1 (Some 1))
    ∷ entry 0 (word 0 1 0) actor.Auto (kind.PlatformDo down.Begin None)
    ∷ entry 0 (word 0 1 0) actor.Auto (kind.Done phase.Prepare None)
    ∷ entry 0 (word 0 1 0) actor.Auto (kind.Done phase.Suspend None)
    ∷ entry 0 (word 0 1 0) actor.Auto (kind.PlatformDo down.Prepare None)
    ∷ entry 0 (word 0 1 0) actor.Auto (kind.Done phase.Late None)
    ∷ entry 0 (word 0 1 0) actor.Auto (kind.Done phase.Noirq None)
    ∷ entry 0 (word 0 1 0) actor.Auto (kind.PlatformDo down.PrepareLate None)
    ∷ entry 0 (word 0 1 0) actor.Auto (kind.Irqs false)
    ∷ entry 0 (word 0 1 0) actor.Auto (kind.SyscoreCheck None)
    ∷ entry 0 (word 0 1 0) actor.Auto (kind.Enter false)
    ∷ entry 1000 (word 0 1 0) actor.Time kind.Jump
    ∷ entry 1000 (word 0 1 0) actor.Auto (kind.Wake false)
    ∷ entry 1000 (word 0 1 0) actor.Auto (kind.Irqs true)
    ∷ entry 1000 (word 0 1 0) actor.Auto (kind.PlatformUndo up.Wake)
    ∷ entry 1000 (word 0 1 0) actor.Auto (kind.Done phase.ResumeNoirq None)
    ∷ entry 1000 (word 0 1 0) actor.Auto (kind.Done phase.Early None)
    ∷ entry 1000 (word 0 1 0) actor.Auto (kind.PlatformUndo up.Finish)
    ∷ entry 1000 (word 0 1 0) actor.Auto (kind.Done phase.Resume None)
    ∷ entry 1000 (word 0 1 0) actor.Auto (kind.Done phase.Complete None)
    ∷ entry 1000 (word 0 1 0) actor.Auto (kind.PlatformUndo up.End)
    ∷ entry 1000 (word 0 1 0) actor.Auto kind.Clear
    ∷ entry 1000 (word 0 1 0) actor.Auto (kind.Thaw thaw.All)
    ∷ entry 1000 (word 0 1 0) actor.Auto (kind.Over 1 None)
    ∷ entry 1000 (word 0 1 0) actor.Auto (kind.AutoAfter (Some 1))
    ∷ entry 1000 (word 0 1 0) actor.Auto (kind.SleepD 1500)
    ∷ entry 1200 (word 0 1 0) actor.Time kind.Jump
    ∷ entry 1200 (word 0 1 0) (actor.Script 0) kind.Slept
    ∷ entry 1200 (word 0 1 0) (actor.Script 0) (kind.Awake 0)
    ∷ entry 1200 (word 0 1 0) (actor.Script 0) (kind.Start 0)
    ∷ entry 1200 (word 1 1 0) (actor.Script 0) (kind.AutoSet state.Off)
    ∷ entry 1200 (word 1 1 0) (actor.Script 0) (kind.Relax 0)
    ∷ entry 1200 (word 1 1 0) (actor.Script 0) (kind.Finish 0)
    ∷ entry 1200 (word 0 2 0) (actor.Script 0) kind.AutoDone
    ∷ entry 1200 (word 0 2 0) (actor.Script 0) (kind.Sleep 2200)
    ∷ entry 1500 (word 0 2 0) actor.Time kind.Jump
    ∷ entry 1500 (word 0 2 0) actor.Auto kind.Slept
    ∷ entry 1500 (word 0 2 0) actor.Auto kind.AutoOff
    ∷ entry 2200 (word 0 2 0) actor.Time kind.Jump
    ∷ entry 2200 (word 0 2 0) (actor.Script 0) kind.Slept
    ∷ entry 2200 (word 0 2 0) (actor.Script 0) kind.Exit
    ∷ []
