-- Whole logs of links that are added, that are dormant, and that are refused.
use Rattle.std.specs.Prelude.{true, false, List, [], ◌∷◌, codes, pos, Some, None}
use Rattle.sleep_base.specs.declared.errno.Errno.TheVariants.{EINVAL}
use Rattle.sleep_model.specs.declared.entry.Entry.{Entry}
use Rattle.sleep_model.specs.declared.machine.Machine.{Machine}
use Rattle.sleep_model.specs.declared.entry.Actor.TheVariants as actor
use Rattle.sleep_model.specs.declared.entry.FrozeEnd.TheVariants as froze
use Rattle.sleep_model.specs.declared.entry.Group.TheVariants as group
use Rattle.sleep_model.specs.declared.entry.Kind.TheVariants as kind
use Rattle.sleep_model.specs.declared.entry.Thaw.TheVariants as thaw
use Rattle.sleep_model.specs.declared.machine.Op.TheVariants as op
use Rattle.sleep_model.specs.declared.machine.PlatDo.TheVariants as down
use Rattle.sleep_model.specs.declared.machine.PlatUndo.TheVariants as up
use Rattle.sleep_model.specs.declared.machine.TaskKind.TheVariants as task
use Rattle.phase_table.specs.declared.phase.Phase.TheVariants as phase
use Rattle.law_trials.specs.Terms.{entry, word, device, script, once, empty_machine}

-- a task links two devices and then sleeps: the supplier is prepared first, and suspends last: its machine
abbrev pub link_added_machine : Machine
link_added_machine = record empty_machine {
  devices = device (codes "a") None 0 ∷ device (codes "b") None 0 ∷ [];
  actors =
      script (codes "w") task.User 1 (once (op.Link 1 0) ∷ once (op.Link 0 1) ∷ once (op.State (codes "mem") false) ∷ [])
      ∷ [];
}

-- its entries
abbrev pub link_added_entries : List Entry
link_added_entries =
    entry 0 (word 0 0 0) (actor.Script 0) (kind.LinkAdd 1 0 None)
    ∷ entry 0 (word 0 0 0) (actor.Script 0) (kind.LinkAdd 0 1 (Some EINVAL))
    ∷ entry 0 (word 0 0 0) (actor.Script 0) (kind.Attempt 1 None)
    ∷ entry 0 (word 0 0 0) (actor.Script 0) (kind.Freeze group.User)
    ∷ entry 0 (word 0 0 0) (actor.Script 0) (kind.Froze group.User froze.AllFrozen)
    ∷ entry 0 (word 0 0 0) (actor.Script 0) (kind.Freeze group.Kernel)
    ∷ entry 0 (word 0 0 0) (actor.Script 0) (kind.Froze group.Kernel froze.AllFrozen)
    ∷ entry 0 (word 0 0 0) (actor.Script 0) (kind.PlatformDo down.Begin None)
    ∷ entry 0 (word 0 0 0) (actor.Script 0) (kind.Prepare 1 (pos 0))
    ∷ entry 0 (word 0 0 0) (actor.Script 0) (kind.Prepare 0 (pos 0))
    ∷ entry 0 (word 0 0 0) (actor.Script 0) (kind.Done phase.Prepare None)
    ∷ entry 0 (word 0 0 0) (actor.Script 0) (kind.Begin phase.Suspend 0)
    ∷ entry 0 (word 0 0 0) (actor.Script 0) (kind.End phase.Suspend 0 None)
    ∷ entry 0 (word 0 0 0) (actor.Script 0) (kind.Begin phase.Suspend 1)
    ∷ entry 0 (word 0 0 0) (actor.Script 0) (kind.End phase.Suspend 1 None)
    ∷ entry 0 (word 0 0 0) (actor.Script 0) (kind.Done phase.Suspend None)
    ∷ entry 0 (word 0 0 0) (actor.Script 0) (kind.PlatformDo down.Prepare None)
    ∷ entry 0 (word 0 0 0) (actor.Script 0) (kind.Begin phase.Late 0)
    ∷ entry 0 (word 0 0 0) (actor.Script 0) (kind.End phase.Late 0 None)
    ∷ entry 0 (word 0 0 0) (actor.Script 0) (kind.Begin phase.Late 1)
    ∷ entry 0 (word 0 0 0) (actor.Script 0) (kind.End phase.Late 1 None)
    ∷ entry 0 (word 0 0 0) (actor.Script 0) (kind.Done phase.Late None)
    ∷ entry 0 (word 0 0 0) (actor.Script 0) (kind.Begin phase.Noirq 0)
    ∷ entry 0 (word 0 0 0) (actor.Script 0) (kind.End phase.Noirq 0 None)
    ∷ entry 0 (word 0 0 0) (actor.Script 0) (kind.Begin phase.Noirq 1)
    ∷ entry 0 (word 0 0 0) (actor.Script 0) (kind.End phase.Noirq 1 None)
    ∷ entry 0 (word 0 0 0) (actor.Script 0) (kind.Done phase.Noirq None)
    ∷ entry 0 (word 0 0 0) (actor.Script 0) (kind.PlatformDo down.PrepareLate None)
    ∷ entry 0 (word 0 0 0) (actor.Script 0) (kind.Irqs false)
    ∷ entry 0 (word 0 0 0) (actor.Script 0) (kind.SyscoreCheck None)
    ∷ entry 0 (word 0 0 0) (actor.Script 0) (kind.Enter false)
    ∷ entry 1000 (word 0 0 0) actor.Time kind.Jump
    ∷ entry 1000 (word 0 0 0) (actor.Script 0) (kind.Wake false)
    ∷ entry 1000 (word 0 0 0) (actor.Script 0) (kind.Irqs true)
    ∷ entry 1000 (word 0 0 0) (actor.Script 0) (kind.PlatformUndo up.Wake)
    ∷ entry 1000 (word 0 0 0) (actor.Script 0) (kind.Begin phase.ResumeNoirq 1)
    ∷ entry 1000 (word 0 0 0) (actor.Script 0) (kind.End phase.ResumeNoirq 1 None)
    ∷ entry 1000 (word 0 0 0) (actor.Script 0) (kind.Begin phase.ResumeNoirq 0)
    ∷ entry 1000 (word 0 0 0) (actor.Script 0) (kind.End phase.ResumeNoirq 0 None)
    ∷ entry 1000 (word 0 0 0) (actor.Script 0) (kind.Done phase.ResumeNoirq None)
    ∷ entry 1000 (word 0 0 0) (actor.Script 0) (kind.Begin phase.Early 1)
    ∷ entry 1000 (word 0 0 0) (actor.Script 0) (kind.End phase.Early 1 None)
    ∷ entry 1000 (word 0 0 0) (actor.Script 0) (kind.Begin phase.Early 0)
    ∷ entry 1000 (word 0 0 0) (actor.Script 0) (kind.End phase.Early 0 None)
    ∷ entry 1000 (word 0 0 0) (actor.Script 0) (kind.Done phase.Early None)
    ∷ entry 1000 (word 0 0 0) (actor.Script 0) (kind.PlatformUndo up.Finish)
    ∷ entry 1000 (word 0 0 0) (actor.Script 0) (kind.Begin phase.Resume 1)
    ∷ entry 1000 (word 0 0 0) (actor.Script 0) (kind.End phase.Resume 1 None)
    ∷ entry 1000 (word 0 0 0) (actor.Script 0) (kind.Begin phase.Resume 0)
    ∷ entry 1000 (word 0 0 0) (actor.Script 0) (kind.End phase.Resume 0 None)
    ∷ entry 1000 (word 0 0 0) (actor.Script 0) (kind.Done phase.Resume None)
    ∷ entry 1000 (word 0 0 0) (actor.Script 0) (kind.Complete 0)
    ∷ entry 1000 (word 0 0 0) (actor.Script 0) (kind.Complete 1)
    ∷ entry 1000 (word 0 0 0) (actor.Script 0) (kind.Done phase.Complete None)
    ∷ entry 1000 (word 0 0 0) (actor.Script 0) (kind.PlatformUndo up.End)
    ∷ entry 1000 (word 0 0 0) (actor.Script 0) kind.Clear
    ∷ entry 1000 (word 0 0 0) (actor.Script 0) (kind.Thaw thaw.All)
    ∷ entry 1000 (word 0 0 0) (actor.Script 0) (kind.Over 1 None)
    ∷ entry 1000 (word 0 0 0) (actor.Script 0) kind.Exit
    ∷ []
