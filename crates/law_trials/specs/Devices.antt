-- Whole logs of devices with links, of asynchronous devices, and of runtime status.
use Rattle.std.specs.Prelude.{true, false, List, [], ◌∷◌, codes, pos, Some, None}
use Rattle.sleep_base.specs.declared.errno.Errno.TheVariants.{EAGAIN, EACCES}
use Rattle.sleep_model.specs.declared.entry.Entry.{Entry}
use Rattle.sleep_model.specs.declared.machine.Machine.{Machine}
use Rattle.sleep_model.specs.declared.entry.Actor.TheVariants as actor
use Rattle.sleep_model.specs.declared.entry.FrozeEnd.TheVariants as froze
use Rattle.sleep_model.specs.declared.entry.Group.TheVariants as group
use Rattle.sleep_model.specs.declared.entry.Kind.TheVariants as kind
use Rattle.sleep_model.specs.declared.entry.Thaw.TheVariants as thaw
use Rattle.sleep_model.specs.declared.machine.Op.TheVariants as op
use Rattle.sleep_model.specs.declared.machine.PlatDo.TheVariants as down
use Rattle.sleep_model.specs.declared.machine.PlatUndo.TheVariants as up
use Rattle.sleep_model.specs.declared.machine.TaskKind.TheVariants as task
use Rattle.phase_table.specs.declared.phase.Phase.TheVariants as phase
use Rattle.law_trials.specs.Terms.{entry, word, device, link, script, once, times, empty_machine}

-- a camera on a bus whose port needs a line: its machine
abbrev pub first_link_machine : Machine
first_link_machine = record empty_machine {
  devices =
      device (codes "bus") None 0
      ∷ device (codes "usb") (Some 0) 0
      ∷ device (codes "cam") (Some 1) 0
      ∷ device (codes "gpio") None 0
      ∷ device (codes "clk") None 0
      ∷ [];
  links = link 3 1 ∷ [];
  actors = script (codes "w") task.User 1 (once (op.State (codes "mem") false) ∷ []) ∷ [];
}

-- the same, if the line needs a clock: its machine
abbrev pub two_links_machine : Machine
two_links_machine = record empty_machine {
  devices =
      device (codes "bus") None 0
      ∷ device (codes "usb") (Some 0) 0
      ∷ device (codes "cam") (Some 1) 0
      ∷ device (codes "gpio") None 0
      ∷ device (codes "clk") None 0
      ∷ [];
  links = link 3 1 ∷ link 4 3 ∷ [];
  actors = script (codes "w") task.User 1 (once (op.State (codes "mem") false) ∷ []) ∷ [];
}

-- requests at run time while the device is prepared, and after its late suspend began: its machine
abbrev pub runtime_requests_machine : Machine
runtime_requests_machine = record empty_machine {
  devices = device (codes "d") None 0 ∷ [];
  marks = codes "a" ∷ codes "x" ∷ [];
  actors =
      script (codes "w") task.User 1 (once (op.Post 0) ∷ once (op.State (codes "mem") false) ∷ [])
      ∷ script (codes "n") task.NoFreeze 1 (
      once (op.Wait 0)
      ∷ times 7 (op.Post 1)
      ∷ once (op.Runtime 0 true)
      ∷ times 4 (op.Post 1)
      ∷ once (op.Runtime 0 false)
      ∷ [])
      ∷ [];
}

-- its entries
abbrev pub runtime_requests_entries : List Entry
runtime_requests_entries =
    entry 0 (word 0 0 0) (actor.Script 0) (kind.Post 0)
    ∷ entry 0 (word 0 0 0) (actor.Script 1) (kind.Got 0)
    ∷ entry 0 (word 0 0 0) (actor.Script 0) (kind.Attempt 1 None)
    ∷ entry 0 (word 0 0 0) (actor.Script 1) (kind.Post 1)
    ∷ entry 0 (word 0 0 0) (actor.Script 0) (kind.Freeze group.User)
    ∷ entry 0 (word 0 0 0) (actor.Script 1) (kind.Post 1)
    ∷ entry 0 (word 0 0 0) (actor.Script 0) (kind.Froze group.User froze.AllFrozen)
    ∷ entry 0 (word 0 0 0) (actor.Script 1) (kind.Post 1)
    ∷ entry 0 (word 0 0 0) (actor.Script 0) (kind.Freeze group.Kernel)
    ∷ entry 0 (word 0 0 0) (actor.Script 1) (kind.Post 1)
    ∷ entry 0 (word 0 0 0) (actor.Script 0) (kind.Froze group.Kernel froze.AllFrozen)
    ∷ entry 0 (word 0 0 0) (actor.Script 1) (kind.Post 1)
    ∷ entry 0 (word 0 0 0) (actor.Script 0) (kind.PlatformDo down.Begin None)
    ∷ entry 0 (word 0 0 0) (actor.Script 1) (kind.Post 1)
    ∷ entry 0 (word 0 0 0) (actor.Script 0) (kind.Prepare 0 (pos 0))
    ∷ entry 0 (word 0 0 0) (actor.Script 1) (kind.Post 1)
    ∷ entry 0 (word 0 0 0) (actor.Script 0) (kind.Done phase.Prepare None)
    ∷ entry 0 (word 0 0 0) (actor.Script 1) (kind.RuntimeAsk 0 true (Some EAGAIN))
    ∷ entry 0 (word 0 0 0) (actor.Script 0) (kind.Begin phase.Suspend 0)
    ∷ entry 0 (word 0 0 0) (actor.Script 1) (kind.Post 1)
    ∷ entry 0 (word 0 0 0) (actor.Script 0) (kind.End phase.Suspend 0 None)
    ∷ entry 0 (word 0 0 0) (actor.Script 1) (kind.Post 1)
    ∷ entry 0 (word 0 0 0) (actor.Script 0) (kind.Done phase.Suspend None)
    ∷ entry 0 (word 0 0 0) (actor.Script 1) (kind.Post 1)
    ∷ entry 0 (word 0 0 0) (actor.Script 0) (kind.PlatformDo down.Prepare None)
    ∷ entry 0 (word 0 0 0) (actor.Script 1) (kind.Post 1)
    ∷ entry 0 (word 0 0 0) (actor.Script 0) (kind.Begin phase.Late 0)
    ∷ entry 0 (word 0 0 0) (actor.Script 1) (kind.RuntimeAsk 0 false (Some EACCES))
    ∷ entry 0 (word 0 0 0) (actor.Script 0) (kind.End phase.Late 0 None)
    ∷ entry 0 (word 0 0 0) (actor.Script 1) kind.Exit
    ∷ entry 0 (word 0 0 0) (actor.Script 0) (kind.Done phase.Late None)
    ∷ entry 0 (word 0 0 0) (actor.Script 0) (kind.Begin phase.Noirq 0)
    ∷ entry 0 (word 0 0 0) (actor.Script 0) (kind.End phase.Noirq 0 None)
    ∷ entry 0 (word 0 0 0) (actor.Script 0) (kind.Done phase.Noirq None)
    ∷ entry 0 (word 0 0 0) (actor.Script 0) (kind.PlatformDo down.PrepareLate None)
    ∷ entry 0 (word 0 0 0) (actor.Script 0) (kind.Irqs false)
    ∷ entry 0 (word 0 0 0) (actor.Script 0) (kind.SyscoreCheck None)
    ∷ entry 0 (word 0 0 0) (actor.Script 0) (kind.Enter false)
    ∷ entry 1000 (word 0 0 0) actor.Time kind.Jump
    ∷ entry 1000 (word 0 0 0) (actor.Script 0) (kind.Wake false)
    ∷ entry 1000 (word 0 0 0) (actor.Script 0) (kind.Irqs true)
    ∷ entry 1000 (word 0 0 0) (actor.Script 0) (kind.PlatformUndo up.Wake)
    ∷ entry 1000 (word 0 0 0) (actor.Script 0) (kind.Begin phase.ResumeNoirq 0)
    ∷ entry 1000 (word 0 0 0) (actor.Script 0) (kind.End phase.ResumeNoirq 0 None)
    ∷ entry 1000 (word 0 0 0) (actor.Script 0) (kind.Done phase.ResumeNoirq None)
    ∷ entry 1000 (word 0 0 0) (actor.Script 0) (kind.Begin phase.Early 0)
    ∷ entry 1000 (word 0 0 0) (actor.Script 0) (kind.End phase.Early 0 None)
    ∷ entry 1000 (word 0 0 0) (actor.Script 0) (kind.Done phase.Early None)
    ∷ entry 1000 (word 0 0 0) (actor.Script 0) (kind.PlatformUndo up.Finish)
    ∷ entry 1000 (word 0 0 0) (actor.Script 0) (kind.Begin phase.Resume 0)
    ∷ entry 1000 (word 0 0 0) (actor.Script 0) (kind.End phase.Resume 0 None)
    ∷ entry 1000 (word 0 0 0) (actor.Script 0) (kind.Done phase.Resume None)
    ∷ entry 1000 (word 0 0 0) (actor.Script 0) (kind.Complete 0)
    ∷ entry 1000 (word 0 0 0) (actor.Script 0) (kind.Done phase.Complete None)
    ∷ entry 1000 (word 0 0 0) (actor.Script 0) (kind.PlatformUndo up.End)
    ∷ entry 1000 (word 0 0 0) (actor.Script 0) kind.Clear
    ∷ entry 1000 (word 0 0 0) (actor.Script 0) (kind.Thaw thaw.All)
    ∷ entry 1000 (word 0 0 0) (actor.Script 0) (kind.Over 1 None)
    ∷ entry 1000 (word 0 0 0) (actor.Script 0) kind.Exit
    ∷ []
