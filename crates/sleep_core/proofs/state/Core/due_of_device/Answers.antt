-- Proof that `Core::due_of_device` meets its contract: a device makes no attempt.
use Rattle.std.proofs.Common.{◌∙◌, ap, subst}
use Rattle.sleep_model.specs.Devices.{device_due}
use Rattle.sleep_model.specs.Legal.{JournalPart}
use Rattle.sleep_state.specs.JournalRooms.{entries}
use Rattle.sleep_core.specs.Cores.{CoreState}
use Rattle.sleep_core.proofs.Walks.{due_of_work}
use Rattle.sleep_core.proofs.state.Core.due_of_device.Goals as goal

pub returns : goal.returns
returns c =
    let core = c.args.self.now in
    c.device_due_at.ensures
    ∙ (ap (device_due core.machine (entries core.past) c.args.now c.args.device) c.requires
    ∙ due_of_work core c.args.device c.args.now (subst (λ (s : CoreState). JournalPart s.machine (entries s.past)) c.self.view_is c.self.invariant.core.legal))
