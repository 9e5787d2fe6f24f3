-- Proof that `Core::scheduled_down` meets its contract.
use Rattle.std.proofs.Common.{◌∙◌, ap}
use Rattle.sleep_state.specs.JournalRooms.{entries}
use Rattle.phase_suspend.specs.Downs.{scheduled_down_on}
use Rattle.phase_suspend.proofs.Following.{follows}
use Rattle.sleep_core.proofs.Walks.{seen_is}
use Rattle.sleep_core.proofs.state.Core.scheduled_down.Goals as goal

pub returns : goal.returns
returns c =
    let core = c.args.self.now in
    c.device_due.ensures ∙ (ap (λ s. scheduled_down_on s c.args.p c.args.device) (seen_is core c.args.now c.down_env.result (record { async_error = c.phase_failed.result; error = c.own_error.result }) c.down_env.ensures c.phase_failed.ensures c.own_error.ensures)
    ∙ (follows core.machine (entries core.past) c.args.now).scheduled c.args.p c.args.device c.requires)
