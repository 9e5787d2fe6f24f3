-- Proof that `Core::walk_down` meets its contract.
use Rattle.std.proofs.Common.{◌∙◌, ap}
use Rattle.sleep_state.specs.JournalRooms.{entries}
use Rattle.phase_suspend.specs.Downs.{walk_down_due_on}
use Rattle.phase_suspend.proofs.Following.{follows}
use Rattle.sleep_core.proofs.Walks.{seen_is}
use Rattle.sleep_core.proofs.state.Core.walk_down.Goals as goal

pub returns : goal.returns
returns c =
    let core = c.args.self.now in
    c.walk_due.ensures ∙ (ap (λ s. walk_down_due_on s c.args.p) (seen_is core c.args.now c.down_env.result (record { async_error = c.phase_failed.result; error = c.own_error.result }) c.down_env.ensures c.phase_failed.ensures c.own_error.ensures)
    ∙ (follows core.machine (entries core.past) c.args.now).walk c.args.p c.requires)
