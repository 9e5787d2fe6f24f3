-- Proof that `Core::scheduled_due` meets its contract.
use Rattle.std.proofs.Common.{◌∙◌, ap, sym}
use Rattle.sleep_state.specs.JournalRooms.{entries}
use Rattle.phase_resume.specs.Ups.{scheduled_up_on}
use Rattle.phase_resume.proofs.Following.{follows}
use Rattle.sleep_core.proofs.Walks.{up_if_not}
use Rattle.sleep_core.proofs.state.Core.scheduled_due.Goals as goal

pub returns-else-is_down : goal.returns-else-is_down
returns-else-is_down c =
    let core = c.args.self.now in
    c.device_due.ensures ∙ (ap (λ b. scheduled_up_on b c.args.p c.args.device) c.board.ensures
    ∙ (follows core.machine (entries core.past) c.args.now).scheduled c.args.p c.args.device (up_if_not c.args.p c.requires (sym c.is_down.ensures ∙ c.if-is_down.false)))
