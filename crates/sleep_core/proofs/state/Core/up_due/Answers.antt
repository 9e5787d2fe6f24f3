-- Proof that `Core::up_due` meets its contract.
use Rattle.std.proofs.Common.{◌∙◌, ap, sym}
use Rattle.sleep_model.specs.Devices.{up_due}
use Rattle.sleep_state.specs.JournalRooms.{entries}
use Rattle.phase_resume.specs.Ups.{walk_up_due_on}
use Rattle.phase_resume.proofs.Following.{follows}
use Rattle.sleep_core.proofs.state.Core.up_due.Goals as goal

pub returns-in-None : goal.returns-in-None
returns-in-None c =
    let core = c.args.self.now in
    c.walk_due.ensures ∙ (ap (λ b. walk_up_due_on b c.args.p) c.board.ensures
    ∙ ((follows core.machine (entries core.past) (record { inpr = 0; count = 0; hard = 0 })).walk c.args.p c.requires ∙ ap (up_due core.machine (entries core.past) c.args.p) (sym c.in-None.is ∙ c.callback.ensures)))
