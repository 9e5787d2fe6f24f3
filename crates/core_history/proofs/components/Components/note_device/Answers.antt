-- Proof that `Components::note_device` meets its contract.
use Rattle.std.proofs.Common.{◌∙◌, ap}
use Rattle.async_board.specs.Boards.{board_after}
use Rattle.sleep_state.specs.DeviceStates.{devices_after}
use Rattle.wakeup_guard.specs.Guarded.{guarded_after}
use Rattle.core_history.specs.Histories.{guard_of}
use Rattle.core_history.proofs.Counted.{guarded_24}
use Rattle.core_history.proofs.Passing.{passes}
use Rattle.core_history.proofs.components.Components.note_device.Goals as goal

pub returns : goal.returns
returns c = λ m past time i.
    let k = c.args.kind in
    let same = passes m past time c.args.now c.args.actor k c.requires in
    record {
      guard = c.move_guard.ensures ∙ (ap (guarded_after 24 k c.args.now) i.guard ∙ guarded_24 k c.args.now (guard_of past));
      path = i.path ∙ same.path;
      devices = c.note-2.ensures ∙ ap (devices_after k c.args.actor) i.devices;
      board = c.note.ensures ∙ (ap (board_after k) i.board ∙ same.board);
      tasks = i.tasks ∙ same.tasks;
      freezer = i.freezer ∙ same.freezer;
      autosleep = i.autosleep ∙ same.autosleep;
      platform = i.platform ∙ same.platform;
      syscore = i.syscore ∙ same.syscore;
    }
