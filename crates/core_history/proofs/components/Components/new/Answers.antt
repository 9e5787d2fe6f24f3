-- Before any entry each component is what the definitions read from no entry.
use Rattle.std.proofs.Common.{◌≡◌, ◌∙◌, map, reverse, rules}
use Rattle.sleep_model.specs.Order.{parents_of}
use Rattle.sleep_model.specs.Runtime.{is_async}
use Rattle.async_board.proofs.Agreement.{board_first}
use Rattle.async_board.specs.Boards.{first_board}
use Rattle.platform_steps.specs.PlatformState.{first_steps}
use Rattle.sleep_state.specs.DeviceStates.{undisturbed}
use Rattle.task_freezer.specs.Freezers.{first_freezer}
use Rattle.core_history.proofs.Freezing.{freezer_first}
use Rattle.core_history.proofs.components.Components.new.Goals as goal

pub returns : goal.returns
returns c =
    let m = c.args.machine.now in
    let board : c.in_ok-board.board ≡ first_board (parents_of m.devices) (reverse m.links) (map is_async m.devices) = search rules in
    let freezer : c.in-Ok-new-2.freezer ≡ first_freezer m.actors = search rules in
    let devices : c.in-Ok-new-4.devices ≡ undisturbed m.devices = search rules in
    let platform : c.in-Ok-new.platform ≡ first_steps m = search rules in
    record {
      guard = c.new-6.ensures;
      path = c.new-7.ensures;
      devices = devices;
      board = board ∙ board_first m;
      tasks = search rules;
      freezer = freezer ∙ freezer_first m;
      autosleep = c.new-8.ensures;
      platform = platform;
      syscore = search rules;
    }
