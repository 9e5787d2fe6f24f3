-- The invariant of the loop of `set_state`.
use Rattle.std.proofs.Common.{◌≡◌, false, take}
use Rattle.sleep_model.specs.Order.{with_state}
use Rattle.device_links.proofs.Numbering.{changed}
use Rattle.device_links.proofs.states.set_state.Given as goal

abbrev pub invariant-loop-number : goal.invariant-loop-number
invariant-loop-number l = record {
  now : l.links.items ≡ changed (with_state l.supplier l.consumer l.to) (take l.number-index l.consumed) l.fn.links.items;
  kept : l.changed ≡ false → l.links.items ≡ l.fn.links.items;
}
