-- The invariant of the loop of `put_stuck`.
use Rattle.std.proofs.Common.{◌≡◌, ◌++◌, take, flat_map}
use Rattle.sleep_model.specs.Text.{waiting_line}
use Rattle.log_text.proofs.writing.log.put_stuck.Given as goal

abbrev pub invariant-loop-stuck : goal.invariant-loop-stuck
invariant-loop-stuck l = l.out ≡ l.initial.out ++ flat_map (waiting_line l.names) (take l.stuck-index l.waiting)
