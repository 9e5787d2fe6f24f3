-- The invariant of the loop of `put_referred`.
use Rattle.std.proofs.Common.{◌≡◌, ◌++◌, take, flat_map}
use Rattle.sleep_model.specs.Text.{entry_line}
use Rattle.log_text.specs.Referred.{referred}
use Rattle.log_text.proofs.writing.referred.put_referred.Given as goal

abbrev pub invariant-loop-one : goal.invariant-loop-one
invariant-loop-one l = l.out ≡ l.initial.out ++ flat_map (entry_line l.names) (referred (take l.one-index l.entries))
