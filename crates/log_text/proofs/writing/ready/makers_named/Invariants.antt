-- The invariant of the loop of `makers_named`.
use Rattle.std.proofs.Common.{◌≡◌, ◌++◌, take, map}
use Rattle.sleep_model.specs.Text.{space}
use Rattle.log_text.proofs.writing.ready.makers_named.Given as goal

abbrev pub invariant-loop-name : goal.invariant-loop-name
invariant-loop-name l = l.texts.items ≡ map (λ x. (l.kind ++ x) ++ space) (take l.name-index l.names)
