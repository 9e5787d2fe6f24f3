-- The invariant of the loop of `script_makers`.
use Rattle.std.proofs.Common.{◌≡◌, ◌++◌, take, map}
use Rattle.sleep_model.specs.Text.{script_word, space}
use Rattle.log_text.proofs.writing.ready.script_makers.Given as goal

abbrev pub invariant-loop-script : goal.invariant-loop-script
invariant-loop-script l = l.texts.items ≡ map (λ x. (script_word x.kind ++ x.name) ++ space) (take l.script-index l.scripts)
