-- Proof that `script_steps` meets its contract.
use Rattle.std.proofs.Common.{◌∙◌, ℕ, ap}
use Rattle.file_rules.specs.Counted.{repeated_steps, steps_once}
use Rattle.file_rules.proofs.Counting.{of_script}
use Rattle.file_rules.proofs.rules.limits.script_steps.Goals as goal

pub returns : goal.returns
returns c =
    let script = c.args.script.now in
    c.repeated.ensures ∙ ap (λ (n : ℕ). repeated_steps n c.steps_once.result) c.from.ensures ∙ ap (repeated_steps script.repeat) (c.steps_once.ensures ∙ ap steps_once c.as_slice.ensures)
    ∙ of_script script
