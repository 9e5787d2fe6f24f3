-- Proof that `step_named` meets its contract.
use Rattle.std.proofs.Common.{◌∙◌, List, ℕ, find, bytes_eq, ap}
use Rattle.sleep_model.specs.Text.{down_word}
use Rattle.file_rules.specs.Answering.{platform_steps}
use Rattle.file_rules.proofs.Namings.{named, each_step}
use Rattle.file_rules.proofs.value.words.step_named.Goals as goal

pub returns : goal.returns
returns c =
    named down_word platform_steps each_step c.as_bytes.result.now c.of_bytes.result c.of_bytes.ensures.found c.of_bytes.ensures.none
    ∙ ap (λ (s : List ℕ). find (λ x. bytes_eq s (down_word x)) platform_steps) c.as_bytes.ensures.value
