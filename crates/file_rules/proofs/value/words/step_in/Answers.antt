-- Proof that `step_in` meets its contract.
use Rattle.std.proofs.Common.{◌∙◌, List, ℕ, Bor, sym, ap}
use Rattle.std.specs.Option.{option_map}
use Rattle.borrowed_json.specs.View.{view}
use Rattle.sleep_model.specs.Text.{down_word}
use Rattle.file_rules.specs.Answering.{platform_steps}
use Rattle.file_rules.proofs.Namings.{named_in, textless}
use Rattle.file_rules.proofs.value.words.step_in.Goals as goal

pub returns-in-Some : goal.returns-in-Some
returns-in-Some c =
    named_in down_word platform_steps (view c.args.value.now) c.in-Some.text.now c.step_named.result c.step_named.ensures
    (sym (ap (option_map (λ (s : Bor (List ℕ)). s.now)) c.in-Some.is) ∙ c.as_str.ensures)

pub returns-in-None : goal.returns-in-None
returns-in-None c = textless down_word platform_steps (view c.args.value.now) (sym (ap (option_map (λ (s : Bor (List ℕ)). s.now)) c.in-None.is) ∙ c.as_str.ensures)
