-- Proof that `kind_in` meets its contract.
use Rattle.std.proofs.Common.{◌∙◌, List, ℕ, Bor, find, bytes_eq, sym, ap}
use Rattle.std.specs.Option.{option_map}
use Rattle.sleep_model.specs.Text.{kind_word}
use Rattle.borrowed_json.specs.View.{view}
use Rattle.file_rules.specs.WordLists.{task_kinds}
use Rattle.file_rules.proofs.Namings.{named, named_in, textless, each_kind}
use Rattle.file_rules.proofs.value.words.kind_in.Goals as goal

pub returns-in-Some : goal.returns-in-Some
returns-in-Some c =
    named_in kind_word task_kinds (view c.args.value.now) c.in-Some.text.now c.of_bytes.result (named kind_word task_kinds each_kind c.as_bytes.result.now c.of_bytes.result c.of_bytes.ensures.found c.of_bytes.ensures.none ∙ ap (λ (s : List ℕ). find (λ x. bytes_eq s (kind_word x)) task_kinds) c.as_bytes.ensures.value)
    (sym (ap (option_map (λ (s : Bor (List ℕ)). s.now)) c.in-Some.is) ∙ c.as_str.ensures)

pub returns-in-None : goal.returns-in-None
returns-in-None c = textless kind_word task_kinds (view c.args.value.now) (sym (ap (option_map (λ (s : Bor (List ℕ)). s.now)) c.in-None.is) ∙ c.as_str.ensures)
