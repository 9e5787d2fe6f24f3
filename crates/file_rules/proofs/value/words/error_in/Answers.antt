-- Proof that `error_in` meets its contract.
use Rattle.std.proofs.Common.{◌∙◌, List, ℕ, Bor, sym, ap}
use Rattle.std.specs.Option.{option_map}
use Rattle.sleep_base.specs.Errno.{name_of, errors}
use Rattle.borrowed_json.specs.View.{view}
use Rattle.file_rules.proofs.Namings.{named_in, textless}
use Rattle.file_rules.proofs.value.words.error_in.Goals as goal

pub returns-in-Some : goal.returns-in-Some
returns-in-Some c =
    named_in name_of errors (view c.args.value.now) c.in-Some.text.now c.of_name.result c.of_name.ensures.error
    (sym (ap (option_map (λ (s : Bor (List ℕ)). s.now)) c.in-Some.is) ∙ c.as_str.ensures)

pub returns-in-None : goal.returns-in-None
returns-in-None c = textless name_of errors (view c.args.value.now) (sym (ap (option_map (λ (s : Bor (List ℕ)). s.now)) c.in-None.is) ∙ c.as_str.ensures)
