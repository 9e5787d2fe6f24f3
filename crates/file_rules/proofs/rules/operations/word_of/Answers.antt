-- Proof that `word_of` meets its contract.
use Rattle.std.proofs.Common.{◌∙◌, option_and_then, option_map, sym, ap}
use Rattle.std.specs.Option.{option_copied}
use Rattle.borrowed_json.specs.View.{view}
use Rattle.file_rules.specs.OperationRows.{operation_of_word, row_named}
use Rattle.file_rules.proofs.Worded.{by_text, named_word}
use Rattle.file_rules.proofs.rules.operations.word_of.Goals as goal

pub returns-in-Some : goal.returns-in-Some
returns-in-Some c = ap (option_map operation_of_word) c.of_text.ensures ∙ named_word c.in-Some.text.now ∙ ap (option_and_then row_named) (sym (ap option_copied c.in-Some.is) ∙ c.word_at.ensures) ∙ by_text (view c.args.operation.now)

pub returns-in-None : goal.returns-in-None
returns-in-None c = ap (option_and_then row_named) (sym (ap option_copied c.in-None.is) ∙ c.word_at.ensures) ∙ by_text (view c.args.operation.now)
