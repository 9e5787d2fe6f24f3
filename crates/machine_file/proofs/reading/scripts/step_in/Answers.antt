use Rattle.std.proofs.Common.{◌≡◌, ◌∙◌, Bool, Some, true, IfErr, IfOk, option_map, sym, ap, subst}
use Rattle.borrowed_json.specs.View.{view}
use Rattle.sleep_model.specs.declared.machine.Step.{Step}
use Rattle.file_rules.specs.Knows.{known_seen}
use Rattle.file_rules.specs.Operations.{row_of}
use Rattle.file_rules.specs.OperationRows.{operation_of_word}
use Rattle.machine_file.specs.Stopping.{StopsUnless}
use Rattle.machine_file.proofs.Keeping.{by_word_test}
use Rattle.machine_file.proofs.reading.scripts.step_in.Goals as goal

pub step_of_word-requires-clause-word : goal.step_of_word-requires-clause-word
step_of_word-requires-clause-word c = sym (ap (option_map operation_of_word) c.in-Some.is) ∙ c.word_of.ensures

pub returns-in-Some-clause-valid : goal.returns-in-Some-clause-valid
returns-in-Some-clause-valid c =
    let word : Some (operation_of_word c.in-Some.word) ≡ row_of (view c.args.operation.now) = sym (ap (option_map operation_of_word) c.in-Some.is) ∙ c.word_of.ensures in
    subst (λ (b : Bool). IfOk c.step_of_word.result (λ (s : Step). b ≡ true))
    (by_word_test c.args.second c.args.kind.now c.in-Some.word (known_seen c.args.known.now) (view c.args.operation.now) word) c.step_of_word.ensures.valid

pub returns-in-Some-clause-err : goal.returns-in-Some-clause-err
returns-in-Some-clause-err c =
    let word : Some (operation_of_word c.in-Some.word) ≡ row_of (view c.args.operation.now) = sym (ap (option_map operation_of_word) c.in-Some.is) ∙ c.word_of.ensures in
    subst (λ (b : Bool). IfErr c.step_of_word.result (StopsUnless b))
    (by_word_test c.args.second c.args.kind.now c.in-Some.word (known_seen c.args.known.now) (view c.args.operation.now) word) c.step_of_word.ensures.err
