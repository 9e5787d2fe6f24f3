-- Proof that `answers_of_file` meets its contract, and what `answers_in` requires.
use Rattle.std.proofs.Common.{◌≡◌, ◌∙◌, map, false, sym, ap, subst}
use Rattle.std.proofs.lemmas.Bool.{false≢true}
use Rattle.std.specs.List.{All, list_all}
use Rattle.std.specs.Option.{option_map}
use Rattle.borrowed_json.specs.View.{view}
use Rattle.file_rules.specs.Answering.{whole_answer}
use Rattle.file_rules.specs.AnswerTests.{is_valid_answer}
use Rattle.file_rules.specs.Broken.{broken_view}
use Rattle.file_rules.specs.Fitting.{FitsAnswer}
use Rattle.machine_file.specs.Stopping.{StopsUnless}
use Rattle.file_rules.proofs.FittedFile.{fits_answers}
use Rattle.file_rules.proofs.Grouping.{few_known}
use Rattle.machine_file.proofs.KeptAnswers.{answers_kept, replies_pass, replies_valid}
use Rattle.machine_file.proofs.Replying.{answers_made}
use Rattle.machine_file.proofs.reading.machine.answers_of_file.Goals as goal

pub answers_in-requires-clause-few : goal.answers_in-requires-clause-few
answers_in-requires-clause-few c = few_known c.args.known.now (view c.args.tree.now) c.requires.knows c.requires.form

pub answers_in-requires-clause-fit : goal.answers_in-requires-clause-fit
answers_in-requires-clause-fit c = subst (All FitsAnswer) (sym c.items.ensures) (fits_answers (view c.args.tree.now) c.requires.form)

pub returns-in-Ok-clause-spelled : goal.returns-in-Ok-clause-spelled
returns-in-Ok-clause-spelled c =
    c.in-Ok.ensures.spells ∙ answers_made c.args.known.now (view c.args.tree.now) (map view c.items.result.now) c.requires.knows
    ∙ ap (map (whole_answer (view c.args.tree.now))) c.items.ensures

pub returns-in-Ok-clause-unbroken : goal.returns-in-Ok-clause-unbroken
returns-in-Ok-clause-unbroken c =
    let file = view c.args.tree.now in
    replies_valid file (sym (answers_kept c.args.known.now file (map view c.items.result.now) c.requires.knows c.items.ensures) ∙ c.in-Ok.ensures.valid)

pub unreachable-requires : goal.unreachable-requires
unreachable-requires c =
    let k = c.args.known.now in
    let file = view c.args.tree.now in
    let answers = map view c.items.result.now in
    let stopped : list_all (is_valid_answer k) answers ≡ false = subst (StopsUnless (list_all (is_valid_answer k) answers)) c.in-Err-Broken.field-0-is c.in-Err-Broken.ensures.err in
    false≢true
    (sym stopped ∙ answers_kept k file answers c.requires.knows c.items.ensures
    ∙ replies_pass file (sym c.reply_broken.ensures ∙ ap (option_map broken_view) c.in-None.is))
