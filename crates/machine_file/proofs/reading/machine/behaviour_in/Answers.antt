-- Proof that `behaviour_in` meets its contract, and what the functions that it calls require.
use Rattle.std.proofs.Common.{◌≡◌, ◌∙◌, Option, map, false, sym, ap, subst}
use Rattle.std.proofs.lemmas.Bool.{false≢true}
use Rattle.std.specs.List.{All, list_all}
use Rattle.std.specs.Option.{option_map, option_or}
use Rattle.borrowed_json.specs.View.{view}
use Rattle.file_rules.specs.Broken.{broken_view}
use Rattle.file_rules.specs.Fitting.{FitsScript}
use Rattle.file_rules.specs.Groups.{answer_rules}
use Rattle.file_rules.specs.Knows.{known_seen}
use Rattle.file_rules.specs.OperationRows.{is_valid_script}
use Rattle.machine_file.specs.Stopping.{StopsUnless}
use Rattle.file_rules.specs.ValidFiles.{broken_behaviour}
use Rattle.file_rules.specs.Whole.{Broken, first_of}
use Rattle.file_rules.proofs.FittedFile.{fits_actors}
use Rattle.file_rules.proofs.Grouping.{few_known}
use Rattle.machine_file.proofs.Keeping.{operations_pass, operations_valid, read_scripts, read_valid}
use Rattle.machine_file.proofs.reading.machine.behaviour_in.Goals as goal

pub scripts_in-requires-clause-few : goal.scripts_in-requires-clause-few
scripts_in-requires-clause-few c = few_known c.args.known.now (view c.args.tree.now) c.requires.knows c.requires.form

pub scripts_in-requires-clause-fit : goal.scripts_in-requires-clause-fit
scripts_in-requires-clause-fit c = subst (All FitsScript) (sym c.items.ensures) (fits_actors (view c.args.tree.now) c.requires.form)

pub with_answers-requires-clause-scripts : goal.with_answers-requires-clause-scripts
with_answers-requires-clause-scripts c = λ few.
    c.in-Ok.ensures.spells few ∙ read_scripts c.args.known.now (view c.args.tree.now) (map view c.items.result.now) c.requires.knows c.items.ensures

pub with_answers-requires-clause-operations : goal.with_answers-requires-clause-operations
unfolding broken_behaviour
with_answers-requires-clause-operations c =
    let file = view c.args.tree.now in
    ap (λ (o : Option Broken). option_or o (first_of answer_rules file))
    (operations_valid file (sym (read_valid c.args.known.now file c.is_second.result (map view c.items.result.now) c.requires.knows c.is_second.ensures c.items.ensures) ∙ c.in-Ok.ensures.valid))

pub returns-in-Some-clause-broken : goal.returns-in-Some-clause-broken
unfolding broken_behaviour
returns-in-Some-clause-broken c =
    let file = view c.args.tree.now in
    ap (λ (o : Option Broken). option_or o (first_of answer_rules file)) (sym c.operation_broken.ensures ∙ ap (option_map broken_view) c.in-Some.is)

pub unreachable-requires : goal.unreachable-requires
unreachable-requires c =
    let k = c.args.known.now in
    let file = view c.args.tree.now in
    let actors = map view c.items.result.now in
    let stopped : list_all (is_valid_script c.is_second.result (known_seen k)) actors ≡ false =
    subst (StopsUnless (list_all (is_valid_script c.is_second.result (known_seen k)) actors)) c.in-Err-Broken.field-0-is c.in-Err-Broken.ensures.err in
    false≢true
    (sym stopped ∙ read_valid k file c.is_second.result actors c.requires.knows c.is_second.ensures c.items.ensures
    ∙ operations_pass file (sym c.operation_broken.ensures ∙ ap (option_map broken_view) c.in-None.is))
