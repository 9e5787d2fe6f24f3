-- Proof that `read_machine` meets its contract.
use Rattle.std.proofs.Common.{◌≡◌, subst, Option, Some, IfSome}
use Rattle.borrowed_json.specs.View.{Value, view}
use Rattle.file_rules.specs.Tree.{tree}
use Rattle.machine_file.proofs.Machined.{spelled, is_accepted, is_refused}
use Rattle.machine_file.proofs.reading.read_machine.Goals as goal

pub returns-in-Some-clause-spells : goal.returns-in-Some-clause-spells
returns-in-Some-clause-spells c = spelled c.args.bytes.now (view c.in-Some.tree) (subst (λ (o : Option Value). IfSome o (λ v. tree c.args.bytes.now ≡ Some (view v))) c.in-Some.is c.in_ok-tree.ensures.read) c.read_tree.result c.read_tree.ensures.ok

pub returns-in-Some-clause-accepted : goal.returns-in-Some-clause-accepted
returns-in-Some-clause-accepted c = is_accepted c.args.bytes.now (view c.in-Some.tree) (subst (λ (o : Option Value). IfSome o (λ v. tree c.args.bytes.now ≡ Some (view v))) c.in-Some.is c.in_ok-tree.ensures.read) c.read_tree.result c.read_tree.ensures.ok

pub returns-in-Some-clause-refused : goal.returns-in-Some-clause-refused
returns-in-Some-clause-refused c = is_refused c.args.bytes.now (view c.in-Some.tree) (subst (λ (o : Option Value). IfSome o (λ v. tree c.args.bytes.now ≡ Some (view v))) c.in-Some.is c.in_ok-tree.ensures.read) c.read_tree.result c.read_tree.ensures.err
