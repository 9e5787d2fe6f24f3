-- Proof that `tree_of` meets its contract.
use Rattle.file_rules.proofs.Trees.{tree-read, tree-unread}
use Rattle.file_rules.proofs.value.tree.tree_of.Goals as goal

pub returns-clause-read : goal.returns-clause-read
returns-clause-read c = tree-read c.args.bytes.now c.read_value.result c.read_value.ensures.read

pub returns-clause-none : goal.returns-clause-none
returns-clause-none c = tree-unread c.args.bytes.now c.read_value.result c.read_value.ensures.none
