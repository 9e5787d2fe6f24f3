-- Proof by hand of `path_entry`: what it returns, at the class of the entry.
use Rattle.std.proofs.Common.{IsTrue, ◌↔◌, subst}
use Rattle.sleep_model.specs.EntryClasses.{EntryClass}
use Rattle.rule_definitions.specs.Path.{PathEntry}
use Rattle.check_past.specs.Passing.{past_of}
use Rattle.check_rules.proofs.entries.path_entry.Goals as goal

pub returns : goal.returns
returns c = subst (λ (p : EntryClass). IsTrue c.keeps_path_in.result ↔ PathEntry c.args.past.now.machine (past_of c.args.past.now) c.args.e p) c.class_of.ensures c.keeps_path_in.ensures
