-- Proof by hand of `freezer_entry`: what it returns, at the class of the entry.
use Rattle.std.proofs.Common.{Bool, IfOk, IsTrue, ◌↔◌, subst}
use Rattle.sleep_model.specs.EntryClasses.{EntryClass}
use Rattle.rule_definitions.specs.Freezer.{FreezerEntry}
use Rattle.check_past.specs.Passing.{past_of}
use Rattle.check_rules.proofs.entries.freezer_entry.Goals as goal

pub returns : goal.returns
returns c = subst (λ (p : EntryClass). IfOk c.keeps_freezer_in.result (λ (b : Bool). IsTrue b ↔ FreezerEntry c.args.past.now.machine (past_of c.args.past.now) c.args.e p)) c.class_of.ensures c.keeps_freezer_in.ensures
