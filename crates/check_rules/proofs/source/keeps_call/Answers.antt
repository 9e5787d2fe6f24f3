-- Proof by hand of `keeps_call`: what it returns, at the class of the entry.
use Rattle.std.proofs.Common.{IsTrue, ◌↔◌, subst}
use Rattle.sleep_model.specs.EntryClasses.{EntryClass}
use Rattle.rule_definitions.specs.Source.{CallEntry}
use Rattle.check_past.specs.Passing.{past_of}
use Rattle.check_rules.proofs.source.keeps_call.Goals as goal

pub returns : goal.returns
returns c = subst (λ (p : EntryClass). IsTrue c.keeps_call_in.result ↔ CallEntry (past_of c.args.past.now) c.args.e p) c.class_of.ensures c.keeps_call_in.ensures
