-- Proof by hand of `keeps_numbers`: what it returns, at the class of the entry.
use Rattle.std.proofs.Common.{IsTrue, ◌↔◌, subst}
use Rattle.sleep_model.specs.EntryClasses.{EntryClass}
use Rattle.rule_definitions.specs.Numbers.{KeepsNumbers}
use Rattle.check_past.specs.Passing.{past_of}
use Rattle.check_rules.proofs.numbers.keeps_numbers.Goals as goal

pub returns : goal.returns
returns c = subst (λ (p : EntryClass). IsTrue c.keeps_numbers_in.result ↔ KeepsNumbers (past_of c.args.past.now) c.args.e p) c.class_of.ensures c.keeps_numbers_in.ensures
