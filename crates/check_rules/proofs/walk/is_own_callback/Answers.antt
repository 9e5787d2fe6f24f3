-- Proof by hand of `is_own_callback`: what it returns, by the lemmas of `Owning`.
use Rattle.std.proofs.Common.{◌↔◌, IsTrue, Option, subst}
use Rattle.sleep_model.specs.declared.progress.Callback.{Callback}
use Rattle.rule_definitions.specs.Walk.{IsInside}
use Rattle.check_past.specs.Passing.{journal_of}
use Rattle.check_rules.proofs.Owning.{own_callback}
use Rattle.check_rules.proofs.walk.is_own_callback.Goals as goal

pub returns-in_default : goal.returns-in_default
returns-in_default c =
    own_callback (journal_of c.args.past.now) c.args.who c.args.device c.is_inside.result c.in_default.not-Dev
    (subst (λ (o : Option Callback). IsTrue c.is_inside.result ↔ IsInside c.args.device o) c.callback.ensures c.is_inside.ensures)
