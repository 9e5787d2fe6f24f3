-- Proof by hand of `is_own_call`: what it returns, by the lemmas of `Owning`.
use Rattle.sleep_model.specs.Sources.{history}
use Rattle.check_past.specs.Passing.{journal_of, past_of}
use Rattle.check_rules.proofs.Owning.{own_call}
use Rattle.check_rules.proofs.calls.is_own_call.Goals as goal

pub returns-in_default : goal.returns-in_default
returns-in_default c =
    own_call c.args.past.now.machine (journal_of c.args.past.now) (λ s. history s (past_of c.args.past.now)) c.args.who c.args.kind c.is_next_call.result
    c.in_default.not-Timer c.is_next_call.ensures
