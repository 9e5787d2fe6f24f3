-- Proof by hand of `ends_finished`: what it returns, by the lemmas of `Sources`.
use Rattle.check_past.specs.Passing.{past_of}
use Rattle.std.proofs.lemmas.Result.{IfOk-weaker}
use Rattle.log_check.proofs.Sources.{over}
use Rattle.log_check.proofs.ending.ends_finished.Goals as goal

pub returns-in-Finished : goal.returns-in-Finished
returns-in-Finished c =
    IfOk-weaker c.is_finished.result _ _ (λ b is. over c.args.past.now.machine c.args.log.now (past_of c.args.past.now) b c.requires c.in-Finished.is is) c.is_finished.ensures
