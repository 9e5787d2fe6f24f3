-- Proof by hand of `keeps_jump`: what it returns, by the lemmas of `Jumping`.
use Rattle.std.proofs.Common.{◌<◌, Bool, IsTrue, ◌↔◌, subst, sym}
use Rattle.sleep_model.specs.Legal.{JumpStep}
use Rattle.sleep_model.specs.Numbers.{numbers, time_of}
use Rattle.sleep_model.specs.Sources.{history}
use Rattle.check_past.specs.Passing.{journal_of, past_of}
use Rattle.check_rules.proofs.Jumping.{jump_is}
use Rattle.check_rules.proofs.jump.keeps_jump.Goals as goal

pub returns : goal.returns
returns c =
    let m = c.args.past.now.machine in
    let past = past_of c.args.past.now in
    let own = journal_of c.args.past.now in
    subst (λ (b : Bool). IsTrue b ↔ (JumpStep m own (λ s. history s past) (numbers past) c.args.time × (time_of past < c.args.time))) (sym c.may_jump.ensures)
    (jump_is m own past c.word-now.result c.args.time c.time.result c.in_ok-idle.idle c.is_finished_if-finished.result c.is_time-least.result c.in_ok-next.next
    c.word-now.ensures c.in_ok-idle.ensures c.is_finished_if-finished.ensures c.in_ok-next.ensures c.is_time-least.ensures c.time.ensures)
