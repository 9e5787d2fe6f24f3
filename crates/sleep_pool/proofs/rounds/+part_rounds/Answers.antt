-- Proof that `+part_rounds` meets its contract.
use Rattle.std.proofs.Common.{true, ◌<◌, ℕ, sym, subst, ◌-◌, arith}
use Rattle.sleep_pool.specs.Turns.{AllWent, CutOff, DidNothing, Ended, GoesOn, NoneLeft, Went, WentOn}
use Rattle.sleep_pool.proofs.Going.{all_still, all_wider, all_later, ended_none, ended_stop, ended_idle, ended_later}
use Rattle.sleep_pool.proofs.rounds.+part_rounds.Goals as goal
use Rattle.sleep_pool.proofs.rounds.+part_rounds.Goals.{then-round-via-then-round, then-round-via-else-round+then-round-eq0}

pub returns-then-most-eq0-clause-went : goal.returns-then-most-eq0-clause-went
returns-then-most-eq0-clause-went g t c =
    let laws = g.met.J.Job in
    all_still g.J.Job.made g.J.Job.left laws.made_none laws.made_more true c.args.most c.args.jobs.now

pub returns-then-round-clause-went : goal.returns-then-round-clause-went
returns-then-round-clause-went g t c =
    let laws = g.met.J.Job in
    all_wider g.J.Job.made g.J.Job.left laws.made_none laws.made_more c.one_round-round.result.stopped 1 c.args.most (omega arith) _ _ _ c.one_round-round.ensures.went

pub returns-clause-went : goal.returns-clause-went
returns-clause-went g t c =
    let laws = g.met.J.Job in
    let r = c.one_round-round in
    let before = subst (λ b. AllWent (Went g.J.Job.made g.J.Job.left b 1) c.args.jobs.now r.new.jobs r.result.did) c.if-round.false r.ensures.went in
    all_later g.J.Job.made g.J.Job.left laws.made_none laws.made_more (c.args.most - 1) c.args.most (omega arith) _ _ _ _ _ before c.part_rounds.ensures.went

pub returns-then-most-eq0-clause-ended : goal.returns-then-most-eq0-clause-ended
returns-then-most-eq0-clause-ended g t c =
    let laws = g.met.J.Job in
    subst (λ i. Ended g.J.Job.made g.J.Job.left i c.args.jobs.now c.args.jobs.now) (sym c.if-most-eq0.true)
    (ended_none g.J.Job.made g.J.Job.left laws.made_none laws.made_more c.args.jobs.now)

pub returns-then-round-clause-ended : goal.returns-then-round-clause-ended
returns-then-round-clause-ended g t c =
    let laws = g.met.J.Job in
    let r = c.one_round-round in
    elim c.then-round.branch [
      | then-round-via-then-round w ↦
          ended_stop g.J.Job.made g.J.Job.left laws.made_none laws.made_more c.args.most (omega arith) c.args.jobs.now r.new.jobs (r.ensures.stop w.if-round.true)
      | then-round-via-else-round+then-round-eq0 w ↦
          ended_idle g.J.Job.made g.J.Job.left laws.made_none laws.made_more c.args.most (omega arith) c.args.jobs.now r.new.jobs r.result.did w.if-round-eq0.true
          (r.ensures.on w.if-round.false)
    ]

pub returns-clause-ended : goal.returns-clause-ended
returns-clause-ended g t c =
    let laws = g.met.J.Job in
    let r = c.one_round-round in
    ended_later g.J.Job.made g.J.Job.left laws.made_none laws.made_more (c.args.most - 1) c.args.most (omega arith)
    c.args.jobs.now r.new.jobs c.part_rounds.new.jobs r.result.did (r.ensures.on c.if-round.false) c.part_rounds.ensures.ended

pub returns-then-most-eq0-clause-rounds : goal.returns-then-most-eq0-clause-rounds
returns-then-most-eq0-clause-rounds g t c = NoneLeft c.args.most c.args.jobs.now c.if-most-eq0.true

pub returns-then-round-clause-rounds : goal.returns-then-round-clause-rounds
returns-then-round-clause-rounds g t c =
    let r = c.one_round-round in
    elim c.then-round.branch [
      | then-round-via-then-round w ↦ CutOff c.args.most c.args.jobs.now r.new.jobs (omega arith) (r.ensures.stop w.if-round.true)
      | then-round-via-else-round+then-round-eq0 w ↦
          DidNothing c.args.most c.args.jobs.now r.new.jobs (omega arith)
          (subst (λ (n : ℕ). AllWent (WentOn g.J.Job.made g.J.Job.left 1) c.args.jobs.now r.new.jobs n) w.if-round-eq0.true (r.ensures.on w.if-round.false))
    ]

pub returns-clause-rounds : goal.returns-clause-rounds
returns-clause-rounds g t c =
    let r = c.one_round-round in
    let some : 0 < r.result.did = omega arith in
    GoesOn c.args.most (c.args.most - 1) r.result.did c.args.jobs.now r.new.jobs c.part_rounds.new.jobs (omega arith) some (r.ensures.on c.if-round.false) c.part_rounds.ensures.rounds
