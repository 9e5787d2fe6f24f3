-- Proof that `+parts` meets its contract.
use Rattle.std.proofs.Common.{rules, true, ◌≡◌, ◌++◌, ◌+◌, [], inl, refl, sym, subst, arith}
use Rattle.std.proofs.lemmas.List.Elements.{All-append}
use Rattle.crossbeam_utils.specs.Padded.{padded_value}
use Rattle.sleep_pool.specs.Turns.{AllWent, DidNothing, Ended, FirstsWent, GoesRound, OfParts, PartsEnded, Went}
use Rattle.sleep_pool.proofs.Going.{beside, as_many, firsts_one, firsts_beside, parts_one, parts_beside}
use Rattle.sleep_pool.proofs.lend.+parts.Goals as goal

pub both-returns-clause-went : goal.both-returns-clause-went
both-returns-clause-went g t c =
    let R = Went g.J.Job.made g.J.Job.left true 1000 in
    let front : AllWent R c.args.front.now c.front-1.given.0 (padded_value c.join_mut.result.0) = search rules in
    let back : AllWent R c.args.back.now c.back-1.given.0 (padded_value c.join_mut.result.1) = search rules in
    let sum : padded_value c.join_mut.result.0 + padded_value c.join_mut.result.1 ≡ padded_value c.new.result = search rules in
    subst (AllWent R (c.args.front.now ++ c.args.back.now) (c.front-1.given.0 ++ c.back-1.given.0)) sum (beside R _ _ _ _ _ _ front back)

pub parts-returns-then-jobs-size-clause-firsts : goal.parts-returns-then-jobs-size-clause-firsts
parts-returns-then-jobs-size-clause-firsts g t c =
    firsts_one g.J.Job.left c.args.size c.args.jobs.now c.part_rounds.new.jobs c.if-jobs-size.true (c.part_rounds.ensures.first (search rules))

pub parts-returns-clause-firsts : goal.parts-returns-clause-firsts
parts-returns-clause-firsts g t c =
    let cut = c.split_at_mut-front in
    let b = c.both in
    subst (λ l. FirstsWent g.J.Job.left c.args.size l (b.new.front ++ b.new.back)) (sym cut.ensures.value)
    (firsts_beside g.J.Job.left c.args.size _ cut.result.0.now b.new.front cut.result.1.now b.new.back c.requires.size cut.ensures.front_len b.ensures.same b.ensures.front.0 b.ensures.back.0)

pub parts-returns-clause-goes : goal.parts-returns-clause-goes
parts-returns-clause-goes g t c =
    All-append (λ j. g.J.Job.goes j c.args.shared.now c.args.now) _ _ c.both.ensures.goes.0 c.both.ensures.goes.1

pub parts-returns-then-jobs-size-clause-ended : goal.parts-returns-then-jobs-size-clause-ended
parts-returns-then-jobs-size-clause-ended g t c =
    let r = c.part_rounds in
    parts_one (Ended g.J.Job.made g.J.Job.left 1000) c.args.size c.args.jobs.now r.new.jobs c.if-jobs-size.true
    (as_many (Went g.J.Job.made g.J.Job.left true 1000) c.args.jobs.now r.new.jobs r.result r.ensures.went) (inl (0, refl)) r.ensures.ended

pub parts-returns-clause-ended : goal.parts-returns-clause-ended
parts-returns-clause-ended g t c =
    let cut = c.split_at_mut-front in
    let b = c.both in
    subst (λ l. PartsEnded g.J.Job.made g.J.Job.left 1000 c.args.size l (b.new.front ++ b.new.back)) (sym cut.ensures.value)
    (parts_beside (Ended g.J.Job.made g.J.Job.left 1000) c.args.size _ cut.result.0.now b.new.front cut.result.1.now b.new.back cut.ensures.front_len b.ensures.same b.ensures.front.1 b.ensures.back.1)

pub parts-returns-then-jobs-size-clause-rounds : goal.parts-returns-then-jobs-size-clause-rounds
parts-returns-then-jobs-size-clause-rounds g t c =
    let r = c.part_rounds in
    parts_one (GoesRound g.J.Job.made g.J.Job.left 1000) c.args.size c.args.jobs.now r.new.jobs c.if-jobs-size.true
    (as_many (Went g.J.Job.made g.J.Job.left true 1000) c.args.jobs.now r.new.jobs r.result r.ensures.went)
    (DidNothing 1000 [] [] (omega arith) refl) r.ensures.rounds

pub parts-returns-clause-rounds : goal.parts-returns-clause-rounds
parts-returns-clause-rounds g t c =
    let cut = c.split_at_mut-front in
    let b = c.both in
    subst (λ l. OfParts (GoesRound g.J.Job.made g.J.Job.left 1000) c.args.size l (b.new.front ++ b.new.back)) (sym cut.ensures.value)
    (parts_beside (GoesRound g.J.Job.made g.J.Job.left 1000) c.args.size _ cut.result.0.now b.new.front cut.result.1.now b.new.back cut.ensures.front_len b.ensures.same b.ensures.front.2 b.ensures.back.2)
