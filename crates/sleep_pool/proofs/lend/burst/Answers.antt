-- Proof that `burst` meets its contract.
use Rattle.std.proofs.Common.{rules, ◌≡◌, [], refl, sym, subst, length, arith}
use Rattle.sleep_pool.specs.Turns.{DidNothing, GoesRound, OfParts, PartsEnded, part_size}
use Rattle.sleep_pool.proofs.Going.{nobody, parts_one}
use Rattle.sleep_pool.proofs.lend.burst.Goals as goal

pub returns-clause-ended : goal.returns-clause-ended
returns-clause-ended g c =
    let is : c.div_ceil-size.result ≡ part_size (length c.args.jobs.now) c.args.workers = search rules in
    subst (λ size. PartsEnded g.J.Job.made g.J.Job.left 1000 size c.args.jobs.now c.parts.new.jobs) is c.parts.ensures.ended

pub returns-clause-rounds : goal.returns-clause-rounds
returns-clause-rounds g c =
    let is : c.div_ceil-size.result ≡ part_size (length c.args.jobs.now) c.args.workers = search rules in
    subst (λ size. OfParts (GoesRound g.J.Job.made g.J.Job.left 1000) size c.args.jobs.now c.parts.new.jobs) is c.parts.ensures.rounds

pub returns-then-is_empty-clause-rounds : goal.returns-then-is_empty-clause-rounds
returns-then-is_empty-clause-rounds g c =
    let count : length c.args.jobs.now ≡ 0 = search rules in
    let none : [] ≡ c.args.jobs.now = sym (nobody c.args.jobs.now count) in
    subst (λ l. OfParts (GoesRound g.J.Job.made g.J.Job.left 1000) (part_size (length c.args.jobs.now) c.args.workers) l l) none
    (parts_one (GoesRound g.J.Job.made g.J.Job.left 1000) (part_size (length c.args.jobs.now) c.args.workers) [] [] (omega arith) refl
    (DidNothing 1000 [] [] (omega arith) refl) (DidNothing 1000 [] [] (omega arith) refl))
