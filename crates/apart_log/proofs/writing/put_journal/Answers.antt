-- Each line is put before those that are left.
use Rattle.std.proofs.Common.{◌∙◌, arith}
use Rattle.std.proofs.lemmas.Result.{err_from_is_err_and}
use Rattle.apart_log.proofs.Merging.{still_in_order}
use Rattle.apart_log.proofs.Streaming.{held_back_fails, journal_put}
use Rattle.apart_log.proofs.writing.put_journal.Goals as goal

pub returns-in_err-put-clause-fails : goal.returns-in_err-put-clause-fails
returns-in_err-put-clause-fails g c =
    let p = err_from_is_err_and c.from_residual.result c.from_residual.ensures.1 in
    rw p.1 (held_back_fails _ _ _ _ _ _ _ _ _ _ c.loop-one.invariant.passes c.in_err-put.ensures.fails)

pub loop-one-preserved : goal.loop-one-preserved
loop-one-preserved g c = record {
  machine = c.put.ensures.machine ∙ c.loop-one.invariant.machine;
  order = still_in_order _ _ _ c.in-Some.ensures.1 c.loop-one.invariant.order;
  passes = journal_put _ _ _ _ _ _ _ _ _ _ _ _ _ _ _ c.loop-one.invariant.machine c.loop-one.invariant.passes c.in_ok-put.ensures.passes c.in-Some.ensures.1 c.in-Some.ensures.0 c.loop-one.invariant.order c.requires.others;
  later = omega (arith, c.loop-one.invariant.later, c.put.ensures.faults);
}
