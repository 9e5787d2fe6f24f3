-- The journal's entries before each of the sources' are put, and then that one.
use Rattle.std.proofs.Common.{◌≡◌, ◌≤◌, ◌++◌, ◌∙◌, true, arith, reverse, sym}
use Rattle.std.proofs.lemmas.Result.{err_from_is_err_and}
use Rattle.sleep_base.proofs.Written.{one_failed}
use Rattle.log_merge.specs.Remainders.{is_in_order}
use Rattle.log_text.specs.Passing.{Passes}
use Rattle.apart_log.specs.Merged.{is_others_turn, lines_of, others_of}
use Rattle.apart_log.proofs.Merging.{still_in_order}
use Rattle.apart_log.proofs.Streaming.{all_put, held_back_fails, journal_fails, other_put, some_put}
use Rattle.apart_log.proofs.writing.write_merged.Goals as goal
use Rattle.apart_log.proofs.writing.write_merged.Goals.{then-not-are_next+in_ok-put_journal, else-not-are_next}

pub returns-in_err-put_journal-clause-bytes : goal.returns-in_err-put_journal-clause-bytes
returns-in_err-put_journal-clause-bytes g c =
    let p = err_from_is_err_and c.from_residual.result c.from_residual.ensures.1 in
    let l = c.loop-other in
    rw p.1 (one_failed _ _ _ _ _ _ _ (journal_fails _ _ _ _ _ _ _ l.stream.buffered c.args.frame.now.machine l.stream.machine l.reader (others_of l.others) _ l.invariant.machine l.invariant.passes c.in_err-put_journal.ensures.fails))

pub returns-in_err-put-clause-bytes : goal.returns-in_err-put-clause-bytes
returns-in_err-put-clause-bytes g c =
    let K = g.K.ByteSink in
    let p = err_from_is_err_and c.from_residual-in_err-put.result c.from_residual-in_err-put.ensures.1 in
    let m = c.args.frame.now.machine in
    let l = c.loop-other in
    let j = c.if-not-are_next in
    let all = lines_of m (reverse c.args.journal.now.past) (others_of c.args.others) in
    let before : Passes (K.written c.args.sink.now) (K.written j.sink) (K.faults c.args.sink.now) (K.faults j.sink) all (j.stream.buffered ++ lines_of m j.reader (others_of l.others)) =
    elim j.branch [
      | then-not-are_next+in_ok-put_journal w ↦
          rw w.sink-is (rw w.stream-is (rw w.reader-is
          (some_put (K.written c.args.sink.now) (K.written l.sink) (K.written w.put_journal.new.sink) (K.faults c.args.sink.now) (K.faults l.sink) (K.faults w.put_journal.new.sink) all l.stream.buffered w.put_journal.new.stream.buffered m l.stream.machine l.reader w.put_journal.new.journal (others_of l.others) l.invariant.machine l.invariant.passes w.in_ok-put_journal.ensures.passes)))
      | else-not-are_next w ↦ rw w.sink-is (rw w.stream-is (rw w.reader-is l.invariant.passes))
    ] in
    rw p.1 (one_failed _ _ _ _ _ _ _ (held_back_fails _ _ _ _ _ _ _ j.stream.buffered (lines_of m j.reader (others_of l.others)) _ before c.in_err-put.ensures.fails))

pub loop-other-preserved : goal.loop-other-preserved
loop-other-preserved g c =
    let K = g.K.ByteSink in
    let m = c.args.frame.now.machine in
    let l = c.loop-other in
    let j = c.if-not-are_next in
    let all = lines_of m (reverse c.args.journal.now.past) (others_of c.args.others) in
    let before : Passes (K.written c.args.sink.now) (K.written j.sink) (K.faults c.args.sink.now) (K.faults j.sink) all (j.stream.buffered ++ lines_of m j.reader (others_of l.others))
    × (j.stream.machine ≡ m) × (is_in_order j.reader ≡ true) × (is_others_turn j.reader (others_of l.others) ≡ true) × (K.faults c.args.sink.now ≤ K.faults j.sink) =
    elim j.branch [
      | then-not-are_next+in_ok-put_journal w ↦
          rw w.sink-is (rw w.stream-is (rw w.reader-is (
            some_put (K.written c.args.sink.now) (K.written l.sink) (K.written w.put_journal.new.sink) (K.faults c.args.sink.now) (K.faults l.sink) (K.faults w.put_journal.new.sink) all l.stream.buffered w.put_journal.new.stream.buffered m l.stream.machine l.reader w.put_journal.new.journal (others_of l.others) l.invariant.machine l.invariant.passes w.in_ok-put_journal.ensures.passes,
            w.put_journal.ensures.machine ∙ l.invariant.machine,
            w.in_ok-put_journal.ensures.order,
            w.in_ok-put_journal.ensures.turn,
            omega (arith, l.invariant.later, w.put_journal.ensures.faults),
          )))
      | else-not-are_next w ↦
          rw w.sink-is (rw w.stream-is (rw w.reader-is
          (l.invariant.passes, l.invariant.machine, l.invariant.order, sym c.are_next.ensures ∙ w.if-not-are_next.false, l.invariant.later)))
    ] in
    record {
      machine = c.put.ensures.machine ∙ before.1;
      order = before.2;
      others = still_in_order _ _ _ c.in-Some.ensures l.invariant.others;
      passes = other_put _ _ _ _ _ _ all j.stream.buffered _ m j.stream.machine j.reader (others_of l.others) _ _ before.1 before.0 c.in_ok-put.ensures.passes c.in-Some.ensures before.3 before.2 l.invariant.others;
      later = omega (arith, before.4, c.put.ensures.faults);
    }

pub returns-in_err-put_journal-2-clause-bytes : goal.returns-in_err-put_journal-2-clause-bytes
returns-in_err-put_journal-2-clause-bytes g c =
    let p = err_from_is_err_and c.from_residual-in_err-put_journal-2.result c.from_residual-in_err-put_journal-2.ensures.1 in
    let l = c.loop-other in
    rw p.1 (one_failed _ _ _ _ _ _ _ (journal_fails _ _ _ _ _ _ _ l.stream.buffered c.args.frame.now.machine l.stream.machine l.reader (others_of l.others) _ l.invariant.machine l.invariant.passes c.in_err-put_journal-2.ensures.fails))

pub returns-clause-bytes : goal.returns-clause-bytes
returns-clause-bytes g c =
    let K = g.K.ByteSink in
    let m = c.args.frame.now.machine in
    let l = c.loop-other in
    let new = c.put_journal-2.new in
    let all = lines_of m (reverse c.args.journal.now.past) (others_of c.args.others) in
    let passes = some_put (K.written c.args.sink.now) (K.written l.sink) (K.written new.sink) (K.faults c.args.sink.now) (K.faults l.sink) (K.faults new.sink) all l.stream.buffered new.stream.buffered m l.stream.machine l.reader new.journal (others_of l.others) l.invariant.machine l.invariant.passes c.in_ok-put_journal-2.ensures.passes in
    all_put _ _ _ _ _ _ all new.stream.buffered c.args.frame.now.closing m new.journal (others_of l.others) _ passes c.in_default.ensures c.in_ok-put_journal-2.ensures.turn c.finish.ensures.bytes
