-- Proof that the loop of `split` keeps its invariant.
use Rattle.run_objects.proofs.Laying.{histories_more, preserved_more, tokens_more}
use Rattle.run_objects.proofs.closing.split.Goals as goal

pub loop-source-preserved : goal.loop-source-preserved
loop-source-preserved c =
    let is = c.loop-source.invariant in
    let parts = c.into_components-seat.ensures in (
      rw (c.in_ok-push.ensures.items) (tokens_more c.loop-source.seats.items c.into_components-seat.result.0 c.loop-source.yielded c.in-Some.source is.0 parts.seat),
      rw (c.in_ok-push-2.ensures.items) (histories_more c.loop-source.histories.items c.into_components-seat.result.1 c.loop-source.yielded c.in-Some.source is.1 parts.entries),
      preserved_more c.loop-source.yielded c.in-Some.source is.2 parts.kept,
    )
