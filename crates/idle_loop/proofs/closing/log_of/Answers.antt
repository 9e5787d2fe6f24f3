-- Proof by hand of `log_of`: the call of `close`, the call of `makers_of` and the call of `merged_log`.
use Rattle.std.proofs.Common.{◌≡◌, ◌∙◌, reverse}
use Rattle.idle_loop.proofs.Ending.{all_seats, left_made, left_makers, left_seen, made_back}
use Rattle.idle_loop.proofs.Histories.{makers_in}
use Rattle.idle_loop.proofs.closing.log_of.Goals as goal

pub close-requires-clause-seats : goal.close-requires-clause-seats
close-requires-clause-seats c = all_seats _ _ c.args.left c.requires

pub makers_of-requires : goal.makers_of-requires
makers_of-requires c =
    let closed = c.in_ok-now.ensures.closed in
    (makers_in closed.history, left_makers c.args.sizes _ c.args.left c.requires _ c.in_ok-now.now closed)

pub merged_log-requires-clause-made : goal.merged_log-requires-clause-made
merged_log-requires-clause-made c =
    let closed = c.in_ok-now.ensures.closed in
    let ms = makers_in closed.history in
    let same : c.in_ok-makers.makers.items ≡ reverse ms = c.in_ok-makers.ensures.made ms (left_makers c.args.sizes _ c.args.left c.requires _ c.in_ok-now.now closed) in
    made_back c.args.sizes ms c.deref.result.now c.args.left.gate_log.journal (c.deref.ensures.value ∙ same) (left_made c.args.sizes _ c.args.left c.requires _ c.in_ok-now.now closed)

pub merged_log-requires-clause-few : goal.merged_log-requires-clause-few
merged_log-requires-clause-few c = rw (c.deref.ensures.value) c.in_ok-makers.ensures.few

pub merged_log-requires-clause-seen : goal.merged_log-requires-clause-seen
merged_log-requires-clause-seen c =
    let closed = c.in_ok-now.ensures.closed in
    let ms = makers_in closed.history in
    let same : c.in_ok-makers.makers.items ≡ reverse ms = c.in_ok-makers.ensures.made ms (left_makers c.args.sizes _ c.args.left c.requires _ c.in_ok-now.now closed) in
    left_seen c.args.sizes _ c.args.left c.requires c.in_ok-now.now closed c.deref.result.now (c.deref.ensures.value ∙ same)
