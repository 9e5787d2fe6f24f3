-- Proof by hand of `in_order`: what it returns, by the lemmas of `Sorts`.
use Rattle.std.proofs.Common.{rules}
use Rattle.log_merge.proofs.Sorts.{sorted_as_seen}
use Rattle.log_merge.proofs.sources.in_order.Goals as goal

pub returns : goal.returns
returns c = sorted_as_seen _ _ c.in_ok-sort_by.ensures.sorted c.in_ok-sort_by.ensures.stable (λ a r q k. search rules)
