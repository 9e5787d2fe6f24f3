-- Proof by hand of `before`: what it returns, by the lemmas of `Parting`.
use Rattle.std.proofs.Common.{nat_lt, rules}
use Rattle.std.proofs.lemmas.List.Sorted.{IsPartitionPoint-from_clause, IsPartitionedBy-ltb}
use Rattle.sleep_model.specs.declared.entry.SourceEntry.{SourceEntry}
use Rattle.apart_log.proofs.Parting.{front_preserved}
use Rattle.apart_log.proofs.slice.before.Goals as goal

pub returns : goal.returns
returns c =
    let test = λ (one : SourceEntry). nat_lt one.stamp.pos c.args.pos in
    let history = c.args.history.now in
    let parted = IsPartitionedBy-ltb (λ (one : SourceEntry). one.stamp.pos) history c.args.pos c.requires in
    let point = IsPartitionPoint-from_clause test history _ c.partition_point-end.ensures.partitioned parted (λ a r q k. search rules) in
    front_preserved test history c.partition_point-end.result point
