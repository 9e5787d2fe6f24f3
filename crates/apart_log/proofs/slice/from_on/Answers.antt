-- Proof by hand of `from_on`: what it returns, by the lemmas of `Parting`.
use Rattle.std.proofs.Common.{◌≡◌, ◌∙◌, ◌-◌, ℕ, nat_lt, nat_le, List, drop, length, sym, subst, take, arith, rules}
use Rattle.std.proofs.lemmas.List.{length-drop, take_all}
use Rattle.std.proofs.lemmas.List.Sorted.{IsNonDecreasingBy-drop, IsPartitionPoint-from_clause, IsPartitionedBy-ltb}
use Rattle.std.specs.List.Sorted.{IsNonDecreasingBy}
use Rattle.sleep_model.specs.declared.entry.SourceEntry.{SourceEntry}
use Rattle.apart_log.proofs.Parting.{back_preserved, is_from, not_from}
use Rattle.apart_log.proofs.slice.from_on.Goals as goal

-- all that is left after the first n
rest : (n : ℕ) (h : List SourceEntry) → take (length h - n) (drop n h) ≡ drop n h
rest n h = take_all (length h - n) (drop n h) (simp length-drop (omega arith))

pub returns-clause-those : goal.returns-clause-those
returns-clause-those c =
    let test = λ (one : SourceEntry). nat_lt one.stamp.pos c.args.pos in
    let history = c.args.history.now in
    let n = c.partition_point-begin.result in
    let parted = IsPartitionedBy-ltb (λ (one : SourceEntry). one.stamp.pos) history c.args.pos c.requires in
    let point = IsPartitionPoint-from_clause test history _ c.partition_point-begin.ensures.partitioned parted (λ a r q k. search rules) in
    rest n history
    ∙ back_preserved (λ (one : SourceEntry). nat_le c.args.pos one.stamp.pos) history n
    (λ k d low lt. not_from _ c.args.pos (point.0 k d low lt), λ k d low lt. is_from _ c.args.pos (point.1 k d low lt))

pub returns-clause-rising : goal.returns-clause-rising
returns-clause-rising c =
    let history = c.args.history.now in
    let n = c.partition_point-begin.result in
    subst (λ (h : List SourceEntry). IsNonDecreasingBy (λ (one : SourceEntry). one.stamp.pos) h) (sym (rest n history))
    (IsNonDecreasingBy-drop (λ (one : SourceEntry). one.stamp.pos) n history c.requires)
