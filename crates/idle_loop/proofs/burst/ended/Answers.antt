-- Proof by hand of `ended`: the call of `split`, the call of `close_locks` and what it returns, by the lemmas of `Gathering`.
use Rattle.std.proofs.Common.{◌≡◌, ◌∙◌, length, refl, sym, ap, arith}
use Rattle.atomic_table.proofs.Lists.{at_index}
use Rattle.idle_loop.proofs.Gathering.{all_back, back_pool, have_passes}
use Rattle.idle_loop.proofs.burst.ended.Goals as goal

pub split-requires : goal.split-requires
split-requires c = let r = c.requires in have_passes r.0 _ r.1 r.2 0 c.args.workers.items r.3.at

pub close_locks-requires : goal.close_locks-requires
close_locks-requires c = let r = c.requires in record { passes = all_back r.0 r.1 r.2 c.args.locks.own c.args.workers.items c.in_ok-roles.roles.items c.in_ok-roles.passes.items r.3.firsts r.3.unused (r.3.count ∙ sym r.3.long) r.3.at c.in_ok-roles.ensures }

pub returns : goal.returns
returns c = λ z table first ended.
    let one : length c.in_ok-gate_logs.gate_logs.items ≡ 1 = c.in_ok-gate_logs.ensures.counted ∙ ap length ended.firsts in
    back_pool z table first c.remove.result c.args.locks c.args.workers.items c.in_ok-roles.roles.items c.in_ok-roles.passes.items c.in_ok-gate_logs.gate_logs.items _ ended c.in_ok-roles.ensures c.in_ok-gate_logs.ensures
    (at_index c.in_ok-gate_logs.gate_logs.items 0 c.remove.result (omega (arith, one)) c.remove.ensures.value) refl refl
