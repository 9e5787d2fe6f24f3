-- Proof that `WakeLocks::index_of` meets its contract, and that its loop keeps its invariant.
use Rattle.std.proofs.Common.{◌≡◌, ◌<◌, ◌+◌, ◌-◌, ◌/◌, ◌∙◌, List, length, get_or, sym, ap, subst, arith}
use Rattle.std.specs.declared.cmp.Ordering.TheVariants.{Less, Equal, Greater}
use Rattle.wake_locks.specs.Locks.{LockState, by_name, AreSortedByName}
use Rattle.wake_locks.proofs.Placed.{low_more, high_more, found_at}
use Rattle.wake_locks.proofs.locks.WakeLocks.index_of.Goals as goal

pub loop-low-preserved-in-Less : goal.loop-low-preserved-in-Less
loop-low-preserved-in-Less g c =
    let locks = c.args.self.now in
    let at = c.loop-low.low + (c.loop-low.high - c.loop-low.low) / 2 in
    let lock = c.index.result.now in
    let in_order = subst AreSortedByName c.self.view_is c.self.invariant.in_order in
    let l : at < length locks = omega (arith, c.loop-low-test.true, c.loop-low.invariant.within) in
    let is = subst (λ (xs : List LockState). lock ≡ get_or xs at lock) c.self.view_is c.index.ensures in
    let less : by_name (get_or locks at lock).name c.args.name.now ≡ Less = ap (λ (x : LockState). by_name x.name c.args.name.now) (sym is) ∙ sym c.in-Less.ensures in
    record { in_range = omega (arith, c.loop-low-test.true); within = c.loop-low.invariant.within; before = low_more c.args.name.now locks at lock in_order l less; after = c.loop-low.invariant.after }

pub returns-in-Equal-clause-found : goal.returns-in-Equal-clause-found
returns-in-Equal-clause-found g c =
    let locks = c.args.self.now in
    let at = c.loop-low.low + (c.loop-low.high - c.loop-low.low) / 2 in
    let lock = c.index.result.now in
    let in_order = subst AreSortedByName c.self.view_is c.self.invariant.in_order in
    let l : at < length locks = omega (arith, c.loop-low-test.true, c.loop-low.invariant.within) in
    let is = subst (λ (xs : List LockState). lock ≡ get_or xs at lock) c.self.view_is c.index.ensures in
    let equal : by_name (get_or locks at lock).name c.args.name.now ≡ Equal = ap (λ (x : LockState). by_name x.name c.args.name.now) (sym is) ∙ sym c.in-Equal.ensures in
    found_at c.args.name.now locks at lock in_order l equal

pub loop-low-preserved : goal.loop-low-preserved
loop-low-preserved g c =
    let locks = c.args.self.now in
    let at = c.loop-low.low + (c.loop-low.high - c.loop-low.low) / 2 in
    let lock = c.index.result.now in
    let in_order = subst AreSortedByName c.self.view_is c.self.invariant.in_order in
    let l : at < length locks = omega (arith, c.loop-low-test.true, c.loop-low.invariant.within) in
    let is = subst (λ (xs : List LockState). lock ≡ get_or xs at lock) c.self.view_is c.index.ensures in
    let more : by_name (get_or locks at lock).name c.args.name.now ≡ Greater = ap (λ (x : LockState). by_name x.name c.args.name.now) (sym is) ∙ sym c.in-Greater.ensures in
    record { in_range = omega arith; within = omega (arith, l); before = c.loop-low.invariant.before; after = high_more c.args.name.now locks at lock in_order l more }
