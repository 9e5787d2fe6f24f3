-- Proof by hand of `wakers_of`: the call of `waker_of` and its loop, by the lemmas of `Leaving`.
use Rattle.std.proofs.Common.{List, subst, refl, arith}
use Rattle.idle_loop.specs.declared.roles.Role.{Role}
use Rattle.idle_loop.specs.Ends.{AreWakes}
use Rattle.idle_loop.proofs.Leaving.{is_off, off_more}
use Rattle.idle_loop.proofs.closing.wakers_of.Goals as goal

pub waker_of-waker-requires : goal.waker_of-waker-requires
waker_of-waker-requires c = (subst (λ (l : List Role). AreWakes l) c.in-Some.ensures.steps.0 c.loop-role.invariant.1).0

pub push_reserved-requires : goal.push_reserved-requires
push_reserved-requires c = omega (arith, c.loop-role.invariant.2, c.in-Some.ensures.steps.1)

pub push_reserved-requires-in-loop-role : goal.push_reserved-requires-in-loop-role
push_reserved-requires-in-loop-role c = omega (arith, c.loop-role.invariant.3, c.in-Some.ensures.steps.1)

pub loop-role-preserved : goal.loop-role-preserved
loop-role-preserved c =
    let is = c.loop-role.invariant in (
      rw (c.push_reserved.ensures.items) (rw (c.push_reserved-in-loop-role.ensures.items) (off_more c.loop-role.yielded c.loop-role.seats.items c.loop-role.ranks.items c.in-Some.role _ _ is.0 (is_off c.in-Some.role c.waker_of-waker.result _ _ c.waker_of-waker.ensures c.off.ensures refl))),
      (subst (λ (l : List Role). AreWakes l) c.in-Some.ensures.steps.0 is.1).1,
      omega (arith, is.2, c.in-Some.ensures.steps.1, c.push_reserved.ensures.len, c.push_reserved.ensures.capacity),
      omega (arith, is.3, c.in-Some.ensures.steps.1, c.push_reserved-in-loop-role.ensures.len, c.push_reserved-in-loop-role.ensures.capacity),
    )
