-- Proof by hand of `leave`: the call of `idler_of`, the call of `wakers_of` and what it returns, by the lemmas of `Leaving`.
use Rattle.std.proofs.Common.{refl, arith}
use Rattle.idle_loop.proofs.Leaving.{pool_idles, pool_wakes, left_pool}
use Rattle.idle_loop.proofs.closing.leave.Goals as goal

pub idler_of-look-requires : goal.idler_of-look-requires
idler_of-look-requires g c = let r = c.requires in pool_idles r.0 r.1 c.args.pool c.apart-roles.result.0.items c.apart-roles.result.1 r.2 c.apart-roles.ensures

pub wakers_of-requires : goal.wakers_of-requires
wakers_of-requires g c = let r = c.requires in pool_wakes r.0 r.1 c.args.pool c.apart-roles.result.0.items c.apart-roles.result.1 r.2 c.apart-roles.ensures

pub returns : goal.returns
returns g c = λ z table pool done rest.
    left_pool z table c.args.pool c.apart-roles.result.0.items c.apart-roles.result.1 c.idler_of-look.result c.look_for.new.events c.look_for.result _ pool c.apart-roles.ensures c.idler_of-look.ensures c.look_for.ensures.root c.look_for.ensures.grows
    (omega (arith, c.look_for.ensures.low, c.from.ensures, c.seen.ensures)) refl c.off.ensures c.in_ok-seats.ensures done rest
