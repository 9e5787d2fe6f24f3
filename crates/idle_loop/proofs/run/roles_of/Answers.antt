-- Proof by hand of `roles_of`: the call of `on`, its loop and what it returns, by the lemmas of `Starting`.
use Rattle.std.proofs.Common.{◌∙◌, false, refl, sym, arith}
use Rattle.event_word.proofs.Seating.{came}
use Rattle.turn_lock.proofs.LastPasses.{moved_on}
use Rattle.idle_loop.proofs.Starting.{all_yielded, idler_more, more_long, waker_more}
use Rattle.idle_loop.proofs.run.roles_of.Goals as goal

pub on-requires : goal.on-requires
on-requires c = (came c.args.look.token c.args.seats.items c.loop-seat.yielded _ _ c.in-Some.seat c.requires.seats.all_are c.loop-seat.invariant.whole c.in-Some.ensures.steps.0).0 ∙ c.requires.look

pub push_reserved-requires : goal.push_reserved-requires
push_reserved-requires c = omega (arith, c.loop-seat.invariant.room, c.in-Some.ensures.steps.1)

pub loop-seat-preserved : goal.loop-seat-preserved
loop-seat-preserved c =
    let is = c.loop-seat.invariant in
    record {
      roles = waker_more c.args.sizes _ c.args.look.token c.args.seats.items c.loop-seat.yielded _ _ c.in-Some.seat c.loop-seat.roles.items _ (record { seat = c.on.result; now = record { wakes = 0; owes = false }; least = 0; ranks = c.in-Ok-with_capacity.ranks })
          c.requires.look c.requires.seats c.requires.count is.whole c.in-Some.ensures.steps.0 is.long c.on.ensures refl c.in-Ok-with_capacity.ensures.items (omega (arith, c.in-Ok-with_capacity.ensures.capacity)) is.roles c.push_reserved.ensures.items;
      long = more_long _ _ _ _ _ c.push_reserved.ensures.items is.long;
      whole = moved_on c.loop-seat.yielded _ _ c.args.seats.items c.in-Some.seat is.whole c.in-Some.ensures.steps.0;
      room = omega (arith, is.room, c.in-Some.ensures.steps.1, c.push_reserved.ensures.len, c.push_reserved.ensures.capacity);
    }

pub returns-clause-roles : goal.returns-clause-roles
returns-clause-roles c =
    let is = c.loop-seat.invariant in
    idler_more c.args.sizes _ c.args.look.token c.args.seats.items c.loop-seat.roles.items _ _ c.requires.look c.requires.seats c.requires.count
    (is.long ∙ all_yielded c.loop-seat.yielded c.loop-seat.seat-iterator.rest.items c.args.seats.items is.whole (sym c.loop-seat.seat-iterator.rest.ok.0 ∙ c.in-None.ensures.steps.0)) c.on-2.ensures is.roles c.push_reserved-2.ensures.items
