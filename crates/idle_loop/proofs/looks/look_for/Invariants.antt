-- The invariant of the loop of `look_for`.
use Rattle.std.proofs.Common.{◌≡◌}
use Rattle.event_word.specs.Looks.{HasGrown}
use Rattle.idle_loop.proofs.looks.look_for.Given as goal

abbrev pub invariant-loop : goal.invariant-loop
invariant-loop g l = record {
  can_next : (goal.iterator-loop g).can_next l.iterator';
  ends : (goal.iterator-loop g).is_finite l.iterator';
  made : g.E.Events.made l.events ≡ g.E.Events.made l.fn.events;
  root : g.E.Events.root l.events ≡ g.E.Events.root l.fn.events;
  grown : HasGrown (g.E.Events.looked l.fn.events) (g.E.Events.looked l.events);
}
