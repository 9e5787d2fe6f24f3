-- The invariant of the loop of `look_on`.
use Rattle.std.proofs.Common.{◌≡◌, ◌≤◌}
use Rattle.event_word.specs.Looks.{HasGrown}
use Rattle.event_word.proofs.events.look_on.Given as goal

abbrev pub invariant-loop : goal.invariant-loop
invariant-loop g l = record {
  can_next : (goal.iterator-loop g).can_next l.iterator';
  ends : (goal.iterator-loop g).is_finite l.iterator';
  shows : g.E.Events.shows l.events ≡ g.E.Events.shows l.fn.events;
  made : g.E.Events.made l.events ≡ g.E.Events.made l.fn.events;
  can : g.E.Events.can l.events ≡ g.E.Events.can l.fn.events;
  root : g.E.Events.root l.events ≡ g.E.Events.root l.fn.events;
  grown : HasGrown (g.E.Events.looked l.fn.events) (g.E.Events.looked l.events);
  rises : g.E.Events.floor l.fn.events ≤ g.E.Events.floor l.events;
}
