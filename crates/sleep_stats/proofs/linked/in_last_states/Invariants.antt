-- The invariant of the loop of `in_last_states`.
use Rattle.std.proofs.Common.{◌≡◌, List, map, take}
use Rattle.indexmap.specs.IndexMap.{get}
use Rattle.sleep_model.specs.declared.entry.Entry.{Entry}
use Rattle.sleep_stats.specs.contracts.linked.EndsPartialEq.TheImpl.{eq-value}
use Rattle.sleep_stats.specs.Linked.{with_last}
use Rattle.sleep_stats.specs.States.{AreLast}
use Rattle.sleep_stats.proofs.linked.in_last_states.Given as goal

-- the links so far, each in its last state
abbrev pub invariant-loop-link : goal.invariant-loop-link
invariant-loop-link l = (entries : List Entry) → AreLast entries (get eq-value.it l.states) → l.last.items ≡ map (with_last entries) (take l.link-index l.links)
