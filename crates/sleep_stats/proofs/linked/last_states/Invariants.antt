-- The invariant of the loop of `last_states`, and the measure by which it ends.
use Rattle.std.proofs.Common.{◌≡◌, ℕ, None, length}
use Rattle.indexmap.specs.IndexMap.{get}
use Rattle.sleep_model.specs.Interleaved.{unread}
use Rattle.sleep_stats.specs.contracts.linked.EndsPartialEq.TheImpl.{eq-value}
use Rattle.sleep_stats.specs.Linked.{state_by}
use Rattle.sleep_stats.specs.States.{ends}
use Rattle.sleep_stats.proofs.linked.last_states.Given as goal

-- what is left to read makes the last state of each link
abbrev pub invariant-loop-entry : goal.invariant-loop-entry
invariant-loop-entry l = (s c : ℕ) → state_by (get eq-value.it l.states (ends s c)) (unread l.reader) s c ≡ state_by None l.log.entries s c

abbrev pub decreases-loop-entry : goal.decreases-loop-entry
decreases-loop-entry l = length (unread l.reader)
