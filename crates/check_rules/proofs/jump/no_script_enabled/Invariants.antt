-- The invariant of the loop of `no_script_enabled`.
use Rattle.std.proofs.Common.{◌≡◌}
use Rattle.sleep_model.specs.declared.entry.Actor.TheVariants as actor
use Rattle.sleep_model.specs.Legal.{none_enabled}
use Rattle.sleep_model.specs.Sources.{history}
use Rattle.check_past.specs.Passing.{journal_of, past_of}
use Rattle.check_rules.proofs.jump.no_script_enabled.Given as goal

abbrev pub invariant-loop-i : goal.invariant-loop-i
invariant-loop-i l = l.none ≡ none_enabled l.past.machine (journal_of l.past) (λ s. history s (past_of l.past)) l.now actor.Script l.i
