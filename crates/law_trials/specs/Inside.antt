-- A line inside a call on a source, and what it may make there.
use Rattle.std.specs.Prelude.{false, List, [], ◌∷◌, codes}
use Rattle.sleep_model.specs.declared.entry.Actor.TheVariants as actor
use Rattle.sleep_model.specs.declared.entry.Entry.{Entry}
use Rattle.sleep_model.specs.declared.entry.Kind.TheVariants as kind
use Rattle.sleep_model.specs.declared.machine.Machine.{Machine}
use Rattle.sleep_model.specs.declared.machine.Op.TheVariants as op
use Rattle.sleep_model.specs.declared.machine.TaskKind.TheVariants as task
use Rattle.law_trials.specs.Terms.{empty_machine, entry, once, script, word}

-- a line that reports one event on the first of two sources
abbrev pub one_event_machine : Machine
one_event_machine = record empty_machine {
  sources = codes "lid" ∷ codes "key" ∷ [];
  actors = script (codes "k") task.Irq 1 (once (op.Event 0 100 false) ∷ []) ∷ [];
}

-- a line that reports one event on each of them
abbrev pub two_events_machine : Machine
two_events_machine = record empty_machine {
  sources = codes "lid" ∷ codes "key" ∷ [];
  actors = script (codes "k") task.Irq 1 (once (op.Event 0 100 false) ∷ once (op.Event 1 100 false) ∷ []) ∷ [];
}

-- it has noted the first event, whose start is owed
abbrev pub one_event_begun : List Entry
one_event_begun = entry 0 (word 0 0 0) (actor.Script 0) (kind.Event 0 100 false) ∷ []

-- its exit
abbrev pub exit_in_the_call : Entry
exit_in_the_call = entry 0 (word 0 0 0) (actor.Script 0) kind.Exit

-- the note of its next event
abbrev pub note_in_the_call : Entry
note_in_the_call = entry 0 (word 0 0 0) (actor.Script 0) (kind.Event 1 100 false)

-- the start that is owed
abbrev pub start_of_the_call : Entry
start_of_the_call = entry 0 (word 0 0 0) (actor.Script 0) (kind.Start 0)
