-- Whole logs of events with a length.
use Rattle.std.specs.Prelude.{false, List, [], ◌∷◌, codes}
use Rattle.sleep_model.specs.declared.entry.Entry.{Entry}
use Rattle.sleep_model.specs.declared.log.Log.{Log}
use Rattle.sleep_model.specs.declared.machine.Machine.{Machine}
use Rattle.sleep_model.specs.declared.entry.Actor.TheVariants as actor
use Rattle.sleep_model.specs.declared.entry.Kind.TheVariants as kind
use Rattle.sleep_model.specs.declared.machine.Op.TheVariants as op
use Rattle.sleep_model.specs.declared.machine.TaskKind.TheVariants as task
use Rattle.law_trials.specs.Terms.{entry, word, script, once, empty_machine, stats, unused, log_of}

-- events of several lengths on one source: the latest end counts: its machine
abbrev pub event_expires_machine : Machine
event_expires_machine = record empty_machine {
  sources = codes "lid" ∷ [];
  actors =
      script (codes "k") task.Irq 1 (
      once (op.Event 0 100 false)
      ∷ once (op.Sleep 50)
      ∷ once (op.Event 0 20 false)
      ∷ once (op.Event 0 80 false)
      ∷ once (op.Sleep 200)
      ∷ [])
      ∷ [];
}

-- its entries
abbrev pub event_expires_entries : List Entry
event_expires_entries =
    entry 0 (word 0 0 0) (actor.Script 0) (kind.Event 0 100 false)
    ∷ entry 0 (word 0 0 0) (actor.Script 0) (kind.Start 0)
    ∷ entry 0 (word 1 0 0) (actor.Script 0) (kind.Sleep 50)
    ∷ entry 50 (word 1 0 0) actor.Time kind.Jump
    ∷ entry 50 (word 1 0 0) (actor.Script 0) kind.Slept
    ∷ entry 50 (word 1 0 0) (actor.Script 0) (kind.Event 0 20 false)
    ∷ entry 50 (word 1 0 0) (actor.Script 0) (kind.Event 0 80 false)
    ∷ entry 50 (word 1 0 0) (actor.Script 0) (kind.Sleep 250)
    ∷ entry 130 (word 1 0 0) actor.Time kind.Jump
    ∷ entry 130 (word 1 0 0) (actor.Timer 0) (kind.Expire 0)
    ∷ entry 130 (word 1 0 0) (actor.Timer 0) (kind.Finish 0)
    ∷ entry 250 (word 0 1 0) actor.Time kind.Jump
    ∷ entry 250 (word 0 1 0) (actor.Script 0) kind.Slept
    ∷ entry 250 (word 0 1 0) (actor.Script 0) kind.Exit
    ∷ []

-- its log
abbrev pub event_expires : Log
event_expires = log_of event_expires_entries (stats 1 3 1 0 130 130 130 ∷ unused ∷ [])
