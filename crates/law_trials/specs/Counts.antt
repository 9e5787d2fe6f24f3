-- Whole logs of reads and saves of the count, and of writes to the state.
use Rattle.std.specs.Prelude.{List, [], ◌∷◌, codes}
use Rattle.sleep_model.specs.declared.entry.Entry.{Entry}
use Rattle.sleep_model.specs.declared.log.Log.{Log}
use Rattle.sleep_model.specs.declared.machine.Machine.{Machine}
use Rattle.sleep_model.specs.declared.entry.Actor.TheVariants as actor
use Rattle.sleep_model.specs.declared.entry.Kind.TheVariants as kind
use Rattle.sleep_model.specs.declared.machine.Op.TheVariants as op
use Rattle.sleep_model.specs.declared.machine.TaskKind.TheVariants as task
use Rattle.law_trials.specs.Terms.{entry, word, script, once, empty_machine, stats, unused, log_of}

-- a read waits until the event in progress ends: its machine
abbrev pub read_waits_machine : Machine
read_waits_machine = record empty_machine {
  sources = codes "lid" ∷ [];
  marks = codes "a" ∷ [];
  actors =
      script (codes "w") task.User 1 (once (op.Wait 0) ∷ once op.Read ∷ [])
      ∷ script (codes "k") task.Irq 1 (once (op.Awake 0) ∷ once (op.Post 0) ∷ once (op.Sleep 50) ∷ once (op.Relax 0) ∷ [])
      ∷ [];
}

-- its entries
abbrev pub read_waits_entries : List Entry
read_waits_entries =
    entry 0 (word 0 0 0) (actor.Script 1) (kind.Awake 0)
    ∷ entry 0 (word 0 0 0) (actor.Script 1) (kind.Start 0)
    ∷ entry 0 (word 1 0 0) (actor.Script 1) (kind.Post 0)
    ∷ entry 0 (word 1 0 0) (actor.Script 0) (kind.Got 0)
    ∷ entry 0 (word 1 0 0) (actor.Script 1) (kind.Sleep 50)
    ∷ entry 0 (word 1 0 0) (actor.Script 0) kind.ReadWait
    ∷ entry 50 (word 1 0 0) actor.Time kind.Jump
    ∷ entry 50 (word 1 0 0) (actor.Script 1) kind.Slept
    ∷ entry 50 (word 1 0 0) (actor.Script 1) (kind.Relax 0)
    ∷ entry 50 (word 1 0 0) (actor.Script 1) (kind.Finish 0)
    ∷ entry 50 (word 0 1 0) (actor.Script 0) (kind.Read 1)
    ∷ entry 50 (word 0 1 0) (actor.Script 1) kind.Exit
    ∷ entry 50 (word 0 1 0) (actor.Script 0) kind.Exit
    ∷ []

-- its log
abbrev pub read_waits : Log
read_waits = log_of read_waits_entries (stats 1 1 0 0 50 50 50 ∷ unused ∷ [])

-- a task that raises a mark, and an interrupt line that makes two calls on a source: its machine
abbrev pub calls_of_a_line_machine : Machine
calls_of_a_line_machine = record empty_machine {
  sources = codes "lid" ∷ [];
  marks = codes "a" ∷ [];
  actors =
      script (codes "w") task.User 1 (once (op.Post 0) ∷ [])
      ∷ script (codes "k") task.Irq 1 (once (op.Awake 0) ∷ once (op.Relax 0) ∷ [])
      ∷ [];
}

-- its entries
abbrev pub calls_of_a_line_entries : List Entry
calls_of_a_line_entries =
    entry 0 (word 0 0 0) (actor.Script 0) (kind.Post 0)
    ∷ entry 0 (word 0 0 0) (actor.Script 1) (kind.Awake 0)
    ∷ entry 0 (word 0 0 0) (actor.Script 1) (kind.Start 0)
    ∷ entry 0 (word 1 0 0) (actor.Script 0) kind.Exit
    ∷ entry 0 (word 1 0 0) (actor.Script 1) (kind.Relax 0)
    ∷ entry 0 (word 1 0 0) (actor.Script 1) (kind.Finish 0)
    ∷ entry 0 (word 0 1 0) (actor.Script 1) kind.Exit
    ∷ []

-- its log
abbrev pub calls_of_a_line : Log
calls_of_a_line = log_of calls_of_a_line_entries (stats 1 1 0 0 0 0 0 ∷ unused ∷ [])
