-- What comes of an actor's try in a round.
use Rattle.std.specs.Prelude.{◌≡◌, ◌<◌, Bool, Option, None, Some, Result, Ok, Err}
use Rattle.sleep_model.specs.declared.entry.Actor.{Actor}
use Rattle.sleep_model.specs.Calls.{calls_due}
use Rattle.sleep_state.specs.JournalRooms.{entries}
use Rattle.running_laws.specs.Running.{calls_made}
use Rattle.world_workers.specs.declared.outcome.TurnOutcome.{TurnOutcome}
use Rattle.world_workers.specs.declared.outcome.TurnOutcome.TheVariants.{Made}
use Rattle.world_workers.specs.declared.fault.RunFault.{RunFault}
use Rattle.machine_rounds.specs.declared.tries.WalkStep.{WalkStep}
use Rattle.machine_rounds.specs.declared.tries.WalkStep.TheVariants.{Waits}
use Rattle.machine_rounds.specs.Runs.{AfterTry, RunState, IsRefused, MadeNothing, entries_made}

-- after an actor's try entries were made, or nothing has changed
abbrev pub AfterAsking : RunState → RunState → Result TurnOutcome RunFault → Type 0
AfterAsking old new (Ok Made) = entries_made old < entries_made new
AfterAsking old new (Ok _) = MadeNothing old new
AfterAsking old new (Err fault) = IsRefused new fault

-- the actor has made each call on a source that is due before its next entry of the journal (pm_wakeup_event)
abbrev pub HasCalled : RunState → Actor → Type 0
HasCalled run who = calls_made run.machine run.sources who ≡ calls_due run.machine who (entries run.journal)

-- so after a try for the kinds of entries that come often; None: it made nothing, and the rules for all actors decide
abbrev pub AfterWalk : RunState → RunState → Option Bool → Type 0
AfterWalk old new None = MadeNothing old new
AfterWalk old new (Some made) = AfterTry old new (Ok made)

-- so after a step of a walk over devices (dpm_suspend)
abbrev pub AfterStep : RunState → RunState → Option WalkStep → Type 0
AfterStep old new None = MadeNothing old new
AfterStep old new (Some Waits) = MadeNothing old new
AfterStep old new (Some _) = entries_made old < entries_made new
