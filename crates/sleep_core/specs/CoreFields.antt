-- The invariant of the core: a legal journal, with room for what its open attempt needs.
use Rattle.std.specs.Prelude.{◌≡◌, ◌≤◌, ◌<◌, ◌+◌, ◌^◌, ℕ, map, Option, Some, None}
use Rattle.sleep_model.specs.declared.progress.Sleep.{Sleep}
use Rattle.sleep_model.specs.Accepted.{IsAccepted}
use Rattle.sleep_model.specs.Attempt.{freeze_since, sleep_of}
use Rattle.sleep_model.specs.Legal.{JournalPart}
use Rattle.sleep_model.specs.Numbers.{time_of}
use Rattle.sleep_model.specs.Path.{attempts}
use Rattle.sleep_model.specs.Runtime.{may_wake}
use Rattle.room_laws.specs.AttemptRoom.{needed}
use Rattle.sleep_state.specs.JournalRooms.{entries}
use Rattle.sleep_core.specs.declared.state.Core.TheInside.{Inside}
use Rattle.sleep_core.specs.Cores.{CoreState}
use Rattle.core_history.specs.Histories.{HistoryState}
use Rattle.sleep_core.specs.Reports.{counts_of}

-- a machine that sleeps does so since an early moment
abbrev pub SleptEarly : Option Sleep → Type 0
SleptEarly None = Unit {0}
SleptEarly (Some s) = s.since ≤ 2 ^ 63

-- a freeze that goes on does so since an early moment
abbrev pub FrozeEarly : Option ℕ → Type 0
FrozeEarly None = Unit {0}
FrozeEarly (Some since) = since ≤ 2 ^ 63

-- the history is a legal journal of an accepted machine, with room for what its open attempt needs, and its numbers stay small
pub record IsCore (h : HistoryState) : Type 0 where
  pub accepted : IsAccepted h.machine
  pub legal : JournalPart h.machine (entries h.past)
  pub room : needed h.machine (entries h.past) ≤ h.room
  pub few : attempts (entries h.past) + 1 < 2 ^ 32
  pub early : time_of (entries h.past) ≤ 2 ^ 63
  pub slept : SleptEarly (sleep_of (entries h.past))
  pub froze : FrozeEarly (freeze_since (entries h.past))

-- the core as contracts see it
abbrev pub seen_core : Inside → CoreState
seen_core c = record { machine = c.history.machine; past = c.history.past }

-- what holds of a core between calls: the plans are its machine's, its history is right, and it counts the reports of callbacks
pub record CoreInvariant (c : Inside) : Type 0 where
  pub core : IsCore c.history
  pub plans_are : c.plans.now ≡ c.history.machine
  pub wakeup_is : c.wakeup ≡ map may_wake c.history.machine.devices
  pub reports_are : c.reports ≡ counts_of c.history.machine (entries c.history.past)

-- what holds of a core between calls
abbrev pub core_invariant : Inside → Type 0
core_invariant c = CoreInvariant c
