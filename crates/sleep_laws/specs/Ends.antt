-- What is so if a run can go no further.
use Rattle.std.specs.Prelude.{◌≡◌, ◌⊎◌, true, List, reverse, None}
use Rattle.sleep_model.specs.declared.entry.Entry.{Entry}
use Rattle.sleep_model.specs.declared.log.Log.{Log}
use Rattle.sleep_model.specs.declared.machine.Machine.{Machine}
use Rattle.sleep_model.specs.Accepted.{IsAccepted, AreScripts}
use Rattle.sleep_model.specs.Legal.{IsLegal, IsLegalLog, IsFinishedLog, IsStuckLog, is_idle, next_time}
use Rattle.sleep_model.specs.Links.{AreLinks}
use Rattle.sleep_model.specs.Numbers.{numbers}
use Rattle.sleep_model.specs.Order.{EachAfterParent, parents_of}
use Rattle.sleep_model.specs.EntryClasses.{journal}
use Rattle.sleep_model.specs.Path.{maker}
use Rattle.sleep_model.specs.Sources.{history}

-- each device is registered after its parent, the links may be added in turn, so that no device hangs below itself, and the scripts name
-- what is there (device_add, device_link_add)
pub record IsOrdered (m : Machine) : Type 0 where
  pub parents : EachAfterParent 0 (parents_of m.devices)
  pub links : AreLinks (parents_of m.devices) (reverse m.links)
  pub scripts : AreScripts m m.actors

-- if nobody can make anything and no moment is pending no attempt is open (system_transition_mutex)
abbrev pub IsClosedIfIdle : Machine → List Entry → Type 0
IsClosedIfIdle m past =
    is_idle m (journal past) (λ s. history s past) (numbers past) ≡ true → next_time m (journal past) (λ s. history s past) ≡ None
    → maker (journal past) ≡ None

-- so in each legal list of entries of such a machine
abbrev pub IdleMeansClosed : Type 0
IdleMeansClosed = (m : Machine) → IsOrdered m → (past : List Entry) → IsLegal m past → IsClosedIfIdle m past

-- and in each legal log of an accepted machine that is finished, or that goes no further
abbrev pub AllEndClosed : Type 0
AllEndClosed =
    (m : Machine) → IsAccepted m → (log : Log) → IsLegalLog m log → (IsFinishedLog m log) ⊎ (IsStuckLog m log)
    → maker (journal (reverse log.entries)) ≡ None
