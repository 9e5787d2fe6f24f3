-- Each attempt ends, and makes few entries.
use Rattle.std.specs.Prelude.{◌≡◌, ◌≤◌, ◌⊎◌, ℕ, Bool, true, false, ◌==◌, ◌&&◌, ◌||◌, List, [], ◌∷◌}
use Rattle.std.specs.List.{list_any}
use Rattle.sleep_model.specs.declared.entry.Entry.{Entry}
use Rattle.sleep_model.specs.declared.entry.Kind.{Kind}
use Rattle.sleep_model.specs.declared.entry.Kind.TheVariants.{Attempt, Over}
use Rattle.sleep_model.specs.declared.log.Log.{Log}
use Rattle.sleep_model.specs.declared.machine.Machine.{Machine}
use Rattle.sleep_model.specs.Accepted.{IsAccepted}
use Rattle.sleep_model.specs.Calls.{one_more}
use Rattle.sleep_model.specs.Devices.{is_device}
use Rattle.sleep_model.specs.Legal.{IsFinishedLog, IsLegalLog, IsStuckLog, JournalPart}
use Rattle.sleep_model.specs.Path.{is_actor, maker}
use Rattle.room_laws.specs.AttemptRoom.{enough, is_attempt}

-- ---- attempts end

-- the entry ends the attempt with that number (pm_suspend)
abbrev pub is_end_of : ℕ → Kind → Bool
is_end_of n (Over k r) = k == n
is_end_of n _ = false

-- one of these entries does (pm_suspend)
abbrev pub ends_among : ℕ → List Entry → Bool
ends_among n entries = list_any (λ e. is_end_of n e.kind) entries

-- if an entry begins an attempt, one of those after it ends that attempt (pm_suspend)
abbrev pub ends_after : Kind → List Entry → Bool
ends_after (Attempt n guarded) later = ends_among n later
ends_after _ later = true

-- each attempt that these entries, the oldest first, begin they end (pm_suspend)
abbrev pub attempts_end : List Entry → Bool
attempts_end [] = true
attempts_end (e ∷ later) = ends_after e.kind later && attempts_end later

-- so in each legal log of an accepted machine that is finished, or goes no further (pm_suspend)
abbrev pub AttemptsEnd : Type 0
AttemptsEnd =
    (m : Machine) → IsAccepted m → (log : Log) → IsLegalLog m log → (IsFinishedLog m log) ⊎ (IsStuckLog m log)
    → attempts_end log.entries ≡ true

-- ---- attempts are short

-- an entry counts: of the open attempt's maker, or of a device (enter_state)
abbrev pub is_own : List Entry → Entry → Bool
is_own past e = is_actor e.actor (maker past) || is_device e.actor

-- an attempt's first entry is 1; each that counts is one more
abbrev pub own_entry_count_after : Bool → Bool → ℕ → ℕ
own_entry_count_after true own before = 1
own_entry_count_after false own before = one_more own before

-- how many entries the newest attempt's maker and its devices have made in it (enter_state)
abbrev pub own_entry_count : List Entry → ℕ
own_entry_count [] = 0
own_entry_count (e ∷ past) = own_entry_count_after (is_attempt e.kind) (is_own past e) (own_entry_count past)

-- after each entry of a legal journal of an accepted machine they are no more than are enough for an attempt (enter_state)
abbrev pub AttemptsAreShort : Type 0
AttemptsAreShort = (m : Machine) → IsAccepted m → (past : List Entry) → JournalPart m past → own_entry_count past ≤ enough m
