-- What happens before time passes: an event wakes a machine that sleeps, and time goes forward.
use Rattle.std.specs.Prelude.{◌≡◌, ℕ, Bool, true, ◌==◌, ◌&&◌, nat_lt, List, [], ◌∷◌, Option, Some, None}
use Rattle.sleep_model.specs.declared.entry.Entry.{Entry}
use Rattle.sleep_model.specs.declared.entry.Kind.{Kind}
use Rattle.sleep_model.specs.declared.entry.Kind.TheVariants.{Jump}
use Rattle.sleep_model.specs.declared.machine.Machine.{Machine}
use Rattle.sleep_model.specs.declared.progress.Sleep.{Sleep}
use Rattle.sleep_model.specs.declared.word.EventNow.{EventNow}
use Rattle.sleep_model.specs.Attempt.{sleep_of}
use Rattle.sleep_model.specs.Legal.{IsLegal}
use Rattle.sleep_model.specs.Numbers.{numbers, time_of}
use Rattle.sleep_model.specs.Word.{position}

-- ---- events wake first

-- the machine is awake, or no step was made on the word since it entered sleep (suspend_enter, pm_wakeup_pending)
abbrev pub is_unstirred : Option Sleep → EventNow → Bool
is_unstirred None now = true
is_unstirred (Some s) now = position now == s.pos

-- so it is if time jumps (suspend_enter, pm_wakeup_pending)
abbrev pub jumps_unstirred : Kind → Option Sleep → EventNow → Bool
jumps_unstirred Jump sleep now = is_unstirred sleep now
jumps_unstirred _ sleep now = true

-- at no jump a machine sleeps on whose word has made a step since it entered: an event that comes while it sleeps wakes it before any time
-- passes (suspend_enter, pm_wakeup_pending)
abbrev pub events_wake_first : List Entry → Bool
events_wake_first [] = true
events_wake_first (e ∷ past) = jumps_unstirred e.kind (sleep_of past) (numbers past) && events_wake_first past

-- so in each legal list of entries, of whatever machine
abbrev pub EventsWakeFirst : Type 0
EventsWakeFirst = (m : Machine) (past : List Entry) → IsLegal m past → events_wake_first past ≡ true

-- ---- time goes forward

-- a jump is to a later moment; each other entry has the moment of its index (own: one virtual clock)
abbrev pub keeps_time : Kind → ℕ → ℕ → Bool
keeps_time Jump before at = nat_lt before at
keeps_time _ before at = at == before

-- so does each entry, the newest first (own)
abbrev pub time_goes_forward : List Entry → Bool
time_goes_forward [] = true
time_goes_forward (e ∷ past) = keeps_time e.kind (time_of past) e.time && time_goes_forward past

-- so in each legal list of entries, of whatever machine
abbrev pub TimeGoesForward : Type 0
TimeGoesForward = (m : Machine) (past : List Entry) → IsLegal m past → time_goes_forward past ≡ true
