-- Legal logs, in three parts: the journal's entries, the sources' entries, and what joins them.
use Rattle.std.specs.Prelude.{◌≡◌, ◌<◌, ◌+◌, ℕ, zero, suc, Bool, true, false, not, ◌&&◌, ◌||◌, nat_lt, nat_le, List, [], ◌∷◌, length, map, min, reverse, if◌then◌else◌, Option, Some, None, is_none, slice_get}
use Rattle.std.specs.List.{range_with_len, list_all}
use Rattle.sleep_model.specs.declared.word.EventNow.{EventNow}
use Rattle.sleep_model.specs.declared.entry.Actor.{Actor}
use Rattle.sleep_model.specs.declared.entry.Actor.TheVariants as actor
use Rattle.sleep_model.specs.declared.entry.Entry.{Entry}
use Rattle.sleep_model.specs.declared.entry.Kind.{Kind}
use Rattle.sleep_model.specs.declared.entry.Kind.TheVariants.{Expire}
use Rattle.sleep_model.specs.declared.log.Log.{Log}
use Rattle.sleep_model.specs.declared.log.LogEnd.TheVariants.{Finished, Stuck}
use Rattle.sleep_model.specs.declared.log.Stats.{Stats}
use Rattle.sleep_model.specs.declared.log.Waiting.{Waiting}
use Rattle.sleep_model.specs.declared.machine.Machine.{Machine}
use Rattle.sleep_model.specs.declared.machine.Script.{Script}
use Rattle.sleep_model.specs.declared.progress.Freezing.{Freezing}
use Rattle.sleep_model.specs.declared.progress.ScriptPosition.{ScriptPosition}
use Rattle.sleep_model.specs.declared.progress.Due.{Due}
use Rattle.sleep_model.specs.declared.progress.Due.TheVariants.{Makes, Waits}
use Rattle.sleep_model.specs.Attempt.{Sleep, sleep_of, sleeps_now, freeze_since, gives_up_at}
use Rattle.sleep_model.specs.Autosleep.{naps_until, work}
use Rattle.sleep_model.specs.Calls.{calls_of, calls_due, made, is_calling}
use Rattle.sleep_model.specs.Due.{due, have_all_exited}
use Rattle.sleep_model.specs.Freezer.{freezing}
use Rattle.sleep_model.specs.Numbers.{numbers, time_of}
use Rattle.sleep_model.specs.EntryClasses.{EntryClass, OfJournal, Notes, Moves, OfTime, class_of, journal}
use Rattle.sleep_model.specs.Path.{maker, is_same}
use Rattle.sleep_model.specs.Positions.{positions, position_at}
use Rattle.sleep_model.specs.Sources.{is_of, history, most_entries, expiry, has_expired, SourceStep, stats_at}
use Rattle.sleep_model.specs.Tasks.{is_line}

-- ---- the journal part

-- an entry of the journal is what is due of its actor at the word that it carries, now; a jump is made by time, and raises it
abbrev pub JournalStep : Machine → List Entry → Entry → EntryClass → Type 0
JournalStep m past e OfJournal = (due m past e.actor e.now ≡ Makes e.kind) × (e.time ≡ time_of past)
JournalStep m past e OfTime = (e.actor ≡ actor.Time) × (time_of past < e.time)
JournalStep m past e _ = ⊥

-- each of the journal's entries, the newest first, is legal after the older ones
abbrev pub JournalPart : Machine → List Entry → Type 0
JournalPart m [] = Unit {0}
JournalPart m (e ∷ past) = JournalStep m past e (class_of e.kind) × JournalPart m past

-- ---- the source part

-- an entry of a source is legal in the history of that source
abbrev pub OwnStep : List Entry → Entry → EntryClass → Type 0
OwnStep past e (Notes s call) = SourceStep (history s past) e.time e.actor (Notes s call)
OwnStep past e (Moves s step) = SourceStep (history s past) e.time e.actor (Moves s step)
OwnStep past e _ = Unit {0}

-- each source's entries, the newest first, are legal after the older ones
abbrev pub SourcePart : List Entry → Type 0
SourcePart [] = Unit {0}
SourcePart (e ∷ past) = OwnStep past e (class_of e.kind) × SourcePart past

-- the entry is of a source of the machine, if it is a source's (wakeup_sources)
abbrev pub is_there : Machine → EntryClass → Bool
is_there m (Notes s call) = nat_le s (length m.sources)
is_there m (Moves s step) = nat_le s (length m.sources)
is_there m _ = true

-- the history of a source has its room (own)
abbrev pub is_short : List Entry → ℕ → Bool
is_short past s = nat_le (length (history s past)) most_entries

-- only the machine's sources have entries, and each has no more than its history has room for (own)
pub record HistoriesFit (m : Machine) (past : List Entry) : Type 0 where
  pub there : list_all (λ e. is_there m (class_of e.kind)) past ≡ true
  pub short : list_all (is_short past) (range_with_len 0 (length m.sources + 1)) ≡ true

-- ---- who is enabled, by the journal, the sources' histories and the word

-- an entry is due
abbrev pub is_made : Due → Bool
is_made (Makes k) = true
is_made _ = false

-- an actor is enabled: it is inside a call, has a call to make, or an entry of the journal is due of it
abbrev pub is_enabled : Machine → List Entry → (ℕ → List Entry) → EventNow → Actor → Bool
is_enabled m past of now who =
    is_calling (length m.sources + 1) of who || nat_lt (made (length m.sources + 1) of who) (calls_due m who past)
    || is_made (due m past who now)

-- none of the first n actors of a kind is enabled
abbrev pub none_enabled : Machine → List Entry → (ℕ → List Entry) → EventNow → (ℕ → Actor) → ℕ → Bool
none_enabled m past of now who zero = true
none_enabled m past of now who (suc n) = not (is_enabled m past of now (who n)) && none_enabled m past of now who n

-- none of the first n sources is to expire now: no timer is enabled
abbrev pub none_expires : ℕ → (ℕ → List Entry) → ℕ → Bool
none_expires zero of time = true
none_expires (suc n) of time = not (has_expired (expiry (of n)) time) && none_expires n of time

-- no actor is enabled: no script, not the autosleep work, no device, and no timer of a source
abbrev pub is_idle : Machine → List Entry → (ℕ → List Entry) → EventNow → Bool
is_idle m past of now =
    none_enabled m past of now actor.Script (length m.actors) && not (is_enabled m past of now actor.Auto)
    && none_enabled m past of now actor.Dev (length m.devices) && none_expires (length m.sources + 1) of (time_of past)

-- nobody can make anything, every script has exited, and no attempt is open
abbrev pub is_finished : Machine → List Entry → (ℕ → List Entry) → EventNow → Bool
is_finished m past of now = have_all_exited m past && is_none (maker past) && is_idle m past of now

-- ---- pending times

-- the lesser of two moments, if there are any
abbrev pub sooner : Option ℕ → Option ℕ → Option ℕ
sooner None other = other
sooner (Some at) None = Some at
sooner (Some at) (Some other) = Some (min at other)

-- the least expiry of the first n sources (ws->timer_expires)
abbrev pub next_expiry : ℕ → (ℕ → List Entry) → Option ℕ
next_expiry zero of = None
next_expiry (suc n) of = sooner (expiry (of n)) (next_expiry n of)

-- the alarm of a machine that sleeps, in ms (rtcwake; own)
abbrev pub alarm_at : Machine → Option Sleep → Option ℕ
alarm_at m None = None
alarm_at m (Some s) = Some (s.since + m.alarm_ms)

-- the end of a freeze that is not over, in ms (freeze_timeout_msecs)
abbrev pub deadline_at : Option ℕ → Option ℕ
deadline_at None = None
deadline_at (Some since) = Some (gives_up_at since)

-- the end of a script's sleep, if it is pending: not that of a frozen task, nor of a task while the machine sleeps (own)
abbrev pub pending_sleep : Bool → Freezing → Option Script → ScriptPosition → Option ℕ
pending_sleep asleep f None position = None
pending_sleep asleep f (Some s) position = if f.frozen || (asleep && not (is_line s.kind)) then None else position.until

-- the least such end among the first n scripts (own)
abbrev pub next_sleep : Machine → List Entry → ℕ → Option ℕ
next_sleep m past zero = None
next_sleep m past (suc n) =
    sooner
    (pending_sleep (sleeps_now past) (freezing m n past) (slice_get m.actors n)
    (position_at (positions (length m.actors) past) n))
    (next_sleep m past n)

-- the end of the autosleep work's nap, if it is pending (own)
abbrev pub pending_nap : List Entry → Option ℕ
pending_nap past = if sleeps_now past then None else naps_until (work past)

-- the least pending time of only the journal, in ms (own)
abbrev pub journal_time : Machine → List Entry → Option ℕ
journal_time m past =
    sooner (alarm_at m (sleep_of past))
    (sooner (deadline_at (freeze_since past)) (sooner (pending_nap past) (next_sleep m past (length m.actors))))

-- the least pending time, in ms (own)
abbrev pub next_time : Machine → List Entry → (ℕ → List Entry) → Option ℕ
next_time m past of = sooner (journal_time m past) (next_expiry (length m.sources + 1) of)

-- ---- the joint part

-- time jumps to the least pending time, if nobody can make anything and something is left to do
pub record JumpStep (m : Machine) (past : List Entry) (of : ℕ → List Entry) (now : EventNow) (time : ℕ) : Type 0 where
  pub idle : is_idle m past of now ≡ true
  pub goes_on : is_finished m past of now ≡ false
  pub least : next_time m past of ≡ Some time

-- an actor makes an entry of the journal once it has made the calls that come before it, and no more
abbrev pub IsOwnTurn : Machine → List Entry → (ℕ → List Entry) → Actor → Type 0
IsOwnTurn m past of who = made (length m.sources + 1) of who ≡ calls_due m who past

-- an actor's note is the next of its calls; a timer notes its source's expiry
abbrev pub IsOwnCall : Machine → List Entry → (ℕ → List Entry) → Actor → Kind → Type 0
IsOwnCall m past of (actor.Timer s) k = k ≡ Expire s
IsOwnCall m past of who k = slice_get (calls_of m who past) (made (length m.sources + 1) of who) ≡ Some k

-- no source is owed a step of the actor: it is inside no call (wakeup_source_report_event)
abbrev pub IsOutside : Machine → (ℕ → List Entry) → Actor → Type 0
IsOutside m of who = is_calling (length m.sources + 1) of who ≡ false

-- the actor's last entry is of that source (own)
abbrev pub last_is_of : ℕ → Actor → List Entry → Bool
last_is_of s who [] = false
last_is_of s who (e ∷ past) = if is_same e.actor who then is_of s (class_of e.kind) else last_is_of s who past

-- an entry is the next of its actor: one of the journal and a note come outside of its calls, a step of the word right after an entry of
-- its source, and a jump if it may
abbrev pub JointStep : Machine → List Entry → Entry → EntryClass → Type 0
JointStep m past e OfJournal =
    IsOwnTurn m (journal past) (λ s. history s past) e.actor × IsOutside m (λ s. history s past) e.actor
JointStep m past e (Notes s call) =
    IsOwnCall m (journal past) (λ t. history t past) e.actor e.kind × IsOutside m (λ t. history t past) e.actor
JointStep m past e (Moves s step) = last_is_of s e.actor past ≡ true
JointStep m past e OfTime = JumpStep m (journal past) (λ s. history s past) (numbers past) e.time

-- the entries of all parts fit together
abbrev pub JointPart : Machine → List Entry → Type 0
JointPart m [] = Unit {0}
JointPart m (e ∷ past) = JointStep m past e (class_of e.kind) × JointPart m past

-- an entry carries the time of its point, unless it is a jump
abbrev pub IsOnTime : List Entry → ℕ → EntryClass → Type 0
IsOnTime past time OfTime = Unit {0}
IsOnTime past time _ = time ≡ time_of past

-- each entry carries the numbers and the time of its point
abbrev pub AreNumbered : List Entry → Type 0
AreNumbered [] = Unit {0}
AreNumbered (e ∷ past) = (e.now ≡ numbers past) × IsOnTime past e.time (class_of e.kind) × AreNumbered past

-- the entries so far, the newest first, are legal
pub record IsLegal (m : Machine) (past : List Entry) : Type 0 where
  pub journal : JournalPart m (journal past)
  pub sources : SourcePart past
  pub histories : HistoriesFit m past
  pub placed : AreNumbered past
  pub joint : JointPart m past

-- ---- whole logs

-- the statistics of each source at the last time, autosleep last (wakeup_sources_stats_seq_show)
abbrev pub stats_of : Machine → List Entry → List Stats
stats_of m past = map (λ s. stats_at (history s past) (time_of past)) (range_with_len 0 (length m.sources + 1))

-- a legal log
pub record IsLegalLog (m : Machine) (log : Log) : Type 0 where
  pub legal : IsLegal m (reverse log.entries)
  pub stats : log.stats ≡ stats_of m (reverse log.entries)

-- after these entries the run is over, with nothing left to do
abbrev pub is_finished_after : Machine → List Entry → Bool
is_finished_after m past = is_finished m (journal past) (λ s. history s past) (numbers past)

-- a log that is over, with nothing left to do
pub record IsFinishedLog (m : Machine) (log : Log) : Type 0 where
  pub says : log.end ≡ Finished
  pub finished : is_finished_after m (reverse log.entries) ≡ true

-- a script that has not exited, with its cause of waiting, put before others
abbrev pub put_waiting : Bool → ℕ → Due → List Waiting → List Waiting
put_waiting false i (Waits why) others = record { actor = actor.Script i; why = why } ∷ others
put_waiting exited i next others = others

-- the scripts from number i on that have not exited, and why each waits
abbrev pub waiting_from : Machine → List Entry → EventNow → ℕ → List ScriptPosition → List Waiting
waiting_from m past now i [] = []
waiting_from m past now i (position ∷ rest) =
    put_waiting position.exited i (due m past (actor.Script i) now) (waiting_from m past now (suc i) rest)

-- the scripts that have not exited, and why each waits
abbrev pub waiting : Machine → List Entry → EventNow → List Waiting
waiting m past now = waiting_from m past now 0 (positions (length m.actors) past)

-- after these entries nobody goes on: some script has not exited, no actor may make an entry, and nothing waits for a time
pub record IsStuckAfter (m : Machine) (past : List Entry) : Type 0 where
  pub left : have_all_exited m (journal past) ≡ false
  pub idle : is_idle m (journal past) (λ s. history s past) (numbers past) ≡ true
  pub timeless : next_time m (journal past) (λ s. history s past) ≡ None

-- a log that goes no further, and says for whom and why
pub record IsStuckLog (m : Machine) (log : Log) : Type 0 where
  pub says : log.end ≡ Stuck (waiting m (journal (reverse log.entries)) (numbers (reverse log.entries)))
  pub stuck : IsStuckAfter m (reverse log.entries)
