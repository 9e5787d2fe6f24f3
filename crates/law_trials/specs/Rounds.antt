-- The log of a machine with one worker, only by the definitions: each job in turn makes what is due of it.
use Rattle.std.specs.Prelude.{ℕ, zero, suc, ◌+◌, Bool, true, false, ◌==◌, List, [], ◌∷◌, ◌++◌, filter, length, reverse, Option, Some, None}
use Rattle.std.specs.List.{range_with_len}
use Rattle.sleep_model.specs.declared.entry.Actor.{Actor}
use Rattle.sleep_model.specs.declared.entry.Actor.TheVariants as actor
use Rattle.sleep_model.specs.declared.entry.Entry.{Entry}
use Rattle.sleep_model.specs.declared.entry.Kind.{Kind}
use Rattle.sleep_model.specs.declared.entry.Kind.TheVariants as kind
use Rattle.sleep_model.specs.declared.machine.Machine.{Machine}
use Rattle.sleep_model.specs.declared.progress.Due.{Due}
use Rattle.sleep_model.specs.declared.progress.Due.TheVariants.{Makes}
use Rattle.sleep_model.specs.declared.word.WordKind.{WordKind}
use Rattle.sleep_model.specs.Devices.{is_async_device}
use Rattle.sleep_model.specs.Due.{due}
use Rattle.sleep_model.specs.Legal.{is_finished_after, next_time}
use Rattle.sleep_model.specs.Numbers.{numbers, time_of}
use Rattle.sleep_model.specs.EntryClasses.{EntryClass, Notes, class_of, journal}
use Rattle.sleep_model.specs.Sources.{history, owed, expiry, has_expired}
use Rattle.wakeup_source.specs.SourceStates.{step_kind}
use Rattle.end_laws.specs.Makers.{call_next}

-- an entry of that actor, with the time and the word of its index, before the others
abbrev pub put : List Entry → Actor → Kind → List Entry
put past who k = record { time = time_of past; now = numbers past; actor = who; kind = k } ∷ past

-- ---- one turn

-- these steps, one after the other
abbrev pub put_steps : ℕ → Actor → List WordKind → List Entry → List Entry
put_steps s who [] past = past
put_steps s who (step ∷ steps) past = put_steps s who steps (put past who (step_kind s step))

-- all steps that a source owes
abbrev pub put_owed : EntryClass → Actor → List Entry → List Entry
put_owed (Notes s made) who past = put_steps s who (owed (history s past)) past
put_owed part who past = past

-- a whole call: its note and its steps
abbrev pub put_call : List Entry → Actor → Kind → List Entry
put_call past who k = put_owed (class_of k) who (put past who k)

-- the entry that is due, if one is
abbrev pub put_due : List Entry → Actor → Due → List Entry
put_due past who (Makes k) = put past who k
put_due past who due = past

-- the call that comes next, else the entry that is due
abbrev pub put_next : Machine → List Entry → Actor → Option Kind → List Entry
put_next m past who (Some k) = put_call past who k
put_next m past who None = put_due past who (due m (journal past) who (numbers past))

-- the expiry of a source, if it is due
abbrev pub put_expiry : List Entry → ℕ → Bool → List Entry
put_expiry past s true = put_call past (actor.Timer s) (kind.Expire s)
put_expiry past s false = past

-- one turn of a job
abbrev pub turn : Machine → List Entry → Actor → List Entry
turn m past (actor.Timer s) = put_expiry past s (has_expired (expiry (history s past)) (time_of past))
turn m past who = put_next m past who (call_next m past who)

-- ---- rounds

-- the jobs of that kind, by their numbers
abbrev pub jobs_of : (ℕ → Actor) → List ℕ → List Actor
jobs_of make [] = []
jobs_of make (n ∷ ns) = make n ∷ jobs_of make ns

-- the jobs in order: scripts, the autosleep work, asynchronous devices, timers
abbrev pub jobs : Machine → List Actor
jobs m =
    jobs_of actor.Script (range_with_len 0 (length m.actors))
    ++ actor.Auto
    ∷ jobs_of actor.Dev (filter (is_async_device m) (range_with_len 0 (length m.devices)))
    ++ jobs_of actor.Timer (range_with_len 0 (length m.sources + 1))

-- one turn of each of these jobs
abbrev pub round : Machine → List Actor → List Entry → List Entry
round m [] past = past
round m (who ∷ after_idle_round) past = round m after_idle_round (turn m past who)

-- a run under way, or at its end, with its entries, the newest first
pub data Run : Type 0 where
  Goes : (past : List Entry) → Run
  Ended : (past : List Entry) → Run

-- time jumps to the least pending moment, if there is one
abbrev pub jump : List Entry → Option ℕ → Run
jump past None = Ended past
jump past (Some at) = Goes (record { time = at; now = numbers past; actor = actor.Time; kind = kind.Jump } ∷ past)

-- if a round did nothing the run is over, or time jumps
abbrev pub after_idle_round : Machine → List Entry → Bool → Run
after_idle_round m past true = Ended past
after_idle_round m past false = jump past (next_time m (journal past) (λ s. history s past))

-- after a round: whether it did nothing, and its entries
abbrev pub after_round : Machine → Bool → List Entry → Run
after_round m true past = after_idle_round m past (is_finished_after m past)
after_round m false past = Goes past

-- one round, and what follows it
abbrev pub advance : Machine → List Actor → Run → Run
advance m jobs (Ended past) = Ended past
advance m jobs (Goes past) = let next = round m jobs past in after_round m (length next == length past) next

-- n rounds
abbrev pub rounds : Machine → List Actor → ℕ → Run → Run
rounds m jobs zero run = run
rounds m jobs (suc n) run = rounds m jobs n (advance m jobs run)

-- the entries of a run that has ended, the first first
abbrev pub ended : Run → List Entry
ended (Ended past) = reverse past
ended (Goes past) = []

-- the entries that one worker makes in at most n rounds
abbrev pub one_worker : Machine → ℕ → List Entry
one_worker m most = ended (rounds m (jobs m) most (Goes []))
