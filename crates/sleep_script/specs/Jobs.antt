-- What a job knows of its actor, and what it hears.
use Rattle.std.specs.Prelude.{◌≡◌, ◌≤◌, ℕ, ◌+◌, max, min, Bool, true, false, ◌||◌, ◌&&◌, List, [], ◌∷◌, ◌++◌, drop, slice_get, Some}
use Rattle.sleep_model.specs.declared.entry.Actor.{Actor}
use Rattle.sleep_model.specs.declared.entry.Entry.{Entry}
use Rattle.sleep_model.specs.declared.entry.Kind.{Kind}
use Rattle.sleep_model.specs.declared.log.Want.{Want}
use Rattle.sleep_model.specs.declared.log.Want.TheVariants as want
use Rattle.sleep_model.specs.declared.machine.Machine.{Machine}
use Rattle.sleep_model.specs.declared.word.Stamp.{Stamp}
use Rattle.sleep_model.specs.Calls.{calls_of_turn, calls_after_turn, ends_turn, one_more, note, report_calls, turns_ended, calls_of, calls_due}
use Rattle.sleep_model.specs.Laws.{is_exit}
use Rattle.sleep_model.specs.Path.{is_same}

-- ---- a job

-- what a job knows: its actor, the turns that ended, the notes of the calls due next, the calls made, the exit (own)
pub record JobState : Type 0 where
  pub machine : Machine
  pub who : Actor
  pub turns : ℕ
  pub pending : List Kind
  pub calls : ℕ
  pub exited : Bool
  pub floor : Stamp

-- the stamp before all others (own)
abbrev pub no_stamp : Stamp
no_stamp = record { pos = 0; tick = 0 }

-- a job before its actor's first entry (own)
abbrev pub first_job : Machine → Actor → JobState
first_job m who = record {
  machine = m;
  who = who;
  turns = 0;
  pending = calls_of_turn m who 0;
  calls = 0;
  exited = false;
  floor = no_stamp;
}

-- after a turn of its own steps, after which its actor may have calls to make (own)
abbrev pub job_after_turn : JobState → JobState
job_after_turn job = record job { turns = job.turns + 1; pending = calls_of_turn job.machine job.who (job.turns + 1) }

-- after an entry: due are the reports of the callback it begins, and the calls up to the next turn (pm_wakeup_event)
abbrev pub after_turn : Stamp → Kind → ℕ → JobState → JobState
after_turn stamp k n job = record job {
  turns = one_more (ends_turn k) job.turns;
  pending = report_calls job.machine n k ++ calls_after_turn job.machine job.who (ends_turn k) (job.turns + 1);
  exited = is_exit k || job.exited;
  floor = stamp;
}

-- after the first of the calls that are due, which left its actor with that stamp (own)
abbrev pub after_call : Stamp → JobState → JobState
after_call stamp job = record job { pending = drop 1 job.pending; calls = job.calls + 1; floor = stamp }

-- the greater of two positions, and of two ticks (own)
abbrev pub later : Stamp → Stamp → Stamp
later a b = record { pos = max a.pos b.pos; tick = max a.tick b.tick }

-- its actor knows at least that stamp (own)
abbrev pub raised : Stamp → JobState → JobState
raised stamp job = record job { floor = later stamp job.floor }

-- its actor makes the first call that is due, else takes a turn of the core, but nothing once it has exited (own)
abbrev pub IsWanted : JobState → Want → Type 0
IsWanted job (want.Source s call) = slice_get job.pending 0 ≡ Some (note s call)
IsWanted job want.Core = (job.pending ≡ []) × (job.exited ≡ false)
IsWanted job want.Nothing = (job.pending ≡ []) × (job.exited ≡ true)

-- ---- the timer of a source

-- the source, how many calls its timer has made, and the stamp that it last knew (struct wakeup_source)
pub record TimerState : Type 0 where
  pub source : ℕ
  pub calls : ℕ
  pub floor : Stamp

-- a timer before its first call (own)
abbrev pub first_timer : ℕ → TimerState
first_timer source = record { source = source; calls = 0; floor = no_stamp }

-- after a call that left it with that stamp; the number of calls stops at the greatest of 32 bits (pm_wakeup_timer_fn)
abbrev pub after_expiry : Stamp → TimerState → TimerState
after_expiry stamp timer = record timer { calls = min (timer.calls + 1) 4294967295; floor = stamp }

-- it knows at least that stamp (own)
abbrev pub raised_timer : Stamp → TimerState → TimerState
raised_timer stamp timer = record timer { floor = later stamp timer.floor }

-- ---- a job and a journal

-- an actor has made its exit (do_exit)
abbrev pub has_exited : Actor → List Entry → Bool
has_exited who [] = false
has_exited who (e ∷ past) = (is_same e.actor who && is_exit e.kind) || has_exited who past

-- a job is that of an actor which has made n calls, none that is not due, with that journal (own)
pub record IsJobOf (m : Machine) (who : Actor) (journal : List Entry) (made : ℕ) (job : JobState) : Type 0 where
  pub machine_is : job.machine ≡ m
  pub actor_is : job.who ≡ who
  pub turns_are : job.turns ≡ turns_ended who journal
  pub pending_is : job.pending ≡ drop made (calls_of m who journal)
  pub calls_are : job.calls ≡ made
  pub exited_is : job.exited ≡ has_exited who journal
  pub fits : made ≤ calls_due m who journal
