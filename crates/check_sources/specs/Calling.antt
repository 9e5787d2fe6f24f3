-- The account of calls on sources: how many each actor has made, and which it owes.
use Rattle.std.specs.Prelude.{◌≡◌, ℕ, ◌+◌, true, List, [], ◌∷◌, ◌++◌, length, replicate, slice_set, slice_index_or}
use Rattle.std.specs.List.{list_all}
use Rattle.sleep_model.specs.declared.entry.Actor.{Actor}
use Rattle.sleep_model.specs.declared.entry.Entry.{Entry}
use Rattle.sleep_model.specs.declared.entry.Kind.{Kind}
use Rattle.sleep_model.specs.declared.machine.Machine.{Machine}
use Rattle.sleep_model.specs.Calls.{calls_after_turn, calls_of, calls_of_turn, ends_turn, made, one_more, report_calls, turns_ended}
use Rattle.sleep_model.specs.Fits.{fits_actor, fits_entry}
use Rattle.sleep_model.specs.EntryClasses.{EntryClass, OfJournal, OfTime, Notes, Moves, class_of, journal}
use Rattle.sleep_model.specs.Path.{attempts}
use Rattle.sleep_model.specs.Sources.{history}
use Rattle.check_sources.specs.ActorRows.{actor_index, actor_count}

-- for each index of the row: how many calls were made, how many turns were ended, which calls are owed after those before the first turn
-- (own)
pub record CallState : Type 0 where
  pub made : List ℕ
  pub turns : List ℕ
  pub later : List (List Kind)

-- so for a machine (own)
pub record CallsOf : Type 0 where
  pub machine : Machine
  pub state : CallState

-- how many calls an actor has made (wakeup_source_report_event)
abbrev pub made_at : Machine → CallState → Actor → ℕ
made_at m c who = slice_index_or c.made (actor_index m who) 0

-- how many turns of its own steps it has ended (own)
abbrev pub turns_at : Machine → CallState → Actor → ℕ
turns_at m c who = slice_index_or c.turns (actor_index m who) 0

-- the calls that it owes after those before its first turn (own)
abbrev pub later_at : Machine → CallState → Actor → List Kind
later_at m c who = slice_index_or c.later (actor_index m who) []

-- the calls that it owes in all, in order (own)
abbrev pub calls_by : Machine → CallState → Actor → List Kind
calls_by m c who = calls_of_turn m who 0 ++ later_at m c who

-- a note is one call more of its actor (own)
abbrev pub noted_by : Machine → Actor → CallState → CallState
noted_by m who c = record c { made = slice_set c.made (actor_index m who) (made_at m c who + 1) }

-- an entry of the journal, after n attempts: the reports of the callback that it begins, and the calls up to the next turn (pm_wakeup_event
-- in a callback)
abbrev pub entered_by : Machine → Entry → ℕ → CallState → CallState
entered_by m e n c = record c {
  turns = slice_set c.turns (actor_index m e.actor) (one_more (ends_turn e.kind) (turns_at m c e.actor));
  later = slice_set c.later (actor_index m e.actor)
      (later_at m c e.actor ++ report_calls m n e.kind ++ calls_after_turn m e.actor (ends_turn e.kind) (turns_at m c e.actor + 1));
}

-- an entry of whatever class, after n attempts (own)
abbrev pub callers_after : Machine → Entry → ℕ → EntryClass → CallState → CallState
callers_after m e n (Notes s call) c = noted_by m e.actor c
callers_after m e n (Moves s step) c = c
callers_after m e n OfJournal c = entered_by m e n c
callers_after m e n OfTime c = entered_by m e n c

-- the account after these entries, the newest first (own)
abbrev pub callers_of : Machine → List Entry → CallState
callers_of m [] = record {
  made = replicate (actor_count m) 0;
  turns = replicate (actor_count m) 0;
  later = replicate (actor_count m) [];
}
callers_of m (e ∷ past) = callers_after m e (attempts (journal past)) (class_of e.kind) (callers_of m past)

-- the numbers and the calls of an actor are those that the definitions read (own)
pub record AgreesOf (m : Machine) (past : List Entry) (who : Actor) (c : CallState) : Type 0 where
  pub made : made_at m c who ≡ made (length m.sources + 1) (λ s. history s past) who
  pub turns : turns_at m c who ≡ turns_ended who (journal past)
  pub calls : calls_by m c who ≡ calls_of m who (journal past)

-- so for every machine, all entries that name what it has, and each actor of it (own)
abbrev pub CallersAgree : Type 0
CallersAgree =
    (m : Machine) (past : List Entry) (who : Actor) → list_all (fits_entry m) past ≡ true → fits_actor m who ≡ true
    → AgreesOf m past who (callers_of m past)
