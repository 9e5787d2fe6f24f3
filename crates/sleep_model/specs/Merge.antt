-- The one log of a journal and the sources' histories, by their stamps (own: Linux keeps no such log).
use Rattle.std.specs.Prelude.{◌≡◌, ℕ, zero, suc, ◌+◌, Bool, true, false, ◌==◌, ◌&&◌, ◌||◌, nat_lt, nat_le, max, List, [], ◌∷◌, ◌++◌, length, map, filter, flat_map, if◌then◌else◌, is_some}
use Rattle.std.specs.List.{list_all}
use Rattle.sleep_model.specs.declared.word.EventNow.{EventNow}
use Rattle.sleep_model.specs.declared.entry.Actor.{Actor}
use Rattle.sleep_model.specs.declared.entry.Actor.TheVariants as actor
use Rattle.sleep_model.specs.declared.entry.Entry.{Entry}
use Rattle.sleep_model.specs.declared.entry.JournalEntry.{JournalEntry}
use Rattle.sleep_model.specs.declared.entry.SourceEntry.{SourceEntry}
use Rattle.sleep_model.specs.declared.machine.Machine.{Machine}
use Rattle.sleep_model.specs.Numbers.{word_step, after_step}
use Rattle.sleep_model.specs.EntryClasses.{EntryClass, OfTime, class_of}
use Rattle.sleep_model.specs.Path.{is_same}
use Rattle.sleep_model.specs.Word.{position}

-- ---- the order

-- an actor's rank among the kinds of actors: scripts, the autosleep work, devices, timers, time (own)
abbrev pub actor_rank : Actor → ℕ
actor_rank (actor.Script i) = 0
actor_rank actor.Auto = 1
actor_rank (actor.Dev d) = 2
actor_rank (actor.Timer s) = 3
actor_rank actor.Time = 4

-- an actor's number among its kind (own)
abbrev pub actor_number : Actor → ℕ
actor_number (actor.Script i) = i
actor_number actor.Auto = 0
actor_number (actor.Dev d) = d
actor_number (actor.Timer s) = s
actor_number actor.Time = 0

-- an entry of a source, with its stamp, as one of the log
abbrev pub of_source : SourceEntry → JournalEntry
of_source e = record { stamp = e.stamp; entry = e.entry }

-- a step on the word
abbrev pub is_word_step : JournalEntry → Bool
is_word_step e = is_some (word_step e.entry.kind)

-- one number, then another if the first are equal
abbrev pub before_or : ℕ → ℕ → Bool → Bool
before_or a b rest = nat_lt a b || ((a == b) && rest)

-- 1 for a step on the word, else 0
abbrev pub step_number : JournalEntry → ℕ
step_number e = if is_word_step e then 1 else 0

-- one actor before another (own)
abbrev pub is_actor_before : Actor → Actor → Bool
is_actor_before a b = before_or (actor_rank a) (actor_rank b) (nat_lt (actor_number a) (actor_number b))

-- x comes before y: by position, steps on the word after the others, then by tick, then by actor (own)
abbrev pub precedes : JournalEntry → JournalEntry → Bool
precedes x y =
    before_or x.stamp.pos y.stamp.pos (before_or (step_number x) (step_number y)
    (before_or x.stamp.tick y.stamp.tick (is_actor_before x.entry.actor y.entry.actor)))

-- an entry put before the first that does not come before it
abbrev pub put_in_order : JournalEntry → List JournalEntry → List JournalEntry
put_in_order x [] = x ∷ []
put_in_order x (y ∷ ys) = if precedes y x then y ∷ put_in_order x ys else x ∷ y ∷ ys

-- the entries in order
abbrev pub in_order : List JournalEntry → List JournalEntry
in_order [] = []
in_order (x ∷ xs) = put_in_order x (in_order xs)

-- all entries, the journal's first
abbrev pub all_entries : List JournalEntry → List (List SourceEntry) → List JournalEntry
all_entries journal histories = journal ++ flat_map (λ history. map of_source history) histories

-- the one log, with its stamps
abbrev pub stamped : List JournalEntry → List (List SourceEntry) → List JournalEntry
stamped journal histories = in_order (all_entries journal histories)

-- the one log of a journal and the sources' histories
abbrev pub merge : List JournalEntry → List (List SourceEntry) → List Entry
merge journal histories = map (λ e. e.entry) (stamped journal histories)

-- ---- what fits

-- the least position that may follow an entry: the same, and one more after a step
abbrev pub next_position : JournalEntry → ℕ
next_position e = e.stamp.pos + step_number e

-- ticks rise and positions never fall, and rise after a step, after that entry
abbrev pub rises_after : JournalEntry → List JournalEntry → Bool
rises_after e [] = true
rises_after e (next ∷ rest) =
    nat_lt e.stamp.tick next.stamp.tick && nat_le (next_position e) next.stamp.pos && rises_after next rest

-- so along a whole list
abbrev pub rises : List JournalEntry → Bool
rises [] = true
rises (e ∷ rest) = rises_after e rest

-- an actor's entries
abbrev pub entries_of : Actor → List JournalEntry → List JournalEntry
entries_of who entries = filter (λ e. is_same e.entry.actor who) entries

-- so along each of these actors
abbrev pub each_rises : List Actor → List JournalEntry → Bool
each_rises actors entries = list_all (λ who. rises (entries_of who entries)) actors

-- the same word
abbrev pub is_word : EventNow → EventNow → Bool
is_word a b = (a.inpr == b.inpr) && (a.count == b.count) && (a.hard == b.hard)

-- each entry carries the word of its point, which its stamp counts, and each step moves it
abbrev pub is_chained : EventNow → List JournalEntry → Bool
is_chained word [] = true
is_chained word (e ∷ rest) =
    is_word e.entry.now word && (e.stamp.pos == position word)
    && is_chained (after_step (word_step e.entry.kind) word) rest

-- the entry is a jump of time
abbrev pub is_jump : EntryClass → Bool
is_jump OfTime = true
is_jump _ = false

-- an entry that is no jump has the present time, and a tick after the last jump's; a jump raises the time, and comes after all ticks before
-- it
abbrev pub fits_time : ℕ → ℕ → ℕ → JournalEntry → Bool
fits_time time jumped last e =
    if is_jump (class_of e.entry.kind) then nat_lt time e.entry.time && nat_lt last e.stamp.tick
    else (e.entry.time == time) && nat_lt jumped e.stamp.tick

-- so for all entries, after the last jump's time and tick, and the greatest tick so far
abbrev pub is_timed : ℕ → ℕ → ℕ → List JournalEntry → Bool
is_timed time jumped last [] = true
is_timed time jumped last (e ∷ rest) =
    fits_time time jumped last e
    && is_timed e.entry.time (if is_jump (class_of e.entry.kind) then e.stamp.tick else jumped)
    (max last e.stamp.tick) rest

-- the first n of a kind
abbrev pub numbered : (ℕ → Actor) → ℕ → List Actor
numbered make zero = []
numbered make (suc n) = numbered make n ++ (make n ∷ [])

-- all actors of a machine (own)
abbrev pub actors_of : Machine → List Actor
actors_of m =
    numbered actor.Script (length m.actors) ++ (actor.Auto ∷ []) ++ numbered actor.Dev (length m.devices)
    ++ numbered actor.Timer (length m.sources + 1) ++ (actor.Time ∷ [])

-- a journal and the sources' histories fit together (own)
pub record IsFit (m : Machine) (journal : List JournalEntry) (histories : List (List SourceEntry)) : Type 0 where
  pub journal_rises : rises journal ≡ true
  pub histories_rise : list_all (λ history. rises (map of_source history)) histories ≡ true
  pub actors_rise : each_rises (actors_of m) (stamped journal histories) ≡ true
  pub chained : is_chained (record { inpr = 0; count = 0; hard = 0 }) (stamped journal histories) ≡ true
  pub timed : is_timed 0 0 0 (stamped journal histories) ≡ true
