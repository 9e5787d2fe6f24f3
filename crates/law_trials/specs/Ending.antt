-- Short lists of entries, the oldest first: of sleeps, of jumps and of attempts.
use Rattle.std.specs.Prelude.{ℕ, true, false, List, [], ◌∷◌, None}
use Rattle.sleep_model.specs.declared.entry.Actor.{Actor}
use Rattle.sleep_model.specs.declared.entry.Actor.TheVariants as actor
use Rattle.sleep_model.specs.declared.entry.Entry.{Entry}
use Rattle.sleep_model.specs.declared.entry.Kind.{Kind}
use Rattle.sleep_model.specs.declared.entry.Kind.TheVariants as kind

-- an entry at that time, of that actor, after so many hard events were counted
abbrev pub hard_entry : ℕ → ℕ → Actor → Kind → Entry
hard_entry time hard who k = record {
  time = time;
  now = record { inpr = 0; count = 0; hard = hard };
  actor = who;
  kind = k;
}

-- a hard event wakes the machine at once
abbrev pub woken : List Entry
woken =
    hard_entry 0 0 (actor.Script 0) (kind.Enter false) ∷ hard_entry 0 0 (actor.Script 1) (kind.Hard 0)
    ∷ hard_entry 0 1 (actor.Script 0) (kind.Wake true) ∷ hard_entry 10 1 actor.Time kind.Jump ∷ []

-- the alarm wakes the machine
abbrev pub slept_by_time : List Entry
slept_by_time =
    hard_entry 0 0 (actor.Script 0) (kind.Enter false) ∷ hard_entry 1000 0 actor.Time kind.Jump
    ∷ hard_entry 1000 0 (actor.Script 0) (kind.Wake false) ∷ []

-- a hard event comes, and the machine sleeps on up to the alarm
abbrev pub slept_through : List Entry
slept_through =
    hard_entry 0 0 (actor.Script 0) (kind.Enter false) ∷ hard_entry 0 0 (actor.Script 1) (kind.Hard 0)
    ∷ hard_entry 1000 1 actor.Time kind.Jump ∷ hard_entry 1000 1 (actor.Script 0) (kind.Wake false) ∷ []

-- a hard event comes, and time passes before the machine wakes by it
abbrev pub woken_late : List Entry
woken_late =
    hard_entry 0 0 (actor.Script 0) (kind.Enter false) ∷ hard_entry 0 0 (actor.Script 1) (kind.Hard 0)
    ∷ hard_entry 5 1 actor.Time kind.Jump ∷ hard_entry 5 1 (actor.Script 0) (kind.Wake true) ∷ []

-- a hard event came before the machine entered
abbrev pub sleeps_on : List Entry
sleeps_on =
    hard_entry 0 0 (actor.Script 1) (kind.Hard 0) ∷ hard_entry 0 1 (actor.Script 0) (kind.Enter false)
    ∷ hard_entry 1000 1 actor.Time kind.Jump ∷ []

-- a jump to the present moment
abbrev pub stays : List Entry
stays = hard_entry 5 0 actor.Time kind.Jump ∷ hard_entry 5 0 actor.Time kind.Jump ∷ []

-- an entry of a moment before the jump
abbrev pub steps_back : List Entry
steps_back = hard_entry 5 0 actor.Time kind.Jump ∷ hard_entry 4 0 (actor.Script 0) kind.Pass ∷ []

-- an attempt of three entries
abbrev pub ends : List Entry
ends =
    hard_entry 0 0 (actor.Script 0) (kind.Attempt 1 None) ∷ hard_entry 0 0 (actor.Script 0) kind.Clear
    ∷ hard_entry 0 0 (actor.Script 1) kind.Pass ∷ hard_entry 0 0 (actor.Script 0) (kind.Over 1 None) ∷ []

-- the same without its end
abbrev pub never_ends : List Entry
never_ends =
    hard_entry 0 0 (actor.Script 0) (kind.Attempt 1 None) ∷ hard_entry 0 0 (actor.Script 0) kind.Clear
    ∷ hard_entry 0 0 (actor.Script 1) kind.Pass ∷ []

-- the end of another in its place
abbrev pub another_ends : List Entry
another_ends =
    hard_entry 0 0 (actor.Script 0) (kind.Attempt 1 None) ∷ hard_entry 0 0 (actor.Script 0) kind.Clear
    ∷ hard_entry 0 0 (actor.Script 0) (kind.Over 2 None) ∷ []
