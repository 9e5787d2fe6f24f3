-- What a step on the event word says, by what the stepped-on object shows, and which steps can be made.
use Rattle.std.specs.Prelude.{◌≡◌, ℕ, suc, Bool, true, false, ◌&&◌, if◌then◌else◌, nat_lt, List, [], ◌∷◌, Option, Some, None}
use Rattle.sleep_model.specs.declared.word.EventNow.{EventNow}
use Rattle.sleep_model.specs.declared.word.WordKind.{WordKind}
use Rattle.sleep_model.specs.declared.word.WordKind.TheVariants.{Start, Finish, Hard}
use Rattle.sleep_model.specs.Numbers.{after_step}
use Rattle.sleep_model.specs.Sources.{most_entries}
use Rattle.event_word.specs.declared.view.MadeStep as view

-- a step that was made, and the word before it
abbrev pub MadeStep : Type 0
MadeStep = view.MadeStep

-- the shown word after a step
abbrev pub shown_after : WordKind → Option EventNow → Option EventNow
shown_after step None = None
shown_after step (Some word) = Some (after_step (Some step) word)

-- the shown steps, the newest first, after one more
abbrev pub made_after : WordKind → EventNow → Option (List MadeStep) → Option (List MadeStep)
made_after step before None = None
made_after step before (Some made) = Some (record { step = step; before = before } ∷ made)

-- by what can be made, in order, that step can be made next
abbrev pub CanMake : (List WordKind → Bool) → WordKind → Type 0
CanMake can step = (rest : List WordKind) × (can (step ∷ rest) ≡ true)

-- what could be made after that step can be made once it is made
abbrev pub RestCanFollow : WordKind → (List WordKind → Bool) → (List WordKind → Bool) → Type 0
RestCanFollow step old new = (rest : List WordKind) → old (step ∷ rest) ≡ true → new rest ≡ true

-- a word has room for the step: no counter of it overflows or falls below 0 (24 bits of each: own)
abbrev pub has_room : WordKind → EventNow → Bool
has_room Start word = nat_lt word.inpr 16777215
has_room Finish word = nat_lt 0 word.inpr && nat_lt word.count 16777215
has_room Hard word = nat_lt word.hard 16777215

-- a word has room for these steps, one after another
abbrev pub has_room_for_all : EventNow → List WordKind → Bool
has_room_for_all word [] = true
has_room_for_all word (step ∷ rest) = has_room step word && has_room_for_all (after_step (Some step) word) rest

-- whether an event is in progress after a step (a source has at most one)
abbrev pub active_after : WordKind → Bool → Bool
active_after Start active = true
active_after Finish active = false
active_after Hard active = active

-- whether a source that made these steps, the newest first, has an event in progress
abbrev pub is_active : List MadeStep → Bool
is_active [] = false
is_active (made ∷ before) = active_after made.step (is_active before)

-- a source can make the step: it starts if nothing is in progress, and finishes what is
abbrev pub fits : WordKind → Bool → Bool
fits Start active = if active then false else true
fits Finish active = active
fits Hard active = true

-- a source that has made this number of steps can make these next, one after another: at most 60,000 in all (own)
abbrev pub can_make : ℕ → Bool → List WordKind → Bool
can_make count active [] = true
can_make count active (step ∷ rest) =
    nat_lt count most_entries && fits step active && can_make (suc count) (active_after step active) rest
