-- The moments for which something waits: none is past if nobody can make anything, each is at most a day ahead, and each wakes somebody.
use Rattle.std.specs.Prelude.{◌≡◌, ◌≤◌, ◌<◌, ◌+◌, ℕ, true, false, List, ◌∷◌, IfSome}
use Rattle.sleep_model.specs.declared.entry.Actor.TheVariants as actor
use Rattle.sleep_model.specs.declared.entry.Entry.{Entry}
use Rattle.sleep_model.specs.declared.entry.Kind.TheVariants as kind
use Rattle.sleep_model.specs.declared.machine.Machine.{Machine}
use Rattle.sleep_model.specs.declared.word.EventNow.{EventNow}
use Rattle.sleep_model.specs.Accepted.{IsAccepted}
use Rattle.sleep_model.specs.Legal.{JournalPart, JumpStep, is_finished, is_idle, next_time}
use Rattle.sleep_model.specs.Numbers.{time_of}
use Rattle.sleep_model.specs.Sources.{expiry}

-- ---- next moments lie ahead

-- the least pending moment, if there is one, is later than now (own)
abbrev pub LiesAhead : Machine → List Entry → (ℕ → List Entry) → Type 0
LiesAhead m past of = IfSome (next_time m past of) (λ at. time_of past < at)

-- so it is after each legal journal if nobody can make anything and something is left to do, by whatever histories of sources and whatever
-- word (schedule_timeout, mod_timer)
abbrev pub NextMomentsLieAhead : Type 0
NextMomentsLieAhead =
    (m : Machine) (past : List Entry) (of : ℕ → List Entry) (now : EventNow) → JournalPart m past
    → is_idle m past of now ≡ true → is_finished m past of now ≡ false → LiesAhead m past of

-- ---- next moments are at most a day ahead

-- the expiry of each of these histories, if it has one, is at most a day from now (own)
abbrev pub ExpiriesAreBounded : List Entry → (ℕ → List Entry) → Type 0
ExpiriesAreBounded past of = (s : ℕ) → IfSome (expiry (of s)) (λ at. at ≤ time_of past + 86400000)

-- if each source's expiry is at most a day from now, so is the next moment of a legal journal of an accepted machine (schedule_timeout,
-- mod_timer)
abbrev pub NextMomentsAreBounded : Type 0
NextMomentsAreBounded =
    (m : Machine) → IsAccepted m → (past : List Entry) (of : ℕ → List Entry) → JournalPart m past → ExpiriesAreBounded past of
    → IfSome (next_time m past of) (λ at. at ≤ time_of past + 86400000)

-- ---- jumps wake

-- the jump to a moment, by whoever saw that word (own)
abbrev pub jump_to : ℕ → EventNow → Entry
jump_to at now = record { time = at; now = now; actor = actor.Time; kind = kind.Jump }

-- after a jump somebody can make something, whatever the word is then (schedule_timeout, pm_wakeup_timer_fn)
abbrev pub JumpsWake : Type 0
JumpsWake =
    (m : Machine) (past : List Entry) (of : ℕ → List Entry) (now later : EventNow) (at : ℕ) → JournalPart m past
    → JumpStep m past of now at → is_idle m (jump_to at now ∷ past) of later ≡ false
