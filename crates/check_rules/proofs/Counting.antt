-- One actor or one source more.
use Rattle.std.proofs.Common.{◌≡◌, ◌+◌, ◌&&◌, ℕ, Bool, not, List, Option, refl, add-one, slice_get}
use Rattle.sleep_model.specs.declared.entry.Actor.{Actor}
use Rattle.sleep_model.specs.declared.entry.Entry.{Entry}
use Rattle.sleep_model.specs.declared.machine.Machine.{Machine}
use Rattle.sleep_model.specs.declared.word.EventNow.{EventNow}
use Rattle.sleep_model.specs.Attempt.{sleeps_now}
use Rattle.sleep_model.specs.Freezer.{freezing}
use Rattle.sleep_model.specs.Legal.{is_enabled, next_expiry, next_sleep, none_enabled, none_expires, pending_sleep, sooner}
use Rattle.rule_definitions.specs.Questions.{position_of}
use Rattle.sleep_model.specs.Sources.{expiry, has_expired}

pub enabled_next : (m : Machine) (past : List Entry) (of : ℕ → List Entry) (now : EventNow) (who : ℕ → Actor) (n : ℕ) (here before : Bool)
    → here ≡ is_enabled m past of now (who n) → before ≡ none_enabled m past of now who n → (not here && before) ≡ none_enabled m past of now who (n + 1)
enabled_next m past of now who n here before e f = rw (add-one, e, f) refl

pub expires_next : (of : ℕ → List Entry) (time n : ℕ) (here before : Bool) → here ≡ has_expired (expiry (of n)) time → before ≡ none_expires n of time → (not here && before) ≡ none_expires (n + 1) of time
expires_next of time n here before e f = rw (add-one, e, f) refl

pub expiry_next : (of : ℕ → List Entry) (n : ℕ) (here before : Option ℕ) → here ≡ expiry (of n) → before ≡ next_expiry n of → sooner here before ≡ next_expiry (n + 1) of
expiry_next of n here before e f = rw (add-one, e, f) refl

pub sleep_next : (m : Machine) (past : List Entry) (n : ℕ) (here before : Option ℕ)
    → here ≡ pending_sleep (sleeps_now past) (freezing m n past) (slice_get m.actors n) (position_of m past n) → before ≡ next_sleep m past n → sooner here before ≡ next_sleep m past (n + 1)
sleep_next m past n here before e f = rw (add-one, e, f) refl
