-- The next call of an actor that is no timer, and the callback of one that is no device.
use Rattle.std.proofs.Common.{◌≡◌, ◌+◌, ℕ, Bool, IsTrue, ◌↔◌, List, length, Some, refl, slice_get}
use Rattle.sleep_model.specs.declared.entry.Actor.{Actor}
use Rattle.sleep_model.specs.declared.entry.Actor.TheVariants as actor
use Rattle.sleep_model.specs.declared.entry.Entry.{Entry}
use Rattle.sleep_model.specs.declared.entry.Kind.{Kind}
use Rattle.sleep_model.specs.declared.machine.Machine.{Machine}
use Rattle.sleep_model.specs.Calls.{calls_of, made}
use Rattle.sleep_model.specs.Devices.{callback}
use Rattle.sleep_model.specs.Legal.{IsOwnCall}
use Rattle.rule_definitions.specs.Walk.{IsInside, IsOwnCallback}

pub own_call : (m : Machine) (past : List Entry) (of : ℕ → List Entry) (who : Actor) (k : Kind) (b : Bool) → ((s : ℕ) → who ≡ actor.Timer s → ⊥)
    → (IsTrue b ↔ (slice_get (calls_of m who past) (made (length m.sources + 1) of who) ≡ Some k)) → IsTrue b ↔ IsOwnCall m past of who k
own_call m past of (actor.Script i) k b other h = h
own_call m past of actor.Auto k b other h = h
own_call m past of (actor.Dev d) k b other h = h
own_call m past of (actor.Timer s) k b other h = absurd (other s refl)
own_call m past of actor.Time k b other h = h

pub own_callback : (past : List Entry) (who : Actor) (e : ℕ) (b : Bool) → ((d : ℕ) → who ≡ actor.Dev d → ⊥) → (IsTrue b ↔ IsInside e (callback past)) → IsTrue b ↔ IsOwnCallback past who e
own_callback past (actor.Script i) e b other h = h
own_callback past actor.Auto e b other h = h
own_callback past (actor.Dev d) e b other h = absurd (other d refl)
own_callback past (actor.Timer s) e b other h = h
own_callback past actor.Time e b other h = h
