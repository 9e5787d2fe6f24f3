-- The count of 24 bits is the one that user space sees.
use Rattle.std.proofs.Common.{◌≡◌, ℕ, Option, Some, None, refl, ap}
use Rattle.sleep_model.specs.declared.word.EventNow.{EventNow}
use Rattle.sleep_model.specs.declared.entry.Kind.{Kind}
use Rattle.sleep_model.specs.Guard.{CountEffect, Stores, Drops, Finds, Keeps, count_effect, force_after, count_pending, forgotten_after}
use Rattle.wakeup_guard.specs.Guarded.{Guarded, count_after, has_changed_count, guarded_after}

count_24 : (p : CountEffect) (now : EventNow) (force : Option ℕ) → count_after 24 p now force ≡ force_after p now force
count_24 (Stores c) now force = refl
count_24 Drops now force = refl
count_24 Finds now None = refl
count_24 Finds now (Some c) = refl
count_24 Keeps now force = refl

-- what an entry does to it is what the definitions say
pub guarded_24 : (k : Kind) (now : EventNow) (g : Guarded) → guarded_after 24 k now g ≡ record { force = force_after (count_effect k) now g.force; forgotten = forgotten_after k now g.forgotten }
guarded_24 k now g = ap (λ force. record { force = force; forgotten = forgotten_after k now g.forgotten }) (count_24 (count_effect k) now g.force)

-- and so is whether it has changed
pub pending_24 : (force : Option ℕ) (now : EventNow) → has_changed_count 24 force now ≡ count_pending force now
pending_24 None now = refl
pending_24 (Some c) now = refl
