-- A freeze, by how many tasks are left and the first of them.
use Rattle.std.proofs.Common.{◌≡◌, ℕ, List, [], ◌∷◌, length, refl}
use Rattle.sleep_model.specs.declared.entry.Entry.{Entry}
use Rattle.sleep_model.specs.declared.entry.Group.{Group}
use Rattle.sleep_model.specs.declared.word.EventNow.{EventNow}
use Rattle.sleep_model.specs.Attempt.{froze_due}
use Rattle.check_past.specs.Asked.{first_of}
use Rattle.check_due.specs.Frozen.{froze_by}

pub froze_is : (past : List Entry) (now : EventNow) (g : Group) (since : ℕ) (left : List ℕ) → froze_by past now g since (length left) (first_of left) ≡ froze_due past now g since left
froze_is past now g since [] = refl
froze_is past now g since (x ∷ rest) = refl
