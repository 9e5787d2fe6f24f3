-- Digits of more than a day are no wait.
use Rattle.std.proofs.Common.{◌≡◌, ◌<◌, ℕ, ◌&&◌, Bool, true, false, cond, List, Some, None, refl, sym, arith}
use Rattle.std.specs.Prelude.{nat_le}
use Rattle.std.proofs.lemmas.Bool.Decides.{nat_tests}
use Rattle.wake_locks.specs.Texts.{value_of}
use Rattle.lock_commands.specs.Verbs.{milliseconds}

none_by : (b : Bool) (n : ℕ) → cond (b && false) (Some n) None ≡ None
none_by true n = refl
none_by false n = refl

-- a number of more than a day is none
pub too_long : (digits : List ℕ) → 86400000 < value_of digits → None ≡ milliseconds digits
too_long digits l =
    let no : nat_le (value_of digits) 86400000 ≡ false = grind (arith, nat_tests) in
    rw no (sym (none_by _ (value_of digits)))
