-- The number of digits, read one by one.
use Rattle.std.proofs.Common.{◌≡◌, ◌<◌, ℕ, ◌≤◌, ◌+◌, ◌-◌, ◌*◌, ◌&&◌, Bool, true, false, cond, List, [], ◌∷◌, length, drop, get_or, fold, Some, None, refl, sym, add-one, drop-cons, arith}
use Rattle.std.specs.Prelude.{nat_le}
use Rattle.std.proofs.lemmas.Bool.Decides.{nat_tests}
use Rattle.wake_locks.specs.Texts.{value_of, nanoseconds}

-- more digits make no smaller number
pub no_smaller : (digits : List ℕ) (n : ℕ) → n ≤ fold (λ n b. 10 * n + (b - 48)) n digits
no_smaller [] n = omega arith
no_smaller (b ∷ digits) n = omega (arith, no_smaller digits (10 * n + (b - 48)))

none_by : (b : Bool) (n : ℕ) → cond (b && false) (Some n) None ≡ None
none_by true n = refl
none_by false n = refl

-- digits of more than a day are no timeout
pub too_long : (digits : List ℕ) → 86400000000000 < value_of digits → None ≡ nanoseconds digits
too_long digits l =
    let no : nat_le (value_of digits) 86400000000000 ≡ false = grind (arith, nat_tests) in
    rw no (sym (none_by _ (value_of digits)))

-- the digits that are left, from one on
pub one_more : (digits : List ℕ) (at n : ℕ) → at < length digits → fold (λ n b. 10 * n + (b - 48)) n (drop at digits) ≡ fold (λ n b. 10 * n + (b - 48)) (10 * n + (get_or digits at 0 - 48)) (drop (at + 1) digits)
one_more digits at n l = rw (add-one, drop-cons digits at 0) refl
