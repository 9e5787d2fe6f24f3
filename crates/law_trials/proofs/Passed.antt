-- Two passes of two lines have makers.
use Rattle.std.proofs.Common.{◌≡◌, ◌<◌, ℕ, zero, suc, true, refl, arith}
use Rattle.std.specs.List.{list_all}
use Rattle.sleep_model.specs.Path.{is_same}
use Rattle.run_laws.proofs.Placing.{number_is}
use Rattle.run_laws.specs.Passes.{HaveMakers, made_by_passes}
use Rattle.law_trials.specs.Passing.{lines, two_passes}

own : (k : ℕ) → k < 2 → list_all (λ m. is_same m.entry.entry.entry.actor (lines k)) (made_by_passes 0 two_passes k) ≡ true
own zero less = refl
own (suc zero) less = refl
own (suc (suc k)) less = absurd (omega (arith, less))

pub have_makers : HaveMakers lines 0 two_passes
have_makers = record { own = own; apart = λ j k a b same. number_is j k same }
