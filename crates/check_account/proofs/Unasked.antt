-- Nobody is asked at first.
use Rattle.std.proofs.Common.{◌≡◌, List, [], ◌∷◌, length, replicate, map, refl, ap}
use Rattle.sleep_model.specs.declared.machine.Script.{Script}
use Rattle.sleep_model.specs.declared.progress.Freezing.{Freezing}
use Rattle.sleep_model.specs.Freezer.{unasked}

pub all_unasked : (ss : List Script) → replicate (length ss) unasked ≡ map (λ (s : Script). unasked) ss
all_unasked [] = refl
all_unasked (s ∷ ss) = ap (λ (fs : List Freezing). unasked ∷ fs) (all_unasked ss)
