-- Lines of which none is of no form.
use Rattle.std.proofs.Common.{◌≡◌, ◌+◌, ◌&&◌, ℕ, Bool, true, false, List, [], ◌∷◌, if◌then◌else◌, Some, None, refl}
use Rattle.std.specs.List.{list_all}
use Rattle.lock_commands.specs.TextAnswers.{first_bad}
use Rattle.lock_commands.specs.Verbs.{is_line}

-- if no line is the first of no form, all are of a form
pub all_good : (n : ℕ) (lines : List (List ℕ)) → first_bad n lines ≡ None → list_all is_line lines ≡ true
all_good n [] h = refl
all_good n (line ∷ lines) h = on (is_line line) h (all_good (n + 1) lines)
  where
    on : (t : Bool) → (if t then first_bad (n + 1) lines else Some n) ≡ None → (first_bad (n + 1) lines ≡ None → list_all is_line lines ≡ true) → (t && list_all is_line lines) ≡ true
    on true e ih = ih e
    on false e ih = cc
