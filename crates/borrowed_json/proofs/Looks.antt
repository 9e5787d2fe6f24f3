-- Members and items of a value, one after another.
use Rattle.std.proofs.Common.{◌≡◌, ◌||◌, ℕ, List, [], ◌∷◌, map, bytes_eq, Bor, refl, ap}
use Rattle.std.specs.List.{list_any}
use Rattle.borrowed_json.specs.Look.{items_of}
use Rattle.borrowed_json.specs.View.{Value, view, items_view}

-- a text among texts after references
pub list_any_texts : (text : List ℕ) (names : List (Bor (List ℕ))) → list_any (λ s. bytes_eq text s.now) names ≡ list_any (bytes_eq text) (map (λ s. s.now) names)
list_any_texts text [] = refl
list_any_texts text (s ∷ names) = ap (λ b. bytes_eq text s.now || b) (list_any_texts text names)

-- the items of a list are what its values say
pub items_of_view : (vs : List Value) → items_of (items_view vs) ≡ map view vs
items_of_view [] = refl
items_of_view (v ∷ vs) = ap (λ ds. view v ∷ ds) (items_of_view vs)
