-- Members and items of a value, one after another.
use Rattle.std.proofs.Common.{◌≡◌, ◌&&◌, suc, List, [], ◌∷◌, length, map, Bool, refl, ap, position, arith}
use Rattle.std.proofs.lemmas.Grind.{common_steps}
use Rattle.std.specs.List.{list_all}
use Rattle.serde_json.specs.Data.{Data}
use Rattle.borrowed_json.specs.Look.{items_of}
use Rattle.borrowed_json.specs.View.{Value, view, items_view}

-- the place of the first value whose data passes
pub position_view : (p : Data → Bool) (vs : List Value) → position p (map view vs) ≡ position (λ v. p (view v)) vs
position_view p [] = refl
position_view p (v ∷ vs) = grind (arith, common_steps, position_view p vs)

-- all of a list's items pass if all of its values do
pub list_all_items : (p : Data → Bool) (vs : List Value) → list_all p (items_of (items_view vs)) ≡ list_all (λ v. p (view v)) vs
list_all_items p [] = refl
list_all_items p (v ∷ vs) = ap (λ b. p (view v) && b) (list_all_items p vs)

-- as many data as values
pub length_view : (vs : List Value) → length (map view vs) ≡ length vs
length_view [] = refl
length_view (v ∷ vs) = ap suc (length_view vs)

pub all_view : (p : Data → Bool) (vs : List Value) → list_all p (map view vs) ≡ list_all (λ v. p (view v)) vs
all_view p [] = refl
all_view p (v ∷ vs) = ap (λ b. p (view v) && b) (all_view p vs)
