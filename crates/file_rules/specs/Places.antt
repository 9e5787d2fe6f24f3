-- Places in a machine file, and the first that breaks a rule.
use Rattle.std.specs.Prelude.{ℕ, suc, List, [], ◌∷◌, ◌++◌, codes, decimal, Bool, not, Option, Some, None, option_map, position, if◌then◌else◌}
use Rattle.std.specs.Option.{option_or}
use Rattle.serde_json.specs.Data.{Data}
use Rattle.borrowed_json.specs.Look.{list_in}

-- the place of an item: its list's name, and its number from 0 in brackets
abbrev pub item_place : List ℕ → ℕ → List ℕ
item_place name n = name ++ codes "[" ++ decimal n ++ codes "]"

-- the place of an operation: its actor's, and its own in the script
abbrev pub operation_place : ℕ → ℕ → List ℕ
operation_place actor n = item_place (codes "actors") actor ++ codes "." ++ item_place (codes "script") n

-- no place if the rule holds, and else this one
abbrev pub unless : Bool → List ℕ → Option (List ℕ)
unless holds place = if holds then None else Some place

-- the number of the first that does not pass
abbrev pub first_not : {X : Type 0} → (X → Bool) → List X → Option ℕ
first_not test xs = position (λ x. not (test x)) xs

-- the number, from n on, of the first that does not pass after those before it, of which the last comes first
abbrev pub first_not_after : {X : Type 0} → (List X → X → Bool) → List X → ℕ → List X → Option ℕ
first_not_after test before n [] = None
first_not_after test before n (x ∷ xs) = if test before x then first_not_after test (x ∷ before) (suc n) xs else Some n

-- the place of a list's first item that does not pass
abbrev pub first_item : List ℕ → (Data → Bool) → Data → Option (List ℕ)
first_item name test file = option_map (item_place name) (first_not test (list_in name file))

-- the place of a list's first item that does not pass after those before it
abbrev pub first_later_item : List ℕ → (List Data → Data → Bool) → Data → Option (List ℕ)
first_later_item name test file = option_map (item_place name) (first_not_after test [] 0 (list_in name file))

-- the place of the first operation that does not pass, in the scripts of actors of which the first is the n-th
abbrev pub first_operation_of : (Data → Data → Bool) → ℕ → List Data → Option (List ℕ)
first_operation_of test n [] = None
first_operation_of test n (a ∷ rest) =
    option_or (option_map (operation_place n) (first_not (test a) (list_in (codes "script") a))) (first_operation_of test (suc n) rest)

-- the place of the first operation that does not pass, as its actor's
abbrev pub first_operation : (Data → Data → Bool) → Data → Option (List ℕ)
first_operation test file = first_operation_of test 0 (list_in (codes "actors") file)
