-- What a value over its text says: the data that serde_json reads.
use Rattle.std.specs.Prelude.{ℕ, List, [], ◌∷◌, map}
use Rattle.std.specs.Borrow.{Bor}
use Rattle.serde_json.specs.Data.{Data, null, boolean, number, string, array, object, Items, Members, no_members, put}
use Rattle.serde_json.specs.View.{number_view, items_of}
use Rattle.borrowed_json.specs.declared.tree.Value as tree
use Rattle.borrowed_json.specs.declared.tree.Value.TheOpen.{Value-F}

-- members after those that were found: they go in one by one, so the last value of a name stays
abbrev pub put_all : List (Bor (List ℕ) × Data) → Members → Members
put_all [] found = found
put_all (m ∷ ms) found = put_all ms (put m.0.now m.1 found)

-- one level of a value, in which each value is seen as its data
abbrev pub level_view : Value-F Data → Data
level_view Value-F.Null = null
level_view (Value-F.Bool b) = boolean b
level_view (Value-F.Number n) = number (number_view n)
level_view (Value-F.String s) = string s.now
level_view (Value-F.Array items) = array (items_of items.now)
level_view (Value-F.Object members) = object (put_all members.now no_members)

-- a value over its text
abbrev pub Value : Type 0
Value = tree.Value

-- a member of an object: its name, and what is at it
abbrev pub Member : Type 0
Member = Bor (List ℕ) × Value

-- what a value says
unfoldable pub view : Value → Data
view = tree.fold-Value Data level_view

-- what the items of an array say
abbrev pub items_view : List Value → Items
items_view vs = items_of (map view vs)

-- what a member says
abbrev pub member_view : Member → Bor (List ℕ) × Data
member_view m = (m.0, view m.1)

-- what the members of an object say
abbrev pub members_view : List Member → Members
members_view ms = put_all (map member_view ms) no_members
