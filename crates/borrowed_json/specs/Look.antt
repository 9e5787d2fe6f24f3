-- Tests of one value, and what of it stands at a name.
use Rattle.std.specs.Prelude.{ℕ, suc, ◌==◌, ◌&&◌, List, [], ◌∷◌, Bool, true, false, not, Option, Some, None, is_some, bytes_eq, nat_abs, nat_le, unwrap_or, option_and_then}
use Rattle.std.specs.List.{list_any}
use Rattle.serde_json.specs.Data.{Data, Items, no_items, item, Members, no_members, member}
use Rattle.serde_json.specs.Find.{get, as_number, as_u64, as_integer, as_str, as_bool, as_array, as_object}

-- what must be there, and passes
abbrev pub is_some_and : {A : Type 0} → (A → Bool) → Option A → Bool
is_some_and test None = false
is_some_and test (Some x) = test x

-- what may be left out, and else passes
abbrev pub is_none_or : {A : Type 0} → (A → Bool) → Option A → Bool
is_none_or test None = true
is_none_or test (Some x) = test x

-- a whole number, and this one
abbrev pub is_number : ℕ → Data → Bool
is_number n d = is_some_and (λ k. k == n) (option_and_then as_u64 (as_number d))

-- a text, and this one
abbrev pub is_text : List ℕ → Data → Bool
is_text text d = is_some_and (λ s. bytes_eq s text) (as_str d)

-- the value false
abbrev pub is_false : Data → Bool
is_false d = is_some_and not (as_bool d)

-- a list
abbrev pub is_list : Data → Bool
is_list d = is_some (as_array d)

-- nothing is in the list
abbrev pub has_no_items : Items → Bool
has_no_items no_items = true
has_no_items (item d ds) = false

-- a list with nothing in it
abbrev pub is_empty_list : Data → Bool
is_empty_list d = is_some_and has_no_items (as_array d)

-- each member has one of these names
abbrev pub are_named : List (List ℕ) → Members → Bool
are_named names no_members = true
are_named names (member k d ms) = list_any (bytes_eq k) names && are_named names ms

-- an object, and each of its members has one of these names
abbrev pub has_only : List (List ℕ) → Data → Bool
has_only names d = is_some_and (are_named names) (as_object d)

-- the text that it is; no bytes if it is none
abbrev pub text_of : Data → List ℕ
text_of d = unwrap_or (as_str d) []

-- the text that each item is
abbrev pub texts_of : Items → List (List ℕ)
texts_of no_items = []
texts_of (item d ds) = text_of d ∷ texts_of ds

-- the text at this name; no bytes if there is none
abbrev pub text_at : List ℕ → Data → List ℕ
text_at name d = unwrap_or (option_and_then as_str (get name d)) []

-- the list at this name; the empty one if there is none
abbrev pub list_at : List ℕ → Data → Items
list_at name d = unwrap_or (option_and_then as_array (get name d)) no_items

-- how long a list is
abbrev pub items_len : Items → ℕ
items_len no_items = 0
items_len (item d ds) = suc (items_len ds)

-- a text
abbrev pub is_string : Data → Bool
is_string d = is_some (as_str d)

-- a truth value
abbrev pub is_truth : Data → Bool
is_truth d = is_some (as_bool d)

-- a whole number of this range
abbrev pub is_within : ℕ → ℕ → Data → Bool
is_within least most d = is_some_and (λ n. nat_le least n && nat_le n most) (option_and_then as_u64 (as_number d))

-- a whole number at most so far from 0
abbrev pub is_bounded : ℕ → Data → Bool
is_bounded most d = is_some_and (λ z. nat_le (nat_abs z) most) (option_and_then as_integer (as_number d))

-- one of these words
abbrev pub is_one_of : List (List ℕ) → Data → Bool
is_one_of words d = is_some_and (λ s. list_any (bytes_eq s) words) (as_str d)

-- ---- what stands at a member

-- the member is there, and passes
abbrev pub must_have : List ℕ → (Data → Bool) → Data → Bool
must_have name test d = is_some_and test (get name d)

-- the member is left out, or passes
abbrev pub may_have : List ℕ → (Data → Bool) → Data → Bool
may_have name test d = is_none_or test (get name d)

-- the member is there, and is this text
abbrev pub has_text : List ℕ → List ℕ → Data → Bool
has_text name text d = must_have name (is_text text) d

-- the items of a list
abbrev pub items_of : Items → List Data
items_of no_items = []
items_of (item d ds) = d ∷ items_of ds

-- the list at this member; the empty one if there is none
abbrev pub list_in : List ℕ → Data → List Data
list_in name d = items_of (list_at name d)

-- the whole number at this member, if there is one
abbrev pub number_at : List ℕ → Data → Option ℕ
number_at name d = option_and_then as_u64 (option_and_then as_number (get name d))

-- the text at this member, if there is one
abbrev pub word_at : List ℕ → Data → Option (List ℕ)
word_at name d = option_and_then as_str (get name d)

-- the truth value at this member, if there is one
abbrev pub truth_at : List ℕ → Data → Option Bool
truth_at name d = option_and_then as_bool (get name d)
