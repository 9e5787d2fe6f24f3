-- Names: how they are spelled, and that they are distinct.
use Rattle.std.specs.Prelude.{ℕ, List, [], ◌∷◌, codes, Bool, not, ◌&&◌, bytes_eq, map, Option, option_map}
use Rattle.std.specs.List.{list_any}
use Rattle.std.specs.Option.{option_or}
use Rattle.serde_json.specs.Data.{Data}
use Rattle.serde_json.specs.Find.{as_str}
use Rattle.borrowed_json.specs.Look.{is_some_and, text_of, must_have, may_have, list_in}
use Rattle.file_rules.specs.Places.{item_place, first_not_after}
use Rattle.file_rules.specs.Form.{Named, row, first_in_lists}
use Rattle.file_rules.specs.Rules.{name_of}
use Rattle.sleep_model.specs.NameBytes.{is_name}

-- ---- how they are spelled

-- a text that is spelled as names are
abbrev pub spells_name : Data → Bool
spells_name d = is_some_and is_name (as_str d)

-- the names of a device: its own, and its parent's
abbrev pub names_of_device : Data → Bool
names_of_device d = must_have (codes "name") spells_name d && may_have (codes "parent") spells_name d

-- the names of a link: its ends
abbrev pub names_of_link : Data → Bool
names_of_link d = must_have (codes "supplier") spells_name d && must_have (codes "consumer") spells_name d

-- a thing's own name
abbrev pub own_name : Data → Bool
own_name d = must_have (codes "name") spells_name d

-- the names in each list's items
abbrev pub item_names : List (Named (Data → Bool))
item_names =
    row (codes "devices") names_of_device
    ∷ row (codes "links") names_of_link
    ∷ row (codes "syscore") spells_name
    ∷ row (codes "notifiers") own_name
    ∷ row (codes "sources") spells_name
    ∷ row (codes "actors") own_name
    ∷ row (codes "answers") own_name
    ∷ []

-- the place of a misspelled name
abbrev pub misspelled_item : Data → Option (List ℕ)
misspelled_item file = first_in_lists item_names file

-- ---- who has which

-- one of these names
abbrev pub is_among_names : List (List ℕ) → List ℕ → Bool
is_among_names names name = list_any (bytes_eq name) names

-- the names of a list of objects
abbrev pub names_in : List ℕ → Data → List (List ℕ)
names_in list file = map name_of (list_in list file)

-- the names of a list of names
abbrev pub texts_in : List ℕ → Data → List (List ℕ)
texts_in list file = map text_of (list_in list file)

-- the names of the devices
abbrev pub devices_named : Data → List (List ℕ)
devices_named file = names_in (codes "devices") file

-- the names of the wakeup sources
abbrev pub sources_named : Data → List (List ℕ)
sources_named file = texts_in (codes "sources") file

-- the place of a list's first name that it has before
abbrev pub repeated : List ℕ → List (List ℕ) → Option (List ℕ)
repeated list names = option_map (item_place list) (first_not_after (λ before name. not (is_among_names before name)) [] 0 names)

-- the place of a device with another's name (device_add)
abbrev pub repeated_device : Data → Option (List ℕ)
repeated_device file = repeated (codes "devices") (devices_named file)

-- the place of a syscore callback or a notifier with another's name (own)
abbrev pub repeated_callback : Data → Option (List ℕ)
repeated_callback file = option_or (repeated (codes "syscore") (texts_in (codes "syscore") file)) (repeated (codes "notifiers") (names_in (codes "notifiers") file))

-- the place of a source with another's name, or that of autosleep's own (pm_autosleep_init)
abbrev pub repeated_source : Data → Option (List ℕ)
repeated_source file =
    option_map (item_place (codes "sources")) (first_not_after (λ before name. not (is_among_names (codes "autosleep" ∷ before) name)) [] 0 (sources_named file))

-- the place of an actor with another's name (own)
abbrev pub repeated_actor : Data → Option (List ℕ)
repeated_actor file = repeated (codes "actors") (names_in (codes "actors") file)
