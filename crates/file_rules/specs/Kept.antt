-- Links that keep each rule on one link, and the rules on form but for those on one link.
use Rattle.std.specs.Prelude.{ℕ, List, [], ◌∷◌, codes, Bool, ◌&&◌}
use Rattle.serde_json.specs.Data.{Data}
use Rattle.borrowed_json.specs.Look.{has_only, is_one_of, is_string, may_have, must_have, text_at}
use Rattle.file_rules.specs.Form.{Named, first_in_lists, is_actor_form, is_answer_form, is_device_form, is_notifier_form, link_states, row}
use Rattle.file_rules.specs.Groups.{form_rules_by}
use Rattle.file_rules.specs.Members.{link_members}
use Rattle.file_rules.specs.Names.{is_among_names, names_of_device, own_name, spells_name}
use Rattle.file_rules.specs.Whole.{Rule}

-- the device that is named at a member, which has to be given, is of these
abbrev pub has_end : List ℕ → List (List ℕ) → Data → Bool
has_end member devices l = must_have member spells_name l && is_among_names devices (text_at member l)

-- a link in form between two of these devices, in a file of version 2 or of version 1
abbrev pub is_valid_link : Bool → List (List ℕ) → Data → Bool
is_valid_link second devices l =
    has_only (link_members second) l && may_have (codes "state") (is_one_of link_states) l && has_end (codes "supplier") devices l && has_end (codes "consumer") devices l

-- the form of the items of each list but that of links
abbrev pub other_forms : List (Named (Data → Bool))
other_forms =
    row (codes "devices") is_device_form
    ∷ row (codes "syscore") is_string
    ∷ row (codes "notifiers") is_notifier_form
    ∷ row (codes "sources") is_string
    ∷ row (codes "actors") is_actor_form
    ∷ row (codes "answers") is_answer_form
    ∷ []

-- the names in them
abbrev pub other_names : List (Named (Data → Bool))
other_names =
    row (codes "devices") names_of_device
    ∷ row (codes "syscore") spells_name
    ∷ row (codes "notifiers") own_name
    ∷ row (codes "sources") spells_name
    ∷ row (codes "actors") own_name
    ∷ row (codes "answers") own_name
    ∷ []

-- the rules on form, number and the spelling of names, but for links
abbrev pub head_rules : List Rule
head_rules = form_rules_by (first_in_lists other_forms) (first_in_lists other_names)
