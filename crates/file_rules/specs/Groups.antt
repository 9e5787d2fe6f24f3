-- The rules of values by what they are about, in the order in which a broken one is named.
use Rattle.std.specs.Prelude.{ℕ, List, [], ◌∷◌, codes, Option}
use Rattle.std.specs.Option.{option_or}
use Rattle.serde_json.specs.Data.{Data}
use Rattle.file_rules.specs.Members.{file_members}
use Rattle.file_rules.specs.Places.{unless}
use Rattle.file_rules.specs.Form.{unformed_member, unformed_item}
use Rattle.file_rules.specs.Names.{misspelled_item, repeated_device, repeated_callback, repeated_source, repeated_actor}
use Rattle.file_rules.specs.Devices.{orphan, loose_link, repeated_link}
use Rattle.file_rules.specs.Operations.{unformed_operation, forbidden_operation, sourceless_operation, deviceless_operation}
use Rattle.file_rules.specs.Answering.{thingless_answer, forbidden_ret, forbidden_reports, sourceless_report, repeated_answer}
use Rattle.file_rules.specs.Limits.{too_many, too_much}
use Rattle.file_rules.specs.Rules.{has_version}
use Rattle.borrowed_json.specs.Look.{has_only}
use Rattle.file_rules.specs.Whole.{Rule, rule}

-- the rules on form, number and the spelling of names, of which these two are the places of an item that has not its form, and of one that is
-- misspelled
abbrev pub form_rules_by : (Data → Option (List ℕ)) → (Data → Option (List ℕ)) → List Rule
form_rules_by unformed misspelled =
    rule 2 (λ d. unless (has_only file_members d) (codes "top"))
    ∷ rule 3 (λ d. unless (has_version d) (codes "version"))
    ∷ rule 4 unformed_member
    ∷ rule 5 unformed
    ∷ rule 6 too_many
    ∷ rule 7 misspelled
    ∷ []

-- the rules on form, number and the spelling of names
abbrev pub form_rules : List Rule
form_rules = form_rules_by unformed_item misspelled_item

-- the rules on the names and the parents of devices
abbrev pub device_rules : List Rule
device_rules = rule 8 repeated_device ∷ rule 9 orphan ∷ []

-- the rules on the ends of links
abbrev pub end_rules : List Rule
end_rules = rule 10 loose_link ∷ rule 11 repeated_link ∷ []

-- the rules on the names of other things
abbrev pub thing_rules : List Rule
thing_rules = rule 13 repeated_callback ∷ rule 14 repeated_source ∷ rule 15 repeated_actor ∷ []

-- the rules on operations
abbrev pub operation_rules : List Rule
operation_rules =
    rule 16 unformed_operation ∷ rule 17 forbidden_operation ∷ rule 18 (λ d. option_or (sourceless_operation d) (sourceless_report d)) ∷ rule 19 deviceless_operation ∷ []

-- the rules on what answers are of, and on what they are
abbrev pub answer_rules : List Rule
answer_rules = rule 20 thingless_answer ∷ rule 21 forbidden_ret ∷ rule 22 forbidden_reports ∷ []

-- these, after that on the sources of reports
abbrev pub reply_rules : List Rule
reply_rules = rule 18 sourceless_report ∷ answer_rules

-- the rules on answers that come again, and on how much may happen
abbrev pub last_rules : List Rule
last_rules = rule 23 repeated_answer ∷ rule 24 too_much ∷ []
