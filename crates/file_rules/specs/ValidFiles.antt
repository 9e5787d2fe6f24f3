-- The rules of a file by groups, and a file that keeps them.
use Rattle.std.specs.Prelude.{Bool, Option, is_none}
use Rattle.std.specs.Option.{option_or, option_map}
use Rattle.serde_json.specs.Data.{Data}
use Rattle.file_rules.specs.Devices.{cyclic_link}
use Rattle.file_rules.specs.Whole.{Broken, first_of, broken_at}
use Rattle.file_rules.specs.Groups.{form_rules, device_rules, end_rules, thing_rules, operation_rules, answer_rules, last_rules}
use Rattle.file_rules.specs.Kept.{head_rules}

-- the first rule on form that is broken
unfoldable pub broken_form : Data → Option Broken
broken_form d = first_of form_rules d

-- the first of them that is broken, but for links
unfoldable pub broken_head : Data → Option Broken
broken_head d = first_of head_rules d

-- the first rule on devices that is broken
unfoldable pub broken_devices : Data → Option Broken
broken_devices d = first_of device_rules d

-- the first rule on the ends of links that is broken
unfoldable pub broken_ends : Data → Option Broken
broken_ends d = first_of end_rules d

-- the rule on cycles, if it is broken
unfoldable pub broken_cycle : Data → Option Broken
broken_cycle d = option_map (broken_at 12) (cyclic_link d)

-- the first rule on operations and answers that is broken
unfoldable pub broken_behaviour : Data → Option Broken
broken_behaviour d = option_or (first_of operation_rules d) (first_of answer_rules d)

-- the first rule after that on cycles that is broken
unfoldable pub broken_rest : Data → Option Broken
broken_rest d = option_or (option_or (first_of thing_rules d) (broken_behaviour d)) (first_of last_rules d)

-- the first rule that is broken
abbrev pub first_in_order : Data → Option Broken
first_in_order d = option_or (broken_form d) (option_or (broken_devices d) (option_or (broken_ends d) (option_or (broken_cycle d) (broken_rest d))))

-- no rule is broken
abbrev pub keeps_rules : Data → Bool
keeps_rules d = is_none (first_in_order d)
