-- The tests of items and of operations, by name.
use Rattle.std.specs.Prelude.{Bool}
use Rattle.serde_json.specs.Data.{Data}
use Rattle.file_rules.specs.declared.rules.items.ItemTest.{ItemTest}
use Rattle.file_rules.specs.declared.rules.items.ItemTest.TheVariants as test
use Rattle.borrowed_json.specs.Look.{is_string}
use Rattle.file_rules.specs.Form.{is_device_form, is_link_form, is_notifier_form, is_actor_form, is_answer_form}
use Rattle.file_rules.specs.Names.{spells_name, names_of_device, names_of_link, own_name}

-- a test of an item of a list
abbrev pub item_test : ItemTest → Data → Bool
item_test test.DeviceForm = is_device_form
item_test (test.LinkForm second) = is_link_form second
item_test test.Text = is_string
item_test test.NotifierForm = is_notifier_form
item_test test.ActorForm = is_actor_form
item_test test.AnswerForm = is_answer_form
item_test test.DeviceNames = names_of_device
item_test test.LinkNames = names_of_link
item_test test.NameText = spells_name
item_test test.OwnName = own_name
