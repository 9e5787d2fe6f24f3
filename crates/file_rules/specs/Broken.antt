-- A place that breaks a rule, as it is written.
use Rattle.std.specs.Prelude.{ℕ, List, codes, Option, option_map}
use Rattle.file_rules.specs.declared.value.place.Member.{Member}
use Rattle.file_rules.specs.declared.value.place.Member.TheVariants as member
use Rattle.file_rules.specs.declared.value.place.Place.{Place}
use Rattle.file_rules.specs.declared.value.place.Place.TheVariants as place
use Rattle.file_rules.specs.Places.{item_place, operation_place}
use Rattle.file_rules.specs.declared.rules.Broken.{Broken as Found}
use Rattle.file_rules.specs.Whole.{Broken}

-- a member's name
abbrev pub member_name : Member → List ℕ
member_name member.Version = codes "version"
member_name member.AlarmMs = codes "alarm_ms"
member_name member.Cpus = codes "cpus"
member_name member.AutoCycles = codes "auto_cycles"
member_name member.Devices = codes "devices"
member_name member.Links = codes "links"
member_name member.Syscore = codes "syscore"
member_name member.Notifiers = codes "notifiers"
member_name member.Sources = codes "sources"
member_name member.Actors = codes "actors"
member_name member.Answers = codes "answers"

-- a place
abbrev pub place_text : Place → List ℕ
place_text place.Json = codes "json"
place_text place.Top = codes "top"
place_text (place.Member m) = member_name m
place_text (place.Item m n) = item_place (member_name m) n
place_text (place.Operation actor n) = operation_place actor n

-- a place, if there is one
abbrev pub place_of : Option Place → Option (List ℕ)
place_of p = option_map place_text p

-- a broken rule and its place
abbrev pub broken_view : Found → Broken
broken_view b = record { rule = b.rule; place = place_text b.place }
