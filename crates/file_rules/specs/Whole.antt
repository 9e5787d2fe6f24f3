-- Which files are accepted, which machine they spell, and the first rule that a refused one breaks.
use Rattle.std.specs.Prelude.{◌≡◌, ℕ, List, [], ◌∷◌, ◌++◌, codes, decimal, ℤ, pos, map, Option, Some, None, option_map, option_and_then, unwrap_or}
use Rattle.std.specs.Option.{option_or}
use Rattle.serde_json.specs.Data.{Data}
use Rattle.serde_json.specs.Find.{get, as_number, as_integer}
use Rattle.sleep_model.specs.declared.machine.Machine.{Machine}
use Rattle.sleep_model.specs.declared.machine.Notifier.{Notifier}
use Rattle.sleep_model.specs.Text.{newline}
use Rattle.file_rules.specs.Tree.{tree}
use Rattle.borrowed_json.specs.Look.{list_in, number_at, has_only}
use Rattle.file_rules.specs.Members.{file_members}
use Rattle.file_rules.specs.Places.{unless}
use Rattle.file_rules.specs.Form.{unformed_member, unformed_item}
use Rattle.file_rules.specs.Names.{misspelled_item, repeated_device, repeated_callback, repeated_source, repeated_actor, texts_in, sources_named}
use Rattle.file_rules.specs.Devices.{orphan, loose_link, repeated_link, cyclic_link, whole_devices, whole_links}
use Rattle.file_rules.specs.Operations.{unformed_operation, forbidden_operation, sourceless_operation, deviceless_operation, whole_marks, whole_scripts}
use Rattle.file_rules.specs.Answering.{thingless_answer, forbidden_ret, forbidden_reports, sourceless_report, repeated_answer, whole_answers}
use Rattle.file_rules.specs.Limits.{too_many, too_much}
use Rattle.file_rules.specs.Rules.{has_version, name_of}

-- ---- the rules

-- a rule of values: its number, and the first place that breaks it
pub record Rule : Type 0 where
  pub number : ℕ
  pub broken : Data → Option (List ℕ)

-- such a rule
abbrev pub rule : ℕ → (Data → Option (List ℕ)) → Rule
rule number broken = record { number = number; broken = broken }

-- the rules of values, in the order in which a broken one is named (own)
abbrev pub rules : List Rule
rules =
    rule 2 (λ d. unless (has_only file_members d) (codes "top"))
    ∷ rule 3 (λ d. unless (has_version d) (codes "version"))
    ∷ rule 4 unformed_member
    ∷ rule 5 unformed_item
    ∷ rule 6 too_many
    ∷ rule 7 misspelled_item
    ∷ rule 8 repeated_device
    ∷ rule 9 orphan
    ∷ rule 10 loose_link
    ∷ rule 11 repeated_link
    ∷ rule 12 cyclic_link
    ∷ rule 13 repeated_callback
    ∷ rule 14 repeated_source
    ∷ rule 15 repeated_actor
    ∷ rule 16 unformed_operation
    ∷ rule 17 forbidden_operation
    ∷ rule 18 (λ d. option_or (sourceless_operation d) (sourceless_report d))
    ∷ rule 19 deviceless_operation
    ∷ rule 20 thingless_answer
    ∷ rule 21 forbidden_ret
    ∷ rule 22 forbidden_reports
    ∷ rule 23 repeated_answer
    ∷ rule 24 too_much
    ∷ []

-- a broken rule's number, and the first place that breaks it
pub record Broken : Type 0 where
  pub rule : ℕ
  pub place : List ℕ

-- a rule that is broken there
abbrev pub broken_at : ℕ → List ℕ → Broken
broken_at rule place = record { rule = rule; place = place }

-- the first of these rules that a value breaks, and its first place
abbrev pub first_of : List Rule → Data → Option Broken
first_of [] d = None
first_of (r ∷ rest) d = option_or (option_map (broken_at r.number) (r.broken d)) (first_of rest d)

-- the first rule that a value breaks, and its first place
abbrev pub first_broken : Data → Option Broken
first_broken d = first_of rules d

-- the first rule that a value breaks; if there is no value, the one on reading
abbrev pub broken_by : Option Data → Option Broken
broken_by None = Some (broken_at 1 (codes "json"))
broken_by (Some d) = first_broken d

-- the first rule that a file breaks, and its first place
abbrev pub broken_in : List ℕ → Option Broken
broken_in bytes = broken_by (tree bytes)

-- the text on a file that is refused
abbrev pub refusal_text : Broken → List ℕ
refusal_text b = codes "machine: rule " ++ decimal b.rule ++ codes ": " ++ b.place ++ newline

-- ---- the machine

-- a notifier's priority; without one, 0 (struct notifier_block, priority)
abbrev pub priority_of : Data → ℤ
priority_of d = unwrap_or (option_and_then as_integer (option_and_then as_number (get (codes "priority") d))) (pos 0)

-- a notifier
abbrev pub whole_notifier : Data → Notifier
whole_notifier d = record { name = name_of d; priority = priority_of d }

-- the machine that a value spells, if it obeys the rules
abbrev pub whole_machine : Data → Machine
whole_machine d = record {
  alarm_ms = unwrap_or (number_at (codes "alarm_ms") d) 1000;
  cpus = unwrap_or (number_at (codes "cpus") d) 1;
  auto_cycles = unwrap_or (number_at (codes "auto_cycles") d) 16;
  devices = whole_devices d;
  links = whole_links d;
  syscore = texts_in (codes "syscore") d;
  notifiers = map whole_notifier (list_in (codes "notifiers") d);
  sources = sources_named d;
  marks = whole_marks d;
  actors = whole_scripts d;
  answers = whole_answers d;
}

-- the machine, if no rule is broken
abbrev pub unless_broken : Option Broken → Machine → Option Machine
unless_broken None m = Some m
unless_broken (Some b) m = None

-- the machine that the bytes of a file spell, if they are accepted
abbrev pub machine_in : List ℕ → Option Machine
machine_in bytes = option_and_then (λ d. unless_broken (first_broken d) (whole_machine d)) (tree bytes)

-- the bytes are accepted, and spell this machine
abbrev pub SpellsWhole : List ℕ → Machine → Type 0
SpellsWhole bytes m = machine_in bytes ≡ Some m

-- a machine that some accepted bytes spell
abbrev pub IsSpelled : Machine → Type 0
IsSpelled m = (bytes : List ℕ) × SpellsWhole bytes m
