-- The least rule that an entry breaks, and its number.
use Rattle.std.specs.Prelude.{◌≡◌, ◌<◌, ℕ, zero, suc, Bool, true, false, List, Option, Some, None}
use Rattle.sleep_model.specs.declared.entry.Entry.{Entry}
use Rattle.sleep_model.specs.declared.machine.Machine.{Machine}
use Rattle.sleep_model.specs.EntryClasses.{EntryClass, OfJournal, class_of}
use Rattle.rule_definitions.specs.Entry as model
use Rattle.rule_definitions.specs.Entry.{KeepsEntry, KeepsRule, OnJournal}
use Rattle.rule_definitions.specs.Verdict.{BreaksFirst, rule_number}
use Rattle.check_rules.specs.declared.judge.Rule.{Rule}
use Rattle.check_rules.specs.declared.judge.Rule.TheVariants as ours

-- an entry of the journal (own)
abbrev pub is_of_journal : EntryClass → Bool
is_of_journal OfJournal = true
is_of_journal _ = false

-- the rule that is meant (own)
abbrev pub rule_meant : Rule → model.Rule
rule_meant ours.Links = model.Links
rule_meant ours.Numbers = model.Numbers
rule_meant ours.Attempts = model.Attempts
rule_meant ours.Reads = model.Reads
rule_meant ours.Walk = model.Walk
rule_meant ours.Skip = model.Skip
rule_meant ours.Runtime = model.Runtime
rule_meant ours.Owed = model.Owed
rule_meant ours.Freezer = model.Freezer
rule_meant ours.Path = model.Path
rule_meant ours.Answers = model.Answers
rule_meant ours.Restored = model.Restored
rule_meant ours.Steps = model.Steps
rule_meant ours.Enabled = model.Enabled
rule_meant ours.Source = model.Source

-- the index of a rule among all by rising number, from 0 (own)
abbrev pub rule_index : model.Rule → ℕ
rule_index model.Links = 0
rule_index model.Numbers = 1
rule_index model.Attempts = 2
rule_index model.Reads = 3
rule_index model.Walk = 4
rule_index model.Skip = 5
rule_index model.Runtime = 6
rule_index model.Owed = 7
rule_index model.Freezer = 8
rule_index model.Path = 9
rule_index model.Answers = 10
rule_index model.Restored = 11
rule_index model.Steps = 12
rule_index model.Enabled = 13
rule_index model.Source = 14

-- the rule at that index (own)
abbrev pub rule_at : ℕ → model.Rule
rule_at zero = model.Links
rule_at (suc zero) = model.Numbers
rule_at (suc (suc zero)) = model.Attempts
rule_at (suc (suc (suc zero))) = model.Reads
rule_at (suc (suc (suc (suc zero)))) = model.Walk
rule_at (suc (suc (suc (suc (suc zero))))) = model.Skip
rule_at (suc (suc (suc (suc (suc (suc zero)))))) = model.Runtime
rule_at (suc (suc (suc (suc (suc (suc (suc zero))))))) = model.Owed
rule_at (suc (suc (suc (suc (suc (suc (suc (suc zero)))))))) = model.Freezer
rule_at (suc (suc (suc (suc (suc (suc (suc (suc (suc zero))))))))) = model.Path
rule_at (suc (suc (suc (suc (suc (suc (suc (suc (suc (suc zero)))))))))) = model.Answers
rule_at (suc (suc (suc (suc (suc (suc (suc (suc (suc (suc (suc zero))))))))))) = model.Restored
rule_at (suc (suc (suc (suc (suc (suc (suc (suc (suc (suc (suc (suc zero)))))))))))) = model.Steps
rule_at (suc (suc (suc (suc (suc (suc (suc (suc (suc (suc (suc (suc (suc zero))))))))))))) = model.Enabled
rule_at _ = model.Source

-- an entry keeps the rules before that index (own)
abbrev pub KeepsBelow : Machine → List Entry → Entry → ℕ → Type 0
KeepsBelow m past e n = (rule : model.Rule) → rule_index rule < n → KeepsRule m past e (class_of e.kind) rule

-- it breaks none, or the rule of that number and none that has a lesser one (own)
abbrev pub IsBroken : Machine → List Entry → Entry → Option ℕ → Type 0
IsBroken m past e None = KeepsEntry m past e
IsBroken m past e (Some n) = (rule : model.Rule) × ((rule_number rule ≡ n) × BreaksFirst m past e rule)

-- it keeps the rules that also concern entries of sources and jumps (own)
pub record KeepsTogether (m : Machine) (past : List Entry) (e : Entry) (part : EntryClass) : Type 0 where
  pub numbers : KeepsRule m past e part model.Numbers
  pub walk : KeepsRule m past e part model.Walk
  pub freezer : KeepsRule m past e part model.Freezer
  pub path : KeepsRule m past e part model.Path
  pub steps : KeepsRule m past e part model.Steps
  pub enabled : KeepsRule m past e part model.Enabled
  pub source : KeepsRule m past e part model.Source
