-- All rules of an entry among all entries: of the journal, of a source, or a jump of time.
use Rattle.std.specs.Prelude.{List, [], ◌∷◌}
use Rattle.sleep_model.specs.declared.entry.Entry.{Entry}
use Rattle.sleep_model.specs.declared.machine.Machine.{Machine}
use Rattle.sleep_model.specs.Legal.{IsLegal}
use Rattle.sleep_model.specs.Numbers.{numbers}
use Rattle.sleep_model.specs.EntryClasses.{EntryClass, OfJournal, class_of, journal}
use Rattle.rule_definitions.specs.Answers.{KeepsAnswers}
use Rattle.rule_definitions.specs.Attempts.{KeepsAttempts}
use Rattle.rule_definitions.specs.Enabled.{EnabledEntry}
use Rattle.rule_definitions.specs.Freezer.{FreezerEntry}
use Rattle.rule_definitions.specs.Links.{KeepsLinks}
use Rattle.rule_definitions.specs.Numbers.{KeepsNumbers}
use Rattle.rule_definitions.specs.Owed.{KeepsOwed}
use Rattle.rule_definitions.specs.Path.{PathEntry}
use Rattle.rule_definitions.specs.Reads.{KeepsReads}
use Rattle.rule_definitions.specs.Restored.{KeepsRestored}
use Rattle.rule_definitions.specs.Runtime.{KeepsRuntime}
use Rattle.rule_definitions.specs.Skip.{KeepsSkip}
use Rattle.rule_definitions.specs.Source.{SourceEntry}
use Rattle.rule_definitions.specs.Steps.{StepsEntry}
use Rattle.rule_definitions.specs.Walk.{WalkEntry}

-- a claim about entries of the journal only
abbrev pub OnJournal : EntryClass → Type 0 → Type 0
OnJournal OfJournal rule = rule
OnJournal _ rule = Unit {0}

-- a rule of an entry (own)
pub data Rule : Type 0 where
  Links : Rule
  Numbers : Rule
  Attempts : Rule
  Reads : Rule
  Walk : Rule
  Skip : Rule
  Runtime : Rule
  Owed : Rule
  Freezer : Rule
  Path : Rule
  Answers : Rule
  Restored : Rule
  Steps : Rule
  Enabled : Rule
  Source : Rule

-- an entry of that part after these obeys that rule (kernel/power/suspend.c, kernel/power/main.c, drivers/base/power/main.c,
-- drivers/base/power/wakeup.c)
abbrev pub KeepsRule : Machine → List Entry → Entry → EntryClass → Rule → Type 0
KeepsRule m past e part Links = OnJournal part (KeepsLinks m (journal past) e.kind)
KeepsRule m past e part Numbers = KeepsNumbers past e part
KeepsRule m past e part Attempts = OnJournal part (KeepsAttempts (journal past) e.kind)
KeepsRule m past e part Reads = OnJournal part (KeepsReads m (journal past) (numbers past) e.actor e.kind)
KeepsRule m past e part Walk = WalkEntry m past e part
KeepsRule m past e part Skip = OnJournal part (KeepsSkip m (journal past) (numbers past) e.kind)
KeepsRule m past e part Runtime = OnJournal part (KeepsRuntime m (journal past) e.kind)
KeepsRule m past e part Owed = OnJournal part (KeepsOwed m (journal past) e.kind)
KeepsRule m past e part Freezer = FreezerEntry m past e part
KeepsRule m past e part Path = PathEntry m past e part
KeepsRule m past e part Answers = OnJournal part (KeepsAnswers (journal past) e.kind)
KeepsRule m past e part Restored = OnJournal part (KeepsRestored m (journal past) e.kind)
KeepsRule m past e part Steps = StepsEntry m past e part
KeepsRule m past e part Enabled = EnabledEntry m past e part
KeepsRule m past e part Source = SourceEntry m past e part

-- an entry of that part after these obeys each rule (kernel/power/suspend.c, kernel/power/main.c, drivers/base/power/main.c,
-- drivers/base/power/wakeup.c)
pub record KeepsPart (m : Machine) (past : List Entry) (e : Entry) (part : EntryClass) : Type 0 where
  pub links : KeepsRule m past e part Links
  pub numbers : KeepsRule m past e part Numbers
  pub attempts : KeepsRule m past e part Attempts
  pub reads : KeepsRule m past e part Reads
  pub walk : KeepsRule m past e part Walk
  pub skip : KeepsRule m past e part Skip
  pub runtime : KeepsRule m past e part Runtime
  pub owed : KeepsRule m past e part Owed
  pub freezer : KeepsRule m past e part Freezer
  pub path : KeepsRule m past e part Path
  pub answers : KeepsRule m past e part Answers
  pub restored : KeepsRule m past e part Restored
  pub steps : KeepsRule m past e part Steps
  pub enabled : KeepsRule m past e part Enabled
  pub source : KeepsRule m past e part Source

-- an entry after these obeys each rule (kernel/power/suspend.c, kernel/power/main.c, drivers/base/power/main.c,
-- drivers/base/power/wakeup.c)
abbrev pub KeepsEntry : Machine → List Entry → Entry → Type 0
KeepsEntry m past e = KeepsPart m past e (class_of e.kind)

-- after legal entries one more is legal exactly if it obeys each rule (kernel/power/suspend.c, kernel/power/main.c)
pub record LegalKeepsRules (m : Machine) (past : List Entry) (e : Entry) : Type 0 where
  pub keeps : IsLegal m (e ∷ past) → KeepsEntry m past e
  pub legal : KeepsEntry m past e → IsLegal m (e ∷ past)

-- so after each legal list of entries, of whatever machine: what is legal is what obeys the rules (kernel/power/suspend.c,
-- kernel/power/main.c)
abbrev pub OneForEntries : Type 0
OneForEntries = (m : Machine) (past : List Entry) (e : Entry) → IsLegal m past → LegalKeepsRules m past e

-- each entry, the newest first, obeys each rule after the older ones
abbrev pub KeepsEach : Machine → List Entry → Type 0
KeepsEach m [] = Unit {0}
KeepsEach m (e ∷ past) = KeepsEntry m past e × KeepsEach m past

-- a list of entries is legal exactly if each of them obeys each rule (kernel/power/suspend.c, kernel/power/main.c)
pub record LegalLogKeepsRules (m : Machine) (past : List Entry) : Type 0 where
  pub keeps : IsLegal m past → KeepsEach m past
  pub legal : KeepsEach m past → IsLegal m past

-- so for every machine and every list of entries (kernel/power/suspend.c, kernel/power/main.c)
abbrev pub OneForLists : Type 0
OneForLists = (m : Machine) (past : List Entry) → LegalLogKeepsRules m past
