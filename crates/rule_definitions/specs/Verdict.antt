-- The first bad line of a log, and the number of the rule that it breaks: its entries, then its statistics, then its end.
use Rattle.std.specs.Prelude.{◌≡◌, ◌<◌, ◌+◌, ℕ, List, ◌∷◌, ◌++◌, length, reverse, take, slice_get}
use Rattle.sleep_model.specs.declared.entry.Entry.{Entry}
use Rattle.sleep_model.specs.declared.log.Log.{Log}
use Rattle.sleep_model.specs.declared.machine.Machine.{Machine}
use Rattle.sleep_model.specs.Legal.{IsLegalLog, IsFinishedLog, stats_of}
use Rattle.sleep_model.specs.EntryClasses.{class_of}
use Rattle.rule_definitions.specs.Entry.{Rule, Links, Numbers, Attempts, Reads, Walk, Skip, Runtime, Owed, Freezer, Path, Answers, Restored, Steps, Enabled, Source, KeepsRule, KeepsEach}

-- the number that a verdict gives a rule (own)
abbrev pub rule_number : Rule → ℕ
rule_number Links = 2
rule_number Numbers = 4
rule_number Attempts = 7
rule_number Reads = 8
rule_number Walk = 9
rule_number Skip = 10
rule_number Runtime = 11
rule_number Owed = 12
rule_number Freezer = 13
rule_number Path = 14
rule_number Answers = 15
rule_number Restored = 16
rule_number Steps = 17
rule_number Enabled = 18
rule_number Source = 22

-- an entry breaks that rule, and obeys each that has a lesser number (own)
pub record BreaksFirst (m : Machine) (past : List Entry) (e : Entry) (rule : Rule) : Type 0 where
  pub breaks : KeepsRule m past e (class_of e.kind) rule → ⊥
  pub lesser : (other : Rule) → rule_number other < rule_number rule → KeepsRule m past e (class_of e.kind) other

-- the first bad line of a log, from 1, and its number: an entry before which all is well, with the least rule that it breaks; if all
-- entries are well, the first line of statistics that is not its source's; if these are, the end of a log that is not finished (own)
pub data IsFirstBad (m : Machine) (log : Log) : ℕ → ℕ → Type 0 where
  AtEntry : (later past : List Entry) (e : Entry) (rule : Rule) → reverse log.entries ≡ later ++ e ∷ past → KeepsEach m past → BreaksFirst m past e rule → IsFirstBad m log (length past + 1) (rule_number rule)
  AtStats : (k : ℕ) → KeepsEach m (reverse log.entries) → k < length log.stats → take k log.stats ≡ take k (stats_of m (reverse log.entries)) → (slice_get log.stats k ≡ slice_get (stats_of m (reverse log.entries)) k → ⊥) → IsFirstBad m log (length log.entries + k + 1) 22
  AtEnd : KeepsEach m (reverse log.entries) → log.stats ≡ stats_of m (reverse log.entries) → (IsFinishedLog m log → ⊥) → IsFirstBad m log (length log.entries + length log.stats + 1) 20

-- a log is good: it is legal, and finished (own)
pub record IsGood (m : Machine) (log : Log) : Type 0 where
  pub legal : IsLegalLog m log
  pub finished : IsFinishedLog m log

-- a good log has no bad line (own)
abbrev pub GoodHasNone : Type 0
GoodHasNone = (m : Machine) (log : Log) (line number : ℕ) → IsGood m log → IsFirstBad m log line number → ⊥

-- a log has one first bad line at most, with one number (own)
abbrev pub FirstBadIsOne : Type 0
FirstBadIsOne =
    (m : Machine) (log : Log) (line number other_line other_number : ℕ) → IsFirstBad m log line number
    → IsFirstBad m log other_line other_number → (line ≡ other_line) × (number ≡ other_number)
