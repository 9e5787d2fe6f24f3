-- An entry of the journal that is due at its index.
use Rattle.std.specs.Prelude.{◌≡◌, List}
use Rattle.sleep_model.specs.declared.entry.Entry.{Entry}
use Rattle.sleep_model.specs.declared.machine.Machine.{Machine}
use Rattle.sleep_model.specs.declared.progress.Due.TheVariants.{Makes}
use Rattle.sleep_model.specs.Due.{due}
use Rattle.sleep_model.specs.Legal.{IsOutside, IsOwnTurn}
use Rattle.sleep_model.specs.Numbers.{numbers}
use Rattle.sleep_model.specs.EntryClasses.{OfJournal, journal, class_of}
use Rattle.rule_definitions.specs.Numbers.{KeepsNumbers}
use Rattle.sleep_model.specs.Sources.{history}

-- the entry is the journal's, and carries the numbers and the time of its index (own)
abbrev pub HasNumbersOfIndex : List Entry → Entry → Type 0
HasNumbersOfIndex past e = (class_of e.kind ≡ OfJournal) × KeepsNumbers past e (class_of e.kind)

-- the entry of the journal is at its index, and due of its actor, which is inside no call and has made those that come before (own)
pub record IsNextEntry (m : Machine) (past : List Entry) (e : Entry) : Type 0 where
  pub placed : HasNumbersOfIndex past e
  pub made : due m (journal past) e.actor (numbers past) ≡ Makes e.kind
  pub turn : IsOwnTurn m (journal past) (λ s. history s past) e.actor
  pub outside : IsOutside m (λ s. history s past) e.actor
