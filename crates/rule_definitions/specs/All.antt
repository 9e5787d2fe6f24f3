-- All rules of an entry of the journal.
use Rattle.std.specs.Prelude.{List}
use Rattle.sleep_model.specs.declared.entry.Actor.{Actor}
use Rattle.sleep_model.specs.declared.entry.Entry.{Entry}
use Rattle.sleep_model.specs.declared.entry.Kind.{Kind}
use Rattle.sleep_model.specs.declared.machine.Machine.{Machine}
use Rattle.sleep_model.specs.declared.word.EventNow.{EventNow}
use Rattle.rule_definitions.specs.Answers.{KeepsAnswers}
use Rattle.rule_definitions.specs.Attempts.{KeepsAttempts}
use Rattle.rule_definitions.specs.Enabled.{KeepsEnabled}
use Rattle.rule_definitions.specs.Freezer.{KeepsFreezer}
use Rattle.rule_definitions.specs.Links.{KeepsLinks}
use Rattle.rule_definitions.specs.Owed.{KeepsOwed}
use Rattle.rule_definitions.specs.Path.{KeepsPath}
use Rattle.rule_definitions.specs.Reads.{KeepsReads}
use Rattle.rule_definitions.specs.Restored.{KeepsRestored}
use Rattle.rule_definitions.specs.Runtime.{KeepsRuntime}
use Rattle.rule_definitions.specs.Skip.{KeepsSkip}
use Rattle.rule_definitions.specs.Steps.{KeepsSteps}
use Rattle.rule_definitions.specs.Walk.{KeepsWalk}

-- what an actor that sees this word makes after the journal's entries obeys each rule but two (kernel/power/suspend.c, kernel/power/main.c)
pub record KeepsMost (m : Machine) (past : List Entry) (now : EventNow) (who : Actor) (k : Kind) : Type 0 where
  pub links : KeepsLinks m past k
  pub attempts : KeepsAttempts past k
  pub reads : KeepsReads m past now who k
  pub walk : KeepsWalk m past now k
  pub skip : KeepsSkip m past now k
  pub runtime : KeepsRuntime m past k
  pub freezer : KeepsFreezer m past now who k
  pub path : KeepsPath m past now who k
  pub answers : KeepsAnswers past k
  pub steps : KeepsSteps m past now who k
  pub enabled : KeepsEnabled m past now who k

-- and these two, which follow: only what is owed is undone, and nothing is owed in the end (suspend_devices_and_enter, suspend_finish)
pub record KeepsAll (m : Machine) (past : List Entry) (now : EventNow) (who : Actor) (k : Kind) : Type 0 where
  pub most : KeepsMost m past now who k
  pub owed : KeepsOwed m past k
  pub restored : KeepsRestored m past k
