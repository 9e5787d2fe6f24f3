-- At each point of a log prepare and complete over the board are those of the definitions.
use Rattle.std.proofs.Common.{◌≡◌, ℕ, ℤ, List, Option, Some, None, IfSome, refl, ap}
use Rattle.sleep_base.specs.declared.errno.Errno.{Errno}
use Rattle.sleep_model.specs.declared.entry.Entry.{Entry}
use Rattle.sleep_model.specs.declared.entry.Kind.TheVariants as kind
use Rattle.sleep_model.specs.declared.machine.Machine.{Machine}
use Rattle.sleep_model.specs.declared.progress.Due.TheVariants.{Makes}
use Rattle.sleep_model.specs.Devices.{phase_failed, prepare_due, next_prepared}
use Rattle.phase_prepare.specs.Prepares.{prepare_by}
use Rattle.phase_prepare.specs.AtPoints.{prepare_number, PrepareFollows}

module _ (m : Machine) (past : List Entry) where
  prepare_is : (r : ℤ) (error : Option Errno) (next : Option ℕ) → IfSome next (λ d. r ≡ prepare_number m past d) → prepare_by r error next ≡ prepare_due m past error next
  prepare_is r None (Some d) h = ap (λ (x : ℤ). Makes (kind.Prepare d x)) h
  prepare_is r None None h = refl
  prepare_is r (Some e) next h = refl

  pub follows : PrepareFollows m past
  follows = record { prepare = λ r h. prepare_is r (phase_failed past) (next_prepared m past) h; complete = refl }
