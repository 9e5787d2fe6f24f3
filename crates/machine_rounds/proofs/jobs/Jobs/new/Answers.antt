-- Proof that `Jobs::new` meets what `of_components` requires.
use Rattle.std.proofs.Common.{◌∙◌, List, length, ap, arith}
use Rattle.sleep_model.specs.declared.entry.Actor.TheVariants.{Script, Dev}
use Rattle.sleep_model.specs.Places.{one_if}
use Rattle.sleep_script.specs.Jobs.{JobState}
use Rattle.machine_rounds.specs.JobsOf.{owes, owing_of}
use Rattle.machine_rounds.proofs.JobsChanged.{first_len}
use Rattle.machine_rounds.proofs.Owing.{devices_owe_none}
use Rattle.machine_rounds.proofs.jobs.Jobs.new.Goals as goal

pub of_components-requires-clause-scripts : goal.of_components-requires-clause-scripts
of_components-requires-clause-scripts c =
    let m = c.args.plans.now in
    omega (arith, ap (λ (xs : List JobState). length xs) c.in_ok-scripts.ensures, first_len m Script (length m.actors), c.requires.actors)

pub of_components-requires-clause-devices : goal.of_components-requires-clause-devices
of_components-requires-clause-devices c =
    let m = c.args.plans.now in
    omega (arith, ap (λ (xs : List JobState). length xs) c.in_ok-devices.ensures, first_len m Dev (length m.devices), c.requires.devices)

pub of_components-requires-clause-auto : goal.of_components-requires-clause-auto
of_components-requires-clause-auto c = ap (λ (job : JobState). one_if (owes job)) c.of_auto-auto.ensures

pub of_components-requires-clause-none : goal.of_components-requires-clause-none
of_components-requires-clause-none c =
    let m = c.args.plans.now in
    ap owing_of c.in_ok-devices.ensures ∙ devices_owe_none m (length m.devices)
