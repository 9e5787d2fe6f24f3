-- Proof that `Jobs::counted` meets what `more_owing` requires, and that its indices and sums stay in range.
use Rattle.std.proofs.Common.{List, length, ap, arith}
use Rattle.sleep_script.specs.Jobs.{JobState}
use Rattle.machine_rounds.proofs.Owing.{owing_few}
use Rattle.machine_rounds.proofs.jobs.Jobs.counted.Goals as goal

pub overflow_add-scripts_owing : goal.overflow_add-scripts_owing
overflow_add-scripts_owing c = omega (
  arith,
  c.owing_among-scripts_owing.ensures.is,
  c.owing_among-devices_owing.ensures.is,
  owing_few c.as_slice.result.now,
  owing_few c.as_slice-2.result.now,
  ap (λ (xs : List JobState). length xs) c.as_slice.ensures.value,
  ap (λ (xs : List JobState). length xs) c.as_slice-2.ensures.value,
  c.requires.scripts,
  c.requires.devices,
)

pub more_owing-owing-requires : goal.more_owing-owing-requires
more_owing-owing-requires c = omega (
  arith,
  c.owing_among-scripts_owing.ensures.is,
  c.owing_among-devices_owing.ensures.is,
  owing_few c.as_slice.result.now,
  owing_few c.as_slice-2.result.now,
  ap (λ (xs : List JobState). length xs) c.as_slice.ensures.value,
  ap (λ (xs : List JobState). length xs) c.as_slice-2.ensures.value,
  c.requires.scripts,
  c.requires.devices,
)
