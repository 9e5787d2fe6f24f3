-- By what an answer is looked up.
use Rattle.std.specs.Prelude.{◌≡◌, ℕ, List, Option, slice_get, option_and_then}
use Rattle.sleep_model.specs.declared.machine.Answer.{Answer}
use Rattle.sleep_model.specs.declared.machine.PlatDo.{PlatDo}
use Rattle.sleep_model.specs.declared.machine.PlatDo.TheVariants as down
use Rattle.sleep_model.specs.declared.machine.What.{What}
use Rattle.sleep_model.specs.declared.machine.What.TheVariants as what
use Rattle.sleep_model.specs.Answers.{answer_for}
use Rattle.phase_table.specs.Phases.{phase_rank}
use Rattle.machine_plans.specs.declared.key.Key.{Key}
use Rattle.machine_plans.specs.declared.key.Thing.{Thing}
use Rattle.machine_plans.specs.declared.key.Thing.TheVariants as thing

-- the rank of a step of the platform in an undisturbed attempt (struct platform_suspend_ops)
abbrev pub step_rank : PlatDo → ℕ
step_rank down.Begin = 0
step_rank down.Prepare = 1
step_rank down.PrepareLate = 2

-- the thing that is looked up
abbrev pub thing_of : What → Thing
thing_of (what.Device d p) = thing.Device d (phase_rank p)
thing_of (what.Syscore x) = thing.Syscore x
thing_of (what.Notifier x) = thing.Notifier x
thing_of (what.Platform step) = thing.Platform (step_rank step)

-- the key of a thing in an attempt, or in any
abbrev pub key_for : What → Option ℕ → Key
key_for thing attempt = record { thing = thing_of thing; attempt = attempt }

-- the index at which each key is found is that of the first of its answers
abbrev pub IsIndexed : List Answer → (Key → Option ℕ) → Type 0
IsIndexed answers at = (thing : What) (attempt : Option ℕ) →
    option_and_then (slice_get answers) (at (key_for thing attempt)) ≡ answer_for thing attempt answers
