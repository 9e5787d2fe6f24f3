-- By what a machine's answers are found.
use Rattle.std.specs.Prelude.{◌≡◌, ℕ, List, Option, slice_get, option_and_then}
use Rattle.phase_table.specs.Phases as table
use Rattle.phase_table.specs.declared.phase.Phase.{Phase}
use Rattle.sleep_model.specs.declared.machine.Answer.{Answer}
use Rattle.sleep_model.specs.declared.machine.PlatDo.{PlatDo}
use Rattle.sleep_model.specs.declared.machine.PlatDo.TheVariants as down
use Rattle.sleep_model.specs.declared.machine.What.{What}
use Rattle.sleep_model.specs.declared.machine.What.TheVariants as what
use Rattle.sleep_model.specs.Answers.{answer_for}
use Rattle.check_sources.specs.declared.answers.AnswerKey.{AnswerKey}
use Rattle.check_sources.specs.declared.answers.AnsweringThing.{AnsweringThing}
use Rattle.check_sources.specs.declared.answers.AnsweringThing.TheVariants as thing

-- the rank of a phase in an attempt (enter_state)
abbrev pub phase_rank : Phase → ℕ
phase_rank p = table.phase_rank p

-- the rank of a step of the platform in an attempt (struct platform_suspend_ops)
abbrev pub step_rank : PlatDo → ℕ
step_rank down.Begin = 0
step_rank down.Prepare = 1
step_rank down.PrepareLate = 2

-- the thing, with ranks (own)
abbrev pub thing_of : What → AnsweringThing
thing_of (what.Device d p) = thing.Device d (phase_rank p)
thing_of (what.Syscore x) = thing.Syscore x
thing_of (what.Notifier x) = thing.Notifier x
thing_of (what.Platform step) = thing.Platform (step_rank step)

-- by what an answer of a thing for that attempt, or for any, is found (own)
abbrev pub key_for : What → Option ℕ → AnswerKey
key_for what attempt = record { thing = thing_of what; attempt = attempt }

-- by what that answer is found (own)
abbrev pub answer_key : Answer → AnswerKey
answer_key a = key_for a.what a.attempt

-- each key is found at the first of its answers (own)
abbrev pub IsIndexed : List Answer → (AnswerKey → Option ℕ) → Type 0
IsIndexed answers at = (what : What) (attempt : Option ℕ) →
    option_and_then (slice_get answers) (at (key_for what attempt)) ≡ answer_for what attempt answers
