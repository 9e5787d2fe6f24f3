-- What a callback answers, and what it reports meanwhile.
use Rattle.std.specs.Prelude.{ℕ, Bool, true, false, ◌==◌, ◌&&◌, List, [], ◌∷◌, ℤ, pos, if◌then◌else◌, Option, Some, None}
use Rattle.sleep_base.specs.declared.errno.Errno.{Errno}
pub use Rattle.sleep_base.specs.Errno.{errno_with, errors, error_of_number}
use Rattle.sleep_model.specs.declared.machine.Answer.{Answer}
use Rattle.sleep_model.specs.declared.machine.Machine.{Machine}
use Rattle.sleep_model.specs.declared.machine.PlatDo.{PlatDo}
use Rattle.sleep_model.specs.declared.machine.PlatDo.TheVariants as down
use Rattle.sleep_model.specs.declared.machine.Report.{Report}
use Rattle.sleep_model.specs.declared.machine.What.{What}
use Rattle.sleep_model.specs.declared.machine.What.TheVariants.{Device, Syscore, Notifier, Platform}
use Rattle.phase_table.specs.Phases.{is_phase}

-- the same step of the platform (struct platform_suspend_ops)
abbrev pub is_platform_step : PlatDo → PlatDo → Bool
is_platform_step down.Begin down.Begin = true
is_platform_step down.Prepare down.Prepare = true
is_platform_step down.PrepareLate down.PrepareLate = true
is_platform_step _ _ = false

-- the same thing
abbrev pub is_thing : What → What → Bool
is_thing (Device d p) (Device e q) = d == e && is_phase p q
is_thing (Syscore x) (Syscore y) = x == y
is_thing (Notifier x) (Notifier y) = x == y
is_thing (Platform x) (Platform y) = is_platform_step x y
is_thing _ _ = false

-- the same attempt, or both for any
abbrev pub is_for : Option ℕ → Option ℕ → Bool
is_for None None = true
is_for (Some n) (Some k) = n == k
is_for _ _ = false

-- the answer of a thing for that attempt, or for any
abbrev pub answer_for : What → Option ℕ → List Answer → Option Answer
answer_for what attempt [] = None
answer_for what attempt (a ∷ rest) =
    if is_thing a.what what && is_for a.attempt attempt then Some a else answer_for what attempt rest

-- an answer of its own comes before the one for any attempt
abbrev pub own_or : Option Answer → Option Answer → Option Answer
own_or None general = general
own_or (Some own) general = Some own

-- the answer of a thing in attempt n, if the machine gives one
abbrev pub answer : Machine → What → ℕ → Option Answer
answer m what n = own_or (answer_for what (Some n) m.answers) (answer_for what None m.answers)

-- the error that an answer is, if it is one
abbrev pub answer_error : Option Answer → Option Errno
answer_error None = None
answer_error (Some a) = error_of_number a.ret

-- the number that an answer is: without one, 0
abbrev pub answer_number : Option Answer → ℤ
answer_number None = pos 0
answer_number (Some a) = a.ret

-- what is reported meanwhile
abbrev pub answer_reports : Option Answer → List Report
answer_reports None = []
answer_reports (Some a) = a.reports
