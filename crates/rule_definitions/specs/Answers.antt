-- What phases and attempts answer.
use Rattle.std.specs.Prelude.{◌≡◌, List, Option, None, if◌then◌else◌}
use Rattle.sleep_base.specs.declared.errno.Errno.{Errno}
use Rattle.sleep_model.specs.declared.entry.Entry.{Entry}
use Rattle.sleep_model.specs.declared.entry.Kind.{Kind}
use Rattle.sleep_model.specs.declared.entry.Kind.TheVariants as kind
use Rattle.phase_table.specs.declared.phase.Phase.{Phase}
use Rattle.phase_table.specs.declared.phase.Phase.TheVariants as phase
use Rattle.phase_table.specs.Phases.{is_down}
use Rattle.sleep_model.specs.Devices.{phase_failed, phase_error}
use Rattle.sleep_model.specs.Laws.{AnswersFailure}

-- what a phase answers: prepare its error, a phase on the way down a synchronous callback's error or else the last that was set, any other
-- none (dpm_prepare, dpm_suspend, dpm_resume)
abbrev pub phase_answer : List Entry → Phase → Option Errno
phase_answer past phase.Prepare = phase_failed past
phase_answer past p = if is_down p then phase_error past else None

-- a phase answers its error; an attempt answers the error of the step that failed, and none exactly if it has entered (dpm_suspend,
-- enter_state)
abbrev pub KeepsAnswers : List Entry → Kind → Type 0
KeepsAnswers past (kind.Done p r) = r ≡ phase_answer past p
KeepsAnswers past k = AnswersFailure past k
