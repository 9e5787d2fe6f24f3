-- What the closed words of a log mean: of two different words, the last one means any other.
use Rattle.std.specs.Prelude.{ℕ, Bool, true, false, ℤ, pos, negsuc, neg_ℤ, List, codes, Option, Some, None, unwrap_or, if◌then◌else◌}
use Rattle.std.specs.Str.{bytes_eq}
use Rattle.sleep_base.specs.declared.errno.Errno.{Errno}
use Rattle.sleep_base.specs.declared.errno.Errno.TheVariants.{EINVAL}
use Rattle.sleep_base.specs.Errno.{error_named, number_of}
use Rattle.phase_table.specs.declared.phase.Phase.{Phase}
use Rattle.phase_table.specs.declared.phase.Phase.TheVariants as phase
use Rattle.phase_table.specs.Phases.{phase_named}
use Rattle.sleep_model.specs.declared.entry.SkipCause.{SkipCause}
use Rattle.sleep_model.specs.declared.entry.SkipCause.TheVariants as cause
use Rattle.sleep_model.specs.declared.entry.Group.{Group}
use Rattle.sleep_model.specs.declared.entry.Group.TheVariants as group
use Rattle.sleep_model.specs.declared.entry.State.{State}
use Rattle.sleep_model.specs.declared.entry.State.TheVariants as state
use Rattle.sleep_model.specs.declared.entry.Thaw.{Thaw}
use Rattle.sleep_model.specs.declared.entry.Thaw.TheVariants as thaw
use Rattle.sleep_model.specs.declared.machine.PlatDo.{PlatDo}
use Rattle.sleep_model.specs.declared.machine.PlatDo.TheVariants as down
use Rattle.sleep_model.specs.Text.{cause_text, down_word, group_word, state_word}

-- the error of that name
abbrev pub errno_in : List ℕ → Errno
errno_in w = unwrap_or (error_named w) EINVAL

-- none for 0, else the error of that name
abbrev pub answer_in : List ℕ → Option Errno
answer_in w = if bytes_eq w (codes "0") then None else Some (errno_in w)

-- an error's number, below 0
abbrev pub error_number : Errno → ℤ
error_number e = neg_ℤ (pos (number_of e))

-- it is below 0
abbrev pub is_negative : ℤ → Bool
is_negative (pos n) = false
is_negative (negsuc n) = true

-- 0, 1, or the number of the error with that name, below 0
abbrev pub prepare_in : List ℕ → ℤ
prepare_in w =
    if bytes_eq w (codes "0") then pos 0
    else (if bytes_eq w (codes "1") then pos 1 else error_number (errno_in w))

-- the phase of that name
abbrev pub phase_in : List ℕ → Phase
phase_in w = unwrap_or (phase_named w) phase.Complete

-- why a device was skipped
abbrev pub cause_in : List ℕ → SkipCause
cause_in w =
    if bytes_eq w (cause_text cause.Error) then cause.Error
    else (if bytes_eq w (cause_text cause.Pending) then cause.Pending else cause.Direct)

-- whom a freeze asks
abbrev pub group_in : List ℕ → Group
group_in w = if bytes_eq w (group_word group.User) then group.User else group.Kernel

-- which tasks a thaw lets go
abbrev pub thaw_in : List ℕ → Thaw
thaw_in w = if bytes_eq w (group_word group.Kernel) then thaw.Kernel else thaw.All

-- what autosleep is set to
abbrev pub state_in : List ℕ → State
state_in w = if bytes_eq w (state_word state.Mem) then state.Mem else state.Off

-- the platform's step on the way down
abbrev pub down_in : List ℕ → PlatDo
down_in w =
    if bytes_eq w (down_word down.Begin) then down.Begin
    else (if bytes_eq w (down_word down.Prepare) then down.Prepare else down.PrepareLate)
