-- The phases of devices, as a table (drivers/base/power/main.c).
use Rattle.std.specs.Prelude.{ℕ, Bool, true, false, ◌==◌, List, [], ◌∷◌, map, bytes_eq, codes, find, Option}
use Rattle.phase_table.specs.declared.phase.Phase.{Phase}
use Rattle.phase_table.specs.declared.table.PhaseRow.{PhaseRow}
use Rattle.phase_table.specs.declared.phase.Phase.TheVariants.{Prepare, Suspend, Late, Noirq, Syscore, SyscoreResume, ResumeNoirq, Early, Resume, Complete}

-- the rank of a phase in an undisturbed attempt (dpm_prepare, dpm_suspend, dpm_suspend_late, dpm_suspend_noirq, syscore_suspend and their
-- ways back)
abbrev pub phase_rank : Phase → ℕ
phase_rank Prepare = 0
phase_rank Suspend = 1
phase_rank Late = 2
phase_rank Noirq = 3
phase_rank Syscore = 4
phase_rank SyscoreResume = 5
phase_rank ResumeNoirq = 6
phase_rank Early = 7
phase_rank Resume = 8
phase_rank Complete = 9

-- the same phase
abbrev pub is_phase : Phase → Phase → Bool
is_phase p q = phase_rank p == phase_rank q

-- the phase that undoes a phase, and the other way round (dpm_complete, dpm_resume, dpm_resume_early, dpm_resume_noirq, syscore_resume)
abbrev pub mirror : Phase → Phase
mirror Prepare = Complete
mirror Suspend = Resume
mirror Late = Early
mirror Noirq = ResumeNoirq
mirror Syscore = SyscoreResume
mirror SyscoreResume = Syscore
mirror ResumeNoirq = Noirq
mirror Early = Late
mirror Resume = Suspend
mirror Complete = Prepare

-- the phase walks forward through the order (list_for_each over dpm_list)
abbrev pub is_forward : Phase → Bool
is_forward Prepare = true
is_forward SyscoreResume = true
is_forward ResumeNoirq = true
is_forward Early = true
is_forward Resume = true
is_forward _ = false

-- a phase in which devices go down, each after all below it (dpm_suspend, dpm_suspend_late, dpm_suspend_noirq)
abbrev pub is_down : Phase → Bool
is_down Suspend = true
is_down Late = true
is_down Noirq = true
is_down _ = false

-- a phase in which devices come up, each after all above it (dpm_resume_noirq, dpm_resume_early, dpm_resume)
abbrev pub is_up : Phase → Bool
is_up ResumeNoirq = true
is_up Early = true
is_up Resume = true
is_up _ = false

-- a phase that tests for a wakeup before each device's callback (__device_suspend, __device_suspend_late)
abbrev pub tests_wakeup : Phase → Bool
tests_wakeup Suspend = true
tests_wakeup Late = true
tests_wakeup _ = false

-- the phase's name
abbrev pub phase_name : Phase → List ℕ
phase_name Prepare = codes "prepare"
phase_name Suspend = codes "suspend"
phase_name Late = codes "late"
phase_name Noirq = codes "noirq"
phase_name Syscore = codes "syscore"
phase_name SyscoreResume = codes "syscore_resume"
phase_name ResumeNoirq = codes "resume_noirq"
phase_name Early = codes "early"
phase_name Resume = codes "resume"
phase_name Complete = codes "complete"

-- what the table says of a phase
abbrev pub table_row : Phase → PhaseRow
table_row p = record { phase = p; mirror = mirror p; forward = is_forward p; down = is_down p; checks = tests_wakeup p }

-- the phases in the order of an undisturbed attempt
abbrev pub all_phases : List Phase
all_phases = Prepare ∷ Suspend ∷ Late ∷ Noirq ∷ Syscore ∷ SyscoreResume ∷ ResumeNoirq ∷ Early ∷ Resume ∷ Complete ∷ []

-- the phase of that name
abbrev pub phase_named : List ℕ → Option Phase
phase_named w = find (λ p. bytes_eq w (phase_name p)) all_phases

-- the table: a row for each phase
abbrev pub table_rows : List PhaseRow
table_rows = map table_row all_phases

-- the first row of that phase
abbrev pub row_with : Phase → List PhaseRow → Option PhaseRow
row_with p rows = find (λ row. is_phase row.phase p) rows
