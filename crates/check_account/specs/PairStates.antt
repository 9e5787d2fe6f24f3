-- The state of each device, for each phase and its mirror.
use Rattle.std.specs.Prelude.{ℕ, Bool, true, false, ◌||◌, List, Option}
use Rattle.phase_table.specs.declared.phase.Phase.{Phase}
use Rattle.phase_table.specs.declared.phase.Phase.TheVariants as phase
use Rattle.phase_table.specs.Phases.{is_phase, mirror}
use Rattle.sleep_model.specs.declared.entry.Entry.{Entry}
use Rattle.sleep_model.specs.declared.entry.Kind.{Kind}
use Rattle.sleep_model.specs.declared.entry.Kind.TheVariants as kind
use Rattle.sleep_model.specs.declared.progress.PhaseState.{PhaseState}
use Rattle.sleep_model.specs.PhaseStates.{phase_states, phase_states_after}

-- a list of states for each phase (struct dev_pm_info)
pub record PairStatesSeen : Type 0 where
  pub prepare : List PhaseState
  pub suspend : List PhaseState
  pub late : List PhaseState
  pub noirq : List PhaseState
  pub syscore : List PhaseState
  pub syscore_resume : List PhaseState
  pub resume_noirq : List PhaseState
  pub early : List PhaseState
  pub resume : List PhaseState
  pub complete : List PhaseState

-- the states after an entry, which is of that device, if of one (dpm_run_callback)
abbrev pub pairs_after : Kind → Option ℕ → PairStatesSeen → PairStatesSeen
pairs_after k d before = record {
  prepare = phase_states_after phase.Prepare k d before.prepare;
  suspend = phase_states_after phase.Suspend k d before.suspend;
  late = phase_states_after phase.Late k d before.late;
  noirq = phase_states_after phase.Noirq k d before.noirq;
  syscore = phase_states_after phase.Syscore k d before.syscore;
  syscore_resume = phase_states_after phase.SyscoreResume k d before.syscore_resume;
  resume_noirq = phase_states_after phase.ResumeNoirq k d before.resume_noirq;
  early = phase_states_after phase.Early k d before.early;
  resume = phase_states_after phase.Resume k d before.resume;
  complete = phase_states_after phase.Complete k d before.complete;
}

-- the states of n devices after these entries of the journal, the newest first (struct dev_pm_info)
abbrev pub pairs_of : ℕ → List Entry → PairStatesSeen
pairs_of n past = record {
  prepare = phase_states n phase.Prepare past;
  suspend = phase_states n phase.Suspend past;
  late = phase_states n phase.Late past;
  noirq = phase_states n phase.Noirq past;
  syscore = phase_states n phase.Syscore past;
  syscore_resume = phase_states n phase.SyscoreResume past;
  resume_noirq = phase_states n phase.ResumeNoirq past;
  early = phase_states n phase.Early past;
  resume = phase_states n phase.Resume past;
  complete = phase_states n phase.Complete past;
}

-- an entry may move its device in phase p and its mirror (dpm_run_callback, device_prepare, device_complete)
abbrev pub may_move : Phase → Kind → Bool
may_move p (kind.Prepare d r) = true
may_move p (kind.Complete d) = true
may_move p (kind.Schedule q d) = is_phase q p || is_phase q (mirror p)
may_move p (kind.Begin q d) = is_phase q p || is_phase q (mirror p)
may_move p (kind.End q d r) = is_phase q p || is_phase q (mirror p)
may_move p (kind.Skip q d cause) = is_phase q p || is_phase q (mirror p)
may_move p _ = false

-- those in that phase and its mirror (struct dev_pm_info)
abbrev pub states_on : PairStatesSeen → Phase → List PhaseState
states_on b phase.Prepare = b.prepare
states_on b phase.Suspend = b.suspend
states_on b phase.Late = b.late
states_on b phase.Noirq = b.noirq
states_on b phase.Syscore = b.syscore
states_on b phase.SyscoreResume = b.syscore_resume
states_on b phase.ResumeNoirq = b.resume_noirq
states_on b phase.Early = b.early
states_on b phase.Resume = b.resume
states_on b phase.Complete = b.complete
