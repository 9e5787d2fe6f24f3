-- The stage of a device that is scheduled on the way up.
use Rattle.std.proofs.Common.{◌≡◌, ◌∙◌, ℕ, Bool, true, List, Option, Some, None, refl, ap, subst}
use Rattle.sleep_model.specs.declared.entry.Entry.{Entry}
use Rattle.sleep_model.specs.declared.machine.Machine.{Machine}
use Rattle.sleep_model.specs.declared.machine.PlatDo.{PlatDo}
use Rattle.sleep_model.specs.declared.machine.PlatDo.TheVariants as down
use Rattle.sleep_model.specs.declared.machine.PlatUndo.{PlatUndo}
use Rattle.sleep_model.specs.declared.machine.PlatUndo.TheVariants as undo
use Rattle.sleep_model.specs.declared.progress.Stage.{Stage}
use Rattle.sleep_model.specs.declared.progress.Stage.TheVariants as stage
use Rattle.sleep_model.specs.declared.progress.PhaseState.{PhaseState}
use Rattle.sleep_model.specs.declared.progress.PhaseState.TheVariants as state
use Rattle.phase_table.specs.declared.phase.Phase.{Phase}
use Rattle.phase_table.specs.declared.phase.Phase.TheVariants as phase
use Rattle.phase_table.specs.Phases.{mirror}
use Rattle.sleep_model.specs.Devices.{state_in}
use Rattle.sleep_model.specs.Legal.{JournalPart}
use Rattle.sleep_model.specs.Table.{stage_of}
use Rattle.sleep_laws.proofs.Boards.{at_is, mirror_down}
use Rattle.sleep_laws.proofs.Made.{Up, InResume, InEarly, InResumeNoirq}
use Rattle.sleep_laws.proofs.Moods.{mood, mood_if, in_down, in_up, allows}
use Rattle.sleep_laws.proofs.Passing.{device_phases}
use Rattle.sleep_laws.proofs.DevicePhases.{errs, DevicePhases}
use Rattle.sleep_laws.proofs.Turning.{never}

in_ups : (p q : Phase) (e : Bool) → Up q → allows (in_up p (mirror q)) e state.Rescheduled ≡ true → stage.Ups p ≡ stage.Ups q
in_ups phase.Resume _ e InResume h = refl
in_ups phase.Early _ e InEarly h = refl
in_ups phase.ResumeNoirq _ e InResumeNoirq h = refl
in_ups _ _ e InResume h = never h
in_ups _ _ e InEarly h = never h
in_ups _ _ e InResumeNoirq h = never h

in_downs : (p q : Phase) (e : Bool) → Up q → allows (in_down p (mirror q)) e state.Rescheduled ≡ true → ⊥
in_downs phase.Suspend _ e InResume h = never h
in_downs phase.Suspend _ e InEarly h = never h
in_downs phase.Suspend _ e InResumeNoirq h = never h
in_downs phase.Late _ e InResume h = never h
in_downs phase.Late _ e InEarly h = never h
in_downs phase.Late _ e InResumeNoirq h = never h
in_downs phase.Noirq _ e InResume h = never h
in_downs phase.Noirq _ e InEarly h = never h
in_downs phase.Noirq _ e InResumeNoirq h = never h
in_downs _ _ e i h = never h

in_platform_down : (a : PlatDo) (q : Phase) (e : Bool) → Up q → allows (mood (stage.PlatformDo a) (mirror q)) e state.Rescheduled ≡ true → ⊥
in_platform_down down.Begin _ e i h = never h
in_platform_down down.Prepare _ e InResume h = never h
in_platform_down down.Prepare _ e InEarly h = never h
in_platform_down down.Prepare _ e InResumeNoirq h = never h
in_platform_down down.PrepareLate _ e i h = never h

in_platform_up : (a : PlatUndo) (q : Phase) (e : Bool) → Up q → allows (mood (stage.PlatformUndo a) (mirror q)) e state.Rescheduled ≡ true → ⊥
in_platform_up undo.Recover _ e InResume h = never h
in_platform_up undo.Recover _ e InEarly h = never h
in_platform_up undo.Recover _ e InResumeNoirq h = never h
in_platform_up undo.Finish _ e InResume h = never h
in_platform_up undo.Finish _ e InEarly h = never h
in_platform_up undo.Finish _ e InResumeNoirq h = never h
in_platform_up undo.Wake _ e i h = never h
in_platform_up undo.End _ e i h = never h

rescheduled_at : (st : Option Stage) (q : Phase) (e : Bool) → Up q → allows (mood_if st (mirror q)) e state.Rescheduled ≡ true → st ≡ Some (stage.Ups q)
rescheduled_at (Some (stage.Ups p)) q e i h = ap Some (in_ups p q e i h)
rescheduled_at (Some (stage.Downs p)) q e i h = absurd (in_downs p q e i h)
rescheduled_at (Some (stage.PlatformDo a)) q e i h = absurd (in_platform_down a q e i h)
rescheduled_at (Some (stage.PlatformUndo a)) q e i h = absurd (in_platform_up a q e i h)
rescheduled_at None q e i h = never h
rescheduled_at (Some _) q e i h = never h

-- the phase under way is that of a device which was scheduled on the way up
pub risen_stage : (m : Machine) (past : List Entry) → JournalPart m past → (p : Phase) (d : ℕ) → Up p → state_in m past (mirror p) d ≡ state.Rescheduled → stage_of past ≡ Some (stage.Ups p)
risen_stage m past h p d i e =
    let s : DevicePhases m past (stage_of past) = device_phases m past h in
    rescheduled_at (stage_of past) p (errs past) i (subst (λ (x : PhaseState). allows (mood_if (stage_of past) (mirror p)) (errs past) x ≡ true) (at_is m past (mirror p) d (mirror_down p i) ∙ e) ((s.0 d).allowed (mirror p) (mirror_down p i)))
