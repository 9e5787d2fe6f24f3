-- Each stage of an attempt has a phase that fits its direction.
use Rattle.std.proofs.Common.{◌≡◌, true, List, Option, Some, None, IfSome, refl, sym, subst}
use Rattle.phase_table.specs.declared.phase.Phase.{Phase}
use Rattle.phase_table.specs.Phases.{is_down, is_up}
use Rattle.sleep_model.specs.declared.entry.Entry.{Entry}
use Rattle.sleep_model.specs.declared.progress.Stage.{Stage}
use Rattle.sleep_model.specs.declared.progress.Stage.TheVariants as stage
use Rattle.sleep_model.specs.Table.{stage_of}
use Rattle.sleep_laws.proofs.Made.{Down, InSuspend, InLate, InNoirq, Up, InResume, InEarly, InResumeNoirq}
use Rattle.sleep_laws.proofs.Making.{Proper, ProperIf, stage_proper}
use Rattle.sleep_core.specs.Stages.{FitsPhase}

down_so : (p : Phase) → Down p → is_down p ≡ true
down_so _ InSuspend = refl
down_so _ InLate = refl
down_so _ InNoirq = refl

up_so : (p : Phase) → Up p → is_up p ≡ true
up_so _ InResume = refl
up_so _ InEarly = refl
up_so _ InResumeNoirq = refl

fits_so : (s : Stage) → Proper s → FitsPhase s
fits_so (stage.Downs p) h = down_so p h
fits_so (stage.Ups p) h = up_so p h
fits_so _ h = tt

-- the phase of the stage under way fits
pub fits_of : (past : List Entry) (here : Stage) → stage_of past ≡ Some here → FitsPhase here
fits_of past here e = fits_so here (subst ProperIf e (stage_proper past))

-- it does if there is a stage
pub fits_if : (past : List Entry) (o : Option Stage) → o ≡ stage_of past → IfSome o FitsPhase
fits_if past None e = tt
fits_if past (Some here) e = fits_of past here (sym e)
