-- The stages in order: an attempt goes on from each only to a later one.
use Rattle.std.proofs.Common.{◌≡◌, ◌≤◌, ◌∙◌, ℕ, ◌==◌, List, Option, Some, None, cond, refl, sym, ap, arith}
use Rattle.sleep_model.specs.declared.entry.Entry.{Entry}
use Rattle.sleep_model.specs.declared.entry.Group.TheVariants as group
use Rattle.sleep_model.specs.declared.entry.Kind.{Kind}
use Rattle.sleep_model.specs.declared.entry.Thaw.TheVariants as thaw
use Rattle.sleep_model.specs.declared.machine.Machine.{Machine}
use Rattle.sleep_model.specs.declared.machine.PlatDo.TheVariants as down
use Rattle.sleep_model.specs.declared.machine.PlatUndo.TheVariants as undo
use Rattle.sleep_model.specs.declared.progress.Stage.{Stage}
use Rattle.sleep_model.specs.declared.progress.Stage.TheVariants as stage
use Rattle.sleep_model.specs.declared.word.EventNow.{EventNow}
use Rattle.phase_table.specs.declared.phase.Phase.{Phase}
use Rattle.phase_table.specs.declared.phase.Phase.TheVariants as phase
use Rattle.sleep_model.specs.Table.{stage_after}
use Rattle.sleep_laws.proofs.Made.{Down, InSuspend, InLate, InNoirq, Up, InResume, InEarly, InResumeNoirq, Made, Comes as ComesTo, AtOnce, PastNotifiers, PastCpus, PastParts, PastPartsUp, PastCpusUp, PastPosts}

-- the rank of a phase with callbacks among the stages
abbrev pub phase_rank : Phase → ℕ
phase_rank phase.Suspend = 6
phase_rank phase.Late = 8
phase_rank phase.Noirq = 9
phase_rank phase.ResumeNoirq = 20
phase_rank phase.Early = 21
phase_rank phase.Resume = 23
phase_rank _ = 0

-- the rank of a stage
abbrev pub rank : Stage → ℕ
rank stage.Notifies = 1
rank (stage.Freezes group.User) = 2
rank (stage.Freezes group.Kernel) = 3
rank (stage.PlatformDo down.Begin) = 4
rank stage.Prepares = 5
rank (stage.Downs p) = phase_rank p
rank (stage.PlatformDo down.Prepare) = 7
rank (stage.PlatformDo down.PrepareLate) = 10
rank stage.StopsCpus = 11
rank stage.StopsIrqs = 12
rank stage.ChecksWakeup = 13
rank stage.StopsSyscore = 14
rank stage.Enters = 15
rank stage.StartsSyscore = 16
rank stage.StartsIrqs = 17
rank stage.StartsCpus = 18
rank (stage.PlatformUndo undo.Wake) = 19
rank (stage.Ups p) = phase_rank p
rank (stage.PlatformUndo undo.Finish) = 22
rank (stage.PlatformUndo undo.Recover) = 22
rank stage.Completes = 24
rank (stage.PlatformUndo undo.End) = 25
rank stage.ClearsEventsCheck = 26
rank (stage.Thaws thaw.Kernel) = 27
rank (stage.Thaws thaw.All) = 28
rank stage.NotifiesPost = 29
rank stage.Ends = 30

-- no attempt comes after all
abbrev pub rank_if : Option Stage → ℕ
rank_if None = 31
rank_if (Some s) = rank s

pub comes_rank : (m : Machine) (past : List Entry) (here there : Stage) → ComesTo m past here there → rank here ≤ rank there
comes_rank m past _ _ (AtOnce s) = omega arith
comes_rank m past _ _ (PastNotifiers e) = omega arith
comes_rank m past _ _ (PastCpus e) = omega arith
comes_rank m past _ _ (PastParts e) = omega arith
comes_rank m past _ _ (PastPartsUp e) = omega arith
comes_rank m past _ _ (PastCpusUp e) = omega arith
comes_rank m past _ _ (PastPosts e) = omega arith

-- what the maker makes leads on
pub made_rank : (m : Machine) (past : List Entry) (now : EventNow) (there : Stage) (k : Kind) → Made m past now there k → rank there ≤ rank_if (stage_after k (Some there))
made_rank m past now _ _ Made.Ends = omega arith
made_rank m past now _ _ _ = omega arith

-- ---- the six phases with callbacks

pub data Six : Phase → Type 0 where
  Goes : (p : Phase) → Down p → Six p
  Comes : (p : Phase) → Up p → Six p

pub six_rank : (p : Phase) → Six p → (6 ≤ phase_rank p) × (phase_rank p ≤ 23)
six_rank _ (Goes p InSuspend) = (omega arith, omega arith)
six_rank _ (Goes p InLate) = (omega arith, omega arith)
six_rank _ (Goes p InNoirq) = (omega arith, omega arith)
six_rank _ (Comes p InResume) = (omega arith, omega arith)
six_rank _ (Comes p InEarly) = (omega arith, omega arith)
six_rank _ (Comes p InResumeNoirq) = (omega arith, omega arith)

-- no two have one index
phase_at : ℕ → Phase
phase_at n =
    cond (n == 6) phase.Suspend (cond (n == 8) phase.Late (cond (n == 9) phase.Noirq (cond (n == 20) phase.ResumeNoirq (cond (n == 21) phase.Early phase.Resume))))

rank_back : (p : Phase) → Six p → phase_at (phase_rank p) ≡ p
unfolding phase_at
rank_back _ (Goes p InSuspend) = refl
rank_back _ (Goes p InLate) = refl
rank_back _ (Goes p InNoirq) = refl
rank_back _ (Comes p InResume) = refl
rank_back _ (Comes p InEarly) = refl
rank_back _ (Comes p InResumeNoirq) = refl

pub same_rank : (p q : Phase) → Six p → Six q → phase_rank p ≡ phase_rank q → p ≡ q
same_rank p q i j e = sym (rank_back p i) ∙ (ap phase_at e ∙ rank_back q j)
