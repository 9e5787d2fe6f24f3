-- The phase of a name.
use Rattle.std.proofs.Common.{◌≡◌, ◌≢◌, ◌∙◌, ℕ, List, Option, Some, None, IfNone, refl, ap}
use Rattle.phase_table.specs.declared.phase.Phase.{Phase}
use Rattle.phase_table.specs.declared.phase.Phase.TheVariants.{Prepare, Suspend, Late, Noirq, Syscore, SyscoreResume, ResumeNoirq, Early, Resume, Complete}
use Rattle.phase_table.specs.Phases.{phase_name, phase_named}

-- a phase has its name
read_back : (p : Phase) → phase_named (phase_name p) ≡ Some p
read_back Prepare = refl
read_back Suspend = refl
read_back Late = refl
read_back Noirq = refl
read_back Syscore = refl
read_back SyscoreResume = refl
read_back ResumeNoirq = refl
read_back Early = refl
read_back Resume = refl
read_back Complete = refl

-- if no phase has that name, the search finds none
pub none_named : (w : List ℕ) (r : Option Phase) → r ≡ phase_named w → IfNone r ((p : Phase) → w ≢ phase_name p)
none_named w None e = λ p h. absurd (let f : None ≡ Some p = e ∙ (ap phase_named h ∙ read_back p) in cc)
none_named w (Some q) e = tt
