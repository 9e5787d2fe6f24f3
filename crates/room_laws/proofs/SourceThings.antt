-- Phases and things that are the same.
use Rattle.std.proofs.Common.{◌≡◌, ◌∙◌, ℕ, Bool, true, false, ◌==◌, ◌&&◌, cond, refl, sym, ap, arith}
use Rattle.std.proofs.lemmas.Bool.{true≢false}
use Rattle.std.proofs.lemmas.Bool.Decides.{nat_tests}
use Rattle.phase_table.specs.declared.phase.Phase.{Phase}
use Rattle.phase_table.specs.declared.phase.Phase.TheVariants as phase
use Rattle.phase_table.specs.Phases.{is_phase, phase_rank}
use Rattle.sleep_model.specs.declared.machine.What.{What}
use Rattle.sleep_model.specs.declared.machine.What.TheVariants as what
use Rattle.sleep_model.specs.Answers.{is_thing}

phase_of : ℕ → Phase
phase_of n =
    cond (n == 0) phase.Prepare (cond (n == 1) phase.Suspend (cond (n == 2) phase.Late (cond (n == 3) phase.Noirq (cond (n == 4) phase.Syscore (cond (n == 5) phase.SyscoreResume
    (cond (n == 6) phase.ResumeNoirq (cond (n == 7) phase.Early (cond (n == 8) phase.Resume phase.Complete))))))))

phase_back : (p : Phase) → phase_of (phase_rank p) ≡ p
unfolding phase_of
phase_back phase.Prepare = refl
phase_back phase.Suspend = refl
phase_back phase.Late = refl
phase_back phase.Noirq = refl
phase_back phase.Syscore = refl
phase_back phase.SyscoreResume = refl
phase_back phase.ResumeNoirq = refl
phase_back phase.Early = refl
phase_back phase.Resume = refl
phase_back phase.Complete = refl

pub same_phase : (p q : Phase) → is_phase p q ≡ true → p ≡ q
same_phase p q e =
    let same : phase_rank p ≡ phase_rank q = grind (arith, nat_tests) in
    sym (phase_back p) ∙ (ap phase_of same ∙ phase_back q)

pub and_parts : (a b : Bool) → (a && b) ≡ true → (a ≡ true) × (b ≡ true)
and_parts true true h = (refl, refl)
and_parts true false h = absurd (true≢false (sym h))
and_parts false b h = absurd (true≢false (sym h))

-- the thing is that device in that phase
pub same_thing : (x : What) (d : ℕ) (p : Phase) → is_thing x (what.Device d p) ≡ true → x ≡ what.Device d p
same_thing (what.Device e q) d p h =
    let both = and_parts (e == d) (is_phase q p) h in
    let number : e ≡ d = grind (arith, nat_tests, both.0) in
    let named : q ≡ p = same_phase q p both.1 in
    cc
same_thing _ d p h = absurd (true≢false (sym h))
