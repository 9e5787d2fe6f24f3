-- Proof by hand of `is_script_enabled`: what it returns, by the lemmas of `Quiet`.
use Rattle.std.proofs.Common.{◌≡◌, ◌∙◌, ◌&&◌, Bool, IfOk, ap, subst, sym}
use Rattle.sleep_model.specs.Sources.{history}
use Rattle.check_past.specs.Passing.{journal_of, past_of}
use Rattle.check_rules.specs.Quiet.{is_idle_script}
use Rattle.check_rules.proofs.Quiet.{resting}
use Rattle.check_rules.proofs.jump.is_script_enabled.Goals as goal

pub returns-then-is_idle_script : goal.returns-then-is_idle_script
returns-then-is_idle_script c =
    let p = c.args.past.now in
    let so = ap (λ b. b && is_idle_script p.machine (journal_of p) c.args.i) (sym c.requires.quiet) ∙ sym c.is_idle_script.ensures ∙ c.if-is_idle_script.true in
    subst (λ (v : Bool). IfOk c.owes_call.result (λ b. b ≡ v)) (resting p.machine (journal_of p) (λ s. history s (past_of p)) c.args.now c.args.i so) c.owes_call.ensures
