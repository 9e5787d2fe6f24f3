-- Proof by hand of `op_due`: what it returns, by the lemmas of `Choosing`.
use Rattle.std.proofs.Common.{◌≡◌, Bool, List, ℕ, Some, IfOk, subst, sym}
use Rattle.sleep_model.specs.declared.machine.Op.{Op}
use Rattle.sleep_model.specs.declared.machine.Op.TheVariants as op
use Rattle.sleep_model.specs.declared.progress.Due.{Due}
use Rattle.sleep_model.specs.declared.progress.ScriptPosition.{ScriptPosition}
use Rattle.sleep_model.specs.declared.word.EventNow.{EventNow}
use Rattle.sleep_model.specs.Steps.{step_due}
use Rattle.check_past.specs.Passing.{journal_of}
use Rattle.check_due.proofs.Choosing.{ok_at, ok_for}
use Rattle.check_due.proofs.next.op_due.Goals as goal

pub returns-in-State : goal.returns-in-State
returns-in-State c =
    let p = c.args.past.now in
    subst (λ (o : Op). IfOk c.write_due.result (λ (d : Due). d ≡ step_due p.machine (journal_of p) c.args.now c.args.position c.args.asked (Some o))) (sym c.in-State.is)
    (subst (λ (text : List ℕ). IfOk c.write_due.result (λ (d : Due). d ≡ step_due p.machine (journal_of p) c.args.now c.args.position c.args.asked (Some (op.State text c.in-State.if_saved)))) c.as_slice.ensures
    (ok_at c.write_due.result (λ (now : EventNow). step_due p.machine (journal_of p) now c.args.position c.args.asked (Some (op.State c.as_slice.result.now c.in-State.if_saved))) c.args.now c.write_due.ensures))

pub returns-in-Autosleep : goal.returns-in-Autosleep
returns-in-Autosleep c =
    let p = c.args.past.now in
    subst (λ (o : Op). c.autosleep_write_due.result ≡ step_due p.machine (journal_of p) c.args.now c.args.position c.args.asked (Some o)) (sym c.in-Autosleep.is)
    (subst (λ (text : List ℕ). c.autosleep_write_due.result ≡ step_due p.machine (journal_of p) c.args.now c.args.position c.args.asked (Some (op.Autosleep text))) c.as_slice-in-Autosleep.ensures
    (c.autosleep_write_due.ensures c.args.now c.args.asked))

pub returns-in-Runtime : goal.returns-in-Runtime
returns-in-Runtime c =
    let p = c.args.past.now in
    subst (λ (o : Op). c.request_due.result ≡ step_due p.machine (journal_of p) c.args.now c.args.position c.args.asked (Some o)) (sym c.in-Runtime.is)
    (c.request_due.ensures c.args.now c.args.position c.args.asked)

pub returns-in-Link : goal.returns-in-Link
returns-in-Link c =
    let p = c.args.past.now in
    subst (λ (o : Op). IfOk c.link_due.result (λ (d : Due). d ≡ step_due p.machine (journal_of p) c.args.now c.args.position c.args.asked (Some o))) (sym c.in-Link.is)
    (ok_for c.link_due.result (λ (now : EventNow) (position : ScriptPosition) (asked : Bool). step_due p.machine (journal_of p) now position asked (Some (op.Link c.in-Link.supplier c.in-Link.consumer)))
    c.args.now c.args.position c.args.asked c.link_due.ensures)

pub returns-in-LinkState : goal.returns-in-LinkState
returns-in-LinkState c =
    let p = c.args.past.now in
    subst (λ (o : Op). c.link_set_due.result ≡ step_due p.machine (journal_of p) c.args.now c.args.position c.args.asked (Some o)) (sym c.in-LinkState.is)
    (c.link_set_due.ensures c.args.now c.args.position c.args.asked)
