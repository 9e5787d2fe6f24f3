-- Proof by hand of `pass_calls`: what it returns, at the class of the entry.
use Rattle.std.proofs.Common.{◌≡◌, OnOk, subst}
use Rattle.sleep_model.specs.EntryClasses.{EntryClass}
use Rattle.check_sources.specs.Calling.{callers_after}
use Rattle.check_past.proofs.past_state.pass_calls.Goals as goal

pub returns : goal.returns
returns c =
    let old = c.args.calls.now in
    subst (λ (p : EntryClass). OnOk c.pass_calls_in.result (c.pass_calls_in.new.calls ≡ record old { state = callers_after old.machine c.args.e c.args.attempts p old.state }))
    c.class_of.ensures c.pass_calls_in.ensures
