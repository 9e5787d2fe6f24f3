-- Proof by hand of `first_async`: what it returns, by the lemmas of `AtIndex`.
use Rattle.std.proofs.Common.{◌∙◌, sym}
use Rattle.sleep_model.specs.PhaseStates.{is_down_in, state_at}
use Rattle.check_past.proofs.AtIndex.{none_async}
use Rattle.check_past.proofs.walks.first_async.Goals as goal

pub returns-then-not-has_async : goal.returns-then-not-has_async
returns-then-not-has_async c =
    sym (none_async (λ d. is_down_in (state_at c.args.phase_states.now d)) c.args.devices.now c.args.order.now (sym c.requires ∙ c.if-not-has_async.true))
