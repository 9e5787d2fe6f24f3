-- Proof that `ScriptPositions::are_stopped` meets its contract.
use Rattle.std.proofs.Common.{◌≡◌, ◌∙◌, List, nat_lt, length, sym, ap, subst, arith}
use Rattle.std.proofs.lemmas.Bool.Decides.{nat_tests}
use Rattle.std.specs.Bool.{OnTrue}
use Rattle.sleep_model.specs.declared.progress.ScriptPosition.{ScriptPosition}
use Rattle.sleep_state.specs.Sleepers.{earliest_end, AreStopped}
use Rattle.sleep_state.specs.Trees.{least_of}
use Rattle.sleep_state.proofs.Sleeping.{later_moment, least_end_is, stopped_shown}
use Rattle.sleep_state.proofs.positions.ScriptPositions.are_stopped.Goals as goal

pub returns-then-self-eq0 : goal.returns-then-self-eq0
returns-then-self-eq0 c =
    let s = c.self.inside in
    let none : s.awake ≡ 0 = grind (arith, nat_tests, c.if-self-eq0.true) in
    subst (λ (xs : List ScriptPosition). OnTrue (nat_lt c.args.time c.least.result) (AreStopped xs c.args.time)) c.self.view_is
    (stopped_shown s.positions.items c.args.time (nat_lt c.args.time c.least.result) (λ e. omega (arith, none, c.self.invariant.awake_is))
    (λ e. later_moment (earliest_end s.positions.items (length s.positions.items)) c.args.time
    (ap (nat_lt c.args.time) (sym (c.least.ensures ∙ (ap least_of c.self.invariant.ends_are ∙ least_end_is s.positions.items))) ∙ e)))
