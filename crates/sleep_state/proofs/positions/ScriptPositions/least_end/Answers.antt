-- Proof that `ScriptPositions::least_end` meets its contract.
use Rattle.std.proofs.Common.{◌≡◌, ◌<◌, ◌∙◌, List, length, sym, ap, arith}
use Rattle.std.proofs.lemmas.Bool.Decides.{nat_tests}
use Rattle.sleep_model.specs.declared.progress.ScriptPosition.{ScriptPosition}
use Rattle.sleep_state.specs.Sleepers.{earliest_end}
use Rattle.sleep_state.specs.Trees.{last, never, moment_of, least_of}
use Rattle.sleep_state.proofs.Sleeping.{ends_never, ends_then, least_end_is}
use Rattle.sleep_state.proofs.positions.ScriptPositions.least_end.Goals as goal

pub returns-then-least-lt-LAST : goal.returns-then-least-lt-LAST
returns-then-least-lt-LAST c =
    let xs = c.self.inside.positions.items in
    let is : moment_of (earliest_end xs (length xs)) ≡ c.least-least.result = sym (c.least-least.ensures ∙ (ap least_of c.self.invariant.ends_are ∙ least_end_is xs)) in
    let early : c.least-least.result < last = grind (arith, nat_tests) in
    sym (ends_then (earliest_end xs (length xs)) c.least-least.result is early) ∙ ap (λ (ys : List ScriptPosition). earliest_end ys (length ys)) c.self.view_is

pub returns-then-least : goal.returns-then-least
returns-then-least c =
    let xs = c.self.inside.positions.items in
    let is : moment_of (earliest_end xs (length xs)) ≡ c.least-least.result = sym (c.least-least.ensures ∙ (ap least_of c.self.invariant.ends_are ∙ least_end_is xs)) in
    let none : c.least-least.result ≡ never = grind (arith, nat_tests) in
    sym (ends_never (earliest_end xs (length xs)) (is ∙ none)) ∙ ap (λ (ys : List ScriptPosition). earliest_end ys (length ys)) c.self.view_is
