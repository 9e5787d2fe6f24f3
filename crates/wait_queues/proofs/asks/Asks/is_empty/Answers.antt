-- Proof that `Asks::is_empty` meets its contract.
use Rattle.std.proofs.Common.{◌≡◌, ℕ, ◌^◌, ◌<◌, eq-eqb, sym, ap, subst, ◌∙◌, arith, rules}
use Rattle.std.proofs.lemmas.Bool.{eqb-true}
use Rattle.wait_queues.specs.NumberSets.{is_in}
use Rattle.wait_queues.proofs.NumberSetBits.{all_empty, is_empty}
use Rattle.wait_queues.proofs.asks.Asks.is_empty.Goals as goal

pub returns : goal.returns
returns c =
    let words = c.self.inside.words.items in
    let full_fits : c.self.inside.full < 2 ^ 64 = omega arith in
    rw (← c.self.view_is)
    (λ none. all_empty words c.self.inside.full c.self.invariant (eqb-true _ 0 none), λ none. eq-eqb _ 0 (is_empty words c.self.inside.full c.self.invariant full_fits none))
