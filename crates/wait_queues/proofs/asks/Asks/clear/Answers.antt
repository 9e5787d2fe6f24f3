-- Proof that `Asks::clear` meets its contract.
use Rattle.std.proofs.Common.{◌≡◌, ℕ, length, replicate, ap, ◌∙◌}
use Rattle.wait_queues.specs.NumberSets.{bits_of}
use Rattle.wait_queues.proofs.NumberSetBits.{bits_of-none}
use Rattle.wait_queues.proofs.asks.Asks.clear.Goals as goal

pub returns : goal.returns
returns c =
    let words = c.self.inside.words.items in
    let long : c.self.inside.words.len ≡ length words = c.self.inside.words.ok.0 in
    rw (← c.self.view_is)
    (ap bits_of (c.fill.ensures.items (λ y same. same) ∙ ap (λ n. replicate n 0) long) ∙ bits_of-none words)
