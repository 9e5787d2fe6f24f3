-- Proof that `Asks::new` meets its contract.
use Rattle.std.proofs.Common.{◌≡◌, ◌+◌, ◌/◌, replicate, arith, ap, ◌∙◌}
use Rattle.std.specs.Prelude.{min}
use Rattle.wait_queues.specs.NumberSets.{bits_of}
use Rattle.wait_queues.proofs.NumberSetBits.{bits_of-replicate, marked-new}
use Rattle.wait_queues.proofs.asks.Asks.new.Goals as goal

pub returns : goal.returns
returns c =
    let rows : c.min.result ≡ min (c.args.many / 64 + 1) 63 = omega (arith, c.min.ensures) in
    ap bits_of (c.in_ok-words.ensures.items_if_clones_equal (λ y same. same) ∙ ap (λ n. replicate n 0) rows)
    ∙ bits_of-replicate (min (c.args.many / 64 + 1) 63)
