-- Proof by hand of `registered`: its loop, by the lemmas of `Runs`.
use Rattle.std.proofs.Common.{◌≡◌, ◌+◌, ◌++◌, ◌∷◌, ◌∙◌, [], ap, arith}
use Rattle.std.specs.List.{range_with_len}
use Rattle.device_links.proofs.Runs.{run_push}
use Rattle.device_links.proofs.tables.registered.Goals as goal

pub loop-device-preserved : goal.loop-device-preserved
loop-device-preserved c =
    let i = c.loop-device.device in
    let e : i ≡ 0 + i = omega arith in
    c.in_ok-push.ensures.items ∙ ap (λ xs. xs ++ i ∷ []) c.loop-device.invariant ∙ ap (λ k. range_with_len 0 i ++ k ∷ []) e ∙ run_push 0 i
