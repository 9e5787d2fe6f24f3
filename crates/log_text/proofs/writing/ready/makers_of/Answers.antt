-- Proof by hand of `makers_of`: what it returns, by the names of devices and of sources.
use Rattle.std.proofs.Common.{◌≡◌, ◌++◌, ℕ, List, codes, ap, subst, ◌∙◌}
use Rattle.std.specs.Option.{ForSome}
use Rattle.std.specs.Prelude.{slice_get}
use Rattle.sleep_model.specs.Text.{name_in, space}
use Rattle.log_text.proofs.Lists.{device_at}
use Rattle.log_text.proofs.writing.ready.makers_of.Goals as goal

pub returns-clause-makers : goal.returns-clause-makers
returns-clause-makers c = λ i.
    let named = ap (λ (names : List (List ℕ)). name_in (slice_get names i)) c.requires.devices ∙ device_at c.args.machine.now i in
    subst (λ (name : List ℕ). ForSome (slice_get c.in_ok-makers.makers.items i) (λ t. t ≡ (codes "dev:" ++ name) ++ space)) named (c.in_ok-makers.ensures i)

pub returns-clause-timers : goal.returns-clause-timers
returns-clause-timers c = λ i.
    let named = ap (λ (names : List (List ℕ)). name_in (slice_get names i)) c.requires.sources in
    subst (λ (name : List ℕ). ForSome (slice_get c.in-Ok-makers_named.timers.items i) (λ t. t ≡ (codes "timer:" ++ name) ++ space)) named (c.in-Ok-makers_named.ensures i)
