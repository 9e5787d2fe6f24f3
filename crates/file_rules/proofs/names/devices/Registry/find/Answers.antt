-- Proof that `Registry::find` meets its contract.
use Rattle.std.proofs.Common.{◌∙◌, ◌<◌, ◌≤◌, List, ℕ, length, ap, subst, bytes_eq, position}
use Rattle.file_rules.specs.Knows.{names}
use Rattle.file_rules.proofs.Registering.{nowhere}
use Rattle.file_rules.proofs.names.devices.Registry.find.Goals as goal

pub returns-in-None : goal.returns-in-None
returns-in-None c = nowhere c.args.name.now c.self.inside.tree c.self.invariant (subst (λ (t : List ℕ). (0 < length t) → (length t ≤ 32) → ⊥) c.as_bytes.ensures.value c.in-None.ensures.none) ∙ ap (λ ds. position (bytes_eq c.args.name.now) (names ds)) c.self.view_is
