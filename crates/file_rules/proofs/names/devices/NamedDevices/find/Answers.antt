-- Proof that `NamedDevices::find` meets its contract: the names that it asks are those of the devices.
use Rattle.std.proofs.Common.{◌∙◌, ap, bytes_eq, position}
use Rattle.file_rules.specs.Knows.{names}
use Rattle.file_rules.proofs.names.devices.NamedDevices.find.Goals as goal

pub returns-in-Some : goal.returns-in-Some
returns-in-Some c =
    let is = bytes_eq c.args.name.now in
    c.in-Some.ensures.place ∙ ap (position is) c.self.invariant.names ∙ ap (λ ds. position is (names ds)) c.self.view_is

pub returns-in-None : goal.returns-in-None
returns-in-None c =
    let is = bytes_eq c.args.name.now in
    c.in-None.ensures.place ∙ ap (position is) c.self.invariant.names ∙ ap (λ ds. position is (names ds)) c.self.view_is
