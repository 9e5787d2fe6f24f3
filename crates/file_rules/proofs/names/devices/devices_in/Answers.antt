-- Proof that `devices_in` meets its contract, and that it meets what `register_all` requires.
use Rattle.std.proofs.Common.{List, length, sym, ap, subst, arith}
use Rattle.std.specs.List.{All}
use Rattle.std.proofs.lemmas.List.{length-map}
use Rattle.serde_json.specs.Data.{Data}
use Rattle.borrowed_json.specs.View.{view}
use Rattle.file_rules.specs.Fitting.{HasShortName}
use Rattle.file_rules.specs.Registered.{AreRegistered}
use Rattle.file_rules.proofs.Registering.{none_broken}
use Rattle.file_rules.proofs.names.devices.devices_in.Goals as goal

pub register_all-requires : goal.register_all-requires
register_all-requires c =
    record {
      empty = c.new-devices.ensures;
      few =
          let n = length-map c.items.result.now view in
          let m = ap (length {A = Data}) c.items.ensures in
          let f = c.requires.few in
          omega arith;
      short = subst (All HasShortName) (sym c.items.ensures) c.requires.short;
    }

pub returns-in_ok-numbered-in-Ok-clause-unbroken : goal.returns-in_ok-numbered-in-Ok-clause-unbroken
returns-in_ok-numbered-in-Ok-clause-unbroken c =
    none_broken (view c.args.tree.now) c.register_all.new.devices (subst (λ (ds : List Data). AreRegistered ds c.register_all.new.devices) c.items.ensures c.in-Ok.ensures.registered)

pub numbered-requires : goal.numbered-requires
numbered-requires c = record {
  devices = (subst (λ (ds : List Data). AreRegistered ds c.register_all.new.devices) c.items.ensures c.in-Ok.ensures.registered).is;
  few = c.requires.few;
}
