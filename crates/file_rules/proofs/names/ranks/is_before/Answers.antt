-- Proof that `is_before` meets its contract.
use Rattle.std.proofs.Common.{◌∙◌, sym, ap, nat_lt}
use Rattle.borrowed_json.specs.Look.{is_some_and}
use Rattle.file_rules.proofs.Placing.{any_before}
use Rattle.file_rules.proofs.names.ranks.is_before.Goals as goal

pub returns-in-Some : goal.returns-in-Some
returns-in-Some g c =
    ap (is_some_and (λ j. nat_lt j c.args.count)) c.in-Some.ensures.place ∙ sym (any_before (g.K.PartialEq.eq c.args.key.now) c.args.count c.args.keys.now)

pub returns-in-None : goal.returns-in-None
returns-in-None g c =
    ap (is_some_and (λ j. nat_lt j c.args.count)) c.in-None.ensures.place ∙ sym (any_before (g.K.PartialEq.eq c.args.key.now) c.args.count c.args.keys.now)
