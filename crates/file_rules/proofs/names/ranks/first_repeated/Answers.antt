-- Proof that `first_repeated` meets its contract, and that its loop keeps its invariant.
use Rattle.std.proofs.Common.{◌≡◌, ◌∙◌, List, take, arith, sym, ap}
use Rattle.std.specs.List.{list_any}
use Rattle.file_rules.proofs.Placing.{repeated_here, repeated_later, repeated_none, repeated_from}
use Rattle.file_rules.proofs.names.ranks.first_repeated.Goals as goal

pub returns-then-is_before : goal.returns-then-is_before
returns-then-is_before g c =
    let eq = g.K.PartialEq.eq in
    let keys = c.keys-list.result.now in
    let seen : keys ≡ c.args.keys.now = c.keys-list.ensures in
    repeated_here eq keys c.loop-i.i c.index-list-i.result (omega arith) c.index-list-i.is
    (sym (c.if-is_before.ensures ∙ ap (λ (ks : List g.row.K.Denot). list_any (eq c.index-list-i.result) (take c.loop-i.i ks)) (sym seen)))
    ∙ sym c.loop-i.invariant ∙ ap (λ (ks : List g.row.K.Denot). repeated_from eq ks 0) seen

pub loop-i-preserved : goal.loop-i-preserved
loop-i-preserved g c =
    let eq = g.K.PartialEq.eq in
    let keys = c.keys-list.result.now in
    let seen : keys ≡ c.args.keys.now = c.keys-list.ensures in
    c.loop-i.invariant
    ∙ repeated_later eq keys c.loop-i.i c.index-list-i.result (omega arith) c.index-list-i.is
    (sym (c.if-is_before.ensures ∙ ap (λ (ks : List g.row.K.Denot). list_any (eq c.index-list-i.result) (take c.loop-i.i ks)) (sym seen)))

pub returns : goal.returns
returns g c =
    let eq = g.K.PartialEq.eq in
    let seen : c.keys-list.result.now ≡ c.args.keys.now = c.keys-list.ensures in
    sym (ap (λ (ks : List g.row.K.Denot). repeated_from eq ks 0) (sym seen) ∙ c.loop-i.invariant ∙ repeated_none eq c.keys-list.result.now c.loop-i.i (omega arith))
