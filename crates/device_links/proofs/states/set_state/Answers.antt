-- Proof by hand of `set_state`: the call of `index_mut`, its loop and what it returns, by the lemmas of `Numbering` and `Tabulating`.
use Rattle.std.proofs.Common.{◌≡◌, ◌<◌, ◌∙◌, ◌==◌, length, take, get_or, set, sym, ap, arith}
use Rattle.std.proofs.lemmas.Bool.{true≢false}
use Rattle.std.proofs.lemmas.List.{get_or_default, take_all, set-get_or}
use Rattle.sleep_model.specs.Order.{with_state}
use Rattle.device_links.proofs.Numbering.{changed, changed_length, changed_more, changed_all, number_within, state_past}
use Rattle.device_links.proofs.Tabulating.{no_link}
use Rattle.device_links.proofs.states.set_state.Goals.{then-set_one, else-set_one}
use Rattle.device_links.proofs.states.set_state.Goals as goal

pub index_mut-link-requires : goal.index_mut-link-requires
index_mut-link-requires c =
    let first = c.args.links.now.items in
    let row = c.args.consumed.now in
    let j = c.loop-number.number-index in
    let a = number_within (λ l. l.consumer == c.args.consumer) first row c.requires j 0 c.loop-number-test.true in
    let b = ap length c.loop-number.invariant.now in
    let e = changed_length (with_state c.args.supplier c.args.consumer c.args.to) (take j row) first in
    let g = c.loop-number.links.ok.0 in
    omega (arith, a, b, e, g)

pub loop-number-preserved : goal.loop-number-preserved
loop-number-preserved c =
    let f = with_state c.args.supplier c.args.consumer c.args.to in
    let first = c.args.links.now.items in
    let row = c.args.consumed.now in
    let now = c.loop-number.links.items in
    let j = c.loop-number.number-index in
    let i = get_or row j 0 in
    let within : i < length now =
    let a = number_within (λ l. l.consumer == c.args.consumer) first row c.requires j 0 c.loop-number-test.true in let b = ap length c.loop-number.invariant.now in let e = changed_length f (take j row) first in
    omega (arith, a, b, e) in
    let old = c.index_mut-link.result.now in
    let at : old ≡ get_or now i no_link = c.index_mut-link.ensures.value ∙ sym (get_or_default now i no_link old within) in
    let is : c.set_one.new.link ≡ f (get_or now i no_link) = c.set_one.ensures.set ∙ ap f at in
    record {
      now = ap (set now i) is ∙ changed_more f row j 0 first now c.loop-number-test.true c.loop-number.invariant.now;
      kept = λ e. elim c.if-set_one.branch [
        | then-set_one w ↦ absurd (true≢false (sym w.changed-is ∙ e))
        | else-set_one w ↦ ap (set now i) (w.if-set_one.ensures.kept ∙ at) ∙ (set-get_or now i no_link ∙ c.loop-number.invariant.kept (sym w.changed-is ∙ e))
      ];
    }

pub returns-clause-set : goal.returns-clause-set
returns-clause-set c =
    let f = with_state c.args.supplier c.args.consumer c.args.to in
    let first = c.args.links.now.items in
    c.loop-number.invariant.now
    ∙ (ap (λ is. changed f is first) (take_all c.loop-number.number-index c.args.consumed.now (omega arith))
    ∙ changed_all f (λ l. l.consumer == c.args.consumer) (λ l e. state_past c.args.supplier c.args.consumer c.args.to l e) first c.args.consumed.now c.requires)
