-- Proof by hand of `of_links`: the call of `make_room`, its loop and what it returns, by the lemmas of `Numbering` and `Tabulating`.
use Rattle.std.proofs.Common.{◌∙◌, List, Some, length, reverse, get_or, ap, subst, arith}
use Rattle.std.proofs.lemmas.List.{get_or_default, take_all}
use Rattle.sleep_model.specs.declared.machine.Link.{Link}
use Rattle.device_rows.specs.Table.{with_number}
use Rattle.device_links.specs.Invariant.{AreNumbered}
use Rattle.device_links.proofs.Numbering.{numbered_next}
use Rattle.device_links.proofs.Tabulating.{no_link, supplier_at, consumer_at}
use Rattle.device_links.proofs.numbers.LinkNumbers.of_links.Goals as goal

pub make_room-requires-clause-supplier : goal.make_room-requires-clause-supplier
make_room-requires-clause-supplier c =
    let ls = c.args.links.now in
    let i = c.loop-number.number in
    let n = c.loop-number.invariant.by_supplier.count in
    let s = supplier_at c.args.parents.now ls i (get_or ls i no_link) c.loop-number-test.true (get_or_default ls i no_link (get_or ls i no_link) c.loop-number-test.true) c.requires.apart in
    omega (arith, n, s)

pub make_room-requires-clause-consumer : goal.make_room-requires-clause-consumer
make_room-requires-clause-consumer c =
    let ls = c.args.links.now in
    let i = c.loop-number.number in
    let n = c.loop-number.invariant.by_consumer.count in
    let s = consumer_at c.args.parents.now ls i (get_or ls i no_link) c.loop-number-test.true (get_or_default ls i no_link (get_or ls i no_link) c.loop-number-test.true) c.requires.apart in
    omega (arith, n, s)

pub loop-number-preserved : goal.loop-number-preserved
loop-number-preserved c =
    let ls = c.args.links.now in
    let i = c.loop-number.number in
    let l = get_or ls i no_link in
    let now = c.loop-number.numbers in
    numbered_next c.args.parents.now ls i l c.loop-number-test.true (get_or_default ls i no_link l c.loop-number-test.true) c.requires.apart now.by_supplier.rows now.by_consumer.rows c.push.new.self.by_supplier.rows c.push.new.self.by_consumer.rows c.loop-number.invariant
    (c.push.ensures.by_supplier ∙ ap (λ r. with_number r (Some l.supplier) i) c.make_room.ensures.by_supplier)
    (c.push.ensures.by_consumer ∙ ap (λ r. with_number r (Some l.consumer) i) c.make_room.ensures.by_consumer)

pub returns : goal.returns
returns c =
    subst (λ (ls : List Link). AreNumbered (length c.args.parents.now) (reverse ls) c.loop-number.numbers.by_supplier.rows c.loop-number.numbers.by_consumer.rows) (take_all c.loop-number.number c.args.links.now (omega arith)) c.loop-number.invariant
