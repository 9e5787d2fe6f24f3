-- Proof by hand of `of_tables`: the call of `of_links` and the invariants of its types, by the lemmas of `Invariant` and `Ordered`.
use Rattle.std.proofs.Common.{length, ap, sym, reverse, arith}
use Rattle.std.proofs.lemmas.List.{length-reverse}
use Rattle.device_links.specs.Invariant.{LinksInvariant, IsWhole}
use Rattle.device_links.proofs.Invariant.{whole_as}
use Rattle.device_links.proofs.Ordered.{linked_apart}
use Rattle.device_links.proofs.links.Links.of_tables.Goals as goal

pub of_links-requires-clause-apart : goal.of_links-requires-clause-apart
of_links-requires-clause-apart c = linked_apart c.args.parents.now (reverse c.args.links.now) c.requires.added.linked

pub invariant_of-result : goal.invariant_of-result
invariant_of-result c =
    let ps = c.args.parents.now in
    let ls = reverse c.args.links.now in
    let t = c.args.tables in
    let made = c.requires.tables in
    let few = c.requires.added.few in
    let count = length-reverse c.args.links.now in
    let kept : LinksInvariant ps ls t.dependents.rows t.below.rows t.suppliers.rows t.above.rows c.args.order.items =
    record {
      numbered = c.requires.numbered;
      after = c.requires.after;
      few = omega (arith, few, count);
      linked = c.requires.added.linked;
      all_dependents = made.all_dependents;
      once_below = made.once_below;
      all_suppliers = made.all_suppliers;
      once_above = made.once_above;
      ordered = c.requires.order;
    } in
    let whole : IsWhole ps ls t.dependents.rows t.below t.suppliers.rows t.above c.in-Ok.numbers.by_supplier.rows c.in-Ok.numbers.by_consumer.rows c.args.order.items =
    record { kept = kept; places = made.places; numbers = c.in-Ok.ensures } in
    whole_as (sym c.in-Ok-from_slice.ensures.items) (sym (ap reverse c.in-Ok-from_slice-2.ensures.items)) whole
