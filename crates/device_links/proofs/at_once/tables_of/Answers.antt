-- Proof by hand of `tables_of`: what it returns and its loop, by the lemmas of `Tabulating`.
use Rattle.std.proofs.Common.{get_or}
use Rattle.std.proofs.lemmas.List.{get_or_default}
use Rattle.device_links.proofs.Tabulating.{not_apart, with_next, no_link}
use Rattle.device_links.proofs.at_once.tables_of.Goals as goal

pub returns-then-not-is_new : goal.returns-then-not-is_new
returns-then-not-is_new c =
    let ls = c.args.links.now in
    let i = c.loop-link.link-index in
    let l = get_or ls i no_link in
    not_apart c.args.parents.now ls i l c.loop-link-test.true (get_or_default ls i no_link l c.loop-link-test.true) c.loop-link.tables c.loop-link.invariant.1 c.if-not-is_new.ensures

pub loop-link-preserved : goal.loop-link-preserved
loop-link-preserved c =
    let ls = c.args.links.now in
    let i = c.loop-link.link-index in
    let l = get_or ls i no_link in
    with_next c.args.parents.now c.requires.after ls i l c.loop-link-test.true (get_or_default ls i no_link l c.loop-link-test.true) c.loop-link.tables c.hang_link.new.tables c.loop-link.invariant c.if-not-is_new.ensures c.in_ok-hang_link.ensures
