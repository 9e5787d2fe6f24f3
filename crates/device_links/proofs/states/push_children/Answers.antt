-- Proof by hand of `push_children`: its loop, the call of `push` and what it returns, by the lemmas of `InPlace`.
use Rattle.std.proofs.Common.{◌<◌, ◌≤◌, [], length, take, get_or, sym, arith}
use Rattle.std.proofs.lemmas.List.{take_more, take_all, length-take-le}
use Rattle.device_rows.specs.Table.{room_at}
use Rattle.device_links.proofs.InPlace.{has_room, refill_first, refilled_row, refilled_more, refilled_as}
use Rattle.device_links.proofs.states.push_children.Goals as goal

pub loop-child-init : goal.loop-child-init
loop-child-init c = record {
  rows = refill_first c.args.table.now.rows c.args.device [] c.requires.empty;
  places = λ x. omega arith;
}

pub push-requires : goal.push-requires
push-requires c =
    let xs = c.args.children.now in
    let d = c.args.device in
    let i = c.loop-child.child-index in
    let t = c.loop-child.table in
    let within = c.loop-child-test.true in
    let few : length (take i xs) < length xs = let n = length-take-le i xs (omega arith) in omega (arith, n, within) in
    let most : length xs ≤ room_at t d = let p = c.requires.places in let q = c.loop-child.invariant.places d in omega (arith, p, q) in
    has_room t d (length xs) (take i xs) (refilled_row c.args.table.now.rows t.rows d (take i xs) c.requires.within c.loop-child.invariant.rows) few most

pub loop-child-preserved : goal.loop-child-preserved
loop-child-preserved c =
    let xs = c.args.children.now in
    let i = c.loop-child.child-index in
    refilled_as c.args.table.now c.push.new.self c.args.device _ _ (sym (take_more xs i 0 c.loop-child-test.true))
    (refilled_more c.args.table.now c.loop-child.table c.push.new.self c.args.device (get_or xs i 0) (take i xs) c.requires.within c.loop-child.invariant c.push.ensures.rows c.push.ensures.places)

pub returns-clause-rows : goal.returns-clause-rows
returns-clause-rows c =
    (refilled_as c.args.table.now c.loop-child.table c.args.device _ _ (take_all c.loop-child.child-index c.args.children.now (omega arith)) c.loop-child.invariant).rows
