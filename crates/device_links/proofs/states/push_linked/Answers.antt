-- Proof by hand of `push_linked`: its loop, its indices and the rest, by the lemmas of `InPlace`, `Refilling` and others.
use Rattle.std.proofs.Common.{◌≡◌, ◌≤◌, ◌∙◌, ◌==◌, ◌++◌, ◌∷◌, [], length, take, reverse, get_or, set, sym, ap, subst, cond, arith}
use Rattle.device_rows.specs.Table.{room_at}
use Rattle.device_links.specs.Ends.{active_beside, beside, device_across, device_at}
use Rattle.device_links.proofs.Ends.{none_shown}
use Rattle.device_links.proofs.InPlace.{IsRefilled, has_room, refill_first, refilled_row, refilled_more, refilled_as}
use Rattle.device_links.proofs.Numbering.{picked, number_within}
use Rattle.device_links.proofs.Refilling.{consumer_here, all_shown, step_shown, fits_shown}
use Rattle.device_links.proofs.Tabulating.{no_link}
use Rattle.device_links.proofs.states.push_linked.Goals.{then-not-is_left_out, else-not-is_left_out}
use Rattle.device_links.proofs.states.push_linked.Goals as goal

pub loop-number-init : goal.loop-number-init
loop-number-init c =
    let ps = c.args.parents.now in
    let d = c.args.device in
    let end = c.args.end in
    record {
      rows = refill_first c.args.table.now.rows d (active_beside end ps [] d) (c.requires.tree ∙ sym (none_shown end ps d));
      places = λ x. omega arith;
    }

pub bounds-links-number : goal.bounds-links-number
bounds-links-number c =
    number_within (λ k. device_across c.args.end k == c.args.device) c.args.links.now c.args.numbers.now c.requires.numbers c.loop-number.number-index 0 c.loop-number-test.true

pub is_left_out-requires : goal.is_left_out-requires
is_left_out-requires c =
    consumer_here c.args.parents.now c.args.links.now (λ k. device_across c.args.end k == c.args.device) c.args.numbers.now c.requires.numbers c.requires.apart c.loop-number.number-index c.loop-number-test.true

pub push-requires : goal.push-requires
push-requires c =
    let ps = c.args.parents.now in
    let ls = c.args.links.now in
    let ns = c.args.numbers.now in
    let d = c.args.device in
    let end = c.args.end in
    let i = c.loop-number.number-index in
    let t = c.loop-number.table in
    let row = active_beside end ps (reverse (take i (picked ls ns))) d in
    let most : length (beside end ps (reverse ls) d) ≤ room_at t d = let p = c.requires.places in let q = c.loop-number.invariant.places d in omega (arith, p, q) in
    has_room t d (length (beside end ps (reverse ls) d)) row (refilled_row c.args.table.now.rows t.rows d row c.requires.within c.loop-number.invariant.rows) (fits_shown end ps ls d ns c.requires.numbers c.requires.apart i c.loop-number-test.true) most

pub loop-number-preserved : goal.loop-number-preserved
loop-number-preserved c =
    let ps = c.args.parents.now in
    let ls = c.args.links.now in
    let ns = c.args.numbers.now in
    let d = c.args.device in
    let end = c.args.end in
    let i = c.loop-number.number-index in
    let t = c.loop-number.table in
    let first = c.args.table.now in
    let l = get_or ls (get_or ns i 0) no_link in
    let row = active_beside end ps (reverse (take i (picked ls ns))) d in
    let next = step_shown end ps ls d ns c.requires.numbers c.requires.apart i c.loop-number-test.true ∙ ap (λ b. cond b row (row ++ device_at end l ∷ [])) (sym c.is_left_out.ensures) in
    elim c.if-not-is_left_out.branch [
      | then-not-is_left_out w ↦ subst (IsRefilled first d _) (sym w.table-is)
          (refilled_as first w.push.new.self d _ _ (sym (next ∙ ap (λ b. cond b row (row ++ device_at end l ∷ [])) w.if-not-is_left_out.true))
          (refilled_more first t w.push.new.self d (device_at end l) row c.requires.within c.loop-number.invariant
          (w.push.ensures.rows ∙ ap (λ x. set t.rows d (get_or t.rows d [] ++ x ∷ [])) w.device_at.ensures) w.push.ensures.places))
      | else-not-is_left_out w ↦ subst (IsRefilled first d _) (sym w.table-is)
          (refilled_as first t d _ _ (sym (next ∙ ap (λ b. cond b row (row ++ device_at end l ∷ [])) w.if-not-is_left_out.false)) c.loop-number.invariant)
    ]

pub returns-clause-rows : goal.returns-clause-rows
returns-clause-rows c =
    (refilled_as c.args.table.now c.loop-number.table c.args.device _ _ (all_shown c.args.end c.args.parents.now c.args.links.now c.args.device c.args.numbers.now c.requires.numbers c.requires.apart c.loop-number.number-index (omega arith)) c.loop-number.invariant).rows
