-- Proof by hand of `push`: what it returns, by the lemmas of `Edits`.
use Rattle.std.proofs.Common.{◌≡◌, ◌<◌, ◌≤◌, ◌+◌, ◌-◌, ◌++◌, ◌∷◌, ◌∙◌, [], ℕ, length, map, get_or, sym, ap, ap₂, set, subst, arith, length-append}
use Rattle.std.proofs.lemmas.List.{length-map}
use Rattle.std.specs.Vec.{vec_capacity, vec_len}
use Rattle.device_rows.specs.Table.{Table, room_at}
use Rattle.device_rows.proofs.Edits.{seen_at, seen_set, above_zero, room_more}
use Rattle.device_rows.proofs.rows.Rows.push.Goals as goal

pub returns-clause-rows : goal.returns-clause-rows
returns-clause-rows c =
    let xs = c.self.inside.rows.items in
    let d = c.args.device in
    let v = c.index_mut-row.result.now in
    let seen = ap (λ t. t.rows) c.self.view_is in
    let rooms = ap (λ t. t.room) c.self.view_is in
    let in_room : d < length c.args.self.now.room = above_zero c.args.self.now.room d c.requires in
    let within : d < length xs = omega (arith, length-map xs (λ v. vec_capacity v - vec_len v), ap length rooms) in
    let old : get_or c.args.self.now.rows d [] ≡ v.items = sym (ap (λ rows. get_or rows d []) seen) ∙ seen_at (λ v. v.items) xs d v c.push_reserved.new.self within c.index_mut-row.ensures.value [] in
    seen_set (λ v. v.items) xs d v c.push_reserved.new.self within c.index_mut-row.ensures.value [] (v.items ++ c.args.number ∷ []) c.push_reserved.ensures.items
    ∙ ap₂ (λ rows row. set rows d (row ++ c.args.number ∷ [])) seen (sym old)

pub returns-clause-places : goal.returns-clause-places
returns-clause-places c =
    let xs = c.self.inside.rows.items in
    let i = c.args.device in
    let v = c.index_mut-row.result.now in
    let y = c.push_reserved.new.self in
    let in_room : i < length c.args.self.now.room = above_zero c.args.self.now.room i c.requires in
    let within : i < length xs = omega (arith, length-map xs (λ v. vec_capacity v - vec_len v), ap length (ap (λ t. t.room) c.self.view_is)) in
    let more : length v.items + (vec_capacity v - vec_len v) ≤ length y.items + (vec_capacity y - vec_len y) = omega (arith, ap length c.push_reserved.ensures.items, length-append v.items (c.args.number ∷ []), c.push_reserved.ensures.len, c.push_reserved.ensures.capacity) in
    subst (λ (t : Table). (d : ℕ) → room_at t d ≤ length (get_or (map (λ w. w.items) (set xs i y)) d []) + get_or (map (λ w. vec_capacity w - vec_len w) (set xs i y)) d 0) c.self.view_is
    (room_more (λ w. w.items) (λ w. vec_capacity w - vec_len w) xs i v y within c.index_mut-row.ensures.value more)
