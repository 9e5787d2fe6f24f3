-- Proof by hand of `make_room`: what it returns, by the lemmas of `Edits`.
use Rattle.std.proofs.Common.{◌<◌, ◌≤◌, ◌+◌, ◌-◌, ◌∙◌, length, map, get_or, set, [], sym, ap, arith, subst, ℕ}
use Rattle.std.specs.Vec.{vec_capacity, vec_len}
use Rattle.device_rows.specs.Table.{Table, room_at}
use Rattle.device_rows.proofs.Edits.{seen_preserved, seen_new, within_seen, room_more}
use Rattle.device_rows.proofs.rows.Rows.make_room.Goals as goal

pub returns-in_err-reserve-clause-rows : goal.returns-in_err-reserve-clause-rows
returns-in_err-reserve-clause-rows c =
    let xs = c.self.inside.rows.items in
    let seen = ap (λ t. t.rows) c.self.view_is in
    let within : c.args.device < length xs = within_seen (λ v. v.items) xs c.args.self.now.rows c.args.device seen c.requires in
    seen_preserved (λ v. v.items) xs c.args.device c.index_mut-row.result.now c.reserve.new.self within c.index_mut-row.ensures.value c.reserve.ensures.items ∙ seen

pub returns-clause-rows : goal.returns-clause-rows
returns-clause-rows c =
    let xs = c.self.inside.rows.items in
    let seen = ap (λ t. t.rows) c.self.view_is in
    let within : c.args.device < length xs = within_seen (λ v. v.items) xs c.args.self.now.rows c.args.device seen c.requires in
    seen_preserved (λ v. v.items) xs c.args.device c.index_mut-row.result.now c.reserve.new.self within c.index_mut-row.ensures.value c.reserve.ensures.items ∙ seen

pub returns-clause-ok : goal.returns-clause-ok
returns-clause-ok c =
    let xs = c.self.inside.rows.items in
    let within : c.args.device < length xs = within_seen (λ v. v.items) xs c.args.self.now.rows c.args.device (ap (λ t. t.rows) c.self.view_is) c.requires in
    let left : 0 < vec_capacity c.reserve.new.self - vec_len c.reserve.new.self = omega (arith, c.in_ok-reserve.ensures.ok) in
    let is = seen_new (λ v. vec_capacity v - vec_len v) xs c.args.device c.index_mut-row.result.now c.reserve.new.self within c.index_mut-row.ensures.value 0 in
    subst (λ (n : ℕ). 0 < n) (sym is) left

pub returns-in_err-reserve-clause-places : goal.returns-in_err-reserve-clause-places
returns-in_err-reserve-clause-places c =
    let xs = c.self.inside.rows.items in
    let i = c.args.device in
    let v = c.index_mut-row.result.now in
    let y = c.reserve.new.self in
    let within : i < length xs = within_seen (λ v. v.items) xs c.args.self.now.rows i (ap (λ t. t.rows) c.self.view_is) c.requires in
    let more : length v.items + (vec_capacity v - vec_len v) ≤ length y.items + (vec_capacity y - vec_len y) = omega (arith, ap length c.reserve.ensures.items, c.reserve.ensures.len, c.reserve.ensures.capacity) in
    subst (λ (t : Table). (d : ℕ) → room_at t d ≤ length (get_or (map (λ w. w.items) (set xs i y)) d []) + get_or (map (λ w. vec_capacity w - vec_len w) (set xs i y)) d 0) c.self.view_is
    (room_more (λ w. w.items) (λ w. vec_capacity w - vec_len w) xs i v y within c.index_mut-row.ensures.value more)

pub returns-clause-places : goal.returns-clause-places
returns-clause-places c =
    let xs = c.self.inside.rows.items in
    let i = c.args.device in
    let v = c.index_mut-row.result.now in
    let y = c.reserve.new.self in
    let within : i < length xs = within_seen (λ v. v.items) xs c.args.self.now.rows i (ap (λ t. t.rows) c.self.view_is) c.requires in
    let more : length v.items + (vec_capacity v - vec_len v) ≤ length y.items + (vec_capacity y - vec_len y) = omega (arith, ap length c.reserve.ensures.items, c.reserve.ensures.len, c.reserve.ensures.capacity) in
    subst (λ (t : Table). (d : ℕ) → room_at t d ≤ length (get_or (map (λ w. w.items) (set xs i y)) d []) + get_or (map (λ w. vec_capacity w - vec_len w) (set xs i y)) d 0) c.self.view_is
    (room_more (λ w. w.items) (λ w. vec_capacity w - vec_len w) xs i v y within c.index_mut-row.ensures.value more)
