-- Proof by hand of `clear`: what it returns, by the lemmas of `Edits`.
use Rattle.std.proofs.Common.{◌<◌, ◌≤◌, ◌+◌, ◌-◌, ◌∙◌, length, map, get_or, set, [], ap, arith, subst, ℕ}
use Rattle.std.specs.Vec.{vec_capacity, vec_len}
use Rattle.device_rows.specs.Table.{Table, room_at}
use Rattle.device_rows.proofs.Edits.{seen_set, within_seen, room_more}
use Rattle.device_rows.proofs.rows.Rows.clear.Goals as goal

pub returns-clause-rows : goal.returns-clause-rows
returns-clause-rows c =
    let xs = c.self.inside.rows.items in
    let seen = ap (λ t. t.rows) c.self.view_is in
    let within : c.args.device < length xs = within_seen (λ v. v.items) xs c.args.self.now.rows c.args.device seen c.requires in
    seen_set (λ v. v.items) xs c.args.device c.index_mut-row.result.now c.clear.new.self within c.index_mut-row.ensures.value [] [] c.clear.ensures.items ∙ ap (λ rows. set rows c.args.device []) seen

pub returns-clause-places : goal.returns-clause-places
returns-clause-places c =
    let xs = c.self.inside.rows.items in
    let i = c.args.device in
    let v = c.index_mut-row.result.now in
    let y = c.clear.new.self in
    let within : i < length xs = within_seen (λ v. v.items) xs c.args.self.now.rows i (ap (λ t. t.rows) c.self.view_is) c.requires in
    let more : length v.items + (vec_capacity v - vec_len v) ≤ length y.items + (vec_capacity y - vec_len y) = omega (arith, ap length c.clear.ensures.items, c.clear.ensures.len, c.clear.ensures.capacity, v.ok.0, v.ok.1) in
    subst (λ (t : Table). (d : ℕ) → room_at t d ≤ length (get_or (map (λ w. w.items) (set xs i y)) d []) + get_or (map (λ w. vec_capacity w - vec_len w) (set xs i y)) d 0) c.self.view_is
    (room_more (λ w. w.items) (λ w. vec_capacity w - vec_len w) xs i v y within c.index_mut-row.ensures.value more)
