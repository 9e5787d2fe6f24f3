-- Proof by hand of `append`: what it returns, by the lemmas of `Edits`.
use Rattle.std.proofs.Common.{◌≡◌, ◌<◌, ◌≤◌, ◌+◌, ◌-◌, ◌++◌, ◌∷◌, ◌∙◌, [], ℕ, length, map, get_or, sym, ap, ap₂, set, subst, arith, length-append}
use Rattle.std.specs.Vec.{vec_capacity, vec_len}
use Rattle.device_rows.specs.Table.{Table, room_at}
use Rattle.device_rows.proofs.Edits.{seen_at, seen_preserved, seen_set, within_seen, room_more, on_err}
use Rattle.device_rows.proofs.rows.Rows.append.Goals as goal

pub returns-in_err-push-clause-places : goal.returns-in_err-push-clause-places
returns-in_err-push-clause-places c =
    let xs = c.self.inside.rows.items in
    let i = c.args.device in
    let v = c.index_mut-row.result.now in
    let y = c.push.new.self in
    let seen = ap (λ t. t.rows) c.self.view_is in
    let within : i < length xs = within_seen (λ w. w.items) xs c.args.self.now.rows i seen c.requires in
    let more : length v.items + (vec_capacity v - vec_len v) ≤ length y.items + (vec_capacity y - vec_len y) = omega (arith, ap length c.in_err-push.ensures.items, c.push.ensures.len, c.push.ensures.capacity, y.ok.0, y.ok.1, v.ok.0, v.ok.1) in
    subst (λ (t : Table). (d : ℕ) → room_at t d ≤ length (get_or (map (λ w. w.items) (set xs i y)) d []) + get_or (map (λ w. vec_capacity w - vec_len w) (set xs i y)) d 0) c.self.view_is
    (room_more (λ w. w.items) (λ w. vec_capacity w - vec_len w) xs i v y within c.index_mut-row.ensures.value more)

pub returns-in_err-push-clause-err : goal.returns-in_err-push-clause-err
returns-in_err-push-clause-err c =
    let xs = c.self.inside.rows.items in
    let i = c.args.device in
    let v = c.index_mut-row.result.now in
    let y = c.push.new.self in
    let seen = ap (λ t. t.rows) c.self.view_is in
    let within : i < length xs = within_seen (λ w. w.items) xs c.args.self.now.rows i seen c.requires in
    on_err c.from_residual.result (seen_preserved (λ w. w.items) xs i v y within c.index_mut-row.ensures.value c.in_err-push.ensures.items ∙ seen)

pub returns-clause-ok : goal.returns-clause-ok
returns-clause-ok c =
    let xs = c.self.inside.rows.items in
    let i = c.args.device in
    let v = c.index_mut-row.result.now in
    let y = c.push.new.self in
    let seen = ap (λ t. t.rows) c.self.view_is in
    let within : i < length xs = within_seen (λ w. w.items) xs c.args.self.now.rows i seen c.requires in
    let old : get_or c.args.self.now.rows i [] ≡ v.items = sym (ap (λ rows. get_or rows i []) seen) ∙ seen_at (λ w. w.items) xs i v y within c.index_mut-row.ensures.value [] in
    seen_set (λ w. w.items) xs i v y within c.index_mut-row.ensures.value [] (v.items ++ c.args.number ∷ []) c.in_ok-push.ensures.items
    ∙ ap₂ (λ rows row. set rows i (row ++ c.args.number ∷ [])) seen (sym old)

pub returns-clause-places : goal.returns-clause-places
returns-clause-places c =
    let xs = c.self.inside.rows.items in
    let i = c.args.device in
    let v = c.index_mut-row.result.now in
    let y = c.push.new.self in
    let seen = ap (λ t. t.rows) c.self.view_is in
    let within : i < length xs = within_seen (λ w. w.items) xs c.args.self.now.rows i seen c.requires in
    let more : length v.items + (vec_capacity v - vec_len v) ≤ length y.items + (vec_capacity y - vec_len y) = omega (arith, ap length c.in_ok-push.ensures.items, length-append v.items (c.args.number ∷ []), c.push.ensures.len, c.push.ensures.capacity, y.ok.0, y.ok.1, v.ok.0, v.ok.1) in
    subst (λ (t : Table). (d : ℕ) → room_at t d ≤ length (get_or (map (λ w. w.items) (set xs i y)) d []) + get_or (map (λ w. vec_capacity w - vec_len w) (set xs i y)) d 0) c.self.view_is
    (room_more (λ w. w.items) (λ w. vec_capacity w - vec_len w) xs i v y within c.index_mut-row.ensures.value more)
