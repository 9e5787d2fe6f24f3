-- Proof by hand of `visit`: what it returns and its loop, by the lemmas of `Walking` and `Visiting`.
use Rattle.std.proofs.Common.{◌≡◌, ◌<◌, ◌+◌, ◌-◌, ◌∷◌, ◌++◌, ◌∙◌, [], length, get_or, ap, sym, subst, arith, false}
use Rattle.device_rows.specs.Table.{row_at}
use Rattle.sleep_model.specs.Order.{moved}
use Rattle.device_links.proofs.Walking.{next_at, devices}
use Rattle.device_links.proofs.Visiting.{Visiting, unseen, open_weight, begins, closes, passes, enters, meets, hangs, ended, stays, fewer_entered, mark_is}
use Rattle.device_links.proofs.visits.visit.Goals as goal

pub returns-then-is_marked : goal.returns-then-is_marked
returns-then-is_marked c =
    let t = c.args.table.now in
    let n = length t.rows in
    let dependents_of = row_at t in
    let from = c.args.from in
    let old = c.args.visits.now in
    let m = mark_is old.left.items n old.out c.requires.visits.left from c.requires.registered c.deref.result.now c.deref.ensures.value c.is_marked.result c.is_marked.ensures in
    stays dependents_of n from old c.requires.visits (m ∙ c.if-is_marked.true)

pub loop-top-init : goal.loop-top-init
loop-top-init c =
    let t = c.args.table.now in
    let n = length t.rows in
    let dependents_of = row_at t in
    let from = c.args.from in
    let old = c.args.visits.now in
    let v = c.requires.visits in
    let m = mark_is old.left.items n old.out v.left from c.requires.registered c.deref.result.now c.deref.ensures.value c.is_marked.result c.is_marked.ensures in
    let b = begins dependents_of (moved n dependents_of) n from old.out old.entered.items old.left.items v.ordered v.within v.entered v.left c.requires.registered (m ∙ c.if-is_marked.false) in
    let frames : c.push.new.self ≡ record { device = from; left = length (row_at t from) } ∷ [] =
    c.in_ok-push.ensures.ok ∙ ap (λ xs. record { device = from; left = length xs } ∷ c.new-frames.result) c.row.ensures ∙ ap (λ fs. record { device = from; left = length (row_at t from) } ∷ fs) c.new-frames.ensures in
    subst (λ fs. Visiting dependents_of (moved n dependents_of) n from old.out fs old.out c.mark.new.marks.items old.left.items) (sym frames)
    (subst (λ ms. Visiting dependents_of (moved n dependents_of) n from old.out (record { device = from; left = length (row_at t from) } ∷ []) old.out ms old.left.items) (sym c.mark.ensures) b)

pub loop-top-preserved-then-top-eq0 : goal.loop-top-preserved-then-top-eq0
loop-top-preserved-then-top-eq0 c =
    let t = c.args.table.now in
    let n = length t.rows in
    let dependents_of = row_at t in
    let from = c.args.from in
    let old = c.args.visits.now in
    let top = c.in-Some.top in
    let out = c.loop-top.visits.out in
    let entered = c.loop-top.visits.entered.items in
    let left = c.loop-top.visits.left.items in
    let w = subst (λ fs. Visiting dependents_of (moved n dependents_of) n from old.out fs out entered left) c.in-Some.ensures c.loop-top.invariant in
    let e = closes dependents_of (moved n dependents_of) n from old.out top c.pop.new.self out entered left w c.if-top-eq0.true in
    subst (λ o. Visiting dependents_of (moved n dependents_of) n from old.out c.pop.new.self o entered c.mark-then-top-eq0.new.marks.items) (sym c.in_ok-push-2.ensures.ok)
    (subst (λ ms. Visiting dependents_of (moved n dependents_of) n from old.out c.pop.new.self (top.device ∷ out) entered ms) (sym c.mark-then-top-eq0.ensures) e)

pub loop-top-preserved-then-is_marked-2 : goal.loop-top-preserved-then-is_marked-2
loop-top-preserved-then-is_marked-2 c =
    let t = c.args.table.now in
    let n = length t.rows in
    let dependents_of = row_at t in
    let from = c.args.from in
    let old = c.args.visits.now in
    let top = c.in-Some.top in
    let out = c.loop-top.visits.out in
    let entered = c.loop-top.visits.entered.items in
    let left = c.loop-top.visits.left.items in
    let w = subst (λ fs. Visiting dependents_of (moved n dependents_of) n from old.out fs out entered left) c.in-Some.ensures c.loop-top.invariant in
    let k = top.left - 1 in
    let next = get_or c.row-in-Some.result.now k 0 in
    let last : top.left ≡ k + 1 = omega arith in
    let l : k < length (row_at t top.device) = omega (arith, w.sized.1) in
    let at = next_at c.row-in-Some.result.now (row_at t top.device) k c.row-in-Some.ensures l in
    let h = hangs dependents_of (moved n dependents_of) n from old.out top c.pop.new.self out entered left w k next last at in
    let within : next < n = c.requires.within top.device next h in
    let was_left = mark_is left n out w.noted next within c.deref-in-Some.result.now c.deref-in-Some.ensures.value c.is_marked-in-Some.result c.is_marked-in-Some.ensures in
    let e = passes dependents_of (moved n dependents_of) n from old.out top c.pop.new.self out entered left w k next last at (was_left ∙ c.if-is_marked-2.true) in
    subst (λ fs. Visiting dependents_of (moved n dependents_of) n from old.out fs out entered left) (sym c.in_ok-push-3.ensures.ok) e

pub returns-then-is_marked-3 : goal.returns-then-is_marked-3
returns-then-is_marked-3 c =
    let t = c.args.table.now in
    let n = length t.rows in
    let dependents_of = row_at t in
    let from = c.args.from in
    let old = c.args.visits.now in
    let top = c.in-Some.top in
    let out = c.loop-top.visits.out in
    let entered = c.loop-top.visits.entered.items in
    let left = c.loop-top.visits.left.items in
    let w = subst (λ fs. Visiting dependents_of (moved n dependents_of) n from old.out fs out entered left) c.in-Some.ensures c.loop-top.invariant in
    let k = top.left - 1 in
    let next = get_or c.row-in-Some.result.now k 0 in
    let last : top.left ≡ k + 1 = omega arith in
    let l : k < length (row_at t top.device) = omega (arith, w.sized.1) in
    let at = next_at c.row-in-Some.result.now (row_at t top.device) k c.row-in-Some.ensures l in
    let h = hangs dependents_of (moved n dependents_of) n from old.out top c.pop.new.self out entered left w k next last at in
    let within : next < n = c.requires.within top.device next h in
    let was_left = mark_is left n out w.noted next within c.deref-in-Some.result.now c.deref-in-Some.ensures.value c.is_marked-in-Some.result c.is_marked-in-Some.ensures in
    let fresh = was_left ∙ c.if-is_marked-2.false in
    let was_entered = mark_is entered n (top.device ∷ devices c.pop.new.self ++ out) w.seen next within c.deref-in-Some-2.result.now c.deref-in-Some-2.ensures.value c.is_marked-in-Some-2.result c.is_marked-in-Some-2.ensures in
    meets dependents_of (moved n dependents_of) n from old.out top c.pop.new.self out entered left w k next last at (was_entered ∙ c.if-is_marked-3.true) fresh

pub loop-top-preserved : goal.loop-top-preserved
loop-top-preserved c =
    let t = c.args.table.now in
    let n = length t.rows in
    let dependents_of = row_at t in
    let from = c.args.from in
    let old = c.args.visits.now in
    let top = c.in-Some.top in
    let out = c.loop-top.visits.out in
    let entered = c.loop-top.visits.entered.items in
    let left = c.loop-top.visits.left.items in
    let w = subst (λ fs. Visiting dependents_of (moved n dependents_of) n from old.out fs out entered left) c.in-Some.ensures c.loop-top.invariant in
    let k = top.left - 1 in
    let next = get_or c.row-in-Some.result.now k 0 in
    let last : top.left ≡ k + 1 = omega arith in
    let l : k < length (row_at t top.device) = omega (arith, w.sized.1) in
    let at = next_at c.row-in-Some.result.now (row_at t top.device) k c.row-in-Some.ensures l in
    let h = hangs dependents_of (moved n dependents_of) n from old.out top c.pop.new.self out entered left w k next last at in
    let within : next < n = c.requires.within top.device next h in
    let was_left = mark_is left n out w.noted next within c.deref-in-Some.result.now c.deref-in-Some.ensures.value c.is_marked-in-Some.result c.is_marked-in-Some.ensures in
    let was_entered = mark_is entered n (top.device ∷ devices c.pop.new.self ++ out) w.seen next within c.deref-in-Some-2.result.now c.deref-in-Some-2.ensures.value c.is_marked-in-Some-2.result c.is_marked-in-Some-2.ensures in
    let frames : c.push-in-Some-2.new.self ≡ record { device = next; left = length (row_at t next) } ∷ record { device = top.device; left = k } ∷ c.pop.new.self =
    c.in_ok-push-4.ensures.ok ∙ ap (λ xs. record { device = next; left = length xs } ∷ c.push-in-Some.new.self) c.row-in-Some-2.ensures ∙ ap (λ fs. record { device = next; left = length (row_at t next) } ∷ fs) c.in_ok-push-3.ensures.ok in
    let e = enters dependents_of (moved n dependents_of) n from old.out top c.pop.new.self out entered left w k next last at within (was_entered ∙ c.if-is_marked-3.false) in
    subst (λ fs. Visiting dependents_of (moved n dependents_of) n from old.out fs out c.mark-in-Some.new.marks.items left) (sym frames)
    (subst (λ ms. Visiting dependents_of (moved n dependents_of) n from old.out (record { device = next; left = length (row_at t next) } ∷ record { device = top.device; left = k } ∷ c.pop.new.self) out ms left) (sym c.mark-in-Some.ensures) e)

pub loop-top-smaller : goal.loop-top-smaller
loop-top-smaller c =
    let t = c.args.table.now in
    let n = length t.rows in
    let dependents_of = row_at t in
    let from = c.args.from in
    let old = c.args.visits.now in
    let top = c.in-Some.top in
    let out = c.loop-top.visits.out in
    let entered = c.loop-top.visits.entered.items in
    let left = c.loop-top.visits.left.items in
    let w = subst (λ fs. Visiting dependents_of (moved n dependents_of) n from old.out fs out entered left) c.in-Some.ensures c.loop-top.invariant in
    let k = top.left - 1 in
    let next = get_or c.row-in-Some.result.now k 0 in
    let last : top.left ≡ k + 1 = omega arith in
    let l : k < length (row_at t top.device) = omega (arith, w.sized.1) in
    let at = next_at c.row-in-Some.result.now (row_at t top.device) k c.row-in-Some.ensures l in
    let h = hangs dependents_of (moved n dependents_of) n from old.out top c.pop.new.self out entered left w k next last at in
    let within : next < n = c.requires.within top.device next h in
    let was_left = mark_is left n out w.noted next within c.deref-in-Some.result.now c.deref-in-Some.ensures.value c.is_marked-in-Some.result c.is_marked-in-Some.ensures in
    let was_entered = mark_is entered n (top.device ∷ devices c.pop.new.self ++ out) w.seen next within c.deref-in-Some-2.result.now c.deref-in-Some-2.ensures.value c.is_marked-in-Some-2.result c.is_marked-in-Some-2.ensures in
    let frames : c.push-in-Some-2.new.self ≡ record { device = next; left = length (row_at t next) } ∷ record { device = top.device; left = k } ∷ c.pop.new.self =
    c.in_ok-push-4.ensures.ok ∙ ap (λ xs. record { device = next; left = length xs } ∷ c.push-in-Some.new.self) c.row-in-Some-2.ensures ∙ ap (λ fs. record { device = next; left = length (row_at t next) } ∷ fs) c.in_ok-push-3.ensures.ok in
    let inside : next < length entered = omega (arith, within, w.seen.count) in
    let white : get_or entered next false ≡ false = w.seen.marked next within ∙ (was_entered ∙ c.if-is_marked-3.false) in
    let less = fewer_entered dependents_of (moved n dependents_of) n from old.out top c.pop.new.self out entered left w k next last at inside white in
    let a = ap (open_weight dependents_of) frames in
    let b = ap (open_weight dependents_of) c.in-Some.ensures in
    let d = ap (unseen dependents_of 0) c.mark-in-Some.ensures in
    omega (arith, less, a, b, d)

pub returns : goal.returns
returns c =
    let t = c.args.table.now in
    let n = length t.rows in
    let dependents_of = row_at t in
    let from = c.args.from in
    let old = c.args.visits.now in
    let new = c.loop-top.visits in
    ended dependents_of n from old new (subst (λ fs. Visiting dependents_of (moved n dependents_of) n from old.out fs new.out new.entered.items new.left.items) c.in_default.ensures.0 c.loop-top.invariant)
