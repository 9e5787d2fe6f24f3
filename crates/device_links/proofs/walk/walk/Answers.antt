-- Proof by hand of `walk`: its loop, what it returns and the rest, by the lemmas of `Walking`.
use Rattle.std.proofs.Common.{◌≡◌, ◌<◌, ◌+◌, ◌-◌, ◌∷◌, ◌++◌, ◌∙◌, [], List, length, map, drop, reverse, option_to_list, get_or, set, ap, sym, subst, arith, false, true, replicate, rules}
use Rattle.std.proofs.lemmas.Bool.{ne_eqb}
use Rattle.std.proofs.lemmas.List.{reverse-append, drop-set, drop_all, get_or-replicate, length-replicate, length-set}
use Rattle.device_rows.specs.Table.{row_at}
use Rattle.device_links.specs.declared.walk.Frame.{Frame}
use Rattle.device_links.specs.Walks.{on_path}
use Rattle.sleep_model.specs.Order.{moved}
use Rattle.sleep_model.specs.Links.{IsPath}
use Rattle.device_links.proofs.Walking.{Walking, weight, spare, spare_less, spare_all, devices, way, way_popped, over_popped, none_left, path_over, begins, closes, passes, enters, was_walked, fewer, fewer_passed, hangs, ended, no_path, linked_path, next_at, mark_at, reaches}
use Rattle.device_links.proofs.walk.walk.Goals as goal

pub loop-here-init : goal.loop-here-init
loop-here-init c =
    let t = c.args.table.now in
    let n = length t.rows in
    let dependents_of = row_at t in
    let fix = c.requires.walkable.descends in
    let from = c.args.from in
    let target = c.args.target in
    let first : Frame = record { device = from; left = length (dependents_of from) } in
    let marks : c.in_ok-marks.marks.items ≡ replicate n false = c.in_ok-marks.ensures.items_if_clones_equal (λ y e. e) ∙ ap (λ k. replicate k false) c.len-count.ensures in
    let w = begins dependents_of (moved n dependents_of) fix n from target c.requires.within (ne_eqb from target c.if-from-target.false) in
    let s = spare_less (replicate n false) from (omega (arith, length-replicate n false, c.requires.within)) (get_or-replicate n from false false c.requires.within) in
    let m = ap (λ ms. spare (set ms from true)) marks in
    let all = spare_all n in
    let a = ap length c.in_ok-above.ensures.items in
    let long : length c.in_ok-out.out.items ≡ c.len-count.result = ap length c.in_ok-out.ensures.items ∙ (c.requires.sized ∙ sym c.len-count.ensures) in
    let none : drop c.len-count.result c.in_ok-out.out.items ≡ [] = drop_all c.len-count.result c.in_ok-out.out.items (omega (arith, long)) in (
      subst (λ f. Walking dependents_of (moved n dependents_of) n from target (f ∷ reverse c.in_ok-above.above.items) (drop c.len-count.result c.in_ok-out.out.items) (set c.in_ok-marks.marks.items from true)) (sym c.frame_at.ensures)
          (subst (λ fs. Walking dependents_of (moved n dependents_of) n from target (first ∷ reverse fs) (drop c.len-count.result c.in_ok-out.out.items) (set c.in_ok-marks.marks.items from true)) (sym c.in_ok-above.ensures.items)
          (subst (λ ds. Walking dependents_of (moved n dependents_of) n from target (first ∷ []) ds (set c.in_ok-marks.marks.items from true)) (sym none)
          (subst (λ ms. Walking dependents_of (moved n dependents_of) n from target (first ∷ []) [] (set ms from true)) (sym marks) w))),
      tt,
      omega (arith, s, m, all, a, c.len-count.ensures),
      omega (arith, c.len-count.ensures, c.in_ok-above.ensures.capacity),
      omega (arith, c.len-count.ensures),
      long ∙ c.len-count.ensures,
    )

pub loop-here-preserved-then-top-eq0 : goal.loop-here-preserved-then-top-eq0
loop-here-preserved-then-top-eq0 c =
    let t = c.args.table.now in
    let n = length t.rows in
    let dependents_of = row_at t in
    let fix = c.requires.walkable.descends in
    let from = c.args.from in
    let target = c.args.target in
    let top = c.in-Some.top in
    let above = c.loop-here.above.items in
    let out = c.loop-here.out.items in
    let start = c.loop-here.start in
    let marks = c.loop-here.marks.items in
    let w = subst (λ h. Walking dependents_of (moved n dependents_of) n from target (way h above) (drop start out) marks) c.in-Some.is c.loop-here.invariant.0 in
    let after = c.pop-here.new.self.items in
    let at = start - 1 in
    let one = ap (λ h. length (option_to_list h)) c.in-Some.is in
    let back : start ≡ at + 1 = omega (arith, one, c.loop-here.invariant.2) in
    let within : at < length out = omega (arith, back, c.loop-here.invariant.4, c.loop-here.invariant.5) in
    let e = closes dependents_of (moved n dependents_of) fix n from target top (reverse above) (drop start out) marks w c.if-top-eq0.true in
    let ds : drop at (set out at top.device) ≡ top.device ∷ drop start out = drop-set out at top.device within ∙ ap (λ k. top.device ∷ drop k out) (sym back) in (
      subst (λ fs. Walking dependents_of (moved n dependents_of) n from target fs (drop at (set out at top.device)) marks) (sym (way_popped c.pop-here.result above after c.pop-here.ensures.items))
          (subst (λ o. Walking dependents_of (moved n dependents_of) n from target (reverse above) o marks) (sym ds) e),
      over_popped c.pop-here.result after _ _ _ c.pop-here.ensures.cases c.pop-here.new.self.ok.0,
      omega (arith, one, c.loop-here.invariant.2, c.pop-here.ensures.len, c.pop-here.new.self.ok.0, c.loop-here.above.ok.0),
      omega (arith, c.pop-here.ensures.capacity),
      omega (arith, c.loop-here.invariant.4),
      length-set out at top.device ∙ c.loop-here.invariant.5,
    )

pub returns-then-next-target : goal.returns-then-next-target
returns-then-next-target c =
    let t = c.args.table.now in
    let n = length t.rows in
    let dependents_of = row_at t in
    let fix = c.requires.walkable.descends in
    let from = c.args.from in
    let target = c.args.target in
    let top = c.in-Some.top in
    let above = c.loop-here.above.items in
    let out = c.loop-here.out.items in
    let start = c.loop-here.start in
    let marks = c.loop-here.marks.items in
    let w = subst (λ h. Walking dependents_of (moved n dependents_of) n from target (way h above) (drop start out) marks) c.in-Some.is c.loop-here.invariant.0 in
    let k = top.left - 1 in
    let next = get_or c.row_within.result.now k 0 in
    let last : top.left ≡ k + 1 = omega arith in
    let l : k < length (dependents_of top.device) = omega (arith, w.sized.1) in
    let at = next_at c.row_within.result.now (dependents_of top.device) k c.row_within.ensures l in
    let h = hangs dependents_of (moved n dependents_of) fix n from target top (reverse above) (drop start out) marks w k next last at in
    let rest : Frame = record { device = top.device; left = k } in
    let fs = c.push_reserved.new.self.items in
    let p = linked_path dependents_of from (rest ∷ reverse above) next [] target (h, w.chain) c.if-next-target.true in
    let is = ap (λ (gs : List Frame). map (λ (f : Frame). f.device) gs ++ next ∷ []) c.deref.ensures.value
    ∙ (path_over fs (next ∷ [])
    ∙ ap (λ gs. on_path gs (next ∷ [])) (ap reverse c.push_reserved.ensures.items ∙ reverse-append above (rest ∷ []))) in
    reaches dependents_of n from target _ (subst (λ xs. IsPath dependents_of xs from target) (sym is) p) c.reached-then-next-target.result c.reached-then-next-target.ensures

pub returns-then-from-target : goal.returns-then-from-target
returns-then-from-target c = reaches (row_at c.args.table.now) (length c.args.table.now.rows) c.args.from c.args.target _ (search rules) c.reached.result c.reached.ensures

pub index-requires : goal.index-requires
index-requires c =
    let t = c.args.table.now in
    let n = length t.rows in
    let dependents_of = row_at t in
    let fix = c.requires.walkable.descends in
    let from = c.args.from in
    let target = c.args.target in
    let top = c.in-Some.top in
    let above = c.loop-here.above.items in
    let out = c.loop-here.out.items in
    let start = c.loop-here.start in
    let marks = c.loop-here.marks.items in
    let w = subst (λ h. Walking dependents_of (moved n dependents_of) n from target (way h above) (drop start out) marks) c.in-Some.is c.loop-here.invariant.0 in
    let k = top.left - 1 in
    let next = get_or c.row_within.result.now k 0 in
    let last : top.left ≡ k + 1 = omega arith in
    let l : k < length (dependents_of top.device) = omega (arith, w.sized.1) in
    let at = next_at c.row_within.result.now (dependents_of top.device) k c.row_within.ensures l in
    let h = hangs dependents_of (moved n dependents_of) fix n from target top (reverse above) (drop start out) marks w k next last at in
    let within : next < n = c.requires.walkable.within top.device next h in
    omega (arith, within, w.noted.count)

pub loop-here-smaller-then-index : goal.loop-here-smaller-then-index
loop-here-smaller-then-index c =
    let t = c.args.table.now in
    let n = length t.rows in
    let dependents_of = row_at t in
    let fix = c.requires.walkable.descends in
    let from = c.args.from in
    let target = c.args.target in
    let top = c.in-Some.top in
    let above = c.loop-here.above.items in
    let out = c.loop-here.out.items in
    let start = c.loop-here.start in
    let marks = c.loop-here.marks.items in
    let w = subst (λ h. Walking dependents_of (moved n dependents_of) n from target (way h above) (drop start out) marks) c.in-Some.is c.loop-here.invariant.0 in
    let k = top.left - 1 in
    let next = get_or c.row_within.result.now k 0 in
    let last : top.left ≡ k + 1 = omega arith in
    let l : k < length (dependents_of top.device) = omega (arith, w.sized.1) in
    let at = next_at c.row_within.result.now (dependents_of top.device) k c.row_within.ensures l in
    let h = hangs dependents_of (moved n dependents_of) fix n from target top (reverse above) (drop start out) marks w k next last at in
    let less = fewer_passed dependents_of (moved n dependents_of) fix n from target top (reverse above) (drop start out) marks w k next last at in
    let b = ap (λ h. weight dependents_of (moved n dependents_of) (way h above)) c.in-Some.is in
    omega (arith, less, b)

pub loop-here-preserved-then-index : goal.loop-here-preserved-then-index
loop-here-preserved-then-index c =
    let t = c.args.table.now in
    let n = length t.rows in
    let dependents_of = row_at t in
    let fix = c.requires.walkable.descends in
    let from = c.args.from in
    let target = c.args.target in
    let top = c.in-Some.top in
    let above = c.loop-here.above.items in
    let out = c.loop-here.out.items in
    let start = c.loop-here.start in
    let marks = c.loop-here.marks.items in
    let w = subst (λ h. Walking dependents_of (moved n dependents_of) n from target (way h above) (drop start out) marks) c.in-Some.is c.loop-here.invariant.0 in
    let k = top.left - 1 in
    let next = get_or c.row_within.result.now k 0 in
    let last : top.left ≡ k + 1 = omega arith in
    let l : k < length (dependents_of top.device) = omega (arith, w.sized.1) in
    let at = next_at c.row_within.result.now (dependents_of top.device) k c.row_within.ensures l in
    let h = hangs dependents_of (moved n dependents_of) fix n from target top (reverse above) (drop start out) marks w k next last at in
    let within : next < n = c.requires.walkable.within top.device next h in
    let m = mark_at marks n (top.device ∷ devices (reverse above) ++ drop start out) w.noted next within c.index.result.now c.index.ensures ∙ c.if-index.true in
    let old = was_walked dependents_of (moved n dependents_of) fix n from target top (reverse above) (drop start out) marks w k next last at m in
    let one = ap (λ h. length (option_to_list h)) c.in-Some.is in (
      passes dependents_of (moved n dependents_of) fix n from target top (reverse above) (drop start out) marks w k next last at old,
      tt,
      omega (arith, one, c.loop-here.invariant.2),
      c.loop-here.invariant.3,
      c.loop-here.invariant.4,
      c.loop-here.invariant.5,
    )

pub index_mut-requires-in-Some : goal.index_mut-requires-in-Some
index_mut-requires-in-Some c =
    let t = c.args.table.now in
    let n = length t.rows in
    let dependents_of = row_at t in
    let fix = c.requires.walkable.descends in
    let from = c.args.from in
    let target = c.args.target in
    let top = c.in-Some.top in
    let above = c.loop-here.above.items in
    let out = c.loop-here.out.items in
    let start = c.loop-here.start in
    let marks = c.loop-here.marks.items in
    let w = subst (λ h. Walking dependents_of (moved n dependents_of) n from target (way h above) (drop start out) marks) c.in-Some.is c.loop-here.invariant.0 in
    let k = top.left - 1 in
    let next = get_or c.row_within.result.now k 0 in
    let last : top.left ≡ k + 1 = omega arith in
    let l : k < length (dependents_of top.device) = omega (arith, w.sized.1) in
    let at = next_at c.row_within.result.now (dependents_of top.device) k c.row_within.ensures l in
    let h = hangs dependents_of (moved n dependents_of) fix n from target top (reverse above) (drop start out) marks w k next last at in
    let within : next < n = c.requires.walkable.within top.device next h in
    omega (arith, within, w.noted.count)

pub frame_at-requires-in-Some : goal.frame_at-requires-in-Some
frame_at-requires-in-Some c =
    let t = c.args.table.now in
    let n = length t.rows in
    let dependents_of = row_at t in
    let fix = c.requires.walkable.descends in
    let from = c.args.from in
    let target = c.args.target in
    let top = c.in-Some.top in
    let above = c.loop-here.above.items in
    let out = c.loop-here.out.items in
    let start = c.loop-here.start in
    let marks = c.loop-here.marks.items in
    let w = subst (λ h. Walking dependents_of (moved n dependents_of) n from target (way h above) (drop start out) marks) c.in-Some.is c.loop-here.invariant.0 in
    let k = top.left - 1 in
    let next = get_or c.row_within.result.now k 0 in
    let last : top.left ≡ k + 1 = omega arith in
    let l : k < length (dependents_of top.device) = omega (arith, w.sized.1) in
    let at = next_at c.row_within.result.now (dependents_of top.device) k c.row_within.ensures l in
    let h = hangs dependents_of (moved n dependents_of) fix n from target top (reverse above) (drop start out) marks w k next last at in
    let within : next < n = c.requires.walkable.within top.device next h in
    within

pub loop-here-smaller : goal.loop-here-smaller
loop-here-smaller c =
    let t = c.args.table.now in
    let n = length t.rows in
    let dependents_of = row_at t in
    let fix = c.requires.walkable.descends in
    let from = c.args.from in
    let target = c.args.target in
    let top = c.in-Some.top in
    let above = c.loop-here.above.items in
    let out = c.loop-here.out.items in
    let start = c.loop-here.start in
    let marks = c.loop-here.marks.items in
    let w = subst (λ h. Walking dependents_of (moved n dependents_of) n from target (way h above) (drop start out) marks) c.in-Some.is c.loop-here.invariant.0 in
    let k = top.left - 1 in
    let next = get_or c.row_within.result.now k 0 in
    let last : top.left ≡ k + 1 = omega arith in
    let l : k < length (dependents_of top.device) = omega (arith, w.sized.1) in
    let at = next_at c.row_within.result.now (dependents_of top.device) k c.row_within.ensures l in
    let h = hangs dependents_of (moved n dependents_of) fix n from target top (reverse above) (drop start out) marks w k next last at in
    let rest : Frame = record { device = top.device; left = k } in
    let less = fewer dependents_of (moved n dependents_of) fix n from target top (reverse above) (drop start out) marks w k next last at in
    let a = ap (λ f. weight dependents_of (moved n dependents_of) (f ∷ reverse c.push_reserved-in-Some.new.self.items)) c.frame_at-in-Some.ensures in
    let g = ap (λ fs. weight dependents_of (moved n dependents_of) (record { device = next; left = length (dependents_of next) } ∷ fs)) (ap reverse c.push_reserved-in-Some.ensures.items ∙ reverse-append above (rest ∷ [])) in
    let b = ap (λ h. weight dependents_of (moved n dependents_of) (way h above)) c.in-Some.is in
    omega (arith, less, a, g, b)

pub loop-here-preserved : goal.loop-here-preserved
loop-here-preserved c =
    let t = c.args.table.now in
    let n = length t.rows in
    let dependents_of = row_at t in
    let fix = c.requires.walkable.descends in
    let from = c.args.from in
    let target = c.args.target in
    let top = c.in-Some.top in
    let above = c.loop-here.above.items in
    let out = c.loop-here.out.items in
    let start = c.loop-here.start in
    let marks = c.loop-here.marks.items in
    let w = subst (λ h. Walking dependents_of (moved n dependents_of) n from target (way h above) (drop start out) marks) c.in-Some.is c.loop-here.invariant.0 in
    let k = top.left - 1 in
    let next = get_or c.row_within.result.now k 0 in
    let last : top.left ≡ k + 1 = omega arith in
    let l : k < length (dependents_of top.device) = omega (arith, w.sized.1) in
    let at = next_at c.row_within.result.now (dependents_of top.device) k c.row_within.ensures l in
    let h = hangs dependents_of (moved n dependents_of) fix n from target top (reverse above) (drop start out) marks w k next last at in
    let within : next < n = c.requires.walkable.within top.device next h in
    let rest : Frame = record { device = top.device; left = k } in
    let fs = c.push_reserved-in-Some.new.self.items in
    let m = mark_at marks n (top.device ∷ devices (reverse above) ++ drop start out) w.noted next within c.index.result.now c.index.ensures ∙ c.if-index.false in
    let e = enters dependents_of (moved n dependents_of) fix n from target top (reverse above) (drop start out) marks w k next last at within (ne_eqb next target c.if-next-target.false) m in
    let s = spare_less marks next (omega (arith, within, w.noted.count)) (w.noted.marked next within ∙ m) in
    let one = ap (λ h. length (option_to_list h)) c.in-Some.is in
    let p : reverse fs ≡ rest ∷ reverse above = ap reverse c.push_reserved-in-Some.ensures.items ∙ reverse-append above (rest ∷ []) in (
      subst (λ f. Walking dependents_of (moved n dependents_of) n from target (f ∷ reverse fs) (drop start out) (set marks next true)) (sym c.frame_at-in-Some.ensures)
          (subst (λ gs. Walking dependents_of (moved n dependents_of) n from target (record { device = next; left = length (dependents_of next) } ∷ gs) (drop start out) (set marks next true)) (sym p) e),
      tt,
      omega (arith, one, s, c.loop-here.invariant.2, c.push_reserved-in-Some.ensures.len, c.push_reserved-in-Some.new.self.ok.0, c.loop-here.above.ok.0),
      omega (arith, c.push_reserved-in-Some.ensures.capacity),
      c.loop-here.invariant.4,
      c.loop-here.invariant.5,
    )

pub returns : goal.returns
returns c =
    let t = c.args.table.now in
    let n = length t.rows in
    let dependents_of = row_at t in
    let fix = c.requires.walkable.descends in
    let from = c.args.from in
    let target = c.args.target in
    let out = c.loop-here.out.items in
    let start = c.loop-here.start in
    let marks = c.loop-here.marks.items in
    let none = none_left c.loop-here.here c.loop-here.above.items c.in_default.not-Some c.loop-here.invariant.1 in
    let w = subst (λ fs. Walking dependents_of (moved n dependents_of) n from target fs (drop start out) marks) none c.loop-here.invariant.0 in
    let e = ended dependents_of (moved n dependents_of) fix n from target (drop start out) marks w in
    (omega (arith, c.loop-here.invariant.4, c.loop-here.invariant.5), record { places = e.0; missing = e.1; no_path = no_path dependents_of (moved n dependents_of) fix from target e.1; marked = e.2 })
