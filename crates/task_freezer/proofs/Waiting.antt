-- How many tasks a freeze waits for, as the tasks move one by one.
use Rattle.std.proofs.Common.{◌≡◌, ◌≤◌, ◌+◌, ℕ, zero, suc, Bool, true, false, List, [], ◌∷◌, length, replicate, cond, slice_get, slice_set, refl, ap, subst, arith}
use Rattle.std.proofs.lemmas.List.{length-set}
use Rattle.sleep_model.specs.declared.entry.Actor.{Actor}
use Rattle.sleep_model.specs.declared.entry.Actor.TheVariants as actor
use Rattle.sleep_model.specs.declared.entry.Group.{Group}
use Rattle.sleep_model.specs.declared.entry.Group.TheVariants as group
use Rattle.sleep_model.specs.declared.entry.Kind.{Kind}
use Rattle.sleep_model.specs.declared.entry.Kind.TheVariants as kind
use Rattle.sleep_model.specs.declared.entry.Thaw.{Thaw}
use Rattle.sleep_model.specs.declared.machine.Script.{Script}
use Rattle.sleep_model.specs.declared.progress.Freezing.{Freezing}
use Rattle.sleep_model.specs.Freezer.{unasked, freezing_at, all_asked, all_let_go, put_frozen, freezings_after}
use Rattle.task_freezer.specs.Freezers.{mark_exited, exited_flags_after, exited_at, waits_for, left_by}
use Rattle.task_freezer.specs.Waits.{as_count, left_counts, waits_in, waits_of, wait_groups, IsOfOne, CountIsMoved, AreMoved}

-- ---- one state a script

mark_len : (who : Actor) (gs : List Bool) → length (mark_exited who gs) ≡ length gs
mark_len (actor.Script i) gs = grind (arith, length-set)
mark_len _ gs = refl

-- an entry takes no script's flag
pub exited_len : (who : Actor) (k : Kind) (gs : List Bool) → length (exited_flags_after who k gs) ≡ length gs
exited_len who kind.Exit gs = mark_len who gs
exited_len who _ gs = refl

asked_len : (g : Group) (who : Actor) (i : ℕ) (ss : List Script) (fs : List Freezing) → length fs ≡ length ss → length (all_asked g who i ss fs) ≡ length ss
asked_len g who i [] [] all = refl
asked_len g who i [] (f ∷ fs) all = refl
asked_len g who i (s ∷ ss) [] all = all
asked_len g who i (s ∷ ss) (f ∷ fs) all = omega (arith, asked_len g who (suc i) ss fs (omega arith))

let_go_len : (those : Thaw) (ss : List Script) (fs : List Freezing) → length fs ≡ length ss → length (all_let_go those ss fs) ≡ length ss
let_go_len those [] [] all = refl
let_go_len those [] (f ∷ fs) all = refl
let_go_len those (s ∷ ss) [] all = all
let_go_len those (s ∷ ss) (f ∷ fs) all = omega (arith, let_go_len those ss fs (omega arith))

frozen_len : (n : ℕ) (who : Actor) (fs : List Freezing) → length fs ≡ n → length (put_frozen who fs) ≡ n
frozen_len n (actor.Script i) fs all = grind (arith, length-set)
frozen_len n _ fs all = all

-- nor what the freezer has come to with it
pub freezings_len : (ss : List Script) (who : Actor) (k : Kind) (fs : List Freezing) → length fs ≡ length ss → length (freezings_after ss who k fs) ≡ length ss
freezings_len ss who (kind.Freeze g) fs all = asked_len g who 0 ss fs all
freezings_len ss who (kind.Thaw those) fs all = let_go_len those ss fs all
freezings_len ss who kind.Frozen fs all = frozen_len (length ss) who fs all
freezings_len ss who _ fs all = all

-- ---- how many are left

one_or_not : (b : Bool) (k n : ℕ) (rest : List ℕ) → length rest ≤ n → length (cond b (k ∷ rest) rest) ≤ suc n
one_or_not true k n rest few = omega (arith, few)
one_or_not false k n rest few = omega (arith, few)

-- no more than there are scripts
pub left_few : (g : Group) (k : ℕ) (ss : List Script) (fs : List Freezing) (gs : List Bool) → length (left_by g k ss fs gs) ≤ length ss
left_few g k [] fs gs = omega arith
left_few g k (s ∷ ss) [] gs = omega arith
left_few g k (s ∷ ss) (f ∷ fs) [] = omega arith
left_few g k (s ∷ ss) (f ∷ fs) (p ∷ gs) = one_or_not (waits_for g s.kind f p) k (length ss) (left_by g (suc k) ss fs gs) (left_few g (suc k) ss fs gs)

not_asked : (g : Group) (k : ℕ) (ss : List Script) → length (left_by g k ss (replicate (length ss) unasked) (replicate (length ss) false)) ≡ 0
not_asked g k [] = refl
not_asked g k (s ∷ ss) = by_kind (waits_for g s.kind unasked false) (silent g s) (not_asked g (suc k) ss)
  where
    silent : (h : Group) (t : Script) → waits_for h t.kind unasked false ≡ false
    silent h t = grind (arith)

    by_kind : (b : Bool) → b ≡ false → length (left_by g (suc k) ss (replicate (length ss) unasked) (replicate (length ss) false)) ≡ 0
        → length (cond b (k ∷ left_by g (suc k) ss (replicate (length ss) unasked) (replicate (length ss) false)) (left_by g (suc k) ss (replicate (length ss) unasked) (replicate (length ss) false))) ≡ 0
    by_kind false is none = none
    by_kind true is none = absurd (let e : true ≡ false = is in cc)

-- nobody at first
pub none_left : (ss : List Script) → left_counts ss (replicate (length ss) unasked) (replicate (length ss) false) ≡ record { user = 0; kernel = 0 }
none_left ss = rw (not_asked group.User 0 ss, not_asked group.Kernel 0 ss) refl

-- ---- one task moves

swapped : (is was : Bool) (k : ℕ) (rest : List ℕ) → length (cond is (k ∷ rest) rest) + as_count was ≡ length (cond was (k ∷ rest) rest) + as_count is
swapped true true k rest = refl
swapped true false k rest = omega arith
swapped false true k rest = omega arith
swapped false false k rest = refl

after_one : (b : Bool) (k : ℕ) (new old : List ℕ) (x y : ℕ) → length new + x ≡ length old + y → length (cond b (k ∷ new) new) + x ≡ length (cond b (k ∷ old) old) + y
after_one true k new old x y same = omega (arith, same)
after_one false k new old x y same = same

left_set : (g : Group) (k i : ℕ) (ss : List Script) (fs : List Freezing) (gs : List Bool) (f : Freezing) (p : Bool) → length fs ≡ length ss → length gs ≡ length ss
    → length (left_by g k ss (slice_set fs i f) (slice_set gs i p)) + as_count (waits_in g (slice_get ss i) (freezing_at fs i) (exited_at gs i))
    ≡ length (left_by g k ss fs gs) + as_count (waits_in g (slice_get ss i) (freezing_at (slice_set fs i f) i) (exited_at (slice_set gs i p) i))
left_set g k i [] fs gs f p all each = refl
left_set g k i (s ∷ ss) [] gs f p all each = absurd (omega (arith, all))
left_set g k i (s ∷ ss) (x ∷ fs) [] f p all each = absurd (omega (arith, each))
left_set g k zero (s ∷ ss) (x ∷ fs) (y ∷ gs) f p all each = swapped (waits_for g s.kind f p) (waits_for g s.kind x y) k (left_by g (suc k) ss fs gs)
left_set g k (suc i) (s ∷ ss) (x ∷ fs) (y ∷ gs) f p all each =
    after_one (waits_for g s.kind x y) k (left_by g (suc k) ss (slice_set fs i f) (slice_set gs i p)) (left_by g (suc k) ss fs gs) _ _
    (left_set g (suc k) i ss fs gs f p (omega (arith, all)) (omega (arith, each)))

set_same : (fs : List Freezing) (i : ℕ) → slice_set fs i (freezing_at fs i) ≡ fs
set_same [] i = refl
set_same (f ∷ fs) zero = refl
set_same (f ∷ fs) (suc i) = ap (λ rest. f ∷ rest) (set_same fs i)

exited_same : (gs : List Bool) (i : ℕ) → slice_set gs i (exited_at gs i) ≡ gs
exited_same [] i = refl
exited_same (b ∷ gs) zero = refl
exited_same (b ∷ gs) (suc i) = ap (λ rest. b ∷ rest) (exited_same gs i)

has_frozen : (g : Group) (who : Actor) (ss : List Script) (fs : List Freezing) (gs : List Bool) → length fs ≡ length ss → length gs ≡ length ss
    → CountIsMoved g who ss (put_frozen who fs) gs (length (left_by g 0 ss fs gs)) (waits_of g who ss fs gs)
has_frozen g (actor.Script i) ss fs gs all each =
    subst (λ xs. CountIsMoved g (actor.Script i) ss (put_frozen (actor.Script i) fs) xs (length (left_by g 0 ss fs gs)) (waits_of g (actor.Script i) ss fs gs)) (exited_same gs i)
    (left_set g 0 i ss fs gs (record (freezing_at fs i) { frozen = true }) (exited_at gs i) all each)
has_frozen g _ ss fs gs all each = refl

has_exited : (g : Group) (who : Actor) (ss : List Script) (fs : List Freezing) (gs : List Bool) → length fs ≡ length ss → length gs ≡ length ss
    → CountIsMoved g who ss fs (mark_exited who gs) (length (left_by g 0 ss fs gs)) (waits_of g who ss fs gs)
has_exited g (actor.Script i) ss fs gs all each =
    subst (λ xs. CountIsMoved g (actor.Script i) ss xs (mark_exited (actor.Script i) gs) (length (left_by g 0 ss fs gs)) (waits_of g (actor.Script i) ss fs gs)) (set_same fs i)
    (left_set g 0 i ss fs gs (freezing_at fs i) true all each)
has_exited g _ ss fs gs all each = refl

one_moved : (g : Group) (who : Actor) (k : Kind) (ss : List Script) (fs : List Freezing) (gs : List Bool) → length fs ≡ length ss → length gs ≡ length ss → IsOfOne k
    → CountIsMoved g who ss (freezings_after ss who k fs) (exited_flags_after who k gs) (length (left_by g 0 ss fs gs)) (waits_of g who ss fs gs)
one_moved g who (kind.Freeze h) ss fs gs all each one = absurd one
one_moved g who (kind.Thaw those) ss fs gs all each one = absurd one
one_moved g who kind.Frozen ss fs gs all each one = has_frozen g who ss fs gs all each
one_moved g who kind.Exit ss fs gs all each one = has_exited g who ss fs gs all each
one_moved g who _ ss fs gs all each one = refl

-- an entry of one task's own changes what is left only by that task
pub are_moved : (who : Actor) (k : Kind) (ss : List Script) (fs now : List Freezing) (gs leaving : List Bool) → length fs ≡ length ss → length gs ≡ length ss
    → now ≡ freezings_after ss who k fs → leaving ≡ exited_flags_after who k gs → IsOfOne k → AreMoved who ss now leaving (left_counts ss fs gs) (wait_groups who ss fs gs)
are_moved who k ss fs now gs leaving all each now_is leaving_are one =
    rw (now_is, leaving_are) (record { user = one_moved group.User who k ss fs gs all each one; kernel = one_moved group.Kernel who k ss fs gs all each one })
