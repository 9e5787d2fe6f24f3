-- The steps of a walk that visits no device that an earlier one visited.
use Rattle.std.proofs.Common.{◌≡◌, ◌<◌, ◌+◌, ◌∙◌, ℕ, zero, suc, Bool, true, false, ◌==◌, ◌||◌, List, [], ◌∷◌, ◌++◌, ◌⊎◌, inl, inr, length, take, drop, get_or, set, refl, sym, ap, subst, cond, arith}
use Rattle.std.specs.List.{flat_map}
use Rattle.std.proofs.lemmas.List.{take_all, drop_more, drop_all}
use Rattle.std.proofs.lemmas.Bool.{true≢false, false≢true, eqb-true, eqb-false, or_cases, or_parts}
use Rattle.sleep_model.specs.Order.{is_among, moved}
use Rattle.sleep_model.specs.Links.{IsOrder}
use Rattle.sleep_model.proofs.Dependents.{among_app, among_first, among_rest, Within, all_of, onto, onto_app, Descends, visited, visits, not_below_itself}
use Rattle.device_links.specs.declared.walk.Frame.{Frame}
use Rattle.device_links.specs.declared.visits.Visits.{Visits}
use Rattle.device_links.specs.Walks.{AreMarks}
use Rattle.device_links.specs.Passes.{AreVisits, IsVisited}
use Rattle.device_links.proofs.Walking.{marks_more, marks_same, in_front, devices, Linked, Chain, Waits, waits_more, Sized, finish, flat_next, among_at, loops}
use Rattle.device_links.proofs.Passing.{order_closed, onto_new}

-- ---- marks

-- each device of a walk is there once, and was not left yet
abbrev pub Fresh : List Frame → List ℕ → Type 0
Fresh [] out = Unit {0}
Fresh (f ∷ rest) out = (is_among out f.device ≡ false) × Fresh rest (f.device ∷ out)

neither_of : (x : ℕ) (xs : List ℕ) (d : ℕ) → (x == d) ≡ false → is_among xs d ≡ false → is_among (x ∷ xs) d ≡ false
neither_of x xs d e n = ap (λ b. b || is_among xs d) e ∙ n

other_way : (x y : ℕ) → (x == y) ≡ false → (y == x) ≡ false
other_way x y e = by_test (y == x) refl
  where
    by_test : (b : Bool) → (y == x) ≡ b → b ≡ false
    by_test false f = refl
    by_test true f = absurd (eqb-false x y e (sym (eqb-true y x f)))

-- it stays so with one more that is none of them
fresh_more : (fs : List Frame) (out more : List ℕ) (c : ℕ) → ((d : ℕ) → (c == d) ≡ false → is_among out d ≡ false → is_among more d ≡ false) → is_among (devices fs) c ≡ false → Fresh fs out → Fresh fs more
fresh_more [] out more c i n h = tt
fresh_more (f ∷ rest) out more c i n h =
    let parts = or_parts (f.device == c) (is_among (devices rest) c) n in
    (i f.device (other_way f.device c parts.0) h.0, fresh_more rest (f.device ∷ out) (f.device ∷ more) c (λ d e m. let ps = or_parts (f.device == d) (is_among out d) m in neither_of f.device more d ps.0 (i d e ps.1)) parts.1 h.1)

-- ---- the walk

module _ (dependents_of : ℕ → List ℕ) where
  -- what the devices that no walk has entered yet may cost
  abbrev pub unseen : ℕ → List Bool → ℕ
  unseen k [] = 0
  unseen k (b ∷ bs) = cond b 0 (2 + length (dependents_of k)) + unseen (suc k) bs

  -- and what the walk's own
  abbrev pub open_weight : List Frame → ℕ
  open_weight [] = 0
  open_weight (f ∷ rest) = 1 + f.left + open_weight rest

  unseen_less : (k : ℕ) (bs : List Bool) (d : ℕ) → d < length bs → get_or bs d false ≡ false → unseen k bs ≡ 2 + length (dependents_of (k + d)) + unseen k (set bs d true)
  unseen_less k [] d l e = absurd (omega arith)
  unseen_less k (b ∷ bs) zero l e = let z : k ≡ k + 0 = omega arith in ap (λ y. cond y 0 (2 + length (dependents_of k)) + unseen (suc k) bs) e ∙ (ap (λ j. 2 + length (dependents_of j) + unseen (suc k) bs) z ∙ zeros (length (dependents_of (k + 0))) (unseen (suc k) bs))
    where
      zeros : (a b : ℕ) → 2 + a + b ≡ 2 + a + (0 + b)
      zeros a b = omega arith
  unseen_less k (b ∷ bs) (suc d) l e =
      let r = unseen_less (suc k) bs d (omega arith) e in
      let z : suc k + d ≡ k + suc d = omega arith in
      let s = ap (λ j. length (dependents_of j)) z in
      moved_in (cond b 0 (2 + length (dependents_of k))) (unseen (suc k) bs) (length (dependents_of (suc k + d))) (length (dependents_of (k + suc d))) (unseen (suc k) (set bs d true)) r s
    where
      moved_in : (a u h g v : ℕ) → u ≡ 2 + h + v → h ≡ g → a + u ≡ 2 + g + (a + v)
      moved_in a u h g v r s = omega arith

  module _ (W : ℕ → List ℕ) where
    -- the frame of a walk
    pub record Visiting (n from : ℕ) (old : List ℕ) (fs : List Frame) (out : List ℕ) (entered left : List Bool) : Type 0 where
      pub ordered : IsOrder dependents_of out
      pub within : (d : ℕ) → is_among out d ≡ true → d < n
      pub waits : Waits dependents_of fs out
      pub chain : Chain dependents_of from fs
      pub fresh : Fresh fs out
      pub sized : Sized dependents_of n fs
      pub seen : AreMarks entered n (devices fs ++ out)
      pub noted : AreMarks left n out
      pub here : is_among (devices fs ++ out) from ≡ true
      pub kept : Within old out
      pub ends : Descends dependents_of W → finish dependents_of W fs out ≡ onto (W from) old

    -- at the beginning
    pub begins : (n from : ℕ) (out : List ℕ) (entered left : List Bool) → IsOrder dependents_of out → ((d : ℕ) → is_among out d ≡ true → d < n) → AreMarks entered n out → AreMarks left n out → from < n → is_among out from ≡ false
        → Visiting n from out (record { device = from; left = length (dependents_of from) } ∷ []) out (set entered from true) left
    begins n from out entered left o w s m l e = record {
      ordered = o;
      within = w;
      waits = (λ d i. absurd (false≢true (sym (ap (λ xs. is_among xs d) (drop_all (length (dependents_of from)) (dependents_of from) (omega arith))) ∙ i)), tt);
      chain = refl;
      fresh = (e, tt);
      sized = (l, omega arith, tt);
      seen = marks_more entered n out s from l;
      noted = m;
      here = among_first from out;
      kept = λ d i. i;
      ends = λ fix. ap (λ xs. from ∷ onto (flat_map W xs) out) (take_all (length (dependents_of from)) (dependents_of from) (omega arith)) ∙ sym (visits dependents_of W fix out from e);
    }

    -- a device with nothing left below it is put in front
    pub closes : (n from : ℕ) (old : List ℕ) (f : Frame) (rest : List Frame) (out : List ℕ) (entered left : List Bool) → Visiting n from old (f ∷ rest) out entered left → f.left ≡ 0 → Visiting n from old rest (f.device ∷ out) entered (set left f.device true)
    closes n from old f rest out entered left w z = record {
      ordered = (w.fresh.0, all_of out (dependents_of f.device) below_all, w.ordered);
      within = λ d m. by_place d (or_cases (f.device == d) (is_among out d) m);
      waits = w.waits.1;
      chain = lower rest w.chain;
      fresh = w.fresh.1;
      sized = w.sized.2;
      seen = marks_same entered n (f.device ∷ devices rest ++ out) (devices rest ++ f.device ∷ out) w.seen (in_front (devices rest) f.device out);
      noted = marks_more left n out w.noted f.device w.sized.0;
      here = in_front (devices rest) f.device out from ∙ w.here;
      kept = λ d m. among_rest f.device out d (w.kept d m);
      ends = λ fix. ap (λ k. finish dependents_of W rest (f.device ∷ onto (flat_map W (take k (dependents_of f.device))) out)) (sym z) ∙ w.ends fix;
    }
      where
        below_all : Within (dependents_of f.device) out
        below_all = subst (λ (k : ℕ). Within (drop k (dependents_of f.device)) out) z w.waits.0

        by_place : (d : ℕ) → ((f.device == d) ≡ true) ⊎ (is_among out d ≡ true) → d < n
        by_place d (inl e) = subst (λ (y : ℕ). y < n) (eqb-true f.device d e) w.sized.0
        by_place d (inr e) = w.within d e

        lower : (fs : List Frame) → Linked dependents_of from fs f.device → Chain dependents_of from fs
        lower [] h = tt
        lower (g ∷ gs) h = h.1

    module _ (n from : ℕ) (old : List ℕ) (f : Frame) (rest : List Frame) (out : List ℕ) (entered left : List Bool) (w : Visiting n from old (f ∷ rest) out entered left) (k c : ℕ) (last : f.left ≡ k + 1) (at : c ≡ get_or (dependents_of f.device) k c) where
      pub in_row : k < length (dependents_of f.device)
      in_row = omega (arith, w.sized.1)

      pub hangs : is_among (dependents_of f.device) c ≡ true
      hangs = among_at (dependents_of f.device) k c in_row at

      ends_next : (fix : Descends dependents_of W) → finish dependents_of W rest (f.device ∷ onto (flat_map W (take k (dependents_of f.device))) (onto (W c) out)) ≡ onto (W from) old
      ends_next fix =
          ap (λ o. finish dependents_of W rest (f.device ∷ o)) (sym (onto_app (flat_map W (take k (dependents_of f.device))) (W c) out))
          ∙ ap (λ ys. finish dependents_of W rest (f.device ∷ onto ys out)) (sym (flat_next dependents_of W fix (dependents_of f.device) k c in_row at))
          ∙ ap (λ j. finish dependents_of W rest (f.device ∷ onto (flat_map W (take j (dependents_of f.device))) out)) (sym last)
          ∙ w.ends fix

      waits_next : (more : List ℕ) → Within out more → is_among more c ≡ true → Within (drop k (dependents_of f.device)) more
      waits_next more i m d h =
          by_place (or_cases (c == d) (is_among (drop (k + 1) (dependents_of f.device)) d) (ap (λ ys. is_among ys d) (sym (drop_more (dependents_of f.device) k c in_row ∙ ap (λ y. y ∷ drop (k + 1) (dependents_of f.device)) (sym at))) ∙ h))
        where
          by_place : ((c == d) ≡ true) ⊎ (is_among (drop (k + 1) (dependents_of f.device)) d ≡ true) → is_among more d ≡ true
          by_place (inl e) = subst (λ (y : ℕ). is_among more y ≡ true) (eqb-true c d e) m
          by_place (inr e) = i d (w.waits.0 d (ap (λ j. is_among (drop j (dependents_of f.device)) d) last ∙ e))

      -- a device that was left is passed
      pub passes : is_among out c ≡ true → Visiting n from old (record { device = f.device; left = k } ∷ rest) out entered left
      passes m = record {
        ordered = w.ordered;
        within = w.within;
        waits = (waits_next out (λ d h. h) m, w.waits.1);
        chain = w.chain;
        fresh = w.fresh;
        sized = (w.sized.0, omega (arith, w.sized.1), w.sized.2);
        seen = w.seen;
        noted = w.noted;
        here = w.here;
        kept = w.kept;
        ends = λ fix. ap (λ o. finish dependents_of W rest (f.device ∷ onto (flat_map W (take k (dependents_of f.device))) o)) (sym (visited dependents_of W fix out (order_closed dependents_of out w.ordered) c m)) ∙ ends_next fix;
      }

      -- another is walked first
      pub enters : c < n → is_among (f.device ∷ devices rest ++ out) c ≡ false → Visiting n from old (record { device = c; left = length (dependents_of c) } ∷ record { device = f.device; left = k } ∷ rest) out (set entered c true) left
      enters l new = record {
        ordered = w.ordered;
        within = w.within;
        waits = (
          λ d h. absurd (false≢true (sym (ap (λ xs. is_among xs d) (drop_all (length (dependents_of c)) (dependents_of c) (omega arith))) ∙ h)),
          (waits_next (c ∷ out) (λ d h. among_rest c out d h) (among_first c out), waits_more dependents_of rest (f.device ∷ out) (f.device ∷ c ∷ out) (λ d h. by_place d (or_cases (f.device == d) (is_among out d) h)) w.waits.1),
        );
        chain = (hangs, w.chain);
        fresh = (parts.1, fresh_more (record { device = f.device; left = k } ∷ rest) out (c ∷ out) c (λ d e m. neither_of c out d e m) parts.0 w.fresh);
        sized = (l, omega arith, (w.sized.0, omega (arith, w.sized.1), w.sized.2));
        seen = marks_more entered n (f.device ∷ devices rest ++ out) w.seen c l;
        noted = w.noted;
        here = among_rest c (f.device ∷ devices rest ++ out) from w.here;
        kept = w.kept;
        ends = λ fix. ap (λ o. finish dependents_of W rest (f.device ∷ onto (flat_map W (take k (dependents_of f.device))) o)) (ap (λ xs. c ∷ onto (flat_map W xs) out) (take_all (length (dependents_of c)) (dependents_of c) (omega arith)) ∙ sym (visits dependents_of W fix out c parts.1)) ∙ ends_next fix;
      }
        where
          parts : (is_among (f.device ∷ devices rest) c ≡ false) × (is_among out c ≡ false)
          parts = or_parts (is_among (f.device ∷ devices rest) c) (is_among out c) (sym (among_app (f.device ∷ devices rest) out c) ∙ new)

          by_place : (d : ℕ) → ((f.device == d) ≡ true) ⊎ (is_among out d ≡ true) → is_among (f.device ∷ c ∷ out) d ≡ true
          by_place d (inl e) = ap (λ b. b || is_among (c ∷ out) d) e
          by_place d (inr e) = among_rest f.device (c ∷ out) d (among_rest c out d e)

      -- a device of the walk's own depends on itself
      pub meets : is_among (f.device ∷ devices rest ++ out) c ≡ true → is_among out c ≡ false → Descends dependents_of W → ⊥
      meets m n' fix = true≢false (sym (loops dependents_of W fix from c (f ∷ rest) c [] (hangs, w.chain) refl (on_way (or_cases (is_among (f.device ∷ devices rest) c) (is_among out c) (sym (among_app (f.device ∷ devices rest) out c) ∙ m)))) ∙ not_below_itself dependents_of W fix c)
        where
          on_way : (is_among (f.device ∷ devices rest) c ≡ true) ⊎ (is_among out c ≡ true) → is_among (f.device ∷ devices rest) c ≡ true
          on_way (inl e) = e
          on_way (inr e) = absurd (true≢false (sym e ∙ n'))

      -- each step leaves fewer
      pub fewer_entered : c < length entered → get_or entered c false ≡ false → unseen 0 (set entered c true) + open_weight (record { device = c; left = length (dependents_of c) } ∷ record { device = f.device; left = k } ∷ rest) < unseen 0 entered + open_weight (f ∷ rest)
      fewer_entered l e =
          let u = unseen_less 0 entered c l e in
          let z : 0 + c ≡ c = omega arith in
          let s = ap (λ j. length (dependents_of j)) z in
          omega (arith, u, s)

      pub fewer_passed : unseen 0 entered + open_weight (record { device = f.device; left = k } ∷ rest) < unseen 0 entered + open_weight (f ∷ rest)
      fewer_passed = omega arith

  -- at the end
  pub ended : (n from : ℕ) (old new : Visits) → Visiting (moved n dependents_of) n from old.out [] new.out new.entered.items new.left.items → IsVisited n dependents_of from old new
  ended n from old new w = record {
    visits = record { ordered = w.ordered; within = w.within; entered = w.seen; left = w.noted };
    here = w.here;
    kept = w.kept;
    placed = λ fix. w.ends fix ∙ onto_new (moved n dependents_of from) old.out;
  }

  -- if the device was visited before
  pub stays : (n from : ℕ) (old : Visits) → AreVisits n dependents_of old → is_among old.out from ≡ true → IsVisited n dependents_of from old old
  stays n from old v m = record {
    visits = v;
    here = m;
    kept = λ d i. i;
    placed = λ fix. sym (visited dependents_of (moved n dependents_of) fix old.out (order_closed dependents_of old.out v.ordered) from m) ∙ onto_new (moved n dependents_of from) old.out;
  }

-- what is read of a mark
pub mark_is : (marks : List Bool) (n : ℕ) (ds : List ℕ) → AreMarks marks n ds → (d : ℕ) → d < n → (read : List Bool) → read ≡ marks → (r : Bool) → r ≡ get_or read d false → is_among ds d ≡ r
mark_is marks n ds h d l read e r g = sym (h.marked d l) ∙ sym (g ∙ ap (λ ms. get_or ms d false) e)
