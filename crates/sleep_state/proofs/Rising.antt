-- A tree of moments: its first node has the least, and one that changes is set right from below.
use Rattle.std.proofs.Common.{◌≡◌, ◌≤◌, ◌<◌, ◌+◌, ◌*◌, ◌^◌, ◌∙◌, ℕ, zero, suc, Bool, true, false, ◌==◌, List, [], ◌∷◌, length, drop, replicate, min, slice_index_or, refl, sym, ap, ap₂, subst, arith}
use Rattle.std.proofs.lemmas.Bool.Decides.{nat_tests}
use Rattle.std.proofs.lemmas.List.{get_or-drop, length-drop}
use Rattle.sleep_state.specs.Trees.{never, least_among, least_of, IsLeastBelow, AreLeastBelow, AreJoinedBut}

-- ---- the lesser of two

min_comm : (a b : ℕ) → min a b ≡ min b a
min_comm a b = omega arith

min_assoc : (a b c : ℕ) → min a (min b c) ≡ min (min a b) c
min_assoc a b c = omega arith

min_swap : (a b c : ℕ) → min a (min b c) ≡ min b (min a c)
min_swap a b c = omega arith

-- ---- the first node has the least

module _ (nodes : List ℕ) where
  abbrev at : ℕ → ℕ
  at k = slice_index_or nodes k never

  -- the least of so many nodes from one on
  abbrev from : ℕ → ℕ → ℕ
  from a zero = never
  from a (suc n) = min (at (a + n)) (from a n)

  from_front : (a n : ℕ) → from a (suc n) ≡ min (at a) (from (suc a) n)
  from_front a zero = ap (λ k. min (at k) never) (let same : a + 0 ≡ a = omega arith in same)
  from_front a (suc n) =
      ap (min (at (a + suc n))) (from_front a n)
      ∙ (min_swap (at (a + suc n)) (at a) (from (suc a) n)
      ∙ ap (λ k. min (at a) (min (at k) (from (suc a) n))) (let same : a + suc n ≡ suc a + n = omega arith in same))

  -- the nodes from k to below 2k have the same least as those from k + 1 to below 2k + 2
  from_next : (j : ℕ) → IsLeastBelow nodes (suc j) → from (suc j) (suc j) ≡ from (suc (suc j)) (suc (suc j))
  from_next j h =
      let k : ℕ = suc j in
      from_front k j
      ∙ (ap (λ x. min x (from (suc k) j)) (h ∙ min_comm (at (2 * k)) (at (2 * k + 1)))
      ∙ (sym (min_assoc (at (2 * k + 1)) (at (2 * k)) (from (suc k) j))
      ∙ ap₂ (λ x y. min (at x) (min (at y) (from (suc k) j))) (let one : 2 * k + 1 ≡ suc k + suc j = omega arith in one) (let two : 2 * k ≡ suc k + j = omega arith in two)))

  from_first : (many j : ℕ) → AreLeastBelow many nodes → suc j ≤ many → min (at 1) never ≡ from (suc j) (suc j)
  from_first many zero h l = ap (λ k. min (at k) never) (let same : 1 ≡ 1 + 0 = omega arith in same)
  from_first many (suc j) h l = from_first many j h (omega (arith, l)) ∙ from_next j (h (suc j) (omega arith) (omega (arith, l)))

  from_own : (many n : ℕ) → from many n ≡ least_among (drop many nodes) n
  from_own many zero = refl
  from_own many (suc n) = ap₂ min (sym (get_or-drop many nodes n never)) (from_own many n)

least_first : (many : ℕ) (nodes : List ℕ) → length nodes ≡ 2 * many → AreLeastBelow many nodes → min (slice_index_or nodes 1 never) never ≡ least_of (drop many nodes)
least_first zero [] e h = refl
least_first zero (x ∷ xs) e h = absurd (omega (arith, e))
least_first (suc j) nodes e h =
    from_first nodes (suc j) j h (omega arith) ∙ (from_own nodes (suc j) (suc j) ∙ ap (least_among (drop (suc j) nodes)) (let count : suc j ≡ length (drop (suc j) nodes) = omega (arith, e, length-drop (suc j) nodes) in count))

pub first_least : (many : ℕ) (nodes : List ℕ) (least : ℕ) → length nodes ≡ 2 * many → AreLeastBelow many nodes → least < 2 ^ 64 → least ≡ slice_index_or nodes 1 never → least ≡ least_of (drop many nodes)
first_least many nodes least e h l is = omega (arith, l, is, least_first many nodes e h)

-- ---- a node that is read

pub read_is : (xs : List ℕ) (i : ℕ) (x : ℕ) → i < length xs → x ≡ slice_index_or xs i x → x ≡ slice_index_or xs i never
read_is [] i x l e = absurd (omega (arith, l))
read_is (y ∷ ys) zero x l e = e
read_is (y ∷ ys) (suc i) x l e = read_is ys i x (omega (arith, l)) e

-- ---- a node that stays as it was

-- if the one that was left out is joined all are
pub joined_here : (many i : ℕ) (nodes : List ℕ) → AreJoinedBut many i nodes → IsLeastBelow nodes i → AreLeastBelow many nodes
joined_here many i nodes h here k some l = by_same (k == i) refl
  where
    by_same : (b : Bool) → (k == i) ≡ b → IsLeastBelow nodes k
    by_same true e = subst (IsLeastBelow nodes) (let same : i ≡ k = grind (arith, nat_tests) in same) here
    by_same false e = h k some l (λ same. absurd (grind (arith, nat_tests)))

-- ---- nodes without a moment

none_at : (n k : ℕ) → slice_index_or (replicate n never) k never ≡ never
none_at zero k = refl
none_at (suc n) zero = refl
none_at (suc n) (suc k) = none_at n k

-- nodes without a moment are joined
pub joined_first : (many n : ℕ) → AreLeastBelow many (replicate n never)
joined_first many n k there l = none_at n k ∙ sym (ap₂ min (none_at n (2 * k)) (none_at n (2 * k + 1)))

drop_none : (many n : ℕ) → drop many (replicate (many + n) never) ≡ replicate n never
drop_none zero n = ap (λ (k : ℕ). replicate k never) (let same : 0 + n ≡ n = omega arith in same)
drop_none (suc many) n = ap (λ (k : ℕ). drop (suc many) (replicate k never)) (let same : suc many + n ≡ suc (many + n) = omega arith in same) ∙ drop_none many n

pub own_first : (many : ℕ) → drop many (replicate (2 * many) never) ≡ replicate many never
own_first many = ap (λ (k : ℕ). drop many (replicate k never)) (let same : 2 * many ≡ many + many = omega arith in same) ∙ drop_none many many
