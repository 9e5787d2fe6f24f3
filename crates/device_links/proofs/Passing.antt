-- Walks from the last link to the first, none of which visits a device again, leave the order of the links.
use Rattle.std.proofs.Common.{◌≡◌, ◌≤◌, ◌∙◌, ℕ, zero, suc, Bool, true, false, not, ◌==◌, ◌||◌, List, [], ◌∷◌, ◌++◌, ◌⊎◌, inl, inr, length, filter, Option, refl, sym, ap, subst, cond, arith, length-append}
use Rattle.std.specs.List.{flat_map, range_with_len}
use Rattle.std.proofs.lemmas.Grind.{flat_map-append}
use Rattle.std.proofs.lemmas.List.{append-nil, append_assoc}
use Rattle.std.proofs.lemmas.List.Elements.{filter-append}
use Rattle.std.proofs.lemmas.Bool.{false≢true, eqb-true, or_cases, or_left, or_right}
use Rattle.std.proofs.Math.Bool.{or-false}
use Rattle.sleep_model.specs.declared.machine.Link.{Link}
use Rattle.sleep_model.specs.Order.{is_among, children_from, consumers_of, dependents, EachAfterParent, last_occurrences, moved, order_by}
use Rattle.sleep_model.specs.Links.{IsOrder, AreLinks}
use Rattle.sleep_model.proofs.Dependents.{among_app, among_first, among_rest, Within, within_of, put, onto, onto_app, among_onto, Descends, IsClosed, visited, visits, among_flat}
use Rattle.sleep_model.proofs.Acyclic.{links_descend, order_ranked}

-- ---- lists

-- these in front of those are the last of these that are not among those
pub onto_new : (xs out : List ℕ) → onto xs out ≡ filter (λ d. not (is_among out d)) (last_occurrences xs) ++ out
onto_new [] out = refl
onto_new (x ∷ xs) out = ap (λ b. cond b (onto xs out) (x ∷ onto xs out)) (among_onto xs out x) ∙ by_tests (onto_new xs out) (is_among xs x) (is_among out x) refl
  where
    rest : List ℕ
    rest = filter (λ d. not (is_among out d)) (last_occurrences xs)

    by_tests : onto xs out ≡ filter (λ d. not (is_among out d)) (last_occurrences xs) ++ out → (a b : Bool) → is_among out x ≡ b
        → cond (a || b) (onto xs out) (x ∷ onto xs out) ≡ filter (λ d. not (is_among out d)) (cond a (last_occurrences xs) (x ∷ last_occurrences xs)) ++ out
    by_tests r true b e = r
    by_tests r false true e = r ∙ sym (ap (λ c. cond (not c) (x ∷ filter (λ d. not (is_among out d)) (last_occurrences xs)) (filter (λ d. not (is_among out d)) (last_occurrences xs)) ++ out) e)
    by_tests r false false e = ap (λ ys. x ∷ ys) r ∙ sym (ap (λ c. cond (not c) (x ∷ filter (λ d. not (is_among out d)) (last_occurrences xs)) (filter (λ d. not (is_among out d)) (last_occurrences xs)) ++ out) e)

-- what is among neither of two lists
neither : (ys out xs : List ℕ) → filter (λ d. not (is_among (onto ys out) d)) xs ≡ filter (λ d. not (is_among out d)) (filter (λ d. not (is_among ys d)) xs)
neither ys out [] = refl
neither ys out (x ∷ xs) =
    ap (λ b. cond (not b) (x ∷ filter (λ d. not (is_among (onto ys out) d)) xs) (filter (λ d. not (is_among (onto ys out) d)) xs)) (among_onto ys out x)
    ∙ by_tests (neither ys out xs) (is_among ys x) (is_among out x) refl
  where
    by_tests : filter (λ d. not (is_among (onto ys out) d)) xs ≡ filter (λ d. not (is_among out d)) (filter (λ d. not (is_among ys d)) xs) → (a b : Bool) → is_among out x ≡ b
        → cond (not (a || b)) (x ∷ filter (λ d. not (is_among (onto ys out) d)) xs) (filter (λ d. not (is_among (onto ys out) d)) xs)
        ≡ filter (λ d. not (is_among out d)) (cond (not a) (x ∷ filter (λ d. not (is_among ys d)) xs) (filter (λ d. not (is_among ys d)) xs))
    by_tests r true b e = r
    by_tests r false true e = r ∙ sym (ap (λ c. cond (not c) (x ∷ filter (λ d. not (is_among out d)) (filter (λ d. not (is_among ys d)) xs)) (filter (λ d. not (is_among out d)) (filter (λ d. not (is_among ys d)) xs))) e)
    by_tests r false false e = ap (λ zs. x ∷ zs) r ∙ sym (ap (λ c. cond (not c) (x ∷ filter (λ d. not (is_among out d)) (filter (λ d. not (is_among ys d)) xs)) (filter (λ d. not (is_among out d)) (filter (λ d. not (is_among ys d)) xs))) e)

all_preserved : (xs : List ℕ) → filter (λ d. not (is_among [] d)) xs ≡ xs
all_preserved [] = refl
all_preserved (x ∷ xs) = ap (λ ys. x ∷ ys) (all_preserved xs)

-- ---- closed lists

-- an order has with each device all that depend directly on it
pub order_closed : (dependents_of : ℕ → List ℕ) (xs : List ℕ) → IsOrder dependents_of xs → IsClosed dependents_of xs
order_closed dependents_of [] h d m = absurd (false≢true m)
order_closed dependents_of (x ∷ xs) h d m = by_place (order_closed dependents_of xs h.2 d) (or_cases (x == d) (is_among xs d) m)
  where
    by_place : (is_among xs d ≡ true → Within (dependents_of d) xs) → ((x == d) ≡ true) ⊎ (is_among xs d ≡ true) → Within (dependents_of d) (x ∷ xs)
    by_place rest (inl e) = subst (λ (y : ℕ). Within (dependents_of y) (x ∷ xs)) (eqb-true x d e) (λ c i. among_rest x xs c (within_of xs (dependents_of x) h.1 c i))
    by_place rest (inr e) = λ c i. among_rest x xs c (rest e c i)

-- what depends directly on a device by some links, and more by later ones, which is among these
pub record IsSplit (dependents_of dependents_of' : ℕ → List ℕ) (out : List ℕ) (d : ℕ) : Type 0 where
  pub more : List ℕ
  pub is : dependents_of d ≡ dependents_of' d ++ more
  pub known : Within more out

module _ (dependents_of : ℕ → List ℕ) (W : ℕ → List ℕ) (fix : Descends dependents_of W) where
  pub itself : (d : ℕ) → is_among (W d) d ≡ true
  itself d = ap (λ ys. is_among ys d) (fix d) ∙ among_first d (flat_map W (dependents_of d))

  put_closed : (out : List ℕ) (d : ℕ) → IsClosed dependents_of out → Within (dependents_of d) out → IsClosed dependents_of (put out d)
  put_closed out d h i = by_test (is_among out d)
    where
      by_place : (x : ℕ) → ((d == x) ≡ true) ⊎ (is_among out x ≡ true) → Within (dependents_of x) (d ∷ out)
      by_place x (inl e) = subst (λ (y : ℕ). Within (dependents_of y) (d ∷ out)) (eqb-true d x e) (λ c m. among_rest d out c (i c m))
      by_place x (inr e) = λ c m. among_rest d out c (h x e c m)

      by_test : (b : Bool) → IsClosed dependents_of (cond b out (d ∷ out))
      by_test true = h
      by_test false = λ x m. by_place x (or_cases (d == x) (is_among out x) m)

  flat_closed : (k : ℕ) → ((o : List ℕ) → IsClosed dependents_of o → (d : ℕ) → length (W d) ≤ k → IsClosed dependents_of (onto (W d) o)) → (out : List ℕ) → IsClosed dependents_of out → (cs : List ℕ) → length (flat_map W cs) ≤ k → IsClosed dependents_of (onto (flat_map W cs) out)
  flat_closed k rec out h [] l = h
  flat_closed k rec out h (c ∷ cs) l =
      subst (IsClosed dependents_of) (sym (onto_app (W c) (flat_map W cs) out))
      (rec (onto (flat_map W cs) out) (flat_closed k rec out h cs (omega (arith, length-append (W c) (flat_map W cs)))) c (omega (arith, length-append (W c) (flat_map W cs))))

  walk_closed : (k : ℕ) (out : List ℕ) → IsClosed dependents_of out → (d : ℕ) → length (W d) ≤ k → IsClosed dependents_of (onto (W d) out)
  walk_closed zero out h d l = let e = ap length (fix d) in absurd (omega arith)
  walk_closed (suc k) out h d l =
      let cs = flat_map W (dependents_of d) in
      subst (λ (ys : List ℕ). IsClosed dependents_of (onto ys out)) (sym (fix d))
      (put_closed (onto cs out) d (flat_closed k (walk_closed k) out h (dependents_of d) (omega (arith, ap length (fix d))))
      (λ c m. among_onto cs out c ∙ ap (λ b. b || is_among out c) (among_flat dependents_of W fix c (dependents_of d) c m (itself c))))

  -- a walk leaves a closed list closed
  pub closed_onto : (out : List ℕ) → IsClosed dependents_of out → (d : ℕ) → IsClosed dependents_of (onto (W d) out)
  closed_onto out h d = walk_closed (length (W d)) out h d (omega arith)

  flats_closed : (out : List ℕ) → IsClosed dependents_of out → (cs : List ℕ) → IsClosed dependents_of (onto (flat_map W cs) out)
  flats_closed out h [] = h
  flats_closed out h (c ∷ cs) = subst (IsClosed dependents_of) (sym (onto_app (W c) (flat_map W cs) out)) (closed_onto (onto (flat_map W cs) out) (flats_closed out h cs) c)

  -- devices that were visited are not walked again
  all_visited : (out : List ℕ) → IsClosed dependents_of out → (cs : List ℕ) → Within cs out → onto (flat_map W cs) out ≡ out
  all_visited out h [] i = refl
  all_visited out h (c ∷ cs) i = onto_app (W c) (flat_map W cs) out ∙ (ap (onto (W c)) (all_visited out h cs (λ d m. i d (among_rest c cs d m))) ∙ visited dependents_of W fix out h c (i c (among_first c cs)))

  -- ---- a walk by later links too, which lead to visited devices

  module _ (dependents_of' : ℕ → List ℕ) (W' : ℕ → List ℕ) (fix' : Descends dependents_of' W') where
    closed_by : (out : List ℕ) → IsClosed dependents_of out → ((d : ℕ) → IsSplit dependents_of dependents_of' out d) → IsClosed dependents_of' out
    closed_by out h s d m x i =
        let e : is_among (dependents_of d) x ≡ true = ap (λ ys. is_among ys x) (s d).is ∙ (among_app (dependents_of' d) (s d).more x ∙ or_left (is_among (dependents_of' d) x) (is_among (s d).more x) i) in
        h d m x e

    split_more : (out more : List ℕ) → Within out more → ((d : ℕ) → IsSplit dependents_of dependents_of' out d) → (d : ℕ) → IsSplit dependents_of dependents_of' more d
    split_more out more i s d = record { more = (s d).more; is = (s d).is; known = λ x m. i x ((s d).known x m) }

    flat_as : (k : ℕ) → ((o : List ℕ) → IsClosed dependents_of o → ((d : ℕ) → IsSplit dependents_of dependents_of' o d) → (d : ℕ) → length (W d) ≤ k → onto (W d) o ≡ onto (W' d) o)
        → (out : List ℕ) → IsClosed dependents_of out → ((d : ℕ) → IsSplit dependents_of dependents_of' out d) → (cs : List ℕ) → length (flat_map W cs) ≤ k → onto (flat_map W cs) out ≡ onto (flat_map W' cs) out
    flat_as k rec out h s [] l = refl
    flat_as k rec out h s (c ∷ cs) l =
        let o = onto (flat_map W cs) out in
        onto_app (W c) (flat_map W cs) out
        ∙ (rec o (flats_closed out h cs) (split_more out o (λ x m. among_onto (flat_map W cs) out x ∙ or_right (is_among (flat_map W cs) x) (is_among out x) m) s) c (omega (arith, length-append (W c) (flat_map W cs)))
        ∙ (ap (onto (W' c)) (flat_as k rec out h s cs (omega (arith, length-append (W c) (flat_map W cs))))
        ∙ sym (onto_app (W' c) (flat_map W' cs) out)))

    walk_as : (k : ℕ) (out : List ℕ) → IsClosed dependents_of out → ((d : ℕ) → IsSplit dependents_of dependents_of' out d) → (d : ℕ) → length (W d) ≤ k → onto (W d) out ≡ onto (W' d) out
    walk_as zero out h s d l = let e = ap length (fix d) in absurd (omega arith)
    walk_as (suc k) out h s d l = by_test (walk_as k) (is_among out d) refl
      where
        inside : length (flat_map W (dependents_of' d)) ≤ k
        inside =
            let a = ap length (fix d) in
            let b = ap (λ cs. length (flat_map W cs)) (s d).is in
            let e = ap length (flat_map-append W (dependents_of' d) (s d).more) in
            omega (arith, a, b, e, length-append (flat_map W (dependents_of' d)) (flat_map W (s d).more))

        by_test : ((o : List ℕ) → IsClosed dependents_of o → ((x : ℕ) → IsSplit dependents_of dependents_of' o x) → (x : ℕ) → length (W x) ≤ k → onto (W x) o ≡ onto (W' x) o) → (b : Bool) → is_among out d ≡ b → onto (W d) out ≡ onto (W' d) out
        by_test rec true e = visited dependents_of W fix out h d e ∙ sym (visited dependents_of' W' fix' out (closed_by out h s) d e)
        by_test rec false e =
            visits dependents_of W fix out d e
            ∙ (ap (λ cs. d ∷ onto (flat_map W cs) out) (s d).is
            ∙ (ap (λ ys. d ∷ onto ys out) (flat_map-append W (dependents_of' d) (s d).more)
            ∙ (ap (λ ys. d ∷ ys) (onto_app (flat_map W (dependents_of' d)) (flat_map W (s d).more) out)
            ∙ (ap (λ o. d ∷ onto (flat_map W (dependents_of' d)) o) (all_visited out h (s d).more (s d).known)
            ∙ (ap (λ ys. d ∷ ys) (flat_as k rec out h s (dependents_of' d) inside)
            ∙ sym (visits dependents_of' W' fix' out d e))))))

    pub onto_as : (out : List ℕ) → IsClosed dependents_of out → ((d : ℕ) → IsSplit dependents_of dependents_of' out d) → (d : ℕ) → onto (W d) out ≡ onto (W' d) out
    onto_as out h s d = walk_as (length (W d)) out h s d (omega arith)

-- ---- the walks of all links

-- what the walks of these links, the newest first, leave in front of what was visited
abbrev pub passed : (ℕ → List ℕ) → List Link → List ℕ → List ℕ
passed W [] out = out
passed W (l ∷ earlier) out = passed W earlier (onto (W l.consumer) out)

module _ (ps : List (Option ℕ)) (after : EachAfterParent 0 ps) (all : List Link) (linked : AreLinks ps all) where
  dependents_of : ℕ → List ℕ
  dependents_of = dependents ps all

  W : ℕ → List ℕ
  W = moved (length ps) (dependents ps all)

  fix : Descends (dependents ps all) (moved (length ps) (dependents ps all))
  fix = links_descend ps after all linked (order_ranked ps after all linked)

  -- one link fewer is left
  split_next : (l : Link) (earlier : List Link) (out : List ℕ) → ((d : ℕ) → IsSplit (dependents ps all) (dependents ps (l ∷ earlier)) out d) → (d : ℕ) → IsSplit (dependents ps all) (dependents ps earlier) (onto (moved (length ps) (dependents ps all) l.consumer) out) d
  split_next l earlier out s d = record {
    more = cond (l.supplier == d) (l.consumer ∷ []) [] ++ (s d).more;
    is =
        (s d).is
        ∙ (ap (λ ys. ys ++ (s d).more) (sym (append_assoc (children_from d 0 ps) (consumers_of d earlier) (cond (l.supplier == d) (l.consumer ∷ []) [])))
        ∙ append_assoc (dependents ps earlier d) (cond (l.supplier == d) (l.consumer ∷ []) []) (s d).more);
    known = λ x m. by_place x (or_cases (is_among (cond (l.supplier == d) (l.consumer ∷ []) []) x) (is_among (s d).more x) (sym (among_app (cond (l.supplier == d) (l.consumer ∷ []) []) (s d).more x) ∙ m));
  }
    where
      of_link : (x : ℕ) (b : Bool) → is_among (cond b (l.consumer ∷ []) []) x ≡ true → is_among (moved (length ps) (dependents ps all) l.consumer) x ≡ true
      of_link x false m = absurd (false≢true m)
      of_link x true m = subst (λ (y : ℕ). is_among (moved (length ps) (dependents ps all) l.consumer) y ≡ true) (eqb-true l.consumer x (sym (or-false (l.consumer == x)) ∙ m)) (itself (dependents ps all) (moved (length ps) (dependents ps all)) fix l.consumer)

      by_place : (x : ℕ) → (is_among (cond (l.supplier == d) (l.consumer ∷ []) []) x ≡ true) ⊎ (is_among (s d).more x ≡ true) → is_among (onto (moved (length ps) (dependents ps all) l.consumer) out) x ≡ true
      by_place x (inl e) = among_onto (moved (length ps) (dependents ps all) l.consumer) out x ∙ or_left (is_among (moved (length ps) (dependents ps all) l.consumer) x) (is_among out x) (of_link x (l.supplier == d) e)
      by_place x (inr e) = among_onto (moved (length ps) (dependents ps all) l.consumer) out x ∙ or_right (is_among (moved (length ps) (dependents ps all) l.consumer) x) (is_among out x) ((s d).known x e)

  order_passed : (left : List Link) → AreLinks ps left → (out : List ℕ) → IsClosed (dependents ps all) out → ((d : ℕ) → IsSplit (dependents ps all) (dependents ps left) out d)
      → filter (λ d. not (is_among (passed (moved (length ps) (dependents ps all)) left out) d)) (range_with_len 0 (length ps)) ++ passed (moved (length ps) (dependents ps all)) left out
      ≡ filter (λ d. not (is_among out d)) (order_by ps left) ++ out
  order_passed [] h out closed s = refl
  order_passed (l ∷ earlier) h out closed s =
      order_passed earlier h.4 (onto (moved (length ps) (dependents ps all) l.consumer) out) (closed_onto (dependents ps all) (moved (length ps) (dependents ps all)) fix out closed l.consumer) (split_next l earlier out s)
      ∙ (ap (λ xs. filter (λ d. not (is_among xs d)) (order_by ps earlier) ++ xs) same
      ∙ (ap (λ ys. ys ++ onto M out) (neither M out (order_by ps earlier))
      ∙ (ap (λ ys. filter (λ d. not (is_among out d)) others ++ ys) (onto_new M out)
      ∙ (sym (append_assoc (filter (λ d. not (is_among out d)) others) (filter (λ d. not (is_among out d)) (last_occurrences M)) out)
      ∙ ap (λ ys. ys ++ out) (sym (filter-append (λ d. not (is_among out d)) others (last_occurrences M)))))))
    where
      M : List ℕ
      M = moved (length ps) (dependents ps (l ∷ earlier)) l.consumer

      others : List ℕ
      others = filter (λ d. not (is_among M d)) (order_by ps earlier)

      same : onto (moved (length ps) (dependents ps all) l.consumer) out ≡ onto (moved (length ps) (dependents ps (l ∷ earlier)) l.consumer) out
      same =
          onto_as (dependents ps all) (moved (length ps) (dependents ps all)) fix
          (dependents ps (l ∷ earlier)) (moved (length ps) (dependents ps (l ∷ earlier))) (links_descend ps after (l ∷ earlier) h (order_ranked ps after (l ∷ earlier) h))
          out closed s l.consumer

  -- the devices that none moved, in the order of their registration, and after them the walks
  pub order_at_once : filter (λ d. not (is_among (passed (moved (length ps) (dependents ps all)) all []) d)) (range_with_len 0 (length ps)) ++ passed (moved (length ps) (dependents ps all)) all [] ≡ order_by ps all
  order_at_once =
      order_passed all linked [] (λ d m. absurd (false≢true m)) (λ d. record { more = []; is = sym (append-nil (dependents ps all d)); known = λ x m. m })
      ∙ (append-nil (filter (λ d. not (is_among [] d)) (order_by ps all)) ∙ all_preserved (order_by ps all))
