-- The indices of links, and the links at them.
use Rattle.std.proofs.Common.{◌≡◌, ◌<◌, ◌≤◌, ◌+◌, ◌-◌, ◌∙◌, ℕ, zero, suc, Bool, true, false, ◌==◌, ◌||◌, List, [], ◌∷◌, ◌++◌, ◌⊎◌, inl, inr, length, map, filter, take, reverse, get_or, set, replicate, Option, Some, None, MatchOption, is_some, refl, sym, ap, ap₂, subst, cond, arith, length-append}
use Rattle.std.specs.Bool.{beq}
use Rattle.std.proofs.lemmas.Bool.{and_parts, and_right, eqb-true, or_from, true≢false}
use Rattle.std.proofs.lemmas.List.{append-nil, append_assoc, get_or_append_left, get_or-map, length-map, length-replicate, length-reverse, map-append, reverse-append, reverse-reverse, set-append_left, take_all, take_at, get_or_default, set-get_or}
use Rattle.std.proofs.lemmas.List.Elements.{filter-append}
use Rattle.std.proofs.Math.Seq.{get_or-append_seam, set-append_seam}
use Rattle.sleep_model.specs.declared.machine.Link.{Link}
use Rattle.sleep_model.specs.Links.{AreLinks, is_linked}
use Rattle.sleep_model.specs.Order.{is_link, with_state, active_of, children_from, consumers_of, dependents, suppliers_of}
use Rattle.sleep_model.proofs.Changing.{same_supplier, same_consumer}
use Rattle.device_rows.specs.Table.{with_number}
use Rattle.check_order.specs.Graphs.{ArePlaced, IsTableOf, StandsAt, no_link, places_of}
use Rattle.check_order.proofs.Tabling.{empty_rows, newest, same_number, table_push, table_same}
use Rattle.check_order.proofs.Tying.{linked_at}

-- ---- the tables

pub placed_none : (n : ℕ) (a b : List (List ℕ)) → a ≡ replicate n [] → b ≡ replicate n [] → ArePlaced n [] a b
placed_none n a b e f = record {
  by_supplier = none a e;
  by_consumer = none b f;
}
  where
    none : (rows : List (List ℕ)) → rows ≡ replicate n [] → IsTableOf n (λ d. []) rows
    none rows is = record {
      count = ap length is ∙ length-replicate n [];
      each = λ d. ap (λ r. get_or r d []) is ∙ empty_rows n d;
    }

-- one more link
pub placed_more : (n : ℕ) (l : Link) (ls : List Link) (k : ℕ) (a b : List (List ℕ)) → ArePlaced n ls a b → l.supplier < n → l.consumer < n → k ≡ length ls → ArePlaced n (l ∷ ls) (with_number a (Some l.supplier) k) (with_number b (Some l.consumer) k)
placed_more n l ls k a b h s c e = record {
  by_supplier =
      table_push n (λ d. places_of (λ x. x.supplier == d) ls) (λ d. places_of (λ x. x.supplier == d) (l ∷ ls)) a h.by_supplier l.supplier k s
      (here (places_of (λ x. x.supplier == l.supplier) ls) (l.supplier == l.supplier) (same_number l.supplier))
      (λ d f. there (places_of (λ x. x.supplier == d) ls) (l.supplier == d) f);
  by_consumer =
      table_push n (λ d. places_of (λ x. x.consumer == d) ls) (λ d. places_of (λ x. x.consumer == d) (l ∷ ls)) b h.by_consumer l.consumer k c
      (here (places_of (λ x. x.consumer == l.consumer) ls) (l.consumer == l.consumer) (same_number l.consumer))
      (λ d f. there (places_of (λ x. x.consumer == d) ls) (l.consumer == d) f);
}
  where
    here : (xs : List ℕ) (t : Bool) → t ≡ true → xs ++ cond t (length ls ∷ []) [] ≡ xs ++ k ∷ []
    here xs t f = ap (λ b. xs ++ cond b (length ls ∷ []) []) f ∙ ap (λ j. xs ++ j ∷ []) (sym e)

    there : (xs : List ℕ) (t : Bool) → t ≡ false → xs ++ cond t (length ls ∷ []) [] ≡ xs
    there xs t f = ap (λ b. xs ++ cond b (length ls ∷ []) []) f ∙ append-nil xs

-- links whose ends stay
module _ (f : Link → Link) (s : (l : Link) → (f l).supplier ≡ l.supplier) (c : (l : Link) → (f l).consumer ≡ l.consumer) where
  places_preserved : (test : Link → Bool) → ((l : Link) → test (f l) ≡ test l) → (ls : List Link) → places_of test (map f ls) ≡ places_of test ls
  places_preserved test t [] = refl
  places_preserved test t (l ∷ ls) =
      ap (λ xs. xs ++ cond (test (f l)) (length (map f ls) ∷ []) []) (places_preserved test t ls)
      ∙ ap₂ (λ b k. places_of test ls ++ cond b (k ∷ []) []) (t l) (length-map ls f)

  pub placed_preserved : (n : ℕ) (ls : List Link) (a b : List (List ℕ)) → ArePlaced n ls a b → ArePlaced n (map f ls) a b
  placed_preserved n ls a b h = record {
    by_supplier =
        table_same n (λ d. places_of (λ l. l.supplier == d) ls) (λ d. places_of (λ l. l.supplier == d) (map f ls)) a h.by_supplier
        (λ d. places_preserved (λ l. l.supplier == d) (λ l. ap (λ x. x == d) (s l)) ls);
    by_consumer =
        table_same n (λ d. places_of (λ l. l.consumer == d) ls) (λ d. places_of (λ l. l.consumer == d) (map f ls)) b h.by_consumer
        (λ d. places_preserved (λ l. l.consumer == d) (λ l. ap (λ x. x == d) (c l)) ls);
  }

-- a device supplies as many links as it has consumers
pub supplied_count : (d : ℕ) (ls : List Link) → length (places_of (λ l. l.supplier == d) ls) ≡ length (consumers_of d ls)
supplied_count d [] = refl
supplied_count d (l ∷ ls) =
    length-append (places_of (λ x. x.supplier == d) ls) (cond (l.supplier == d) (length ls ∷ []) [])
    ∙ (ap₂ ◌+◌ (supplied_count d ls) (one (l.supplier == d))
    ∙ sym (length-append (consumers_of d ls) (cond (l.supplier == d) (l.consumer ∷ []) [])))
  where
    one : (b : Bool) → length (cond b (length ls ∷ []) []) ≡ length (cond b (l.consumer ∷ []) [])
    one true = refl
    one false = refl

-- the children come first in the row of the dependents of a device
pub children_first : (ps : List (Option ℕ)) (ls : List Link) (d : ℕ) (row supplied : List ℕ) → row ≡ dependents ps ls d → supplied ≡ places_of (λ l. l.supplier == d) ls → (length supplied ≤ length row) × (take (length row - length supplied) row ≡ children_from d 0 ps)
children_first ps ls d row supplied e f = (
  omega (arith, whole, parts, links, many),
  ap (λ k. take k row) count ∙ (ap (take (length (children_from d 0 ps))) e ∙ take_at (children_from d 0 ps) (consumers_of d ls) (length (children_from d 0 ps)) refl),
)
  where
    whole : length row ≡ length (dependents ps ls d)
    whole = ap length e

    parts : length (dependents ps ls d) ≡ length (children_from d 0 ps) + length (consumers_of d ls)
    parts = length-append (children_from d 0 ps) (consumers_of d ls)

    links : length supplied ≡ length (places_of (λ l. l.supplier == d) ls)
    links = ap length f

    many : length (places_of (λ l. l.supplier == d) ls) ≡ length (consumers_of d ls)
    many = supplied_count d ls

    count : length row - length supplied ≡ length (children_from d 0 ps)
    count = omega (arith, whole, parts, links, many)

-- ---- the links at these indices

-- each of the indices is below that
abbrev pub AreBelow : ℕ → List ℕ → Type 0
AreBelow n [] = Unit {0}
AreBelow n (x ∷ xs) = (x < n) × AreBelow n xs

below_at : (n : ℕ) (xs : List ℕ) (j d : ℕ) → AreBelow n xs → j < length xs → get_or xs j d < n
below_at n [] j d h l = absurd (omega arith)
below_at n (x ∷ xs) zero d h l = h.0
below_at n (x ∷ xs) (suc j) d h l = below_at n xs j d h.1 (omega arith)

below_more : (n m : ℕ) (xs : List ℕ) → n ≤ m → AreBelow n xs → AreBelow m xs
below_more n m [] l h = tt
below_more n m (x ∷ xs) l h = (omega (arith, h.0), below_more n m xs l h.1)

below_append : (n : ℕ) (xs ys : List ℕ) → AreBelow n xs → AreBelow n ys → AreBelow n (xs ++ ys)
below_append n [] ys h i = i
below_append n (x ∷ xs) ys h i = (h.0, below_append n xs ys h.1 i)

places_below : (test : Link → Bool) (ls : List Link) → AreBelow (length ls) (places_of test ls)
places_below test [] = tt
places_below test (l ∷ ls) =
    below_append (length (l ∷ ls)) (places_of test ls) (cond (test l) (length ls ∷ []) [])
    (below_more (length ls) (length (l ∷ ls)) (places_of test ls) (omega arith) (places_below test ls)) (one (test l))
  where
    one : (b : Bool) → AreBelow (length (l ∷ ls)) (cond b (length ls ∷ []) [])
    one true = (omega arith, tt)
    one false = tt

-- each index is one of a link
pub place_within : (test : Link → Bool) (links : List Link) (places : List ℕ) → places ≡ places_of test (reverse links) → (j d : ℕ) → j < length places → get_or places j d < length links
place_within test links places e j d l =
    let below = subst (AreBelow (length (reverse links))) (sym e) (places_below test (reverse links)) in
    let n = length-reverse links in
    let i = below_at (length (reverse links)) places j d below l in
    omega (arith, n, i)

-- the links at these indices, in this order
abbrev pub picked : List Link → List ℕ → List Link
picked links places = map (λ i. get_or links i no_link) places

picked_append : (links : List Link) (xs ys : List ℕ) → picked links (xs ++ ys) ≡ picked links xs ++ picked links ys
picked_append links [] ys = refl
picked_append links (x ∷ xs) ys = ap (λ ls. get_or links x no_link ∷ ls) (picked_append links xs ys)

-- more links after them change nothing
picked_longer : (links more : List Link) (xs : List ℕ) → AreBelow (length links) xs → picked (links ++ more) xs ≡ picked links xs
picked_longer links more [] h = refl
picked_longer links more (x ∷ xs) h = ap₂ (λ l ls. l ∷ ls) (get_or_append_left links more no_link x h.0) (picked_longer links more xs h.1)

newest_after : (l : Link) (ls : List Link) → reverse (l ∷ ls) ≡ reverse ls ++ l ∷ []
newest_after l ls = reverse-append (l ∷ []) ls

below_reversed : (test : Link → Bool) (ls : List Link) → AreBelow (length (reverse ls)) (places_of test ls)
below_reversed test ls = subst (λ k. AreBelow k (places_of test ls)) (sym (length-reverse ls)) (places_below test ls)

last_link : (ls : List Link) (l : Link) → get_or (reverse ls ++ l ∷ []) (length ls) no_link ≡ l
last_link ls l = ap (λ k. get_or (reverse ls ++ l ∷ []) k no_link) (sym (length-reverse ls)) ∙ get_or-append_seam (reverse ls) l [] no_link

-- they are the links that the test takes
picked_as : (test : Link → Bool) (ls : List Link) → picked (reverse ls) (places_of test ls) ≡ filter test (reverse ls)
picked_as test [] = refl
picked_as test (l ∷ ls) =
    ap (λ ks. picked ks (places_of test (l ∷ ls))) (newest_after l ls)
    ∙ (picked_append (reverse ls ++ l ∷ []) (places_of test ls) (cond (test l) (length ls ∷ []) [])
    ∙ (ap (λ ks. ks ++ picked (reverse ls ++ l ∷ []) (cond (test l) (length ls ∷ []) [])) (picked_longer (reverse ls) (l ∷ []) (places_of test ls) (below_reversed test ls) ∙ picked_as test ls)
    ∙ (by_test (test l)
    ∙ (sym (filter-append test (reverse ls) (l ∷ [])) ∙ ap (filter test) (sym (newest_after l ls))))))
  where
    by_test : (b : Bool) → filter test (reverse ls) ++ picked (reverse ls ++ l ∷ []) (cond b (length ls ∷ []) []) ≡ filter test (reverse ls) ++ cond b (l ∷ []) []
    by_test true = ap (λ k. filter test (reverse ls) ++ k ∷ []) (last_link ls l)
    by_test false = refl

filter_reverse : (test : Link → Bool) (ls : List Link) → reverse (filter test ls) ≡ filter test (reverse ls)
filter_reverse test [] = refl
filter_reverse test (l ∷ ls) = by_test (filter_reverse test ls) (test l) ∙ sym (ap (filter test) (newest_after l ls) ∙ filter-append test (reverse ls) (l ∷ []))
  where
    by_test : reverse (filter test ls) ≡ filter test (reverse ls) → (b : Bool) → reverse (cond b (l ∷ filter test ls) (filter test ls)) ≡ filter test (reverse ls) ++ cond b (l ∷ []) []
    by_test rest true = newest_after l (filter test ls) ∙ ap (λ xs. xs ++ l ∷ []) rest
    by_test rest false = rest ∙ sym (append-nil (filter test (reverse ls)))

-- what a test takes passes it
taken_at : (test : Link → Bool) (ls : List Link) (k : ℕ) → k < length (filter test ls) → test (get_or (filter test ls) k no_link) ≡ true
taken_at test [] k l = absurd (omega arith)
taken_at test (x ∷ xs) k l = by_test (taken_at test xs) (test x) refl k l
  where
    by_test : ((j : ℕ) → j < length (filter test xs) → test (get_or (filter test xs) j no_link) ≡ true) → (b : Bool) → test x ≡ b → (j : ℕ) → j < length (cond b (x ∷ filter test xs) (filter test xs)) → test (get_or (cond b (x ∷ filter test xs) (filter test xs)) j no_link) ≡ true
    by_test rest true e zero m = e
    by_test rest true e (suc j) m = rest j (omega arith)
    by_test rest false e j m = rest j m

module _ (test : Link → Bool) (links : List Link) (places : List ℕ) (e : places ≡ places_of test (reverse links)) where
  picked_is : picked links places ≡ filter test links
  picked_is =
      ap (picked links) e
      ∙ (ap (λ ks. picked ks (places_of test (reverse links))) (sym (reverse-reverse links))
      ∙ (picked_as test (reverse links) ∙ ap (filter test) (reverse-reverse links)))

  count_is : length places ≡ length (filter test links)
  count_is = sym (length-map places (λ i. get_or links i no_link)) ∙ ap length picked_is

  pub link_at : (i : ℕ) → i < length places → get_or links (get_or places i 0) no_link ≡ get_or (filter test links) i no_link
  link_at i l = sym (get_or-map (λ k. get_or links k no_link) places i 0 no_link l) ∙ ap (λ ks. get_or ks i no_link) picked_is

  -- one more of them
  pub taken_more : (i : ℕ) → i < length places → reverse (take (i + 1) (filter test links)) ≡ get_or links (get_or places i 0) no_link ∷ reverse (take i (filter test links))
  taken_more i l = newest (filter test links) i no_link (omega (arith, count_is)) ∙ ap (λ x. x ∷ reverse (take i (filter test links))) (sym (link_at i l))

  pub taken_is : (i : ℕ) → i < length places → test (get_or links (get_or places i 0) no_link) ≡ true
  taken_is i l = ap test (link_at i l) ∙ taken_at test links i (omega (arith, count_is))

  pub taken_all : (i : ℕ) → length places ≤ i → reverse (take i (filter test links)) ≡ filter test (reverse links)
  taken_all i l = ap reverse (take_all i (filter test links) (omega (arith, count_is))) ∙ filter_reverse test links

-- ---- a link is looked for

linked_past : (s c : ℕ) (l : Link) → (l.consumer == c) ≡ false → is_link s c l ≡ false
linked_past s c l e = and_right (l.supplier == s) (l.consumer == c) e

-- it is one of its consumer's
linked_here : (s c : ℕ) (ls : List Link) → is_linked (filter (λ l. l.consumer == c) ls) s c ≡ is_linked ls s c
linked_here s c [] = refl
linked_here s c (l ∷ ls) = by_test (linked_here s c ls) (l.consumer == c) refl
  where
    by_test : is_linked (filter (λ x. x.consumer == c) ls) s c ≡ is_linked ls s c → (b : Bool) → (l.consumer == c) ≡ b → is_linked (cond b (l ∷ filter (λ x. x.consumer == c) ls) (filter (λ x. x.consumer == c) ls)) s c ≡ (is_link s c l || is_linked ls s c)
    by_test rest true e = ap (λ b. is_link s c l || b) rest
    by_test rest false e = rest ∙ ap (λ b. b || is_linked ls s c) (sym (linked_past s c l e))

module _ (s c : ℕ) (links : List Link) (places : List ℕ) (e : places ≡ places_of (λ l. l.consumer == c) (reverse links)) (i : ℕ) (before : is_linked (reverse (take i (filter (λ l. l.consumer == c) links))) s c ≡ false) where
  pub not_yet : i < length places → is_link s c (get_or links (get_or places i 0) no_link) ≡ false → is_linked (reverse (take (i + 1) (filter (λ l. l.consumer == c) links))) s c ≡ false
  not_yet l other = ap (λ ls. is_linked ls s c) (taken_more (λ x. x.consumer == c) links places e i l) ∙ or_from (is_link s c (get_or links (get_or places i 0) no_link)) (is_linked (reverse (take i (filter (λ x. x.consumer == c) links))) s c) other before

  pub not_linked : length places ≤ i → is_linked (reverse links) s c ≡ false
  not_linked l = sym (linked_here s c (reverse links)) ∙ (ap (λ ls. is_linked ls s c) (sym (taken_all (λ x. x.consumer == c) links places e i l)) ∙ before)

-- what is found says whether there is a link
pub found_is : (s c : ℕ) (links : List Link) (r : Option ℕ) → MatchOption r (is_linked (reverse links) s c ≡ false) (StandsAt s c links) → is_some r ≡ is_linked (reverse links) s c
found_is s c links None h = sym h
found_is s c links (Some k) h = sym (linked_at links k no_link s c h.within h.is)

-- ---- a link whose state changes

link_ends : (s c : ℕ) (l : Link) → is_link s c l ≡ true → (l.supplier ≡ s) × (l.consumer ≡ c)
link_ends s c l e = let p = and_parts (l.supplier == s) (l.consumer == c) e in (eqb-true l.supplier s p.0, eqb-true l.consumer c p.1)

-- the devices of a link are registered
pub linked_within : (ps : List (Option ℕ)) (s c : ℕ) (ls : List Link) → AreLinks ps ls → is_linked ls s c ≡ true → (s < length ps) × (c < length ps)
linked_within ps s c [] h e = absurd (true≢false (sym e))
linked_within ps s c (l ∷ ls) h e = by_test (linked_within ps s c ls h.4) (is_link s c l) refl e
  where
    by_test : (is_linked ls s c ≡ true → (s < length ps) × (c < length ps)) → (b : Bool) → is_link s c l ≡ b → (b || is_linked ls s c) ≡ true → (s < length ps) × (c < length ps)
    by_test rest true is e = let ends = link_ends s c l is in (subst (λ x. x < length ps) ends.0 h.0, subst (λ x. x < length ps) ends.1 h.1)
    by_test rest false is e = rest e

module _ (s c : ℕ) (to : Bool) where
  -- the links, with that state of the one between these two
  abbrev pub changed : Link → Link
  changed = with_state s c to

  unchanged : (l : Link) → is_link s c l ≡ false → changed l ≡ l
  unchanged l e = ap (λ b. cond b (record l { active = to }) l) e

  -- if there is no such link, nothing changes
  pub none_changed : (ls : List Link) → is_linked ls s c ≡ false → map changed ls ≡ ls
  none_changed [] e = refl
  none_changed (l ∷ ls) e = by_test (none_changed ls) (is_link s c l) refl e
    where
      by_test : (is_linked ls s c ≡ false → map changed ls ≡ ls) → (b : Bool) → is_link s c l ≡ b → (b || is_linked ls s c) ≡ false → changed l ∷ map changed ls ≡ l ∷ ls
      by_test rest true is e = absurd (true≢false e)
      by_test rest false is e = ap₂ (λ x xs. x ∷ xs) (unchanged l is) (rest e)

  pub map_reverse : (ls : List Link) → map changed (reverse ls) ≡ reverse (map changed ls)
  map_reverse [] = refl
  map_reverse (l ∷ ls) = ap (map changed) (newest_after l ls) ∙ (map-append changed (reverse ls) (l ∷ []) ∙ (ap (λ xs. xs ++ changed l ∷ []) (map_reverse ls) ∙ sym (newest_after (changed l) (map changed ls))))

  -- the last of some, or one before
  last_or_before : (k n : ℕ) → k < suc n → (k < n) ⊎ (k ≡ n)
  last_or_before zero zero l = inr refl
  last_or_before zero (suc n) l = inl (omega arith)
  last_or_before (suc k) zero l = absurd (omega arith)
  last_or_before (suc k) (suc n) l = step (last_or_before k n (omega arith))
    where
      step : (k < n) ⊎ (k ≡ n) → (suc k < suc n) ⊎ (suc k ≡ suc n)
      step (inl h) = inl (omega arith)
      step (inr h) = inr (ap suc h)

  -- if there is such a link, only it changes, since no other is between the same two
  one_of : (ps : List (Option ℕ)) (ls : List Link) → AreLinks ps ls → (k : ℕ) → k < length (reverse ls) → is_link s c (get_or (reverse ls) k no_link) ≡ true → map changed (reverse ls) ≡ set (reverse ls) k (changed (get_or (reverse ls) k no_link))
  one_of ps [] h k l e = absurd (omega arith)
  one_of ps (x ∷ xs) h k l e =
      subst (λ (ks : List Link). is_link s c (get_or ks k no_link) ≡ true → map changed ks ≡ set ks k (changed (get_or ks k no_link))) (sym (newest_after x xs))
      (by_place (one_of ps xs h.4 k) (last_or_before k (length R) (let n = length-reverse xs in let m = length-reverse (x ∷ xs) in omega (arith, n, m)))) e
    where
      R : List Link
      R = reverse xs

      by_place : (k < length R → is_link s c (get_or R k no_link) ≡ true → map changed R ≡ set R k (changed (get_or R k no_link))) → (k < length R) ⊎ (k ≡ length R)
          → is_link s c (get_or (R ++ x ∷ []) k no_link) ≡ true → map changed (R ++ x ∷ []) ≡ set (R ++ x ∷ []) k (changed (get_or (R ++ x ∷ []) k no_link))
      by_place rest (inl m) is =
          let here = get_or_append_left R (x ∷ []) no_link k m in
          let found = sym (ap (is_link s c) here) ∙ is in
          let is_among_links : is_linked xs s c ≡ true = ap (λ ls. is_linked ls s c) (sym (reverse-reverse xs)) ∙ linked_at R k no_link s c m found in
          map-append changed R (x ∷ [])
          ∙ (ap₂ (λ ls y. ls ++ y ∷ []) (rest m found) (unchanged x (other is_among_links (is_link s c x) refl))
          ∙ (sym (set-append_left R (x ∷ []) k (changed (get_or R k no_link)) m)
          ∙ ap (λ y. set (R ++ x ∷ []) k (changed y)) (sym here)))
        where
          other : is_linked xs s c ≡ true → (b : Bool) → is_link s c x ≡ b → is_link s c x ≡ false
          other is_among_links false g = g
          other is_among_links true g = let ends = link_ends s c x g in absurd (true≢false (sym is_among_links ∙ (ap₂ (is_linked xs) (sym ends.0) (sym ends.1) ∙ h.2)))
      by_place rest (inr m) is =
          let here : get_or (R ++ x ∷ []) k no_link ≡ x = ap (λ j. get_or (R ++ x ∷ []) j no_link) m ∙ get_or-append_seam R x [] no_link in
          let ends = link_ends s c x (sym (ap (is_link s c) here) ∙ is) in
          let none : is_linked xs s c ≡ false = ap₂ (is_linked xs) (sym ends.0) (sym ends.1) ∙ h.2 in
          map-append changed R (x ∷ [])
          ∙ (ap (λ ls. ls ++ changed x ∷ []) (map_reverse xs ∙ ap reverse (none_changed xs none))
          ∙ (sym (set-append_seam R x [] (changed x))
          ∙ ap₂ (λ j y. set (R ++ x ∷ []) j (changed y)) (sym m) (sym here)))

  pub one_changed : (ps : List (Option ℕ)) (links : List Link) → AreLinks ps (reverse links) → (k : ℕ) → k < length links → is_link s c (get_or links k no_link) ≡ true → map changed links ≡ set links k (changed (get_or links k no_link))
  one_changed ps links h k l e =
      subst (λ (ks : List Link). k < length ks → is_link s c (get_or ks k no_link) ≡ true → map changed ks ≡ set ks k (changed (get_or ks k no_link))) (reverse-reverse links)
      (one_of ps (reverse links) h k) l e

  -- what it is set to
  pub set_to : (l : Link) → is_link s c l ≡ true → changed l ≡ record { supplier = s; consumer = c; active = to }
  set_to l e =
      let ends = link_ends s c l e in
      ap (λ b. cond b (record l { active = to }) l) e ∙ ap₂ (λ x y. record { supplier = x; consumer = y; active = to }) ends.0 ends.1

  -- a state that is set anew
  pub set_anew : (l : Link) → l.active ≡ to → changed l ≡ l
  set_anew l e = by_test (is_link s c l)
    where
      by_test : (b : Bool) → cond b (record l { active = to }) l ≡ l
      by_test true = ap (λ a. record l { active = a }) (sym e)
      by_test false = refl

module _ (s c : ℕ) (to : Bool) (ps : List (Option ℕ)) (links : List Link) (linked : AreLinks ps (reverse links)) (k : ℕ) (at : StandsAt s c links k) where
  -- the state that it has is set anew
  pub same_state : (x : Link) → x ≡ get_or links k x → beq x.active to ≡ true → map (with_state s c to) (reverse links) ≡ reverse links
  same_state x here e =
      let is : x ≡ get_or links k no_link = here ∙ get_or_default links k x no_link at.within in
      let same = set_anew s c to (get_or links k no_link) (ap (λ l. l.active) (sym is) ∙ beq_is x.active to e) in
      map_reverse s c to links
      ∙ ap reverse (one_changed s c to ps links linked k at.within at.is ∙ (ap (set links k) same ∙ set-get_or links k no_link))
    where
      beq_is : (a b : Bool) → beq a b ≡ true → a ≡ b
      beq_is true true e = refl
      beq_is false false e = refl
      beq_is true false e = absurd (true≢false (sym e))
      beq_is false true e = absurd (true≢false (sym e))

  -- another is set
  pub new_state : reverse (set links k (record { supplier = s; consumer = c; active = to })) ≡ map (with_state s c to) (reverse links)
  new_state = ap reverse (ap (set links k) (sym (set_to s c to (get_or links k no_link) at.is)) ∙ sym (one_changed s c to ps links linked k at.within at.is)) ∙ sym (map_reverse s c to links)

  pub stands_there : is_linked (reverse links) s c ≡ true
  stands_there = linked_at links k no_link s c at.within at.is

-- ---- the active ones of a device

-- a link of another device is passed over
pub consumers_past : (d : ℕ) (b : Bool) (l : Link) (ls : List Link) → (l.supplier == d) ≡ false → consumers_of d (cond b (l ∷ ls) ls) ≡ consumers_of d ls
consumers_past d true l ls e = ap (λ t. consumers_of d ls ++ cond t (l.consumer ∷ []) []) e ∙ append-nil (consumers_of d ls)
consumers_past d false l ls e = refl

pub suppliers_past : (d : ℕ) (b : Bool) (l : Link) (ls : List Link) → (l.consumer == d) ≡ false → suppliers_of d (cond b (l ∷ ls) ls) ≡ suppliers_of d ls
suppliers_past d true l ls e = ap (λ t. suppliers_of d ls ++ cond t (l.supplier ∷ []) []) e ∙ append-nil (suppliers_of d ls)
suppliers_past d false l ls e = refl

-- the next of the links that a device supplies or consumes
pub consumers_next : (d : ℕ) (l : Link) (ls : List Link) → (l.supplier == d) ≡ true → consumers_of d (active_of (l ∷ ls)) ≡ consumers_of d (active_of ls) ++ cond l.active (l.consumer ∷ []) []
consumers_next d l ls e = by_state l.active
  where
    by_state : (a : Bool) → consumers_of d (cond a (l ∷ active_of ls) (active_of ls)) ≡ consumers_of d (active_of ls) ++ cond a (l.consumer ∷ []) []
    by_state true = ap (λ t. consumers_of d (active_of ls) ++ cond t (l.consumer ∷ []) []) e
    by_state false = sym (append-nil (consumers_of d (active_of ls)))

pub suppliers_next : (d : ℕ) (l : Link) (ls : List Link) → (l.consumer == d) ≡ true → suppliers_of d (active_of (l ∷ ls)) ≡ suppliers_of d (active_of ls) ++ cond l.active (l.supplier ∷ []) []
suppliers_next d l ls e = by_state l.active
  where
    by_state : (a : Bool) → suppliers_of d (cond a (l ∷ active_of ls) (active_of ls)) ≡ suppliers_of d (active_of ls) ++ cond a (l.supplier ∷ []) []
    by_state true = ap (λ t. suppliers_of d (active_of ls) ++ cond t (l.supplier ∷ []) []) e
    by_state false = sym (append-nil (suppliers_of d (active_of ls)))

module _ (f : Link → Link) (s : (l : Link) → (f l).supplier ≡ l.supplier) (c : (l : Link) → (f l).consumer ≡ l.consumer) (d : ℕ) where
  -- the links that a device supplies name all its consumers, and those that it consumes all its suppliers
  pub consumers_here : (ls : List Link) → consumers_of d (active_of (map f (filter (λ l. l.supplier == d) ls))) ≡ consumers_of d (active_of (map f ls))
  consumers_here [] = refl
  consumers_here (l ∷ ls) = by_test (consumers_here ls) (l.supplier == d) refl
    where
      rest_of : List Link
      rest_of = filter (λ x. x.supplier == d) ls

      by_test : consumers_of d (active_of (map f rest_of)) ≡ consumers_of d (active_of (map f ls)) → (b : Bool) → (l.supplier == d) ≡ b → consumers_of d (active_of (map f (cond b (l ∷ rest_of) rest_of))) ≡ consumers_of d (active_of (f l ∷ map f ls))
      by_test rest true e = let same = ap (λ x. x == d) (s l) ∙ e in consumers_next d (f l) (map f rest_of) same ∙ (ap (λ xs. xs ++ cond (f l).active ((f l).consumer ∷ []) []) rest ∙ sym (consumers_next d (f l) (map f ls) same))
      by_test rest false e = rest ∙ sym (consumers_past d (f l).active (f l) (active_of (map f ls)) (ap (λ x. x == d) (s l) ∙ e))

  pub suppliers_here : (ls : List Link) → suppliers_of d (active_of (map f (filter (λ l. l.consumer == d) ls))) ≡ suppliers_of d (active_of (map f ls))
  suppliers_here [] = refl
  suppliers_here (l ∷ ls) = by_test (suppliers_here ls) (l.consumer == d) refl
    where
      rest_of : List Link
      rest_of = filter (λ x. x.consumer == d) ls

      by_test : suppliers_of d (active_of (map f rest_of)) ≡ suppliers_of d (active_of (map f ls)) → (b : Bool) → (l.consumer == d) ≡ b → suppliers_of d (active_of (map f (cond b (l ∷ rest_of) rest_of))) ≡ suppliers_of d (active_of (f l ∷ map f ls))
      by_test rest true e = let same = ap (λ x. x == d) (c l) ∙ e in suppliers_next d (f l) (map f rest_of) same ∙ (ap (λ xs. xs ++ cond (f l).active ((f l).supplier ∷ []) []) rest ∙ sym (suppliers_next d (f l) (map f ls) same))
      by_test rest false e = rest ∙ sym (suppliers_past d (f l).active (f l) (active_of (map f ls)) (ap (λ x. x == d) (c l) ∙ e))

-- the rows that a link's state leaves
module _ (l : Link) (links : List Link) (places : List ℕ) (i : ℕ) (row : List ℕ) where
  abbrev pub f : Link → Link
  f = with_state l.supplier l.consumer l.active

  abbrev pub s : ℕ
  s = l.supplier

  abbrev pub c : ℕ
  c = l.consumer

  abbrev pub x : Link
  x = get_or links (get_or places i 0) no_link

  abbrev pub supplied : List Link
  supplied = filter (λ y. y.supplier == l.supplier) links

  abbrev pub consumed : List Link
  consumed = filter (λ y. y.consumer == l.consumer) links

  pub consumers_more : places ≡ places_of (λ y. y.supplier == l.supplier) (reverse links) → i < length places → (row ++ consumers_of s (active_of (map f (reverse (take i supplied))))) ++ cond (f x).active ((f x).consumer ∷ []) [] ≡ row ++ consumers_of s (active_of (map f (reverse (take (i + 1) supplied))))
  consumers_more e within =
      append_assoc row (consumers_of s (active_of (map f (reverse (take i supplied))))) (cond (f x).active ((f x).consumer ∷ []) [])
      ∙ ap (λ xs. row ++ xs) (sym (ap (λ ks. consumers_of s (active_of (map f ks))) (taken_more (λ y. y.supplier == l.supplier) links places e i within)
      ∙ consumers_next s (f x) (map f (reverse (take i supplied))) (ap (λ y. y == s) (same_supplier s c l.active x) ∙ taken_is (λ y. y.supplier == l.supplier) links places e i within)))

  pub consumers_all : places ≡ places_of (λ y. y.supplier == l.supplier) (reverse links) → length places ≤ i → row ++ consumers_of s (active_of (map f (reverse (take i supplied)))) ≡ row ++ consumers_of s (active_of (map f (reverse links)))
  consumers_all e past =
      ap (λ xs. row ++ xs) (ap (λ ks. consumers_of s (active_of (map f ks))) (taken_all (λ y. y.supplier == l.supplier) links places e i past)
      ∙ consumers_here f (same_supplier s c l.active) (same_consumer s c l.active) s (reverse links))

  pub suppliers_more : places ≡ places_of (λ y. y.consumer == l.consumer) (reverse links) → i < length places → (row ++ suppliers_of c (active_of (map f (reverse (take i consumed))))) ++ cond (f x).active ((f x).supplier ∷ []) [] ≡ row ++ suppliers_of c (active_of (map f (reverse (take (i + 1) consumed))))
  suppliers_more e within =
      append_assoc row (suppliers_of c (active_of (map f (reverse (take i consumed))))) (cond (f x).active ((f x).supplier ∷ []) [])
      ∙ ap (λ xs. row ++ xs) (sym (ap (λ ks. suppliers_of c (active_of (map f ks))) (taken_more (λ y. y.consumer == l.consumer) links places e i within)
      ∙ suppliers_next c (f x) (map f (reverse (take i consumed))) (ap (λ y. y == c) (same_consumer s c l.active x) ∙ taken_is (λ y. y.consumer == l.consumer) links places e i within)))

  pub suppliers_all : places ≡ places_of (λ y. y.consumer == l.consumer) (reverse links) → length places ≤ i → row ++ suppliers_of c (active_of (map f (reverse (take i consumed)))) ≡ row ++ suppliers_of c (active_of (map f (reverse links)))
  suppliers_all e past =
      ap (λ xs. row ++ xs) (ap (λ ks. suppliers_of c (active_of (map f ks))) (taken_all (λ y. y.consumer == l.consumer) links places e i past)
      ∙ suppliers_here f (same_supplier s c l.active) (same_consumer s c l.active) c (reverse links))

-- the rows of other devices stay
module _ (s c : ℕ) (to : Bool) (d : ℕ) where
  pub consumers_stay : (s == d) ≡ false → (ls : List Link) → consumers_of d (active_of (map (with_state s c to) ls)) ≡ consumers_of d (active_of ls)
  consumers_stay e [] = refl
  consumers_stay e (l ∷ ls) = by_test (consumers_stay e ls) (is_link s c l) refl
    where
      now : Bool → Link
      now b = cond b (record l { active = to }) l

      same : (b : Bool) → (now b).supplier ≡ l.supplier
      same true = refl
      same false = refl

      by_test : consumers_of d (active_of (map (with_state s c to) ls)) ≡ consumers_of d (active_of ls) → (b : Bool) → is_link s c l ≡ b → consumers_of d (active_of (now b ∷ map (with_state s c to) ls)) ≡ consumers_of d (active_of (l ∷ ls))
      by_test rest true is =
          let other = ap (λ x. x == d) (link_ends s c l is).0 ∙ e in
          consumers_past d to (now true) (active_of (map (with_state s c to) ls)) other ∙ (rest ∙ sym (consumers_past d l.active l (active_of ls) other))
      by_test rest false is = by_state rest l.active
        where
          by_state : consumers_of d (active_of (map (with_state s c to) ls)) ≡ consumers_of d (active_of ls) → (a : Bool) → consumers_of d (cond a (l ∷ active_of (map (with_state s c to) ls)) (active_of (map (with_state s c to) ls))) ≡ consumers_of d (cond a (l ∷ active_of ls) (active_of ls))
          by_state rest true = ap (λ xs. xs ++ cond (l.supplier == d) (l.consumer ∷ []) []) rest
          by_state rest false = rest

  pub suppliers_stay : (c == d) ≡ false → (ls : List Link) → suppliers_of d (active_of (map (with_state s c to) ls)) ≡ suppliers_of d (active_of ls)
  suppliers_stay e [] = refl
  suppliers_stay e (l ∷ ls) = by_test (suppliers_stay e ls) (is_link s c l) refl
    where
      now : Bool → Link
      now b = cond b (record l { active = to }) l

      by_test : suppliers_of d (active_of (map (with_state s c to) ls)) ≡ suppliers_of d (active_of ls) → (b : Bool) → is_link s c l ≡ b → suppliers_of d (active_of (now b ∷ map (with_state s c to) ls)) ≡ suppliers_of d (active_of (l ∷ ls))
      by_test rest true is =
          let other = ap (λ x. x == d) (link_ends s c l is).1 ∙ e in
          suppliers_past d to (now true) (active_of (map (with_state s c to) ls)) other ∙ (rest ∙ sym (suppliers_past d l.active l (active_of ls) other))
      by_test rest false is = by_state rest l.active
        where
          by_state : suppliers_of d (active_of (map (with_state s c to) ls)) ≡ suppliers_of d (active_of ls) → (a : Bool) → suppliers_of d (cond a (l ∷ active_of (map (with_state s c to) ls)) (active_of (map (with_state s c to) ls))) ≡ suppliers_of d (cond a (l ∷ active_of ls) (active_of ls))
          by_state rest true = ap (λ xs. xs ++ cond (l.consumer == d) (l.supplier ∷ []) []) rest
          by_state rest false = rest
