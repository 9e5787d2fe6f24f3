-- The numbers of links, and the links that have them.
use Rattle.std.proofs.Common.{◌≡◌, ◌<◌, ◌≤◌, ◌+◌, ◌∙◌, ℕ, zero, suc, Bool, true, false, ◌==◌, ◌&&◌, List, [], ◌∷◌, ◌++◌, length, map, filter, take, reverse, get_or, set, slice_get, replicate, Option, Some, refl, sym, ap, ap₂, subst, cond, arith, length-append}
use Rattle.std.proofs.lemmas.Bool.{or_parts, or_from}
use Rattle.std.proofs.lemmas.List.{append-nil, get_or_append_left, length-map, length-replicate, length-reverse, length-set, length-take-le, map-append, reverse-append, reverse-reverse, set-append_left, take_more}
use Rattle.std.proofs.Math.Seq.{get_or-append_seam, set-append_seam}
use Rattle.sleep_model.specs.declared.machine.Link.{Link}
use Rattle.sleep_model.specs.Links.{is_linked, first_occurrences}
use Rattle.sleep_model.specs.Order.{is_link, with_state, active_of, children_from, consumers_of, suppliers_of, parent_of, dependents, superiors}
use Rattle.device_rows.specs.Table.{with_number}
use Rattle.link_rows.specs.Rows.{IsTableOf}
use Rattle.device_links.specs.Invariant.{AreNumbered, numbers_of, active_below, active_above}
use Rattle.device_links.specs.Passes.{AreApart}
use Rattle.link_rows.proofs.RowsMade.{table_push, table_same, empty_rows}
use Rattle.device_links.proofs.Tabulating.{no_link, newest, supplier_at, consumer_at}

-- ---- the tables

pub numbered_none : (n : ℕ) (a b : List (List ℕ)) → a ≡ replicate n [] → b ≡ replicate n [] → AreNumbered n [] a b
numbered_none n a b e f = record {
  by_supplier = none a e;
  by_consumer = none b f;
}
  where
    none : (rows : List (List ℕ)) → rows ≡ replicate n [] → IsTableOf n (λ d. []) rows
    none rows is = record {
      count = ap length is ∙ length-replicate n [];
      each = λ d. ap (λ r. get_or r d []) is ∙ empty_rows n d;
    }

same : (k : ℕ) → (k == k) ≡ true
same k = grind (arith)

-- one more link
pub numbered_more : (n : ℕ) (l : Link) (ls : List Link) (k : ℕ) (a b : List (List ℕ)) → AreNumbered n ls a b → l.supplier < n → l.consumer < n → k ≡ length ls → AreNumbered n (l ∷ ls) (with_number a (Some l.supplier) k) (with_number b (Some l.consumer) k)
numbered_more n l ls k a b h s c e = record {
  by_supplier =
      table_push n (λ d. numbers_of (λ x. x.supplier == d) ls) (λ d. numbers_of (λ x. x.supplier == d) (l ∷ ls)) a h.by_supplier l.supplier k s
      (here (numbers_of (λ x. x.supplier == l.supplier) ls) (l.supplier == l.supplier) (same l.supplier))
      (λ d f. there (numbers_of (λ x. x.supplier == d) ls) (l.supplier == d) f);
  by_consumer =
      table_push n (λ d. numbers_of (λ x. x.consumer == d) ls) (λ d. numbers_of (λ x. x.consumer == d) (l ∷ ls)) b h.by_consumer l.consumer k c
      (here (numbers_of (λ x. x.consumer == l.consumer) ls) (l.consumer == l.consumer) (same l.consumer))
      (λ d f. there (numbers_of (λ x. x.consumer == d) ls) (l.consumer == d) f);
}
  where
    here : (xs : List ℕ) (t : Bool) → t ≡ true → xs ++ cond t (length ls ∷ []) [] ≡ xs ++ k ∷ []
    here xs t f = ap (λ b. xs ++ cond b (length ls ∷ []) []) f ∙ ap (λ j. xs ++ j ∷ []) (sym e)

    there : (xs : List ℕ) (t : Bool) → t ≡ false → xs ++ cond t (length ls ∷ []) [] ≡ xs
    there xs t f = ap (λ b. xs ++ cond b (length ls ∷ []) []) f ∙ append-nil xs

-- the next of these links
pub numbered_next : (ps : List (Option ℕ)) (links : List Link) (i : ℕ) (l : Link) → i < length links → l ≡ get_or links i l → AreApart ps (reverse links) → (a b a' b' : List (List ℕ)) → AreNumbered (length ps) (reverse (take i links)) a b
    → a' ≡ with_number a (Some l.supplier) i → b' ≡ with_number b (Some l.consumer) i → AreNumbered (length ps) (reverse (take (i + 1) links)) a' b'
numbered_next ps links i l within at apart a b a' b' h e f =
    subst (λ (ls : List Link). AreNumbered (length ps) ls a' b') (sym (newest links i l within at))
    (subst (λ (r : List (List ℕ)). AreNumbered (length ps) (l ∷ reverse (take i links)) r b') (sym e)
    (subst (λ (r : List (List ℕ)). AreNumbered (length ps) (l ∷ reverse (take i links)) (with_number a (Some l.supplier) i) r) (sym f)
    (numbered_more (length ps) l (reverse (take i links)) i a b h (supplier_at ps links i l within at apart) (consumer_at ps links i l within at apart) count)))
  where
    count : i ≡ length (reverse (take i links))
    count = let m = length-reverse (take i links) in let n = length-take-le i links (omega arith) in omega (arith, m, n)

-- links whose ends stay
module _ (f : Link → Link) (s : (l : Link) → (f l).supplier ≡ l.supplier) (c : (l : Link) → (f l).consumer ≡ l.consumer) where
  numbers_preserved : (test : Link → Bool) → ((l : Link) → test (f l) ≡ test l) → (ls : List Link) → numbers_of test (map f ls) ≡ numbers_of test ls
  numbers_preserved test t [] = refl
  numbers_preserved test t (l ∷ ls) =
      ap (λ xs. xs ++ cond (test (f l)) (length (map f ls) ∷ []) []) (numbers_preserved test t ls)
      ∙ ap₂ (λ b k. numbers_of test ls ++ cond b (k ∷ []) []) (t l) (length-map ls f)

  pub supplied_preserved : (d : ℕ) (ls : List Link) → numbers_of (λ l. l.supplier == d) (map f ls) ≡ numbers_of (λ l. l.supplier == d) ls
  supplied_preserved d ls = numbers_preserved (λ l. l.supplier == d) (λ l. ap (λ x. x == d) (s l)) ls

  pub consumed_preserved : (d : ℕ) (ls : List Link) → numbers_of (λ l. l.consumer == d) (map f ls) ≡ numbers_of (λ l. l.consumer == d) ls
  consumed_preserved d ls = numbers_preserved (λ l. l.consumer == d) (λ l. ap (λ x. x == d) (c l)) ls

  pub numbered_preserved : (n : ℕ) (ls : List Link) (a b : List (List ℕ)) → AreNumbered n ls a b → AreNumbered n (map f ls) a b
  numbered_preserved n ls a b h = record {
    by_supplier = table_same n (λ d. numbers_of (λ l. l.supplier == d) ls) (λ d. numbers_of (λ l. l.supplier == d) (map f ls)) a h.by_supplier (λ d. supplied_preserved d ls);
    by_consumer = table_same n (λ d. numbers_of (λ l. l.consumer == d) ls) (λ d. numbers_of (λ l. l.consumer == d) (map f ls)) b h.by_consumer (λ d. consumed_preserved d ls);
  }

-- a device supplies as many links as it has consumers
pub supplied_count : (d : ℕ) (ls : List Link) → length (numbers_of (λ l. l.supplier == d) ls) ≡ length (consumers_of d ls)
supplied_count d [] = refl
supplied_count d (l ∷ ls) =
    length-append (numbers_of (λ x. x.supplier == d) ls) (cond (l.supplier == d) (length ls ∷ []) [])
    ∙ (ap₂ ◌+◌ (supplied_count d ls) (one (l.supplier == d))
    ∙ sym (length-append (consumers_of d ls) (cond (l.supplier == d) (l.consumer ∷ []) [])))
  where
    one : (b : Bool) → length (cond b (length ls ∷ []) []) ≡ length (cond b (l.consumer ∷ []) [])
    one true = refl
    one false = refl

-- ---- the links with these numbers

-- each of the numbers is below that
abbrev pub AreBelow : ℕ → List ℕ → Type 0
AreBelow n [] = Unit {0}
AreBelow n (x ∷ xs) = (x < n) × AreBelow n xs

below_at : (n : ℕ) (xs : List ℕ) (j d : ℕ) → AreBelow n xs → j < length xs → get_or xs j d < n
below_at n [] j d h l = absurd (omega arith)
below_at n (x ∷ xs) zero d h l = h.0
below_at n (x ∷ xs) (suc j) d h l = below_at n xs j d h.1 (omega arith)

below_more : (n m : ℕ) (xs : List ℕ) → n ≤ m → AreBelow n xs → AreBelow m xs
below_more n m [] l h = tt
below_more n m (x ∷ xs) l h = (omega (arith, h.0), below_more n m xs l h.1)

below_append : (n : ℕ) (xs ys : List ℕ) → AreBelow n xs → AreBelow n ys → AreBelow n (xs ++ ys)
below_append n [] ys h i = i
below_append n (x ∷ xs) ys h i = (h.0, below_append n xs ys h.1 i)

pub numbers_below : (test : Link → Bool) (ls : List Link) → AreBelow (length ls) (numbers_of test ls)
numbers_below test [] = tt
numbers_below test (l ∷ ls) =
    below_append (length (l ∷ ls)) (numbers_of test ls) (cond (test l) (length ls ∷ []) [])
    (below_more (length ls) (length (l ∷ ls)) (numbers_of test ls) (omega arith) (numbers_below test ls)) (one (test l))
  where
    one : (b : Bool) → AreBelow (length (l ∷ ls)) (cond b (length ls ∷ []) [])
    one true = (omega arith, tt)
    one false = tt

-- each number is one of a link
pub number_within : (test : Link → Bool) (links : List Link) (numbers : List ℕ) → numbers ≡ numbers_of test (reverse links) → (j d : ℕ) → j < length numbers → get_or numbers j d < length links
number_within test links numbers e j d l =
    let below = subst (AreBelow (length (reverse links))) (sym e) (numbers_below test (reverse links)) in
    let n = length-reverse links in
    let i = below_at (length (reverse links)) numbers j d below l in
    omega (arith, n, i)

-- the links with these numbers, in this order
abbrev pub picked : List Link → List ℕ → List Link
picked links numbers = map (λ i. get_or links i no_link) numbers

picked_append : (links : List Link) (xs ys : List ℕ) → picked links (xs ++ ys) ≡ picked links xs ++ picked links ys
picked_append links [] ys = refl
picked_append links (x ∷ xs) ys = ap (λ ls. get_or links x no_link ∷ ls) (picked_append links xs ys)

-- more links after them change nothing
picked_longer : (links more : List Link) (xs : List ℕ) → AreBelow (length links) xs → picked (links ++ more) xs ≡ picked links xs
picked_longer links more [] h = refl
picked_longer links more (x ∷ xs) h = ap₂ (λ l ls. l ∷ ls) (get_or_append_left links more no_link x h.0) (picked_longer links more xs h.1)

newest_after : (l : Link) (ls : List Link) → reverse (l ∷ ls) ≡ reverse ls ++ l ∷ []
newest_after l ls = reverse-append (l ∷ []) ls

-- the numbers of links are below the count of these, also the other way round
below_reversed : (test : Link → Bool) (ls : List Link) → AreBelow (length (reverse ls)) (numbers_of test ls)
below_reversed test ls = subst (λ k. AreBelow k (numbers_of test ls)) (sym (length-reverse ls)) (numbers_below test ls)

last_link : (ls : List Link) (l : Link) → get_or (reverse ls ++ l ∷ []) (length ls) no_link ≡ l
last_link ls l = ap (λ k. get_or (reverse ls ++ l ∷ []) k no_link) (sym (length-reverse ls)) ∙ get_or-append_seam (reverse ls) l [] no_link

-- they are the links that the test takes
picked_as : (test : Link → Bool) (ls : List Link) → picked (reverse ls) (numbers_of test ls) ≡ reverse (filter test ls)
picked_as test [] = refl
picked_as test (l ∷ ls) =
    ap (λ ks. picked ks (numbers_of test (l ∷ ls))) (newest_after l ls)
    ∙ (picked_append (reverse ls ++ l ∷ []) (numbers_of test ls) (cond (test l) (length ls ∷ []) [])
    ∙ (ap (λ ks. ks ++ picked (reverse ls ++ l ∷ []) (cond (test l) (length ls ∷ []) [])) (picked_longer (reverse ls) (l ∷ []) (numbers_of test ls) (below_reversed test ls) ∙ picked_as test ls)
    ∙ by_test (test l)))
  where
    by_test : (b : Bool) → reverse (filter test ls) ++ picked (reverse ls ++ l ∷ []) (cond b (length ls ∷ []) []) ≡ reverse (cond b (l ∷ filter test ls) (filter test ls))
    by_test true = ap (λ k. reverse (filter test ls) ++ k ∷ []) (last_link ls l) ∙ sym (newest_after l (filter test ls))
    by_test false = append-nil (reverse (filter test ls))

-- what has each number
pub picked_links : (test : Link → Bool) (links : List Link) (numbers : List ℕ) → numbers ≡ numbers_of test (reverse links) → reverse (picked links numbers) ≡ filter test (reverse links)
picked_links test links numbers e =
    ap reverse (ap (picked links) e ∙ ap (λ ks. picked ks (numbers_of test (reverse links))) (sym (reverse-reverse links)) ∙ picked_as test (reverse links))
    ∙ reverse-reverse (filter test (reverse links))

-- ---- some of the links

linked_some : (test : Link → Bool) (ls : List Link) (s c : ℕ) → is_linked ls s c ≡ false → is_linked (filter test ls) s c ≡ false
linked_some test [] s c e = refl
linked_some test (l ∷ ls) s c e = by_test (test l) (or_parts (is_link s c l) (is_linked ls s c) e).0 (linked_some test ls s c (or_parts (is_link s c l) (is_linked ls s c) e).1)
  where
    by_test : (b : Bool) → is_link s c l ≡ false → is_linked (filter test ls) s c ≡ false → is_linked (cond b (l ∷ filter test ls) (filter test ls)) s c ≡ false
    by_test true here rest = or_from (is_link s c l) (is_linked (filter test ls) s c) here rest
    by_test false here rest = rest

pub apart_some : (ps : List (Option ℕ)) (test : Link → Bool) (ls : List Link) → AreApart ps ls → AreApart ps (filter test ls)
apart_some ps test [] h = tt
apart_some ps test (l ∷ ls) h = by_test (test l) (apart_some ps test ls h.3)
  where
    by_test : (b : Bool) → AreApart ps (filter test ls) → AreApart ps (cond b (l ∷ filter test ls) (filter test ls))
    by_test true rest = (h.0, h.1, linked_some test ls l.supplier l.consumer h.2, rest)
    by_test false rest = rest

-- a link of another device is passed over
pub consumers_past : (d : ℕ) (b : Bool) (l : Link) (ls : List Link) → (l.supplier == d) ≡ false → consumers_of d (cond b (l ∷ ls) ls) ≡ consumers_of d ls
consumers_past d true l ls e = ap (λ t. consumers_of d ls ++ cond t (l.consumer ∷ []) []) e ∙ append-nil (consumers_of d ls)
consumers_past d false l ls e = refl

pub suppliers_past : (d : ℕ) (b : Bool) (l : Link) (ls : List Link) → (l.consumer == d) ≡ false → suppliers_of d (cond b (l ∷ ls) ls) ≡ suppliers_of d ls
suppliers_past d true l ls e = ap (λ t. suppliers_of d ls ++ cond t (l.supplier ∷ []) []) e ∙ append-nil (suppliers_of d ls)
suppliers_past d false l ls e = refl

-- the links that a device supplies name all its consumers
module _ (d : ℕ) where
  abbrev pub supplied : List Link → List Link
  supplied ls = filter (λ l. l.supplier == d) ls

  abbrev pub consumed : List Link → List Link
  consumed ls = filter (λ l. l.consumer == d) ls

  consumers_here : (ls : List Link) → consumers_of d (supplied ls) ≡ consumers_of d ls
  consumers_here [] = refl
  consumers_here (l ∷ ls) = by_test (l.supplier == d) refl (consumers_here ls)
    where
      by_test : (b : Bool) → (l.supplier == d) ≡ b → consumers_of d (supplied ls) ≡ consumers_of d ls → consumers_of d (cond b (l ∷ supplied ls) (supplied ls)) ≡ consumers_of d (l ∷ ls)
      by_test true e rest = ap (λ xs. xs ++ cond (l.supplier == d) (l.consumer ∷ []) []) rest
      by_test false e rest = rest ∙ sym (consumers_past d true l ls e)

  active_consumers_here : (ls : List Link) → consumers_of d (active_of (supplied ls)) ≡ consumers_of d (active_of ls)
  active_consumers_here [] = refl
  active_consumers_here (l ∷ ls) = by_test (l.supplier == d) refl (active_consumers_here ls)
    where
      by_state : (a : Bool) → consumers_of d (active_of (supplied ls)) ≡ consumers_of d (active_of ls) → consumers_of d (cond a (l ∷ active_of (supplied ls)) (active_of (supplied ls))) ≡ consumers_of d (cond a (l ∷ active_of ls) (active_of ls))
      by_state true rest = ap (λ xs. xs ++ cond (l.supplier == d) (l.consumer ∷ []) []) rest
      by_state false rest = rest

      by_test : (b : Bool) → (l.supplier == d) ≡ b → consumers_of d (active_of (supplied ls)) ≡ consumers_of d (active_of ls) → consumers_of d (active_of (cond b (l ∷ supplied ls) (supplied ls))) ≡ consumers_of d (active_of (l ∷ ls))
      by_test true e rest = by_state l.active rest
      by_test false e rest = rest ∙ sym (consumers_past d l.active l (active_of ls) e)

  suppliers_here : (ls : List Link) → suppliers_of d (consumed ls) ≡ suppliers_of d ls
  suppliers_here [] = refl
  suppliers_here (l ∷ ls) = by_test (l.consumer == d) refl (suppliers_here ls)
    where
      by_test : (b : Bool) → (l.consumer == d) ≡ b → suppliers_of d (consumed ls) ≡ suppliers_of d ls → suppliers_of d (cond b (l ∷ consumed ls) (consumed ls)) ≡ suppliers_of d (l ∷ ls)
      by_test true e rest = ap (λ xs. xs ++ cond (l.consumer == d) (l.supplier ∷ []) []) rest
      by_test false e rest = rest ∙ sym (suppliers_past d true l ls e)

  active_suppliers_here : (ls : List Link) → suppliers_of d (active_of (consumed ls)) ≡ suppliers_of d (active_of ls)
  active_suppliers_here [] = refl
  active_suppliers_here (l ∷ ls) = by_test (l.consumer == d) refl (active_suppliers_here ls)
    where
      by_state : (a : Bool) → suppliers_of d (active_of (consumed ls)) ≡ suppliers_of d (active_of ls) → suppliers_of d (cond a (l ∷ active_of (consumed ls)) (active_of (consumed ls))) ≡ suppliers_of d (cond a (l ∷ active_of ls) (active_of ls))
      by_state true rest = ap (λ xs. xs ++ cond (l.consumer == d) (l.supplier ∷ []) []) rest
      by_state false rest = rest

      by_test : (b : Bool) → (l.consumer == d) ≡ b → suppliers_of d (active_of (consumed ls)) ≡ suppliers_of d (active_of ls) → suppliers_of d (active_of (cond b (l ∷ consumed ls) (consumed ls))) ≡ suppliers_of d (active_of (l ∷ ls))
      by_test true e rest = by_state l.active rest
      by_test false e rest = rest ∙ sym (suppliers_past d l.active l (active_of ls) e)

  module _ (ps : List (Option ℕ)) (ls : List Link) where
    pub below_here_as : active_below ps (supplied ls) d ≡ active_below ps ls d
    below_here_as = ap (λ xs. first_occurrences (children_from d 0 ps ++ xs)) (active_consumers_here ls)

    pub dependents_here : dependents ps (supplied ls) d ≡ dependents ps ls d
    dependents_here = ap (λ xs. children_from d 0 ps ++ xs) (consumers_here ls)

    pub above_here_as : active_above ps (consumed ls) d ≡ active_above ps ls d
    above_here_as = ap (λ xs. first_occurrences (parent_of (slice_get ps d) ++ xs)) (active_suppliers_here ls)

    pub superiors_here : superiors ps (consumed ls) d ≡ superiors ps ls d
    superiors_here = ap (λ xs. parent_of (slice_get ps d) ++ xs) (suppliers_here ls)

-- ---- a change of the links with these numbers

module _ (f : Link → Link) where
  -- the links, if those with these numbers are changed in turn
  abbrev pub changed : List ℕ → List Link → List Link
  changed [] ls = ls
  changed (i ∷ is) ls = changed is (set ls i (f (get_or ls i no_link)))

  changed_append : (is js : List ℕ) (ls : List Link) → changed (is ++ js) ls ≡ changed js (changed is ls)
  changed_append [] js ls = refl
  changed_append (i ∷ is) js ls = changed_append is js (set ls i (f (get_or ls i no_link)))

  pub changed_length : (is : List ℕ) (ls : List Link) → length (changed is ls) ≡ length ls
  changed_length [] ls = refl
  changed_length (i ∷ is) ls = changed_length is (set ls i (f (get_or ls i no_link))) ∙ length-set ls i (f (get_or ls i no_link))

  -- one more
  pub changed_more : (row : List ℕ) (j d : ℕ) (ls now : List Link) → j < length row → now ≡ changed (take j row) ls → set now (get_or row j d) (f (get_or now (get_or row j d) no_link)) ≡ changed (take (j + 1) row) ls
  changed_more row j d ls now l e =
      ap (λ ks. set ks (get_or row j d) (f (get_or ks (get_or row j d) no_link))) e
      ∙ (sym (changed_append (take j row) (get_or row j d ∷ []) ls)
      ∙ ap (λ is. changed is ls) (sym (take_more row j d l)))

  -- links after them stay
  changed_front : (is : List ℕ) (ls more : List Link) → AreBelow (length ls) is → changed is (ls ++ more) ≡ changed is ls ++ more
  changed_front [] ls more h = refl
  changed_front (i ∷ is) ls more h =
      ap (λ l. changed is (set (ls ++ more) i (f l))) (get_or_append_left ls more no_link i h.0)
      ∙ (ap (changed is) (set-append_left ls more i (f (get_or ls i no_link)) h.0)
      ∙ changed_front is (set ls i (f (get_or ls i no_link))) more (subst (λ k. AreBelow k is) (sym (length-set ls i (f (get_or ls i no_link)))) h.1))

  -- if the others stay as they are, all are changed
  module _ (test : Link → Bool) (stays : (l : Link) → test l ≡ false → f l ≡ l) where
    changed_reversed : (ls : List Link) → changed (numbers_of test ls) (reverse ls) ≡ map f (reverse ls)
    changed_reversed [] = refl
    changed_reversed (l ∷ ls) =
        ap (changed (numbers_of test (l ∷ ls))) (newest_after l ls)
        ∙ (changed_append (numbers_of test ls) (cond (test l) (length ls ∷ []) []) (reverse ls ++ l ∷ [])
        ∙ (ap (changed (cond (test l) (length ls ∷ []) [])) (changed_front (numbers_of test ls) (reverse ls) (l ∷ []) (below_reversed test ls) ∙ ap (λ ks. ks ++ l ∷ []) (changed_reversed ls))
        ∙ (by_test (test l) refl
        ∙ (sym (map-append f (reverse ls) (l ∷ [])) ∙ ap (map f) (sym (newest_after l ls))))))
      where
        count : length (map f (reverse ls)) ≡ length ls
        count = length-map (reverse ls) f ∙ length-reverse ls

        by_test : (b : Bool) → test l ≡ b → changed (cond b (length ls ∷ []) []) (map f (reverse ls) ++ l ∷ []) ≡ map f (reverse ls) ++ f l ∷ []
        by_test true e =
            ap (λ k. set (map f (reverse ls) ++ l ∷ []) k (f (get_or (map f (reverse ls) ++ l ∷ []) k no_link))) (sym count)
            ∙ (ap (λ x. set (map f (reverse ls) ++ l ∷ []) (length (map f (reverse ls))) (f x)) (get_or-append_seam (map f (reverse ls)) l [] no_link)
            ∙ set-append_seam (map f (reverse ls)) l [] (f l))
        by_test false e = ap (λ x. map f (reverse ls) ++ x ∷ []) (sym (stays l e))

    pub changed_all : (links : List Link) (numbers : List ℕ) → numbers ≡ numbers_of test (reverse links) → changed numbers links ≡ map f links
    changed_all links numbers e =
        ap (λ is. changed is links) e
        ∙ (ap (changed (numbers_of test (reverse links))) (sym (reverse-reverse links))
        ∙ (changed_reversed (reverse links) ∙ ap (map f) (reverse-reverse links)))

-- a link of another consumer keeps its state
pub state_past : (supplier consumer : ℕ) (to : Bool) (l : Link) → (l.consumer == consumer) ≡ false → with_state supplier consumer to l ≡ l
state_past supplier consumer to l e = by_test (l.supplier == supplier) (l.consumer == consumer) e
  where
    by_test : (b t : Bool) → t ≡ false → cond (b && t) (record l { active = to }) l ≡ l
    by_test true t f = ap (λ u. cond u (record l { active = to }) l) f
    by_test false t f = refl
