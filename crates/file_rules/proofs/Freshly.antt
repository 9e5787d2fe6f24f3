-- What devices and links that keep the rules on parents and ends are.
use Rattle.std.proofs.Common.{◌≡◌, ◌<◌, ◌≤◌, ◌∙◌, ◌&&◌, ◌||◌, ◌==◌, ◌++◌, ◌⊎◌, inl, inr, ℕ, zero, suc, Bool, true, false, not, cond, if◌then◌else◌, nat_lt, List, [], ◌∷◌, length, map, take, reverse, get_or, position, bytes_eq, codes, unwrap_or, is_some, option_and_then, IfSome, Option, Some, None, refl, sym, ap, subst, arith, append_assoc}
use Rattle.std.specs.List.{list_any, list_all}
use Rattle.std.specs.Option.{option_map}
use Rattle.std.specs.Cmp.Lexicographic.{bytes_decides}
use Rattle.std.proofs.lemmas.Bool.{true≢false, and_parts, ltb-true}
use Rattle.std.proofs.lemmas.Bool.Decides.{nat_tests}
use Rattle.std.proofs.lemmas.List.{reverse-append, length-map, length-reverse, map-append, get_or_default, get_or-map}
use Rattle.serde_json.specs.Data.{Data, null}
use Rattle.sleep_model.specs.declared.machine.Link.{Link}
use Rattle.sleep_model.specs.Order.{EachAfterParent, parents_of}
use Rattle.sleep_model.specs.Links.{is_linked}
use Rattle.borrowed_json.specs.Look.{is_none_or, is_some_and, text_at, word_at, list_in}
use Rattle.file_rules.specs.Joined.{AreJoined}
use Rattle.file_rules.specs.Places.{first_not, first_not_after, item_place}
use Rattle.file_rules.specs.Names.{is_among_names, devices_named}
use Rattle.file_rules.specs.Rules.{name_of}
use Rattle.file_rules.specs.Spelled.{parent_of, index_among, link_of}
use Rattle.file_rules.specs.Devices.{has_parent_before, has_ends, is_same_link, is_new_link, whole_device, whole_devices, whole_links, closes_no_cycle}
use Rattle.file_rules.specs.Fresh.{IsFresh, AreFresh, no_link, closes_nothing}
use Rattle.file_rules.proofs.Placing.{position_cons, any_before, any_reverse, any_along, any_map, some_position, later_from, one_later, later_map}

-- ---- parents

parent_case : (n : ℕ) (names : List (List ℕ)) (o : Option (List ℕ)) → is_none_or (λ p. list_any (bytes_eq p) (take n names)) o ≡ true →
    IfSome (option_and_then (λ s. position (bytes_eq s) names) o) (λ q. q < n)
parent_case n names None h = tt
parent_case n names (Some p) h = below (position (bytes_eq p) names) (sym (any_before (bytes_eq p) n names) ∙ h)
  where
    below : (o : Option ℕ) → is_some_and (λ j. nat_lt j n) o ≡ true → IfSome o (λ q. q < n)
    below None h = absurd (true≢false (sym h))
    below (Some j) h = ltb-true j n h

step_true : (b : Bool) (n : ℕ) (o : Option ℕ) → (if b then o else Some n) ≡ None → b ≡ true
step_true true n o h = refl
step_true false n o h = cc

step_rest : (b : Bool) (n : ℕ) (o : Option ℕ) → (if b then o else Some n) ≡ None → o ≡ None
step_rest true n o h = h
step_rest false n o h = cc

none_or_both : (f g : List ℕ → Bool) (o : Option (List ℕ)) → ((p : List ℕ) → f p ≡ g p) → is_none_or f o ≡ true → is_none_or g o ≡ true
none_or_both f g None h e = refl
none_or_both f g (Some p) h e = sym (h p) ∙ e

take_front : {X : Type 0} (xs ys : List X) → take (length xs) (xs ++ ys) ≡ xs
take_front [] ys = refl
take_front (x ∷ xs) ys = ap (λ zs. x ∷ zs) (take_front xs ys)

turned : (q : List ℕ → Bool) (before : List Data) → list_any q (map name_of before) ≡ list_any q (map name_of (reverse before))
turned q before = sym (any_map q name_of before) ∙ sym (any_reverse (λ d. q (name_of d)) before) ∙ any_map q name_of (reverse before)

one_more : (before ds : List Data) (d : Data) → map name_of (reverse before) ++ map name_of (d ∷ ds) ≡ map name_of (reverse (d ∷ before)) ++ map name_of ds
one_more before ds d =
    sym (ap (λ xs. map name_of xs ++ map name_of ds) (reverse-append (d ∷ []) before)
    ∙ ap (λ xs. xs ++ map name_of ds) (map-append name_of (reverse before) (d ∷ []))
    ∙ append_assoc (map name_of (reverse before)) (name_of d ∷ []) (map name_of ds))

-- each device's parent comes before it, if none is an orphan
after_from : (names : List (List ℕ)) (before ds : List Data) → names ≡ map name_of (reverse before) ++ map name_of ds →
    first_not_after has_parent_before before (length before) ds ≡ None → EachAfterParent (length before) (map (parent_of names) ds)
after_from names before [] e h = tt
after_from names before (d ∷ ds) e h =
    let passes = step_true (has_parent_before before d) (length before) (first_not_after has_parent_before (d ∷ before) (suc (length before)) ds) h in
    let rest = step_rest (has_parent_before before d) (length before) (first_not_after has_parent_before (d ∷ before) (suc (length before)) ds) h in
    let count : length (map name_of (reverse before)) ≡ length before = length-map (reverse before) name_of ∙ length-reverse before in
    let front : take (length before) names ≡ map name_of (reverse before) =
    ap (take (length before)) e ∙ ap (λ n. take n (map name_of (reverse before) ++ map name_of (d ∷ ds))) (sym count) ∙ take_front (map name_of (reverse before)) (map name_of (d ∷ ds)) in (
      parent_case (length before) names (word_at (codes "parent") d)
          (none_or_both (is_among_names (map name_of before)) (λ p. list_any (bytes_eq p) (take (length before) names)) (word_at (codes "parent") d)
          (λ p. turned (bytes_eq p) before ∙ ap (list_any (bytes_eq p)) (sym front)) passes),
      after_from names (d ∷ before) ds (e ∙ one_more before ds d) rest,
    )

-- so it is of a file's devices
pub each_after : (ds : List Data) → first_not_after has_parent_before [] 0 ds ≡ None → EachAfterParent 0 (map (parent_of (map name_of ds)) ds)
each_after ds h = after_from (map name_of ds) [] ds refl h

-- ---- links

-- each passes, if none is the first that does not
later_at : {X : Type 0} (test : List X → X → Bool) (xs : List X) (d : X) (i : ℕ) → i ≤ length xs → later_from test xs 0 ≡ None → later_from test xs i ≡ None
later_at test xs d zero h e = e
later_at test xs d (suc i) h e =
    let within : i < length xs = omega arith in
    let x = get_or xs i d in
    let at : x ≡ get_or xs i x = get_or_default xs i d x within in
    step_rest (test (reverse (take i xs)) x) i (later_from test xs (suc i)) (sym (one_later test xs i x within at) ∙ later_at test xs d i (omega arith) e)

pub later_each : {X : Type 0} (test : List X → X → Bool) (xs : List X) (d : X) (i : ℕ) → i < length xs → first_not_after test [] 0 xs ≡ None →
    test (reverse (take i xs)) (get_or xs i d) ≡ true
later_each test xs d i h e =
    let x = get_or xs i d in
    let at : x ≡ get_or xs i x = get_or_default xs i d x h in
    step_true (test (reverse (take i xs)) x) i (later_from test xs (suc i)) (sym (one_later test xs i x h at) ∙ later_at test xs d i (omega arith) e)

first_case : (b : Bool) (o : Option ℕ) → cond (not b) (Some 0) (option_map suc o) ≡ None → (b ≡ true) × (o ≡ None)
first_case true None e = (refl, refl)
first_case true (Some j) e = (refl, cc)
first_case false o e = cc

-- all pass, if none is the first that does not
pub all_pass : {X : Type 0} (test : X → Bool) (xs : List X) → first_not test xs ≡ None → list_all test xs ≡ true
all_pass test [] e = refl
all_pass test (x ∷ xs) e =
    let both = first_case (test x) (first_not test xs) (sym (position_cons (λ y. not (test y)) x xs) ∙ e) in
    ap (λ b. b && list_all test xs) both.0 ∙ all_pass test xs both.1

all_at : {X : Type 0} (test : X → Bool) (xs : List X) (d : X) (i : ℕ) → list_all test xs ≡ true → i < length xs → test (get_or xs i d) ≡ true
all_at test [] d i e h = absurd (omega arith)
all_at test (x ∷ xs) d zero e h = (and_parts (test x) (list_all test xs) e).0
all_at test (x ∷ xs) d (suc i) e h = all_at test xs d i (and_parts (test x) (list_all test xs) e).1 (omega arith)

some_within : (o : Option ℕ) (n : ℕ) → is_some o ≡ true → IfSome o (λ i. i < n) → unwrap_or o 0 < n
some_within None n e h = absurd (true≢false (sym e))
some_within (Some i) n e h = h

within_more : (b : Bool) (o : Option ℕ) (n : ℕ) → IfSome o (λ i. i < n) → IfSome (cond b (Some 0) (option_map suc o)) (λ i. i < suc n)
within_more true o n h = omega arith
within_more false None n h = tt
within_more false (Some i) n h = omega arith

pub position_within : (p : List ℕ → Bool) (names : List (List ℕ)) → IfSome (position p names) (λ i. i < length names)
position_within p [] = tt
position_within p (s ∷ names) = subst (λ o. IfSome o (λ i. i < suc (length names))) (sym (position_cons p s names)) (within_more (p s) (position p names) (length names) (position_within p names))

-- a name's place among them is within
pub place_within : (names : List (List ℕ)) (s : List ℕ) → is_among_names names s ≡ true → index_among names s < length names
place_within names s e = some_within (position (bytes_eq s) names) (length names) (some_position (bytes_eq s) names ∙ e) (position_within (bytes_eq s) names)

zero_suc : (k : ℕ) → 0 ≡ suc k → ⊥
zero_suc k e = omega arith

same_case : (b c : Bool) (o q : Option ℕ) (j : ℕ) → cond b (Some 0) (option_map suc o) ≡ Some j → cond c (Some 0) (option_map suc q) ≡ Some j →
    ((b ≡ true) × (c ≡ true)) ⊎ ((k : ℕ) × (o ≡ Some k) × (q ≡ Some k))
same_case true true o q j e f = inl (refl, refl)
same_case true false o None j e f = cc
same_case true false o (Some k) j e f = absurd (zero_suc k (cc))
same_case false true None q j e f = cc
same_case false true (Some k) q j e f = absurd (zero_suc k (cc))
same_case false false None q j e f = cc
same_case false false (Some k) None j e f = cc
same_case false false (Some k) (Some n) j e f = inr (k, refl, (let s : suc k ≡ suc n = cc in let t : n ≡ k = omega arith in ap Some t))

-- names with one place are one name
one_name : (a b : List ℕ) (names : List (List ℕ)) (j : ℕ) → position (bytes_eq a) names ≡ Some j → position (bytes_eq b) names ≡ Some j → a ≡ b
one_name a b [] j e f = cc
one_name a b (s ∷ names) j e f =
    by (λ k g h. one_name a b names k g h)
    (same_case (bytes_eq a s) (bytes_eq b s) (position (bytes_eq a) names) (position (bytes_eq b) names) j (sym (position_cons (bytes_eq a) s names) ∙ e) (sym (position_cons (bytes_eq b) s names) ∙ f))
  where
    by : ((k : ℕ) → position (bytes_eq a) names ≡ Some k → position (bytes_eq b) names ≡ Some k → a ≡ b) →
        ((bytes_eq a s ≡ true) × (bytes_eq b s ≡ true)) ⊎ ((k : ℕ) × (position (bytes_eq a) names ≡ Some k) × (position (bytes_eq b) names ≡ Some k)) → a ≡ b
    by rest (inl h) = (bytes_decides a s).0 h.0 ∙ sym ((bytes_decides b s).0 h.1)
    by rest (inr h) = rest h.0 h.1 h.2

found_at : (o : Option ℕ) → is_some o ≡ true → o ≡ Some (unwrap_or o 0)
found_at None e = cc
found_at (Some j) e = refl

same_place : (names : List (List ℕ)) (a b : List ℕ) → is_among_names names a ≡ true → is_among_names names b ≡ true → (index_among names a == index_among names b) ≡ true → bytes_eq a b ≡ true
same_place names a b h k e =
    let same : index_among names a ≡ index_among names b = grind (arith, nat_tests) in
    (bytes_decides a b).1 (one_name a b names (index_among names b)
    (found_at (position (bytes_eq a) names) (some_position (bytes_eq a) names ∙ h) ∙ ap Some same) (found_at (position (bytes_eq b) names) (some_position (bytes_eq b) names ∙ k)))

apart_case : (p q r s : Bool) → (p ≡ true → r ≡ true) → (q ≡ true → s ≡ true) → (r && s) ≡ false → (p && q) ≡ false
apart_case true true r s f g h = absurd (true≢false (sym (let a = f refl in let b = g refl in rw (a, b) refl) ∙ h))
apart_case true false r s f g h = refl
apart_case false q r s f g h = refl

or_false : (a b : Bool) → (a || b) ≡ false → (a ≡ false) × (b ≡ false)
or_false true b e = cc
or_false false b e = (refl, e)

or_from : (a b : Bool) → a ≡ false → b ≡ false → (a || b) ≡ false
or_from a b e f = e' e f
  where
    e' : a ≡ false → b ≡ false → (a || b) ≡ false
    e' e f = rw (e, f) refl

module _ (names : List (List ℕ)) (l : Data) (ends : has_ends names l ≡ true) where
  abbrev is_it : Link → Bool
  is_it k = (k.supplier == (link_of names l).supplier) && (k.consumer == (link_of names l).consumer)

  supplier_in : is_among_names names (text_at (codes "supplier") l) ≡ true
  supplier_in = (and_parts _ (is_among_names names (text_at (codes "consumer") l)) ends).0

  consumer_in : is_among_names names (text_at (codes "consumer") l) ≡ true
  consumer_in = (and_parts (is_among_names names (text_at (codes "supplier") l)) _ ends).1

  other : (k : Data) → has_ends names k ≡ true → is_same_link l k ≡ false → is_it (link_of names k) ≡ false
  other k h e =
      let parts = and_parts (is_among_names names (text_at (codes "supplier") k)) (is_among_names names (text_at (codes "consumer") k)) h in
      apart_case (index_among names (text_at (codes "supplier") k) == index_among names (text_at (codes "supplier") l))
      (index_among names (text_at (codes "consumer") k) == index_among names (text_at (codes "consumer") l))
      (bytes_eq (text_at (codes "supplier") l) (text_at (codes "supplier") k)) (bytes_eq (text_at (codes "consumer") l) (text_at (codes "consumer") k))
      (λ q. turn (text_at (codes "supplier") k) (text_at (codes "supplier") l) (same_place names _ _ parts.0 supplier_in q))
      (λ q. turn (text_at (codes "consumer") k) (text_at (codes "consumer") l) (same_place names _ _ parts.1 consumer_in q)) e
    where
      turn : (a b : List ℕ) → bytes_eq a b ≡ true → bytes_eq b a ≡ true
      turn a b e = (bytes_decides b a).1 (sym ((bytes_decides a b).0 e))

  others : (i : ℕ) (ds : List Data) → list_all (has_ends names) ds ≡ true → list_any (is_same_link l) (take i ds) ≡ false → list_any (λ k. is_it (link_of names k)) (take i ds) ≡ false
  others zero ds h e = refl
  others (suc i) [] h e = refl
  others (suc i) (k ∷ ds) h e =
      let here = and_parts (has_ends names k) (list_all (has_ends names) ds) h in
      let apart = or_false (is_same_link l k) (list_any (is_same_link l) (take i ds)) e in
      or_from (is_it (link_of names k)) (list_any (λ k. is_it (link_of names k)) (take i ds)) (other k here.0 apart.0) (others i ds here.1 apart.1)

linked_any : (ls : List Link) (s c : ℕ) → is_linked ls s c ≡ list_any (λ k. (k.supplier == s) && (k.consumer == c)) ls
linked_any [] s c = refl
linked_any (k ∷ ls) s c = ap (λ b. ((k.supplier == s) && (k.consumer == c)) || b) (linked_any ls s c)

not_true : (b : Bool) → not b ≡ true → b ≡ false
not_true true e = cc
not_true false e = refl

-- the links of a file that keeps the rules on their ends
pub are_fresh : (names : List (List ℕ)) (parents : List (Option ℕ)) (ds : List Data) → length parents ≡ length names → length ds ≤ 4000 →
    first_not (has_ends names) ds ≡ None → first_not_after is_new_link [] 0 ds ≡ None → AreFresh parents (map (link_of names) ds)
are_fresh names parents ds count few loose again = record {
  few = let n = length-map ds (link_of names) in omega (arith, n);
  each = λ i h. fresh i (let n = length-map ds (link_of names) in omega (arith, n));
}
  where
    all : list_all (has_ends names) ds ≡ true
    all = all_pass (has_ends names) ds loose

    fresh : (i : ℕ) → i < length ds → IsFresh parents (reverse (take i (map (link_of names) ds))) (get_or (map (link_of names) ds) i no_link)
    fresh i h =
        let l = get_or ds i null in
        let ends = all_at (has_ends names) ds null i all h in
        let is : get_or (map (link_of names) ds) i no_link ≡ link_of names l = get_or-map (link_of names) ds i null no_link h in
        let parts = and_parts (not (bytes_eq (text_at (codes "supplier") l) (text_at (codes "consumer") l))) (not (list_any (is_same_link l) (reverse (take i ds)))) (later_each is_new_link ds null i h again) in
        let apart : list_any (is_same_link l) (take i ds) ≡ false = sym (any_reverse (is_same_link l) (take i ds)) ∙ not_true _ parts.1 in
        subst (IsFresh parents (reverse (take i (map (link_of names) ds)))) (sym is) record {
          supplier = let p = place_within names (text_at (codes "supplier") l) (supplier_in names l ends) in omega (arith, count, p);
          consumer = let p = place_within names (text_at (codes "consumer") l) (consumer_in names l ends) in omega (arith, count, p);
          new =
              linked_any (reverse (take i (map (link_of names) ds))) (link_of names l).supplier (link_of names l).consumer
              ∙ any_reverse (is_it names l ends) (take i (map (link_of names) ds))
              ∙ sym (any_along (is_it names l ends) (link_of names) i ds)
              ∙ others names l ends i ds all apart;
        }

-- ---- a file's devices and links

none_left : {A B : Type 0} (f : A → B) (o : Option A) → option_map f o ≡ None → o ≡ None
none_left f None e = refl
none_left f (Some x) e = cc

pub parents_seen : (names : List (List ℕ)) (ds : List Data) → parents_of (map (whole_device names) ds) ≡ map (parent_of names) ds
parents_seen names [] = refl
parents_seen names (d ∷ ds) = ap (λ ps. parent_of names d ∷ ps) (parents_seen names ds)

module _ (file : Data) (joined : AreJoined file) where
  pub file_after : EachAfterParent 0 (parents_of (whole_devices file))
  file_after =
      subst (EachAfterParent 0) (sym (parents_seen (devices_named file) (list_in (codes "devices") file)))
      (each_after (list_in (codes "devices") file) (none_left (item_place (codes "devices")) _ joined.parents))

  pub file_fresh : AreFresh (parents_of (whole_devices file)) (whole_links file)
  file_fresh =
      let ds = list_in (codes "devices") file in
      let count : length (parents_of (whole_devices file)) ≡ length (devices_named file) =
      ap length (parents_seen (devices_named file) ds) ∙ length-map ds (parent_of (devices_named file)) ∙ sym (length-map ds name_of) in
      are_fresh (devices_named file) (parents_of (whole_devices file)) (list_in (codes "links") file) count joined.few_links
      (none_left (item_place (codes "links")) _ joined.ends) (none_left (item_place (codes "links")) _ joined.again)

-- the first link that closes a cycle, by the numbers of its ends
pub cycle_seen : (file : Data) → first_not_after (closes_nothing (parents_of (whole_devices file))) [] 0 (whole_links file) ≡ first_not_after (closes_no_cycle file) [] 0 (list_in (codes "links") file)
cycle_seen file = later_map (closes_nothing (parents_of (whole_devices file))) (link_of (devices_named file)) [] 0 (list_in (codes "links") file)
