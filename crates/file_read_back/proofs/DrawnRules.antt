-- The value of a generated machine breaks no rule.
use Rattle.std.proofs.Common.{◌≡◌, ◌∙◌, ◌≤◌, ◌<◌, ◌+◌, ◌*◌, ◌/◌, ◌==◌, ◌&&◌, ◌||◌, ◌++◌, ℕ, zero, suc, List, [], ◌∷◌, map, flat_map, length, reverse, codes, Bool, true, false, not, cond, nat_le, bytes_eq, Option, Some, None, IfSome, refl, sym, ap, ap₂, subst, arith, le-leb, append_assoc}
use Rattle.std.specs.List.{list_all, list_any, range_with_len}
use Rattle.std.specs.Option.{option_map, option_or}
use Rattle.std.proofs.lemmas.Bool.{and_parts, and_from}
use Rattle.std.proofs.lemmas.List.{reverse-append, length-map}
use Rattle.std.proofs.lemmas.List.FromFn.{length-map-range_with_len}
use Rattle.serde_json.specs.Data.{Data}
use Rattle.sleep_model.specs.declared.machine.Link.{Link}
use Rattle.sleep_model.specs.Accepted.{IsAccepted}
use Rattle.sleep_model.specs.Links.{AreLinks, is_linked}
use Rattle.sleep_model.specs.Order.{is_among, dependents, moved, parents_of}
use Rattle.borrowed_json.specs.Look.{items_of, list_in}
use Rattle.file_rules.specs.Places.{first_not_after, first_item, item_place}
use Rattle.file_rules.specs.Form.{is_device_form, is_link_form, unformed_item}
use Rattle.file_rules.specs.Names.{is_among_names, names_of_device, names_of_link, devices_named, sources_named, misspelled_item, repeated, repeated_device}
use Rattle.file_rules.specs.Rules.{name_of}
use Rattle.sleep_model.specs.NameBytes.{is_name}
use Rattle.file_rules.specs.Spelled.{link_of, index_among}
use Rattle.file_rules.specs.Devices.{has_parent_before, has_ends, is_new_link, is_same_link, closes_no_cycle, orphan, loose_link, repeated_link, cyclic_link}
use Rattle.file_rules.specs.Operations.{is_formed, names_source, unformed_operation, sourceless_operation}
use Rattle.file_rules.specs.Limits.{most_items, too_many, all_steps, is_link_step, are_links_few, are_steps_few, too_much}
use Rattle.file_rules.specs.Whole.{rules, first_broken}
use Rattle.machine_file.specs.Spelling.{as_items}
use Rattle.sleep_script.specs.Generated.{draw, drawn_parent, drawn_links, after_links, generated}
use Rattle.sleep_script.proofs.Generating.{accepted, drawn_less}
use Rattle.file_read_back.proofs.Alike.{EachOf, weaker, made_pass}
use Rattle.file_read_back.proofs.RulesBack.{none_broken, rows_pass, valid_unless, items_pass}
use Rattle.file_read_back.proofs.ScriptsBack.{none_fails_of}
use Rattle.file_read_back.proofs.DrawnNames.{drawn_name, name_same, name_among, name_placed, names_differ, name_spelled, other_name}
use Rattle.file_read_back.proofs.DrawnValue.{device_datum, drawn_datum, link_datum, pause_datum, event_datum, drawn_ops, line_ops, actor_datum, actors_data, drawn_value, parent_before, parent_low, datum_name, Rises, links_rise, links_same, listed_devices, listed_links, named_devices, all_devices}

-- ---- each device, each link, each operation

-- what holds of each number below n holds of the numbers from one on
each_drawn : (P : ℕ → Type 0) (n a m : ℕ) → ((i : ℕ) → i < n → P i) → a + m ≤ n → EachOf P (range_with_len a m)
each_drawn P n a zero f l = tt
each_drawn P n a (suc m) f l = (f a (omega arith), each_drawn P n (a + 1) m f (omega arith))

device_form : (p : Option ℕ) (a : Bool) (i : ℕ) → is_device_form (device_datum p a i) ≡ true
device_form None a i = refl
device_form (Some p) a i = refl

device_spelled : (p : Option ℕ) (a : Bool) (i n : ℕ) → n ≤ 1000 → i < n → IfSome p (λ q. q < n) → names_of_device (device_datum p a i) ≡ true
device_spelled None a i n few h l = ap (λ b. b && true) (name_spelled i (omega arith))
device_spelled (Some p) a i n few h l = and_from (is_name (drawn_name i)) (is_name (drawn_name p)) (name_spelled i (omega arith)) (name_spelled p (omega (arith, few, l)))

-- the tests of an interrupt line's operations
ops_pass : (test : Data → Bool) → ((ms : ℕ) → 1 ≤ ms → ms ≤ 86400000 → test (pause_datum ms) ≡ true) → ((s ms : ℕ) → s < 3 → ms ≤ 86400000 → test (event_datum s ms) ≡ true)
    → (seed k : ℕ) (js : List ℕ) → list_all test (items_of (as_items (flat_map (λ j. drawn_ops seed (k + 3 * j)) js))) ≡ true
ops_pass test f g seed k [] = refl
ops_pass test f g seed k (j ∷ js) =
    let pause = drawn_less seed (k + 3 * j) 900 (omega arith) in
    let source = drawn_less seed (k + 3 * j + 1) 3 (omega arith) in
    let long = drawn_less seed (k + 3 * j + 2) 2 (omega arith) in
    ap₂ (λ a b. a && b) (f (100 + draw seed (k + 3 * j) 900) (omega arith) (omega (arith, pause)))
    (ap₂ (λ a b. a && b) (g (draw seed (k + 3 * j + 1) 3) (50 * draw seed (k + 3 * j + 2) 2) source (omega (arith, long))) (ops_pass test f g seed k js))

within : (least most n : ℕ) → least ≤ n → n ≤ most → (nat_le least n && nat_le n most) ≡ true
within least most n l m = and_from (nat_le least n) (nat_le n most) (le-leb least n l) (le-leb n most m)

event_source : (seed n s ms : ℕ) → s < 3 → names_source (sources_named (drawn_value seed n)) (event_datum s ms) ≡ true
event_source seed n zero ms l = refl
event_source seed n (suc zero) ms l = refl
event_source seed n (suc (suc zero)) ms l = refl
event_source seed n (suc (suc (suc s))) ms l = absurd (omega arith)

-- ---- links

-- links in order before others are in order by themselves
stand_before : (ps : List (Option ℕ)) (xs ys : List Link) → AreLinks ps (xs ++ ys) → AreLinks ps ys
stand_before ps [] ys h = h
stand_before ps (x ∷ xs) ys h = stand_before ps xs ys h.4

turned : (l : Link) (ls before : List Link) → reverse (l ∷ ls) ++ before ≡ reverse ls ++ (l ∷ before)
turned l ls before = ap (λ xs. xs ++ before) (reverse-append (l ∷ []) ls) ∙ append_assoc (reverse ls) (l ∷ []) before

linked_same : (n : ℕ) (l : Link) (before : List Link) → n ≤ 1000 → Rises n l → EachOf (Rises n) before
    → list_any (is_same_link (link_datum l)) (map link_datum before) ≡ is_linked before l.supplier l.consumer
linked_same n l [] few r h = refl
linked_same n l (b ∷ before) few r h =
    λ i. (name_same l.supplier b.supplier (omega (arith, r.up, r.low, few)) (omega (arith, h.0.up, h.0.low, few)) i
    && name_same l.consumer b.consumer (omega (arith, r.low, few)) (omega (arith, h.0.low, few)) i) || linked_same n l before few r h.1 i

module _ (seed n : ℕ) (some : 1 ≤ n) (few : n ≤ 1000) where
  abbrev file : Data
  file = drawn_value seed n

  abbrev ps : List (Option ℕ)
  ps = parents_of (generated seed n).devices

  whole : IsAccepted (generated seed n)
  whole = accepted seed n some few

  count : length ps ≡ n
  count = length-map (generated seed n).devices (λ d. d.parent) ∙ length-map-range_with_len (Rattle.sleep_script.specs.Generated.drawn_device seed n) 0 n

  fresh : (l : Link) (before : List Link) → Rises n l → EachOf (Rises n) before → is_linked before l.supplier l.consumer ≡ false → is_new_link (map link_datum before) (link_datum l) ≡ true
  fresh l before r h apart =
      ap₂ (λ a b. not a && not b) (other_name l.supplier l.consumer (omega (arith, r.up, r.low)) (omega (arith, r.low)) (λ s. omega (arith, s, r.up)))
      (linked_same n l before few r h ∙ apart)

  opened : (l : Link) (before : List Link) → Rises n l → EachOf (Rises n) before → is_among (moved (length ps) (dependents ps before) l.consumer) l.supplier ≡ false
      → closes_no_cycle file (map link_datum before) (link_datum l) ≡ true
  opened l before r h apart =
      let names = named_devices seed n in
      let devices = all_devices seed n few in
      let links : map (link_of (devices_named file)) (map link_datum before) ≡ before = ap (λ ns. map (link_of ns) (map link_datum before)) names ∙ links_same n before few h in
      let supplier : index_among (devices_named file) (drawn_name l.supplier) ≡ l.supplier = ap (λ ns. index_among ns (drawn_name l.supplier)) names ∙ name_placed n l.supplier few (omega (arith, r.up, r.low)) in
      let consumer : index_among (devices_named file) (drawn_name l.consumer) ≡ l.consumer = ap (λ ns. index_among ns (drawn_name l.consumer)) names ∙ name_placed n l.consumer few r.low in
      (λ i. not (is_among (moved (length (parents_of (devices i))) (dependents (parents_of (devices i)) (links i)) (consumer i)) (supplier i))) ∙ ap not apart

  -- each link in turn is new, and closes no cycle
  links_new : (before ls : List Link) (k : ℕ) → EachOf (Rises n) before → EachOf (Rises n) ls → AreLinks ps (reverse ls ++ before)
      → first_not_after is_new_link (map link_datum before) k (map link_datum ls) ≡ None
  links_new before [] k b h s = refl
  links_new before (l ∷ ls) k b h s =
      let on = subst (AreLinks ps) (turned l ls before) s in
      let here = stand_before ps (reverse ls) (l ∷ before) on in
      ap (λ t. cond t (first_not_after is_new_link (map link_datum (l ∷ before)) (suc k) (map link_datum ls)) (Some k)) (fresh l before h.0 b here.2)
      ∙ links_new (l ∷ before) ls (suc k) (h.0, b) h.1 on

  links_open : (before ls : List Link) (k : ℕ) → EachOf (Rises n) before → EachOf (Rises n) ls → AreLinks ps (reverse ls ++ before)
      → first_not_after (closes_no_cycle file) (map link_datum before) k (map link_datum ls) ≡ None
  links_open before [] k b h s = refl
  links_open before (l ∷ ls) k b h s =
      let on = subst (AreLinks ps) (turned l ls before) s in
      let here = stand_before ps (reverse ls) (l ∷ before) on in
      ap (λ t. cond t (first_not_after (closes_no_cycle file) (map link_datum (l ∷ before)) (suc k) (map link_datum ls)) (Some k)) (opened l before h.0 b here.3)
      ∙ links_open (l ∷ before) ls (suc k) (h.0, b) h.1 on

  -- ---- parents

  among_front : (a b : Bool) → b ≡ true → (a || b) ≡ true
  among_front true b e = refl
  among_front false b e = e

  has_parent : (before : List Data) (p : Option ℕ) (a : Bool) (i : ℕ) → ((j : ℕ) → j < i → is_among_names (map name_of before) (drawn_name j) ≡ true) → IfSome p (λ q. q < i)
      → has_parent_before before (device_datum p a i) ≡ true
  has_parent before None a i h l = refl
  has_parent before (Some p) a i h l = h p l

  more_named : (before : List Data) (a i j : ℕ) → ((k : ℕ) → k < a → is_among_names (map name_of before) (drawn_name k) ≡ true) → i ≡ a → j < a + 1
      → is_among_names (drawn_name i ∷ map name_of before) (drawn_name j) ≡ true
  more_named before a i j h e l = by (j == i) refl
    where
      by : (b : Bool) → (j == i) ≡ b → is_among_names (drawn_name i ∷ map name_of before) (drawn_name j) ≡ true
      by true s = ap (λ x. bytes_eq (drawn_name j) (drawn_name x) || is_among_names (map name_of before) (drawn_name j)) (sym (Rattle.std.proofs.lemmas.Bool.eqb-true j i s))
          ∙ ap (λ x. x || is_among_names (map name_of before) (drawn_name j)) ((Rattle.std.specs.Cmp.Lexicographic.bytes_decides (drawn_name j) (drawn_name j)).1 refl)
      by false s =
          let other : j ≡ i → ⊥ = Rattle.std.proofs.lemmas.Bool.eqb-false j i s in
          among_front (bytes_eq (drawn_name j) (drawn_name i)) (is_among_names (map name_of before) (drawn_name j)) (h j (omega arith))

  no_orphans : (before : List Data) (a m k : ℕ) → ((j : ℕ) → j < a → is_among_names (map name_of before) (drawn_name j) ≡ true)
      → first_not_after has_parent_before before k (map (drawn_datum seed n) (range_with_len a m)) ≡ None
  no_orphans before a zero k h = refl
  no_orphans before a (suc m) k h =
      ap (λ t. cond t (first_not_after has_parent_before (drawn_datum seed n a ∷ before) (suc k) (map (drawn_datum seed n) (range_with_len (a + 1) m))) (Some k))
      (has_parent before (drawn_parent seed a) (draw seed (n + a) 2 == 1) a h (parent_before seed a))
      ∙ no_orphans (drawn_datum seed n a ∷ before) (a + 1) m (suc k)
      (λ j l. ap (λ x. is_among_names (x ∷ map name_of before) (drawn_name j)) (datum_name (drawn_parent seed a) (draw seed (n + a) 2 == 1) a) ∙ more_named before a a j h refl l)

  -- ---- rule by rule

  or_none : (o p : Option (List ℕ)) → o ≡ None → p ≡ None → option_or o p ≡ None
  or_none o p e f = ap₂ option_or e f

  devices_pass : (test : Data → Bool) → ((i : ℕ) → i < n → test (drawn_datum seed n i) ≡ true) → first_item (codes "devices") test file ≡ None
  devices_pass test f =
      items_pass (codes "devices") test file (ap (list_all test) (listed_devices seed n) ∙ made_pass test (drawn_datum seed n) (range_with_len 0 n) (each_drawn (λ i. test (drawn_datum seed n i) ≡ true) n 0 n f (omega arith)))

  links_pass : (test : Data → Bool) → ((l : Link) → Rises n l → test (link_datum l) ≡ true) → first_item (codes "links") test file ≡ None
  links_pass test f =
      items_pass (codes "links") test file (ap (list_all test) (listed_links seed n) ∙ made_pass test link_datum (drawn_links seed n (n / 4)) (weaker (Rises n) (λ l. test (link_datum l) ≡ true) (drawn_links seed n (n / 4)) f (links_rise seed n (n / 4) some)))

  items_valid : unformed_item file ≡ None
  items_valid = or_none _ _ (devices_pass is_device_form (λ i h. device_form (drawn_parent seed i) (draw seed (n + i) 2 == 1) i)) (or_none _ _ (links_pass (is_link_form true) (λ l r. refl)) refl)

  few_items : too_many file ≡ None
  few_items =
      let devices : length (list_in (codes "devices") file) ≡ n = ap length (listed_devices seed n) ∙ length-map-range_with_len (drawn_datum seed n) 0 n in
      let links : length (list_in (codes "links") file) ≡ length (drawn_links seed n (n / 4)) = ap length (listed_links seed n) ∙ length-map (drawn_links seed n (n / 4)) link_datum in
      rows_pass (λ r. nat_le (length (list_in r.name file)) r.is) most_items
      (le-leb (length (list_in (codes "devices") file)) 1000 (omega (arith, devices)), (le-leb (length (list_in (codes "links") file)) 4000 (omega (arith, links, whole.few_links)), (refl, (refl, (refl, (refl, (refl, tt)))))))

  spelled_valid : misspelled_item file ≡ None
  spelled_valid =
      or_none _ _ (devices_pass names_of_device (λ i h. device_spelled (drawn_parent seed i) (draw seed (n + i) 2 == 1) i n few h (parent_low seed i n h)))
      (or_none _ _ (links_pass names_of_link (λ l r. and_from (is_name (drawn_name l.supplier)) (is_name (drawn_name l.consumer)) (name_spelled l.supplier (omega (arith, r.up, r.low))) (name_spelled l.consumer (omega (arith, r.low))))) refl)

  differ_valid : repeated_device file ≡ None
  differ_valid = ap (repeated (codes "devices")) (named_devices seed n) ∙ ap (option_map (item_place (codes "devices"))) (names_differ [] 0 n 0 (omega arith) (λ i low high. refl))

  orphan_valid : orphan file ≡ None
  orphan_valid =
      ap (λ ds. option_map (item_place (codes "devices")) (first_not_after has_parent_before [] 0 ds)) (listed_devices seed n)
      ∙ ap (option_map (item_place (codes "devices"))) (no_orphans [] 0 n 0 (λ j l. absurd (omega arith)))

  ends_valid : loose_link file ≡ None
  ends_valid =
      links_pass (has_ends (devices_named file))
      (λ l r. ap (λ ns. is_among_names ns (drawn_name l.supplier) && is_among_names ns (drawn_name l.consumer)) (named_devices seed n)
      ∙ ap₂ (λ a b. a && b) (name_among 0 n l.supplier l.supplier (omega arith) (omega (arith, r.up, r.low))) (name_among 0 n l.consumer l.consumer (omega arith) r.low))

  backward : AreLinks ps (reverse (drawn_links seed n (n / 4)) ++ [])
  backward = subst (AreLinks ps) (sym (Rattle.std.proofs.lemmas.List.append-nil (reverse (drawn_links seed n (n / 4))))) whole.links

  new_valid : repeated_link file ≡ None
  new_valid =
      ap (λ ds. option_map (item_place (codes "links")) (first_not_after is_new_link [] 0 ds)) (listed_links seed n)
      ∙ ap (option_map (item_place (codes "links"))) (links_new [] (drawn_links seed n (n / 4)) 0 tt (links_rise seed n (n / 4) some) backward)

  open_valid : cyclic_link file ≡ None
  open_valid =
      ap (λ ds. option_map (item_place (codes "links")) (first_not_after (closes_no_cycle file) [] 0 ds)) (listed_links seed n)
      ∙ ap (option_map (item_place (codes "links"))) (links_open [] (drawn_links seed n (n / 4)) 0 tt (links_rise seed n (n / 4) some) backward)

  formed_valid : unformed_operation file ≡ None
  formed_valid =
      let line = actor_datum (codes "irq") (codes "line") 1 (line_ops seed (after_links n)) in
      none_fails_of (is_formed true) 0 (actors_data seed n) (refl, (ops_pass (is_formed true line) (λ ms l m. within 1 86400000 ms l m) (λ s ms l m. ap (λ b. b && true) (within 0 86400000 ms (omega arith) m)) seed (after_links n) (range_with_len 0 4), tt))

  source_valid : sourceless_operation file ≡ None
  source_valid =
      none_fails_of (λ actor. names_source (sources_named file)) 0 (actors_data seed n)
      (refl, (ops_pass (names_source (sources_named file)) (λ ms l m. refl) (λ s ms l m. event_source seed n s ms l) seed (after_links n) (range_with_len 0 4), tt))

  few_steps : are_steps_few file ≡ true
  few_steps =
      let devices : length (list_in (codes "devices") file) ≡ n = ap length (listed_devices seed n) ∙ length-map-range_with_len (drawn_datum seed n) 0 n in
      let links : length (list_in (codes "links") file) ≡ length (drawn_links seed n (n / 4)) = ap length (listed_links seed n) ∙ length-map (drawn_links seed n (n / 4)) link_datum in
      let added : all_steps is_link_step file ≡ 0 = refl in
      and_from (nat_le (4 * (length (list_in (codes "devices") file) + 50)) 100000) (are_links_few file)
      (le-leb (4 * (length (list_in (codes "devices") file) + 50)) 100000 (omega (arith, devices)))
      (le-leb (length (list_in (codes "links") file) + all_steps is_link_step file) 4000 (omega (arith, links, added, whole.few_links)))

  much_valid : too_much file ≡ None
  much_valid = or_none _ _ (valid_unless (are_steps_few file) (codes "actors") few_steps) refl

  pub drawn_unbroken : first_broken file ≡ None
  drawn_unbroken =
      none_broken rules file
      (refl, (refl, (refl, (items_valid, (few_items, (spelled_valid, (differ_valid, (orphan_valid, (ends_valid, (new_valid, (open_valid, (refl, (refl, (refl, (formed_valid, (refl, (or_none _ _ source_valid refl, (refl, (refl, (refl, (refl, (refl, (much_valid, tt)))))))))))))))))))))))
