-- Links that may all be added in turn: none of them is one that a rule refuses.
use Rattle.std.proofs.Common.{◌≡◌, ◌∙◌, ◌&&◌, ◌||◌, ◌==◌, ◌++◌, ℕ, zero, suc, Bool, true, false, not, cond, List, [], ◌∷◌, length, map, reverse, bytes_eq, codes, Option, Some, None, IfSome, refl, sym, ap, subst, arith, append_assoc}
use Rattle.std.specs.List.{flat_map, list_any}
use Rattle.std.specs.Option.{option_map}
use Rattle.std.specs.Cmp.Lexicographic.{bytes_decides}
use Rattle.std.proofs.lemmas.Bool.{and_from, true≢false}
use Rattle.std.proofs.lemmas.Bool.Decides.{nat_tests}
use Rattle.std.proofs.lemmas.List.{append-nil, reverse-append}
use Rattle.serde_json.specs.Data.{Data}
use Rattle.sleep_model.specs.declared.machine.Link.{Link}
use Rattle.sleep_model.specs.Order.{EachAfterParent, dependents, is_among, moved, parents_of}
use Rattle.sleep_model.specs.Links.{AreLinks, is_dependent, is_linked}
use Rattle.device_links.specs.Linked.{Linked}
use Rattle.device_links.specs.Passes.{Makes}
use Rattle.borrowed_json.specs.Look.{list_in, text_at}
use Rattle.file_rules.specs.Devices.{has_parent_before, is_new_link, is_same_link, loose_link, repeated_link, whole_devices, whole_links}
use Rattle.file_rules.specs.Groups.{device_rules}
use Rattle.file_rules.specs.Names.{devices_named}
use Rattle.file_rules.specs.Places.{first_not_after, item_place}
use Rattle.file_rules.specs.Spelled.{index_among, link_of}
use Rattle.file_rules.specs.ValidFiles.{broken_cycle, broken_devices, broken_ends}
use Rattle.file_rules.proofs.Accepted.{keeps_all}
use Rattle.file_rules.proofs.Freshly.{cycle_seen, each_after, parents_seen}
use Rattle.machine_file.proofs.Cycling.{closes_none, older}
use Rattle.machine_file.proofs.KeptLinks.{cycle_none, ends_none}

-- ---- tests

not_so : (b : Bool) → (b ≡ true → ⊥) → not b ≡ true
not_so true h = absurd (h refl)
not_so false h = refl

or_false : (a b : Bool) → (a || b) ≡ false → (a ≡ false) × (b ≡ false)
or_false true b e = absurd (true≢false e)
or_false false b e = (refl, e)

neither : (a b : Bool) → a ≡ false → b ≡ false → (a || b) ≡ false
neither true b e f = absurd (true≢false e)
neither false b e f = f

-- two tests that a false one follows from are not both true
not_both : (p q : Bool) → (p ≡ true → q ≡ true → ⊥) → (p && q) ≡ false
not_both true true h = absurd (h refl refl)
not_both true false h = refl
not_both false q h = refl

itself : (n : ℕ) → (n == n) ≡ true
itself n = grind (arith, nat_tests)

-- ---- links by the names of their ends

-- a device is among those that are moved with it
moved_itself : (levels : ℕ) (dependents_of : ℕ → List ℕ) (d : ℕ) → is_among (moved levels dependents_of d) d ≡ true
moved_itself zero dependents_of d = ap (λ b. b || false) (itself d)
moved_itself (suc levels) dependents_of d = ap (λ b. b || is_among (flat_map (moved levels dependents_of) (dependents_of d)) d) (itself d)

module _ (names : List (List ℕ)) (ps : List (Option ℕ)) where
  abbrev supplier : Data → ℕ
  supplier l = index_among names (text_at (codes "supplier") l)

  abbrev consumer : Data → ℕ
  consumer l = index_among names (text_at (codes "consumer") l)

  same_number : (a b : List ℕ) → bytes_eq a b ≡ true → (index_among names b == index_among names a) ≡ true
  same_number a b e = subst (λ (s : List ℕ). (index_among names s == index_among names a) ≡ true) ((bytes_decides a b).0 e) (itself (index_among names a))

  -- a link by numbers that none is: none has its names
  none_same : (l : Data) (before : List Data) → is_linked (map (link_of names) before) (supplier l) (consumer l) ≡ false → list_any (is_same_link l) before ≡ false
  none_same l [] h = refl
  none_same l (k ∷ before) h =
      let both = or_false ((supplier k == supplier l) && (consumer k == consumer l)) (is_linked (map (link_of names) before) (supplier l) (consumer l)) h in
      neither (is_same_link l k) (list_any (is_same_link l) before)
      (not_both _ _ (λ s c. true≢false
      (sym (and_from (supplier k == supplier l) (consumer k == consumer l)
      (same_number (text_at (codes "supplier") l) (text_at (codes "supplier") k) s) (same_number (text_at (codes "consumer") l) (text_at (codes "consumer") k) c)) ∙ both.0)))
      (none_same l before both.1)

  -- the ends of a link that hangs on nothing below it differ
  ends_differ : (l : Data) (earlier : List Link) → is_dependent ps earlier (consumer l) (supplier l) ≡ false → bytes_eq (text_at (codes "supplier") l) (text_at (codes "consumer") l) ≡ true → ⊥
  ends_differ l earlier apart e =
      let same : supplier l ≡ consumer l = ap (index_among names) ((bytes_decides (text_at (codes "supplier") l) (text_at (codes "consumer") l)).0 e) in
      true≢false (sym (moved_itself (length ps) (dependents ps earlier) (consumer l)) ∙ ap (is_among (moved (length ps) (dependents ps earlier) (consumer l))) (sym same) ∙ apart)

  new_here : (l : Data) (before : List Data) → AreLinks ps (link_of names l ∷ map (link_of names) before) → is_new_link before l ≡ true
  new_here l before h =
      let differ : not (bytes_eq (text_at (codes "supplier") l) (text_at (codes "consumer") l)) ≡ true = not_so _ (ends_differ l (map (link_of names) before) h.3) in
      let new : list_any (is_same_link l) before ≡ false = none_same l before h.2 in
      rw (differ, new) refl

  none_new : (before : List Data) (n : ℕ) (ls : List Data) → AreLinks ps (reverse (map (link_of names) ls) ++ map (link_of names) before) → first_not_after is_new_link before n ls ≡ None
  none_new before n [] h = refl
  none_new before n (l ∷ ls) h =
      let k = link_of names l in
      let ks = map (link_of names) ls in
      let earlier = map (link_of names) before in
      let turned : reverse (k ∷ ks) ++ earlier ≡ reverse ks ++ k ∷ earlier = ap (λ xs. xs ++ earlier) (reverse-append (k ∷ []) ks) ∙ append_assoc (reverse ks) (k ∷ []) earlier in
      let with_it = subst (AreLinks ps) turned h in
      ap (λ b. cond b (first_not_after is_new_link (l ∷ before) (suc n) ls) (Some n)) (new_here l before (older ps (reverse ks) (k ∷ earlier) with_it))
      ∙ none_new (l ∷ before) (suc n) ls with_it

-- ---- the links of a file

none_left : {A B : Type 0} (f : A → B) (o : Option A) → option_map f o ≡ None → o ≡ None
none_left f None e = refl
none_left f (Some x) e = cc

-- each device comes after its parent, if none breaks a rule
pub devices_after : (d : Data) → broken_devices d ≡ None → EachAfterParent 0 (parents_of (whole_devices d))
unfolding broken_devices
devices_after d e =
    subst (EachAfterParent 0) (sym (parents_seen (devices_named d) (list_in (codes "devices") d)))
    (each_after (list_in (codes "devices") d) (none_left (item_place (codes "devices")) _ (keeps_all device_rules d e).1.0))

abbrev pub may_be_linked : Data → Type 0
may_be_linked d = AreLinks (parents_of (whole_devices d)) (reverse (whole_links d))

none_again : (d : Data) → may_be_linked d → repeated_link d ≡ None
none_again d h =
    ap (option_map (item_place (codes "links")))
    (none_new (devices_named d) (parents_of (whole_devices d)) [] 0 (list_in (codes "links") d) (subst (AreLinks (parents_of (whole_devices d))) (sym (append-nil (reverse (whole_links d)))) h))

pub linked_ends : (d : Data) → loose_link d ≡ None → may_be_linked d → broken_ends d ≡ None
linked_ends d loose h = ends_none d loose (none_again d h)

pub linked_cycle : (d : Data) → may_be_linked d → broken_cycle d ≡ None
linked_cycle d h = cycle_none d (sym (cycle_seen d) ∙ sym (closes_none (parents_of (whole_devices d)) (whole_links d) h))

-- the links of a file, if they could be made at once
pub made_whole : (d : Data) (ps : List (Option ℕ)) (ls : List Link) (o : Option Linked) → ps ≡ parents_of (whole_devices d) → ls ≡ whole_links d → loose_link d ≡ None → Makes ps ls o
    → IfSome o (λ l. l ≡ record { parents = parents_of (whole_devices d); links = reverse (whole_links d) }) × IfSome o (λ _. broken_ends d ≡ None) × IfSome o (λ _. broken_cycle d ≡ None)
made_whole d ps ls None e f loose m = (tt, tt, tt)
made_whole d ps ls (Some l) e f loose m =
    let linked : may_be_linked d = subst (λ (ks : List Link). AreLinks (parents_of (whole_devices d)) (reverse ks)) f (subst (λ (qs : List (Option ℕ)). AreLinks qs (reverse ls)) e m.0.linked) in (
      m.1 ∙ ap (λ (qs : List (Option ℕ)). as_linked qs ls) e ∙ ap (as_linked (parents_of (whole_devices d))) f,
      linked_ends d loose linked,
      linked_cycle d linked,
    )
  where
    as_linked : List (Option ℕ) → List Link → Linked
    as_linked qs ks = record { parents = qs; links = reverse ks }
