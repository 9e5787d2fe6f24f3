-- Devices that are registered in turn: what holds while none is refused, and what a refusal means.
use Rattle.std.proofs.Common.{◌≡◌, ◌<◌, ◌≤◌, ◌+◌, ◌∙◌, ◌++◌, ◌||◌, ℕ, zero, suc, Bool, true, false, not, cond, nat_le, List, [], ◌∷◌, length, map, take, reverse, get_or, position, bytes_eq, codes, is_some, unwrap_or, option_and_then, drop, IfSome, Option, Some, None, Ok, Err, refl, sym, ap, subst, arith}
use Rattle.std.specs.List.{list_any}
use Rattle.std.specs.Option.{option_map, option_or}
use Rattle.std.specs.Cmp.Lexicographic.{bytes_decides}
use Rattle.std.proofs.lemmas.Bool.{true≢false}
use Rattle.std.proofs.lemmas.Bool.Decides.{nat_tests}
use Rattle.std.proofs.lemmas.List.{get_or-map, length-map, length-take-le, map-append, take_all, take_more}
use Rattle.serde_json.specs.Data.{Data}
use Rattle.borrowed_json.specs.View.{Value, view}
use Rattle.sleep_model.specs.declared.machine.Device.{Device}
use Rattle.device_tree.specs.Refusal.{refusal, is_lost, RefusesDevice}
use Rattle.device_tree.specs.declared.fault.TreeFault.{TreeFault}
use Rattle.device_tree.specs.declared.fault.TreeFault.TheVariants as fault
use Rattle.borrowed_json.specs.Look.{is_none_or, list_in, word_at}
use Rattle.file_rules.specs.Rules.{name_of}
use Rattle.file_rules.specs.Devices.{has_parent_before, whole_device}
use Rattle.file_rules.specs.Knows.{names}
use Rattle.file_rules.specs.Registered.{AreRegistered, AreShort, Stops, device_after, parent_after}
use Rattle.file_rules.specs.Fitting.{IsShort}
use Rattle.file_rules.specs.Groups.{device_rules}
use Rattle.file_rules.specs.ValidFiles.{broken_devices}
use Rattle.file_rules.specs.Names.{repeated_device}
use Rattle.file_rules.specs.Places.{item_place}
use Rattle.file_rules.specs.Whole.{broken_at, first_of}
use Rattle.file_rules.proofs.Freshly.{position_within}
use Rattle.file_rules.proofs.Placing.{position_cons, some_position, any_taken, repeated_from, repeated_here, repeated_later, repeated_none, later_from, later_here, later_next, later_none}

-- the first i are registered
pub record Registering (ds : List Data) (i : ℕ) (devices : List Device) : Type 0 where
  pub is : devices ≡ map (whole_device (map name_of ds)) (take i ds)
  pub apart : repeated_from bytes_eq (map name_of ds) 0 ≡ repeated_from bytes_eq (map name_of ds) i
  pub parents : later_from has_parent_before ds 0 ≡ later_from has_parent_before ds i

-- ---- names and parents

-- the names of whole devices
pub names_whole : (ns : List (List ℕ)) (ds : List Data) → names (map (whole_device ns) ds) ≡ map name_of ds
names_whole ns [] = refl
names_whole ns (d ∷ ds) = ap (λ xs. name_of d ∷ xs) (names_whole ns ds)

map_take : (i : ℕ) (ds : List Data) → map name_of (take i ds) ≡ take i (map name_of ds)
map_take zero ds = refl
map_take (suc i) [] = refl
map_take (suc i) (d ∷ ds) = ap (λ xs. name_of d ∷ xs) (map_take i ds)

none_or_same : (f g : List ℕ → Bool) (o : Option (List ℕ)) → ((p : List ℕ) → f p ≡ g p) → is_none_or f o ≡ is_none_or g o
none_or_same f g None h = refl
none_or_same f g (Some p) h = h p

-- the parent among the devices before
parent_test : (ds : List Data) (d : Data) (i : ℕ) →
    has_parent_before (reverse (take i ds)) d ≡ is_none_or (λ p. list_any (bytes_eq p) (take i (map name_of ds))) (word_at (codes "parent") d)
parent_test ds d i = none_or_same _ _ (word_at (codes "parent") d) (λ p. any_taken (bytes_eq p) name_of i ds)

-- a place among the first ones is the place among all
place_front : (p : List ℕ → Bool) (i : ℕ) (ns : List (List ℕ)) → list_any p (take i ns) ≡ true → position p (take i ns) ≡ position p ns
place_front p zero ns e = absurd (true≢false (sym e))
place_front p (suc i) [] e = absurd (true≢false (sym e))
place_front p (suc i) (n ∷ ns) e = position_cons p n (take i ns) ∙ by (p n) e (place_front p i ns) ∙ sym (position_cons p n ns)
  where
    by : (b : Bool) → (b || list_any p (take i ns)) ≡ true → (list_any p (take i ns) ≡ true → position p (take i ns) ≡ position p ns)
        → cond b (Some 0) (option_map suc (position p (take i ns))) ≡ cond b (Some 0) (option_map suc (position p ns))
    by true h rest = refl
    by false h rest = ap (option_map suc) (rest h)

-- a parent among the first ones is that among all
parent_front : (i : ℕ) (ns : List (List ℕ)) (o : Option (List ℕ)) → is_none_or (λ p. list_any (bytes_eq p) (take i ns)) o ≡ true →
    option_map (λ p. unwrap_or (position (bytes_eq p) (take i ns)) (length (take i ns))) o ≡ option_and_then (λ s. position (bytes_eq s) ns) o
parent_front i ns None e = refl
parent_front i ns (Some p) e = by (position (bytes_eq p) (take i ns)) (some_position (bytes_eq p) (take i ns) ∙ e) ∙ place_front (bytes_eq p) i ns e
  where
    by : (o : Option ℕ) → is_some o ≡ true → Some (unwrap_or o (length (take i ns))) ≡ o
    by None h = absurd (true≢false (sym h))
    by (Some k) h = refl

-- the tree refuses a parent that none of them is
lost_where : (ns : List (List ℕ)) (o : Option (List ℕ)) →
    is_lost (length ns) (option_map (λ p. unwrap_or (position (bytes_eq p) ns) (length ns)) o) ≡ not (is_none_or (λ p. list_any (bytes_eq p) ns) o)
lost_where ns None = refl
lost_where ns (Some p) = by (position (bytes_eq p) ns) (position_within (bytes_eq p) ns) ∙ ap not (some_position (bytes_eq p) ns)
  where
    by : (o : Option ℕ) → IfSome o (λ k. k < length ns) → nat_le (length ns) (unwrap_or o (length ns)) ≡ not (is_some o)
    by None h = grind (arith, nat_tests)
    by (Some k) h = grind (arith, nat_tests)

-- ---- one more device

module _ (ds : List Data) (i : ℕ) (d : Data) (within : i < length ds) (at : d ≡ get_or ds i d) (devices : List Device) (r : Registering ds i devices) where
  abbrev all : List (List ℕ)
  all = map name_of ds

  so_far : names devices ≡ take i all
  so_far = ap names r.is ∙ names_whole all (take i ds) ∙ map_take i ds

  count : length devices ≡ length (take i all)
  count = sym (length-map devices (λ x. x.name)) ∙ ap length so_far

  is_i : length devices ≡ i
  is_i = ap length r.is ∙ length-map (take i ds) (whole_device all) ∙ length-take-le i ds (omega arith)

  inside : i < length all
  inside = let n : length all ≡ length ds = length-map ds name_of in omega arith

  name_at : name_of d ≡ get_or all i (name_of d)
  name_at = ap name_of at ∙ sym (get_or-map name_of ds i d (name_of d) within)

  -- the tests of the tree
  taken : Bool
  taken = list_any (bytes_eq (name_of d)) (names devices)

  lost : Bool
  lost = is_lost (length devices) (parent_after (names devices) d)

  taken_is : list_any (bytes_eq (name_of d)) (names devices) ≡ list_any (bytes_eq (name_of d)) (take i all)
  taken_is = ap (list_any (bytes_eq (name_of d))) so_far

  lost_is : is_lost (length devices) (parent_after (names devices) d) ≡ not (has_parent_before (reverse (take i ds)) d)
  lost_is =
      ap (λ n. is_lost n (parent_after (names devices) d)) count ∙ ap (λ ns. is_lost (length (take i all)) (parent_after ns d)) so_far
      ∙ lost_where (take i all) (word_at (codes "parent") d) ∙ ap not (sym (parent_test ds d i))

  few_is : length ds ≤ 1000 → nat_le 1000 (length devices) ≡ false
  few_is few = let n = is_i in grind (arith, nat_tests)

  kept : (b : Bool) → not b ≡ false → b ≡ true
  kept true e = refl
  kept false e = absurd (true≢false e)

  flipped : (b : Bool) → not b ≡ true → b ≡ false
  flipped true e = absurd (true≢false (sym e))
  flipped false e = refl

  -- the device as the whole file spells it, if its parent comes before it
  same : has_parent_before (reverse (take i ds)) d ≡ true → device_after (names devices) d ≡ whole_device all d
  same h =
      ap (λ ns. device_after ns d) so_far
      ∙ ap (λ (p : Option ℕ). record (whole_device all d) { parent = p }) (parent_front i all (word_at (codes "parent") d) (sym (parent_test ds d i) ∙ h))

  more : list_any (bytes_eq (name_of d)) (names devices) ≡ false → is_lost (length devices) (parent_after (names devices) d) ≡ false
      → Registering ds (i + 1) (devices ++ device_after (names devices) d ∷ [])
  more free known =
      let parent : has_parent_before (reverse (take i ds)) d ≡ true = kept _ (sym lost_is ∙ known) in
      record {
        is =
            ap (λ (x : Device). devices ++ x ∷ []) (same parent) ∙ ap (λ (xs : List Device). xs ++ whole_device all d ∷ []) r.is
            ∙ sym (ap (map (whole_device all)) (take_more ds i d within ∙ ap (λ x. take i ds ++ x ∷ []) (sym at)) ∙ map-append (whole_device all) (take i ds) (d ∷ []));
        apart = r.apart ∙ repeated_later bytes_eq all i (name_of d) inside name_at (sym taken_is ∙ free);
        parents = r.parents ∙ later_next has_parent_before ds i d within at parent;
      }

  -- a device that was registered
  pub registered : (n : ℕ) → RefusesDevice (Ok n) (refusal devices (device_after (names devices) d)) → Registering ds (i + 1) (devices ++ device_after (names devices) d ∷ [])
  registered n h = by (nat_le 1000 (length devices)) (list_any (bytes_eq (name_of d)) (names devices)) (is_lost (length devices) (parent_after (names devices) d)) refl refl h
    where
      by : (a b c : Bool) → list_any (bytes_eq (name_of d)) (names devices) ≡ b → is_lost (length devices) (parent_after (names devices) d) ≡ c
          → RefusesDevice (Ok n) (cond a (Some fault.TooMany) (cond b (Some fault.NameTaken) (cond c (Some fault.NoParent) None))) → Registering ds (i + 1) (devices ++ device_after (names devices) d ∷ [])
      by true b c f g x = absurd x
      by false true c f g x = absurd x
      by false false true f g x = absurd x
      by false false false f g x = more f g

  -- one that was refused
  pub refused : length ds ≤ 1000 → (e : TreeFault) → RefusesDevice {T = ℕ} (Err e) (refusal devices (device_after (names devices) d)) → Stops e i ds
  refused few e h = by (list_any (bytes_eq (name_of d)) (names devices)) (is_lost (length devices) (parent_after (names devices) d)) refl refl
      (subst (λ a. RefusesDevice {T = ℕ} (Err e) (cond a (Some fault.TooMany) (cond (list_any (bytes_eq (name_of d)) (names devices)) (Some fault.NameTaken) (cond (is_lost (length devices) (parent_after (names devices) d)) (Some fault.NoParent) None)))) (few_is few) h)
    where
      by : (b c : Bool) → list_any (bytes_eq (name_of d)) (names devices) ≡ b → is_lost (length devices) (parent_after (names devices) d) ≡ c
          → RefusesDevice {T = ℕ} (Err e) (cond b (Some fault.NameTaken) (cond c (Some fault.NoParent) None)) → Stops e i ds
      by true c f g x = subst (λ t. Stops t i ds) (sym x) (r.apart ∙ sym (repeated_here bytes_eq all i (name_of d) inside name_at (sym taken_is ∙ f)))
      by false true f g x = subst (λ t. Stops t i ds) (sym x) (r.parents ∙ sym (later_here has_parent_before ds i d within at (flipped _ (sym lost_is ∙ g))))
      by false false f g x = subst (λ t. Stops t i ds) (sym x) tt

-- all are registered
pub all_registered : (ds : List Data) (i : ℕ) (devices : List Device) → length ds ≤ i → Registering ds i devices → AreRegistered ds devices
all_registered ds i devices h r =
    let n : length (map name_of ds) ≤ i = let k : length (map name_of ds) ≡ length ds = length-map ds name_of in omega arith in
    record {
      is = r.is ∙ ap (map (whole_device (map name_of ds))) (take_all i ds h);
      apart = r.apart ∙ repeated_none bytes_eq (map name_of ds) i n;
      parents = r.parents ∙ later_none has_parent_before ds i h;
    }

-- none is registered yet
pub none_registered : (ds : List Data) → Registering ds 0 []
none_registered ds = record { is = refl; apart = refl; parents = refl }

-- ---- the rules on names and parents

-- a name that is taken
pub name_broken : (file : Data) (n : ℕ) → Stops fault.NameTaken n (list_in (codes "devices") file) → broken_devices file ≡ Some (broken_at 8 (item_place (codes "devices") n))
unfolding broken_devices
name_broken file n h = ap (λ o. option_or (option_map (broken_at 8) (option_map (item_place (codes "devices")) o)) (first_of (drop 1 device_rules) file)) h

-- a name that comes again, anywhere
pub again_broken : (file : Data) (place : List ℕ) → repeated_device file ≡ Some place → broken_devices file ≡ Some (broken_at 8 place)
unfolding broken_devices
again_broken file place h = ap (λ o. option_or (option_map (broken_at 8) o) (first_of (drop 1 device_rules) file)) h

-- a parent that is not registered, if no name comes again
pub parent_broken : (file : Data) (n : ℕ) → repeated_device file ≡ None → Stops fault.NoParent n (list_in (codes "devices") file) → broken_devices file ≡ Some (broken_at 9 (item_place (codes "devices") n))
unfolding broken_devices
parent_broken file n free h =
    ap (λ o. option_or (option_map (broken_at 8) o) (first_of (drop 1 device_rules) file)) free
    ∙ ap (λ o. option_or (option_map (broken_at 9) (option_map (item_place (codes "devices")) o)) None) h

-- if all are registered, the file obeys both rules
pub none_broken : (file : Data) (devices : List Device) → AreRegistered (list_in (codes "devices") file) devices → broken_devices file ≡ None
unfolding broken_devices
none_broken file devices r =
    ap (λ o. option_or (option_map (broken_at 8) (option_map (item_place (codes "devices")) o)) (first_of (drop 1 device_rules) file)) r.apart
    ∙ ap (λ o. option_or (option_map (broken_at 9) (option_map (item_place (codes "devices")) o)) None) r.parents

-- a text that is no name is that of no device
pub nowhere : (text : List ℕ) (devices : List Device) → AreShort devices → ((0 < length text) → (length text ≤ 32) → ⊥) → None ≡ position (bytes_eq text) (names devices)
nowhere text [] short h = refl
nowhere text (d ∷ devices) short h = by (bytes_eq text d.name) refl (nowhere text devices (λ k e l. short (suc k) e (omega arith)) h) ∙ sym (position_cons (bytes_eq text) d.name (names devices))
  where
    by : (b : Bool) → bytes_eq text d.name ≡ b → None ≡ position (bytes_eq text) (names devices) → None ≡ cond (bytes_eq text d.name) (Some 0) (option_map suc (position (bytes_eq text) (names devices)))
    by true e rest =
        let s : text ≡ d.name = (bytes_decides text d.name).0 e in
        let first : IsShort d.name = short 0 d (omega arith) in
        absurd (h (subst (λ (t : List ℕ). 0 < length t) (sym s) first.least) (subst (λ (t : List ℕ). length t ≤ 32) (sym s) first.most))
    by false e rest = ap (option_map suc) rest ∙ ap (λ b. cond b (Some 0) (option_map suc (position (bytes_eq text) (names devices)))) (sym e)

-- what a value's place among values is, of what they spell
pub value_at : (vs : List Value) (i : ℕ) (v : Value) → i < length vs → v ≡ get_or vs i v → view v ≡ get_or (map view vs) i (view v)
value_at vs i v within at = ap view at ∙ sym (get_or-map view vs i v (view v) within)
