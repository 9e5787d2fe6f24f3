-- That the devices and the links of a file that keeps the rules are such as a machine may have.
use Rattle.std.proofs.Common.{◌≡◌, ◌<◌, ◌≤◌, ◌+◌, ◌∙◌, if◌then◌else◌, ℕ, zero, suc, not, Bool, true, false, nat_le, List, [], ◌∷◌, length, take, drop, get_or, reverse, codes, Option, Some, None, refl, sym, ap, subst, arith}
use Rattle.std.specs.List.{list_all, find}
use Rattle.std.specs.Option.{option_map}
use Rattle.std.proofs.lemmas.Bool.{and_from, and_parts, leb-true, not-true}
use Rattle.std.proofs.lemmas.List.{take_more, take_all, reverse-append}
use Rattle.serde_json.specs.Data.{Data}
use Rattle.sleep_model.specs.declared.machine.Link.{Link}
use Rattle.sleep_model.specs.Order.{EachAfterParent, is_among, dependents, moved, parents_of}
use Rattle.sleep_model.specs.Links.{AreLinks}
use Rattle.borrowed_json.specs.Look.{list_in}
use Rattle.file_rules.specs.Places.{item_place, first_not_after}
use Rattle.file_rules.specs.Form.{Named, row}
use Rattle.file_rules.specs.Devices.{orphan, loose_link, repeated_link, cyclic_link, whole_devices, whole_links}
use Rattle.file_rules.specs.Limits.{too_many, most_items}
use Rattle.file_rules.specs.Fresh.{IsFresh, AreFresh, no_link, closes_nothing}
use Rattle.file_rules.specs.Joined.{AreJoined}
use Rattle.file_rules.specs.Whole.{whole_machine}
use Rattle.file_rules.proofs.Freshly.{later_each, file_after, file_fresh, cycle_seen}

pub none_of : {A B : Type 0} (f : A → B) (o : Option A) → option_map f o ≡ None → o ≡ None
none_of f None e = refl
none_of f (Some x) e = cc

-- ---- how many

some_unless : {X : Type 0} (b : Bool) (x : X) (o : Option X) → (if not b then Some x else o) ≡ None → (b ≡ true) × (o ≡ None)
some_unless true x o e = (refl, e)
some_unless false x o e = cc

-- each row passes, if none is the first that does not
pub rows_pass : {X : Type 0} (test : X → Bool) (xs : List X) → find (λ x. not (test x)) xs ≡ None → list_all test xs ≡ true
rows_pass test [] e = refl
rows_pass test (x ∷ xs) e =
    let both = some_unless (test x) x (find (λ y. not (test y)) xs) e in and_from (test x) (list_all test xs) both.0 (rows_pass test xs both.1)

-- ---- links that are added in turn

module _ (ps : List (Option ℕ)) (ls : List Link) (fresh : AreFresh ps ls) (open_ended : first_not_after (closes_nothing ps) [] 0 ls ≡ None) where
  -- the first i of them may be added in turn
  added : (i : ℕ) → i ≤ length ls → AreLinks ps (reverse (take i ls))
  added zero h = tt
  added (suc i) h =
      let within : i < length ls = omega arith in
      let l = get_or ls i no_link in
      let earlier = reverse (take i ls) in
      let here : IsFresh ps earlier l = fresh.each i within in
      let apart : is_among (moved (length ps) (dependents ps earlier) l.consumer) l.supplier ≡ false = not-true _ (later_each (closes_nothing ps) ls no_link i within open_ended) in
      let one : suc i ≡ i + 1 = omega arith in
      let more : reverse (take (suc i) ls) ≡ l ∷ earlier = ap (λ n. reverse (take n ls)) one ∙ ap reverse (take_more ls i no_link within) ∙ reverse-append (take i ls) (l ∷ []) in
      subst (AreLinks ps) (sym more) (here.supplier, here.consumer, here.new, apart, added i (omega arith))

  pub all_added : AreLinks ps (reverse ls)
  all_added = subst (λ ks. AreLinks ps (reverse ks)) (take_all (length ls) ls (omega arith)) (added (length ls) (omega arith))

-- ---- a file's

-- at most so many devices and links
pub few_items : (d : Data) → too_many d ≡ None → (length (list_in (codes "devices") d) ≤ 1000) × (length (list_in (codes "links") d) ≤ 4000)
few_items d e =
    let few : Named ℕ → Bool = λ (r : Named ℕ). nat_le (length (list_in r.name d)) r.is in
    let rest = and_parts (few (row (codes "devices") 1000)) (list_all few (drop 1 most_items)) (rows_pass few most_items (none_of (λ (r : Named ℕ). r.name) (find (λ r. not (few r)) most_items) e)) in
    let links = and_parts (few (row (codes "links") 4000)) (list_all few (drop 2 most_items)) rest.1 in
    (leb-true _ _ rest.0, leb-true _ _ links.0)

-- a file that keeps the rules on devices and links spells such as a machine may have
pub links_valid : (d : Data) → too_many d ≡ None → orphan d ≡ None → loose_link d ≡ None → repeated_link d ≡ None → cyclic_link d ≡ None →
    EachAfterParent 0 (parents_of (whole_machine d).devices) × AreLinks (parents_of (whole_machine d).devices) (reverse (whole_machine d).links)
links_valid d few parents ends again cycles =
    let counts = few_items d few in
    let joined : AreJoined d = record { few_devices = counts.0; few_links = counts.1; parents = parents; ends = ends; again = again } in
    (file_after d joined, all_added (parents_of (whole_devices d)) (whole_links d) (file_fresh d joined) (cycle_seen d ∙ none_of (item_place (codes "links")) _ cycles))
