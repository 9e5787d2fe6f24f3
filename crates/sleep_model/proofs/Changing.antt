-- Links whose state changes, and those of them that are active.
use Rattle.std.proofs.Common.{◌≡◌, ◌<◌, ◌∙◌, ℕ, Bool, true, false, ◌==◌, ◌&&◌, ◌||◌, List, [], ◌∷◌, ◌++◌, ◌⊎◌, inl, inr, length, map, Option, refl, sym, ap, ap₂, subst, cond}
use Rattle.std.proofs.lemmas.Bool.{true≢false, or_cases, or_left, or_right}
use Rattle.sleep_model.specs.declared.machine.Link.{Link}
use Rattle.sleep_model.specs.Links.{AllAmong, IsOrder, AreLinks, is_linked}
use Rattle.sleep_model.specs.Order.{is_among, is_link, with_state, active_of, children_from, consumers_of, suppliers_of, dependents, moved, moved_last, order_by}
use Rattle.sleep_model.proofs.FirstOccurrences.{consumers_linked}
use Rattle.sleep_model.proofs.Dependents.{among_app, among_first, among_rest, within_of, all_of}

-- ---- only a state changes

pub same_supplier : (supplier consumer : ℕ) (active : Bool) (l : Link) → (with_state supplier consumer active l).supplier ≡ l.supplier
same_supplier supplier consumer active l = by_test (is_link supplier consumer l)
  where
    by_test : (b : Bool) → (cond b (record l { active = active }) l).supplier ≡ l.supplier
    by_test true = refl
    by_test false = refl

pub same_consumer : (supplier consumer : ℕ) (active : Bool) (l : Link) → (with_state supplier consumer active l).consumer ≡ l.consumer
same_consumer supplier consumer active l = by_test (is_link supplier consumer l)
  where
    by_test : (b : Bool) → (cond b (record l { active = active }) l).consumer ≡ l.consumer
    by_test true = refl
    by_test false = refl

-- what changes only the states of links leaves who hangs below whom, and the order
module _ (f : Link → Link) (s : (l : Link) → (f l).supplier ≡ l.supplier) (c : (l : Link) → (f l).consumer ≡ l.consumer) where
  pub consumers_preserved : (d : ℕ) (ls : List Link) → consumers_of d (map f ls) ≡ consumers_of d ls
  consumers_preserved d [] = refl
  consumers_preserved d (l ∷ ls) =
      ap (λ xs. xs ++ cond ((f l).supplier == d) ((f l).consumer ∷ []) []) (consumers_preserved d ls)
      ∙ ap₂ (λ x y. consumers_of d ls ++ cond (x == d) (y ∷ []) []) (s l) (c l)

  pub suppliers_preserved : (d : ℕ) (ls : List Link) → suppliers_of d (map f ls) ≡ suppliers_of d ls
  suppliers_preserved d [] = refl
  suppliers_preserved d (l ∷ ls) =
      ap (λ xs. xs ++ cond ((f l).consumer == d) ((f l).supplier ∷ []) []) (suppliers_preserved d ls)
      ∙ ap₂ (λ x y. suppliers_of d ls ++ cond (x == d) (y ∷ []) []) (c l) (s l)

  pub linked_preserved : (ls : List Link) (x y : ℕ) → is_linked (map f ls) x y ≡ is_linked ls x y
  linked_preserved [] x y = refl
  linked_preserved (l ∷ ls) x y =
      ap (λ b. (((f l).supplier == x) && ((f l).consumer == y)) || b) (linked_preserved ls x y)
      ∙ ap₂ (λ a b. ((a == x) && (b == y)) || is_linked ls x y) (s l) (c l)

  pub dependents_preserved : (ps : List (Option ℕ)) (ls : List Link) → dependents ps (map f ls) ≡ dependents ps ls
  dependents_preserved ps ls = λ i d. ap (λ xs. children_from d 0 ps ++ xs) (consumers_preserved d ls) i

  pub links_kept : (ps : List (Option ℕ)) (ls : List Link) → AreLinks ps ls → AreLinks ps (map f ls)
  links_kept ps [] h = tt
  links_kept ps (l ∷ ls) h = (
    subst (λ (x : ℕ). x < length ps) (sym (s l)) h.0,
    subst (λ (x : ℕ). x < length ps) (sym (c l)) h.1,
    linked_preserved ls (f l).supplier (f l).consumer ∙ (ap₂ (is_linked ls) (s l) (c l) ∙ h.2),
    ap (λ (dependents_of : ℕ → List ℕ). is_among (moved (length ps) dependents_of (f l).consumer) (f l).supplier) (dependents_preserved ps ls)
        ∙ (ap₂ (λ x y. is_among (moved (length ps) (dependents ps ls) x) y) (c l) (s l) ∙ h.3),
    links_kept ps ls h.4,
  )

  pub order_preserved : (ps : List (Option ℕ)) (ls : List Link) → order_by ps (map f ls) ≡ order_by ps ls
  order_preserved ps [] = refl
  order_preserved ps (l ∷ ls) =
      ap (λ xs. moved_last (moved (length ps) (dependents ps (map f (l ∷ ls))) (f l).consumer) xs) (order_preserved ps ls)
      ∙ (ap (λ (dependents_of : ℕ → List ℕ). moved_last (moved (length ps) dependents_of (f l).consumer) (order_by ps ls)) (dependents_preserved ps (l ∷ ls))
      ∙ ap (λ x. moved_last (moved (length ps) (dependents ps (l ∷ ls)) x) (order_by ps ls)) (c l))

-- ---- the active ones

-- an active link is a link
pub active_linked : (ls : List Link) (s c : ℕ) → is_linked (active_of ls) s c ≡ true → is_linked ls s c ≡ true
active_linked [] s c e = e
active_linked (l ∷ ls) s c e = by_state (active_linked ls s c) l.active e
  where
    by_place : (is_linked (active_of ls) s c ≡ true → is_linked ls s c ≡ true) → (is_link s c l ≡ true) ⊎ (is_linked (active_of ls) s c ≡ true) → (is_link s c l || is_linked ls s c) ≡ true
    by_place rest (inl g) = or_left (is_link s c l) (is_linked ls s c) g
    by_place rest (inr g) = or_right (is_link s c l) (is_linked ls s c) (rest g)

    by_state : (is_linked (active_of ls) s c ≡ true → is_linked ls s c ≡ true) → (b : Bool) → is_linked (cond b (l ∷ active_of ls) (active_of ls)) s c ≡ true → (is_link s c l || is_linked ls s c) ≡ true
    by_state rest false f = or_right (is_link s c l) (is_linked ls s c) (rest f)
    by_state rest true f = by_place rest (or_cases (is_link s c l) (is_linked (active_of ls) s c) f)

-- what hangs below by active links hangs below
pub active_dependents : (ps : List (Option ℕ)) (ls : List Link) (d e : ℕ) → is_among (dependents ps (active_of ls) d) e ≡ true → is_among (dependents ps ls d) e ≡ true
active_dependents ps ls d e m = among_app (children_from d 0 ps) (consumers_of d ls) e ∙ by_place (or_cases (is_among (children_from d 0 ps) e) (is_among (consumers_of d (active_of ls)) e) (sym (among_app (children_from d 0 ps) (consumers_of d (active_of ls)) e) ∙ m))
  where
    by_place : (is_among (children_from d 0 ps) e ≡ true) ⊎ (is_among (consumers_of d (active_of ls)) e ≡ true) → (is_among (children_from d 0 ps) e || is_among (consumers_of d ls) e) ≡ true
    by_place (inl f) = or_left (is_among (children_from d 0 ps) e) (is_among (consumers_of d ls) e) f
    by_place (inr f) = or_right (is_among (children_from d 0 ps) e) (is_among (consumers_of d ls) e) (consumers_linked ls d e ∙ active_linked ls d e (sym (consumers_linked (active_of ls) d e) ∙ f))

-- an order stays one if less hangs below its devices
pub fewer_order : (dependents_of dependents_of' : ℕ → List ℕ) → ((d e : ℕ) → is_among (dependents_of' d) e ≡ true → is_among (dependents_of d) e ≡ true) → (xs : List ℕ) → IsOrder dependents_of xs → IsOrder dependents_of' xs
fewer_order dependents_of dependents_of' f [] h = tt
fewer_order dependents_of dependents_of' f (x ∷ xs) h = (h.0, all_of xs (dependents_of' x) (λ y m. within_of xs (dependents_of x) h.1 y (f x y m)), fewer_order dependents_of dependents_of' f xs h.2)
