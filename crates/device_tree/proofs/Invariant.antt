-- The invariant of a tree with one more device.
use Rattle.std.proofs.Common.{◌≡◌, ◌<◌, ◌≤◌, ◌+◌, ◌++◌, ◌∙◌, ℕ, zero, suc, Bool, true, false, ◌==◌, ◌⊎◌, inl, inr, List, [], ◌∷◌, length, get_or, set, cond, Option, Some, None, IfSome, nat_le, refl, sym, ap, subst, arith, length-set}
use Rattle.std.proofs.lemmas.Bool.Decides.{nat_tests}
use Rattle.std.proofs.lemmas.Bool.{cases_lt, leb-false}
use Rattle.std.proofs.lemmas.List.{map_push, length-map, length_push, get_or_past, get_or_append_left, get_or-set_same, get_or-set_other}
use Rattle.sleep_model.specs.declared.machine.Device.{Device}
use Rattle.sleep_model.specs.Order.{is_parent, children_from, parents_of, EachAfterParent}
use Rattle.sleep_model.proofs.Children.{children_push, children_none, after_parent_push}
use Rattle.device_tree.specs.declared.fault.TreeFault.TheVariants.{TooMany, NameTaken, NoParent}
use Rattle.device_tree.specs.Refusal.{refusal, is_taken, is_lost}
use Rattle.device_rows.specs.Table.{with_number}
use Rattle.device_tree.specs.Invariant.{HasChildren, TreeInvariant}

-- each row has the children, and no row has none
pub row_is : (ps : List (Option ℕ)) (rows : List (List ℕ)) → EachAfterParent 0 ps → HasChildren ps rows → (d : ℕ) → get_or rows d [] ≡ children_from d 0 ps
row_is ps rows after h d = by_place (cases_lt d (length ps))
  where
    by_place : ((d < length ps) ⊎ (length ps ≤ d)) → get_or rows d [] ≡ children_from d 0 ps
    by_place (inl l) = h.children d l
    by_place (inr l) = get_or_past rows d [] (omega (arith, h.count)) ∙ sym (children_none d 0 ps after (omega arith))

-- a new row at the end, and the new device at the end of its parent's
module _ (ps : List (Option ℕ)) (rows : List (List ℕ)) (after : EachAfterParent 0 ps) (h : HasChildren ps rows) where
  grown : (d : ℕ) → get_or (rows ++ [] ∷ []) d [] ≡ children_from d 0 ps
  grown d = by_place (cases_lt d (length rows))
    where
      past : (k : ℕ) (xs : List (List ℕ)) → length xs ≤ k → get_or (xs ++ [] ∷ []) k [] ≡ []
      past zero [] l = refl
      past (suc k) [] l = refl
      past zero (x ∷ xs) l = absurd (omega arith)
      past (suc k) (x ∷ xs) l = past k xs (omega arith)

      by_place : ((d < length rows) ⊎ (length rows ≤ d)) → get_or (rows ++ [] ∷ []) d [] ≡ children_from d 0 ps
      by_place (inl l) = get_or_append_left rows ([] ∷ []) [] d l ∙ row_is ps rows after h d
      by_place (inr l) = past d rows l ∙ sym (children_none d 0 ps after (omega (arith, h.count)))

  with_number_at : (p : Option ℕ) → IfSome p (λ q. q < length ps) → (d : ℕ) → get_or (with_number (rows ++ [] ∷ []) p (length ps)) d [] ≡ children_from d 0 ps ++ cond (is_parent d p) (length ps ∷ []) []
  with_number_at None i d = grown d ∙ nothing (children_from d 0 ps)
    where
      nothing : (xs : List ℕ) → xs ≡ xs ++ []
      nothing [] = refl
      nothing (x ∷ xs) = ap (λ ys. x ∷ ys) (nothing xs)
  with_number_at (Some p) i d = by_test (p == d) refl
    where
      row : List ℕ
      row = get_or (rows ++ [] ∷ []) p [] ++ length ps ∷ []

      within : p < length (rows ++ [] ∷ [])
      within = let n = length_push rows [] in omega (arith, h.count, n)

      nothing : (xs : List ℕ) → xs ≡ xs ++ []
      nothing [] = refl
      nothing (x ∷ xs) = ap (λ ys. x ∷ ys) (nothing xs)

      by_test : (b : Bool) → (p == d) ≡ b → get_or (set (rows ++ [] ∷ []) p (get_or (rows ++ [] ∷ []) p [] ++ length ps ∷ [])) d [] ≡ children_from d 0 ps ++ cond b (length ps ∷ []) []
      by_test true e =
          let same : p ≡ d = grind (arith, nat_tests) in
          subst (λ k. get_or (set (rows ++ [] ∷ []) p (get_or (rows ++ [] ∷ []) p [] ++ length ps ∷ [])) k [] ≡ children_from k 0 ps ++ length ps ∷ []) same
          (get_or-set_same (rows ++ [] ∷ []) p (get_or (rows ++ [] ∷ []) p [] ++ length ps ∷ []) [] within ∙ ap (λ xs. xs ++ length ps ∷ []) (grown p))
      by_test false e =
          let other : d ≡ p → ⊥ = grind (arith, nat_tests) in
          get_or-set_other (rows ++ [] ∷ []) p d (get_or (rows ++ [] ∷ []) p [] ++ length ps ∷ []) [] other ∙ (grown d ∙ nothing (children_from d 0 ps))

  with_number_length : (p : Option ℕ) → length (with_number (rows ++ [] ∷ []) p (length ps)) ≡ length ps + 1
  with_number_length None = length_push rows [] ∙ ap (λ n. n + 1) h.count
  with_number_length (Some p) = length-set (rows ++ [] ∷ []) p (get_or (rows ++ [] ∷ []) p [] ++ length ps ∷ []) ∙ (length_push rows [] ∙ ap (λ n. n + 1) h.count)

  children_more : (p : Option ℕ) → IfSome p (λ q. q < length ps) → HasChildren (ps ++ p ∷ []) (with_number (rows ++ [] ∷ []) p (length ps))
  children_more p i = record {
    count = with_number_length p ∙ sym (length_push ps p);
    children = λ d l. with_number_at p i d ∙ sym (children_push d 0 ps p ∙ ap (λ k. children_from d 0 ps ++ cond (is_parent d p) (k ∷ []) []) zero_less);
  }
    where
      zero_less : 0 + length ps ≡ length ps
      zero_less = omega arith

-- what is not refused
pub record IsFree (ds : List Device) (d : Device) : Type 0 where
  pub few : length ds < 1000
  pub new : is_taken d.name ds ≡ false
  pub parent : is_lost (length ds) d.parent ≡ false

pub free_of : (ds : List Device) (d : Device) → refusal ds d ≡ None → IsFree ds d
free_of ds d e = by_tests (nat_le 1000 (length ds)) (is_taken d.name ds) (is_lost (length ds) d.parent) refl refl refl e
  where
    by_tests : (a b c : Bool) → nat_le 1000 (length ds) ≡ a → is_taken d.name ds ≡ b → is_lost (length ds) d.parent ≡ c → cond a (Some TooMany) (cond b (Some NameTaken) (cond c (Some NoParent) None)) ≡ None → IsFree ds d
    by_tests true b c f g h x = absurd (cc)
    by_tests false true c f g h x = absurd (cc)
    by_tests false false true f g h x = absurd (cc)
    by_tests false false false f g h x = record { few = leb-false 1000 (length ds) f; new = g; parent = h }

pub parent_within : (n : ℕ) (p : Option ℕ) → is_lost n p ≡ false → IfSome p (λ q. q < n)
parent_within n None e = tt
parent_within n (Some p) e = leb-false n p e

-- the tree with the device after the others
pub preserved_more : (ds : List Device) (names : List (List ℕ)) (rows : List (List ℕ)) (d : Device) → TreeInvariant ds names rows → IsFree ds d → TreeInvariant (ds ++ d ∷ []) (names ++ d.name ∷ []) (with_number (rows ++ [] ∷ []) d.parent (length ds))
preserved_more ds names rows d k f =
    let ps = parents_of ds in
    let n : length ps ≡ length ds = length-map ds (λ x. x.parent) in
    let parent : IfSome d.parent (λ q. q < length ds) = parent_within (length ds) d.parent f.parent in
    let parent' : IfSome d.parent (λ q. q < length ps) = subst (λ m. IfSome d.parent (λ q. q < m)) (sym n) parent in
    let zero_less : length ps ≡ 0 + length ps = omega arith in
    let grew : parents_of (ds ++ d ∷ []) ≡ ps ++ d.parent ∷ [] = map_push (λ x. x.parent) ds d in
    record {
      tree = record {
        few = let m = length_push ds d in omega (arith, f.few, m);
        parents = subst (EachAfterParent 0) (sym grew) (after_parent_push 0 ps d.parent k.tree.parents (subst (λ m. IfSome d.parent (λ q. q < m)) zero_less parent'));
      };
      same_names = ap (λ ns. ns ++ d.name ∷ []) k.same_names ∙ sym (map_push (λ x. x.name) ds d);
      children = subst (λ xs. HasChildren xs (with_number (rows ++ [] ∷ []) d.parent (length ds))) (sym grew)
          (subst (λ m. HasChildren (ps ++ d.parent ∷ []) (with_number (rows ++ [] ∷ []) d.parent m)) n (children_more ps rows k.tree.parents k.children d.parent parent'));
    }

pub kept_as : {ds es : List Device} {ns ms : List (List ℕ)} {xs ys : List (List ℕ)} → ds ≡ es → ns ≡ ms → xs ≡ ys → TreeInvariant ds ns xs → TreeInvariant es ms ys
kept_as {ds} {es} {ns} {ms} {xs} {ys} e f g k = subst (λ (l : List Device). TreeInvariant l ms ys) e (subst (λ (l : List (List ℕ)). TreeInvariant ds l ys) f (subst (TreeInvariant ds ns) g k))
