-- A stable sort by the order of the log is the definition's.
use Rattle.std.proofs.Common.{◌≡◌, ℕ, ◌<◌, ◌≤◌, suc, Bool, true, false, not, ◌&&◌, cond, if◌then◌else◌, List, [], ◌∷◌, ◌++◌, map, length, get_or, filter, true≢false, refl, sym, ap, subst, ◌∙◌, arith}
use Rattle.std.proofs.lemmas.List.Sorted.{sorted_far}
use Rattle.std.specs.Cmp.{IsStrictWeakOrder}
use Rattle.std.specs.List.Sorted.{IsSortedBy, IsSortedByClosure, IsStableBy, IsStableByClosure, ties}
use Rattle.std.specs.Fn.{Called}
use Rattle.std.specs.Ordering.{is_lt}
use Rattle.std.specs.declared.cmp.Ordering.{Ordering}
use Rattle.std.proofs.lemmas.Fn.{always_returns_same}
use denote.Param.Members.{Mut}
use denote.Ref.{Bor}
use Rattle.sleep_model.specs.declared.entry.SourceEntry.{SourceEntry}
use Rattle.log_merge.specs.Remainders.{seen}
use Rattle.sleep_model.specs.declared.entry.JournalEntry.{JournalEntry}
use Rattle.sleep_model.specs.Merge.{in_order, of_source, put_in_order, precedes}
use Rattle.log_merge.proofs.Orders.{log_order, order_through}

pub head_of : {X : Type 0} (x y : X) (xs ys : List X) → x ∷ xs ≡ y ∷ ys → x ≡ y
head_of x y xs ys e = cc

pub tail_of : {X : Type 0} (x y : X) (xs ys : List X) → x ∷ xs ≡ y ∷ ys → xs ≡ ys
tail_of x y xs ys e = cc

module _ {X : Type 0} (lt : X → X → Bool) where
  -- nothing of ys comes before x
  abbrev pub Low : X → List X → Type 0
  Low x [] = Unit {0}
  Low x (y ∷ ys) = (lt y x ≡ false) × Low x ys

  -- each comes before none of the earlier ones
  abbrev pub Up : List X → Type 0
  Up [] = Unit {0}
  Up (x ∷ xs) = Low x xs × Up xs

  abbrev pub put : X → List X → List X
  put x [] = x ∷ []
  put x (y ∷ ys) = if lt y x then y ∷ put x ys else x ∷ y ∷ ys

  abbrev pub order : List X → List X
  order [] = []
  order (x ∷ xs) = put x (order xs)

  pub low_append : (x : X) (xs ys : List X) → Low x xs → Low x ys → Low x (xs ++ ys)
  low_append x [] ys a b = b
  low_append x (z ∷ xs) ys a b = (a.0, low_append x xs ys a.1 b)

  low_of : (x : X) (xs : List X) → ((k : ℕ) (d : X) → k < length xs → lt (get_or xs k d) x ≡ false) → Low x xs
  low_of x [] h = tt
  low_of x (y ∷ ys) h = (h 0 x (omega arith), low_of x ys (λ k d l. h (suc k) d (omega arith)))

  up_of : (xs : List X) → ((i j : ℕ) (d : X) → i ≤ j → j < length xs → lt (get_or xs j d) (get_or xs i d) ≡ false) → Up xs
  up_of [] h = tt
  up_of (x ∷ xs) h = (
    low_of x xs (λ k d l. h 0 (suc k) d (omega arith) (omega arith)),
    up_of xs (λ i j d a b. h (suc i) (suc j) d (omega arith) (omega arith)),
  )

  module _ (o : IsStrictWeakOrder lt) where
    pub never : (x : X) → lt x x ≡ false
    never x = by (lt x x) refl
      where
        by : (b : Bool) → lt x x ≡ b → lt x x ≡ false
        by true e = o.one_way x x e
        by false e = e

    pub low_below : (x y : X) (ys : List X) → lt y x ≡ false → Low y ys → Low x ys
    low_below x y [] h a = tt
    low_below x y (z ∷ zs) h a = (o.chain z y x a.0 h, low_below x y zs h a.1)

    pub low_put : (a x : X) (ys : List X) → lt x a ≡ false → Low a ys → Low a (put x ys)
    low_put a x [] h l = (h, tt)
    low_put a x (y ∷ ys) h l = by (lt y x) (low_put a x ys h l.1)
      where
        by : (b : Bool) → Low a (put x ys) → Low a (if b then y ∷ put x ys else x ∷ y ∷ ys)
        by true below = (l.0, below)
        by false below = (h, l)

    up_put : (x : X) (ys : List X) → Up ys → Up (put x ys)
    up_put x [] u = (tt, tt)
    up_put x (y ∷ ys) u = by (lt y x) refl (up_put x ys u.1)
      where
        by : (b : Bool) → lt y x ≡ b → Up (put x ys) → Up (if b then y ∷ put x ys else x ∷ y ∷ ys)
        by true e up = (low_put y x ys (o.one_way y x e) u.0, up)
        by false e up = ((e, low_below x y ys e u.0), u)

    pub up_order : (xs : List X) → Up (order xs)
    up_order [] = tt
    up_order (x ∷ xs) = up_put x (order xs) (up_order xs)

    tied : (x y : X) → lt x y ≡ false → lt y x ≡ false → ties lt x y ≡ true
    tied x y p q = rw (p, q) refl

    untied : (x y z : X) → lt y x ≡ true → ties lt z x ≡ true → ties lt z y ≡ true → ⊥
    untied x y z h p q = by (lt z y) (lt y z) (lt z x) (lt x z) refl refl refl refl p q
      where
        by : (a b c d : Bool) → lt z y ≡ a → lt y z ≡ b → lt z x ≡ c → lt x z ≡ d
            → not c && not d ≡ true → not a && not b ≡ true → ⊥
        by true b c d ha hb hc hd p q = absurd (true≢false (sym q))
        by false true c d ha hb hc hd p q = absurd (true≢false (sym q))
        by false false true d ha hb hc hd p q = absurd (true≢false (sym p))
        by false false false d ha hb hc hd p q = absurd (true≢false (sym h ∙ o.chain y z x hb hc))

    one_preserved : (x y : X) (l : List X) (a b : Bool) → (a ≡ true → b ≡ true → ⊥)
        → cond b (y ∷ cond a (x ∷ l) l) (cond a (x ∷ l) l) ≡ cond a (x ∷ cond b (y ∷ l) l) (cond b (y ∷ l) l)
    one_preserved x y l true true h = absurd (h refl refl)
    one_preserved x y l true false h = refl
    one_preserved x y l false true h = refl
    one_preserved x y l false false h = refl

    stable_put : (x : X) (ys : List X) (z : X) → filter (ties lt z) (put x ys) ≡ filter (ties lt z) (x ∷ ys)
    stable_put x [] z = refl
    stable_put x (y ∷ ys) z = by (lt y x) refl (stable_put x ys z)
      where
        by : (b : Bool) → lt y x ≡ b → filter (ties lt z) (put x ys) ≡ filter (ties lt z) (x ∷ ys)
            → filter (ties lt z) (if b then y ∷ put x ys else x ∷ y ∷ ys) ≡ filter (ties lt z) (x ∷ y ∷ ys)
        by true e journal_of_entries =
            ap (λ (l : List X). cond (ties lt z y) (y ∷ l) l) journal_of_entries
            ∙ one_preserved x y (filter (ties lt z) ys) (ties lt z x) (ties lt z y) (untied x y z e)
        by false e journal_of_entries = refl

    stable_order : (xs : List X) (z : X) → filter (ties lt z) (order xs) ≡ filter (ties lt z) xs
    stable_order [] z = refl
    stable_order (x ∷ xs) z =
        stable_put x (order xs) z ∙ ap (λ (l : List X). cond (ties lt z x) (x ∷ l) l) (stable_order xs z)

    -- what passes a test comes before nothing that all of the list come after
    found : (p : X → Bool) (a x : X) (zs l : List X) → Low a zs → filter p zs ≡ x ∷ l → lt x a ≡ false
    found p a x [] l w e = cc
    found p a x (z ∷ zs) l w e = by (p z) e (found p a x zs l w.1)
      where
        by : (b : Bool) → cond b (z ∷ filter p zs) (filter p zs) ≡ x ∷ l → (filter p zs ≡ x ∷ l → lt x a ≡ false) → lt x a ≡ false
        by true e later =
            let same : z ≡ x = head_of z x (filter p zs) l e in
            let P : X → Type 0 = λ v. lt v a ≡ false in subst P same w.0
        by false e later = later e

    preserved_first : (p : X → Bool) (x : X) (xs : List X) → p x ≡ true → filter p (x ∷ xs) ≡ x ∷ filter p xs
    preserved_first p x xs h = rw h refl

    ties_itself : (x : X) → ties lt x x ≡ true
    ties_itself x = tied x x (never x) (never x)

    without_first : (b : Bool) (x : X) (l m : List X) → cond b (x ∷ l) l ≡ cond b (x ∷ m) m → l ≡ m
    without_first true x l m e = tail_of x x l m e
    without_first false x l m e = e

    -- two lists in order with the same ties are the same
    same : (xs ys : List X) → Up xs → Up ys → ((z : X) → filter (ties lt z) xs ≡ filter (ties lt z) ys) → xs ≡ ys
    same [] [] u v h = refl
    same [] (y ∷ ys) u v h = let e = h y ∙ preserved_first (ties lt y) y ys (ties_itself y) in cc
    same (x ∷ xs) [] u v h = let e = sym (h x) ∙ preserved_first (ties lt x) x xs (ties_itself x) in cc
    same (x ∷ xs) (y ∷ ys) u v h =
        let xy : lt x y ≡ false = found (ties lt x) y x (y ∷ ys) (filter (ties lt x) xs) (never y, v.0)
        (sym (h x) ∙ preserved_first (ties lt x) x xs (ties_itself x)) in
        let yx : lt y x ≡ false = found (ties lt y) x y (x ∷ xs) (filter (ties lt y) ys) (never x, u.0)
        (h y ∙ preserved_first (ties lt y) y ys (ties_itself y)) in
        let first : x ≡ y = head_of x y (filter (ties lt x) xs) (filter (ties lt x) ys)
        (sym (preserved_first (ties lt x) x xs (ties_itself x)) ∙ h x ∙ preserved_first (ties lt x) y ys (tied x y xy yx)) in
        let rest : xs ≡ ys = same xs ys u.1 v.1 (λ z. without_first (ties lt z x) x (filter (ties lt z) xs) (filter (ties lt z) ys)
        (let P : X → Type 0 = λ w. filter (ties lt z) (x ∷ xs) ≡ cond (ties lt z w) (w ∷ filter (ties lt z) ys) (filter (ties lt z) ys)
        in subst P (sym first) (h z))) in
        cc

    -- a stable sort gives what putting one by one in order gives
    pub sort_is : (xs ys : List X) → IsSortedBy lt ys → IsStableBy lt xs ys → ys ≡ order xs
    sort_is xs ys up stable =
        same ys (order xs) (up_of ys (sorted_far lt o ys up)) (up_order xs) (λ z. stable z ∙ sym (stable_order xs z))

module _ {X : Type 0} (f : X → JournalEntry) where
  put_through : (x : X) (ys : List X)
      → map f (put (λ x y. precedes (f x) (f y)) x ys) ≡ put_in_order (f x) (map f ys)
  put_through x [] = refl
  put_through x (y ∷ ys) = by (precedes (f y) (f x)) (put_through x ys)
    where
      by : (b : Bool) → map f (put (λ x y. precedes (f x) (f y)) x ys) ≡ put_in_order (f x) (map f ys)
          → map f (if b then y ∷ put (λ x y. precedes (f x) (f y)) x ys else x ∷ y ∷ ys)
          ≡ (if b then f y ∷ put_in_order (f x) (map f ys) else f x ∷ f y ∷ map f ys)
      by true rest = ap (λ (l : List JournalEntry). f y ∷ l) rest
      by false rest = refl

  order_is : (xs : List X) → map f (order (λ x y. precedes (f x) (f y)) xs) ≡ in_order (map f xs)
  order_is [] = refl
  order_is (x ∷ xs) =
      put_through x (order (λ x y. precedes (f x) (f y)) xs)
      ∙ ap (λ (l : List JournalEntry). put_in_order (f x) l) (order_is xs)

  -- what is seen of a stable sort is in the order of the log
  pub sort_through : (xs ys : List X) → IsSortedBy (λ x y. precedes (f x) (f y)) ys
      → IsStableBy (λ x y. precedes (f x) (f y)) xs ys → map f ys ≡ in_order (map f xs)
  sort_through xs ys up stable =
      ap (λ (l : List X). map f l) (sort_is (λ x y. precedes (f x) (f y)) (order_through f) xs ys up stable)
      ∙ order_is xs

put_is : (x : JournalEntry) (ys : List JournalEntry) → put precedes x ys ≡ put_in_order x ys
put_is x [] = refl
put_is x (y ∷ ys) = by (precedes y x) (put_is x ys)
  where
    by : (b : Bool) → put precedes x ys ≡ put_in_order x ys
        → (if b then y ∷ put precedes x ys else x ∷ y ∷ ys) ≡ (if b then y ∷ put_in_order x ys else x ∷ y ∷ ys)
    by true rest = ap (λ (l : List JournalEntry). y ∷ l) rest
    by false rest = refl

in_order_is : (xs : List JournalEntry) → order precedes xs ≡ in_order xs
in_order_is [] = refl
in_order_is (x ∷ xs) =
    put_is x (order precedes xs) ∙ ap (λ (l : List JournalEntry). put_in_order x l) (in_order_is xs)

pub up_in_order : (xs : List JournalEntry) → Up precedes (in_order xs)
up_in_order xs =
    let P : List JournalEntry → Type 0 = λ l. Up precedes l in subst P (in_order_is xs) (up_order precedes log_order xs)

pub low_put_in_order : (a x : JournalEntry) (ys : List JournalEntry) → precedes x a ≡ false
    → Low precedes a ys → Low precedes a (put_in_order x ys)
low_put_in_order a x ys h l =
    let P : List JournalEntry → Type 0 = λ l. Low precedes a l in
    subst P (put_is x ys) (low_put precedes log_order a x ys h l)

-- what a stable sort of references gives, if each call compares as the log does
pub sorted_as_seen : {F : Type 0} {g : Mut F (Bor (Bor SourceEntry) × (Bor (Bor SourceEntry) × Unit {0})) Ordering} {f : F}
    (xs ys : List (Bor SourceEntry)) → IsSortedByClosure g f ys → IsStableByClosure g f xs ys
    → ((a : Bor (Bor SourceEntry) × (Bor (Bor SourceEntry) × Unit {0})) (r : Ordering) (f' : F) → Called g f a r f'
    → (is_lt r ≡ precedes (of_source a.0.now.now) (of_source a.1.0.now.now)) × (f' ≡ f))
    → seen ys ≡ in_order (seen xs)
sorted_as_seen {g = g} {f = f} xs ys up stable h =
    let through : Bor SourceEntry → JournalEntry = λ b. of_source b.now in
    let compares = always_returns_same g (λ (a : Bor (Bor SourceEntry) × (Bor (Bor SourceEntry) × Unit {0})) (r : Ordering).
    is_lt r ≡ precedes (of_source a.0.now.now) (of_source a.1.0.now.now)) f h in
    sort_through through xs ys
    (up (λ x y. precedes (of_source x.now) (of_source y.now)) (order_through through) compares)
    (stable (λ x y. precedes (of_source x.now) (of_source y.now)) (order_through through) compares)
