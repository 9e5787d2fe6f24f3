-- The first of several that is there.
use Rattle.std.proofs.Common.{◌≡◌, ◌∙◌, Option, Some, None, refl, ap}
use Rattle.std.specs.Option.{option_or, option_map}

map_or : {A B : Type 0} (f : A → B) (a b : Option A) → option_map f (option_or a b) ≡ option_or (option_map f a) (option_map f b)
map_or f None b = refl
map_or f (Some x) b = refl

-- one more after those before
or_more : {A B : Type 0} (f : A → B) (r s t : Option A) (x y : Option B) → r ≡ option_or s t → option_map f s ≡ x → option_map f t ≡ y → option_map f r ≡ option_or x y
or_more f r s t x y e g h = ap (option_map f) e ∙ map_or f s t ∙ ap (λ o. option_or o (option_map f t)) g ∙ ap (option_or x) h

-- six, from the front or from the back
six : {A : Type 0} (a b c d e f : Option A) → option_or (option_or (option_or (option_or (option_or a b) c) d) e) f ≡ option_or a (option_or b (option_or c (option_or d (option_or e f))))
six (Some x) b c d e f = refl
six None (Some x) c d e f = refl
six None None (Some x) d e f = refl
six None None None (Some x) e f = refl
six None None None None (Some x) f = refl
six None None None None None f = refl

-- seven, from the front or from the back
seven : {A : Type 0} (a b c d e f g : Option A)
    → option_or (option_or (option_or (option_or (option_or (option_or a b) c) d) e) f) g ≡ option_or a (option_or b (option_or c (option_or d (option_or e (option_or f g)))))
seven (Some x) b c d e f g = refl
seven None (Some x) c d e f g = refl
seven None None (Some x) d e f g = refl
seven None None None (Some x) e f g = refl
seven None None None None (Some x) f g = refl
seven None None None None None (Some x) g = refl
seven None None None None None None g = refl

-- none after the last
pub last : {A : Type 0} (a : Option A) → a ≡ option_or a None
last None = refl
last (Some x) = refl

-- the first of six rules
pub first_of_six : {A B : Type 0} (h : A → B) (a b c d e f r2 r3 r4 r5 r6 : Option A) (x1 x2 x3 x4 x5 x6 : Option B)
    → r2 ≡ option_or a b → r3 ≡ option_or r2 c → r4 ≡ option_or r3 d → r5 ≡ option_or r4 e → r6 ≡ option_or r5 f
    → option_map h a ≡ x1 → option_map h b ≡ x2 → option_map h c ≡ x3 → option_map h d ≡ x4 → option_map h e ≡ x5 → option_map h f ≡ x6
    → option_map h r6 ≡ option_or x1 (option_or x2 (option_or x3 (option_or x4 (option_or x5 x6))))
first_of_six h a b c d e f r2 r3 r4 r5 r6 x1 x2 x3 x4 x5 x6 e2 e3 e4 e5 e6 m1 m2 m3 m4 m5 m6 =
    or_more h r6 r5 f (option_or (option_or (option_or (option_or (x1) x2) x3) x4) x5) x6 e6 (or_more h r5 r4 e (option_or (option_or (option_or (x1) x2) x3) x4) x5 e5 (or_more h r4 r3 d (option_or (option_or (x1) x2) x3) x4 e4 (or_more h r3 r2 c (option_or (x1) x2) x3 e3 (or_more h r2 a b (x1) x2 e2 m1 m2) m3) m4) m5) m6
    ∙ six x1 x2 x3 x4 x5 x6

-- the first of seven lists
pub first_of_seven : {A B : Type 0} (h : A → B) (a b c d e f g r2 r3 r4 r5 r6 r7 : Option A) (x1 x2 x3 x4 x5 x6 x7 : Option B)
    → r2 ≡ option_or a b → r3 ≡ option_or r2 c → r4 ≡ option_or r3 d → r5 ≡ option_or r4 e → r6 ≡ option_or r5 f → r7 ≡ option_or r6 g
    → option_map h a ≡ x1 → option_map h b ≡ x2 → option_map h c ≡ x3 → option_map h d ≡ x4 → option_map h e ≡ x5 → option_map h f ≡ x6 → option_map h g ≡ x7
    → option_map h r7 ≡ option_or x1 (option_or x2 (option_or x3 (option_or x4 (option_or x5 (option_or x6 x7)))))
first_of_seven h a b c d e f g r2 r3 r4 r5 r6 r7 x1 x2 x3 x4 x5 x6 x7 e2 e3 e4 e5 e6 e7 m1 m2 m3 m4 m5 m6 m7 =
    or_more h r7 r6 g (option_or (option_or (option_or (option_or (option_or (x1) x2) x3) x4) x5) x6) x7 e7 (or_more h r6 r5 f (option_or (option_or (option_or (option_or (x1) x2) x3) x4) x5) x6 e6 (or_more h r5 r4 e (option_or (option_or (option_or (x1) x2) x3) x4) x5 e5 (or_more h r4 r3 d (option_or (option_or (x1) x2) x3) x4 e4 (or_more h r3 r2 c (option_or (x1) x2) x3 e3 (or_more h r2 a b (x1) x2 e2 m1 m2) m3) m4) m5) m6) m7
    ∙ seven x1 x2 x3 x4 x5 x6 x7
