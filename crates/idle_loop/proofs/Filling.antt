-- Positions that are filled with the number of their maker, one maker after another.
use Rattle.std.proofs.Common.{◌≡◌, ◌∙◌, ℕ, zero, suc, ◌+◌, ◌<◌, ◌≤◌, ◌≢◌, ◌⊎◌, inl, inr, List, [], ◌∷◌, ◌++◌, length, reverse, get_or, set, replicate, Vec, refl, sym, ap, subst, arith}
use Rattle.std.proofs.lemmas.List.{get_or-set_same, get_or-set_other, length-set, reverse-append, length-reverse, length-replicate, get_or_at, get_or_append_left, ext_get_or}
use mathlib.Core.Logic.{dite}
use native.Mathlib.Decide.{ℕ_discrete}
use Rattle.std.specs.declared.alloc.Global.{Global}
use Rattle.idle_loop.specs.Makers.{AllBelow, AllLess, HaveRanks, AreMakers, filled, ranks}
use Rattle.idle_loop.proofs.Alternate.{places_less, taken_if, passed_if, either_if}

pub filled_more : (who p : ℕ) (ps makers : List ℕ) → filled who (ps ++ p ∷ []) makers ≡ set (filled who ps makers) p who
filled_more who p [] makers = refl
filled_more who p (q ∷ ps) makers = filled_more who p ps (set makers q who)

pub filled_length : (who : ℕ) (ps makers : List ℕ) → length (filled who ps makers) ≡ length makers
filled_length who [] makers = refl
filled_length who (p ∷ ps) makers = filled_length who ps (set makers p who) ∙ length-set makers p who

abbrev IsInFilling : ℕ → List ℕ → Type 0
IsInFilling i [] = ⊥
IsInFilling i (p ∷ ps) = (i ≡ p) ⊎ IsInFilling i ps

abbrev IsNotIn : ℕ → List ℕ → Type 0
IsNotIn i [] = Unit {0}
IsNotIn i (p ∷ ps) = (i ≢ p) × IsNotIn i ps

set_same : (makers : List ℕ) (p i who d : ℕ) → i ≡ p → i < length makers → get_or (set makers p who) i d ≡ who
set_same makers p i who d same low = ap (λ (k : ℕ). get_or (set makers p who) k d) same ∙ get_or-set_same makers p who d (subst (λ (k : ℕ). k < length makers) same low)

stays : (who i d : ℕ) (ps makers : List ℕ) → i < length makers → get_or makers i d ≡ who → get_or (filled who ps makers) i d ≡ who
stays who i d [] makers low is = is
stays who i d (p ∷ ps) makers low is =
    let low' : i < length (set makers p who) = subst (λ (n : ℕ). i < n) (sym (length-set makers p who)) low in
    dite (ℕ_discrete i p)
    (λ (same : i ≡ p). stays who i d ps (set makers p who) low' (set_same makers p i who d same low))
    (λ (other : i ≢ p). stays who i d ps (set makers p who) low' (get_or-set_other makers p i who d other ∙ is))

or_else : (A B C : Type 0) → A ⊎ B → (A → C) → (B → C) → C
or_else A B C (inl a) f g = f a
or_else A B C (inr b) f g = g b

pub filled_in : (who i d : ℕ) (ps makers : List ℕ) → i < length makers → IsInFilling i ps → get_or (filled who ps makers) i d ≡ who
filled_in who i d [] makers low is = absurd is
filled_in who i d (p ∷ ps) makers low is =
    let low' : i < length (set makers p who) = subst (λ (n : ℕ). i < n) (sym (length-set makers p who)) low in
    or_else (i ≡ p) (IsInFilling i ps) (get_or (filled who ps (set makers p who)) i d ≡ who) is
    (λ same. stays who i d ps (set makers p who) low' (set_same makers p i who d same low))
    (λ later. filled_in who i d ps (set makers p who) low' later)

pub filled_out : (who i d : ℕ) (ps makers : List ℕ) → IsNotIn i ps → get_or (filled who ps makers) i d ≡ get_or makers i d
filled_out who i d [] makers out = refl
filled_out who i d (p ∷ ps) makers out = filled_out who i d ps (set makers p who) out.1 ∙ get_or-set_other makers p i who d out.0

in_left : (i : ℕ) (xs ys : List ℕ) → IsInFilling i xs → IsInFilling i (xs ++ ys)
in_left i [] ys is = absurd is
in_left i (x ∷ xs) ys is = or_else (i ≡ x) (IsInFilling i xs) (IsInFilling i (x ∷ xs ++ ys)) is (λ same. inl same) (λ later. inr (in_left i xs ys later))

in_last : (i x : ℕ) (xs : List ℕ) → i ≡ x → IsInFilling i (xs ++ x ∷ [])
in_last i x [] same = inl same
in_last i x (y ∷ xs) same = inr (in_last i x xs same)

in_back : (i : ℕ) (xs : List ℕ) → IsInFilling i xs → IsInFilling i (reverse xs)
in_back i [] is = absurd is
in_back i (x ∷ xs) is = subst (IsInFilling i) (sym (reverse-append (x ∷ []) xs))
    (or_else (i ≡ x) (IsInFilling i xs) (IsInFilling i (reverse xs ++ x ∷ [])) is (λ same. in_last i x (reverse xs) same) (λ later. in_left i (reverse xs) (x ∷ []) (in_back i xs later)))

out_both : (i : ℕ) (xs ys : List ℕ) → IsNotIn i xs → IsNotIn i ys → IsNotIn i (xs ++ ys)
out_both i [] ys a b = b
out_both i (x ∷ xs) ys a b = (a.0, out_both i xs ys a.1 b)

out_back : (i : ℕ) (xs : List ℕ) → IsNotIn i xs → IsNotIn i (reverse xs)
out_back i [] out = tt
out_back i (x ∷ xs) out = subst (IsNotIn i) (sym (reverse-append (x ∷ []) xs)) (out_both i (reverse xs) (x ∷ []) (out_back i xs out.1) (out.0, tt))

-- who made the event at a position: the newest event comes first, and positions count from the oldest
abbrev pub at : List ℕ → ℕ → ℕ
at ms i = get_or (reverse ms) i 0

back_more : (m : ℕ) (ms : List ℕ) → reverse (m ∷ ms) ≡ reverse ms ++ m ∷ []
back_more m ms = reverse-append (m ∷ []) ms

pub at_newest : (m : ℕ) (ms : List ℕ) → at (m ∷ ms) (length ms) ≡ m
at_newest m ms = ap (λ (l : List ℕ). get_or l (length ms) 0) (back_more m ms) ∙ get_or_at (reverse ms) m [] 0 (length ms) (length-reverse ms)

pub at_older : (m i : ℕ) (ms : List ℕ) → i < length ms → at (m ∷ ms) i ≡ at ms i
at_older m i ms low = ap (λ (l : List ℕ). get_or l i 0) (back_more m ms) ∙ get_or_append_left (reverse ms) (m ∷ []) 0 i (subst (λ (n : ℕ). i < n) (sym (length-reverse ms)) low)

not_newest : (i n : ℕ) → i < suc n → i ≢ n → i < n
not_newest i n low other = grind (arith, low, other)

-- an event's position is among those of its maker, and of no other
pub in_places : (who i : ℕ) (ms : List ℕ) → i < length ms → at ms i ≡ who → IsInFilling i (ranks who ms)
in_places who i [] low is = absurd (omega (arith, low))
in_places who i (m ∷ ms) low is = dite (ℕ_discrete i (length ms))
    (λ (newest : i ≡ length ms).
    let mine : m ≡ who = sym (at_newest m ms) ∙ (ap (at (m ∷ ms)) (sym newest) ∙ is) in
    subst (IsInFilling i) (sym (taken_if m who (length ms ∷ ranks who ms) (ranks who ms) mine)) (inl newest))
    (λ (older : i ≢ length ms).
    let low' : i < length ms = not_newest i (length ms) low older in
    let rest : IsInFilling i (ranks who ms) = in_places who i ms low' (sym (at_older m i ms low') ∙ is) in
    either_if (IsInFilling i) m who (length ms ∷ ranks who ms) (ranks who ms) (λ same. inr rest) (λ other. rest))

none_in : (who i n : ℕ) (ms : List ℕ) → length ms ≤ n → n ≤ i → IsNotIn i (ranks who ms)
none_in who i n [] high low = tt
none_in who i n (m ∷ ms) high low =
    let rest : IsNotIn i (ranks who ms) = none_in who i n ms (omega (arith, high)) low in
    either_if (IsNotIn i) m who (length ms ∷ ranks who ms) (ranks who ms) (λ same. (λ e. absurd (omega (arith, high, low, e)), rest)) (λ other. rest)

pub out_places : (who i : ℕ) (ms : List ℕ) → i < length ms → at ms i ≢ who → IsNotIn i (ranks who ms)
out_places who i [] low other = tt
out_places who i (m ∷ ms) low other = dite (ℕ_discrete i (length ms))
    (λ (newest : i ≡ length ms).
    let not_mine : m ≢ who = λ mine. other (ap (at (m ∷ ms)) newest ∙ (at_newest m ms ∙ mine)) in
    subst (IsNotIn i) (sym (passed_if m who (length ms ∷ ranks who ms) (ranks who ms) not_mine)) (none_in who i i ms (omega (arith, newest)) (omega arith)))
    (λ (older : i ≢ length ms).
    let low' : i < length ms = not_newest i (length ms) low older in
    let rest : IsNotIn i (ranks who ms) = out_places who i ms low' (λ e. other (at_older m i ms low' ∙ e)) in
    either_if (IsNotIn i) m who (length ms ∷ ranks who ms) (ranks who ms) (λ same. (older, rest)) (λ n. rest))

-- the positions of the first makers are filled
pub record AreFilled (count : ℕ) (ms makers : List ℕ) : Type 0 where
  pub long : length makers ≡ length ms
  pub each : (i : ℕ) → i < length ms → at ms i < count → get_or makers i 0 ≡ at ms i

pub none_filled : (ms : List ℕ) (n : ℕ) → n ≡ length ms → AreFilled 0 ms (replicate n 0)
none_filled ms n is = record { long = length-replicate n 0 ∙ is; each = λ i low less. absurd (omega (arith, less)) }

not_last : (a n : ℕ) → a < n + 1 → a ≢ n → a < n
not_last a n low other = grind (arith, low, other)

pub fill_next : (who : ℕ) (ms makers : List ℕ) → AreFilled who ms makers → AreFilled (who + 1) ms (filled who (reverse (ranks who ms)) makers)
fill_next who ms makers are = record {
  long = filled_length who (reverse (ranks who ms)) makers ∙ are.long;
  each = λ i low less. dite (ℕ_discrete (at ms i) who)
      (λ (mine : at ms i ≡ who). filled_in who i 0 (reverse (ranks who ms)) makers (subst (λ (n : ℕ). i < n) (sym are.long) low) (in_back i (ranks who ms) (in_places who i ms low mine)) ∙ sym mine)
      (λ (other : at ms i ≢ who). filled_out who i 0 (reverse (ranks who ms)) makers (out_back i (ranks who ms) (out_places who i ms low other)) ∙ are.each i low (not_last (at ms i) who less other));
}

at_below : (n i : ℕ) (ms : List ℕ) → AllBelow n ms → i < length ms → at ms i < n
at_below n i [] all low = absurd (omega (arith, low))
at_below n i (m ∷ ms) all low = dite (ℕ_discrete i (length ms))
    (λ (newest : i ≡ length ms). subst (λ (a : ℕ). a < n) (sym (ap (at (m ∷ ms)) newest ∙ at_newest m ms)) all.0)
    (λ (older : i ≢ length ms). let low' : i < length ms = not_newest i (length ms) low older in subst (λ (a : ℕ). a < n) (sym (at_older m i ms low')) (at_below n i ms all.1 low'))

-- once all makers are done, each position has its maker
pub all_filled : (n : ℕ) (ms makers : List ℕ) → AllBelow n ms → AreFilled n ms makers → makers ≡ reverse ms
all_filled n ms makers all are = ext_get_or 0 makers (reverse ms) (are.long ∙ sym (length-reverse ms))
    (λ i low. let low' : i < length ms = subst (λ (k : ℕ). i < k) are.long low in are.each i low' (at_below n i ms all low'))

-- ---- the lists of positions

pub at_places : (ms : List ℕ) (from : ℕ) (lists : List (Vec ℕ Global)) → HaveRanks ms from lists → (i : ℕ) (v : Vec ℕ Global) → i < length lists → v ≡ get_or lists i v → v.items ≡ reverse (ranks (from + i) ms)
at_places ms from [] are i v low is = absurd (omega (arith, low))
at_places ms from (x ∷ lists) are zero v low is = ap (λ (u : Vec ℕ Global). u.items) is ∙ (are.0 ∙ ap (λ (n : ℕ). reverse (ranks n ms)) (let e : from ≡ from + 0 = omega arith in e))
at_places ms from (x ∷ lists) are (suc i) v low is = at_places ms (from + 1) lists are.1 i v (omega (arith, low)) is ∙ ap (λ (n : ℕ). reverse (ranks n ms)) (let e : from + 1 + i ≡ from + suc i = omega arith in e)

less_at : (n : ℕ) (xs : List ℕ) → AllLess n xs → (k d : ℕ) → k < length xs → get_or xs k d < n
less_at n [] all k d low = absurd (omega (arith, low))
less_at n (x ∷ xs) all zero d low = all.0
less_at n (x ∷ xs) all (suc k) d low = less_at n xs all.1 k d (omega (arith, low))

less_both : (n : ℕ) (xs ys : List ℕ) → AllLess n xs → AllLess n ys → AllLess n (xs ++ ys)
less_both n [] ys a b = b
less_both n (x ∷ xs) ys a b = (a.0, less_both n xs ys a.1 b)

less_back : (n : ℕ) (xs : List ℕ) → AllLess n xs → AllLess n (reverse xs)
less_back n [] all = tt
less_back n (x ∷ xs) all = subst (AllLess n) (sym (reverse-append (x ∷ []) xs)) (less_both n (reverse xs) (x ∷ []) (less_back n xs all.1) (all.0, tt))

-- each position of a list is one of all events
pub places_low : (ms : List ℕ) (count len : ℕ) (lists : List (Vec ℕ Global)) → AreMakers count ms lists → len ≡ length ms → (i : ℕ) (v : Vec ℕ Global) → i < length lists → v ≡ get_or lists i v → (k d : ℕ) → k < length v.items → get_or v.items k d < len
places_low ms count len lists are same i v low is =
    let items : v.items ≡ reverse (ranks (0 + i) ms) = at_places ms 0 lists are.each i v low is in
    subst (λ (n : ℕ). (k d : ℕ) → k < length v.items → get_or v.items k d < n) (sym same)
    (subst (λ (l : List ℕ). (k d : ℕ) → k < length l → get_or l k d < length ms) (sym items) (less_at (length ms) (reverse (ranks (0 + i) ms)) (less_back (length ms) (ranks (0 + i) ms) (places_less (0 + i) ms))))

-- one more list is filled in
pub fill_list : (ms : List ℕ) (count who : ℕ) (lists : List (Vec ℕ Global)) (makers makers' : List ℕ) (v : Vec ℕ Global) → AreMakers count ms lists → who < length lists → v ≡ get_or lists who v → makers' ≡ filled who v.items makers → AreFilled who ms makers → AreFilled (who + 1) ms makers'
fill_list ms count who lists makers makers' v are low is now old =
    let items : v.items ≡ reverse (ranks who ms) = at_places ms 0 lists are.each who v low is ∙ ap (λ (n : ℕ). reverse (ranks n ms)) (let e : 0 + who ≡ who = omega arith in e) in
    subst (AreFilled (who + 1) ms) (sym (now ∙ ap (λ (l : List ℕ). filled who l makers) items)) (fill_next who ms makers old)

-- all lists are
pub lists_filled : (ms : List ℕ) (count who : ℕ) (lists : List (Vec ℕ Global)) (makers : List ℕ) → AreMakers count ms lists → length lists ≤ who → who ≤ length lists → AreFilled who ms makers → makers ≡ reverse ms
lists_filled ms count who lists makers are most least filled_are =
    let same : who ≡ length lists = omega (arith, most, least) in
    all_filled (length lists) ms makers are.below (subst (λ (n : ℕ). AreFilled n ms makers) same filled_are)
