-- The room that notes take, and sums over actors.
use Rattle.std.proofs.Common.{◌≡◌, ◌≤◌, ◌<◌, ◌+◌, ◌++◌, ◌∙◌, ℕ, zero, suc, Bool, true, false, ◌==◌, List, [], ◌∷◌, length, Some, slice_get, refl, ap, arith}
use Rattle.std.proofs.lemmas.Bool.Decides.{nat_tests}
use Rattle.sleep_model.specs.declared.entry.Actor.{Actor}
use Rattle.sleep_model.specs.declared.entry.Actor.TheVariants as actor
use Rattle.sleep_model.specs.declared.entry.Entry.{Entry}
use Rattle.sleep_model.specs.declared.entry.Kind.{Kind}
use Rattle.sleep_model.specs.EntryClasses.{EntryClass, Notes, class_of}
use Rattle.sleep_model.specs.Path.{is_same}
use Rattle.sleep_model.specs.Places.{call_places, places_if}

-- ---- what notes weigh

-- the room on source s for an entry of that class: that of the call that it notes
abbrev pub part_places : ℕ → EntryClass → ℕ
part_places s (Notes t made) = places_if s t (call_places made)
part_places s _ = 0

-- the room on source s for an entry of that kind
abbrev pub kind_places : ℕ → Kind → ℕ
kind_places s k = part_places s (class_of k)

-- those of all these
abbrev pub weigh : ℕ → List Kind → ℕ
weigh s [] = 0
weigh s (k ∷ rest) = kind_places s k + weigh s rest

pub weigh_both : (s : ℕ) (xs ys : List Kind) → weigh s (xs ++ ys) ≡ weigh s xs + weigh s ys
weigh_both s [] ys = omega arith
weigh_both s (x ∷ xs) ys = omega (arith, weigh_both s xs ys)

-- those of the first k
abbrev pub front : ℕ → ℕ → List Kind → ℕ
front s zero xs = 0
front s (suc k) [] = 0
front s (suc k) (x ∷ xs) = kind_places s x + front s k xs

pub front_within : (s k : ℕ) (xs : List Kind) → front s k xs ≤ weigh s xs
front_within s zero xs = omega arith
front_within s (suc k) [] = omega arith
front_within s (suc k) (x ∷ xs) = omega (arith, front_within s k xs)

-- one more
pub front_more : (s k : ℕ) (xs : List Kind) (x : Kind) → slice_get xs k ≡ Some x → (front s (suc k) xs ≡ front s k xs + kind_places s x) × (k < length xs)
front_more s k [] x e = absurd (cc)
front_more s zero (y ∷ xs) x e = let same : y ≡ x = cc in (ap (λ z. kind_places s z + 0) same ∙ omega arith, omega arith)
front_more s (suc k) (y ∷ xs) x e = let rest = front_more s k xs x e in (omega (arith, rest.0), omega (arith, rest.1))

-- what comes after does not count
pub front_same : (s k : ℕ) (xs ys : List Kind) → k ≤ length xs → front s k (xs ++ ys) ≡ front s k xs
front_same s zero xs ys l = refl
front_same s (suc k) [] ys l = absurd (omega arith)
front_same s (suc k) (x ∷ xs) ys l = ap (λ n. kind_places s x + n) (front_same s k xs ys (omega arith))

-- the room on source s for all entries
abbrev pub noted : ℕ → List Entry → ℕ
noted s [] = 0
noted s (e ∷ past) = kind_places s e.kind + noted s past

-- ---- sums over actors

-- a sum over the numbers below n
abbrev pub below : ℕ → (ℕ → ℕ) → ℕ
below zero f = 0
below (suc n) f = f n + below n f

pub below_most : (n : ℕ) (f g : ℕ → ℕ) → ((i : ℕ) → f i ≤ g i) → below n f ≤ below n g
below_most zero f g h = omega arith
below_most (suc n) f g h = omega (arith, h n, below_most n f g h)

pub below_both : (n : ℕ) (f g : ℕ → ℕ) → below n (λ i. f i + g i) ≡ below n f + below n g
below_both zero f g = refl
below_both (suc n) f g = omega (arith, below_both n f g)

-- w if it is so, else 0
abbrev pub when : Bool → ℕ → ℕ
when true w = w
when false w = 0

pub when_most : (b : Bool) (w : ℕ) → when b w ≤ w
when_most true w = omega arith
when_most false w = omega arith

pub below_none : (n : ℕ) → below n (λ i. 0) ≡ 0
below_none zero = refl
below_none (suc n) = omega (arith, below_none n)

-- none of the numbers below k is j
below_apart : (k j w : ℕ) → k ≤ j → below k (λ i. when (j == i) w) ≡ 0
below_apart zero j w l = refl
below_apart (suc k) j w l =
    let other : (j == k) ≡ false = grind (arith, nat_tests) in
    let none : when (j == k) w ≡ 0 = ap (λ b. when b w) other in
    omega (arith, none, below_apart k j w (omega arith))

-- one of the numbers below n has w, the others nothing
pub below_one : (n j w : ℕ) → j < n → below n (λ i. when (j == i) w) ≡ w
below_one zero j w l = absurd (omega arith)
below_one (suc n) j w l = by_last (j == n) refl (λ k. below_one n j w k)
  where
    by_last : (b : Bool) → (j == n) ≡ b → (j < n → below n (λ i. when (j == i) w) ≡ w) → when b w + below n (λ i. when (j == i) w) ≡ w
    by_last true e rest = let same : j ≡ n = grind (arith, nat_tests) in omega (arith, below_apart n j w (omega arith))
    by_last false e rest = let within : j < n = grind (arith, nat_tests) in omega (arith, rest within)

-- at most one has
pub below_at_most : (n j w : ℕ) → below n (λ i. when (j == i) w) ≤ w
below_at_most zero j w = omega arith
below_at_most (suc n) j w = by_last (j == n) refl (below_at_most n j w)
  where
    by_last : (b : Bool) → (j == n) ≡ b → below n (λ i. when (j == i) w) ≤ w → when b w + below n (λ i. when (j == i) w) ≤ w
    by_last true e l = let same : j ≡ n = grind (arith, nat_tests) in omega (arith, below_apart n j w (omega arith))
    by_last false e l = omega (arith, l)

-- a sum over the scripts and devices with numbers below n, the autosleep work and time
abbrev pub over_all : ℕ → (Actor → ℕ) → ℕ
over_all n f = below n (λ i. f (actor.Script i)) + f actor.Auto + below n (λ d. f (actor.Dev d)) + f actor.Time

pub over_most : (n : ℕ) (f g : Actor → ℕ) → ((a : Actor) → f a ≤ g a) → over_all n f ≤ over_all n g
over_most n f g h = omega (arith, below_most n (λ i. f (actor.Script i)) (λ i. g (actor.Script i)) (λ i. h (actor.Script i)), h actor.Auto, below_most n (λ i. f (actor.Dev i)) (λ i. g (actor.Dev i)) (λ i. h (actor.Dev i)), h actor.Time)

pub over_both : (n : ℕ) (f g : Actor → ℕ) → over_all n (λ a. f a + g a) ≡ over_all n f + over_all n g
over_both n f g = omega (arith, below_both n (λ i. f (actor.Script i)) (λ i. g (actor.Script i)), below_both n (λ i. f (actor.Dev i)) (λ i. g (actor.Dev i)))

-- one actor has w
pub over_at_most : (n : ℕ) (who : Actor) (w : ℕ) → over_all n (λ a. when (is_same who a) w) ≤ w
over_at_most n (actor.Script j) w = omega (arith, below_at_most n j w, below_none n)
over_at_most n actor.Auto w = omega (arith, below_none n)
over_at_most n (actor.Dev d) w = omega (arith, below_at_most n d w, below_none n)
over_at_most n (actor.Timer t) w = omega (arith, below_none n)
over_at_most n actor.Time w = omega (arith, below_none n)

-- the actor is among them
abbrev pub IsBelow : ℕ → Actor → Type 0
IsBelow n (actor.Script i) = i < n
IsBelow n (actor.Dev d) = d < n
IsBelow n _ = Unit {0}

-- no timer
abbrev pub is_timer : Actor → Bool
is_timer (actor.Timer t) = true
is_timer _ = false

pub over_one : (n : ℕ) (who : Actor) (w : ℕ) → is_timer who ≡ false → IsBelow n who → w ≤ over_all n (λ a. when (is_same who a) w)
over_one n (actor.Script j) w t l = omega (arith, below_one n j w l, below_none n)
over_one n actor.Auto w t l = omega (arith, below_none n)
over_one n (actor.Dev d) w t l = omega (arith, below_one n d w l, below_none n)
over_one n (actor.Timer x) w t l = absurd (cc)
over_one n actor.Time w t l = omega (arith, below_none n)

-- all actors that have entries are
abbrev pub AllBelow : ℕ → List Entry → Type 0
AllBelow n [] = Unit {0}
AllBelow n (e ∷ past) = IsBelow n e.actor × AllBelow n past

abbrev pub number_of : Actor → ℕ
number_of (actor.Script i) = i + 1
number_of (actor.Dev d) = d + 1
number_of _ = 0

-- a number above those of all actors that have entries
abbrev pub above_all : List Entry → ℕ
above_all [] = 0
above_all (e ∷ past) = number_of e.actor + above_all past

is_below : (n : ℕ) (a : Actor) → number_of a ≤ n → IsBelow n a
is_below n (actor.Script i) l = omega arith
is_below n (actor.Dev d) l = omega arith
is_below n actor.Auto l = tt
is_below n (actor.Timer t) l = tt
is_below n actor.Time l = tt

pub all_below : (n : ℕ) (past : List Entry) → above_all past ≤ n → AllBelow n past
all_below n [] l = tt
all_below n (e ∷ past) l = (is_below n e.actor (omega arith), all_below n past (omega arith))
