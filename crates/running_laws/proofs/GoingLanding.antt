-- What an act adds is at one object, in front of the list that was there.
use Rattle.std.proofs.Common.{◌≡◌, ◌∙◌, ◌+◌, ℕ, Bool, true, false, ◌==◌, List, [], ◌∷◌, ◌++◌, length, refl, sym, ap, ap₂, subst, length-append, arith}
use Rattle.std.proofs.lemmas.Bool.Decides.{nat_tests}
use Rattle.sleep_model.specs.declared.entry.JournalEntry.{JournalEntry}
use Rattle.turn_lock.specs.declared.view.Made.{Made}
use Rattle.turn_lock.specs.Bookings.{placed}
use Rattle.run_laws.specs.Passes.{Noted}
use Rattle.run_world.specs.Roots.{notes_on}
use Rattle.running_laws.specs.Courses.{Lands}

-- ---- what was noted says which object it is at

-- the items that were placed
abbrev items_in : List (Made Noted) → List Noted
items_in [] = []
items_in (m ∷ ms) = m.entry ∷ items_in ms

items_placed : (object place : ℕ) (xs : List Noted) → items_in (placed object place xs) ≡ xs
items_placed object place [] = refl
items_placed object place (x ∷ xs) = ap (λ (l : List Noted). x ∷ l) (items_placed object (place + 1) xs)

-- the object of the first
abbrev object_in : ℕ → List (Made Noted) → ℕ
object_in none [] = none
object_in none (m ∷ ms) = m.object

object_placed : (none object place : ℕ) (xs : List Noted) (x : Noted) → object_in none (placed object place (xs ++ x ∷ [])) ≡ object
object_placed none object place [] x = refl
object_placed none object place (y ∷ xs) x = refl

-- the list before the oldest
abbrev before_all : List JournalEntry → List Noted → List JournalEntry
before_all none [] = none
before_all none (n ∷ ns) = n.past

before_onto : (none : List JournalEntry) (xs : List Noted) (x : Noted) → before_all none (xs ++ x ∷ []) ≡ before_all x.past xs
before_onto none [] x = refl
before_onto none (y ∷ xs) x = refl

before_notes : (past added : List JournalEntry) → before_all (added ++ past) (notes_on past added) ≡ past
before_notes past [] = refl
before_notes past (e ∷ added) = before_onto (e ∷ added ++ past) (notes_on past added) (record { entry = e; past = added ++ past }) ∙ before_notes past added

-- the list with the newest in front
abbrev with_all : List JournalEntry → List Noted → List JournalEntry
with_all none [] = none
with_all none (n ∷ ns) = with_all (n.entry ∷ n.past) ns

with_onto : (none : List JournalEntry) (xs : List Noted) (x : Noted) → with_all none (xs ++ x ∷ []) ≡ x.entry ∷ x.past
with_onto none [] x = refl
with_onto none (y ∷ xs) x = with_onto (y.entry ∷ y.past) xs x

with_notes : (past added : List JournalEntry) → with_all past (notes_on past added) ≡ added ++ past
with_notes past [] = refl
with_notes past (e ∷ added) = with_onto past (notes_on past added) (record { entry = e; past = added ++ past })

-- if something was added the list before it does not depend on another
before_some : (none past : List JournalEntry) (e : JournalEntry) (added : List JournalEntry) → before_all none (notes_on past (e ∷ added)) ≡ past
before_some none past e added = before_onto none (notes_on past added) (record { entry = e; past = added ++ past }) ∙ before_notes past added

-- something was noted
some_noted : (past : List JournalEntry) (e : JournalEntry) (added : List JournalEntry) → length (notes_on past (e ∷ added)) ≡ length (notes_on past added) + 1
some_noted past e added = length-append (notes_on past added) (record { entry = e; past = added ++ past } ∷ [])

-- ---- two ways to say what was added

-- they are at one object, after one list, and leave one list
record IsOne (object object' : ℕ) (past past' with with' : List JournalEntry) : Type 0 where
  objects : object ≡ object'
  pasts : past ≡ past'
  withs : with ≡ with'

none_is_some : (past : List JournalEntry) (e : JournalEntry) (added : List JournalEntry) (xs : List Noted) → xs ≡ [] → notes_on past (e ∷ added) ≡ xs → {A : Type 0} → A
none_is_some past e added xs none is = absurd (omega (arith, some_noted past e added, ap length is, ap length none))

same_notes : (object object' place place' : ℕ) (past past' xs ys : List JournalEntry) → placed object place (notes_on past xs) ≡ placed object' place' (notes_on past' ys) → notes_on past xs ≡ notes_on past' ys
same_notes object object' place place' past past' xs ys is =
    sym (items_placed object place (notes_on past xs)) ∙ (ap items_in is ∙ items_placed object' place' (notes_on past' ys))

one_place : (object object' place place' : ℕ) (past past' : List JournalEntry) (e : JournalEntry) (added other : List JournalEntry)
    → placed object place (notes_on past (e ∷ added)) ≡ placed object' place' (notes_on past' other) → IsOne object object' past past' (e ∷ added ++ past) (other ++ past')
one_place object object' place place' past past' e added [] is = none_is_some past e added [] refl (same_notes object object' place place' past past' (e ∷ added) [] is)
one_place object object' place place' past past' e added (f ∷ other) is =
    let notes : notes_on past (e ∷ added) ≡ notes_on past' (f ∷ other) = same_notes object object' place place' past past' (e ∷ added) (f ∷ other) is in
    let pasts : past ≡ past' = sym (before_some past past e added) ∙ (ap (before_all past) notes ∙ before_some past past' f other) in
    record {
      objects =
          sym (object_placed 0 object place (notes_on past added) (record { entry = e; past = added ++ past }))
          ∙ (ap (object_in 0) is ∙ object_placed 0 object' place' (notes_on past' other) (record { entry = f; past = other ++ past' }));
      pasts = pasts;
      withs = sym (with_notes past (e ∷ added)) ∙ (ap₂ with_all pasts notes ∙ with_notes past' (f ∷ other));
    }

-- ---- the object of an act

-- the list of one object was that, and has more in front; the others are as they were
pub record HasLanded (object : ℕ) (past with : List JournalEntry) (old new : ℕ → List JournalEntry) : Type 0 where
  pub was : old object ≡ past
  pub is : new object ≡ with
  pub others : (i : ℕ) → (object == i) ≡ false → new i ≡ old i

-- what an act added at an object says which object it is at
pub lands_there : (object place : ℕ) (past : List JournalEntry) (e : JournalEntry) (added : List JournalEntry) (gains : List (Made Noted)) (old new : ℕ → List JournalEntry)
    → gains ≡ placed object place (notes_on past (e ∷ added)) → Lands gains old new → HasLanded object past (e ∷ added ++ past) old new
lands_there object place past e added gains old new gained l =
    let one : IsOne object l.object past (old l.object) (e ∷ added ++ past) (l.added ++ old l.object) = one_place object l.object place (length (old l.object)) past (old l.object) e added l.added (sym gained ∙ l.gained) in
    record {
      was = ap old one.objects ∙ sym one.pasts;
      is = ap new one.objects ∙ (l.grown ∙ sym one.withs);
      others = λ i apart. l.others i (sym (ap (λ (n : ℕ). n == i) one.objects) ∙ apart);
    }

-- an act that added nothing leaves all lists
none_added : (object place : ℕ) (past added : List JournalEntry) → [] ≡ placed object place (notes_on past added) → added ≡ []
none_added object place past [] is = refl
none_added object place past (e ∷ added) is = none_is_some past e added [] refl (sym (items_placed object place (notes_on past (e ∷ added))) ∙ sym (ap items_in is))

pub lands_nowhere : (old new : ℕ → List JournalEntry) → Lands [] old new → (i : ℕ) → new i ≡ old i
lands_nowhere old new l i = by (l.object == i) refl
  where
    by : (b : Bool) → (l.object == i) ≡ b → new i ≡ old i
    by true is =
        let same : l.object ≡ i = grind (arith, nat_tests) in
        subst (λ (n : ℕ). new n ≡ old n) same (l.grown ∙ ap (λ (xs : List JournalEntry). xs ++ old l.object) (none_added l.object (length (old l.object)) (old l.object) l.added l.gained))
    by false is = l.others i is
