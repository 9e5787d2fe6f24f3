-- What the passes of the machine's lock made is, actor by actor, what its journal has gained.
use Rattle.std.proofs.Common.{◌≡◌, ◌∙◌, ◌<◌, ◌+◌, ◌==◌, ◌++◌, ℕ, Bool, true, false, List, [], ◌∷◌, length, map, reverse, cond, refl, sym, ap, subst, arith}
use Rattle.std.proofs.lemmas.Bool.Decides.{nat_tests}
use Rattle.std.proofs.lemmas.List.{map-append, reverse-append, reverse-reverse}
use mathlib.Core.Option.{some}
use Rattle.std.specs.List.{list_all}
use Rattle.sleep_model.specs.declared.entry.Actor.{Actor}
use Rattle.sleep_model.specs.declared.entry.JournalEntry.{JournalEntry}
use Rattle.sleep_model.specs.Path.{is_same}
use Rattle.turn_lock.specs.declared.view.Made.{Made}
use Rattle.turn_lock.specs.Bookings.{AreBelow, empty, made, made_by}
use Rattle.run_laws.proofs.Lists.{all_head, all_tail}
use Rattle.run_laws.proofs.Placing.{number_is}
use Rattle.run_laws.specs.Passes.{LogSays, LogSaysWho, Noted, items, items_by}
use Rattle.run_laws.proofs.Acts.{actor_is}

-- ---- items

entries_of_items : (l : List JournalEntry) → map (λ (n : Noted). n.entry) (items l) ≡ reverse l
entries_of_items [] = refl
entries_of_items (e ∷ l) =
    map-append (λ (n : Noted). n.entry) (items l) (record { entry = e; past = l } ∷ [])
    ∙ ap (λ (k : List JournalEntry). k ++ e ∷ []) (entries_of_items l) ∙ sym (reverse-append (e ∷ []) l)

-- what items have gained, their journal has
gained : (before after : List JournalEntry) (new : List Noted) → items after ≡ items before ++ new → after ≡ reverse (map (λ (n : Noted). n.entry) new) ++ before
gained before after new h =
    sym (reverse-reverse after)
    ∙ ap (λ (l : List JournalEntry). reverse l) (sym (entries_of_items after) ∙ ap (map (λ (n : Noted). n.entry)) h ∙ map-append (λ (n : Noted). n.entry) (items before) new)
    ∙ reverse-append (map (λ (n : Noted). n.entry) (items before)) (map (λ (n : Noted). n.entry) new)
    ∙ ap (λ (l : List JournalEntry). reverse (map (λ (n : Noted). n.entry) new) ++ l) (ap (λ (l : List JournalEntry). reverse l) (entries_of_items before) ∙ reverse-reverse before)

-- ---- who made each

same_number : (k : ℕ) → (k == k) ≡ true
same_number k = grind (arith, nat_tests)

abbrev by_it : Actor → Made Noted → Bool
by_it who m = is_same m.entry.entry.entry.actor who

module _ (makers : ℕ → Actor) (object n : ℕ) (apart : (j k : ℕ) → j < n → k < n → is_same (makers j) (makers k) ≡ true → j ≡ k) where
  abbrev Own : ℕ → List (ℕ × Noted) → Type 0
  Own place es = (k : ℕ) → k < n → list_all (by_it (makers k)) (made_by k object place es) ≡ true

  rest_own : (place : ℕ) (e : ℕ × Noted) (es : List (ℕ × Noted)) → Own place (e ∷ es) → Own (place + 1) es
  rest_own place e es h k l = by (e.0 == k) (h k l)
    where
      by : (b : Bool) → list_all (by_it (makers k)) (cond b (made object place e.1 ∷ made_by k object (place + 1) es) (made_by k object (place + 1) es)) ≡ true
          → list_all (by_it (makers k)) (made_by k object (place + 1) es) ≡ true
      by true g = all_tail (by_it (makers k)) (made object place e.1) (made_by k object (place + 1) es) g
      by false g = g

  first_own : (place : ℕ) (e : ℕ × Noted) (es : List (ℕ × Noted)) → e.0 < n → Own place (e ∷ es) → is_same e.1.entry.entry.actor (makers e.0) ≡ true
  first_own place e es l h =
      all_head (by_it (makers e.0)) (made object place e.1) (made_by e.0 object (place + 1) es)
      (subst (λ (b : Bool). list_all (by_it (makers e.0)) (cond b (made object place e.1 ∷ made_by e.0 object (place + 1) es) (made_by e.0 object (place + 1) es)) ≡ true) (same_number e.0) (h e.0 l))

  by_maker : (place : ℕ) (es : List (ℕ × Noted)) → AreBelow n es → Own place es → (k : ℕ) → k < n
      → map (λ (m : Made Noted). m.entry) (made_by k object place es) ≡ items_by (makers k) (empty es)
  by_maker place [] below h k l = refl
  by_maker place (e ∷ es) below h k l = by (e.0 == k) refl (by_maker (place + 1) es below.1 (rest_own place e es h) k l)
    where
      its : is_same e.1.entry.entry.actor (makers e.0) ≡ true
      its = first_own place e es below.0 h

      others : (b : Bool) → is_same e.1.entry.entry.actor (makers k) ≡ b → (e.0 == k) ≡ false → is_same e.1.entry.entry.actor (makers k) ≡ false
      others false is other = is
      others true is other =
          let maker : e.1.entry.entry.actor ≡ makers e.0 = actor_is e.1.entry.entry.actor (makers e.0) its in
          let one : e.0 ≡ k = apart e.0 k below.0 l (ap (λ (a : Actor). is_same a (makers k)) (sym maker) ∙ is) in
          absurd (let bad : true ≡ false = sym (same_number k) ∙ ap (λ (j : ℕ). j == k) (sym one) ∙ other in cc)

      by : (b : Bool) → (e.0 == k) ≡ b → map (λ (m : Made Noted). m.entry) (made_by k object (place + 1) es) ≡ items_by (makers k) (empty es)
          → map (λ (m : Made Noted). m.entry) (cond b (made object place e.1 ∷ made_by k object (place + 1) es) (made_by k object (place + 1) es)) ≡ items_by (makers k) (e.1 ∷ empty es)
      by true is rest =
          let one : e.0 ≡ k = number_is e.0 k is in
          let mine : is_same e.1.entry.entry.actor (makers k) ≡ true = subst (λ (j : ℕ). is_same e.1.entry.entry.actor (makers j) ≡ true) one its in
          ap (λ (l : List Noted). e.1 ∷ l) rest ∙ ap (λ (b : Bool). cond b (e.1 ∷ items_by (makers k) (empty es)) (items_by (makers k) (empty es))) (sym mine)
      by false is rest =
          rest ∙ ap (λ (b : Bool). cond b (e.1 ∷ items_by (makers k) (empty es)) (items_by (makers k) (empty es))) (sym (others (is_same e.1.entry.entry.actor (makers k)) refl is))

-- ---- the closed table

module _ {V R : Type 0} (root : V → R) (journal : V → List JournalEntry) (first : List V) (passes : List (List (Made Noted))) (values : List V) where
  says : LogSays root journal first passes values
  says makers object old new closed have is_old is_new =
      let object_is = closed.objects object new is_new in
      let same : object_is.0 ≡ old = let both : some object_is.0 ≡ some old = sym object_is.1 ∙ is_old in cc in
      let grown : items (journal new) ≡ items (journal old) ++ empty (closed.log object) =
      object_is.3 ∙ ap (λ (u : V). items (journal u) ++ empty (closed.log object)) same in
      let place : ℕ = length (items (journal old)) in
      record {
        new = empty (closed.log object);
        journal = gained (journal old) (journal new) (empty (closed.log object)) grown;
        noted = grown;
        each = λ k l.
            ap (map (λ (m : Made Noted). m.entry)) (closed.booked k l object old is_old)
            ∙ by_maker makers object (length passes) have.apart (length (items (journal old))) (closed.log object) (closed.makers object)
            (λ j less. ap (list_all (by_it (makers j))) (sym (closed.booked j less object old is_old)) ∙ have.own j less) k l;
      }

pub log_says_who : (V R : Type 0) → LogSaysWho V R
log_says_who V R root journal first passes values = says root journal first passes values
