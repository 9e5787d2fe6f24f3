-- The entries of an object, the oldest first, each with the list that those before it leave.
use Rattle.std.proofs.Common.{◌≡◌, ◌<◌, ◌≤◌, ◌∙◌, ℕ, List, [], ◌∷◌, ◌++◌, length, refl, sym, ap, subst, arith, length-append}
use Rattle.sleep_model.specs.declared.entry.JournalEntry.{JournalEntry}
use Rattle.run_laws.specs.Passes.{Noted, items}
use Rattle.run_world.specs.Roots.{notes_on}

-- ---- how they follow each other

-- each entry's list is what the entries before it leave of this one
abbrev pub Follows : List JournalEntry → List Noted → Type 0
Follows list [] = Unit {0}
Follows list (n ∷ notes) = (n.past ≡ list) × Follows (n.entry ∷ list) notes

-- the list that these entries leave
abbrev pub behind : List JournalEntry → List Noted → List JournalEntry
behind list [] = list
behind list (n ∷ notes) = behind (n.entry ∷ list) notes

pub after_both : (list : List JournalEntry) (xs ys : List Noted) → behind list (xs ++ ys) ≡ behind (behind list xs) ys
after_both list [] ys = refl
after_both list (x ∷ xs) ys = after_both (x.entry ∷ list) xs ys

follows_both : (list : List JournalEntry) (xs ys : List Noted) → Follows list xs → Follows (behind list xs) ys → Follows list (xs ++ ys)
follows_both list [] ys h g = g
follows_both list (x ∷ xs) ys h g = (h.0, follows_both (x.entry ∷ list) xs ys h.1 g)

pub follows_front : (list : List JournalEntry) (xs ys : List Noted) → Follows list (xs ++ ys) → Follows list xs
follows_front list [] ys h = tt
follows_front list (x ∷ xs) ys h = (h.0, follows_front (x.entry ∷ list) xs ys h.1)

pub follows_rest : (list : List JournalEntry) (xs ys : List Noted) → Follows list (xs ++ ys) → Follows (behind list xs) ys
follows_rest list [] ys h = h
follows_rest list (x ∷ xs) ys h = follows_rest (x.entry ∷ list) xs ys h.1

after_items : (l : List JournalEntry) → behind [] (items l) ≡ l
after_items [] = refl
after_items (e ∷ l) = after_both [] (items l) (record { entry = e; past = l } ∷ []) ∙ ap (λ (k : List JournalEntry). e ∷ k) (after_items l)

follows_items : (l : List JournalEntry) → Follows [] (items l)
follows_items [] = tt
follows_items (e ∷ l) = follows_both [] (items l) (record { entry = e; past = l } ∷ []) (follows_items l) (sym (after_items l), tt)

-- what a list has gained follows it, and leaves the list as it is then
pub gained_follows : (before after : List JournalEntry) (new : List Noted) → items after ≡ items before ++ new → Follows before new × (behind before new ≡ after)
gained_follows before after new h = (
  subst (λ (l : List JournalEntry). Follows l new) (after_items before) (follows_rest [] (items before) new (subst (Follows []) h (follows_items after))),
  ap (λ (l : List JournalEntry). behind l new) (sym (after_items before)) ∙ sym (after_both [] (items before) new) ∙ ap (behind []) (sym h) ∙ after_items after,
)

-- ---- those of an act

pub after_notes : (list past added : List JournalEntry) → behind list (notes_on past added) ≡ added ++ list
after_notes list past [] = refl
after_notes list past (e ∷ added) =
    after_both list (notes_on past added) (record { entry = e; past = added ++ past } ∷ []) ∙ ap (λ (k : List JournalEntry). e ∷ k) (after_notes list past added)

pub count_notes : (past added : List JournalEntry) → length (notes_on past added) ≡ length added
count_notes past [] = refl
count_notes past (e ∷ added) = omega (arith, length-append (notes_on past added) (record { entry = e; past = added ++ past } ∷ []), count_notes past added)

-- the first of them says which object they are at
pub past_is : (list past : List JournalEntry) (e : JournalEntry) (added : List JournalEntry) → Follows list (notes_on past (e ∷ added)) → past ≡ list
past_is list past e [] h = h.0
past_is list past e (x ∷ added) h = past_is list past x added (follows_front list (notes_on past (x ∷ added)) (record { entry = e; past = (x ∷ added) ++ past } ∷ []) h)

-- there is a first of them
pub has_first : (past : List JournalEntry) (e : JournalEntry) (added : List JournalEntry) → (n : Noted) × (notes : List Noted) × (notes_on past (e ∷ added) ≡ n ∷ notes)
has_first past e added = first (notes_on past added) (record { entry = e; past = added ++ past })
  where
    first : (xs : List Noted) (x : Noted) → (n : Noted) × (notes : List Noted) × (xs ++ x ∷ [] ≡ n ∷ notes)
    first [] x = (x, [], refl)
    first (y ∷ xs) x = (y, xs ++ x ∷ [], refl)

-- ---- their ticks

-- the tick of the newest entry, this one if there is none
abbrev pub newest : ℕ → List JournalEntry → ℕ
newest low [] = low
newest low (e ∷ past) = e.stamp.tick

-- the entry's tick is above that of each before it
abbrev pub IsFresh : Noted → Type 0
IsFresh n = newest 0 n.past < n.entry.stamp.tick

abbrev pub AreFreshNotes : List Noted → Type 0
AreFreshNotes [] = Unit {0}
AreFreshNotes (n ∷ notes) = IsFresh n × AreFreshNotes notes

-- ticks rise, from above this one
abbrev pub Ascends : ℕ → List Noted → Type 0
Ascends low [] = Unit {0}
Ascends low (n ∷ notes) = (low < n.entry.stamp.tick) × Ascends n.entry.stamp.tick notes

pub ascends : (list : List JournalEntry) (notes : List Noted) → Follows list notes → AreFreshNotes notes → Ascends (newest 0 list) notes
ascends list [] f g = tt
ascends list (n ∷ notes) f g = (subst (λ (l : List JournalEntry). newest 0 l < n.entry.stamp.tick) f.0 g.0, ascends (n.entry ∷ list) notes f.1 g.1)

pub ascends_low : (low other : ℕ) (notes : List Noted) → other ≤ low → Ascends low notes → Ascends other notes
ascends_low low other [] l h = tt
ascends_low low other (n ∷ notes) l h = let above : low < n.entry.stamp.tick = h.0 in (omega arith, h.1)

pub ascends_rest : (low : ℕ) (xs ys : List Noted) → Ascends low (xs ++ ys) → Ascends 0 ys
ascends_rest low [] ys h = ascends_low low 0 ys (omega arith) h
ascends_rest low (x ∷ xs) ys h = ascends_rest x.entry.stamp.tick xs ys h.1
