-- Entries whose ticks rise above their maker's stamp and above their object's list, as an act adds them.
use Rattle.std.proofs.Common.{◌≡◌, ◌<◌, ◌+◌, ◌==◌, ℕ, Bool, true, false, cond, List, [], ◌∷◌, ◌++◌, refl, sym, ap, subst}
use Rattle.sleep_model.specs.declared.entry.JournalEntry.{JournalEntry}
use Rattle.turn_lock.specs.declared.view.Made.{Made}
use Rattle.turn_lock.specs.Bookings.{empty, made, made_by, of_object, placed}
use Rattle.run_laws.specs.Passes.{Noted}
use Rattle.run_world.specs.Roots.{notes_on}
use Rattle.running_laws.proofs.SerialNotes.{AreFreshNotes, IsFresh, newest}
use Rattle.running_laws.proofs.SerialBooks.{Rises, head_made}

-- each of these entries, the newest first, has a tick above the others', this number, and those of the list before
abbrev pub Climbs : ℕ → List JournalEntry → List JournalEntry → Type 0
Climbs low past [] = Unit {0}
Climbs low past (e ∷ added) = (newest low added < e.stamp.tick) × (newest 0 (added ++ past) < e.stamp.tick) × Climbs low past added

-- ---- as a pass's entries

placed_last : (i place : ℕ) (xs : List Noted) (x : Noted) (rest : List (Made Noted)) → (at : ℕ) × (placed i place (xs ++ x ∷ []) ++ rest ≡ placed i place xs ++ made i at x ∷ rest)
placed_last i place [] x rest = (place, refl)
placed_last i place (y ∷ xs) x rest = let more = placed_last i (place + 1) xs x rest in (more.0, ap (λ (l : List (Made Noted)). made i place y ∷ l) more.1)

-- they rise, and what rises after them rises with them
pub climbs_rise : (i low place : ℕ) (past added : List JournalEntry) (rest : List (Made Noted)) → Climbs low past added → Rises (newest low added) rest
    → Rises low (placed i place (notes_on past added) ++ rest)
climbs_rise i low place past [] rest c r = r
climbs_rise i low place past (e ∷ added) rest c r =
    let n : Noted = record { entry = e; past = added ++ past } in
    let last = placed_last i place (notes_on past added) n rest in
    subst (Rises low) (sym last.1) (climbs_rise i low place past added (made i last.0 n ∷ rest) c.2 (c.0, r))

-- ---- each is above its list

abbrev pub AreMadeFresh : List (Made Noted) → Type 0
AreMadeFresh [] = Unit {0}
AreMadeFresh (m ∷ ms) = IsFresh m.entry × AreMadeFresh ms

pub fresh_both : (xs ys : List (Made Noted)) → AreMadeFresh xs → AreMadeFresh ys → AreMadeFresh (xs ++ ys)
fresh_both [] ys h g = g
fresh_both (x ∷ xs) ys h g = (h.0, fresh_both xs ys h.1 g)

pub climbs_fresh : (i low place : ℕ) (past added : List JournalEntry) (rest : List (Made Noted)) → Climbs low past added → AreMadeFresh rest
    → AreMadeFresh (placed i place (notes_on past added) ++ rest)
climbs_fresh i low place past [] rest c r = r
climbs_fresh i low place past (e ∷ added) rest c r =
    let n : Noted = record { entry = e; past = added ++ past } in
    let last = placed_last i place (notes_on past added) n rest in
    subst AreMadeFresh (sym last.1) (climbs_fresh i low place past added (made i last.0 n ∷ rest) c.2 (c.1, r))

pub fresh_of : (i : ℕ) (ms : List (Made Noted)) → AreMadeFresh ms → AreMadeFresh (of_object i ms)
fresh_of i [] h = tt
fresh_of i (m ∷ ms) h = by (m.object == i) (fresh_of i ms h.1)
  where
    by : (b : Bool) → AreMadeFresh (of_object i ms) → AreMadeFresh (cond b (m ∷ of_object i ms) (of_object i ms))
    by true g = (h.0, g)
    by false g = g

-- so is each of a log of which all passes made only such
pub fresh_log : (i p : ℕ) (es : List (ℕ × Noted)) → ((k : ℕ) → AreMadeFresh (made_by k i p es)) → AreFreshNotes (empty es)
fresh_log i p [] h = tt
fresh_log i p (e ∷ es) h =
    ((subst AreMadeFresh (head_made i p e es) (h e.0)).0, fresh_log i (p + 1) es (λ k. rest k (e.0 == k) (h k)))
  where
    rest : (k : ℕ) (b : Bool) → AreMadeFresh (cond b (made i p e.1 ∷ made_by k i (p + 1) es) (made_by k i (p + 1) es)) → AreMadeFresh (made_by k i (p + 1) es)
    rest k true g = g.1
    rest k false g = g

-- ---- of one object

abbrev pub AreWithin : ℕ → List (Made Noted) → Type 0
AreWithin count [] = Unit {0}
AreWithin count (m ∷ ms) = (m.object < count) × AreWithin count ms

pub placed_within : (count i place : ℕ) (xs : List Noted) (rest : List (Made Noted)) → i < count → AreWithin count rest → AreWithin count (placed i place xs ++ rest)
placed_within count i place [] rest l h = h
placed_within count i place (x ∷ xs) rest l h = (l, placed_within count i (place + 1) xs rest l h)
