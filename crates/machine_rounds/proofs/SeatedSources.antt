-- The sources of a run, with their seats.
use Rattle.std.proofs.Common.{◌≡◌, ◌<◌, ◌∙◌, ◌⊎◌, inl, inr, ℕ, zero, suc, List, [], ◌∷◌, length, map, reverse, slice_set, slice_index_or, refl, sym, ap, subst, arith}
use Rattle.std.proofs.lemmas.List.{length-map, length-set}
use mathlib.Core.Option.{some}
use lib.ListN.{get_elem?}
use Rattle.event_word.specs.Seats.{AreAllSeats, IsSeatOf, WordToken, number_of, source_count}
use Rattle.wakeup_source.specs.SourceStates.{SourceState, new_source}
use Rattle.sleep_model.specs.declared.entry.SourceEntry.{SourceEntry}
use Rattle.run_objects.specs.Closed.{histories_of}
use Rattle.running_laws.specs.Running.{journal_histories}
use Rattle.run_objects.specs.Objects.{AreUncalled, SeatedSourceState, seats_of, sources_of}
use Rattle.running_laws.specs.Running.{source_entry_count}

-- ---- lists

set_mapped : {A B : Type 0} (f : A → B) (xs : List A) (i : ℕ) (x : A) → map f (slice_set xs i x) ≡ slice_set (map f xs) i (f x)
set_mapped f [] i x = refl
set_mapped f (y ∷ ys) zero x = refl
set_mapped {A} {B} f (y ∷ ys) (suc i) x = ap (λ (l : List B). f y ∷ l) (set_mapped f ys i x)

pub index_mapped : {A B : Type 0} (f : A → B) (xs : List A) (i : ℕ) (d : A) → slice_index_or (map f xs) i (f d) ≡ f (slice_index_or xs i d)
index_mapped f [] i d = refl
index_mapped f (y ∷ ys) zero d = refl
index_mapped f (y ∷ ys) (suc i) d = index_mapped f ys i d

elem_at : {A : Type 0} (xs : List A) (i : ℕ) (d : A) → i < length xs → get_elem? xs i ≡ some (slice_index_or xs i d)
elem_at [] i d l = absurd (omega arith)
elem_at (y ∷ ys) zero d l = refl
elem_at (y ∷ ys) (suc i) d l = elem_at ys i d (omega (arith, l))

-- what is at an index if one of a list is replaced: the new one, or what was there
elem_set : {A : Type 0} (xs : List A) (i k : ℕ) (x t : A) → get_elem? (slice_set xs i x) k ≡ some t → ((k ≡ i) × (t ≡ x)) ⊎ (get_elem? xs k ≡ some t)
elem_set [] i k x t e = inr e
elem_set (y ∷ ys) zero zero x t e = inl (refl, (let same : some x ≡ some t = e in cc))
elem_set (y ∷ ys) zero (suc k) x t e = inr e
elem_set (y ∷ ys) (suc i) zero x t e = inr e
elem_set {A} (y ∷ ys) (suc i) (suc k) x t e = more (elem_set ys i k x t e)
  where
    more : ((k ≡ i) × (t ≡ x)) ⊎ (get_elem? ys k ≡ some t) → ((suc k ≡ suc i) × (t ≡ x)) ⊎ (get_elem? (y ∷ ys) (suc k) ≡ some t)
    more (inl h) = inl (ap suc h.0, h.1)
    more (inr h) = inr h

-- one that is put back
pub put_back : {A : Type 0} (xs : List A) (i : ℕ) (x : A) → x ≡ slice_index_or xs i x → slice_set xs i x ≡ xs
put_back [] i x is = refl
put_back {A} (y ∷ ys) zero x is = ap (λ (z : A). z ∷ ys) is
put_back {A} (y ∷ ys) (suc i) x is = ap (λ (l : List A). y ∷ l) (put_back ys i x is)

-- ---- a source that is called

pub sources_set : (xs : List SeatedSourceState) (i : ℕ) (x : SeatedSourceState) → sources_of (slice_set xs i x) ≡ slice_set (sources_of xs) i x.source
sources_set xs i x = set_mapped (λ (s : SeatedSourceState). s.source) xs i x

pub source_is : (xs : List SeatedSourceState) (i : ℕ) (x : SeatedSourceState) → x ≡ slice_index_or xs i x → x.source ≡ slice_index_or (sources_of xs) i x.source
source_is xs i x is = ap (λ (s : SeatedSourceState). s.source) is ∙ sym (index_mapped (λ (s : SeatedSourceState). s.source) xs i x)

-- its seat is at the table
pub seat_is : (look : WordToken) (xs : List SeatedSourceState) (i : ℕ) (x : SeatedSourceState) → AreAllSeats look (seats_of xs) → i < length xs → x ≡ slice_index_or xs i x → IsSeatOf look.table_id i x.seat
seat_is look xs i x all l is =
    let there : get_elem? (seats_of xs) i ≡ some x.seat =
    elem_at (seats_of xs) i x.seat (omega (arith, l, length-map xs (λ (s : SeatedSourceState). s.seat)))
    ∙ ap some (index_mapped (λ (s : SeatedSourceState). s.seat) xs i x ∙ ap (λ (s : SeatedSourceState). s.seat) (sym is)) in
    all.each_is i x.seat there

-- and stays the source's there
pub seats_set : (look : WordToken) (xs : List SeatedSourceState) (i : ℕ) (x new : SeatedSourceState) → AreAllSeats look (seats_of xs) → i < length xs → x ≡ slice_index_or xs i x
    → new.seat.table_id ≡ x.seat.table_id → number_of new.seat ≡ number_of x.seat → AreAllSeats look (seats_of (slice_set xs i new))
seats_set look xs i x new all l is table number = record {
  counted = length-map (slice_set xs i new) (λ (s : SeatedSourceState). s.seat) ∙ (length-set xs i new ∙ (sym (length-map xs (λ (s : SeatedSourceState). s.seat)) ∙ all.counted));
  each_is = λ k t e. each k t (elem_set (seats_of xs) i k new.seat t (ap (λ (ts : List WordToken). get_elem? ts k) (sym (set_mapped (λ (s : SeatedSourceState). s.seat) xs i new)) ∙ e));
}
  where
    here : IsSeatOf look.table_id i new.seat
    here = let was = seat_is look xs i x all l is in (table ∙ was.0, number ∙ was.1)

    each : (k : ℕ) (t : WordToken) → ((k ≡ i) × (t ≡ new.seat)) ⊎ (get_elem? (seats_of xs) k ≡ some t) → IsSeatOf look.table_id k t
    each k t (inl h) = subst (λ (n : ℕ). IsSeatOf look.table_id n t) (sym h.0) (subst (λ (u : WordToken). IsSeatOf look.table_id i u) (sym h.1) here)
    each k t (inr h) = all.each_is k t h

-- the seat that looks stays at its table
pub seats_same : (look new : WordToken) (ts : List WordToken) → new.table_id ≡ look.table_id → source_count new ≡ source_count look → AreAllSeats look ts → AreAllSeats new ts
seats_same look new ts table sources all = record {
  counted = all.counted ∙ sym sources;
  each_is = λ k t e. (let h = all.each_is k t e in (h.0 ∙ sym table, h.1));
}

-- ---- how many entries there are

pub more_set : (xs : List SourceState) (i : ℕ) (x new : SourceState) → i < length xs → x ≡ slice_index_or xs i x → length x.past < length new.past → source_entry_count xs < source_entry_count (slice_set xs i new)
more_set [] i x new l is more = absurd (omega arith)
more_set (y ∷ ys) zero x new l is more = omega (arith, more, ap (λ (s : SourceState). length s.past) is)
more_set (y ∷ ys) (suc i) x new l is more = omega (arith, more_set ys i x new (omega (arith, l)) is more)

-- ---- at first

pub uncalled_at : (xs : List SeatedSourceState) → AreUncalled xs → (s : ℕ) (none : SourceState) → s < length (sources_of xs) → slice_index_or (sources_of xs) s none ≡ new_source s
uncalled_at xs new s none l = by xs s (omega (arith, l, length-map xs (λ (x : SeatedSourceState). x.source))) (λ x e. new s x e)
  where
    by : (ys : List SeatedSourceState) (i : ℕ) → i < length ys → ((x : SeatedSourceState) → get_elem? ys i ≡ some x → x.source ≡ new_source s) → slice_index_or (sources_of ys) i none ≡ new_source s
    by [] i l h = absurd (omega arith)
    by (y ∷ ys) zero l h = h y refl
    by (y ∷ ys) (suc i) l h = by ys i (omega (arith, l)) h

-- ---- at the end

-- the histories of the sources with their seats are those of the sources
pub histories_preserved : (xs : List SeatedSourceState) → histories_of xs ≡ journal_histories (sources_of xs)
histories_preserved [] = refl
histories_preserved (x ∷ xs) = ap (λ (hs : List (List SourceEntry)). reverse x.source.past ∷ hs) (histories_preserved xs)
