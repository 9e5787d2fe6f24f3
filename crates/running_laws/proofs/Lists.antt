-- Lists of sources, one of which is another.
use Rattle.std.proofs.Common.{◌≡◌, ◌≤◌, ◌<◌, ◌∙◌, ℕ, zero, suc, Bool, true, false, ◌==◌, List, [], ◌∷◌, length, map, slice_set, slice_index_or, refl, sym, ap, subst, arith}
use Rattle.std.proofs.lemmas.Bool.Decides.{nat_tests}
use Rattle.std.proofs.lemmas.List.{length-set}
use Rattle.sleep_model.specs.declared.entry.Entry.{Entry}
use Rattle.sleep_model.specs.declared.entry.JournalEntry.{JournalEntry}
use Rattle.sleep_model.specs.declared.machine.Machine.{Machine}
use Rattle.sleep_model.specs.Merge.{of_source}
use Rattle.sleep_state.specs.JournalRooms.{entries}
use Rattle.wakeup_source.specs.SourceStates.{SourceState}
use Rattle.wakeup_source.specs.SourceStates as states
use Rattle.log_merge.specs.Remainders.{unstamped}
use Rattle.run_laws.proofs.Called.{unstamped_same}
use Rattle.running_laws.specs.Running.{AreSources, IsSourceOf, histories, of_sources}

-- a journal without its stamps, defined in two ways
pub entries_unstamped : (journal : List JournalEntry) → entries journal ≡ unstamped journal
entries_unstamped [] = refl
entries_unstamped (e ∷ journal) = ap (λ (l : List Entry). e.entry ∷ l) (entries_unstamped journal)

-- ---- one of a list is another

pub set_same : {A : Type 0} (xs : List A) (i : ℕ) (x d : A) → i < length xs → slice_index_or (slice_set xs i x) i d ≡ x
set_same [] i x d l = absurd (omega arith)
set_same (y ∷ ys) zero x d l = refl
set_same (y ∷ ys) (suc i) x d l = set_same ys i x d (omega (arith, l))

pub set_other : {A : Type 0} (xs : List A) (i j : ℕ) (x d : A) → (i == j) ≡ false → slice_index_or (slice_set xs i x) j d ≡ slice_index_or xs j d
set_other [] i j x d h = refl
set_other (y ∷ ys) zero zero x d h = absurd (let no : true ≡ false = h in cc)
set_other (y ∷ ys) zero (suc j) x d h = refl
set_other (y ∷ ys) (suc i) zero x d h = refl
set_other (y ∷ ys) (suc i) (suc j) x d h = set_other ys i j x d (let apart : (i == j) ≡ false = grind (arith, nat_tests) in apart)

-- ---- the entries of sources

-- those of a source that is there
pub source_at : (sources : List SourceState) (s : ℕ) (none : SourceState) → s < length sources → of_sources sources s ≡ map of_source (slice_index_or sources s none).past
source_at [] s none l = absurd (omega arith)
source_at (x ∷ sources) zero none l = refl
source_at (x ∷ sources) (suc s) none l = source_at sources s none (omega (arith, l))

-- those of one that is not
pub source_beyond : (sources : List SourceState) (s : ℕ) → length sources ≤ s → of_sources sources s ≡ []
source_beyond [] s l = refl
source_beyond (x ∷ sources) zero l = absurd (omega arith)
source_beyond (x ∷ sources) (suc s) l = source_beyond sources s (omega (arith, l))

-- those of the source that is another
pub source_set : (sources : List SourceState) (s : ℕ) (new : SourceState) → s < length sources → of_sources (slice_set sources s new) s ≡ map of_source new.past
source_set [] s new l = absurd (omega arith)
source_set (x ∷ sources) zero new l = refl
source_set (x ∷ sources) (suc s) new l = source_set sources s new (omega (arith, l))

-- those of the others
pub source_other : (sources : List SourceState) (s t : ℕ) (new : SourceState) → (s == t) ≡ false → of_sources (slice_set sources s new) t ≡ of_sources sources t
source_other [] s t new h = refl
source_other (x ∷ sources) zero zero new h = absurd (let no : true ≡ false = h in cc)
source_other (x ∷ sources) zero (suc t) new h = refl
source_other (x ∷ sources) (suc s) zero new h = refl
source_other (x ∷ sources) (suc s) (suc t) new h = source_other sources s t new (let apart : (s == t) ≡ false = grind (arith, nat_tests) in apart)

-- without their stamps
pub history_at : (sources : List SourceState) (s : ℕ) (none : SourceState) → s < length sources → histories sources s ≡ states.unstamped_source (slice_index_or sources s none).past
history_at sources s none l = ap unstamped (source_at sources s none l) ∙ sym (unstamped_same (slice_index_or sources s none).past)

-- a source that is called keeps its number, and is between calls again
pub sources_set : (m : Machine) (sources : List SourceState) (s : ℕ) (new : SourceState) → s < length sources → IsSourceOf s new → AreSources m sources → AreSources m (slice_set sources s new)
sources_set m sources s new l is h = record {
  count = omega (arith, length-set sources s new, h.count);
  each = λ t none k. each t none (omega (arith, k, length-set sources s new)) (s == t) refl;
}
  where
    each : (t : ℕ) (none : SourceState) → t < length sources → (b : Bool) → (s == t) ≡ b → IsSourceOf t (slice_index_or (slice_set sources s new) t none)
    each t none k true e =
        let same : s ≡ t = grind (arith, nat_tests) in
        let here : slice_index_or (slice_set sources s new) t none ≡ new = ap (λ (n : ℕ). slice_index_or (slice_set sources s new) n none) (sym same) ∙ set_same sources s new none l in
        subst (λ (x : SourceState). IsSourceOf t x) (sym here) (subst (λ (n : ℕ). IsSourceOf n new) same is)
    each t none k false e = subst (λ (x : SourceState). IsSourceOf t x) (sym (set_other sources s t new none e)) (h.each t none k)
