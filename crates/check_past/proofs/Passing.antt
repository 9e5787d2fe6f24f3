-- One more entry is passed.
use Rattle.std.proofs.Common.{◌≡◌, ◌≤◌, ◌+◌, ◌++◌, ℕ, zero, suc, Bool, true, false, List, [], ◌∷◌, length, Some, cond, refl, ap, ◌∙◌, arith, reverse, take, slice_get, add-one}
use Rattle.std.proofs.lemmas.List.{reverse-append}
use Rattle.sleep_model.specs.declared.entry.Entry.{Entry}
use Rattle.sleep_model.specs.declared.machine.Machine.{Machine}
use Rattle.sleep_model.specs.declared.word.EventNow.{EventNow}
use Rattle.sleep_model.specs.Numbers.{after_step, word_step, time_after}
use Rattle.sleep_model.specs.EntryClasses.{is_in_journal, class_of, journal}
use Rattle.check_sources.specs.Calling.{CallsOf, callers_after, callers_of}
use Rattle.check_past.specs.declared.journal.JournalState.{JournalState}
use Rattle.check_past.specs.JournalStates.{journal_if, state_of}
use Rattle.check_past.specs.declared.past_state.PastState.{PastState}
use Rattle.check_past.specs.Passing.{Holds, past_state_after}
use Rattle.check_sources.specs.declared.source.Source.{Source}
use Rattle.check_sources.specs.SourceStates.{sources_after}

-- ---- the entries that were passed

within : (xs : List Entry) (n : ℕ) (x : Entry) → slice_get xs n ≡ Some x → n + 1 ≤ length xs
within [] n x h = absurd (cc)
within (y ∷ ys) zero x h = omega arith
within (y ∷ ys) (suc n) x h = let l = within ys n x h in omega (arith, l)

taken : (xs : List Entry) (n : ℕ) (x : Entry) → slice_get xs n ≡ Some x → take (suc n) xs ≡ take n xs ++ x ∷ []
taken [] n x h = absurd (cc)
taken (y ∷ ys) zero x h = let e : y ≡ x = cc in ap (λ z. z ∷ []) e
taken (y ∷ ys) (suc n) x h = ap (λ zs. y ∷ zs) (taken ys n x h)

next : (xs : List Entry) (n : ℕ) (x : Entry) → slice_get xs n ≡ Some x → reverse (take (n + 1) xs) ≡ x ∷ reverse (take n xs)
next xs n x h = rw (add-one, taken xs n x h) (reverse-append (take n xs) (x ∷ []))

-- ---- what they leave

by_preserved : (m : Machine) (e : Entry) (past : List Entry) (b : Bool) → journal_if b m e (state_of m past) ≡ state_of m (cond b (e ∷ past) past)
by_preserved m e past true = refl
by_preserved m e past false = refl

pub holds : (m : Machine) (past : List Entry) (e : Entry) (k after : PastState) → Holds m past k → after ≡ past_state_after m e k
    → Holds m (e ∷ past) after
holds m past e k after h is = record {
  word = ap (λ (x : PastState). x.word) is ∙ ap (λ (x : EventNow). after_step (word_step e.kind) x) h.word;
  time = ap (λ (x : PastState). x.time) is ∙ ap (λ x. time_after e.kind e.time x) h.time;
  state = ap (λ (x : PastState). x.journal) is ∙ (ap (λ (x : JournalState). journal_if (is_in_journal (class_of e.kind)) m e x) h.state ∙ by_preserved m e (journal past) (is_in_journal (class_of e.kind)));
  sources = ap (λ (x : PastState). x.sources) is ∙ ap (λ (x : List Source). sources_after e x) h.sources;
  calls = ap (λ (x : PastState). x.calls) is ∙ (ap (λ (x : CallsOf). record x { state = callers_after x.machine e k.journal.attempt.attempts (class_of e.kind) x.state }) h.calls
      ∙ ap (λ (x : JournalState). record { machine = m; state = callers_after m e x.attempt.attempts (class_of e.kind) (callers_of m past) }) h.state);
}

pub more : (n k : ℕ) (xs : List Entry) (x : Entry) → slice_get xs n ≡ Some x → k ≡ n + 1 → k ≤ length xs
more n k xs x h e = let l = within xs n x h in omega (arith, l, e)

pub then_next : (n k : ℕ) (xs : List Entry) (x : Entry) → slice_get xs n ≡ Some x → k ≡ n + 1 → reverse (take k xs) ≡ x ∷ reverse (take n xs)
then_next n k xs x h e = ap (λ j. reverse (take j xs)) e ∙ next xs n x h

pub together : (m : Machine) (e : Entry) (k : PastState) (word : EventNow) (time : ℕ) (state : JournalState) (past_state : List Source) (calls : CallsOf)
    → word ≡ after_step (word_step e.kind) k.word → time ≡ time_after e.kind e.time k.time → state ≡ journal_if (is_in_journal (class_of e.kind)) m e k.journal → past_state ≡ sources_after e k.sources
    → calls ≡ record k.calls { state = callers_after k.calls.machine e k.journal.attempt.attempts (class_of e.kind) k.calls.state }
    → record { word = word; time = time; journal = state; sources = past_state; calls = calls } ≡ past_state_after m e k
together m e k word time state past_state calls w t j s c = cc
