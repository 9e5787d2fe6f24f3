-- One more entry leaves each actor's entries its steps.
use Rattle.std.proofs.Common.{◌≡◌, ◌∙◌, ◌≤◌, ◌+◌, ℕ, Bool, true, false, List, [], ◌∷◌, length, filter, cond, refl, sym, ap, subst, arith}
use Rattle.sleep_model.specs.declared.entry.Actor.{Actor}
use Rattle.sleep_model.specs.declared.entry.Actor.TheVariants as actor
use Rattle.sleep_model.specs.declared.entry.Entry.{Entry}
use Rattle.sleep_model.specs.declared.entry.JournalEntry.{JournalEntry}
use Rattle.sleep_model.specs.declared.entry.Kind.{Kind}
use Rattle.sleep_model.specs.declared.machine.Machine.{Machine}
use Rattle.sleep_model.specs.Calls.{calls_of, is_calling, notes_of}
use Rattle.sleep_model.specs.EntryClasses.{EntryClass, OfJournal, Notes, Moves, OfTime, class_of, is_in_journal, journal}
use Rattle.sleep_model.specs.Path.{is_same}
use Rattle.sleep_model.specs.Sources.{SourceStep, history, is_of}
use Rattle.log_merge.specs.Remainders.{unstamped}
use Rattle.run_laws.specs.Apart.{ActorStep, AreActorSteps, IsCall, IsSource, calls_after, history_after, is_inside, is_journals, own_of}
use Rattle.run_laws.proofs.Calling.{calls_earlier, calls_in, calls_top, history_earlier, history_top, same_calling}
use Rattle.run_laws.proofs.Lists.{filter_map_through}
use Rattle.run_laws.proofs.Placing.{number_is}
use Rattle.run_laws.specs.Acts.{ActsAreSteps, AreSteps, IsKnown, IsNext, Made, MayHave, put_if, with_entry}

pub actor_is : (a b : Actor) → is_same a b ≡ true → a ≡ b
actor_is (actor.Script i) (actor.Script j) h = ap actor.Script (number_is i j h)
actor_is actor.Auto actor.Auto h = refl
actor_is (actor.Dev i) (actor.Dev j) h = ap actor.Dev (number_is i j h)
actor_is (actor.Timer i) (actor.Timer j) h = ap actor.Timer (number_is i j h)
actor_is actor.Time actor.Time h = refl
actor_is _ _ h = absurd (cc)

-- ---- an actor's steps, while calls and histories after its entries stay

-- of each source no more
abbrev pub IsWithin : List Entry → List Entry → Type 0
IsWithin part own = (s : ℕ) → length (history s part) ≤ length (history s own)

longer_journal : (x : Entry) (own : List Entry) → length (journal own) ≤ length (journal (x ∷ own))
longer_journal x own = by (is_in_journal (class_of x.kind))
  where
    by : (b : Bool) → length (journal own) ≤ length (cond b (x ∷ journal own) (journal own))
    by true = omega arith
    by false = omega arith

within_more : (x : Entry) (own : List Entry) → IsWithin own (x ∷ own)
within_more x own s = by (is_of s (class_of x.kind))
  where
    by : (b : Bool) → length (history s own) ≤ length (cond b (x ∷ history s own) (history s own))
    by true = omega arith
    by false = omega arith

step_preserved : (who : Actor) (calls calls' : ℕ → List Kind) (inside inside' : List Entry → Bool) (own : List Entry) (e : Entry) (p : EntryClass)
    → calls' (length (journal own)) ≡ calls (length (journal own)) → inside' own ≡ inside own → ActorStep who calls inside own e p → ActorStep who calls' inside' own e p
step_preserved who calls calls' inside inside' own e OfJournal c i h = (h.0 ∙ ap length (sym c), i ∙ h.1)
step_preserved who calls calls' inside inside' own e (Notes s call) c i h = (subst (λ (l : List Kind). IsCall who l (notes_of who own) e.kind) (sym c) h.0, i ∙ h.1)
step_preserved who calls calls' inside inside' own e (Moves s step) c i h = h
step_preserved who calls calls' inside inside' own e OfTime c i h = tt

steps_kept : (who : Actor) (calls calls' : ℕ → List Kind) (inside inside' : List Entry → Bool) (own : List Entry)
    → ((k : ℕ) → k ≤ length (journal own) → calls' k ≡ calls k) → ((l : List Entry) → IsWithin l own → inside' l ≡ inside l)
    → AreActorSteps who calls inside own → AreActorSteps who calls' inside' own
steps_kept who calls calls' inside inside' [] c i h = tt
steps_kept who calls calls' inside inside' (x ∷ own) c i h = (
  step_preserved who calls calls' inside inside' own x (class_of x.kind) (c (length (journal own)) (longer_journal x own)) (i own (within_more x own)) h.0,
  steps_kept who calls calls' inside inside' own
      (λ k l. let more : length (journal own) ≤ length (journal (x ∷ own)) = longer_journal x own in c k (omega (arith, l, more)))
      (λ l w. i l (λ s. let more : length (history s own) ≤ length (history s (x ∷ own)) = within_more x own s in let few : length (history s l) ≤ length (history s own) = w s in omega (arith, few, more)))
      h.1,
)

-- ---- an actor's entries in two lists

both_picked : (p q : JournalEntry → Bool) (e : JournalEntry) (own entries : List JournalEntry) → filter p own ≡ filter q entries
    → filter p (put_if (q e) e own) ≡ filter q (put_if (p e) e entries)
both_picked p q e own entries h = by (p e) refl (q e) refl
  where
    by : (a : Bool) → p e ≡ a → (b : Bool) → q e ≡ b → filter p (cond b (e ∷ own) own) ≡ filter q (cond a (e ∷ entries) entries)
    by true is true is' = rw (is, is') (ap (λ (l : List JournalEntry). e ∷ l) h)
    by true is false is' = rw is' h
    by false is true is' = rw is h
    by false is false is' = h

unstamped_put : (b : Bool) (e : JournalEntry) (l : List JournalEntry) → unstamped (put_if b e l) ≡ cond b (e.entry ∷ unstamped l) (unstamped l)
unstamped_put true e l = refl
unstamped_put false e l = refl

-- ---- one more entry

module _ (m : Machine) (made : Made) (e : JournalEntry) (a : AreSteps m made)
    (next : IsNext m made e.entry.actor e.entry (class_of e.entry.kind)) (may : MayHave made e.entry (class_of e.entry.kind)) where
  abbrev past : List Entry
  past = unstamped made.journal

  abbrev of : ℕ → List Entry
  of s = unstamped (made.of s)

  abbrev after : Made
  after = with_entry e made

  has : (s : ℕ) → is_of s (class_of e.entry.kind) ≡ true → SourceStep (of s) e.entry.time e.entry.actor (class_of e.entry.kind)
  has s is = by (class_of e.entry.kind) may is
    where
      by : (p : EntryClass) → MayHave made e.entry p → is_of s p ≡ true → SourceStep (of s) e.entry.time e.entry.actor p
      by OfJournal h is = absurd (let bad : false ≡ true = is in cc)
      by (Notes t c) h is = subst (λ (u : ℕ). SourceStep (of u) e.entry.time e.entry.actor (Notes t c)) (number_is t s is) h
      by (Moves t x) h is = subst (λ (u : ℕ). SourceStep (of u) e.entry.time e.entry.actor (Moves t x)) (number_is t s is) h
      by OfTime h is = absurd (let bad : false ≡ true = is in cc)

  sources : (s : ℕ) → IsSource (unstamped (after.of s))
  sources s = by (is_of s (class_of e.entry.kind)) refl
    where
      by : (b : Bool) → is_of s (class_of e.entry.kind) ≡ b → IsSource (unstamped (put_if b e (made.of s)))
      by true is = (has s is, a.of_sources s)
      by false is = a.of_sources s

  module _ (who : Actor) where
    abbrev own : List Entry
    own = unstamped (made.own who)

    abbrev known : IsKnown m made who
    known = a.of_actors who

    journal_long : length (journal own) ≡ length (own_of who past)
    journal_long =
        ap length (filter_map_through (λ (e : JournalEntry). e.entry) (λ e. is_in_journal (class_of e.kind)) (made.own who)
        ∙ ap unstamped known.in_journal ∙ sym (filter_map_through (λ (e : JournalEntry). e.entry) (λ e. is_same e.actor who) made.journal))

    source_long : (s : ℕ) → length (history s own) ≡ length (own_of who (of s))
    source_long s =
        ap length (filter_map_through (λ (e : JournalEntry). e.entry) (λ e. is_of s (class_of e.kind)) (made.own who)
        ∙ ap unstamped (known.in_sources s) ∙ sym (filter_map_through (λ (e : JournalEntry). e.entry) (λ e. is_same e.actor who) (made.of s)))

    calls_stay : (k : ℕ) → k ≤ length (journal own) → calls_after m who k (unstamped after.journal) ≡ calls_after m who k past
    calls_stay k l = by (is_journals e)
      where
        by : (b : Bool) → calls_after m who k (unstamped (put_if b e made.journal)) ≡ calls_after m who k past
        by true = let long : length (journal own) ≡ length (own_of who past) = journal_long in calls_earlier m who k e.entry past (omega (arith, l, long))
        by false = refl

    inside_stays : (l : List Entry) → IsWithin l own
        → is_inside (length m.sources + 1) (λ s. unstamped (after.of s)) who l ≡ is_inside (length m.sources + 1) of who l
    inside_stays l w =
        same_calling (length m.sources + 1) (λ s. history_after who (length (history s l)) (unstamped (after.of s))) (λ s. history_after who (length (history s l)) (of s)) who (λ s. at s (is_of s (class_of e.entry.kind)) refl)
      where
        at : (s : ℕ) (b : Bool) → is_of s (class_of e.entry.kind) ≡ b
            → calls_in who (history_after who (length (history s l)) (unstamped (put_if b e (made.of s)))) ≡ calls_in who (history_after who (length (history s l)) (of s))
        at s true is =
            let long : length (history s own) ≡ length (own_of who (of s)) = source_long s in
            let few : length (history s l) ≤ length (history s own) = w s in
            history_earlier who (length (history s l)) e.entry (of s) (has s is) (omega (arith, few, long))
        at s false is = refl

    older : AreActorSteps who (λ k. calls_after m who k (unstamped after.journal)) (is_inside (length m.sources + 1) (λ s. unstamped (after.of s)) who) own
    older =
        steps_kept who (λ k. calls_after m who k past) (λ k. calls_after m who k (unstamped after.journal)) (is_inside (length m.sources + 1) of who)
        (is_inside (length m.sources + 1) (λ s. unstamped (after.of s)) who) own calls_stay inside_stays known.steps

    calls_now : calls_after m who (length (journal own)) (unstamped after.journal) ≡ calls_of m who past
    calls_now =
        calls_stay (length (journal own)) (omega arith)
        ∙ (let long : length (journal own) ≡ length (own_of who past) = journal_long in calls_top m who (length (journal own)) past (omega (arith, long)))

    inside_now : is_inside (length m.sources + 1) (λ s. unstamped (after.of s)) who own ≡ is_calling (length m.sources + 1) of who
    inside_now =
        inside_stays own (λ s. omega arith)
        ∙ same_calling (length m.sources + 1) (λ s. history_after who (length (history s own)) (of s)) of who
        (λ s. let long : length (history s own) ≡ length (own_of who (of s)) = source_long s in ap (calls_in who) (history_top who (length (history s own)) (of s) (omega (arith, long))))

    newest : (p : EntryClass) → IsNext m made who e.entry p
        → ActorStep who (λ k. calls_after m who k (unstamped after.journal)) (is_inside (length m.sources + 1) (λ s. unstamped (after.of s)) who) own e.entry p
    newest OfJournal h = (h.0 ∙ ap length (sym calls_now), inside_now ∙ h.1)
    newest (Notes s c) h = (subst (λ (l : List Kind). IsCall who l (notes_of who own) e.entry.kind) (sym calls_now) h.0, inside_now ∙ h.1)
    newest (Moves s x) h = h
    newest OfTime h = tt

    stays_known : IsKnown m after who
    stays_known = record {
      steps = by (is_same e.entry.actor who) refl;
      in_journal = both_picked is_journals (λ e. is_same e.entry.actor who) e (made.own who) made.journal known.in_journal;
      in_sources = λ s. both_picked (λ e. is_of s (class_of e.entry.kind)) (λ e. is_same e.entry.actor who) e (made.own who) (made.of s) (known.in_sources s);
    }
      where
        by : (b : Bool) → is_same e.entry.actor who ≡ b
            → AreActorSteps who (λ k. calls_after m who k (unstamped after.journal)) (is_inside (length m.sources + 1) (λ s. unstamped (after.of s)) who) (unstamped (put_if b e (made.own who)))
        by true is = (newest (class_of e.entry.kind) (subst (λ (w : Actor). IsNext m made w e.entry (class_of e.entry.kind)) (actor_is e.entry.actor who is) next), older)
        by false is = older

pub acts_are_steps : ActsAreSteps
acts_are_steps m made e a next may = record {
  of_actors = λ who. stays_known m made e a next may who;
  of_sources = sources m made e a next may;
}
