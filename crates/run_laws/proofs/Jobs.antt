-- A job follows all that was made, and says what is next of its actor.
use Rattle.std.proofs.Common.{◌≡◌, ◌∙◌, ◌+◌, ◌&&◌, ◌||◌, ℕ, zero, suc, Bool, true, false, List, [], ◌∷◌, length, slice_get, Some, refl, sym, ap, ap₂, subst}
use Rattle.sleep_model.specs.declared.entry.Actor.{Actor}
use Rattle.sleep_model.specs.declared.entry.Actor.TheVariants as actor
use Rattle.sleep_model.specs.declared.entry.Entry.{Entry}
use Rattle.sleep_model.specs.declared.entry.JournalEntry.{JournalEntry}
use Rattle.sleep_model.specs.declared.entry.Kind.{Kind}
use Rattle.sleep_model.specs.declared.log.Want.TheVariants as want
use Rattle.sleep_model.specs.declared.machine.Machine.{Machine}
use Rattle.sleep_model.specs.declared.machine.SourceCall.{SourceCall}
use Rattle.sleep_model.specs.declared.word.Stamp.{Stamp}
use Rattle.sleep_model.specs.declared.word.WordKind.{WordKind}
use Rattle.sleep_model.specs.Calls.{calls_of, is_calling, is_left, is_note_of, notes_of, one_more}
use Rattle.sleep_model.specs.EntryClasses.{EntryClass, OfJournal, Notes, Moves, class_of, is_in_journal}
use Rattle.sleep_model.specs.Path.{attempts, is_actor, is_same}
use Rattle.sleep_model.specs.Sources.{caller, owed}
use Rattle.sleep_script.specs.Jobs.{IsJobOf, IsWanted, JobState, after_call, after_turn}
use Rattle.sleep_script.proofs.Following.{call_made, other_entry, own_entry, wanted_core, wanted_source}
use Rattle.log_merge.specs.Remainders.{unstamped}
use Rattle.run_laws.specs.Apart.{IsCall, is_journals}
use Rattle.run_laws.specs.Acts.{Made, put_if, with_entry}
use Rattle.run_laws.specs.Jobs.{IsJob, JobsFollow, JobsWantNext, SettledIsFree, is_timer}

module _ (m : Machine) (made : Made) (e : JournalEntry) (who : Actor) (job : JobState) (stamp : Stamp) (h : IsJob m made who job) where
  abbrev journal : List Entry
  journal = unstamped made.journal

  abbrev own : List Entry
  own = unstamped (made.own who)

  -- what the journal and the actor's list have is known by the two tests
  has : (a b : Bool) (j : JobState) → is_journals e ≡ a → is_same e.entry.actor who ≡ b
      → IsJobOf m who (unstamped (put_if a e made.journal)) (notes_of who (unstamped (put_if b e (made.own who)))) j → IsJob m (with_entry e made) who j
  has a b j kept same known =
      subst (λ (c : Bool). IsJobOf m who (unstamped (put_if c e made.journal)) (notes_of who (unstamped ((with_entry e made).own who))) j) (sym kept)
      (subst (λ (c : Bool). IsJobOf m who (unstamped (put_if a e made.journal)) (notes_of who (unstamped (put_if c e (made.own who)))) j) (sym same) known)

  others : is_same e.entry.actor who ≡ false → IsJob m (with_entry e made) who job
  others other = by (is_journals e) refl
    where
      by : (b : Bool) → is_journals e ≡ b → IsJob m (with_entry e made) who job
      by true is = has true false job is other (other_entry m who e.entry journal (notes_of who own) job other h)
      by false is = has false false job is other h

  noted : (p : EntryClass) → class_of e.entry.kind ≡ p → notes_of who (unstamped (e ∷ made.own who)) ≡ one_more (is_note_of who e.entry p) (notes_of who own)
  noted p is = ap (λ (q : EntryClass). one_more (is_note_of who e.entry q) (notes_of who own)) is

  turn : is_same e.entry.actor who ≡ true → class_of e.entry.kind ≡ OfJournal → IsWanted job want.Core
      → IsJob m (with_entry e made) who (after_turn stamp e.entry.kind (attempts (unstamped (e ∷ made.journal))) job)
  turn same is wanted =
      has true true (after_turn stamp e.entry.kind (attempts (unstamped (e ∷ made.journal))) job) (ap is_in_journal is) same
      (subst (λ (n : ℕ). IsJobOf m who (unstamped (e ∷ made.journal)) n (after_turn stamp e.entry.kind (attempts (unstamped (e ∷ made.journal))) job)) (sym (noted OfJournal is))
      (own_entry m who e.entry journal (notes_of who own) job stamp (attempts (unstamped (e ∷ made.journal))) same refl (wanted_core m who journal (notes_of who own) job h wanted) h))

  call : (s : ℕ) (made_call : SourceCall) → is_same e.entry.actor who ≡ true → class_of e.entry.kind ≡ Notes s made_call
      → IsWanted job (want.Source s made_call) → IsJob m (with_entry e made) who (after_call stamp job)
  call s made_call same is wanted =
      has false true (after_call stamp job) (ap is_in_journal is) same
      (subst (λ (n : ℕ). IsJobOf m who journal n (after_call stamp job)) (sym (noted (Notes s made_call) is ∙ ap (λ (b : Bool). one_more b (notes_of who own)) same))
      (call_made m who journal (notes_of who own) job stamp (wanted_source m who journal (notes_of who own) job s made_call h wanted).2 h))

  step : (s : ℕ) (made_step : WordKind) → is_same e.entry.actor who ≡ true → class_of e.entry.kind ≡ Moves s made_step → IsJob m (with_entry e made) who job
  step s made_step same is =
      has false true job (ap is_in_journal is) same
      (subst (λ (n : ℕ). IsJobOf m who journal n job) (sym (noted (Moves s made_step) is)) h)

pub jobs_follow : JobsFollow
jobs_follow m made e who job stamp h = record {
  others = others m made e who job stamp h;
  turn = turn m made e who job stamp h;
  call = call m made e who job stamp h;
  step = step m made e who job stamp h;
}

is_call : (who : Actor) (calls : List Kind) (n : ℕ) (k : Kind) → is_timer who ≡ false → slice_get calls n ≡ Some k → IsCall who calls n k
is_call (actor.Script i) calls n k no_timer h = h
is_call actor.Auto calls n k no_timer h = h
is_call (actor.Dev d) calls n k no_timer h = h
is_call (actor.Timer s) calls n k no_timer h = absurd (let bad : true ≡ false = no_timer in cc)
is_call actor.Time calls n k no_timer h = h

pub jobs_want_next : JobsWantNext
jobs_want_next m made e who job h free = record {
  turn = λ wanted. (wanted_core m who (unstamped made.journal) (notes_of who (unstamped (made.own who))) job h wanted, free);
  call = λ s made_call no_timer is wanted. (
    is_call who (calls_of m who (unstamped made.journal)) (notes_of who (unstamped (made.own who))) e.entry.kind no_timer
        ((wanted_source m who (unstamped made.journal) (notes_of who (unstamped (made.own who))) job s made_call h wanted).0 ∙ ap Some (sym is)),
    free,
  );
}

settled : (n : ℕ) (of : ℕ → List Entry) (who : Actor) → ((s : ℕ) → owed (of s) ≡ []) → is_calling n of who ≡ false
settled zero of who h = refl
settled (suc n) of who h = ap₂ (λ (a b : Bool). a || b) (ap (λ (l : List WordKind). is_left l && is_actor who (caller (of n))) (h n)) (settled n of who h)

pub settled_is_free : SettledIsFree
settled_is_free m made who h = settled (length m.sources + 1) (λ s. unstamped (made.of s)) who h
