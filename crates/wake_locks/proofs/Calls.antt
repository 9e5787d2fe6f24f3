-- What one more call leaves of a lock.
use Rattle.std.proofs.Common.{◌≡◌, ◌≤◌, ◌++◌, ◌∙◌, ◌==◌, ℕ, true, false, List, [], ◌∷◌, length, Option, Some, None, is_some, refl, sym, ap, subst, arith}
use Rattle.std.proofs.lemmas.Bool.Decides.{nat_tests}
use Rattle.sleep_model.specs.declared.entry.Actor.TheVariants as who
use Rattle.sleep_model.specs.declared.entry.Entry.{Entry}
use Rattle.sleep_model.specs.declared.entry.SourceEntry.{SourceEntry}
use Rattle.sleep_model.specs.declared.word.WordKind.TheVariants as step
use Rattle.sleep_model.specs.declared.machine.SourceCall.{SourceCall}
use Rattle.sleep_model.specs.declared.machine.SourceCall.TheVariants as call
use Rattle.sleep_model.specs.declared.word.EventNow.{EventNow}
use Rattle.sleep_model.specs.Numbers.{numbers}
use Rattle.sleep_model.specs.Places.{one_if}
use Rattle.sleep_model.specs.Sources.{since, expiry, makes, has_expired}
use Rattle.sleep_model.specs.declared.word.WordKind.{WordKind}
use Rattle.wakeup_source.specs.Called.{SourceView, Calls, Steps, after_step, viewed_source}
use Rattle.wakeup_source.specs.SourceStates.{SourceState, IsSettled, unstamped_source, latest, note_entry, step_entry}
use Rattle.wakeup_source.specs.Shown.{source_call, after_steps, word_after_kinds, IsShownCall, MayCall}
use Rattle.wakeup_source.specs.declared.call_by.CallBy.{CallBy}
use Rattle.event_word.specs.Steps.{has_room_for_all}
use Rattle.wake_locks.specs.Locks.{maker, entries_after_call}
use Rattle.wake_locks.specs.LockFields.{IsLock, GainsCall, status_of, status_from, SourceInvariant, IsMeant, IsNotBefore}
use Rattle.wake_locks.specs.declared.status.LockStatus.{LockStatus}
use Rattle.wake_locks.specs.LockStatuses.{status_after, is_due}

-- the entries after a call, by when the event in progress began
abbrev pub entries : SourceCall → ℕ → List Entry → Option ℕ → List Entry
entries made now own began =
    after_steps 0 (maker made) now (numbers own) (makes made began) (note_entry 0 made (maker made) now (numbers own) ∷ []) ++ own

-- what holds of the entries before, by when the event in progress began and when it ends
record Stands (own : List Entry) (began end : Option ℕ) : Type 0 where
  since_is : since own ≡ began
  expiry_is : expiry own ≡ end
  in_progress : (numbers own).inpr ≡ one_if (is_some began)
  finished : (numbers own).count ≤ length own
  rests : began ≡ None → end ≡ None
  ends : IsNotBefore (latest own) end

stands_now : (own : List Entry) → SourceInvariant own → Stands own (since own) (expiry own)
stands_now own kept = record { since_is = refl; expiry_is = refl; in_progress = kept.in_progress; finished = kept.finished; rests = kept.rests; ends = kept.ends }

-- a length is not 0
pub lasts : (ms : ℕ) → 1 ≤ ms → (ms == 0) ≡ false
lasts ms l = grind (arith, nat_tests)

-- ---- what a call needs

places_by : (made : SourceCall) (now : ℕ) (own : List Entry) (began end : Option ℕ) → Stands own began end → length own ≤ 60000 → IsMeant made now (status_from began end) → has_room_for_all (numbers own) (makes made began) ≡ true
places_by call.Awake now own None end h few meant = grind (arith, nat_tests, h.in_progress)
places_by call.Awake now own (Some b) end h few meant = refl
places_by call.Relax now own None end h few meant = refl
places_by call.Relax now own (Some b) end h few meant = grind (arith, nat_tests, h.in_progress, h.finished)
places_by (call.Event ms true) now own began end h few meant = absurd (let no : true ≡ false = meant.1 in cc)
places_by (call.Event ms false) now own None end h few meant = rw (lasts ms meant.0) (grind (arith, nat_tests, h.in_progress))
places_by (call.Event ms false) now own (Some b) end h few meant = rw (lasts ms meant.0) refl
places_by call.Expire now own None end h few meant = refl
places_by call.Expire now own (Some b) end h few meant = grind (arith, nat_tests, h.in_progress, h.finished)

-- the steps of a call have their room
pub places : (made : SourceCall) (now : ℕ) (own : List Entry) → SourceInvariant own → length own ≤ 60000 → IsMeant made now (status_of own) → has_room_for_all (numbers own) (makes made (since own)) ≡ true
places made now own kept few meant = places_by made now own (since own) (expiry own) (stands_now own kept) few meant

expires : (now : ℕ) (began end : Option ℕ) → is_due now (status_from began end) ≡ true → has_expired end now ≡ true
expires now None end d = absurd (let no : false ≡ true = d in cc)
expires now (Some b) None d = absurd (let no : false ≡ true = d in cc)
expires now (Some b) (Some e) d = d

-- an expiry comes when it is due
pub may : (made : SourceCall) (now : ℕ) (own : List Entry) → IsMeant made now (status_of own) → MayCall made own now
may call.Awake now own meant = tt
may call.Relax now own meant = tt
may (call.Event ms hard) now own meant = tt
may call.Expire now own meant = expires now (since own) (expiry own) meant

-- ---- what a call on a source says

same_after_steps : (by : CallBy) (steps : List WordKind) (old new : SourceView) → Steps by steps old new → new.source.id ≡ old.source.id
same_after_steps by [] old new h = ap (λ (s : SourceView). s.source.id) h
same_after_steps by (made ∷ rest) old new h = same_after_steps by rest (after_step by made h.0 old) new h.3

-- a call on a source with a word of its own: the source gains its entries, and the word makes its steps
pub gains_call : (by : CallBy) (made : SourceCall) (word later : EventNow) (old new : SourceState) (before after : ℕ) → Calls by made (viewed_source (Some word) None None before old) (viewed_source (Some later) None None after new)
    → IsShownCall by made (Some word) (Some later) old new → IsSettled new → GainsCall by made word later old new
gains_call by made word later old new before after h shown settled =
    let is = shown.1 in
    record {
      number = same_after_steps by (makes made (since (unstamped_source old.past))) h.0 _ h.2 ∙ ap (λ (s : SourceView). s.source.id) h.1.6;
      entries = shown.0;
      word_is = cc;
      short = settled.short;
    }

-- ---- what it leaves

stands_by : (made : SourceCall) (now : ℕ) (own : List Entry) (began end : Option ℕ) → Stands own began end → IsMeant made now (status_from began end)
    → status_after made now (status_from began end) ≡ status_of (entries made now own began)
stands_by call.Awake now own None end h meant = refl
stands_by call.Awake now own (Some b) end h meant = rw h.since_is refl
stands_by call.Relax now own None end h meant = rw h.since_is refl
stands_by call.Relax now own (Some b) end h meant = refl
stands_by (call.Event ms true) now own began end h meant = absurd (let no : true ≡ false = meant.1 in cc)
stands_by (call.Event ms false) now own None None h meant = rw (lasts ms meant.0, lasts ms meant.0, h.expiry_is) refl
stands_by (call.Event ms false) now own None (Some e) h meant = absurd (let no : Some e ≡ None = h.rests refl in cc)
stands_by (call.Event ms false) now own (Some b) None h meant = rw (lasts ms meant.0, h.since_is, lasts ms meant.0, h.expiry_is) refl
stands_by (call.Event ms false) now own (Some b) (Some e) h meant = rw (lasts ms meant.0, h.since_is, lasts ms meant.0, h.expiry_is) refl
stands_by call.Expire now own None end h meant = rw h.since_is refl
stands_by call.Expire now own (Some b) end h meant = refl

-- the status of the lock after it
pub stands : (made : SourceCall) (now : ℕ) (own : List Entry) → SourceInvariant own → IsMeant made now (status_of own) → status_after made now (status_of own) ≡ status_of (entries_after_call made now own)
stands made now own kept meant = stands_by made now own (since own) (expiry own) (stands_now own kept) meant

moves_by : (made : SourceCall) (now : ℕ) (own : List Entry) (began : Option ℕ) (status : Option ℕ) → IsMeant made now (status_from began status) → word_after_kinds (makes made began) (numbers own) ≡ numbers (entries made now own began)
moves_by call.Awake now own None end meant = refl
moves_by call.Awake now own (Some b) end meant = refl
moves_by call.Relax now own None end meant = refl
moves_by call.Relax now own (Some b) end meant = refl
moves_by (call.Event ms true) now own began end meant = absurd (let no : true ≡ false = meant.1 in cc)
moves_by (call.Event ms false) now own None end meant = rw (lasts ms meant.0) refl
moves_by (call.Event ms false) now own (Some b) end meant = rw (lasts ms meant.0) refl
moves_by call.Expire now own None end meant = refl
moves_by call.Expire now own (Some b) end meant = refl

-- and the word
pub word_moves : (made : SourceCall) (now : ℕ) (own : List Entry) → IsMeant made now (status_of own) → word_after_kinds (makes made (since own)) (numbers own) ≡ numbers (entries_after_call made now own)
word_moves made now own meant = moves_by made now own (since own) (expiry own) meant

some_none : (n : ℕ) → Some n ≡ None → ⊥
some_none n e = cc

-- an event that lasts is its note, and a start if none is in progress
started : (ms now : ℕ) (own : List Entry) → 1 ≤ ms → entries (call.Event ms false) now own None ≡ step_entry 0 step.Start (who.Script 0) now (numbers own) ∷ note_entry 0 (call.Event ms false) (who.Script 0) now (numbers own) ∷ own
started ms now own l = rw (lasts ms l) refl

noted : (ms now : ℕ) (own : List Entry) (b : ℕ) → 1 ≤ ms → entries (call.Event ms false) now own (Some b) ≡ note_entry 0 (call.Event ms false) (who.Script 0) now (numbers own) ∷ own
noted ms now own b l = rw (lasts ms l) refl

keeps_by : (made : SourceCall) (now : ℕ) (own : List Entry) (began end : Option ℕ) → Stands own began end → latest own ≤ now → IsMeant made now (status_from began end) → SourceInvariant (entries made now own began)
keeps_by call.Awake now own None end h time meant = record { in_progress = omega (arith, h.in_progress); finished = omega (arith, h.finished); rests = λ _. refl; ends = tt }
keeps_by call.Awake now own (Some b) end h time meant = record { in_progress = rw h.since_is h.in_progress; finished = omega (arith, h.finished); rests = λ _. refl; ends = tt }
keeps_by call.Relax now own None end h time meant = record {
  in_progress = rw h.since_is h.in_progress;
  finished = omega (arith, h.finished);
  rests = λ _. h.expiry_is ∙ h.rests refl;
  ends = rw (h.expiry_is, h.rests refl) tt;
}
keeps_by call.Relax now own (Some b) end h time meant = record { in_progress = omega (arith, h.in_progress); finished = omega (arith, h.finished); rests = λ _. refl; ends = tt }
keeps_by (call.Event ms true) now own began end h time meant = absurd (let no : true ≡ false = meant.1 in cc)
keeps_by (call.Event ms false) now own None None h time meant =
    subst SourceInvariant (sym (started ms now own meant.0)) (record {
      in_progress = omega (arith, h.in_progress);
      finished = omega (arith, h.finished);
      rests = λ n. absurd (some_none now n);
      ends = rw (lasts ms meant.0, h.expiry_is) (omega arith);
    })
keeps_by (call.Event ms false) now own None (Some e) h time meant = absurd (some_none e (h.rests refl))
keeps_by (call.Event ms false) now own (Some b) None h time meant =
    subst SourceInvariant (sym (noted ms now own b meant.0)) (record {
      in_progress = rw h.since_is h.in_progress;
      finished = omega (arith, h.finished);
      rests = λ n. absurd (some_none b (sym h.since_is ∙ n));
      ends = rw (lasts ms meant.0, h.expiry_is) (omega arith);
    })
keeps_by (call.Event ms false) now own (Some b) (Some e) h time meant =
    subst SourceInvariant (sym (noted ms now own b meant.0)) (record {
      in_progress = rw h.since_is h.in_progress;
      finished = omega (arith, h.finished);
      rests = λ n. absurd (some_none b (sym h.since_is ∙ n));
      ends = rw (lasts ms meant.0, h.expiry_is) (omega arith);
    })
keeps_by call.Expire now own None end h time meant = record {
  in_progress = rw h.since_is h.in_progress;
  finished = omega (arith, h.finished);
  rests = λ _. h.expiry_is ∙ h.rests refl;
  ends = rw (h.expiry_is, h.rests refl) tt;
}
keeps_by call.Expire now own (Some b) end h time meant = record { in_progress = omega (arith, h.in_progress); finished = omega (arith, h.finished); rests = λ _. refl; ends = tt }

-- what holds of the entries holds after the call
pub keeps : (made : SourceCall) (now : ℕ) (own : List Entry) → SourceInvariant own → latest own ≤ now → IsMeant made now (status_of own) → SourceInvariant (entries_after_call made now own)
keeps made now own kept time meant = keeps_by made now own (since own) (expiry own) (stands_now own kept) time meant

-- ---- a lock

pub unstamped_length : (past : List SourceEntry) → length (unstamped_source past) ≡ length past
unstamped_length [] = refl
unstamped_length (e ∷ past) = omega (arith, unstamped_length past)

-- a source of that number, at that word, gains the entries of the call
pub gains : (by : CallBy) (made : SourceCall) (word later : EventNow) (old new : SourceState) → by.actor ≡ maker made → old.id ≡ 0 → word ≡ numbers (unstamped_source old.past) → GainsCall by made word later old new
    → unstamped_source new.past ≡ entries_after_call made by.now (unstamped_source old.past)
gains by made word later old new a n w h =
    h.entries ∙ ap (λ i. source_call i made by.actor by.now word (unstamped_source old.past) ++ unstamped_source old.past) n
    ∙ ap (λ who. source_call 0 made who by.now word (unstamped_source old.past) ++ unstamped_source old.past) a
    ∙ ap (λ at. source_call 0 made (maker made) by.now at (unstamped_source old.past) ++ unstamped_source old.past) w

-- after a call it is a lock
pub lock_after : (by : CallBy) (made : SourceCall) (word later : EventNow) (old new : SourceState) (before after : LockStatus) → by.actor ≡ maker made → IsLock before old word → latest (unstamped_source old.past) ≤ by.now → IsMeant made by.now before
    → after ≡ status_after made by.now before → GainsCall by made word later old new → IsLock after new later
lock_after by made word later old new before after a h time meant s m =
    let own = unstamped_source old.past in
    let is : unstamped_source new.past ≡ entries_after_call made by.now own = gains by made word later old new a h.number h.word_is m in
    let means : IsMeant made by.now (status_of own) = subst (IsMeant made by.now) h.stands meant in
    record {
      stands = s ∙ ap (status_after made by.now) h.stands ∙ stands made by.now own h.kept means ∙ ap status_of (sym is);
      number = m.number ∙ h.number;
      word_is = m.word_is ∙ ap (word_after_kinds (makes made (since own))) h.word_is ∙ word_moves made by.now own means ∙ ap numbers (sym is);
      kept = subst SourceInvariant (sym is) (keeps made by.now own h.kept time means);
      short = m.short;
    }
