-- Calls, put together of their parts, and what they say if the word or the steps are known.
use Rattle.std.proofs.Common.{◌≡◌, ◌++◌, ◌∙◌, ℕ, Bool, true, ◌==◌, List, [], ◌∷◌, Option, Some, None, is_some, refl, sym, ap, subst, cond, append_assoc}
use Rattle.sleep_model.specs.declared.entry.Actor.{Actor}
use Rattle.sleep_model.specs.declared.entry.Entry.{Entry}
use Rattle.sleep_model.specs.declared.machine.SourceCall.{SourceCall}
use Rattle.sleep_model.specs.declared.machine.SourceCall.TheVariants as call
use Rattle.sleep_model.specs.declared.word.EventNow.{EventNow}
use Rattle.sleep_model.specs.declared.word.WordKind.{WordKind}
use Rattle.sleep_model.specs.declared.word.WordKind.TheVariants as step
use Rattle.sleep_model.specs.Numbers.{after_step}
use Rattle.sleep_model.specs.Sources.{makes, since, starting, finishing}
use Rattle.event_word.specs.Looks.{IsShown}
use Rattle.event_word.specs.Steps.{shown_after, made_after}
use Rattle.wakeup_source.specs.declared.call_by.CallBy.{CallBy}
use Rattle.wakeup_source.specs.Called.{SourceView, Notes, Steps, Calls, after_note, CanGoOnAll}
use Rattle.wakeup_source.specs.Called as called
use Rattle.wakeup_source.specs.SourceStates.{unstamped_source, note_entry, step_entry}
use Rattle.wakeup_source.specs.Shown.{word_after_kinds, after_steps, IsShownCall, steps_in, AreOwnSteps}

-- steps after steps
pub more_steps : (by : CallBy) (first second : List WordKind) (old mid new : SourceView) → Steps by first old mid → Steps by second mid new → Steps by (first ++ second) old new
more_steps by [] second old mid new h k = subst (λ (s : SourceView). Steps by second s new) h k
more_steps by (step ∷ first) second old mid new h k = (h.0, h.1, h.2, more_steps by first second (called.after_step by step h.0 old) mid new h.3 k)

-- ---- if the word is known

-- steps at a known word
shown_steps : (by : CallBy) (steps : List WordKind) (old new : SourceView) (word : EventNow) → old.shown ≡ Some word → Steps by steps old new
    → (unstamped_source new.source.past ≡ after_steps old.source.id by.actor by.now word steps (unstamped_source old.source.past)) × (new.shown ≡ Some (word_after_kinds steps word))
shown_steps by [] old new word t h = (ap (λ (s : SourceView). unstamped_source s.source.past) h, ap (λ (s : SourceView). s.shown) h ∙ t)
shown_steps by (step ∷ rest) old new word t h =
    let at : h.0 ≡ word = subst (λ o. IsShown o h.0) t h.1 in
    let on = shown_steps by rest (called.after_step by step h.0 old) new (after_step (Some step) word) (ap (shown_after step) t) h.3 in
    (subst (λ (w : EventNow). unstamped_source new.source.past ≡ after_steps old.source.id by.actor by.now (after_step (Some step) word) rest (step_entry old.source.id step by.actor by.now w ∷ unstamped_source old.source.past)) at on.0, on.1)

-- steps after entries that follow others
upon : (s : ℕ) (who : Actor) (time : ℕ) (word : EventNow) (steps : List WordKind) (new own : List Entry) → after_steps s who time word steps (new ++ own) ≡ after_steps s who time word steps new ++ own
upon s who time word [] new own = refl
upon s who time word (step ∷ rest) new own = upon s who time (after_step (Some step) word) rest (step_entry s step who time word ∷ new) own

-- a call at a known word
pub told_source : (by : CallBy) (made : SourceCall) (old new : SourceView) → Calls by made old new → IsShownCall by made old.shown new.shown old.source new.source
told_source by made old new h = by_shown old.shown refl
  where
    untold : (steps : List WordKind) (old new : SourceView) → old.shown ≡ None → Steps by steps old new → new.shown ≡ None
    untold [] old new t h = ap (λ (s : SourceView). s.shown) h ∙ t
    untold (step ∷ rest) old new t h = untold rest (called.after_step by step h.0 old) new (ap (shown_after step) t) h.3

    by_shown : (shown : Option EventNow) → old.shown ≡ shown → IsShownCall by made shown new.shown old.source new.source
    by_shown None t = untold (makes made (since (unstamped_source old.source.past))) h.0 new (ap (λ (s : SourceView). s.shown) h.1.6 ∙ t) h.2
    by_shown (Some word) t =
        let noted = h.0 in
        let at : h.1.0 ≡ word = subst (λ o. IsShown o h.1.0) t h.1.1 in
        let is : noted ≡ after_note by made h.1.0 noted.looked old = h.1.6 in
        let steps = makes made (since (unstamped_source old.source.past)) in
        let on = shown_steps by steps noted new word (ap (λ (s : SourceView). s.shown) is ∙ t) h.2 in
        let first : unstamped_source noted.source.past ≡ note_entry old.source.id made by.actor by.now word ∷ unstamped_source old.source.past =
        ap (λ (s : SourceView). unstamped_source s.source.past) is ∙ ap (λ w. note_entry old.source.id made by.actor by.now w ∷ unstamped_source old.source.past) at in
        let own : noted.source.id ≡ old.source.id = ap (λ (s : SourceView). s.source.id) is in (
          on.0 ∙ ap (λ (s : ℕ). after_steps s by.actor by.now word steps (unstamped_source noted.source.past)) own
              ∙ ap (after_steps old.source.id by.actor by.now word steps) first
              ∙ upon old.source.id by.actor by.now word steps (note_entry old.source.id made by.actor by.now word ∷ []) (unstamped_source old.source.past),
          on.1,
        )

-- ---- if the steps are known

made_more : (made : WordKind) (s : ℕ) (who : Actor) (time : ℕ) (before : EventNow) (own : List Entry) → made_after made before (Some (steps_in own)) ≡ Some (steps_in (step_entry s made who time before ∷ own))
made_more step.Start s who time before own = refl
made_more step.Finish s who time before own = refl
made_more step.Hard s who time before own = refl

no_step : (made : SourceCall) (s : ℕ) (who : Actor) (time : ℕ) (seen : EventNow) (own : List Entry) → steps_in own ≡ steps_in (note_entry s made who time seen ∷ own)
no_step call.Awake s who time seen own = refl
no_step call.Relax s who time seen own = refl
no_step (call.Event ms hard) s who time seen own = refl
no_step call.Expire s who time seen own = refl

own_steps : (by : CallBy) (steps : List WordKind) (old new : SourceView) → Steps by steps old new → AreOwnSteps old.made new.made old.source new.source
own_steps by [] old new h m = ap (λ (s : SourceView). s.made) h ∙ m ∙ ap (λ (s : SourceView). Some (steps_in (unstamped_source s.source.past))) (sym h)
own_steps by (step ∷ rest) old new h m =
    own_steps by rest (called.after_step by step h.0 old) new h.3
    (ap (made_after step h.0) m ∙ made_more step old.source.id by.actor by.now h.0 (unstamped_source old.source.past))

-- a call of a bump that makes its steps known
pub own_call : (by : CallBy) (made : SourceCall) (old new : SourceView) → Calls by made old new → AreOwnSteps old.made new.made old.source new.source
own_call by made old new h m =
    let is : h.0 ≡ after_note by made h.1.0 h.0.looked old = h.1.6 in
    own_steps by (makes made (since (unstamped_source old.source.past))) h.0 new h.2
    (ap (λ (s : SourceView). s.made) is ∙ m ∙ ap Some (no_step made old.source.id by.actor by.now h.1.0 (unstamped_source old.source.past)) ∙ ap (λ (s : SourceView). Some (steps_in (unstamped_source s.source.past))) (sym is))

-- ---- what can be made

-- steps after steps can be made if all of them could
pub goes_on_more : (first second : List WordKind) (old mid new : List WordKind → Bool) → CanGoOnAll first old mid → CanGoOnAll second mid new → CanGoOnAll (first ++ second) old new
goes_on_more first second old mid new h k rest c = k rest (h (second ++ rest) (subst (λ steps. old steps ≡ true) (append_assoc first second rest) c))

-- a relax makes its one step if an event is in progress
pub finishing_is : (o : Option ℕ) → finishing o ≡ (cond (is_some o) (step.Finish ∷ []) [])
finishing_is None = refl
finishing_is (Some since) = refl

-- a note leaves the event in progress as it was
pub since_note : (made : SourceCall) (s : ℕ) (who : Actor) (time : ℕ) (seen : EventNow) (own : List Entry) → since (note_entry s made who time seen ∷ own) ≡ since own
since_note call.Awake s who time seen own = refl
since_note call.Relax s who time seen own = refl
since_note (call.Event ms hard) s who time seen own = refl
since_note call.Expire s who time seen own = refl

-- a call is its note, and the steps that it then makes
pub noted_call : (by : CallBy) (made : SourceCall) (old noted new : SourceView) → Notes by made old noted → Steps by (makes made (since (unstamped_source noted.source.past))) noted new → Calls by made old new
noted_call by made old noted new n k =
    let same = ap (λ (s : SourceView). since (unstamped_source s.source.past)) n.6 ∙ since_note made old.source.id by.actor by.now n.0 (unstamped_source old.source.past) in
    (noted, n, subst (λ o. Steps by (makes made o) noted new) same k)

-- the steps of an event: a start if none was in progress, a hard step if it is hard, and a finish if it has no length
pub event_steps : (by : CallBy) (ms : ℕ) (hard : Bool) (noted started counted new : SourceView) → Steps by (starting (since (unstamped_source noted.source.past))) noted started
    → Steps by (cond hard (step.Hard ∷ []) []) started counted → Steps by (cond (ms == 0) (step.Finish ∷ []) []) counted new
    → Steps by (makes (call.Event ms hard) (since (unstamped_source noted.source.past))) noted new
event_steps by ms hard noted started counted new a b d =
    more_steps by (starting (since (unstamped_source noted.source.past)) ++ cond hard (step.Hard ∷ []) []) (cond (ms == 0) (step.Finish ∷ []) []) noted counted new
    (more_steps by (starting (since (unstamped_source noted.source.past))) (cond hard (step.Hard ∷ []) []) noted started counted a b) d
