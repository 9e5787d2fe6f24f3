-- A source's own entries: what is made, owed and reserved for its expiry keeps to the room of its calls.
use Rattle.std.proofs.Common.{◌≡◌, ◌≤◌, ◌+◌, ◌++◌, ℕ, suc, Bool, true, false, ◌==◌, List, [], ◌∷◌, length, Option, Some, None, is_some, cond, refl, sym, ap, subst, arith}
use Rattle.std.proofs.lemmas.Bool.{true≢false}
use Rattle.std.proofs.lemmas.Bool.Decides.{nat_tests}
use Rattle.sleep_model.specs.declared.entry.Actor.{Actor}
use Rattle.sleep_model.specs.declared.entry.Entry.{Entry}
use Rattle.sleep_model.specs.declared.machine.SourceCall.{SourceCall}
use Rattle.sleep_model.specs.declared.machine.SourceCall.TheVariants as call
use Rattle.sleep_model.specs.declared.word.WordKind.{WordKind}
use Rattle.sleep_model.specs.declared.word.WordKind.TheVariants as step
use Rattle.sleep_model.specs.Legal.{SourcePart, OwnStep}
use Rattle.sleep_model.specs.EntryClasses.{EntryClass, OfJournal, Notes, Moves, OfTime, class_of}
use Rattle.sleep_model.specs.Places.{call_places, one_if}
use Rattle.sleep_model.specs.Sources.{history, is_of, since, since_after, owed, owed_after, makes, expiry, expiry_after, has_expired, later, starting, SourceStep, IsNext}
use Rattle.room_laws.proofs.Weighing.{part_places, kind_places, noted}

-- a finish is owed
abbrev ends : List WordKind → Bool
ends [] = false
ends (step.Finish ∷ rest) = true
ends (s ∷ rest) = ends rest

-- an event is in progress after these steps, if it is or not before
abbrev goes : Bool → List WordKind → Bool
goes active [] = active
goes active (step.Start ∷ rest) = goes true rest
goes active (step.Finish ∷ rest) = goes false rest
goes active (step.Hard ∷ rest) = goes active rest

-- the room reserved for an expiry: none if a finish is owed, which cancels it
abbrev outside : Bool → Bool → ℕ
outside true false = 2
outside _ ends = 0

-- so many entries were made, and so much is owed; there is an expiry, an event is in progress, these steps are owed; the calls have so many
-- places
pub record Keeps (made : ℕ) (expires active : Bool) (steps : List WordKind) (places : ℕ) : Type 0 where
  within : made + length steps + outside expires (ends steps) ≤ places
  lives : expires ≡ true → ends steps ≡ false → goes active steps ≡ true

-- a step of the word
moves_keep : (made places s time : ℕ) (o x : Option ℕ) (step : WordKind) (steps : List WordKind) → Keeps made (is_some x) (is_some o) (step ∷ steps) places
    → Keeps (suc made) (is_some (expiry_after (Moves s step) time x)) (is_some (since_after (Moves s step) time o)) steps places
moves_keep made places s time o x step.Start steps h = record { within = omega (arith, h.within); lives = h.lives }
moves_keep made places s time o x step.Hard steps h = record { within = omega (arith, h.within); lives = h.lives }
moves_keep made places s time o x step.Finish steps h = record { within = omega (arith, h.within); lives = λ e. absurd (true≢false (sym e)) }

-- ---- a call

-- there is an expiry after an event: one with a length sets it
abbrev expires_after : Bool → Bool → Bool
expires_after true before = before
expires_after false before = true

-- the steps of an event
abbrev event_steps : Bool → Bool → Bool → List WordKind
event_steps hard quick active = cond active [] (step.Start ∷ []) ++ cond hard (step.Hard ∷ []) [] ++ cond quick (step.Finish ∷ []) []

event_within : (made places : ℕ) (hard quick expires active : Bool) → made + 0 + outside expires false ≤ places
    → suc made + length (event_steps hard quick active) + outside (expires_after quick expires) (ends (event_steps hard quick active)) ≤ cond quick 3 4 + one_if hard + places
event_within made places true true true true l = omega (arith, l)
event_within made places true true true false l = omega (arith, l)
event_within made places true true false true l = omega (arith, l)
event_within made places true true false false l = omega (arith, l)
event_within made places true false true true l = omega (arith, l)
event_within made places true false true false l = omega (arith, l)
event_within made places true false false true l = omega (arith, l)
event_within made places true false false false l = omega (arith, l)
event_within made places false true true true l = omega (arith, l)
event_within made places false true true false l = omega (arith, l)
event_within made places false true false true l = omega (arith, l)
event_within made places false true false false l = omega (arith, l)
event_within made places false false true true l = omega (arith, l)
event_within made places false false true false l = omega (arith, l)
event_within made places false false false true l = omega (arith, l)
event_within made places false false false false l = omega (arith, l)

event_lives : (hard quick active : Bool) → ends (event_steps hard quick active) ≡ false → goes active (event_steps hard quick active) ≡ true
event_lives true true true e = absurd (true≢false e)
event_lives true true false e = absurd (true≢false e)
event_lives false true true e = absurd (true≢false e)
event_lives false true false e = absurd (true≢false e)
event_lives true false true e = refl
event_lives true false false e = refl
event_lives false false true e = refl
event_lives false false false e = refl

event_keeps : (made places : ℕ) (hard quick expires active : Bool) → Keeps made expires active [] places
    → Keeps (suc made) (expires_after quick expires) active (event_steps hard quick active) (cond quick 3 4 + one_if hard + places)
event_keeps made places hard quick expires active h = record { within = event_within made places hard quick expires active h.within; lives = λ x e. event_lives hard quick active e }

later_some : (time : ℕ) (o : Option ℕ) → is_some (later time o) ≡ true
later_some time None = refl
later_some time (Some y) = refl

-- whether an expiry is pending after an event
event_expires : (quick : Bool) (time : ℕ) (x : Option ℕ) → is_some (cond quick x (later time x)) ≡ expires_after quick (is_some x)
event_expires true time x = refl
event_expires false time x = later_some time x

event_starts : (o : Option ℕ) → cond (is_some o) [] (step.Start ∷ []) ≡ starting o
event_starts None = refl
event_starts (Some y) = refl

-- the note of a call if nothing is owed; an expiry only if one is pending
notes_keep : (made places s time : ℕ) (by : SourceCall) (o x : Option ℕ) → (by ≡ call.Expire → is_some x ≡ true) → Keeps made (is_some x) (is_some o) [] places
    → Keeps (suc made) (is_some (expiry_after (Notes s by) time x)) (is_some o) (makes by o) (call_places by + places)
notes_keep made places s time call.Awake None x z h = record { within = omega (arith, h.within); lives = λ e. absurd (true≢false (sym e)) }
notes_keep made places s time call.Awake (Some y) x z h = record { within = omega (arith, h.within); lives = λ e. absurd (true≢false (sym e)) }
notes_keep made places s time call.Relax None None z h = record { within = omega (arith, h.within); lives = h.lives }
notes_keep made places s time call.Relax None (Some t) z h = absurd (true≢false (sym (h.lives refl refl)))
notes_keep made places s time call.Relax (Some y) None z h = record { within = omega (arith, h.within); lives = λ a e. absurd (true≢false e) }
notes_keep made places s time call.Relax (Some y) (Some t) z h = record { within = omega (arith, h.within); lives = λ a e. absurd (true≢false e) }
notes_keep made places s time call.Expire None None z h = absurd (true≢false (sym (z refl)))
notes_keep made places s time call.Expire None (Some t) z h = absurd (true≢false (sym (h.lives refl refl)))
notes_keep made places s time call.Expire (Some y) None z h = absurd (true≢false (sym (z refl)))
notes_keep made places s time call.Expire (Some y) (Some t) z h = record { within = omega (arith, h.within); lives = λ a e. absurd (true≢false e) }
notes_keep made places s time (call.Event ms hard) o x z h =
    subst (λ (b : Bool). Keeps (suc made) b (is_some o) (makes (call.Event ms hard) o) (cond (ms == 0) 3 4 + one_if hard + places)) (sym (event_expires (ms == 0) (time + ms) x))
    (subst (λ (first : List WordKind). Keeps (suc made) (expires_after (ms == 0) (is_some x)) (is_some o) (first ++ cond hard (step.Hard ∷ []) [] ++ cond (ms == 0) (step.Finish ∷ []) []) (cond (ms == 0) 3 4 + one_if hard + places)) (event_starts o)
    (event_keeps made places hard (ms == 0) (is_some x) (is_some o) h))

-- ---- an entry

-- a source's history needs no more than the room of its notes
abbrev KeepsTo : List Entry → ℕ → Type 0
KeepsTo own places = Keeps (length own) (is_some (expiry own)) (is_some (since own)) (owed own) places

expired_some : (o : Option ℕ) (time : ℕ) → has_expired o time ≡ true → is_some o ≡ true
expired_some None time e = absurd (true≢false (sym e))
expired_some (Some y) time e = refl

nothing_owed : (own : List Entry) (time s : ℕ) (who : Actor) (by : SourceCall) → SourceStep own time who (Notes s by) → (owed own ≡ []) × (by ≡ call.Expire → is_some (expiry own) ≡ true)
nothing_owed own time s who call.Expire h = (h.0, λ e. expired_some (expiry own) time h.1)
nothing_owed own time s who call.Awake h = (h, λ e. absurd (cc))
nothing_owed own time s who call.Relax h = (h, λ e. absurd (cc))
nothing_owed own time s who (call.Event ms hard) h = (h, λ e. absurd (cc))

next_moves : (own : List Entry) (s time places : ℕ) (step : WordKind) (steps : List WordKind) → owed own ≡ steps → IsNext step steps → KeepsTo own places
    → Keeps (suc (length own)) (is_some (expiry_after (Moves s step) time (expiry own))) (is_some (since_after (Moves s step) time (since own))) (owed_after (Moves s step) (since own) steps) places
next_moves own s time places step [] e n h = absurd n
next_moves own s time places step (next ∷ rest) e n h =
    moves_keep (length own) places s time (since own) (expiry own) step rest
    (subst (λ (x : WordKind). Keeps (length own) (is_some (expiry own)) (is_some (since own)) (x ∷ rest) places) n (subst (λ (xs : List WordKind). Keeps (length own) (is_some (expiry own)) (is_some (since own)) xs places) e h))

-- if the source is that of the entry
own_keeps : (own : List Entry) (s time places : ℕ) (who : Actor) (part : EntryClass) → is_of s part ≡ true → SourceStep own time who part → KeepsTo own places
    → Keeps (suc (length own)) (is_some (expiry_after part time (expiry own))) (is_some (since_after part time (since own))) (owed_after part (since own) (owed own)) (part_places s part + places)
own_keeps own s time places who (Notes t call) o h k =
    let free = nothing_owed own time t who call h in
    let all : cond (t == s) (call_places call) 0 + places ≡ call_places call + places = ap (λ b. cond b (call_places call) 0 + places) o in
    subst (λ (n : ℕ). Keeps (suc (length own)) (is_some (expiry_after (Notes t call) time (expiry own))) (is_some (since own)) (makes call (since own)) n) (sym all)
    (notes_keep (length own) places t time call (since own) (expiry own) free.1 (subst (λ (xs : List WordKind). Keeps (length own) (is_some (expiry own)) (is_some (since own)) xs places) free.0 k))
own_keeps own s time places who (Moves t step) o h k =
    let none : places ≡ 0 + places = omega arith in
    subst (λ (n : ℕ). Keeps (suc (length own)) (is_some (expiry_after (Moves t step) time (expiry own))) (is_some (since_after (Moves t step) time (since own))) (owed_after (Moves t step) (since own) (owed own)) n) none
    (next_moves own t time places step (owed own) refl h.0 k)
own_keeps own s time places who OfJournal o h k = absurd (true≢false (sym o))
own_keeps own s time places who OfTime o h k = absurd (true≢false (sym o))

-- the step of an entry of source s in the history of s
step_in : (s : ℕ) (past : List Entry) (e : Entry) (part : EntryClass) → is_of s part ≡ true → OwnStep past e part → SourceStep (history s past) e.time e.actor part
step_in s past e (Notes t call) o h = let same : t ≡ s = grind (arith, nat_tests) in subst (λ (x : ℕ). SourceStep (history x past) e.time e.actor (Notes t call)) same h
step_in s past e (Moves t step) o h = let same : t ≡ s = grind (arith, nat_tests) in subst (λ (x : ℕ). SourceStep (history x past) e.time e.actor (Moves t step)) same h
step_in s past e OfJournal o h = tt
step_in s past e OfTime o h = tt

-- an entry of another takes no room
no_places : (s : ℕ) (part : EntryClass) → is_of s part ≡ false → part_places s part ≡ 0
no_places s (Notes t call) o = ap (λ b. cond b (call_places call) 0) o
no_places s (Moves t step) o = refl
no_places s OfJournal o = refl
no_places s OfTime o = refl

keeps : (s : ℕ) (past : List Entry) → SourcePart past → KeepsTo (history s past) (noted s past)
keeps s [] h = record { within = omega arith; lives = λ e. absurd (true≢false (sym e)) }
keeps s (e ∷ past) h = by_source (is_of s (class_of e.kind)) refl (keeps s past h.1)
  where
    by_source : (b : Bool) → is_of s (class_of e.kind) ≡ b → KeepsTo (history s past) (noted s past) → KeepsTo (cond b (e ∷ history s past) (history s past)) (kind_places s e.kind + noted s past)
    by_source true o k = own_keeps (history s past) s e.time (noted s past) e.actor (class_of e.kind) o (step_in s past e (class_of e.kind) o h.0) k
    by_source false o k = let none : noted s past ≡ kind_places s e.kind + noted s past = omega (arith, no_places s (class_of e.kind) o) in subst (λ (n : ℕ). KeepsTo (history s past) n) none k

-- a history has no more entries than its notes have room for
pub history_keeps : (s : ℕ) (past : List Entry) → SourcePart past → length (history s past) ≤ noted s past
history_keeps s past h = omega (arith, (keeps s past h).within)
