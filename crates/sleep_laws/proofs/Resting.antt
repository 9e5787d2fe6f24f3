-- The word since a read: if it shows the same count, and no event is in progress, no step was made on it.
use Rattle.std.proofs.Common.{◌≡◌, ◌<◌, ◌+◌, ◌%◌, ◌∙◌, ℕ, Bool, true, false, not, ◌==◌, ◌||◌, nat_lt, List, [], ◌∷◌, Option, Some, None, refl, sym, ap, subst, cond, arith}
use Rattle.std.proofs.lemmas.Bool.Decides.{nat_tests}
use Rattle.sleep_model.specs.declared.word.EventNow.{EventNow}
use Rattle.sleep_model.specs.declared.word.WordKind.{WordKind}
use Rattle.sleep_model.specs.declared.word.WordKind.TheVariants as step
use Rattle.sleep_model.specs.Guard.{count_pending, force_after, has_changed, Finds}
use Rattle.sleep_model.specs.Laws.{Answered, later_answer, with_step, steps_since_read}
use Rattle.sleep_model.specs.Numbers.{after_step}
use Rattle.sleep_model.specs.Word.{visible}

-- ---- from the word at a read to the word now

-- the word after these steps, the newest first
abbrev pub advance : List WordKind → EventNow → EventNow
advance [] word = word
advance (s ∷ steps) word = after_step (Some s) (advance steps word)

-- a hard step and a finish are made only if an event is in progress
abbrev pub IsSound : WordKind → EventNow → Type 0
IsSound step.Start word = Unit {0}
IsSound step.Finish word = 0 < word.inpr
IsSound step.Hard word = 0 < word.inpr

-- each of these steps is
abbrev pub AreSound : List WordKind → EventNow → Type 0
AreSound [] word = Unit {0}
AreSound (s ∷ steps) word = IsSound s (advance steps word) × AreSound steps word

-- these steps were made since a word that showed that count, and no event in progress
pub record Rests (c : ℕ) (steps : List WordKind) (now : EventNow) : Type 0 where
  pub word : EventNow
  pub seen : visible word ≡ c
  pub quiet : word.inpr ≡ 0
  pub since : now ≡ advance steps word
  pub sound : AreSound steps word

-- a step that is sound, if there is one
abbrev pub SoundIf : Option WordKind → EventNow → Type 0
SoundIf None now = Unit {0}
SoundIf (Some s) now = IsSound s now

pub rests_later : (c : ℕ) (steps : List WordKind) (now : EventNow) (o : Option WordKind) → SoundIf o now → Rests c steps now → Rests c (with_step o steps) (after_step o now)
rests_later c steps now None q h = h
rests_later c steps now (Some s) q h = record { word = h.word; seen = h.seen; quiet = h.quiet; since = ap (after_step (Some s)) h.since; sound = (subst (IsSound s) h.since q, h.sound) }

-- ---- an answered read, and the count in force

abbrev pub AnswerRests : Option Answered → EventNow → Type 0
AnswerRests None now = Unit {0}
AnswerRests (Some a) now = Rests a.count a.steps now

pub answer_later : (a : Option Answered) (now : EventNow) (o : Option WordKind) → SoundIf o now → AnswerRests a now → AnswerRests (later_answer o a) (after_step o now)
answer_later None now o q h = tt
answer_later (Some a) now o q h = rests_later a.count a.steps now o q h

abbrev pub ForceRests : Option ℕ → List WordKind → EventNow → Type 0
ForceRests None steps now = Unit {0}
ForceRests (Some c) steps now = Rests c steps now

pub force_later : (f : Option ℕ) (steps : List WordKind) (now : EventNow) (o : Option WordKind) → SoundIf o now → ForceRests f steps now → ForceRests f (with_step o steps) (after_step o now)
force_later None steps now o q h = tt
force_later (Some c) steps now o q h = rests_later c steps now o q h

-- a test that found a wakeup leaves the count in force or drops it
pub force_found : (f : Option ℕ) (steps : List WordKind) (now seen : EventNow) → ForceRests f steps now → ForceRests (force_after Finds seen f) steps now
force_found None steps now seen h = tt
force_found (Some c) steps now seen h = by_test (count_pending (Some c) seen)
  where
    by_test : (b : Bool) → ForceRests (cond b None (Some c)) steps now
    by_test true = tt
    by_test false = h

-- a good save rests on the read that gave its count, or on itself
pub save_rests : (c : ℕ) (now : EventNow) (a : Option Answered) → visible now ≡ c → now.inpr ≡ 0 → AnswerRests a now → Rests c (steps_since_read c a) now
save_rests c now None e q h = record { word = now; seen = e; quiet = q; since = refl; sound = tt }
save_rests c now (Some a) e q h = by_count (a.count == c) refl
  where
    by_count : (b : Bool) → (a.count == c) ≡ b → Rests c (cond b a.steps []) now
    by_count true t = let same : a.count ≡ c = grind (arith, nat_tests) in subst (λ (n : ℕ). Rests n a.steps now) same h
    by_count false t = record { word = now; seen = e; quiet = q; since = refl; sound = tt }

-- ---- nothing was seen

-- how many of the steps are finishes: registered events
abbrev finishes : List WordKind → ℕ
finishes [] = 0
finishes (step.Finish ∷ steps) = finishes steps + 1
finishes (step ∷ steps) = finishes steps

count_now : (steps : List WordKind) (word : EventNow) → (advance steps word).count ≡ word.count + finishes steps
count_now [] word = omega arith
count_now (step.Start ∷ steps) word = count_now steps word
count_now (step.Finish ∷ steps) word = omega (arith, count_now steps word)
count_now (step.Hard ∷ steps) word = count_now steps word

-- without a finish, a step leaves an event in progress
still_none : (steps : List WordKind) (word : EventNow) → finishes steps ≡ 0 → AreSound steps word → (advance steps word).inpr ≡ 0 → steps ≡ []
still_none [] word f h q = refl
still_none (step.Start ∷ steps) word f h q = absurd (omega (arith, q))
still_none (step.Finish ∷ steps) word f h q = absurd (omega (arith, f))
still_none (step.Hard ∷ steps) word f h q = absurd (omega (arith, q, h.0))

same_turn : (a f : ℕ) → (a + f) % 16777216 ≡ a % 16777216 → f < 16777216 → f ≡ 0
same_turn a f e l = omega (arith, e, l)

nothing_since : (c : ℕ) (steps : List WordKind) (now : EventNow) → Rests c steps now → visible now ≡ c → now.inpr ≡ 0 → now.count < 16777216 → steps ≡ []
nothing_since c steps now h seen quiet few =
    let count : now.count ≡ h.word.count + finishes steps = ap (λ (w : EventNow). w.count) h.since ∙ count_now steps h.word in
    let none : finishes steps ≡ 0 = same_turn h.word.count (finishes steps) (ap (λ n. n % 16777216) (sym count) ∙ (seen ∙ sym h.seen)) (omega (arith, count, few)) in
    still_none steps h.word none h.sound (ap (λ (w : EventNow). w.inpr) (sym h.since) ∙ quiet)

not_changed : (now : EventNow) (c : ℕ) → has_changed now c ≡ false → (visible now ≡ c) × (now.inpr ≡ 0)
not_changed now c e = by_tests (visible now == c) (nat_lt 0 now.inpr) refl refl e
  where
    by_tests : (a b : Bool) → (visible now == c) ≡ a → nat_lt 0 now.inpr ≡ b → (not a || b) ≡ false → (visible now ≡ c) × (now.inpr ≡ 0)
    by_tests true false x y z = (grind (arith, nat_tests), grind (arith, nat_tests))
    by_tests true true x y z = absurd (cc)
    by_tests false b x y z = absurd (cc)

-- the steps that a count in force saw, and the events in progress: none if no test finds it changed
abbrev pub Unseen : Option ℕ → List WordKind → EventNow → Type 0
Unseen None steps now = Unit {0}
Unseen (Some c) steps now = (steps ≡ []) × (now.inpr ≡ 0)

pub unseen : (f : Option ℕ) (steps : List WordKind) (now : EventNow) → ForceRests f steps now → count_pending f now ≡ false → now.count < 16777216 → Unseen f steps now
unseen None steps now h quiescent few = tt
unseen (Some c) steps now h quiescent few = let s = not_changed now c quiescent in (nothing_since c steps now h s.0 s.1 few, s.1)
