-- The history of the event word, if all steps are hard events.
use Rattle.std.proofs.Common.{◌≡◌, ◌∙◌, ℕ, suc, ◌+◌, ◌*◌, ◌<◌, ◌≤◌, ◌==◌, Bool, true, false, if◌then◌else◌, ◌⊎◌, inl, inr, Some, List, [], ◌∷◌, length, map, refl, ap, sym, subst, arith}
use Rattle.std.proofs.lemmas.List.{length-map}
use Rattle.sleep_model.specs.declared.word.EventNow.{EventNow}
use Rattle.sleep_model.specs.declared.word.WordKind.{WordKind}
use Rattle.sleep_model.specs.declared.word.WordKind.TheVariants as word
use Rattle.sleep_model.specs.Numbers.{after_step}
use Rattle.sleep_model.specs.Word.{position}
use Rattle.event_word.specs.Steps.{MadeStep}
use Rattle.event_word.specs.Histories.{SourceStep, word_after, steps_of, AreBelow, IsSeen}
use Rattle.idle_loop.specs.Turns.{befores, InTurn}
use Rattle.idle_loop.specs.Makers.{Alternate, AllBelow, ranks}
use Rattle.idle_loop.proofs.Alternate.{taken_if}

-- who made the hard events
abbrev pub makers_in : List SourceStep → List ℕ
makers_in history = map (λ (s : SourceStep). s.source) history

abbrev pub AllHard : List SourceStep → Type 0
AllHard [] = Unit {0}
AllHard (s ∷ past) = (s.step ≡ word.Hard) × AllHard past

abbrev AllHardSteps : List MadeStep → Type 0
AllHardSteps [] = Unit {0}
AllHardSteps (s ∷ made) = (s.step ≡ word.Hard) × AllHardSteps made

pub hard_steps : (owes : Bool) (floor : ℕ) (made : List MadeStep) (seen : List ℕ) → InTurn owes floor made seen → AllHardSteps made
hard_steps false floor [] seen is = tt
hard_steps false floor (s ∷ made) [] is = absurd is
hard_steps false floor (s ∷ made) (hard ∷ seen) is = (is.2, hard_steps false (position s.before) made seen is.3)
hard_steps true floor [] seen is = tt
hard_steps true floor (s ∷ made) seen is = (is.0, hard_steps false (position s.before) made seen is.1)

rest_if : (b : Bool) (s : MadeStep) (made : List MadeStep) → AllHardSteps (if b then s ∷ made else made) → AllHardSteps made
rest_if true s made all = all.1
rest_if false s made all = all

pub all_hard : (n : ℕ) (history : List SourceStep) → AreBelow n history → ((k : ℕ) → k < n → AllHardSteps (steps_of k history)) → AllHard history
all_hard n [] below each = tt
all_hard n (s ∷ past) below each =
    let step : MadeStep = record { step = s.step; before = word_after past } in
    let own : AllHardSteps (step ∷ steps_of s.source past) = subst AllHardSteps (taken_if s.source s.source (step ∷ steps_of s.source past) (steps_of s.source past) refl) (each s.source below.0) in
    (own.0, all_hard n past below.1 (λ k low. rest_if (s.source == k) (record { step = s.step; before = word_after past }) (steps_of k past) (each k low)))

suc_is : (n : ℕ) → n + 1 ≡ suc n
suc_is n = omega arith

-- the word counts them
pub word_hard : (history : List SourceStep) → AllHard history → word_after history ≡ record { inpr = 0; count = 0; hard = length history }
word_hard [] all = refl
word_hard (s ∷ past) all =
    ap (λ (k : WordKind). after_step (Some k) (word_after past)) all.0
    ∙ (ap (after_step (Some word.Hard)) (word_hard past all.1) ∙ ap (λ (n : ℕ). record { inpr = 0; count = 0; hard = n }) (suc_is (length past)))

AllPlain : List MadeStep → Type 0
AllPlain [] = Unit {0}
AllPlain (s ∷ made) = (position s.before ≡ s.before.hard) × AllPlain made

plain_if : (b : Bool) (s : MadeStep) (made : List MadeStep) → position s.before ≡ s.before.hard → AllPlain made → AllPlain (if b then s ∷ made else made)
unfolding AllPlain
plain_if true s made one all = (one, all)
plain_if false s made one all = all

plain_word : (word : EventNow) (n : ℕ) → word ≡ record { inpr = 0; count = 0; hard = n } → position word ≡ word.hard
plain_word word n is = subst (λ (w : EventNow). position w ≡ w.hard) (sym is) (let none : 0 + 2 * 0 + n ≡ n = omega arith in none)

all_plain : (who : ℕ) (history : List SourceStep) → AllHard history → AllPlain (steps_of who history)
unfolding AllPlain
all_plain who [] all = tt
all_plain who (s ∷ past) all = plain_if (s.source == who) (record { step = s.step; before = word_after past }) (steps_of who past) (plain_word (word_after past) (length past) (word_hard past all.1)) (all_plain who past all.1)

befores_if : (b : Bool) (s : MadeStep) (made : List MadeStep) (n : ℕ) (ps : List ℕ) → s.before.hard ≡ n → befores made ≡ ps → befores (if b then s ∷ made else made) ≡ (if b then n ∷ ps else ps)
befores_if true s made n ps one rest = ap (λ (k : ℕ). k ∷ befores made) one ∙ ap (λ (l : List ℕ). n ∷ l) rest
befores_if false s made n ps one rest = rest

-- a waker's steps are at its positions
pub befores_places : (who : ℕ) (history : List SourceStep) → AllHard history → befores (steps_of who history) ≡ ranks who (makers_in history)
befores_places who [] all = refl
befores_places who (s ∷ past) all =
    befores_if (s.source == who) (record { step = s.step; before = word_after past }) (steps_of who past) (length (makers_in past)) (ranks who (makers_in past))
    (ap (λ (w : EventNow). w.hard) (word_hard past all.1) ∙ sym (length-map past (λ (t : SourceStep). t.source))) (befores_places who past all.1)

in_numbers : (owes : Bool) (floor : ℕ) (made : List MadeStep) (seen : List ℕ) → AllPlain made → InTurn owes floor made seen → Alternate owes floor (befores made) seen
unfolding AllPlain
in_numbers false floor [] [] plain is = tt
in_numbers false floor [] (hard ∷ seen) plain is = absurd is
in_numbers false floor (s ∷ made) [] plain is = absurd is
in_numbers false floor (s ∷ made) (hard ∷ seen) plain is = (is.0, is.1, subst (λ (n : ℕ). Alternate false n (befores made) seen) plain.0 (in_numbers false (position s.before) made seen plain.1 is.3))
in_numbers true floor [] seen plain is = absurd is
in_numbers true floor (s ∷ made) seen plain is = subst (λ (n : ℕ). Alternate false n (befores made) seen) plain.0 (in_numbers false (position s.before) made seen plain.1 is.1)

-- a waker's turns, by its positions
pub turns_at_places : (who : ℕ) (history : List SourceStep) (owes : Bool) (floor : ℕ) (seen : List ℕ) → AllHard history → InTurn owes floor (steps_of who history) seen → Alternate owes floor (ranks who (makers_in history)) seen
turns_at_places who history owes floor seen all is =
    subst (λ (l : List ℕ). Alternate owes floor l seen) (befores_places who history all) (in_numbers owes floor (steps_of who history) seen (all_plain who history all) is)

pub makers_below : (n : ℕ) (history : List SourceStep) → AreBelow n history → AllBelow n (makers_in history)
makers_below n [] below = tt
makers_below n (s ∷ past) below = (below.0, makers_below n past below.1)

or_else : (A B C : Type 0) → A ⊎ B → (A → C) → (B → C) → C
or_else A B C (inl a) f g = f a
or_else A B C (inr b) f g = g b

-- no word that was there counts more
pub seen_low : (history : List SourceStep) (word : EventNow) → AllHard history → IsSeen history word → word.hard ≤ length history
seen_low [] word all seen = let none : word.hard ≡ 0 = ap (λ (w : EventNow). w.hard) seen in omega (arith, none)
seen_low (s ∷ past) word all seen = or_else (word ≡ word_after (s ∷ past)) (IsSeen past word) (word.hard ≤ suc (length past)) seen
    (λ last. let same : word.hard ≡ suc (length past) = ap (λ (w : EventNow). w.hard) (last ∙ word_hard (s ∷ past) all) in omega (arith, same))
    (λ older. let low : word.hard ≤ length past = seen_low past word all.1 older in omega (arith, low))

-- the steps of a waker in its turns: as many as its wakes, and one if it owes a wake
pub turns_count : (owed : ℕ) (owes : Bool) (floor : ℕ) (made : List MadeStep) (seen : List ℕ) → owed ≡ (if owes then 1 else 0) → InTurn owes floor made seen → length made ≡ length seen + owed
turns_count owed false floor [] [] is turns = omega (arith, is)
turns_count owed false floor [] (hard ∷ seen) is turns = absurd turns
turns_count owed false floor (s ∷ made) [] is turns = absurd turns
turns_count owed false floor (s ∷ made) (hard ∷ seen) is turns = let rest : length made ≡ length seen + owed = turns_count owed false (position s.before) made seen is turns.3 in omega (arith, rest)
turns_count owed true floor [] seen is turns = absurd turns
turns_count owed true floor (s ∷ made) seen is turns = let rest : length made ≡ length seen + 0 = turns_count 0 false (position s.before) made seen refl turns.1 in omega (arith, rest, is)
