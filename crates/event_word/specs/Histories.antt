-- The steps of all sources on one word, the newest first.
use Rattle.std.specs.Prelude.{◌≡◌, ◌⊎◌, ℕ, ◌+◌, ◌*◌, ◌/◌, ◌%◌, ◌<◌, ◌≤◌, ◌==◌, if◌then◌else◌, true, List, [], ◌∷◌, length, slice_index_or, Some}
use Rattle.sleep_model.specs.declared.word.EventNow.{EventNow}
use Rattle.sleep_model.specs.declared.word.WordKind.{WordKind}
use Rattle.sleep_model.specs.declared.word.WordKind.TheVariants.{Start, Finish, Hard}
use Rattle.sleep_model.specs.Numbers.{after_step}
use Rattle.sleep_model.specs.Word.{position}
use Rattle.event_word.specs.Steps.{MadeStep, is_active, fits}

-- a step, and the number of the source that made it
pub record SourceStep : Type 0 where
  pub source : ℕ
  pub step : WordKind

-- the word after these steps, from 0/0/0
abbrev pub word_after : List SourceStep → EventNow
word_after [] = record { inpr = 0; count = 0; hard = 0 }
word_after (s ∷ past) = after_step (Some s.step) (word_after past)

-- the steps that one source made, each with the word before it
abbrev pub steps_of : ℕ → List SourceStep → List MadeStep
steps_of source [] = []
steps_of source (s ∷ past) =
    if s.source == source then record { step = s.step; before = word_after past } ∷ steps_of source past
    else steps_of source past

-- each step's source has a number below this one
abbrev pub AreBelow : ℕ → List SourceStep → Type 0
AreBelow sources [] = Unit {0}
AreBelow sources (s ∷ past) = (s.source < sources) × AreBelow sources past

-- each source's starts and finishes take turns
abbrev pub AreInTurn : List SourceStep → Type 0
AreInTurn [] = Unit {0}
AreInTurn (s ∷ past) = (fits s.step (is_active (steps_of s.source past)) ≡ true) × AreInTurn past

-- the positions of the words before the steps are 0, 1, 2 and so on, each once
abbrev pub ArePositions : List SourceStep → Type 0
ArePositions [] = Unit {0}
ArePositions (s ∷ past) = (position (word_after past) ≡ length past) × ArePositions past

-- the word was there: it is the one after all steps, or it was before one of them
abbrev pub IsSeen : List SourceStep → EventNow → Type 0
IsSeen [] word = word ≡ word_after []
IsSeen (s ∷ past) word = (word ≡ word_after (s ∷ past)) ⊎ IsSeen past word

-- each of the words was there
abbrev pub AreSeen : List SourceStep → List EventNow → Type 0
AreSeen history [] = Unit {0}
AreSeen history (word ∷ words) = IsSeen history word × AreSeen history words

-- the same of lists of words
abbrev pub AllSeen : List SourceStep → List (List EventNow) → Type 0
AllSeen history [] = Unit {0}
AllSeen history (words ∷ rest) = AreSeen history words × AllSeen history rest

-- the positions of the words, the newest first, are at most that number, and fall or stay: no later look goes back
abbrev pub NeverRise : ℕ → List EventNow → Type 0
NeverRise most [] = Unit {0}
NeverRise most (word ∷ words) = (position word ≤ most) × NeverRise (position word) words

-- no look goes back after an earlier one
abbrev pub IsInOrder : List EventNow → Type 0
IsInOrder [] = Unit {0}
IsInOrder (word ∷ words) = NeverRise (position word) words

-- the same of lists of looks
abbrev pub AreInOrder : List (List EventNow) → Type 0
AreInOrder [] = Unit {0}
AreInOrder (words ∷ rest) = IsInOrder words × AreInOrder rest

-- the steps of all sources are at the positions from 0 on, each once, and chain; the closing shows the last word; every look of a seat saw
-- one of these words, and no look went back
pub record AreClosed (made : List (List MadeStep)) (looked : List (List EventNow)) (answer : EventNow) : Type 0 where
  pub history : List SourceStep
  pub makers : AreBelow (length made) history
  pub each_made : (source : ℕ) → source < length made → slice_index_or made source [] ≡ steps_of source history
  pub turns : AreInTurn history
  pub placed : ArePositions history
  pub last : (answer ≡ word_after history) × (position answer ≡ length history)
  pub seen : AllSeen history looked × AreInOrder looked

-- the word as one number: 16 bits in progress, 24 of count, 24 hard (MAX_IN_PROGRESS; hard and the widths are own)
abbrev pub packed : EventNow → ℕ
packed word = word.inpr + 65536 * word.count + 1099511627776 * word.hard

-- the number taken apart
abbrev pub unpacked : ℕ → EventNow
unpacked n = record { inpr = n % 65536; count = n / 65536 % 16777216; hard = n / 1099511627776 }

-- what a step adds to the number: a finish takes 1 away below and adds 1 above (wakeup_source_deactivate)
abbrev pub weight : WordKind → ℕ
weight Start = 1
weight Finish = 65535
weight Hard = 1099511627776
