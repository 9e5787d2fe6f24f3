-- What is so of every history in which each source's starts and finishes take turns.
use Rattle.std.proofs.Common.{◌≡◌, ℕ, suc, ◌+◌, ◌*◌, ◌<◌, ◌≤◌, ◌≢◌, Bool, true, false, eq-eqb, ne_eqb, if◌then◌else◌, Some, List, [], ◌∷◌, length, sym, refl, ap, ◌∙◌, inl, inr, arith}
use Rattle.std.proofs.lemmas.Bool.{false≢true}
use Rattle.sleep_model.specs.declared.word.EventNow.{EventNow}
use Rattle.sleep_model.specs.declared.word.WordKind.{WordKind}
use Rattle.sleep_model.specs.declared.word.WordKind.TheVariants.{Start, Finish, Hard}
use Rattle.sleep_model.specs.Numbers.{after_step}
use Rattle.sleep_model.specs.Word.{position}
use Rattle.event_word.specs.Steps.{MadeStep, active_after, is_active, fits}
use Rattle.event_word.specs.Histories.{SourceStep, word_after, steps_of, AreBelow, AreInTurn, ArePositions, IsSeen, AreSeen, AllSeen}
use Rattle.event_word.proofs.Totals.{total, total_nil, total_moved, total_least, total_most, InParts, Has}

abbrev bit : Bool → ℕ
bit true = 1
bit false = 0

pub steps_same : (s : SourceStep) (past : List SourceStep) (k : ℕ) → s.source ≡ k → steps_of k (s ∷ past) ≡ record { step = s.step; before = word_after past } ∷ steps_of k past
steps_same s past k e = ap (λ (b : Bool). if b then record { step = s.step; before = word_after past } ∷ steps_of k past else steps_of k past) (eq-eqb s.source k e)

pub steps_else : (s : SourceStep) (past : List SourceStep) (k : ℕ) → s.source ≢ k → steps_of k (s ∷ past) ≡ steps_of k past
steps_else s past k other = ap (λ (b : Bool). if b then record { step = s.step; before = word_after past } ∷ steps_of k past else steps_of k past) (ne_eqb s.source k other)

pub steps_new : (n : ℕ) (log : List SourceStep) → AreBelow n log → steps_of n log ≡ []
steps_new n [] below = refl
steps_new n (s ∷ past) below = let low = below.0 in steps_else s past n (λ e. omega arith) ∙ steps_new n past below.1

pub below_more : (n : ℕ) (log : List SourceStep) → AreBelow n log → AreBelow (suc n) log
below_more n [] below = tt
below_more n (s ∷ past) below = let low = below.0 in (omega arith, below_more n past below.1)

-- how many events are in progress follows the step
moved : (kind : WordKind) (w : EventNow) (b : Bool) (t t' : ℕ) → fits kind b ≡ true → w.inpr ≡ t → t' + bit b ≡ t + bit (active_after kind b) → (after_step (Some kind) w).inpr ≡ t'
moved Start w true t t' fit is sum = absurd (false≢true fit)
moved Start w false t t' fit is sum = omega arith
moved Finish w true t t' fit is sum = omega arith
moved Finish w false t t' fit is sum = absurd (false≢true fit)
moved Hard w b t t' fit is sum = omega arith

-- as many events are in progress as sources have one
pub in_progress : (n : ℕ) (log : List SourceStep) → AreBelow n log → AreInTurn log → (word_after log).inpr ≡ total n (λ k. bit (is_active (steps_of k log)))
in_progress n [] below turns = sym (total_nil n)
in_progress n (s ∷ past) below turns =
    let f : ℕ → ℕ = λ k. bit (is_active (steps_of k past)) in
    let g : ℕ → ℕ = λ k. bit (is_active (steps_of k (s ∷ past))) in
    let sum : total n g + f s.source ≡ total n f + g s.source = total_moved n s.source f g (λ k other. ap (λ (ms : List MadeStep). bit (is_active ms)) (steps_else s past k (λ e. other (sym e)))) below.0 in
    let mine : g s.source ≡ bit (active_after s.step (is_active (steps_of s.source past))) = ap (λ (ms : List MadeStep). bit (is_active ms)) (steps_same s past s.source refl) in
    moved s.step (word_after past) (is_active (steps_of s.source past)) (total n f) (total n g) turns.0 (in_progress n past below.1 turns.1) (sum ∙ ap (λ z. total n f + z) mine)

has_one : (kind : WordKind) (w : EventNow) (b : Bool) → fits kind b ≡ true → bit b ≤ w.inpr → Has kind w
has_one Start w b fit least = tt
has_one Finish w true fit least = least
has_one Finish w false fit least = absurd (false≢true fit)
has_one Hard w b fit least = tt

-- a step that fits takes nothing that isn't there
pub has : (n : ℕ) (log : List SourceStep) (k : ℕ) (kind : WordKind) → AreBelow n log → AreInTurn log → k < n → fits kind (is_active (steps_of k log)) ≡ true → Has kind (word_after log)
has n log k kind below turns low fit =
    let all = in_progress n log below turns in
    let least : bit (is_active (steps_of k log)) ≤ total n (λ j. bit (is_active (steps_of j log))) = total_least n k (λ j. bit (is_active (steps_of j log))) low in
    has_one kind (word_after log) (is_active (steps_of k log)) fit (omega arith)

one_on : (kind : WordKind) (w : EventNow) → Has kind w → position (after_step (Some kind) w) ≡ suc (position w)
one_on Start w least = omega arith
one_on Finish w least = omega arith
one_on Hard w least = omega arith

-- the word's position is the number of steps
pub at_length : (n : ℕ) (log : List SourceStep) → AreBelow n log → AreInTurn log → position (word_after log) ≡ length log
at_length n [] below turns = refl
at_length n (s ∷ past) below turns =
    one_on s.step (word_after past) (has n past s.source s.step below.1 turns.1 below.0 turns.0) ∙ ap suc (at_length n past below.1 turns.1)

pub positions_once : (n : ℕ) (log : List SourceStep) → AreBelow n log → AreInTurn log → ArePositions log
positions_once n [] below turns = tt
positions_once n (s ∷ past) below turns = (at_length n past below.1 turns.1, positions_once n past below.1 turns.1)

-- there are as many steps as all sources made
counted_steps : (n : ℕ) (log : List SourceStep) → AreBelow n log → length log ≡ total n (λ k. length (steps_of k log))
counted_steps n [] below = sym (total_nil n)
counted_steps n (s ∷ past) below =
    let f : ℕ → ℕ = λ k. length (steps_of k past) in
    let g : ℕ → ℕ = λ k. length (steps_of k (s ∷ past)) in
    let sum : total n g + f s.source ≡ total n f + g s.source = total_moved n s.source f g (λ k other. ap (λ (ms : List MadeStep). length ms) (steps_else s past k (λ e. other (sym e)))) below.0 in
    let mine : g s.source ≡ suc (f s.source) = ap (λ (ms : List MadeStep). length ms) (steps_same s past s.source refl) in
    let rest : length past ≡ total n f = counted_steps n past below.1 in
    let one : suc (length past) ≡ total n g = omega arith in one

bit_most : (b : Bool) → bit b ≤ 1
bit_most true = omega arith
bit_most false = omega arith

-- no counter of the word overflows
pub in_parts : (n : ℕ) (log : List SourceStep) → n ≤ 256 → AreBelow n log → AreInTurn log → ((k : ℕ) → length (steps_of k log) ≤ 60000) → InParts (word_after log)
in_parts n log few below turns short =
    let all = in_progress n log below turns in
    let busy : total n (λ k. bit (is_active (steps_of k log))) ≤ n * 1 = total_most n 1 (λ k. bit (is_active (steps_of k log))) (λ k. bit_most (is_active (steps_of k log))) in
    let long = counted_steps n log below in
    let most : total n (λ k. length (steps_of k log)) ≤ n * 60000 = total_most n 60000 (λ k. length (steps_of k log)) short in
    let at : (word_after log).inpr + 2 * (word_after log).count + (word_after log).hard ≡ length log = at_length n log below turns in
    record { inpr = omega arith; count = omega arith; hard = omega arith }

-- what was seen was there also once another step is made
pub seen_now : (log : List SourceStep) → IsSeen log (word_after log)
seen_now [] = refl
seen_now (s ∷ past) = inl refl

pub seen_more : (s : SourceStep) (log : List SourceStep) (words : List EventNow) → AreSeen log words → AreSeen (s ∷ log) words
seen_more s log [] seen = tt
seen_more s log (w ∷ ws) seen = (inr seen.0, seen_more s log ws seen.1)

pub all_more : (s : SourceStep) (log : List SourceStep) (lists : List (List EventNow)) → AllSeen log lists → AllSeen (s ∷ log) lists
all_more s log [] seen = tt
all_more s log (ws ∷ rest) seen = (seen_more s log ws seen.0, all_more s log rest seen.1)
