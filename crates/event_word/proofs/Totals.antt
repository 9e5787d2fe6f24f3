-- Sums over the numbers of sources, and the word as one number.
use Rattle.std.proofs.Common.{◌≡◌, ℕ, zero, suc, ◌+◌, ◌*◌, ◌/◌, ◌%◌, ◌^◌, ◌<◌, ◌≤◌, ◌≢◌, refl, subst, suc-mul, arith}
use mathlib.Core.Logic.{dite}
use native.Mathlib.Decide.{ℕ_discrete}
use Rattle.sleep_model.specs.declared.word.EventNow.{EventNow}
use Rattle.sleep_model.specs.declared.word.WordKind.{WordKind}
use Rattle.sleep_model.specs.declared.word.WordKind.TheVariants.{Start, Finish, Hard}
use Rattle.sleep_model.specs.Numbers.{after_step}
use Rattle.std.specs.Prelude.{Some}
use Rattle.event_word.specs.Histories.{packed, unpacked, weight}

-- f of each number below n, added up
abbrev pub total : ℕ → (ℕ → ℕ) → ℕ
total zero f = 0
total (suc n) f = f n + total n f

pub total_nil : (n : ℕ) → total n (λ _. 0) ≡ 0
total_nil zero = refl
total_nil (suc n) = let rest : total n (λ _. 0) ≡ 0 = total_nil n in omega arith

pub total_same : (n : ℕ) (f g : ℕ → ℕ) → ((k : ℕ) → k < n → g k ≡ f k) → total n g ≡ total n f
total_same zero f g same = refl
total_same (suc n) f g same =
    let top : g n ≡ f n = same n (omega arith) in
    let rest : total n g ≡ total n f = total_same n f g (λ k low. same k (omega arith)) in
    omega arith

-- if they differ at only one number
pub total_moved : (n i : ℕ) (f g : ℕ → ℕ) → ((k : ℕ) → k ≢ i → g k ≡ f k) → i < n → total n g + f i ≡ total n f + g i
total_moved zero i f g same low = absurd (omega arith)
total_moved (suc n) i f g same low = dite (ℕ_discrete n i)
    (λ (e : n ≡ i). let rest : total n g ≡ total n f = total_same n f g (λ k less. same k (λ z. omega arith)) in
    subst (λ z. (g n + total n g) + f z ≡ (f n + total n f) + g z) e (omega arith))
    (λ (other : n ≢ i). let top : g n ≡ f n = same n other in
    let rest : total n g + f i ≡ total n f + g i = total_moved n i f g same (omega arith) in
    omega arith)

pub total_least : (n k : ℕ) (f : ℕ → ℕ) → k < n → f k ≤ total n f
total_least zero k f low = absurd (omega arith)
total_least (suc n) k f low = dite (ℕ_discrete n k)
    (λ (e : n ≡ k). subst (λ z. f z ≤ f n + total n f) e (omega arith))
    (λ (other : n ≢ k). let rest : f k ≤ total n f = total_least n k f (omega arith) in omega arith)

pub total_most : (n c : ℕ) (f : ℕ → ℕ) → ((k : ℕ) → f k ≤ c) → total n f ≤ n * c
total_most zero c f most = omega arith
total_most (suc n) c f most =
    let rest : total n f ≤ n * c = total_most n c f most in
    let top : f n ≤ c = most n in
    omega (arith, suc-mul n c)

-- no counter of the word runs into another
pub record InParts (w : EventNow) : Type 0 where
  pub inpr : w.inpr < 65536
  pub count : w.count < 16777216
  pub hard : w.hard < 16777216

-- the number taken apart is the word
pub apart_again : (w : EventNow) → InParts w → unpacked (packed w) ≡ w
apart_again w parts =
    let a : w.inpr < 65536 = parts.inpr in
    let b : w.count < 16777216 = parts.count in
    let low : (w.inpr + 65536 * w.count + 1099511627776 * w.hard) % 65536 ≡ w.inpr = omega arith in
    let middle : (w.inpr + 65536 * w.count + 1099511627776 * w.hard) / 65536 % 16777216 ≡ w.count = omega arith in
    let high : (w.inpr + 65536 * w.count + 1099511627776 * w.hard) / 1099511627776 ≡ w.hard = omega arith in
    λ i. record { inpr = low i; count = middle i; hard = high i }

-- a step adds its weight, if it takes nothing that isn't there
abbrev pub Has : WordKind → EventNow → Type 0
Has Start w = Unit {0}
Has Finish w = 1 ≤ w.inpr
Has Hard w = Unit {0}

pub added : (kind : WordKind) (w : EventNow) → Has kind w → InParts (after_step (Some kind) w) → (packed w + weight kind) % 2 ^ 64 ≡ packed (after_step (Some kind) w)
added Start w has parts = let a = parts.inpr in let b = parts.count in let c = parts.hard in omega arith
added Finish w has parts = let a = parts.inpr in let b = parts.count in let c = parts.hard in omega arith
added Hard w has parts = let a = parts.inpr in let b = parts.count in let c = parts.hard in omega arith
