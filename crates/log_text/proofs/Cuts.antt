-- Cutting what was put together, and the bytes that words don't have.
use Rattle.std.proofs.Common.{◌≡◌, ◌∙◌, ℕ, ◌==◌, ◌+◌, ◌-◌, ◌<◌, ◌≤◌, ◌%◌, ◌^◌, Bool, true, false, not, ◌&&◌, List, [], ◌∷◌, ◌++◌, length, take, decimal, refl, sym, ap, arith}
use Rattle.std.specs.List.{list_all}
use Rattle.std.proofs.lemmas.Bool.{and_parts, and_from, eq-eqb, eqb-true}
use Rattle.std.proofs.lemmas.Bool.Decides.{nat_tests}
use Rattle.std.proofs.lemmas.Fmt.{decimal_by_steps}
use Rattle.std.proofs.Math.Seq.{take-append_seam}
use Rattle.std.proofs.lemmas.List.{length-append}
use Rattle.sleep_model.specs.NameBytes.{is_name_byte}
use Rattle.sleep_base.specs.Cutting.{before, after_first}

-- no byte is that one
abbrev pub is_without : ℕ → List ℕ → Bool
is_without mark [] = true
is_without mark (b ∷ bytes) = not (b == mark) && is_without mark bytes

not_true : (t : Bool) → not t ≡ true → t ≡ false
not_true true h = sym h
not_true false h = refl

same_byte : (mark : ℕ) → (mark == mark) ≡ true
same_byte mark = eq-eqb mark mark refl

-- cut at the first such byte, what comes before it is left
pub before_at : (mark : ℕ) (w r : List ℕ) → is_without mark w ≡ true → before mark (w ++ mark ∷ r) ≡ w
before_at mark [] r h = rw (same_byte mark) refl
before_at mark (b ∷ w) r h =
    let p = and_parts (not (b == mark)) (is_without mark w) h in
    rw (not_true (b == mark) p.0) (ap (λ (x : List ℕ). b ∷ x) (before_at mark w r p.1))

-- and what follows it
pub after_at : (mark : ℕ) (w r : List ℕ) → is_without mark w ≡ true → after_first mark (w ++ mark ∷ r) ≡ r
after_at mark [] r h = rw (same_byte mark) refl
after_at mark (b ∷ w) r h =
    let p = and_parts (not (b == mark)) (is_without mark w) h in
    rw (not_true (b == mark) p.0) (after_at mark w r p.1)

-- without such a byte all comes before it
pub before_all : (mark : ℕ) (w : List ℕ) → is_without mark w ≡ true → before mark w ≡ w
before_all mark [] h = refl
before_all mark (b ∷ w) h =
    let p = and_parts (not (b == mark)) (is_without mark w) h in
    rw (not_true (b == mark) p.0) (ap (λ (x : List ℕ). b ∷ x) (before_all mark w p.1))

-- two texts without such a byte, one after the other
pub without_append : (mark : ℕ) (v w : List ℕ) → is_without mark v ≡ true → is_without mark w ≡ true → is_without mark (v ++ w) ≡ true
without_append mark [] w h k = k
without_append mark (b ∷ v) w h k =
    let p = and_parts (not (b == mark)) (is_without mark v) h in
    and_from (not (b == mark)) (is_without mark (v ++ w)) p.0 (without_append mark v w p.1 k)

-- a byte that is no digit is in no number
pub decimal_without : (mark : ℕ) → ((d : ℕ) → d < 10 → ((48 + d) == mark) ≡ false) → (n : ℕ) → n < 2 ^ 64 → is_without mark (decimal n) ≡ true
decimal_without mark other n h = decimal_by_steps (λ k ds. is_without mark ds ≡ true) one more n h
  where
    digit : (d : ℕ) → d < 10 → is_without mark ((48 + d) ∷ []) ≡ true
    digit d l = rw (other d l) refl

    one : (k : ℕ) → k < 10 → is_without mark ((48 + k) ∷ []) ≡ true
    one k l = digit k l

    more : (k : ℕ) (ds : List ℕ) → 10 ≤ k → is_without mark ds ≡ true → is_without mark (ds ++ ((48 + k % 10) ∷ [])) ≡ true
    more k ds l m = without_append mark ds ((48 + k % 10) ∷ []) m (digit (k % 10) (omega arith))

-- no number has a space, a slash or a newline
pub decimal_no_space : (n : ℕ) → n < 2 ^ 64 → is_without 32 (decimal n) ≡ true
decimal_no_space n h = decimal_without 32 (λ d l. grind (arith, nat_tests)) n h

pub decimal_no_slash : (n : ℕ) → n < 2 ^ 64 → is_without 47 (decimal n) ≡ true
decimal_no_slash n h = decimal_without 47 (λ d l. grind (arith, nat_tests)) n h

pub decimal_no_newline : (n : ℕ) → n < 2 ^ 64 → is_without 10 (decimal n) ≡ true
decimal_no_newline n h = decimal_without 10 (λ d l. grind (arith, nat_tests)) n h

other_byte : (mark b : ℕ) → is_name_byte mark ≡ false → is_name_byte b ≡ true → (t : Bool) → (b == mark) ≡ t → not t ≡ true
other_byte mark b n y true e =
    let same : b ≡ mark = eqb-true b mark e in
    let clash : true ≡ false = sym y ∙ ap is_name_byte same ∙ n in absurd (cc)
other_byte mark b n y false e = refl

-- a byte that no name has is in no name
pub name_without : (mark : ℕ) → is_name_byte mark ≡ false → (name : List ℕ) → list_all is_name_byte name ≡ true → is_without mark name ≡ true
name_without mark n [] h = refl
name_without mark n (b ∷ name) h =
    let p = and_parts (is_name_byte b) (list_all is_name_byte name) h in
    and_from (not (b == mark)) (is_without mark name) (other_byte mark b n p.0 (b == mark) refl) (name_without mark n name p.1)

-- the last byte taken off again
pub last_off : (w : List ℕ) (b : ℕ) → take (length (w ++ b ∷ []) - 1) (w ++ b ∷ []) ≡ w
last_off w b =
    let n : length (w ++ b ∷ []) - 1 ≡ length w = simp length-append (omega arith) in
    rw n (take-append_seam w (b ∷ []))
