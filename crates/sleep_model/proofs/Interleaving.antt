-- Journals with other entries among them.
use Rattle.std.proofs.Common.{◌≡◌, ◌≤◌, ◌<◌, ◌+◌, ◌++◌, ◌∙◌, ℕ, zero, suc, Bool, true, false, not, nat_le, if◌then◌else◌, List, [], ◌∷◌, length, reverse, refl, sym, ap, subst, arith}
use Rattle.std.proofs.lemmas.List.{length-reverse}
use Rattle.std.proofs.lemmas.Bool.Decides.{nat_tests}
use Rattle.sleep_model.specs.declared.entry.Entry.{Entry}
use Rattle.sleep_model.specs.declared.entry.JournalEntry.{JournalEntry}
use Rattle.sleep_model.specs.declared.entry_list.OtherEntry.{OtherEntry}
use Rattle.sleep_model.specs.Interleaved.{is_ahead, interleaved, AreWithin, is_journals_turn}

-- all entries of both are among them
pub length_interleaved : (n : ℕ) (journal : List JournalEntry) (others : List OtherEntry) → length (interleaved n journal others) ≡ length journal + length others
length_interleaved n [] [] = omega arith
length_interleaved n [] (o ∷ os) = omega (arith, length_interleaved n [] os)
length_interleaved n (e ∷ js) [] = omega (arith, length_interleaved (suc n) js [])
length_interleaved n (e ∷ js) (o ∷ os) = by (nat_le o.before n) (length_interleaved n (e ∷ js) os) (length_interleaved (suc n) js (o ∷ os))
  where
    by : (b : Bool) → length (interleaved n (e ∷ js) os) ≡ length (e ∷ js) + length os → length (interleaved (suc n) js (o ∷ os)) ≡ length js + length (o ∷ os)
        → length (if b then o.entry ∷ interleaved n (e ∷ js) os else e.entry ∷ interleaved (suc n) js (o ∷ os)) ≡ length (e ∷ js) + length (o ∷ os)
    by true h g = omega (arith, h)
    by false h g = omega (arith, g)

le_true : (a b : ℕ) → a ≤ b → nat_le a b ≡ true
le_true a b h = grind (arith, nat_tests)

le_false : (a b : ℕ) → b < a → nat_le a b ≡ false
le_false a b h = grind (arith, nat_tests)

-- one of the others that comes after the whole journal is the last
pub interleaved_other : (n : ℕ) (journal : List JournalEntry) (others : List OtherEntry) (last : OtherEntry) → n + length journal ≤ last.before
    → interleaved n journal (others ++ last ∷ []) ≡ interleaved n journal others ++ last.entry ∷ []
interleaved_other n [] [] last h = refl
interleaved_other n [] (o ∷ os) last h = ap (λ xs. o.entry ∷ xs) (interleaved_other n [] os last h)
interleaved_other n (e ∷ js) [] last h =
    ap (λ b. if b then last.entry ∷ interleaved n (e ∷ js) [] else e.entry ∷ interleaved (suc n) js (last ∷ [])) (le_false last.before n (omega (arith, h)))
    ∙ ap (λ xs. e.entry ∷ xs) (interleaved_other (suc n) js [] last (omega (arith, h)))
interleaved_other n (e ∷ js) (o ∷ os) last h = by (nat_le o.before n) (interleaved_other n (e ∷ js) os last h) (interleaved_other (suc n) js (o ∷ os) last (omega (arith, h)))
  where
    by : (b : Bool) → interleaved n (e ∷ js) (os ++ last ∷ []) ≡ interleaved n (e ∷ js) os ++ last.entry ∷ []
        → interleaved (suc n) js ((o ∷ os) ++ last ∷ []) ≡ interleaved (suc n) js (o ∷ os) ++ last.entry ∷ []
        → (if b then o.entry ∷ interleaved n (e ∷ js) (os ++ last ∷ []) else e.entry ∷ interleaved (suc n) js (o ∷ os ++ last ∷ []))
        ≡ (if b then o.entry ∷ interleaved n (e ∷ js) os else e.entry ∷ interleaved (suc n) js (o ∷ os)) ++ last.entry ∷ []
    by true g k = ap (λ xs. o.entry ∷ xs) g
    by false g k = ap (λ xs. e.entry ∷ xs) k

-- the last of a journal comes after all, if none of the others comes after it
pub interleaved_journal : (n : ℕ) (journal : List JournalEntry) (others : List OtherEntry) (last : JournalEntry) → AreWithin (n + length journal) others
    → interleaved n (journal ++ last ∷ []) others ≡ interleaved n journal others ++ last.entry ∷ []
interleaved_journal n [] [] last h = refl
interleaved_journal n [] (o ∷ os) last h =
    ap (λ b. if b then o.entry ∷ interleaved n (last ∷ []) os else last.entry ∷ interleaved (suc n) [] (o ∷ os)) (le_true o.before n (omega (arith, h.0)))
    ∙ ap (λ xs. o.entry ∷ xs) (interleaved_journal n [] os last h.1)
interleaved_journal n (e ∷ js) [] last h = ap (λ xs. e.entry ∷ xs) (interleaved_journal (suc n) js [] last tt)
interleaved_journal n (e ∷ js) (o ∷ os) last h =
    by (nat_le o.before n) (interleaved_journal n (e ∷ js) os last h.1) (interleaved_journal (suc n) js (o ∷ os) last (subst (λ k. AreWithin k (o ∷ os)) (omega arith) h))
  where
    by : (b : Bool) → interleaved n ((e ∷ js) ++ last ∷ []) os ≡ interleaved n (e ∷ js) os ++ last.entry ∷ []
        → interleaved (suc n) (js ++ last ∷ []) (o ∷ os) ≡ interleaved (suc n) js (o ∷ os) ++ last.entry ∷ []
        → (if b then o.entry ∷ interleaved n (e ∷ js ++ last ∷ []) os else e.entry ∷ interleaved (suc n) (js ++ last ∷ []) (o ∷ os))
        ≡ (if b then o.entry ∷ interleaved n (e ∷ js) os else e.entry ∷ interleaved (suc n) js (o ∷ os)) ++ last.entry ∷ []
    by true g k = ap (λ xs. o.entry ∷ xs) g
    by false g k = ap (λ xs. e.entry ∷ xs) k

-- all entries are those of the journal and the others
pub length_all : (past : List JournalEntry) (others : List OtherEntry) → length (interleaved 0 (reverse past) others) ≡ length past + length others
length_all past others = omega (arith, length_interleaved 0 (reverse past) others, length-reverse past)

-- an entry that comes after the whole journal is the last
pub put_last : (past : List JournalEntry) (others new : List OtherEntry) (n : ℕ) (e : Entry) → n ≡ length past → new ≡ others ++ record { before = n; entry = e } ∷ []
    → interleaved 0 (reverse past) new ≡ interleaved 0 (reverse past) others ++ e ∷ []
put_last past others new n e count is =
    ap (interleaved 0 (reverse past)) is ∙ interleaved_other 0 (reverse past) others (record { before = n; entry = e }) (omega (arith, length-reverse past, count))

-- ---- reading

-- one of the others is read that is ahead
pub read_other : (n : ℕ) (journal : List JournalEntry) (others rest : List OtherEntry) (first : OtherEntry) → others ≡ first ∷ rest → is_ahead n journal first ≡ true
    → interleaved n journal others ≡ first.entry ∷ interleaved n journal rest
read_other n journal others rest first is ahead = ap (interleaved n journal) is ∙ by journal ahead
  where
    by : (js : List JournalEntry) → is_ahead n js first ≡ true → interleaved n js (first ∷ rest) ≡ first.entry ∷ interleaved n js rest
    by [] h = refl
    by (e ∷ js) h = ap (λ b. if b then first.entry ∷ interleaved n (e ∷ js) rest else e.entry ∷ interleaved (suc n) js (first ∷ rest)) h

-- the journal's next is read if none of the others is ahead
pub read_journal : (n : ℕ) (journal rest : List JournalEntry) (others : List OtherEntry) (first : JournalEntry) → journal ≡ first ∷ rest → is_journals_turn n journal others ≡ true
    → interleaved n journal others ≡ first.entry ∷ interleaved (n + 1) rest others
read_journal n journal rest others first is turn =
    ap (λ js. interleaved n js others) is ∙ (by others (subst (λ js. is_journals_turn n js others ≡ true) is turn) ∙ ap (λ k. first.entry ∷ interleaved k rest others) (omega arith))
  where
    not_true : (b : Bool) → not b ≡ true → b ≡ false
    not_true true h = sym h
    not_true false h = refl

    by : (os : List OtherEntry) → is_journals_turn n (first ∷ rest) os ≡ true → interleaved n (first ∷ rest) os ≡ first.entry ∷ interleaved (suc n) rest os
    by [] h = refl
    by (o ∷ os) h = ap (λ b. if b then o.entry ∷ interleaved n (first ∷ rest) os else first.entry ∷ interleaved (suc n) rest (o ∷ os)) (not_true (nat_le o.before n) h)

-- nothing is left if the journal is at its end and it is its turn
pub read_none : (n : ℕ) (journal : List JournalEntry) (others : List OtherEntry) → length journal ≡ 0 → is_journals_turn n journal others ≡ true → interleaved n journal others ≡ []
read_none n [] [] l h = refl
read_none n [] (o ∷ os) l h = absurd (cc)
read_none n (e ∷ js) others l h = absurd (omega arith)
