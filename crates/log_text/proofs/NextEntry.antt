-- An entry at the beginning of a text, its line and what follows.
use Rattle.std.proofs.Common.{◌≡◌, ◌∙◌, ℕ, ◌+◌, ◌<◌, true, List, ◌∷◌, ◌++◌, length, refl, ap, arith, append_assoc}
use Rattle.std.proofs.lemmas.List.{length-append}
use Rattle.sleep_model.specs.declared.entry.Entry.{Entry}
use Rattle.sleep_model.specs.declared.machine.Machine.{Machine}
use Rattle.sleep_model.specs.Fits.{fits_entry}
use Rattle.sleep_model.specs.Text.{body, entry_line, newline, source_names}
use Rattle.log_words.specs.Front.{front_text, maker_text}
use Rattle.log_text.specs.Grammar.{lines, IsBadEntry, IsBadSource, IsEntryLine}
use Rattle.log_text.specs.Named.{AreNamed}
use Rattle.log_text.proofs.Loops.{entry_ends, entry_passed}
use Rattle.log_text.proofs.TextLines.{entry_is_line, line_first}

module _ (m : Machine) where
  -- the front, who makes it and what it says are an entry's line
  pub entry_injective : (e : Entry) (front text entry_text rest : List ℕ) → front ≡ front_text e.time e.now → text ≡ maker_text m e.actor ++ entry_text → entry_text ≡ body m e.kind ++ newline ++ rest → front ++ text ≡ entry_line m e ++ rest
  entry_injective e front text entry_text rest f t s = rw (f, t, s) (simp append_assoc)

  -- its line is the text's first
  pub entry_next : (text rest : List ℕ) (e : Entry) → AreNamed m → fits_entry m e ≡ true → text ≡ entry_line m e ++ rest → lines text ≡ entry_line m e ∷ lines rest
  entry_next text rest e named fits is = ap lines is ∙ line_first (entry_line m e) rest (entry_is_line m named e fits)

  -- what follows is shorter
  pub shorter_after : (text rest : List ℕ) (e : Entry) → text ≡ entry_line m e ++ rest → length rest < length text
  shorter_after text rest e is =
      let whole : length text ≡ length (entry_line m e) + length rest = ap length is ∙ length-append (entry_line m e) rest in
      let some : 0 < length (entry_line m e) = simp length-append (omega arith) in
      omega (arith, whole, some)

  -- the first line is no entry's
  pub no_entry_next : (text line rest : List ℕ) → lines text ≡ line ∷ lines rest → (AreNamed m → IsEntryLine m line → ⊥) → AreNamed m → (n bad : ℕ) → IsBadSource m (source_names m) (lines text) n bad → IsBadEntry m (lines text) n bad
  no_entry_next text line rest cut other named n bad h = entry_ends m line text rest n bad cut (other named) h

  -- an entry is passed
  pub next_passed : (text rest : List ℕ) (e : Entry) (n k : ℕ) (P : ℕ → Type 0) → fits_entry m e ≡ true → text ≡ entry_line m e ++ rest → k ≡ n + 1 →
      (AreNamed m → (bad : ℕ) → IsBadEntry m (lines text) n bad → P bad) → AreNamed m → (bad : ℕ) → IsBadEntry m (lines rest) k bad → P bad
  next_passed text rest e n k P fits is next before named =
      entry_passed m (entry_line m e) text rest e n k P (entry_next text rest e named fits is) fits refl next (before named)
