-- The text of a log that can be written has no bad line, and a text has one first bad line at most.
use Rattle.std.proofs.Common.{◌≡◌, ◌∙◌, inl, inr, ℕ, ◌+◌, true, List, [], ◌∷◌, ◌++◌, length, map, refl, sym, arith, subst}
use Rattle.std.specs.List.{list_all}
use Rattle.std.proofs.lemmas.Bool.{and_parts}
use Rattle.sleep_model.specs.declared.entry.Entry.{Entry}
use Rattle.sleep_model.specs.declared.log.Log.{Log}
use Rattle.sleep_model.specs.declared.log.LogEnd.{LogEnd}
use Rattle.sleep_model.specs.declared.log.LogEnd.TheVariants.{Finished, Stuck}
use Rattle.sleep_model.specs.declared.log.Stats.{Stats}
use Rattle.sleep_model.specs.declared.log.Waiting.{Waiting}
use Rattle.sleep_model.specs.declared.machine.Machine.{Machine}
use Rattle.sleep_model.specs.Fits.{fits_entry, fits_stats, fits_end, fits_script, fits_cause, IsWritable}
use Rattle.sleep_model.specs.Text.{entry_line, source_names, waiting_line, text}
use Rattle.log_text.specs.Named.{AreNamed}
use Rattle.log_text.specs.Grammar.{lines, IsBadAfterEnd, IsBadStuck, IsBadEnd, IsBadSource, IsBadEntry, IsFirstBad}
use Rattle.log_text.proofs.TextLines.{source_rows, end_rows, fits_waiting, lines_text}
use Rattle.log_text.proofs.OneLog.{IsOther, untrue, not_finished, sources_other, counted}

module _ (m : Machine) where
  -- ---- no bad line

  stuck_good : (ws : List Waiting) → list_all (fits_waiting m) ws ≡ true → (n bad : ℕ) → IsBadStuck m (map (waiting_line m) ws) n bad → ⊥
  stuck_good [] h n bad b = b
  stuck_good (w ∷ ws) h n bad (inl (is, b)) = stuck_good ws (and_parts (fits_waiting m w) (list_all (fits_waiting m) ws) h).1 (n + 1) bad b
  stuck_good (w ∷ ws) h n bad (inr (unlike, b)) =
      let p = and_parts (fits_waiting m w) (list_all (fits_waiting m) ws) h in
      let q = and_parts (fits_script m w.actor) (fits_cause m w.why) p.0 in unlike (w, q.0, q.1, refl)

  end_good : (end : LogEnd) → fits_end m end ≡ true → (n bad : ℕ) → IsBadEnd m (end_rows m end) n bad → ⊥
  end_good Finished h n bad (inl (is, b)) = b
  end_good Finished h n bad (inr (unlike, b)) = unlike refl
  end_good (Stuck []) h n bad b = untrue h
  end_good (Stuck (w ∷ ws)) h n bad (inl (is, b)) = not_finished m w (sym is)
  end_good (Stuck (w ∷ ws)) h n bad (inr (unlike, b)) = stuck_good (w ∷ ws) h n bad b

  sources_good : (names : List (List ℕ)) (stats : List Stats) → length stats ≡ length names → list_all fits_stats stats ≡ true → (end : LogEnd) → fits_end m end ≡ true → (n bad : ℕ) → IsBadSource m names (source_rows names stats ++ end_rows m end) n bad → ⊥
  sources_good [] stats l h end f n bad b = end_good end f n bad b
  sources_good (name ∷ names) [] l h end f n bad b = absurd (omega arith)
  sources_good (name ∷ names) (s ∷ stats) l h end f n bad (inl (is, b)) = sources_good names stats (omega arith) (and_parts (fits_stats s) (list_all fits_stats stats) h).1 end f (n + 1) bad b
  sources_good (name ∷ names) (s ∷ stats) l h end f n bad (inr (unlike, b)) = unlike (s, (and_parts (fits_stats s) (list_all fits_stats stats) h).0, refl)

  entries_good : (es : List Entry) → list_all (fits_entry m) es ≡ true → (r : List (List ℕ)) → IsOther (entry_line m) (fits_entry m) r → (bad : ℕ) → ((n : ℕ) → IsBadSource m (source_names m) r n bad → ⊥) → (n : ℕ) → IsBadEntry m (map (entry_line m) es ++ r) n bad → ⊥
  entries_good [] h [] other bad good n b = good n b
  entries_good [] h (line ∷ r) other bad good n (inl ((e, f, is), b)) = other e f is
  entries_good [] h (line ∷ r) other bad good n (inr (unlike, b)) = good n b
  entries_good (e ∷ es) h r other bad good n (inl (is, b)) = entries_good es (and_parts (fits_entry m e) (list_all (fits_entry m) es) h).1 r other bad good (n + 1) b
  entries_good (e ∷ es) h r other bad good n (inr (unlike, b)) = unlike (e, (and_parts (fits_entry m e) (list_all (fits_entry m) es) h).0, refl)

  -- the text of a log that can be written has no bad line
  pub none_bad : AreNamed m → (log : Log) → IsWritable m log → (bad : ℕ) → IsFirstBad m (text m log) bad → ⊥
  none_bad named log w bad b =
      let n = counted m named log w in
      let rest = source_rows (source_names m) log.stats ++ end_rows m log.end in
      entries_good log.entries w.entries rest (sources_other m named (source_names m) log.stats (end_rows m log.end) n.0 n.1) bad
      (λ k. sources_good (source_names m) log.stats n.0 w.counts log.end w.end k bad) 1
      (subst (λ (ls : List (List ℕ)). IsBadEntry m ls 1 bad) (lines_text m named log w) b)

  -- ---- one first bad line

  both : (a b n : ℕ) → a ≡ n → b ≡ n → a ≡ b
  both a b n h k = h ∙ sym k

  one_after : (ls : List (List ℕ)) (n a b : ℕ) → IsBadAfterEnd ls n a → IsBadAfterEnd ls n b → a ≡ b
  one_after [] n a b h k = absurd h
  one_after (l ∷ ls) n a b h k = both a b n h k

  one_stuck : (ls : List (List ℕ)) (n a b : ℕ) → IsBadStuck m ls n a → IsBadStuck m ls n b → a ≡ b
  one_stuck [] n a b h k = absurd h
  one_stuck (l ∷ ls) n a b (inl (x, h)) (inl (y, k)) = one_stuck ls (n + 1) a b h k
  one_stuck (l ∷ ls) n a b (inl (x, h)) (inr (y, k)) = absurd (y x)
  one_stuck (l ∷ ls) n a b (inr (x, h)) (inl (y, k)) = absurd (x y)
  one_stuck (l ∷ ls) n a b (inr (x, h)) (inr (y, k)) = both a b n h k

  one_end : (ls : List (List ℕ)) (n a b : ℕ) → IsBadEnd m ls n a → IsBadEnd m ls n b → a ≡ b
  one_end [] n a b h k = both a b n h k
  one_end (l ∷ ls) n a b (inl (x, h)) (inl (y, k)) = one_after ls (n + 1) a b h k
  one_end (l ∷ ls) n a b (inl (x, h)) (inr (y, k)) = absurd (y x)
  one_end (l ∷ ls) n a b (inr (x, h)) (inl (y, k)) = absurd (x y)
  one_end (l ∷ ls) n a b (inr (x, h)) (inr (y, k)) = one_stuck (l ∷ ls) n a b h k

  one_source : (names ls : List (List ℕ)) (n a b : ℕ) → IsBadSource m names ls n a → IsBadSource m names ls n b → a ≡ b
  one_source [] ls n a b h k = one_end ls n a b h k
  one_source (name ∷ names) [] n a b h k = both a b n h k
  one_source (name ∷ names) (l ∷ ls) n a b (inl (x, h)) (inl (y, k)) = one_source names ls (n + 1) a b h k
  one_source (name ∷ names) (l ∷ ls) n a b (inl (x, h)) (inr (y, k)) = absurd (y x)
  one_source (name ∷ names) (l ∷ ls) n a b (inr (x, h)) (inl (y, k)) = absurd (x y)
  one_source (name ∷ names) (l ∷ ls) n a b (inr (x, h)) (inr (y, k)) = both a b n h k

  one_entry : (ls : List (List ℕ)) (n a b : ℕ) → IsBadEntry m ls n a → IsBadEntry m ls n b → a ≡ b
  one_entry [] n a b h k = one_source (source_names m) [] n a b h k
  one_entry (l ∷ ls) n a b (inl (x, h)) (inl (y, k)) = one_entry ls (n + 1) a b h k
  one_entry (l ∷ ls) n a b (inl (x, h)) (inr (y, k)) = absurd (y x)
  one_entry (l ∷ ls) n a b (inr (x, h)) (inl (y, k)) = absurd (x y)
  one_entry (l ∷ ls) n a b (inr (x, h)) (inr (y, k)) = one_source (source_names m) (l ∷ ls) n a b h k

  -- two first bad lines of a text are one
  pub one_first_bad : (bytes : List ℕ) (a b : ℕ) → IsFirstBad m bytes a → IsFirstBad m bytes b → a ≡ b
  one_first_bad bytes a b h k = one_entry (lines bytes) 1 a b h k
