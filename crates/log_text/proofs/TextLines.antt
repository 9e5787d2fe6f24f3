-- The lines of a log's text are its entries', its sources' and its end's.
use Rattle.std.proofs.Common.{◌≡◌, ◌∙◌, ℕ, ◌==◌, Bool, true, false, not, ◌&&◌, List, [], ◌∷◌, ◌++◌, codes, decimal, map, flat_map, if◌then◌else◌, refl, sym, ap, append_assoc, append-nil}
use Rattle.std.specs.List.{list_all, onto_first}
use Rattle.std.proofs.lemmas.Bool.{and_parts}
use Rattle.sleep_model.specs.declared.entry.Entry.{Entry}
use Rattle.sleep_model.specs.declared.log.Log.{Log}
use Rattle.sleep_model.specs.declared.log.LogEnd.{LogEnd}
use Rattle.sleep_model.specs.declared.log.LogEnd.TheVariants.{Finished, Stuck}
use Rattle.sleep_model.specs.declared.log.Stats.{Stats}
use Rattle.sleep_model.specs.declared.log.Waiting.{Waiting}
use Rattle.sleep_model.specs.declared.machine.Machine.{Machine}
use Rattle.sleep_model.specs.Fits.{fits_entry, fits_stats, fits_end, fits_script, fits_cause, is_filled, IsWritable}
use Rattle.sleep_model.specs.Text.{newline, space, word_text, actor_text, body, counts_text, times_text, waiting_text, entry_line, source_line, source_lines, source_names, waiting_line, end_text, text}
use Rattle.sleep_model.specs.NameBytes.{is_name, is_name_byte}
use Rattle.log_text.specs.Named.{AreNamed, are_distinct, is_name_long}
use Rattle.log_text.specs.Grammar.{lines, finished_line}
use Rattle.log_text.proofs.Cuts.{name_without}
use Rattle.log_text.proofs.Clean.{is_clean, entry_clean, source_clean, stuck_clean}

-- a line: no newline, and then one
abbrev pub IsLine : List ℕ → Type 0
IsLine line = (w : List ℕ) × (is_clean w ≡ true) × (line ≡ w ++ newline)

-- the lines of the sources of these names
abbrev pub source_rows : List (List ℕ) → List Stats → List (List ℕ)
source_rows (name ∷ names) (s ∷ stats) = source_line name s ∷ source_rows names stats
source_rows _ _ = []

-- the lines of the end
abbrev pub end_rows : Machine → LogEnd → List (List ℕ)
end_rows m Finished = finished_line ∷ []
end_rows m (Stuck waiting) = map (waiting_line m) waiting

-- the lines of a log
abbrev pub log_rows : Machine → Log → List (List ℕ)
log_rows m log = map (entry_line m) log.entries ++ (source_rows (source_names m) log.stats ++ end_rows m log.end)

-- who is stuck can be named, and what it waits for
abbrev pub fits_waiting : Machine → Waiting → Bool
fits_waiting m w = fits_script m w.actor && fits_cause m w.why

cut_off : (w r : List ℕ) → is_clean w ≡ true → lines (w ++ 10 ∷ r) ≡ (w ++ newline) ∷ lines r
cut_off [] r h = refl
cut_off (b ∷ w) r h =
    let p = and_parts (not (b == 10)) (is_clean w) h in
    on (b == 10) p.0 (lines (w ++ 10 ∷ r)) (cut_off w r p.1)
  where
    on : (t : Bool) → not t ≡ true → (ls : List (List ℕ)) → ls ≡ (w ++ newline) ∷ lines r → (if t then newline ∷ ls else onto_first b ls) ≡ (b ∷ (w ++ newline)) ∷ lines r
    on true k ls e = absurd (cc)
    on false k ls e = ap (onto_first b) e

-- a line that comes first is the first line
pub line_first : (line r : List ℕ) → IsLine line → lines (line ++ r) ≡ line ∷ lines r
line_first line r (w, h, is) =
    ap (λ (x : List ℕ). lines (x ++ r)) is ∙ ap lines (append_assoc w newline r) ∙ cut_off w r h ∙ ap (λ (x : List ℕ). x ∷ lines r) (sym is)

-- the lines of a list of things
lines_flat : {A : Type 0} (f : A → List ℕ) (p : A → Bool) → ((x : A) → p x ≡ true → IsLine (f x)) → (xs : List A) → list_all p xs ≡ true → (r : List ℕ) → lines (flat_map f xs ++ r) ≡ map f xs ++ lines r
lines_flat f p is [] h r = refl
lines_flat f p is (x ∷ xs) h r =
    let q = and_parts (p x) (list_all p xs) h in
    ap lines (append_assoc (f x) (flat_map f xs) r)
    ∙ line_first (f x) (flat_map f xs ++ r) (is x q.0)
    ∙ ap (λ (ls : List (List ℕ)). f x ∷ ls) (lines_flat f p is xs q.1 r)

name_clean : (name : List ℕ) → is_name name ≡ true → is_clean name ≡ true
name_clean name h = name_without 10 refl name (and_parts (is_name_long name) (list_all is_name_byte name) h).1

source_is_line : (name : List ℕ) (s : Stats) → is_name name ≡ true → fits_stats s ≡ true → IsLine (source_line name s)
source_is_line name s h f = (codes "source " ++ name ++ counts_text s ++ times_text s, source_clean name s (name_clean name h) f, refl)

lines_sources : (names : List (List ℕ)) (stats : List Stats) → list_all is_name names ≡ true → list_all fits_stats stats ≡ true → (r : List ℕ) → lines (source_lines names stats ++ r) ≡ source_rows names stats ++ lines r
lines_sources [] stats h f r = refl
lines_sources (name ∷ names) [] h f r = refl
lines_sources (name ∷ names) (s ∷ stats) h f r =
    let p = and_parts (is_name name) (list_all is_name names) h in
    let q = and_parts (fits_stats s) (list_all fits_stats stats) f in
    ap lines (append_assoc (source_line name s) (source_lines names stats) r)
    ∙ line_first (source_line name s) (source_lines names stats ++ r) (source_is_line name s p.0 q.0)
    ∙ ap (λ (ls : List (List ℕ)). source_line name s ∷ ls) (lines_sources names stats p.1 q.1 r)

module _ (m : Machine) (named : AreNamed m) where
  pub entry_is_line : (e : Entry) → fits_entry m e ≡ true → IsLine (entry_line m e)
  entry_is_line e f = (decimal e.time ++ space ++ word_text e.now ++ space ++ actor_text m e.actor ++ space ++ body m e.kind, entry_clean m named e f, refl)

  waiting_is_line : (w : Waiting) → fits_waiting m w ≡ true → IsLine (waiting_line m w)
  waiting_is_line w f = let p = and_parts (fits_script m w.actor) (fits_cause m w.why) f in (codes "stuck " ++ actor_text m w.actor ++ space ++ waiting_text m w.why, stuck_clean m named w p.0 p.1, refl)

  lines_end : (end : LogEnd) → fits_end m end ≡ true → lines (end_text m end) ≡ end_rows m end
  lines_end Finished h = refl
  lines_end (Stuck waiting) h =
      let p = and_parts (is_filled waiting) (list_all (fits_waiting m) waiting) h in
      ap lines (sym (append-nil (flat_map (waiting_line m) waiting)))
      ∙ lines_flat (waiting_line m) (fits_waiting m) waiting_is_line waiting p.1 []
      ∙ append-nil (map (waiting_line m) waiting)

  -- the lines of a log's text
  pub lines_text : (log : Log) → IsWritable m log → lines (text m log) ≡ log_rows m log
  lines_text log w =
      let a = flat_map (entry_line m) log.entries in
      let b = source_lines (source_names m) log.stats in
      let c = end_text m log.end in
      let names = and_parts (list_all is_name (source_names m)) (are_distinct (source_names m)) named.sources in
      ap lines (append_assoc a b c)
      ∙ lines_flat (entry_line m) (fits_entry m) entry_is_line log.entries w.entries (b ++ c)
      ∙ ap (λ (ls : List (List ℕ)). map (entry_line m) log.entries ++ ls) (lines_sources (source_names m) log.stats names.0 w.counts c)
      ∙ ap (λ (ls : List (List ℕ)). map (entry_line m) log.entries ++ (source_rows (source_names m) log.stats ++ ls)) (lines_end log.end w.end)
