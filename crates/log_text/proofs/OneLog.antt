-- Logs with one text are one log.
use Rattle.std.proofs.Common.{◌≡◌, ◌∙◌, ℕ, ◌<◌, ◌==◌, Bool, true, false, List, [], ◌∷◌, ◌++◌, codes, length, drop, map, Some, None, refl, sym, ap, arith, append-nil}
use Rattle.std.specs.List.{list_all}
use Rattle.std.proofs.lemmas.Bool.{and_parts}
use Rattle.std.proofs.lemmas.List.{length-append}
use Rattle.sleep_model.specs.declared.entry.Entry.{Entry}
use Rattle.sleep_model.specs.declared.log.Log.{Log}
use Rattle.sleep_model.specs.declared.log.LogEnd.{LogEnd}
use Rattle.sleep_model.specs.declared.log.LogEnd.TheVariants.{Finished, Stuck}
use Rattle.sleep_model.specs.declared.log.Stats.{Stats}
use Rattle.sleep_model.specs.declared.log.Waiting.{Waiting}
use Rattle.sleep_model.specs.declared.machine.Machine.{Machine}
use Rattle.sleep_model.specs.Fits.{fits_entry, fits_stats, fits_end, fits_script, fits_cause, is_filled, IsWritable}
use Rattle.sleep_model.specs.Text.{entry_line, source_line, source_names, counts_text, times_text, waiting_line, text}
use Rattle.log_text.specs.Named.{AreNamed}
use Rattle.log_text.specs.Cutting.{without_last}
use Rattle.log_text.specs.Grammar.{lines, finished_line}
use Rattle.log_text.specs.Reading.{entry_in, stats_in, waiting_in}
use Rattle.log_text.proofs.Cuts.{last_off}
use Rattle.log_text.proofs.EntriesBack.{entry_back}
use Rattle.log_text.proofs.StatsBack.{source_back, waiting_back, head_of}
use Rattle.log_text.proofs.TextLines.{source_rows, end_rows, fits_waiting, lines_text}

-- the first line is that of none of these things
abbrev pub IsOther : {A : Type 0} → (A → List ℕ) → (A → Bool) → List (List ℕ) → Type 0
IsOther {A = A} f p [] = Unit {0}
IsOther {A = A} f p (line ∷ rest) = (x : A) → p x ≡ true → line ≡ f x → ⊥

some_same : {A : Type 0} (x y : A) → Some x ≡ Some y → x ≡ y
some_same x y e = cc

pub untrue : false ≡ true → ⊥
untrue e = absurd (cc)

cons_head : {A : Type 0} (x y : A) (xs ys : List A) → x ∷ xs ≡ y ∷ ys → x ≡ y
cons_head x y xs ys e = cc

cons_tail : {A : Type 0} (x y : A) (xs ys : List A) → x ∷ xs ≡ y ∷ ys → xs ≡ ys
cons_tail x y xs ys e = cc

cons_same : {A : Type 0} (x y : A) (xs ys : List A) → x ≡ y → xs ≡ ys → x ∷ xs ≡ y ∷ ys
cons_same x y xs ys e f = cc

not_empty : {A : Type 0} (x : A) (xs : List A) → [] ≡ x ∷ xs → ⊥
not_empty x xs e = absurd (cc)

module _ {A : Type 0} (f : A → List ℕ) (p : A → Bool) (back : (x y : A) → p x ≡ true → p y ≡ true → f x ≡ f y → x ≡ y) where
  -- the things whose lines come first, and what follows them
  same_first : (xs ys : List A) (cs ds : List (List ℕ)) → list_all p xs ≡ true → list_all p ys ≡ true → IsOther f p cs → IsOther f p ds → map f xs ++ cs ≡ map f ys ++ ds → (xs ≡ ys) × (cs ≡ ds)
  same_first [] [] cs ds h k n o e = (refl, e)
  same_first [] (y ∷ ys) [] ds h k n o e = absurd (not_empty (f y) (map f ys ++ ds) e)
  same_first [] (y ∷ ys) (c ∷ cs) ds h k n o e = absurd (n y (and_parts (p y) (list_all p ys) k).0 (cons_head c (f y) cs (map f ys ++ ds) e))
  same_first (x ∷ xs) [] cs [] h k n o e = absurd (not_empty (f x) (map f xs ++ cs) (sym e))
  same_first (x ∷ xs) [] cs (d ∷ ds) h k n o e = absurd (o x (and_parts (p x) (list_all p xs) h).0 (sym (cons_head (f x) d (map f xs ++ cs) ds e)))
  same_first (x ∷ xs) (y ∷ ys) cs ds h k n o e =
      let a = and_parts (p x) (list_all p xs) h in
      let b = and_parts (p y) (list_all p ys) k in
      let one = back x y a.0 b.0 (cons_head (f x) (f y) (map f xs ++ cs) (map f ys ++ ds) e) in
      let more = same_first xs ys cs ds a.1 b.1 n o (cons_tail (f x) (f y) (map f xs ++ cs) (map f ys ++ ds) e) in
      (cons_same x y xs ys one more.0, more.1)

stats_same : (name : List ℕ) (a b : Stats) → fits_stats a ≡ true → fits_stats b ≡ true → source_line name a ≡ source_line name b → a ≡ b
stats_same name a b f g e =
    some_same a b (sym (source_back name a f) ∙ ap (λ (l : List ℕ). stats_in (without_last (drop (length (head_of name)) l))) e ∙ source_back name b g)

-- the statistics of the sources of these names
same_sources : (names : List (List ℕ)) (a b : List Stats) (cs ds : List (List ℕ)) → length a ≡ length names → length b ≡ length names → list_all fits_stats a ≡ true → list_all fits_stats b ≡ true → source_rows names a ++ cs ≡ source_rows names b ++ ds → (a ≡ b) × (cs ≡ ds)
same_sources [] [] [] cs ds n o f g e = (refl, e)
same_sources [] [] (y ∷ b) cs ds n o f g e = absurd (omega arith)
same_sources [] (x ∷ a) b cs ds n o f g e = absurd (omega arith)
same_sources (name ∷ names) [] b cs ds n o f g e = absurd (omega arith)
same_sources (name ∷ names) (x ∷ a) [] cs ds n o f g e = absurd (omega arith)
same_sources (name ∷ names) (x ∷ a) (y ∷ b) cs ds n o f g e =
    let p = and_parts (fits_stats x) (list_all fits_stats a) f in
    let q = and_parts (fits_stats y) (list_all fits_stats b) g in
    let left = source_rows names a ++ cs in
    let right = source_rows names b ++ ds in
    let one = stats_same name x y p.0 q.0 (cons_head (source_line name x) (source_line name y) left right e) in
    let more = same_sources names a b cs ds (omega arith) (omega arith) p.1 q.1 (cons_tail (source_line name x) (source_line name y) left right e) in
    (cons_same x y a b one more.0, more.1)

-- a source's line is no entry's
source_no_entry : (m : Machine) (name : List ℕ) (s : Stats) → entry_in m (without_last (source_line name s)) ≡ None
source_no_entry m name s = ap (entry_in m) (last_off (codes "source " ++ name ++ counts_text s ++ times_text s) 10)

no_some : {A : Type 0} {x : A} → None ≡ Some x → ⊥
no_some e = absurd (cc)

abbrev first_byte : List ℕ → ℕ
first_byte [] = 0
first_byte (b ∷ bytes) = b

-- nor the finished line a stuck script's
pub not_finished : (m : Machine) (w : Waiting) → finished_line ≡ waiting_line m w → ⊥
not_finished m w e = let same : true ≡ false = ap (λ (t : List ℕ). first_byte t == 102) e in untrue (sym same)

log_same : (a b : Log) → a.entries ≡ b.entries → a.stats ≡ b.stats → a.end ≡ b.end → a ≡ b
log_same a b e s d =
    let by_entries : List Entry → Log = λ x. record { entries = x; stats = a.stats; end = a.end } in
    let by_stats : List Stats → Log = λ x. record { entries = b.entries; stats = x; end = a.end } in
    let by_end : LogEnd → Log = λ x. record { entries = b.entries; stats = b.stats; end = x } in
    ap by_entries e ∙ ap by_stats s ∙ ap by_end d

module _ (m : Machine) (named : AreNamed m) where
  entry_same : (x y : Entry) → fits_entry m x ≡ true → fits_entry m y ≡ true → entry_line m x ≡ entry_line m y → x ≡ y
  entry_same x y f g e = some_same x y (sym (entry_back m named x f) ∙ ap (λ (l : List ℕ). entry_in m (without_last l)) e ∙ entry_back m named y g)

  waiting_same : (x y : Waiting) → fits_waiting m x ≡ true → fits_waiting m y ≡ true → waiting_line m x ≡ waiting_line m y → x ≡ y
  waiting_same x y f g e =
      let p = and_parts (fits_script m x.actor) (fits_cause m x.why) f in
      let q = and_parts (fits_script m y.actor) (fits_cause m y.why) g in
      some_same x y (sym (waiting_back m named x p.0 p.1) ∙ ap (λ (l : List ℕ). waiting_in m (without_last (drop 6 l))) e ∙ waiting_back m named y q.0 q.1)

  -- after the entries comes a source's line
  pub sources_other : (names : List (List ℕ)) (stats : List Stats) (more : List (List ℕ)) → length stats ≡ length names → 0 < length names → IsOther (entry_line m) (fits_entry m) (source_rows names stats ++ more)
  sources_other [] stats more n some = absurd (omega arith)
  sources_other (name ∷ names) [] more n some = absurd (omega arith)
  sources_other (name ∷ names) (s ∷ stats) more n some =
      λ e f is. no_some (sym (source_no_entry m name s) ∙ ap (λ (l : List ℕ). entry_in m (without_last l)) is ∙ entry_back m named e f)

  same_end : (a b : LogEnd) → fits_end m a ≡ true → fits_end m b ≡ true → end_rows m a ≡ end_rows m b → a ≡ b
  same_end Finished Finished f g e = refl
  same_end Finished (Stuck []) f g e = absurd (untrue g)
  same_end Finished (Stuck (w ∷ ws)) f g e = absurd (not_finished m w (cons_head finished_line (waiting_line m w) [] (map (waiting_line m) ws) e))
  same_end (Stuck []) Finished f g e = absurd (untrue f)
  same_end (Stuck (w ∷ ws)) Finished f g e = absurd (not_finished m w (sym (cons_head (waiting_line m w) finished_line (map (waiting_line m) ws) [] e)))
  same_end (Stuck v) (Stuck w) f g e =
      let p = and_parts (is_filled v) (list_all (fits_waiting m) v) f in
      let q = and_parts (is_filled w) (list_all (fits_waiting m) w) g in
      let whole = append-nil (map (waiting_line m) v) ∙ e ∙ sym (append-nil (map (waiting_line m) w)) in
      ap Stuck (same_first (waiting_line m) (fits_waiting m) waiting_same v w [] [] p.1 q.1 tt tt whole).0

  -- each source has its statistics, and there is one at least
  pub counted : (log : Log) → IsWritable m log → (length log.stats ≡ length (source_names m)) × (0 < length (source_names m))
  counted log w = let n = w.stats in (simp length-append (omega arith), simp length-append (omega arith))

  -- two logs that can be written and have one text are one
  pub one_log : (a b : Log) → IsWritable m a → IsWritable m b → text m a ≡ text m b → a ≡ b
  one_log a b v w e =
      let n = counted a v in
      let o = counted b w in
      let cs = source_rows (source_names m) a.stats ++ end_rows m a.end in
      let ds = source_rows (source_names m) b.stats ++ end_rows m b.end in
      let rows = sym (lines_text m named a v) ∙ ap lines e ∙ lines_text m named b w in
      let x = same_first (entry_line m) (fits_entry m) entry_same a.entries b.entries cs ds v.entries w.entries
      (sources_other (source_names m) a.stats (end_rows m a.end) n.0 n.1) (sources_other (source_names m) b.stats (end_rows m b.end) o.0 o.1) rows in
      let y = same_sources (source_names m) a.stats b.stats (end_rows m a.end) (end_rows m b.end) n.0 o.0 v.counts w.counts x.1 in
      log_same a b x.0 y.0 (same_end a.end b.end v.end w.end y.1)
