-- One line more is read, or the first bad line is found.
use Rattle.std.proofs.Common.{◌≡◌, ◌∙◌, inl, inr, ℕ, ◌+◌, ◌<◌, ◌≤◌, Bool, true, List, [], ◌∷◌, ◌++◌, length, take, drop, get_or, codes, flat_map, refl, sym, ap, subst, arith, append_assoc, append-nil}
use Rattle.std.specs.List.{list_all}
use Rattle.std.proofs.lemmas.Bool.{and_parts, and_from}
use Rattle.std.proofs.lemmas.List.{drop_more, take_more, drop_all, take_all, length-take, length-append}
use Rattle.sleep_model.specs.declared.entry.Entry.{Entry}
use Rattle.sleep_model.specs.declared.log.Stats.{Stats}
use Rattle.sleep_model.specs.declared.machine.Machine.{Machine}
use Rattle.sleep_model.specs.Fits.{fits_entry, fits_stats}
use Rattle.sleep_model.specs.Text.{entry_line, source_line, source_lines, source_names}
use Rattle.log_text.specs.declared.fault.LogFault.{LogFault}
use Rattle.log_text.specs.declared.fault.LogFault.TheVariants.{Line, Mem}
use Rattle.log_text.specs.Faults.{AtLine, IsNoSource}
use Rattle.log_text.specs.Grammar.{lines, IsEntryLine, IsBadEntry, IsBadSource, IsBadEnd}

pub at_both : (P Q R : ℕ → Type 0) (e : LogFault) → ((n : ℕ) → P n → Q n → R n) → AtLine e P → AtLine e Q → AtLine e R
at_both P Q R (Line n) f h k = f n h k
at_both P Q R Mem f h k = tt

-- one more at the end
pub flat_push : {A : Type 0} (f : A → List ℕ) (xs : List A) (x : A) → flat_map f (xs ++ x ∷ []) ≡ flat_map f xs ++ f x
flat_push f [] x = append-nil (f x)
flat_push f (y ∷ xs) x = ap (λ (t : List ℕ). f y ++ t) (flat_push f xs x) ∙ sym (append_assoc (f y) (flat_map f xs) (f x))

pub all_push : {A : Type 0} (p : A → Bool) (xs : List A) (x : A) → list_all p xs ≡ true → p x ≡ true → list_all p (xs ++ x ∷ []) ≡ true
all_push p [] x h k = and_from (p x) true k refl
all_push p (y ∷ xs) x h k = let q = and_parts (p y) (list_all p xs) h in and_from (p y) (list_all p (xs ++ x ∷ [])) q.0 (all_push p xs x q.1 k)

-- the text up to what is left, with one line more
pub text_push : {A : Type 0} (f : A → List ℕ) (xs : List A) (x : A) (line left behind bytes : List ℕ) → bytes ≡ flat_map f xs ++ left → line ++ behind ≡ left → line ≡ f x → bytes ≡ flat_map f (xs ++ x ∷ []) ++ behind
text_push f xs x line left behind bytes t j is =
    t ∙ ap (λ (r : List ℕ). flat_map f xs ++ r) (sym j ∙ ap (λ (l : List ℕ). l ++ behind) is)
    ∙ sym (append_assoc (flat_map f xs) (f x) behind)
    ∙ ap (λ (r : List ℕ). r ++ behind) (sym (flat_push f xs x))

module _ (m : Machine) where
  -- an entry's line is passed
  pub entry_passed : (line left behind : List ℕ) (e : Entry) (n k : ℕ) (P : ℕ → Type 0) → lines left ≡ line ∷ lines behind → fits_entry m e ≡ true → line ≡ entry_line m e → k ≡ n + 1 →
      ((bad : ℕ) → IsBadEntry m (lines left) n bad → P bad) → (bad : ℕ) → IsBadEntry m (lines behind) k bad → P bad
  entry_passed line left behind e n k P s f is next before bad h =
      before bad (subst (λ (t : List (List ℕ)). IsBadEntry m t n bad) (sym s) (inl ((e, f, is), subst (λ (j : ℕ). IsBadEntry m (lines behind) j bad) next h)))

  -- the first line that is no entry's
  pub entry_ends : (line left behind : List ℕ) (n bad : ℕ) → lines left ≡ line ∷ lines behind → (IsEntryLine m line → ⊥) → IsBadSource m (source_names m) (lines left) n bad → IsBadEntry m (lines left) n bad
  entry_ends line left behind n bad s other h =
      subst (λ (t : List (List ℕ)). IsBadEntry m t n bad) (sym s) (inr (other, subst (λ (t : List (List ℕ)). IsBadSource m (source_names m) t n bad) s h))

  -- a source's line is passed
  pub source_passed : (name : List ℕ) (names : List (List ℕ)) (left behind : List ℕ) (s : Stats) (n k : ℕ) (P : ℕ → Type 0) → lines left ≡ source_line name s ∷ lines behind → fits_stats s ≡ true → k ≡ n + 1 →
      ((bad : ℕ) → IsBadSource m (name ∷ names) (lines left) n bad → P bad) → (bad : ℕ) → IsBadSource m names (lines behind) k bad → P bad
  source_passed name names left behind s n k P l f next before bad h =
      before bad (subst (λ (t : List (List ℕ)). IsBadSource m (name ∷ names) t n bad) (sym l) (inl ((s, f, refl), subst (λ (j : ℕ). IsBadSource m names (lines behind) j bad) next h)))

  -- a line that is not the source's, or none
  pub source_bad : (name : List ℕ) (names : List (List ℕ)) (ls : List (List ℕ)) (k n : ℕ) → n ≡ k → IsNoSource name ls → IsBadSource m (name ∷ names) ls k n
  source_bad name names [] k n e h = e
  source_bad name names (l ∷ ls) k n e h = inr (h, e)

-- the lines of sources, with one more
pub lines_push : (names : List (List ℕ)) (stats : List Stats) (name : List ℕ) (s : Stats) → length stats ≡ length names → source_lines (names ++ name ∷ []) (stats ++ s ∷ []) ≡ source_lines names stats ++ source_line name s
lines_push [] [] name s h = append-nil (source_line name s)
lines_push [] (x ∷ stats) name s h = absurd (omega arith)
lines_push (n ∷ names) [] name s h = absurd (omega arith)
lines_push (n ∷ names) (x ∷ stats) name s h =
    ap (λ (t : List ℕ). source_line n x ++ t) (lines_push names stats name s (omega arith)) ∙ sym (append_assoc (source_line n x) (source_lines names stats) (source_line name s))

pub sources_push : (names : List (List ℕ)) (stats : List Stats) (name : List ℕ) (s : Stats) (bytes left behind : List ℕ) → length stats ≡ length names → bytes ≡ source_lines names stats ++ left → left ≡ source_line name s ++ behind → bytes ≡ source_lines (names ++ name ∷ []) (stats ++ s ∷ []) ++ behind
sources_push names stats name s bytes left behind n t l =
    t ∙ ap (λ (r : List ℕ). source_lines names stats ++ r) l
    ∙ sym (append_assoc (source_lines names stats) (source_line name s) behind)
    ∙ ap (λ (r : List ℕ). r ++ behind) (sym (lines_push names stats name s n))

module _ (m : Machine) (i : ℕ) (name : List ℕ) (within : i < length m.sources) (is : name ≡ get_or m.sources i name) where
  taken : take (i + 1) m.sources ≡ take i m.sources ++ name ∷ []
  taken = take_more m.sources i name within ∙ ap (λ (x : List ℕ). take i m.sources ++ x ∷ []) (sym is)

  dropped : drop i m.sources ≡ name ∷ drop (i + 1) m.sources
  dropped = drop_more m.sources i name within ∙ ap (λ (x : List ℕ). x ∷ drop (i + 1) m.sources) (sym is)

  -- one source more of the machine is read
  pub one_source : (stats : List Stats) (s : Stats) (bytes left behind : List ℕ) (first n k : ℕ) →
      bytes ≡ source_lines (take i m.sources) stats ++ left → length stats ≡ i → list_all fits_stats stats ≡ true →
      ((bad : ℕ) → IsBadSource m (drop i m.sources ++ codes "autosleep" ∷ []) (lines left) n bad → IsBadSource m (source_names m) (lines bytes) first bad) →
      left ≡ source_line name s ++ behind → lines left ≡ source_line name s ∷ lines behind → fits_stats s ≡ true → k ≡ n + 1 →
      (bytes ≡ source_lines (take (i + 1) m.sources) (stats ++ s ∷ []) ++ behind) × (length (stats ++ s ∷ []) ≡ i + 1) × (list_all fits_stats (stats ++ s ∷ []) ≡ true)
      × ((bad : ℕ) → IsBadSource m (drop (i + 1) m.sources ++ codes "autosleep" ∷ []) (lines behind) k bad → IsBadSource m (source_names m) (lines bytes) first bad)
  one_source stats s bytes left behind first n k text count fits bad line cut fit next =
      let same : length stats ≡ length (take i m.sources) = simp length-take (omega (arith, count)) in (
        sources_push (take i m.sources) stats name s bytes left behind same text line ∙ ap (λ (x : List (List ℕ)). source_lines x (stats ++ s ∷ []) ++ behind) (sym taken),
        simp length-append (omega (arith, count)),
        all_push fits_stats stats s fits fit,
        source_passed m name (drop (i + 1) m.sources ++ codes "autosleep" ∷ []) left behind s n k (λ b. IsBadSource m (source_names m) (lines bytes) first b) cut fit next
            (subst (λ (x : List (List ℕ)). (b : ℕ) → IsBadSource m (x ++ codes "autosleep" ∷ []) (lines left) n b → IsBadSource m (source_names m) (lines bytes) first b) dropped bad),
      )

  -- a source of the machine has no line there
  pub no_source_there : (bytes left : List ℕ) (first n : ℕ) (e : LogFault) →
      ((bad : ℕ) → IsBadSource m (drop i m.sources ++ codes "autosleep" ∷ []) (lines left) n bad → IsBadSource m (source_names m) (lines bytes) first bad) →
      AtLine e (λ k. k ≡ n) → AtLine e (λ k. IsNoSource name (lines left)) → AtLine e (IsBadSource m (source_names m) (lines bytes) first)
  no_source_there bytes left first n e bad at none =
      at_both (λ k. k ≡ n) (λ k. IsNoSource name (lines left)) (IsBadSource m (source_names m) (lines bytes) first) e
      (λ k same no_line. bad k (subst (λ (x : List (List ℕ)). IsBadSource m (x ++ codes "autosleep" ∷ []) (lines left) n k) (sym dropped) (source_bad m name (drop (i + 1) m.sources ++ codes "autosleep" ∷ []) (lines left) n k same no_line))) at none

module _ (m : Machine) (i : ℕ) (end : length m.sources ≤ i) (stats : List Stats) (bytes left : List ℕ) (first n : ℕ)
    (text : bytes ≡ source_lines (take i m.sources) stats ++ left) (count : length stats ≡ i)
    (bad : (b : ℕ) → IsBadSource m (drop i m.sources ++ codes "autosleep" ∷ []) (lines left) n b → IsBadSource m (source_names m) (lines bytes) first b) where
  none_left : drop i m.sources ++ codes "autosleep" ∷ [] ≡ codes "autosleep" ∷ []
  none_left = ap (λ (x : List (List ℕ)). x ++ codes "autosleep" ∷ []) (drop_all i m.sources end)

  all_taken : take i m.sources ≡ m.sources
  all_taken = take_all i m.sources end

  -- the source `autosleep` is read
  pub last_source_text : i ≤ length m.sources → (s : Stats) (behind : List ℕ) → left ≡ source_line (codes "autosleep") s ++ behind → bytes ≡ source_lines (source_names m) (stats ++ s ∷ []) ++ behind
  last_source_text most s behind line =
      let same : length stats ≡ length m.sources = omega (arith, count) in
      sources_push m.sources stats (codes "autosleep") s bytes left behind same (text ∙ ap (λ (x : List (List ℕ)). source_lines x stats ++ left) all_taken) line

  pub last_source_bad : (s : Stats) (behind : List ℕ) (k : ℕ) → lines left ≡ source_line (codes "autosleep") s ∷ lines behind → fits_stats s ≡ true → k ≡ n + 1 → (b : ℕ) → IsBadEnd m (lines behind) k b → IsBadSource m (source_names m) (lines bytes) first b
  last_source_bad s behind k cut fit next =
      source_passed m (codes "autosleep") [] left behind s n k (λ b. IsBadSource m (source_names m) (lines bytes) first b) cut fit next
      (subst (λ (x : List (List ℕ)). (b : ℕ) → IsBadSource m x (lines left) n b → IsBadSource m (source_names m) (lines bytes) first b) none_left bad)

  -- it has no line there
  pub no_last_source : (e : LogFault) → AtLine e (λ k. k ≡ n) → AtLine e (λ k. IsNoSource (codes "autosleep") (lines left)) → AtLine e (IsBadSource m (source_names m) (lines bytes) first)
  no_last_source e at none =
      at_both (λ k. k ≡ n) (λ k. IsNoSource (codes "autosleep") (lines left)) (IsBadSource m (source_names m) (lines bytes) first) e
      (λ k same no_line. bad k (subst (λ (x : List (List ℕ)). IsBadSource m x (lines left) n k) (sym none_left) (source_bad m (codes "autosleep") [] (lines left) n k same no_line))) at none

-- the three pieces of a text are the text
pub whole_text : (a b c left behind bytes : List ℕ) → bytes ≡ a ++ left → left ≡ b ++ behind → behind ≡ c → a ++ b ++ c ≡ bytes
whole_text a b c left behind bytes e f g =
    append_assoc a b c ∙ sym (e ∙ ap (λ (x : List ℕ). a ++ x) (f ∙ ap (λ (x : List ℕ). b ++ x) g))
