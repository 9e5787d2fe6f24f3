-- A line that is no entry's, source's or stuck script's.
use Rattle.std.proofs.Common.{◌≡◌, ◌∙◌, ℕ, ◌+◌, ◌<◌, ◌≤◌, true, false, List, ◌++◌, length, drop, bytes_eq, codes, Option, Some, None, sym, ap, arith}
use Rattle.std.specs.Cmp.Lexicographic.{bytes_decides}
use Rattle.std.proofs.lemmas.List.{length-append}
use Rattle.sleep_model.specs.declared.entry.Entry.{Entry}
use Rattle.sleep_model.specs.declared.log.Stats.{Stats}
use Rattle.sleep_model.specs.declared.log.Waiting.{Waiting}
use Rattle.sleep_model.specs.declared.machine.Machine.{Machine}
use Rattle.sleep_model.specs.Fits.{fits_stats}
use Rattle.sleep_model.specs.Text.{entry_line, source_line, waiting_line, counts_text, times_text}
use Rattle.log_text.specs.Named.{AreNamed}
use Rattle.log_text.specs.Cutting.{without_last}
use Rattle.log_text.specs.Grammar.{IsEntryLine, IsSourceLine, IsStuckLine}
use Rattle.log_text.specs.Reading.{entry_in, stats_in, waiting_in}
use Rattle.log_text.proofs.EntriesBack.{entry_back}
use Rattle.log_text.proofs.StatsBack.{source_back, waiting_back, head_of}

none_some : {A : Type 0} (o : Option A) (x : A) → o ≡ None → o ≡ Some x → ⊥
none_some o x n s = clash (sym n ∙ s)
  where
    clash : {A : Type 0} {x : A} → None ≡ Some x → ⊥
    clash e = absurd (cc)

same_some : {A : Type 0} (o : Option A) (x y : A) → o ≡ Some x → o ≡ Some y → x ≡ y
same_some o x y s t = let e : Some x ≡ Some y = sym s ∙ t in cc

unlike : (a b : List ℕ) → bytes_eq a b ≡ false → a ≡ b → ⊥
unlike a b h e = let t : bytes_eq a b ≡ true = (bytes_decides a b).1 e in let c : false ≡ true = sym h ∙ t in absurd (cc)

pub same_bytes : (a b : List ℕ) → bytes_eq a b ≡ true → b ≡ a
same_bytes a b h = sym ((bytes_decides a b).0 h)

pub no_entry : (m : Machine) (line : List ℕ) → entry_in m (without_last line) ≡ None → AreNamed m → IsEntryLine m line → ⊥
no_entry m line n named (e, f, is) = none_some (entry_in m (without_last line)) e n (ap (λ (t : List ℕ). entry_in m (without_last t)) is ∙ entry_back m named e f)

pub other_entry : (m : Machine) (line : List ℕ) (x : Entry) → entry_in m (without_last line) ≡ Some x → bytes_eq (entry_line m x) line ≡ false → AreNamed m → IsEntryLine m line → ⊥
other_entry m line x s u named (e, f, is) =
    let same : x ≡ e = same_some (entry_in m (without_last line)) x e s (ap (λ (t : List ℕ). entry_in m (without_last t)) is ∙ entry_back m named e f) in
    unlike (entry_line m x) line u (ap (entry_line m) same ∙ sym is)

-- the length of what comes before the numbers
pub head_length : (name : List ℕ) → length (head_of name) ≡ 8 + length name
head_length name = simp length-append (omega arith)

source_read : (name line : List ℕ) (s : Stats) → fits_stats s ≡ true → line ≡ source_line name s → stats_in (without_last (drop (8 + length name) line)) ≡ Some s
source_read name line s f is =
    ap (λ (t : List ℕ). stats_in (without_last (drop (8 + length name) t))) is
    ∙ ap (λ (k : ℕ). stats_in (without_last (drop k (source_line name s)))) (sym (head_length name))
    ∙ source_back name s f

pub no_source : (name line : List ℕ) → stats_in (without_last (drop (8 + length name) line)) ≡ None → IsSourceLine name line → ⊥
no_source name line n (s, f, is) = none_some (stats_in (without_last (drop (8 + length name) line))) s n (source_read name line s f is)

pub other_source : (name line : List ℕ) (x : Stats) → stats_in (without_last (drop (8 + length name) line)) ≡ Some x → bytes_eq (source_line name x) line ≡ false → IsSourceLine name line → ⊥
other_source name line x t u (s, f, is) =
    let same : x ≡ s = same_some (stats_in (without_last (drop (8 + length name) line))) x s t (source_read name line s f is) in
    unlike (source_line name x) line u (ap (source_line name) same ∙ sym is)

pub short_source : (name line : List ℕ) → length line < 8 + length name → IsSourceLine name line → ⊥
short_source name line h (s, f, is) =
    let whole : length (source_line name s) ≡ length (codes "source " ++ name) + length (counts_text s) + length (times_text s) + 1 = simp length-append (omega arith) in
    let front : length (codes "source " ++ name) ≡ 7 + length name = simp length-append (omega arith) in
    let same = ap length is in absurd (omega (arith, whole, front, same))

pub no_stuck : (m : Machine) (line : List ℕ) → waiting_in m (without_last (drop 6 line)) ≡ None → AreNamed m → IsStuckLine m line → ⊥
no_stuck m line n named (w, f, g, is) = none_some (waiting_in m (without_last (drop 6 line))) w n (ap (λ (t : List ℕ). waiting_in m (without_last (drop 6 t))) is ∙ waiting_back m named w f g)

pub other_stuck : (m : Machine) (line : List ℕ) (x : Waiting) → waiting_in m (without_last (drop 6 line)) ≡ Some x → bytes_eq (waiting_line m x) line ≡ false → AreNamed m → IsStuckLine m line → ⊥
other_stuck m line x s u named (w, f, g, is) =
    let same : x ≡ w = same_some (waiting_in m (without_last (drop 6 line))) x w s (ap (λ (t : List ℕ). waiting_in m (without_last (drop 6 t))) is ∙ waiting_back m named w f g) in
    unlike (waiting_line m x) line u (ap (waiting_line m) same ∙ sym is)

long : (bytes : List ℕ) → 6 ≤ length (codes "stuck " ++ bytes)
long bytes = simp length-append (omega arith)

pub short_stuck : (m : Machine) (line : List ℕ) → length line < 6 → IsStuckLine m line → ⊥
short_stuck m line h (w, f, g, is) = let same = ap length is in let l : 6 ≤ length (waiting_line m w) = simp length-append (omega arith) in absurd (omega (arith, same, l))
