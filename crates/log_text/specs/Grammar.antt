-- The grammar of a log's text, line by line, and its first bad line.
use Rattle.std.specs.Prelude.{◌≡◌, ◌≢◌, ◌⊎◌, ℕ, ◌+◌, ◌==◌, true, List, [], ◌∷◌, ◌++◌, codes, if◌then◌else◌}
use Rattle.std.specs.List.{onto_first}
use Rattle.sleep_model.specs.declared.entry.Entry.{Entry}
use Rattle.sleep_model.specs.declared.log.Stats.{Stats}
use Rattle.sleep_model.specs.declared.log.Waiting.{Waiting}
use Rattle.sleep_model.specs.declared.machine.Machine.{Machine}
use Rattle.sleep_model.specs.Fits.{fits_entry, fits_stats, fits_script, fits_cause}
use Rattle.sleep_model.specs.Text.{newline, entry_line, source_line, source_names, waiting_line}

-- the lines of a text, each with its newline, which the last one may lack
abbrev pub lines : List ℕ → List (List ℕ)
lines [] = []
lines (b ∷ bytes) = if b == 10 then newline ∷ lines bytes else onto_first b (lines bytes)

-- the line of an entry that fits the machine
abbrev pub IsEntryLine : Machine → List ℕ → Type 0
IsEntryLine m line = (e : Entry) × (fits_entry m e ≡ true) × (line ≡ entry_line m e)

-- the line of the source of that name
abbrev pub IsSourceLine : List ℕ → List ℕ → Type 0
IsSourceLine name line = (s : Stats) × (fits_stats s ≡ true) × (line ≡ source_line name s)

-- the line of a script of the machine that never exits
abbrev pub IsStuckLine : Machine → List ℕ → Type 0
IsStuckLine m line = (w : Waiting) × (fits_script m w.actor ≡ true) × (fits_cause m w.why ≡ true) × (line ≡ waiting_line m w)

-- the line that ends the log of a run that finished
abbrev pub finished_line : List ℕ
finished_line = codes "finished" ++ newline

-- no line may follow the end: the first bad line is the one with number n
abbrev pub IsBadAfterEnd : List (List ℕ) → ℕ → ℕ → Type 0
IsBadAfterEnd [] n bad = ⊥
IsBadAfterEnd (line ∷ rest) n bad = bad ≡ n

-- the first bad line from the one with number n on, if lines of stuck scripts may come there
abbrev pub IsBadStuck : Machine → List (List ℕ) → ℕ → ℕ → Type 0
IsBadStuck m [] n bad = ⊥
IsBadStuck m (line ∷ rest) n bad =
    (IsStuckLine m line × IsBadStuck m rest (n + 1) bad) ⊎ ((IsStuckLine m line → ⊥) × (bad ≡ n))

-- the first bad line from the one with number n on, if the end has to come there, `finished` or a stuck script
abbrev pub IsBadEnd : Machine → List (List ℕ) → ℕ → ℕ → Type 0
IsBadEnd m [] n bad = bad ≡ n
IsBadEnd m (line ∷ rest) n bad =
    ((line ≡ finished_line) × IsBadAfterEnd rest (n + 1) bad)
    ⊎ ((line ≢ finished_line) × IsBadStuck m (line ∷ rest) n bad)

-- the first bad line from the one with number n on, if the lines of these sources have to come there, and then the end
abbrev pub IsBadSource : Machine → List (List ℕ) → List (List ℕ) → ℕ → ℕ → Type 0
IsBadSource m [] text n bad = IsBadEnd m text n bad
IsBadSource m (name ∷ names) [] n bad = bad ≡ n
IsBadSource m (name ∷ names) (line ∷ rest) n bad =
    (IsSourceLine name line × IsBadSource m names rest (n + 1) bad) ⊎ ((IsSourceLine name line → ⊥) × (bad ≡ n))

-- the first bad line from the one with number n on, if entries may come there, and then the sources from the first one that is none
abbrev pub IsBadEntry : Machine → List (List ℕ) → ℕ → ℕ → Type 0
IsBadEntry m [] n bad = IsBadSource m (source_names m) [] n bad
IsBadEntry m (line ∷ rest) n bad =
    (IsEntryLine m line × IsBadEntry m rest (n + 1) bad)
    ⊎ ((IsEntryLine m line → ⊥) × IsBadSource m (source_names m) (line ∷ rest) n bad)

-- the first bad line, counted from 1: the grammar has no such line, or it is missing
abbrev pub IsFirstBad : Machine → List ℕ → ℕ → Type 0
IsFirstBad m bytes bad = IsBadEntry m (lines bytes) 1 bad
