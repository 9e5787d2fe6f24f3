-- Lines of a log that pass to a sink one after the other.
use Rattle.std.proofs.Common.{◌≡◌, ◌++◌, ◌∷◌, ◌∙◌, ℕ, true, false, List, [], Option, Result, Err, sym, ap, subst, append_assoc, append-nil}
use Rattle.sleep_base.specs.declared.outside.Failed.{Failed}
use Rattle.sleep_base.specs.Whole.{WriteAll}
use Rattle.sleep_base.proofs.Written.{one_failed}
use Rattle.sleep_model.specs.declared.entry.JournalEntry.{JournalEntry}
use Rattle.sleep_model.specs.declared.machine.Machine.{Machine}
use Rattle.sleep_model.specs.Text.{entry_line}
use Rattle.log_merge.specs.Remainders.{is_in_order}
use Rattle.log_text.specs.Passing.{Passes}
use Rattle.apart_log.specs.Merged.{is_others_turn, lines_of}
use Rattle.apart_log.proofs.Merging.{line_of_journal, line_of_other, no_line}

-- nothing was written
pub passes_none : (old : Option (List ℕ)) (before : ℕ) (bytes : List ℕ) → Passes old old before before bytes bytes
passes_none old before bytes = λ rest new now result h. h

-- one line passes of those that are left
passes_on : (old mid next : Option (List ℕ)) (before then later : ℕ) (all buffer line lines left rest : List ℕ)
    → Passes old mid before then all (buffer ++ lines) → Passes mid next then later (buffer ++ line) left → lines ≡ line ++ rest
    → Passes old next before later all (left ++ rest)
passes_on old mid next before then later all buffer line lines left rest first second is = λ more new now result h.
    let same : (buffer ++ line) ++ (rest ++ more) ≡ (buffer ++ lines) ++ more =
    append_assoc buffer line (rest ++ more)
    ∙ (ap (λ (bs : List ℕ). buffer ++ bs) (sym (append_assoc line rest more))
    ∙ (sym (append_assoc buffer (line ++ rest) more)
    ∙ ap (λ (bs : List ℕ). (buffer ++ bs) ++ more) (sym is))) in
    first more new now result
    (subst (λ (bs : List ℕ). WriteAll mid new then now bs result) same
    (second (rest ++ more) new now result (subst (λ (bs : List ℕ). WriteAll next new later now bs result) (append_assoc left rest more) h)))

-- the journal's next was put
pub journal_put : (old mid next : Option (List ℕ)) (before then later : ℕ) (all buffer left : List ℕ) (m n : Machine) (journal rest others : List JournalEntry) (e : JournalEntry)
    → n ≡ m → Passes old mid before then all (buffer ++ lines_of m journal others) → Passes mid next then later (buffer ++ entry_line n e.entry) left
    → journal ≡ e ∷ rest → is_others_turn journal others ≡ false → is_in_order journal ≡ true → is_in_order others ≡ true
    → Passes old next before later all (left ++ lines_of m rest others)
journal_put old mid next before then later all buffer left m n journal rest others e same first second is turn u v =
    passes_on old mid next before then later all buffer (entry_line m e.entry) (lines_of m journal others) left (lines_of m rest others) first
    (subst (λ (k : Machine). Passes mid next then later (buffer ++ entry_line k e.entry) left) same second)
    (line_of_journal m journal rest others e is turn u v)

-- the next of the sources' entries was put
pub other_put : (old mid next : Option (List ℕ)) (before then later : ℕ) (all buffer left : List ℕ) (m n : Machine) (journal others rest : List JournalEntry) (other : JournalEntry)
    → n ≡ m → Passes old mid before then all (buffer ++ lines_of m journal others) → Passes mid next then later (buffer ++ entry_line n other.entry) left
    → others ≡ other ∷ rest → is_others_turn journal others ≡ true → is_in_order journal ≡ true → is_in_order others ≡ true
    → Passes old next before later all (left ++ lines_of m journal rest)
other_put old mid next before then later all buffer left m n journal others rest other same first second is turn u v =
    passes_on old mid next before then later all buffer (entry_line m other.entry) (lines_of m journal others) left (lines_of m journal rest) first
    (subst (λ (k : Machine). Passes mid next then later (buffer ++ entry_line k other.entry) left) same second)
    (line_of_other m journal others rest other is turn u v)

-- some of the journal was put
pub some_put : (old mid next : Option (List ℕ)) (before then later : ℕ) (all buffer left : List ℕ) (m n : Machine) (journal rest others : List JournalEntry)
    → n ≡ m → Passes old mid before then all (buffer ++ lines_of m journal others)
    → Passes mid next then later (buffer ++ lines_of n journal others) (left ++ lines_of n rest others)
    → Passes old next before later all (left ++ lines_of m rest others)
some_put old mid next before then later all buffer left m n journal rest others same first second = λ more new now result h.
    first more new now result
    (subst (λ (k : Machine). Passes mid next then later (buffer ++ lines_of k journal others) (left ++ lines_of k rest others)) same second more new now result h)

-- all was put, and what comes after was written
pub all_put : (old mid new : Option (List ℕ)) (before then now : ℕ) (all buffer after : List ℕ) (m : Machine) (journal others : List JournalEntry) (result : Result Unit Failed)
    → Passes old mid before then all (buffer ++ lines_of m journal others) → others ≡ [] → is_others_turn journal others ≡ true
    → WriteAll mid new then now (buffer ++ after) result → WriteAll old new before now (all ++ after) result
all_put old mid new before then now all buffer after m journal others result first none turn wrote =
    let same : buffer ++ after ≡ (buffer ++ lines_of m journal others) ++ after =
    ap (λ (bs : List ℕ). bs ++ after) (sym (append-nil buffer) ∙ ap (λ (bs : List ℕ). buffer ++ bs) (sym (no_line m journal others none turn))) in
    first after new now result (subst (λ (bs : List ℕ). WriteAll mid new then now bs result) same wrote)

-- a write that fails after some passed fails for all
pub fails_after : (old mid new : Option (List ℕ)) (before then now : ℕ) (all some : List ℕ) (fault : Failed)
    → Passes old mid before then all some → WriteAll mid new then now some (Err fault) → WriteAll old new before now all (Err fault)
fails_after old mid new before then now all some fault first failed =
    subst (λ (bs : List ℕ). WriteAll old new before now bs (Err fault)) (append-nil all)
    (first [] new now (Err fault) (subst (λ (bs : List ℕ). WriteAll mid new then now bs (Err fault)) (sym (append-nil some)) failed))

-- one of what is held back fails for all, too
pub held_back_fails : (old mid new : Option (List ℕ)) (before then now : ℕ) (all buffer lines : List ℕ) (fault : Failed)
    → Passes old mid before then all (buffer ++ lines) → WriteAll mid new then now buffer (Err fault) → WriteAll old new before now all (Err fault)
held_back_fails old mid new before then now all buffer lines fault first failed =
    fails_after old mid new before then now all (buffer ++ lines) fault first (one_failed mid new then now buffer lines fault failed)

-- and so does one of the lines of the journal
pub journal_fails : (old mid new : Option (List ℕ)) (before then now : ℕ) (all buffer : List ℕ) (m n : Machine) (journal others : List JournalEntry) (fault : Failed)
    → n ≡ m → Passes old mid before then all (buffer ++ lines_of m journal others)
    → WriteAll mid new then now (buffer ++ lines_of n journal others) (Err fault) → WriteAll old new before now all (Err fault)
journal_fails old mid new before then now all buffer m n journal others fault same first failed =
    fails_after old mid new before then now all (buffer ++ lines_of m journal others) fault first
    (subst (λ (k : Machine). WriteAll mid new then now (buffer ++ lines_of k journal others) (Err fault)) same failed)
