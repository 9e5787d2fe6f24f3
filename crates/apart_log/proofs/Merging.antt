-- The next entry that is left of a journal and of the sources' histories.
use Rattle.std.proofs.Common.{◌≡◌, ◌∙◌, true, false, not, List, [], ◌∷◌, ◌++◌, true≢false, ap, sym, subst, map, refl, append-nil, flat_map, slice_get}
use Rattle.sleep_model.specs.declared.entry.JournalEntry.{JournalEntry}
use Rattle.sleep_model.specs.declared.entry.SourceEntry.{SourceEntry}
use Rattle.sleep_model.specs.declared.machine.Machine.{Machine}
use Rattle.sleep_model.specs.Merge.{of_source, rises}
use Rattle.sleep_model.specs.Text.{entry_line}
use Rattle.log_merge.specs.Remainders.{is_in_order, is_journals_turn, leads, leads_next}
use Rattle.log_merge.proofs.Reading.{both_right, journal_first, other_first, rising_in_order}
use Rattle.apart_log.specs.Merged.{either, is_others_turn, lines_of}

-- entries in order stay in order without the first
pub still_in_order : (e : JournalEntry) (all rest : List JournalEntry) → all ≡ e ∷ rest → is_in_order all ≡ true → is_in_order rest ≡ true
still_in_order e all rest is h = both_right _ (is_in_order rest) (subst (λ (l : List JournalEntry). is_in_order l ≡ true) is h)

-- the first of the sources' entries is the next of the log, if it comes before all of the journal
pub line_of_other : (m : Machine) (journal others rest : List JournalEntry) (other : JournalEntry) → others ≡ other ∷ rest → is_others_turn journal others ≡ true
    → is_in_order journal ≡ true → is_in_order others ≡ true
    → lines_of m journal others ≡ entry_line m other.entry ++ lines_of m journal rest
line_of_other m journal others rest other is turn u v =
    ap (λ (l : List JournalEntry). lines_of m journal l) is
    ∙ ap (flat_map (entry_line m)) (other_first other journal rest (subst (λ (l : List JournalEntry). is_others_turn journal l ≡ true) is turn) u
    (subst (λ (l : List JournalEntry). is_in_order l ≡ true) is v))

-- else the journal's next is
pub line_of_journal : (m : Machine) (journal rest others : List JournalEntry) (e : JournalEntry) → journal ≡ e ∷ rest → is_others_turn journal others ≡ false
    → is_in_order journal ≡ true → is_in_order others ≡ true
    → lines_of m journal others ≡ entry_line m e.entry ++ lines_of m rest others
line_of_journal m journal rest others e is turn u v =
    ap (λ (l : List JournalEntry). lines_of m l others) is
    ∙ ap (flat_map (entry_line m)) (journal_first e rest others (own others (subst (λ (l : List JournalEntry). is_others_turn l others ≡ false) is turn))
    (subst (λ (l : List JournalEntry). is_in_order l ≡ true) is u) v)
  where
    own : (os : List JournalEntry) → is_others_turn (e ∷ rest) os ≡ false → is_journals_turn (e ∷ rest) os ≡ true
    own [] h = refl
    own (o ∷ os) h = ap not h

-- no line is left if no entry of the sources is, and it is not the journal's turn
pub no_line : (m : Machine) (journal others : List JournalEntry) → others ≡ [] → is_others_turn journal others ≡ true → lines_of m journal others ≡ []
no_line m [] [] is turn = refl
no_line m (e ∷ journal) [] is turn = absurd (true≢false (sym turn))
no_line m journal (o ∷ os) is turn = absurd (cc)

-- the next of a journal is the first that is left of it
pub leads_same : (other : JournalEntry) (journal : List JournalEntry) → leads_next other (slice_get journal 0) ≡ leads other journal
leads_same other [] = refl
leads_same other (e ∷ rest) = refl

-- the entries of one history that rises are in order
pub one_in_order : (history : List SourceEntry) → rises (map of_source history) ≡ true → is_in_order (either history []) ≡ true
one_in_order history h =
    subst (λ (l : List JournalEntry). is_in_order l ≡ true) (sym (append-nil (map of_source history))) (rising_in_order (map of_source history) h)
