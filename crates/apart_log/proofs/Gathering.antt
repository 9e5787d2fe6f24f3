-- What a slice is gathered from.
use Rattle.std.proofs.Common.{◌≡◌, ◌∙◌, ◌<◌, ◌+◌, ℕ, Bool, true, false, List, [], ◌∷◌, ◌++◌, length, map, filter, flat_map, cond, take, get_or, refl, sym, ap, append-nil}
use Rattle.std.proofs.lemmas.List.{map-append, take_more}
use Rattle.std.proofs.lemmas.List.Concat.{flat_map-append}
use Rattle.sleep_model.specs.declared.entry.Entry.{Entry}
use Rattle.sleep_model.specs.declared.entry.JournalEntry.{JournalEntry}
use Rattle.sleep_model.specs.declared.entry.SourceEntry.{SourceEntry}
use Rattle.sleep_model.specs.declared.machine.Machine.{Machine}
use Rattle.sleep_model.specs.Merge.{all_entries, in_order, of_source}
use Rattle.sleep_model.specs.Text.{entry_line}
use Rattle.log_merge.specs.Remainders.{seen, sources_entries}
use Rattle.log_text.specs.Referred.{referred}
use Rattle.apart_log.specs.declared.range.Range.{Range}
use Rattle.apart_log.specs.Slices.{is_in, slice_lines}
use Rattle.apart_log.proofs.Parting.{filter_again}
use denote.Ref.{Bor}

-- only the first, and the rest
pub filter_first : {A : Type 0} (test : A → Bool) (x : A) (rest : List A) → filter test (x ∷ rest) ≡ filter test (x ∷ []) ++ filter test rest
filter_first test x rest = by (test x)
  where
    by : (b : Bool) → cond b (x ∷ filter test rest) (filter test rest) ≡ cond b (x ∷ []) [] ++ filter test rest
    by true = refl
    by false = refl

-- what passed the test still does
pub filter_both : {A : Type 0} (test : A → Bool) (xs ys : List A) → filter test (xs ++ ys) ≡ filter test xs ++ filter test ys
filter_both test [] ys = refl
filter_both test (x ∷ xs) ys = by (test x) (filter_both test xs ys)
  where
    by : (b : Bool) → filter test (xs ++ ys) ≡ filter test xs ++ filter test ys
        → cond b (x ∷ filter test (xs ++ ys)) (filter test (xs ++ ys)) ≡ cond b (x ∷ filter test xs) (filter test xs) ++ filter test ys
    by true rest = ap (λ l. x ∷ l) rest
    by false rest = rest

-- one more of a mapped list
pub filter_more : {A B : Type 0} (test : B → Bool) (f : A → B) (xs : List A) (i : ℕ) (d : A) → i < length xs
    → filter test (map f (take (i + 1) xs)) ≡ filter test (map f (take i xs)) ++ filter test (f (get_or xs i d) ∷ [])
filter_more test f xs i d l =
    ap (λ ys. filter test (map f ys)) (take_more xs i d l)
    ∙ (ap (filter test) (map-append f (take i xs) (get_or xs i d ∷ [])) ∙ filter_both test (map f (take i xs)) (f (get_or xs i d) ∷ []))

-- one history more
pub gathered_more : (test : JournalEntry → Bool) (histories : List (List SourceEntry)) (i : ℕ) (history : List SourceEntry) → i < length histories → history ≡ get_or histories i history
    → filter test (sources_entries (take (i + 1) histories)) ≡ filter test (sources_entries (take i histories)) ++ filter test (map of_source history)
gathered_more test histories i history l is =
    let f : List SourceEntry → List JournalEntry = λ h. map of_source h in
    ap (λ hs. filter test (flat_map f hs)) (take_more histories i history l ∙ ap (λ h. take i histories ++ h ∷ []) (sym is))
    ∙ (ap (filter test) (flat_map-append f (take i histories) (history ∷ []) ∙ ap (λ l. flat_map f (take i histories) ++ l) (append-nil (f history)))
    ∙ filter_both test (flat_map f (take i histories)) (f history))

-- entries that are referred to are what is seen of them
pub slice_referred : (others : List (Bor SourceEntry)) → map (λ e. e.entry) (seen others) ≡ referred others
slice_referred [] = refl
slice_referred (other ∷ others) = ap (λ (l : List Entry). other.now.entry ∷ l) (slice_referred others)

-- the lines of what a slice refers to are those of its entries
pub slice_told : (m : Machine) (range : Range) (journal : List JournalEntry) (histories : List (List SourceEntry)) (entries others : List (Bor SourceEntry))
    → seen entries ≡ in_order (filter (is_in range) journal ++ filter (is_in range) (sources_entries histories)) → others ≡ entries
    → flat_map (entry_line m) (referred others) ≡ slice_lines m range (all_entries journal histories)
slice_told m range journal histories entries others ordered are =
    ap (λ (l : List (Bor SourceEntry)). flat_map (entry_line m) (referred l)) are
    ∙ ap (λ (l : List Entry). flat_map (entry_line m) l)
    (sym (slice_referred entries)
    ∙ ap (λ (l : List JournalEntry). map (λ e. e.entry) l) (ordered ∙ ap in_order (sym (filter_both (is_in range) journal (sources_entries histories)))))

-- only the entries of a range, they are all
pub told_of_range : (m : Machine) (range : Range) (past : List JournalEntry) (histories : List (List SourceEntry)) (kept among : List SourceEntry)
    → map of_source kept ≡ filter (is_in range) past → among ≡ kept
    → slice_lines m range (all_entries (map of_source among) histories) ≡ slice_lines m range (all_entries past histories)
told_of_range m range past histories kept among of_preserved is_in_journal =
    let after = sources_entries histories in
    let test = is_in range in
    let journal : filter test (map of_source among) ≡ filter test past =
    ap (λ (l : List SourceEntry). filter test (map of_source l)) is_in_journal ∙ (ap (filter test) of_preserved ∙ filter_again test past) in
    ap (λ (l : List JournalEntry). flat_map (entry_line m) (map (λ e. e.entry) (in_order l)))
    (filter_both test (map of_source among) after ∙ (ap (λ (l : List JournalEntry). l ++ filter test after) journal ∙ sym (filter_both test past after)))
