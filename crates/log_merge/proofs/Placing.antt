-- The entries of sources placed in a journal give the definition's log.
use Rattle.std.proofs.Common.{◌≡◌, ℕ, ◌<◌, ◌≤◌, ◌+◌, suc, Bool, true, false, not, nat_le, List, [], ◌∷◌, ◌++◌, length, get_or, drop, zero, true≢false, refl, sym, ap, ◌∙◌, arith, append-nil, append_assoc, if◌then◌else◌, Option, Some, None, MatchOption, slice_get}
use Rattle.std.proofs.lemmas.Bool.Decides.{nat_tests}
use Rattle.sleep_model.specs.declared.entry.Entry.{Entry}
use Rattle.sleep_model.specs.declared.entry.JournalEntry.{JournalEntry}
use Rattle.sleep_model.specs.declared.entry.SourceEntry.{SourceEntry}
use Rattle.sleep_model.specs.declared.entry_list.OtherEntry.{OtherEntry}
use Rattle.sleep_model.specs.Merge.{in_order, merge, of_source, rises, precedes}
use Rattle.sleep_model.specs.Interleaved.{interleaved}
use Rattle.log_merge.specs.WithCounts.{pass, with_counts}
use Rattle.log_merge.specs.Remainders.{unstamped, is_in_order, is_journals_turn, leads, leads_next, seen, sources_entries}
use denote.Ref.{Bor}
use Rattle.log_merge.proofs.Reading.{both_right, in_order_from, journal_first, log_of_all, order_same, other_first, rising_in_order, sorted_in_order}

if_true : {A : Type 0} (b : Bool) (x y : A) → b ≡ true → (if b then x else y) ≡ x
if_true true x y h = refl
if_true false x y h = absurd (true≢false (sym h))

if_false : {A : Type 0} (b : Bool) (x y : A) → b ≡ false → (if b then x else y) ≡ y
if_false true x y h = absurd (true≢false h)
if_false false x y h = refl

-- an entry of a source that does not come before the next of the journal
pub pass_on : (other e : JournalEntry) (n : ℕ) (rest : List JournalEntry) → precedes other e ≡ false → pass other n (e ∷ rest) ≡ pass other (suc n) rest
pass_on other e n rest h = if_false (precedes other e) _ _ h

-- one that does
pub pass_here : (other e : JournalEntry) (n : ℕ) (rest : List JournalEntry) → precedes other e ≡ true → pass other n (e ∷ rest) ≡ (n, e ∷ rest)
pass_here other e n rest h = if_true (precedes other e) _ _ h

-- an entry of a source that comes before all that is left passes none of it
pub passed_all : (other : JournalEntry) (n : ℕ) (journal : List JournalEntry) → leads other journal ≡ true → pass other n journal ≡ (n, journal)
passed_all other n [] h = refl
passed_all other n (e ∷ rest) h = pass_here other e n rest h

-- one that does not passes the next of it
pub passed_one : (other : JournalEntry) (n : ℕ) (old new : List JournalEntry) (result : Option JournalEntry) → leads other old ≡ false → MatchOption result ((old ≡ []) × (new ≡ old)) (λ e. old ≡ e ∷ new)
    → (pass other n old ≡ pass other (suc n) new) × (length old ≡ suc (length new))
passed_one other n old new None h m = absurd (true≢false (ap (leads other) (sym m.0) ∙ h))
passed_one other n old new (Some e) h m =
    let no : precedes other e ≡ false = ap (leads other) (sym m) ∙ h in
    (ap (pass other n) m ∙ pass_on other e n new no, ap (λ (l : List JournalEntry). length l) m)

-- no fewer are passed then
pass_up : (other : JournalEntry) (n : ℕ) (journal : List JournalEntry) → n ≤ (pass other n journal).0
pass_up other n [] = omega arith
pass_up other n (e ∷ rest) = by (precedes other e) refl (pass_up other (suc n) rest)
  where
    by : (b : Bool) → precedes other e ≡ b → suc n ≤ (pass other (suc n) rest).0 → n ≤ (pass other n (e ∷ rest)).0
    by true h more = rw (pass_here other e n rest h) (omega arith)
    by false h more = rw (pass_on other e n rest h) (omega (arith, more))

-- the next entry of a journal is the first that is left of it
leads_same : (other : JournalEntry) (journal : List JournalEntry) → leads_next other (slice_get journal 0) ≡ leads other journal
leads_same other [] = refl
leads_same other (e ∷ rest) = refl

not_true : (b : Bool) → not b ≡ true → b ≡ false
not_true true h = sym h
not_true false h = refl

-- if the next entry of the log is the journal's, the entries of sources come after it
counts_on : (n : ℕ) (old next others : List JournalEntry) (result : Option JournalEntry) → is_journals_turn old others ≡ true → MatchOption result ((old ≡ []) × (next ≡ old)) (λ e. old ≡ e ∷ next)
    → with_counts n old others ≡ with_counts (n + 1) next others
counts_on n old next [] result h m = refl
counts_on n old next (other ∷ others) result h m =
    let one : n + 1 ≡ suc n = omega arith in
    rw one
    (ap (λ (q : ℕ × List JournalEntry). record { before = q.0; entry = other.entry } ∷ with_counts q.0 q.1 others)
    (passed_one other n old next result (not_true (leads other old) h) m).0)

-- so the entries that are placed stay those of all
pub counted_on : (new all total : List OtherEntry) (n : ℕ) (old next left others : List JournalEntry) (result : Option JournalEntry) → is_journals_turn old left ≡ true
    → MatchOption result ((old ≡ []) × (next ≡ old)) (λ e. old ≡ e ∷ next) → new ++ with_counts n old left ≡ all ++ with_counts n old others
    → all ++ with_counts n old others ≡ total → new ++ with_counts (n + 1) next left ≡ total
counted_on new all total n old next left others result h m placed so =
    ap (λ (l : List OtherEntry). new ++ l) (sym (counts_on n old next left result h m)) ∙ placed ∙ so

-- and one less of the journal is left
pub length_on : (n len : ℕ) (old next : List JournalEntry) (result : Option JournalEntry) → MatchOption result ((old ≡ []) × (next ≡ old)) (λ e. old ≡ e ∷ next)
    → n + length old ≡ len → n < len → n + 1 + length next ≡ len
length_on n len old next None m l h = absurd (omega (arith, l, h, ap (λ (l : List JournalEntry). length l) m.0))
length_on n len old next (Some e) m l h = omega (arith, l, ap (λ (l : List JournalEntry). length l) m)

-- if no entry of the journal is left, all of the sources' are placed
pub counted_all : (new all total : List OtherEntry) (n : ℕ) (journal left others : List JournalEntry) → length journal ≡ 0 → is_journals_turn journal left ≡ true
    → new ++ with_counts n journal left ≡ all ++ with_counts n journal others → all ++ with_counts n journal others ≡ total → new ≡ total
counted_all new all total n [] [] others l h placed so = sym (append-nil new) ∙ placed ∙ so
counted_all new all total n [] (x ∷ left) others l h placed so = absurd (true≢false (sym h))
counted_all new all total n (e ∷ journal) left others l h placed so = absurd (omega (arith, l))

-- and so are they if none of them is left
pub counted_over : (all total : List OtherEntry) (n : ℕ) (journal : List JournalEntry) (others : List (Bor SourceEntry)) (k : ℕ) → k ≡ length others
    → all ++ with_counts n journal (drop k (seen others)) ≡ total → all ≡ total
counted_over all total n journal others k l so =
    sym (append-nil all) ∙ sym (ap (λ (left : List JournalEntry). all ++ with_counts n journal left) (none k others l)) ∙ so
  where
    none : (k : ℕ) (others : List (Bor SourceEntry)) → k ≡ length others → drop k (seen others) ≡ []
    none zero [] l = refl
    none (suc k) [] l = refl
    none zero (x ∷ xs) l = absurd (omega (arith, l))
    none (suc k) (x ∷ xs) l = none k xs (omega (arith, l))

-- ---- among the journal

at_most : (a b : ℕ) → a ≤ b → nat_le a b ≡ true
at_most a b h = grind (arith, nat_tests)

above : (a b : ℕ) → b < a → nat_le a b ≡ false
above a b h = grind (arith, nat_tests)

interleaved_other : (n : ℕ) (e : JournalEntry) (rest : List JournalEntry) (x : OtherEntry) (xs : List OtherEntry) → x.before ≤ n → interleaved n (e ∷ rest) (x ∷ xs) ≡ x.entry ∷ interleaved n (e ∷ rest) xs
interleaved_other n e rest x xs h = if_true (nat_le x.before n) _ _ (at_most x.before n h)

interleaved_own : (n : ℕ) (e : JournalEntry) (rest : List JournalEntry) (x : OtherEntry) (xs : List OtherEntry) → n < x.before → interleaved n (e ∷ rest) (x ∷ xs) ≡ e.entry ∷ interleaved (suc n) rest (x ∷ xs)
interleaved_own n e rest x xs h = if_false (nat_le x.before n) _ _ (above x.before n h)

-- a list of only the journal
interleaved_alone : (n : ℕ) (journal : List JournalEntry) → interleaved n journal [] ≡ unstamped journal
interleaved_alone n [] = refl
interleaved_alone n (e ∷ rest) = ap (λ (l : List Entry). e.entry ∷ l) (interleaved_alone (suc n) rest)

abbrev Interleaves : List JournalEntry → Type 0
Interleaves others = (n : ℕ) (journal : List JournalEntry) → is_in_order journal ≡ true → interleaved n journal (with_counts n journal others) ≡ unstamped (in_order (journal ++ others))

interleaves_none : Interleaves []
interleaves_none n journal u =
    interleaved_alone n journal ∙ ap unstamped (sym (order_same journal (in_order_from journal u)) ∙ ap in_order (sym (append-nil journal)))

interleaves_more : (other : JournalEntry) (others : List JournalEntry) → is_in_order (other ∷ others) ≡ true → Interleaves others → Interleaves (other ∷ others)
interleaves_more other others v more n [] u =
    ap (λ (l : List Entry). other.entry ∷ l) (more n [] refl) ∙ sym (other_first other [] others refl refl v)
interleaves_more other others v more n (e ∷ rest) u =
    by (precedes other e) refl (interleaves_more other others v more (suc n) rest (both_right _ (is_in_order rest) u))
  where
    by : (b : Bool) → precedes other e ≡ b → interleaved (suc n) rest (with_counts (suc n) rest (other ∷ others)) ≡ unstamped (in_order (rest ++ other ∷ others))
        → interleaved n (e ∷ rest) (with_counts n (e ∷ rest) (other ∷ others)) ≡ unstamped (in_order (e ∷ (rest ++ other ∷ others)))
    by true h last =
        let here : pass other n (e ∷ rest) ≡ (n, e ∷ rest) = pass_here other e n rest h in
        ap (λ (p : ℕ × List JournalEntry). interleaved n (e ∷ rest) (record { before = p.0; entry = other.entry } ∷ with_counts p.0 p.1 others)) here
        ∙ (interleaved_other n e rest (record { before = n; entry = other.entry }) (with_counts n (e ∷ rest) others) (omega arith)
        ∙ (ap (λ (l : List Entry). other.entry ∷ l) (more n (e ∷ rest) u)
        ∙ sym (other_first other (e ∷ rest) others h u v)))
    by false h last =
        let on : pass other n (e ∷ rest) ≡ pass other (suc n) rest = pass_on other e n rest h in
        ap (λ (p : ℕ × List JournalEntry). interleaved n (e ∷ rest) (record { before = p.0; entry = other.entry } ∷ with_counts p.0 p.1 others)) on
        ∙ (interleaved_own n e rest (record { before = (pass other (suc n) rest).0; entry = other.entry }) (with_counts (pass other (suc n) rest).0 (pass other (suc n) rest).1 others) (omega (arith, pass_up other (suc n) rest))
        ∙ (ap (λ (l : List Entry). e.entry ∷ l) last
        ∙ sym (journal_first e rest (other ∷ others) (ap not h) u v)))

interleaves : (others : List JournalEntry) → is_in_order others ≡ true → Interleaves others
interleaves [] v = interleaves_none
interleaves (other ∷ others) v = interleaves_more other others v (interleaves others (both_right _ (is_in_order others) v))

-- the entries of the sources, in order and placed in the journal, give the definition's log
pub placed_merge : (journal : List JournalEntry) (histories : List (List SourceEntry)) → rises journal ≡ true
    → interleaved 0 journal (with_counts 0 journal (in_order (sources_entries histories))) ≡ merge journal histories
placed_merge journal histories h =
    interleaves (in_order (sources_entries histories)) (sorted_in_order (sources_entries histories)) 0 journal (rising_in_order journal h)
    ∙ log_of_all journal histories

-- the next of the entries of sources is placed
placed_on : (n : ℕ) (journal : List JournalEntry) (others : List (Bor SourceEntry)) (k : ℕ) (other d : Bor SourceEntry) → k < length others → other ≡ get_or others k d
    → with_counts n journal (drop k (seen others))
    ≡ record { before = (pass (of_source other.now) n journal).0; entry = other.now.entry } ∷ with_counts (pass (of_source other.now) n journal).0 (pass (of_source other.now) n journal).1 (drop (suc k) (seen others))
placed_on n journal [] k other d l h = absurd (omega (arith, l))
placed_on n journal (x ∷ xs) zero other d l h = rw h refl
placed_on n journal (x ∷ xs) (suc k) other d l h = placed_on n journal xs k other d (omega (arith, l)) h

-- with it the entries that are placed stay those of all
pub placed_next : (all new : List OtherEntry) (n : ℕ) (journal : List JournalEntry) (others : List (Bor SourceEntry)) (k : ℕ) (other d : Bor SourceEntry) (m : ℕ) (rest : List JournalEntry) (end : List OtherEntry)
    → k < length others → other ≡ get_or others k d → (m, rest) ≡ pass (of_source other.now) n journal → new ≡ all ++ record { before = m; entry = other.now.entry } ∷ [] → all ++ with_counts n journal (drop k (seen others)) ≡ end
    → new ++ with_counts m rest (drop (k + 1) (seen others)) ≡ end
placed_next all new n journal others k other d m rest end l at is more so =
    let here : with_counts n journal (drop k (seen others)) ≡ record { before = m; entry = other.now.entry } ∷ with_counts m rest (drop (suc k) (seen others)) =
    placed_on n journal others k other d l at
    ∙ ap (λ (q : ℕ × List JournalEntry). record { before = q.0; entry = other.now.entry } ∷ with_counts q.0 q.1 (drop (suc k) (seen others))) (sym is) in
    let one : k + 1 ≡ suc k = omega arith in
    rw one
    (ap (λ (l : List OtherEntry). l ++ with_counts m rest (drop (suc k) (seen others))) more
    ∙ (append_assoc all (record { before = m; entry = other.now.entry } ∷ []) (with_counts m rest (drop (suc k) (seen others)))
    ∙ (ap (λ (l : List OtherEntry). all ++ l) (sym here) ∙ so)))

-- one that stands before all that is left of the journal is placed there
pub placed_here : (all new : List OtherEntry) (n : ℕ) (journal : List JournalEntry) (others : List (Bor SourceEntry)) (k : ℕ) (other d : Bor SourceEntry) (end : List OtherEntry) (next : Option JournalEntry) (b : Bool)
    → k < length others → other ≡ get_or others k d → next ≡ slice_get journal 0 → b ≡ leads_next (of_source other.now) next → b ≡ true → new ≡ all ++ record { before = n; entry = other.now.entry } ∷ []
    → all ++ with_counts n journal (drop k (seen others)) ≡ end → new ++ with_counts n journal (drop (k + 1) (seen others)) ≡ end
placed_here all new n journal others k other d end next b l at first is true-here more so =
    let leading = sym (leads_same (of_source other.now) journal) ∙ ap (leads_next (of_source other.now)) (sym first) ∙ sym is ∙ true-here in
    let here : pass (of_source other.now) n journal ≡ (n, journal) = passed_all (of_source other.now) n journal leading in
    placed_next all new n journal others k other d n journal end l at (sym here) more so

-- before one that does not stand there it is the journal's turn
pub turn_at : (journal : List JournalEntry) (others : List (Bor SourceEntry)) (k : ℕ) (other d : Bor SourceEntry) (next : Option JournalEntry) (b : Bool) → k < length others → other ≡ get_or others k d
    → next ≡ slice_get journal 0 → b ≡ leads_next (of_source other.now) next → b ≡ false → is_journals_turn journal (drop k (seen others)) ≡ true
turn_at journal [] k other d next b l at first is other-here = absurd (omega (arith, l))
turn_at journal (x ∷ xs) zero other d next b l at first is other-here =
    ap not
    (ap (λ (o : Bor SourceEntry). leads (of_source o.now) journal) (sym at)
    ∙ sym (leads_same (of_source other.now) journal) ∙ ap (leads_next (of_source other.now)) (sym first) ∙ sym is ∙ other-here)
turn_at journal (x ∷ xs) (suc k) other d next b l at first is other-here = turn_at journal xs k other d next b (omega (arith, l)) at first is other-here

-- after the last one, too
pub turn_over : (journal : List JournalEntry) (others : List (Bor SourceEntry)) (k : ℕ) → k ≡ length others → is_journals_turn journal (drop k (seen others)) ≡ true
turn_over journal [] zero l = refl
turn_over journal [] (suc k) l = refl
turn_over journal (x ∷ xs) zero l = absurd (omega (arith, l))
turn_over journal (x ∷ xs) (suc k) l = turn_over journal xs k (omega (arith, l))
