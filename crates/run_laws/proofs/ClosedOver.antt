-- The word's closed table has the steps of all histories, one after another.
use Rattle.std.proofs.Common.{◌≡◌, ◌∙◌, ◌≤◌, ◌<◌, ◌+◌, ◌==◌, ◌&&◌, ◌||◌, inl, inr, ℕ, zero, suc, nat_lt, nat_le, Bool, true, false, List, [], ◌∷◌, ◌++◌, length, map, filter, reverse, get_or, cond, Option, Some, None, is_some, refl, sym, ap, ap₂, subst, append_assoc, arith}
use Rattle.std.proofs.lemmas.Bool.Decides.{nat_tests}
use Rattle.std.proofs.lemmas.List.{reverse-append, reverse-reverse}
use Rattle.std.proofs.lemmas.List.Elements.{filter-append}
use Rattle.std.specs.List.{list_all, list_any}
use Rattle.sleep_model.specs.declared.word.EventNow.{EventNow}
use Rattle.sleep_model.specs.declared.word.WordKind.{WordKind}
use Rattle.sleep_model.specs.declared.entry.Entry.{Entry}
use Rattle.sleep_model.specs.declared.entry.JournalEntry.{JournalEntry}
use Rattle.sleep_model.specs.declared.entry.Kind.{Kind}
use Rattle.sleep_model.specs.declared.entry.Kind.TheVariants as kind
use Rattle.sleep_model.specs.declared.entry.SourceEntry.{SourceEntry}
use Rattle.sleep_model.specs.Merge.{all_entries, before_or, in_order, is_chained, is_word, is_word_step, of_source, next_position, put_in_order, precedes, step_number}
use Rattle.sleep_model.specs.Numbers.{after_step, numbers, word_step}
use Rattle.sleep_model.specs.EntryClasses.{is_in_journal, class_of}
use Rattle.sleep_model.specs.Word.{position}
use Rattle.event_word.specs.Histories.{AllSeen, AreBelow, ArePositions, AreSeen, IsSeen, SourceStep, steps_of, word_after}
use Rattle.event_word.specs.Steps.{MadeStep}
use Rattle.log_merge.specs.Remainders.{sources_entries}
use Rattle.log_merge.proofs.Orders.{log_order}
use Rattle.log_merge.proofs.Reading.{both, both_left, both_right}
use Rattle.log_merge.proofs.Sorts.{head_of, tail_of}
use Rattle.run_laws.specs.Apart.{is_journals, past_of}
use Rattle.run_laws.specs.Fitting.{are_counted, is_look, no_steps, word_from}
use Rattle.run_laws.proofs.Lists.{all_append, all_head, all_more, all_order, all_reverse, all_tail, filter_none, filter_reverse}
use Rattle.run_laws.proofs.Placing.{number_is, word_is}
use Rattle.run_laws.specs.ClosedOver.{IsInLine, IsClosedOver, IsSeenLast, LooksLast, TableCovers, is_looked, has_position}
use Rattle.wakeup_source.specs.Shown as shown

-- ---- an entry that comes after all others goes to the end

put_before_last : (a x : JournalEntry) (l : List JournalEntry) → precedes a x ≡ true → put_in_order a (l ++ x ∷ []) ≡ put_in_order a l ++ x ∷ []
put_before_last a x [] h = ap (λ (b : Bool). cond b (x ∷ a ∷ []) (a ∷ x ∷ [])) (log_order.one_way a x h)
put_before_last a x (y ∷ l) h = by (precedes y a) (put_before_last a x l h)
  where
    by : (b : Bool) → put_in_order a (l ++ x ∷ []) ≡ put_in_order a l ++ x ∷ []
        → cond b (y ∷ put_in_order a (l ++ x ∷ [])) (a ∷ y ∷ (l ++ x ∷ [])) ≡ cond b (y ∷ put_in_order a l) (a ∷ y ∷ l) ++ x ∷ []
    by true rest = ap (λ (k : List JournalEntry). y ∷ k) rest
    by false rest = refl

put_last : (x : JournalEntry) (l : List JournalEntry) → list_all (λ y. precedes y x) l ≡ true → put_in_order x l ≡ l ++ x ∷ []
put_last x [] h = refl
put_last x (y ∷ l) h =
    ap (λ (b : Bool). cond b (y ∷ put_in_order x l) (x ∷ y ∷ l)) (all_head (λ y. precedes y x) y l h)
    ∙ ap (λ (k : List JournalEntry). y ∷ k) (put_last x l (all_tail (λ y. precedes y x) y l h))

pub last_of_all : (x : JournalEntry) (xs ys : List JournalEntry) → list_all (λ y. precedes y x) xs ≡ true → list_all (λ y. precedes y x) ys ≡ true
    → in_order (xs ++ x ∷ ys) ≡ in_order (xs ++ ys) ++ x ∷ []
last_of_all x [] ys a b = put_last x (in_order ys) (all_order (λ y. precedes y x) ys b)
last_of_all x (z ∷ xs) ys a b =
    ap (put_in_order z) (last_of_all x xs ys (all_tail (λ y. precedes y x) z xs a) b)
    ∙ put_before_last z x (in_order (xs ++ ys)) (all_head (λ y. precedes y x) z xs a)

-- ---- tests at all entries

pub all_weaker : {A : Type 0} (p q : A → Bool) (xs : List A) → ((x : A) → p x ≡ true → q x ≡ true) → list_all p xs ≡ true → list_all q xs ≡ true
all_weaker p q [] f h = refl
all_weaker p q (x ∷ xs) f h = all_more q x xs (f x (all_head p x xs h)) (all_weaker p q xs f (all_tail p x xs h))

pub all_by_two : {A : Type 0} (p q r : A → Bool) (xs : List A) → ((x : A) → p x ≡ true → q x ≡ true → r x ≡ true)
    → list_all p xs ≡ true → list_all q xs ≡ true → list_all r xs ≡ true
all_by_two p q r [] f h g = refl
all_by_two p q r (x ∷ xs) f h g = all_more r x xs (f x (all_head p x xs h) (all_head q x xs g)) (all_by_two p q r xs f (all_tail p x xs h) (all_tail q x xs g))

all_left : {A : Type 0} (q : A → Bool) (xs ys : List A) → list_all q (xs ++ ys) ≡ true → list_all q xs ≡ true
all_left q [] ys h = refl
all_left q (x ∷ xs) ys h = all_more q x xs (all_head q x (xs ++ ys) h) (all_left q xs ys (all_tail q x (xs ++ ys) h))

all_right : {A : Type 0} (q : A → Bool) (xs ys : List A) → list_all q (xs ++ ys) ≡ true → list_all q ys ≡ true
all_right q [] ys h = h
all_right q (x ∷ xs) ys h = all_right q xs ys (all_tail q x (xs ++ ys) h)

all_between : {A : Type 0} (q : A → Bool) (x : A) (xs ys : List A) → q x ≡ true → list_all q (xs ++ ys) ≡ true → list_all q (xs ++ x ∷ ys) ≡ true
all_between q x xs ys is h = all_append q xs (x ∷ ys) (all_left q xs ys h) (all_more q x ys is (all_right q xs ys h))

all_filter : {A : Type 0} (p q : A → Bool) (xs : List A) → list_all p xs ≡ true → list_all p (filter q xs) ≡ true
all_filter p q [] h = refl
all_filter {A} p q (x ∷ xs) h = by (q x) (all_filter p q xs (all_tail p x xs h))
  where
    by : (b : Bool) → list_all p (filter q xs) ≡ true → list_all p (cond b (x ∷ filter q xs) (filter q xs)) ≡ true
    by true rest = all_more p x (filter q xs) (all_head p x xs h) rest
    by false rest = rest

all_passed : {A : Type 0} (q : A → Bool) (xs : List A) → list_all q (filter q xs) ≡ true
all_passed q [] = refl
all_passed q (x ∷ xs) = by (q x) refl (all_passed q xs)
  where
    by : (b : Bool) → q x ≡ b → list_all q (filter q xs) ≡ true → list_all q (cond b (x ∷ filter q xs) (filter q xs)) ≡ true
    by true is rest = all_more q x (filter q xs) is rest
    by false is rest = rest

-- ---- one more step at the end

counted_more : (k : ℕ) (l : List JournalEntry) (x : JournalEntry) → are_counted k l ≡ true → x.stamp.pos ≡ k + length l → are_counted k (l ++ x ∷ []) ≡ true
counted_more k [] x h at = let is : x.stamp.pos ≡ k = omega (arith, at) in both (x.stamp.pos == k) true (same x.stamp.pos k is) refl
  where
    same : (a b : ℕ) → a ≡ b → (a == b) ≡ true
    same a b e = grind (arith, nat_tests)
counted_more k (e ∷ l) x h at =
    let at' : x.stamp.pos ≡ suc k + length l = omega (arith, at) in
    both (e.stamp.pos == k) (are_counted (suc k) (l ++ x ∷ [])) (both_left (e.stamp.pos == k) (are_counted (suc k) l) h)
    (counted_more (suc k) l x (both_right (e.stamp.pos == k) (are_counted (suc k) l) h) at')

chained_more : (word : EventNow) (l : List JournalEntry) (x : JournalEntry) → is_chained word l ≡ true
    → is_word x.entry.now (word_from word (length l) l) ≡ true → (x.stamp.pos == position (word_from word (length l) l)) ≡ true → is_chained word (l ++ x ∷ []) ≡ true
chained_more word [] x h is at = both (is_word x.entry.now word && (x.stamp.pos == position word)) true (both (is_word x.entry.now word) (x.stamp.pos == position word) is at) refl
chained_more word (e ∷ l) x h is at =
    both (is_word e.entry.now word && (e.stamp.pos == position word)) (is_chained (after_step (word_step e.entry.kind) word) (l ++ x ∷ []))
    (both_left (is_word e.entry.now word && (e.stamp.pos == position word)) (is_chained (after_step (word_step e.entry.kind) word) l) h)
    (chained_more (after_step (word_step e.entry.kind) word) l x
    (both_right (is_word e.entry.now word && (e.stamp.pos == position word)) (is_chained (after_step (word_step e.entry.kind) word) l) h) is at)

word_more : (word : EventNow) (l : List JournalEntry) (x : JournalEntry)
    → word_from word (suc (length l)) (l ++ x ∷ []) ≡ after_step (word_step x.entry.kind) (word_from word (length l) l)
word_more word [] x = refl
word_more word (e ∷ l) x = word_more (after_step (word_step e.entry.kind) word) l x

word_before : (word : EventNow) (n : ℕ) (l : List JournalEntry) (x : JournalEntry) → n ≤ length l → word_from word n (l ++ x ∷ []) ≡ word_from word n l
word_before word zero l x h = refl
word_before word (suc n) [] x h = absurd (omega (arith, h))
word_before word (suc n) (e ∷ l) x h = word_before (after_step (word_step e.entry.kind) word) n l x (omega (arith, h))

long_more : {A : Type 0} (l : List A) (x : A) → length (l ++ x ∷ []) ≡ suc (length l)
long_more [] x = refl
long_more (y ∷ l) x = ap suc (long_more l x)

past_more : (l : List JournalEntry) (x : JournalEntry) → past_of (l ++ x ∷ []) ≡ x.entry ∷ past_of l
past_more l x = ap (λ (k : List Entry). reverse k) (mapped l) ∙ reverse-append (map (λ (e : JournalEntry). e.entry) l) (x.entry ∷ [])
  where
    mapped : (l : List JournalEntry) → map (λ (e : JournalEntry). e.entry) (l ++ x ∷ []) ≡ map (λ (e : JournalEntry). e.entry) l ++ x.entry ∷ []
    mapped [] = refl
    mapped (y ∷ l) = ap (λ (k : List Entry). y.entry ∷ k) (mapped l)

-- ---- a history of the word, and the steps that lay it

-- the steps in order are those of the word's history, and all that was seen is a word that they leave
record IsLine (past : List SourceStep) (all steps : List JournalEntry) : Type 0 where
  low : list_all (λ e. nat_lt e.stamp.pos (length past)) all ≡ true
  long : length steps ≡ length past
  counted : are_counted 0 steps ≡ true
  chained : is_chained no_steps steps ≡ true
  words : (word : EventNow) → IsSeen past word → (position word ≤ length steps) × (word_from no_steps (position word) steps ≡ word)
  end : word_from no_steps (length steps) steps ≡ word_after past
  last : numbers (past_of steps) ≡ word_after past

no_line : IsLine [] [] []
no_line = record {
  low = refl;
  long = refl;
  counted = refl;
  chained = refl;
  words = λ word is. (let none : position word ≡ 0 = ap position is in omega (arith, none), start word is);
  end = refl;
  last = refl;
}
  where
    start : (word : EventNow) → word ≡ word_after [] → word_from no_steps (position word) [] ≡ word
    start word is = let none : position word ≡ 0 = ap position is in ap (λ (n : ℕ). word_from no_steps n []) none ∙ sym is

lower : (n a : ℕ) → nat_lt a n ≡ true → nat_lt a (suc n) ≡ true
lower n a h = grind (arith, nat_tests)

least : (a n : ℕ) → a ≡ n → nat_lt a (suc n) ≡ true
least a n h = grind (arith, nat_tests)

same_number : (a b : ℕ) → a ≡ b → (a == b) ≡ true
same_number a b h = grind (arith, nat_tests)

pub same_word : (a b : EventNow) → a ≡ b → is_word a b ≡ true
same_word a b h =
    both ((a.inpr == b.inpr) && (a.count == b.count)) (a.hard == b.hard)
    (both (a.inpr == b.inpr) (a.count == b.count) (same_number a.inpr b.inpr (ap (λ (w : EventNow). w.inpr) h)) (same_number a.count b.count (ap (λ (w : EventNow). w.count) h)))
    (same_number a.hard b.hard (ap (λ (w : EventNow). w.hard) h))

-- after one more step
one_more_step : (s : SourceStep) (past : List SourceStep) (xs ys steps : List JournalEntry) (x : JournalEntry) → IsLine past (xs ++ ys) steps
    → word_step x.entry.kind ≡ Some s.step → x.entry.now ≡ word_after past → x.stamp.pos ≡ length past
    → position (word_after past) ≡ length past → position (word_after (s ∷ past)) ≡ length (s ∷ past)
    → IsLine (s ∷ past) (xs ++ x ∷ ys) (steps ++ x ∷ [])
one_more_step s past xs ys steps x line step now at place top = record {
  low = all_between (λ e. nat_lt e.stamp.pos (length (s ∷ past))) x xs ys (least x.stamp.pos (length past) at)
      (all_weaker (λ (e : JournalEntry). nat_lt e.stamp.pos (length past)) (λ e. nat_lt e.stamp.pos (length (s ∷ past))) (xs ++ ys) (λ e h. lower (length past) e.stamp.pos h) line.low);
  long = long_more steps x ∙ ap suc line.long;
  counted = counted_more 0 steps x line.counted (let long : length steps ≡ length past = line.long in omega (arith, at, long));
  chained = chained_more no_steps steps x line.chained
      (same_word x.entry.now (word_from no_steps (length steps) steps) (now ∙ sym line.end))
      (same_number x.stamp.pos (position (word_from no_steps (length steps) steps)) (at ∙ sym place ∙ ap position (sym line.end)));
  words = by;
  end = ends;
  last = ap numbers (past_more steps x) ∙ ap₂ (λ (o : Option WordKind) (w : EventNow). after_step o w) step line.last;
}
  where
    ends : word_from no_steps (length (steps ++ x ∷ [])) (steps ++ x ∷ []) ≡ word_after (s ∷ past)
    ends =
        ap (λ (n : ℕ). word_from no_steps n (steps ++ x ∷ [])) (long_more steps x) ∙ word_more no_steps steps x
        ∙ ap₂ (λ (o : Option WordKind) (w : EventNow). after_step o w) step line.end

    by : (word : EventNow) → IsSeen (s ∷ past) word → (position word ≤ length (steps ++ x ∷ [])) × (word_from no_steps (position word) (steps ++ x ∷ []) ≡ word)
    by word (inl is) =
        let here : position word ≡ length (steps ++ x ∷ []) = ap position is ∙ top ∙ ap suc (sym line.long) ∙ sym (long_more steps x) in
        (omega (arith, here), ap (λ (n : ℕ). word_from no_steps n (steps ++ x ∷ [])) here ∙ ends ∙ sym is)
    by word (inr before) =
        let w = line.words word before in
        let within : position word ≤ length steps = w.0 in
        let longer : length (steps ++ x ∷ []) ≡ suc (length steps) = long_more steps x in
        (omega (arith, within, longer), word_before no_steps (position word) steps x within ∙ w.1)

-- ---- the steps of each source, the newest first

-- the steps so far, after an entry that found that word
abbrev made_onto : Option WordKind → EventNow → List MadeStep → List MadeStep
made_onto None now made = made
made_onto (Some step) now made = record { step = step; before = now } ∷ made

-- the steps on the word among these entries, the newest first, by the steps that they make
abbrev made_in : List Entry → List MadeStep
made_in [] = []
made_in (e ∷ own) = made_onto (word_step e.kind) e.now (made_in own)

-- a part's step on the word is that of its kind
step_same : (k : Kind) (now : EventNow) (made : List MadeStep) → shown.step_by (class_of k) now made ≡ made_onto (word_step k) now made
step_same (kind.Start s) now made = refl
step_same (kind.Finish s) now made = refl
step_same (kind.Hard s) now made = refl
step_same k now made = refl

made_same : (own : List Entry) → shown.steps_in own ≡ made_in own
made_same [] = refl
made_same (e ∷ own) = step_same e.kind e.now (shown.steps_in own) ∙ ap (made_onto (word_step e.kind) e.now) (made_same own)

-- what these steps are
abbrev made_steps : List JournalEntry → List MadeStep
made_steps [] = []
made_steps (e ∷ l) = made_onto (word_step e.entry.kind) e.entry.now (made_steps l)

-- all steps of source i, of the next, and so on, n sources in all
abbrev closed_from : ℕ → ℕ → (ℕ → List JournalEntry) → List JournalEntry
closed_from i zero of = []
closed_from i (suc n) of = reverse (of i) ++ closed_from (suc i) n of

-- the newest step of one source is left out
abbrev without : ℕ → List JournalEntry → (ℕ → List JournalEntry) → ℕ → List JournalEntry
without t rest of k = cond (t == k) rest (of k)

closed_same : (i n : ℕ) (of of' : ℕ → List JournalEntry) → ((k : ℕ) → i ≤ k → of k ≡ of' k) → closed_from i n of ≡ closed_from i n of'
closed_same i zero of of' h = refl
closed_same i (suc n) of of' h =
    ap₂ (λ (a b : List JournalEntry). a ++ b) (ap (λ (l : List JournalEntry). reverse l) (h i (omega arith))) (closed_same (suc i) n of of' (λ k l. h k (omega (arith, l))))

closed_none : (i n : ℕ) (of : ℕ → List JournalEntry) → ((k : ℕ) → k < i + n → of k ≡ []) → closed_from i n of ≡ []
closed_none i zero of h = refl
closed_none i (suc n) of h =
    ap₂ (λ (a b : List JournalEntry). a ++ b) (ap (λ (l : List JournalEntry). reverse l) (h i (omega arith))) (closed_none (suc i) n of (λ k l. h k (omega (arith, l))))

-- the position of the newest step of one source
record IsSplit (x : JournalEntry) (with_it without_it : List JournalEntry) : Type 0 where
  front : List JournalEntry
  back : List JournalEntry
  whole : with_it ≡ front ++ x ∷ back
  left : without_it ≡ front ++ back

apart_number : (t k : ℕ) → t < k → (t == k) ≡ false
apart_number t k l = grind (arith, nat_tests)

split_at : (t i n : ℕ) (x : JournalEntry) (rest : List JournalEntry) (of : ℕ → List JournalEntry) → of t ≡ x ∷ rest → i ≤ t → t < i + n
    → IsSplit x (closed_from i n of) (closed_from i n (without t rest of))
split_at t i zero x rest of is low high = absurd (omega (arith, low, high))
split_at t i (suc n) x rest of is low high = by (t == i) refl (λ later. split_at t (suc i) n x rest of is later (omega (arith, high)))
  where
    by : (c : Bool) → (t == i) ≡ c → (suc i ≤ t → IsSplit x (closed_from (suc i) n of) (closed_from (suc i) n (without t rest of)))
        → IsSplit x (closed_from i (suc n) of) (closed_from i (suc n) (without t rest of))
    by true same further =
        let here : t ≡ i = number_is t i same in
        let others : closed_from (suc i) n (without t rest of) ≡ closed_from (suc i) n of =
        closed_same (suc i) n (without t rest of) of (λ k l. ap (λ (b : Bool). cond b rest (of k)) (apart_number t k (omega (arith, l, here)))) in
        record {
          front = reverse rest;
          back = closed_from (suc i) n of;
          whole = ap (λ (l : List JournalEntry). reverse l ++ closed_from (suc i) n of) (ap of (sym here) ∙ is)
              ∙ ap (λ (l : List JournalEntry). l ++ closed_from (suc i) n of) (reverse-append (x ∷ []) rest)
              ∙ append_assoc (reverse rest) (x ∷ []) (closed_from (suc i) n of);
          left = ap₂ (λ (a b : List JournalEntry). a ++ b) (ap (λ (b : Bool). reverse (cond b rest (of i))) same) others;
        }
    by false other further =
        let later : suc i ≤ t = behind t i low other in
        let s = further later in
        record {
          front = reverse (of i) ++ s.front;
          back = s.back;
          whole = ap (λ (l : List JournalEntry). reverse (of i) ++ l) s.whole ∙ sym (append_assoc (reverse (of i)) s.front (x ∷ s.back));
          left = ap₂ (λ (a b : List JournalEntry). a ++ b) (ap (λ (b : Bool). reverse (cond b rest (of i))) other) s.left ∙ sym (append_assoc (reverse (of i)) s.front s.back);
        }
      where
        behind : (t i : ℕ) → i ≤ t → (t == i) ≡ false → suc i ≤ t
        behind t i l n = grind (arith, nat_tests)

-- ---- the history, step by step

-- what is so of each source: its entries are steps, those that the history has of it, each at the position of its word
record AreOf (past : List SourceStep) (n : ℕ) (of : ℕ → List JournalEntry) : Type 0 where
  made : (k : ℕ) → k < n → made_steps (of k) ≡ steps_of k past
  step : (k : ℕ) → k < n → list_all is_word_step (of k) ≡ true
  place : (k : ℕ) → k < n → list_all has_position (of k) ≡ true

no_made : (l : List JournalEntry) → list_all is_word_step l ≡ true → made_steps l ≡ [] → l ≡ []
no_made [] h g = refl
no_made (e ∷ l) h g = absurd (some (word_step e.entry.kind) (all_head is_word_step e l h) g)
  where
    some : (o : Option WordKind) → is_some o ≡ true → made_onto o e.entry.now (made_steps l) ≡ [] → ⊥
    some None is g = cc
    some (Some x) is g = cc

-- the newest step of a source, and those before it
record IsNewest (step : WordKind) (before : EventNow) (rest : List MadeStep) (l : List JournalEntry) : Type 0 where
  newest : JournalEntry
  older : List JournalEntry
  whole : l ≡ newest ∷ older
  makes : word_step newest.entry.kind ≡ Some step
  found : newest.entry.now ≡ before
  made : made_steps older ≡ rest

newest_is : (step : WordKind) (before : EventNow) (rest : List MadeStep) (l : List JournalEntry) → list_all is_word_step l ≡ true
    → made_steps l ≡ record { step = step; before = before } ∷ rest → IsNewest step before rest l
newest_is step before rest [] h g = absurd (none g)
  where
    none : [] ≡ record { step = step; before = before } ∷ rest → ⊥
    none e = let n = ap length e in omega (arith, n)
newest_is step before rest (e ∷ l) h g = by (word_step e.entry.kind) refl (all_head is_word_step e l h) g
  where
    by : (o : Option WordKind) → word_step e.entry.kind ≡ o → is_some o ≡ true → made_onto o e.entry.now (made_steps l) ≡ record { step = step; before = before } ∷ rest
        → IsNewest step before rest (e ∷ l)
    by None is h g = absurd (let bad : false ≡ true = h in cc)
    by (Some x) is h g =
        let first : record { step = x; before = e.entry.now } ≡ record { step = step; before = before } =
        head_of (record { step = x; before = e.entry.now }) (record { step = step; before = before }) (made_steps l) rest g in
        record {
          newest = e;
          older = l;
          whole = refl;
          makes = is ∙ ap (λ (m : MadeStep). Some m.step) first;
          found = ap (λ (m : MadeStep). m.before) first;
          made = tail_of (record { step = x; before = e.entry.now }) (record { step = step; before = before }) (made_steps l) rest g;
        }

-- a source's steps are those before and the newest
own_step : (s : SourceStep) (past : List SourceStep) → steps_of s.source (s ∷ past) ≡ record { step = s.step; before = word_after past } ∷ steps_of s.source past
own_step s past = ap (λ (b : Bool). cond b (record { step = s.step; before = word_after past } ∷ steps_of s.source past) (steps_of s.source past)) (same_number s.source s.source refl)

module _ (s : SourceStep) (past : List SourceStep) (n : ℕ) (of : ℕ → List JournalEntry) (a : AreOf (s ∷ past) n of) (few : s.source < n) where
  newest_of : IsNewest s.step (word_after past) (steps_of s.source past) (of s.source)
  newest_of = newest_is s.step (word_after past) (steps_of s.source past) (of s.source) (a.step s.source few) (a.made s.source few ∙ own_step s past)

  older_made : (k : ℕ) → k < n → (b : Bool) → (s.source == k) ≡ b → made_steps (cond b newest_of.older (of k)) ≡ steps_of k past
  older_made k l true is = let same : s.source ≡ k = number_is s.source k is in newest_of.made ∙ ap (λ (j : ℕ). steps_of j past) same
  older_made k l false is = a.made k l ∙ ap (λ (b : Bool). cond b (record { step = s.step; before = word_after past } ∷ steps_of k past) (steps_of k past)) is

  older_all : (q : JournalEntry → Bool) → ((k : ℕ) → k < n → list_all q (of k) ≡ true) → (k : ℕ) → k < n → (b : Bool) → list_all q (cond b newest_of.older (of k)) ≡ true
  older_all q h k l true =
      all_tail q newest_of.newest newest_of.older (subst (λ (es : List JournalEntry). list_all q es ≡ true) newest_of.whole (h s.source few))
  older_all q h k l false = h k l

  without_newest : AreOf past n (without s.source newest_of.older of)
  without_newest = record {
    made = λ k l. older_made k l (s.source == k) refl;
    step = λ k l. older_all is_word_step a.step k l (s.source == k);
    place = λ k l. older_all has_position a.place k l (s.source == k);
  }

before_less : (a b : ℕ) (r : Bool) → nat_lt a b ≡ true → before_or a b r ≡ true
before_less a b r h = ap (λ (t : Bool). t || ((a == b) && r)) h

line : (past : List SourceStep) (n : ℕ) (of : ℕ → List JournalEntry) → AreBelow n past → ArePositions past → position (word_after past) ≡ length past → AreOf past n of
    → IsLine past (closed_from 0 n of) (in_order (closed_from 0 n of))
line [] n of below placed top a =
    subst (λ (l : List JournalEntry). IsLine [] l (in_order l)) (sym (closed_none 0 n of (λ k l. no_made (of k) (a.step k (omega (arith, l))) (a.made k (omega (arith, l)))))) no_line
line (s ∷ past) n of below placed top a = by (line past n (without s.source new.older of) below.1 placed.1 placed.0 (without_newest s past n of a below.0))
  where
    new : IsNewest s.step (word_after past) (steps_of s.source past) (of s.source)
    new = newest_of s past n of a below.0

    split : IsSplit new.newest (closed_from 0 n of) (closed_from 0 n (without s.source new.older of))
    split = split_at s.source 0 n new.newest new.older of new.whole (omega arith) (let few : s.source < n = below.0 in omega (arith, few))

    at : new.newest.stamp.pos ≡ length past
    at =
        number_is new.newest.stamp.pos (position new.newest.entry.now)
        (all_head has_position new.newest new.older (subst (λ (es : List JournalEntry). list_all has_position es ≡ true) new.whole (a.place s.source below.0)))
        ∙ ap position new.found ∙ placed.0

    behind : (l : List JournalEntry) → list_all (λ e. nat_lt e.stamp.pos (length past)) l ≡ true → list_all (λ y. precedes y new.newest) l ≡ true
    behind l h = all_weaker (λ (e : JournalEntry). nat_lt e.stamp.pos (length past)) (λ y. precedes y new.newest) l
        (λ e low. before_less e.stamp.pos new.newest.stamp.pos _ (subst (λ (k : ℕ). nat_lt e.stamp.pos k ≡ true) (sym at) low)) h

    by : IsLine past (closed_from 0 n (without s.source new.older of)) (in_order (closed_from 0 n (without s.source new.older of)))
        → IsLine (s ∷ past) (closed_from 0 n of) (in_order (closed_from 0 n of))
    by before =
        let before' : IsLine past (split.front ++ split.back) (in_order (split.front ++ split.back)) = subst (λ (l : List JournalEntry). IsLine past l (in_order l)) split.left before in
        let last : in_order (split.front ++ new.newest ∷ split.back) ≡ in_order (split.front ++ split.back) ++ new.newest ∷ [] =
        last_of_all new.newest split.front split.back (behind split.front (all_left (λ (e : JournalEntry). nat_lt e.stamp.pos (length past)) split.front split.back before'.low))
        (behind split.back (all_right (λ (e : JournalEntry). nat_lt e.stamp.pos (length past)) split.front split.back before'.low)) in
        let more : IsLine (s ∷ past) (split.front ++ new.newest ∷ split.back) (in_order (split.front ++ split.back) ++ new.newest ∷ []) =
        one_more_step s past split.front split.back (in_order (split.front ++ split.back)) new.newest before' new.makes new.found at placed.0 top in
        subst (λ (l : List JournalEntry). IsLine (s ∷ past) l (in_order l)) (sym split.whole)
        (subst (λ (l : List JournalEntry). IsLine (s ∷ past) (split.front ++ new.newest ∷ split.back) l) (sym last) more)

-- ---- the histories

abbrev steps_back : List SourceEntry → List JournalEntry
steps_back history = filter is_word_step (reverse (map of_source history))

pub preserved_still : (k : Kind) → is_in_journal (class_of k) ≡ true → is_some (word_step k) ≡ false
preserved_still (kind.Start s) h = absurd (cc)
preserved_still (kind.Finish s) h = absurd (cc)
preserved_still (kind.Hard s) h = absurd (cc)
preserved_still k h = refl

steps_closed : (hs : List (List SourceEntry)) (i : ℕ) (of : ℕ → List JournalEntry) → ((k : ℕ) → of (i + k) ≡ steps_back (get_or hs k []))
    → filter is_word_step (sources_entries hs) ≡ closed_from i (length hs) of
steps_closed [] i of h = refl
steps_closed (x ∷ hs) i of h =
    filter-append is_word_step (map of_source x) (sources_entries hs)
    ∙ ap₂ (λ (a b : List JournalEntry). a ++ b) (sym here)
    (steps_closed hs (suc i) of (λ k. let on : suc i + k ≡ i + suc k = omega arith in ap of on ∙ h (suc k)))
  where
    here : reverse (of i) ≡ filter is_word_step (map of_source x)
    here =
        let start : i ≡ i + 0 = omega arith in
        ap (λ (l : List JournalEntry). reverse l) (ap of start ∙ h 0)
        ∙ sym (filter_reverse is_word_step (reverse (map of_source x)))
        ∙ ap (λ (l : List JournalEntry). filter is_word_step l) (reverse-reverse (map of_source x))

made_is : (l : List JournalEntry) → made_steps (filter is_word_step l) ≡ made_in (map (λ (e : JournalEntry). e.entry) l)
made_is [] = refl
made_is (e ∷ l) = by (word_step e.entry.kind) refl (made_is l)
  where
    by : (o : Option WordKind) → word_step e.entry.kind ≡ o → made_steps (filter is_word_step l) ≡ made_in (map (λ (e : JournalEntry). e.entry) l)
        → made_steps (cond (is_some o) (e ∷ filter is_word_step l) (filter is_word_step l)) ≡ made_onto o e.entry.now (made_in (map (λ (e : JournalEntry). e.entry) l))
    by None is rest = rest
    by (Some x) is rest = ap₂ (λ (o : Option WordKind) (m : List MadeStep). made_onto o e.entry.now m) is rest

pub map_back : (l : List JournalEntry) → map (λ (e : JournalEntry). e.entry) (reverse l) ≡ past_of l
map_back [] = refl
map_back (x ∷ l) =
    ap (λ (k : List JournalEntry). map (λ (e : JournalEntry). e.entry) k) (reverse-append (x ∷ []) l)
    ∙ map_at (reverse l) x ∙ ap (λ (k : List Entry). k ++ x.entry ∷ []) (map_back l)
    ∙ sym (reverse-append (x.entry ∷ []) (map (λ (e : JournalEntry). e.entry) l))
  where
    map_at : (l : List JournalEntry) (x : JournalEntry) → map (λ (e : JournalEntry). e.entry) (l ++ x ∷ []) ≡ map (λ (e : JournalEntry). e.entry) l ++ x.entry ∷ []
    map_at [] x = refl
    map_at (y ∷ l) x = ap (λ (k : List Entry). y.entry ∷ k) (map_at l x)

back_made : (history : List SourceEntry) → made_steps (steps_back history) ≡ made_in (past_of (map of_source history))
back_made history = made_is (reverse (map of_source history)) ∙ ap made_in (map_back (map of_source history))

placed_at : (hs : List (List SourceEntry)) (k : ℕ) → list_all has_position (sources_entries hs) ≡ true → list_all has_position (map of_source (get_or hs k [])) ≡ true
placed_at [] k h = refl
placed_at (x ∷ hs) zero h = all_left has_position (map of_source x) (sources_entries hs) h
placed_at (x ∷ hs) (suc k) h = placed_at hs k (all_right has_position (map of_source x) (sources_entries hs) h)

-- a word that a seat looked at was the word at that moment
seen_one : (past : List SourceStep) (now : EventNow) (words : List EventNow) → AreSeen past words → list_any (is_word now) words ≡ true → IsSeen past now
seen_one past now [] h g = absurd (cc)
seen_one past now (w ∷ words) h g = by (is_word now w) refl g (seen_one past now words h.1)
  where
    by : (b : Bool) → is_word now w ≡ b → b || list_any (is_word now) words ≡ true → (list_any (is_word now) words ≡ true → IsSeen past now) → IsSeen past now
    by true is g rest = subst (λ (v : EventNow). IsSeen past v) (sym (word_is now w is)) h.0
    by false is g rest = rest g

seen_any : (past : List SourceStep) (now : EventNow) (looked : List (List EventNow)) → AllSeen past looked → list_any (λ words. list_any (is_word now) words) looked ≡ true → IsSeen past now
seen_any past now [] h g = absurd (cc)
seen_any past now (words ∷ looked) h g = by (list_any (is_word now) words) refl g (seen_any past now looked h.1)
  where
    by : (b : Bool) → list_any (is_word now) words ≡ b → b || list_any (λ words. list_any (is_word now) words) looked ≡ true
        → (list_any (λ words. list_any (is_word now) words) looked ≡ true → IsSeen past now) → IsSeen past now
    by true is g rest = seen_one past now words h.0 is
    by false is g rest = rest g

-- steps from a position on reach that far
reaches : (k : ℕ) (l : List JournalEntry) (most : ℕ) → k ≤ most → are_counted k l ≡ true → list_all is_word_step l ≡ true
    → list_all (λ e. nat_le (next_position e) most) l ≡ true → k + length l ≤ most
reaches k [] most h c s b = omega (arith, h)
reaches k (e ∷ l) most h c s b =
    let at : e.stamp.pos ≡ k = number_is e.stamp.pos k (both_left (e.stamp.pos == k) (are_counted (suc k) l) c) in
    let one : step_number e ≡ 1 = ap (λ (b : Bool). cond b 1 0) (all_head is_word_step e l s) in
    let within : nat_le (e.stamp.pos + step_number e) most ≡ true = all_head (λ e. nat_le (next_position e) most) e l b in
    let rest : suc k + length l ≤ most =
    reaches (suc k) l most (next e.stamp.pos (step_number e) k most at one within) (both_right (e.stamp.pos == k) (are_counted (suc k) l) c)
    (all_tail is_word_step e l s) (all_tail (λ e. nat_le (next_position e) most) e l b) in
    omega (arith, rest)
  where
    next : (pos step k most : ℕ) → pos ≡ k → step ≡ 1 → nat_le (pos + step) most ≡ true → suc k ≤ most
    next pos step k most at one within = grind (arith, nat_tests)

pub each_source : (q : JournalEntry → Bool) (hs : List (List SourceEntry)) → ((s : ℕ) → list_all q (map of_source (get_or hs s [])) ≡ true) → list_all q (sources_entries hs) ≡ true
each_source q [] h = refl
each_source q (x ∷ hs) h = all_append q (map of_source x) (sources_entries hs) (h 0) (each_source q hs (λ s. h (suc s)))

-- ---- the whole

module _ (made : List (List MadeStep)) (looked : List (List EventNow)) (answer : EventNow) (journal : List JournalEntry) (hs : List (List SourceEntry))
    (closed_over : IsClosedOver made looked answer journal hs) where
  abbrev past : List SourceStep
  past = closed_over.closed.history

  abbrev of : ℕ → List JournalEntry
  of k = steps_back (get_or hs k [])

  steps_are : filter is_word_step (all_entries journal hs) ≡ closed_from 0 (length hs) of
  steps_are =
      filter-append is_word_step journal (sources_entries hs)
      ∙ ap₂ (λ (a b : List JournalEntry). a ++ b) (filter_none is_word_step is_journals journal closed_over.kept (λ e i. preserved_still e.entry.kind i))
      (steps_closed hs 0 of (λ k. let start : 0 + k ≡ k = omega arith in ap of start))

  is_of : AreOf past (length hs) of
  is_of = record {
    made = λ k l. back_made (get_or hs k []) ∙ sym (made_same (past_of (map of_source (get_or hs k [])))) ∙ sym (closed_over.each_made k l) ∙ closed_over.closed.each_made k (let same : length made ≡ length hs = closed_over.count in omega (arith, l, same));
    step = λ k l. all_passed is_word_step (reverse (map of_source (get_or hs k [])));
    place = λ k l. all_filter has_position is_word_step (reverse (map of_source (get_or hs k [])))
        (all_reverse has_position (map of_source (get_or hs k [])) (placed_at hs k (all_right has_position journal (sources_entries hs) closed_over.positions)));
  }

  is_line : IsLine past (filter is_word_step (all_entries journal hs)) (in_order (filter is_word_step (all_entries journal hs)))
  is_line = subst (λ (l : List JournalEntry). IsLine past l (in_order l)) (sym steps_are)
      (line past (length hs) of (subst (λ (n : ℕ). AreBelow n past) closed_over.count closed_over.closed.makers) closed_over.closed.placed (ap position (sym closed_over.closed.last.0) ∙ closed_over.closed.last.1) is_of)

  at_most : (a b : ℕ) → a ≤ b → nat_le a b ≡ true
  at_most a b h = grind (arith, nat_tests)

  look : (e : JournalEntry) → is_looked looked e ≡ true → has_position e ≡ true → is_look (in_order (filter is_word_step (all_entries journal hs))) e ≡ true
  look e h at = by (is_word_step e) h
    where
      steps : List JournalEntry
      steps = in_order (filter is_word_step (all_entries journal hs))

      by : (b : Bool) → b || list_any (λ words. list_any (is_word e.entry.now) words) looked ≡ true
          → b || (nat_le e.stamp.pos (length steps) && is_word e.entry.now (word_from no_steps e.stamp.pos steps) && (e.stamp.pos == position e.entry.now)) ≡ true
      by true h = refl
      by false h =
          let there = is_line.words e.entry.now (seen_any past e.entry.now looked closed_over.closed.seen.0 h) in
          let here : e.stamp.pos ≡ position e.entry.now = number_is e.stamp.pos (position e.entry.now) at in
          both (nat_le e.stamp.pos (length steps) && is_word e.entry.now (word_from no_steps e.stamp.pos steps)) (e.stamp.pos == position e.entry.now)
          (both (nat_le e.stamp.pos (length steps)) (is_word e.entry.now (word_from no_steps e.stamp.pos steps))
          (ap (λ (p : ℕ). nat_le p (length steps)) here ∙ at_most (position e.entry.now) (length steps) there.0)
          (same_word e.entry.now (word_from no_steps e.stamp.pos steps) (sym there.1 ∙ ap (λ (p : ℕ). word_from no_steps p steps) (sym here)))) at

  in_line : IsInLine answer journal hs
  in_line = record {
    counted = is_line.counted;
    chained = is_line.chained;
    looks = all_by_two (is_looked looked) has_position (is_look (in_order (filter is_word_step (all_entries journal hs)))) (all_entries journal hs) look closed_over.looks closed_over.positions;
    last = is_line.last ∙ sym closed_over.closed.last.0;
  }

  -- ---- the last word

  last_seen : (now : EventNow) → IsSeenLast looked hs now → now ≡ answer
  last_seen now h =
      let there = is_line.words now (seen_any past now looked closed_over.closed.seen.0 h.seen) in
      let upper : position now ≤ length steps = there.0 in
      let lower : 0 + length steps ≤ position now = reaches 0 steps (position now) (omega arith) is_line.counted all_steps behind in
      let at : position now ≡ length steps = omega (arith, upper, lower) in
      sym there.1 ∙ ap (λ (n : ℕ). word_from no_steps n steps) at ∙ is_line.end ∙ sym closed_over.closed.last.0
    where
      steps : List JournalEntry
      steps = in_order (filter is_word_step (all_entries journal hs))

      all_steps : list_all is_word_step (in_order (filter is_word_step (all_entries journal hs))) ≡ true
      all_steps = all_order is_word_step (filter is_word_step (all_entries journal hs)) (all_passed is_word_step (all_entries journal hs))

      behind : list_all (λ e. nat_le (next_position e) (position now)) (in_order (filter is_word_step (all_entries journal hs))) ≡ true
      behind =
          all_order (λ e. nat_le (next_position e) (position now)) (filter is_word_step (all_entries journal hs))
          (subst (λ (l : List JournalEntry). list_all (λ e. nat_le (next_position e) (position now)) l ≡ true) (sym of_sources)
          (all_filter (λ e. nat_le (next_position e) (position now)) is_word_step (sources_entries hs) (each_source (λ e. nat_le (next_position e) (position now)) hs h.behind)))
        where
          of_sources : filter is_word_step (all_entries journal hs) ≡ filter is_word_step (sources_entries hs)
          of_sources =
              filter-append is_word_step journal (sources_entries hs)
              ∙ ap (λ (l : List JournalEntry). l ++ filter is_word_step (sources_entries hs)) (filter_none is_word_step is_journals journal closed_over.kept (λ e i. preserved_still e.entry.kind i))

pub looks_last : LooksLast
looks_last made looked answer now journal hs closed_over h = last_seen made looked answer journal hs closed_over now h

pub table_covers : TableCovers
table_covers made looked answer journal hs closed_over = in_line made looked answer journal hs closed_over
