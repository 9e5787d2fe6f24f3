-- The numbers and the calls in the account are those that the definitions read.
use Rattle.std.proofs.Common.{◌≡◌, ◌<◌, ◌≤◌, ◌+◌, ◌++◌, ◌==◌, ◌&&◌, ℕ, zero, suc, Bool, true, false, List, [], ◌∷◌, length, replicate, cond, refl, ap, sym, ◌∙◌, subst, arith, slice_set, slice_index_or, append_assoc}
use Rattle.std.specs.List.{list_all}
use Rattle.std.proofs.lemmas.List.{length-set, length-replicate, append-nil}
use Rattle.sleep_model.specs.declared.entry.Actor.{Actor}
use Rattle.sleep_model.specs.declared.entry.Actor.TheVariants as actor
use Rattle.sleep_model.specs.declared.entry.Entry.{Entry}
use Rattle.sleep_model.specs.declared.entry.Kind.{Kind}
use Rattle.sleep_model.specs.declared.entry.Kind.TheVariants as kind
use Rattle.sleep_model.specs.declared.machine.Machine.{Machine}
use Rattle.sleep_model.specs.declared.word.EventNow.{EventNow}
use Rattle.sleep_model.specs.Calls.{calls_after_turn, calls_of, calls_of_turn, ends_turn, is_note_of, made, notes_of, one_more, report_calls, turns_ended}
use Rattle.sleep_model.specs.Fits.{fits_actor, fits_entry, fits_kind, fits_word, is_word64}
use Rattle.sleep_model.specs.EntryClasses.{EntryClass, OfJournal, OfTime, Notes, Moves, class_of, journal}
use Rattle.sleep_model.specs.Path.{attempts, is_same}
use Rattle.sleep_model.specs.Sources.{history}
use Rattle.check_sources.specs.ActorRows.{actor_index, actor_count}
use Rattle.check_sources.specs.Calling.{CallState, AgreesOf, CallersAgree, calls_by, callers_of, callers_after, made_at, turns_at, noted_by, entered_by}
use Rattle.std.specs.Prelude.{nat_lt, nat_le}
use Rattle.std.proofs.lemmas.Bool.Decides.{nat_tests}

-- ---- indices

below : (i n : ℕ) → nat_lt i n ≡ true → i < n
below i n h = grind (arith, nat_tests)

at_most : (i n : ℕ) → nat_le i n ≡ true → i ≤ n
at_most i n h = grind (arith, nat_tests)

pub within : (m : Machine) (who : Actor) → fits_actor m who ≡ true → actor_index m who < actor_count m
within m (actor.Script i) fits = let l = below i (length m.actors) fits in omega (arith, l)
within m actor.Auto fits = omega arith
within m (actor.Dev d) fits = let l = below d (length m.devices) fits in omega (arith, l)
within m (actor.Timer s) fits = let l = at_most s (length m.sources) fits in omega (arith, l)
within m actor.Time fits = omega arith

same_number : (i j : ℕ) → (i == j) ≡ true → i ≡ j
same_number i j h = grind (arith)

other_number : (i j : ℕ) → (i == j) ≡ false → i ≡ j → ⊥
other_number i j h e = grind (arith)

same : (a b : Actor) → is_same a b ≡ true → a ≡ b
same (actor.Script i) (actor.Script j) h = ap actor.Script (same_number i j h)
same actor.Auto actor.Auto h = refl
same (actor.Dev c) (actor.Dev d) h = ap actor.Dev (same_number c d h)
same (actor.Timer s) (actor.Timer t) h = ap actor.Timer (same_number s t h)
same actor.Time actor.Time h = refl
same (actor.Script i) actor.Auto h = absurd (cc)
same (actor.Script i) (actor.Dev d) h = absurd (cc)
same (actor.Script i) (actor.Timer s) h = absurd (cc)
same (actor.Script i) actor.Time h = absurd (cc)
same actor.Auto (actor.Script i) h = absurd (cc)
same actor.Auto (actor.Dev d) h = absurd (cc)
same actor.Auto (actor.Timer s) h = absurd (cc)
same actor.Auto actor.Time h = absurd (cc)
same (actor.Dev d) (actor.Script i) h = absurd (cc)
same (actor.Dev d) actor.Auto h = absurd (cc)
same (actor.Dev d) (actor.Timer s) h = absurd (cc)
same (actor.Dev d) actor.Time h = absurd (cc)
same (actor.Timer s) (actor.Script i) h = absurd (cc)
same (actor.Timer s) actor.Auto h = absurd (cc)
same (actor.Timer s) (actor.Dev d) h = absurd (cc)
same (actor.Timer s) actor.Time h = absurd (cc)
same actor.Time (actor.Script i) h = absurd (cc)
same actor.Time actor.Auto h = absurd (cc)
same actor.Time (actor.Dev d) h = absurd (cc)
same actor.Time (actor.Timer s) h = absurd (cc)

apart : (m : Machine) (a b : Actor) → fits_actor m a ≡ true → fits_actor m b ≡ true → is_same a b ≡ false → actor_index m a ≡ actor_index m b → ⊥
apart m (actor.Script i) (actor.Script j) fa fb h e = other_number i j h (omega (arith, e))
apart m (actor.Dev c) (actor.Dev d) fa fb h e = other_number c d h (omega (arith, e))
apart m (actor.Timer s) (actor.Timer t) fa fb h e = other_number s t h (omega (arith, e))
apart m actor.Auto actor.Auto fa fb h e = cc
apart m actor.Time actor.Time fa fb h e = cc
apart m (actor.Script i) actor.Auto fa fb h e = omega (arith, e)
apart m (actor.Script i) actor.Time fa fb h e = omega (arith, e)
apart m (actor.Script i) (actor.Dev d) fa fb h e = let l = below i (length m.actors) fa in omega (arith, e, l)
apart m (actor.Script i) (actor.Timer s) fa fb h e = let l = below i (length m.actors) fa in omega (arith, e, l)
apart m actor.Auto (actor.Script i) fa fb h e = omega (arith, e)
apart m actor.Auto (actor.Dev d) fa fb h e = omega (arith, e)
apart m actor.Auto (actor.Timer s) fa fb h e = omega (arith, e)
apart m actor.Auto actor.Time fa fb h e = omega (arith, e)
apart m (actor.Dev d) (actor.Script i) fa fb h e = let l = below i (length m.actors) fb in omega (arith, e, l)
apart m (actor.Dev d) actor.Auto fa fb h e = omega (arith, e)
apart m (actor.Dev d) (actor.Timer s) fa fb h e = let l = below d (length m.devices) fa in omega (arith, e, l)
apart m (actor.Dev d) actor.Time fa fb h e = omega (arith, e)
apart m (actor.Timer s) (actor.Script i) fa fb h e = let l = below i (length m.actors) fb in omega (arith, e, l)
apart m (actor.Timer s) actor.Auto fa fb h e = omega (arith, e)
apart m (actor.Timer s) (actor.Dev d) fa fb h e = let l = below d (length m.devices) fb in omega (arith, e, l)
apart m (actor.Timer s) actor.Time fa fb h e = omega (arith, e)
apart m actor.Time (actor.Script i) fa fb h e = omega (arith, e)
apart m actor.Time actor.Auto fa fb h e = omega (arith, e)
apart m actor.Time (actor.Dev d) fa fb h e = omega (arith, e)
apart m actor.Time (actor.Timer s) fa fb h e = omega (arith, e)

-- ---- a write at an index

at_place : {A : Type 0} → (xs : List A) (p : ℕ) (x d : A) → p < length xs → slice_index_or (slice_set xs p x) p d ≡ x
at_place [] p x d h = absurd (omega (arith, h))
at_place (y ∷ ys) zero x d h = refl
at_place (y ∷ ys) (suc p) x d h = at_place ys p x d (omega (arith, h))

elsewhere : {A : Type 0} → (xs : List A) (p q : ℕ) (x d : A) → (p ≡ q → ⊥) → slice_index_or (slice_set xs p x) q d ≡ slice_index_or xs q d
elsewhere [] p q x d h = refl
elsewhere (y ∷ ys) zero zero x d h = absurd (h refl)
elsewhere (y ∷ ys) zero (suc q) x d h = refl
elsewhere (y ∷ ys) (suc p) zero x d h = refl
elsewhere (y ∷ ys) (suc p) (suc q) x d h = elsewhere ys p q x d (λ e. h (ap suc e))

at_first : {A : Type 0} → (n p : ℕ) (d : A) → slice_index_or (replicate n d) p d ≡ d
at_first zero p d = refl
at_first (suc n) zero d = refl
at_first (suc n) (suc p) d = at_first n p d

-- ---- how long the row is

pub record IsRow (m : Machine) (c : CallState) : Type 0 where
  pub made : length c.made ≡ actor_count m
  pub turns : length c.turns ≡ actor_count m
  pub later : length c.later ≡ actor_count m

row_after : (m : Machine) (e : Entry) (n : ℕ) (p : EntryClass) (c : CallState) → IsRow m c → IsRow m (callers_after m e n p c)
row_after m e n (Notes s call) c r = record { made = length-set c.made _ _ ∙ r.made; turns = r.turns; later = r.later }
row_after m e n (Moves s step) c r = r
row_after m e n OfJournal c r = record { made = r.made; turns = length-set c.turns _ _ ∙ r.turns; later = length-set c.later _ _ ∙ r.later }
row_after m e n OfTime c r = record { made = r.made; turns = length-set c.turns _ _ ∙ r.turns; later = length-set c.later _ _ ∙ r.later }

pub row : (m : Machine) (past : List Entry) → IsRow m (callers_of m past)
row m [] = record { made = length-replicate (actor_count m) 0; turns = length-replicate (actor_count m) 0; later = length-replicate (actor_count m) [] }
row m (e ∷ past) = row_after m e (attempts (journal past)) (class_of e.kind) (callers_of m past) (row m past)

-- ---- an entry of the journal

record Fit (m : Machine) (a who : Actor) : Type 0 where
  one : fits_actor m a ≡ true
  other : fits_actor m who ≡ true

turned : (m : Machine) (a who : Actor) (b ends : Bool) → is_same a who ≡ b → Fit m a who → (xs : List ℕ) (t : ℕ) → length xs ≡ actor_count m
    → slice_index_or xs (actor_index m who) 0 ≡ t
    → slice_index_or (slice_set xs (actor_index m a) (one_more ends (slice_index_or xs (actor_index m a) 0))) (actor_index m who) 0 ≡ one_more (b && ends) t
turned m a who true ends is f xs t len h =
    subst (λ w. slice_index_or xs (actor_index m w) 0 ≡ t → slice_index_or (slice_set xs (actor_index m a) (one_more ends (slice_index_or xs (actor_index m a) 0))) (actor_index m w) 0 ≡ one_more ends t) (same a who is)
    (λ g. at_place xs (actor_index m a) _ 0 (let l = within m a f.one in omega (arith, l, len)) ∙ ap (one_more ends) g) h
turned m a who false ends is f xs t len h = elsewhere xs (actor_index m a) (actor_index m who) _ 0 (apart m a who f.one f.other is) ∙ h

-- calls after those before the first turn
after : (first rest more last : List Kind) (all : List Kind) → first ++ rest ≡ all → first ++ (rest ++ more ++ last) ≡ all ++ more ++ last
after first rest more last all h =
    sym (append_assoc first (rest ++ more) last)
    ∙ (ap (λ (xs : List Kind). xs ++ last) (sym (append_assoc first rest more)) ∙ ap (λ (xs : List Kind). xs ++ more ++ last) h)

owing : (m : Machine) (a who : Actor) (b ends : Bool) → is_same a who ≡ b → Fit m a who → (xs : List (List Kind)) (all more : List Kind) (t u : ℕ) → length xs ≡ actor_count m
    → calls_of_turn m who 0 ++ slice_index_or xs (actor_index m who) [] ≡ all → (a ≡ who → u ≡ t)
    → calls_of_turn m who 0 ++ slice_index_or (slice_set xs (actor_index m a) (slice_index_or xs (actor_index m a) [] ++ more ++ calls_after_turn m a ends (u + 1))) (actor_index m who) [] ≡ cond b (all ++ more ++ calls_after_turn m who ends (t + 1)) all
owing m a who true ends is f xs all more t u len h turns =
    let w : a ≡ who = same a who is in
    let l = within m a f.one in
    let set : slice_index_or (slice_set xs (actor_index m a) (slice_index_or xs (actor_index m a) [] ++ more ++ calls_after_turn m a ends (u + 1))) (actor_index m a) [] ≡ slice_index_or xs (actor_index m a) [] ++ more ++ calls_after_turn m a ends (u + 1) =
    at_place xs (actor_index m a) _ [] (omega (arith, l, len)) in
    subst (λ x. calls_of_turn m x 0 ++ slice_index_or xs (actor_index m x) [] ≡ all → calls_of_turn m x 0 ++ slice_index_or (slice_set xs (actor_index m a) (slice_index_or xs (actor_index m a) [] ++ more ++ calls_after_turn m a ends (u + 1))) (actor_index m x) [] ≡ all ++ more ++ calls_after_turn m x ends (t + 1)) w
    (λ g. ap (λ (ys : List Kind). calls_of_turn m a 0 ++ ys) set ∙ (after (calls_of_turn m a 0) (slice_index_or xs (actor_index m a) []) more (calls_after_turn m a ends (u + 1)) all g ∙ ap (λ k. all ++ more ++ calls_after_turn m a ends (k + 1)) (turns w))) h
owing m a who false ends is f xs all more t u len h turns =
    ap (λ (ys : List Kind). calls_of_turn m who 0 ++ ys) (elsewhere xs (actor_index m a) (actor_index m who) _ [] (apart m a who f.one f.other is)) ∙ h

-- ---- a note, and a step

counted_for : (m : Machine) (a who : Actor) (b : Bool) → is_same a who ≡ b → Fit m a who → (xs : List ℕ) (t : ℕ) → length xs ≡ actor_count m
    → slice_index_or xs (actor_index m who) 0 ≡ t
    → slice_index_or (slice_set xs (actor_index m a) (slice_index_or xs (actor_index m a) 0 + 1)) (actor_index m who) 0 ≡ one_more b t
counted_for m a who true is f xs t len h =
    subst (λ w. slice_index_or xs (actor_index m w) 0 ≡ t → slice_index_or (slice_set xs (actor_index m a) (slice_index_or xs (actor_index m a) 0 + 1)) (actor_index m w) 0 ≡ t + 1) (same a who is)
    (λ g. at_place xs (actor_index m a) _ 0 (let l = within m a f.one in omega (arith, l, len)) ∙ ap (λ k. k + 1) g) h
counted_for m a who false is f xs t len h = elsewhere xs (actor_index m a) (actor_index m who) _ 0 (apart m a who f.one f.other is) ∙ h

-- one source's entries with one more
abbrev with_one : Entry → ℕ → (ℕ → List Entry) → ℕ → List Entry
with_one e t of s = cond (t == s) (e ∷ of s) (of s)

one_later : (b : Bool) (x y : ℕ) → one_more b x + y ≡ one_more b (x + y)
one_later true x y = omega arith
one_later false x y = refl

other_later : (b : Bool) (x y : ℕ) → x + one_more b y ≡ one_more b (x + y)
other_later true x y = omega arith
other_later false x y = refl

none_made : (n t : ℕ) (e : Entry) (of : ℕ → List Entry) (who : Actor) → n ≤ t → made n (with_one e t of) who ≡ made n of who
none_made zero t e of who l = refl
none_made (suc n) t e of who l = by_source (t == n) refl (λ (k : n ≤ t). none_made n t e of who k)
  where
    by_source : (b : Bool) → (t == n) ≡ b → (n ≤ t → made n (with_one e t of) who ≡ made n of who) → notes_of who (cond b (e ∷ of n) (of n)) + made n (with_one e t of) who ≡ notes_of who (of n) + made n of who
    by_source true is rest = absurd (let s = same_number t n is in omega (arith, l, s))
    by_source false is rest = ap (λ k. notes_of who (of n) + k) (rest (omega (arith, l)))

before : (t n : ℕ) → t < suc n → (t ≡ n → ⊥) → t < n
before t n l s = grind (arith, l, s)

one_made : (n t : ℕ) (e : Entry) (of : ℕ → List Entry) (who : Actor) → t < n → made n (with_one e t of) who ≡ one_more (is_note_of who e (class_of e.kind)) (made n of who)
one_made zero t e of who l = absurd (omega (arith, l))
one_made (suc n) t e of who l = by_source (t == n) refl (λ (k : t < n). one_made n t e of who k)
  where
    by_source : (b : Bool) → (t == n) ≡ b → (t < n → made n (with_one e t of) who ≡ one_more (is_note_of who e (class_of e.kind)) (made n of who))
        → notes_of who (cond b (e ∷ of n) (of n)) + made n (with_one e t of) who ≡ one_more (is_note_of who e (class_of e.kind)) (notes_of who (of n) + made n of who)
    by_source true is rest =
        let s = same_number t n is in
        ap (λ k. one_more (is_note_of who e (class_of e.kind)) (notes_of who (of n)) + k) (none_made n t e of who (omega (arith, s))) ∙ one_later (is_note_of who e (class_of e.kind)) (notes_of who (of n)) (made n of who)
    by_source false is rest =
        let s = other_number t n is in
        ap (λ k. notes_of who (of n) + k) (rest (before t n l s)) ∙ other_later (is_note_of who e (class_of e.kind)) (notes_of who (of n)) (made n of who)

-- ---- all

and_left : (a b : Bool) → (a && b) ≡ true → a ≡ true
and_left true b e = refl
and_left false b e = absurd (cc)

and_right : (a b : Bool) → (a && b) ≡ true → b ≡ true
and_right true b e = e
and_right false b e = absurd (cc)

-- what the account had of the entries before
record Before (m : Machine) (past : List Entry) (who : Actor) (c : CallState) : Type 0 where
  row : IsRow m c
  agrees : AgreesOf m past who c

noting : (m : Machine) (past : List Entry) (who : Actor) (c : CallState) (e : Entry) (t : ℕ) → Fit m e.actor who → Before m past who c → t < length m.sources + 1
    → is_note_of who e (class_of e.kind) ≡ is_same e.actor who
    → made_at m (noted_by m e.actor c) who ≡ made (length m.sources + 1) (with_one e t (λ s. history s past)) who
noting m past who c e t f h l note =
    counted_for m e.actor who (is_same e.actor who) refl f c.made (made_at m c who) h.row.made refl
    ∙ (ap (one_more (is_same e.actor who)) h.agrees.made
    ∙ (ap (λ b. one_more b (made (length m.sources + 1) (λ s. history s past) who)) (sym note)
    ∙ sym (one_made (length m.sources + 1) t e (λ s. history s past) who l)))

moving : (m : Machine) (past : List Entry) (who : Actor) (c : CallState) (e : Entry) (t : ℕ) → Before m past who c → t < length m.sources + 1
    → is_note_of who e (class_of e.kind) ≡ false
    → made_at m c who ≡ made (length m.sources + 1) (with_one e t (λ s. history s past)) who
moving m past who c e t h l note =
    h.agrees.made ∙ (ap (λ b. one_more b (made (length m.sources + 1) (λ s. history s past) who)) (sym note)
    ∙ sym (one_made (length m.sources + 1) t e (λ s. history s past) who l))

entering : (m : Machine) (past : List Entry) (who : Actor) (c : CallState) (e : Entry) → Fit m e.actor who → Before m past who c
    → (turns_at m (entered_by m e (attempts (journal past)) c) who ≡ turns_ended who (e ∷ journal past))
    × (calls_by m (entered_by m e (attempts (journal past)) c) who ≡ calls_of m who (e ∷ journal past))
entering m past who c e f h = (
  turned m e.actor who (is_same e.actor who) (ends_turn e.kind) refl f c.turns (turns_ended who (journal past)) h.row.turns h.agrees.turns,
  owing m e.actor who (is_same e.actor who) (ends_turn e.kind) refl f c.later (calls_of m who (journal past)) (report_calls m (attempts (journal past)) e.kind) (turns_ended who (journal past)) (turns_at m c e.actor) h.row.later h.agrees.calls
      (λ w. ap (turns_at m c) w ∙ h.agrees.turns),
)

by_kind : (m : Machine) (past : List Entry) (who : Actor) (time : ℕ) (now : EventNow) (a : Actor) (k : Kind) → fits_kind m k ≡ true → Fit m a who → Before m past who (callers_of m past)
    → AgreesOf m (record { time = time; now = now; actor = a; kind = k } ∷ past) who (callers_of m (record { time = time; now = now; actor = a; kind = k } ∷ past))
by_kind m past who time now a (kind.Awake s) fits f h = record { made = noting m past who (callers_of m past) (record { time = time; now = now; actor = a; kind = kind.Awake s }) s f h (let l = at_most s (length m.sources) fits in omega (arith, l)) refl; turns = h.agrees.turns; calls = h.agrees.calls }
by_kind m past who time now a (kind.Relax s) fits f h = record { made = noting m past who (callers_of m past) (record { time = time; now = now; actor = a; kind = kind.Relax s }) s f h (let l = at_most s (length m.sources) fits in omega (arith, l)) refl; turns = h.agrees.turns; calls = h.agrees.calls }
by_kind m past who time now a (kind.Event s ms hard) fits f h = record { made = noting m past who (callers_of m past) (record { time = time; now = now; actor = a; kind = kind.Event s ms hard }) s f h (let l = at_most s (length m.sources) (and_left (nat_le s (length m.sources)) _ fits) in omega (arith, l)) refl; turns = h.agrees.turns; calls = h.agrees.calls }
by_kind m past who time now a (kind.Expire s) fits f h = record { made = noting m past who (callers_of m past) (record { time = time; now = now; actor = a; kind = kind.Expire s }) s f h (let l = at_most s (length m.sources) fits in omega (arith, l)) refl; turns = h.agrees.turns; calls = h.agrees.calls }
by_kind m past who time now a (kind.Start s) fits f h = record { made = moving m past who (callers_of m past) (record { time = time; now = now; actor = a; kind = kind.Start s }) s h (let l = at_most s (length m.sources) fits in omega (arith, l)) refl; turns = h.agrees.turns; calls = h.agrees.calls }
by_kind m past who time now a (kind.Finish s) fits f h = record { made = moving m past who (callers_of m past) (record { time = time; now = now; actor = a; kind = kind.Finish s }) s h (let l = at_most s (length m.sources) fits in omega (arith, l)) refl; turns = h.agrees.turns; calls = h.agrees.calls }
by_kind m past who time now a (kind.Hard s) fits f h = record { made = moving m past who (callers_of m past) (record { time = time; now = now; actor = a; kind = kind.Hard s }) s h (let l = at_most s (length m.sources) fits in omega (arith, l)) refl; turns = h.agrees.turns; calls = h.agrees.calls }
by_kind m past who time now a k fits f h =
    let both = entering m past who (callers_of m past) (record { time = time; now = now; actor = a; kind = k }) f h in
    record { made = h.agrees.made; turns = both.0; calls = both.1 }

pub agree : CallersAgree
agree m [] who all fits = record { made = at_first (actor_count m) (actor_index m who) 0 ∙ sym (no_notes (length m.sources + 1)); turns = at_first (actor_count m) (actor_index m who) 0; calls = no_more }
  where
    no_notes : (n : ℕ) → made n (λ s. history s []) who ≡ 0
    no_notes zero = refl
    no_notes (suc n) = let r = no_notes n in omega (arith, r)

    no_more : calls_by m (callers_of m []) who ≡ calls_of_turn m who 0
    no_more = rw (at_first {A = List Kind} (actor_count m) (actor_index m who) []) (append-nil _)
agree m (e ∷ past) who all fits =
    let mine = and_left (fits_entry m e) (list_all (fits_entry m) past) all in
    let kinds : fits_kind m e.kind ≡ true = and_right (is_word64 e.time && fits_word e.now && fits_actor m e.actor) (fits_kind m e.kind) mine in
    let actors : fits_actor m e.actor ≡ true = and_right (is_word64 e.time && fits_word e.now) (fits_actor m e.actor) (and_left (is_word64 e.time && fits_word e.now && fits_actor m e.actor) (fits_kind m e.kind) mine) in
    by_kind m past who e.time e.now e.actor e.kind kinds (record { one = actors; other = fits })
    (record { row = row m past; agrees = agree m past who (and_right (fits_entry m e) (list_all (fits_entry m) past) all) fits })
