-- Each actor's notes are a prefix of its calls, so that all notes together weigh no more than the calls of all actors.
use Rattle.std.proofs.Common.{◌≡◌, ◌≢◌, ◌≤◌, ◌<◌, ◌+◌, ◌++◌, ◌∙◌, ℕ, zero, suc, Bool, true, false, ◌==◌, ◌&&◌, nat_le, List, [], ◌∷◌, length, Some, slice_get, cond, refl, sym, ap, ap₂, subst, length-append, arith}
use Rattle.std.specs.List.{list_all}
use Rattle.std.proofs.lemmas.Bool.{true≢false}
use Rattle.std.proofs.lemmas.Bool.Decides.{nat_tests}
use Rattle.sleep_model.specs.declared.entry.Actor.{Actor}
use Rattle.sleep_model.specs.declared.entry.Actor.TheVariants as actor
use Rattle.sleep_model.specs.declared.entry.Entry.{Entry}
use Rattle.sleep_model.specs.declared.entry.Kind.{Kind}
use Rattle.sleep_model.specs.declared.machine.Machine.{Machine}
use Rattle.sleep_model.specs.declared.machine.SourceCall.{SourceCall}
use Rattle.sleep_model.specs.Calls.{calls_of, calls_after_turn, report_calls, ends_turn, turns_ended, is_note_of, notes_of, one_more, made}
use Rattle.sleep_model.specs.Legal.{JointPart, JointStep, IsOwnCall, is_there}
use Rattle.sleep_model.specs.EntryClasses.{EntryClass, OfJournal, Notes, Moves, OfTime, class_of, is_in_journal, journal}
use Rattle.sleep_model.specs.Path.{attempts, is_same}
use Rattle.sleep_model.specs.Sources.{history, is_of}
use Rattle.room_laws.proofs.Weighing.{part_places, kind_places, weigh, front, front_within, front_more, front_same, noted, when, over_all, over_both, over_one, is_timer, AllBelow}

-- ---- how many calls an actor has made

same_made : (n : ℕ) (of other : ℕ → List Entry) (who : Actor) → ((s : ℕ) → notes_of who (of s) ≡ notes_of who (other s)) → made n of who ≡ made n other who
same_made zero of other who h = refl
same_made (suc n) of other who h = ap₂ (λ a b. a + b) (h n) (same_made n of other who h)

same_before : (n s : ℕ) (of other : ℕ → List Entry) (who : Actor) → ((t : ℕ) → (s == t) ≡ false → notes_of who (of t) ≡ notes_of who (other t)) → n < suc s → made n of who ≡ made n other who
same_before zero s of other who h l = refl
same_before (suc n) s of other who h l =
    let apart : (s == n) ≡ false = grind (arith, nat_tests) in
    ap₂ (λ a b. a + b) (h n apart) (same_before n s of other who h (omega arith))

one_more_sum : (b : Bool) (x y : ℕ) → one_more b x + y ≡ one_more b (x + y)
one_more_sum true x y = omega arith
one_more_sum false x y = refl

sum_one_more : (b : Bool) (x y : ℕ) → x + one_more b y ≡ one_more b (x + y)
sum_one_more true x y = omega arith
sum_one_more false x y = refl

-- one history gains a note of an actor, or none, and the others none
more_made : (n s : ℕ) (b : Bool) (of other : ℕ → List Entry) (who : Actor) → s < n → notes_of who (of s) ≡ one_more b (notes_of who (other s))
    → ((t : ℕ) → (s == t) ≡ false → notes_of who (of t) ≡ notes_of who (other t)) → made n of who ≡ one_more b (made n other who)
more_made zero s b of other who l own rest = absurd (omega arith)
more_made (suc n) s b of other who l own rest = by_last (s == n) refl (λ k. more_made n s b of other who k own rest)
  where
    by_last : (x : Bool) → (s == n) ≡ x → (s < n → made n of who ≡ one_more b (made n other who)) → notes_of who (of n) + made n of who ≡ one_more b (notes_of who (other n) + made n other who)
    by_last true e before =
        let same : s ≡ n = grind (arith, nat_tests) in
        ap₂ (λ x y. x + y) (ap (λ t. notes_of who (of t)) (sym same) ∙ (own ∙ ap (λ t. one_more b (notes_of who (other t))) same)) (same_before n s of other who rest (omega arith))
        ∙ one_more_sum b (notes_of who (other n)) (made n other who)
    by_last false e before =
        let apart : s ≢ n = grind (arith, nat_tests) in
        ap₂ (λ x y. x + y) (rest n e) (before (omega arith)) ∙ sum_one_more b (notes_of who (other n)) (made n other who)

history_own : (s : ℕ) (e : Entry) (past : List Entry) → is_of s (class_of e.kind) ≡ true → history s (e ∷ past) ≡ e ∷ history s past
history_own s e past h = ap (λ b. cond b (e ∷ history s past) (history s past)) h

history_other : (s : ℕ) (e : Entry) (past : List Entry) → is_of s (class_of e.kind) ≡ false → history s (e ∷ past) ≡ history s past
history_other s e past h = ap (λ b. cond b (e ∷ history s past) (history s past)) h

-- an entry that is no note adds no call
not_noted : (m : Machine) (e : Entry) (past : List Entry) (who : Actor) → ((past : List Entry) → notes_of who (e ∷ past) ≡ notes_of who past)
    → made (length m.sources + 1) (λ s. history s (e ∷ past)) who ≡ made (length m.sources + 1) (λ s. history s past) who
not_noted m e past who h = same_made (length m.sources + 1) (λ s. history s (e ∷ past)) (λ s. history s past) who (λ s. by_source s (is_of s (class_of e.kind)))
  where
    by_source : (s : ℕ) (b : Bool) → notes_of who (cond b (e ∷ history s past) (history s past)) ≡ notes_of who (history s past)
    by_source s true = h (history s past)
    by_source s false = refl

-- a note adds one of its actor
noted_one : (m : Machine) (e : Entry) (past : List Entry) (who : Actor) (t : ℕ) (call : SourceCall) → class_of e.kind ≡ Notes t call → nat_le t (length m.sources) ≡ true
    → made (length m.sources + 1) (λ s. history s (e ∷ past)) who ≡ one_more (is_same e.actor who) (made (length m.sources + 1) (λ s. history s past) who)
noted_one m e past who t call part there =
    let within : t < length m.sources + 1 = grind (arith, nat_tests) in
    let same : (t == t) ≡ true = grind (arith, nat_tests) in
    more_made (length m.sources + 1) t (is_same e.actor who) (λ s. history s (e ∷ past)) (λ s. history s past) who within
    (ap (notes_of who) (history_own t e past (ap (is_of t) part ∙ same)) ∙ ap (λ p. one_more (is_note_of who e p) (notes_of who (history t past))) part)
    (λ s apart. ap (notes_of who) (history_other s e past (ap (is_of s) part ∙ apart)))

-- ---- one actor

-- the room on source s for an actor's notes
abbrev pub noted_by : ℕ → Actor → List Entry → ℕ
noted_by s who [] = 0
noted_by s who (e ∷ past) = when (is_same e.actor who) (kind_places s e.kind) + noted_by s who past

-- an actor has made so many of its calls, whose room is that
pub record Follows (s : ℕ) (made : ℕ) (calls : List Kind) (places : ℕ) : Type 0 where
  pub within : made ≤ length calls
  pub are : places ≡ front s made calls

follows_more : (s made : ℕ) (calls more : List Kind) (places : ℕ) → Follows s made calls places → Follows s made (calls ++ more) places
follows_more s made calls more places h = record {
  within = omega (arith, h.within, length-append calls more);
  are = h.are ∙ sym (front_same s made calls more h.within);
}

-- the calls of an actor grow by an entry of the journal
follows_entry : (m : Machine) (s made places : ℕ) (who : Actor) (e : Entry) (past : List Entry) → Follows s made (calls_of m who past) places → Follows s made (calls_of m who (e ∷ past)) places
follows_entry m s made places who e past h = by_same (is_same e.actor who)
  where
    by_same : (b : Bool) → Follows s made (cond b (calls_of m who past ++ report_calls m (attempts past) e.kind ++ calls_after_turn m who (ends_turn e.kind) (turns_ended who past + 1)) (calls_of m who past)) places
    by_same true = follows_more s made (calls_of m who past ++ report_calls m (attempts past) e.kind) (calls_after_turn m who (ends_turn e.kind) (turns_ended who past + 1)) places
        (follows_more s made (calls_of m who past) (report_calls m (attempts past) e.kind) places h)
    by_same false = h

-- an actor's calls that were made, among those that the journal asks for
abbrev pub Made : Machine → ℕ → Actor → List Entry → Type 0
Made m s who past = Follows s (made (length m.sources + 1) (λ t. history t past) who) (calls_of m who (journal past)) (noted_by s who past)

-- its own note is the next of its calls
own_note : (m : Machine) (s : ℕ) (e : Entry) (past : List Entry) (who : Actor) (t : ℕ) (call : SourceCall) → class_of e.kind ≡ Notes t call → nat_le t (length m.sources) ≡ true
    → (is_same e.actor who ≡ true → slice_get (calls_of m who (journal past)) (made (length m.sources + 1) (λ t. history t past) who) ≡ Some e.kind)
    → Made m s who past → Follows s (made (length m.sources + 1) (λ t. history t (e ∷ past)) who) (calls_of m who (journal past)) (noted_by s who (e ∷ past))
own_note m s e past who t call part there next h = by_same (is_same e.actor who) refl
  where
    by_same : (b : Bool) → is_same e.actor who ≡ b → Follows s (made (length m.sources + 1) (λ t. history t (e ∷ past)) who) (calls_of m who (journal past)) (noted_by s who (e ∷ past))
    by_same true same =
        let more = front_more s (made (length m.sources + 1) (λ t. history t past) who) (calls_of m who (journal past)) e.kind (next same) in
        let one : made (length m.sources + 1) (λ t. history t (e ∷ past)) who ≡ suc (made (length m.sources + 1) (λ t. history t past) who) =
        noted_one m e past who t call part there ∙ (ap (λ b. one_more b (made (length m.sources + 1) (λ t. history t past) who)) same ∙ omega arith) in
        let weighs : noted_by s who (e ∷ past) ≡ kind_places s e.kind + noted_by s who past = ap (λ b. when b (kind_places s e.kind) + noted_by s who past) same in
        record { within = omega (arith, more.1, one); are = weighs ∙ (omega (arith, more.0, h.are) ∙ ap (λ k. front s k (calls_of m who (journal past))) (sym one)) }
    by_same false other =
        let none : made (length m.sources + 1) (λ t. history t (e ∷ past)) who ≡ made (length m.sources + 1) (λ t. history t past) who =
        noted_one m e past who t call part there ∙ ap (λ b. one_more b (made (length m.sources + 1) (λ t. history t past) who)) other in
        let weighs : noted_by s who (e ∷ past) ≡ noted_by s who past = ap (λ b. when b (kind_places s e.kind) + noted_by s who past) other ∙ omega arith in
        record { within = omega (arith, none, h.within); are = weighs ∙ (h.are ∙ ap (λ k. front s k (calls_of m who (journal past))) (sym none)) }

-- ---- an entry

next_of : (m : Machine) (past : List Entry) (of : ℕ → List Entry) (a who : Actor) (k : Kind) → is_same a who ≡ true → is_timer who ≡ false → IsOwnCall m past of a k
    → slice_get (calls_of m who past) (made (length m.sources + 1) of who) ≡ Some k
next_of m past of (actor.Script i) (actor.Script j) k e n h = let same : i ≡ j = grind (arith, nat_tests) in subst (λ (x : ℕ). slice_get (calls_of m (actor.Script x) past) (made (length m.sources + 1) of (actor.Script x)) ≡ Some k) same h
next_of m past of actor.Auto actor.Auto k e n h = h
next_of m past of (actor.Dev i) (actor.Dev j) k e n h = let same : i ≡ j = grind (arith, nat_tests) in subst (λ (x : ℕ). slice_get (calls_of m (actor.Dev x) past) (made (length m.sources + 1) of (actor.Dev x)) ≡ Some k) same h
next_of m past of actor.Time actor.Time k e n h = h
next_of m past of a (actor.Timer t) k e n h = absurd (true≢false n)
next_of m past of _ _ k e n h = absurd (true≢false (sym e))

-- an entry that is no note
outside : (m : Machine) (s : ℕ) (e : Entry) (past : List Entry) (who : Actor) → ((past : List Entry) → notes_of who (e ∷ past) ≡ notes_of who past) → kind_places s e.kind ≡ 0
    → (calls : List Kind) → Follows s (made (length m.sources + 1) (λ t. history t past) who) calls (noted_by s who past)
    → Follows s (made (length m.sources + 1) (λ t. history t (e ∷ past)) who) calls (noted_by s who (e ∷ past))
outside m s e past who n w calls h =
    let same = not_noted m e past who n in
    let none : noted_by s who (e ∷ past) ≡ noted_by s who past = ap (λ k. when (is_same e.actor who) k + noted_by s who past) w ∙ by_same (is_same e.actor who) in
    record { within = omega (arith, same, h.within); are = none ∙ (h.are ∙ ap (λ k. front s k calls) (sym same)) }
  where
    by_same : (b : Bool) → when b 0 + noted_by s who past ≡ noted_by s who past
    by_same true = omega arith
    by_same false = omega arith

no_note : (who : Actor) (e : Entry) (part : EntryClass) → class_of e.kind ≡ part → is_note_of who e part ≡ false → (past : List Entry) → notes_of who (e ∷ past) ≡ notes_of who past
no_note who e part p n past = ap (λ b. one_more (is_note_of who e b) (notes_of who past)) p ∙ ap (λ b. one_more b (notes_of who past)) n

journal_more : (e : Entry) (past : List Entry) → is_in_journal (class_of e.kind) ≡ true → journal (e ∷ past) ≡ e ∷ journal past
journal_more e past h = ap (λ b. cond b (e ∷ journal past) (journal past)) h

journal_same : (e : Entry) (past : List Entry) → is_in_journal (class_of e.kind) ≡ false → journal (e ∷ past) ≡ journal past
journal_same e past h = ap (λ b. cond b (e ∷ journal past) (journal past)) h

by_part : (m : Machine) (s : ℕ) (e : Entry) (past : List Entry) (who : Actor) → is_timer who ≡ false → (part : EntryClass) → class_of e.kind ≡ part → JointStep m past e part → is_there m part ≡ true
    → Made m s who past → Made m s who (e ∷ past)
by_part m s e past who n (Notes t call) p h there k =
    subst (λ (xs : List Entry). Follows s (made (length m.sources + 1) (λ t. history t (e ∷ past)) who) (calls_of m who xs) (noted_by s who (e ∷ past))) (sym (journal_same e past (ap is_in_journal p)))
    (own_note m s e past who t call p there (λ same. next_of m (journal past) (λ t. history t past) e.actor who e.kind same n h.0) k)
by_part m s e past who n (Moves t step) p h there k =
    subst (λ (xs : List Entry). Follows s (made (length m.sources + 1) (λ t. history t (e ∷ past)) who) (calls_of m who xs) (noted_by s who (e ∷ past))) (sym (journal_same e past (ap is_in_journal p)))
    (outside m s e past who (no_note who e (Moves t step) p refl) (ap (part_places s) p) (calls_of m who (journal past)) k)
by_part m s e past who n OfJournal p h there k =
    subst (λ (xs : List Entry). Follows s (made (length m.sources + 1) (λ t. history t (e ∷ past)) who) (calls_of m who xs) (noted_by s who (e ∷ past))) (sym (journal_more e past (ap is_in_journal p)))
    (outside m s e past who (no_note who e OfJournal p refl) (ap (part_places s) p) (calls_of m who (e ∷ journal past))
    (follows_entry m s (made (length m.sources + 1) (λ t. history t past) who) (noted_by s who past) who e (journal past) k))
by_part m s e past who n OfTime p h there k =
    subst (λ (xs : List Entry). Follows s (made (length m.sources + 1) (λ t. history t (e ∷ past)) who) (calls_of m who xs) (noted_by s who (e ∷ past))) (sym (journal_more e past (ap is_in_journal p)))
    (outside m s e past who (no_note who e OfTime p refl) (ap (part_places s) p) (calls_of m who (e ∷ journal past))
    (follows_entry m s (made (length m.sources + 1) (λ t. history t past) who) (noted_by s who past) who e (journal past) k))

made_none : (n : ℕ) (who : Actor) → made n (λ t. []) who ≡ 0
made_none zero who = refl
made_none (suc n) who = omega (arith, made_none n who)

and_first : (a b : Bool) → (a && b) ≡ true → a ≡ true
and_first true b h = refl
and_first false b h = h

and_second : (a b : Bool) → (a && b) ≡ true → b ≡ true
and_second true b h = h
and_second false b h = absurd (true≢false (sym h))

follows : (m : Machine) (s : ℕ) (past : List Entry) (who : Actor) → is_timer who ≡ false → JointPart m past → list_all (λ e. is_there m (class_of e.kind)) past ≡ true → Made m s who past
follows m s [] who n h there = record { within = omega (arith, made_none (length m.sources + 1) who); are = sym (ap (λ k. front s k (calls_of m who [])) (made_none (length m.sources + 1) who)) }
follows m s (e ∷ past) who n h there =
    by_part m s e past who n (class_of e.kind) refl h.0 (and_first (is_there m (class_of e.kind)) (list_all (λ e. is_there m (class_of e.kind)) past) there)
    (follows m s past who n h.1 (and_second (is_there m (class_of e.kind)) (list_all (λ e. is_there m (class_of e.kind)) past) there))

-- an actor's notes weigh no more than its calls
pub notes_within : (m : Machine) (s : ℕ) (past : List Entry) (who : Actor) → is_timer who ≡ false → JointPart m past → list_all (λ e. is_there m (class_of e.kind)) past ≡ true → noted_by s who past ≤ weigh s (calls_of m who (journal past))
notes_within m s past who n h there =
    let f = follows m s past who n h there in
    omega (arith, f.are, front_within s (made (length m.sources + 1) (λ t. history t past) who) (calls_of m who (journal past)))

-- ---- all actors

-- a timer's notes are expiries, which have room already
timer_free : (m : Machine) (s : ℕ) (e : Entry) (past : List Entry) (part : EntryClass) → class_of e.kind ≡ part → is_timer e.actor ≡ true → JointStep m past e part → kind_places s e.kind ≡ 0
timer_free m s e past (Moves t step) p i h = ap (part_places s) p
timer_free m s e past OfJournal p i h = ap (part_places s) p
timer_free m s e past OfTime p i h = ap (part_places s) p
timer_free m s e past (Notes t call) p i h = by_actor e.actor i h.0
  where
    free : (b : Bool) → ◌≡◌ {A = ℕ} (cond b 0 0) 0
    free true = refl
    free false = refl

    by_actor : (a : Actor) → is_timer a ≡ true → IsOwnCall m (journal past) (λ t. history t past) a e.kind → kind_places s e.kind ≡ 0
    by_actor (actor.Timer x) i h = ap (kind_places s) h ∙ free (x == s)
    by_actor _ i h = absurd (true≢false (sym i))

-- the notes are those of all actors
pub noted_all : (m : Machine) (s n : ℕ) (past : List Entry) → AllBelow n past → JointPart m past → noted s past ≤ over_all n (λ a. noted_by s a past)
noted_all m s n [] l h = omega arith
noted_all m s n (e ∷ past) l h =
    omega (arith, noted_all m s n past l.1 h.1, over_both n (λ a. when (is_same e.actor a) (kind_places s e.kind)) (λ a. noted_by s a past), by_timer (is_timer e.actor) refl)
  where
    by_timer : (b : Bool) → is_timer e.actor ≡ b → kind_places s e.kind ≤ over_all n (λ a. when (is_same e.actor a) (kind_places s e.kind))
    by_timer true i = omega (arith, timer_free m s e past (class_of e.kind) refl i h.0)
    by_timer false i = over_one n e.actor (kind_places s e.kind) i l.0
