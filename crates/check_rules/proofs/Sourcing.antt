-- The account of sources is what the rules ask of their histories.
use Rattle.std.proofs.Common.{◌≡◌, ◌<◌, ◌+◌, ◌==◌, ◌&&◌, ◌||◌, ◌∙◌, ℕ, zero, suc, Bool, true, false, not, cond, IsTrue, ◌↔◌, List, [], ◌∷◌, length, Option, Some, refl, ap, sym, subst, arith, add-one, nat_le, ⊎_elim}
use Rattle.std.specs.List.{list_all, range_with_len}
use Rattle.std.proofs.lemmas.Bool.{and_parts, cases_lt}
use Rattle.sleep_model.specs.declared.entry.Actor.{Actor}
use Rattle.sleep_model.specs.declared.entry.Actor.TheVariants as actor
use Rattle.sleep_model.specs.declared.entry.Entry.{Entry}
use Rattle.sleep_model.specs.declared.entry.Kind.{Kind}
use Rattle.sleep_model.specs.declared.entry.Kind.TheVariants as kind
use Rattle.sleep_model.specs.declared.machine.Machine.{Machine}
use Rattle.sleep_model.specs.declared.word.WordKind.{WordKind}
use Rattle.sleep_model.specs.Calls.{is_calling, is_left}
use Rattle.sleep_model.specs.Fits.{fits_actor, fits_entry, fits_kind, fits_word, is_word32, is_word64}
use Rattle.sleep_model.specs.Legal.{HistoriesFit, is_short, is_there}
use Rattle.sleep_model.specs.EntryClasses.{EntryClass, OfJournal, Notes, Moves, OfTime, class_of}
use Rattle.sleep_model.specs.Path.{is_actor, is_same}
use Rattle.rule_definitions.specs.Source.{CallEntry}
use Rattle.rule_definitions.specs.Steps.{is_inside}
use Rattle.sleep_model.specs.Sources.{IsNext, caller, history, is_of, most_entries, owed}
use Rattle.check_past.proofs.Answers.{no_history}
use Rattle.check_sources.proofs.Agreement.{flags}
use Rattle.check_sources.specs.declared.source.Source.{Source}
use Rattle.check_sources.specs.SourceStates.{source_in, source_of}
use Rattle.check_sources.specs.Owing.{steps_of}
use Rattle.check_rules.specs.Places.{are_short, with_own}

-- ---- what a source owes

pub left_of_source : (own : List Entry) (x : Source) (left : Bool) → x ≡ source_of own → left ≡ is_left (steps_of x.owes) → left ≡ is_left (owed own)
left_of_source own x left e l = l ∙ ap (λ (y : Source). is_left (steps_of y.owes)) e ∙ ap is_left (flags own)

none_left : (steps : List WordKind) (left : Bool) → left ≡ is_left steps → IsTrue (not left) ↔ (steps ≡ [])
none_left [] left e = (λ h. refl, λ h. ap not e)
none_left (s ∷ steps) left e = (λ h. absurd (cc), λ h. absurd (cc))

pub free_is : (own : List Entry) (x : Source) (left : Bool) → x ≡ source_of own → left ≡ is_left (steps_of x.owes) → IsTrue (not left) ↔ (owed own ≡ [])
free_is own x left e l = none_left (owed own) left (left_of_source own x left e l)

pub next_is : (own : List Entry) (x : Source) (step : WordKind) (next : Bool) → x ≡ source_of own → (IsTrue next ↔ IsNext step (steps_of x.owes)) → IsTrue next ↔ IsNext step (owed own)
next_is own x step next e h =
    subst (λ (steps : List WordKind). IsTrue next ↔ IsNext step steps) (flags own)
    (subst (λ (y : Source). IsTrue next ↔ IsNext step (steps_of y.owes)) e h)

pub inside_is : (own : List Entry) (x : Source) (who : Actor) → x ≡ source_of own → (is_left (steps_of x.owes) && is_actor who x.caller) ≡ is_inside own who
inside_is own x who e =
    ap (λ (y : Source). is_left (steps_of y.owes) && is_actor who y.caller) e
    ∙ ap (λ (steps : List WordKind). is_left steps && is_actor who (caller own)) (flags own)

-- ---- one source more

pub calling_next : (of : ℕ → List Entry) (who : Actor) (n : ℕ) (here before : Bool) → here ≡ is_inside (of n) who → before ≡ is_calling n of who → (here || before) ≡ is_calling (n + 1) of who
calling_next of who n here before e f = rw (add-one, e, f) refl

-- ---- the room of histories

both_true : (a b : Bool) → a ≡ true → b ≡ true → (a && b) ≡ true
both_true true b h g = g
both_true false b h g = absurd (cc)

and_swap : (a b c : Bool) → (a && (b && c)) ≡ (b && (a && c))
and_swap true b c = refl
and_swap false true c = refl
and_swap false false c = refl

all_of_more : (p : ℕ → Bool) (a k n : ℕ) → n ≡ a + k → list_all p (range_with_len a (suc k)) ≡ (p n && list_all p (range_with_len a k))
all_of_more p a zero n e = let same : n ≡ a = omega (arith, e) in rw same refl
all_of_more p a (suc k) n e =
    ap (λ b. p a && b) (all_of_more p (a + 1) k n (omega (arith, e)))
    ∙ and_swap (p a) (p n) (list_all p (range_with_len (a + 1) k))

all_short : (past : List Entry) (n : ℕ) → are_short past n ≡ list_all (is_short past) (range_with_len 0 n)
all_short past zero = refl
all_short past (suc n) = ap (λ b. is_short past n && b) (all_short past n) ∙ sym (all_of_more (is_short past) 0 n n (omega arith))

one_longer : (b : Bool) (e : Entry) (own : List Entry) → cond b (suc (length own)) (length own) ≡ length (cond b (e ∷ own) own)
one_longer true e own = refl
one_longer false e own = refl

own_len : (s : ℕ) (p : EntryClass) (e : Entry) (own : List Entry) → with_own (source_in p) s (length own) ≡ length (cond (is_of s p) (e ∷ own) own)
own_len s (Notes t made) e own = one_longer (t == s) e own
own_len s (Moves t step) e own = one_longer (t == s) e own
own_len s OfJournal e own = refl
own_len s OfTime e own = refl

pub short_next : (e : Entry) (past : List Entry) (s entries : ℕ) (own : Option ℕ) (place before : Bool) → own ≡ source_in (class_of e.kind) → entries ≡ length (history s past)
    → place ≡ nat_le (with_own own s entries) most_entries → before ≡ are_short (e ∷ past) s → (place && before) ≡ are_short (e ∷ past) (s + 1)
short_next e past s entries own place before o n p b =
    let here : place ≡ is_short (e ∷ past) s =
    p ∙ ap (λ (x : Option ℕ). nat_le (with_own x s entries) most_entries) o
    ∙ ap (λ k. nat_le (with_own (source_in (class_of e.kind)) s k) most_entries) n
    ∙ ap (λ k. nat_le k most_entries) (own_len s (class_of e.kind) e (history s past)) in
    rw (add-one, here, b) refl

there_of : (m : Machine) (k : Kind) → fits_kind m k ≡ true → is_there m (class_of k) ≡ true
there_of m (kind.Awake s) h = h
there_of m (kind.Relax s) h = h
there_of m (kind.Event s ms hard) h = (and_parts (nat_le s (length m.sources)) (is_word32 ms) h).0
there_of m (kind.Expire s) h = h
there_of m (kind.Start s) h = h
there_of m (kind.Finish s) h = h
there_of m (kind.Hard s) h = h
there_of m _ h = refl

there_at : (m : Machine) (e : Entry) → fits_entry m e ≡ true → is_there m (class_of e.kind) ≡ true
there_at m e h = there_of m e.kind (and_parts (is_word64 e.time && fits_word e.now && fits_actor m e.actor) (fits_kind m e.kind) h).1

all_there : (m : Machine) (xs : List Entry) → list_all (fits_entry m) xs ≡ true → list_all (λ (e : Entry). is_there m (class_of e.kind)) xs ≡ true
all_there m [] h = refl
all_there m (e ∷ xs) h =
    let p = and_parts (fits_entry m e) (list_all (fits_entry m) xs) h in
    both_true (is_there m (class_of e.kind)) (list_all (λ (x : Entry). is_there m (class_of x.kind)) xs) (there_at m e p.0) (all_there m xs p.1)

pub source_is : (m : Machine) (past : List Entry) (e : Entry) (call short : Bool) → fits_entry m e ≡ true → list_all (fits_entry m) past ≡ true
    → (IsTrue call ↔ CallEntry past e (class_of e.kind)) → short ≡ are_short (e ∷ past) (length m.sources + 1)
    → IsTrue (call && short) ↔ (CallEntry past e (class_of e.kind) × HistoriesFit m (e ∷ past))
source_is m past e call short fits all c s =
    let listed : short ≡ list_all (is_short (e ∷ past)) (range_with_len 0 (length m.sources + 1)) = s ∙ all_short (e ∷ past) (length m.sources + 1) in (
      λ (h : (call && short) ≡ true).
          let p = and_parts call short h in (
            c.0 p.0,
            record {
              there = all_there m (e ∷ past) (both_true (fits_entry m e) (list_all (fits_entry m) past) fits all);
              short = sym listed ∙ p.1;
            },
          ),
      λ (h : CallEntry past e (class_of e.kind) × HistoriesFit m (e ∷ past)). both_true call short (c.1 h.0) (listed ∙ h.1.short),
    )
