-- What an actor has done among all entries is what it has done among its own.
use Rattle.std.proofs.Common.{◌≡◌, ◌∙◌, ◌≤◌, ◌+◌, ◌==◌, ◌++◌, ◌&&◌, ◌||◌, ℕ, zero, suc, nat_le, nat_lt, Bool, true, false, List, [], ◌∷◌, length, filter, cond, refl, sym, ap, ap₂, subst, arith}
use Rattle.std.proofs.lemmas.Bool.Decides.{nat_tests}
use Rattle.std.specs.List.{list_all}
use Rattle.sleep_model.specs.declared.entry.Actor.{Actor}
use Rattle.sleep_model.specs.declared.entry.Actor.TheVariants as actor
use Rattle.sleep_model.specs.declared.entry.Entry.{Entry}
use Rattle.sleep_model.specs.declared.machine.Machine.{Machine}
use Rattle.sleep_model.specs.declared.machine.SourceCall.{SourceCall}
use Rattle.sleep_model.specs.declared.machine.SourceCall.TheVariants as call
use Rattle.sleep_model.specs.declared.word.WordKind.{WordKind}
use Rattle.sleep_model.specs.Calls.{calls_of, is_calling, is_left, is_note_of, made, notes_of, one_more, ends_turn, report_calls, turns_ended}
use Rattle.sleep_model.specs.Calls as calls
use Rattle.sleep_model.specs.Legal.{last_is_of, is_there}
use Rattle.sleep_model.specs.EntryClasses.{EntryClass, OfJournal, Notes, Moves, OfTime, class_of, is_in_journal, journal}
use Rattle.sleep_model.specs.Path.{is_actor, is_same, attempts}
use Rattle.sleep_model.specs.Sources.{SourceStep, steps_after_first, caller, caller_after, history, is_of, owed, owed_after, since}
use Rattle.run_laws.specs.Apart.{IsSource, calls_after, history_after, is_inside, own_of}
use Rattle.run_laws.proofs.Lists.{all_head, all_tail}
use Rattle.run_laws.proofs.Sourced.{same_number}

-- an actor is itself
pub same_actor : (who : Actor) → is_same who who ≡ true
same_actor (actor.Script i) = same_number i
same_actor actor.Auto = refl
same_actor (actor.Dev d) = same_number d
same_actor (actor.Timer s) = same_number s
same_actor actor.Time = refl

-- filters may be exchanged
pub filter_twice : {A : Type 0} (p q : A → Bool) (xs : List A) → filter p (filter q xs) ≡ filter q (filter p xs)
filter_twice p q [] = refl
filter_twice {A} p q (x ∷ xs) = by (p x) refl (q x) refl (filter_twice p q xs)
  where
    by : (a : Bool) → p x ≡ a → (b : Bool) → q x ≡ b → filter p (filter q xs) ≡ filter q (filter p xs)
        → filter p (cond b (x ∷ filter q xs) (filter q xs)) ≡ filter q (cond a (x ∷ filter p xs) (filter p xs))
    by true pa true qb e = rw (pa, qb) (ap (λ (l : List A). x ∷ l) e)
    by true pa false qb e = rw qb e
    by false pa true qb e = rw pa e
    by false pa false qb e = e

-- ---- the calls that were made

-- an actor's entry is a note on one of the first n sources
abbrev counts : ℕ → Actor → Entry → EntryClass → Bool
counts n who e (Notes t c) = nat_lt t n && is_same e.actor who
counts n who e _ = false

made_none : (n : ℕ) (who : Actor) → made n (λ s. history s []) who ≡ 0
made_none zero who = refl
made_none (suc n) who = omega (arith, made_none n who)

more_left : (b c : Bool) (x y z : ℕ) → y ≡ one_more b z → one_more c x + y ≡ one_more c (one_more b (x + z))
more_left true true x y z e = omega (arith, e)
more_left true false x y z e = omega (arith, e)
more_left false true x y z e = omega (arith, e)
more_left false false x y z e = omega (arith, e)

made_step : (n : ℕ) (e : Entry) (past : List Entry) (who : Actor) → made n (λ s. history s (e ∷ past)) who ≡ one_more (counts n who e (class_of e.kind)) (made n (λ s. history s past) who)
made_step zero e past who = by (class_of e.kind)
  where
    by : (p : EntryClass) → 0 ≡ one_more (counts 0 who e p) 0
    by OfJournal = refl
    by (Notes t c) = let none : nat_lt t 0 ≡ false = grind (arith, nat_tests) in sym (ap (λ (b : Bool). one_more (b && is_same e.actor who) 0) none)
    by (Moves t x) = refl
    by OfTime = refl
made_step (suc n) e past who = by (class_of e.kind) refl (made_step n e past who)
  where
    by : (p : EntryClass) → class_of e.kind ≡ p → made n (λ s. history s (e ∷ past)) who ≡ one_more (counts n who e p) (made n (λ s. history s past) who)
        → notes_of who (cond (is_of n p) (e ∷ history n past) (history n past)) + made n (λ s. history s (e ∷ past)) who
        ≡ one_more (counts (suc n) who e p) (notes_of who (history n past) + made n (λ s. history s past) who)
    by OfJournal is rest = ap (λ (k : ℕ). notes_of who (history n past) + k) rest
    by (Notes t c) is rest = last (t == n) refl
      where
        last : (b : Bool) → (t == n) ≡ b
            → notes_of who (cond b (e ∷ history n past) (history n past)) + made n (λ s. history s (e ∷ past)) who
            ≡ one_more (counts (suc n) who e (Notes t c)) (notes_of who (history n past) + made n (λ s. history s past) who)
        last true same =
            let now : nat_lt t (suc n) ≡ true = grind (arith, nat_tests) in
            let then' : nat_lt t n ≡ false = grind (arith, nat_tests) in
            let less : made n (λ s. history s (e ∷ past)) who ≡ made n (λ s. history s past) who = rest ∙ ap (λ (b : Bool). one_more (b && is_same e.actor who) (made n (λ s. history s past) who)) then' in
            ap₂ (λ (x y : ℕ). x + y) (ap (λ (q : EntryClass). one_more (is_note_of who e q) (notes_of who (history n past))) is) less
            ∙ more_left false (is_same e.actor who) (notes_of who (history n past)) (made n (λ s. history s past) who) (made n (λ s. history s past) who) refl
            ∙ ap (λ (b : Bool). one_more (b && is_same e.actor who) (notes_of who (history n past) + made n (λ s. history s past) who)) (sym now)
        last false other =
            let same : nat_lt t (suc n) ≡ nat_lt t n = grind (arith, nat_tests) in
            more_left (nat_lt t n && is_same e.actor who) false (notes_of who (history n past)) (made n (λ s. history s (e ∷ past)) who) (made n (λ s. history s past) who) rest
            ∙ ap (λ (b : Bool). one_more (b && is_same e.actor who) (notes_of who (history n past) + made n (λ s. history s past) who)) (sym same)
    by (Moves t x) is rest = moved (is_of n (Moves t x))
      where
        moved : (b : Bool) → notes_of who (cond b (e ∷ history n past) (history n past)) + made n (λ s. history s (e ∷ past)) who ≡ notes_of who (history n past) + made n (λ s. history s past) who
        moved true = ap₂ (λ (x y : ℕ). x + y) (ap (λ (q : EntryClass). one_more (is_note_of who e q) (notes_of who (history n past))) is) rest
        moved false = ap (λ (k : ℕ). notes_of who (history n past) + k) rest
    by OfTime is rest = ap (λ (k : ℕ). notes_of who (history n past) + k) rest

counts_all : (m : Machine) (who : Actor) (e : Entry) (p : EntryClass) → is_there m p ≡ true → counts (length m.sources + 1) who e p ≡ is_note_of who e p
counts_all m who e OfJournal h = refl
counts_all m who e (Notes t c) h =
    let within : nat_lt t (length m.sources + 1) ≡ true = grind (arith, nat_tests) in
    ap (λ (b : Bool). b && is_same e.actor who) within
counts_all m who e (Moves t x) h = refl
counts_all m who e OfTime h = refl

-- the calls that an actor has made are its notes
made_notes : (m : Machine) (who : Actor) (past : List Entry) → list_all (λ e. is_there m (class_of e.kind)) past ≡ true
    → made (length m.sources + 1) (λ s. history s past) who ≡ notes_of who past
made_notes m who [] h = made_none (length m.sources + 1) who
made_notes m who (e ∷ past) h =
    made_step (length m.sources + 1) e past who
    ∙ ap₂ one_more (counts_all m who e (class_of e.kind) (all_head (λ e. is_there m (class_of e.kind)) e past h))
    (made_notes m who past (all_tail (λ e. is_there m (class_of e.kind)) e past h))

note_of_other : (who : Actor) (e : Entry) (p : EntryClass) → is_same e.actor who ≡ false → is_note_of who e p ≡ false
note_of_other who e OfJournal h = refl
note_of_other who e (Notes t c) h = h
note_of_other who e (Moves t x) h = refl
note_of_other who e OfTime h = refl

notes_own : (who : Actor) (past : List Entry) → notes_of who past ≡ notes_of who (own_of who past)
notes_own who [] = refl
notes_own who (e ∷ past) = by (is_same e.actor who) refl (notes_own who past)
  where
    by : (b : Bool) → is_same e.actor who ≡ b → notes_of who past ≡ notes_of who (own_of who past)
        → one_more (is_note_of who e (class_of e.kind)) (notes_of who past) ≡ notes_of who (cond b (e ∷ own_of who past) (own_of who past))
    by true is rest = ap (one_more (is_note_of who e (class_of e.kind))) rest
    by false is rest = ap (λ (b : Bool). one_more b (notes_of who past)) (note_of_other who e (class_of e.kind) is) ∙ rest

pub made_own : (m : Machine) (who : Actor) (past : List Entry) → list_all (λ e. is_there m (class_of e.kind)) past ≡ true
    → made (length m.sources + 1) (λ s. history s past) who ≡ notes_of who (own_of who past)
made_own m who past h = made_notes m who past h ∙ notes_own who past

-- an actor's last entry is the last of its own
pub after_own : (s : ℕ) (who : Actor) (past : List Entry) → last_is_of s who past ≡ last_is_of s who (own_of who past)
after_own s who [] = refl
after_own s who (e ∷ past) = by (is_same e.actor who) refl (after_own s who past)
  where
    by : (b : Bool) → is_same e.actor who ≡ b → last_is_of s who past ≡ last_is_of s who (own_of who past)
        → cond b (is_of s (class_of e.kind)) (last_is_of s who past) ≡ last_is_of s who (cond b (e ∷ own_of who past) (own_of who past))
    by true is rest = rw is refl
    by false is rest = rest

-- ---- the calls that are due

pub calls_top : (m : Machine) (who : Actor) (k : ℕ) (past : List Entry) → length (own_of who past) ≤ k → calls_after m who k past ≡ calls_of m who past
calls_top m who k [] l = refl
calls_top m who k (e ∷ past) l =
    let here : nat_le (length (own_of who (e ∷ past))) k ≡ true = grind (arith, nat_tests) in
    ap (λ (b : Bool). cond b (calls_of m who (e ∷ past)) (calls_after m who k past)) here

-- a further entry of the journal leaves the calls after those before it
pub calls_earlier : (m : Machine) (who : Actor) (k : ℕ) (e : Entry) (past : List Entry) → k ≤ length (own_of who past) → calls_after m who k (e ∷ past) ≡ calls_after m who k past
calls_earlier m who k e past l = by (is_same e.actor who) refl (nat_le (length (own_of who (e ∷ past))) k) refl
  where
    by : (a : Bool) → is_same e.actor who ≡ a → (b : Bool) → nat_le (length (own_of who (e ∷ past))) k ≡ b
        → cond b (calls_of m who (e ∷ past)) (calls_after m who k past) ≡ calls_after m who k past
    by a is false g = refl
    by true is true g =
        let longer : length (own_of who (e ∷ past)) ≡ suc (length (own_of who past)) = ap (λ (b : Bool). length (cond b (e ∷ own_of who past) (own_of who past))) is in
        let within : length (own_of who (e ∷ past)) ≤ k = grind (arith, nat_tests) in
        absurd (omega arith)
    by false is true g =
        let same : length (own_of who (e ∷ past)) ≡ length (own_of who past) = ap (λ (b : Bool). length (cond b (e ∷ own_of who past) (own_of who past))) is in
        let within : length (own_of who (e ∷ past)) ≤ k = grind (arith, nat_tests) in
        ap (λ (b : Bool). cond b (calls_of m who past ++ report_calls m (attempts past) e.kind ++ calls.calls_after_turn m who (ends_turn e.kind) (turns_ended who past + 1)) (calls_of m who past)) is
        ∙ sym (calls_top m who k past (omega arith))

-- the calls of a whole journal are, after each of its beginnings, those of that beginning
abbrev pub CallsPreserved : Machine → List Entry → List Entry → Type 0
CallsPreserved m whole past = (who : Actor) (k : ℕ) → k ≤ length (own_of who (journal past)) → calls_after m who k whole ≡ calls_after m who k (journal past)

pub calls_preserved : (m : Machine) (whole : List Entry) (e : Entry) (past : List Entry) → CallsPreserved m whole (e ∷ past) → CallsPreserved m whole past
calls_preserved m whole e past h who k l = by (is_in_journal (class_of e.kind)) refl
  where
    by : (b : Bool) → is_in_journal (class_of e.kind) ≡ b → calls_after m who k whole ≡ calls_after m who k (journal past)
    by true is =
        let more : journal (e ∷ past) ≡ e ∷ journal past = ap (λ (b : Bool). cond b (e ∷ journal past) (journal past)) is in
        h who k (subst (λ (j : List Entry). k ≤ length (own_of who j)) (sym more) (grown (is_same e.actor who)))
        ∙ ap (calls_after m who k) more ∙ calls_earlier m who k e (journal past) l
      where
        grown : (b : Bool) → k ≤ length (cond b (e ∷ own_of who (journal past)) (own_of who (journal past)))
        grown true = omega (arith, l)
        grown false = l
    by false is =
        let same : journal (e ∷ past) ≡ journal past = ap (λ (b : Bool). cond b (e ∷ journal past) (journal past)) is in
        h who k (subst (λ (j : List Entry). k ≤ length (own_of who j)) (sym same) l) ∙ ap (calls_after m who k) same

-- the calls that are due at a point, by an actor's own entries before it
pub calls_own : (m : Machine) (whole past : List Entry) (who : Actor) → CallsPreserved m whole past → calls_after m who (length (journal (own_of who past))) whole ≡ calls_of m who (journal past)
calls_own m whole past who h =
    let same : length (journal (own_of who past)) ≡ length (own_of who (journal past)) = ap length (filter_twice (λ (e : Entry). is_in_journal (class_of e.kind)) (λ e. is_same e.actor who) past) in
    h who (length (journal (own_of who past))) (omega arith) ∙ calls_top m who (length (journal (own_of who past))) (journal past) (omega arith)

-- ---- the call that an actor is inside

-- a source with this history is owed a step of that actor
abbrev pub calls_in : Actor → List Entry → Bool
calls_in who own = is_left (owed own) && is_actor who (caller own)

none_left : (b : Bool) (steps : List WordKind) → steps ≡ [] → (is_left steps && b) ≡ false
none_left b steps e = ap (λ (l : List WordKind). is_left l && b) e

not_its : (b c : Bool) → c ≡ false → (b && c) ≡ false
not_its true c e = e
not_its false c e = refl

-- an entry of another neither begins nor ends a call of the actor
pub other_calls : (who : Actor) (own : List Entry) (x : Entry) → SourceStep own x.time x.actor (class_of x.kind) → is_same x.actor who ≡ false → calls_in who (x ∷ own) ≡ calls_in who own
other_calls who own x may other = by (class_of x.kind) may
  where
    noted : (t : ℕ) (c : SourceCall) → owed own ≡ [] → (is_left (owed_after (Notes t c) (since own) (owed own)) && is_actor who (caller_after (Notes t c) x.actor (caller own))) ≡ calls_in who own
    noted t c none = not_its (is_left (owed_after (Notes t c) (since own) (owed own))) (is_same x.actor who) other ∙ sym (none_left (is_actor who (caller own)) (owed own) none)

    by : (p : EntryClass) → SourceStep own x.time x.actor p → (is_left (owed_after p (since own) (owed own)) && is_actor who (caller_after p x.actor (caller own))) ≡ calls_in who own
    by OfJournal h = refl
    by (Notes t call.Awake) h = noted t call.Awake h
    by (Notes t call.Relax) h = noted t call.Relax h
    by (Notes t (call.Event ms hard)) h = noted t (call.Event ms hard) h
    by (Notes t call.Expire) h = noted t call.Expire h.0
    by (Moves t step) h =
        let its : is_actor who (caller own) ≡ false = ap (is_actor who) h.1 ∙ other in
        not_its (is_left (steps_after_first (owed own))) (is_actor who (caller own)) its ∙ sym (not_its (is_left (owed own)) (is_actor who (caller own)) its)
    by OfTime h = refl

pub history_top : (who : Actor) (k : ℕ) (own : List Entry) → length (own_of who own) ≤ k → history_after who k own ≡ own
history_top who k [] l = refl
history_top who k (e ∷ own) l =
    let here : nat_le (length (own_of who (e ∷ own))) k ≡ true = grind (arith, nat_tests) in
    ap (λ (b : Bool). cond b (e ∷ own) (history_after who k own)) here

-- a further entry of a source leaves what its actors called after those before it
pub history_earlier : (who : Actor) (k : ℕ) (e : Entry) (own : List Entry) → SourceStep own e.time e.actor (class_of e.kind) → k ≤ length (own_of who own)
    → calls_in who (history_after who k (e ∷ own)) ≡ calls_in who (history_after who k own)
history_earlier who k e own may l = by (is_same e.actor who) refl (nat_le (length (own_of who (e ∷ own))) k) refl
  where
    by : (a : Bool) → is_same e.actor who ≡ a → (b : Bool) → nat_le (length (own_of who (e ∷ own))) k ≡ b
        → calls_in who (cond b (e ∷ own) (history_after who k own)) ≡ calls_in who (history_after who k own)
    by a is false g = refl
    by true is true g =
        let longer : length (own_of who (e ∷ own)) ≡ suc (length (own_of who own)) = ap (λ (b : Bool). length (cond b (e ∷ own_of who own) (own_of who own))) is in
        let within : length (own_of who (e ∷ own)) ≤ k = grind (arith, nat_tests) in
        absurd (omega arith)
    by false is true g =
        let same : length (own_of who (e ∷ own)) ≡ length (own_of who own) = ap (λ (b : Bool). length (cond b (e ∷ own_of who own) (own_of who own))) is in
        let within : length (own_of who (e ∷ own)) ≤ k = grind (arith, nat_tests) in
        other_calls who own e may is ∙ sym (ap (calls_in who) (history_top who k own (omega arith)))

-- of whole histories each actor has called, after each of their beginnings, what it has of that beginning
abbrev pub InsidePreserved : List Entry → List Entry → Type 0
InsidePreserved whole past = (who : Actor) (s k : ℕ) → k ≤ length (own_of who (history s past)) → calls_in who (history_after who k (history s whole)) ≡ calls_in who (history_after who k (history s past))

pub inside_preserved : (whole : List Entry) (e : Entry) (past : List Entry) → ((s : ℕ) → IsSource (history s (e ∷ past))) → InsidePreserved whole (e ∷ past) → InsidePreserved whole past
inside_preserved whole e past legal h who s k l = by (is_of s (class_of e.kind)) refl
  where
    by : (b : Bool) → is_of s (class_of e.kind) ≡ b → calls_in who (history_after who k (history s whole)) ≡ calls_in who (history_after who k (history s past))
    by true is =
        let more : history s (e ∷ past) ≡ e ∷ history s past = ap (λ (b : Bool). cond b (e ∷ history s past) (history s past)) is in
        let steps : IsSource (e ∷ history s past) = subst IsSource more (legal s) in
        h who s k (subst (λ (j : List Entry). k ≤ length (own_of who j)) (sym more) (grown (is_same e.actor who)))
        ∙ ap (λ (j : List Entry). calls_in who (history_after who k j)) more ∙ history_earlier who k e (history s past) steps.0 l
      where
        grown : (b : Bool) → k ≤ length (cond b (e ∷ own_of who (history s past)) (own_of who (history s past)))
        grown true = omega (arith, l)
        grown false = l
    by false is =
        let same : history s (e ∷ past) ≡ history s past = ap (λ (b : Bool). cond b (e ∷ history s past) (history s past)) is in
        h who s k (subst (λ (j : List Entry). k ≤ length (own_of who j)) (sym same) l) ∙ ap (λ (j : List Entry). calls_in who (history_after who k j)) same

pub same_calling : (n : ℕ) (of other : ℕ → List Entry) (who : Actor) → ((s : ℕ) → calls_in who (of s) ≡ calls_in who (other s)) → is_calling n of who ≡ is_calling n other who
same_calling zero of other who h = refl
same_calling (suc n) of other who h = ap₂ (λ (a b : Bool). a || b) (h n) (same_calling n of other who h)

-- whether an actor is inside a call at a point, by its own entries before it
pub inside_own : (n : ℕ) (whole past : List Entry) (who : Actor) → InsidePreserved whole past → is_inside n (λ s. history s whole) who (own_of who past) ≡ is_calling n (λ s. history s past) who
inside_own n whole past who h =
    same_calling n (λ s. history_after who (length (history s (own_of who past))) (history s whole)) (λ s. history s past) who (λ s. at s)
  where
    at : (s : ℕ) → calls_in who (history_after who (length (history s (own_of who past))) (history s whole)) ≡ calls_in who (history s past)
    at s =
        let same : length (history s (own_of who past)) ≡ length (own_of who (history s past)) = ap length (filter_twice (λ (e : Entry). is_of s (class_of e.kind)) (λ e. is_same e.actor who) past) in
        h who s (length (history s (own_of who past))) (omega arith) ∙ ap (calls_in who) (history_top who (length (history s (own_of who past))) (history s past) (omega arith))
