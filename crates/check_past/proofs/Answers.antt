-- Sources and calls, read at one index.
use Rattle.std.proofs.Common.{◌≡◌, ◌<◌, ◌≤◌, ◌+◌, ◌++◌, ◌&&◌, ◌==◌, ◌∙◌, ℕ, zero, suc, Bool, true, false, cond, List, [], ◌∷◌, length, refl, ap, sym, arith, reverse, take, slice_index_or, nat_le, ⊎_elim}
use Rattle.std.specs.List.{list_all}
use Rattle.std.proofs.lemmas.Bool.{cases_lt}
use Rattle.std.proofs.lemmas.Bool.Decides.{nat_tests}
use Rattle.std.proofs.lemmas.List.{reverse-append}
use Rattle.sleep_model.specs.declared.entry.Actor.{Actor}
use Rattle.sleep_model.specs.declared.entry.Entry.{Entry}
use Rattle.sleep_model.specs.declared.entry.Kind.{Kind}
use Rattle.sleep_model.specs.declared.entry.Kind.TheVariants as kind
use Rattle.sleep_model.specs.declared.machine.Machine.{Machine}
use Rattle.sleep_model.specs.Calls.{calls_of, made}
use Rattle.sleep_model.specs.Fits.{fits_actor, fits_entry, fits_kind, fits_word, is_word32, is_word64}
use Rattle.sleep_model.specs.EntryClasses.{journal, class_of}
use Rattle.sleep_model.specs.Sources.{history, is_of}
use Rattle.check_sources.specs.Calling.{CallsOf, calls_by, callers_of, made_at}
use Rattle.check_sources.proofs.Calling as calling
use Rattle.check_sources.specs.declared.source.Source.{Source}
use Rattle.check_sources.specs.SourceStates.{source_of, sources}
use Rattle.check_sources.proofs.Agreement as telling

-- ---- the entries that were passed name what the machine has

both : (a b : Bool) → (a && b) ≡ true → (a ≡ true) × (b ≡ true)
both true b e = (refl, e)
both false b e = absurd (cc)

all_taken : (f : Entry → Bool) (n : ℕ) (xs : List Entry) → list_all f xs ≡ true → list_all f (take n xs) ≡ true
all_taken f zero xs h = refl
all_taken f (suc n) [] h = refl
all_taken f (suc n) (x ∷ xs) h =
    let p = both (f x) (list_all f xs) h in
    ap (λ b. b && list_all f (take n xs)) p.0 ∙ all_taken f n xs p.1

all_joined : (f : Entry → Bool) (xs ys : List Entry) → list_all f xs ≡ true → list_all f ys ≡ true → list_all f (xs ++ ys) ≡ true
all_joined f [] ys h k = k
all_joined f (x ∷ xs) ys h k =
    let p = both (f x) (list_all f xs) h in
    ap (λ b. b && list_all f (xs ++ ys)) p.0 ∙ all_joined f xs ys p.1 k

all_reversed : (f : Entry → Bool) (xs : List Entry) → list_all f xs ≡ true → list_all f (reverse xs) ≡ true
all_reversed f [] h = refl
all_reversed f (x ∷ xs) h =
    let p = both (f x) (list_all f xs) h in
    let one : list_all f (x ∷ []) ≡ true = ap (λ b. b && true) p.0 in
    ap (list_all f) (reverse-append (x ∷ []) xs) ∙ all_joined f (reverse xs) (x ∷ []) (all_reversed f xs p.1) one

pub all_passed : (m : Machine) (n : ℕ) (xs : List Entry) → list_all (fits_entry m) xs ≡ true → list_all (fits_entry m) (reverse (take n xs)) ≡ true
all_passed m n xs h = all_reversed (fits_entry m) (take n xs) (all_taken (fits_entry m) n xs h)

-- ---- calls

pub made_is : (m : Machine) (past : List Entry) (who : Actor) (c : CallsOf) → c ≡ record { machine = m; state = callers_of m past } → list_all (fits_entry m) past ≡ true → fits_actor m who ≡ true
    → made_at c.machine c.state who ≡ made (length m.sources + 1) (λ s. history s past) who
made_is m past who c is all fits = ap (λ (x : CallsOf). made_at x.machine x.state who) is ∙ (calling.agree m past who all fits).made

pub calls_are : (m : Machine) (past : List Entry) (who : Actor) (c : CallsOf) → c ≡ record { machine = m; state = callers_of m past } → list_all (fits_entry m) past ≡ true → fits_actor m who ≡ true
    → calls_by c.machine c.state who ≡ calls_of m who (journal past)
calls_are m past who c is all fits = ap (λ (x : CallsOf). calls_by x.machine x.state who) is ∙ (calling.agree m past who all fits).calls

-- ---- sources

source_is : (n : ℕ) (past : List Entry) (s : ℕ) (past_state : List Source) → past_state ≡ sources n past → s < n → slice_index_or past_state s (source_of []) ≡ source_of (history s past)
source_is n past s past_state is fits = ap (λ xs. slice_index_or xs s (source_of [])) is ∙ telling.agree n past s fits

beyond : (xs : List Source) (s : ℕ) → length xs ≤ s → slice_index_or xs s (source_of []) ≡ source_of []
beyond [] s h = refl
beyond (x ∷ xs) zero h = absurd (omega (arith, h))
beyond (x ∷ xs) (suc s) h = beyond xs s (omega (arith, h))

other : (t s n : ℕ) → n + 1 ≤ s → nat_le t n ≡ true → (t == s) ≡ false
other t s n far h = grind (arith, nat_tests)

not_of : (m : Machine) (k : Kind) (s : ℕ) → length m.sources + 1 ≤ s → fits_kind m k ≡ true → is_of s (class_of k) ≡ false
not_of m (kind.Awake t) s far h = other t s (length m.sources) far h
not_of m (kind.Relax t) s far h = other t s (length m.sources) far h
not_of m (kind.Event t ms hard) s far h = other t s (length m.sources) far (both (nat_le t (length m.sources)) (is_word32 ms) h).0
not_of m (kind.Expire t) s far h = other t s (length m.sources) far h
not_of m (kind.Start t) s far h = other t s (length m.sources) far h
not_of m (kind.Finish t) s far h = other t s (length m.sources) far h
not_of m (kind.Hard t) s far h = other t s (length m.sources) far h
not_of m _ s far h = refl

left_out : (b : Bool) (e : Entry) (own : List Entry) → b ≡ false → own ≡ [] → cond b (e ∷ own) own ≡ []
left_out true e own h is = absurd (cc)
left_out false e own h is = is

pub no_history : (m : Machine) (past : List Entry) (s : ℕ) → length m.sources + 1 ≤ s → list_all (fits_entry m) past ≡ true → history s past ≡ []
no_history m [] s far h = refl
no_history m (e ∷ past) s far h =
    let p = both (fits_entry m e) (list_all (fits_entry m) past) h in
    let fits : fits_kind m e.kind ≡ true = (both (is_word64 e.time && fits_word e.now && fits_actor m e.actor) (fits_kind m e.kind) p.0).1 in
    left_out (is_of s (class_of e.kind)) e (history s past) (not_of m e.kind s far fits) (no_history m past s far p.1)

-- the state of any source, registered or not
pub any_source : (m : Machine) (past : List Entry) (s : ℕ) (past_state : List Source) → past_state ≡ sources (length m.sources + 1) past → list_all (fits_entry m) past ≡ true
    → slice_index_or past_state s (source_of []) ≡ source_of (history s past)
any_source m past s past_state is all = ⊎_elim
    (λ near. source_is (length m.sources + 1) past s past_state is near)
    (λ far.
    ap (λ xs. slice_index_or xs s (source_of [])) is
    ∙ beyond (sources (length m.sources + 1) past) s (let l = telling.sources_len (length m.sources + 1) past in omega (arith, l, far))
    ∙ ap source_of (sym (no_history m past s far all)))
    (cases_lt s (length m.sources + 1))
