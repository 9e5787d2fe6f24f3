-- Flags by number, and what a search says of them.
use Rattle.std.proofs.Common.{◌≡◌, ◌≤◌, ◌<◌, ◌+◌, ◌-◌, ◌∙◌, int_lt, length-set, ℕ, zero, suc, Bool, true, false, not, ◌==◌, ◌&&◌, ◌||◌, List, [], ◌∷◌, length, replicate, Option, Some, None, cond, refl, sym, ap, arith, slice_set}
use Rattle.std.specs.List.{list_all, range_with_len}
use Rattle.std.proofs.lemmas.Bool.{true≢false}
use Rattle.std.proofs.lemmas.Bool.Decides.{nat_tests}
use Rattle.std.proofs.Math.Bool.{or-true}
use Rattle.sleep_base.specs.declared.errno.Errno.{Errno}
use Rattle.sleep_model.specs.declared.entry.Entry.{Entry}
use Rattle.sleep_model.specs.declared.entry.Kind.{Kind}
use Rattle.sleep_model.specs.declared.entry.Kind.TheVariants as kind
use Rattle.sleep_model.specs.declared.machine.Machine.{Machine}
use Rattle.sleep_model.specs.declared.machine.Notifier.{Notifier}
use Rattle.sleep_model.specs.Notifiers.{Ranked, put_ranked, ranked_from, numbers_of, call_order, set_unless, notified, notified_after, notified_flags, cpus_off, cpus_off_after, stopped, stopped_after, next_post_notified, next_cpu_on, next_syscore_resumed, other_cpus, syscore_steps}
use Rattle.sleep_model.specs.Order.{is_among}
use Rattle.sleep_model.specs.Walk.{is_so, first_where, last_where, or_else}
use Rattle.sleep_laws.proofs.Telling.{some≢none, none≢some, some_is}

-- ---- searches

same : (x : ℕ) → (x == x) ≡ true
same x = grind (arith, nat_tests)

-- what is found passes
pub first_passes : (p : ℕ → Bool) (xs : List ℕ) (x : ℕ) → first_where p xs ≡ Some x → p x ≡ true
first_passes p [] x e = absurd (none≢some x e)
first_passes p (y ∷ ys) x e = by_test (first_passes p ys x) (p y) refl e
  where
    by_test : (first_where p ys ≡ Some x → p x ≡ true) → (b : Bool) → p y ≡ b → cond b (Some y) (first_where p ys) ≡ Some x → p x ≡ true
    by_test rest true f e = ap p (sym (some_is y x e)) ∙ f
    by_test rest false f e = rest e

-- and is among those
pub first_among : (p : ℕ → Bool) (xs : List ℕ) (x : ℕ) → first_where p xs ≡ Some x → is_among xs x ≡ true
first_among p [] x e = absurd (none≢some x e)
first_among p (y ∷ ys) x e = by_test (first_among p ys x) (p y) e
  where
    by_test : (first_where p ys ≡ Some x → is_among ys x ≡ true) → (b : Bool) → cond b (Some y) (first_where p ys) ≡ Some x → (y == x || is_among ys x) ≡ true
    by_test rest true e = ap (λ z. y == z || is_among ys x) (sym (some_is y x e)) ∙ ap (λ b. b || is_among ys x) (same y)
    by_test rest false e = ap (λ b. y == x || b) (rest e) ∙ or-true (y == x)

-- if none is found none passes
pub first_none : (p : ℕ → Bool) (xs : List ℕ) → first_where p xs ≡ None → list_all (λ x. not (p x)) xs ≡ true
first_none p [] e = refl
first_none p (x ∷ xs) e = by_test (first_none p xs) (p x) e
  where
    by_test : (first_where p xs ≡ None → list_all (λ y. not (p y)) xs ≡ true) → (b : Bool) → cond b (Some x) (first_where p xs) ≡ None → (not b && list_all (λ y. not (p y)) xs) ≡ true
    by_test rest true e = absurd (some≢none x e)
    by_test rest false e = rest e

pub last_none : (p : ℕ → Bool) (xs : List ℕ) → last_where p xs ≡ None → list_all (λ x. not (p x)) xs ≡ true
last_none p [] e = refl
last_none p (x ∷ xs) e = by_rest (last_none p xs) (last_where p xs) refl (p x) e
  where
    by_rest : (last_where p xs ≡ None → list_all (λ y. not (p y)) xs ≡ true) → (o : Option ℕ) → last_where p xs ≡ o → (b : Bool) → or_else o (cond b (Some x) None) ≡ None → (not b && list_all (λ y. not (p y)) xs) ≡ true
    by_rest rest (Some y) f b e = absurd (some≢none y e)
    by_rest rest None f true e = absurd (some≢none x e)
    by_rest rest None f false e = rest f

-- all of these pass if each that passes does not fail
pub all_twice : (p : ℕ → Bool) (xs : List ℕ) → list_all (λ x. not (not (p x))) xs ≡ true → list_all p xs ≡ true
all_twice p [] e = refl
all_twice p (x ∷ xs) e = by_test (all_twice p xs) (p x) e
  where
    by_test : (list_all (λ y. not (not (p y))) xs ≡ true → list_all p xs ≡ true) → (b : Bool) → (not (not b) && list_all (λ y. not (not (p y))) xs) ≡ true → (b && list_all p xs) ≡ true
    by_test rest true e = rest e
    by_test rest false e = e

-- one of these passes
pub all_at : (p : ℕ → Bool) (xs : List ℕ) (x : ℕ) → list_all p xs ≡ true → is_among xs x ≡ true → p x ≡ true
all_at p [] x e f = absurd (true≢false (sym f))
all_at p (y ∷ ys) x e f = by_test (all_at p ys x) (p y) refl (y == x) refl e f
  where
    by_test : (list_all p ys ≡ true → is_among ys x ≡ true → p x ≡ true) → (b : Bool) → p y ≡ b → (c : Bool) → (y == x) ≡ c → (b && list_all p ys) ≡ true → (c || is_among ys x) ≡ true → p x ≡ true
    by_test rest true g true h e f =
        let is : y ≡ x = grind (arith, nat_tests) in
        ap p (sym is) ∙ g
    by_test rest true g false h e f = rest e f
    by_test rest false g c h e f = absurd (true≢false (sym e))

-- ---- runs of numbers, and the order of notifiers

next_of : (a d : ℕ) → (a == d) ≡ false → a ≤ d → a + 1 ≤ d
next_of a d e l = grind (arith, nat_tests)

same_least : (a d : ℕ) → (a == d) ≡ true → a ≤ d
same_least a d e = grind (arith, nat_tests)

pub in_run : (a n d : ℕ) → a ≤ d → d < a + n → is_among (range_with_len a n) d ≡ true
in_run a zero d l h = absurd (omega arith)
in_run a (suc n) d l h = by_test (λ o. in_run (a + 1) n d o (omega arith)) (a == d) refl
  where
    by_test : (a + 1 ≤ d → is_among (range_with_len (a + 1) n) d ≡ true) → (b : Bool) → (a == d) ≡ b → (b || is_among (range_with_len (a + 1) n) d) ≡ true
    by_test rest true e = refl
    by_test rest false e = rest (next_of a d e l)

-- what is in a run of numbers is at least its first
pub run_least : (a n d : ℕ) → is_among (range_with_len a n) d ≡ true → a ≤ d
run_least a zero d h = absurd (true≢false (sym h))
run_least a (suc n) d h = by_test (run_least (a + 1) n d) (a == d) refl h
  where
    by_test : (is_among (range_with_len (a + 1) n) d ≡ true → a + 1 ≤ d) → (b : Bool) → (a == d) ≡ b → (b || is_among (range_with_len (a + 1) n) d) ≡ true → a ≤ d
    by_test rest true e h = same_least a d e
    by_test rest false e h =
        let l : a + 1 ≤ d = rest h in
        omega arith

swapped : (a b c : Bool) → (a || (b || c)) ≡ (b || (a || c))
swapped true true c = refl
swapped true false c = refl
swapped false true c = refl
swapped false false c = refl

among_put : (x : Ranked) (ys : List Ranked) (d : ℕ) → is_among (numbers_of (put_ranked x ys)) d ≡ (x.number == d || is_among (numbers_of ys) d)
among_put x [] d = refl
among_put x (y ∷ ys) d = by_test (among_put x ys d) (int_lt x.priority y.priority)
  where
    by_test : is_among (numbers_of (put_ranked x ys)) d ≡ (x.number == d || is_among (numbers_of ys) d) → (b : Bool) → is_among (numbers_of (cond b (y ∷ put_ranked x ys) (x ∷ y ∷ ys))) d ≡ (x.number == d || (y.number == d || is_among (numbers_of ys) d))
    by_test rest true = ap (λ b. y.number == d || b) rest ∙ swapped (y.number == d) (x.number == d) (is_among (numbers_of ys) d)
    by_test rest false = refl

ranked_all : (n : ℕ) (xs : List Notifier) (d : ℕ) → n ≤ d → d < n + length xs → is_among (numbers_of (ranked_from n xs)) d ≡ true
ranked_all n [] d l h = absurd (omega arith)
ranked_all n (x ∷ xs) d l h = among_put (record { number = n; priority = x.priority }) (ranked_from (suc n) xs) d ∙ by_test (λ o. ranked_all (suc n) xs d o (omega arith)) (n == d) refl
  where
    by_test : (suc n ≤ d → is_among (numbers_of (ranked_from (suc n) xs)) d ≡ true) → (b : Bool) → (n == d) ≡ b → (b || is_among (numbers_of (ranked_from (suc n) xs)) d) ≡ true
    by_test rest true e = refl
    by_test rest false e =
        let next : n + 1 ≤ d = next_of n d e l in
        rest (omega arith)

-- ---- flags

-- no flag is set if none among the first n is
pub cleared : (xs : List Bool) (n : ℕ) → length xs ≡ n → ((k : ℕ) → k < n → is_so xs k ≡ false) → xs ≡ replicate n false
cleared [] zero e f = refl
cleared [] (suc n) e f = absurd (omega arith)
cleared (x ∷ xs) zero e f = absurd (omega arith)
cleared (x ∷ xs) (suc n) e f =
    let first : x ≡ false = f 0 (omega arith) in
    let rest : xs ≡ replicate n false = cleared xs n (omega arith) (λ k l. f (suc k) (omega arith)) in
    rw (first, rest) refl

length_replicate : (n : ℕ) → length (replicate n false) ≡ n
length_replicate zero = refl
length_replicate (suc n) = ap suc (length_replicate n)

length_unless : (r : Option Errno) (x : ℕ) (flags : List Bool) → length (set_unless r x flags) ≡ length flags
length_unless None x flags = length-set flags x true
length_unless (Some r) x flags = refl

notified_length : (k : Kind) (flags : List Bool) → length (notified_after k flags) ≡ length flags
notified_length (kind.NotifyPrepare x r) flags = length_unless r x flags
notified_length (kind.NotifyPost x) flags = length-set flags x false
notified_length _ flags = refl

pub notified_flags_length : (n : ℕ) (past : List Entry) → length (notified n past) ≡ n
notified_flags_length n [] = length_replicate n
notified_flags_length n (e ∷ past) = notified_length e.kind (notified n past) ∙ notified_flags_length n past

cpus_length : (k : Kind) (flags : List Bool) → length (cpus_off_after k flags) ≡ length flags
cpus_length (kind.CpuOff x) flags = length-set flags x true
cpus_length (kind.CpuOn x) flags = length-set flags x false
cpus_length _ flags = refl

pub off_length : (n : ℕ) (past : List Entry) → length (cpus_off n past) ≡ n
off_length n [] = length_replicate n
off_length n (e ∷ past) = cpus_length e.kind (cpus_off n past) ∙ off_length n past

parts_length : (k : Kind) (flags : List Bool) → length (stopped_after k flags) ≡ length flags
parts_length (kind.SyscoreSuspend x r) flags = length_unless r x flags
parts_length (kind.SyscoreResume x) flags = length-set flags x false
parts_length _ flags = refl

pub stopped_length : (n : ℕ) (past : List Entry) → length (stopped n past) ≡ n
stopped_length n [] = length_replicate n
stopped_length n (e ∷ past) = parts_length e.kind (stopped n past) ∙ stopped_length n past

not_true : (b : Bool) → not b ≡ true → b ≡ false
not_true true e = absurd (true≢false (sym e))
not_true false e = refl

-- if no notifier is owed its post, none is notified
pub none_notified : (m : Machine) (past : List Entry) → next_post_notified m past ≡ None → notified_flags m past ≡ replicate (length m.notifiers) false
none_notified m past e =
    let all : list_all (λ x. not (is_so (notified_flags m past) x)) (call_order m) ≡ true = first_none (is_so (notified_flags m past)) (call_order m) e in
    cleared (notified_flags m past) (length m.notifiers) (notified_flags_length (length m.notifiers) past)
    (λ k l. not_true (is_so (notified_flags m past) k) (all_at (λ x. not (is_so (notified_flags m past) x)) (call_order m) k all (ranked_all 0 m.notifiers k (omega arith) (omega arith))))

-- if no syscore operation is to be resumed, none is suspended
pub none_stopped : (m : Machine) (past : List Entry) → next_syscore_resumed m past ≡ None → stopped (length m.syscore) past ≡ replicate (length m.syscore) false
none_stopped m past e =
    let flags : List Bool = stopped (length m.syscore) past in
    let all : list_all (λ x. not (is_so flags x)) (syscore_steps m) ≡ true = first_none (is_so flags) (syscore_steps m) e in
    cleared flags (length m.syscore) (stopped_length (length m.syscore) past)
    (λ k l. not_true (is_so flags k) (all_at (λ x. not (is_so flags x)) (syscore_steps m) k all (in_run 0 (length m.syscore) k (omega arith) (omega arith))))

all_but_first : (flags : List Bool) (n : ℕ) → list_all (λ x. not (is_so flags x)) (range_with_len 1 (n - 1)) ≡ true → is_so flags 0 ≡ false → (k : ℕ) → k < n → is_so flags k ≡ false
all_but_first flags n all z zero l = z
all_but_first flags n all z (suc k) l = not_true (is_so flags (suc k)) (all_at (λ x. not (is_so flags x)) (range_with_len 1 (n - 1)) (suc k) all (in_run 1 (n - 1) (suc k) (omega arith) (omega arith)))

-- if no other processor is to be started, and the first is on, none is off
pub none_off : (m : Machine) (past : List Entry) → is_so (cpus_off m.cpus past) 0 ≡ false → next_cpu_on m past ≡ None → cpus_off m.cpus past ≡ replicate m.cpus false
none_off m past z e =
    let flags : List Bool = cpus_off m.cpus past in
    let all : list_all (λ x. not (is_so flags x)) (other_cpus m) ≡ true = first_none (is_so flags) (other_cpus m) e in
    cleared flags m.cpus (off_length m.cpus past) (λ k l. all_but_first flags m.cpus all z k l)

-- ---- the first processor

pub set_other : (flags : List Bool) (k : ℕ) (b : Bool) → 1 ≤ k → is_so (slice_set flags k b) 0 ≡ is_so flags 0
set_other [] k b l = refl
set_other (x ∷ xs) zero b l = absurd (omega arith)
set_other (x ∷ xs) (suc k) b l = refl
