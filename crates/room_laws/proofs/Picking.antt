-- Which answer each callback gives, and in how many attempts an answer applies.
use Rattle.std.proofs.Common.{◌≡◌, ◌≤◌, ◌<◌, ◌+◌, ◌*◌, ◌∙◌, ℕ, zero, suc, Bool, true, false, not, ◌==◌, ◌&&◌, ◌||◌, nat_le, List, [], ◌∷◌, map, sum, Option, Some, None, is_none, cond, refl, sym, ap, subst, arith}
use Rattle.std.proofs.lemmas.Bool.{true≢false}
use Rattle.std.proofs.lemmas.Bool.Decides.{nat_tests}
use Rattle.phase_table.specs.declared.phase.Phase.{Phase}
use Rattle.sleep_model.specs.declared.entry.Entry.{Entry}
use Rattle.sleep_model.specs.declared.entry.Kind.{Kind}
use Rattle.sleep_model.specs.declared.entry.Kind.TheVariants as kind
use Rattle.sleep_model.specs.declared.machine.Answer.{Answer}
use Rattle.sleep_model.specs.declared.machine.Machine.{Machine}
use Rattle.sleep_model.specs.declared.machine.Report.{Report}
use Rattle.sleep_model.specs.declared.machine.SourceCall.{SourceCall}
use Rattle.sleep_model.specs.declared.machine.SourceCall.TheVariants as call
use Rattle.sleep_model.specs.declared.machine.What.{What}
use Rattle.sleep_model.specs.declared.machine.What.TheVariants as what
use Rattle.sleep_model.specs.Answers.{answer, answer_for, answer_reports, own_or, is_thing, is_for}
use Rattle.sleep_model.specs.Calls.{note, report_calls}
use Rattle.sleep_model.specs.Legal.{JournalPart}
use Rattle.sleep_model.specs.Path.{attempts, attempts_after}
use Rattle.sleep_model.specs.Places.{one_if, report_places, attempts_with, general_in, call_places, places_if}
use Rattle.room_laws.proofs.Asking.{reported}
use Rattle.room_laws.proofs.Beginning.{begins, begun, begun_after, once}
use Rattle.room_laws.proofs.Summing.{total, sum_is, total_plus, total_most, if_there}
use Rattle.room_laws.proofs.SourceThings.{and_parts, same_thing}
use Rattle.room_laws.proofs.Weighing.{weigh, kind_places, when}

-- ---- the room for reports

note_places : (s t : ℕ) (made : SourceCall) → kind_places s (note t made) ≡ places_if s t (call_places made)
note_places s t call.Awake = refl
note_places s t call.Relax = refl
note_places s t (call.Event ms hard) = refl
note_places s t call.Expire = refl

notes_weigh : (s : ℕ) (rs : List Report) → weigh s (map (λ r. note r.source r.call) rs) ≡ total (λ r. places_if s r.source (call_places r.call)) rs
notes_weigh s [] = refl
notes_weigh s (r ∷ rs) = omega (arith, note_places s r.source r.call, notes_weigh s rs)

answer_weighs : (s : ℕ) (o : Option Answer) → weigh s (map (λ r. note r.source r.call) (answer_reports o)) ≡ if_there (report_places s) o
answer_weighs s None = refl
answer_weighs s (Some a) = notes_weigh s a.reports ∙ sym (sum_is (λ (r : Report). places_if s r.source (call_places r.call)) a.reports)

-- ---- the answer of a callback

-- an answer applies in attempt n to its thing: one of its own in that, a general one if none of its own does
abbrev pub stands_by : What → List Answer → Option ℕ → ℕ → Bool
stands_by x answers None n = is_none (answer_for x (Some n) answers)
stands_by x answers (Some k) n = k == n

abbrev pub stands_at : List Answer → Answer → ℕ → Bool
stands_at answers a n = stands_by a.what answers a.attempt n

-- an answer that is found is one of those
found_within : (R : Answer → ℕ) (test : Answer → Bool) (x : What) (n : Option ℕ) (those : List Answer) → ((a : Answer) → is_thing a.what x ≡ true → is_for a.attempt n ≡ true → test a ≡ true)
    → if_there R (answer_for x n those) ≤ total (λ a. one_if (test a) * R a) those
found_within R test x n [] t = omega arith
found_within R test x n (a ∷ rest) t = by_test (is_thing a.what x && is_for a.attempt n) refl (found_within R test x n rest t)
  where
    by_test : (b : Bool) → (is_thing a.what x && is_for a.attempt n) ≡ b → if_there R (answer_for x n rest) ≤ total (λ a. one_if (test a) * R a) rest
        → if_there R (cond b (Some a) (answer_for x n rest)) ≤ one_if (test a) * R a + total (λ a. one_if (test a) * R a) rest
    by_test true e l =
        let both = and_parts (is_thing a.what x) (is_for a.attempt n) e in
        let one : one_if (test a) * R a ≡ R a = ap (λ b. one_if b * R a) (t a both.0 both.1) ∙ omega arith in
        omega (arith, one)
    by_test false e l = omega (arith, l)

-- the room of a callback's reports is that of an answer that applies
abbrev pub picked : ℕ → List Answer → Kind → ℕ → Answer → ℕ
picked s answers k n a = one_if (begins a.what k && stands_at answers a n) * report_places s a

own_stands : (answers : List Answer) (d : ℕ) (p : Phase) (n : ℕ) (x : What) (o : Option ℕ) → is_thing x (what.Device d p) ≡ true → is_for o (Some n) ≡ true → (is_thing x (what.Device d p) && stands_by x answers o n) ≡ true
own_stands answers d p n x None t f = absurd (true≢false (sym f))
own_stands answers d p n x (Some k) t f = rw (t, f) refl

general_stands : (answers : List Answer) (d : ℕ) (p : Phase) (n : ℕ) → answer_for (what.Device d p) (Some n) answers ≡ None → (x : What) (o : Option ℕ) → is_thing x (what.Device d p) ≡ true → is_for o None ≡ true → (is_thing x (what.Device d p) && stands_by x answers o n) ≡ true
general_stands answers d p n none x (Some k) t f = absurd (true≢false (sym f))
general_stands answers d p n none x None t f =
    let free : is_none (answer_for x (Some n) answers) ≡ true = ap (λ y. is_none (answer_for y (Some n) answers)) (same_thing x d p t) ∙ ap is_none none in
    rw (t, free) refl

by_own : (s : ℕ) (answers : List Answer) (d : ℕ) (p : Phase) (n : ℕ) (own : Option Answer) → answer_for (what.Device d p) (Some n) answers ≡ own
    → if_there (report_places s) (own_or own (answer_for (what.Device d p) None answers)) ≤ total (picked s answers (kind.Begin p d) n) answers
by_own s answers d p n (Some a) e =
    omega (arith, ap (if_there (report_places s)) e, found_within (report_places s) (λ a. begins a.what (kind.Begin p d) && stands_at answers a n) (what.Device d p) (Some n) answers (λ a t f. own_stands answers d p n a.what a.attempt t f))
by_own s answers d p n None e =
    found_within (report_places s) (λ a. begins a.what (kind.Begin p d) && stands_at answers a n) (what.Device d p) None answers (λ a t f. general_stands answers d p n e a.what a.attempt t f)

reports_within : (m : Machine) (s n : ℕ) (k : Kind) → weigh s (report_calls m n k) ≤ total (picked s m.answers k n) m.answers
reports_within m s n (kind.Begin p d) = omega (arith, answer_weighs s (answer m (what.Device d p) n), by_own s m.answers d p n (answer_for (what.Device d p) (Some n) m.answers) refl)
reports_within m s n _ = omega arith

-- ---- how often a callback begins

-- how many of the callbacks of that thing begin in an attempt that passes
abbrev pub counted : What → (ℕ → Bool) → List Entry → ℕ
counted x q [] = 0
counted x q (e ∷ past) = one_if (begins x e.kind && q (attempts past)) + counted x q past

-- how many of the first n attempts pass
abbrev pub passing : (ℕ → Bool) → ℕ → ℕ
passing q zero = 0
passing q (suc n) = one_if (q (suc n)) + passing q n

passing_next : (q : ℕ → Bool) (n : ℕ) → passing q (n + 1) ≡ one_if (q (n + 1)) + passing q n
passing_next q n = let further : n + 1 ≡ suc n = omega arith in subst (λ (k : ℕ). passing q k ≡ one_if (q k) + passing q n) (sym further) refl

passing_most : (q : ℕ → Bool) (n k : ℕ) → n ≤ k → passing q n ≤ passing q k
passing_most q n zero l = let none : n ≡ 0 = omega arith in omega (arith, ap (passing q) none)
passing_most q n (suc k) l = by_last (nat_le n k) refl (λ w. passing_most q n k w)
  where
    by_last : (b : Bool) → nat_le n k ≡ b → (n ≤ k → passing q n ≤ passing q k) → passing q n ≤ one_if (q (suc k)) + passing q k
    by_last true e rest = let within : n ≤ k = grind (arith, nat_tests) in omega (arith, rest within)
    by_last false e rest = let same : n ≡ suc k = grind (arith, nat_tests) in omega (arith, ap (passing q) same)

-- one more may begin in the attempt that is open, if it has not begun
abbrev may_begin : What → (ℕ → Bool) → List Entry → ℕ
may_begin x q past = when (not (begun x past)) (one_if (q (attempts past)))

counted_entry : (x : What) (q : ℕ → Bool) (past : List Entry) (e : Entry) (k : Kind) → e.kind ≡ k → (begins x k ≡ true → begun x past ≡ false) → counted x q past + may_begin x q past ≤ passing q (attempts past)
    → one_if (begins x k && q (attempts past)) + counted x q past + when (not (begun_after x k (begun x past))) (one_if (q (attempts_after k (attempts past)))) ≤ passing q (attempts_after k (attempts past))
counted_entry x q past e (kind.Attempt n guarded) s o h = omega (arith, h, passing_next q (attempts past))
counted_entry x q past e (kind.Begin p d) s o h = by_thing (is_thing x (what.Device d p)) refl
  where
    by_thing : (b : Bool) → is_thing x (what.Device d p) ≡ b → one_if (b && q (attempts past)) + counted x q past + when (not (b || begun x past)) (one_if (q (attempts past))) ≤ passing q (attempts past)
    by_thing true t = let free : may_begin x q past ≡ one_if (q (attempts past)) = ap (λ b. when (not b) (one_if (q (attempts past)))) (o t) in omega (arith, h, free)
    by_thing false t = omega (arith, h)
counted_entry x q past e _ s o h = omega (arith, h)

counted_within : (m : Machine) (x : What) (q : ℕ → Bool) (past : List Entry) → JournalPart m past → counted x q past + may_begin x q past ≤ passing q (attempts past)
counted_within m x q [] h = omega arith
counted_within m x q (e ∷ past) h = counted_entry x q past e e.kind refl (λ b. once m past e h x b) (counted_within m x q past h.1)

-- ---- in how many attempts an answer applies

general_is : (a : Answer) (answers : List Answer) (n : ℕ) → general_in a answers n ≡ passing (λ k. is_none (answer_for a.what (Some k) answers)) n
general_is a answers zero = refl
general_is a answers (suc n) = omega (arith, general_is a answers n)

none_passes : (k n : ℕ) → n < k → passing (λ j. k == j) n ≡ 0
none_passes k zero l = refl
none_passes k (suc n) l =
    let other : (k == suc n) ≡ false = grind (arith, nat_tests) in
    let none : one_if (k == suc n) ≡ 0 = ap one_if other in
    omega (arith, none, none_passes k n (omega arith))

own_passes : (k n : ℕ) → passing (λ j. k == j) n ≤ one_if (nat_le 1 k && nat_le k n)
own_passes k zero = omega arith
own_passes k (suc n) = by_last (k == suc n) refl (nat_le k n) refl (own_passes k n)
  where
    by_last : (b : Bool) → (k == suc n) ≡ b → (c : Bool) → nat_le k n ≡ c → passing (λ j. k == j) n ≤ one_if (nat_le 1 k && c) → one_if b + passing (λ j. k == j) n ≤ one_if (nat_le 1 k && nat_le k (suc n))
    by_last true e c f l =
        let same : k ≡ suc n = grind (arith, nat_tests) in
        let first : nat_le 1 k ≡ true = grind (arith, nat_tests) in
        let last : nat_le k (suc n) ≡ true = grind (arith, nat_tests) in
        let one : one_if (nat_le 1 k && nat_le k (suc n)) ≡ 1 = rw (first, last) refl in
        omega (arith, one, none_passes k n (omega arith))
    by_last false e true f l =
        let last : nat_le k (suc n) ≡ true = grind (arith, nat_tests) in
        let all : one_if (nat_le 1 k && nat_le k (suc n)) ≡ one_if (nat_le 1 k && true) = ap (λ b. one_if (nat_le 1 k && b)) last in
        omega (arith, l, all)
    by_last false e false f l = let none : one_if (nat_le 1 k && false) ≡ 0 = by_first (nat_le 1 k) in omega (arith, l, none)
      where
        by_first : (b : Bool) → one_if (b && false) ≡ 0
        by_first true = refl
        by_first false = refl

stands_within : (a : Answer) (answers : List Answer) (n : ℕ) (o : Option ℕ) → passing (stands_by a.what answers o) n ≤ attempts_with a answers n o
stands_within a answers n None = omega (arith, general_is a answers n)
stands_within a answers n (Some k) = own_passes k n

-- ---- all reports

-- the room for an answer's reports, in all callbacks that give it
abbrev given : ℕ → List Answer → List Entry → Answer → ℕ
given s answers past a = counted a.what (stands_at answers a) past * report_places s a

reported_counted : (m : Machine) (s : ℕ) (past : List Entry) → reported m s past ≤ total (given s m.answers past) m.answers
reported_counted m s [] = omega arith
reported_counted m s (e ∷ past) =
    omega (
      arith,
      reports_within m s (attempts past) e.kind,
      reported_counted m s past,
      total_plus (picked s m.answers e.kind (attempts past)) (given s m.answers past) m.answers,
      total_most (λ a. picked s m.answers e.kind (attempts past) a + given s m.answers past a) (given s m.answers (e ∷ past)) m.answers (λ a. one_more (one_if (begins a.what e.kind && stands_at m.answers a (attempts past))) (counted a.what (stands_at m.answers a) past) (report_places s a)),
    )
  where
    one_more : (x y r : ℕ) → x * r + y * r ≤ (x + y) * r
    one_more x y r = omega arith

-- all reports keep to the room of the answers, in the attempts in which these apply
pub reported_within : (m : Machine) (s most : ℕ) (past : List Entry) → JournalPart m past → attempts past ≤ most → reported m s past ≤ sum (map (λ a. attempts_with a m.answers most a.attempt * report_places s a) m.answers)
reported_within m s most past h l =
    omega (
      arith,
      reported_counted m s past,
      sum_is (λ (a : Answer). attempts_with a m.answers most a.attempt * report_places s a) m.answers,
      total_most (given s m.answers past) (λ a. attempts_with a m.answers most a.attempt * report_places s a) m.answers each,
    )
  where
    times : (x y r : ℕ) → x ≤ y → x * r ≤ y * r
    times x y r l = grind arith

    each : (a : Answer) → given s m.answers past a ≤ attempts_with a m.answers most a.attempt * report_places s a
    each a = times (counted a.what (stands_at m.answers a) past) (attempts_with a m.answers most a.attempt) (report_places s a)
        (omega (arith, counted_within m a.what (stands_at m.answers a) past h, passing_most (stands_at m.answers a) (attempts past) most l, stands_within a m.answers most a.attempt))
