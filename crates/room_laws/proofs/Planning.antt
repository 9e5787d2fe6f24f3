-- The calls that an actor has to have made: those of its script before its next turn, and the reports of its callbacks.
use Rattle.std.proofs.Common.{◌≡◌, ◌≤◌, ◌+◌, ◌++◌, ◌∙◌, ℕ, zero, suc, Bool, true, false, ◌&&◌, List, [], ◌∷◌, length, refl, sym, ap, cond, if◌then◌else◌, append_assoc, length-append, arith}
use Rattle.std.proofs.lemmas.Bool.{true≢false}
use Rattle.sleep_model.specs.declared.entry.Actor.{Actor}
use Rattle.sleep_model.specs.declared.entry.Actor.TheVariants as actor
use Rattle.sleep_model.specs.declared.entry.Entry.{Entry}
use Rattle.sleep_model.specs.declared.entry.Kind.{Kind}
use Rattle.sleep_model.specs.declared.machine.Machine.{Machine}
use Rattle.sleep_model.specs.Calls.{calls_at, pieces_in, ends_turn, one_more, turns_ended, calls_of_turn, calls_after_turn, report_calls, calls_of, calls_due}
use Rattle.sleep_model.specs.Path.{attempts, is_same}
use Rattle.sleep_model.specs.Scripts.{Piece, Calls, Turns}

-- ---- tests

-- if both hold each holds
pub and_both : (a b : Bool) → (a && b) ≡ true → (a ≡ true) × (b ≡ true)
and_both true true h = (refl, refl)
and_both true false h = absurd (true≢false (sym h))
and_both false b h = absurd (true≢false (sym h))

-- ---- pieces

-- all calls among the pieces, in order
abbrev pub all_calls : List Piece → List Kind
all_calls [] = []
all_calls (Calls note ∷ rest) = note ∷ all_calls rest
all_calls (Turns ∷ rest) = all_calls rest

-- those before the turn with that number
abbrev pub calls_until : List Piece → ℕ → List Kind
calls_until ps zero = calls_at ps 0
calls_until ps (suc k) = calls_until ps k ++ calls_at ps (suc k)

-- those after it
abbrev pub calls_past : List Piece → ℕ → List Kind
calls_past [] k = []
calls_past (Calls note ∷ rest) k = calls_past rest k
calls_past (Turns ∷ rest) zero = all_calls rest
calls_past (Turns ∷ rest) (suc k) = calls_past rest k

first_calls : (ps : List Piece) → calls_at ps 0 ++ calls_past ps 0 ≡ all_calls ps
first_calls [] = refl
first_calls (Calls n ∷ rest) = ap (λ xs. n ∷ xs) (first_calls rest)
first_calls (Turns ∷ rest) = refl

next_calls : (ps : List Piece) (k : ℕ) → calls_at ps (suc k) ++ calls_past ps (suc k) ≡ calls_past ps k
next_calls [] k = refl
next_calls (Calls n ∷ rest) k = next_calls rest k
next_calls (Turns ∷ rest) zero = first_calls rest
next_calls (Turns ∷ rest) (suc k) = next_calls rest k

-- the calls before a turn, and those after it, are all
pub calls_parted : (ps : List Piece) (k : ℕ) → calls_until ps k ++ calls_past ps k ≡ all_calls ps
calls_parted ps zero = first_calls ps
calls_parted ps (suc k) = append_assoc (calls_until ps k) (calls_at ps (suc k)) (calls_past ps (suc k)) ∙ (ap (λ xs. calls_until ps k ++ xs) (next_calls ps k) ∙ calls_parted ps k)

-- ---- the reports of callbacks

-- how many calls the callbacks that an actor ran have reported
abbrev pub reports_made : Machine → Actor → List Entry → ℕ
reports_made m who [] = 0
reports_made m who (e ∷ past) =
    if is_same e.actor who then reports_made m who past + length (report_calls m (attempts past) e.kind) else reports_made m who past

-- ---- the calls of an actor

-- how many calls come before an actor's turn with that number: only a script's has some
abbrev pub calls_by_turn : Machine → Actor → ℕ → ℕ
calls_by_turn m (actor.Script i) k = length (calls_until (pieces_in m i) k)
calls_by_turn m who k = 0

next_turn : (m : Machine) (who : Actor) (ends : Bool) (k : ℕ) → calls_by_turn m who (one_more ends k) ≡ calls_by_turn m who k + length (calls_after_turn m who ends (k + 1))
next_turn m who false k = omega arith
next_turn m (actor.Script i) true k =
    let ps = pieces_in m i in
    let further : k + 1 ≡ suc k = omega arith in
    ap (λ n. length (calls_until ps n)) further
    ∙ (length-append (calls_until ps k) (calls_at ps (suc k)) ∙ ap (λ n. length (calls_until ps k) + length (calls_at ps n)) (sym further))
next_turn m _ true k = refl

first_counted : (m : Machine) (who : Actor) → length (calls_of_turn m who 0) ≡ calls_by_turn m who 0 + 0
first_counted m (actor.Script i) = omega arith
first_counted m _ = refl

parts_len : (xs ys zs : List Kind) → length ((xs ++ ys) ++ zs) ≡ length xs + length ys + length zs
parts_len xs ys zs = length-append (xs ++ ys) zs ∙ ap (λ n. n + length zs) (length-append xs ys)

entry_counted : (m : Machine) (who : Actor) (xs ys : List Kind) (turns reports : ℕ) (mine ends : Bool) → length xs ≡ calls_by_turn m who turns + reports
    → length (cond mine ((xs ++ ys) ++ calls_after_turn m who ends (turns + 1)) xs) ≡ calls_by_turn m who (one_more (mine && ends) turns) + cond mine (reports + length ys) reports
entry_counted m who xs ys turns reports false ends is = is
entry_counted m who xs ys turns reports true ends is = omega (arith, parts_len xs ys (calls_after_turn m who ends (turns + 1)), next_turn m who ends turns, is)

-- the calls that an actor has to have made are those before its next turn, and the reports of its callbacks
pub calls_counted : (m : Machine) (who : Actor) (past : List Entry) → calls_due m who past ≡ calls_by_turn m who (turns_ended who past) + reports_made m who past
calls_counted m who [] = first_counted m who
calls_counted m who (e ∷ past) =
    entry_counted m who (calls_of m who past) (report_calls m (attempts past) e.kind) (turns_ended who past) (reports_made m who past) (is_same e.actor who) (ends_turn e.kind) (calls_counted m who past)

-- ---- never fewer

longer : (b : Bool) (xs ys zs : List Kind) → length xs ≤ length (cond b ((xs ++ ys) ++ zs) xs)
longer true xs ys zs =
    let one : length (xs ++ ys) ≡ length xs + length ys = length-append xs ys in
    let two : length ((xs ++ ys) ++ zs) ≡ length (xs ++ ys) + length zs = length-append (xs ++ ys) zs in
    omega arith
longer false xs ys zs = omega arith

-- the calls that are due never become fewer
pub still_due : (m : Machine) (who : Actor) (e : Entry) (past : List Entry) (calls : ℕ) → calls ≤ calls_due m who past → calls ≤ calls_due m who (e ∷ past)
still_due m who e past calls l =
    let more : calls_due m who past ≤ calls_due m who (e ∷ past) =
    longer (is_same e.actor who) (calls_of m who past) (report_calls m (attempts past) e.kind) (calls_after_turn m who (ends_turn e.kind) (turns_ended who past + 1)) in
    omega (arith, l, more)
