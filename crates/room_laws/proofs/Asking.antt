-- The calls of an actor: those of its script's own steps, and the reports of the callbacks that it begins.
use Rattle.std.proofs.Common.{◌≡◌, ◌≤◌, ◌+◌, ◌++◌, ◌∙◌, ℕ, zero, suc, Bool, true, false, ◌==◌, ◌&&◌, ◌||◌, List, [], ◌∷◌, length, map, sum, Option, Some, None, slice_get, cond, refl, sym, ap, append_assoc, arith}
use Rattle.std.specs.List.{flat_map}
use Rattle.sleep_model.specs.declared.entry.Actor.{Actor}
use Rattle.sleep_model.specs.declared.entry.Actor.TheVariants as actor
use Rattle.sleep_model.specs.declared.entry.Entry.{Entry}
use Rattle.sleep_model.specs.declared.entry.Kind.{Kind}
use Rattle.sleep_model.specs.declared.machine.Machine.{Machine}
use Rattle.sleep_model.specs.declared.machine.Op.{Op}
use Rattle.sleep_model.specs.declared.machine.Op.TheVariants as op
use Rattle.sleep_model.specs.declared.machine.Script.{Script}
use Rattle.sleep_model.specs.Calls.{calls_at, pieces_in, pieces_if, ends_turn, one_more, turns_ended, calls_of_turn, calls_after_turn, report_calls, calls_of}
use Rattle.sleep_model.specs.Path.{attempts, is_same}
use Rattle.sleep_model.specs.Places.{op_places, all_operations, places_if}
use Rattle.sleep_model.specs.Scripts.{Piece, Calls, Turns, pieces_of, autosleep_pieces, operations}
use Rattle.sleep_model.specs.Tasks.{is_mem, is_off}
use Rattle.room_laws.proofs.Weighing.{weigh, weigh_both, when, below_most, below_none, over_all, over_both, over_most, over_at_most}
use Rattle.room_laws.proofs.Summing.{total, sum_is, total_flat, if_there, below_total}

-- ---- pieces

-- all calls among the pieces, in order
abbrev all_calls : List Piece → List Kind
all_calls [] = []
all_calls (Calls note ∷ rest) = note ∷ all_calls rest
all_calls (Turns ∷ rest) = all_calls rest

-- the calls up to the turn with that number
abbrev until : (ℕ → List Kind) → ℕ → List Kind
until at zero = at 0
until at (suc k) = until at k ++ at (suc k)

-- those after it
abbrev calls_past : List Piece → ℕ → List Kind
calls_past [] k = []
calls_past (Calls note ∷ rest) k = calls_past rest k
calls_past (Turns ∷ rest) zero = all_calls rest
calls_past (Turns ∷ rest) (suc k) = calls_past rest k

first_calls : (ps : List Piece) → calls_at ps 0 ++ calls_past ps 0 ≡ all_calls ps
first_calls [] = refl
first_calls (Calls n ∷ rest) = ap (λ xs. n ∷ xs) (first_calls rest)
first_calls (Turns ∷ rest) = refl

next_calls : (ps : List Piece) (k : ℕ) → calls_at ps (suc k) ++ calls_past ps (suc k) ≡ calls_past ps k
next_calls [] k = refl
next_calls (Calls n ∷ rest) k = next_calls rest k
next_calls (Turns ∷ rest) zero = first_calls rest
next_calls (Turns ∷ rest) (suc k) = next_calls rest k

-- the calls before a turn, and those after it, are all
calls_parted : (ps : List Piece) (k : ℕ) → until (calls_at ps) k ++ calls_past ps k ≡ all_calls ps
calls_parted ps zero = first_calls ps
calls_parted ps (suc k) = append_assoc (until (calls_at ps) k) (calls_at ps (suc k)) (calls_past ps (suc k)) ∙ (ap (λ xs. until (calls_at ps) k ++ xs) (next_calls ps k) ∙ calls_parted ps k)

until_within : (s : ℕ) (ps : List Piece) (k : ℕ) → weigh s (until (calls_at ps) k) ≤ weigh s (all_calls ps)
until_within s ps k = omega (arith, ap (weigh s) (calls_parted ps k), weigh_both s (until (calls_at ps) k) (calls_past ps k))

until_none : (s : ℕ) (k : ℕ) → weigh s (until (λ k. []) k) ≡ 0
until_none s zero = refl
until_none s (suc k) = omega (arith, weigh_both s (until (λ k. []) k) [], until_none s k)

-- ---- the calls of operations

all_both : (ps qs : List Piece) → all_calls (ps ++ qs) ≡ all_calls ps ++ all_calls qs
all_both [] qs = refl
all_both (Calls n ∷ ps) qs = ap (λ xs. n ∷ xs) (all_both ps qs)
all_both (Turns ∷ ps) qs = all_both ps qs

-- an operation's calls need no more than its room
op_within : (n s : ℕ) (o : Op) → weigh s (all_calls (pieces_of n o)) ≤ op_places n s o
op_within n s (op.Awake x) = omega arith
op_within n s (op.Relax x) = omega arith
op_within n s (op.Event x ms hard) = omega arith
op_within n s (op.Autosleep text) = by_text (is_mem text || is_off text)
  where
    both : (here : Bool) → ◌≤◌ (cond here 2 0 + (cond here 2 0 + 0)) (cond here 4 0)
    both true = omega arith
    both false = omega arith

    by_text : (good : Bool) → weigh s (all_calls (autosleep_pieces n good)) ≤ places_if s n 4
    by_text true = both (n == s)
    by_text false = omega arith
op_within n s _ = omega arith

ops_within : (n s : ℕ) (ops : List Op) → weigh s (all_calls (flat_map (pieces_of n) ops)) ≤ total (op_places n s) ops
ops_within n s [] = omega arith
ops_within n s (o ∷ ops) =
    omega (arith, ap (weigh s) (all_both (pieces_of n o) (flat_map (pieces_of n) ops)), weigh_both s (all_calls (pieces_of n o)) (all_calls (flat_map (pieces_of n) ops)), op_within n s o, ops_within n s ops)

script_within : (n s : ℕ) (o : Option Script) → weigh s (all_calls (pieces_if n o)) ≤ if_there (λ x. total (op_places n s) (operations x)) o
script_within n s None = omega arith
script_within n s (Some x) = ops_within n s (operations x)

-- ---- an actor's calls

-- the room on source s for the reports of all callbacks that an actor began
abbrev pub reported_by : Machine → ℕ → Actor → List Entry → ℕ
reported_by m s who [] = 0
reported_by m s who (e ∷ past) = when (is_same e.actor who) (weigh s (report_calls m (attempts past) e.kind)) + reported_by m s who past

-- those of all callbacks
abbrev pub reported : Machine → ℕ → List Entry → ℕ
reported m s [] = 0
reported m s (e ∷ past) = weigh s (report_calls m (attempts past) e.kind) + reported m s past

-- the room for the calls of its own steps
abbrev own_calls : Machine → ℕ → Actor → ℕ → ℕ
own_calls m s who k = weigh s (until (calls_of_turn m who) k)

calls_are : (m : Machine) (s : ℕ) (who : Actor) (past : List Entry) → weigh s (calls_of m who past) ≡ own_calls m s who (turns_ended who past) + reported_by m s who past
calls_are m s who [] = omega arith
calls_are m s who (e ∷ past) = by_same (is_same e.actor who) (ends_turn e.kind) (calls_are m s who past)
  where
    by_same : (b ends : Bool) → weigh s (calls_of m who past) ≡ own_calls m s who (turns_ended who past) + reported_by m s who past
        → weigh s (cond b (calls_of m who past ++ report_calls m (attempts past) e.kind ++ calls_after_turn m who ends (turns_ended who past + 1)) (calls_of m who past))
        ≡ own_calls m s who (one_more (b && ends) (turns_ended who past)) + (when b (weigh s (report_calls m (attempts past) e.kind)) + reported_by m s who past)
    by_same false ends same = omega (arith, same)
    by_same true true same =
        let further : turns_ended who past + 1 ≡ suc (turns_ended who past) = omega arith in
        let one : own_calls m s who (turns_ended who past + 1) ≡ own_calls m s who (turns_ended who past) + weigh s (calls_of_turn m who (turns_ended who past + 1)) =
        ap (own_calls m s who) further ∙ (weigh_both s (until (calls_of_turn m who) (turns_ended who past)) (calls_of_turn m who (suc (turns_ended who past))) ∙ ap (λ k. own_calls m s who (turns_ended who past) + weigh s (calls_of_turn m who k)) (sym further)) in
        omega (
          arith,
          same,
          one,
          weigh_both s (calls_of m who past ++ report_calls m (attempts past) e.kind) (calls_of_turn m who (turns_ended who past + 1)),
          weigh_both s (calls_of m who past) (report_calls m (attempts past) e.kind),
        )
    by_same true false same =
        omega (
          arith,
          same,
          weigh_both s (calls_of m who past ++ report_calls m (attempts past) e.kind) [],
          weigh_both s (calls_of m who past) (report_calls m (attempts past) e.kind),
        )

-- ---- all actors

-- the calls of all scripts need no more than the room of all operations
own_within : (m : Machine) (s n : ℕ) (turns : Actor → ℕ) → over_all n (λ a. own_calls m s a (turns a)) ≤ sum (map (op_places (length m.sources) s) (all_operations m.actors))
own_within m s n turns =
    omega (
      arith,
      below_most n (λ i. own_calls m s (actor.Script i) (turns (actor.Script i))) (λ i. if_there (λ x. total (op_places (length m.sources) s) (operations x)) (slice_get m.actors i)) script,
      below_total (λ x. total (op_places (length m.sources) s) (operations x)) m.actors n,
      total_flat (op_places (length m.sources) s) operations m.actors,
      sum_is (op_places (length m.sources) s) (all_operations m.actors),
      until_none s (turns actor.Auto),
      until_none s (turns actor.Time),
      below_most n (λ i. own_calls m s (actor.Dev i) (turns (actor.Dev i))) (λ i. 0) (λ d. omega (arith, until_none s (turns (actor.Dev d)))),
      below_none n,
    )
  where
    script : (i : ℕ) → own_calls m s (actor.Script i) (turns (actor.Script i)) ≤ if_there (λ x. total (op_places (length m.sources) s) (operations x)) (slice_get m.actors i)
    script i = omega (arith, until_within s (pieces_in m i) (turns (actor.Script i)), script_within (length m.sources) s (slice_get m.actors i))

-- a callback's reports are of the one actor that began it
reported_within : (m : Machine) (s n : ℕ) (past : List Entry) → over_all n (λ a. reported_by m s a past) ≤ reported m s past
reported_within m s n [] = omega (arith, below_none n)
reported_within m s n (e ∷ past) =
    omega (
      arith,
      over_both n (λ a. when (is_same e.actor a) (weigh s (report_calls m (attempts past) e.kind))) (λ a. reported_by m s a past),
      over_at_most n e.actor (weigh s (report_calls m (attempts past) e.kind)),
      reported_within m s n past,
    )

-- all calls need no more than the room of all operations and of the reports
pub calls_within : (m : Machine) (s n : ℕ) (past : List Entry) → over_all n (λ a. weigh s (calls_of m a past)) ≤ sum (map (op_places (length m.sources) s) (all_operations m.actors)) + reported m s past
calls_within m s n past =
    omega (
      arith,
      over_most n (λ a. weigh s (calls_of m a past)) (λ a. own_calls m s a (turns_ended a past) + reported_by m s a past) (λ a. omega (arith, calls_are m s a past)),
      over_both n (λ a. own_calls m s a (turns_ended a past)) (λ a. reported_by m s a past),
      own_within m s n (λ a. turns_ended a past),
      reported_within m s n past,
    )
