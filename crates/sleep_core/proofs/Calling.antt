-- The calls of a script by the turns that it has ended.
use Rattle.std.proofs.Common.{◌≡◌, ◌∙◌, ◌<◌, ◌+◌, ◌==◌, ◌&&◌, ℕ, zero, suc, Bool, true, false, List, [], ◌∷◌, length, slice_get, slice_set, Option, Some, refl, sym, ap, ap₂, subst, length-append, arith}
use Rattle.std.proofs.lemmas.Bool.Decides.{nat_tests}
use Rattle.sleep_model.specs.declared.entry.Actor.{Actor}
use Rattle.sleep_model.specs.declared.entry.Actor.TheVariants as actor
use Rattle.sleep_model.specs.declared.entry.Entry.{Entry}
use Rattle.sleep_model.specs.declared.entry.Kind.{Kind}
use Rattle.sleep_model.specs.declared.entry.Kind.TheVariants as kind
use Rattle.sleep_model.specs.declared.machine.Machine.{Machine}
use Rattle.sleep_model.specs.declared.progress.ScriptPosition.{ScriptPosition}
use Rattle.sleep_model.specs.Calls.{calls_at, calls_due, ends_turn, one_more, pieces_if, pieces_in, turns_ended}
use Rattle.sleep_model.specs.Path.{is_same}
use Rattle.sleep_model.specs.declared.machine.Script.{Script}
use Rattle.sleep_model.specs.Scripts.{Piece, Calls, Turns, pieces}
use Rattle.sleep_model.specs.Positions.{position_at, position_effect, position_after, positions_after, positions}
use Rattle.script_plan.specs.Plans.{calls_before}
use Rattle.room_laws.proofs.Planning.{calls_until, calls_counted}
use Rattle.sleep_core.specs.Cores.{IsActor}
use Rattle.sleep_core.specs.Reports.{reported_by, counts_of}
use Rattle.sleep_core.proofs.Reporting.{reported_is}
use Rattle.sleep_core.proofs.Positioned.{positions_len, first_positions}

-- ---- a script's position counts the turns that it has ended

kind_turns : (k : Kind) (s : ScriptPosition) → (position_after (position_effect k) s).turns ≡ one_more (ends_turn k) s.turns
kind_turns kind.ReadWait s = refl
kind_turns (kind.SaveWait c) s = refl
kind_turns kind.StateWait s = refl
kind_turns (kind.AutoSet state) s = refl
kind_turns (kind.Sleep until) s = refl
kind_turns (kind.SleepD until) s = refl
kind_turns (kind.Read c) s = refl
kind_turns kind.ReadIntr s = refl
kind_turns (kind.Saved c) s = refl
kind_turns (kind.SaveErr c r) s = refl
kind_turns (kind.StateErr r) s = refl
kind_turns kind.StateUnsaved s = refl
kind_turns (kind.Over n r) s = refl
kind_turns kind.AutoBad s = refl
kind_turns kind.AutoDone s = refl
kind_turns kind.Slept s = refl
kind_turns kind.Pass s = refl
kind_turns (kind.Post mark) s = refl
kind_turns (kind.Got mark) s = refl
kind_turns (kind.RuntimeAsk device to_suspended r) s = refl
kind_turns kind.Exit s = refl
kind_turns _ s = refl

same_set : (ss : List ScriptPosition) (i : ℕ) (v : ScriptPosition) → i < length ss → position_at (slice_set ss i v) i ≡ v
same_set [] i v l = absurd (omega (arith, l))
same_set (x ∷ xs) zero v l = refl
same_set (x ∷ xs) (suc i) v l = same_set xs i v (omega (arith, l))

suc_false : (j i : ℕ) → (suc j == suc i) ≡ false → (j == i) ≡ false
suc_false j i e = by_test (j == i) refl
  where
    by_test : (b : Bool) → (j == i) ≡ b → (j == i) ≡ false
    by_test false t = t
    by_test true t = absurd (let same : j ≡ i = grind (arith, nat_tests) in grind (arith, nat_tests))

other_set : (ss : List ScriptPosition) (i j : ℕ) (v : ScriptPosition) → (j == i) ≡ false → position_at (slice_set ss j v) i ≡ position_at ss i
other_set [] i j v l = refl
other_set (x ∷ xs) zero zero v l = absurd (grind (arith, nat_tests))
other_set (x ∷ xs) (suc i) zero v l = refl
other_set (x ∷ xs) zero (suc j) v l = refl
other_set (x ∷ xs) (suc i) (suc j) v l = other_set xs i j v (suc_false j i l)

script_turns : (i j : ℕ) (k : Kind) (ss : List ScriptPosition) → i < length ss → (b : Bool) → (j == i) ≡ b → (position_at (positions_after (actor.Script j) (position_effect k) ss) i).turns ≡ one_more (b && ends_turn k) (position_at ss i).turns
script_turns i j k ss l true e =
    let same : j ≡ i = grind (arith, nat_tests) in
    subst (λ n. (position_at (slice_set ss n (position_after (position_effect k) (position_at ss n))) i).turns ≡ one_more (ends_turn k) (position_at ss i).turns) (sym same)
    (ap (λ (s : ScriptPosition). s.turns) (same_set ss i (position_after (position_effect k) (position_at ss i)) l) ∙ kind_turns k (position_at ss i))
script_turns i j k ss l false e = ap (λ (s : ScriptPosition). s.turns) (other_set ss i j (position_after (position_effect k) (position_at ss j)) e)

entry_turns : (i : ℕ) (who : Actor) (k : Kind) (ss : List ScriptPosition) → i < length ss → (position_at (positions_after who (position_effect k) ss) i).turns ≡ one_more (is_same who (actor.Script i) && ends_turn k) (position_at ss i).turns
entry_turns i (actor.Script j) k ss l = script_turns i j k ss l (j == i) refl
entry_turns i _ k ss l = refl

-- a script's position has the number of turns that it has ended
turns_are : (n i : ℕ) (past : List Entry) → i < n → (position_at (positions n past) i).turns ≡ turns_ended (actor.Script i) past
turns_are n i [] l = ap (λ (s : ScriptPosition). s.turns) (first_positions n i)
turns_are n i (e ∷ past) l =
    entry_turns i e.actor e.kind (positions n past) (omega (arith, l, positions_len n past))
    ∙ ap (λ t. one_more (is_same e.actor (actor.Script i) && ends_turn e.kind) t) (turns_are n i past l)

-- ---- calls before a turn

before_first : (ps : List Piece) → length (calls_at ps 0) ≡ calls_before ps 0
before_first [] = refl
before_first (Calls note ∷ ps) = omega (arith, before_first ps)
before_first (Turns ∷ ps) = refl

before_next : (ps : List Piece) (k : ℕ) → calls_before ps k + length (calls_at ps (suc k)) ≡ calls_before ps (suc k)
before_next [] k = refl
before_next (Calls note ∷ ps) k = omega (arith, before_next ps k)
before_next (Turns ∷ ps) zero = omega (arith, before_first ps)
before_next (Turns ∷ ps) (suc k) = before_next ps k

until_before : (ps : List Piece) (k : ℕ) → length (calls_until ps k) ≡ calls_before ps k
until_before ps zero = before_first ps
until_before ps (suc k) = length-append (calls_until ps k) (calls_at ps (suc k)) ∙ (ap (λ n. n + length (calls_at ps (suc k))) (until_before ps k) ∙ before_next ps k)

-- a script has to have made the calls that come before its turn, and what its callbacks have reported
pub script_calls_due : (m : Machine) (i : ℕ) (past : List Entry) (calls reported : ℕ) → i < length m.actors
    → calls ≡ calls_before (pieces_in m i) (position_at (positions (length m.actors) past) i).turns → reported ≡ reported_by (actor.Script i) (counts_of m past) → calls + reported ≡ calls_due m (actor.Script i) past
script_calls_due m i past calls reported l by_turn by_report =
    let turns = turns_ended (actor.Script i) past in
    let here : calls ≡ length (calls_until (pieces_in m i) turns) = by_turn ∙ (ap (calls_before (pieces_in m i)) (turns_are (length m.actors) i past l) ∙ sym (until_before (pieces_in m i) turns)) in
    ap₂ (λ a b. a + b) here (by_report ∙ reported_is m past (actor.Script i) l) ∙ sym (calls_counted m (actor.Script i) past)

-- and another actor what its callbacks have reported
pub other_calls_due : (m : Machine) (past : List Entry) (who : Actor) (reported : ℕ) → IsActor m who → ((i : ℕ) → who ≡ actor.Script i → ⊥) → reported ≡ reported_by who (counts_of m past) → reported ≡ calls_due m who past
other_calls_due m past (actor.Script i) reported is not by_report = absurd (not i refl)
other_calls_due m past actor.Auto reported is not by_report = omega (arith, by_report, reported_is m past actor.Auto is, calls_counted m actor.Auto past)
other_calls_due m past (actor.Dev d) reported is not by_report = omega (arith, by_report, reported_is m past (actor.Dev d) is, calls_counted m (actor.Dev d) past)
other_calls_due m past (actor.Timer s) reported is not by_report = absurd is
other_calls_due m past actor.Time reported is not by_report = absurd is

-- the calls before a turn, by the script's plan
pub planned_calls : (m : Machine) (i : ℕ) (past : List Entry) (s : Script) (position : ScriptPosition) (calls : ℕ) → slice_get m.actors i ≡ Some s
    → ((source : ℕ) → calls ≡ calls_before (pieces source s) position.turns) → position ≡ position_at (positions (length m.actors) past) i
    → calls ≡ calls_before (pieces_in m i) (position_at (positions (length m.actors) past) i).turns
planned_calls m i past s position calls at is here =
    is (length m.sources)
    ∙ (ap (λ (o : Option Script). calls_before (pieces_if (length m.sources) o) position.turns) (sym at)
    ∙ ap (λ (x : ScriptPosition). calls_before (pieces_in m i) x.turns) here)
