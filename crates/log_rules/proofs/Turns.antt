-- A freeze point is a task's next step only before an entry of the journal: not if it has a call to make, or is inside one.
use Rattle.std.proofs.Common.{◌≡◌, ◌==◌, ◌+◌, ◌∙◌, ℕ, Bool, true, false, not, ◌&&◌, List, length, Option, Some, None, slice_get, refl, sym, subst, arith}
use Rattle.std.proofs.lemmas.Bool.Decides.{nat_tests}
use Rattle.sleep_model.specs.declared.entry.Actor.{Actor}
use Rattle.sleep_model.specs.declared.entry.Actor.TheVariants as actor
use Rattle.sleep_model.specs.declared.entry.Entry.{Entry}
use Rattle.sleep_model.specs.declared.entry.Kind.{Kind}
use Rattle.sleep_model.specs.declared.machine.Machine.{Machine}
use Rattle.sleep_model.specs.declared.machine.Op.{Op}
use Rattle.sleep_model.specs.declared.machine.Script.{Script}
use Rattle.sleep_model.specs.declared.progress.Freezing.{Freezing}
use Rattle.sleep_model.specs.Calls.{calls_due, calls_of, is_calling, made}
use Rattle.sleep_model.specs.Freezer.{freezing}
use Rattle.sleep_model.specs.Legal.{IsOutside, IsOwnCall, IsOwnTurn}
use Rattle.sleep_model.specs.EntryClasses.{journal}
use Rattle.sleep_model.specs.Sources.{history}
use Rattle.rule_definitions.specs.Freezer.{FreezesActor, FreezesEntry, FreezesTask, GoesOn, GoesOnEntry, asked_at, is_at_turn}
use Rattle.rule_definitions.specs.Questions.{op_of, position_of}
use Rattle.rule_definitions.specs.Steps.{is_inside}
use Rattle.log_rules.proofs.Facts.{never}
use Rattle.log_rules.proofs.Inside.{Grown, outside_all, owes_there, and_left, same_number}
use Rattle.log_rules.proofs.Quiet.{ThawedActor, past_end}

-- ---- at a turn

equal : (n k : ℕ) → n ≡ k → (n == k) ≡ true
equal n k e = grind (arith, nat_tests)

both : (a b : Bool) → a ≡ true → b ≡ false → (a && not b) ≡ true
both a b e f = rw (e, f) refl

-- who has made the calls that come before its turn, and is inside none, is at its turn
pub at_turn : (m : Machine) (past : List Entry) (who : Actor) → IsOwnTurn m (journal past) (λ s. history s past) who → IsOutside m (λ s. history s past) who → is_at_turn m past who ≡ true
at_turn m past who e o = both _ _ (equal _ _ e) o

-- there it is asked what the journal says
pub freezes_then : (m : Machine) (past : List Entry) (who : Actor) (b : Bool) (k : Kind) → is_at_turn m past who ≡ true → FreezesActor m (journal past) who b k → FreezesEntry m past who b k
freezes_then m past (actor.Script i) false k t z =
    subst (λ (x : Bool). FreezesTask (asked_at x (freezing m i (journal past))) (position_of m (journal past) i).waits (op_of m (journal past) i) (slice_get m.actors i) k) (sym t) z
freezes_then m past (actor.Script i) true k t z = z
freezes_then m past _ b k t z = z

pub freezes_back : (m : Machine) (past : List Entry) (who : Actor) (b : Bool) (k : Kind) → is_at_turn m past who ≡ true → FreezesEntry m past who b k → FreezesActor m (journal past) who b k
freezes_back m past (actor.Script i) false k t z =
    subst (λ (x : Bool). FreezesTask (asked_at x (freezing m i (journal past))) (position_of m (journal past) i).waits (op_of m (journal past) i) (slice_get m.actors i) k) t z
freezes_back m past (actor.Script i) true k t z = z
freezes_back m past _ b k t z = z

-- ---- at none

-- a task is at no turn
abbrev pub NoTurn : Machine → List Entry → Actor → Type 0
NoTurn m past (actor.Script i) = is_at_turn m past (actor.Script i) ≡ false
NoTurn m past _ = Unit {0}

no_point : (turn : Bool) (f : Freezing) (begun : Bool) (o : Option Op) (s : Option Script) → f.frozen ≡ false → turn ≡ false → GoesOn (asked_at turn f) begun o s
no_point turn f begun o None z t = tt
no_point turn f begun o (Some s) z t = (z, rw t refl)

-- there a task that is not frozen goes on
pub goes_on : (m : Machine) (past : List Entry) (who : Actor) (b : Bool) → ThawedActor m (journal past) who b → NoTurn m past who → GoesOnEntry m past who b
goes_on m past (actor.Script i) false z t = no_point _ (freezing m i (journal past)) _ _ (slice_get m.actors i) z t
goes_on m past (actor.Script i) true z t = tt
goes_on m past actor.Auto b z t = tt
goes_on m past (actor.Dev d) b z t = tt
goes_on m past (actor.Timer s) b z t = tt
goes_on m past actor.Time b z t = tt

-- who has a call to make is at no turn
pub note_turn : (m : Machine) (past : List Entry) (who : Actor) (k : Kind) → IsOwnCall m (journal past) (λ t. history t past) who k → NoTurn m past who
note_turn m past (actor.Script i) k c = by_test (made (length m.sources + 1) (λ s. history s past) (actor.Script i) == calls_due m (actor.Script i) (journal past)) refl
  where
    by_test : (b : Bool) → (made (length m.sources + 1) (λ s. history s past) (actor.Script i) == calls_due m (actor.Script i) (journal past)) ≡ b → (b && not (is_calling (length m.sources + 1) (λ s. history s past) (actor.Script i))) ≡ false
    by_test false e = refl
    by_test true e = absurd (past_end (calls_of m (actor.Script i) (journal past)) _ k (same_number _ _ e) c)
note_turn m past actor.Auto k c = tt
note_turn m past (actor.Dev d) k c = tt
note_turn m past (actor.Timer s) k c = tt
note_turn m past actor.Time k c = tt

-- who is inside a call is at no turn
calls_then : (m : Machine) (past : List Entry) → Grown m past → (who : Actor) (s : ℕ) → is_inside (history s past) who ≡ true → is_at_turn m past who ≡ false
calls_then m past g who s i = by_test (is_calling (length m.sources + 1) (λ t. history t past) who) refl
  where
    none : (a : Bool) → (a && false) ≡ false
    none true = refl
    none false = refl

    by_test : (b : Bool) → is_calling (length m.sources + 1) (λ t. history t past) who ≡ b → ((made (length m.sources + 1) (λ t. history t past) who == calls_due m who (journal past)) && not b) ≡ false
    by_test true e = none _
    by_test false e = absurd (outside_all (length m.sources + 1) (λ t. history t past) who s e (owes_there m past s g.there (and_left _ _ i)) i)

pub inside_turn : (m : Machine) (past : List Entry) → Grown m past → (who : Actor) (s : ℕ) → is_inside (history s past) who ≡ true → NoTurn m past who
inside_turn m past g (actor.Script i) s h = calls_then m past g (actor.Script i) s h
inside_turn m past g actor.Auto s h = tt
inside_turn m past g (actor.Dev d) s h = tt
inside_turn m past g (actor.Timer t) s h = tt
inside_turn m past g actor.Time s h = tt
