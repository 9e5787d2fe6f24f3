-- Who freezes, and how a freeze ends (kernel/power/process.c, kernel/freezer.c).
use Rattle.std.specs.Prelude.{◌≡◌, ◌==◌, ◌+◌, ℕ, Bool, true, false, not, ◌&&◌, List, length, Option, Some, None, slice_get}
use Rattle.sleep_model.specs.declared.entry.Actor.{Actor}
use Rattle.sleep_model.specs.declared.entry.Actor.TheVariants as actor
use Rattle.sleep_model.specs.declared.entry.Entry.{Entry}
use Rattle.sleep_model.specs.declared.entry.Kind.{Kind}
use Rattle.sleep_model.specs.declared.entry.Kind.TheVariants as kind
use Rattle.sleep_model.specs.declared.machine.Machine.{Machine}
use Rattle.sleep_model.specs.declared.machine.Op.{Op}
use Rattle.sleep_model.specs.declared.machine.Script.{Script}
use Rattle.sleep_model.specs.declared.progress.Due.TheVariants.{Makes}
use Rattle.sleep_model.specs.declared.progress.Freezing.{Freezing}
use Rattle.sleep_model.specs.declared.word.EventNow.{EventNow}
use Rattle.sleep_model.specs.Attempt.{froze_due, freeze_since}
use Rattle.sleep_model.specs.Calls.{calls_due, is_calling, made}
use Rattle.sleep_model.specs.Freezer.{freezing, left}
use Rattle.sleep_model.specs.Tasks.{is_user, freezes_at}
use Rattle.rule_definitions.specs.Questions.{is_maker, position_of, op_of}
use Rattle.sleep_model.specs.Numbers.{numbers}
use Rattle.sleep_model.specs.EntryClasses.{EntryClass, OfJournal, journal}
use Rattle.sleep_model.specs.Sources.{history}

-- a frozen task makes nothing; one that is asked says at a freeze point that it freezes, and nothing else; nobody else says so
-- (try_to_freeze, __refrigerator)
abbrev pub FreezesBy : Freezing → Bool → Kind → Type 0
FreezesBy f point kind.Frozen = (f.frozen ≡ false) × ((f.asked && point) ≡ true)
FreezesBy f point _ = (f.frozen ≡ false) × ((f.asked && point) ≡ false)

-- nobody else says that it freezes (__refrigerator)
abbrev pub FreezesNot : Kind → Type 0
FreezesNot kind.Frozen = ⊥
FreezesNot _ = Unit {0}

-- so for a task of that kind at its operation (try_to_freeze)
abbrev pub FreezesTask : Freezing → Bool → Option Op → Option Script → Kind → Type 0
FreezesTask f begun op None k = FreezesNot k
FreezesTask f begun op (Some s) k = FreezesBy f (freezes_at (is_user s.kind) begun op) k

-- tasks outside attempts of their own freeze if they are asked to, and nobody else does (try_to_freeze)
abbrev pub FreezesActor : Machine → List Entry → Actor → Bool → Kind → Type 0
FreezesActor m past (actor.Script i) false k = FreezesTask (freezing m i past) (position_of m past i).waits (op_of m past i) (slice_get m.actors i) k
FreezesActor m past _ _ k = FreezesNot k

-- a freeze ends by who is left, by its time, or by a wakeup, and only if it has begun (try_to_freeze_tasks)
abbrev pub FreezeEnds : Machine → List Entry → EventNow → Option ℕ → Kind → Type 0
FreezeEnds m past now None (kind.Froze g end) = ⊥
FreezeEnds m past now (Some since) (kind.Froze g end) = froze_due past now g since (left m g past) ≡ Makes (kind.Froze g end)
FreezeEnds m past now _ _ = Unit {0}

-- tasks freeze if they are asked to, and a freeze ends rightly (try_to_freeze, try_to_freeze_tasks)
abbrev pub KeepsFreezer : Machine → List Entry → EventNow → Actor → Kind → Type 0
KeepsFreezer m past now who k = FreezesActor m past who (is_maker past who) k × FreezeEnds m past now (freeze_since past) k

-- ---- among all entries

-- a task is at its turn before an entry of the journal: it has made the calls that come before that, and is inside none
-- (wakeup_source_report_event)
abbrev pub is_at_turn : Machine → List Entry → Actor → Bool
is_at_turn m past who =
    (made (length m.sources + 1) (λ s. history s past) who == calls_due m who (journal past))
    && not (is_calling (length m.sources + 1) (λ s. history s past) who)

-- what a task is asked as far as a freeze point may be its next step: nothing before a call and inside of one (try_to_freeze)
abbrev pub asked_at : Bool → Freezing → Freezing
asked_at turn f = record f { asked = turn && f.asked }

-- so for script i (try_to_freeze)
abbrev pub asked_now : Machine → List Entry → ℕ → Freezing
asked_now m past i = asked_at (is_at_turn m past (actor.Script i)) (freezing m i (journal past))

-- tasks outside attempts of their own freeze if they are asked to and come to it, and nobody else does (try_to_freeze)
abbrev pub FreezesEntry : Machine → List Entry → Actor → Bool → Kind → Type 0
FreezesEntry m past (actor.Script i) false k =
    FreezesTask (asked_now m past i) (position_of m (journal past) i).waits (op_of m (journal past) i) (slice_get m.actors i) k
FreezesEntry m past _ _ k = FreezesNot k

-- a task of that kind makes no call, nor a step of one, while it is frozen, or asked at a freeze point (__refrigerator, try_to_freeze)
abbrev pub GoesOn : Freezing → Bool → Option Op → Option Script → Type 0
GoesOn f begun op None = Unit {0}
GoesOn f begun op (Some s) = (f.frozen ≡ false) × ((f.asked && freezes_at (is_user s.kind) begun op) ≡ false)

-- so for tasks outside attempts of their own (__refrigerator, try_to_freeze)
abbrev pub GoesOnEntry : Machine → List Entry → Actor → Bool → Type 0
GoesOnEntry m past (actor.Script i) false =
    GoesOn (asked_now m past i) (position_of m (journal past) i).waits (op_of m (journal past) i) (slice_get m.actors i)
GoesOnEntry m past _ _ = Unit {0}

-- tasks freeze if they are asked to and come to it, frozen ones make nothing, and a freeze ends rightly (try_to_freeze,
-- try_to_freeze_tasks)
abbrev pub FreezerEntry : Machine → List Entry → Entry → EntryClass → Type 0
FreezerEntry m past e OfJournal =
    FreezesEntry m past e.actor (is_maker (journal past) e.actor) e.kind
    × FreezeEnds m (journal past) (numbers past) (freeze_since (journal past)) e.kind
FreezerEntry m past e _ = GoesOnEntry m past e.actor (is_maker (journal past) e.actor)
