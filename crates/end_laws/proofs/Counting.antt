-- Each entry of a journal that is no jump raises one of four counts, and none falls: entries of attempts, tasks that freeze, steps of
-- scripts, the work's.
use Rattle.std.proofs.Common.{◌≡◌, ◌≤◌, ◌<◌, ◌+◌, ◌*◌, ◌∙◌, ◌⊎◌, inl, inr, ℕ, zero, suc, Bool, true, false, not, ◌&&◌, ◌||◌, List, [], ◌∷◌, length, Option, slice_set, refl, sym, ap, subst, arith}
use Rattle.std.proofs.lemmas.Bool.{true≢false}
use Rattle.sleep_model.specs.declared.entry.Actor.{Actor}
use Rattle.sleep_model.specs.declared.entry.Actor.TheVariants as actor
use Rattle.sleep_model.specs.declared.entry.Entry.{Entry}
use Rattle.sleep_model.specs.declared.entry.Kind.{Kind}
use Rattle.sleep_model.specs.declared.entry.Kind.TheVariants as kind
use Rattle.sleep_model.specs.declared.machine.Machine.{Machine}
use Rattle.sleep_model.specs.declared.machine.Op.{Op}
use Rattle.sleep_model.specs.declared.progress.ScriptPosition.{ScriptPosition}
use Rattle.sleep_model.specs.declared.word.EventNow.{EventNow}
use Rattle.sleep_model.specs.Devices.{is_device}
use Rattle.sleep_model.specs.Legal.{JournalPart}
use Rattle.sleep_model.specs.Path.{is_actor, is_same, maker}
use Rattle.sleep_model.specs.Places.{one_if}
use Rattle.sleep_model.specs.Positions.{PositionEffect, Waits, Sets, Sleeps, Reads, Saves, Steps, Exits, Stays, position_after, position_at, position_effect, positions, positions_after}
use Rattle.sleep_laws.proofs.Made.{StepMade, TaskMade, EntryMade, ByMaker, ByTask, ByWork, ByDevice, ByTime, position_of}
use Rattle.sleep_laws.proofs.MakingOwn.{entry_made}
use Rattle.std.proofs.lemmas.Option.{slice_get_within}
use Rattle.room_laws.proofs.Summing.{total}
use Rattle.room_laws.proofs.Sitting.{positions_len}
use Rattle.room_laws.specs.AttemptRoom.{is_attempt}
use Rattle.end_laws.specs.Attempts.{is_own}
use Rattle.end_laws.specs.Bounds.{but_jumps, one_but_jump}

-- ---- what is counted

-- an entry of an attempt: its first, its maker's, or a device's
abbrev pub is_spent : List Entry → Entry → Bool
is_spent past e = is_attempt e.kind || is_own past e

abbrev pub spent : List Entry → ℕ
spent [] = 0
spent (e ∷ past) = one_if (is_spent past e) + spent past

-- a task freezes
abbrev pub is_frozen : Kind → Bool
is_frozen kind.Frozen = true
is_frozen _ = false

abbrev pub froze : List Entry → ℕ
froze [] = 0
froze (e ∷ past) = one_if (is_frozen e.kind) + froze past

-- the autosleep work makes it, outside its attempts
abbrev pub is_worked : List Entry → Entry → Bool
is_worked past e = is_same e.actor actor.Auto && not (is_spent past e)

abbrev pub worked : List Entry → ℕ
worked [] = 0
worked (e ∷ past) = one_if (is_worked past e) + worked past

-- how far a script has come: twice the steps that it has done, one more in a step that waits, and one more after its exit
abbrev pub far : ScriptPosition → ℕ
far s = 2 * s.done + (one_if s.waits + one_if s.exited)

abbrev pub stepped : Machine → List Entry → ℕ
stepped m past = total far (positions (length m.actors) past)

-- ---- scripts

-- such an entry takes a script further
abbrev GoesFurther : PositionEffect → ScriptPosition → Type 0
GoesFurther Waits position = position.waits ≡ false
GoesFurther Sets position = position.waits ≡ false
GoesFurther (Sleeps until) position = position.waits ≡ false
GoesFurther Exits position = position.exited ≡ false
GoesFurther Stays position = ⊥
GoesFurther _ position = Unit {0}

one_at_most : (b : Bool) → one_if b ≤ 1
one_at_most true = omega arith
one_at_most false = omega arith

no_further : (part : PositionEffect) (s : ScriptPosition) → far s ≤ far (position_after part s)
no_further Waits s = omega (arith, one_at_most s.waits)
no_further Sets s = omega (arith, one_at_most s.waits)
no_further (Sleeps until) s = omega (arith, one_at_most s.waits)
no_further (Reads c) s = omega (arith, one_at_most s.waits)
no_further (Saves ok) s = omega (arith, one_at_most s.waits)
no_further Steps s = omega (arith, one_at_most s.waits)
no_further Exits s = omega (arith, one_at_most s.exited)
no_further Stays s = omega arith

further : (part : PositionEffect) (s : ScriptPosition) → GoesFurther part s → far s + 1 ≤ far (position_after part s)
further Waits s h = omega (arith, ap one_if h)
further Sets s h = omega (arith, ap one_if h)
further (Sleeps until) s h = omega (arith, ap one_if h)
further (Reads c) s h = omega (arith, one_at_most s.waits)
further (Saves ok) s h = omega (arith, one_at_most s.waits)
further Steps s h = omega (arith, one_at_most s.waits)
further Exits s h = omega (arith, ap one_if h)
further Stays s h = absurd h

-- a script among others that goes so much further takes them all so much further
pub set_further : (xs : List ScriptPosition) (i : ℕ) (y : ScriptPosition) (n : ℕ) → i < length xs → far (position_at xs i) + n ≤ far y → total far xs + n ≤ total far (slice_set xs i y)
set_further [] i y n l h = absurd (omega arith)
set_further (x ∷ xs) zero y n l h = omega (arith, h)
set_further (x ∷ xs) (suc i) y n l h = omega (arith, set_further xs i y n (omega (arith, l)) h)

set_no_further : (xs : List ScriptPosition) (i : ℕ) (part : PositionEffect) → total far xs ≤ total far (slice_set xs i (position_after part (position_at xs i)))
set_no_further [] i part = omega arith
set_no_further (x ∷ xs) zero part = omega (arith, no_further part x)
set_no_further (x ∷ xs) (suc i) part = omega (arith, set_no_further xs i part)

after_no_further : (a : Actor) (part : PositionEffect) (xs : List ScriptPosition) → total far xs ≤ total far (positions_after a part xs)
after_no_further (actor.Script i) part xs = set_no_further xs i part
after_no_further actor.Auto part xs = omega arith
after_no_further (actor.Dev d) part xs = omega arith
after_no_further (actor.Timer s) part xs = omega arith
after_no_further actor.Time part xs = omega arith

-- a step that is no attempt takes its script further
step_further : (m : Machine) (past : List Entry) (now : EventNow) (position : ScriptPosition) (asked : Bool) (o : Option Op) (k : Kind) → StepMade m past now position asked o k → position.exited ≡ false → (is_attempt k ≡ true) ⊎ GoesFurther (position_effect k) position
step_further m past now position asked _ _ StepMade.Exits there = inr there
step_further m past now position asked _ _ (StepMade.Attempts text s f o) there = inl refl
step_further m past now position asked _ _ (StepMade.ReadWaits e w) there = inr w
step_further m past now position asked _ _ (StepMade.SaveWaits c count w) there = inr w
step_further m past now position asked _ _ (StepMade.StateWaits text s w) there = inr w
step_further m past now position asked _ _ (StepMade.AutoSets text s w f) there = inr w
step_further m past now position asked _ _ (StepMade.Sleeps ms u w) there = inr w
step_further m past now position asked _ _ (StepMade.SleepsD ms u w) there = inr w
step_further m past now position asked _ _ _ there = inr tt

-- ---- each entry

pub one_or : (a b : Bool) → b ≡ true → (a || b) ≡ true
one_or true b e = refl
one_or false b e = e

pub or_first : (a b : Bool) → a ≡ true → (a || b) ≡ true
or_first true b e = refl
or_first false b e = absurd (true≢false (sym e))

pub one_more_at_most : (k : Kind) (n : ℕ) → one_but_jump k n ≤ n + 1
one_more_at_most kind.Jump n = omega arith
one_more_at_most _ n = omega arith

spent_or_worked : (b : Bool) → 1 ≤ one_if b + one_if (not b)
spent_or_worked true = omega arith
spent_or_worked false = omega arith

-- what an entry counts for, and how far scripts have come by it
abbrev Counts : Machine → List Entry → Entry → Type 0
Counts m past e = one_but_jump e.kind (stepped m past) ≤ one_if (is_spent past e) + (one_if (is_frozen e.kind) + (one_if (is_worked past e) + stepped m (e ∷ past)))

module _ (m : Machine) (past : List Entry) (e : Entry) where
  no_less : stepped m past ≤ stepped m (e ∷ past)
  no_less = after_no_further e.actor (position_effect e.kind) (positions (length m.actors) past)

  by_spent : is_spent past e ≡ true → Counts m past e
  by_spent h = omega (arith, one_more_at_most e.kind (stepped m past), no_less, ap one_if h)

  by_frozen : is_frozen e.kind ≡ true → Counts m past e
  by_frozen h = omega (arith, one_more_at_most e.kind (stepped m past), no_less, ap one_if h)

  by_step : (i : ℕ) → e.actor ≡ actor.Script i → i < length m.actors → GoesFurther (position_effect e.kind) (position_of m past i) → Counts m past e
  by_step i a l h =
      let within : i < length (positions (length m.actors) past) = omega (arith, l, positions_len (length m.actors) past) in
      let set : stepped m past + 1 ≤ total far (slice_set (positions (length m.actors) past) i (position_after (position_effect e.kind) (position_of m past i))) =
      set_further (positions (length m.actors) past) i (position_after (position_effect e.kind) (position_of m past i)) 1 within (further (position_effect e.kind) (position_of m past i) h) in
      let new : stepped m past + 1 ≤ stepped m (e ∷ past) = subst (λ (x : Actor). stepped m past + 1 ≤ total far (positions_after x (position_effect e.kind) (positions (length m.actors) past))) (sym a) set in
      omega (arith, one_more_at_most e.kind (stepped m past), new)

  counts : (who : Actor) (k : Kind) → EntryMade m past e.now who k → e.actor ≡ who → e.kind ≡ k → Counts m past e
  counts who k (ByMaker _ here there _ a at c x) w t = by_spent (one_or (is_attempt e.kind) (is_own past e) (or_first (is_actor e.actor (maker past)) (is_device e.actor) (ap (λ x. is_actor x (maker past)) w ∙ a)))
  counts _ _ (ByTask i _ a (TaskMade.Freezes s go asked)) w t = by_frozen (ap is_frozen t)
  counts _ k (ByTask i _ a (TaskMade.Steps s _ o go at x)) w t = by_kind (step_further m past e.now (position_of m past i) _ o k x go.there)
    where
      by_kind : (is_attempt k ≡ true) ⊎ GoesFurther (position_effect k) (position_of m past i) → Counts m past e
      by_kind (inl y) = by_spent (or_first (is_attempt e.kind) (is_own past e) (ap is_attempt t ∙ y))
      by_kind (inr y) = by_step i w (slice_get_within m.actors i s go.script) (subst (λ (z : Kind). GoesFurther (position_effect z) (position_of m past i)) (sym t) y)
  counts _ k (ByWork v _ a s o at x) w t =
      let mine : one_if (is_worked past e) ≡ one_if (not (is_spent past e)) = ap (λ x. one_if (is_same x actor.Auto && not (is_spent past e))) w in
      omega (arith, one_more_at_most e.kind (stepped m past), no_less, mine, spent_or_worked (is_spent past e))
  counts _ k (ByDevice d _ a x) w t = by_spent (one_or (is_attempt e.kind) (is_own past e) (one_or (is_actor e.actor (maker past)) (is_device e.actor) (ap is_device w)))
  counts _ _ ByTime w t = subst (λ (k : Kind). one_but_jump k (stepped m past) ≤ one_if (is_spent past e) + (one_if (is_frozen e.kind) + (one_if (is_worked past e) + stepped m (e ∷ past)))) (sym t) (omega (arith, no_less))

-- an entry more or none
pub one_same : (k : Kind) (a b : ℕ) → one_but_jump k (a + b) ≡ one_but_jump k a + b
one_same kind.Jump a b = refl
one_same _ a b = omega arith

pub one_most : (k : Kind) (a b : ℕ) → a ≤ b → one_but_jump k a ≤ one_but_jump k b
one_most kind.Jump a b h = h
one_most _ a b h = omega (arith, h)

-- a journal has no more entries but jumps than all counts come to
pub counted : (m : Machine) (past : List Entry) → JournalPart m past → but_jumps past ≤ spent past + (froze past + (worked past + stepped m past))
counted m [] h = omega arith
counted m (e ∷ past) h =
    let now : Counts m past e = counts m past e e.actor e.kind (entry_made m past e h) refl refl in
    let before = one_most e.kind (but_jumps past) (spent past + (froze past + (worked past + stepped m past))) (counted m past h.1) in
    let moved : one_but_jump e.kind (spent past + (froze past + (worked past + stepped m past))) ≡ one_but_jump e.kind (stepped m past) + (spent past + (froze past + worked past)) =
    ap (one_but_jump e.kind) (omega arith) ∙ one_same e.kind (stepped m past) (spent past + (froze past + worked past)) in
    omega (arith, now, before, moved)
