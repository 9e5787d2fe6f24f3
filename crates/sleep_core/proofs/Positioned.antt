-- There is a position for each script.
use Rattle.std.proofs.Common.{◌≡◌, ◌≤◌, ◌<◌, ◌^◌, ◌⊎◌, inl, inr, ℕ, zero, suc, List, [], ◌∷◌, length, replicate, slice_set, refl, sym, subst, arith}
use Rattle.std.proofs.lemmas.List.{length-set, length-replicate}
use Rattle.sleep_model.specs.declared.entry.Actor.{Actor}
use Rattle.sleep_model.specs.declared.entry.Actor.TheVariants as actor
use Rattle.sleep_model.specs.declared.entry.Entry.{Entry}
use Rattle.sleep_model.specs.declared.entry.JournalEntry.{JournalEntry}
use Rattle.sleep_model.specs.declared.progress.ScriptPosition.{ScriptPosition}
use Rattle.sleep_state.specs.JournalRooms.{entries}
use Rattle.sleep_state.specs.TaskStates.{PositionIsSmall}
use Rattle.sleep_model.specs.Positions.{PositionEffect, Waits, Sets, Sleeps, Reads, Saves, Steps, Exits, Stays, first_position, position_at, position_effect, position_after, positions_after, positions}

after_len : (who : Actor) (p : PositionEffect) (ss : List ScriptPosition) → length (positions_after who p ss) ≡ length ss
after_len (actor.Script i) p ss = grind (arith, length-set)
after_len _ p ss = refl

pub positions_len : (n : ℕ) (past : List Entry) → length (positions n past) ≡ n
positions_len n [] = grind (arith, length-replicate)
positions_len n (e ∷ past) = omega (arith, after_len e.actor (position_effect e.kind) (positions n past), positions_len n past)

-- ---- a script makes no more steps than there are entries

-- what is read after a write: the new value at the index that was written, else the old one
set_read : (ss : List ScriptPosition) (i j : ℕ) (v : ScriptPosition) → (position_at (slice_set ss i v) j ≡ v) ⊎ (position_at (slice_set ss i v) j ≡ position_at ss j)
set_read [] i j v = inr refl
set_read (x ∷ xs) zero zero v = inl refl
set_read (x ∷ xs) zero (suc j) v = inr refl
set_read (x ∷ xs) (suc i) zero v = inr refl
set_read (x ∷ xs) (suc i) (suc j) v = set_read xs i j v

pub first_positions : (n i : ℕ) → position_at (replicate n first_position) i ≡ first_position
first_positions zero i = refl
first_positions (suc n) zero = refl
first_positions (suc n) (suc i) = first_positions n i

-- a position has at most so many steps and turns after it
abbrev FewOf : ℕ → ScriptPosition → Type 0
FewOf n s = (s.done ≤ n) × (s.turns ≤ n)

more_few : (n : ℕ) (s : ScriptPosition) → FewOf n s → FewOf (suc n) s
more_few n s h = (omega (arith, h.0), omega (arith, h.1))

step_few : (n : ℕ) (p : PositionEffect) (s : ScriptPosition) → FewOf n s → FewOf (suc n) (position_after p s)
step_few n Waits s h = more_few n s h
step_few n Sets s h = (omega (arith, h.0), omega (arith, h.1))
step_few n (Sleeps until) s h = more_few n s h
step_few n (Reads c) s h = (omega (arith, h.0), omega (arith, h.1))
step_few n (Saves ok) s h = (omega (arith, h.0), omega (arith, h.1))
step_few n Steps s h = (omega (arith, h.0), omega (arith, h.1))
step_few n Exits s h = more_few n s h
step_few n Stays s h = more_few n s h

steps_few : (n : ℕ) (who : Actor) (p : PositionEffect) (ss : List ScriptPosition) (j : ℕ) → ((i : ℕ) → FewOf n (position_at ss i)) → FewOf (suc n) (position_at (positions_after who p ss) j)
steps_few n (actor.Script i) p ss j h =
    elim (set_read ss i j (position_after p (position_at ss i))) [
      | inl e ↦ subst (FewOf (suc n)) (sym e) (step_few n p (position_at ss i) (h i))
      | inr e ↦ subst (FewOf (suc n)) (sym e) (more_few n (position_at ss j) (h j))
    ]
steps_few n _ p ss j h = more_few n (position_at ss j) (h j)

positions_few : (n : ℕ) (past : List Entry) (i : ℕ) → FewOf (length past) (position_at (positions n past) i)
positions_few n [] i = subst (FewOf 0) (sym (first_positions n i)) (omega arith, omega arith)
positions_few n (e ∷ past) i =
    let h : FewOf (suc (length past)) (position_at (positions n (e ∷ past)) i) = steps_few (length past) e.actor (position_effect e.kind) (positions n past) i (positions_few n past) in
    (omega (arith, h.0), omega (arith, h.1))

pub entries_len : (past : List JournalEntry) → length (entries past) ≡ length past
entries_len [] = refl
entries_len (j ∷ past) = omega (arith, entries_len past)

-- so a script whose entry it is has made few, if the journal is short
pub position_small : (n : ℕ) (past : List JournalEntry) (who : Actor) → length past < 2 ^ 63 → PositionIsSmall who (positions n (entries past))
position_small n past (actor.Script i) short =
    let h = positions_few n (entries past) i in
    record { done = omega (arith, h.0, entries_len past, short); turns = omega (arith, h.1, entries_len past, short) }
position_small n past _ short = tt
