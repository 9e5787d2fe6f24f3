-- The lists of the account, read at one index.
use Rattle.std.proofs.Common.{◌≡◌, ◌&&◌, ◌||◌, ℕ, suc, zero, Bool, true, false, if◌then◌else◌, List, [], ◌∷◌, Option, Some, None, find, map, refl, ap, slice_get}
use Rattle.std.specs.List.{list_any}
use Rattle.phase_table.specs.declared.phase.Phase.{Phase}
use Rattle.phase_table.specs.declared.phase.Phase.TheVariants as phase
use Rattle.sleep_model.specs.declared.entry.Entry.{Entry}
use Rattle.sleep_model.specs.declared.machine.Device.{Device}
use Rattle.sleep_model.specs.Runtime.{is_async}
use Rattle.sleep_model.specs.PhaseStates.{phase_states}
use Rattle.sleep_model.specs.Walk.{is_so}
use Rattle.check_account.specs.PairStates.{pairs_of, states_on}
use Rattle.std.proofs.Common.{◌∙◌, length}
use Rattle.std.proofs.lemmas.List.{length-set, length-replicate}
use Rattle.sleep_model.specs.declared.entry.Actor.{Actor}
use Rattle.sleep_model.specs.declared.entry.Actor.TheVariants as actor
use Rattle.sleep_model.specs.declared.progress.ScriptPosition.{ScriptPosition}
use Rattle.sleep_model.specs.Positions.{PositionEffect, first_position, position_effect, positions, positions_after}

pub states_are : (n : ℕ) (past : List Entry) (p : Phase) → states_on (pairs_of n past) p ≡ phase_states n p past
states_are n past phase.Prepare = refl
states_are n past phase.Suspend = refl
states_are n past phase.Late = refl
states_are n past phase.Noirq = refl
states_are n past phase.Syscore = refl
states_are n past phase.SyscoreResume = refl
states_are n past phase.ResumeNoirq = refl
states_are n past phase.Early = refl
states_are n past phase.Resume = refl
states_are n past phase.Complete = refl

-- the flag of a device, if there is one
abbrev pub flag_of : (Device → Bool) → Option Device → Bool
flag_of f None = false
flag_of f (Some d) = f d

pub flag_is : (f : Device → Bool) (ds : List Device) (i : ℕ) → is_so (map f ds) i ≡ flag_of f (slice_get ds i)
flag_is f [] i = refl
flag_is f (d ∷ ds) zero = refl
flag_is f (d ∷ ds) (suc i) = flag_is f ds i

-- ---- no device is asynchronous

neither : (a b : Bool) → (a || b) ≡ false → (a ≡ false) × (b ≡ false)
neither false b e = (refl, e)
neither true b e = absurd (cc)

not_so : (ds : List Device) (i : ℕ) → list_any is_async ds ≡ false → is_so (map is_async ds) i ≡ false
not_so [] i h = refl
not_so (d ∷ ds) zero h = (neither (is_async d) (list_any is_async ds) h).0
not_so (d ∷ ds) (suc i) h = not_so ds i (neither (is_async d) (list_any is_async ds) h).1

not_both : (a b : Bool) → b ≡ false → (a && b) ≡ false
not_both true b h = h
not_both false b h = refl

pub none_async : (p : ℕ → Bool) (ds : List Device) (order : List ℕ) → list_any is_async ds ≡ false → find (λ d. p d && is_so (map is_async ds) d) order ≡ None
none_async p ds [] h = refl
none_async p ds (x ∷ xs) h =
    ap (λ b. if b then Some x else find (λ d. p d && is_so (map is_async ds) d) xs) (not_both (p x) (is_so (map is_async ds) x) (not_so ds x h))
    ∙ none_async p ds xs h

-- ---- each script has its entry in the lists

position_len : (a : Actor) (p : PositionEffect) (xs : List ScriptPosition) → length (positions_after a p xs) ≡ length xs
position_len (actor.Script i) p xs = length-set xs i _
position_len _ p xs = refl

pub positions_len : (n : ℕ) (past : List Entry) → length (positions n past) ≡ n
positions_len n [] = length-replicate n first_position
positions_len n (e ∷ past) = position_len e.actor (position_effect e.kind) (positions n past) ∙ positions_len n past
