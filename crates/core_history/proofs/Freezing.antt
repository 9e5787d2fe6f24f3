-- Who has exited, and whom a freeze waits for, as the freezer knows it and as the definitions read it.
use Rattle.std.proofs.Common.{◌≡◌, ℕ, zero, suc, true, false, List, [], ◌∷◌, length, map, replicate, cond, slice_set, refl, sym, ap}
use Rattle.sleep_model.specs.declared.entry.Actor.{Actor}
use Rattle.sleep_model.specs.declared.entry.Actor.TheVariants as actor
use Rattle.sleep_model.specs.declared.entry.Entry.{Entry}
use Rattle.sleep_model.specs.declared.entry.Group.{Group}
use Rattle.sleep_model.specs.declared.entry.Kind.{Kind}
use Rattle.sleep_model.specs.declared.entry.Kind.TheVariants as kind
use Rattle.sleep_model.specs.declared.machine.Machine.{Machine}
use Rattle.sleep_model.specs.declared.machine.Script.{Script}
use Rattle.sleep_model.specs.declared.progress.Freezing.{Freezing}
use Rattle.sleep_model.specs.declared.progress.ScriptPosition.{ScriptPosition}
use Rattle.sleep_model.specs.Freezer.{unasked, freezings, keeps_waiting, left, left_from}
use Rattle.sleep_model.specs.Positions.{PositionEffect, first_position, position_at, position_effect, position_after, positions_after, positions}
use Rattle.sleep_model.specs.Positions.{Exits}
use Rattle.task_freezer.specs.Freezers.{first_freezer, mark_exited, exited_flags_after, freezer_after, left_by, left_of}
use Rattle.core_history.specs.Histories.{exits, freezer_of}

-- ---- who has exited

-- a position of a script that goes on from there, but has neither exited nor come back
preserved_at : (ps : List ScriptPosition) (i : ℕ) (p : ScriptPosition) → p.exited ≡ (position_at ps i).exited → exits (slice_set ps i p) ≡ exits ps
preserved_at [] i p same = refl
preserved_at (x ∷ ps) zero p same = ap (λ b. b ∷ exits ps) same
preserved_at (x ∷ ps) (suc i) p same = ap (λ rest. x.exited ∷ rest) (preserved_at ps i p same)

left_at : (ps : List ScriptPosition) (i : ℕ) (p : ScriptPosition) → p.exited ≡ true → exits (slice_set ps i p) ≡ slice_set (exits ps) i true
left_at [] i p exited_flags = refl
left_at (x ∷ ps) zero p exited_flags = ap (λ b. b ∷ exits ps) exited_flags
left_at (x ∷ ps) (suc i) p exited_flags = ap (λ rest. x.exited ∷ rest) (left_at ps i p exited_flags)

exited_by : (who : Actor) (ps : List ScriptPosition) → exits (positions_after who Exits ps) ≡ mark_exited who (exits ps)
exited_by (actor.Script i) ps = left_at ps i (position_after Exits (position_at ps i)) refl
exited_by _ ps = refl

stays_by : (who : Actor) (part : PositionEffect) (ps : List ScriptPosition) → ((p : ScriptPosition) → (position_after part p).exited ≡ p.exited) → exits (positions_after who part ps) ≡ exits ps
stays_by (actor.Script i) part ps same = preserved_at ps i (position_after part (position_at ps i)) (same (position_at ps i))
stays_by _ part ps same = refl

-- only an exit makes a script exited
exits_move : (who : Actor) (k : Kind) (ps : List ScriptPosition) → exits (positions_after who (position_effect k) ps) ≡ exited_flags_after who k (exits ps)
exits_move who kind.Exit ps = exited_by who ps
exits_move who k ps = stays_by who (position_effect k) ps (λ p. refl)

-- at first nobody has exited
pub none_exited : (n : ℕ) → exits (replicate n first_position) ≡ replicate n false
none_exited zero = refl
none_exited (suc n) = ap (λ rest. false ∷ rest) (none_exited n)

none_asked : (ss : List Script) → map (λ (s : Script). unasked) ss ≡ replicate (length ss) unasked
none_asked [] = refl
none_asked (s ∷ ss) = ap (λ rest. unasked ∷ rest) (none_asked ss)

-- ---- the freezer

-- the freezer of an empty journal is the first one
pub freezer_first : (m : Machine) → first_freezer m.actors ≡ freezer_of m []
freezer_first m = rw (none_asked m.actors, none_exited (length m.actors)) refl

-- an entry moves the freezer as the definitions say
pub freezer_moves : (m : Machine) (e : Entry) (past : List Entry) → freezer_after e.actor e.kind (freezer_of m past) ≡ freezer_of m (e ∷ past)
freezer_moves m e past =
    ap (λ exited_flags. record { scripts = m.actors; freezings = freezings m.actors (e ∷ past); exited_flags = exited_flags }) (sym (exits_move e.actor e.kind (positions (length m.actors) past)))

-- ---- whom a freeze waits for

left_same : (g : Group) (i : ℕ) (ss : List Script) (fs : List Freezing) (ps : List ScriptPosition) → left_by g i ss fs (exits ps) ≡ left_from g i ss fs ps
left_same g i [] fs ps = refl
left_same g i (s ∷ ss) [] ps = refl
left_same g i (s ∷ ss) (f ∷ fs) [] = refl
left_same g i (s ∷ ss) (f ∷ fs) (p ∷ ps) = ap (λ rest. cond (keeps_waiting g s.kind f p) (i ∷ rest) rest) (left_same g (suc i) ss fs ps)

-- a freeze waits for those for whom the freezer waits
pub left_is : (m : Machine) (g : Group) (past : List Entry) → left_of g (freezer_of m past) ≡ left m g past
left_is m g past = left_same g 0 m.actors (freezings m.actors past) (positions (length m.actors) past)
