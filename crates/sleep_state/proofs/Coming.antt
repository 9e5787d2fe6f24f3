-- The things whose moment has come, and the scripts whose sleep has.
use Rattle.std.proofs.Common.{◌≡◌, ◌≤◌, ◌<◌, ◌+◌, ◌-◌, ◌*◌, ◌∙◌, ℕ, zero, suc, Bool, true, false, nat_lt, List, [], ◌∷◌, length, drop, map, min, Option, Some, None, slice_index_or, refl, sym, ap, arith}
use Rattle.std.proofs.Math.ListN.{get_or-map}
use Rattle.std.proofs.lemmas.Bool.{false≢true}
use Rattle.std.proofs.lemmas.Bool.Decides.{nat_tests}
use Rattle.std.proofs.lemmas.List.{get_or-drop}
use Rattle.sleep_model.specs.declared.progress.ScriptPosition.{ScriptPosition}
use Rattle.sleep_model.specs.Positions.{first_position, position_at}
use Rattle.sleep_state.specs.Sleepers.{earliest_end, is_later, HasSlept, NoneSlept}
use Rattle.sleep_state.specs.Trees.{never, last, moment_of, least_of, AreLeastBelow}
use Rattle.sleep_state.proofs.Sleeping.{all_later, later_moment, least_end_is}

-- ---- nodes

-- the last nodes are the things' own moments
pub own_come : (many at : ℕ) (nodes : List ℕ) (now : ℕ) → many ≤ at → nat_lt now (slice_index_or nodes at never) ≡ false → nat_lt now (slice_index_or (drop many nodes) (at - many) never) ≡ false
own_come many at nodes now l h =
    ap (nat_lt now) (get_or-drop many nodes (at - many) never ∙ ap (λ (k : ℕ). slice_index_or nodes k never) (let same : many + (at - many) ≡ at = omega (arith, l) in same)) ∙ h

beyond : (nodes : List ℕ) (i : ℕ) → length nodes ≤ i → slice_index_or nodes i never ≡ never
beyond [] i l = refl
beyond (x ∷ xs) zero l = absurd (omega (arith, l))
beyond (x ∷ xs) (suc i) l = beyond xs i (omega (arith, l))

-- a node whose moment has come is there
pub come_within : (nodes : List ℕ) (many at now : ℕ) → length nodes ≡ 2 * many → nat_lt now (slice_index_or nodes at never) ≡ false → now < last → at < 2 * many
come_within nodes many at now size h l = by_size (nat_lt at (length nodes)) refl
  where
    by_size : (b : Bool) → nat_lt at (length nodes) ≡ b → at < 2 * many
    by_size true e = let there : at < length nodes = grind (arith, nat_tests) in omega (arith, there, size)
    by_size false e =
        let out : length nodes ≤ at = grind (arith, nat_tests) in
        let none : slice_index_or nodes at never ≡ never = beyond nodes at out in
        absurd (grind (arith, nat_tests))

other_come : (a b now : ℕ) → nat_lt now (min a b) ≡ false → nat_lt now a ≡ true → nat_lt now b ≡ false
other_come a b now h l = grind (arith, nat_tests)

-- of two nodes below one whose moment has come the other's has, if the first one's has not
pub come_other : (nodes : List ℕ) (many k now : ℕ) → AreLeastBelow many nodes → 0 < k → k < many → nat_lt now (slice_index_or nodes k never) ≡ false → nat_lt now (slice_index_or nodes (2 * k) never) ≡ true → nat_lt now (slice_index_or nodes (2 * k + 1) never) ≡ false
come_other nodes many k now joined some l h later =
    other_come (slice_index_or nodes (2 * k) never) (slice_index_or nodes (2 * k + 1) never) now (ap (nat_lt now) (sym (joined k some l)) ∙ h) later

-- ---- scripts

come_by : (o : Option ℕ) (now : ℕ) → now < last → nat_lt now (moment_of o) ≡ false → is_later o now ≡ false
come_by None now l h = absurd (grind (arith, nat_tests))
come_by (Some u) now l h = grind (arith, nat_tests)

pub slept_of : (positions : List ScriptPosition) (ends : List ℕ) (i now : ℕ) → ends ≡ map (λ (x : ScriptPosition). moment_of x.until) positions → now < last → nat_lt now (slice_index_or ends i never) ≡ false → HasSlept positions i now
slept_of positions ends i now is l h =
    come_by (position_at positions i).until now l
    (ap (nat_lt now) (sym (ap (λ (xs : List ℕ). slice_index_or xs i never) is ∙ get_or-map (λ (x : ScriptPosition). moment_of x.until) positions i first_position)) ∙ h)

position_beyond : (positions : List ScriptPosition) (i : ℕ) → length positions ≤ i → position_at positions i ≡ first_position
position_beyond [] i l = refl
position_beyond (x ∷ xs) zero l = absurd (omega (arith, l))
position_beyond (x ∷ xs) (suc i) l = position_beyond xs i (omega (arith, l))

pub none_of : (positions : List ScriptPosition) (ends : List ℕ) (now : ℕ) → ends ≡ map (λ (x : ScriptPosition). moment_of x.until) positions → nat_lt now (least_of ends) ≡ true → NoneSlept positions now
none_of positions ends now is h i = by_size (nat_lt i (length positions)) refl
  where
    by_size : (b : Bool) → nat_lt i (length positions) ≡ b → is_later (position_at positions i).until now ≡ true
    by_size true e =
        all_later positions (length positions) now (later_moment (earliest_end positions (length positions)) now (ap (nat_lt now) (sym (ap least_of is ∙ least_end_is positions)) ∙ h)) i (grind (arith, nat_tests))
    by_size false e = ap (λ (s : ScriptPosition). is_later s.until now) (position_beyond positions i (grind (arith, nat_tests)))

-- who has slept is one of the scripts
pub slept_within : (positions : List ScriptPosition) (i now : ℕ) → HasSlept positions i now → i < length positions
slept_within [] i now h = absurd (false≢true (sym h))
slept_within (x ∷ xs) zero now h = omega arith
slept_within (x ∷ xs) (suc i) now h = omega (arith, slept_within xs i now h)
