-- A freeze or a thaw of all tasks, one task after another.
use Rattle.std.proofs.Common.{◌≡◌, ◌<◌, ◌≤◌, ◌+◌, ℕ, zero, suc, List, [], ◌∷◌, length, refl, sym, ap, subst, arith, slice_set, slice_index_or}
use Rattle.sleep_model.specs.declared.entry.Actor.{Actor}
use Rattle.sleep_model.specs.declared.entry.Group.{Group}
use Rattle.sleep_model.specs.declared.entry.Thaw.{Thaw}
use Rattle.sleep_model.specs.declared.machine.Script.{Script}
use Rattle.sleep_model.specs.declared.progress.Freezing.{Freezing}
use Rattle.sleep_model.specs.Freezer.{asked_by, all_asked, let_go, all_let_go}
use Rattle.check_account.specs.Fronts.{asked_front, front_let_go}

asked_next : (k : ℕ) (g : Group) (who : Actor) (i j : ℕ) (ss : List Script) (fs : List Freezing) (d : Script) (e : Freezing) → j ≡ i + k → length fs ≡ length ss → k < length ss → slice_set (asked_front k g who i ss fs) k (asked_by g who j (slice_index_or ss k d).kind (slice_index_or (asked_front k g who i ss fs) k e)) ≡ asked_front (suc k) g who i ss fs
asked_next k g who i j [] fs d e at all within = absurd (omega arith)
asked_next k g who i j (s ∷ ss) [] d e at all within = absurd (omega arith)
asked_next zero g who i j (s ∷ ss) (f ∷ fs) d e at all within = subst (λ n. asked_by g who n s.kind f ∷ fs ≡ asked_by g who i s.kind f ∷ fs) (sym at) (subst (λ n. asked_by g who n s.kind f ∷ fs ≡ asked_by g who i s.kind f ∷ fs) (omega arith) refl)
asked_next (suc k) g who i j (s ∷ ss) (f ∷ fs) d e at all within = ap (λ rest. asked_by g who i s.kind f ∷ rest) (asked_next k g who (suc i) j ss fs d e (omega arith) (omega arith) (omega arith))

-- one more task is asked
pub asked_more : (k n : ℕ) (g : Group) (who : Actor) (ss : List Script) (fs now : List Freezing) (d : Script) (e f : Freezing) → n ≡ suc k → now ≡ asked_front k g who 0 ss fs → f ≡ asked_by g who k (slice_index_or ss k d).kind (slice_index_or now k e) → length fs ≡ length ss → k < length ss → slice_set now k f ≡ asked_front n g who 0 ss fs
asked_more k n g who ss fs now d e f next is made all within = rw (next, made, is) (asked_next k g who 0 k ss fs d e (omega arith) all within)

-- once all are asked, the freeze has asked them
pub asked_all : (k : ℕ) (g : Group) (who : Actor) (i : ℕ) (ss : List Script) (fs : List Freezing) → length fs ≡ length ss → length ss ≤ k → asked_front k g who i ss fs ≡ all_asked g who i ss fs
asked_all zero g who i [] [] all over = refl
asked_all (suc k) g who i [] [] all over = refl
asked_all k g who i [] (f ∷ fs) all over = absurd (omega arith)
asked_all k g who i (s ∷ ss) [] all over = absurd (omega arith)
asked_all zero g who i (s ∷ ss) (f ∷ fs) all over = absurd (omega arith)
asked_all (suc k) g who i (s ∷ ss) (f ∷ fs) all over = ap (λ rest. asked_by g who i s.kind f ∷ rest) (asked_all k g who (suc i) ss fs (omega arith) (omega arith))

let_go_next : (k : ℕ) (those : Thaw) (ss : List Script) (fs : List Freezing) (d : Script) (e : Freezing) → length fs ≡ length ss → k < length ss → slice_set (front_let_go k those ss fs) k (let_go those (slice_index_or ss k d).kind (slice_index_or (front_let_go k those ss fs) k e)) ≡ front_let_go (suc k) those ss fs
let_go_next k those [] fs d e all within = absurd (omega arith)
let_go_next k those (s ∷ ss) [] d e all within = absurd (omega arith)
let_go_next zero those (s ∷ ss) (f ∷ fs) d e all within = refl
let_go_next (suc k) those (s ∷ ss) (f ∷ fs) d e all within = ap (λ rest. let_go those s.kind f ∷ rest) (let_go_next k those ss fs d e (omega arith) (omega arith))

-- one more task is let go
pub let_go_more : (k n : ℕ) (those : Thaw) (ss : List Script) (fs now : List Freezing) (d : Script) (e f : Freezing) → n ≡ suc k → now ≡ front_let_go k those ss fs → f ≡ let_go those (slice_index_or ss k d).kind (slice_index_or now k e) → length fs ≡ length ss → k < length ss → slice_set now k f ≡ front_let_go n those ss fs
let_go_more k n those ss fs now d e f next is made all within = rw (next, made, is) (let_go_next k those ss fs d e all within)

-- once all are let go, the thaw is done
pub let_go_all : (k : ℕ) (those : Thaw) (ss : List Script) (fs : List Freezing) → length fs ≡ length ss → length ss ≤ k → front_let_go k those ss fs ≡ all_let_go those ss fs
let_go_all zero those [] [] all over = refl
let_go_all (suc k) those [] [] all over = refl
let_go_all k those [] (f ∷ fs) all over = absurd (omega arith)
let_go_all k those (s ∷ ss) [] all over = absurd (omega arith)
let_go_all zero those (s ∷ ss) (f ∷ fs) all over = absurd (omega arith)
let_go_all (suc k) those (s ∷ ss) (f ∷ fs) all over = ap (λ rest. let_go those s.kind f ∷ rest) (let_go_all k those ss fs (omega arith) (omega arith))
