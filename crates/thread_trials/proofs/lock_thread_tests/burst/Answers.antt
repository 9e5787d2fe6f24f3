-- Proof that `burst` meets its contract, and that it meets what `map_vec` requires.
use Rattle.std.proofs.Common.{rules, arith, ◌≡◌, ◌<◌, ◌∙◌, get_or, length, map, List, [], ◌∷◌, ℕ, zero, suc, sym, ap, subst}
use Rattle.std.proofs.lemmas.List.{length-map}
use mathlib.Core.Option.{some, some-injective, some-ne-none}
use lib.ListN.{get_elem?}
use Rattle.atomic_table.proofs.Lists.{at_index, at_map}
use Rattle.atomic_table.specs.Seated.{TableId}
use Rattle.thread_trials.specs.declared.list_tests.PassHolder.{PassHolder}
use Rattle.turn_lock.specs.declared.table.Pass.{Pass}
use Rattle.thread_trials.specs.declared.lock_tests.NumberList.{NumberList}
use Rattle.turn_lock.specs.Passes.{LockToken, IsPass, IsPassOf, AreAll, first_of, number_of}
use Rattle.turn_lock.specs.Passing.{tokens}
use Rattle.turn_lock.proofs.Invariance.{there}
use Rattle.turn_lock.proofs.LastPasses.{all_back, one_of_all, one_of_all_alone}
use Rattle.thread_trials.proofs.lock_thread_tests.burst.Goals as goal

module _ {A : Type 0} where
  read_at : (xs : List A) (k : ℕ) (x d : A) → get_elem? xs k ≡ some x → get_or xs k d ≡ x
  read_at [] k x d e = absurd (some-ne-none x (sym e))
  read_at (y ∷ ys) zero x d e = some-injective y x e
  read_at (y ∷ ys) (suc k) x d e = read_at ys k x d e

pub map_vec-requires-after_bounds : goal.map_vec-requires-after_bounds
map_vec-requires-after_bounds g c κs within = λ i x low e.
    let is = one_of_all_alone c.args.locks.now.own _ 2 c.args.passes.items i x c.args.locks.now.seated c.requires.objects c.requires.passes.all_are low e in
    (is.0, c.requires.passes.empty i x.token (at_map (λ (q : Pass NumberList ℕ). q.token) c.args.passes.items i x (at_index c.args.passes.items i x low e)), is.1)

-- what a worker hands back is its own pass
returned : (own : LockToken NumberList ℕ) (z : TableId) (job back : LockToken NumberList ℕ) → own.table_id ≡ z → IsPassOf own job → IsPass z (first_of job) back → IsPassOf own back
returned own z job back table is done = subst (λ t. IsPass t (first_of own) back) (sym table) (subst (λ l. IsPass z l back) is.first_is done)

all_done : (own : LockToken NumberList ℕ) (z : TableId) (passes : List (Pass NumberList ℕ)) (workers : List PassHolder) → own.table_id ≡ z → AreAll own (tokens passes) → length workers ≡ length passes
    → ((k : ℕ) (w : PassHolder) → k < length passes → (job : Pass NumberList ℕ) × (job ≡ get_or passes k job) × IsPass z (first_of job.token) (get_or workers k w).pass.token × (number_of (get_or workers k w).pass.token ≡ number_of job.token))
    → AreAll own (tokens (map (λ (w : PassHolder). w.pass) workers))
all_done own z passes workers table are same each = all_back own passes (map (λ (w : PassHolder). w.pass) workers) are (length-map workers (λ (w : PassHolder). w.pass) ∙ same) (λ i d low.
    let w = there workers i (omega arith) in
    let e = each i w.0 low in
    let at = at_index passes i e.0 low e.1 in
    let now : get_or workers i w.0 ≡ w.0 = read_at workers i w.0 w.0 w.1 in
    let back : get_or (map (λ (w : PassHolder). w.pass) workers) i d ≡ (get_or workers i w.0).pass = read_at _ i w.0.pass d (at_map (λ (w : PassHolder). w.pass) workers i w.0 w.1) ∙ ap (λ (x : PassHolder). x.pass) (sym now) in
    let was : get_or passes i d ≡ e.0 = read_at passes i e.0 d at in (
      subst (λ (p : Pass NumberList ℕ). IsPassOf own p.token) (sym back) (returned own z e.0.token _ table (one_of_all own passes i e.0 are low e.1) e.2),
      ap (λ (p : Pass NumberList ℕ). number_of p.token) back ∙ (e.3 ∙ ap (λ (p : Pass NumberList ℕ). number_of p.token) (sym was)),
    ))

pub returns : goal.returns
returns g c = all_done c.args.locks.now.own _ c.args.passes.items c.in_ok-workers.workers.items c.args.locks.now.seated c.requires.passes.all_are (search rules)
    (λ k w low. let e = c.in_ok-workers.ensures.each k w low in let j = e.1 in (j.job, j.job_read, j.call.met.0, j.call.met.1))
