-- Proof that `found` meets its contract.
use Rattle.std.proofs.Common.{◌≡◌, ℕ, List, [], ◌∷◌, ◌++◌, length, refl, sym, subst, arith}
use Rattle.sleep_model.specs.declared.journal.Moment.{Moment}
use Rattle.sleep_model.specs.Journals.{IsFound}
use Rattle.sleep_model.proofs.Journals.{found_new}
use Rattle.sleep_model.proofs.journal.found.Goals as goal

pub returns-clause-found : goal.returns-clause-found
returns-clause-found c =
    let old : List Moment = c.args.moments.now.items in
    let x : Moment = record { time = c.args.one.entry.time; now = c.args.one.entry.now; stamp = c.args.one.stamp } in
    let count : c.len-count.result ≡ length old = omega (arith, c.len-count.ensures, c.args.moments.now.ok) in
    subst (λ (ms : List Moment). IsFound c.args.one old ms c.len-count.result 0) (sym c.push_reserved.ensures.items)
    (subst (λ (n : ℕ). IsFound c.args.one old (old ++ x ∷ []) n 0) (sym count) (found_new old c.args.one x refl))
