-- The order of the one log is a strict weak order.
use Rattle.std.proofs.Common.{◌≡◌, ℕ, ◌+◌, ◌<◌, ◌≤◌, Bool, true, false, arith}
use Rattle.std.proofs.lemmas.Bool.Decides.{nat_tests}
use Rattle.std.proofs.lemmas.List.Sorted.{IsStrictWeakOrder-by_number}
use Rattle.std.specs.Cmp.{IsStrictWeakOrder}
use Rattle.sleep_model.specs.declared.entry.JournalEntry.{JournalEntry}
use Rattle.sleep_model.specs.Merge.{actor_number, actor_rank, before_or, precedes, step_number}

before_once : (a b : ℕ) (r s : Bool) → (r ≡ true → s ≡ false) → before_or a b r ≡ true → before_or b a s ≡ false
before_once a b r s h e = grind (arith, nat_tests)

before_chain : (a b c : ℕ) (r s t : Bool) → (r ≡ false → s ≡ false → t ≡ false)
    → before_or a b r ≡ false → before_or b c s ≡ false → before_or a c t ≡ false
before_chain a b c r s t h p q = grind (arith, nat_tests)

-- by a number, then by another order
then_by : {X : Type 0} (n : X → ℕ) (rest : X → X → Bool) → IsStrictWeakOrder rest
    → IsStrictWeakOrder (λ x y. before_or (n x) (n y) (rest x y))
then_by n rest o = record {
  one_way = λ x y. before_once (n x) (n y) (rest x y) (rest y x) (o.one_way x y);
  chain = λ x y z. before_chain (n x) (n y) (n z) (rest x y) (rest y z) (rest x z) (o.chain x y z);
}

pub log_order : IsStrictWeakOrder precedes
log_order =
    then_by (λ (e : JournalEntry). e.stamp.pos) _ (then_by step_number _ (then_by (λ (e : JournalEntry). e.stamp.tick) _
    (then_by (λ (e : JournalEntry). actor_rank e.entry.actor) _
    (IsStrictWeakOrder-by_number (λ (e : JournalEntry). actor_number e.entry.actor)))))

-- the same of what is seen through f
pub order_through : {X : Type 0} (f : X → JournalEntry) → IsStrictWeakOrder (λ x y. precedes (f x) (f y))
order_through f = record {
  one_way = λ x y. log_order.one_way (f x) (f y);
  chain = λ x y z. log_order.chain (f x) (f y) (f z);
}

-- what rises in ticks, and in positions after a step, is in order
pub rises_stands : (p s t p' s' t' : ℕ) (r : Bool) → t < t' → p + s ≤ p'
    → before_or p' p (before_or s' s (before_or t' t r)) ≡ false
rises_stands p s t p' s' t' r a b = grind (arith, nat_tests)
