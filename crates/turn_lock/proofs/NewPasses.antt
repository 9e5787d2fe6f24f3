-- New passes, one after another.
use Rattle.std.proofs.Common.{◌≡◌, ℕ, ◌+◌, Some, List, [], ◌∷◌, ◌++◌, length, sym, ap, ◌∙◌, subst, ⊎_elim, arith, length-append}
use mathlib.Core.Option.{some-ne-none}
use mathlib.Core.List.{map-append}
use Rattle.turn_lock.specs.declared.table.Pass.{Pass}
use Rattle.turn_lock.specs.Locks.{keeper, pass_view}
use Rattle.turn_lock.specs.Passes.{LockToken, IsPassOf, AreNew, first_of, made_of, number_of}
use Rattle.turn_lock.specs.Passing.{tokens}
use Rattle.turn_lock.proofs.Invariance.{at_end}

module _ {V I : Type 0} where
  pub none_new : (own : LockToken V I) → own.me.0.next ≡ 0 → own.me.0.known ≡ [] → AreNew own []
  none_new own e unused = record {
    all_are = record { counted = sym e; unused = unused; each_is = λ k p at. absurd (some-ne-none p (sym at)) };
    empty = λ k p at. absurd (some-ne-none p (sym at));
  }

  is_new : (own own' p : LockToken V I) (k : ℕ) → own'.table_id ≡ own.table_id → first_of own' ≡ first_of own → p.table_id ≡ own.table_id
      → p.me ≡ (pass_view (first_of own) k [], []) → own'.table_id.words ≡ length (first_of own') → IsPassOf own' p × (number_of p ≡ Some k) × (made_of p ≡ [])
  is_new own own' p k same first table me shaped = (
    record {
      table = table ∙ sym same;
      first_is = ap (λ m. m.0.first) me ∙ sym first;
      plain = ap (λ m. m.0.keeps) me;
      idle = ap (λ m. m.0.out) me;
      numbered = (k, ap (λ m. m.0.number) me);
      empty = ap (λ m. m.1) me;
      shaped = shaped;
    },
    ap (λ m. m.0.number) me,
    ap (λ m. m.0.made) me,
  )

  still : (own own' p : LockToken V I) → own'.table_id ≡ own.table_id → first_of own' ≡ first_of own → IsPassOf own p → IsPassOf own' p
  still own own' p same first is = record {
    table = is.table ∙ sym same;
    first_is = is.first_is ∙ sym first;
    plain = is.plain;
    idle = is.idle;
    numbered = is.numbered;
    empty = is.empty;
    shaped = ap (λ z. z.words) same ∙ (is.shaped ∙ ap length (sym first));
  }

  one_more : (own own' : LockToken V I) (ps : List (LockToken V I)) (p : LockToken V I) → own'.table_id ≡ own.table_id → own'.me.0 ≡ keeper (first_of own) (own.me.0.next + 1) own.me.0.known
      → p.table_id ≡ own.table_id → p.me ≡ (pass_view (first_of own) own.me.0.next [], []) → own'.table_id.words ≡ length (first_of own') → AreNew own ps → AreNew own' (ps ++ p ∷ [])
  one_more own own' ps p same me table mine shaped are =
      let first : first_of own' ≡ first_of own = ap (λ v. v.first) me in
      let next : own'.me.0.next ≡ own.me.0.next + 1 = ap (λ v. v.next) me in
      let counted = are.all_are.counted in
      let long = length-append ps (p ∷ []) in
      let new = is_new own own' p own.me.0.next same first table mine shaped in
      record {
        all_are = record {
          counted = omega arith;
          unused = ap (λ v. v.known) me ∙ are.all_are.unused;
          each_is = λ k q at. ⊎_elim (λ old. let b = are.all_are.each_is k q old in (still own own' q same first b.0, b.1))
              (λ (t : (k ≡ length ps) × (p ≡ q)). subst (λ (z : ℕ × LockToken V I). IsPassOf own' z.1 × (number_of z.1 ≡ Some z.0)) (λ i. ((sym t.0 i), t.1 i)) (new.0, new.1 ∙ ap (λ (n : ℕ). Some n) (sym counted))) (at_end ps p q k at);
        };
        empty = λ k q at. ⊎_elim (λ old. are.empty k q old) (λ (t : (k ≡ length ps) × (p ≡ q)). subst (λ z. made_of z ≡ []) t.1 new.2) (at_end ps p q k at);
      }

  pub passes_more : (own own' : LockToken V I) (ps : List (Pass V I)) (p : Pass V I) → own'.table_id ≡ own.table_id → own'.me.0 ≡ keeper (first_of own) (own.me.0.next + 1) own.me.0.known
      → p.token.table_id ≡ own.table_id → p.token.me ≡ (pass_view (first_of own) own.me.0.next [], []) → own'.table_id.words ≡ length (first_of own') → AreNew own (tokens ps) → AreNew own' (tokens (ps ++ p ∷ []))
  passes_more own own' ps p same me table mine shaped are = subst (AreNew own') (sym (map-append (λ (q : Pass V I). q.token) ps (p ∷ []))) (one_more own own' (tokens ps) p.token same me table mine shaped are)
