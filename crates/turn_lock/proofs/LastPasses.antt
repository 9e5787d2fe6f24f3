-- Passes that come back, one after another, and the values that are left.
use Rattle.std.proofs.Common.{◌≡◌, ℕ, zero, suc, ◌+◌, ◌<◌, ◌≤◌, ◌≢◌, Bool, false, get_or, set, get_or-set_other, Option, Some, None, IsSome, List, [], ◌∷◌, ◌++◌, length, sym, refl, ap, ◌∙◌, subst, ⊎_elim, arith, append_assoc}
use mathlib.Core.Option.{some, some-ne-none, some-injective}
use Rattle.std.proofs.lemmas.List.{length-map}
use lib.ListN.{get_elem?}
use mathlib.Core.Logic.{dite}
use native.Mathlib.Decide.{ℕ_discrete}
use Rattle.std.specs.Slots.Ownership.{Filled}
use Rattle.atomic_table.proofs.Lists.{at_map, at_index}
use Rattle.atomic_table.specs.Seated.{TableId}
use Rattle.turn_lock.specs.declared.view.Made.{Made}
use Rattle.turn_lock.specs.declared.table.Pass.{Pass}
use Rattle.turn_lock.specs.Passes.{LockToken, IsPass, IsPassOf, AreAll, first_of, made_of, number_of}
use Rattle.turn_lock.specs.Passing.{tokens, made_lists, AreOut, AreFull}
use Rattle.turn_lock.specs.Locks.{IsObject, AreClosed}
use Rattle.turn_lock.proofs.Invariance.{at_end, within, there, Ended}

module _ {V : Type 0} where
  abbrev or_else : V → Option V → V
  or_else d None = d
  or_else d (Some y) = y

  -- one more value is out
  pub one_out : (values : List V) (y : V) (slots : List (Option V)) (i : ℕ) → length values ≡ i → get_elem? slots i ≡ some (Some y) → AreOut values slots → AreOut (values ++ y ∷ []) slots
  one_out values y slots i long at out j z there' = ⊎_elim (λ old. out j z old)
      (λ (t : (j ≡ length values) × (y ≡ z)). (ap (get_elem? slots) (t.0 ∙ long) ∙ at) ∙ ap (λ (x : V). some (Some x)) t.1) (at_end values y z j there')

  -- what is found in a slot is a value
  pub is_some_there : (slots : List (Option V)) (i : ℕ) (found : Option V) → AreFull slots → i < length slots → get_elem? slots i ≡ some found → IsSome found
  is_some_there slots i found full low at = let t = full i low in subst IsSome (some-injective (Some t.0) found (sym t.1 ∙ at)) refl

set_false : (fs : List Bool) (i : ℕ) → get_or (set fs i false) i false ≡ false
set_false [] i = refl
set_false (f ∷ fs) zero = refl
set_false (f ∷ fs) (suc i) = set_false fs i

pub filled_next : (fs : List Bool) (i n : ℕ) → Filled fs i n → Filled (set fs i false) (i + 1) n
filled_next fs i n full k low high = get_or-set_other fs i k false false (λ e. omega arith) ∙ full k (omega arith) high

pub emptied_next : (fs : List Bool) (i : ℕ) → ((k : ℕ) → k < i → get_or fs k false ≡ false) → (k : ℕ) → k < i + 1 → get_or (set fs i false) k false ≡ false
emptied_next fs i nil k low = dite (ℕ_discrete k i) (λ (e : k ≡ i). ap (λ z. get_or (set fs i false) z false) e ∙ set_false fs i)
    (λ (other : k ≢ i). get_or-set_other fs i k false false other ∙ nil k (omega arith))

module _ {A : Type 0} where
  at_middle : (xs rest : List A) (a : A) → get_elem? (xs ++ a ∷ rest) (length xs) ≡ some a
  at_middle [] rest a = refl
  at_middle (x ∷ xs) rest a = at_middle xs rest a

  pub moved_on : (xs left rest whole : List A) (a : A) → xs ++ left ≡ whole → left ≡ a ∷ rest → (xs ++ a ∷ []) ++ rest ≡ whole
  moved_on xs left rest whole a e next = append_assoc xs (a ∷ []) rest ∙ (ap (λ l. xs ++ l) (sym next) ∙ e)

module _ {V I : Type 0} where
  -- the pass that comes next has the number of its index
  pub came : (own : LockToken V I) (passes yielded left rest : List (Pass V I)) (p : Pass V I) → AreAll own (tokens passes) → yielded ++ left ≡ passes → left ≡ p ∷ rest
      → IsPassOf own p.token × (number_of p.token ≡ Some (length yielded))
  came own passes yielded left rest p are whole next = are.each_is (length yielded) p.token
      (at_map (λ (q : Pass V I). q.token) passes (length yielded) p (ap (λ l. get_elem? l (length yielded)) (sym whole ∙ ap (λ l. yielded ++ l) next) ∙ at_middle yielded rest p))

  pub known_length : (yielded : List (Pass V I)) (known : List (List (Made I))) → known ≡ made_lists yielded → length known ≡ length yielded
  known_length yielded known e = ap length e ∙ length-map yielded (λ (p : Pass V I). made_of p.token)

  pub all_in : (own own' : LockToken V I) (passes : List (Pass V I)) → AreAll own (tokens passes) → own'.me.0.next ≡ own.me.0.next → own'.me.0.known ≡ made_lists passes → own'.me.0.next ≡ length own'.me.0.known
  all_in own own' passes are same known = same ∙ (sym are.counted ∙ (length-map passes (λ (p : Pass V I). p.token) ∙ sym (known_length passes own'.me.0.known known)))

  at_unmapped : (ps : List (Pass V I)) (k : ℕ) (p : LockToken V I) → get_elem? (tokens ps) k ≡ some p → (q : Pass V I) × (get_elem? ps k ≡ some q) × (q.token ≡ p)
  at_unmapped [] k p e = absurd (some-ne-none p (sym e))
  at_unmapped (q ∷ ps) zero p e = (q, refl, some-injective q.token p e)
  at_unmapped (q ∷ ps) (suc k) p e = at_unmapped ps k p e

  read_at : (ps : List (Pass V I)) (k : ℕ) (p d : Pass V I) → get_elem? ps k ≡ some p → get_or ps k d ≡ p
  read_at [] k p d e = absurd (some-ne-none p (sym e))
  read_at (q ∷ ps) zero p d e = some-injective q p e
  read_at (q ∷ ps) (suc k) p d e = read_at ps k p d e

  -- each of all passes is one of the table
  pub one_of_all : (own : LockToken V I) (ps : List (Pass V I)) (i : ℕ) (p : Pass V I) → AreAll own (tokens ps) → i < length ps → p ≡ get_or ps i p → IsPassOf own p.token
  one_of_all own ps i p are low e = (are.each_is i p.token (at_map (λ (q : Pass V I). q.token) ps i p (at_index ps i p low e))).0

  -- passes that come back in their order, each with its number, are all passes
  pub all_back : (own : LockToken V I) (before after : List (Pass V I)) → AreAll own (tokens before) → length after ≡ length before
      → ((i : ℕ) (d : Pass V I) → i < length before → IsPassOf own (get_or after i d).token × (number_of (get_or after i d).token ≡ number_of (get_or before i d).token)) → AreAll own (tokens after)
  all_back own before after are same each = record {
    counted = length-map after (λ (q : Pass V I). q.token) ∙ (same ∙ (sym (length-map before (λ (q : Pass V I). q.token)) ∙ are.counted));
    unused = are.unused;
    each_is = λ k p at. let q = at_unmapped after k p at in
        let low = within after k q.0 q.1 in
        let b = there before k (omega arith) in
        let was = are.each_is k b.0.token (at_map (λ (x : Pass V I). x.token) before k b.0 b.1) in
        let e = each k q.0 (omega arith) in
        let now : get_or after k q.0 ≡ q.0 = read_at after k q.0 q.0 q.1 in
        subst (λ (x : LockToken V I). IsPassOf own x × (number_of x ≡ Some k)) (ap (λ (x : Pass V I). x.token) now ∙ q.2)
        (e.0, e.1 ∙ (ap (λ (x : Pass V I). number_of x.token) (read_at before k b.0 q.0 b.1) ∙ was.1));
  }

module _ {V I R : Type 0} (root : V → R) (entries : V → List I) where
  pub all_full : (first : List V) (known : List (List (Made I))) (slots : List (Option V)) → Ended root entries first known slots → AreFull slots
  all_full first known slots e i low = let long = e.1 in let f = e.2 i (omega arith) in (f.0, f.1)

  pub closes : (first : List V) (known : List (List (Made I))) (slots : List (Option V)) (values : List V) → Ended root entries first known slots → length values ≡ length slots → AreOut values slots
      → AreClosed root entries first known values
  closes first known slots values e same out = record {
    log = e.0;
    counted = same ∙ e.1;
    objects = λ i y at. let low = within values i y at in let long = e.1 in let f = e.2 i (omega arith) in
        let alike : Some f.0 ≡ Some y = some-injective (Some f.0) (Some y) (sym f.1 ∙ out i y at) in
        subst (IsObject root entries first i (e.0 i)) (ap (λ (o : Option V). or_else y o) alike) f.2;
    makers = e.3;
    booked = e.4;
  }

-- the same, by what the pass itself says
pub one_of_all_alone : {V I : Type 0} (own : LockToken V I) (z : TableId) (n : ℕ) (ps : List (Pass V I)) (i : ℕ) (p : Pass V I) → own.table_id ≡ z → n ≤ length (first_of own) → AreAll own (tokens ps) → i < length ps
    → p ≡ get_or ps i p → IsPass z (first_of p.token) p.token × (n ≤ length (first_of p.token))
one_of_all_alone own z n ps i p table long are low e =
    let is = one_of_all own ps i p are low e in
    (subst (λ t. IsPass t (first_of p.token) p.token) table (subst (λ l. IsPass own.table_id l p.token) (sym is.first_is) is), subst (λ l. n ≤ length l) (sym is.first_is) long)
