-- Whether a script is at a freeze point.
use Rattle.std.proofs.Common.{◌≡◌, ℕ, Bool, true, false, ◌&&◌, IsTrue, ◌↔◌, Option, Some, None, refl, sym, subst}
use Rattle.std.specs.Prelude.{option_map}
use Rattle.sleep_model.specs.declared.entry.Kind.{Kind}
use Rattle.sleep_model.specs.declared.machine.Op.{Op}
use Rattle.sleep_model.specs.declared.machine.Script.{Script}
use Rattle.sleep_model.specs.declared.progress.Freezing.{Freezing}
use Rattle.sleep_model.specs.Tasks.{freezes_at, is_user}
use Rattle.rule_definitions.specs.Freezer.{FreezesBy, FreezesNot, FreezesTask, GoesOn}

-- ---- something is not nothing

abbrev IsThere : {A : Type 0} → Option A → Type 0
IsThere None = ⊥
IsThere (Some x) = Unit {0}

some≢none : {A : Type 0} (x : A) → Some x ≡ None → ⊥
some≢none x e = subst IsThere e tt

-- ---- the point

module _ (begun : Bool) (o : Option Op) where
  -- a script that is not there does not say that it freezes
  pub freezes_none : (f : Freezing) (s : Option Script) (k : Kind) (b : Bool) → None ≡ option_map (λ (x : Script). freezes_at (is_user x.kind) begun o) s → (IsTrue b ↔ FreezesNot k) → IsTrue b ↔ FreezesTask f begun o s k
  freezes_none f None k b e h = h
  freezes_none f (Some x) k b e h = absurd (some≢none _ (sym e))

  -- one that is there freezes by the point
  pub freezes_some : (f : Freezing) (s : Option Script) (k : Kind) (b p : Bool) → Some p ≡ option_map (λ (x : Script). freezes_at (is_user x.kind) begun o) s → (IsTrue b ↔ FreezesBy f p k) → IsTrue b ↔ FreezesTask f begun o s k
  freezes_some f None k b p e h = absurd (some≢none _ e)
  freezes_some f (Some x) k b p e h = subst (λ (q : Bool). IsTrue b ↔ FreezesBy f q k) (let same : p ≡ freezes_at (is_user x.kind) begun o = cc in same) h

  -- a script that is not there goes on
  pub goes_none : (f : Freezing) (s : Option Script) → None ≡ option_map (λ (x : Script). freezes_at (is_user x.kind) begun o) s → IsTrue true ↔ GoesOn f begun o s
  goes_none f None e = (λ h. tt, λ h. refl)
  goes_none f (Some x) e = absurd (some≢none _ (sym e))

  -- one that is there goes on by the point
  pub goes_some : (f : Freezing) (s : Option Script) (b p : Bool) → Some p ≡ option_map (λ (x : Script). freezes_at (is_user x.kind) begun o) s → (IsTrue b ↔ ((f.frozen ≡ false) × ((f.asked && p) ≡ false))) → IsTrue b ↔ GoesOn f begun o s
  goes_some f None b p e h = absurd (some≢none _ e)
  goes_some f (Some x) b p e h = subst (λ (q : Bool). IsTrue b ↔ ((f.frozen ≡ false) × ((f.asked && q) ≡ false))) (let same : p ≡ freezes_at (is_user x.kind) begun o = cc in same) h
