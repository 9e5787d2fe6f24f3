-- Small facts on options, tests and searches.
use Rattle.std.proofs.Common.{◌≡◌, Option, Some, None, refl, sym, subst}

-- there is something
abbrev IsThere : {A : Type 0} → Option A → Type 0
IsThere None = ⊥
IsThere (Some x) = Unit {0}

pub some≢none : {A : Type 0} (x : A) → Some x ≡ None → ⊥
some≢none x e = subst IsThere e tt

pub none≢some : {A : Type 0} (x : A) → None ≡ Some x → ⊥
none≢some x e = some≢none x (sym e)

-- the same something
abbrev IsThis : {A : Type 0} → A → Option A → Type 0
IsThis x None = ⊥
IsThis x (Some y) = x ≡ y

pub some_is : {A : Type 0} (x y : A) → Some x ≡ Some y → x ≡ y
some_is x y e = subst (IsThis x) e refl
