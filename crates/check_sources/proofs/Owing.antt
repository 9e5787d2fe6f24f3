-- An entry that owes no call.
use Rattle.std.proofs.Common.{◌≡◌, ◌∙◌, ℕ, zero, suc, List, [], ◌∷◌, ◌++◌, length, map, slice_set, refl, sym, ap, ap₂, append-nil, arith}
use Rattle.std.specs.Prelude.{slice_index_or}
use Rattle.sleep_model.specs.declared.entry.Kind.{Kind}
use Rattle.sleep_model.specs.declared.machine.Report.{Report}
use Rattle.script_plan.specs.CallPlans.{noted}

put_same : (lists : List (List Kind)) (place : ℕ) → slice_set lists place (slice_index_or lists place []) ≡ lists
put_same [] place = refl
put_same (x ∷ xs) zero = refl
put_same (x ∷ xs) (suc place) = ap (λ ys. x ∷ ys) (put_same xs place)

nothing : (reports : List Report) → length reports ≡ 0 → map noted reports ≡ []
nothing [] h = refl
nothing (r ∷ rs) h = absurd (omega arith)

-- no calls after those of a list leave every list as it was
pub none_owed : (later : List (List Kind)) (place : ℕ) (reports after : List Report) → length reports ≡ 0 → length after ≡ 0 →
    later ≡ slice_set later place (slice_index_or later place [] ++ map noted reports ++ map noted after)
none_owed later place reports after h k =
    let own = slice_index_or later place [] in
    let same : own ++ map noted reports ++ map noted after ≡ own =
    ap₂ (λ (a b : List Kind). own ++ a ++ b) (nothing reports h) (nothing after k) ∙ append-nil (own ++ []) ∙ append-nil own in
    sym (ap (λ (calls : List Kind). slice_set later place calls) same ∙ put_same later place)
