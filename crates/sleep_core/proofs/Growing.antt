-- Numbers of reports to which none are added.
use Rattle.std.proofs.Common.{◌≡◌, ℕ, zero, suc, List, [], ◌∷◌, refl, ap, arith}
use Rattle.sleep_model.specs.declared.entry.Actor.{Actor}
use Rattle.sleep_model.specs.declared.entry.Actor.TheVariants as actor
use Rattle.sleep_core.specs.Reports.{ReportCounts, grown_at, counts_after}

none_grown : (numbers : List ℕ) (at : ℕ) → grown_at numbers at 0 ≡ numbers
none_grown [] at = refl
none_grown (x ∷ xs) zero = ap (λ (n : ℕ). n ∷ xs) (omega arith)
none_grown (x ∷ xs) (suc at) = ap (λ (rest : List ℕ). x ∷ rest) (none_grown xs at)

-- no reports more leave each number as it is
pub none_more : (who : Actor) (counts : ReportCounts) → counts_after who 0 counts ≡ counts
none_more (actor.Script i) counts = ap (λ (ns : List ℕ). record { scripts = ns; auto = counts.auto; devices = counts.devices }) (none_grown counts.scripts i)
none_more actor.Auto counts = ap (λ (n : ℕ). record { scripts = counts.scripts; auto = n; devices = counts.devices }) (omega arith)
none_more (actor.Dev d) counts = ap (λ (ns : List ℕ). record { scripts = counts.scripts; auto = counts.auto; devices = ns }) (none_grown counts.devices d)
none_more _ counts = refl
