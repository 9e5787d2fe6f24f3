-- What is written piece by piece.
use Rattle.std.proofs.Common.{◌≤◌, ◌++◌, ◌∙◌, ℕ, List, Option, Some, None, Result, Ok, Err, sym, ap, append_assoc, arith}
use Rattle.std.specs.Io.KnownBytes.{Appends}
use Rattle.sleep_base.specs.declared.outside.Failed.{Failed}
use Rattle.sleep_base.specs.Whole.{WriteAll}

-- what was appended after another piece
pub appends_both : (old mid new : Option (List ℕ)) (one other : List ℕ) → Appends old mid one → Appends mid new other → Appends old new (one ++ other)
appends_both None mid new one other h g = tt
appends_both (Some xs) None new one other h g = absurd h
appends_both (Some xs) (Some ys) None one other h g = absurd g
appends_both (Some xs) (Some ys) (Some zs) one other h g = g ∙ (ap (λ bs. bs ++ other) h ∙ append_assoc xs one other)

-- the first piece failed
pub one_failed : (old new : Option (List ℕ)) (before now : ℕ) (one other : List ℕ) (fault : Failed) → WriteAll old new before now one (Err fault) → WriteAll old new before now (one ++ other) (Err fault)
one_failed old new before now one other fault h = (h.0, h.1 ++ other, ap (λ bs. bs ++ other) h.2 ∙ append_assoc h.0 h.1 other, h.3, h.4)

-- the second was written, or a prefix of it
pub both_written : (old mid new : Option (List ℕ)) (before then now : ℕ) (one other : List ℕ) (result : Result Unit Failed) → Appends old mid one → before ≤ then → WriteAll mid new then now other result
    → WriteAll old new before now (one ++ other) result
both_written old mid new before then now one other (Ok x) h l g = appends_both old mid new one other h g
both_written old mid new before then now one other (Err fault) h l g =
    (one ++ g.0, g.1, ap (λ bs. one ++ bs) g.2 ∙ sym (append_assoc one g.0 g.1), appends_both old mid new one g.0 h g.3, omega (arith, g.4, l))
