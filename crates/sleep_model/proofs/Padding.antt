-- Zeros after a name fill its bytes.
use Rattle.std.proofs.Common.{◌≡◌, ◌≤◌, ◌-◌, ◌++◌, ℕ, List, length, drop, replicate, arith}
use Rattle.std.proofs.Math.Seq.{take-append_seam}
use Rattle.std.proofs.lemmas.List.{drop-replicate, length-replicate, length-append}
use Rattle.sleep_model.specs.NameBytes.{IsPadded}

-- a name with the zeros that are left of 32
pub padded_name : (bs : List ℕ) → 1 ≤ length bs → length bs ≤ 32 → IsPadded (bs ++ drop (length bs) (replicate {A = ℕ} 32 0)) (length bs)
padded_name bs some few =
    let rest : drop {A = ℕ} (length bs) (replicate {A = ℕ} 32 0) ≡ replicate {A = ℕ} (32 - length bs) 0 = drop-replicate (length bs) 32 0 in
    (few, some, rw (rest, length-append, length-replicate) (omega arith), rw (rest, take-append_seam))
