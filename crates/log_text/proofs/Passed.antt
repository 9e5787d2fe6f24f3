-- What is written piece by piece.
use Rattle.std.proofs.Common.{◌≡◌, ◌≤◌, ◌++◌, ◌∙◌, ℕ, List, [], Option, Result, Err, sym, ap, subst, append_assoc}
use Rattle.std.specs.Io.KnownBytes.{Appends}
use Rattle.sleep_base.specs.declared.outside.Failed.{Failed}
use Rattle.sleep_base.specs.Whole.{WriteAll}
pub use Rattle.sleep_base.proofs.Written.{one_failed, both_written}
use Rattle.log_text.specs.Passing.{Passes, Takes}

-- nothing was written
pub passes_none : (old : Option (List ℕ)) (before : ℕ) (buffer : List ℕ) → Passes old old before before buffer buffer
passes_none old before buffer = λ rest new now result h. h

-- the whole buffer was written, and it is empty
pub passes_all : (old mid : Option (List ℕ)) (before then : ℕ) (buffer left bytes : List ℕ) → bytes ≡ buffer → Appends old mid bytes → before ≤ then → left ≡ [] → Passes old mid before then buffer left
passes_all old mid before then buffer left bytes is wrote later none = λ rest new now result h.
    both_written old mid new before then now buffer rest result (subst (Appends old mid) is wrote) later (subst (λ (bs : List ℕ). WriteAll mid new then now (bs ++ rest) result) none h)

-- a line was put after what is left of the buffer
pub passes_line : (old mid : Option (List ℕ)) (before then : ℕ) (buffer left put line : List ℕ) → Passes old mid before then buffer left → put ≡ left ++ line
    → Passes old mid before then (buffer ++ line) put
passes_line old mid before then buffer left put line passes is = λ rest new now result h.
    let behind : put ++ rest ≡ left ++ (line ++ rest) = ap (λ (bs : List ℕ). bs ++ rest) is ∙ append_assoc left line rest in
    subst (λ (bs : List ℕ). WriteAll old new before now bs result) (sym (append_assoc buffer line rest))
    (passes (line ++ rest) new now result (subst (λ (bs : List ℕ). WriteAll mid new then now bs result) behind h))

-- at first all is left
pub taken_first : (old : Option (List ℕ)) (before : ℕ) (all buffer rest : List ℕ) → buffer ≡ [] → rest ≡ all → Takes old old before before all (buffer ++ rest)
taken_first old before all buffer rest none is = λ new now result h.
    subst (λ (bs : List ℕ). WriteAll old new before now bs result) (ap (λ (bs : List ℕ). bs ++ rest) none ∙ is) h

-- the same, if the line was put with what was held back
pub taken_line : (old mid next : Option (List ℕ)) (before then later : ℕ) (all buffer left line more rest : List ℕ)
    → Takes old mid before then all (buffer ++ more) → Passes mid next then later (buffer ++ line) left → more ≡ line ++ rest
    → Takes old next before later all (left ++ rest)
taken_line old mid next before then later all buffer left line more rest told passes first = λ new now result h.
    let behind : buffer ++ more ≡ (buffer ++ line) ++ rest = ap (λ (bs : List ℕ). buffer ++ bs) first ∙ sym (append_assoc buffer line rest) in
    told new now result (subst (λ (bs : List ℕ). WriteAll mid new then now bs result) (sym behind) (passes rest new now result h))

-- the buffer could not be written
pub taken_failed : (old mid new : Option (List ℕ)) (before then now : ℕ) (all buffer more : List ℕ) (fault : Failed)
    → Takes old mid before then all (buffer ++ more) → WriteAll mid new then now buffer (Err fault) → WriteAll old new before now all (Err fault)
taken_failed old mid new before then now all buffer more fault told failed = told new now (Err fault) (one_failed mid new then now buffer more fault failed)

-- the buffer had the last before what comes after
pub taken_after : (old mid new : Option (List ℕ)) (before then now : ℕ) (all buffer more behind : List ℕ) (result : Result Unit Failed)
    → Takes old mid before then all (buffer ++ (more ++ behind)) → more ≡ [] → WriteAll mid new then now (buffer ++ behind) result → WriteAll old new before now all result
taken_after old mid new before then now all buffer more behind result told none wrote =
    told new now result (subst (λ (bs : List ℕ). WriteAll mid new then now (buffer ++ (bs ++ behind)) result) (sym none) wrote)
