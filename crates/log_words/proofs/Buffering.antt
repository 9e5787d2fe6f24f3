-- The buffer after more was put into it.
use Rattle.std.proofs.Common.{ap, sym, refl, ◌≡◌, ◌<◌, ◌≤◌, ◌+◌, ◌-◌, ◌∷◌, [], ◌++◌, ◌∙◌, ℕ, List, length, length-set, set, take, drop, append_assoc, arith}
use Rattle.std.proofs.Math.Seq.{take-append-add}
use Rattle.std.proofs.lemmas.List.{length-take-le, take-append-drop, take-append-le, take-take, take_at, take_more_set}
use Rattle.std.proofs.lemmas.Slice.{take-put_mid}
use borrow.Rule.Slice.PartMut.{put_mid, post_of}

-- bytes that were put there whole
pub buffered_bytes : (buffer bytes : List ℕ) (used k : ℕ) → used ≤ length buffer → take (used + length bytes) (put_mid used k buffer bytes) ≡ take used buffer ++ bytes
buffered_bytes buffer bytes used k within = take-put_mid used k buffer bytes (used + length bytes) refl within

-- a room that was put there, of which the first bytes count
pub buffered_room : (buffer room : List ℕ) (used len k : ℕ) → used ≤ length buffer → len ≤ length room → take (used + len) (put_mid used k buffer room) ≡ take used buffer ++ take len room
buffered_room buffer room used len k within few =
    let before : length (take used buffer) ≡ used = length-take-le used buffer within in
    let cut : take (used + len) (put_mid used k buffer room) ≡ take used buffer ++ take len (room ++ post_of used k buffer) =
    ap (λ (n : ℕ). take (n + len) (put_mid used k buffer room)) (sym before) ∙ take-append-add (take used buffer) (room ++ post_of used k buffer) len in
    cut ∙ ap (λ (t : List ℕ). take used buffer ++ t) (take-append-le len room (post_of used k buffer) few)

-- the first bytes of a room are those of its first part, if it has them
pub of_head : (room : List ℕ) (len many : ℕ) → many ≤ length room → len ≤ many → take len (take many room) ≡ take len room
of_head room len many within few =
    let long : length (take many room) ≡ many = length-take-le many room within in
    sym (take-append-le len (take many room) (drop many room) (omega (arith, long, few))) ∙ ap (take len) (take-append-drop many room)

-- and else all of that part, and bytes of the other
pub of_both : (room : List ℕ) (len many : ℕ) → many ≤ length room → many ≤ len → take many (take many room) ++ take (len - many) (drop many room) ≡ take len room
of_both room len many within more =
    let head : List ℕ = take many room in
    let tail : List ℕ = drop many room in
    let long : length head + (len - many) ≡ len = omega (arith, length-take-le many room within, more) in
    ap (λ (t : List ℕ). t ++ take (len - many) tail) (of_head room many many within (omega arith))
    ∙ (sym (take-append-add head tail (len - many)) ∙ (ap (λ (n : ℕ). take n (head ++ tail)) long ∙ ap (take len) (take-append-drop many room)))

-- fewer of the bytes that were put there
pub of_less : (old new bytes : List ℕ) (used many len : ℕ) → used ≤ length old → len ≤ many → take (used + many) new ≡ take used old ++ take many bytes
    → take (used + len) new ≡ take used old ++ take len bytes
of_less old new bytes used many len within few written =
    let before : length (take used old) ≡ used = length-take-le used old within in
    sym (take-take (used + len) (used + many) new (omega (arith, few)))
    ∙ (ap (take (used + len)) written
    ∙ (ap (λ (n : ℕ). take (n + len) (take used old ++ take many bytes)) (sym before)
    ∙ (take-append-add (take used old) (take many bytes) len
    ∙ ap (λ (t : List ℕ). take used old ++ t) (take-take len many bytes few))))

-- digits that were put there, with what followed them before
pub held_digits : (old new digits rest : List ℕ) (used : ℕ) → used ≤ length old → take used new ≡ take used old → drop used new ≡ digits ++ rest → take (used + length digits) new ≡ take used old ++ digits
held_digits old new digits rest used within before written =
    let whole : take used old ++ (digits ++ rest) ≡ new = rw (sym before, sym written) (take-append-drop used new) in
    let len : length (take used old) ≡ used = length-take-le used old within in
    let cut : take (used + length digits) (take used old ++ (digits ++ rest)) ≡ take used old ++ take (length digits) (digits ++ rest) =
    ap (λ (n : ℕ). take (n + length digits) (take used old ++ (digits ++ rest))) (sym len) ∙ take-append-add (take used old) (digits ++ rest) (length digits) in
    ap (λ (t : List ℕ). take (used + length digits) t) (sym whole) ∙ (cut ∙ ap (λ (t : List ℕ). take used old ++ t) (take_at digits rest (length digits) refl))

-- two bytes that were put there one after the other
pub held_two : (old : List ℕ) (used a b : ℕ) → used + 2 ≤ length old → take (used + 2) (set (set old used a) (used + 1) b) ≡ take used old ++ a ∷ b ∷ []
held_two old used a b within =
    let first : used < length old = omega arith in
    let second : used + 1 < length (set old used a) = omega (arith, length-set old used a) in
    let two : used + 2 ≡ used + 1 + 1 = omega arith in
    rw (two, take_more_set (set old used a) (used + 1) b second, take_more_set old used a first) (append_assoc (take used old) (a ∷ []) (b ∷ []))
