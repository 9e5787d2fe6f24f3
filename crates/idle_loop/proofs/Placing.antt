-- How the one log grows.
use Rattle.std.proofs.Common.{◌≡◌, ℕ, ◌+◌, ◌<◌, ◌≤◌, ◌++◌, List, [], ◌∷◌, length, get_or, take, drop, reverse, ap, sym, subst, ◌∙◌, arith}
use Rattle.std.proofs.lemmas.List.{reverse-append, take_more, drop_more, length-reverse, length-take-le}
use Rattle.idle_loop.specs.declared.entry.IdleEntry.{IdleEntry}
use Rattle.idle_loop.specs.Merging.{Merges, NextHard, NextEntry, hard_entry, SeeMore}

last_first : {X : Type 0} (xs : List X) (x : X) → reverse (xs ++ x ∷ []) ≡ x ∷ reverse xs
last_first xs x = reverse-append xs (x ∷ [])

so_many : (makers : List ℕ) (p : ℕ) → p ≤ length makers → length (reverse (take p makers)) ≡ p
so_many makers p low = length-reverse (take p makers) ∙ length-take-le p makers low

-- one more hard event
pub hard_next : (makers : List ℕ) (p : ℕ) (journal log : List IdleEntry) → p < length makers → Merges (reverse (take p makers)) journal (reverse log) → Merges (reverse (take (p + 1) makers)) journal (reverse (log ++ hard_entry p (get_or makers p 0) ∷ []))
hard_next makers p journal log low m =
    let who : ℕ = get_or makers p 0 in
    let more : reverse (take (p + 1) makers) ≡ who ∷ reverse (take p makers) = ap reverse (take_more makers p 0 low) ∙ last_first (take p makers) who in
    let many : length (reverse (take p makers)) ≡ p = so_many makers p (omega arith) in
    let next : Merges (who ∷ reverse (take p makers)) journal (hard_entry (length (reverse (take p makers))) who ∷ reverse log) = NextHard who (reverse (take p makers)) journal (reverse log) m in
    subst (λ (hs : List ℕ). Merges hs journal (reverse (log ++ hard_entry p who ∷ []))) (sym more)
    (subst (λ (es : List IdleEntry). Merges (who ∷ reverse (take p makers)) journal es) (sym (last_first log (hard_entry p who)))
    (subst (λ (n : ℕ). Merges (who ∷ reverse (take p makers)) journal (hard_entry n who ∷ reverse log)) many next))

-- one more entry of the journal
pub entry_next : (makers : List ℕ) (journal : List IdleEntry) (i : ℕ) (e : IdleEntry) (log : List IdleEntry) → i < length journal → e ≡ get_or journal i e → e.hard ≤ length makers → Merges (reverse (take e.hard makers)) (reverse (take i journal)) (reverse log) → Merges (reverse (take e.hard makers)) (reverse (take (i + 1) journal)) (reverse (log ++ e ∷ []))
entry_next makers journal i e log low is within m =
    let more : reverse (take (i + 1) journal) ≡ e ∷ reverse (take i journal) = ap reverse (take_more journal i e low) ∙ (last_first (take i journal) (get_or journal i e) ∙ ap (λ (x : IdleEntry). x ∷ reverse (take i journal)) (sym is)) in
    subst (λ (js : List IdleEntry). Merges (reverse (take e.hard makers)) js (reverse (log ++ e ∷ []))) (sym more)
    (subst (λ (es : List IdleEntry). Merges (reverse (take e.hard makers)) (e ∷ reverse (take i journal)) es) (sym (last_first log e))
    (NextEntry e (reverse (take e.hard makers)) (reverse (take i journal)) (reverse log) (sym (so_many makers e.hard within)) m))

-- what is left of the journal sees more
see_within : (low most : ℕ) (journal : List IdleEntry) → SeeMore low most journal → low ≤ most
see_within low most [] sees = sees
see_within low most (e ∷ later) sees = let rest : e.hard ≤ most = see_within e.hard most later sees.1 in omega (arith, sees.0)

pub see_next : (low most : ℕ) (journal : List IdleEntry) (i : ℕ) (e : IdleEntry) → i < length journal → e ≡ get_or journal i e → SeeMore low most (drop i journal) → (low ≤ e.hard) × (e.hard ≤ most) × SeeMore e.hard most (drop (i + 1) journal)
see_next low most journal i e low_i is sees =
    let roles : drop i journal ≡ e ∷ drop (i + 1) journal = drop_more journal i e low_i ∙ ap (λ (x : IdleEntry). x ∷ drop (i + 1) journal) (sym is) in
    let all : SeeMore low most (e ∷ drop (i + 1) journal) = subst (SeeMore low most) roles sees in
    (all.0, see_within e.hard most (drop (i + 1) journal) all.1, all.1)

pub see_end : (low most : ℕ) (journal : List IdleEntry) → SeeMore low most journal → low ≤ most
see_end low most journal sees = see_within low most journal sees

-- so many entries of the journal and hard events are in the log
pub record IsPlaced (makers : List ℕ) (journal : List IdleEntry) (i placed : ℕ) (log : List IdleEntry) : Type 0 where
  pub sees : SeeMore placed (length makers) (drop i journal)
  pub merges : Merges (reverse (take placed makers)) (reverse (take i journal)) (reverse log)
