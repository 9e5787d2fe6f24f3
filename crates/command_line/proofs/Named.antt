-- Which words name the option of a number of workers, and which are no number.
use Rattle.std.proofs.Common.{ℕ, ◌≡◌, ◌∙◌, ◌⊎◌, ◌++◌, Bool, true, false, List, [], ◌∷◌, length, take, drop, Option, Some, None, refl, sym, ap, inl, inr, eqb, codes, true≢false, take-append-drop, one-add}
use Rattle.std.specs.Prelude.{option_and_then, option_map, unwrap_or, ◌^◌, ◌-◌}
use Rattle.std.specs.List.{before_first, position_or_len}
use Rattle.std.specs.Str.{bytes_eq}
use Rattle.std.proofs.lemmas.Bool.Decides.{Decides-eqb}
use Rattle.std.proofs.lemmas.Slice.Eq.{bytes_eq-Decides}
use Rattle.clap.specs.Lexer.{long_of, long_of_rest, name_and_value, strip_byte}
use Rattle.command_line.specs.declared.command.Command.{Command}
use Rattle.command_line.specs.Words.{number_in, seeded_of, workers_of, workers_prefix}
use Rattle.command_line.proofs.Turns.{stripped}

-- no `=` is in the bytes, or one follows those before the first
abbrev IsCut : List ℕ → Type 0
IsCut r = (before_first (λ b. eqb b 61) r ≡ r) ⊎ ((t : List ℕ) × (r ≡ before_first (λ b. eqb b 61) r ++ 61 ∷ t))

cut_after : (c : ℕ) (cs : List ℕ) (b : Bool) → eqb c 61 ≡ b → IsCut cs → IsCut (c ∷ cs)
cut_after c cs true e h =
    let none : before_first (λ b. eqb b 61) (c ∷ cs) ≡ [] = rw e refl in
    inr (cs, ap (λ z. z ∷ cs) ((Decides-eqb c 61).0 e) ∙ ap (λ l. l ++ 61 ∷ cs) (sym none))
cut_after c cs false e (inl h) =
    let more : before_first (λ b. eqb b 61) (c ∷ cs) ≡ c ∷ before_first (λ b. eqb b 61) cs = rw e (ap (λ k. take k (c ∷ cs)) (one-add (position_or_len (λ b. eqb b 61) cs))) in
    inl (more ∙ ap (λ l. c ∷ l) h)
cut_after c cs false e (inr h) =
    let more : before_first (λ b. eqb b 61) (c ∷ cs) ≡ c ∷ before_first (λ b. eqb b 61) cs = rw e (ap (λ k. take k (c ∷ cs)) (one-add (position_or_len (λ b. eqb b 61) cs))) in
    inr (h.0, ap (λ l. c ∷ l) h.1 ∙ ap (λ l. l ++ 61 ∷ h.0) (sym more))

cut : (r : List ℕ) → IsCut r
cut [] = inl refl
cut (c ∷ cs) = cut_after c cs (eqb c 61) refl (cut cs)

-- of a word `--name` or `--name=value`, what follows the hyphens
long_parts : (x : List ℕ) (p : List ℕ × Option (List ℕ)) → long_of x ≡ Some p → (r : List ℕ) × (x ≡ 45 ∷ 45 ∷ r) × (before_first (λ b. eqb b 61) r ≡ p.0)
long_parts x p e = first (stripped 45 x)
  where
    name_of : Option (List ℕ × Option (List ℕ)) → List ℕ
    name_of o = (unwrap_or o ([], None)).0

    third : (r : List ℕ) → x ≡ 45 ∷ 45 ∷ r → (r : List ℕ) × (x ≡ 45 ∷ 45 ∷ r) × (before_first (λ b. eqb b 61) r ≡ p.0)
    third [] h =
        let bad : None ≡ Some p = ap long_of (sym h) ∙ e in cc
    third (c ∷ cs) h =
        let same : Some (name_and_value (c ∷ cs)) ≡ Some p = ap long_of (sym h) ∙ e in
        (c ∷ cs, h, ap name_of same)

    second : (q : List ℕ) → x ≡ 45 ∷ q → ((r : List ℕ) × (q ≡ 45 ∷ r)) ⊎ (strip_byte 45 q ≡ None) → (r : List ℕ) × (x ≡ 45 ∷ 45 ∷ r) × (before_first (λ b. eqb b 61) r ≡ p.0)
    second q h (inl s) = third s.0 (h ∙ ap (λ l. 45 ∷ l) s.1)
    second q h (inr none) =
        let bad : None ≡ Some p = ap (option_and_then long_of_rest) (sym none) ∙ (ap long_of (sym h) ∙ e) in cc

    first : ((r : List ℕ) × (x ≡ 45 ∷ r)) ⊎ (strip_byte 45 x ≡ None) → (r : List ℕ) × (x ≡ 45 ∷ 45 ∷ r) × (before_first (λ b. eqb b 61) r ≡ p.0)
    first (inl s) = second s.0 s.1 (stripped 45 s.0)
    first (inr none) =
        let bad : None ≡ Some p = ap (λ o. option_and_then long_of_rest (option_and_then (strip_byte 45) o)) (sym none) ∙ e in cc

-- the option is named by its own word or by one with a value
pub names_no_workers : (x : List ℕ) (p : List ℕ × Option (List ℕ)) → long_of x ≡ Some p → bytes_eq x (codes "--workers") ≡ false
    → bytes_eq (take (length workers_prefix) x) workers_prefix ≡ false → bytes_eq (codes "workers") p.0 ≡ false
names_no_workers x p e alone joined = go (bytes_eq (codes "workers") p.0) refl
  where
    parts : (r : List ℕ) × (x ≡ 45 ∷ 45 ∷ r) × (before_first (λ b. eqb b 61) r ≡ p.0)
    parts = long_parts x p e

    bad : codes "workers" ≡ before_first (λ b. eqb b 61) parts.0
        → (before_first (λ b. eqb b 61) parts.0 ≡ parts.0) ⊎ ((t : List ℕ) × (parts.0 ≡ before_first (λ b. eqb b 61) parts.0 ++ 61 ∷ t)) → ⊥
    bad name (inl h) =
        let word : x ≡ codes "--workers" = parts.1 ∙ ap (λ r. 45 ∷ 45 ∷ r) (sym (name ∙ h)) in
        true≢false (sym (ap (λ z. bytes_eq z (codes "--workers")) word) ∙ alone)
    bad name (inr h) =
        let word : x ≡ workers_prefix ++ h.0 = parts.1 ∙ ap (λ r. 45 ∷ 45 ∷ r) (h.1 ∙ ap (λ n. n ++ 61 ∷ h.0) (sym name)) in
        true≢false (sym (ap (λ z. bytes_eq (take (length workers_prefix) z) workers_prefix) word) ∙ joined)

    go : (b : Bool) → bytes_eq (codes "workers") p.0 ≡ b → bytes_eq (codes "workers") p.0 ≡ false
    go false h = h
    go true h = absurd (bad ((bytes_eq-Decides (codes "workers") p.0).0 h ∙ sym parts.2) (cut parts.0))

-- a word with a value, in its parts
pub joined_parts : (x : List ℕ) → bytes_eq (take (length workers_prefix) x) workers_prefix ≡ true → x ≡ workers_prefix ++ drop (length workers_prefix) x
joined_parts x e = sym (take-append-drop (length workers_prefix) x) ∙ ap (λ l. l ++ drop (length workers_prefix) x) ((bytes_eq-Decides _ workers_prefix).0 e)

pub same_text : (x y : List ℕ) → bytes_eq x y ≡ true → x ≡ y
same_text x y e = (bytes_eq-Decides x y).0 e

-- the test the other way round
pub other_text : (x y : List ℕ) → bytes_eq x y ≡ false → bytes_eq y x ≡ false
other_text x y e = go (bytes_eq y x) refl
  where
    go : (b : Bool) → bytes_eq y x ≡ b → bytes_eq y x ≡ false
    go false h = h
    go true h = absurd (true≢false (sym ((bytes_eq-Decides x y).1 (sym ((bytes_eq-Decides y x).0 h))) ∙ e))

-- what begins with a hyphen is no number
pub minus_workers : (x r : List ℕ) → x ≡ 45 ∷ r → workers_of x ≡ None
minus_workers x r e = ap workers_of e

pub minus_seed : (make : ℕ → ℕ → Command) (x y r : List ℕ) → x ≡ 45 ∷ r → seeded_of make (x ∷ y ∷ []) ≡ None
minus_seed make x y r e = ap (λ z. seeded_of make (z ∷ y ∷ [])) e

pub minus_devices : (make : ℕ → ℕ → Command) (x y r : List ℕ) → y ≡ 45 ∷ r → seeded_of make (x ∷ y ∷ []) ≡ None
minus_devices make x y r e = ap (λ z. seeded_of make (x ∷ z ∷ [])) e ∙ go (number_in 0 (2 ^ 64 - 1) x)
  where
    go : (o : Option ℕ) → option_and_then (λ s. option_map (make s) None) o ≡ None
    go None = refl
    go (Some s) = refl
