-- The marks of scripts, one after another.
use Rattle.std.proofs.Common.{◌≡◌, ◌<◌, ◌+◌, ◌∙◌, ◌||◌, ◌++◌, ℕ, Bor, Bool, true, false, if◌then◌else◌, List, [], ◌∷◌, length, map, take, get_or, flat_map, bytes_eq, codes, append_assoc, Option, Some, None, refl, sym, ap}
use Rattle.std.specs.List.{list_any, cons_option}
use Rattle.std.specs.Cmp.Lexicographic.{bytes_decides}
use Rattle.std.proofs.lemmas.Bool.{false≢true}
use Rattle.std.proofs.lemmas.Grind.{flat_map-append}
use Rattle.std.proofs.lemmas.List.{map_more, map-append}
use Rattle.std.proofs.lemmas.List.Elements.{filter_map-append}
use Rattle.borrowed_json.specs.View.{Value, view}
use Rattle.borrowed_json.specs.Look.{word_at}
use Rattle.file_rules.specs.Names.{is_among_names}
use Rattle.file_rules.specs.Operations.{marks_of, first_occurrences}
use Rattle.file_rules.specs.Knows.{texts}
use Rattle.file_rules.specs.Marks.{marks_of_script}
use Rattle.file_rules.proofs.Placing.{any_map}

-- ---- scripts

nothing_after : (ms : List (List ℕ)) → ms ++ [] ≡ ms
nothing_after [] = refl
nothing_after (m ∷ ms) = ap (λ rest. m ∷ rest) (nothing_after ms)

module _ (vs : List Value) (i : ℕ) (v : Value) (within : i < length vs) (is : v ≡ get_or vs i v) where
  one_more : map view (take (i + 1) vs) ≡ map view (take i vs) ++ view v ∷ []
  one_more = map_more view vs i v within ∙ ap (λ x. map view (take i vs) ++ view x ∷ []) (sym is)

  -- an operation's mark after those before it
  pub next_mark : marks_of (map view (take (i + 1) vs)) ≡ marks_of (map view (take i vs)) ++ cons_option (word_at (codes "mark") (view v)) []
  next_mark = ap marks_of one_more ∙ filter_map-append (word_at (codes "mark")) (map view (take i vs)) (view v ∷ [])

  module _ (first : List (List ℕ)) (ms : List (Bor (List ℕ))) (so_far : texts ms ≡ first ++ marks_of (map view (take i vs))) where
    -- a mark that was found is put after them
    pub mark_added : (m : Bor (List ℕ)) (more : List (Bor (List ℕ))) → Some m.now ≡ word_at (codes "mark") (view v) → more ≡ ms ++ m ∷ [] → texts more ≡ first ++ marks_of (map view (take (i + 1) vs))
    mark_added m more is_mark pushed =
        ap texts pushed ∙ map-append (λ (b : Bor (List ℕ)). b.now) ms (m ∷ []) ∙ ap (λ ns. ns ++ m.now ∷ []) so_far
        ∙ append_assoc first (marks_of (map view (take i vs))) (m.now ∷ [])
        ∙ ap (λ ns. first ++ ns) (ap (λ (w : Option (List ℕ)). marks_of (map view (take i vs)) ++ cons_option w []) is_mark ∙ sym next_mark)

    -- nothing is put if none was there
    pub no_mark_added : None ≡ word_at (codes "mark") (view v) → texts ms ≡ first ++ marks_of (map view (take (i + 1) vs))
    no_mark_added none =
        so_far ∙ ap (λ ns. first ++ ns) (sym (nothing_after (marks_of (map view (take i vs)))) ∙ ap (λ (w : Option (List ℕ)). marks_of (map view (take i vs)) ++ cons_option w []) none ∙ sym next_mark)

  -- a script's marks after those before it
  pub next_script : flat_map marks_of_script (map view (take (i + 1) vs)) ≡ flat_map marks_of_script (map view (take i vs)) ++ marks_of_script (view v)
  next_script =
      ap (flat_map marks_of_script) one_more ∙ flat_map-append marks_of_script (map view (take i vs)) (view v ∷ [])
      ∙ ap (λ ms. flat_map marks_of_script (map view (take i vs)) ++ ms) (nothing_after (marks_of_script (view v)))

-- ---- first places

any_joined : (p : List ℕ → Bool) (found : List (List ℕ)) (name : List ℕ) → list_any p (found ++ name ∷ []) ≡ (list_any p found || p name)
any_joined p [] name = by (p name)
  where
    by : (b : Bool) → (b || false) ≡ b
    by true = refl
    by false = refl
any_joined p (s ∷ found) name = ap (λ b. p s || b) (any_joined p found name) ∙ by (p s) (list_any p found) (p name)
  where
    by : (a b c : Bool) → (a || (b || c)) ≡ (a || b || c)
    by true b c = refl
    by false b c = refl

-- the same names are in the list of first occurrences
pub same_names : (s : List ℕ) (found names : List (List ℕ)) → is_among_names (first_occurrences found names) s ≡ (is_among_names found s || is_among_names names s)
same_names s found [] = by (is_among_names found s)
  where
    by : (b : Bool) → b ≡ (b || false)
    by true = refl
    by false = refl
same_names s found (name ∷ names) =
    same_names s (if is_among_names found name then found else found ++ name ∷ []) names ∙ by (is_among_names found name) (bytes_eq s name) refl refl
  where
    there : (b : Bool) → is_among_names found name ≡ true → s ≡ name → is_among_names found s ≡ b → (b || is_among_names names s) ≡ (b || true)
    there true e f g = refl
    there false e f g = absurd (false≢true (sym g ∙ ap (is_among_names found) f ∙ e))

    regroup : (a b c : Bool) → (a || b || c) ≡ (a || (b || c))
    regroup true b c = refl
    regroup false b c = refl

    by : (b c : Bool) → is_among_names found name ≡ b → bytes_eq s name ≡ c →
        (is_among_names (if b then found else found ++ name ∷ []) s || is_among_names names s) ≡ (is_among_names found s || (c || is_among_names names s))
    by true true e f = there (is_among_names found s) e ((bytes_decides s name).0 f) refl
    by true false e f = refl
    by false c e f =
        ap (λ b. b || is_among_names names s) (any_joined (bytes_eq s) found name ∙ ap (λ b. is_among_names found s || b) f)
        ∙ regroup (is_among_names found s) c (is_among_names names s)

-- one name more
next_first : (found names : List (List ℕ)) (name : List ℕ) → first_occurrences found (names ++ name ∷ []) ≡ (if is_among_names (first_occurrences found names) name then first_occurrences found names else first_occurrences found names ++ name ∷ [])
next_first found [] name = refl
next_first found (n ∷ names) name = next_first (if is_among_names found n then found else found ++ n ∷ []) names name

module _ (keys names : List (Bor (List ℕ))) (same : keys ≡ names) (i : ℕ) (d : Bor (List ℕ)) (within : i < length keys) where
  abbrev name : Bor (List ℕ)
  name = get_or keys i d

  first_next : (b : Bool) → list_any (λ (k : Bor (List ℕ)). bytes_eq name.now k.now) (take i names) ≡ b →
      first_occurrences [] (texts (take (i + 1) names)) ≡ (if b then first_occurrences [] (texts (take i names)) else first_occurrences [] (texts (take i names)) ++ name.now ∷ [])
  first_next b e =
      ap (λ (ks : List (Bor (List ℕ))). first_occurrences [] (texts (take (i + 1) ks))) (sym same)
      ∙ ap (first_occurrences []) (map_more (λ (k : Bor (List ℕ)). k.now) keys i d within)
      ∙ ap (λ (ks : List (Bor (List ℕ))). first_occurrences [] (texts (take i ks) ++ name.now ∷ [])) same
      ∙ next_first [] (texts (take i names)) name.now
      ∙ ap (λ c. if c then first_occurrences [] (texts (take i names)) else first_occurrences [] (texts (take i names)) ++ name.now ∷ [])
      (same_names name.now [] (texts (take i names)) ∙ sym (any_map (bytes_eq name.now) (λ (k : Bor (List ℕ)). k.now) (take i names)) ∙ e)

  module _ (first : List (Bor (List ℕ))) (so_far : texts first ≡ first_occurrences [] (texts (take i names))) where
    -- a name that was there before is passed
    pub first_again : list_any (λ (k : Bor (List ℕ)). bytes_eq name.now k.now) (take i names) ≡ true → texts first ≡ first_occurrences [] (texts (take (i + 1) names))
    first_again e = so_far ∙ sym (first_next true e)

    -- a new one is put after the others
    pub first_new : (more : List (Bor (List ℕ))) → list_any (λ (k : Bor (List ℕ)). bytes_eq name.now k.now) (take i names) ≡ false → more ≡ first ++ name ∷ [] →
        texts more ≡ first_occurrences [] (texts (take (i + 1) names))
    first_new more e pushed =
        ap texts pushed ∙ map-append (λ (k : Bor (List ℕ)). k.now) first (name ∷ []) ∙ ap (λ ns. ns ++ name.now ∷ []) so_far ∙ sym (first_next false e)
