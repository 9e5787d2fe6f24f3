-- The names of a machine that a file spells are spelled as names are, and different.
use Rattle.std.proofs.Common.{◌≡◌, ◌∙◌, ◌&&◌, ◌||◌, ◌++◌, ◌⊎◌, inl, inr, ℕ, suc, Bool, true, false, not, cond, if◌then◌else◌, List, [], ◌∷◌, find, flat_map, bytes_eq, codes, unwrap_or, option_and_then, Option, Some, None, refl, sym, ap, subst}
use Rattle.std.specs.List.{list_any, list_all, cons_option}
use Rattle.std.specs.Option.{option_map, option_or}
use Rattle.std.specs.Cmp.Lexicographic.{bytes_decides}
use Rattle.std.proofs.lemmas.Bool.{and_parts, and_from, false≢true}
use Rattle.serde_json.specs.Data.{Data}
use Rattle.serde_json.specs.Find.{get, as_str}
use Rattle.sleep_model.specs.declared.machine.Machine.{Machine}
use Rattle.borrowed_json.specs.Look.{has_only, is_some_and, is_none_or, text_of, list_in, word_at, must_have, may_have, has_text, is_within}
use Rattle.file_rules.specs.Places.{first_not_after, item_place}
use Rattle.file_rules.specs.Names.{is_among_names, own_name, names_of_device, spells_name, names_in, texts_in, devices_named, sources_named, repeated}
use Rattle.file_rules.specs.Rules.{name_of}
use Rattle.sleep_model.specs.NameBytes.{is_name}
use Rattle.file_rules.specs.Devices.{whole_device}
use Rattle.file_rules.specs.Operations.{Operation, operations, fits_row, has_mark, marks_of, first_occurrences, whole_marks, known_of, whole_script}
use Rattle.file_rules.specs.Tree.{tree}
use Rattle.file_rules.specs.Whole.{Broken, rules, first_broken, whole_machine, whole_notifier, unless_broken}
use Rattle.file_rules.proofs.Accepted.{keeps_all}
use Rattle.file_rules.proofs.Fitted.{absent}
use Rattle.log_text.specs.Named.{are_distinct, are_names, AreNamed}
use Rattle.file_read_back.proofs.Alike.{EachOf, weaker, made_pass, mapped}
use Rattle.file_read_back.proofs.DevicesBack.{ValidDevice}
use Rattle.file_read_back.proofs.LinksBack.{spelled}
use Rattle.file_read_back.proofs.OperationsBack.{ValidOperation}
use Rattle.file_read_back.proofs.ScriptsBack.{ValidActor}
use Rattle.file_read_back.specs.Laws.{AllNamed, TextsAreInjective}
use Rattle.log_text.proofs.OneLog.{one_log}
use Rattle.file_read_back.proofs.FileValid.{valid_file}
use Rattle.file_read_back.proofs.ReadBack.{some_is}

-- ---- how names are spelled

text_spelled : (o : Option (List ℕ)) → is_some_and is_name o ≡ true → is_name (unwrap_or o []) ≡ true
text_spelled None e = absurd (false≢true e)
text_spelled (Some s) e = e

-- a text that is spelled as names are
text_name : (d : Data) → spells_name d ≡ true → is_name (text_of d) ≡ true
text_name d e = text_spelled (as_str d) e

-- a thing whose own name is
own_spelled : (d : Data) → own_name d ≡ true → is_name (name_of d) ≡ true
own_spelled d e = spelled (get (codes "name") d) e

-- ---- names that are different

none_of_map : {X Y : Type 0} (f : X → Y) (o : Option X) → option_map f o ≡ None → o ≡ None
none_of_map f None e = refl
none_of_map f (Some x) e = absurd (let g : Some (f x) ≡ None = e in cc)

-- the first of them passes, and so do those after it
passes : (test : List (List ℕ) → List ℕ → Bool) (before : List (List ℕ)) (n : ℕ) (x : List ℕ) (xs : List (List ℕ)) → first_not_after test before n (x ∷ xs) ≡ None →
    (test before x ≡ true) × (first_not_after test (x ∷ before) (suc n) xs ≡ None)
passes test before n x xs e = by (test before x) e
  where
    by : (b : Bool) → cond b (first_not_after test (x ∷ before) (suc n) xs) (Some n) ≡ None → (b ≡ true) × (first_not_after test (x ∷ before) (suc n) xs ≡ None)
    by true h = (refl, h)
    by false h = absurd (let g : Some n ≡ None = h in cc)

not_true : (b : Bool) → not b ≡ true → b ≡ false
not_true true e = absurd (false≢true e)
not_true false e = refl

not_false : (b : Bool) → b ≡ false → not b ≡ true
not_false b e = ap not e

either_true : (a b : Bool) → a ≡ true → (a || b) ≡ true
either_true a b e = ap (λ c. c || b) e

later_true : (a b : Bool) → b ≡ true → (a || b) ≡ true
later_true true b e = refl
later_true false b e = e

neither : (a b : Bool) → a ≡ false → b ≡ false → (a || b) ≡ false
neither a b e h = ap (λ c. c || b) e ∙ h

-- names of which none comes before it, nor any of those before all
record AreApart (before xs : List (List ℕ)) : Type 0 where
  distinct : are_distinct xs ≡ true
  others : (s : List ℕ) → is_among_names before s ≡ true → is_among_names xs s ≡ false

apart : (before : List (List ℕ)) (n : ℕ) (xs : List (List ℕ)) → first_not_after (λ b s. not (is_among_names b s)) before n xs ≡ None → AreApart before xs
apart before n [] e = record { distinct = refl; others = λ s h. refl }
apart before n (x ∷ xs) e =
    let both = passes (λ b s. not (is_among_names b s)) before n x xs e in
    let rest = apart (x ∷ before) (suc n) xs both.1 in
    let same = (bytes_decides x x).1 refl in
    let alone = rest.others x (either_true (bytes_eq x x) (is_among_names before x) same) in
    record {
      distinct = and_from (not (list_any (bytes_eq x) xs)) (are_distinct xs) (not_false (list_any (bytes_eq x) xs) alone) rest.distinct;
      others = λ s h. neither (bytes_eq s x) (is_among_names xs s) (other s (not_true (is_among_names before x) both.0) h) (rest.others s (later_true (bytes_eq s x) (is_among_names before s) h));
    }
  where
    other : (s : List ℕ) → is_among_names before x ≡ false → is_among_names before s ≡ true → bytes_eq s x ≡ false
    other s none some = by (bytes_eq s x) refl
      where
        by : (b : Bool) → bytes_eq s x ≡ b → b ≡ false
        by false h = refl
        by true h = absurd (false≢true (sym none ∙ ap (is_among_names before) (sym ((bytes_decides s x).0 h)) ∙ some))

-- names that are spelled as names are, and of which none comes before it
named : (names : List (List ℕ)) → list_all is_name names ≡ true → first_not_after (λ b s. not (is_among_names b s)) [] 0 names ≡ None → are_names names ≡ true
named names all none = and_from (list_all is_name names) (are_distinct names) all (apart [] 0 names none).distinct

-- ---- sources

-- names of which none is that one
first_without : (one : List ℕ) (before : List (List ℕ)) (n : ℕ) (xs : List (List ℕ)) → first_not_after (λ b s. not (is_among_names (one ∷ b) s)) before n xs ≡ None →
    (first_not_after (λ b s. not (is_among_names b s)) before n xs ≡ None) × (is_among_names xs one ≡ false)
first_without one before n [] e = (refl, refl)
first_without one before n (x ∷ xs) e =
    let both = passes (λ b s. not (is_among_names (one ∷ b) s)) before n x xs e in
    let rest = first_without one (x ∷ before) (suc n) xs both.1 in
    let parts = by (bytes_eq x one) (is_among_names before x) (not_true (bytes_eq x one || is_among_names before x) both.0) in (
      ap (λ b. cond (not b) (first_not_after (λ c s. not (is_among_names c s)) (x ∷ before) (suc n) xs) (Some n)) parts.1 ∙ rest.0,
      neither (bytes_eq one x) (is_among_names xs one) (turned (bytes_eq one x) refl parts.0) rest.1,
    )
  where
    by : (a b : Bool) → (a || b) ≡ false → (a ≡ false) × (b ≡ false)
    by true b h = absurd (false≢true (sym h))
    by false b h = (refl, h)

    turned : (b : Bool) → bytes_eq one x ≡ b → bytes_eq x one ≡ false → b ≡ false
    turned false h k = refl
    turned true h k = absurd (false≢true (sym k ∙ (bytes_decides x one).1 (sym ((bytes_decides one x).0 h))))

any_after : (q : List ℕ → Bool) (xs : List (List ℕ)) (y : List ℕ) → list_any q xs ≡ false → q y ≡ false → list_any q (xs ++ y ∷ []) ≡ false
any_after q [] y e h = neither (q y) false h refl
any_after q (x ∷ xs) y e h = let both = by (q x) (list_any q xs) e in neither (q x) (list_any q (xs ++ y ∷ [])) both.0 (any_after q xs y both.1 h)
  where
    by : (a b : Bool) → (a || b) ≡ false → (a ≡ false) × (b ≡ false)
    by true b h = absurd (false≢true (sym h))
    by false b h = (refl, h)

all_after : (q : List ℕ → Bool) (xs : List (List ℕ)) (y : List ℕ) → list_all q xs ≡ true → q y ≡ true → list_all q (xs ++ y ∷ []) ≡ true
all_after q [] y e h = and_from (q y) true h refl
all_after q (x ∷ xs) y e h = let both = and_parts (q x) (list_all q xs) e in and_from (q x) (list_all q (xs ++ y ∷ [])) both.0 (all_after q xs y both.1 h)

-- distinct names and one more after them
distinct_after : (xs : List (List ℕ)) (y : List ℕ) → are_distinct xs ≡ true → is_among_names xs y ≡ false → are_distinct (xs ++ y ∷ []) ≡ true
distinct_after [] y e h = refl
distinct_after (x ∷ xs) y e h =
    let own = and_parts (not (list_any (bytes_eq x) xs)) (are_distinct xs) e in
    let parts = by (bytes_eq y x) (is_among_names xs y) h in
    and_from (not (list_any (bytes_eq x) (xs ++ y ∷ []))) (are_distinct (xs ++ y ∷ []))
    (not_false (list_any (bytes_eq x) (xs ++ y ∷ [])) (any_after (bytes_eq x) xs y (not_true (list_any (bytes_eq x) xs) own.0) (turned (bytes_eq x y) refl parts.0)))
    (distinct_after xs y own.1 parts.1)
  where
    by : (a b : Bool) → (a || b) ≡ false → (a ≡ false) × (b ≡ false)
    by true b k = absurd (false≢true (sym k))
    by false b k = (refl, k)

    turned : (b : Bool) → bytes_eq x y ≡ b → bytes_eq y x ≡ false → b ≡ false
    turned false k l = refl
    turned true k l = absurd (false≢true (sym l ∙ (bytes_decides y x).1 (sym ((bytes_decides x y).0 k))))

-- names of sources, and the one that always exists after them
named_after : (xs : List (List ℕ)) (y : List ℕ) → list_all is_name xs ≡ true → is_name y ≡ true → first_not_after (λ b s. not (is_among_names (y ∷ b) s)) [] 0 xs ≡ None →
    are_names (xs ++ y ∷ []) ≡ true
named_after xs y all own none =
    let both = first_without y [] 0 xs none in
    and_from (list_all is_name (xs ++ y ∷ [])) (are_distinct (xs ++ y ∷ [])) (all_after is_name xs y all own) (distinct_after xs y (apart [] 0 xs both.0).distinct both.1)

-- ---- marks

-- each mark of an operation of the table is a name: it belongs to the row, or is not there
abbrev ValidMark : Data → Operation → Type 0
ValidMark o r = fits_row o r ≡ true → is_none_or is_name (word_at (codes "mark") o) ≡ true

no_mark : (o : Data) (r : Operation) → list_any (bytes_eq (codes "mark")) (codes "op" ∷ codes "times" ∷ r.members) ≡ false → ValidMark o r
no_mark o r none e =
    let names = codes "op" ∷ codes "times" ∷ r.members in
    let front = (and_parts (has_only names o && may_have (codes "times") (is_within 1 20000) o) (r.form o) e).0 in
    by (get (codes "mark") o) (absent names (codes "mark") o (and_parts (has_only names o) (may_have (codes "times") (is_within 1 20000) o) front).0 none)
  where
    by : (d : Option Data) → d ≡ None → is_none_or is_name (option_and_then as_str d) ≡ true
    by None h = refl
    by (Some d) h = absurd (let g : Some d ≡ None = h in cc)

text_named : (o : Option (List ℕ)) → is_some_and is_name o ≡ true → is_none_or is_name o ≡ true
text_named None e = refl
text_named (Some s) e = e

member_named : (o : Option Data) → is_some_and spells_name o ≡ true → is_none_or is_name (option_and_then as_str o) ≡ true
member_named None e = refl
member_named (Some d) e = text_named (as_str d) e

own_mark : (o : Data) (r : Operation) → (r.form o ≡ true → must_have (codes "mark") spells_name o ≡ true) → ValidMark o r
own_mark o r is e =
    let names = codes "op" ∷ codes "times" ∷ r.members in
    member_named (get (codes "mark") o) (is (and_parts (has_only names o && may_have (codes "times") (is_within 1 20000) o) (r.form o) e).1)

-- of a row that was found
found_valid : (o : Data) (test : Operation → Bool) (rows : List Operation) → EachOf (ValidMark o) rows → is_some_and (fits_row o) (find test rows) ≡ true →
    is_none_or is_name (word_at (codes "mark") o) ≡ true
found_valid o test [] h e = absurd (false≢true e)
found_valid o test (r ∷ rows) h e = by (test r) (found_valid o test rows h.1) e
  where
    by : (b : Bool) → (is_some_and (fits_row o) (find test rows) ≡ true → is_none_or is_name (word_at (codes "mark") o) ≡ true) →
        is_some_and (fits_row o) (cond b (Some r) (find test rows)) ≡ true → is_none_or is_name (word_at (codes "mark") o) ≡ true
    by true later k = h.0 k
    by false later k = later k

-- a row has no mark among its members, or is of an operation on a mark
abbrev OwnsMark : Operation → Type 0
OwnsMark r = (list_any (bytes_eq (codes "mark")) (codes "op" ∷ codes "times" ∷ r.members) ≡ false) ⊎ (r.form ≡ has_mark)

rows_own : EachOf OwnsMark operations
rows_own = (inl refl, (inl refl, (inl refl, (inl refl, (inl refl, (inl refl, (inl refl, (inr refl, (inr refl, (inl refl, (inl refl, (inl refl, (inl refl, (inl refl, (inl refl, tt)))))))))))))))

row_valid : (o : Data) (r : Operation) → OwnsMark r → ValidMark o r
row_valid o r (inl none) = no_mark o r none
row_valid o r (inr is) = own_mark o r (λ e. ap (λ (form : Data → Bool). form o) (sym is) ∙ e)

mark_valid : (d o : Data) → ValidOperation d o → is_none_or is_name (word_at (codes "mark") o) ≡ true
mark_valid d o kept = found_valid o (λ r. has_text (codes "op") r.word o) operations (weaker OwnsMark (ValidMark o) operations (row_valid o) rows_own) kept.form

marks_named : (d : Data) (os : List Data) → EachOf (ValidOperation d) os → list_all is_name (marks_of os) ≡ true
marks_named d [] h = refl
marks_named d (o ∷ os) h = by (word_at (codes "mark") o) (mark_valid d o h.0) (marks_named d os h.1)
  where
    by : (w : Option (List ℕ)) → is_none_or is_name w ≡ true → list_all is_name (marks_of os) ≡ true → list_all is_name (cons_option w (marks_of os)) ≡ true
    by None e rest = rest
    by (Some s) e rest = and_from (is_name s) (list_all is_name (marks_of os)) e rest

all_joined : (q : List ℕ → Bool) (xs ys : List (List ℕ)) → list_all q xs ≡ true → list_all q ys ≡ true → list_all q (xs ++ ys) ≡ true
all_joined q [] ys e h = h
all_joined q (x ∷ xs) ys e h = let both = and_parts (q x) (list_all q xs) e in and_from (q x) (list_all q (xs ++ ys)) both.0 (all_joined q xs ys both.1 h)

all_marks : (d : Data) (actors : List Data) → EachOf (ValidActor d) actors → list_all is_name (flat_map (λ a. marks_of (list_in (codes "script") a)) actors) ≡ true
all_marks d [] h = refl
all_marks d (a ∷ actors) h =
    all_joined is_name (marks_of (list_in (codes "script") a)) (flat_map (λ b. marks_of (list_in (codes "script") b)) actors)
    (marks_named d (list_in (codes "script") a) h.0.ops) (all_marks d actors h.1)

-- only names at their first indices
firsts_named : (found names : List (List ℕ)) → list_all is_name found ≡ true → list_all is_name names ≡ true → list_all is_name (first_occurrences found names) ≡ true
firsts_named found [] e h = e
firsts_named found (name ∷ names) e h =
    let both = and_parts (is_name name) (list_all is_name names) h in
    firsts_named (if is_among_names found name then found else found ++ name ∷ []) names (by (is_among_names found name) both.0) both.1
  where
    by : (b : Bool) → is_name name ≡ true → list_all is_name (if b then found else found ++ name ∷ []) ≡ true
    by true k = e
    by false k = all_after is_name found name e k

firsts_distinct : (found names : List (List ℕ)) → are_distinct found ≡ true → are_distinct (first_occurrences found names) ≡ true
firsts_distinct found [] e = e
firsts_distinct found (name ∷ names) e = firsts_distinct (if is_among_names found name then found else found ++ name ∷ []) names (by (is_among_names found name) refl)
  where
    by : (b : Bool) → is_among_names found name ≡ b → are_distinct (if b then found else found ++ name ∷ []) ≡ true
    by true k = e
    by false k = distinct_after found name e k

marks_apart : (d : Data) → EachOf (ValidActor d) (list_in (codes "actors") d) → are_names (whole_marks d) ≡ true
marks_apart d h =
    let all = flat_map (λ a. marks_of (list_in (codes "script") a)) (list_in (codes "actors") d) in
    and_from (list_all is_name (first_occurrences [] all)) (are_distinct (first_occurrences [] all))
    (firsts_named [] all refl (all_marks d (list_in (codes "actors") d) h)) (firsts_distinct [] all refl)

-- ---- the machine

-- what a value spells that breaks no rule has different names
pub all_named : (d : Data) → first_broken d ≡ None → AreNamed (whole_machine d)
all_named d h =
    let r = keeps_all rules d h in
    let file = valid_file d h in
    let devices = list_in (codes "devices") d in
    let notifiers = list_in (codes "notifiers") d in
    let actors = list_in (codes "actors") d in
    let device = r.1.1.1.1.1.1.0 in
    let callbacks = r.1.1.1.1.1.1.1.1.1.1.1.0 in
    let sources = r.1.1.1.1.1.1.1.1.1.1.1.1.0 in
    let scripts = r.1.1.1.1.1.1.1.1.1.1.1.1.1.0 in
    let each = either_none (repeated (codes "syscore") (texts_in (codes "syscore") d)) (repeated (codes "notifiers") (names_in (codes "notifiers") d)) callbacks in
    record {
      devices =
          ap are_names (mapped (λ x. x.name) (whole_device (devices_named d)) devices)
          ∙ named (devices_named d) (made_pass is_name name_of devices (weaker (ValidDevice d) (λ x. is_name (name_of x) ≡ true) devices (λ x k. device_spelled x k.names) file.devices))
          (none_of_map (item_place (codes "devices")) _ device);
      syscore =
          named (texts_in (codes "syscore") d)
          (made_pass is_name text_of (list_in (codes "syscore") d) (weaker (λ x. spells_name x ≡ true) (λ x. is_name (text_of x) ≡ true) (list_in (codes "syscore") d) text_name file.syscore))
          (none_of_map (item_place (codes "syscore")) _ each.0);
      notifiers =
          ap are_names (mapped (λ x. x.name) whole_notifier notifiers)
          ∙ named (names_in (codes "notifiers") d)
          (made_pass is_name name_of notifiers (weaker _ (λ x. is_name (name_of x) ≡ true) notifiers (λ x k. own_spelled x k.1) file.notifiers))
          (none_of_map (item_place (codes "notifiers")) _ each.1);
      sources =
          named_after (sources_named d) (codes "autosleep")
          (made_pass is_name text_of (list_in (codes "sources") d) (weaker (λ x. spells_name x ≡ true) (λ x. is_name (text_of x) ≡ true) (list_in (codes "sources") d) text_name file.sources))
          refl (none_of_map (item_place (codes "sources")) _ sources);
      marks = marks_apart d file.actors;
      scripts =
          ap are_names (mapped (λ x. x.name) (whole_script (known_of d)) actors)
          ∙ named (names_in (codes "actors") d)
          (made_pass is_name name_of actors (weaker (ValidActor d) (λ x. is_name (name_of x) ≡ true) actors (λ x k. own_spelled x k.names) file.actors))
          (none_of_map (item_place (codes "actors")) _ scripts);
    }
  where
    device_spelled : (x : Data) → names_of_device x ≡ true → is_name (name_of x) ≡ true
    device_spelled x e = own_spelled x (and_parts (own_name x) (may_have (codes "parent") spells_name x) e).0

    either_none : (o p : Option (List ℕ)) → option_or o p ≡ None → (o ≡ None) × (p ≡ None)
    either_none None p e = (refl, e)
    either_none (Some x) p e = absurd (let g : Some x ≡ None = e in cc)

by_rules : (d : Data) (m : Machine) (o : Option Broken) → first_broken d ≡ o → unless_broken o (whole_machine d) ≡ Some m → AreNamed m
by_rules d m None e is = subst AreNamed (some_is (whole_machine d) m is) (all_named d e)
by_rules d m (Some b) e is = absurd (let f : None ≡ Some m = is in cc)

by_tree : (m : Machine) (o : Option Data) → option_and_then (λ d. unless_broken (first_broken d) (whole_machine d)) o ≡ Some m → AreNamed m
by_tree m None is = absurd (let f : None ≡ Some m = is in cc)
by_tree m (Some d) is = by_rules d m (first_broken d) refl is

-- so it is of each machine that some file spells
pub machines_named : AllNamed
machines_named m is = by_tree m (tree is.0) is.1

-- so its logs are distinguished by their texts
pub texts_injective : TextsAreInjective
texts_injective m is a b v w same = one_log m (machines_named m is) a b v w same
