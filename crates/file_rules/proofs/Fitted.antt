-- That what breaks no rule has room in a machine.
use Rattle.std.proofs.Common.{◌≡◌, ◌<◌, ◌≤◌, ◌∙◌, ◌&&◌, ◌||◌, ℕ, Bool, true, false, not, cond, nat_le, List, [], ◌∷◌, length, find, bytes_eq, codes, unwrap_or, option_and_then, IfSome, Option, Some, None, refl, sym, ap, arith, Ordering, Less, Equal, Greater}
use Rattle.std.specs.List.{list_any, list_all}
use Rattle.std.specs.Ordering.{is_eq, nat_cmp, match_ordering}
use Rattle.std.specs.Cmp.Lexicographic.{slice_cmp, bytes_decides}
use Rattle.std.proofs.lemmas.Bool.{false≢true, and_parts, leb-true}
use Rattle.std.proofs.lemmas.Map.Text.{is_eq-slice_cmp}
use Rattle.serde_json.specs.Data.{Data, null, boolean, number, string, array, object, Members, no_members, member}
use Rattle.serde_json.specs.Find.{get, get_member, as_number, as_u64, as_str}
use Rattle.borrowed_json.specs.Look.{has_only, are_named, is_some_and, is_none_or, text_of, must_have, may_have, has_text, word_at, is_within}
use Rattle.file_rules.specs.Names.{spells_name}
use Rattle.file_rules.specs.Rules.{name_of}
use Rattle.sleep_model.specs.NameBytes.{is_name_byte, is_name}
use Rattle.file_rules.specs.Limits.{times_of}
use Rattle.file_rules.specs.Operations.{Operation, operations, fits_row, is_formed, plain, has_count, has_short_text, is_state_form, has_length, has_mark, is_runtime_form, has_ends_named, is_link_state_form, changes_links, row_of, has_source, is_event_form}
use Rattle.file_rules.specs.Fitting.{IsShort, FitsAt}

-- ---- members that are not there

-- another key's member is passed
passed : (k l : List ℕ) (o : Ordering) (e : Data) (rest : Option Data) → is_eq o ≡ false → rest ≡ None → match_ordering o rest (Some e) rest ≡ None
passed k l Less e rest h n = n
passed k l Equal e rest h n = absurd (false≢true (sym h))
passed k l Greater e rest h n = n

-- a key that is none of these names, of a member that has one of them
apart : (k l : List ℕ) (names : List (List ℕ)) → list_any (bytes_eq k) names ≡ false → list_any (bytes_eq l) names ≡ true → bytes_eq k l ≡ false
apart k l names none some = by (bytes_eq k l) refl
  where
    by : (b : Bool) → bytes_eq k l ≡ b → b ≡ false
    by false e = refl
    by true e = absurd (false≢true (sym none ∙ ap (λ (s : List ℕ). list_any (bytes_eq s) names) ((bytes_decides k l).0 e) ∙ some))

no_member : (names : List (List ℕ)) (k : List ℕ) (ms : Members) → are_named names ms ≡ true → list_any (bytes_eq k) names ≡ false → get_member k ms ≡ None
no_member names k no_members h n = refl
no_member names k (member l d ms) h n =
    let both = and_parts (list_any (bytes_eq l) names) (are_named names ms) h in
    passed k l (slice_cmp nat_cmp k l) d (get_member k ms) (is_eq-slice_cmp k l ∙ apart k l names n both.0) (no_member names k ms both.1 n)

-- a name that is none of those that are allowed has no value
pub absent : (names : List (List ℕ)) (k : List ℕ) (d : Data) → has_only names d ≡ true → list_any (bytes_eq k) names ≡ false → get k d ≡ None
absent names k null h n = refl
absent names k (boolean b) h n = refl
absent names k (number x) h n = refl
absent names k (string s) h n = refl
absent names k (array ds) h n = refl
absent names k (object ms) h n = no_member names k ms h n

pub absent_fits : (names : List (List ℕ)) (k : List ℕ) (d : Data) → has_only names d ≡ true → list_any (bytes_eq k) names ≡ false → FitsAt k d
absent_fits names k d h n = record { below = by (get k d) (absent names k d h n) }
  where
    by : (o : Option Data) → o ≡ None → IfSome (option_and_then as_u64 (option_and_then as_number o)) (λ x. x < 4294967296)
    by None e = tt
    by (Some v) e = cc

pub absent_word : (test : List ℕ → Bool) (names : List (List ℕ)) (k : List ℕ) (d : Data) → has_only names d ≡ true → list_any (bytes_eq k) names ≡ false → is_none_or test (word_at k d) ≡ true
absent_word test names k d h n = by (get k d) (absent names k d h n)
  where
    by : (o : Option Data) → o ≡ None → is_none_or test (option_and_then as_str o) ≡ true
    by None e = refl
    by (Some v) e = cc

-- ---- numbers and texts of members

bounded : (least most bound : ℕ) (o : Option ℕ) → most < bound → is_some_and (λ n. nat_le least n && nat_le n most) o ≡ true → IfSome o (λ n. n < bound)
bounded least most bound None b e = absurd (false≢true e)
bounded least most bound (Some n) b e = let h = leb-true n most (and_parts (nat_le least n) (nat_le n most) e).1 in omega arith

-- a number that may be given, and is of its range if it is
pub within_fits : (least most : ℕ) (k : List ℕ) (d : Data) → most < 4294967296 → may_have k (is_within least most) d ≡ true → FitsAt k d
within_fits least most k d b h = record { below = by (get k d) h }
  where
    by : (o : Option Data) → is_none_or (is_within least most) o ≡ true → IfSome (option_and_then as_u64 (option_and_then as_number o)) (λ x. x < 4294967296)
    by None e = tt
    by (Some v) e = bounded least most 4294967296 (option_and_then as_u64 (as_number v)) b e

must_may : (test : Data → Bool) (o : Option Data) → is_some_and test o ≡ true → is_none_or test o ≡ true
must_may test None e = refl
must_may test (Some d) e = e

short_some : (o : Option (List ℕ)) → is_some_and is_name o ≡ true → IsShort (unwrap_or o [])
short_some None e = absurd (false≢true e)
short_some (Some s) e =
    let sizes = (and_parts (nat_le 1 (length s) && nat_le (length s) 32) (list_all is_name_byte s) e).0 in
    let both = and_parts (nat_le 1 (length s)) (nat_le (length s) 32) sizes in
    let least = leb-true 1 (length s) both.0 in
    record { least = omega arith; most = leb-true (length s) 32 both.1 }

-- a number of at least 1 if one is given
pub least_or : (most : ℕ) (o : Option Data) → is_none_or (is_within 1 most) o ≡ true → 1 ≤ unwrap_or (option_and_then as_u64 (option_and_then as_number o)) 1
least_or most None e = omega arith
least_or most (Some d) e = by (option_and_then as_u64 (as_number d)) e
  where
    by : (n : Option ℕ) → is_some_and (λ k. nat_le 1 k && nat_le k most) n ≡ true → 1 ≤ unwrap_or n 1
    by None h = omega arith
    by (Some n) h = leb-true 1 n (and_parts (nat_le 1 n) (nat_le n most) h).0

-- a text that is spelled as names are
pub short_text : (d : Data) → spells_name d ≡ true → IsShort (text_of d)
short_text d e = short_some (as_str d) e

-- a thing whose name is
pub short_name : (d : Data) → must_have (codes "name") spells_name d ≡ true → IsShort (name_of d)
short_name d e = by (get (codes "name") d) e
  where
    by : (o : Option Data) → is_some_and spells_name o ≡ true → IsShort (unwrap_or (option_and_then as_str o) [])
    by None h = absurd (false≢true h)
    by (Some v) h = short_some (as_str v) h

pub short_spelled : (s : List ℕ) → is_name s ≡ true → IsShort s
short_spelled s e = short_some (Some s) e

-- ---- operations

-- what the rules on operations say of one
pub record IsPlain (o : Data) : Type 0 where
  pub made : 1 ≤ times_of o
  pub mark : is_none_or is_name (word_at (codes "mark") o) ≡ true

-- each row of a table gives it
abbrev EachRow : (o : Data) → List Operation → Type 0
EachRow o [] = Unit {0}
EachRow o (r ∷ rows) = (fits_row o r ≡ true → IsPlain o) × EachRow o rows

by_row : (o : Data) (t : Operation → Bool) (rows : List Operation) → EachRow o rows → is_some_and (fits_row o) (find t rows) ≡ true → IsPlain o
by_row o t [] each e = absurd (false≢true e)
by_row o t (r ∷ rows) each e = by (t r) e (by_row o t rows each.1)
  where
    by : (b : Bool) → is_some_and (fits_row o) (cond b (Some r) (find t rows)) ≡ true → (is_some_and (fits_row o) (find t rows) ≡ true → IsPlain o) → IsPlain o
    by true h rest = each.0 h
    by false h rest = rest h

module _ (o : Data) (members : List (List ℕ)) (form : Bool) (e : (has_only (codes "op" ∷ codes "times" ∷ members) o && may_have (codes "times") (is_within 1 20000) o && form) ≡ true) where
  abbrev names : List (List ℕ)
  names = codes "op" ∷ codes "times" ∷ members

  front : (has_only names o && may_have (codes "times") (is_within 1 20000) o) ≡ true
  front = (and_parts (has_only names o && may_have (codes "times") (is_within 1 20000) o) form e).0

  only : has_only names o ≡ true
  only = (and_parts (has_only names o) (may_have (codes "times") (is_within 1 20000) o) front).0

  made : 1 ≤ times_of o
  made = least_or 20000 (get (codes "times") o) (and_parts (has_only names o) (may_have (codes "times") (is_within 1 20000) o) front).1

  -- the form of the row
  formed : form ≡ true
  formed = (and_parts (has_only names o && may_have (codes "times") (is_within 1 20000) o) form e).1

  -- a row without a mark
  plain_row : list_any (bytes_eq (codes "mark")) names ≡ false → IsPlain o
  plain_row n = record { made = made; mark = absent_word is_name names (codes "mark") o only n }

  -- a row with a mark
  marked_row : (form ≡ true → is_none_or is_name (word_at (codes "mark") o) ≡ true) → IsPlain o
  marked_row mark = record { made = made; mark = mark formed }

named_mark : (o : Data) → has_mark o ≡ true → is_none_or is_name (word_at (codes "mark") o) ≡ true
named_mark o e = by (get (codes "mark") o) e
  where
    found : (s : Option (List ℕ)) → is_some_and is_name s ≡ true → is_none_or is_name s ≡ true
    found None h = refl
    found (Some s) h = h

    by : (d : Option Data) → is_some_and spells_name d ≡ true → is_none_or is_name (option_and_then as_str d) ≡ true
    by None h = refl
    by (Some d) h = found (as_str d) h

each_row : (o : Data) → EachRow o operations
each_row o = (
  λ e. plain_row o [] (plain o) e refl,
  (
    λ e. plain_row o (codes "count" ∷ []) (has_count o) e refl,
    (
      λ e. plain_row o (codes "text" ∷ codes "if_saved" ∷ []) (is_state_form o) e refl,
      (
        λ e. plain_row o (codes "text" ∷ []) (has_short_text o) e refl,
        (
          λ e. plain_row o (codes "ms" ∷ []) (has_length o) e refl,
          (
            λ e. plain_row o (codes "ms" ∷ []) (has_length o) e refl,
            (
              λ e. plain_row o [] (plain o) e refl,
              (
                λ e. marked_row o (codes "mark" ∷ []) (has_mark o) e (named_mark o),
                (
                  λ e. marked_row o (codes "mark" ∷ []) (has_mark o) e (named_mark o),
                  (
                    λ e. plain_row o (codes "device" ∷ codes "to" ∷ []) (is_runtime_form o) e refl,
                    (
                      λ e. plain_row o (codes "supplier" ∷ codes "consumer" ∷ []) (has_ends_named o) e refl,
                      (
                        λ e. plain_row o (codes "supplier" ∷ codes "consumer" ∷ codes "to" ∷ []) (is_link_state_form o) e refl,
                        (
                          λ e. plain_row o (codes "source" ∷ []) (has_source o) e refl,
                          (
                            λ e. plain_row o (codes "source" ∷ []) (has_source o) e refl,
                            (λ e. plain_row o (codes "source" ∷ codes "ms" ∷ codes "hard" ∷ []) (is_event_form o) e refl, tt),
                          ),
                        ),
                      ),
                    ),
                  ),
                ),
              ),
            ),
          ),
        ),
      ),
    ),
  ),
)

pub plain_operation : (second : Bool) (actor o : Data) → is_formed second actor o ≡ true → IsPlain o
plain_operation second actor o e =
    by_row o (λ r. has_text (codes "op") r.word o) operations (each_row o) (and_parts (second || not (changes_links o)) (is_some_and (fits_row o) (row_of o)) e).1
