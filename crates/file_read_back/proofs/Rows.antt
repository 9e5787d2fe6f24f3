-- What an object of rows has at a name.
use Rattle.std.proofs.Common.{◌≡◌, ◌≢◌, ◌∙◌, ◌&&◌, ℕ, List, [], ◌∷◌, Bool, true, false, cond, if◌then◌else◌, bytes_eq, Option, Some, None, Equal, nat_cmp, refl, sym, ap, subst, unwrap_or, option_and_then}
use Rattle.std.specs.List.{list_all, list_any}
use Rattle.std.specs.Cmp.Lexicographic.{slice_cmp, bytes_decides}
use Rattle.std.specs.Ordering.{is_lt}
use Rattle.std.proofs.lemmas.Bool.{and_parts, false≢true}
use Rattle.std.proofs.lemmas.Cmp.{nat_list_cmp_total, tied_itself}
use Rattle.serde_json.specs.Data.{Data, no_items, put}
use Rattle.serde_json.specs.Find.{get, get_member, as_array}
use Rattle.serde_json.proofs.Views.{get_member-put, get_member-put_other}
use Rattle.borrowed_json.specs.Look.{are_named, has_only, items_of, list_in}
use Rattle.file_rules.specs.Form.{Named}
use Rattle.machine_file.specs.Spelling.{as_items, put_if, as_members, object_of, list_unless_empty}
use Rattle.machine_file.proofs.Sheets.{is_before, are_rising, put_first}

-- what is at the first row of that name
abbrev pub found : List (Named (Option Data)) → List ℕ → Option Data
found [] name = None
found (r ∷ rows) name = if bytes_eq name r.name then r.is else found rows name

apart : (k l : List ℕ) → is_lt (slice_cmp nat_cmp k l) ≡ true → k ≢ l
apart k l e same =
    let tied : slice_cmp nat_cmp k l ≡ Equal = subst (λ x. slice_cmp nat_cmp k x ≡ Equal) same (tied_itself nat_list_cmp_total k) in
    false≢true (sym (ap is_lt tied) ∙ e)

-- a name before those of all rows is none of them
absent : (name : List ℕ) (rows : List (Named (Option Data))) → is_before name rows ≡ true → get_member name (as_members rows) ≡ None
absent name [] e = refl
absent name (r ∷ rows) e =
    let both = and_parts (is_lt (slice_cmp nat_cmp name r.name)) (is_before name rows) e in
    by both.0 (absent name rows both.1) r.is
  where
    by : is_lt (slice_cmp nat_cmp name r.name) ≡ true → get_member name (as_members rows) ≡ None → (o : Option Data) → get_member name (put_if r.name o (as_members rows)) ≡ None
    by less rest None = rest
    by less rest (Some d) = get_member-put_other name r.name d (as_members rows) (apart name r.name less) ∙ rest

-- what an object of rows has at a name
pub at_name : (rows : List (Named (Option Data))) → are_rising rows ≡ true → (name : List ℕ) → get name (object_of rows) ≡ found rows name
at_name [] e name = refl
at_name (r ∷ rows) e name =
    let rising = and_parts (is_before r.name rows) (are_rising rows) e in
    by rising.0 (at_name rows rising.1 name) (bytes_eq name r.name) refl r.is
  where
    by : is_before r.name rows ≡ true → get_member name (as_members rows) ≡ found rows name → (b : Bool) → bytes_eq name r.name ≡ b → (o : Option Data) →
        get_member name (put_if r.name o (as_members rows)) ≡ cond b o (found rows name)
    by first rest true same None = subst (λ n. get_member n (as_members rows) ≡ None) (sym ((bytes_decides name r.name).0 same)) (absent r.name rows first)
    by first rest true same (Some d) =
        subst (λ n. get_member n (put r.name d (as_members rows)) ≡ Some d) (sym ((bytes_decides name r.name).0 same)) (get_member-put r.name d (as_members rows))
    by first rest false same None = rest
    by first rest false same (Some d) =
        get_member-put_other name r.name d (as_members rows) (λ h. false≢true (sym same ∙ (bytes_decides name r.name).1 h)) ∙ rest

-- the same at once, for all names
pub at_names : (rows : List (Named (Option Data))) → are_rising rows ≡ true → (λ (name : List ℕ). get name (object_of rows)) ≡ found rows
at_names rows e = λ i name. at_name rows e name i

-- an object of rows has no members but theirs
pub named : (names : List (List ℕ)) (rows : List (Named (Option Data))) → are_rising rows ≡ true → list_all (λ r. list_any (bytes_eq r.name) names) rows ≡ true →
    has_only names (object_of rows) ≡ true
named names [] e h = refl
named names (r ∷ rows) e h =
    let rising = and_parts (is_before r.name rows) (are_rising rows) e in
    let both = and_parts (list_any (bytes_eq r.name) names) (list_all (λ x. list_any (bytes_eq x.name) names) rows) h in
    by rising both.0 (named names rows rising.1 both.1) r.is
  where
    by : (is_before r.name rows ≡ true) × (are_rising rows ≡ true) → list_any (bytes_eq r.name) names ≡ true → are_named names (as_members rows) ≡ true →
        (o : Option Data) → are_named names (put_if r.name o (as_members rows)) ≡ true
    by rising here rest None = rest
    by rising here rest (Some d) =
        ap (are_named names) (put_first r.name d rows rising.0 rising.1) ∙ ap (λ b. b && are_named names (as_members rows)) here ∙ rest

pub items_back : (ds : List Data) → items_of (as_items ds) ≡ ds
items_back [] = refl
items_back (d ∷ ds) = ap (λ xs. d ∷ xs) (items_back ds)

-- the list at a member that is left out if it is empty
pub listed : (ds : List Data) → items_of (unwrap_or (option_and_then as_array (list_unless_empty ds)) no_items) ≡ ds
listed [] = refl
listed (d ∷ ds) = items_back (d ∷ ds)

-- the list at a member of an object of rows
pub list_found : (rows : List (Named (Option Data))) → are_rising rows ≡ true → (name : List ℕ) (ds : List Data) → found rows name ≡ list_unless_empty ds → list_in name (object_of rows) ≡ ds
list_found rows e name ds h = ap (λ o. items_of (unwrap_or (option_and_then as_array o) no_items)) (at_name rows e name ∙ h) ∙ listed ds
