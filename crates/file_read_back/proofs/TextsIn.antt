-- The texts of a value that are UTF-8, and the texts that its names come from.
use Rattle.std.proofs.Common.{ℕ, zero, suc, List, [], ◌∷◌, ◌++◌, map, flat_map, codes, Bool, true, false, if◌then◌else◌, Option, Some, None, option_and_then, unwrap_or, Ordering, Less, Equal, Greater, nat_cmp, IsUtf8, refl, sym, subst}
use Rattle.std.specs.Prelude.{⊤}
use Rattle.std.specs.List.{slice_get, cons_option}
use Rattle.std.specs.Cmp.Lexicographic.{slice_cmp}
use Rattle.std.specs.Ordering.{match_ordering}
use Rattle.std.proofs.lemmas.Str.{IsUtf8-nil}
use Rattle.json.proofs.Printed.Utf8.{IsUtf8-are_ascii}
use Rattle.serde_json.specs.Data.{Data, null, boolean, number, string, array, object, Items, no_items, item, Members, no_members, member}
use Rattle.serde_json.specs.Find.{get, get_member, as_str, as_array}
use Rattle.sleep_model.specs.Text.{name_in, device, source, mark}
use Rattle.borrowed_json.specs.Look.{text_at, text_of, items_of, list_in, word_at}
use Rattle.file_rules.specs.Names.{is_among_names, devices_named, sources_named}
use Rattle.file_rules.specs.Rules.{name_of}
use Rattle.file_rules.specs.Operations.{marks_of, first_occurrences, whole_marks}
use Rattle.file_rules.specs.Whole.{whole_machine}
use Rattle.file_read_back.proofs.Alike.{EachOf}
use Rattle.file_read_back.proofs.NamesBack.{device_at}

-- each text of a value is UTF-8
abbrev mutual
  pub HasTexts : Data → Type 0
  HasTexts null = ⊤
  HasTexts (boolean b) = ⊤
  HasTexts (number x) = ⊤
  HasTexts (string s) = IsUtf8 s
  HasTexts (array ds) = ItemsHaveTexts ds
  HasTexts (object ms) = MembersHaveTexts ms

  pub ItemsHaveTexts : Items → Type 0
  ItemsHaveTexts no_items = ⊤
  ItemsHaveTexts (item d ds) = HasTexts d × ItemsHaveTexts ds

  pub MembersHaveTexts : Members → Type 0
  MembersHaveTexts no_members = ⊤
  MembersHaveTexts (member k d ms) = HasTexts d × MembersHaveTexts ms

abbrev pub MayHaveTexts : Option Data → Type 0
MayHaveTexts None = ⊤
MayHaveTexts (Some d) = HasTexts d

member_texts : (k : List ℕ) (ms : Members) → MembersHaveTexts ms → MayHaveTexts (get_member k ms)
member_texts k no_members h = tt
member_texts k (member l e ms) h = by (slice_cmp nat_cmp k l) h.0 (member_texts k ms h.1)
  where
    by : (o : Ordering) → HasTexts e → MayHaveTexts (get_member k ms) → MayHaveTexts (match_ordering o (get_member k ms) (Some e) (get_member k ms))
    by Less here rest = rest
    by Equal here rest = here
    by Greater here rest = rest

pub at_texts : (k : List ℕ) (d : Data) → HasTexts d → MayHaveTexts (get k d)
at_texts k null h = tt
at_texts k (boolean b) h = tt
at_texts k (number x) h = tt
at_texts k (string s) h = tt
at_texts k (array ds) h = tt
at_texts k (object ms) h = member_texts k ms h

pub of_text : (d : Data) → HasTexts d → IsUtf8 (text_of d)
of_text null h = IsUtf8-nil
of_text (boolean b) h = IsUtf8-nil
of_text (number x) h = IsUtf8-nil
of_text (string s) h = h
of_text (array ds) h = IsUtf8-nil
of_text (object ms) h = IsUtf8-nil

pub text_utf8 : (k : List ℕ) (d : Data) → HasTexts d → IsUtf8 (text_at k d)
text_utf8 k d h = by (get k d) (at_texts k d h)
  where
    by : (r : Option Data) → MayHaveTexts r → IsUtf8 (unwrap_or (option_and_then as_str r) [])
    by None e = IsUtf8-nil
    by (Some x) e = of_text x e

abbrev pub MayBeUtf8 : Option (List ℕ) → Type 0
MayBeUtf8 None = ⊤
MayBeUtf8 (Some s) = IsUtf8 s

word_utf8 : (k : List ℕ) (d : Data) → HasTexts d → MayBeUtf8 (word_at k d)
word_utf8 k d h = by (get k d) (at_texts k d h)
  where
    one : (x : Data) → HasTexts x → MayBeUtf8 (as_str x)
    one null e = tt
    one (boolean b) e = tt
    one (number y) e = tt
    one (string s) e = e
    one (array ds) e = tt
    one (object ms) e = tt

    by : (r : Option Data) → MayHaveTexts r → MayBeUtf8 (option_and_then as_str r)
    by None e = tt
    by (Some x) e = one x e

each_item : (ds : Items) → ItemsHaveTexts ds → EachOf HasTexts (items_of ds)
each_item no_items h = tt
each_item (item d ds) h = (h.0, each_item ds h.1)

pub list_texts : (k : List ℕ) (d : Data) → HasTexts d → EachOf HasTexts (list_in k d)
list_texts k d h = by (get k d) (at_texts k d h)
  where
    one : (x : Data) → HasTexts x → EachOf HasTexts (items_of (unwrap_or (as_array x) no_items))
    one null e = tt
    one (boolean b) e = tt
    one (number y) e = tt
    one (string s) e = tt
    one (array ds) e = each_item ds e
    one (object ms) e = tt

    by : (r : Option Data) → MayHaveTexts r → EachOf HasTexts (items_of (unwrap_or (option_and_then as_array r) no_items))
    by None e = tt
    by (Some x) e = one x e

-- ---- names

pub each_of : {X : Type 0} (P : X → Type 0) (f : Data → X) (os : List Data) → ((o : Data) → HasTexts o → P (f o)) → EachOf HasTexts os → EachOf P (map f os)
each_of P f [] g h = tt
each_of P f (o ∷ os) g h = (g o h.0, each_of P f os g h.1)

pub at_utf8 : (names : List (List ℕ)) (j : ℕ) → EachOf IsUtf8 names → IsUtf8 (name_in (slice_get names j))
at_utf8 [] j h = IsUtf8-nil
at_utf8 (n ∷ names) zero h = h.0
at_utf8 (n ∷ names) (suc j) h = at_utf8 names j h.1

each_append : {X : Type 0} (P : X → Type 0) (xs ys : List X) → EachOf P xs → EachOf P ys → EachOf P (xs ++ ys)
each_append P [] ys h k = k
each_append P (x ∷ xs) ys h k = (h.0, each_append P xs ys h.1 k)

marks_utf8 : (os : List Data) → EachOf HasTexts os → EachOf IsUtf8 (marks_of os)
marks_utf8 [] h = tt
marks_utf8 (o ∷ os) h = by (word_at (codes "mark") o) (word_utf8 (codes "mark") o h.0) (marks_utf8 os h.1)
  where
    by : (w : Option (List ℕ)) → MayBeUtf8 w → EachOf IsUtf8 (marks_of os) → EachOf IsUtf8 (cons_option w (marks_of os))
    by None e rest = rest
    by (Some s) e rest = (e, rest)

all_marks_utf8 : (actors : List Data) → EachOf HasTexts actors → EachOf IsUtf8 (flat_map (λ a. marks_of (list_in (codes "script") a)) actors)
all_marks_utf8 [] h = tt
all_marks_utf8 (a ∷ actors) h =
    each_append IsUtf8 (marks_of (list_in (codes "script") a)) (flat_map (λ b. marks_of (list_in (codes "script") b)) actors)
    (marks_utf8 (list_in (codes "script") a) (list_texts (codes "script") a h.0)) (all_marks_utf8 actors h.1)

more_utf8 : (b : Bool) (found : List (List ℕ)) (name : List ℕ) → EachOf IsUtf8 found → IsUtf8 name → EachOf IsUtf8 (if b then found else found ++ name ∷ [])
more_utf8 true found name h k = h
more_utf8 false found name h k = each_append IsUtf8 found (name ∷ []) h (k, tt)

places_utf8 : (found names : List (List ℕ)) → EachOf IsUtf8 found → EachOf IsUtf8 names → EachOf IsUtf8 (first_occurrences found names)
places_utf8 found [] h k = h
places_utf8 found (name ∷ names) h k =
    places_utf8 (if is_among_names found name then found else found ++ name ∷ []) names (more_utf8 (is_among_names found name) found name h k.0) k.1

module _ (d : Data) (h : HasTexts d) where
  pub device_utf8 : (j : ℕ) → IsUtf8 (device (whole_machine d) j)
  device_utf8 j =
      subst IsUtf8 (sym (device_at (devices_named d) (list_in (codes "devices") d) j))
      (at_utf8 (devices_named d) j (each_of IsUtf8 name_of (list_in (codes "devices") d) (λ o k. text_utf8 (codes "name") o k) (list_texts (codes "devices") d h)))

  pub source_utf8 : (j : ℕ) → IsUtf8 (source (whole_machine d) j)
  source_utf8 j =
      at_utf8 (sources_named d ++ codes "autosleep" ∷ []) j
      (each_append IsUtf8 (sources_named d) (codes "autosleep" ∷ []) (each_of IsUtf8 text_of (list_in (codes "sources") d) of_text (list_texts (codes "sources") d h)) (IsUtf8-are_ascii (codes "autosleep") refl, tt))

  pub mark_utf8 : (j : ℕ) → IsUtf8 (mark (whole_machine d) j)
  mark_utf8 j =
      at_utf8 (whole_marks d) j (places_utf8 [] (flat_map (λ a. marks_of (list_in (codes "script") a)) (list_in (codes "actors") d)) tt (all_marks_utf8 (list_in (codes "actors") d) (list_texts (codes "actors") d h)))
