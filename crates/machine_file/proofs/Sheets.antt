-- What is written member by member and item by item is the text of the value.
use Rattle.std.proofs.Common.{◌≡◌, ◌∙◌, ◌&&◌, ◌<◌, ℕ, List, [], ◌∷◌, ◌++◌, length, fold, Bool, true, false, Option, Some, None, Ordering, Less, Equal, Greater, nat_cmp, Result, OnOk, refl, sym, ap, append_assoc, arith}
use Rattle.std.specs.List.{list_all}
use Rattle.std.specs.Cmp.Lexicographic.{slice_cmp}
use Rattle.std.specs.Ordering.{is_lt, match_ordering}
use Rattle.std.proofs.lemmas.Bool.{and_parts, false≢true}
use Rattle.std.proofs.lemmas.Result.{on_ok_weaker}
use Rattle.json.specs.Print.{quoted}
use Rattle.serde_json.specs.Data.{Data, Members, member, put}
use Rattle.serde_json.specs.Written.{comma_if, compact_text, items_text, members_text}
use Rattle.file_rules.specs.Form.{Named}
use Rattle.machine_file.specs.Spelling.{as_items, put_if, as_members, object_of, list_if}
use Rattle.machine_file.specs.Writing.{Sheet, added, with_item, with_member, with_row, with_object, object_ended}

-- ---- rows in the order of their names

-- the name comes before those of the rows
abbrev pub is_before : List ℕ → List (Named (Option Data)) → Bool
is_before name rows = list_all (λ r. is_lt (slice_cmp nat_cmp name r.name)) rows

-- each name comes before those after it
abbrev pub are_rising : List (Named (Option Data)) → Bool
are_rising [] = true
are_rising (r ∷ rows) = is_before r.name rows && are_rising rows

less : (o : Ordering) (a b c : Members) → is_lt o ≡ true → match_ordering o a b c ≡ a
less Less a b c e = refl
less Equal a b c e = absurd (false≢true e)
less Greater a b c e = absurd (false≢true e)

-- what is put before all others is the first
pub put_first : (k : List ℕ) (d : Data) (rows : List (Named (Option Data))) → is_before k rows ≡ true → are_rising rows ≡ true →
    put k d (as_members rows) ≡ member k d (as_members rows)
put_first k d [] a b = refl
put_first k d (r ∷ rows) a b =
    let above = and_parts (is_lt (slice_cmp nat_cmp k r.name)) (is_before k rows) a in
    let rising = and_parts (is_before r.name rows) (are_rising rows) b in
    by above.0 (put_first k d rows above.1 rising.1) (λ e. put_first r.name e rows rising.0 rising.1) r.is
  where
    by : is_lt (slice_cmp nat_cmp k r.name) ≡ true → put k d (as_members rows) ≡ member k d (as_members rows) →
        ((e : Data) → put r.name e (as_members rows) ≡ member r.name e (as_members rows)) →
        (o : Option Data) → put k d (put_if r.name o (as_members rows)) ≡ member k d (put_if r.name o (as_members rows))
    by above rest first None = rest
    by above rest first (Some e) =
        rw (first e) (less (slice_cmp nat_cmp k r.name) (member k d (member r.name e (as_members rows))) (member r.name d (as_members rows)) (member r.name e (put k d (as_members rows))) above)

-- ---- members

regroup : (t c q v m : List ℕ) → (t ++ (c ++ (q ++ 58 ∷ v))) ++ m ≡ t ++ (c ++ (q ++ 58 ∷ (v ++ m)))
regroup t c q v m = simp append_assoc

-- the members of rows, and the bracket after them
rows_written : (s : Sheet) (rows : List (Named (Option Data))) → are_rising rows ≡ true →
    (fold with_row s rows).text ++ 125 ∷ [] ≡ s.text ++ members_text s.later (as_members rows)
rows_written s [] e = refl
rows_written s (r ∷ rows) e =
    let rising = and_parts (is_before r.name rows) (are_rising rows) e in
    by (λ t. rows_written t rows rising.1) (λ d. put_first r.name d rows rising.0 rising.1) r.is
  where
    by : ((t : Sheet) → (fold with_row t rows).text ++ 125 ∷ [] ≡ t.text ++ members_text t.later (as_members rows)) →
        ((d : Data) → put r.name d (as_members rows) ≡ member r.name d (as_members rows)) →
        (o : Option Data) → (fold with_row (with_member r.name o s) rows).text ++ 125 ∷ [] ≡ s.text ++ members_text s.later (put_if r.name o (as_members rows))
    by rest first None = rest s
    by rest first (Some d) =
        rest (with_member r.name (Some d) s)
        ∙ regroup s.text (comma_if s.later) (quoted r.name) (compact_text d) (members_text true (as_members rows))
        ∙ ap (λ ms. s.text ++ members_text s.later ms) (sym (first d))

opened : (t c m : List ℕ) → (t ++ (c ++ 123 ∷ [])) ++ m ≡ t ++ (c ++ 123 ∷ m)
opened t c m = simp append_assoc

-- a whole object
pub object_written : (s : Sheet) (rows : List (Named (Option Data))) → are_rising rows ≡ true → object_ended (fold with_row (with_object s) rows) ≡ with_item s (object_of rows)
object_written s rows e =
    ap (λ t. record { text = t; later = true }) (rows_written (with_object s) rows e ∙ opened s.text (comma_if s.later) (members_text false (as_members rows)))

-- ---- items

regroup_items : (t c v m : List ℕ) → (t ++ (c ++ v)) ++ m ≡ t ++ (c ++ (v ++ m))
regroup_items t c v m = simp append_assoc

-- the items of a list, and the bracket after them
items_written : (s : Sheet) (ds : List Data) → (fold with_item s ds).text ++ 93 ∷ [] ≡ s.text ++ items_text s.later (as_items ds)
items_written s [] = refl
items_written s (d ∷ ds) = items_written (with_item s d) ds ∙ regroup_items s.text (comma_if s.later) (compact_text d) (items_text true (as_items ds))

in_brackets : (t c q m : List ℕ) → ((t ++ (c ++ (q ++ 58 ∷ []))) ++ 91 ∷ []) ++ m ≡ t ++ (c ++ (q ++ 58 ∷ 91 ∷ m))
in_brackets t c q m = simp append_assoc

-- a list at a member, if it is not empty
pub list_written : (s : Sheet) (name : List ℕ) (ds : List Data) → 0 < length ds →
    added (93 ∷ []) true (fold with_item (added (91 ∷ []) false (added (comma_if s.later ++ (quoted name ++ 58 ∷ [])) false s)) ds) ≡ with_row s (list_if name ds)
list_written s name [] h = absurd (omega arith)
list_written s name (d ∷ ds) h =
    ap (λ t. record { text = t; later = true })
    (items_written (added (91 ∷ []) false (added (comma_if s.later ++ (quoted name ++ 58 ∷ [])) false s)) (d ∷ ds)
    ∙ in_brackets s.text (comma_if s.later) (quoted name) (items_text false (as_items (d ∷ ds))))

-- ---- rows that are written one after another

-- each sheet has one row more than the one before
abbrev pub Chain : Sheet → List (Named (Option Data)) → Sheet → Type 0
Chain s [] u = u ≡ s
Chain s (r ∷ rows) u = (t : Sheet) × (t ≡ with_row s r) × Chain t rows u

pub chained : (s : Sheet) (rows : List (Named (Option Data))) (u : Sheet) → Chain s rows u → u ≡ fold with_row s rows
chained s [] u c = c
chained s (r ∷ rows) u c = chained c.0 rows u c.2 ∙ ap (λ t. fold with_row t rows) c.1

-- an object whose rows were written one after another
pub object_chained : {T E : Type 0} (result : Result T E) (start opened before new : Sheet) (rows : List (Named (Option Data))) → are_rising rows ≡ true →
    opened ≡ with_object start → Chain opened rows before → OnOk result (new ≡ object_ended before) → OnOk result (new ≡ with_item start (object_of rows))
object_chained result start opened before new rows rising e c =
    on_ok_weaker result (λ last. last ∙ ap object_ended (chained opened rows before c ∙ ap (λ s. fold with_row s rows) e) ∙ object_written start rows rising)

-- the same, if the rows are known as a whole
pub object_whole : {T E : Type 0} (result : Result T E) (start opened before new : Sheet) (rows : List (Named (Option Data))) → are_rising rows ≡ true →
    opened ≡ with_object start → before ≡ fold with_row opened rows → OnOk result (new ≡ object_ended before) → OnOk result (new ≡ with_item start (object_of rows))
object_whole result start opened before new rows rising e c =
    on_ok_weaker result (λ last. last ∙ ap object_ended (c ∙ ap (λ s. fold with_row s rows) e) ∙ object_written start rows rising)

-- a list whose items were written
pub list_chained : {T E : Type 0} (result : Result T E) (start named opened filled new : Sheet) (name : List ℕ) (ds : List Data) → 0 < length ds →
    named ≡ added (comma_if start.later ++ (quoted name ++ 58 ∷ [])) false start → opened ≡ added (91 ∷ []) false named → filled ≡ fold with_item opened ds →
    OnOk result (new ≡ added (93 ∷ []) true filled) → OnOk result (new ≡ with_row start (list_if name ds))
list_chained result start named opened filled new name ds some a b c =
    on_ok_weaker result
    (λ last. last ∙ ap (added (93 ∷ []) true) (c ∙ ap (λ s. fold with_item s ds) (b ∙ ap (added (91 ∷ []) false) a)) ∙ list_written start name ds some)
