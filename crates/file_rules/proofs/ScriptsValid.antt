-- What the scripts of a file that keeps the rules are.
use Rattle.std.proofs.Common.{◌+◌, ◌*◌, ◌==◌, zero, sum_by, count_by, replicate, zero-mul, suc-mul, mul-zero, add-le-add, le_of_eq, le_trans, ◌≡◌, ◌<◌, ◌≤◌, ◌∙◌, ◌&&◌, ◌||◌, ◌++◌, ℕ, suc, Bool, true, false, not, cond, if◌then◌else◌, nat_le, List, [], ◌∷◌, length, map, find, flat_map, bytes_eq, codes, unwrap_or, is_some, option_and_then, option_map, IfSome, Option, Some, None, refl, sym, ap, subst, arith}
use Rattle.std.specs.List.{list_any, list_all, cons_option}
use Rattle.std.specs.Option.{option_or}
use Rattle.std.specs.Cmp.Lexicographic.{bytes_decides}
use Rattle.std.proofs.lemmas.Bool.{false≢true, and_parts, and_from, leb-true}
use Rattle.std.proofs.lemmas.List.{length-map}
use Rattle.std.proofs.lemmas.List.Sums.{sum_by-cons, sum_by-append}
use Rattle.std.proofs.lemmas.Nat.{mul-le}
use Rattle.serde_json.specs.Data.{Data}
use Rattle.serde_json.specs.Find.{get, as_number, as_u64, as_str}
use Rattle.sleep_model.specs.declared.machine.Machine.{Machine}
use Rattle.sleep_model.specs.declared.machine.Op.{Op}
use Rattle.sleep_model.specs.declared.machine.Op.TheVariants.{Read}
use Rattle.sleep_model.specs.declared.machine.Step.{Step}
use Rattle.sleep_model.specs.Places.{all_operations, is_state, is_autosleep, is_link_step, link_steps, most_attempts}
use Rattle.sleep_model.specs.Scripts.{times_over, operations as made}
use Rattle.sleep_model.specs.Accepted.{IsOp, AreSteps, AreScripts}
use Rattle.borrowed_json.specs.Look.{has_only, is_list, is_text, is_some_and, is_none_or, text_at, must_have, may_have, has_text, list_in, number_at, word_at, is_string, is_truth, is_within, is_one_of}
use Rattle.file_rules.specs.Members.{actor_members}
use Rattle.file_rules.specs.Places.{unless, first_not, first_item, first_operation_of, operation_place, item_place}
use Rattle.file_rules.specs.Form.{Named, is_time, is_actor_form, kinds, statuses, link_states, item_forms, first_in_lists, unformed_item}
use Rattle.file_rules.specs.Names.{spells_name, is_among_names, devices_named, sources_named}
use Rattle.file_rules.specs.Rules.{is_second, name_of}
use Rattle.sleep_model.specs.NameBytes.{is_name}
use Rattle.file_rules.specs.Spelled.{index_among}
use Rattle.file_rules.specs.Devices.{whole_device}
use Rattle.file_rules.specs.Operations.{Operation, operations, row_of, has_ends_named, changes_links, is_event_form, has_short_text, has_length, has_mark, has_source, fits_row, is_formed, names_source, names_device, names_device_at, unformed_operation, sourceless_operation, deviceless_operation, marks_of, first_occurrences, whole_marks, Known, known_of, ms_of, spelled_op, whole_op, whole_step, whole_script}
use Rattle.file_rules.specs.Limits.{times_of, repeat_of, times_if, script_steps, all_steps, is_state_step, is_link_step as adds_link, has_autosleep, most_attempts as most_written, are_links_few, are_steps_few, are_reports_few, too_much}
use Rattle.file_rules.specs.Whole.{whole_machine}
use Rattle.file_rules.proofs.Freshly.{all_pass, place_within}

-- ---- what passes if no place is the first that does not

none_map : {X Y : Type 0} (f : X → Y) (o : Option X) → option_map f o ≡ None → o ≡ None
none_map f None e = refl
none_map f (Some x) e = cc

none_or : {X : Type 0} (o p : Option X) → option_or o p ≡ None → (o ≡ None) × (p ≡ None)
none_or None p e = (refl, e)
none_or (Some x) p e = cc

-- every item passes
pub each_item : (name : List ℕ) (test : Data → Bool) (file : Data) → first_item name test file ≡ None → list_all test (list_in name file) ≡ true
each_item name test file e = all_pass test (list_in name file) (none_map (item_place name) (first_not test (list_in name file)) e)

-- in no list of these is an item that does not pass
abbrev pub EachList : Data → List (Named (Data → Bool)) → Type 0
EachList file [] = Unit {0}
EachList file (r ∷ rows) = (first_item r.name r.is file ≡ None) × EachList file rows

pub each_list : (file : Data) (rows : List (Named (Data → Bool))) → first_in_lists rows file ≡ None → EachList file rows
each_list file [] e = tt
each_list file (r ∷ rows) e = let both = none_or (first_item r.name r.is file) (first_in_lists rows file) e in (both.0, each_list file rows both.1)

-- every actor is in form
actors_formed : (d : Data) → unformed_item d ≡ None → list_all is_actor_form (list_in (codes "actors") d) ≡ true
actors_formed d e = let rows : EachList d (item_forms (is_second d)) = each_list d (item_forms (is_second d)) e in each_item (codes "actors") is_actor_form d rows.1.1.1.1.1.0

-- every operation of every actor passes
pub each_operation : (test : Data → Data → Bool) (n : ℕ) (actors : List Data) → first_operation_of test n actors ≡ None →
    list_all (λ a. list_all (test a) (list_in (codes "script") a)) actors ≡ true
each_operation test n [] e = refl
each_operation test n (a ∷ actors) e =
    let script = list_in (codes "script") a in
    let both = none_or (option_map (operation_place n) (first_not (test a) script)) (first_operation_of test (suc n) actors) e in
    and_from (list_all (test a) script) (list_all (λ b. list_all (test b) (list_in (codes "script") b)) actors)
    (all_pass (test a) script (none_map (operation_place n) (first_not (test a) script) both.0))
    (each_operation test (suc n) actors both.1)

-- ---- numbers and texts of members

in_range : (least most : ℕ) (o : Option ℕ) → is_some_and (λ n. nat_le least n && nat_le n most) o ≡ true → IfSome o (λ n. (least ≤ n) × (n ≤ most))
in_range least most None e = tt
in_range least most (Some n) e = let both = and_parts (nat_le least n) (nat_le n most) e in (leb-true least n both.0, leb-true n most both.1)

-- a number that may be given, if it is
pub number_in : (least most : ℕ) (o : Option Data) → is_none_or (is_within least most) o ≡ true →
    IfSome (option_and_then as_u64 (option_and_then as_number o)) (λ n. (least ≤ n) × (n ≤ most))
number_in least most None e = tt
number_in least most (Some d) e = in_range least most (option_and_then as_u64 (as_number d)) e

must_may : (test : Data → Bool) (o : Option Data) → is_some_and test o ≡ true → is_none_or test o ≡ true
must_may test None e = refl
must_may test (Some d) e = e

or_least : (least most n : ℕ) (o : Option ℕ) → IfSome o (λ k. (least ≤ k) × (k ≤ most)) → least ≤ n → least ≤ unwrap_or o n
or_least least most n None h k = k
or_least least most n (Some x) h k = h.0

pub or_most : (least most n : ℕ) (o : Option ℕ) → IfSome o (λ k. (least ≤ k) × (k ≤ most)) → n ≤ most → unwrap_or o n ≤ most
or_most least most n None h k = k
or_most least most n (Some x) h k = h.1

below : (most bound : ℕ) (o : Option ℕ) → most < bound → IfSome o (λ k. (0 ≤ k) × (k ≤ most)) → IfSome o (λ k. k < bound)
below most bound None b h = tt
below most bound (Some x) b h = let k = h.1 in omega arith

short_text : (most : ℕ) (o : Option (List ℕ)) → is_some_and (λ s. nat_le (length s) most) o ≡ true → length (unwrap_or o []) ≤ most
short_text most None e = absurd (false≢true e)
short_text most (Some s) e = leb-true (length s) most e

short_member : (most : ℕ) (o : Option Data) → is_some_and (λ d. is_some_and (λ s. nat_le (length s) most) (as_str d)) o ≡ true →
    length (unwrap_or (option_and_then as_str o) []) ≤ most
short_member most None e = absurd (false≢true e)
short_member most (Some d) e = short_text most (as_str d) e

-- a member that is a text
string_word : (o : Option Data) → is_some_and is_string o ≡ true → is_some (option_and_then as_str o) ≡ true
string_word None e = absurd (false≢true e)
string_word (Some d) e = e

some_from : (test : List ℕ → Bool) (o : Option (List ℕ)) → is_some_and test o ≡ true → is_some o ≡ true
some_from test None e = absurd (false≢true e)
some_from test (Some s) e = refl

name_word : (o : Option Data) → is_some_and spells_name o ≡ true → is_some (option_and_then as_str o) ≡ true
name_word None e = absurd (false≢true e)
name_word (Some d) e = some_from is_name (as_str d) e

-- a text that is there and, if it is, is of these names
word_within : (names : List (List ℕ)) (o : Option (List ℕ)) → is_some o ≡ true → is_none_or (is_among_names names) o ≡ true → index_among names (unwrap_or o []) < length names
word_within names None e h = absurd (false≢true e)
word_within names (Some s) e h = place_within names s h

-- ---- an operation

-- what each row's word spells holds, if it has the row's form
abbrev Along : (Operation → Bool) → (Op → Type 0) → List Operation → List (List ℕ × Op) → Type 0
Along form P [] ops = Unit {0}
Along form P (r ∷ rows) [] = Unit {0}
Along form P (r ∷ rows) (q ∷ ops) = (r.word ≡ q.0) × (form r ≡ true → P q.1) × Along form P rows ops

along_case : (form : Operation → Bool) (P : Op → Type 0) (b c : Bool) (r : Operation) (q : List ℕ × Op) (o : Option Operation) (p : Option (List ℕ × Op)) → b ≡ c →
    (form r ≡ true → P q.1) → (is_some_and form o ≡ true → P (unwrap_or (option_map (λ x. x.1) p) Read)) →
    is_some_and form (cond b (Some r) o) ≡ true → P (unwrap_or (option_map (λ x. x.1) (cond c (Some q) p)) Read)
along_case form P true true r q o p s here later e = here e
along_case form P true false r q o p s here later e = absurd (false≢true (sym s))
along_case form P false true r q o p s here later e = absurd (false≢true s)
along_case form P false false r q o p s here later e = later e

along_found : (form : Operation → Bool) (P : Op → Type 0) (t : List ℕ → Bool) (rows : List Operation) (ops : List (List ℕ × Op)) → P Read → Along form P rows ops →
    is_some_and form (find (λ r. t r.word) rows) ≡ true → P (unwrap_or (option_map (λ q. q.1) (find (λ q. t q.0) ops)) Read)
along_found form P t [] ops z a e = absurd (false≢true e)
along_found form P t (r ∷ rows) [] z a e = z
along_found form P t (r ∷ rows) (q ∷ ops) z a e =
    along_case form P (t r.word) (t q.0) r q (find (λ x. t x.word) rows) (find (λ x. t x.0) ops) (ap t a.0) a.1 (along_found form P t rows ops z a.2) e

row_form : (o : Data) (r : Option Operation) → is_some_and (fits_row o) r ≡ true →
    (is_some_and (λ (x : Operation). x.form o) r ≡ true) × (may_have (codes "times") (is_within 1 20000) o ≡ true)
row_form o None e = absurd (false≢true e)
row_form o (Some r) e =
    let times = has_only (codes "op" ∷ codes "times" ∷ r.members) o && may_have (codes "times") (is_within 1 20000) o in
    let both = and_parts times (r.form o) e in
    (both.1, (and_parts (has_only (codes "op" ∷ codes "times" ∷ r.members) o) (may_have (codes "times") (is_within 1 20000) o) both.0).1)

-- an operation of the version is in form
pub table_row : (second : Bool) (a o : Data) → is_formed second a o ≡ true → is_some_and (fits_row o) (row_of o) ≡ true
table_row second a o e = (and_parts (second || not (changes_links o)) (is_some_and (fits_row o) (row_of o)) e).1

table_rows : (second : Bool) (a : Data) (os : List Data) → list_all (is_formed second a) os ≡ true → list_all (λ o. is_some_and (fits_row o) (row_of o)) os ≡ true
table_rows second a [] e = refl
table_rows second a (o ∷ os) e =
    let both = and_parts (is_formed second a o) (list_all (is_formed second a) os) e in
    and_from (is_some_and (fits_row o) (row_of o)) (list_all (λ x. is_some_and (fits_row x) (row_of x)) os) (table_row second a o both.0) (table_rows second a os both.1)

-- what is known of an operation of a file that keeps the rules
record IsValidOperation (known : Known) (o : Data) : Type 0 where
  form : is_some_and (fits_row o) (row_of o) ≡ true
  source : names_source known.sources o ≡ true
  device : names_device known.devices o ≡ true
  mark : is_none_or (is_among_names known.marks) (word_at (codes "mark") o) ≡ true

-- the things that are known are those of the machine
record IsOf (known : Known) (m : Machine) : Type 0 where
  devices : length known.devices ≡ length m.devices
  sources : length known.sources ≡ length m.sources
  marks : length known.marks ≡ length m.marks

module _ (m : Machine) (known : Known) (of : IsOf known m) where
  module _ (o : Data) (kept : IsValidOperation known o) where
    source_within : must_have (codes "source") is_string o ≡ true → index_among known.sources (text_at (codes "source") o) < length m.sources
    source_within e =
        subst (λ (n : ℕ). index_among known.sources (text_at (codes "source") o) < n) of.sources
        (word_within known.sources (word_at (codes "source") o) (string_word (get (codes "source") o) e) kept.source)

    named_within : (member : List ℕ) → names_device_at member known.devices o ≡ true → must_have member is_string o ≡ true → index_among known.devices (text_at member o) < length m.devices
    named_within member h e =
        subst (λ (n : ℕ). index_among known.devices (text_at member o) < n) of.devices
        (word_within known.devices (word_at member o) (string_word (get member o) e) h)

    -- each device that it may name
    named : (names_device_at (codes "device") known.devices o ≡ true) × (names_device_at (codes "supplier") known.devices o ≡ true) × (names_device_at (codes "consumer") known.devices o ≡ true)
    named =
        let two = and_parts (names_device_at (codes "device") known.devices o && names_device_at (codes "supplier") known.devices o) (names_device_at (codes "consumer") known.devices o) kept.device in
        let one = and_parts (names_device_at (codes "device") known.devices o) (names_device_at (codes "supplier") known.devices o) two.0 in
        (one.0, one.1, two.1)

    ends_within : has_ends_named o ≡ true → (index_among known.devices (text_at (codes "supplier") o) < length m.devices) × (index_among known.devices (text_at (codes "consumer") o) < length m.devices)
    ends_within e =
        let both = and_parts (must_have (codes "supplier") is_string o) (must_have (codes "consumer") is_string o) e in
        (named_within (codes "supplier") named.1 both.0, named_within (codes "consumer") named.2 both.1)

    mark_within : has_mark o ≡ true → index_among known.marks (text_at (codes "mark") o) < length m.marks
    mark_within e =
        subst (λ (n : ℕ). index_among known.marks (text_at (codes "mark") o) < n) of.marks
        (word_within known.marks (word_at (codes "mark") o) (name_word (get (codes "mark") o) e) kept.mark)

    length_most : (least : ℕ) → may_have (codes "ms") (is_time least) o ≡ true → ms_of o ≤ 86400000
    length_most least e = or_most least 86400000 0 (number_at (codes "ms") o) (number_in least 86400000 (get (codes "ms") o) e) (omega arith)

    long : has_length o ≡ true → ms_of o ≤ 86400000
    long e = length_most 1 (must_may (is_time 1) (get (codes "ms") o) e)

    text_most : has_short_text o ≡ true → length (text_at (codes "text") o) ≤ 32
    text_most e = short_member 32 (get (codes "text") o) e

    along : Along (λ (x : Operation). x.form o) (IsOp m) operations (spelled_op known o)
    along = (
      refl,
      λ e. tt,
      (
        refl,
        λ e. below 4294967295 4294967296 (number_at (codes "count") o) (omega arith) (number_in 0 4294967295 (get (codes "count") o) e),
        (
          refl,
          λ e. text_most (and_parts (has_short_text o) (may_have (codes "if_saved") is_truth o) e).0,
          (
            refl,
            text_most,
            (
              refl,
              long,
              (
                refl,
                long,
                (
                  refl,
                  λ e. tt,
                  (
                    refl,
                    mark_within,
                    (
                      refl,
                      mark_within,
                      (
                        refl,
                        λ e. named_within (codes "device") named.0 (and_parts (must_have (codes "device") is_string o) (must_have (codes "to") (is_one_of statuses) o) e).0,
                        (
                          refl,
                          ends_within,
                          (
                            refl,
                            λ e. ends_within (and_parts (has_ends_named o) (must_have (codes "to") (is_one_of link_states) o) e).0,
                            (
                              refl,
                              source_within,
                              (
                                refl,
                                source_within,
                                (
                                  refl,
                                  λ e. event_valid e,
                                  tt,
                                ),
                              ),
                            ),
                          ),
                        ),
                      ),
                    ),
                  ),
                ),
              ),
            ),
          ),
        ),
      ),
    )
      where
        event_valid : is_event_form o ≡ true → (index_among known.sources (text_at (codes "source") o) < length m.sources) × (ms_of o ≤ 86400000)
        event_valid e =
            let both = and_parts (has_source o && may_have (codes "ms") (is_time 0) o) (may_have (codes "hard") is_truth o) e in
            let parts = and_parts (has_source o) (may_have (codes "ms") (is_time 0) o) both.0 in
            (source_within parts.0, length_most 0 parts.1)

    -- what it spells names what is there
    is_op : IsOp m (whole_op known o)
    is_op = along_found (λ (x : Operation). x.form o) (IsOp m) (λ word. has_text (codes "op") word o) operations (spelled_op known o) tt along (row_form o (row_of o) kept.form).0

    -- it is made 1 to 20000 times
    times_in : IfSome (number_at (codes "times") o) (λ n. (1 ≤ n) × (n ≤ 20000))
    times_in = number_in 1 20000 (get (codes "times") o) (row_form o (row_of o) kept.form).1

  steps_valid_of : (os : List Data) → list_all (λ o. is_some_and (fits_row o) (row_of o)) os ≡ true → list_all (names_source known.sources) os ≡ true →
      list_all (names_device known.devices) os ≡ true → list_all (λ o. is_none_or (is_among_names known.marks) (word_at (codes "mark") o)) os ≡ true →
      AreSteps m (map (whole_step known) os)
  steps_valid_of [] f s v k = tt
  steps_valid_of (o ∷ os) f s v k =
      let fs = and_parts (is_some_and (fits_row o) (row_of o)) (list_all (λ x. is_some_and (fits_row x) (row_of x)) os) f in
      let ss = and_parts (names_source known.sources o) (list_all (names_source known.sources) os) s in
      let vs = and_parts (names_device known.devices o) (list_all (names_device known.devices) os) v in
      let ks = and_parts (is_none_or (is_among_names known.marks) (word_at (codes "mark") o)) (list_all (λ x. is_none_or (is_among_names known.marks) (word_at (codes "mark") x)) os) k in
      let kept : IsValidOperation known o = record { form = fs.0; source = ss.0; device = vs.0; mark = ks.0 } in
      let least = or_least 1 20000 1 (number_at (codes "times") o) (times_in o kept) (omega arith) in (
        omega (arith, least),
        or_most 1 20000 1 (number_at (codes "times") o) (times_in o kept) (omega arith),
        is_op o kept,
        steps_valid_of os fs.1 ss.1 vs.1 ks.1,
      )

  actor_repeats : (a : Data) → is_actor_form a ≡ true → IfSome (number_at (codes "repeat") a) (λ n. (1 ≤ n) × (n ≤ 1000))
  actor_repeats a e =
      let named = has_only actor_members a && must_have (codes "name") is_string a && must_have (codes "kind") (is_one_of kinds) a in
      let repeat = may_have (codes "repeat") (is_within 1 1000) a in
      let front = and_parts (named && repeat) (may_have (codes "script") is_list a) e in
      number_in 1 1000 (get (codes "repeat") a) (and_parts named repeat front.0).1

  scripts_valid_of : (second : Bool) (actors : List Data) → list_all is_actor_form actors ≡ true →
      list_all (λ a. list_all (is_formed second a) (list_in (codes "script") a)) actors ≡ true →
      list_all (λ a. list_all (names_source known.sources) (list_in (codes "script") a)) actors ≡ true →
      list_all (λ a. list_all (names_device known.devices) (list_in (codes "script") a)) actors ≡ true →
      list_all (λ a. list_all (λ o. is_none_or (is_among_names known.marks) (word_at (codes "mark") o)) (list_in (codes "script") a)) actors ≡ true →
      AreScripts m (map (whole_script known) actors)
  scripts_valid_of second [] r f s v k = tt
  scripts_valid_of second (a ∷ actors) r f s v k =
      let each = λ (test : Data → Data → Bool). list_all (λ b. list_all (test b) (list_in (codes "script") b)) actors in
      let own = λ (test : Data → Data → Bool). list_all (test a) (list_in (codes "script") a) in
      let marked = λ (b o : Data). is_none_or (is_among_names known.marks) (word_at (codes "mark") o) in
      let rs = and_parts (is_actor_form a) (list_all is_actor_form actors) r in
      let fs = and_parts (own (is_formed second)) (each (is_formed second)) f in
      let ss = and_parts (own (λ b. names_source known.sources)) (each (λ b. names_source known.sources)) s in
      let vs = and_parts (own (λ b. names_device known.devices)) (each (λ b. names_device known.devices)) v in
      let ks = and_parts (own marked) (each marked) k in
      let range = actor_repeats a rs.0 in
      let least = or_least 1 1000 1 (number_at (codes "repeat") a) range (omega arith) in (
        omega (arith, least),
        or_most 1 1000 1 (number_at (codes "repeat") a) range (omega arith),
        steps_valid_of (list_in (codes "script") a) (table_rows second a (list_in (codes "script") a) fs.0) ss.0 vs.0 ks.0,
        scripts_valid_of second actors rs.1 fs.1 ss.1 vs.1 ks.1,
      )

-- ---- marks

any_more : (q : List ℕ → Bool) (found : List (List ℕ)) (name : List ℕ) → list_any q found ≡ true → list_any q (found ++ name ∷ []) ≡ true
any_more q [] name e = absurd (false≢true e)
any_more q (s ∷ found) name e = by (q s) (list_any q found) (list_any q (found ++ name ∷ [])) (any_more q found name) e
  where
    by : (b r t : Bool) → (r ≡ true → t ≡ true) → (b || r) ≡ true → (b || t) ≡ true
    by true r t h e = refl
    by false r t h e = h e

any_last : (q : List ℕ → Bool) (found : List (List ℕ)) (name : List ℕ) → q name ≡ true → list_any q (found ++ name ∷ []) ≡ true
any_last q [] name e = rw e refl
any_last q (s ∷ found) name e = by (q s) (list_any q (found ++ name ∷ [])) (any_last q found name e)
  where
    by : (b t : Bool) → t ≡ true → (b || t) ≡ true
    by true t h = refl
    by false t h = h

still_found : (b : Bool) (found : List (List ℕ)) (name s : List ℕ) → is_among_names found s ≡ true → is_among_names (if b then found else found ++ name ∷ []) s ≡ true
still_found true found name s e = e
still_found false found name s e = any_more (bytes_eq s) found name e

now_found : (b : Bool) (found : List (List ℕ)) (name : List ℕ) → is_among_names found name ≡ b → is_among_names (if b then found else found ++ name ∷ []) name ≡ true
now_found true found name e = e
now_found false found name e = any_last (bytes_eq name) found name ((bytes_decides name name).1 refl)

valid_found : (found names : List (List ℕ)) (s : List ℕ) → is_among_names found s ≡ true → is_among_names (first_occurrences found names) s ≡ true
valid_found found [] s e = e
valid_found found (name ∷ names) s e =
    valid_found (if is_among_names found name then found else found ++ name ∷ []) names s (still_found (is_among_names found name) found name s e)

-- each name has a place
pub each_found : (found names : List (List ℕ)) → list_all (is_among_names (first_occurrences found names)) names ≡ true
each_found found [] = refl
each_found found (name ∷ names) =
    let more = if is_among_names found name then found else found ++ name ∷ [] in
    and_from (is_among_names (first_occurrences more names) name) (list_all (is_among_names (first_occurrences more names)) names)
    (valid_found more names name (now_found (is_among_names found name) found name refl))
    (each_found more names)

all_append : (q : List ℕ → Bool) (xs ys : List (List ℕ)) → list_all q (xs ++ ys) ≡ true → (list_all q xs ≡ true) × (list_all q ys ≡ true)
all_append q [] ys e = (refl, e)
all_append q (x ∷ xs) ys e =
    let both = and_parts (q x) (list_all q (xs ++ ys)) e in
    let rest = all_append q xs ys both.1 in
    (and_from (q x) (list_all q xs) both.0 rest.0, rest.1)

marks_each : (q : List ℕ → Bool) (os : List Data) → list_all q (marks_of os) ≡ true → list_all (λ o. is_none_or q (word_at (codes "mark") o)) os ≡ true
marks_each q [] e = refl
marks_each q (o ∷ os) e =
    let both = by (word_at (codes "mark") o) e in
    and_from (is_none_or q (word_at (codes "mark") o)) (list_all (λ x. is_none_or q (word_at (codes "mark") x)) os) both.0 (marks_each q os both.1)
  where
    by : (w : Option (List ℕ)) → list_all q (cons_option w (marks_of os)) ≡ true → (is_none_or q w ≡ true) × (list_all q (marks_of os) ≡ true)
    by None h = (refl, h)
    by (Some s) h = and_parts (q s) (list_all q (marks_of os)) h

-- every mark is among the marks of the file
pub marks_known : (q : List ℕ → Bool) (actors : List Data) → list_all q (flat_map (λ a. marks_of (list_in (codes "script") a)) actors) ≡ true →
    list_all (λ a. list_all (λ o. is_none_or q (word_at (codes "mark") o)) (list_in (codes "script") a)) actors ≡ true
marks_known q [] e = refl
marks_known q (a ∷ actors) e =
    let both = all_append q (marks_of (list_in (codes "script") a)) (flat_map (λ b. marks_of (list_in (codes "script") b)) actors) e in
    and_from (list_all (λ o. is_none_or q (word_at (codes "mark") o)) (list_in (codes "script") a))
    (list_all (λ b. list_all (λ o. is_none_or q (word_at (codes "mark") o)) (list_in (codes "script") b)) actors)
    (marks_each q (list_in (codes "script") a) both.0)
    (marks_known q actors both.1)

-- ---- the scripts

devices_len : (d : Data) → length (known_of d).devices ≡ length (whole_machine d).devices
devices_len d =
    length-map (list_in (codes "devices") d) name_of ∙ sym (length-map (list_in (codes "devices") d) (whole_device (devices_named d)))

-- each script is made 1 to 1000 times, its operations 1 to 20000 times, and what they name is there
pub scripts_valid : (d : Data) → unformed_item d ≡ None → unformed_operation d ≡ None → sourceless_operation d ≡ None → deviceless_operation d ≡ None →
    AreScripts (whole_machine d) (whole_machine d).actors
scripts_valid d items forms sources devices =
    let actors = list_in (codes "actors") d in
    scripts_valid_of (whole_machine d) (known_of d) (record { devices = devices_len d; sources = refl; marks = refl }) (is_second d) actors (actors_formed d items)
    (each_operation (is_formed (is_second d)) 0 actors forms)
    (each_operation (λ a. names_source (sources_named d)) 0 actors sources)
    (each_operation (λ a. names_device (devices_named d)) 0 actors devices)
    (marks_known (is_among_names (whole_marks d)) actors (each_found [] (flat_map (λ a. marks_of (list_in (codes "script") a)) actors)))

-- ---- how often operations are made

count_replicate : (p : Op → Bool) (n : ℕ) (x : Op) → count_by p (replicate n x) ≡ (if p x then n else 0)
count_replicate p zero x = sym (by (p x))
  where
    by : (b : Bool) → (if b then 0 else 0) ≡ zero
    by true = refl
    by false = refl
count_replicate p (suc n) x = sum_by-cons (λ y. cond (p y) 1 0) x (replicate n x) ∙ by (p x) (count_by p (replicate n x)) (count_replicate p n x)
  where
    by : (b : Bool) (c : ℕ) → c ≡ (if b then n else 0) → cond b 1 0 + c ≡ (if b then suc n else 0)
    by true c e = omega arith
    by false c e = omega arith

count_flat : {X : Type 0} (p : Op → Bool) (f : X → List Op) (xs : List X) → count_by p (flat_map f xs) ≡ sum_by (λ x. count_by p (f x)) xs
count_flat p f [] = refl
count_flat p f (x ∷ xs) =
    sum_by-append (λ y. cond (p y) 1 0) (f x) (flat_map f xs) ∙ ap (λ n. count_by p (f x) + n) (count_flat p f xs) ∙ sym (sum_by-cons (λ y. count_by p (f y)) x xs)

count_times : (p : Op → Bool) (n : ℕ) (xs : List Op) → count_by p (times_over n xs) ≡ n * count_by p xs
count_times p zero xs = sym (zero-mul (count_by p xs))
count_times p (suc n) xs =
    sum_by-append (λ y. cond (p y) 1 0) (times_over n xs) xs ∙ ap (λ k. k + count_by p xs) (count_times p n xs) ∙ sym (suc-mul n (count_by p xs))

pub sum_map : {X Y : Type 0} (f : Y → ℕ) (g : X → Y) (xs : List X) → sum_by f (map g xs) ≡ sum_by (λ x. f (g x)) xs
sum_map f g [] = refl
sum_map f g (x ∷ xs) = sum_by-cons f (g x) (map g xs) ∙ ap (λ n. f (g x) + n) (sum_map f g xs) ∙ sym (sum_by-cons (λ y. f (g y)) x xs)

pub sum_same : {X : Type 0} (f g : X → ℕ) (xs : List X) → ((x : X) → f x ≡ g x) → sum_by f xs ≡ sum_by g xs
sum_same f g [] e = refl
sum_same f g (x ∷ xs) e = sum_by-cons f x xs ∙ ap (λ n. n + sum_by f xs) (e x) ∙ ap (λ n. g x + n) (sum_same f g xs e) ∙ sym (sum_by-cons g x xs)

sum_none : {X : Type 0} (f : X → ℕ) (test : X → Bool) (xs : List X) → ((x : X) → test x ≡ false → f x ≡ 0) → list_any test xs ≡ false → sum_by f xs ≡ 0
sum_none f test [] z e = refl
sum_none f test (x ∷ xs) z e =
    let both = neither (test x) (list_any test xs) e in
    let here = z x both.0 in
    let rest = sum_none f test xs z both.1 in
    let split = sum_by-cons f x xs in omega (arith, here, rest, split)
  where
    neither : (a b : Bool) → (a || b) ≡ false → (a ≡ false) × (b ≡ false)
    neither true b h = cc
    neither false b h = (refl, h)

length_count : (xs : List Op) → length xs ≡ count_by (λ x. true) xs
length_count [] = refl
length_count (x ∷ xs) = ap suc (length_count xs) ∙ by (count_by (λ y. true) xs) ∙ sym (sum_by-cons (λ y. 1) x xs)
  where
    by : (n : ℕ) → suc n ≡ 1 + n
    by n = omega arith

-- operations that differ by their data are counted by it
module _ (known : Known) (p : Op → Bool) (test : Data → Bool) (told : (o : Data) → p (whole_op known o) ≡ test o) where
  count_script : (a : Data) → count_by p (made (whole_script known a)) ≡ script_steps test a
  count_script a =
      count_times p (repeat_of a) (flat_map (λ (step : Step). replicate step.times step.op) (map (whole_step known) script))
      ∙ ap (λ n. repeat_of a * n)
      (count_flat p (λ (step : Step). replicate step.times step.op) (map (whole_step known) script)
      ∙ sum_map (λ (step : Step). count_by p (replicate step.times step.op)) (whole_step known) script
      ∙ sum_same (λ o. count_by p (replicate (times_of o) (whole_op known o))) (times_if test) script
      (λ o. count_replicate p (times_of o) (whole_op known o) ∙ ap (λ b. if b then times_of o else 0) (told o)))
    where
      script : List Data
      script = list_in (codes "script") a

  count_scripts : (actors : List Data) → count_by p (all_operations (map (whole_script known) actors)) ≡ sum_by (script_steps test) actors
  count_scripts actors =
      count_flat p made (map (whole_script known) actors) ∙ sum_map (λ s. count_by p (made s)) (whole_script known) actors
      ∙ sum_same (λ a. count_by p (made (whole_script known a))) (script_steps test) actors count_script

-- ---- which word an operation has

text_apart : (w : Option (List ℕ)) (a b : List ℕ) → is_some_and (λ s. bytes_eq s a) w ≡ true → is_some_and (λ s. bytes_eq s b) w ≡ bytes_eq a b
text_apart None a b e = absurd (false≢true e)
text_apart (Some s) a b e = ap (λ x. bytes_eq x b) ((bytes_decides s a).0 e)

pub member_apart : (o : Option Data) (a b : List ℕ) → is_some_and (is_text a) o ≡ true → is_some_and (is_text b) o ≡ bytes_eq a b
member_apart None a b e = absurd (false≢true e)
member_apart (Some d) a b e = text_apart (as_str d) a b e

-- p passes what this word spells, and no other
abbrev IsOneWord : (Op → Bool) → List ℕ → List (List ℕ × Op) → Type 0
IsOneWord p w [] = Unit {0}
IsOneWord p w (q ∷ ops) = (p q.1 ≡ bytes_eq q.0 w) × IsOneWord p w ops

found_as : (p : Op → Bool) (w : List ℕ) (t : List ℕ → Bool) (ops : List (List ℕ × Op)) → ((a b : List ℕ) → t a ≡ true → t b ≡ bytes_eq a b) → p Read ≡ false → IsOneWord p w ops →
    p (unwrap_or (option_map (λ q. q.1) (find (λ q. t q.0) ops)) Read) ≡ (t w && list_any (λ q. bytes_eq q.0 w) ops)
found_as p w t [] apart z told = z ∙ by (t w)
  where
    by : (b : Bool) → false ≡ (b && false)
    by true = refl
    by false = refl
found_as p w t (q ∷ ops) apart z told = by (t q.0) (found_as p w t ops apart z told.1) refl
  where
    itself : (e r : Bool) → e ≡ (e && (e || r))
    itself true r = refl
    itself false r = refl

    other : (c : Bool) → bytes_eq q.0 w ≡ c → t q.0 ≡ false → (t w && list_any (λ x. bytes_eq x.0 w) ops) ≡ (t w && (c || list_any (λ x. bytes_eq x.0 w) ops))
    other false h e = refl
    other true h e =
        let no : t w ≡ false = sym (ap t ((bytes_decides q.0 w).0 h)) ∙ e in
        ap (λ b. b && list_any (λ x. bytes_eq x.0 w) ops) no ∙ sym (ap (λ b. b && (true || list_any (λ x. bytes_eq x.0 w) ops)) no)

    by : (b : Bool) → p (unwrap_or (option_map (λ x. x.1) (find (λ x. t x.0) ops)) Read) ≡ (t w && list_any (λ x. bytes_eq x.0 w) ops) → t q.0 ≡ b →
        p (unwrap_or (option_map (λ x. x.1) (cond b (Some q) (find (λ x. t x.0) ops))) Read) ≡ (t w && (bytes_eq q.0 w || list_any (λ x. bytes_eq x.0 w) ops))
    by true rest e =
        told.0 ∙ itself (bytes_eq q.0 w) (list_any (λ x. bytes_eq x.0 w) ops)
        ∙ ap (λ b. b && (bytes_eq q.0 w || list_any (λ x. bytes_eq x.0 w) ops)) (sym (apart q.0 w e))
    by false rest e = rest ∙ other (bytes_eq q.0 w) refl e

and_true : (b : Bool) → (b && true) ≡ b
and_true true = refl
and_true false = refl

-- a write to the state is one in the file
pub state_in_file : (known : Known) (o : Data) → is_state (whole_op known o) ≡ is_state_step o
state_in_file known o =
    found_as is_state (codes "state") (λ word. has_text (codes "op") word o) (spelled_op known o) (member_apart (get (codes "op") o)) refl
    (refl, (refl, (refl, (refl, (refl, (refl, (refl, (refl, (refl, (refl, (refl, (refl, (refl, (refl, (refl, tt))))))))))))))) ∙ and_true (has_text (codes "op") (codes "state") o)

-- a write to autosleep is one in the file
pub autosleep_in_file : (known : Known) (o : Data) → is_autosleep (whole_op known o) ≡ has_text (codes "op") (codes "autosleep") o
autosleep_in_file known o =
    found_as is_autosleep (codes "autosleep") (λ word. has_text (codes "op") word o) (spelled_op known o) (member_apart (get (codes "op") o)) refl
    (refl, (refl, (refl, (refl, (refl, (refl, (refl, (refl, (refl, (refl, (refl, (refl, (refl, (refl, (refl, tt))))))))))))))) ∙ and_true (has_text (codes "op") (codes "autosleep") o)

-- a step that adds a link is one in the file
pub link_in_file : (known : Known) (o : Data) → is_link_step (whole_op known o) ≡ adds_link o
link_in_file known o =
    found_as is_link_step (codes "link") (λ word. has_text (codes "op") word o) (spelled_op known o) (member_apart (get (codes "op") o)) refl
    (refl, (refl, (refl, (refl, (refl, (refl, (refl, (refl, (refl, (refl, (refl, (refl, (refl, (refl, (refl, tt))))))))))))))) ∙ and_true (has_text (codes "op") (codes "link") o)

-- ---- how much happens

not_made : (test : Data → Bool) (a : Data) → list_any test (list_in (codes "script") a) ≡ false → script_steps test a ≡ 0
not_made test a e =
    ap (λ n. repeat_of a * n) (sum_none (times_if test) test (list_in (codes "script") a) (λ o h. ap (λ b. if b then times_of o else 0) h) e) ∙ mul-zero (repeat_of a)

cycles_case : (l : Bool) (c n : ℕ) → (l ≡ false → c ≡ 0) → (if c == 0 then 0 else n) ≤ (if l then n else 0)
cycles_case true c n h = by (c == 0)
  where
    by : (b : Bool) → (if b then 0 else n) ≤ n
    by true = omega arith
    by false = omega arith
cycles_case false c n h = let z = h refl in rw z (omega arith)

-- no more attempts may be begun than the file's rule counts
attempts_within : (d : Data) → most_attempts (whole_machine d) ≤ most_written d
attempts_within d =
    let actors = list_in (codes "actors") d in
    let states : count_by is_state (all_operations (map (whole_script (known_of d)) actors)) ≡ all_steps is_state_step d =
    count_scripts (known_of d) is_state is_state_step (state_in_file (known_of d)) actors in
    let sleeps = count_scripts (known_of d) is_autosleep (has_text (codes "op") (codes "autosleep")) (autosleep_in_file (known_of d)) actors in
    let cycles = cycles_case (list_any has_autosleep actors) (count_by is_autosleep (all_operations (map (whole_script (known_of d)) actors))) (unwrap_or (number_at (codes "auto_cycles") d) 16)
    (λ h. sleeps ∙ sum_none (script_steps (has_text (codes "op") (codes "autosleep"))) has_autosleep actors (not_made (has_text (codes "op") (codes "autosleep"))) h) in
    add-le-add (le_of_eq states) cycles

rule_holds : (b : Bool) (place : List ℕ) (o : Option (List ℕ)) → option_or (unless b place) o ≡ None → b ≡ true
rule_holds true place o e = refl
rule_holds false place o e = cc

-- few steps, and few links
much_holds : (d : Data) → too_much d ≡ None →
    ((nat_le (all_steps (λ o. true) d) 200000 && nat_le (most_written d * (length (list_in (codes "devices") d) + 50)) 100000) ≡ true) × (are_links_few d ≡ true)
much_holds d e =
    and_parts (nat_le (all_steps (λ o. true) d) 200000 && nat_le (most_written d * (length (list_in (codes "devices") d) + 50)) 100000) (are_links_few d)
    (rule_holds (are_steps_few d) (codes "actors") (unless (are_reports_few d) (codes "answers")) e)

-- a file has at most 200000 steps
pub steps_few : (d : Data) → too_much d ≡ None → all_steps (λ o. true) d ≤ 200000
steps_few d e =
    leb-true (all_steps (λ o. true) d) 200000
    (and_parts (nat_le (all_steps (λ o. true) d) 200000) (nat_le (most_written d * (length (list_in (codes "devices") d) + 50)) 100000) (much_holds d e).0).0

-- the links of a file, and those that its scripts may add, are at most 4000
pub links_few : (d : Data) → too_much d ≡ None → length (list_in (codes "links") d) + link_steps (whole_machine d).actors ≤ 4000
links_few d e =
    let actors = list_in (codes "actors") d in
    let added : link_steps (map (whole_script (known_of d)) actors) ≡ all_steps adds_link d = count_scripts (known_of d) is_link_step adds_link (link_in_file (known_of d)) actors in
    let few = leb-true (length (list_in (codes "links") d) + all_steps adds_link d) 4000 (much_holds d e).1 in
    omega (arith, added, few)

-- at most 200000 operations are made, and at most 100000 turns, of devices and 50 others, over all attempts
pub steps_valid : (d : Data) → too_much d ≡ None →
    (length (all_operations (whole_machine d).actors) ≤ 200000) × (most_attempts (whole_machine d) * (length (whole_machine d).devices + 50) ≤ 100000)
steps_valid d e =
    let actors = list_in (codes "actors") d in
    let devices = list_in (codes "devices") d in
    let both = and_parts (nat_le (all_steps (λ o. true) d) 200000) (nat_le (most_written d * (length devices + 50)) 100000) (much_holds d e).0 in
    let steps = steps_few d e in
    let turns = leb-true (most_written d * (length devices + 50)) 100000 both.1 in
    let made_so : length (all_operations (map (whole_script (known_of d)) actors)) ≡ all_steps (λ o. true) d =
    length_count (all_operations (map (whole_script (known_of d)) actors)) ∙ count_scripts (known_of d) (λ x. true) (λ o. true) (λ o. refl) actors in
    let count : length (whole_machine d).devices ≡ length devices = length-map devices (whole_device (devices_named d)) in (
      le_trans (le_of_eq made_so) steps,
      le_trans (mul-le (most_attempts (whole_machine d)) (length (whole_machine d).devices + 50) (most_written d) (length devices + 50) (attempts_within d) (le_of_eq (ap (λ n. n + 50) count))) turns,
    )
