-- Operations that keep each rule on one operation: one reading tells of all these rules.
use Rattle.std.proofs.Common.{◌≡◌, ◌∙◌, ◌&&◌, ◌||◌, ℕ, suc, Bool, true, false, not, cond, List, [], ◌∷◌, bytes_eq, codes, drop, map, Option, Some, None, refl, sym, ap, unwrap_or, is_some, position}
use Rattle.std.specs.List.{list_all, list_any}
use Rattle.std.specs.Option.{option_map, option_or}
use Rattle.std.proofs.lemmas.Bool.{and_from, and_parts, false≢true}
use Rattle.serde_json.specs.Data.{Data}
use Rattle.file_rules.specs.declared.rules.operations.Word.{Word}
use Rattle.file_rules.specs.declared.rules.operations.Word.TheVariants as word
use Rattle.file_rules.specs.Answering.{sourceless_report}
use Rattle.borrowed_json.specs.Look.{is_one_of, is_string, is_truth, is_within, has_only, is_some_and, text_at, list_in, may_have, must_have, word_at, is_none_or}
use Rattle.file_rules.specs.Form.{is_time, link_states, statuses}
use Rattle.file_rules.specs.Knows.{Knows, known_seen, texts}
use Rattle.file_rules.specs.declared.names.known.Known.{Known as Names}
use Rattle.file_rules.specs.Groups.{operation_rules}
use Rattle.file_rules.specs.Names.{is_among_names, devices_named, sources_named}
use Rattle.file_rules.specs.Operations.{Known, Operation, known_of, whole_script, whole_scripts, changes_links, fits_row, row_of, is_formed, is_allowed, names_source, names_device, names_device_at, unformed_operation, forbidden_operation, sourceless_operation, deviceless_operation, has_count, has_short_text, is_state_form, has_length, has_mark, has_ends_named, has_source, thing_at}
use Rattle.file_rules.specs.OperationRows.{operation_of_word, is_valid_for, is_valid_script, row_test, word_test, must_name}
use Rattle.file_rules.specs.Places.{first_not, first_operation, first_operation_of, operation_place}
use Rattle.file_rules.specs.Rules.{is_second}
use Rattle.file_rules.specs.Whole.{broken_at, first_of}
use Rattle.file_rules.proofs.Fitted.{absent_word}
use Rattle.file_rules.proofs.Grouping.{or_none, none_left}
use Rattle.file_rules.proofs.Placing.{position_cons, some_position}
use Rattle.file_rules.proofs.ScriptsValid.{each_operation}
use Rattle.file_rules.proofs.Worded.{changes}

-- ---- one pass

first_case : (b : Bool) (o : Option ℕ) → cond (not b) (Some 0) (option_map suc o) ≡ None → (b ≡ true) × (o ≡ None)
first_case true None e = (refl, refl)
first_case true (Some j) e = (refl, cc)
first_case false o e = cc

script_pass : (p q : Data → Bool) → ((o : Data) → p o ≡ true → q o ≡ true) → (os : List Data) → first_not p os ≡ None → first_not q os ≡ None
script_pass p q h [] e = refl
script_pass p q h (o ∷ os) e =
    let both = first_case (p o) (first_not p os) (sym (position_cons (λ x. not (p x)) o os) ∙ e) in
    position_cons (λ x. not (q x)) o os ∙ ap (λ b. cond (not b) (Some 0) (option_map suc (first_not q os))) (h o both.0)
    ∙ ap (option_map suc) (script_pass p q h os both.1)

-- what each operation passes, it passes by a weaker test
each_pass : (test other : Data → Data → Bool) → ((a o : Data) → test a o ≡ true → other a o ≡ true) → (n : ℕ) (actors : List Data)
    → first_operation_of test n actors ≡ None → first_operation_of other n actors ≡ None
each_pass test other h n [] e = refl
each_pass test other h n (a ∷ actors) e =
    let script = list_in (codes "script") a in
    let both = or_none (option_map (operation_place n) (first_not (test a) script)) (first_operation_of test (suc n) actors) e in
    ap (λ o. option_or (option_map (operation_place n) o) (first_operation_of other (suc n) actors))
    (script_pass (test a) (other a) (h a) script (none_left (operation_place n) (first_not (test a) script) both.0))
    ∙ each_pass test other h (suc n) actors both.1

-- where each operation of each script passes, there is no first one that does not
pub none_in_script : (p : Data → Bool) (os : List Data) → list_all p os ≡ true → first_not p os ≡ None
none_in_script p [] e = refl
none_in_script p (o ∷ os) e =
    let both = and_parts (p o) (list_all p os) e in
    position_cons (λ x. not (p x)) o os ∙ ap (λ b. cond (not b) (Some 0) (option_map suc (first_not p os))) both.0 ∙ ap (option_map suc) (none_in_script p os both.1)

none_first : (test : Data → Data → Bool) (n : ℕ) (actors : List Data) → list_all (λ a. list_all (test a) (list_in (codes "script") a)) actors ≡ true → first_operation_of test n actors ≡ None
none_first test n [] e = refl
none_first test n (a ∷ actors) e =
    let script = list_in (codes "script") a in
    let both = and_parts (list_all (test a) script) (list_all (λ b. list_all (test b) (list_in (codes "script") b)) actors) e in
    ap (λ o. option_or (option_map (operation_place n) o) (first_operation_of test (suc n) actors)) (none_in_script (test a) script both.0)
    ∙ none_first test (suc n) actors both.1

-- it keeps each rule on one operation
abbrev valid : Data → Data → Data → Bool
valid file a o = is_valid_for (is_second file) (text_at (codes "kind") a) (known_of file) o

or_end : {A : Type 0} (o : Option A) → option_or o None ≡ o
or_end None = refl
or_end (Some x) = refl

-- where each operation keeps each of them, the first rule on operations that is broken is that on the sources of reports
pub operations_valid : (file : Data) → list_all (is_valid_script (is_second file) (known_of file)) (list_in (codes "actors") file) ≡ true
    → first_of operation_rules file ≡ option_map (broken_at 18) (sourceless_report file)
operations_valid file e =
    ap (λ o. option_or (option_map (broken_at 16) o) (first_of (drop 1 operation_rules) file)) (all (is_formed (is_second file)) formed)
    ∙ ap (λ o. option_or (option_map (broken_at 17) o) (first_of (drop 2 operation_rules) file)) (all is_allowed allowed)
    ∙ ap (λ o. option_or (option_map (broken_at 18) (option_or o (sourceless_report file))) (first_of (drop 3 operation_rules) file)) (all (λ a. names_source (sources_named file)) source)
    ∙ ap (λ o. option_or (option_map (broken_at 18) (sourceless_report file)) (option_or (option_map (broken_at 19) o) None)) (all (λ a. names_device (devices_named file)) device)
    ∙ or_end (option_map (broken_at 18) (sourceless_report file))
  where
    all : (other : Data → Data → Bool) → ((a o : Data) → valid file a o ≡ true → other a o ≡ true) → first_operation other file ≡ None
    all other h = each_pass (valid file) other h 0 (list_in (codes "actors") file) (none_first (valid file) 0 (list_in (codes "actors") file) e)

    three : (a o : Data) → valid file a o ≡ true
        → ((is_formed (is_second file) a o && is_allowed a o && names_source (sources_named file) o) ≡ true) × (names_device (devices_named file) o ≡ true)
    three a o k = and_parts (is_formed (is_second file) a o && is_allowed a o && names_source (sources_named file) o) (names_device (devices_named file) o) k

    formed : (a o : Data) → valid file a o ≡ true → is_formed (is_second file) a o ≡ true
    formed a o k =
        (and_parts (is_formed (is_second file) a o) (is_allowed a o) (and_parts (is_formed (is_second file) a o && is_allowed a o) (names_source (sources_named file) o) (three a o k).0).0).0

    allowed : (a o : Data) → valid file a o ≡ true → is_allowed a o ≡ true
    allowed a o k =
        (and_parts (is_formed (is_second file) a o) (is_allowed a o) (and_parts (is_formed (is_second file) a o && is_allowed a o) (names_source (sources_named file) o) (three a o k).0).0).1

    source : (a o : Data) → valid file a o ≡ true → names_source (sources_named file) o ≡ true
    source a o k = (and_parts (is_formed (is_second file) a o && is_allowed a o) (names_source (sources_named file) o) (three a o k).0).1

    device : (a o : Data) → valid file a o ≡ true → names_device (devices_named file) o ≡ true
    device a o k = (three a o k).1

-- ---- each rule, and all of them

pub both_tests : (p q : Data → Bool) (os : List Data) → list_all p os ≡ true → list_all q os ≡ true → list_all (λ o. p o && q o) os ≡ true
both_tests p q [] e f = refl
both_tests p q (o ∷ os) e f =
    let one = and_parts (p o) (list_all p os) e in
    let other = and_parts (q o) (list_all q os) f in
    and_from (p o && q o) (list_all (λ x. p x && q x) os) (and_from (p o) (q o) one.0 other.0) (both_tests p q os one.1 other.1)

abbrev passes_in : (Data → Data → Bool) → Data → Bool
passes_in test a = list_all (test a) (list_in (codes "script") a)

both_scripts : (p q : Data → Data → Bool) (actors : List Data) → list_all (passes_in p) actors ≡ true → list_all (passes_in q) actors ≡ true → list_all (passes_in (λ a o. p a o && q a o)) actors ≡ true
both_scripts p q [] e f = refl
both_scripts p q (a ∷ actors) e f =
    let one = and_parts (passes_in p a) (list_all (passes_in p) actors) e in
    let other = and_parts (passes_in q a) (list_all (passes_in q) actors) f in
    and_from (passes_in (λ x o. p x o && q x o) a) (list_all (passes_in (λ x o. p x o && q x o)) actors)
    (both_tests (p a) (q a) (list_in (codes "script") a) one.0 other.0) (both_scripts p q actors one.1 other.1)

-- where no rule on operations is broken, each operation keeps each of them
pub operations_pass : (file : Data) → first_of operation_rules file ≡ None → list_all (is_valid_script (is_second file) (known_of file)) (list_in (codes "actors") file) ≡ true
operations_pass file e =
    let actors = list_in (codes "actors") file in
    let second = is_second file in
    let one = or_none (option_map (broken_at 16) (unformed_operation file)) (first_of (drop 1 operation_rules) file) e in
    let two = or_none (option_map (broken_at 17) (forbidden_operation file)) (first_of (drop 2 operation_rules) file) one.1 in
    let three = or_none (option_map (broken_at 18) (option_or (sourceless_operation file) (sourceless_report file))) (first_of (drop 3 operation_rules) file) two.1 in
    let four = or_none (option_map (broken_at 19) (deviceless_operation file)) None three.1 in
    let source = (or_none (sourceless_operation file) (sourceless_report file) (none_left (broken_at 18) (option_or (sourceless_operation file) (sourceless_report file)) three.0)).0 in
    both_scripts (λ a o. is_formed second a o && is_allowed a o && names_source (sources_named file) o) (λ a. names_device (devices_named file)) actors
    (both_scripts (λ a o. is_formed second a o && is_allowed a o) (λ a. names_source (sources_named file)) actors
    (both_scripts (is_formed second) is_allowed actors
    (each_operation (is_formed second) 0 actors (none_left (broken_at 16) (unformed_operation file) one.0))
    (each_operation is_allowed 0 actors (none_left (broken_at 17) (forbidden_operation file) two.0)))
    (each_operation (λ a. names_source (sources_named file)) 0 actors source))
    (each_operation (λ a. names_device (devices_named file)) 0 actors (none_left (broken_at 19) (deviceless_operation file) four.0))

-- ---- an operation by its word

-- an operation has no members but those of its word
module _ (w : Word) (k : Known) (o : Data) (only : has_only (codes "op" ∷ codes "times" ∷ (operation_of_word w).members) o ≡ true) where
  abbrev members : List (List ℕ)
  members = codes "op" ∷ codes "times" ∷ (operation_of_word w).members

  nothing_at : (names : List (List ℕ)) (member : List ℕ) → list_any (bytes_eq member) members ≡ false → names_device_at member names o ≡ true
  nothing_at names member h = absent_word (is_among_names names) members member o only h

  sourceless : list_any (bytes_eq (codes "source")) members ≡ false → names_source k.sources o ≡ true
  sourceless h = nothing_at k.sources (codes "source") h

  deviceless : list_any (bytes_eq (codes "device")) members ≡ false → list_any (bytes_eq (codes "supplier")) members ≡ false
      → list_any (bytes_eq (codes "consumer")) members ≡ false → names_device k.devices o ≡ true
  deviceless d s c =
      and_from (names_device_at (codes "device") k.devices o && names_device_at (codes "supplier") k.devices o) (names_device_at (codes "consumer") k.devices o)
      (and_from (names_device_at (codes "device") k.devices o) (names_device_at (codes "supplier") k.devices o) (nothing_at k.devices (codes "device") d) (nothing_at k.devices (codes "supplier") s))
      (nothing_at k.devices (codes "consumer") c)

  -- one that names nothing
  nameless : list_any (bytes_eq (codes "source")) members ≡ false → list_any (bytes_eq (codes "device")) members ≡ false → list_any (bytes_eq (codes "supplier")) members ≡ false
      → list_any (bytes_eq (codes "consumer")) members ≡ false → (form : Bool) → form ≡ (form && (names_source k.sources o && names_device k.devices o))
  nameless n d s c form = by form (names_source k.sources o) (names_device k.devices o) (sourceless n) (deviceless d s c)
    where
      by : (f s d : Bool) → s ≡ true → d ≡ true → f ≡ (f && (s && d))
      by true true d e h = sym h
      by false true d e h = refl
      by f false d e h = absurd (false≢true e)

source_row : (m s d : Bool) → d ≡ true → (m && s) ≡ (m && (s && d))
source_row m true true e = refl
source_row m false true e = refl
source_row m s false e = absurd (false≢true e)

event_row : (m s l h d : Bool) → d ≡ true → (m && s && l && h) ≡ ((m && l && h) && (s && d))
event_row true true true true true e = refl
event_row true true true false true e = refl
event_row true true false h true e = refl
event_row true false true true true e = refl
event_row true false true false true e = refl
event_row true false false h true e = refl
event_row false s l h true e = refl
event_row m s l h false e = absurd (false≢true e)

runtime_row : (m at to s supplier consumer : Bool) → s ≡ true → supplier ≡ true → consumer ≡ true → (m && at && to) ≡ ((m && to) && (s && (at && supplier && consumer)))
runtime_row true true true true true true e f g = refl
runtime_row true true false true true true e f g = refl
runtime_row true false true true true true e f g = refl
runtime_row true false false true true true e f g = refl
runtime_row false at to true true true e f g = refl
runtime_row m at to false supplier consumer e f g = absurd (false≢true e)
runtime_row m at to true false consumer e f g = absurd (false≢true f)
runtime_row m at to true true false e f g = absurd (false≢true g)

link_row : (m at n to s device : Bool) → s ≡ true → device ≡ true → ((m && at) && (n && to)) ≡ ((m && n) && (s && (device && at && to)))
link_row true true true to true true e f = refl
link_row true true false to true true e f = refl
link_row true false true to true true e f = refl
link_row true false false to true true e f = refl
link_row false at n to true true e f = refl
link_row m at n to false device e f = absurd (false≢true e)
link_row m at n to true false e f = absurd (false≢true f)

turned : (a b c : Bool) → ((a && b) && c) ≡ ((a && c) && b)
turned true true true = refl
turned true true false = refl
turned true false true = refl
turned true false false = refl
turned false b c = refl

-- its row's test is its form, and that what it names is known
row_holds : (w : Word) (k : Known) (o : Data) → has_only (codes "op" ∷ codes "times" ∷ (operation_of_word w).members) o ≡ true
    → row_test w k o ≡ ((operation_of_word w).form o && (names_source k.sources o && names_device k.devices o))
row_holds word.Read k o h = nameless word.Read k o h refl refl refl refl true
row_holds word.Save k o h = nameless word.Save k o h refl refl refl refl (has_count o)
row_holds word.State k o h = nameless word.State k o h refl refl refl refl (is_state_form o)
row_holds word.Autosleep k o h = nameless word.Autosleep k o h refl refl refl refl (has_short_text o)
row_holds word.Sleep k o h = nameless word.Sleep k o h refl refl refl refl (has_length o)
row_holds word.SleepD k o h = nameless word.SleepD k o h refl refl refl refl (has_length o)
row_holds word.FreezePoint k o h = nameless word.FreezePoint k o h refl refl refl refl true
row_holds word.Post k o h = nameless word.Post k o h refl refl refl refl (has_mark o)
row_holds word.Wait k o h = nameless word.Wait k o h refl refl refl refl (has_mark o)
row_holds word.Runtime k o h =
    runtime_row (must_have (codes "device") is_string o) (names_device_at (codes "device") k.devices o) (must_have (codes "to") (is_one_of statuses) o) (names_source k.sources o)
    (names_device_at (codes "supplier") k.devices o) (names_device_at (codes "consumer") k.devices o)
    (sourceless word.Runtime k o h refl) (nothing_at word.Runtime k o h k.devices (codes "supplier") refl) (nothing_at word.Runtime k o h k.devices (codes "consumer") refl)
row_holds word.Link k o h =
    link_row (must_have (codes "supplier") is_string o) (names_device_at (codes "supplier") k.devices o) (must_have (codes "consumer") is_string o) (names_device_at (codes "consumer") k.devices o)
    (names_source k.sources o) (names_device_at (codes "device") k.devices o) (sourceless word.Link k o h refl) (nothing_at word.Link k o h k.devices (codes "device") refl)
row_holds word.LinkState k o h =
    ap (λ b. b && must_have (codes "to") (is_one_of link_states) o)
    (link_row (must_have (codes "supplier") is_string o) (names_device_at (codes "supplier") k.devices o) (must_have (codes "consumer") is_string o) (names_device_at (codes "consumer") k.devices o)
    (names_source k.sources o) (names_device_at (codes "device") k.devices o) (sourceless word.LinkState k o h refl) (nothing_at word.LinkState k o h k.devices (codes "device") refl))
    ∙ turned (has_ends_named o) (names_source k.sources o && names_device k.devices o) (must_have (codes "to") (is_one_of link_states) o)
row_holds word.Awake k o h = source_row (has_source o) (names_source k.sources o) (names_device k.devices o) (deviceless word.Awake k o h refl refl refl)
row_holds word.Relax k o h = source_row (has_source o) (names_source k.sources o) (names_device k.devices o) (deviceless word.Relax k o h refl refl refl)
row_holds word.Event k o h =
    event_row (has_source o) (names_source k.sources o) (may_have (codes "ms") (is_time 0) o) (may_have (codes "hard") is_truth o) (names_device k.devices o) (deviceless word.Event k o h refl refl refl)

rearranged : (a m o t r f s d : Bool) → (o ≡ true → r ≡ (f && (s && d))) → (a && m && o && t && r) ≡ (a && (o && t && f) && m && s && d)
rearranged false m o t r f s d h = refl
rearranged true true true true r true s d h = h refl
rearranged true true true true r false s d h = h refl
rearranged true true true false r f s d h = refl
rearranged true true false t r f s d h = refl
rearranged true false true true r true s d h = refl
rearranged true false true true r false s d h = refl
rearranged true false true false r f s d h = refl
rearranged true false false t r f s d h = refl

-- an operation with that word keeps each rule on one operation where it passes the test of its word
pub by_word_test : (second : Bool) (kind : List ℕ) (w : Word) (k : Known) (o : Data) → Some (operation_of_word w) ≡ row_of o → word_test second kind w k o ≡ is_valid_for second kind k o
by_word_test second kind w k o e =
    let makes = is_among_names (operation_of_word w).makers kind in
    let only = has_only (codes "op" ∷ codes "times" ∷ (operation_of_word w).members) o in
    let times = may_have (codes "times") (is_within 1 20000) o in
    ap (λ b. (second || not b) && makes && only && times && row_test w k o) (changes w o e)
    ∙ rearranged (second || not (changes_links o)) makes only times (row_test w k o) ((operation_of_word w).form o) (names_source k.sources o) (names_device k.devices o) (row_holds w k o)
    ∙ ap (λ (r : Option Operation). (second || not (changes_links o)) && is_some_and (fits_row o) r && is_some_and (λ x. is_among_names x.makers kind) r && names_source k.sources o && names_device k.devices o) e

-- one whose word is none of the table does not
pub no_word_test : (second : Bool) (kind : List ℕ) (k : Known) (o : Data) → None ≡ row_of o → is_valid_for second kind k o ≡ false
no_word_test second kind k o e =
    sym (ap (λ (r : Option Operation). (second || not (changes_links o)) && is_some_and (fits_row o) r && is_some_and (λ x. is_among_names x.makers kind) r && names_source k.sources o && names_device k.devices o) e)
    ∙ by (second || not (changes_links o))
  where
    by : (a : Bool) → (a && false && false && names_source k.sources o && names_device k.devices o) ≡ false
    by true = refl
    by false = refl

-- ---- what is known

-- what is known is what the operations of the file name
pub seen_known : (k : Names) (file : Data) → Knows k file → known_seen k ≡ known_of file
seen_known k file h =
    ap (λ ds. all_of ds (texts k.sources) (texts k.marks)) h.devices ∙ ap (λ ss. all_of (devices_named file) ss (texts k.marks)) h.sources
    ∙ ap (all_of (devices_named file) (sources_named file)) h.marks
  where
    all_of : List (List ℕ) → List (List ℕ) → List (List ℕ) → Known
    all_of ds ss ms = record { devices = ds; sources = ss; marks = ms }

-- what is read by what is known is tested by what the file names
pub read_valid : (k : Names) (file : Data) (second : Bool) (actors : List Data) → Knows k file → second ≡ is_second file → actors ≡ list_in (codes "actors") file
    → list_all (is_valid_script second (known_seen k)) actors ≡ list_all (is_valid_script (is_second file) (known_of file)) (list_in (codes "actors") file)
read_valid k file second actors h s e =
    ap (λ (b : Bool). list_all (is_valid_script b (known_seen k)) actors) s ∙ ap (λ (n : Known). list_all (is_valid_script (is_second file) n) actors) (seen_known k file h)
    ∙ ap (list_all (is_valid_script (is_second file) (known_of file))) e

pub read_scripts : (k : Names) (file : Data) (actors : List Data) → Knows k file → actors ≡ list_in (codes "actors") file → map (whole_script (known_seen k)) actors ≡ whole_scripts file
read_scripts k file actors h e = ap (λ (n : Known). map (whole_script n) actors) (seen_known k file h) ∙ ap (map (whole_script (known_of file))) e

-- ---- a thing that is named

-- the number of a thing that is one of these
pub thing_named : (member : List ℕ) (names : List (List ℕ)) (o : Data) (s : List ℕ) (n : ℕ) → must_have member is_string o ≡ true → word_at member o ≡ Some s
    → Some n ≡ position (bytes_eq s) names → (must_name member names o ≡ true) × (n ≡ thing_at member names o)
thing_named member names o s n given is found = (
  and_from (must_have member is_string o) (is_none_or (is_among_names names) (word_at member o)) given
      (ap (is_none_or (is_among_names names)) is ∙ (sym (some_position (bytes_eq s) names) ∙ ap is_some (sym found))),
  sym (ap (λ (t : Option (List ℕ)). unwrap_or (position (bytes_eq (unwrap_or t [])) names) 0) is ∙ ap (λ (i : Option ℕ). unwrap_or i 0) (sym found)),
)

-- one that is none of them
pub thing_unnamed : (member : List ℕ) (names : List (List ℕ)) (o : Data) (s : List ℕ) → word_at member o ≡ Some s → None ≡ position (bytes_eq s) names → must_name member names o ≡ false
thing_unnamed member names o s is none =
    ap (λ b. must_have member is_string o && b) (ap (is_none_or (is_among_names names)) is ∙ (sym (some_position (bytes_eq s) names) ∙ ap is_some (sym none)))
    ∙ no_and (must_have member is_string o)
  where
    no_and : (b : Bool) → (b && false) ≡ false
    no_and true = refl
    no_and false = refl
