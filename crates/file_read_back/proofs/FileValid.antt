-- What holds of each item of a file that breaks no rule.
use Rattle.std.proofs.Common.{◌≡◌, ◌||◌, ℕ, suc, List, [], ◌∷◌, map, flat_map, codes, Bool, true, false, cond, bytes_eq, Option, Some, None, refl, sym, subst}
use Rattle.std.specs.List.{list_all}
use Rattle.std.specs.Option.{option_or, option_map}
use Rattle.std.specs.Cmp.Lexicographic.{bytes_decides}
use Rattle.std.proofs.lemmas.Bool.{and_parts, false≢true}
use Rattle.serde_json.specs.Data.{Data}
use Rattle.borrowed_json.specs.Look.{is_none_or, list_in, word_at, may_have}
use Rattle.file_rules.specs.Places.{first_not_after, item_place}
use Rattle.file_rules.specs.Form.{item_forms, is_actor_form, is_answer_form, is_notifier_form}
use Rattle.file_rules.specs.Names.{item_names, is_among_names, own_name, names_of_device, names_of_link, spells_name, devices_named, sources_named}
use Rattle.file_rules.specs.Rules.{is_second, name_of}
use Rattle.file_rules.specs.Devices.{has_parent_before, has_ends}
use Rattle.file_rules.specs.Operations.{is_formed, names_source, names_device, whole_marks, marks_of, sourceless_operation}
use Rattle.file_rules.specs.Answering.{names_thing, is_ret_allowed, may_report, sourceless_report}
use Rattle.file_rules.specs.Whole.{rules, first_broken}
use Rattle.file_rules.proofs.Accepted.{keeps_all}
use Rattle.file_rules.proofs.ScriptsValid.{table_row, each_item, each_list, EachList, each_operation, marks_known, each_found}
use Rattle.file_read_back.proofs.Alike.{EachOf, weaker, each_passes, each_both}
use Rattle.file_read_back.proofs.DevicesBack.{ValidDevice}
use Rattle.file_read_back.proofs.OperationsBack.{ValidOperation}
use Rattle.file_read_back.proofs.ScriptsBack.{ValidActor}
use Rattle.file_read_back.proofs.AnswersBack.{ValidAnswer}

none_or : {X : Type 0} (o p : Option X) → option_or o p ≡ None → (o ≡ None) × (p ≡ None)
none_or None p e = (refl, e)
none_or (Some x) p e = absurd (let f : Some x ≡ None = e in cc)

none_map : {X Y : Type 0} (f : X → Y) (o : Option X) → option_map f o ≡ None → o ≡ None
none_map f None e = refl
none_map f (Some x) e = absurd (let g : Some (f x) ≡ None = e in cc)

-- ---- parents

later_passes : {X : Type 0} (test : List X → X → Bool) (before : List X) (n : ℕ) (x : X) (xs : List X) → first_not_after test before n (x ∷ xs) ≡ None →
    (test before x ≡ true) × (first_not_after test (x ∷ before) (suc n) xs ≡ None)
later_passes test before n x xs e = by (test before x) e
  where
    by : (b : Bool) → cond b (first_not_after test (x ∷ before) (suc n) xs) (Some n) ≡ None → (b ≡ true) × (first_not_after test (x ∷ before) (suc n) xs ≡ None)
    by true h = (refl, h)
    by false h = absurd (let g : Some n ≡ None = h in cc)

or_left : (a b : Bool) → a ≡ true → (a || b) ≡ true
or_left true b e = refl
or_left false b e = absurd (false≢true e)

or_right : (a b : Bool) → b ≡ true → (a || b) ≡ true
or_right true b e = refl
or_right false b e = e

own_among : (os : List Data) → EachOf (λ o. is_among_names (map name_of os) (name_of o) ≡ true) os
own_among [] = tt
own_among (o ∷ os) = (
  or_left (bytes_eq (name_of o) (name_of o)) (is_among_names (map name_of os) (name_of o)) ((bytes_decides (name_of o) (name_of o)).1 refl),
  weaker (λ x. is_among_names (map name_of os) (name_of x) ≡ true) (λ x. is_among_names (map name_of (o ∷ os)) (name_of x) ≡ true) os
      (λ x h. or_right (bytes_eq (name_of x) (name_of o)) (is_among_names (map name_of os) (name_of x)) h) (own_among os),
)

among_more : (all before : List (List ℕ)) (w : Option (List ℕ)) → ((s : List ℕ) → is_among_names before s ≡ true → is_among_names all s ≡ true) →
    is_none_or (is_among_names before) w ≡ true → is_none_or (is_among_names all) w ≡ true
among_more all before None h e = refl
among_more all before (Some s) h e = h s e

wider : (all : List (List ℕ)) (o : Data) (before : List Data) → ((s : List ℕ) → is_among_names (map name_of before) s ≡ true → is_among_names all s ≡ true) →
    is_among_names all (name_of o) ≡ true → (s : List ℕ) → is_among_names (map name_of (o ∷ before)) s ≡ true → is_among_names all s ≡ true
wider all o before h own s e = by (bytes_eq s (name_of o)) refl e
  where
    by : (b : Bool) → bytes_eq s (name_of o) ≡ b → (b || is_among_names (map name_of before) s) ≡ true → is_among_names all s ≡ true
    by true same k = subst (λ t. is_among_names all t ≡ true) (sym ((bytes_decides s (name_of o)).0 same)) own
    by false same k = h s k

parents_among : (all : List (List ℕ)) (before : List Data) (n : ℕ) (os : List Data) → ((s : List ℕ) → is_among_names (map name_of before) s ≡ true → is_among_names all s ≡ true) →
    EachOf (λ o. is_among_names all (name_of o) ≡ true) os → first_not_after has_parent_before before n os ≡ None →
    EachOf (λ o. is_none_or (is_among_names all) (word_at (codes "parent") o) ≡ true) os
parents_among all before n [] h own e = tt
parents_among all before n (o ∷ os) h own e =
    let passes = later_passes has_parent_before before n o os e in (
      among_more all (map name_of before) (word_at (codes "parent") o) h passes.0,
      parents_among all (o ∷ before) (suc n) os (wider all o before h own.0) own.1 passes.1,
    )

valid_devices : (d : Data) (os : List Data) → EachOf (λ o. names_of_device o ≡ true) os → EachOf (λ o. is_none_or (is_among_names (devices_named d)) (word_at (codes "parent") o) ≡ true) os →
    EachOf (ValidDevice d) os
valid_devices d [] n p = tt
valid_devices d (o ∷ os) n p = (record { names = n.0; parent = p.0 }, valid_devices d os n.1 p.1)

-- ---- actors

valid_ops : (d : Data) (second : Bool) (a : Data) (os : List Data) → list_all (is_formed second a) os ≡ true → list_all (names_source (sources_named d)) os ≡ true → list_all (names_device (devices_named d)) os ≡ true →
    list_all (λ o. is_none_or (is_among_names (whole_marks d)) (word_at (codes "mark") o)) os ≡ true → EachOf (ValidOperation d) os
valid_ops d second a [] f s v k = tt
valid_ops d second a (o ∷ os) f s v k =
    let fs = and_parts (is_formed second a o) (list_all (is_formed second a) os) f in
    let ss = and_parts (names_source (sources_named d) o) (list_all (names_source (sources_named d)) os) s in
    let vs = and_parts (names_device (devices_named d) o) (list_all (names_device (devices_named d)) os) v in
    let ks = and_parts (is_none_or (is_among_names (whole_marks d)) (word_at (codes "mark") o)) (list_all (λ x. is_none_or (is_among_names (whole_marks d)) (word_at (codes "mark") x)) os) k in
    (record { form = table_row second a o fs.0; source = ss.0; device = vs.0; mark = ks.0 }, valid_ops d second a os fs.1 ss.1 vs.1 ks.1)

valid_actors : (d : Data) (second : Bool) (actors : List Data) → list_all is_actor_form actors ≡ true → list_all own_name actors ≡ true →
    list_all (λ a. list_all (is_formed second a) (list_in (codes "script") a)) actors ≡ true →
    list_all (λ a. list_all (names_source (sources_named d)) (list_in (codes "script") a)) actors ≡ true →
    list_all (λ a. list_all (names_device (devices_named d)) (list_in (codes "script") a)) actors ≡ true →
    list_all (λ a. list_all (λ o. is_none_or (is_among_names (whole_marks d)) (word_at (codes "mark") o)) (list_in (codes "script") a)) actors ≡ true → EachOf (ValidActor d) actors
valid_actors d second [] r n f s v k = tt
valid_actors d second (a ∷ actors) r n f s v k =
    let each = λ (test : Data → Data → Bool). list_all (λ b. list_all (test b) (list_in (codes "script") b)) actors in
    let own = λ (test : Data → Data → Bool). list_all (test a) (list_in (codes "script") a) in
    let marked = λ (b o : Data). is_none_or (is_among_names (whole_marks d)) (word_at (codes "mark") o) in
    let rs = and_parts (is_actor_form a) (list_all is_actor_form actors) r in
    let ns = and_parts (own_name a) (list_all own_name actors) n in
    let fs = and_parts (own (is_formed second)) (each (is_formed second)) f in
    let ss = and_parts (own (λ b. names_source (sources_named d))) (each (λ b. names_source (sources_named d))) s in
    let vs = and_parts (own (λ b. names_device (devices_named d))) (each (λ b. names_device (devices_named d))) v in
    let ks = and_parts (own marked) (each marked) k in (
      record { form = rs.0; names = ns.0; ops = valid_ops d second a (list_in (codes "script") a) fs.0 ss.0 vs.0 ks.0 },
      valid_actors d second actors rs.1 ns.1 fs.1 ss.1 vs.1 ks.1,
    )

-- ---- answers

valid_answers : (d : Data) (os : List Data) → list_all is_answer_form os ≡ true → list_all own_name os ≡ true → list_all (names_thing d) os ≡ true →
    list_all (λ a. may_have (codes "ret") (is_ret_allowed a) a) os ≡ true → list_all may_report os ≡ true →
    list_all (λ a. list_all (names_source (sources_named d)) (list_in (codes "reports") a)) os ≡ true → EachOf (ValidAnswer d) os
valid_answers d [] f n t r p s = tt
valid_answers d (a ∷ os) f n t r p s =
    let fs = and_parts (is_answer_form a) (list_all is_answer_form os) f in
    let ns = and_parts (own_name a) (list_all own_name os) n in
    let ts = and_parts (names_thing d a) (list_all (names_thing d) os) t in
    let rs = and_parts (may_have (codes "ret") (is_ret_allowed a) a) (list_all (λ x. may_have (codes "ret") (is_ret_allowed x) x) os) r in
    let ps = and_parts (may_report a) (list_all may_report os) p in
    let ss = and_parts (list_all (names_source (sources_named d)) (list_in (codes "reports") a)) (list_all (λ x. list_all (names_source (sources_named d)) (list_in (codes "reports") x)) os) s in
    (record { form = fs.0; names = ns.0; thing = ts.0; ret = rs.0; reports = ps.0; sources = ss.0 }, valid_answers d os fs.1 ns.1 ts.1 rs.1 ps.1 ss.1)

-- ---- the file

-- each item of a file that breaks no rule
pub record ValidFile (d : Data) : Type 0 where
  pub devices : EachOf (ValidDevice d) (list_in (codes "devices") d)
  pub links : EachOf (λ o. (names_of_link o ≡ true) × (has_ends (devices_named d) o ≡ true)) (list_in (codes "links") d)
  pub syscore : EachOf (λ o. spells_name o ≡ true) (list_in (codes "syscore") d)
  pub notifiers : EachOf (λ o. (is_notifier_form o ≡ true) × (own_name o ≡ true)) (list_in (codes "notifiers") d)
  pub sources : EachOf (λ o. spells_name o ≡ true) (list_in (codes "sources") d)
  pub actors : EachOf (ValidActor d) (list_in (codes "actors") d)
  pub answers : EachOf (ValidAnswer d) (list_in (codes "answers") d)

pub valid_file : (d : Data) → first_broken d ≡ None → ValidFile d
valid_file d h =
    let r = keeps_all rules d h in
    let forms : EachList d (item_forms (is_second d)) = each_list d (item_forms (is_second d)) r.1.1.1.0 in
    let names = r.1.1.1.1.1 in
    let spelled : EachList d item_names = each_list d item_names names.0 in
    let devices = list_in (codes "devices") d in
    let actors = list_in (codes "actors") d in
    let answers = list_in (codes "answers") d in
    let ops = names.1.1.1.1.1.1.1.1.1 in
    let sources = none_or (sourceless_operation d) (sourceless_report d) ops.1.1.0 in
    let things = ops.1.1.1.1 in
    record {
      devices =
          valid_devices d devices (each_passes names_of_device devices (each_item (codes "devices") names_of_device d spelled.0))
          (parents_among (devices_named d) [] 0 devices (λ s e. absurd (false≢true e)) (own_among devices) (none_map (item_place (codes "devices")) (first_not_after has_parent_before [] 0 devices) names.1.1.0));
      links =
          each_both (λ o. names_of_link o ≡ true) (λ o. has_ends (devices_named d) o ≡ true) (list_in (codes "links") d)
          (each_passes names_of_link (list_in (codes "links") d) (each_item (codes "links") names_of_link d spelled.1.0))
          (each_passes (has_ends (devices_named d)) (list_in (codes "links") d) (each_item (codes "links") (has_ends (devices_named d)) d names.1.1.1.0));
      syscore = each_passes spells_name (list_in (codes "syscore") d) (each_item (codes "syscore") spells_name d spelled.1.1.0);
      notifiers =
          each_both (λ o. is_notifier_form o ≡ true) (λ o. own_name o ≡ true) (list_in (codes "notifiers") d)
          (each_passes is_notifier_form (list_in (codes "notifiers") d) (each_item (codes "notifiers") is_notifier_form d forms.1.1.1.0))
          (each_passes own_name (list_in (codes "notifiers") d) (each_item (codes "notifiers") own_name d spelled.1.1.1.0));
      sources = each_passes spells_name (list_in (codes "sources") d) (each_item (codes "sources") spells_name d spelled.1.1.1.1.0);
      actors =
          valid_actors d (is_second d) actors (each_item (codes "actors") is_actor_form d forms.1.1.1.1.1.0) (each_item (codes "actors") own_name d spelled.1.1.1.1.1.0)
          (each_operation (is_formed (is_second d)) 0 actors ops.0)
          (each_operation (λ a. names_source (sources_named d)) 0 actors sources.0)
          (each_operation (λ a. names_device (devices_named d)) 0 actors ops.1.1.1.0)
          (marks_known (is_among_names (whole_marks d)) actors (each_found [] (flat_map (λ a. marks_of (list_in (codes "script") a)) actors)));
      answers =
          valid_answers d answers (each_item (codes "answers") is_answer_form d forms.1.1.1.1.1.1.0) (each_item (codes "answers") own_name d spelled.1.1.1.1.1.1.0)
          (each_item (codes "answers") (names_thing d) d things.0)
          (each_item (codes "answers") (λ a. may_have (codes "ret") (is_ret_allowed a) a) d things.1.0)
          (each_item (codes "answers") may_report d things.1.1.0)
          (each_item (codes "answers") (λ a. list_all (names_source (sources_named d)) (list_in (codes "reports") a)) d sources.1);
    }
