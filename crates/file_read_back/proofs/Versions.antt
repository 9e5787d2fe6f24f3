-- A file that says version 2 in place of version 1 breaks no rule, and spells the same machine.
use Rattle.std.proofs.Common.{◌≡◌, ◌∙◌, ◌&&◌, ◌||◌, ◌+◌, ◌*◌, ℕ, List, [], ◌∷◌, map, flat_map, length, codes, Bool, true, false, not, cond, bytes_eq, nat_le, sum_by, Option, Some, None, option_map, option_and_then, unwrap_or, refl, ap, ap₂}
use Rattle.std.specs.List.{list_all, list_any}
use Rattle.std.specs.Option.{option_or}
use Rattle.std.proofs.lemmas.Bool.{and_parts, and_from, false≢true}
use Rattle.serde_json.specs.Data.{Data, Members, no_members, member, no_items}
use Rattle.serde_json.specs.Find.{as_array, as_object}
use Rattle.sleep_model.specs.declared.machine.What.{What}
use Rattle.sleep_model.specs.declared.machine.What.TheVariants as what
use Rattle.sleep_model.specs.Order.{is_among, dependents, moved, parents_of}
use Rattle.sleep_model.specs.Text.{down_word}
use Rattle.borrowed_json.specs.Look.{is_some_and, is_none_or, is_number, are_named, has_only, text_at, text_of, must_have, may_have, has_text, items_of, list_in, number_at, is_string, is_one_of}
use Rattle.file_rules.specs.Members.{file_members, link_members}
use Rattle.file_rules.specs.Places.{unless, first_not, first_not_after, first_item, first_operation_of, item_place}
use Rattle.file_rules.specs.Form.{Named, member_forms, item_forms, link_states, is_device_form, is_link_form, is_notifier_form, is_actor_form, is_answer_form, unformed_member, unformed_item}
use Rattle.file_rules.specs.Names.{is_among_names, names_of_device, names_of_link, spells_name, own_name, devices_named, repeated, misspelled_item}
use Rattle.file_rules.specs.Rules.{is_second, has_version, name_of}
use Rattle.file_rules.specs.Spelled.{index_among, link_of}
use Rattle.file_rules.specs.Devices.{whole_device, whole_devices, has_parent_before, has_ends, is_new_link, cyclic_link}
use Rattle.file_rules.specs.Operations.{is_formed, is_allowed, names_source, names_device, unformed_operation, marks_of, first_occurrences, whole_marks, known_of, whole_script}
use Rattle.file_rules.specs.Answering.{platform_steps, is_of_device, has_its_phase, phase_of, step_of, ret_of, is_ret_allowed, may_report, is_same_answer, whole_report, whole_answers, thingless_answer}
use Rattle.file_rules.specs.Limits.{most_items, too_many, script_steps, is_state_step, is_link_step, has_autosleep, too_much}
use Rattle.file_rules.specs.Whole.{rules, first_broken, whole_machine, whole_notifier}
use Rattle.file_rules.proofs.Accepted.{AllPass, all_pass, keeps_all, KeepsAll}
use Rattle.file_rules.proofs.ScriptsValid.{EachList, each_list, each_item, each_operation, table_row}
use Rattle.file_read_back.specs.Laws.{IsSecondOf, AllVersionsAlike}
use Rattle.file_read_back.proofs.Alike.{each_passes}
use Rattle.file_read_back.proofs.Numbers.{number_of}
use Rattle.file_read_back.proofs.RulesBack.{none_broken, rows_pass, valid_unless, items_pass}
use Rattle.file_read_back.proofs.ScriptsBack.{none_fails_of}

-- ---- what passes in version 1 passes in version 2

all_weaker : (p q : Data → Bool) (os : List Data) → ((o : Data) → p o ≡ true → q o ≡ true) → list_all p os ≡ true → list_all q os ≡ true
all_weaker p q [] f e = refl
all_weaker p q (o ∷ os) f e = let both = and_parts (p o) (list_all p os) e in and_from (q o) (list_all q os) (f o both.0) (all_weaker p q os f both.1)

one_more : (a b c : Bool) → (a || (b || false)) ≡ true → (a || (b || (c || false))) ≡ true
one_more true b c e = refl
one_more false true c e = refl
one_more false false c e = absurd (false≢true e)

more_named : (ms : Members) → are_named (link_members false) ms ≡ true → are_named (link_members true) ms ≡ true
more_named no_members e = refl
more_named (member k d ms) e =
    let both = and_parts (list_any (bytes_eq k) (link_members false)) (are_named (link_members false) ms) e in
    and_from (list_any (bytes_eq k) (link_members true)) (are_named (link_members true) ms)
    (one_more (bytes_eq k (codes "supplier")) (bytes_eq k (codes "consumer")) (bytes_eq k (codes "state")) both.0) (more_named ms both.1)

more_members : (o : Option Members) → is_some_and (are_named (link_members false)) o ≡ true → is_some_and (are_named (link_members true)) o ≡ true
more_members None e = absurd (false≢true e)
more_members (Some ms) e = more_named ms e

link_wider : (second : Bool) (o : Data) → is_link_form second o ≡ true → is_link_form true o ≡ true
link_wider true o e = e
link_wider false o e =
    let only = has_only (link_members false) o in
    let supplier = must_have (codes "supplier") is_string o in
    let consumer = must_have (codes "consumer") is_string o in
    let last = and_parts (only && supplier && consumer) (may_have (codes "state") (is_one_of link_states) o) e in
    let ends = and_parts (only && supplier) consumer last.0 in
    let front = and_parts only supplier ends.0 in
    and_from _ _ (and_from _ _ (and_from _ _ (more_members (as_object o) front.0) front.1) ends.1) last.1

-- ---- two values that differ in the version

module _ (d e : Data) (of : IsSecondOf d e) where
  list_same : (name : List ℕ) → bytes_eq name (codes "version") ≡ false → list_in name e ≡ list_in name d
  list_same name other = ap (λ o. items_of (unwrap_or (option_and_then as_array o) no_items)) (of.others name other)

  number_same : (name : List ℕ) → bytes_eq name (codes "version") ≡ false → number_at name e ≡ number_at name d
  number_same name other = ap number_of (of.others name other)

  devices : list_in (codes "devices") e ≡ list_in (codes "devices") d
  devices = list_same (codes "devices") refl

  links : list_in (codes "links") e ≡ list_in (codes "links") d
  links = list_same (codes "links") refl

  syscore : list_in (codes "syscore") e ≡ list_in (codes "syscore") d
  syscore = list_same (codes "syscore") refl

  notifiers : list_in (codes "notifiers") e ≡ list_in (codes "notifiers") d
  notifiers = list_same (codes "notifiers") refl

  sources : list_in (codes "sources") e ≡ list_in (codes "sources") d
  sources = list_same (codes "sources") refl

  actors : list_in (codes "actors") e ≡ list_in (codes "actors") d
  actors = list_same (codes "actors") refl

  answers : list_in (codes "answers") e ≡ list_in (codes "answers") d
  answers = list_same (codes "answers") refl

  -- ---- the machine

  names : devices_named e ≡ devices_named d
  names = ap (map name_of) devices

  marks : whole_marks e ≡ whole_marks d
  marks = ap (λ os. first_occurrences [] (flat_map (λ a. marks_of (list_in (codes "script") a)) os)) actors

  known : known_of e ≡ known_of d
  known = λ i. record { devices = map name_of (devices i); sources = map text_of (sources i); marks = marks i }

  all_devices : whole_devices e ≡ whole_devices d
  all_devices = ap₂ (λ ns os. map (whole_device ns) os) names devices

  -- the names of an answer's kind of thing, and that thing, by the names of each kind
  abbrev kind_by : List (List ℕ) → List (List ℕ) → List (List ℕ) → Data → List (List ℕ)
  kind_by v s n a = cond (is_of_device a) v (cond (has_text (codes "what") (codes "syscore") a) s (cond (has_text (codes "what") (codes "notifier") a) n (map down_word platform_steps)))

  abbrev thing_by : List (List ℕ) → List (List ℕ) → List (List ℕ) → Data → What
  thing_by v s n a =
      let place = index_among (kind_by v s n a) (name_of a) in
      cond (is_of_device a) (what.Device place (phase_of a)) (cond (has_text (codes "what") (codes "syscore") a) (what.Syscore place)
      (cond (has_text (codes "what") (codes "notifier") a) (what.Notifier place) (what.Platform (step_of a))))

  all_answers : whole_answers e ≡ whole_answers d
  all_answers =
      λ i. map (λ a. record {
        what = thing_by (map name_of (devices i)) (map text_of (syscore i)) (map name_of (notifiers i)) a;
        attempt = number_at (codes "attempt") a;
        ret = ret_of a;
        reports = map (whole_report (map text_of (sources i))) (list_in (codes "reports") a);
      }) (answers i)

  machine_alike : whole_machine e ≡ whole_machine d
  machine_alike = λ i. record {
    alarm_ms = unwrap_or (number_same (codes "alarm_ms") refl i) 1000;
    cpus = unwrap_or (number_same (codes "cpus") refl i) 1;
    auto_cycles = unwrap_or (number_same (codes "auto_cycles") refl i) 16;
    devices = all_devices i;
    links = map (link_of (names i)) (links i);
    syscore = map text_of (syscore i);
    notifiers = map whole_notifier (notifiers i);
    sources = map text_of (sources i);
    marks = marks i;
    actors = map (whole_script (known i)) (actors i);
    answers = all_answers i;
  }

  -- ---- the rules

  second : is_second e ≡ true
  second = ap (is_some_and (is_number 2)) of.version

  module _ (unbroken : first_broken d ≡ None) where
    own : KeepsAll rules d
    own = keeps_all rules d unbroken

    or_none : (o p : Option (List ℕ)) → o ≡ None → p ≡ None → option_or o p ≡ None
    or_none o p h k = ap₂ option_or h k

    not_false : (b : Bool) → not b ≡ true → b ≡ false
    not_false true h = absurd (false≢true h)
    not_false false h = refl

    rows_valid : (rows : List (Named (Data → Bool))) → list_all (λ r. not (bytes_eq r.name (codes "version"))) rows ≡ true → AllPass (λ (r : Named (Data → Bool)). may_have r.name r.is d) rows
        → AllPass (λ (r : Named (Data → Bool)). may_have r.name r.is e) rows
    rows_valid [] h k = tt
    rows_valid (r ∷ rows) h k =
        let both = and_parts (not (bytes_eq r.name (codes "version"))) (list_all (λ x. not (bytes_eq x.name (codes "version"))) rows) h in
        (ap (is_none_or r.is) (of.others r.name (not_false (bytes_eq r.name (codes "version")) both.0)) ∙ k.0, rows_valid rows both.1 k.1)

    members_valid : unformed_member e ≡ None
    members_valid =
        rows_pass (λ (r : Named (Data → Bool)). may_have r.name r.is e) member_forms (rows_valid member_forms refl (all_pass (λ (r : Named (Data → Bool)). may_have r.name r.is d) member_forms own.1.1.0))

    forms : EachList d (item_forms (is_second d))
    forms = each_list d (item_forms (is_second d)) own.1.1.1.0

    each : (name : List ℕ) (test : Data → Bool) → list_in name e ≡ list_in name d → first_item name test d ≡ None → first_item name test e ≡ None
    each name test same h = ap (λ os. option_map (item_place name) (first_not test os)) same ∙ h

    link_forms : first_item (codes "links") (is_link_form (is_second e)) e ≡ None
    link_forms =
        items_pass (codes "links") (is_link_form (is_second e)) e (
        ap (list_all (is_link_form (is_second e))) links
        ∙ all_weaker (is_link_form (is_second d)) (is_link_form (is_second e)) (list_in (codes "links") d)
        (λ o h. ap (λ b. is_link_form b o) second ∙ link_wider (is_second d) o h)
        (each_item (codes "links") (is_link_form (is_second d)) d forms.1.0)
        )

    items_valid : unformed_item e ≡ None
    items_valid =
        or_none _ _ (each (codes "devices") is_device_form devices forms.0)
        (or_none _ _ link_forms
        (or_none _ _ (each (codes "syscore") is_string syscore forms.1.1.0)
        (or_none _ _ (each (codes "notifiers") is_notifier_form notifiers forms.1.1.1.0)
        (or_none _ _ (each (codes "sources") is_string sources forms.1.1.1.1.0)
        (or_none _ _ (each (codes "actors") is_actor_form actors forms.1.1.1.1.1.0)
        (or_none _ _ (each (codes "answers") is_answer_form answers forms.1.1.1.1.1.1.0) refl))))))

    counts : AllPass (λ (n : Named ℕ). nat_le (length (list_in n.name d)) n.is) most_items
    counts = all_pass (λ (n : Named ℕ). nat_le (length (list_in n.name d)) n.is) most_items own.1.1.1.1.0

    few_valid : too_many e ≡ None
    few_valid =
        rows_pass (λ (n : Named ℕ). nat_le (length (list_in n.name e)) n.is) most_items (fewer most_items refl counts)
      where
        fewer : (rows : List (Named ℕ)) → list_all (λ r. not (bytes_eq r.name (codes "version"))) rows ≡ true → AllPass (λ (n : Named ℕ). nat_le (length (list_in n.name d)) n.is) rows
            → AllPass (λ (n : Named ℕ). nat_le (length (list_in n.name e)) n.is) rows
        fewer [] h k = tt
        fewer (r ∷ rows) h k =
            let both = and_parts (not (bytes_eq r.name (codes "version"))) (list_all (λ x. not (bytes_eq x.name (codes "version"))) rows) h in
            (ap (λ os. nat_le (length os) r.is) (list_same r.name (not_false (bytes_eq r.name (codes "version")) both.0)) ∙ k.0, fewer rows both.1 k.1)

    spelled_same : misspelled_item e ≡ misspelled_item d
    spelled_same = λ i.
        option_or (option_map (item_place (codes "devices")) (first_not names_of_device (devices i)))
        (option_or (option_map (item_place (codes "links")) (first_not names_of_link (links i)))
        (option_or (option_map (item_place (codes "syscore")) (first_not spells_name (syscore i)))
        (option_or (option_map (item_place (codes "notifiers")) (first_not own_name (notifiers i)))
        (option_or (option_map (item_place (codes "sources")) (first_not spells_name (sources i)))
        (option_or (option_map (item_place (codes "actors")) (first_not own_name (actors i)))
        (option_or (option_map (item_place (codes "answers")) (first_not own_name (answers i))) None))))))

    cyclic_same : cyclic_link e ≡ cyclic_link d
    cyclic_same = λ i.
        option_map (item_place (codes "links"))
        (first_not_after
        (λ before l. not (is_among (moved (length (parents_of (all_devices i))) (dependents (parents_of (all_devices i)) (map (link_of (names i)) before)) (index_among (names i) (text_at (codes "consumer") l))) (index_among (names i) (text_at (codes "supplier") l))))
        [] 0 (links i))

    formed_valid : unformed_operation e ≡ None
    formed_valid =
        let scripts = list_in (codes "actors") d in
        ap (first_operation_of (is_formed (is_second e)) 0) actors
        ∙ none_fails_of (is_formed (is_second e)) 0 scripts (each_passes (λ a. list_all (is_formed (is_second e) a) (list_in (codes "script") a)) scripts
        (all_weaker (λ a. list_all (is_formed (is_second d) a) (list_in (codes "script") a)) (λ a. list_all (is_formed (is_second e) a) (list_in (codes "script") a)) scripts
        (λ a h. all_weaker (is_formed (is_second d) a) (is_formed (is_second e) a) (list_in (codes "script") a) (λ o k. ap (λ b. is_formed b a o) second ∙ table_row (is_second d) a o k) h)
        (each_operation (is_formed (is_second d)) 0 scripts own.1.1.1.1.1.1.1.1.1.1.1.1.1.1.0)))

    things_same : thingless_answer e ≡ thingless_answer d
    things_same = λ i.
        option_map (item_place (codes "answers"))
        (first_not (λ a. is_among_names (kind_by (map name_of (devices i)) (map text_of (syscore i)) (map name_of (notifiers i)) a) (name_of a) && has_its_phase a) (answers i))

    much_same : too_much e ≡ too_much d
    much_same = λ i.
        let cycles = cond (list_any has_autosleep (actors i)) (unwrap_or (number_same (codes "auto_cycles") refl i) 16) 0 in
        option_or
        (unless (nat_le (sum_by (script_steps (λ o. true)) (actors i)) 200000
        && nat_le ((sum_by (script_steps is_state_step) (actors i) + cycles) * (length (devices i) + 50)) 100000
        && nat_le (length (links i) + sum_by (script_steps is_link_step) (actors i)) 4000) (codes "actors"))
        (unless (nat_le (sum_by (λ a. length (list_in (codes "reports") a)) (answers i)) 10000) (codes "answers"))

    unbroken_too : first_broken e ≡ None
    unbroken_too =
        let seven = own.1.1.1.1.1 in
        let twelve = seven.1.1.1.1.1 in
        let seventeen = twelve.1.1.1.1.1 in
        none_broken rules e (
          valid_unless (has_only file_members e) (codes "top") of.members,
          (
            valid_unless (has_version e) (codes "version") (ap (is_some_and (λ x. is_number 1 x || is_number 2 x)) of.version),
            (
              members_valid,
              (
                items_valid,
                (
                  few_valid,
                  (
                    spelled_same ∙ seven.0,
                    (
                      ap (repeated (codes "devices")) names ∙ seven.1.0,
                      (
                        ap (λ os. option_map (item_place (codes "devices")) (first_not_after has_parent_before [] 0 os)) devices ∙ seven.1.1.0,
                        (
                          ap₂ (λ ns os. option_map (item_place (codes "links")) (first_not (has_ends ns) os)) names links ∙ seven.1.1.1.0,
                          (
                            ap (λ os. option_map (item_place (codes "links")) (first_not_after is_new_link [] 0 os)) links ∙ seven.1.1.1.1.0,
                            (
                              cyclic_same ∙ twelve.0,
                              (
                                ap₂ (λ ss ns. option_or (repeated (codes "syscore") (map text_of ss)) (repeated (codes "notifiers") (map name_of ns))) syscore notifiers ∙ twelve.1.0,
                                (
                                  ap (λ os. option_map (item_place (codes "sources")) (first_not_after (λ before name. not (is_among_names (codes "autosleep" ∷ before) name)) [] 0 (map text_of os))) sources ∙ twelve.1.1.0,
                                  (
                                    ap (λ os. repeated (codes "actors") (map name_of os)) actors ∙ twelve.1.1.1.0,
                                    (
                                      formed_valid,
                                      (
                                        ap (first_operation_of is_allowed 0) actors ∙ seventeen.0,
                                        (
                                          (λ i. option_or (first_operation_of (λ a. names_source (map text_of (sources i))) 0 (actors i))
                                              (option_map (item_place (codes "answers")) (first_not (λ a. list_all (names_source (map text_of (sources i))) (list_in (codes "reports") a)) (answers i)))) ∙ seventeen.1.0,
                                          (
                                            ap₂ (λ ns os. first_operation_of (λ a. names_device ns) 0 os) names actors ∙ seventeen.1.1.0,
                                            (
                                              things_same ∙ seventeen.1.1.1.0,
                                              (
                                                each (codes "answers") (λ a. may_have (codes "ret") (is_ret_allowed a) a) answers seventeen.1.1.1.1.0,
                                                (
                                                  each (codes "answers") may_report answers seventeen.1.1.1.1.1.0,
                                                  (
                                                    ap (λ os. option_map (item_place (codes "answers")) (first_not_after (λ before a. not (list_any (is_same_answer a) before)) [] 0 os)) answers ∙ seventeen.1.1.1.1.1.1.0,
                                                    (much_same ∙ seventeen.1.1.1.1.1.1.1.0, tt),
                                                  ),
                                                ),
                                              ),
                                            ),
                                          ),
                                        ),
                                      ),
                                    ),
                                  ),
                                ),
                              ),
                            ),
                          ),
                        ),
                      ),
                    ),
                  ),
                ),
              ),
            ),
          ),
        )

pub versions_alike : AllVersionsAlike
versions_alike d e of unbroken = (unbroken_too d e of unbroken, machine_alike d e of)
