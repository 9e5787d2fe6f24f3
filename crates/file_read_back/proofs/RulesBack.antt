-- What is written for the machine of a file that breaks no rule breaks none.
use Rattle.std.proofs.Common.{◌≡◌, ◌∙◌, ◌&&◌, ◌||◌, ◌+◌, ◌*◌, ℕ, List, [], ◌∷◌, map, length, codes, Bool, true, false, not, cond, bytes_eq, nat_le, find, sum_by, Option, Some, None, unwrap_or, refl, ap, ap₂}
use Rattle.std.specs.List.{list_all, list_any}
use Rattle.std.specs.Option.{option_or, option_map}
use Rattle.std.proofs.lemmas.Bool.{and_parts, and_from, false≢true}
use Rattle.serde_json.specs.Data.{Data}
use Rattle.serde_json.specs.Find.{get}
use Rattle.sleep_model.specs.Answers.{is_for}
use Rattle.sleep_model.specs.Order.{is_among, dependents, moved, parents_of}
use Rattle.borrowed_json.specs.Look.{is_some_and, is_none_or, is_number, is_list, has_only, may_have, has_text, list_in, number_at, is_within, is_string}
use Rattle.file_rules.specs.Members.{file_members}
use Rattle.file_rules.specs.Places.{unless, first_not, first_not_after, first_item, first_operation_of, item_place}
use Rattle.file_rules.specs.Form.{Named, first_row, member_forms, is_device_form, is_link_form, is_notifier_form, is_actor_form, is_answer_form, unformed_member, unformed_item}
use Rattle.file_rules.specs.Names.{is_among_names, names_of_device, names_of_link, spells_name, own_name, devices_named, sources_named, repeated, misspelled_item}
use Rattle.file_rules.specs.Rules.{name_of, has_version, is_second}
use Rattle.sleep_model.specs.NameBytes.{is_name}
use Rattle.file_rules.specs.Spelled.{index_among, link_of}
use Rattle.file_rules.specs.Devices.{has_parent_before, has_ends, is_same_link, is_new_link, closes_no_cycle, orphan, loose_link, repeated_link, cyclic_link}
use Rattle.file_rules.specs.Operations.{is_formed, is_allowed, names_source, names_device, unformed_operation, forbidden_operation, sourceless_operation, deviceless_operation}
use Rattle.file_rules.specs.Answering.{names_of_kind, has_its_phase, names_thing, is_ret_allowed, may_report, is_same_answer, sourceless_report, repeated_answer}
use Rattle.file_rules.specs.Limits.{most_items, too_many, all_steps, script_steps, is_state_step, is_link_step, has_autosleep, autosleep_attempts, are_steps_few, are_reports_few, too_much}
use Rattle.file_rules.specs.Whole.{Rule, rules, first_of, first_broken, broken_at, whole_machine}
use Rattle.machine_file.specs.Spelling.{list_unless_empty, machine_rows}
use Rattle.file_read_back.proofs.Rows.{at_name, named}
use Rattle.file_rules.proofs.Accepted.{KeepsAll, keeps_all, AllPass, all_pass}
use Rattle.file_read_back.proofs.Numbers.{number_of, number_back, in_range_or, number_form}
use Rattle.file_rules.proofs.ScriptsValid.{each_operation}
use Rattle.file_read_back.proofs.Alike.{EachOf, weaker, each_both, each_passes, each_made, all_alike, made_pass, none_fails, seen_alike, length_alike, later_alike, any_alike, sum_alike}
use Rattle.file_read_back.proofs.DevicesBack.{ValidDevice, device_again, same_device}
use Rattle.file_read_back.proofs.LinksBack.{link_again, same_link, notifier_again, same_notifier}
use Rattle.file_read_back.proofs.OperationsBack.{ValidOperation, op_again, same_op}
use Rattle.file_read_back.proofs.ScriptsBack.{ValidActor, actor_again, same_actor, same_allowed, none_fails_of, same_steps, list_form}
use Rattle.file_read_back.proofs.ReportsBack.{SameReport, report_again}
use Rattle.file_read_back.proofs.AnswersBack.{ValidAnswer, answer_again, answers_same, same_text}
use Rattle.file_read_back.proofs.FileValid.{ValidFile, valid_file}
use Rattle.file_read_back.proofs.MachineBack.{again, text_again, devices_list, links_list, syscore_list, notifiers_list, sources_list, actors_list, answers_list, devices_named_same, notifiers_named_same, actors_named_same, sources_same, syscore_same, whole_devices_same, link_same, name_same, kinds_same}

-- ---- no rule is broken if each is kept

pub none_broken : (rs : List Rule) (v : Data) → KeepsAll rs v → first_of rs v ≡ None
none_broken [] v h = refl
none_broken (r ∷ rest) v h = ap₂ (λ o p. option_or (option_map (broken_at r.number) o) p) h.0 (none_broken rest v h.1)

one_passes : {A : Type 0} (b : Bool) (r : Named A) (o : Option (Named A)) → b ≡ true → o ≡ None → cond (not b) (Some r) o ≡ None
one_passes b r o e f = ap₂ (λ x y. cond (not x) (Some r) y) e f

none_found : {A : Type 0} (test : Named A → Bool) (rows : List (Named A)) → AllPass test rows → find (λ r. not (test r)) rows ≡ None
none_found test [] h = refl
none_found test (r ∷ rest) h = one_passes (test r) r (find (λ x. not (test x)) rest) h.0 (none_found test rest h.1)

pub rows_pass : {A : Type 0} (test : Named A → Bool) (rows : List (Named A)) → AllPass test rows → first_row test rows ≡ None
rows_pass test rows h = ap (option_map (λ r. r.name)) (none_found test rows h)

pub valid_unless : (b : Bool) (place : List ℕ) → b ≡ true → unless b place ≡ None
valid_unless b place e = ap (λ x. unless x place) e

holds : (b : Bool) (place : List ℕ) → unless b place ≡ None → b ≡ true
holds true place e = refl
holds false place e = absurd (let g : Some place ≡ None = e in cc)

pub items_pass : (name : List ℕ) (test : Data → Bool) (v : Data) → list_all test (list_in name v) ≡ true → first_item name test v ≡ None
items_pass name test v e = ap (option_map (item_place name)) (none_fails test (list_in name v) e)

-- all that are written again pass
written_pass : (name : List ℕ) (test : Data → Bool) (v : Data) (f : Data → Data) (os : List Data) → list_in name v ≡ map f os → EachOf (λ o. test (f o) ≡ true) os → first_item name test v ≡ None
written_pass name test v f os e h = items_pass name test v (ap (list_all test) e ∙ made_pass test f os h)

module _ (d : Data) (unbroken : first_broken d ≡ None) where
  abbrev v : Data
  v = again d

  kept : ValidFile d
  kept = valid_file d unbroken

  own : KeepsAll rules d
  own = keeps_all rules d unbroken

  devices : List Data
  devices = list_in (codes "devices") d

  -- ---- the form

  members : AllPass (λ (f : Named (Data → Bool)). may_have f.name f.is d) member_forms
  members = all_pass (λ (f : Named (Data → Bool)). may_have f.name f.is d) member_forms own.1.1.0

  counts : AllPass (λ (n : Named ℕ). nat_le (length (list_in n.name d)) n.is) most_items
  counts = all_pass (λ (n : Named ℕ). nat_le (length (list_in n.name d)) n.is) most_items own.1.1.1.1.0

  at : (name : List ℕ) → get name v ≡ Rattle.file_read_back.proofs.Rows.found (machine_rows (whole_machine d)) name
  at name = at_name (machine_rows (whole_machine d)) refl name

  number_valid : (name : List ℕ) (least most default : ℕ) → is_none_or (is_within least most) (get name d) ≡ true → (nat_le least default && nat_le default most) ≡ true →
      Rattle.file_read_back.proofs.Rows.found (machine_rows (whole_machine d)) name ≡ Rattle.file_read_back.proofs.Numbers.unless_default default (unwrap_or (number_at name d) default) → may_have name (is_within least most) v ≡ true
  number_valid name least most default e h is =
      ap (is_none_or (is_within least most)) (at name ∙ is) ∙ number_form least most default (unwrap_or (number_at name d) default) (in_range_or least most default (get name d) e h)

  list_valid : (name : List ℕ) (ds : List Data) → Rattle.file_read_back.proofs.Rows.found (machine_rows (whole_machine d)) name ≡ list_unless_empty ds → may_have name is_list v ≡ true
  list_valid name ds is = ap (is_none_or is_list) (at name ∙ is) ∙ list_form ds

  members_valid : unformed_member v ≡ None
  members_valid =
      rows_pass (λ (f : Named (Data → Bool)). may_have f.name f.is v) member_forms (
        number_valid (codes "alarm_ms") 1 86400000 1000 members.0 refl refl,
        (
          number_valid (codes "cpus") 1 64 1 members.1.0 refl refl,
          (
            number_valid (codes "auto_cycles") 1 1000 16 members.1.1.0 refl refl,
            (
              list_valid (codes "devices") _ refl,
              (
                list_valid (codes "links") _ refl,
                (
                  list_valid (codes "syscore") _ refl,
                  (
                    list_valid (codes "notifiers") _ refl,
                    (
                      list_valid (codes "sources") _ refl,
                      (list_valid (codes "actors") _ refl, (list_valid (codes "answers") _ refl, tt)),
                    ),
                  ),
                ),
              ),
            ),
          ),
        ),
      )

  or_none : (o p : Option (List ℕ)) → o ≡ None → p ≡ None → option_or o p ≡ None
  or_none o p e f = ap₂ option_or e f

  string_each : (os : List Data) → EachOf (λ o. spells_name o ≡ true) os → EachOf (λ o. is_string (text_again o) ≡ true) os
  string_each os h = weaker (λ o. spells_name o ≡ true) (λ o. is_string (text_again o) ≡ true) os (λ o k. refl) h

  named_text : (o : Data) → spells_name o ≡ true → spells_name (text_again o) ≡ true
  named_text o e = by (Rattle.serde_json.specs.Find.as_str o) e
    where
      by : (w : Option (List ℕ)) → is_some_and is_name w ≡ true → is_name (unwrap_or w []) ≡ true
      by None h = absurd (false≢true h)
      by (Some s) h = h

  -- what is written says version 2
  second : is_second v ≡ true
  second = ap (is_some_and (is_number 2)) (at (codes "version"))

  link_form_valid : (o : Data) → (names_of_link o ≡ true) × (has_ends (devices_named d) o ≡ true) → is_link_form (is_second v) (link_again d o) ≡ true
  link_form_valid o k = ap (λ b. is_link_form b (link_again d o)) second ∙ (same_link d o k.0 k.1).form

  items_valid : unformed_item v ≡ None
  items_valid =
      or_none _ _ (written_pass (codes "devices") is_device_form v (device_again d) (list_in (codes "devices") d) (devices_list d) (weaker (ValidDevice d) (λ o. is_device_form (device_again d o) ≡ true) _ (λ o k. (same_device d o k).form) kept.devices))
      (or_none _ _ (written_pass (codes "links") (is_link_form (is_second v)) v (link_again d) (list_in (codes "links") d) (links_list d) (weaker (λ o. (names_of_link o ≡ true) × (has_ends (devices_named d) o ≡ true)) (λ o. is_link_form (is_second v) (link_again d o) ≡ true) _ link_form_valid kept.links))
      (or_none _ _ (written_pass (codes "syscore") is_string v text_again (list_in (codes "syscore") d) (syscore_list d) (string_each _ kept.syscore))
      (or_none _ _ (written_pass (codes "notifiers") is_notifier_form v notifier_again (list_in (codes "notifiers") d) (notifiers_list d) (weaker (λ o. (is_notifier_form o ≡ true) × (own_name o ≡ true)) (λ o. is_notifier_form (notifier_again o) ≡ true) _ (λ o k. (same_notifier o k.0 k.1).form) kept.notifiers))
      (or_none _ _ (written_pass (codes "sources") is_string v text_again (list_in (codes "sources") d) (sources_list d) (string_each _ kept.sources))
      (or_none _ _ (written_pass (codes "actors") is_actor_form v (actor_again d) (list_in (codes "actors") d) (actors_list d) (weaker (ValidActor d) (λ a. is_actor_form (actor_again d a) ≡ true) _ (λ a k. (same_actor d a k.form k.names).form) kept.actors))
      (or_none _ _ (written_pass (codes "answers") is_answer_form v (answer_again d) (list_in (codes "answers") d) (answers_list d) (weaker (ValidAnswer d) (λ a. is_answer_form (answer_again d a) ≡ true) _ (λ a k. (answers_same d a k).form) kept.answers)) refl))))))

  few_valid : too_many v ≡ None
  few_valid =
      rows_pass (λ (n : Named ℕ). nat_le (length (list_in n.name v)) n.is) most_items (
        count (codes "devices") 1000 (device_again d) (devices_list d) counts.0,
        (
          count (codes "links") 4000 (link_again d) (links_list d) counts.1.0,
          (
            count (codes "syscore") 32 text_again (syscore_list d) counts.1.1.0,
            (
              count (codes "notifiers") 32 notifier_again (notifiers_list d) counts.1.1.1.0,
              (
                count (codes "sources") 255 text_again (sources_list d) counts.1.1.1.1.0,
                (
                  count (codes "actors") 256 (actor_again d) (actors_list d) counts.1.1.1.1.1.0,
                  (count (codes "answers") 10000 (answer_again d) (answers_list d) counts.1.1.1.1.1.1.0, tt),
                ),
              ),
            ),
          ),
        ),
      )
    where
      count : (name : List ℕ) (most : ℕ) (f : Data → Data) → list_in name v ≡ map f (list_in name d) → nat_le (length (list_in name d)) most ≡ true → nat_le (length (list_in name v)) most ≡ true
      count name most f e h = ap (λ n. nat_le n most) (ap length e ∙ length_alike f (list_in name d)) ∙ h

  spelled_valid : misspelled_item v ≡ None
  spelled_valid =
      or_none _ _ (written_pass (codes "devices") names_of_device v (device_again d) (list_in (codes "devices") d) (devices_list d) (weaker (ValidDevice d) (λ o. names_of_device (device_again d o) ≡ true) _ (λ o k. (same_device d o k).names) kept.devices))
      (or_none _ _ (written_pass (codes "links") names_of_link v (link_again d) (list_in (codes "links") d) (links_list d) (weaker (λ o. (names_of_link o ≡ true) × (has_ends (devices_named d) o ≡ true)) (λ o. names_of_link (link_again d o) ≡ true) _ (λ o k. (same_link d o k.0 k.1).names) kept.links))
      (or_none _ _ (written_pass (codes "syscore") spells_name v text_again (list_in (codes "syscore") d) (syscore_list d) (weaker (λ o. spells_name o ≡ true) (λ o. spells_name (text_again o) ≡ true) _ named_text kept.syscore))
      (or_none _ _ (written_pass (codes "notifiers") own_name v notifier_again (list_in (codes "notifiers") d) (notifiers_list d) (weaker (λ o. (is_notifier_form o ≡ true) × (own_name o ≡ true)) (λ o. own_name (notifier_again o) ≡ true) _ (λ o k. (same_notifier o k.0 k.1).names) kept.notifiers))
      (or_none _ _ (written_pass (codes "sources") spells_name v text_again (list_in (codes "sources") d) (sources_list d) (weaker (λ o. spells_name o ≡ true) (λ o. spells_name (text_again o) ≡ true) _ named_text kept.sources))
      (or_none _ _ (written_pass (codes "actors") own_name v (actor_again d) (list_in (codes "actors") d) (actors_list d) (weaker (ValidActor d) (λ a. own_name (actor_again d a) ≡ true) _ (λ a k. (same_actor d a k.form k.names).names) kept.actors))
      (or_none _ _ (written_pass (codes "answers") own_name v (answer_again d) (list_in (codes "answers") d) (answers_list d) (weaker (ValidAnswer d) (λ a. own_name (answer_again d a) ≡ true) _ (λ a k. (answers_same d a k).names) kept.answers)) refl))))))

  -- ---- devices and links

  parent_same : (b : List Data) (x : Data) → EachOf (ValidDevice d) b → ValidDevice d x → has_parent_before (map (device_again d) b) (device_again d x) ≡ has_parent_before b x
  parent_same b x h k =
      ap₂ (λ ns w. is_none_or (is_among_names ns) w)
      (seen_alike name_of (device_again d) name_of b (weaker (ValidDevice d) (λ o. name_of (device_again d o) ≡ name_of o) b (λ o q. (same_device d o q).name) h)) (same_device d x k).parent

  orphan_valid : orphan v ≡ None
  orphan_valid =
      ap (λ os. option_map (item_place (codes "devices")) (first_not_after has_parent_before [] 0 os)) (devices_list d)
      ∙ ap (option_map (item_place (codes "devices"))) (later_alike has_parent_before (device_again d) (ValidDevice d) parent_same [] 0 (list_in (codes "devices") d) tt kept.devices)
      ∙ own.1.1.1.1.1.1.1.0

  abbrev ValidLink : Data → Type 0
  ValidLink o = (names_of_link o ≡ true) × (has_ends (devices_named d) o ≡ true)

  ends_same : (o : Data) → ValidLink o → has_ends (devices_named v) (link_again d o) ≡ true
  ends_same o k =
      let s = same_link d o k.0 k.1 in
      (λ i. is_among_names (devices_named_same d kept i) (s.supplier i) && is_among_names (devices_named_same d kept i) (s.consumer i)) ∙ k.1

  loose_valid : loose_link v ≡ None
  loose_valid =
      written_pass (codes "links") (has_ends (devices_named v)) v (link_again d) (list_in (codes "links") d) (links_list d)
      (weaker ValidLink (λ o. has_ends (devices_named v) (link_again d o) ≡ true) (list_in (codes "links") d) ends_same kept.links)

  pair_same : (x y : Data) → ValidLink x → ValidLink y → is_same_link (link_again d x) (link_again d y) ≡ is_same_link x y
  pair_same x y k q =
      let s = same_link d x k.0 k.1 in
      let t = same_link d y q.0 q.1 in
      λ i. bytes_eq (s.supplier i) (t.supplier i) && bytes_eq (s.consumer i) (t.consumer i)

  new_same : (b : List Data) (x : Data) → EachOf ValidLink b → ValidLink x → is_new_link (map (link_again d) b) (link_again d x) ≡ is_new_link b x
  new_same b x h k =
      let s = same_link d x k.0 k.1 in
      let any = any_alike (is_same_link (link_again d x)) (link_again d) (is_same_link x) b (weaker ValidLink (λ y. is_same_link (link_again d x) (link_again d y) ≡ is_same_link x y) b (λ y q. pair_same x y k q) h) in
      λ i. not (bytes_eq (s.supplier i) (s.consumer i)) && not (any i)

  repeated_valid : repeated_link v ≡ None
  repeated_valid =
      ap (λ os. option_map (item_place (codes "links")) (first_not_after is_new_link [] 0 os)) (links_list d)
      ∙ ap (option_map (item_place (codes "links"))) (later_alike is_new_link (link_again d) ValidLink new_same [] 0 (list_in (codes "links") d) tt kept.links)
      ∙ own.1.1.1.1.1.1.1.1.1.0

  closes_same : (b : List Data) (x : Data) → EachOf ValidLink b → ValidLink x → closes_no_cycle v (map (link_again d) b) (link_again d x) ≡ closes_no_cycle d b x
  closes_same b x h k =
      let s = same_link d x k.0 k.1 in
      let names = devices_named_same d kept in
      let before : map (link_of (devices_named v)) (map (link_again d) b) ≡ map (link_of (devices_named d)) b =
      ap (λ ns. map (link_of ns) (map (link_again d) b)) names
      ∙ seen_alike (link_of (devices_named d)) (link_again d) (link_of (devices_named d)) b (weaker ValidLink (λ o. link_of (devices_named d) (link_again d o) ≡ link_of (devices_named d) o) b (link_same d kept) h) in
      λ i. not (is_among (moved (length (parents_of (whole_devices_same d kept i))) (dependents (parents_of (whole_devices_same d kept i)) (before i)) (index_among (names i) (s.consumer i))) (index_among (names i) (s.supplier i)))

  cyclic_valid : cyclic_link v ≡ None
  cyclic_valid =
      ap (λ os. option_map (item_place (codes "links")) (first_not_after (closes_no_cycle v) [] 0 os)) (links_list d)
      ∙ ap (option_map (item_place (codes "links"))) (closes_valid [] 0 (list_in (codes "links") d) tt kept.links)
      ∙ own.1.1.1.1.1.1.1.1.1.1.0
    where
      closes_valid : (b : List Data) (n : ℕ) (os : List Data) → EachOf ValidLink b → EachOf ValidLink os → first_not_after (closes_no_cycle v) (map (link_again d) b) n (map (link_again d) os) ≡ first_not_after (closes_no_cycle d) b n os
      closes_valid b n os h k = Rattle.file_read_back.proofs.Alike.later_between (closes_no_cycle v) (closes_no_cycle d) (link_again d) ValidLink closes_same b n os h k

  -- ---- operations

  actor_pass : (test : Data → Data → Bool) → ((a : Data) → ValidActor d a → list_all (test (actor_again d a)) (map (op_again d) (list_in (codes "script") a)) ≡ true) →
      Rattle.file_rules.specs.Places.first_operation test v ≡ None
  actor_pass test h =
      ap (first_operation_of test 0) (actors_list d)
      ∙ none_fails_of test 0 (map (actor_again d) (list_in (codes "actors") d))
      (Rattle.file_read_back.proofs.Alike.each_made (λ a. list_all (test a) (list_in (codes "script") a) ≡ true) (actor_again d) (list_in (codes "actors") d)
      (weaker (ValidActor d) (λ a. list_all (test (actor_again d a)) (list_in (codes "script") (actor_again d a)) ≡ true) (list_in (codes "actors") d)
      (λ a k. ap (list_all (test (actor_again d a))) (same_actor d a k.form k.names).script ∙ h a k) kept.actors))

  op_pass : (test : Data → Bool) (os : List Data) → ((o : Data) → ValidOperation d o → test (op_again d o) ≡ true) → EachOf (ValidOperation d) os → list_all test (map (op_again d) os) ≡ true
  op_pass test os h k = made_pass test (op_again d) os (weaker (ValidOperation d) (λ o. test (op_again d o) ≡ true) os h k)

  formed_valid : unformed_operation v ≡ None
  formed_valid =
      actor_pass (is_formed (is_second v))
      (λ a k. op_pass (is_formed (is_second v) (actor_again d a)) (list_in (codes "script") a) (λ o q. ap (λ b. is_formed b (actor_again d a) (op_again d o)) second ∙ (same_op d o q).form) k.ops)

  source_valid : sourceless_operation v ≡ None
  source_valid =
      actor_pass (λ a. names_source (sources_named v))
      (λ a k. op_pass (names_source (sources_named v)) (list_in (codes "script") a)
      (λ o q. ap₂ (λ ns w. is_none_or (is_among_names ns) w) (sources_same d kept) (same_op d o q).source ∙ q.source) k.ops)

  device_valid : deviceless_operation v ≡ None
  device_valid =
      actor_pass (λ a. names_device (devices_named v))
      (λ a k. op_pass (names_device (devices_named v)) (list_in (codes "script") a) (λ o q. named_devices o q ∙ q.device) k.ops)
    where
      named_devices : (o : Data) → ValidOperation d o → names_device (devices_named v) (op_again d o) ≡ names_device (devices_named d) o
      named_devices o q =
          let names = devices_named_same d kept in
          let same = same_op d o q in
          λ i. is_none_or (is_among_names (names i)) (same.device i) && is_none_or (is_among_names (names i)) (same.supplier i) && is_none_or (is_among_names (names i)) (same.consumer i)

  abbrev actors : List Data
  actors = list_in (codes "actors") d

  abbrev AllowedActor : Data → Type 0
  AllowedActor a = ValidActor d a × (list_all (is_allowed a) (list_in (codes "script") a) ≡ true)

  allowed_actor : (a : Data) → AllowedActor a → list_all (is_allowed (actor_again d a)) (list_in (codes "script") (actor_again d a)) ≡ true
  allowed_actor a k =
      let os = list_in (codes "script") a in
      ap (list_all (is_allowed (actor_again d a))) (same_actor d a k.0.form k.0.names).script
      ∙ made_pass (is_allowed (actor_again d a)) (op_again d) os
      (weaker (λ o. ValidOperation d o × (is_allowed a o ≡ true)) (λ o. is_allowed (actor_again d a) (op_again d o) ≡ true) os (λ o q. same_allowed d a o k.0 q.0 ∙ q.1)
      (each_both (ValidOperation d) (λ o. is_allowed a o ≡ true) os k.0.ops (each_passes (is_allowed a) os k.1)))

  allowed_valid : forbidden_operation v ≡ None
  allowed_valid =
      ap (first_operation_of is_allowed 0) (actors_list d)
      ∙ none_fails_of is_allowed 0 (map (actor_again d) actors)
      (each_made (λ a. list_all (is_allowed a) (list_in (codes "script") a) ≡ true) (actor_again d) actors
      (weaker AllowedActor (λ a. list_all (is_allowed (actor_again d a)) (list_in (codes "script") (actor_again d a)) ≡ true) actors allowed_actor
      (each_both (ValidActor d) (λ a. list_all (is_allowed a) (list_in (codes "script") a) ≡ true) actors kept.actors
      (each_passes (λ a. list_all (is_allowed a) (list_in (codes "script") a)) actors (each_operation is_allowed 0 actors own.1.1.1.1.1.1.1.1.1.1.1.1.1.1.1.0)))))

  -- ---- answers

  abbrev answers : List Data
  answers = list_in (codes "answers") d

  answer_pass : (test : Data → Bool) → ((a : Data) → ValidAnswer d a → test (answer_again d a) ≡ true) → first_item (codes "answers") test v ≡ None
  answer_pass test h = written_pass (codes "answers") test v (answer_again d) answers (answers_list d) (weaker (ValidAnswer d) (λ a. test (answer_again d a) ≡ true) answers h kept.answers)

  thing_valid : (a : Data) → ValidAnswer d a → names_thing v (answer_again d a) ≡ true
  thing_valid a k =
      let there = and_parts (is_among_names (names_of_kind d a) (name_of a)) (has_its_phase a) k.thing in
      and_from (is_among_names (names_of_kind v (answer_again d a)) (name_of (answer_again d a))) (has_its_phase (answer_again d a))
      (ap₂ is_among_names (kinds_same d kept a k) (name_same d kept a k) ∙ there.0) (answers_same d a k).owned

  report_valid : (a : Data) → ValidAnswer d a → may_report (answer_again d a) ≡ true
  report_valid a k =
      let s = answers_same d a k in
      let device = same_text (codes "what") (codes "device") (answer_again d a) a s.word in
      let prepare = same_text (codes "phase") (codes "prepare") (answer_again d a) a s.phase in
      let count = ap length s.reports ∙ length_alike (report_again d) (list_in (codes "reports") a) in
      (λ i. nat_le (count i) (cond (device i && not (device i && prepare i)) 16 0)) ∙ k.reports

  reported : (a : Data) → ValidAnswer d a → list_all (names_source (sources_named v)) (list_in (codes "reports") (answer_again d a)) ≡ true
  reported a k =
      let s = answers_same d a k in
      ap₂ (λ ns os. list_all (names_source ns) os) (sources_same d kept) s.reports
      ∙ all_alike (names_source (sources_named d)) (report_again d) (names_source (sources_named d)) (list_in (codes "reports") a)
      (weaker (SameReport d) (λ r. names_source (sources_named d) (report_again d r) ≡ names_source (sources_named d) r) (list_in (codes "reports") a) (λ r q. ap (is_none_or (is_among_names (sources_named d))) q.source) s.each)
      ∙ k.sources

  alike : (x y : Data) → ValidAnswer d x → ValidAnswer d y → is_same_answer (answer_again d x) (answer_again d y) ≡ is_same_answer x y
  alike x y k q =
      let s = answers_same d x k in
      let t = answers_same d y q in
      λ i. bytes_eq (unwrap_or (s.word i) []) (unwrap_or (t.word i) []) && bytes_eq (unwrap_or (s.name i) []) (unwrap_or (t.name i) []) && bytes_eq (unwrap_or (s.phase i) []) (unwrap_or (t.phase i) [])
      && is_for (s.attempt i) (t.attempt i)

  again_same : (b : List Data) (x : Data) → EachOf (ValidAnswer d) b → ValidAnswer d x → not (list_any (is_same_answer (answer_again d x)) (map (answer_again d) b)) ≡ not (list_any (is_same_answer x) b)
  again_same b x h k =
      ap not (any_alike (is_same_answer (answer_again d x)) (answer_again d) (is_same_answer x) b (weaker (ValidAnswer d) (λ y. is_same_answer (answer_again d x) (answer_again d y) ≡ is_same_answer x y) b (λ y q. alike x y k q) h))

  once_valid : repeated_answer v ≡ None
  once_valid =
      ap (λ os. option_map (item_place (codes "answers")) (first_not_after (λ before a. not (list_any (is_same_answer a) before)) [] 0 os)) (answers_list d)
      ∙ ap (option_map (item_place (codes "answers"))) (later_alike (λ before a. not (list_any (is_same_answer a) before)) (answer_again d) (ValidAnswer d) again_same [] 0 answers tt kept.answers)
      ∙ own.1.1.1.1.1.1.1.1.1.1.1.1.1.1.1.1.1.1.1.1.1.0

  -- ---- how much happens

  steps_same : (test : Data → Bool) → ((o : Data) → ValidOperation d o → test (op_again d o) ≡ test o) → all_steps test v ≡ all_steps test d
  steps_same test h =
      ap (sum_by (script_steps test)) (actors_list d)
      ∙ sum_alike (script_steps test) (actor_again d) (script_steps test) actors (weaker (ValidActor d) (λ a. script_steps test (actor_again d a) ≡ script_steps test a) actors (λ a k. same_steps d a test h k) kept.actors)

  sleeps_same : (a : Data) → ValidActor d a → has_autosleep (actor_again d a) ≡ has_autosleep a
  sleeps_same a k =
      let os = list_in (codes "script") a in
      ap (list_any (has_text (codes "op") (codes "autosleep"))) (same_actor d a k.form k.names).script
      ∙ any_alike (has_text (codes "op") (codes "autosleep")) (op_again d) (has_text (codes "op") (codes "autosleep")) os
      (weaker (ValidOperation d) (λ o. has_text (codes "op") (codes "autosleep") (op_again d o) ≡ has_text (codes "op") (codes "autosleep") o) os (λ o q. (same_op d o q).word (codes "autosleep")) k.ops)

  cycles_same : autosleep_attempts v ≡ autosleep_attempts d
  cycles_same =
      let any = ap (list_any has_autosleep) (actors_list d) ∙ any_alike has_autosleep (actor_again d) has_autosleep actors (weaker (ValidActor d) (λ a. has_autosleep (actor_again d a) ≡ has_autosleep a) actors sleeps_same kept.actors) in
      let cycles = ap (λ r. unwrap_or (number_of r) 16) (at (codes "auto_cycles")) ∙ number_back 16 (unwrap_or (number_at (codes "auto_cycles") d) 16) in
      ap₂ (λ b n. cond b n 0) any cycles

  few_steps_same : are_steps_few v ≡ are_steps_few d
  few_steps_same =
      let all = steps_same (λ o. true) (λ o k. refl) in
      let states = steps_same is_state_step (λ o k. (same_op d o k).word (codes "state")) in
      let count = ap length (devices_list d) ∙ length_alike (device_again d) (list_in (codes "devices") d) in
      let added = steps_same is_link_step (λ o k. (same_op d o k).word (codes "link")) in
      let written = ap length (links_list d) ∙ length_alike (link_again d) (list_in (codes "links") d) in
      λ i. nat_le (all i) 200000 && nat_le ((states i + cycles_same i) * (count i + 50)) 100000 && nat_le (written i + added i) 4000

  few_reports_same : are_reports_few v ≡ are_reports_few d
  few_reports_same =
      ap (λ n. nat_le n 10000)
      (ap (sum_by (λ a. length (list_in (codes "reports") a))) (answers_list d)
      ∙ sum_alike (λ a. length (list_in (codes "reports") a)) (answer_again d) (λ a. length (list_in (codes "reports") a)) answers
      (weaker (ValidAnswer d) (λ a. length (list_in (codes "reports") (answer_again d a)) ≡ length (list_in (codes "reports") a)) answers
      (λ a k. ap length (answers_same d a k).reports ∙ length_alike (report_again d) (list_in (codes "reports") a)) kept.answers))

  much_valid : too_much v ≡ None
  much_valid =
      ap₂ (λ x y. option_or (unless x (codes "actors")) (unless y (codes "answers"))) few_steps_same few_reports_same
      ∙ own.1.1.1.1.1.1.1.1.1.1.1.1.1.1.1.1.1.1.1.1.1.1.0

  -- ---- all rules

  pub unbroken_again : first_broken (again d) ≡ None
  unbroken_again =
      let behind = own.1.1.1.1.1.1.1.1.1.1.1 in
      none_broken rules v (
        valid_unless (has_only file_members v) (codes "top") (named file_members (machine_rows (whole_machine d)) refl refl),
        (
          valid_unless (has_version v) (codes "version") (ap (is_some_and (λ x. is_number 1 x || is_number 2 x)) (at (codes "version"))),
          (
            members_valid,
            (
              items_valid,
              (
                few_valid,
                (
                  spelled_valid,
                  (
                    ap (repeated (codes "devices")) (devices_named_same d kept) ∙ own.1.1.1.1.1.1.0,
                    (
                      orphan_valid,
                      (
                        loose_valid,
                        (
                          repeated_valid,
                          (
                            cyclic_valid,
                            (
                              ap₂ (λ x y. option_or (repeated (codes "syscore") x) (repeated (codes "notifiers") y)) (syscore_same d kept) (notifiers_named_same d kept) ∙ behind.0,
                              (
                                ap (λ ns. option_map (item_place (codes "sources")) (first_not_after (λ before name. not (is_among_names (codes "autosleep" ∷ before) name)) [] 0 ns)) (sources_same d kept) ∙ behind.1.0,
                                (
                                  ap (repeated (codes "actors")) (actors_named_same d kept) ∙ behind.1.1.0,
                                  (
                                    formed_valid,
                                    (
                                      allowed_valid,
                                      (
                                        or_none (sourceless_operation v) (sourceless_report v) source_valid (answer_pass (λ a. list_all (names_source (sources_named v)) (list_in (codes "reports") a)) reported),
                                        (
                                          device_valid,
                                          (
                                            answer_pass (names_thing v) thing_valid,
                                            (
                                              answer_pass (λ a. may_have (codes "ret") (is_ret_allowed a) a) (λ a k. (answers_same d a k).allowed),
                                              (
                                                answer_pass may_report report_valid,
                                                (once_valid, (much_valid, tt)),
                                              ),
                                            ),
                                          ),
                                        ),
                                      ),
                                    ),
                                  ),
                                ),
                              ),
                            ),
                          ),
                        ),
                      ),
                    ),
                  ),
                ),
              ),
            ),
          ),
        ),
      )
