-- What is written for the machine of a file that breaks no rule spells that machine again.
use Rattle.std.proofs.Common.{◌≡◌, ◌∙◌, ℕ, List, [], ◌∷◌, map, codes, Bool, true, cond, bytes_eq, find, unwrap_or, refl, ap, ap₂}
use Rattle.serde_json.specs.Data.{Data, string}
use Rattle.serde_json.specs.Find.{get}
use Rattle.sleep_model.specs.Text.{down_word}
use Rattle.sleep_model.specs.declared.machine.What.{What}
use Rattle.sleep_model.specs.declared.machine.What.TheVariants as what
use Rattle.borrowed_json.specs.Look.{text_of, has_text, list_in, number_at}
use Rattle.file_rules.specs.Names.{names_of_link, own_name, devices_named, sources_named, names_in, texts_in}
use Rattle.file_rules.specs.Form.{is_notifier_form}
use Rattle.file_rules.specs.Rules.{name_of}
use Rattle.file_rules.specs.Spelled.{index_among, link_of}
use Rattle.file_rules.specs.Devices.{has_ends, whole_device, whole_devices, whole_links}
use Rattle.file_rules.specs.Operations.{known_of, whole_step, whole_script, whole_marks, whole_scripts, marks_of, first_occurrences}
use Rattle.file_rules.specs.Answering.{names_of_kind, platform_steps, answering_phases, thing_of, whole_report, whole_answer, whole_answers}
use Rattle.file_rules.specs.Whole.{whole_machine, whole_notifier}
use Rattle.machine_file.specs.Spelling.{machine_rows, machine_value, device_value, link_value, notifier_value, script_value, answer_value}
use Rattle.file_read_back.proofs.Rows.{at_name, list_found}
use Rattle.file_read_back.proofs.Numbers.{number_of, number_back}
use Rattle.file_read_back.proofs.Alike.{EachOf, weaker, mapped, seen_alike}
use Rattle.file_read_back.proofs.DevicesBack.{ValidDevice, device_again, same_device}
use Rattle.file_read_back.proofs.LinksBack.{link_again, same_link, notifier_again, same_notifier}
use Rattle.file_read_back.proofs.OperationsBack.{ValidOperation, op_again, same_op}
use Rattle.file_read_back.proofs.ScriptsBack.{ValidActor, actor_again, same_actor, all_marks}
use Rattle.file_read_back.proofs.ReportsBack.{SameReport, report_again}
use Rattle.file_read_back.proofs.AnswersBack.{ValidAnswer, answer_again, answers_same, same_text}
use Rattle.file_read_back.proofs.FileValid.{ValidFile}

-- a text, written again
abbrev pub text_again : Data → Data
text_again o = string (text_of o)

module _ (d : Data) where
  -- the file, written again
  abbrev pub again : Data
  again = machine_value (whole_machine d)

  at : (name : List ℕ) → get name again ≡ Rattle.file_read_back.proofs.Rows.found (machine_rows (whole_machine d)) name
  at name = at_name (machine_rows (whole_machine d)) refl name

  -- ---- the lists

  pub devices_list : list_in (codes "devices") again ≡ map (device_again d) (list_in (codes "devices") d)
  devices_list =
      list_found (machine_rows (whole_machine d)) refl (codes "devices") (map (device_value (whole_machine d)) (whole_devices d)) refl
      ∙ mapped (device_value (whole_machine d)) (whole_device (devices_named d)) (list_in (codes "devices") d)

  pub links_list : list_in (codes "links") again ≡ map (link_again d) (list_in (codes "links") d)
  links_list =
      list_found (machine_rows (whole_machine d)) refl (codes "links") (map (link_value (whole_machine d)) (whole_links d)) refl
      ∙ mapped (link_value (whole_machine d)) (link_of (devices_named d)) (list_in (codes "links") d)

  pub syscore_list : list_in (codes "syscore") again ≡ map text_again (list_in (codes "syscore") d)
  syscore_list =
      list_found (machine_rows (whole_machine d)) refl (codes "syscore") (map string (texts_in (codes "syscore") d)) refl
      ∙ mapped string text_of (list_in (codes "syscore") d)

  pub notifiers_list : list_in (codes "notifiers") again ≡ map notifier_again (list_in (codes "notifiers") d)
  notifiers_list =
      list_found (machine_rows (whole_machine d)) refl (codes "notifiers") (map notifier_value (map whole_notifier (list_in (codes "notifiers") d))) refl
      ∙ mapped notifier_value whole_notifier (list_in (codes "notifiers") d)

  pub sources_list : list_in (codes "sources") again ≡ map text_again (list_in (codes "sources") d)
  sources_list =
      list_found (machine_rows (whole_machine d)) refl (codes "sources") (map string (sources_named d)) refl
      ∙ mapped string text_of (list_in (codes "sources") d)

  pub actors_list : list_in (codes "actors") again ≡ map (actor_again d) (list_in (codes "actors") d)
  actors_list =
      list_found (machine_rows (whole_machine d)) refl (codes "actors") (map (script_value (whole_machine d)) (whole_scripts d)) refl
      ∙ mapped (script_value (whole_machine d)) (whole_script (known_of d)) (list_in (codes "actors") d)

  pub answers_list : list_in (codes "answers") again ≡ map (answer_again d) (list_in (codes "answers") d)
  answers_list =
      list_found (machine_rows (whole_machine d)) refl (codes "answers") (map (answer_value (whole_machine d)) (whole_answers d)) refl
      ∙ mapped (answer_value (whole_machine d)) (whole_answer d) (list_in (codes "answers") d)

  each_text : (os : List Data) → EachOf (λ o. text_of (text_again o) ≡ text_of o) os
  each_text [] = tt
  each_text (o ∷ os) = (refl, each_text os)

  pub texts_same : (name : List ℕ) → list_in name again ≡ map text_again (list_in name d) → texts_in name again ≡ texts_in name d
  texts_same name e = ap (map text_of) e ∙ seen_alike text_of text_again text_of (list_in name d) (each_text (list_in name d))

  module _ (kept : ValidFile d) where
    -- ---- the names

    pub devices_named_same : devices_named again ≡ devices_named d
    devices_named_same =
        ap (map name_of) devices_list
        ∙ seen_alike name_of (device_again d) name_of (list_in (codes "devices") d)
        (weaker (ValidDevice d) (λ o. name_of (device_again d o) ≡ name_of o) (list_in (codes "devices") d) (λ o k. (same_device d o k).name) kept.devices)

    pub notifiers_named_same : names_in (codes "notifiers") again ≡ names_in (codes "notifiers") d
    notifiers_named_same =
        ap (map name_of) notifiers_list
        ∙ seen_alike name_of notifier_again name_of (list_in (codes "notifiers") d)
        (weaker (λ o. (is_notifier_form o ≡ true) × (own_name o ≡ true)) (λ o. name_of (notifier_again o) ≡ name_of o) (list_in (codes "notifiers") d) (λ o k. (same_notifier o k.0 k.1).name) kept.notifiers)

    pub actors_named_same : names_in (codes "actors") again ≡ names_in (codes "actors") d
    actors_named_same =
        ap (map name_of) actors_list
        ∙ seen_alike name_of (actor_again d) name_of (list_in (codes "actors") d)
        (weaker (ValidActor d) (λ a. name_of (actor_again d a) ≡ name_of a) (list_in (codes "actors") d) (λ a k. (same_actor d a k.form k.names).name) kept.actors)

    pub sources_same : sources_named again ≡ sources_named d
    sources_same = texts_same (codes "sources") sources_list

    pub syscore_same : texts_in (codes "syscore") again ≡ texts_in (codes "syscore") d
    syscore_same = texts_same (codes "syscore") syscore_list

    pub marks_same : whole_marks again ≡ whole_marks d
    marks_same =
        ap (λ actors. first_occurrences [] (Rattle.std.specs.List.flat_map (λ a. marks_of (list_in (codes "script") a)) actors)) actors_list
        ∙ ap (first_occurrences []) (all_marks d (list_in (codes "actors") d) kept.actors)

    pub known_same : known_of again ≡ known_of d
    known_same = λ i. record { devices = devices_named_same i; sources = sources_same i; marks = marks_same i }

    -- ---- the lists of a machine

    pub device_same : (o : Data) → ValidDevice d o → whole_device (devices_named d) (device_again d o) ≡ whole_device (devices_named d) o
    device_same o k =
        let s = same_device d o k in
        λ i. record { name = s.name i; parent = Rattle.std.specs.Prelude.option_and_then (λ t. Rattle.std.specs.Prelude.position (bytes_eq t) (devices_named d)) (s.parent i); flags = s.flags i }

    pub whole_devices_same : whole_devices again ≡ whole_devices d
    whole_devices_same =
        ap₂ (λ names os. map (whole_device names) os) devices_named_same devices_list
        ∙ seen_alike (whole_device (devices_named d)) (device_again d) (whole_device (devices_named d)) (list_in (codes "devices") d)
        (weaker (ValidDevice d) (λ o. whole_device (devices_named d) (device_again d o) ≡ whole_device (devices_named d) o) (list_in (codes "devices") d) device_same kept.devices)

    pub link_same : (o : Data) → (names_of_link o ≡ true) × (has_ends (devices_named d) o ≡ true) → link_of (devices_named d) (link_again d o) ≡ link_of (devices_named d) o
    link_same o k =
        let s = same_link d o k.0 k.1 in
        λ i. record { supplier = index_among (devices_named d) (s.supplier i); consumer = index_among (devices_named d) (s.consumer i); active = s.active i }

    pub whole_links_same : whole_links again ≡ whole_links d
    whole_links_same =
        ap₂ (λ names os. map (link_of names) os) devices_named_same links_list
        ∙ seen_alike (link_of (devices_named d)) (link_again d) (link_of (devices_named d)) (list_in (codes "links") d)
        (weaker (λ o. (names_of_link o ≡ true) × (has_ends (devices_named d) o ≡ true)) (λ o. link_of (devices_named d) (link_again d o) ≡ link_of (devices_named d) o) (list_in (codes "links") d) link_same kept.links)

    notifier_same : (o : Data) → (is_notifier_form o ≡ true) × (own_name o ≡ true) → whole_notifier (notifier_again o) ≡ whole_notifier o
    notifier_same o k = let s = same_notifier o k.0 k.1 in λ i. record { name = s.name i; priority = s.priority i }

    whole_notifiers_same : map whole_notifier (list_in (codes "notifiers") again) ≡ map whole_notifier (list_in (codes "notifiers") d)
    whole_notifiers_same =
        ap (map whole_notifier) notifiers_list
        ∙ seen_alike whole_notifier notifier_again whole_notifier (list_in (codes "notifiers") d)
        (weaker (λ o. (is_notifier_form o ≡ true) × (own_name o ≡ true)) (λ o. whole_notifier (notifier_again o) ≡ whole_notifier o) (list_in (codes "notifiers") d) notifier_same kept.notifiers)

    step_same : (o : Data) → ValidOperation d o → whole_step (known_of d) (op_again d o) ≡ whole_step (known_of d) o
    step_same o k = let s = same_op d o k in λ i. record { op = s.spelled i; times = s.times i }

    steps_same : (os : List Data) → EachOf (ValidOperation d) os → map (whole_step (known_of d)) (map (op_again d) os) ≡ map (whole_step (known_of d)) os
    steps_same os h =
        seen_alike (whole_step (known_of d)) (op_again d) (whole_step (known_of d)) os (weaker (ValidOperation d) (λ o. whole_step (known_of d) (op_again d o) ≡ whole_step (known_of d) o) os step_same h)

    script_same : (a : Data) → ValidActor d a → whole_script (known_of d) (actor_again d a) ≡ whole_script (known_of d) a
    script_same a k =
        let s = same_actor d a k.form k.names in
        let steps = ap (map (whole_step (known_of d))) s.script ∙ steps_same (list_in (codes "script") a) k.ops in
        λ i. record { name = s.name i; kind = s.kind i; repeat = s.repeat i; steps = steps i }

    whole_scripts_same : whole_scripts again ≡ whole_scripts d
    whole_scripts_same =
        ap₂ (λ known os. map (whole_script known) os) known_same actors_list
        ∙ seen_alike (whole_script (known_of d)) (actor_again d) (whole_script (known_of d)) (list_in (codes "actors") d)
        (weaker (ValidActor d) (λ a. whole_script (known_of d) (actor_again d a) ≡ whole_script (known_of d) a) (list_in (codes "actors") d) script_same kept.actors)

    -- ---- answers

    abbrev kind_names : Data → Bool → Bool → Bool → List (List ℕ)
    kind_names file v s n = cond v (devices_named file) (cond s (texts_in (codes "syscore") file) (cond n (names_in (codes "notifiers") file) (map down_word platform_steps)))

    abbrev thing_by : List (List ℕ) → List ℕ → Bool → Bool → Bool → (List ℕ → Bool) → (List ℕ → Bool) → What
    thing_by names name v s n has_phase has_name =
        let place = index_among names name in
        cond v (what.Device place (unwrap_or (find (λ p. has_phase (Rattle.phase_table.specs.Phases.phase_name p)) answering_phases) Rattle.phase_table.specs.declared.phase.Phase.TheVariants.Prepare))
        (cond s (what.Syscore place) (cond n (what.Notifier place) (what.Platform (unwrap_or (find (λ p. has_name (down_word p)) platform_steps) Rattle.sleep_model.specs.declared.machine.PlatDo.TheVariants.Begin))))

    module _ (a : Data) (k : ValidAnswer d a) where
      says_same : (x : List ℕ) → has_text (codes "what") x (answer_again d a) ≡ has_text (codes "what") x a
      says_same x = same_text (codes "what") x (answer_again d a) a (answers_same d a k).word

      pub name_same : name_of (answer_again d a) ≡ name_of a
      name_same = ap (λ w. unwrap_or w []) (answers_same d a k).name

      pub kinds_same : names_of_kind again (answer_again d a) ≡ names_of_kind d a
      kinds_same = λ i. cond (says_same (codes "device") i) (devices_named_same i) (cond (says_same (codes "syscore") i) (syscore_same i) (cond (says_same (codes "notifier") i) (notifiers_named_same i) (map down_word platform_steps)))

      thing_same : thing_of again (answer_again d a) ≡ thing_of d a
      thing_same = λ i. thing_by (kinds_same i) (name_same i) (says_same (codes "device") i) (says_same (codes "syscore") i) (says_same (codes "notifier") i)
          (λ x. same_text (codes "phase") x (answer_again d a) a (answers_same d a k).phase i) (λ x. same_text (codes "name") x (answer_again d a) a (answers_same d a k).name i)

      each_call : (rs : List Data) → EachOf (SameReport d) rs → EachOf (λ r. whole_report (sources_named d) (report_again d r) ≡ whole_report (sources_named d) r) rs
      each_call rs h =
          weaker (SameReport d) (λ r. whole_report (sources_named d) (report_again d r) ≡ whole_report (sources_named d) r) rs
          (λ r s i. record { source = index_among (sources_named d) (unwrap_or (s.source i) []); call = s.call i }) h

      reports_same : map (whole_report (sources_named again)) (list_in (codes "reports") (answer_again d a)) ≡ map (whole_report (sources_named d)) (list_in (codes "reports") a)
      reports_same =
          ap₂ (λ names os. map (whole_report names) os) sources_same (answers_same d a k).reports
          ∙ seen_alike (whole_report (sources_named d)) (report_again d) (whole_report (sources_named d)) (list_in (codes "reports") a) (each_call (list_in (codes "reports") a) (answers_same d a k).each)

      pub answer_same : whole_answer again (answer_again d a) ≡ whole_answer d a
      answer_same = λ i. record { what = thing_same i; attempt = (answers_same d a k).attempt i; ret = (answers_same d a k).ret i; reports = reports_same i }

    whole_answers_same : whole_answers again ≡ whole_answers d
    whole_answers_same =
        ap (map (whole_answer again)) answers_list
        ∙ seen_alike (whole_answer again) (answer_again d) (whole_answer d) (list_in (codes "answers") d)
        (weaker (ValidAnswer d) (λ a. whole_answer again (answer_again d a) ≡ whole_answer d a) (list_in (codes "answers") d) answer_same kept.answers)

    -- ---- the machine

    pub machine_same : whole_machine again ≡ whole_machine d
    machine_same =
        let alarm = ap (λ r. unwrap_or (number_of r) 1000) (at (codes "alarm_ms")) ∙ number_back 1000 (unwrap_or (number_at (codes "alarm_ms") d) 1000) in
        let cpus = ap (λ r. unwrap_or (number_of r) 1) (at (codes "cpus")) ∙ number_back 1 (unwrap_or (number_at (codes "cpus") d) 1) in
        let cycles = ap (λ r. unwrap_or (number_of r) 16) (at (codes "auto_cycles")) ∙ number_back 16 (unwrap_or (number_at (codes "auto_cycles") d) 16) in
        λ i. record {
          alarm_ms = alarm i;
          cpus = cpus i;
          auto_cycles = cycles i;
          devices = whole_devices_same i;
          links = whole_links_same i;
          syscore = syscore_same i;
          notifiers = whole_notifiers_same i;
          sources = sources_same i;
          marks = marks_same i;
          actors = whole_scripts_same i;
          answers = whole_answers_same i;
        }
