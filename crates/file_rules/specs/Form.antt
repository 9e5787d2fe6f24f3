-- The form of values: their types, ranges and words. The operations of scripts have a module of their own.
use Rattle.std.specs.Prelude.{ℕ, List, [], ◌∷◌, codes, Bool, not, ◌&&◌, ◌||◌, map, Option, None, option_map}
use Rattle.std.specs.List.{list_all, find}
use Rattle.std.specs.Option.{option_or}
use Rattle.serde_json.specs.Data.{Data}
use Rattle.serde_json.specs.Find.{as_array}
use Rattle.sleep_base.specs.Errno.{name_of}
use Rattle.sleep_model.specs.Answers.{errors}
use Rattle.borrowed_json.specs.Look.{is_some_and, is_number, is_list, is_string, is_truth, is_within, is_bounded, is_one_of, has_only, must_have, may_have, has_text, items_of}
use Rattle.file_rules.specs.Members.{device_members, link_members, notifier_members, actor_members, answer_members, report_members}
use Rattle.file_rules.specs.Places.{first_item}
use Rattle.file_rules.specs.Rules.{is_second}

-- ---- single values

-- the words of a runtime status (enum rpm_status)
abbrev pub statuses : List (List ℕ)
statuses = codes "active" ∷ codes "suspended" ∷ []

-- a length of time in ms, at least so much and at most a day (own)
abbrev pub is_time : ℕ → Data → Bool
is_time least d = is_within least 86400000 d

-- ---- the items of the file's lists

-- a device has a name; its parent, its flags and its runtime status may be given (struct device, struct dev_pm_info)
abbrev pub is_device_form : Data → Bool
is_device_form d =
    has_only device_members d && must_have (codes "name") is_string d && may_have (codes "parent") is_string d && may_have (codes "async") is_truth d && may_have (codes "wakeup") is_truth d
    && may_have (codes "runtime") (is_one_of statuses) d

-- the words of a link's state (DL_STATE_ACTIVE, DL_STATE_DORMANT)
abbrev pub link_states : List (List ℕ)
link_states = codes "active" ∷ codes "dormant" ∷ []

-- a link has both ends; in a file of version 2 its state may be given (struct device_link)
abbrev pub is_link_form : Bool → Data → Bool
is_link_form second d =
    has_only (link_members second) d && must_have (codes "supplier") is_string d && must_have (codes "consumer") is_string d
    && may_have (codes "state") (is_one_of link_states) d

-- a notifier has a name; its priority, -1000 to 1000, may be given (struct notifier_block)
abbrev pub is_notifier_form : Data → Bool
is_notifier_form d = has_only notifier_members d && must_have (codes "name") is_string d && may_have (codes "priority") (is_bounded 1000) d

-- the words of an actor's kind: the flags PF_KTHREAD and PF_NOFREEZE, and an interrupt line (own)
abbrev pub kinds : List (List ℕ)
kinds = codes "user" ∷ codes "kthread" ∷ codes "nofreeze" ∷ codes "irq" ∷ []

-- an actor has a name and a kind; how often it makes its script, 1 to 1000 times, and the script may be given (own)
abbrev pub is_actor_form : Data → Bool
is_actor_form d =
    has_only actor_members d && must_have (codes "name") is_string d && must_have (codes "kind") (is_one_of kinds) d && may_have (codes "repeat") (is_within 1 1000) d
    && may_have (codes "script") is_list d

-- the words of things that answer (own)
abbrev pub answerers : List (List ℕ)
answerers = codes "device" ∷ codes "syscore" ∷ codes "notifier" ∷ codes "platform" ∷ []

-- the words of a device's phases (struct dev_pm_ops)
abbrev pub phases : List (List ℕ)
phases = codes "prepare" ∷ codes "suspend" ∷ codes "late" ∷ codes "noirq" ∷ codes "resume_noirq" ∷ codes "early" ∷ codes "resume" ∷ []

-- 0, 1 or an error's name (include/uapi/asm-generic/errno-base.h)
abbrev pub is_ret_form : Data → Bool
is_ret_form d = is_number 0 d || is_number 1 d || is_one_of (map name_of errors) d

-- a call that makes a source active or relaxes it has no length (pm_stay_awake, pm_relax)
abbrev pub is_plain_report : Data → Bool
is_plain_report d = has_only (codes "call" ∷ codes "source" ∷ []) d && must_have (codes "call") (is_one_of (codes "awake" ∷ codes "relax" ∷ [])) d

-- an event may have a length, and may be hard (pm_wakeup_dev_event)
abbrev pub is_event_report : Data → Bool
is_event_report d = has_only report_members d && has_text (codes "call") (codes "event") d && may_have (codes "ms") (is_time 0) d && may_have (codes "hard") is_truth d

-- a report names its call and its source (own)
abbrev pub is_report_form : Data → Bool
is_report_form d = must_have (codes "source") is_string d && (is_plain_report d || is_event_report d)

-- a list of reports, each in form
abbrev pub are_reports : Data → Bool
are_reports d = is_some_and (λ ds. list_all is_report_form (items_of ds)) (as_array d)

-- an answer says what answers, and its name; phase, attempt, answer and reports may be given (own)
abbrev pub is_answer_form : Data → Bool
is_answer_form d =
    has_only answer_members d && must_have (codes "what") (is_one_of answerers) d && must_have (codes "name") is_string d && may_have (codes "phase") (is_one_of phases) d
    && may_have (codes "attempt") (is_within 1 1000) d && may_have (codes "ret") is_ret_form d && may_have (codes "reports") are_reports d

-- ---- the file's members

-- a row of a table: a name, and what belongs to it
pub record Named (A : Type 0) : Type 0 where
  pub name : List ℕ
  pub is : A

-- such a row
abbrev pub row : {A : Type 0} → List ℕ → A → Named A
row name is = record { name = name; is = is }

-- the form of each member after the version: a number of its range, or a list (own)
abbrev pub member_forms : List (Named (Data → Bool))
member_forms =
    row (codes "alarm_ms") (is_time 1)
    ∷ row (codes "cpus") (is_within 1 64)
    ∷ row (codes "auto_cycles") (is_within 1 1000)
    ∷ row (codes "devices") is_list
    ∷ row (codes "links") is_list
    ∷ row (codes "syscore") is_list
    ∷ row (codes "notifiers") is_list
    ∷ row (codes "sources") is_list
    ∷ row (codes "actors") is_list
    ∷ row (codes "answers") is_list
    ∷ []

-- the form of each list's items, in a file of version 2 or of version 1 (own)
abbrev pub item_forms : Bool → List (Named (Data → Bool))
item_forms second =
    row (codes "devices") is_device_form
    ∷ row (codes "links") (is_link_form second)
    ∷ row (codes "syscore") is_string
    ∷ row (codes "notifiers") is_notifier_form
    ∷ row (codes "sources") is_string
    ∷ row (codes "actors") is_actor_form
    ∷ row (codes "answers") is_answer_form
    ∷ []

-- the first row's name that does not pass
abbrev pub first_row : {A : Type 0} → (Named A → Bool) → List (Named A) → Option (List ℕ)
first_row test rows = option_map (λ r. r.name) (find (λ r. not (test r)) rows)

-- the place of the first item that does not pass, over the lists of a table
abbrev pub first_in_lists : List (Named (Data → Bool)) → Data → Option (List ℕ)
first_in_lists [] file = None
first_in_lists (r ∷ rows) file = option_or (first_item r.name r.is file) (first_in_lists rows file)

-- the place of a member that has not its form
abbrev pub unformed_member : Data → Option (List ℕ)
unformed_member file = first_row (λ r. may_have r.name r.is file) member_forms

-- the place of an item that has not its form
abbrev pub unformed_item : Data → Option (List ℕ)
unformed_item file = first_in_lists (item_forms (is_second file)) file
