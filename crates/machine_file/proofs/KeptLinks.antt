-- Links that keep each rule on one link, and a file of which each link does.
use Rattle.std.proofs.Common.{◌≡◌, ◌∙◌, ◌&&◌, ℕ, Bool, true, false, List, [], ◌∷◌, Vec, Result, Ok, Err, IfErr, Option, Some, None, codes, bytes_eq, drop, is_none, is_some, map, option_and_then, position, refl, sym, ap, unwrap_or}
use Rattle.std.specs.List.{All, list_all}
use Rattle.std.specs.Option.{option_map, option_or}
use Rattle.std.specs.declared.alloc.Global.{Global}
use Rattle.std.proofs.lemmas.Bool.{and_from, and_parts, false≢true}
use Rattle.serde_json.specs.Data.{Data}
use Rattle.serde_json.specs.Find.{as_str, get}
use Rattle.sleep_model.specs.declared.machine.Link.{Link}
use Rattle.borrowed_json.specs.Look.{has_only, is_one_of, is_some_and, is_string, list_in, may_have, must_have, text_at, text_of}
use Rattle.machine_file.specs.declared.fault.Stop.{Stop}
use Rattle.machine_file.specs.declared.fault.Stop.TheVariants as stop
use Rattle.file_rules.specs.declared.names.known.Known.{Known}
use Rattle.file_rules.specs.Devices.{closes_no_cycle, cyclic_link, has_ends, loose_link, repeated_link, whole_links}
use Rattle.file_rules.specs.Fitting.{HasDevices}
use Rattle.file_rules.specs.Form.{Named, first_in_lists, is_link_form, item_forms, link_states}
use Rattle.file_rules.specs.Groups.{end_rules, form_rules}
use Rattle.file_rules.specs.Kept.{has_end, head_rules, is_valid_link, other_forms, other_names}
use Rattle.file_rules.specs.Knows.{Knows, names}
use Rattle.file_rules.specs.Members.{link_members}
use Rattle.file_rules.specs.Names.{devices_named, is_among_names, item_names, names_of_link, spells_name}
use Rattle.file_rules.specs.Operations.{thing_at}
use Rattle.file_rules.specs.Places.{first_item, first_not_after, item_place}
use Rattle.file_rules.specs.Rules.{is_second}
use Rattle.sleep_model.specs.NameBytes.{is_name}
use Rattle.file_rules.specs.Spelled.{index_among, link_of}
use Rattle.machine_file.specs.Stopping.{StopsUnless}
use Rattle.file_rules.specs.ValidFiles.{broken_cycle, broken_devices, broken_ends, broken_form, broken_head, broken_rest, first_in_order, keeps_rules}
use Rattle.file_rules.specs.Whole.{Broken, Rule, broken_at, first_of}
use Rattle.file_rules.proofs.Accepted.{KeepsAll, keeps_all}
use Rattle.file_rules.proofs.FittedFile.{short_devices}
use Rattle.file_rules.proofs.Grouping.{few_items, no_cycle, or_none}
use Rattle.machine_file.proofs.Keeping.{both_tests, none_in_script}
use Rattle.machine_file.proofs.KeptAnswers.{weaker}
use Rattle.file_rules.proofs.Placing.{some_position}
use Rattle.file_rules.proofs.ScriptsValid.{EachList, each_item, each_list}

-- ---- the order of the rules

-- no rule of any group is broken
pub record KeepsGroups (d : Data) : Type 0 where
  pub form : broken_form d ≡ None
  pub devices : broken_devices d ≡ None
  pub ends : broken_ends d ≡ None
  pub cycle : broken_cycle d ≡ None
  pub rest : broken_rest d ≡ None

groups : (d : Data) → first_in_order d ≡ None → KeepsGroups d
groups d e =
    let one = or_none (broken_form d) (option_or (broken_devices d) (option_or (broken_ends d) (option_or (broken_cycle d) (broken_rest d)))) e in
    let two = or_none (broken_devices d) (option_or (broken_ends d) (option_or (broken_cycle d) (broken_rest d))) one.1 in
    let three = or_none (broken_ends d) (option_or (broken_cycle d) (broken_rest d)) two.1 in
    let four = or_none (broken_cycle d) (broken_rest d) three.1 in
    record { form = one.0; devices = two.0; ends = three.0; cycle = four.0; rest = four.1 }

not_none : {A : Type 0} (o : Option A) → (o ≡ None → ⊥) → is_none o ≡ false
not_none None h = absurd (h refl)
not_none (Some x) h = refl

not_both : {A : Type 0} (o : Option A) (x : A) → o ≡ Some x → o ≡ None → ⊥
not_both None x e f = cc
not_both (Some y) x e f = cc

-- a file that breaks a rule does not keep them
broken_so : (d : Data) → (KeepsGroups d → ⊥) → keeps_rules d ≡ false
broken_so d h = not_none (first_in_order d) (λ e. h (groups d e))

pub devices_break : (d : Data) (b : Broken) → broken_devices d ≡ Some b → keeps_rules d ≡ false
devices_break d b e = broken_so d (λ k. not_both (broken_devices d) b e k.devices)

pub rest_breaks : (d : Data) (b : Broken) → broken_rest d ≡ Some b → keeps_rules d ≡ false
rest_breaks d b e = broken_so d (λ k. not_both (broken_rest d) b e k.rest)

pub again_breaks : (d : Data) (place : List ℕ) → repeated_link d ≡ Some place → keeps_rules d ≡ false
unfolding broken_ends
again_breaks d place e = broken_so d (λ k. not_both (repeated_link d) place e (keeps_all end_rules d k.ends).1.0)

pub cycle_breaks : (d : Data) (n : ℕ) → first_not_after (closes_no_cycle d) [] 0 (list_in (codes "links") d) ≡ Some n → keeps_rules d ≡ false
cycle_breaks d n e = broken_so d (λ k. not_both (first_not_after (closes_no_cycle d) [] 0 (list_in (codes "links") d)) n e (no_cycle d k.cycle))

-- ---- rules that none breaks

none_of_rules : (rs : List Rule) (d : Data) → KeepsAll rs d → first_of rs d ≡ None
none_of_rules [] d h = refl
none_of_rules (r ∷ rest) d h = ap (λ (o : Option (List ℕ)). option_or (option_map (broken_at r.number) o) (first_of rest d)) h.0 ∙ none_of_rules rest d h.1

lists_none : (d : Data) (rows : List (Named (Data → Bool))) → EachList d rows → first_in_lists rows d ≡ None
lists_none d [] h = refl
lists_none d (r ∷ rows) h = ap (λ (o : Option (List ℕ)). option_or o (first_in_lists rows d)) h.0 ∙ lists_none d rows h.1

item_none : (name : List ℕ) (test : Data → Bool) (d : Data) → list_all test (list_in name d) ≡ true → first_item name test d ≡ None
item_none name test d e = ap (option_map (item_place name)) (none_in_script test (list_in name d) e)

pub ends_none : (d : Data) → loose_link d ≡ None → repeated_link d ≡ None → broken_ends d ≡ None
unfolding broken_ends
ends_none d loose again = none_of_rules end_rules d (loose, (again, tt))

pub cycle_none : (d : Data) → first_not_after (closes_no_cycle d) [] 0 (list_in (codes "links") d) ≡ None → broken_cycle d ≡ None
unfolding broken_cycle
cycle_none d e = ap (λ (o : Option ℕ). option_map (broken_at 12) (option_map (item_place (codes "links")) o)) e

-- ---- one link

given : (o : Option Data) → is_some_and spells_name o ≡ true → is_some_and is_string o ≡ true
given None e = e
given (Some d) e = by (as_str d) e
  where
    by : (s : Option (List ℕ)) → is_some_and is_name s ≡ true → is_some s ≡ true
    by None h = h
    by (Some s) h = refl

module _ (second : Bool) (devices : List (List ℕ)) (l : Data) where
  abbrev only : Bool
  only = has_only (link_members second) l

  abbrev state : Bool
  state = may_have (codes "state") (is_one_of link_states) l

  link_parts : is_valid_link second devices l ≡ true → (is_link_form second l ≡ true) × ((names_of_link l ≡ true) × (has_ends devices l ≡ true))
  link_parts e =
      let last = and_parts (only && state && has_end (codes "supplier") devices l) (has_end (codes "consumer") devices l) e in
      let ends = and_parts (only && state) (has_end (codes "supplier") devices l) last.0 in
      let front = and_parts only state ends.0 in
      let supplier = and_parts (must_have (codes "supplier") spells_name l) (is_among_names devices (text_at (codes "supplier") l)) ends.1 in
      let consumer = and_parts (must_have (codes "consumer") spells_name l) (is_among_names devices (text_at (codes "consumer") l)) last.1 in (
        and_from (only && must_have (codes "supplier") is_string l && must_have (codes "consumer") is_string l) state
            (and_from (only && must_have (codes "supplier") is_string l) (must_have (codes "consumer") is_string l)
            (and_from only (must_have (codes "supplier") is_string l) front.0 (given (get (codes "supplier") l) supplier.0)) (given (get (codes "consumer") l) consumer.0))
            front.1,
        (
          and_from (must_have (codes "supplier") spells_name l) (must_have (codes "consumer") spells_name l) supplier.0 consumer.0,
          and_from (is_among_names devices (text_at (codes "supplier") l)) (is_among_names devices (text_at (codes "consumer") l)) supplier.1 consumer.1,
        ),
      )

  link_whole : (is_link_form second l && names_of_link l && has_ends devices l) ≡ true → is_valid_link second devices l ≡ true
  link_whole e =
      let both = and_parts (is_link_form second l && names_of_link l) (has_ends devices l) e in
      let formed = and_parts (is_link_form second l) (names_of_link l) both.0 in
      let form = and_parts (only && must_have (codes "supplier") is_string l && must_have (codes "consumer") is_string l) state formed.0 in
      let ends = and_parts (only && must_have (codes "supplier") is_string l) (must_have (codes "consumer") is_string l) form.0 in
      let front = and_parts only (must_have (codes "supplier") is_string l) ends.0 in
      let spelled = and_parts (must_have (codes "supplier") spells_name l) (must_have (codes "consumer") spells_name l) formed.1 in
      let there = and_parts (is_among_names devices (text_at (codes "supplier") l)) (is_among_names devices (text_at (codes "consumer") l)) both.1 in
      and_from (only && state && has_end (codes "supplier") devices l) (has_end (codes "consumer") devices l)
      (and_from (only && state) (has_end (codes "supplier") devices l) (and_from only state front.0 form.1)
      (and_from (must_have (codes "supplier") spells_name l) (is_among_names devices (text_at (codes "supplier") l)) spelled.0 there.0))
      (and_from (must_have (codes "consumer") spells_name l) (is_among_names devices (text_at (codes "consumer") l)) spelled.1 there.1)

-- ---- the form of a file

-- each link of a file keeps each rule on one link
abbrev pub keeps_links : Data → Bool
keeps_links d = list_all (is_valid_link (is_second d) (devices_named d)) (list_in (codes "links") d)

pub head_devices : (d : Data) → broken_head d ≡ None → HasDevices d
unfolding broken_head
head_devices d e =
    let r = keeps_all head_rules d e in
    let spelled : EachList d other_names = each_list d other_names r.1.1.1.1.1.0 in
    record { few = (few_items d r.1.1.1.1.0).devices; short = short_devices d spelled.0 }

pub form_devices : (d : Data) → broken_form d ≡ None → HasDevices d
unfolding broken_form
form_devices d e =
    let r = keeps_all form_rules d e in
    let spelled : EachList d item_names = each_list d item_names r.1.1.1.1.1.0 in
    record { few = (few_items d r.1.1.1.1.0).devices; short = short_devices d spelled.0 }

-- the rules on form are those of the head, and those on links
pub form_kept : (d : Data) → broken_head d ≡ None → keeps_links d ≡ true → broken_form d ≡ None
unfolding broken_form broken_head
form_kept d e links =
    let r = keeps_all head_rules d e in
    let forms : EachList d other_forms = each_list d other_forms r.1.1.1.0 in
    let spelled : EachList d other_names = each_list d other_names r.1.1.1.1.1.0 in
    let ls = list_in (codes "links") d in
    let formed = item_none (codes "links") (is_link_form (is_second d)) d
    (weaker (is_valid_link (is_second d) (devices_named d)) (is_link_form (is_second d)) (λ l h. (link_parts (is_second d) (devices_named d) l h).0) ls links) in
    let named = item_none (codes "links") names_of_link d
    (weaker (is_valid_link (is_second d) (devices_named d)) names_of_link (λ l h. (link_parts (is_second d) (devices_named d) l h).1.0) ls links) in
    none_of_rules form_rules d
    (r.0, (r.1.0, (r.1.1.0, (lists_none d (item_forms (is_second d)) (forms.0, (formed, forms.1)), (r.1.1.1.1.0, (lists_none d item_names (spelled.0, (named, spelled.1)), tt))))))

head_kept : (d : Data) → broken_form d ≡ None → broken_head d ≡ None
unfolding broken_form broken_head
head_kept d e =
    let r = keeps_all form_rules d e in
    let forms : EachList d (item_forms (is_second d)) = each_list d (item_forms (is_second d)) r.1.1.1.0 in
    let spelled : EachList d item_names = each_list d item_names r.1.1.1.1.1.0 in
    none_of_rules head_rules d
    (r.0, (r.1.0, (r.1.1.0, (lists_none d other_forms (forms.0, forms.1.1), (r.1.1.1.1.0, (lists_none d other_names (spelled.0, spelled.1.1), tt))))))

pub head_breaks : (d : Data) (b : Broken) → broken_head d ≡ Some b → keeps_rules d ≡ false
head_breaks d b e = broken_so d (λ k. not_both (broken_head d) b e (head_kept d k.form))

pub loose_kept : (d : Data) → keeps_links d ≡ true → loose_link d ≡ None
loose_kept d links =
    item_none (codes "links") (has_ends (devices_named d)) d
    (weaker (is_valid_link (is_second d) (devices_named d)) (has_ends (devices_named d)) (λ l h. (link_parts (is_second d) (devices_named d) l h).1.1) (list_in (codes "links") d) links)

links_formed : (d : Data) → broken_form d ≡ None → (list_all (is_link_form (is_second d)) (list_in (codes "links") d) ≡ true) × (list_all names_of_link (list_in (codes "links") d) ≡ true)
unfolding broken_form
links_formed d e =
    let r = keeps_all form_rules d e in
    let forms : EachList d (item_forms (is_second d)) = each_list d (item_forms (is_second d)) r.1.1.1.0 in
    let spelled : EachList d item_names = each_list d item_names r.1.1.1.1.1.0 in
    (each_item (codes "links") (is_link_form (is_second d)) d forms.1.0, each_item (codes "links") names_of_link d spelled.1.0)

links_tied : (d : Data) → broken_ends d ≡ None → list_all (has_ends (devices_named d)) (list_in (codes "links") d) ≡ true
unfolding broken_ends
links_tied d e = each_item (codes "links") (has_ends (devices_named d)) d (keeps_all end_rules d e).0

links_kept : (d : Data) → KeepsGroups d → keeps_links d ≡ true
links_kept d k =
    let ls = list_in (codes "links") d in
    let formed = links_formed d k.form in
    weaker (λ l. is_link_form (is_second d) l && names_of_link l && has_ends (devices_named d) l) (is_valid_link (is_second d) (devices_named d))
    (link_whole (is_second d) (devices_named d)) ls
    (both_tests (λ l. is_link_form (is_second d) l && names_of_link l) (has_ends (devices_named d)) ls
    (both_tests (is_link_form (is_second d)) names_of_link ls formed.0 formed.1) (links_tied d k.ends))

-- ---- what is read

-- what is read by what is known is tested by what the file names
pub links_known : (k : Known) (d : Data) (second : Bool) (ls : List Data) → Knows k d → second ≡ is_second d → ls ≡ list_in (codes "links") d
    → list_all (is_valid_link second (names k.devices)) ls ≡ keeps_links d
links_known k d second ls h s e =
    ap (λ (b : Bool). list_all (is_valid_link b (names k.devices)) ls) s ∙ ap (λ (ns : List (List ℕ)). list_all (is_valid_link (is_second d) ns) ls) h.devices
    ∙ ap (list_all (is_valid_link (is_second d) (devices_named d))) e

pub links_spelled : (k : Known) (d : Data) (ls : List Data) → Knows k d → ls ≡ list_in (codes "links") d → map (link_of (names k.devices)) ls ≡ whole_links d
links_spelled k d ls h e = ap (λ (ns : List (List ℕ)). map (link_of ns) ls) h.devices ∙ ap (map (link_of (devices_named d))) e

pub links_stop : (d : Data) (b : Bool) (r : Result (Vec Link Global) Stop) → b ≡ keeps_links d → IfErr r (StopsUnless b) → IfErr r (StopsUnless (keeps_rules d))
links_stop d b (Ok v) is h = tt
links_stop d b (Err stop.Broken) is h = broken_so d (λ k. false≢true (sym h ∙ is ∙ links_kept d k))
links_stop d b (Err stop.Mem) is h = tt

-- ---- an end

module _ (member : List ℕ) (devices : List (List ℕ)) (l v : Data) (at : get member l ≡ Some v) where
  text : text_at member l ≡ text_of v
  text = ap (λ (o : Option Data). unwrap_or (option_and_then as_str o) []) at

  among : is_among_names devices (text_at member l) ≡ is_some (position (bytes_eq (text_of v)) devices)
  among = ap (is_among_names devices) text ∙ sym (some_position (bytes_eq (text_of v)) devices)

  pub end_named : (n : ℕ) → spells_name v ≡ true → Some n ≡ position (bytes_eq (text_of v)) devices → (has_end member devices l ≡ true) × (n ≡ thing_at member devices l)
  end_named n spelled found = (
    and_from (must_have member spells_name l) (is_among_names devices (text_at member l)) (ap (is_some_and spells_name) at ∙ spelled) (among ∙ ap is_some (sym found)),
    sym (ap (index_among devices) text ∙ ap (λ (i : Option ℕ). unwrap_or i 0) (sym found)),
  )

  pub end_unnamed : None ≡ position (bytes_eq (text_of v)) devices → has_end member devices l ≡ false
  end_unnamed none = ap (λ b. must_have member spells_name l && b) (among ∙ ap is_some (sym none)) ∙ no_and (must_have member spells_name l)
    where
      no_and : (b : Bool) → (b && false) ≡ false
      no_and true = refl
      no_and false = refl
