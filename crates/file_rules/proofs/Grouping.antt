-- The order of the rules, by groups.
use Rattle.std.proofs.Common.{◌≡◌, ◌≤◌, ◌∙◌, ℕ, Bor, Bool, true, false, not, cond, nat_le, List, [], ◌∷◌, ◌++◌, length, drop, codes, find, Option, Some, None, refl, sym, ap, arith}
use Rattle.std.specs.Option.{option_or, option_map}
use Rattle.serde_json.specs.Data.{Data}
use Rattle.file_rules.specs.Whole.{Rule, rule, first_of, first_broken, broken_at}
use Rattle.file_rules.specs.Groups.{form_rules, device_rules, end_rules, thing_rules, operation_rules, answer_rules, last_rules}
use Rattle.borrowed_json.specs.Look.{list_in, text_of, has_only}
use Rattle.file_rules.specs.Members.{file_members}
use Rattle.file_rules.specs.Devices.{cyclic_link, closes_no_cycle, orphan, loose_link, repeated_link}
use Rattle.file_rules.specs.Joined.{AreJoined}
use Rattle.file_rules.specs.ValidFiles.{broken_form, broken_devices, broken_ends, broken_cycle, broken_behaviour, broken_rest, first_in_order}
use Rattle.file_rules.specs.declared.names.known.Known.{Known}
use Rattle.file_rules.specs.Knows.{Knows, AreFew, names, texts}
use Rattle.file_rules.specs.Form.{Named, row, first_row, unformed_member, unformed_item}
use Rattle.file_rules.specs.Limits.{too_many, most_items}
use Rattle.file_rules.specs.Rules.{name_of, has_version}
use Rattle.file_rules.specs.Names.{repeated_device}
use Rattle.file_rules.specs.Places.{unless, item_place, first_not_after}
use Rattle.std.proofs.lemmas.Bool.{leb-true}
use Rattle.std.proofs.lemmas.List.{length-map}

or_group : {A : Type 0} (a b c : Option A) → option_or (option_or a b) c ≡ option_or a (option_or b c)
or_group None b c = refl
or_group (Some x) b c = refl

-- rules after others
split : (xs ys : List Rule) (d : Data) → first_of (xs ++ ys) d ≡ option_or (first_of xs d) (first_of ys d)
split [] ys d = refl
split (r ∷ xs) ys d =
    ap (option_or (option_map (broken_at r.number) (r.broken d))) (split xs ys d)
    ∙ sym (or_group (option_map (broken_at r.number) (r.broken d)) (first_of xs d) (first_of ys d))

-- the order of the groups is that of the rules
pub in_order : (d : Data) → first_in_order d ≡ first_broken d
unfolding broken_form broken_devices broken_ends broken_cycle broken_behaviour broken_rest
in_order d =
    sym (split form_rules (device_rules ++ (end_rules ++ (rule 12 cyclic_link ∷ [] ++ (thing_rules ++ (operation_rules ++ (answer_rules ++ last_rules)))))) d
    ∙ ap (option_or (first_of form_rules d)) (split device_rules (end_rules ++ (rule 12 cyclic_link ∷ [] ++ (thing_rules ++ (operation_rules ++ (answer_rules ++ last_rules))))) d
    ∙ ap (option_or (first_of device_rules d)) (split end_rules (rule 12 cyclic_link ∷ [] ++ (thing_rules ++ (operation_rules ++ (answer_rules ++ last_rules)))) d
    ∙ ap (option_or (first_of end_rules d)) (ap (option_or (option_map (broken_at 12) (cyclic_link d)))
    (split thing_rules (operation_rules ++ (answer_rules ++ last_rules)) d ∙ ap (option_or (first_of thing_rules d)) (split operation_rules (answer_rules ++ last_rules) d
    ∙ ap (option_or (first_of operation_rules d)) (split answer_rules last_rules d) ∙ sym (or_group (first_of operation_rules d) (first_of answer_rules d) (first_of last_rules d)))
    ∙ sym (or_group (first_of thing_rules d) (option_or (first_of operation_rules d) (first_of answer_rules d)) (first_of last_rules d)))))))

pub or_none : {A : Type 0} (a b : Option A) → option_or a b ≡ None → (a ≡ None) × (b ≡ None)
or_none None b e = (refl, e)
or_none (Some x) b e = cc

pub none_left : {A B : Type 0} (f : A → B) (o : Option A) → option_map f o ≡ None → o ≡ None
none_left f None e = refl
none_left f (Some x) e = cc

valid_rule : (r : Rule) (rs : List Rule) (d : Data) → first_of (r ∷ rs) d ≡ None → (r.broken d ≡ None) × (first_of rs d ≡ None)
valid_rule r rs d e = let both = or_none (option_map (broken_at r.number) (r.broken d)) (first_of rs d) e in (none_left (broken_at r.number) (r.broken d) both.0, both.1)

-- the lists are few if the file obeys the rule on their numbers
valid_row : {A : Type 0} (test : Named A → Bool) (r : Named A) (rs : List (Named A)) → first_row test (r ∷ rs) ≡ None → (test r ≡ true) × (first_row test rs ≡ None)
valid_row test r rs e = by (test r) e
  where
    by : (b : Bool) → option_map (λ x. x.name) (cond (not b) (Some r) (find (λ x. not (test x)) rs)) ≡ None → (b ≡ true) × (first_row test rs ≡ None)
    by true h = (refl, h)
    by false h = cc

unfold_form : (d : Data) → broken_form d ≡ None → first_of form_rules d ≡ None
unfolding broken_form
unfold_form d e = e

unfold_devices : (d : Data) → broken_devices d ≡ None → first_of device_rules d ≡ None
unfolding broken_devices
unfold_devices d e = e

unfold_ends : (d : Data) → broken_ends d ≡ None → first_of end_rules d ≡ None
unfolding broken_ends
unfold_ends d e = e

pub record FewItems (d : Data) : Type 0 where
  pub devices : length (list_in (codes "devices") d) ≤ 1000
  pub links : length (list_in (codes "links") d) ≤ 4000
  pub syscore : length (list_in (codes "syscore") d) ≤ 32
  pub notifiers : length (list_in (codes "notifiers") d) ≤ 32
  pub sources : length (list_in (codes "sources") d) ≤ 255

pub few_items : (d : Data) → too_many d ≡ None → FewItems d
few_items d e =
    let fits = λ (r : Named ℕ). nat_le (length (list_in r.name d)) r.is in
    let one = valid_row fits (row (codes "devices") 1000) (drop 1 most_items) e in
    let two = valid_row fits (row (codes "links") 4000) (drop 2 most_items) one.1 in
    let three = valid_row fits (row (codes "syscore") 32) (drop 3 most_items) two.1 in
    let four = valid_row fits (row (codes "notifiers") 32) (drop 4 most_items) three.1 in
    let five = valid_row fits (row (codes "sources") 255) (drop 5 most_items) four.1 in
    record { devices = leb-true _ _ one.0; links = leb-true _ _ two.0; syscore = leb-true _ _ three.0; notifiers = leb-true _ _ four.0; sources = leb-true _ _ five.0 }

pub few_in : (d : Data) → broken_form d ≡ None → FewItems d
few_in d e =
    let two = valid_rule (rule 2 (λ v. unless (has_only file_members v) (codes "top"))) (drop 1 form_rules) d (unfold_form d e) in
    let three = valid_rule (rule 3 (λ v. unless (has_version v) (codes "version"))) (drop 2 form_rules) d two.1 in
    let four = valid_rule (rule 4 unformed_member) (drop 3 form_rules) d three.1 in
    let five = valid_rule (rule 5 unformed_item) (drop 4 form_rules) d four.1 in
    let six = valid_rule (rule 6 too_many) (drop 5 form_rules) d five.1 in
    few_items d six.0

pub joined_groups : (d : Data) → broken_form d ≡ None → broken_devices d ≡ None → broken_ends d ≡ None → AreJoined d
joined_groups d e h i =
    let few = few_in d e in
    let eight = valid_rule (rule 8 repeated_device) (drop 1 device_rules) d (unfold_devices d h) in
    let nine = valid_rule (rule 9 orphan) [] d eight.1 in
    let ten = valid_rule (rule 10 loose_link) (drop 1 end_rules) d (unfold_ends d i) in
    let eleven = valid_rule (rule 11 repeated_link) [] d ten.1 in
    record { few_devices = few.devices; few_links = few.links; parents = nine.0; ends = ten.0; again = eleven.0 }

-- the names that are known are few
pub few_known : (k : Known) (d : Data) → Knows k d → broken_form d ≡ None → AreFew k
few_known k d h e =
    let few = few_in d e in
    record {
      devices = let n = length-map k.devices (λ x. x.name) in let m = ap length h.devices in let s = length-map (list_in (codes "devices") d) name_of in let f = few.devices in omega arith;
      syscore = count k.syscore _ _ 1000 h.syscore (length-map (list_in (codes "syscore") d) text_of) (let f = few.syscore in omega arith);
      notifiers = count k.notifiers _ _ 1000 h.notifiers (length-map (list_in (codes "notifiers") d) name_of) (let f = few.notifiers in omega arith);
      sources = count k.sources _ _ 1000 h.sources (length-map (list_in (codes "sources") d) text_of) (let f = few.sources in omega arith);
    }
  where
    count : (names : List (Bor (List ℕ))) (those : List (List ℕ)) (n most : ℕ) → texts names ≡ those → length those ≡ n → n ≤ most → length names ≤ most
    count names those n most e f h = let g : length (texts names) ≡ length names = length-map names (λ s. s.now) in let i : length (texts names) ≡ length those = ap length e in omega arith

-- no link closes a cycle if the file obeys the rule on them
pub no_cycle : (d : Data) → broken_cycle d ≡ None → first_not_after (closes_no_cycle d) [] 0 (list_in (codes "links") d) ≡ None
unfolding broken_cycle
no_cycle d e = none_left (item_place (codes "links")) _ (none_left (broken_at 12) (cyclic_link d) e)
