-- What a value that breaks no rule spells is a machine that a file may spell.
use Rattle.std.proofs.Common.{◌≡◌, ◌≤◌, ◌+◌, ◌∙◌, ◌&&◌, ℕ, suc, Bool, true, false, cond, nat_le, List, [], ◌∷◌, length, map, codes, Option, Some, None, unwrap_or, option_map, option_and_then, refl, sym, ap, subst, arith}
use Rattle.std.proofs.lemmas.Bool.{and_parts, leb-true, true≢false}
use Rattle.std.specs.Option.{option_or}
use Rattle.serde_json.specs.Data.{Data}
use Rattle.serde_json.specs.Find.{get, as_number, as_u64}
use Rattle.sleep_model.specs.Accepted.{IsAccepted}
use Rattle.sleep_model.specs.Places.{link_steps}
use Rattle.borrowed_json.specs.Look.{is_some_and, is_none_or, text_of, may_have, list_in, is_within}
use Rattle.file_rules.specs.Form.{Named, first_row, member_forms}
use Rattle.file_rules.specs.Limits.{most_items}
use Rattle.file_rules.specs.Answering.{sourceless_report, whole_answer}
use Rattle.file_rules.specs.Devices.{whole_device}
use Rattle.file_rules.specs.Names.{devices_named}
use Rattle.file_rules.specs.Operations.{sourceless_operation, known_of, whole_script}
use Rattle.file_rules.specs.Spelled.{link_of}
use Rattle.file_rules.specs.Whole.{Rule, rules, first_of, first_broken, broken_at, whole_machine, whole_notifier}
use Rattle.file_rules.proofs.AnswersValid.{answers_valid}
use Rattle.file_rules.proofs.LinksValid.{links_valid}
use Rattle.file_rules.proofs.ScriptsValid.{scripts_valid, steps_valid, links_few}

-- ---- no rule is broken

none_or : {A : Type 0} (one other : Option A) → option_or one other ≡ None → (one ≡ None) × (other ≡ None)
none_or None other h = (refl, h)
none_or (Some x) other h = absurd (let e : Some x ≡ None = h in cc)

none_mapped : {A B : Type 0} (f : A → B) (one : Option A) → option_map f one ≡ None → one ≡ None
none_mapped f None h = refl
none_mapped f (Some x) h = absurd (let e : Some (f x) ≡ None = h in cc)

-- none of these rules is broken
abbrev pub KeepsAll : List Rule → Data → Type 0
KeepsAll [] d = Unit {0}
KeepsAll (r ∷ rest) d = (r.broken d ≡ None) × KeepsAll rest d

pub keeps_all : (rs : List Rule) (d : Data) → first_of rs d ≡ None → KeepsAll rs d
keeps_all [] d h = tt
keeps_all (r ∷ rest) d h =
    let both = none_or (option_map (broken_at r.number) (r.broken d)) (first_of rest d) h in (none_mapped (broken_at r.number) (r.broken d) both.0, keeps_all rest d both.1)

-- ---- rows of tables

-- each row passes
abbrev pub AllPass : {A : Type 0} → (Named A → Bool) → List (Named A) → Type 0
AllPass test [] = Unit {0}
AllPass test (r ∷ rest) = (test r ≡ true) × AllPass test rest

found_cons : {A : Type 0} (test : Named A → Bool) (r : Named A) (rest : List (Named A)) (b : Bool) → test r ≡ b → first_row test (r ∷ rest) ≡ cond b (first_row test rest) (Some r.name)
found_cons test r rest true e = rw e refl
found_cons test r rest false e = rw e refl

row_case : {A : Type 0} (test : Named A → Bool) (r : Named A) (rest : List (Named A)) (b : Bool) → test r ≡ b → first_row test (r ∷ rest) ≡ None → (test r ≡ true) × (first_row test rest ≡ None)
row_case test r rest true e h = (e, sym (found_cons test r rest true e) ∙ h)
row_case test r rest false e h = absurd (let f : Some r.name ≡ None = sym (found_cons test r rest false e) ∙ h in cc)

pub all_pass : {A : Type 0} (test : Named A → Bool) (rows : List (Named A)) → first_row test rows ≡ None → AllPass test rows
all_pass test [] h = tt
all_pass test (r ∷ rest) h = let both = row_case test r rest (test r) refl h in (both.0, all_pass test rest both.1)

-- ---- numbers

within_parts : (least most : ℕ) (o : Option ℕ) (dflt : ℕ) → is_some_and (λ n. nat_le least n && nat_le n most) o ≡ true → (least ≤ unwrap_or o dflt) × (unwrap_or o dflt ≤ most)
within_parts least most None dflt h = absurd (true≢false (sym h))
within_parts least most (Some n) dflt h = let both = and_parts _ _ h in (leb-true _ _ both.0, leb-true _ _ both.1)

-- a number that is left out or of its range
number_valid : (least most dflt : ℕ) (o : Option Data) → is_none_or (is_within least most) o ≡ true → least ≤ dflt → dflt ≤ most
    → (least ≤ unwrap_or (option_and_then as_u64 (option_and_then as_number o)) dflt) × (unwrap_or (option_and_then as_u64 (option_and_then as_number o)) dflt ≤ most)
number_valid least most dflt None h a b = (a, b)
number_valid least most dflt (Some d) h a b = within_parts least most (option_and_then as_u64 (as_number d)) dflt h

length-mapped : {A : Type 0} (f : Data → A) (ds : List Data) → length (map f ds) ≡ length ds
length-mapped f [] = refl
length-mapped f (x ∷ ds) = ap suc (length-mapped f ds)

few : {A : Type 0} (f : Data → A) (ds : List Data) (most : ℕ) → nat_le (length ds) most ≡ true → length (map f ds) ≤ most
few f ds most h = subst (λ n. n ≤ most) (sym (length-mapped f ds)) (leb-true _ _ h)

-- ---- the machine

-- what a value spells that breaks no rule is accepted
pub accepted : (d : Data) → first_broken d ≡ None → IsAccepted (whole_machine d)
accepted d h =
    let r = keeps_all rules d h in
    let unformed = r.1.1.0 in
    let items = r.1.1.1.0 in
    let many = r.1.1.1.1.0 in
    let device = r.1.1.1.1.1.1.0 in
    let orphans = r.1.1.1.1.1.1.1.0 in
    let loose = r.1.1.1.1.1.1.1.1.0 in
    let twice = r.1.1.1.1.1.1.1.1.1.0 in
    let cycle = r.1.1.1.1.1.1.1.1.1.1.0 in
    let names = r.1.1.1.1.1.1.1.1.1.1.1 in
    let operations = names.1.1.1 in
    let sources = none_or (sourceless_operation d) (sourceless_report d) operations.1.1.0 in
    let answers = operations.1.1.1.1 in
    let members = all_pass (λ (f : Named (Data → Bool)). may_have f.name f.is d) member_forms unformed in
    let counts = all_pass (λ (n : Named ℕ). nat_le (length (list_in n.name d)) n.is) most_items many in
    let alarm = number_valid 1 86400000 1000 (get (codes "alarm_ms") d) members.0 (omega arith) (omega arith) in
    let cpus = number_valid 1 64 1 (get (codes "cpus") d) members.1.0 (omega arith) (omega arith) in
    let cycles = number_valid 1 1000 16 (get (codes "auto_cycles") d) members.1.1.0 (omega arith) (omega arith) in
    let linked = links_valid d many orphans loose twice cycle in
    let steps = steps_valid d answers.1.1.1.1.0 in
    record {
      alarm_least = omega (arith, alarm.0);
      alarm_most = alarm.1;
      cpus_least = omega (arith, cpus.0);
      cpus_most = cpus.1;
      cycles_most = cycles.1;
      devices = few (whole_device (devices_named d)) (list_in (codes "devices") d) 1000 counts.0;
      parents = linked.0;
      few_links = subst (λ (n : ℕ). n + link_steps (whole_machine d).actors ≤ 4000) (sym (length-mapped (link_of (devices_named d)) (list_in (codes "links") d))) (links_few d answers.1.1.1.1.0);
      links = linked.1;
      syscore = few text_of (list_in (codes "syscore") d) 32 counts.1.1.0;
      notifiers = few whole_notifier (list_in (codes "notifiers") d) 32 counts.1.1.1.0;
      sources = few text_of (list_in (codes "sources") d) 255 counts.1.1.1.1.0;
      actors = few (whole_script (known_of d)) (list_in (codes "actors") d) 256 counts.1.1.1.1.1.0;
      scripts = scripts_valid d items operations.0 sources.0 operations.1.1.1.0;
      steps = steps.0;
      answers = answers_valid d items answers.0 answers.1.0 answers.1.1.0 sources.1;
      few_answers = few (whole_answer d) (list_in (codes "answers") d) 10000 counts.1.1.1.1.1.1.0;
      attempts = steps.1;
    }
