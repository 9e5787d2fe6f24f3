-- What is judged at an entry, after those that were passed.
use Rattle.std.proofs.Common.{◌≡◌, ◌+◌, ◌++◌, ◌∙◌, ℕ, suc, true, List, [], ◌∷◌, length, reverse, take, drop, Option, Some, None, refl, sym, ap, ap₂, subst, arith, slice_get}
use Rattle.std.proofs.lemmas.List.{length-reverse, length-take-le}
use Rattle.std.proofs.lemmas.Option.{slice_get_within}
use Rattle.sleep_model.specs.declared.entry.Entry.{Entry}
use Rattle.sleep_model.specs.declared.log.Log.{Log}
use Rattle.sleep_model.specs.declared.machine.Machine.{Machine}
use Rattle.sleep_model.specs.Accepted.{IsAccepted}
use Rattle.sleep_model.specs.Fits.{IsWritable, fits_entry}
use Rattle.rule_definitions.specs.Entry.{KeepsEach, KeepsEntry}
use Rattle.rule_definitions.specs.Verdict.{AtEntry}
use Rattle.check_past.specs.JournalStates.{MayAdd, state_of}
use Rattle.check_past.specs.Passing.{Passage, journal_of, past_of}
use Rattle.check_rules.specs.Judging.{IsBroken}
use Rattle.log_check.specs.declared.ending.Verdict.{Verdict}
use Rattle.log_check.specs.declared.ending.Verdict.TheVariants.{Bad}
use Rattle.log_check.specs.Verdicts.{IsVerdict}
use Rattle.log_check.proofs.Adding.{may_add}
use Rattle.log_check.proofs.Walking.{all_passed, first_left, one_more, one_of_all, parted, then_left}

module _ (m : Machine) (log : Log) (p : Passage) (machine : p.machine ≡ m) (entries : p.entries ≡ log.entries) (kept : KeepsEach m (past_of p)) where
  -- if none is left
  pub whole : [] ≡ drop p.passed log.entries → past_of p ≡ reverse log.entries
  whole none = ap (λ (xs : List Entry). reverse (take p.passed xs)) entries ∙ all_passed log.entries p.passed none

  pub all_preserved : [] ≡ drop p.passed log.entries → KeepsEach p.machine (reverse log.entries)
  all_preserved none = subst (λ (k : Machine). KeepsEach k (reverse log.entries)) (sym machine) (subst (KeepsEach m) (whole none) kept)

  module _ (e : Entry) (rest : List Entry) (left : drop p.passed log.entries ≡ e ∷ rest) where
    first : slice_get log.entries p.passed ≡ Some e
    first = first_left log.entries p.passed e rest left

    pub here : slice_get p.entries p.passed ≡ Some e
    here = ap (λ (xs : List Entry). slice_get xs p.passed) entries ∙ first

    fits_model : IsWritable m log → fits_entry m e ≡ true
    fits_model fits = one_of_all (fits_entry m) log.entries p.passed e fits.entries first

    pub fits_here : IsWritable m log → fits_entry p.machine e ≡ true
    fits_here fits = ap (λ (k : Machine). fits_entry k e) machine ∙ fits_model fits

    -- what is asked of it, of the machine itself
    broken_is : (o answer : Option ℕ) → IsBroken p.machine (past_of p) e o → o ≡ answer → IsBroken m (past_of p) e answer
    broken_is o answer b is = subst (IsBroken m (past_of p) e) is (subst (λ (k : Machine). IsBroken k (past_of p) e o) machine b)

    count : length (past_of p) ≡ p.passed
    count =
        let in' = slice_get_within p.entries p.passed e here in
        length-reverse (take p.passed p.entries) ∙ length-take-le p.passed p.entries (omega (arith, in'))

    split : reverse log.entries ≡ reverse (drop (suc p.passed) p.entries) ++ e ∷ past_of p
    split = ap reverse (sym entries) ∙ parted p.entries p.passed e here

    -- it breaks a rule, and is the first bad line
    pub bad_entry : (o : Option ℕ) (definition before : ℕ) (v : Verdict) → IsBroken p.machine (past_of p) e o → o ≡ Some definition → before ≡ p.passed → v ≡ Bad (before + 1) definition → IsVerdict m log v
    bad_entry o definition before v b is at v_is =
        let broken = broken_is o (Some definition) b is in
        let line : before + 1 ≡ length (past_of p) + 1 = ap (λ n. n + 1) (at ∙ sym count) in
        subst (IsVerdict m log) (sym (v_is ∙ ap₂ Bad line (sym broken.1.0)))
        (AtEntry (reverse (drop (suc p.passed) p.entries)) (past_of p) e broken.0 split kept broken.1.1)

    module _ (o : Option ℕ) (b : IsBroken p.machine (past_of p) e o) (none : o ≡ None) where
      keeps : KeepsEntry m (past_of p) e
      keeps = broken_is o None b none

      -- it breaks none, and adds no link that may not be added
      pub may_link : IsAccepted m → IsWritable m log → MayAdd (state_of p.machine (journal_of p)).graph e.kind
      may_link a fits = subst (λ (k : Machine). MayAdd (state_of k (journal_of p)).graph e.kind) (sym machine) (may_add m a (past_of p) kept e keeps (fits_model fits))

      module _ (q : Passage) (is : q ≡ record p { passed = p.passed + 1 }) where
        pub same_machine : q.machine ≡ m
        same_machine = ap (λ (x : Passage). x.machine) is ∙ machine

        pub same_entries : q.entries ≡ log.entries
        same_entries = ap (λ (x : Passage). x.entries) is ∙ entries

        pub preserved_then : KeepsEach m (past_of q)
        preserved_then =
            subst (λ (x : Passage). KeepsEach m (past_of x)) (sym is)
            (subst (KeepsEach m) (sym (one_more p.entries p.passed (p.passed + 1) e here refl)) (keeps, kept))

        pub left_then : rest ≡ drop q.passed log.entries
        left_then = then_left log.entries p.passed q.passed e rest (ap (λ (x : Passage). x.passed) is) left
