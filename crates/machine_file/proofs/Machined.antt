-- From what a value is to what the bytes of a file are.
use Rattle.std.proofs.Common.{◌≡◌, ◌∙◌, ℕ, List, Some, None, Result, Ok, Err, IfOk, IfErr, refl, sym, ap, subst}
use Rattle.serde_json.specs.Data.{Data}
use Rattle.sleep_model.specs.Accepted.{IsAccepted}
use Rattle.file_rules.specs.Tree.{tree}
use Rattle.file_rules.specs.Whole.{machine_in, whole_machine, first_broken, broken_by}
use Rattle.machine_file.specs.Reading.{Reads}
use Rattle.machine_file.specs.Refusing.{Refuses, RefusesValue}
use Rattle.machine_file.specs.declared.reading.ReadMachine.{ReadMachine}
use Rattle.machine_file.specs.declared.fault.MachineFault.{MachineFault}
use Rattle.machine_file.specs.declared.fault.MachineFault.TheVariants as fault
use Rattle.file_rules.proofs.Grouping.{in_order}
use Rattle.file_rules.proofs.Accepted.{accepted}

module _ (bytes : List ℕ) (d : Data) (is : tree bytes ≡ Some d) where
  machine_is : first_broken d ≡ None → machine_in bytes ≡ Some (whole_machine d)
  machine_is e = rw is (rw e refl)

  pub spelled : (res : Result ReadMachine MachineFault) → IfOk res (Reads d) → IfOk res (λ r. machine_in bytes ≡ Some r.machine)
  spelled (Ok r) h = machine_is (sym (in_order d) ∙ h.unbroken) ∙ ap Some (sym h.machine)
  spelled (Err f) h = tt

  pub is_accepted : (res : Result ReadMachine MachineFault) → IfOk res (Reads d) → IfOk res (λ r. IsAccepted r.machine)
  is_accepted (Ok r) h = subst IsAccepted (sym h.machine) (accepted d (sym (in_order d) ∙ h.unbroken))
  is_accepted (Err f) h = tt

  pub is_refused : (res : Result ReadMachine MachineFault) → IfErr res (RefusesValue d) → IfErr res (Refuses bytes)
  is_refused (Ok r) h = tt
  is_refused (Err (fault.Rule rule place)) h = ap broken_by is ∙ sym (in_order d) ∙ h
  is_refused (Err fault.Mem) h = tt
