-- A log that fits its machine, and no link of which is refused, is not refused.
use Rattle.std.proofs.Common.{◌≡◌, ◌∙◌, inl, inr, ℕ, List, Option, Some, None, sym, subst, arith}
use Rattle.std.specs.Prelude.{option_and_then}
use Rattle.serde_json.specs.Data.{Data}
use Rattle.sleep_model.specs.declared.log.Log.{Log}
use Rattle.sleep_model.specs.declared.machine.Machine.{Machine}
use Rattle.sleep_model.specs.Order.{parents_of}
use Rattle.file_rules.specs.Tree.{tree}
use Rattle.file_rules.specs.Whole.{Broken as Breach, broken_by, first_broken, machine_in, unless_broken, whole_machine}
use Rattle.log_text.specs.Grammar.{IsFirstBad}
use Rattle.log_text.specs.Named.{AreNamed}
use Rattle.log_text.proofs.NoBadLine.{none_bad}
use Rattle.log_text.proofs.OneLog.{one_log}
use Rattle.file_read_back.proofs.Naming.{machines_named}
use Rattle.program_ending.specs.declared.refusal.Refusal.{Refusal}
use Rattle.program_ending.specs.declared.refusal.Refusal.TheVariants.{LongMachine, Broken, BadLine}
use Rattle.log_commands.specs.Input.{IsBadInput, IsLogIn, file_in, text_in}
use Rattle.log_commands.specs.Stats.{RefusesStats}
use Rattle.log_commands.specs.Taking.{refusal_of}

pub one_machine : (x y : Machine) → Some x ≡ Some y → x ≡ y
one_machine x y e = cc

-- bytes that break a rule spell no machine
pub no_machine : (t : Option Data) (m : Machine) (b : Breach) → broken_by t ≡ Some b → option_and_then (λ d. unless_broken (first_broken d) (whole_machine d)) t ≡ Some m → ⊥
no_machine None m b e f = absurd (cc)
no_machine (Some d) m b e f = by_rule (first_broken d) e f
  where
    by_rule : (o : Option Breach) → o ≡ Some b → unless_broken o (whole_machine d) ≡ Some m → ⊥
    by_rule None g h = absurd (cc)
    by_rule (Some x) g h = absurd (cc)

-- a machine that a file spells has no name twice
pub named : (bytes : List ℕ) (m : Machine) → machine_in bytes ≡ Some m → AreNamed m
named bytes m spells = machines_named m (bytes, spells)

module _ (bytes : List ℕ) (m : Machine) (log : Log) (read : IsLogIn bytes m log) (good : refusal_of (parents_of m.devices) m.links log.entries ≡ None) where
  same_machine : (x : Machine) → machine_in (file_in bytes) ≡ Some x → x ≡ m
  same_machine x spells = one_machine x m (sym spells ∙ read.spells)

  same_log : (other : Log) → IsLogIn bytes m other → other ≡ log
  same_log other is = one_log m (named (file_in bytes) m read.spells) other log is.fits read.fits (is.is_text ∙ sym read.is_text)

  no_bad_link : (x : Machine) (other : Log) (refusal : Refusal) → x ≡ m → IsLogIn bytes x other → refusal_of (parents_of x.devices) x.links other.entries ≡ Some refusal → ⊥
  no_bad_link x other refusal is r bad =
      let r' = subst (λ (k : Machine). IsLogIn bytes k other) is r in
      let bad' = subst (λ (k : Machine). refusal_of (parents_of k.devices) k.links other.entries ≡ Some refusal) is bad in
      let same = subst (λ (l : Log). refusal_of (parents_of m.devices) m.links l.entries ≡ Some refusal) (same_log other r') bad' in
      none_some (sym good ∙ same)
    where
      none_some : None ≡ Some refusal → ⊥
      none_some e = absurd (cc)

  no_bad_line : (x : Machine) (n : ℕ) → x ≡ m → IsFirstBad x (text_in bytes) n → ⊥
  no_bad_line x n is bad =
      none_bad m (named (file_in bytes) m read.spells) log read.fits n
      (subst (λ (t : List ℕ). IsFirstBad m t n) (sym read.is_text) (subst (λ (k : Machine). IsFirstBad k (text_in bytes) n) is bad))

  no_bad_input : (refusal : Refusal) → IsBadInput bytes refusal → ⊥
  no_bad_input LongMachine h = omega (arith, h, read.few)
  no_bad_input (Broken rule place) h = no_machine (tree (file_in bytes)) m _ h.1 read.spells
  no_bad_input (BadLine n) h = no_bad_line h.machine n (same_machine h.machine h.spells) h.bad
  no_bad_input refusal h = h

  -- such an input is not refused
  pub none_refused : (refusal : Refusal) → RefusesStats bytes refusal → ⊥
  none_refused refusal (inl h) = no_bad_input refusal h
  none_refused refusal (inr h) = no_bad_link h.machine h.log refusal (same_machine h.machine h.read.spells) h.read h.bad
