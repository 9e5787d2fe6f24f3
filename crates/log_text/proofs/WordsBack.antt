-- Closed words are read back.
use Rattle.std.proofs.Common.{◌≡◌, ℕ, zero, suc, ◌==◌, ◌≤◌, Bool, true, false, List, [], ◌∷◌, if◌then◌else◌, Option, Some, None, is_some, unwrap_or, ℤ, pos, negsuc, neg_ℤ, ◌∙◌, refl, sym, ap, arith}
use Rattle.std.proofs.lemmas.Bool.{eqb-true}
use Rattle.std.proofs.lemmas.Bool.Decides.{nat_tests}
use Rattle.std.proofs.lemmas.Fmt.{decimal_digit}
use Rattle.sleep_base.specs.declared.errno.Errno.{Errno}
use Rattle.sleep_base.specs.declared.errno.Errno.TheVariants.{EINTR, EINVAL}
use Rattle.sleep_base.specs.Errno.{name_of, number_of}
use Rattle.phase_table.specs.declared.phase.Phase.{Phase}
use Rattle.phase_table.specs.declared.phase.Phase.TheVariants as phase
use Rattle.phase_table.specs.Phases.{phase_name}
use Rattle.sleep_model.specs.declared.entry.SkipCause.{SkipCause}
use Rattle.sleep_model.specs.declared.entry.SkipCause.TheVariants as cause
use Rattle.sleep_model.specs.declared.entry.Group.{Group}
use Rattle.sleep_model.specs.declared.entry.Group.TheVariants as group
use Rattle.sleep_model.specs.declared.entry.Kind.TheVariants as kind
use Rattle.sleep_model.specs.declared.machine.PlatDo.{PlatDo}
use Rattle.sleep_model.specs.declared.machine.PlatDo.TheVariants as down
use Rattle.sleep_model.specs.Answers.{errno_with, errors}
use Rattle.sleep_model.specs.Fits.{is_answer}
use Rattle.sleep_model.specs.Text.{answer_text, prepare_text, cause_text, group_word, down_word}
use Rattle.log_text.specs.Words.{error_number, answer_in, prepare_in, phase_in, cause_in, group_in, down_in}
use Rattle.log_text.specs.Reading.{save_kind, state_kind}
use Rattle.log_text.proofs.Cuts.{is_without}

pub answer_back : (r : Option Errno) → answer_in (answer_text r) ≡ r
answer_back None = refl
answer_back (Some EINTR) = refl
answer_back (Some _) = refl

pub phase_back : (p : Phase) → phase_in (phase_name p) ≡ p
phase_back phase.Prepare = refl
phase_back _ = refl

pub cause_back : (c : SkipCause) → cause_in (cause_text c) ≡ c
cause_back cause.Error = refl
cause_back _ = refl

pub group_back : (g : Group) → group_in (group_word g) ≡ g
group_back group.User = refl
group_back group.Kernel = refl

pub down_back : (d : PlatDo) → down_in (down_word d) ≡ d
down_back down.Begin = refl
down_back _ = refl

pub phase_plain : (p : Phase) → is_without 32 (phase_name p) ≡ true
phase_plain phase.Prepare = refl
phase_plain _ = refl

pub group_plain : (g : Group) → is_without 32 (group_word g) ≡ true
group_plain group.User = refl
group_plain group.Kernel = refl

pub save_err : (r : Errno) (c : ℕ) → save_kind (name_of r) c ≡ kind.SaveErr c r
save_err EINTR c = refl
save_err _ c = refl

pub state_err : (r : Errno) → state_kind (name_of r) ≡ kind.StateErr r
state_err EINTR = refl
state_err _ = refl

-- an error that is found by a number has that number
known : (es : List Errno) (k : ℕ) (e : Errno) → errno_with k es ≡ Some e → number_of e ≡ k
known [] k e h = cc
known (x ∷ es) k e h = on (number_of x == k) refl (known es k e) h
  where
    on : (t : Bool) → (number_of x == k) ≡ t → (errno_with k es ≡ Some e → number_of e ≡ k) → (if t then Some x else errno_with k es) ≡ Some e → number_of e ≡ k
    on true s ih g = ap (λ o. number_of (unwrap_or o e)) (sym g) ∙ eqb-true (number_of x) k s
    on false s ih g = ih g

prepared : (e : Errno) → prepare_in (name_of e) ≡ error_number e
prepared EINTR = refl
prepared _ = refl

pub prepare_back : (r : ℤ) → is_answer r ≡ true → prepare_in (prepare_text r) ≡ r
prepare_back (pos zero) h = ap prepare_in (decimal_digit 0 (omega arith))
prepare_back (pos (suc zero)) h = ap prepare_in (decimal_digit 1 (omega arith))
prepare_back (pos (suc (suc n))) h = let l : suc (suc n) ≤ 1 = grind (arith, nat_tests) in absurd (omega arith)
prepare_back (negsuc n) h = found (errno_with (suc n) errors) refl h
  where
    found : (o : Option Errno) → errno_with (suc n) errors ≡ o → is_some o ≡ true → prepare_in (name_of (unwrap_or o EINVAL)) ≡ negsuc n
    found None e s = absurd (cc)
    found (Some r) e s = prepared r ∙ ap (λ k. neg_ℤ (pos k)) (known errors (suc n) r e)
