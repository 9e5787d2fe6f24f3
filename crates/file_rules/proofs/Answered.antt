-- Answers that have to differ from the earlier ones.
use Rattle.std.proofs.Common.{◌≡◌, ◌∙◌, ◌&&◌, ℕ, Bool, true, false, not, nat_eq, List, [], map, bytes_eq, Option, Some, None, refl, sym, ap}
use Rattle.std.specs.List.{list_any}
use Rattle.std.specs.Option.{option_eq}
use Rattle.serde_json.specs.Data.{Data}
use Rattle.sleep_model.specs.Answers.{is_for}
use Rattle.file_rules.specs.declared.rules.answers.Given.{Given}
use Rattle.file_rules.specs.contracts.rules.answers.GivenPartialEq.TheImpl.{eq-value}
use Rattle.file_rules.specs.Answering.{is_same_answer}
use Rattle.file_rules.specs.Seen.{answer_seen, answer_written, same_answer}
use Rattle.file_rules.specs.Places.{first_not_after}
use Rattle.file_rules.proofs.Placing.{repeated_map}

attempts : (a b : Option ℕ) → option_eq nat_eq a b ≡ is_for a b
attempts None None = refl
attempts None (Some k) = refl
attempts (Some n) None = refl
attempts (Some n) (Some k) = refl

grouped : (a b c d : Bool) → (a && (b && (c && d))) ≡ (a && b && c && d)
grouped true b c d = regrouped b c d
  where
    regrouped : (b c d : Bool) → (b && (c && d)) ≡ (b && c && d)
    regrouped true c d = refl
    regrouped false c d = refl
grouped false b c d = refl

pub given_eq : (a b : Given) → eq-value.it a b ≡ same_answer (answer_seen a) (answer_seen b)
given_eq a b =
    ap (λ t. bytes_eq a.what.now b.what.now && (bytes_eq a.name.now b.name.now && (bytes_eq a.phase.now b.phase.now && t))) (attempts a.attempt b.attempt)
    ∙ grouped (bytes_eq a.what.now b.what.now) (bytes_eq a.name.now b.name.now) (bytes_eq a.phase.now b.phase.now) (is_for a.attempt b.attempt)

-- the first answer again, by what is compared of each
pub answers_again : (given : List Given) (ds : List Data) → map answer_seen given ≡ map answer_written ds →
    first_not_after (λ before a. not (list_any (λ b. same_answer (answer_seen a) (answer_seen b)) before)) [] 0 given
    ≡ first_not_after (λ before a. not (list_any (is_same_answer a) before)) [] 0 ds
answers_again given ds e =
    repeated_map same_answer answer_seen [] 0 given
    ∙ ap (first_not_after (λ b y. not (list_any (same_answer y) b)) [] 0) e
    ∙ sym (repeated_map same_answer answer_written [] 0 ds)
