-- A jump of time, by four tests.
use Rattle.std.proofs.Common.{◌≡◌, ◌<◌, ◌&&◌, ◌∙◌, ℕ, Bool, true, false, not, IsTrue, ◌↔◌, List, Option, Some, refl, ap, sym, subst, arith, nat_lt}
use Rattle.std.proofs.lemmas.Bool.{and_parts}
use Rattle.std.proofs.lemmas.Bool.Decides.{nat_tests}
use Rattle.sleep_model.specs.declared.entry.Entry.{Entry}
use Rattle.sleep_model.specs.declared.machine.Machine.{Machine}
use Rattle.sleep_model.specs.declared.word.EventNow.{EventNow}
use Rattle.sleep_model.specs.Legal.{JumpStep, is_finished, is_idle, next_time}
use Rattle.sleep_model.specs.Numbers.{numbers, time_of}
use Rattle.sleep_model.specs.Sources.{history}

is_below : (a b : ℕ) → nat_lt a b ≡ true → a < b
is_below a b h = grind (arith, nat_tests)

below_is : (a b : ℕ) → a < b → nat_lt a b ≡ true
below_is a b h = grind (arith, nat_tests)

not_so : (b : Bool) → not b ≡ true → b ≡ false
not_so true h = absurd (cc)
not_so false h = refl

all_four : (a b c d : Bool) → a ≡ true → b ≡ true → c ≡ true → d ≡ true → (a && (b && (c && d))) ≡ true
all_four true true true d h g k l = l
all_four true true false d h g k l = absurd (cc)
all_four true false c d h g k l = absurd (cc)
all_four false b c d h g k l = absurd (cc)

pub jump_is : (m : Machine) (own past : List Entry) (now : EventNow) (time before : ℕ) (idle finished least : Bool) (next : Option ℕ)
    → now ≡ numbers past → idle ≡ is_idle m own (λ s. history s past) now → finished ≡ is_finished m own (λ s. history s past) now → next ≡ next_time m own (λ s. history s past)
    → (IsTrue least ↔ (next ≡ Some time)) → before ≡ time_of past
    → IsTrue (idle && (not finished && (least && nat_lt before time))) ↔ (JumpStep m own (λ s. history s past) (numbers past) time × (time_of past < time))
jump_is m own past now time before idle finished least next w i f n l b =
    let idle_is : idle ≡ is_idle m own (λ s. history s past) (numbers past) = i ∙ ap (is_idle m own (λ s. history s past)) w in
    let finished_is : finished ≡ is_finished m own (λ s. history s past) (numbers past) = f ∙ ap (is_finished m own (λ s. history s past)) w in (
      λ (h : (idle && (not finished && (least && nat_lt before time))) ≡ true).
          let p = and_parts idle (not finished && (least && nat_lt before time)) h in
          let q = and_parts (not finished) (least && nat_lt before time) p.1 in
          let r = and_parts least (nat_lt before time) q.1 in (
            record {
              idle = sym idle_is ∙ p.0;
              goes_on = sym finished_is ∙ not_so finished q.0;
              least = sym n ∙ l.0 r.0;
            },
            subst (λ k. k < time) b (is_below before time r.1),
          ),
      λ (h : JumpStep m own (λ s. history s past) (numbers past) time × (time_of past < time)).
          all_four idle (not finished) least (nat_lt before time)
          (idle_is ∙ h.0.idle) (ap not (finished_is ∙ h.0.goes_on)) (l.1 (n ∙ h.0.least)) (below_is before time (subst (λ k. k < time) (sym b) h.1)),
    )
