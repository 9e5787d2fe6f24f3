-- Proof by hand of `command_of`: what it returns, by the lemmas of `IdleWords` and `Ranges`.
use Rattle.std.proofs.Common.{rules, arith, ◌≡◌, ◌∙◌, ◌<◌, ◌-◌, List, ℕ, IfOk, Option, codes, drop, length, string_bytes, map, sym, ap, subst, take}
use Rattle.std.specs.Str.{bytes_eq}
use Rattle.std.specs.Prelude.{IfSome}
use Rattle.std.proofs.lemmas.Result.{IfOk-weaker}
use Rattle.command_line.specs.declared.command.Command.{Command}
use Rattle.command_line.specs.Words.{IsInRange, command_of, parsed_of}
use Rattle.command_line.proofs.IdleWords.{few_words, other_words}
use Rattle.command_line.proofs.Ranges.{asked_in_range, idle_in_range}
use Rattle.command_line.proofs.words.command_of.Goals as goal

pub returns-in_default-clause-asks : goal.returns-in_default-clause-asks
returns-in_default-clause-asks c =
    subst (λ (o : Option Command). IfOk c.parsed.result (λ (a : Option Command). a ≡ o)) (few_words string_bytes c.args.words.now c.in_default.len_below) c.parsed.ensures

pub returns-in_default-clause-range : goal.returns-in_default-clause-range
returns-in_default-clause-range c =
    IfOk-weaker c.parsed.result (λ (o : Option Command). o ≡ command_of (map string_bytes c.args.words.now)) (λ (o : Option Command). IfSome o IsInRange)
    (λ o e. asked_in_range (map string_bytes c.args.words.now) o e) (returns-in_default-clause-asks c)

pub returns-then-eq-clause-range : goal.returns-then-eq-clause-range
returns-then-eq-clause-range c = idle_in_range (map string_bytes (take (length c.args.words.now - 2) (drop 2 c.args.words.now))) c.idle_in.result c.idle_in.ensures

pub returns-clause-asks : goal.returns-clause-asks
returns-clause-asks c =
    let same : parsed_of (map string_bytes c.args.words.now) ≡ command_of (map string_bytes c.args.words.now) =
    other_words string_bytes c.args.words.now c.name-item.result c.in-len2-up.len_at_least c.name-item.is
    (ap (λ (l : List ℕ). bytes_eq l (codes "idle")) (sym c.as_str.ensures.value) ∙ (sym c.eq.ensures ∙ c.if-eq.false)) in
    subst (λ (o : Option Command). IfOk c.parsed-2.result (λ (a : Option Command). a ≡ o)) same c.parsed-2.ensures

pub returns-clause-range : goal.returns-clause-range
returns-clause-range c =
    IfOk-weaker c.parsed-2.result (λ (o : Option Command). o ≡ command_of (map string_bytes c.args.words.now)) (λ (o : Option Command). IfSome o IsInRange)
    (λ o e. asked_in_range (map string_bytes c.args.words.now) o e) (returns-clause-asks c)
