-- Proof by hand of `workers_word`: what it returns, by the lemmas of `IdleWords`.
use Rattle.std.proofs.Common.{◌∙◌, ◌++◌, List, ℕ, sym, ap}
use Rattle.command_line.specs.Words.{workers_prefix}
use Rattle.command_line.proofs.IdleWords.{no_number, number_after}
use Rattle.command_line.proofs.idle.workers_word.Goals as goal

pub returns-in-None : goal.returns-in-None
returns-in-None c = sym (no_number c.args.word.now c.in-None.ensures.cases)

pub returns-in-Some : goal.returns-in-Some
returns-in-Some c =
    let h = c.in-Some.ensures.cases in
    c.number_in.ensures ∙ sym (number_after c.args.word.now c.in-Some.number.now (h.1.1 ∙ ap (λ (l : List ℕ). workers_prefix ++ l) (sym h.2)))
