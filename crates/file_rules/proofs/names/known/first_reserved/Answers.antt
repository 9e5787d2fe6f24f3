-- Proof that `first_reserved` meets its contract.
use Rattle.std.proofs.Common.{◌≡◌, ◌∙◌, ◌∷◌, ◌-◌, [], ap, sym, not, bytes_eq}
use Rattle.std.specs.Option.{option_map}
use Rattle.file_rules.specs.Knows.{texts}
use Rattle.file_rules.specs.Names.{is_among_names}
use Rattle.file_rules.specs.Places.{first_not_after}
use Rattle.file_rules.proofs.Placing.{reserved_first}
use Rattle.file_rules.proofs.names.known.first_reserved.Goals as goal

pub returns : goal.returns
returns c =
    let all : texts c.in_ok-all-2.all ≡ c.args.reserved.now ∷ texts c.args.names.now = ap texts c.in_ok-all-2.ensures ∙ c.in_ok-all.ensures in
    c.one_less-number.ensures ∙ ap (option_map (λ k. k - 1)) (c.first_repeated.ensures ∙ ap (first_not_after (λ before name. not (is_among_names before name)) [] 0) all)
    ∙ sym (reserved_first bytes_eq c.args.reserved.now [] 0 (texts c.args.names.now))
