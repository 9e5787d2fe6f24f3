-- Proof that `misspelled_item` meets its contract.
use Rattle.std.proofs.Common.{◌∙◌}
use Rattle.file_rules.specs.Broken.{place_text}
use Rattle.file_rules.proofs.Alternatives.{first_of_seven, last}
use Rattle.file_rules.proofs.rules.items.misspelled_item.Goals as goal

pub returns : goal.returns
returns c =
    first_of_seven place_text _ _ _ _ _ _ _ _ _ _ _ _ _ _ _ _ _ _ _ _ c.or.ensures c.or-2.ensures c.or-3.ensures c.or-4.ensures c.or-5.ensures c.or-6.ensures
    c.first_item.ensures c.first_item-2.ensures c.first_item-3.ensures c.first_item-4.ensures c.first_item-5.ensures c.first_item-6.ensures (c.first_item-7.ensures ∙ last _)
