-- Proof that `linking_with` meets its contract, and that it meets what `add_links` requires.
use Rattle.std.proofs.Common.{◌≡◌, ◌∙◌, [], List, ℕ, Option, reverse, sym, ap, subst}
use Rattle.borrowed_json.specs.View.{view}
use Rattle.sleep_model.specs.declared.machine.Link.{Link}
use Rattle.sleep_model.specs.Order.{EachAfterParent, parents_of}
use Rattle.device_links.specs.Linked.{Linked}
use Rattle.file_rules.specs.Devices.{whole_devices, whole_links}
use Rattle.file_rules.specs.Fresh.{AreFresh, closes_nothing}
use Rattle.file_rules.specs.Places.{first_not_after}
use Rattle.file_rules.proofs.Freshly.{file_after, file_fresh, cycle_seen}
use Rattle.machine_file.proofs.rules.cycles.linking_with.Goals as goal

abbrev as_linked : List (Option ℕ) → List Link → Linked
as_linked ps ls = record { parents = ps; links = reverse ls }

pub add_links-requires : goal.add_links-requires
add_links-requires c =
    let file = view c.args._tree.now in
    let ps : c.deref.result.now ≡ parents_of (whole_devices file) = c.deref.ensures.value ∙ c.in_ok-parents.ensures ∙ ap parents_of (c.all.ensures ∙ c.requires.knows.registered) in
    let ls : c.deref-2.result.now ≡ whole_links file = c.deref-2.ensures.value ∙ c.requires.links in
    record {
      after = subst (EachAfterParent 0) (sym ps) (file_after file c.requires.joined);
      fresh = subst (λ (qs : List (Option ℕ)). AreFresh qs c.deref-2.result.now) (sym ps)
          (subst (AreFresh (parents_of (whole_devices file))) (sym ls) (file_fresh file c.requires.joined));
    }

pub returns : goal.returns
returns c =
    let file = view c.args._tree.now in
    let ps : c.deref.result.now ≡ parents_of (whole_devices file) = c.deref.ensures.value ∙ c.in_ok-parents.ensures ∙ ap parents_of (c.all.ensures ∙ c.requires.knows.registered) in
    let ls : c.deref-2.result.now ≡ whole_links file = c.deref-2.ensures.value ∙ c.requires.links in
    record {
      links = c.requires.links;
      cycle =
          c.in_ok-added.ensures.cycle ∙ ap (λ (qs : List (Option ℕ)). first_not_after (closes_nothing qs) [] 0 c.deref-2.result.now) ps
          ∙ ap (first_not_after (closes_nothing (parents_of (whole_devices file))) [] 0) ls ∙ cycle_seen file;
      added = λ none. c.in_ok-added.ensures.added none ∙ ap (λ (qs : List (Option ℕ)). as_linked qs c.deref-2.result.now) ps ∙ ap (as_linked (parents_of (whole_devices file))) ls;
    }
