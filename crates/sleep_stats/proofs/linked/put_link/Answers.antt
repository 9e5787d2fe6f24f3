-- Proof that `put_link` meets its contract.
use Rattle.std.proofs.Common.{List, sym, subst}
use Rattle.indexmap.specs.IndexMap.{get}
use Rattle.sleep_model.specs.declared.machine.Link.{Link}
use Rattle.sleep_stats.specs.contracts.linked.EndsPartialEq.TheImpl.{eq-value}
use Rattle.sleep_stats.specs.States.{AreMarked}
use Rattle.sleep_stats.proofs.Marking.{marked_more}
use Rattle.sleep_stats.proofs.linked.put_link.Goals as goal

pub returns-clause-marked : goal.returns-clause-marked
returns-clause-marked c =
    subst (λ (ls : List Link). AreMarked ls (get eq-value.it c.insert.new.self)) (sym c.in_ok-push.ensures.items)
    (marked_more c.args.link_index.now.links.items c.args.link (get eq-value.it c.args.link_index.now.ends) (get eq-value.it c.insert.new.self) c.requires c.in_ok-insert.ensures.updates.0)
