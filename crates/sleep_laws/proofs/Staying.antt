-- Links stay while an attempt is open, and the order holds at each point.
use Rattle.std.proofs.Common.{◌≡◌, ◌∙◌, ℕ, Bool, true, List, ◌∷◌, is_some, Option, Some, None, refl, sym, ap}
use Rattle.std.proofs.lemmas.Bool.{false≢true}
use Rattle.sleep_base.specs.declared.errno.Errno.{Errno}
use Rattle.sleep_model.specs.declared.entry.Actor.{Actor}
use Rattle.sleep_model.specs.declared.entry.Entry.{Entry}
use Rattle.sleep_model.specs.declared.entry.Kind.{Kind}
use Rattle.sleep_model.specs.declared.entry.Kind.TheVariants as kind
use Rattle.sleep_model.specs.declared.machine.Machine.{Machine}
use Rattle.sleep_model.specs.declared.machine.Op.{Op}
use Rattle.sleep_model.specs.declared.progress.ScriptPosition.{ScriptPosition}
use Rattle.sleep_model.specs.declared.word.EventNow.{EventNow}
use Rattle.sleep_model.specs.Legal.{JournalPart}
use Rattle.sleep_model.specs.Links.{IsOrder, is_linked, is_dependent, link_add_due, link_state_due}
use Rattle.sleep_model.specs.Order.{dependents, links_after, links_at, order, parents_of}
use Rattle.sleep_model.specs.Path.{maker}
use Rattle.sleep_model.proofs.Acyclic.{order_ranked}
use Rattle.sleep_laws.specs.Ends.{IsOrdered}
use Rattle.sleep_laws.specs.Linked.{LinksStay}
use Rattle.sleep_laws.proofs.LockHolding.{add_free, state_free}
use Rattle.sleep_laws.proofs.Linking.{links_stand, maker_links, work_links, own_links}
use Rattle.sleep_laws.proofs.Made.{StepMade, TaskMade, EntryMade, ByMaker, ByTask, ByWork, ByDevice, ByTime}
use Rattle.sleep_laws.proofs.MakingOwn.{entry_made}

not_open : (o : Option Actor) → o ≡ None → is_some o ≡ true → ⊥
not_open o e h = false≢true (sym (ap is_some e) ∙ h)

module _ (m : Machine) (past : List Entry) (underway : is_some (maker past) ≡ true) where
  added_stay : (supplier consumer : ℕ) (r : Option Errno) → link_add_due m past supplier consumer ≡ r → links_after (kind.LinkAdd supplier consumer r) (links_at m past) ≡ links_at m past
  added_stay supplier consumer (Some r) e = refl
  added_stay supplier consumer None e =
      absurd (not_open (maker past) (add_free (maker past) (is_linked (links_at m past) supplier consumer) (is_dependent (parents_of m.devices) (links_at m past) consumer supplier) e) underway)

  set_stay : (supplier consumer : ℕ) (active : Bool) (r : Option Errno) → link_state_due m past supplier consumer ≡ r → links_after (kind.LinkState supplier consumer active r) (links_at m past) ≡ links_at m past
  set_stay supplier consumer active (Some r) e = refl
  set_stay supplier consumer active None e = absurd (not_open (maker past) (state_free (maker past) (is_linked (links_at m past) supplier consumer) e) underway)

  step_stays : (now : EventNow) (position : ScriptPosition) (asked : Bool) (o : Option Op) (k : Kind) → StepMade m past now position asked o k → links_after k (links_at m past) ≡ links_at m past
  step_stays now position asked _ _ (StepMade.AddsLink s c r e) = added_stay s c r e
  step_stays now position asked _ _ (StepMade.SetsLink s c active r e) = set_stay s c active r e
  step_stays now position asked _ _ _ = refl

  entry_stays : (now : EventNow) (who : Actor) (k : Kind) → EntryMade m past now who k → links_after k (links_at m past) ≡ links_at m past
  entry_stays now who k (ByMaker _ here there _ a e c d) = maker_links m past now there k d (links_at m past)
  entry_stays now _ _ (ByTask i _ a (TaskMade.Freezes s go f)) = refl
  entry_stays now _ k (ByTask i _ a (TaskMade.Steps s _ o go e step)) = step_stays now _ _ o k step
  entry_stays now _ k (ByWork w _ a s o e d) = work_links m past now w k d (links_at m past)
  entry_stays now _ k (ByDevice d _ a x) = own_links m past now d k x (links_at m past)
  entry_stays now _ _ ByTime = refl

pub links_stay : (m : Machine) (past : List Entry) (e : Entry) → JournalPart m (e ∷ past) → LinksStay m past e
links_stay m past e h underway = entry_stays m past underway e.now e.actor e.kind (entry_made m past e h)

pub in_order : (m : Machine) → IsOrdered m → (past : List Entry) → JournalPart m past → IsOrder (dependents (parents_of m.devices) (links_at m past)) (order m past)
in_order m o past h = order_ranked (parents_of m.devices) o.parents (links_at m past) (links_stand m o.scripts o.links past h)
