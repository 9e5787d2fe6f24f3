-- The links at each point of a legal journal are such as may be added in turn.
use Rattle.std.proofs.Common.{◌≡◌, ◌<◌, ◌∙◌, ℕ, Bool, true, false, List, [], ◌∷◌, length, reverse, Option, Some, None, refl, sym, subst}
use Rattle.std.proofs.lemmas.List.{length-map}
use Rattle.sleep_base.specs.declared.errno.Errno.{Errno}
use Rattle.sleep_base.specs.declared.errno.Errno.TheVariants.{EBUSY, EINVAL}
use Rattle.sleep_model.specs.declared.entry.Actor.{Actor}
use Rattle.sleep_model.specs.declared.entry.Entry.{Entry}
use Rattle.sleep_model.specs.declared.entry.Kind.{Kind}
use Rattle.sleep_model.specs.declared.entry.Kind.TheVariants as kind
use Rattle.sleep_model.specs.declared.machine.Link.{Link}
use Rattle.sleep_model.specs.declared.machine.Machine.{Machine}
use Rattle.sleep_model.specs.declared.machine.Op.{Op}
use Rattle.sleep_model.specs.declared.machine.Op.TheVariants as op
use Rattle.sleep_model.specs.declared.progress.ScriptPosition.{ScriptPosition}
use Rattle.sleep_model.specs.declared.progress.Stage.{Stage}
use Rattle.sleep_model.specs.declared.progress.Work.{Work}
use Rattle.sleep_model.specs.declared.word.EventNow.{EventNow}
use Rattle.sleep_model.specs.Accepted.{IsOp, AreScripts}
use Rattle.sleep_model.specs.Legal.{JournalPart}
use Rattle.sleep_model.specs.Links.{AreLinks, is_linked, is_dependent, add_answer, link_add_due}
use Rattle.sleep_model.specs.Order.{links_after, links_at, parents_of, with_state}
use Rattle.sleep_model.proofs.Changing.{links_kept, same_supplier, same_consumer}
use Rattle.sleep_laws.proofs.Made.{Made, StepMade, TaskMade, WorkMade, DeviceMade, EntryMade, ByMaker, ByTask, ByWork, ByDevice, ByTime}
use Rattle.sleep_laws.proofs.MakingOwn.{entry_made}
use Rattle.sleep_laws.proofs.Operations.{entry_operation}
use Rattle.sleep_laws.proofs.Telling.{some≢none}

-- ---- who changes no link

pub maker_links : (m : Machine) (past : List Entry) (now : EventNow) (there : Stage) (k : Kind) → Made m past now there k → (ls : List Link) → links_after k ls ≡ ls
maker_links m past now _ _ Made.PlatformWakes ls = refl
maker_links m past now _ _ _ ls = refl

pub work_links : (m : Machine) (past : List Entry) (now : EventNow) (w : Work) (k : Kind) → WorkMade m past now w k → (ls : List Link) → links_after k ls ≡ ls
work_links m past now _ _ WorkMade.Runs ls = refl
work_links m past now _ _ _ ls = refl

pub own_links : (m : Machine) (past : List Entry) (now : EventNow) (d : ℕ) (k : Kind) → DeviceMade m past now d k → (ls : List Link) → links_after k ls ≡ ls
own_links m past now d _ (DeviceMade.OwnFails p r w g f) ls = refl
own_links m past now d _ _ ls = refl

-- ---- a task

count_parents : (m : Machine) → length (parents_of m.devices) ≡ length m.devices
count_parents m = length-map m.devices (λ x. x.parent)

-- an answer of 0 says that the link is new and closes no cycle
add_answered : (a linked dependent : Bool) → add_answer a linked dependent ≡ None → (linked ≡ false) × (dependent ≡ false)
add_answered true linked dependent e = absurd (some≢none EBUSY e)
add_answered false true dependent e = absurd (some≢none EINVAL e)
add_answered false false true e = absurd (some≢none EINVAL e)
add_answered false false false e = (refl, refl)

module _ (m : Machine) (past : List Entry) (h : AreLinks (parents_of m.devices) (links_at m past)) where
  added_links : (supplier consumer : ℕ) (r : Option Errno) → link_add_due m past supplier consumer ≡ r → IsOp m (op.Link supplier consumer) → AreLinks (parents_of m.devices) (links_after (kind.LinkAdd supplier consumer r) (links_at m past))
  added_links supplier consumer (Some r) e i = h
  added_links supplier consumer None e i =
      let notified_flags = add_answered _ (is_linked (links_at m past) supplier consumer) (is_dependent (parents_of m.devices) (links_at m past) consumer supplier) e in
      (subst (λ (n : ℕ). supplier < n) (sym (count_parents m)) i.0, subst (λ (n : ℕ). consumer < n) (sym (count_parents m)) i.1, notified_flags.0, notified_flags.1, h)

  set_links : (supplier consumer : ℕ) (active : Bool) (r : Option Errno) → AreLinks (parents_of m.devices) (links_after (kind.LinkState supplier consumer active r) (links_at m past))
  set_links supplier consumer active (Some r) = h
  set_links supplier consumer active None = links_kept (with_state supplier consumer active) (same_supplier supplier consumer active) (same_consumer supplier consumer active) (parents_of m.devices) (links_at m past) h

  step_links : (now : EventNow) (position : ScriptPosition) (asked : Bool) (o : Option Op) (k : Kind) → StepMade m past now position asked o k → ((op : Op) → o ≡ Some op → IsOp m op) → AreLinks (parents_of m.devices) (links_after k (links_at m past))
  step_links now position asked _ _ (StepMade.AddsLink s c r e) named = added_links s c r e (named (op.Link s c) refl)
  step_links now position asked _ _ (StepMade.SetsLink s c active r e) named = set_links s c active r
  step_links now position asked _ _ _ named = h

  entry_links : AreScripts m m.actors → (now : EventNow) (who : Actor) (k : Kind) → EntryMade m past now who k → AreLinks (parents_of m.devices) (links_after k (links_at m past))
  entry_links scripts now who k (ByMaker _ here there _ a e c d) = subst (AreLinks (parents_of m.devices)) (sym (maker_links m past now there k d (links_at m past))) h
  entry_links scripts now _ _ (ByTask i _ a (TaskMade.Freezes s go f)) = h
  entry_links scripts now _ k (ByTask i _ a (TaskMade.Steps s _ o go e step)) =
      step_links now _ _ o k step (λ op f. entry_operation m scripts i _ s op go.script (e ∙ f))
  entry_links scripts now _ k (ByWork w _ a s o e d) = subst (AreLinks (parents_of m.devices)) (sym (work_links m past now w k d (links_at m past))) h
  entry_links scripts now _ k (ByDevice d _ a x) = subst (AreLinks (parents_of m.devices)) (sym (own_links m past now d k x (links_at m past))) h
  entry_links scripts now _ _ ByTime = h

-- the links at each point of a legal journal may be added in turn
pub links_stand : (m : Machine) → AreScripts m m.actors → AreLinks (parents_of m.devices) (reverse m.links) → (past : List Entry) → JournalPart m past → AreLinks (parents_of m.devices) (links_at m past)
links_stand m scripts first [] h = first
links_stand m scripts first (e ∷ past) h = entry_links m past (links_stand m scripts first past h.1) scripts e.now e.actor e.kind (entry_made m past e h)
