-- The autosleep work outside attempts of its own: what is due is what keeps all rules.
use Rattle.std.proofs.Common.{◌≡◌, ◌∙◌, ℕ, Bool, true, false, ◌==◌, ◌&&◌, nat_le, List, Option, Some, None, is_none, cond, refl, sym, ap, subst}
use Rattle.sleep_model.specs.declared.entry.Actor.{Actor}
use Rattle.sleep_model.specs.declared.entry.Actor.TheVariants as actor
use Rattle.sleep_model.specs.declared.entry.Entry.{Entry}
use Rattle.sleep_model.specs.declared.entry.Kind.{Kind}
use Rattle.sleep_model.specs.declared.entry.Kind.TheVariants as kind
use Rattle.sleep_model.specs.declared.log.Why.TheVariants as why
use Rattle.sleep_model.specs.declared.machine.Machine.{Machine}
use Rattle.sleep_model.specs.declared.progress.Due.TheVariants.{Makes, Waits}
use Rattle.sleep_model.specs.declared.progress.Work.{Work}
use Rattle.sleep_model.specs.declared.progress.Work.TheVariants.{Resting, Reading, Saving, Attempting, Looking, Napping, Closing}
use Rattle.sleep_model.specs.declared.word.EventNow.{EventNow}
use Rattle.sleep_model.specs.Attempt.{attempt_due, sleeps_now}
use Rattle.sleep_model.specs.Autosleep.{auto_due, auto_save, may_run, work, work_due}
use Rattle.sleep_model.specs.Due.{is_over}
use Rattle.sleep_model.specs.Legal.{JournalPart}
use Rattle.sleep_model.specs.Lock.{holder, is_on}
use Rattle.sleep_model.specs.Numbers.{time_of}
use Rattle.sleep_model.specs.Path.{maker, is_actor}
use Rattle.sleep_model.specs.Word.{visible}
use Rattle.sleep_laws.proofs.LockHolding.{lock_agrees, HolderOf, WorkHolds}
use Rattle.sleep_laws.proofs.Making.{OnlyMade}
use Rattle.rule_definitions.specs.All.{KeepsAll, KeepsMost}
use Rattle.rule_definitions.specs.Attempts.{KeepsAttempts}
use Rattle.rule_definitions.specs.Enabled.{AwakeActor}
use Rattle.rule_definitions.specs.Freezer.{FreezesActor, FreezesNot}
use Rattle.rule_definitions.specs.Law.{IsDue, OneForWork}
use Rattle.rule_definitions.specs.Links.{KeepsLinks}
use Rattle.rule_definitions.specs.Path.{PathOf}
use Rattle.rule_definitions.specs.Questions.{is_maker}
use Rattle.rule_definitions.specs.Reads.{ReadsWork, ReadsActor}
use Rattle.rule_definitions.specs.Runtime.{KeepsRuntime}
use Rattle.rule_definitions.specs.Steps.{IsWorkStep, StepsOf}
use Rattle.log_rules.proofs.Facts.{never, only_if, only_is, only_map, Plain, plain_walk, plain_skip, plain_owed, plain_answers, plain_restored, plain_freeze, plain_wake}

-- ---- what keeps all rules is due

work_back : (m : Machine) (past : List Entry) (now : EventNow) (w : Work) (k : Kind) → KeepsAttempts past k → ReadsWork past now w k → IsWorkStep m past now w k → work_due m past now w ≡ Makes k
work_back m past now Resting kind.AutoRun a r s = rw s refl
work_back m past now Reading (kind.Read c) a r s = rw (r.0, r.1) refl
work_back m past now (Saving c) (kind.AutoSaved b) a r s = rw r.0 (ap Makes r.1)
work_back m past now (Saving c) (kind.AutoUnsaved b) a r s = rw r.0 (ap Makes r.1)
work_back m past now (Attempting c) (kind.Attempt n guarded) a r s = rw (r, a.0, a.1) refl
work_back m past now (Attempting c) kind.AutoOff a r s = rw s refl
work_back m past now (Looking c) (kind.AutoAfter seen) a r s = rw s refl
work_back m past now (Napping None) (kind.SleepD until) a r s = rw s refl
work_back m past now (Napping (Some until)) kind.Slept a r s = rw s refl
work_back m past now Closing kind.AutoAgain a r s = rw s refl
work_back m past now Closing kind.AutoOff a r s = rw s refl
work_back m past now _ _ a r s = absurd s

auto_back : (m : Machine) (past : List Entry) (now : EventNow) (k : Kind) → is_maker past actor.Auto ≡ false → KeepsMost m past now actor.Auto k → IsDue m past now actor.Auto k
auto_back m past now k e h =
    let w : AwakeActor m past actor.Auto false = subst (λ (b : Bool). AwakeActor m past actor.Auto b) e h.enabled.0 in
    rw e (rw w.0 (rw w.1 (work_back m past now (work past) k h.attempts
    (subst (λ (b : Bool). ReadsActor m past now actor.Auto b k) e h.reads)
    (subst (λ (b : Bool). StepsOf m past now actor.Auto b k) e h.steps))))

-- ---- what is due keeps all rules

-- what the work keeps outside attempts of its own
abbrev Works : Machine → List Entry → EventNow → Work → Kind → Type 0
Works m past now w k = IsWorkStep m past now w k × ReadsWork past now w k × KeepsAttempts past k × KeepsRuntime m past k × KeepsLinks m past k × Plain k

-- if the work is to make an attempt nobody makes one
idle_maker : (o h : Option Actor) → HolderOf o h → h ≡ Some actor.Auto → is_actor actor.Auto o ≡ false → o ≡ None
idle_maker None h e f a = refl
idle_maker (Some x) h e f a = never (sym (ap (is_actor actor.Auto) (sym f ∙ e) ∙ a))

saves_made : (m : Machine) (past : List Entry) (now : EventNow) (c : ℕ) → holder past ≡ None → (b : Bool) → (visible now == c && now.inpr == 0) ≡ b → Works m past now (Saving c) (cond b (kind.AutoSaved c) (kind.AutoUnsaved c))
saves_made m past now c h true e = (tt, (h, rw e refl), tt, tt, tt, tt)
saves_made m past now c h false e = (tt, (h, rw e refl), tt, tt, tt, tt)

work_made : (m : Machine) (past : List Entry) (now : EventNow) (w : Work) → WorkHolds w (holder past) → HolderOf (maker past) (holder past) → is_actor actor.Auto (maker past) ≡ false → OnlyMade (Works m past now w) (work_due m past now w)
work_made m past now Resting g h e = only_if (Works m past now Resting) (may_run m past) _ _ (λ r. (r, tt, tt, tt, tt, tt)) (λ r. tt)
work_made m past now Reading g h e = only_if (Works m past now Reading) (now.inpr == 0) _ _ (λ r. (tt, (r, refl), tt, tt, tt, tt)) (λ r. tt)
work_made m past now (Saving c) g h e = by_holder (holder past) refl
  where
    by_holder : (o : Option Actor) → holder past ≡ o → OnlyMade (Works m past now (Saving c)) (cond (is_none o) (Makes (auto_save now c)) (Waits why.LockHeld))
    by_holder None f = saves_made m past now c f (visible now == c && now.inpr == 0) refl
    by_holder (Some x) f = tt
work_made m past now (Attempting c) g h e =
    only_if (Works m past now (Attempting c)) (is_on past) _ _
    (λ o. (tt, o, (refl, refl, idle_maker (maker past) (holder past) h g e), tt, tt, tt)) (λ o. (o, tt, tt, tt, tt, tt))
work_made m past now (Looking c) g h e = (refl, tt, tt, tt, tt, tt)
work_made m past now (Napping None) g h e = (refl, tt, tt, tt, tt, tt)
work_made m past now (Napping (Some until)) g h e = only_if (Works m past now (Napping (Some until))) (nat_le until (time_of past)) _ _ (λ t. (t, tt, tt, tt, tt, tt)) (λ t. tt)
work_made m past now Closing g h e = only_if (Works m past now Closing) (is_on past) _ _ (λ o. (o, tt, tt, tt, tt, tt)) (λ o. (o, tt, tt, tt, tt, tt))

-- the work does not say that it freezes
work_freezes_not : (m : Machine) (past : List Entry) (now : EventNow) (w : Work) (k : Kind) → IsWorkStep m past now w k → FreezesNot k
work_freezes_not m past now Resting kind.Frozen s = s
work_freezes_not m past now (Napping None) kind.Frozen s = s
work_freezes_not m past now (Napping (Some u)) kind.Frozen s = s
work_freezes_not m past now _ kind.Frozen s = s
work_freezes_not m past now w _ s = tt

-- and that it may go on
abbrev Awake : Machine → List Entry → EventNow → Kind → Type 0
Awake m past now k = AwakeActor m past actor.Auto false × Works m past now (work past) k

auto_made : (m : Machine) (past : List Entry) (now : EventNow) → WorkHolds (work past) (holder past) → HolderOf (maker past) (holder past) → is_actor actor.Auto (maker past) ≡ false → OnlyMade (Awake m past now) (auto_due m past now (sleeps_now past) (is_over m past))
auto_made m past now g h e =
    only_if (Awake m past now) (sleeps_now past) _ _ (λ x. tt)
    (λ x. only_if (Awake m past now) (is_over m past) _ _ (λ y. tt)
    (λ y. only_map (Works m past now (work past)) (Awake m past now) (λ k s. ((x, y), s)) _ (work_made m past now (work past) g h e)))

auto_forth : (m : Machine) (past : List Entry) (now : EventNow) (k : Kind) → is_maker past actor.Auto ≡ false → JournalPart m past → IsDue m past now actor.Auto k → KeepsAll m past now actor.Auto k
auto_forth m past now k e j d =
    let own : auto_due m past now (sleeps_now past) (is_over m past) ≡ Makes k = subst (λ (b : Bool). cond b (attempt_due m past now) (auto_due m past now (sleeps_now past) (is_over m past)) ≡ Makes k) e d in
    let a : Awake m past now k = only_is (Awake m past now) _ k (auto_made m past now (lock_agrees m past j).1 (lock_agrees m past j).0 e) own in
    let s : Works m past now (work past) k = a.1 in
    record {
      most = record {
        links = s.4;
        attempts = s.2;
        reads = subst (λ (b : Bool). ReadsActor m past now actor.Auto b k) (sym e) s.1;
        walk = plain_walk m past now k s.5;
        skip = plain_skip m past now k s.5;
        runtime = s.3;
        freezer = (subst (λ (b : Bool). FreezesActor m past actor.Auto b k) (sym e) (work_freezes_not m past now (work past) k s.0), plain_freeze m past now k s.5);
        path = subst (λ (b : Bool). PathOf m past now b k) (sym e) tt;
        answers = plain_answers past k s.5;
        steps = subst (λ (b : Bool). StepsOf m past now actor.Auto b k) (sym e) s.0;
        enabled = (subst (λ (b : Bool). AwakeActor m past actor.Auto b) (sym e) a.0, plain_wake m past now k s.5);
      };
      owed = plain_owed m past k s.5;
      restored = plain_restored m past k s.5;
    }

-- the autosleep work outside attempts of its own
pub the_work : OneForWork
the_work m past now k e = record { keeps = auto_forth m past now k e; makes = auto_back m past now k e }
