-- Scripts outside attempts of their own: what is due is what keeps all rules.
use Rattle.std.proofs.Common.{◌≡◌, ◌+◌, ◌∙◌, ℕ, Bool, true, false, not, ◌&&◌, ◌||◌, List, length, Option, Some, None, is_some, slice_get, cond, nat_lt, nat_le, IsTrue, ◌==◌, refl, sym, ap, subst}
use Rattle.sleep_model.specs.declared.entry.Actor.{Actor}
use Rattle.sleep_model.specs.declared.entry.Actor.TheVariants as actor
use Rattle.sleep_model.specs.declared.entry.Entry.{Entry}
use Rattle.sleep_model.specs.declared.entry.Kind.{Kind}
use Rattle.sleep_model.specs.declared.entry.Kind.TheVariants as kind
use Rattle.sleep_model.specs.declared.machine.Machine.{Machine}
use Rattle.sleep_model.specs.declared.machine.Op.{Op}
use Rattle.sleep_model.specs.declared.machine.Op.TheVariants as op
use Rattle.sleep_model.specs.declared.machine.Script as script
use Rattle.sleep_model.specs.declared.progress.Due.{Due}
use Rattle.sleep_model.specs.declared.progress.Due.TheVariants.{Makes, Waits, Nothing}
use Rattle.sleep_model.specs.declared.progress.Freezing.{Freezing}
use Rattle.sleep_model.specs.declared.progress.ScriptPosition.{ScriptPosition}
use Rattle.sleep_model.specs.declared.word.EventNow.{EventNow}
use Rattle.sleep_model.specs.Attempt.{attempt_due, sleeps_now}
use Rattle.sleep_model.specs.Freezer.{freezing}
use Rattle.sleep_model.specs.Guard.{in_force}
use Rattle.sleep_model.specs.Legal.{JournalPart}
use Rattle.sleep_model.specs.Lock.{holder, is_on}
use Rattle.sleep_model.specs.Laws.{steps_of, is_of_count_read, is_of_count_save}
use Rattle.sleep_model.specs.Marks.{mark_at, raised}
use Rattle.sleep_model.specs.Numbers.{time_of}
use Rattle.sleep_model.specs.Path.{attempts, maker}
use Rattle.sleep_model.specs.Scripts.{entry_steps}
use Rattle.sleep_model.specs.Steps.{step_due, position_due, read_due, count_due, saved_number, state_due, unless_unsaved, autosleep_due, sleep_due, slept_due}
use Rattle.sleep_model.specs.Word.{visible}
use Rattle.sleep_model.specs.Tasks.{is_mem, is_off, is_line, is_user, freezes_at}
use Rattle.sleep_laws.proofs.LockHolding.{lock_agrees, HolderOf}
use Rattle.sleep_laws.proofs.Making.{OnlyMade}
use Rattle.rule_definitions.specs.All.{KeepsAll, KeepsMost}
use Rattle.rule_definitions.specs.Attempts.{KeepsAttempts}
use Rattle.rule_definitions.specs.Enabled.{AwakeTask, AwakeActor}
use Rattle.rule_definitions.specs.Freezer.{FreezesBy, FreezesTask, FreezesActor}
use Rattle.rule_definitions.specs.Law.{IsDue, OneForScripts}
use Rattle.rule_definitions.specs.Links.{KeepsLinks}
use Rattle.rule_definitions.specs.Path.{PathOf}
use Rattle.rule_definitions.specs.Questions.{is_maker, position_of}
use Rattle.rule_definitions.specs.Reads.{ReadsTask, ReadsActor}
use Rattle.rule_definitions.specs.Runtime.{KeepsRuntime}
use Rattle.rule_definitions.specs.Steps.{IsOfOp, IsStep, IsScriptStep, StepsOf, is_of_state_write}
use Rattle.log_rules.proofs.Facts.{never, only_if, only_is, only_map, itself, Plain, plain_walk, plain_skip, plain_owed, plain_answers, plain_restored, plain_freeze, plain_wake}

-- ---- what keeps all rules is due

-- an attempt with the right number and guard is the one that is due
attempt_is : (past : List Entry) (n : ℕ) (guarded : Option ℕ) → KeepsAttempts past (kind.Attempt n guarded) → kind.Attempt n guarded ≡ kind.Attempt (attempts past + 1) (in_force past)
attempt_is past n guarded a = rw (a.0, a.1) refl

step_back : (m : Machine) (past : List Entry) (now : EventNow) (who : Actor) (position : ScriptPosition) (asked : Bool) (o : Option Op) (k : Kind) → KeepsAttempts past k → KeepsRuntime m past k → KeepsLinks m past k → ReadsTask past now who position asked o k → IsOfOp m past position o k → step_due m past now position asked o ≡ Makes k
step_back m past now who position asked None kind.Exit a u l r s = refl
step_back m past now who position asked None _ a u l r s = never s
step_back m past now who position asked (Some op.Read) kind.ReadWait a u l r s = r
step_back m past now who position asked (Some op.Read) (kind.Read c) a u l r s = r
step_back m past now who position asked (Some op.Read) kind.ReadIntr a u l r s = r
step_back m past now who position asked (Some op.Read) _ a u l r s = never s
step_back m past now who position asked (Some (op.Save count)) (kind.SaveWait c) a u l r s = r
step_back m past now who position asked (Some (op.Save count)) (kind.Saved c) a u l r s = r
step_back m past now who position asked (Some (op.Save count)) (kind.SaveErr c e) a u l r s = r
step_back m past now who position asked (Some (op.Save count)) _ a u l r s = never s
step_back m past now who position asked (Some (op.State text if_saved)) kind.StateWait a u l r s = r
step_back m past now who position asked (Some (op.State text if_saved)) (kind.StateErr e) a u l r s = r
step_back m past now who position asked (Some (op.State text if_saved)) kind.StateUnsaved a u l r s = r
step_back m past now who position asked (Some (op.State text if_saved)) (kind.Attempt n guarded) a u l r s =
    subst (λ (z : Kind). unless_unsaved if_saved position.saved (state_due (is_some (holder past)) (is_on past) position.waits asked (is_mem text) z) ≡ Makes (kind.Attempt n guarded)) (attempt_is past n guarded a) r
step_back m past now who position asked (Some (op.State text if_saved)) _ a u l r s = never s
step_back m past now who position asked (Some (op.Autosleep text)) kind.AutoBad a u l r s = rw r refl
step_back m past now who position asked (Some (op.Autosleep text)) (kind.AutoSet state) a u l r s = rw (s.0, s.1, s.2, r) refl
step_back m past now who position asked (Some (op.Autosleep text)) kind.AutoDone a u l r s = rw (s.0, s.1) refl
step_back m past now who position asked (Some (op.Autosleep text)) _ a u l r s = absurd s
step_back m past now who position asked (Some (op.Sleep ms)) k a u l r s = s
step_back m past now who position asked (Some (op.SleepD ms)) k a u l r s = s
step_back m past now who position asked (Some op.FreezePoint) kind.Pass a u l r s = refl
step_back m past now who position asked (Some op.FreezePoint) _ a u l r s = never s
step_back m past now who position asked (Some (op.Post mark)) (kind.Post other) a u l r s = rw s refl
step_back m past now who position asked (Some (op.Post mark)) _ a u l r s = absurd s
step_back m past now who position asked (Some (op.Wait mark)) k a u l r s = s
step_back m past now who position asked (Some (op.Runtime d to_suspended)) (kind.RuntimeAsk e to x) a u l r s = rw (u, s.0, s.1) refl
step_back m past now who position asked (Some (op.Runtime d to_suspended)) _ a u l r s = absurd s
step_back m past now who position asked (Some (op.Link supplier consumer)) (kind.LinkAdd x y e) a u l r s = rw (l, s.0, s.1) refl
step_back m past now who position asked (Some (op.Link supplier consumer)) _ a u l r s = absurd s
step_back m past now who position asked (Some (op.LinkState supplier consumer active)) (kind.LinkState x y to e) a u l r s = rw (l, s.0, s.1, s.2) refl
step_back m past now who position asked (Some (op.LinkState supplier consumer active)) _ a u l r s = absurd s
step_back m past now who position asked (Some _) k a u l r s = absurd s

-- at an operation a task freezes, or makes what the operation makes
freezes_or_steps : (m : Machine) (past : List Entry) (now : EventNow) (who : Actor) (f : Freezing) (user : Bool) (position : ScriptPosition) (o : Option Op) (k : Kind) → FreezesBy f (freezes_at user position.waits o) k → KeepsAttempts past k → KeepsRuntime m past k → KeepsLinks m past k → ReadsTask past now who position f.asked o k → IsStep m past user position o k → cond (f.asked && freezes_at user position.waits o) (Makes kind.Frozen) (step_due m past now position f.asked o) ≡ Makes k
freezes_or_steps m past now who f user position o kind.Frozen z a u l r s = rw z.1 refl
freezes_or_steps m past now who f user position o k z a u l r s = rw z.1 (step_back m past now who position f.asked o k a u l r s)

frozen_not : (f : Freezing) (point : Bool) (k : Kind) → FreezesBy f point k → f.frozen ≡ false
frozen_not f point kind.Frozen z = z.0
frozen_not f point _ z = z.0

position_back : (m : Machine) (past : List Entry) (now : EventNow) (who : Actor) (f : Freezing) (position : ScriptPosition) (x : Option script.Script) (k : Kind) → FreezesTask f position.waits (slice_get (steps_of x) position.done) x k → AwakeTask (sleeps_now past) x → KeepsAttempts past k → KeepsRuntime m past k → KeepsLinks m past k → ReadsTask past now who position f.asked (slice_get (steps_of x) position.done) k → IsScriptStep m past position (slice_get (steps_of x) position.done) x k → position_due m past now f x position ≡ Makes k
position_back m past now who f position None k z w a u l r s = absurd s
position_back m past now who f position (Some x) k z w a u l r s =
    rw (s.0) (rw (frozen_not f _ k z) (rw w (freezes_or_steps m past now who f (is_user x.kind) position (slice_get (entry_steps x) position.done) k z a u l r s.1)))

pub script_back : (m : Machine) (past : List Entry) (now : EventNow) (i : ℕ) (k : Kind) → is_maker past (actor.Script i) ≡ false → KeepsMost m past now (actor.Script i) k → IsDue m past now (actor.Script i) k
script_back m past now i k e h =
    rw e (position_back m past now (actor.Script i) (freezing m i past) (position_of m past i) (slice_get m.actors i) k
    (subst (λ (b : Bool). FreezesActor m past (actor.Script i) b k) e h.freezer.0)
    (subst (λ (b : Bool). AwakeActor m past (actor.Script i) b) e h.enabled.0)
    h.attempts h.runtime h.links
    (subst (λ (b : Bool). ReadsActor m past now (actor.Script i) b k) e h.reads)
    (subst (λ (b : Bool). StepsOf m past now (actor.Script i) b k) e h.steps))

-- ---- what is due keeps all rules

autosleep_shape : (m : Machine) (past : List Entry) (position : ScriptPosition) (text : List ℕ) → OnlyMade (IsOfOp m past position (Some (op.Autosleep text))) (autosleep_due (is_some (holder past)) position.waits (is_mem text) (is_off text))
autosleep_shape m past position text =
    let P : Kind → Type 0 = IsOfOp m past position (Some (op.Autosleep text)) in
    only_if P (is_mem text || is_off text) _ _
    (λ t. only_if P position.waits _ _ (λ w. (t, w)) (λ w. only_if P (is_some (holder past)) _ _ (λ h. tt) (λ h. (t, w, refl))))
    (λ t. tt)

read_shape : (now : EventNow) (waits asked : Bool) → OnlyMade (λ k. IsTrue (is_of_count_read k)) (read_due now waits asked)
read_shape now waits asked =
    let P : Kind → Type 0 = λ k. IsTrue (is_of_count_read k) in
    only_if P (now.inpr == 0) _ _ (λ e. refl) (λ e. only_if P waits _ _ (λ w. only_if P asked _ _ (λ a. refl) (λ a. tt)) (λ w. refl))

save_shape : (lock_agrees on waits asked : Bool) (now : EventNow) (c : ℕ) → OnlyMade (λ k. IsTrue (is_of_count_save k)) (count_due lock_agrees on waits asked now c)
save_shape lock_agrees on waits asked now c =
    let P : Kind → Type 0 = λ k. IsTrue (is_of_count_save k) in
    only_if P lock_agrees _ _ (λ h. only_if P waits _ _ (λ w. only_if P asked _ _ (λ a. refl) (λ a. tt)) (λ w. refl))
    (λ h. only_if P on _ _ (λ o. refl) (λ o. only_if P (visible now == c && now.inpr == 0) _ _ (λ v. refl) (λ v. refl)))

write_shape : (if_saved saved lock_agrees on waits asked mem : Bool) (n : ℕ) (guarded : Option ℕ) → OnlyMade (λ k. IsTrue (is_of_state_write k)) (unless_unsaved if_saved saved (state_due lock_agrees on waits asked mem (kind.Attempt n guarded)))
write_shape if_saved saved lock_agrees on waits asked mem n guarded =
    let P : Kind → Type 0 = λ k. IsTrue (is_of_state_write k) in
    only_if P (if_saved && not saved) _ _ (λ u. refl)
    (λ u. only_if P lock_agrees _ _ (λ h. only_if P waits _ _ (λ w. only_if P asked _ _ (λ a. refl) (λ a. tt)) (λ w. refl))
    (λ h. only_if P on _ _ (λ o. refl) (λ o. only_if P mem _ _ (λ t. refl) (λ t. refl))))

-- what is due at an operation is of it
shape_made : (m : Machine) (past : List Entry) (now : EventNow) (position : ScriptPosition) (asked : Bool) (o : Option Op) → OnlyMade (IsOfOp m past position o) (step_due m past now position asked o)
shape_made m past now position asked None = refl
shape_made m past now position asked (Some op.Read) = read_shape now position.waits asked
shape_made m past now position asked (Some (op.Save count)) = save_shape (is_some (holder past)) (is_on past) position.waits asked now (saved_number count position.last_read)
shape_made m past now position asked (Some (op.State text if_saved)) = write_shape if_saved position.saved (is_some (holder past)) (is_on past) position.waits asked (is_mem text) (attempts past + 1) (in_force past)
shape_made m past now position asked (Some (op.Autosleep text)) = autosleep_shape m past position text
shape_made m past now position asked (Some (op.Sleep ms)) = itself _
shape_made m past now position asked (Some (op.SleepD ms)) = itself _
shape_made m past now position asked (Some op.FreezePoint) = refl
shape_made m past now position asked (Some (op.Post mark)) = refl
shape_made m past now position asked (Some (op.Wait mark)) = itself _
shape_made m past now position asked (Some (op.Runtime d to_suspended)) = (refl, refl)
shape_made m past now position asked (Some (op.Link supplier consumer)) = (refl, refl)
shape_made m past now position asked (Some (op.LinkState supplier consumer active)) = (refl, refl, refl)
shape_made m past now position asked (Some _) = tt

-- not that a task freezes
abbrev NotFrozen : Kind → Type 0
NotFrozen kind.Frozen = ⊥
NotFrozen _ = Unit {0}

-- what the other rules ask of an entry of a task
abbrev Else : Machine → List Entry → Kind → Type 0
Else m past k = KeepsAttempts past k × KeepsRuntime m past k × KeepsLinks m past k × Plain k × NotFrozen k

read_else : (k : Kind) → IsTrue (is_of_count_read k) → (m : Machine) (past : List Entry) → Else m past k
read_else kind.ReadWait s m past = (tt, tt, tt, tt, tt)
read_else (kind.Read c) s m past = (tt, tt, tt, tt, tt)
read_else kind.ReadIntr s m past = (tt, tt, tt, tt, tt)
read_else _ s m past = never s

save_else : (k : Kind) → IsTrue (is_of_count_save k) → (m : Machine) (past : List Entry) → Else m past k
save_else (kind.SaveWait c) s m past = (tt, tt, tt, tt, tt)
save_else (kind.Saved c) s m past = (tt, tt, tt, tt, tt)
save_else (kind.SaveErr c r) s m past = (tt, tt, tt, tt, tt)
save_else _ s m past = never s

sleep_else : (m : Machine) (past : List Entry) (begins : ℕ → Kind) (ms : ℕ) (position : ScriptPosition) (time : ℕ) → ((t : ℕ) → Else m past (begins t)) → OnlyMade (Else m past) (sleep_due begins ms position time)
sleep_else m past begins ms position time b =
    only_if (Else m past) position.waits _ _ (λ w. by_until position.until) (λ w. b (time + ms))
  where
    by_until : (u : Option ℕ) → OnlyMade (Else m past) (slept_due u time)
    by_until None = tt
    by_until (Some u) = only_if (Else m past) (nat_le u time) _ _ (λ e. (tt, tt, tt, tt, tt)) (λ e. tt)

else_made : (m : Machine) (past : List Entry) (now : EventNow) (position : ScriptPosition) (asked : Bool) (o : Option Op) → (is_some (holder past) ≡ false → maker past ≡ None) → OnlyMade (Else m past) (step_due m past now position asked o)
else_made m past now position asked None free = (tt, tt, tt, tt, tt)
else_made m past now position asked (Some op.Read) free = only_map (λ k. IsTrue (is_of_count_read k)) (Else m past) (λ k s. read_else k s m past) _ (read_shape now position.waits asked)
else_made m past now position asked (Some (op.Save count)) free = only_map (λ k. IsTrue (is_of_count_save k)) (Else m past) (λ k s. save_else k s m past) _ (save_shape (is_some (holder past)) (is_on past) position.waits asked now (saved_number count position.last_read))
else_made m past now position asked (Some (op.State text if_saved)) free =
    let P : Kind → Type 0 = Else m past in
    only_if P (if_saved && not position.saved) _ _ (λ u. (tt, tt, tt, tt, tt))
    (λ u. only_if P (is_some (holder past)) _ _ (λ h. only_if P position.waits _ _ (λ w. only_if P asked _ _ (λ a. (tt, tt, tt, tt, tt)) (λ a. tt)) (λ w. (tt, tt, tt, tt, tt)))
    (λ h. only_if P (is_on past) _ _ (λ o. (tt, tt, tt, tt, tt)) (λ o. only_if P (is_mem text) _ _ (λ t. ((refl, refl, free h), tt, tt, tt, tt)) (λ t. (tt, tt, tt, tt, tt)))))
else_made m past now position asked (Some (op.Autosleep text)) free =
    let P : Kind → Type 0 = Else m past in
    only_if P (is_mem text || is_off text) _ _
    (λ t. only_if P position.waits _ _ (λ w. (tt, tt, tt, tt, tt)) (λ w. only_if P (is_some (holder past)) _ _ (λ h. tt) (λ h. (tt, tt, tt, tt, tt))))
    (λ t. (tt, tt, tt, tt, tt))
else_made m past now position asked (Some (op.Sleep ms)) free = sleep_else m past kind.Sleep ms position (time_of past) (λ t. (tt, tt, tt, tt, tt))
else_made m past now position asked (Some (op.SleepD ms)) free = sleep_else m past kind.SleepD ms position (time_of past) (λ t. (tt, tt, tt, tt, tt))
else_made m past now position asked (Some op.FreezePoint) free = (tt, tt, tt, tt, tt)
else_made m past now position asked (Some (op.Post mark)) free = (tt, tt, tt, tt, tt)
else_made m past now position asked (Some (op.Wait mark)) free =
    only_if (Else m past) (nat_lt 0 (mark_at (raised (length m.marks) past) mark)) _ _ (λ e. (tt, tt, tt, tt, tt)) (λ e. tt)
else_made m past now position asked (Some (op.Runtime d to_suspended)) free = (tt, refl, tt, tt, tt)
else_made m past now position asked (Some (op.Link supplier consumer)) free = (tt, tt, refl, tt, tt)
else_made m past now position asked (Some (op.LinkState supplier consumer active)) free = (tt, tt, refl, tt, tt)
else_made m past now position asked (Some _) free = tt

autosleep_reads : (past : List Entry) (now : EventNow) (who : Actor) (position : ScriptPosition) (asked : Bool) (text : List ℕ) → OnlyMade (ReadsTask past now who position asked (Some (op.Autosleep text))) (autosleep_due (is_some (holder past)) position.waits (is_mem text) (is_off text))
autosleep_reads past now who position asked text =
    let P : Kind → Type 0 = ReadsTask past now who position asked (Some (op.Autosleep text)) in
    only_if P (is_mem text || is_off text) _ _
    (λ t. only_if P position.waits _ _ (λ w. tt) (λ w. only_if P (is_some (holder past)) _ _ (λ h. tt) (λ h. h)))
    (λ t. t)

-- a sleep is no read
sleep_reads : (past : List Entry) (now : EventNow) (who : Actor) (position : ScriptPosition) (asked : Bool) (o : Option Op) (begins : ℕ → Kind) (ms time : ℕ) → ((t : ℕ) → ReadsTask past now who position asked o (begins t)) → OnlyMade (ReadsTask past now who position asked o) (sleep_due begins ms position time)
sleep_reads past now who position asked o begins ms time b =
    only_if (ReadsTask past now who position asked o) position.waits _ _ (λ w. by_until position.until) (λ w. b (time + ms))
  where
    by_until : (u : Option ℕ) → OnlyMade (ReadsTask past now who position asked o) (slept_due u time)
    by_until None = tt
    by_until (Some u) = only_if (ReadsTask past now who position asked o) (nat_le u time) _ _ (λ e. tt) (λ e. tt)

-- what is due at an operation is read rightly
reads_made : (m : Machine) (past : List Entry) (now : EventNow) (who : Actor) (position : ScriptPosition) (asked : Bool) (o : Option Op) (k : Kind) → KeepsAttempts past k → IsOfOp m past position o k → step_due m past now position asked o ≡ Makes k → ReadsTask past now who position asked o k
reads_made m past now who position asked None kind.Exit a s e = tt
reads_made m past now who position asked None _ a s e = never s
reads_made m past now who position asked (Some op.Read) kind.ReadWait a s e = e
reads_made m past now who position asked (Some op.Read) (kind.Read c) a s e = e
reads_made m past now who position asked (Some op.Read) kind.ReadIntr a s e = e
reads_made m past now who position asked (Some op.Read) _ a s e = never s
reads_made m past now who position asked (Some (op.Save count)) (kind.SaveWait c) a s e = e
reads_made m past now who position asked (Some (op.Save count)) (kind.Saved c) a s e = e
reads_made m past now who position asked (Some (op.Save count)) (kind.SaveErr c r) a s e = e
reads_made m past now who position asked (Some (op.Save count)) _ a s e = never s
reads_made m past now who position asked (Some (op.State text if_saved)) kind.StateWait a s e = e
reads_made m past now who position asked (Some (op.State text if_saved)) (kind.StateErr r) a s e = e
reads_made m past now who position asked (Some (op.State text if_saved)) kind.StateUnsaved a s e = e
reads_made m past now who position asked (Some (op.State text if_saved)) (kind.Attempt n guarded) a s e =
    subst (λ (z : Kind). unless_unsaved if_saved position.saved (state_due (is_some (holder past)) (is_on past) position.waits asked (is_mem text) z) ≡ Makes (kind.Attempt n guarded)) (sym (attempt_is past n guarded a)) e
reads_made m past now who position asked (Some (op.State text if_saved)) _ a s e = never s
reads_made m past now who position asked (Some (op.Autosleep text)) k a s e = only_is _ _ k (autosleep_reads past now who position asked text) e
reads_made m past now who position asked (Some (op.Sleep ms)) k a s e = only_is _ _ k (sleep_reads past now who position asked (Some (op.Sleep ms)) kind.Sleep ms (time_of past) (λ t. tt)) e
reads_made m past now who position asked (Some (op.SleepD ms)) k a s e = only_is _ _ k (sleep_reads past now who position asked (Some (op.SleepD ms)) kind.SleepD ms (time_of past) (λ t. tt)) e
reads_made m past now who position asked (Some op.FreezePoint) kind.Pass a s e = tt
reads_made m past now who position asked (Some op.FreezePoint) _ a s e = never s
reads_made m past now who position asked (Some (op.Post mark)) (kind.Post other) a s e = tt
reads_made m past now who position asked (Some (op.Post mark)) _ a s e = absurd s
reads_made m past now who position asked (Some (op.Wait mark)) k a s e =
    let P : Kind → Type 0 = ReadsTask past now who position asked (Some (op.Wait mark)) in
    only_is P _ k (only_if P (nat_lt 0 (mark_at (raised (length m.marks) past) mark)) _ _ (λ h. tt) (λ h. tt)) e
reads_made m past now who position asked (Some (op.Runtime d to_suspended)) (kind.RuntimeAsk c to x) a s e = tt
reads_made m past now who position asked (Some (op.Runtime d to_suspended)) _ a s e = absurd s
reads_made m past now who position asked (Some (op.Link supplier consumer)) (kind.LinkAdd x y r) a s e = tt
reads_made m past now who position asked (Some (op.Link supplier consumer)) _ a s e = absurd s
reads_made m past now who position asked (Some (op.LinkState supplier consumer active)) (kind.LinkState x y to r) a s e = tt
reads_made m past now who position asked (Some (op.LinkState supplier consumer active)) _ a s e = absurd s
reads_made m past now who position asked (Some _) k a s e = absurd s

-- what a task keeps that is there and may go on
abbrev Goes : Machine → List Entry → EventNow → Actor → Freezing → Bool → ScriptPosition → Option Op → Kind → Type 0
Goes m past now who f user position o k = FreezesBy f (freezes_at user position.waits o) k × IsStep m past user position o k × ReadsTask past now who position f.asked o k × KeepsAttempts past k × KeepsRuntime m past k × KeepsLinks m past k × Plain k

goes_on : (m : Machine) (past : List Entry) (now : EventNow) (who : Actor) (f : Freezing) (user : Bool) (position : ScriptPosition) (o : Option Op) (k : Kind) → f.frozen ≡ false → (f.asked && freezes_at user position.waits o) ≡ false → step_due m past now position f.asked o ≡ Makes k → IsOfOp m past position o k → Else m past k → Goes m past now who f user position o k
goes_on m past now who f user position o kind.Frozen z p e s x = absurd x.4
goes_on m past now who f user position o k z p e s x = ((z, p), s, reads_made m past now who position f.asked o k x.0 s e, x.0, x.1, x.2, x.3)

freezes_made : (m : Machine) (past : List Entry) (now : EventNow) (who : Actor) (f : Freezing) (user : Bool) (position : ScriptPosition) (o : Option Op) → (is_some (holder past) ≡ false → maker past ≡ None) → f.frozen ≡ false → OnlyMade (Goes m past now who f user position o) (cond (f.asked && freezes_at user position.waits o) (Makes kind.Frozen) (step_due m past now position f.asked o))
freezes_made m past now who f user position o free z =
    only_if (Goes m past now who f user position o) (f.asked && freezes_at user position.waits o) _ _
    (λ p. ((z, p), right f.asked (freezes_at user position.waits o) p, no_reads o, tt, tt, tt, tt))
    (λ p. by_due p (step_due m past now position f.asked o) refl)
  where
    right : (a b : Bool) → (a && b) ≡ true → b ≡ true
    right true b e = e
    right false b e = never e

    no_reads : (o : Option Op) → ReadsTask past now who position f.asked o kind.Frozen
    no_reads o = tt

    by_due : (f.asked && freezes_at user position.waits o) ≡ false → (d : Due) → step_due m past now position f.asked o ≡ d → OnlyMade (Goes m past now who f user position o) d
    by_due p (Makes k) e =
        goes_on m past now who f user position o k z p e
        (only_is (IsOfOp m past position o) _ k (shape_made m past now position f.asked o) e)
        (only_is (Else m past) _ k (else_made m past now position f.asked o free) e)
    by_due p (Waits w) e = tt
    by_due p Nothing e = tt

-- what a script keeps outside attempts of its own
abbrev Script : Machine → List Entry → EventNow → Actor → Freezing → Option script.Script → ScriptPosition → Kind → Type 0
Script m past now who f s position k =
    FreezesTask f position.waits (slice_get (steps_of s) position.done) s k × AwakeTask (sleeps_now past) s
    × IsScriptStep m past position (slice_get (steps_of s) position.done) s k × ReadsTask past now who position f.asked (slice_get (steps_of s) position.done) k
    × KeepsAttempts past k × KeepsRuntime m past k × KeepsLinks m past k × Plain k

position_made : (m : Machine) (past : List Entry) (now : EventNow) (who : Actor) (f : Freezing) (s : Option script.Script) (position : ScriptPosition) → (is_some (holder past) ≡ false → maker past ≡ None) → OnlyMade (Script m past now who f s position) (position_due m past now f s position)
position_made m past now who f None position free = tt
position_made m past now who f (Some s) position free =
    let P : Kind → Type 0 = Script m past now who f (Some s) position in
    only_if P position.exited _ _ (λ x. tt)
    (λ x. only_if P f.frozen _ _ (λ z. tt)
    (λ z. only_if P (sleeps_now past && not (is_line s.kind)) _ _ (λ w. tt)
    (λ w. only_map (Goes m past now who f (is_user s.kind) position (slice_get (entry_steps s) position.done)) P
    (λ k g. (g.0, w, (x, g.1), g.2, g.3, g.4, g.5, g.6)) _
    (freezes_made m past now who f (is_user s.kind) position (slice_get (entry_steps s) position.done) free z))))

-- nobody makes an attempt if nobody holds the lock
free_maker : (o h : Option Actor) → HolderOf o h → is_some h ≡ false → o ≡ None
free_maker None h e f = refl
free_maker (Some x) h e f = never (sym (ap is_some (sym e) ∙ f))

script_forth : (m : Machine) (past : List Entry) (now : EventNow) (i : ℕ) (k : Kind) → is_maker past (actor.Script i) ≡ false → JournalPart m past → IsDue m past now (actor.Script i) k → KeepsAll m past now (actor.Script i) k
script_forth m past now i k e j d =
    let own : position_due m past now (freezing m i past) (slice_get m.actors i) (position_of m past i) ≡ Makes k = subst (λ (b : Bool). cond b (attempt_due m past now) (position_due m past now (freezing m i past) (slice_get m.actors i) (position_of m past i)) ≡ Makes k) e d in
    let s : Script m past now (actor.Script i) (freezing m i past) (slice_get m.actors i) (position_of m past i) k = only_is (Script m past now (actor.Script i) (freezing m i past) (slice_get m.actors i) (position_of m past i)) _ k (position_made m past now (actor.Script i) (freezing m i past) (slice_get m.actors i) (position_of m past i) (free_maker (maker past) (holder past) (lock_agrees m past j).0)) own in
    record {
      most = record {
        links = s.6;
        attempts = s.4;
        reads = subst (λ (b : Bool). ReadsActor m past now (actor.Script i) b k) (sym e) s.3;
        walk = plain_walk m past now k s.7;
        skip = plain_skip m past now k s.7;
        runtime = s.5;
        freezer = (subst (λ (b : Bool). FreezesActor m past (actor.Script i) b k) (sym e) s.0, plain_freeze m past now k s.7);
        path = subst (λ (b : Bool). PathOf m past now b k) (sym e) tt;
        answers = plain_answers past k s.7;
        steps = subst (λ (b : Bool). StepsOf m past now (actor.Script i) b k) (sym e) s.2;
        enabled = (subst (λ (b : Bool). AwakeActor m past (actor.Script i) b) (sym e) s.1, plain_wake m past now k s.7);
      };
      owed = plain_owed m past k s.7;
      restored = plain_restored m past k s.7;
    }

-- scripts outside attempts of their own
pub scripts : OneForScripts
scripts m past now i k e = record { keeps = script_forth m past now i k e; makes = script_back m past now i k e }
