-- Who makes the open attempt: what is due is what keeps all rules.
use Rattle.std.proofs.Common.{◌≡◌, ◌∙◌, Bool, true, false, List, ◌∷◌, Option, Some, None, is_some, cond, refl, sym, subst}
use Rattle.sleep_model.specs.declared.entry.Actor.{Actor}
use Rattle.sleep_model.specs.declared.entry.Actor.TheVariants as actor
use Rattle.sleep_model.specs.declared.entry.Entry.{Entry}
use Rattle.sleep_model.specs.declared.entry.Kind.{Kind}
use Rattle.sleep_model.specs.declared.entry.Kind.TheVariants as kind
use Rattle.sleep_model.specs.declared.machine.Machine.{Machine}
use Rattle.sleep_model.specs.declared.progress.Due.TheVariants.{Makes, Nothing}
use Rattle.sleep_model.specs.declared.progress.Stage.{Stage}
use Rattle.sleep_model.specs.declared.progress.Stage.TheVariants as stage
use Rattle.sleep_model.specs.declared.word.EventNow.{EventNow}
use Rattle.sleep_model.specs.Attempt.{attempt_due}
use Rattle.sleep_model.specs.Devices.{callback}
use Rattle.sleep_model.specs.Due.{own_due}
use Rattle.sleep_model.specs.Laws.{AnswersFailure}
use Rattle.sleep_model.specs.Legal.{JournalPart, JournalStep}
use Rattle.sleep_model.specs.Numbers.{time_of}
use Rattle.sleep_model.specs.EntryClasses.{class_of}
use Rattle.sleep_model.specs.Path.{maker, is_actor}
use Rattle.sleep_model.specs.Table.{stage_of}
use Rattle.sleep_laws.proofs.Answering.{answers_failure}
use Rattle.sleep_laws.proofs.Boards.{three}
use Rattle.sleep_laws.proofs.DeviceLaws.{all_owed, all_restored}
use Rattle.sleep_laws.proofs.Making.{ProperIf}
use Rattle.sleep_laws.proofs.Passing.{device_phases, device_phases_made}
use Rattle.sleep_laws.proofs.DevicePhases.{CallIf, DevicePhases}
use Rattle.rule_definitions.specs.All.{KeepsAll, KeepsMost}
use Rattle.rule_definitions.specs.Answers.{KeepsAnswers}
use Rattle.rule_definitions.specs.Enabled.{AwakeActor}
use Rattle.rule_definitions.specs.Freezer.{FreezesActor, FreezesNot}
use Rattle.rule_definitions.specs.Law.{IsDue, AreOne, OneForMakers, OneForAll, OwedFollows}
use Rattle.rule_definitions.specs.Path.{IsOfRow, IsOfRowIf, PathOf}
use Rattle.rule_definitions.specs.Questions.{is_maker, row_at, row_now}
use Rattle.rule_definitions.specs.Reads.{ReadsActor, ReadsElse}
use Rattle.rule_definitions.specs.Steps.{IsMakerStep, StepsOf}
use Rattle.log_rules.proofs.Devices.{the_devices}
use Rattle.log_rules.proofs.Facts.{never, only_is, gone, owed_preserved}
use Rattle.log_rules.proofs.RulesAtRows.{row_back}
use Rattle.log_rules.proofs.Making.{PhaseAnswers, RowKeepsRules, row_made}
use Rattle.log_rules.proofs.Rows.{due_in_row, maker_due, comes, row_proper}
use Rattle.log_rules.proofs.Scripts.{scripts}
use Rattle.log_rules.proofs.Work.{the_work}

-- ---- what keeps all rules is due

back : (m : Machine) (past : List Entry) (now : EventNow) (who : Actor) (k : Kind) → is_maker past who ≡ true → KeepsMost m past now who k → IsDue m past now who k
back m past now who k e h = rw e (maker_due m past now ∙ by_row (row_now m past) refl (row_proper m past) (subst (λ (b : Bool). PathOf m past now b k) e h.path) (subst (λ (b : Bool). StepsOf m past now who b k) e h.steps))
  where
    by_row : (o : Option Stage) → row_now m past ≡ o → ProperIf o → IsOfRowIf m past now o k → IsMakerStep m k → due_in_row m past now o ≡ Makes k
    by_row None f i p s = absurd p
    by_row (Some row) f i p s = row_back m past now row k i f p h.attempts h.walk h.skip h.freezer.1 h.answers h.enabled.1 s

-- ---- what is due keeps all rules

-- an entry of the journal that is no jump
abbrev IsJournal : Kind → Type 0
IsJournal (kind.Awake s) = ⊥
IsJournal (kind.Relax s) = ⊥
IsJournal (kind.Event s ms hard) = ⊥
IsJournal (kind.Expire s) = ⊥
IsJournal (kind.Start s) = ⊥
IsJournal (kind.Finish s) = ⊥
IsJournal (kind.Hard s) = ⊥
IsJournal kind.Jump = ⊥
IsJournal _ = Unit {0}

row_journal : (m : Machine) (past : List Entry) (now : EventNow) (s : Stage) (k : Kind) → IsOfRow m past now s k → IsJournal k
row_journal m past now stage.Ends kind.Jump o = o
row_journal m past now _ (kind.Awake s) o = o
row_journal m past now _ (kind.Relax s) o = o
row_journal m past now _ (kind.Event s ms hard) o = o
row_journal m past now _ (kind.Expire s) o = o
row_journal m past now _ (kind.Start s) o = o
row_journal m past now _ (kind.Finish s) o = o
row_journal m past now _ (kind.Hard s) o = o
row_journal m past now _ kind.Jump o = o
row_journal m past now s _ o = tt

-- the entry, at its index
abbrev placed : List Entry → EventNow → Actor → Kind → Entry
placed past now who k = record { time = time_of past; now = now; actor = who; kind = k }

is_step : (m : Machine) (past : List Entry) (now : EventNow) (who : Actor) (k : Kind) → IsJournal k → IsDue m past now who k → JournalStep m past (placed past now who k) (class_of k)
is_step m past now who (kind.Awake s) h e = absurd h
is_step m past now who (kind.Relax s) h e = absurd h
is_step m past now who (kind.Event s ms hard) h e = absurd h
is_step m past now who (kind.Expire s) h e = absurd h
is_step m past now who (kind.Start s) h e = absurd h
is_step m past now who (kind.Finish s) h e = absurd h
is_step m past now who (kind.Hard s) h e = absurd h
is_step m past now who kind.Jump h e = absurd h
is_step m past now who _ h e = (e, refl)

-- an attempt reads, saves and writes nothing
reads_else : (m : Machine) (past : List Entry) (now : EventNow) (who : Actor) (k : Kind) → IsMakerStep m k → ReadsElse past now who k
reads_else m past now who kind.ReadWait s = absurd s
reads_else m past now who (kind.Read c) s = absurd s
reads_else m past now who kind.ReadIntr s = absurd s
reads_else m past now who (kind.SaveWait c) s = absurd s
reads_else m past now who (kind.Saved c) s = absurd s
reads_else m past now who (kind.SaveErr c r) s = absurd s
reads_else m past now who kind.StateWait s = absurd s
reads_else m past now who (kind.StateErr r) s = absurd s
reads_else m past now who kind.StateUnsaved s = absurd s
reads_else m past now who (kind.AutoSaved c) s = absurd s
reads_else m past now who (kind.AutoUnsaved c) s = absurd s
reads_else m past now who _ s = tt

no_reads : (m : Machine) (past : List Entry) (now : EventNow) (who : Actor) (k : Kind) → IsMakerStep m k → ReadsActor m past now who true k
no_reads m past now (actor.Script i) k s = reads_else m past now (actor.Script i) k s
no_reads m past now who k s = reads_else m past now who k s

row_freezes_not : (m : Machine) (past : List Entry) (now : EventNow) (s : Stage) (k : Kind) → IsOfRow m past now s k → FreezesNot k
row_freezes_not m past now stage.Ends kind.Frozen o = o
row_freezes_not m past now _ kind.Frozen o = o
row_freezes_not m past now s _ o = tt

no_freeze : (m : Machine) (past : List Entry) (who : Actor) (k : Kind) → FreezesNot k → FreezesActor m past who true k
no_freeze m past (actor.Script i) k h = h
no_freeze m past _ k h = h

no_sleep : (m : Machine) (past : List Entry) (who : Actor) → AwakeActor m past who true
no_sleep m past (actor.Script i) = tt
no_sleep m past _ = tt

walk_step : (m : Machine) (past : List Entry) (now : EventNow) (who : Actor) (k : Kind) → IsMakerStep m k → StepsOf m past now who true k
walk_step m past now (actor.Script i) k h = h
walk_step m past now _ k h = h

all_answers : (past : List Entry) (k : Kind) → PhaseAnswers past k → AnswersFailure past k → KeepsAnswers past k
all_answers past (kind.Done p r) a f = a
all_answers past _ a f = f

-- a maker makes an open attempt
maker_there : (who : Actor) (o : Option Actor) → is_actor who o ≡ true → is_some o ≡ true
maker_there who None e = never e
maker_there who (Some x) e = refl

-- the callback that the maker runs is one of the row's
pub call_row : (m : Machine) (past : List Entry) → JournalPart m past → CallIf m (row_now m past) (callback past) (three m past)
call_row m past j = by_stage (stage_of past) refl
  where
    by_stage : (o : Option Stage) → stage_of past ≡ o → CallIf m (row_at m past o) (callback past) (three m past)
    by_stage None e = (subst (DevicePhases m past) e (device_phases m past j)).1
    by_stage (Some here) e = (device_phases_made m past j here _ e (comes m past here)).1

forth : (m : Machine) (past : List Entry) (now : EventNow) (who : Actor) (k : Kind) → is_maker past who ≡ true → JournalPart m past → IsDue m past now who k → KeepsAll m past now who k
forth m past now who k e j x = by_row (row_now m past) refl (row_proper m past) (call_row m past j) (sym (maker_due m past now) ∙ subst (λ (b : Bool). cond b (attempt_due m past now) (own_due m past who now) ≡ Makes k) e x)
  where
    filled : (s : Stage) → row_now m past ≡ Some s → RowKeepsRules m past now s k → KeepsAll m past now who k
    filled s f r =
        let legal : JournalPart m (placed past now who k ∷ past) = (is_step m past now who k (row_journal m past now s k r.of_row) x, j) in
        record {
          most = record {
            links = r.links;
            attempts = r.attempts;
            reads = subst (λ (b : Bool). ReadsActor m past now who b k) (sym e) (no_reads m past now who k r.beside);
            walk = r.walk;
            skip = r.skip;
            runtime = r.runtime;
            freezer = (subst (λ (b : Bool). FreezesActor m past who b k) (sym e) (no_freeze m past who k (row_freezes_not m past now s k r.of_row)), r.freeze);
            path = subst (λ (b : Bool). PathOf m past now b k) (sym e) (subst (λ (o : Option Stage). IsOfRowIf m past now o k) (sym f) r.of_row);
            answers = all_answers past k r.answers (answers_failure m past (placed past now who k) legal);
            steps = subst (λ (b : Bool). StepsOf m past now who b k) (sym e) (walk_step m past now who k r.beside);
            enabled = (subst (λ (b : Bool). AwakeActor m past who b) (sym e) (no_sleep m past who), r.wakes);
          };
          owed = owed_preserved m past k (all_owed m past (placed past now who k) legal);
          restored = all_restored m past (placed past now who k) legal;
        }

    by_row : (o : Option Stage) → row_now m past ≡ o → ProperIf o → CallIf m o (callback past) (three m past) → due_in_row m past now o ≡ Makes k → KeepsAll m past now who k
    by_row None f i c d = absurd (gone k d)
    by_row (Some s) f i c d = filled s f (only_is (RowKeepsRules m past now s) _ k (row_made m past now s i f (maker_there who (maker past) e) c) d)

-- who makes the open attempt
pub the_makers : OneForMakers
the_makers m past now who k e = record { keeps = forth m past now who k e; makes = back m past now who k e }

-- ---- all

-- timers and time make nothing of the journal of their own
none_makes : (m : Machine) (past : List Entry) (now : EventNow) (who : Actor) (k : Kind) → is_maker past who ≡ false → own_due m past who now ≡ Nothing → (KeepsMost m past now who k → ⊥) → AreOne m past now who k
none_makes m past now who k e g n = record {
  keeps = λ j d. absurd (gone k (sym g ∙ subst (λ (b : Bool). cond b (attempt_due m past now) (own_due m past who now) ≡ Makes k) e d));
  makes = λ h. absurd (n h);
}

-- each actor
pub all : OneForAll
all m past now who k = by_role who (is_maker past who) refl
  where
    by_role : (who : Actor) (b : Bool) → is_maker past who ≡ b → AreOne m past now who k
    by_role who true e = the_makers m past now who k e
    by_role (actor.Script i) false e = scripts m past now i k e
    by_role actor.Auto false e = the_work m past now k e
    by_role (actor.Dev d) false e = the_devices m past now d k e
    by_role (actor.Timer s) false e = none_makes m past now (actor.Timer s) k e refl (λ h. subst (λ (b : Bool). StepsOf m past now (actor.Timer s) b k) e h.steps)
    by_role actor.Time false e = none_makes m past now actor.Time k e refl (λ h. subst (λ (b : Bool). StepsOf m past now actor.Time b k) e h.steps)

-- what is owed, and what is restored, follow from the other rules
pub owed_follows : OwedFollows
owed_follows m past now who k j h =
    let kept : KeepsAll m past now who k = (all m past now who k).keeps j ((all m past now who k).makes h) in
    (kept.owed, kept.restored)
