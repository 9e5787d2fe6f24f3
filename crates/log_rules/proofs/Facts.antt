-- Small facts on what is due, and the kinds that most rules say nothing of.
use Rattle.std.proofs.Common.{◌≡◌, ℕ, Bool, true, false, List, Option, Some, None, is_some, cond, refl, sym, subst}
use Rattle.std.proofs.lemmas.Bool.{true≢false}
use Rattle.sleep_model.specs.declared.entry.Entry.{Entry}
use Rattle.sleep_model.specs.declared.entry.Kind.{Kind}
use Rattle.sleep_model.specs.declared.entry.Kind.TheVariants as kind
use Rattle.sleep_model.specs.declared.machine.Machine.{Machine}
use Rattle.sleep_model.specs.declared.progress.Due.{Due}
use Rattle.sleep_model.specs.declared.progress.Due.TheVariants.{Makes, Waits, Nothing}
use Rattle.sleep_model.specs.declared.progress.Sleep.{Sleep}
use Rattle.sleep_model.specs.declared.word.EventNow.{EventNow}
use Rattle.sleep_model.specs.Attempt.{freeze_since, sleep_of}
use Rattle.sleep_model.specs.Laws.{Owed, Restored}
use Rattle.sleep_model.specs.EntryClasses.{EntryClass, OfJournal, OfTime}
use Rattle.rule_definitions.specs.Answers.{KeepsAnswers}
use Rattle.rule_definitions.specs.Enabled.{WakesBy}
use Rattle.rule_definitions.specs.Freezer.{FreezeEnds}
use Rattle.rule_definitions.specs.Owed.{KeepsOwed}
use Rattle.rule_definitions.specs.Skip.{KeepsSkip}
use Rattle.rule_definitions.specs.Walk.{KeepsWalk}
use Rattle.sleep_laws.proofs.Making.{OnlyMade}

pub never : {A : Type 0} → false ≡ true → A
never e = absurd (true≢false (sym e))

pub only_if : (P : Kind → Type 0) (b : Bool) (x y : Due) → (b ≡ true → OnlyMade P x) → (b ≡ false → OnlyMade P y) → OnlyMade P (cond b x y)
only_if P true x y f g = f refl
only_if P false x y f g = g refl

-- what holds of the kind that is due holds of this kind
pub only_is : (P : Kind → Type 0) (d : Due) (k : Kind) → OnlyMade P d → d ≡ Makes k → P k
only_is P d k h e = subst (OnlyMade P) e h

-- what holds of what is due, and what follows from it
pub only_map : (P Q : Kind → Type 0) → ((k : Kind) → P k → Q k) → (d : Due) → OnlyMade P d → OnlyMade Q d
only_map P Q f (Makes k) h = f k h
only_map P Q f (Waits w) h = tt
only_map P Q f Nothing h = tt

-- what is due is itself due
pub itself : (d : Due) → OnlyMade (λ k. d ≡ Makes k) d
itself (Makes k) = refl
itself (Waits w) = tt
itself Nothing = tt

-- nothing is due
abbrev IsExited : Due → Type 0
IsExited Nothing = Unit {0}
IsExited _ = ⊥

pub gone : (k : Kind) → Nothing ≡ Makes k → ⊥
gone k e = subst IsExited e tt

-- an entry of the journal is none of time
abbrev IsOfJournal : EntryClass → Type 0
IsOfJournal OfJournal = Unit {0}
IsOfJournal _ = ⊥

pub journal_no_time : OfJournal ≡ OfTime → ⊥
journal_no_time e = subst IsOfJournal e tt

pub is_none : {A : Type 0} (o : Option A) → is_some o ≡ false → o ≡ None
is_none None e = refl
is_none (Some x) e = never (sym e)

-- an entry of a task or of the work outside attempts: of the attempt's rules none speaks of it
abbrev pub Plain : Kind → Type 0
Plain (kind.Prepare d r) = ⊥
Plain (kind.Complete d) = ⊥
Plain (kind.Schedule p d) = ⊥
Plain (kind.Begin p d) = ⊥
Plain (kind.End p d r) = ⊥
Plain (kind.Skip p d cause) = ⊥
Plain (kind.Done p r) = ⊥
Plain (kind.Over n r) = ⊥
Plain (kind.Froze g end) = ⊥
Plain (kind.NotifyPost x) = ⊥
Plain (kind.SyscoreResume x) = ⊥
Plain (kind.CpuOn x) = ⊥
Plain (kind.Irqs on) = ⊥
Plain (kind.PlatformUndo step) = ⊥
Plain (kind.Wake by_event) = ⊥
Plain _ = Unit {0}

pub plain_walk : (m : Machine) (past : List Entry) (now : EventNow) (k : Kind) → Plain k → KeepsWalk m past now k
plain_walk m past now (kind.Prepare d r) h = absurd h
plain_walk m past now (kind.Complete d) h = absurd h
plain_walk m past now (kind.Schedule p d) h = absurd h
plain_walk m past now (kind.Begin p d) h = absurd h
plain_walk m past now (kind.End p d r) h = absurd h
plain_walk m past now (kind.Done p r) h = absurd h
plain_walk m past now _ h = tt

pub plain_skip : (m : Machine) (past : List Entry) (now : EventNow) (k : Kind) → Plain k → KeepsSkip m past now k
plain_skip m past now (kind.Skip p d cause) h = absurd h
plain_skip m past now (kind.Begin p d) h = absurd h
plain_skip m past now _ h = tt

pub plain_owed : (m : Machine) (past : List Entry) (k : Kind) → Plain k → KeepsOwed m past k
plain_owed m past (kind.Complete d) h = absurd h
plain_owed m past (kind.Schedule p d) h = absurd h
plain_owed m past (kind.Begin p d) h = absurd h
plain_owed m past (kind.End p d r) h = absurd h
plain_owed m past (kind.NotifyPost x) h = absurd h
plain_owed m past (kind.SyscoreResume x) h = absurd h
plain_owed m past (kind.CpuOn x) h = absurd h
plain_owed m past (kind.Irqs on) h = absurd h
plain_owed m past (kind.PlatformUndo step) h = absurd h
plain_owed m past (kind.Wake by_event) h = absurd h
plain_owed m past _ h = tt

pub plain_answers : (past : List Entry) (k : Kind) → Plain k → KeepsAnswers past k
plain_answers past (kind.Done p r) h = absurd h
plain_answers past (kind.Over n r) h = absurd h
plain_answers past _ h = tt

pub plain_restored : (m : Machine) (past : List Entry) (k : Kind) → Plain k → Restored m past k
plain_restored m past (kind.Over n r) h = absurd h
plain_restored m past _ h = tt

-- no end of a freeze
abbrev pub NoFroze : Kind → Type 0
NoFroze (kind.Froze g end) = ⊥
NoFroze _ = Unit {0}

-- no waking
abbrev pub NoWake : Kind → Type 0
NoWake (kind.Wake by_event) = ⊥
NoWake _ = Unit {0}

pub freeze_else : (m : Machine) (past : List Entry) (now : EventNow) (o : Option ℕ) (k : Kind) → NoFroze k → FreezeEnds m past now o k
freeze_else m past now None (kind.Froze g end) h = absurd h
freeze_else m past now None _ h = tt
freeze_else m past now (Some s) (kind.Froze g end) h = absurd h
freeze_else m past now (Some s) _ h = tt

pub wake_else : (m : Machine) (past : List Entry) (now : EventNow) (o : Option Sleep) (k : Kind) → NoWake k → WakesBy m past now o k
wake_else m past now None (kind.Wake by_event) h = absurd h
wake_else m past now None _ h = tt
wake_else m past now (Some s) (kind.Wake by_event) h = absurd h
wake_else m past now (Some s) _ h = tt

no_froze : (k : Kind) → Plain k → NoFroze k
no_froze (kind.Froze g end) h = h
no_froze _ h = tt

no_wake : (k : Kind) → Plain k → NoWake k
no_wake (kind.Wake by_event) h = h
no_wake _ h = tt

pub plain_freeze : (m : Machine) (past : List Entry) (now : EventNow) (k : Kind) → Plain k → FreezeEnds m past now (freeze_since past) k
plain_freeze m past now k h = freeze_else m past now (freeze_since past) k (no_froze k h)

pub plain_wake : (m : Machine) (past : List Entry) (now : EventNow) (k : Kind) → Plain k → WakesBy m past now (sleep_of past) k
plain_wake m past now k h = wake_else m past now (sleep_of past) k (no_wake k h)

-- what is owed, waking left out
pub owed_preserved : (m : Machine) (past : List Entry) (k : Kind) → Owed m past k → KeepsOwed m past k
owed_preserved m past (kind.Wake by_event) h = tt
owed_preserved m past _ h = h
