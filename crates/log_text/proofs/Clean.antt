-- No name, number or word has a newline, so each line ends at its own.
use Rattle.std.proofs.Common.{◌≡◌, ◌∙◌, ℕ, Bool, true, false, ◌&&◌, nat_lt, nat_le, List, ◌++◌, codes, decimal, length, Option, Some, None, unwrap_or, ℤ, pos, negsuc, suc, refl, sym, ap, arith}
use Rattle.std.proofs.lemmas.Bool.{and_parts}
use Rattle.std.proofs.lemmas.Bool.Decides.{nat_tests}
use Rattle.sleep_base.specs.declared.errno.Errno.{Errno}
use Rattle.sleep_base.specs.declared.errno.Errno.TheVariants.{EINTR, EINVAL}
use Rattle.sleep_base.specs.Errno.{errno_with, errors, name_of}
use Rattle.phase_table.specs.declared.phase.Phase.{Phase}
use Rattle.phase_table.specs.declared.phase.Phase.TheVariants as phase
use Rattle.phase_table.specs.Phases.{phase_name}
use Rattle.sleep_model.specs.declared.entry.Actor.{Actor}
use Rattle.sleep_model.specs.declared.entry.Actor.TheVariants as actor
use Rattle.sleep_model.specs.declared.entry.Entry.{Entry}
use Rattle.sleep_model.specs.declared.entry.FrozeEnd.{FrozeEnd}
use Rattle.sleep_model.specs.declared.entry.FrozeEnd.TheVariants as froze
use Rattle.sleep_model.specs.declared.entry.Group.{Group}
use Rattle.sleep_model.specs.declared.entry.Group.TheVariants as group
use Rattle.sleep_model.specs.declared.entry.Kind.{Kind}
use Rattle.sleep_model.specs.declared.entry.Kind.TheVariants as kind
use Rattle.sleep_model.specs.declared.entry.SkipCause.{SkipCause}
use Rattle.sleep_model.specs.declared.entry.SkipCause.TheVariants as cause
use Rattle.sleep_model.specs.declared.entry.State.TheVariants as state
use Rattle.sleep_model.specs.declared.entry.Thaw.TheVariants as thaw
use Rattle.sleep_model.specs.declared.log.Stats.{Stats}
use Rattle.sleep_model.specs.declared.log.Waiting.{Waiting}
use Rattle.sleep_model.specs.declared.log.Why.{Why}
use Rattle.sleep_model.specs.declared.log.Why.TheVariants as why
use Rattle.sleep_model.specs.declared.machine.Machine.{Machine}
use Rattle.sleep_model.specs.declared.machine.PlatDo.{PlatDo}
use Rattle.sleep_model.specs.declared.machine.PlatDo.TheVariants as down
use Rattle.sleep_model.specs.declared.machine.PlatUndo.TheVariants as up
use Rattle.sleep_model.specs.declared.machine.Script.{Script}
use Rattle.sleep_model.specs.declared.machine.TaskKind.{TaskKind}
use Rattle.sleep_model.specs.declared.machine.TaskKind.TheVariants as task
use Rattle.sleep_model.specs.declared.word.EventNow.{EventNow}
use Rattle.sleep_model.specs.Fits.{fits_kind, fits_froze, fits_actor, fits_word, fits_entry, fits_stats, fits_script, fits_cause, is_answer, is_word32, is_word32_if, is_word64}
use Rattle.sleep_model.specs.Text.{body, space, device, source, notifier, syscore, task as script_name, task_name, answer_text, cause_text, guard_text, froze_text, down_word, group_word, runtime_word, link_word, hard_word, prepare_text, actor_text, script_text, script_word, word_text, counts_text, times_text, waiting_text}
use Rattle.log_text.specs.Named.{AreNamed}
use Rattle.log_text.proofs.Cuts.{is_without, without_append, decimal_no_newline}
use Rattle.log_text.proofs.NumbersBack.{below32, below64}
use Rattle.log_text.proofs.KindsBack.{less, device_bytes, source_bytes, notifier_bytes, syscore_bytes, mark_bytes, task_bytes}
use Rattle.log_text.proofs.EntriesBack.{within}

-- no byte is a newline
abbrev pub is_clean : List ℕ → Bool
is_clean bytes = is_without 10 bytes

-- one text after another
join : (a b : List ℕ) → is_clean a ≡ true → is_clean b ≡ true → is_clean (a ++ b) ≡ true
join a b h k = without_append 10 a b h k

-- and with a space between them
spaced : (a b : List ℕ) → is_clean a ≡ true → is_clean b ≡ true → is_clean (a ++ space ++ b) ≡ true
spaced a b h k = join (a ++ space) b (join a space h refl) k

number32 : (n : ℕ) → is_word32 n ≡ true → is_clean (decimal n) ≡ true
number32 n f = decimal_no_newline n (below32 n f)

number64 : (n : ℕ) → is_word64 n ≡ true → is_clean (decimal n) ≡ true
number64 n f = decimal_no_newline n (below64 n f)

errno_clean : (r : Errno) → is_clean (name_of r) ≡ true
errno_clean EINTR = refl
errno_clean _ = refl

answer_clean : (r : Option Errno) → is_clean (answer_text r) ≡ true
answer_clean None = refl
answer_clean (Some r) = errno_clean r

phase_clean : (p : Phase) → is_clean (phase_name p) ≡ true
phase_clean phase.Prepare = refl
phase_clean _ = refl

cause_clean : (c : SkipCause) → is_clean (cause_text c) ≡ true
cause_clean cause.Error = refl
cause_clean _ = refl

group_clean : (g : Group) → is_clean (group_word g) ≡ true
group_clean group.User = refl
group_clean group.Kernel = refl

down_clean : (d : PlatDo) → is_clean (down_word d) ≡ true
down_clean down.Begin = refl
down_clean _ = refl

runtime_clean : (b : Bool) → is_clean (runtime_word b) ≡ true
runtime_clean true = refl
runtime_clean false = refl

link_clean : (b : Bool) → is_clean (link_word b) ≡ true
link_clean true = refl
link_clean false = refl

hard_clean : (b : Bool) → is_clean (hard_word b) ≡ true
hard_clean true = refl
hard_clean false = refl

guard_clean : (g : Option ℕ) → is_word32_if g ≡ true → is_clean (guard_text g) ≡ true
guard_clean None f = refl
guard_clean (Some c) f = number32 c f

prepare_clean : (r : ℤ) → is_answer r ≡ true → is_clean (prepare_text r) ≡ true
prepare_clean (pos n) f = number32 n (grind (arith, nat_tests))
prepare_clean (negsuc n) f = errno_clean (unwrap_or (errno_with (suc n) errors) EINVAL)

module _ (m : Machine) (named : AreNamed m) where
  froze_clean : (end : FrozeEnd) → fits_froze m end ≡ true → is_clean (froze_text m end) ≡ true
  froze_clean froze.AllFrozen f = refl
  froze_clean (froze.Timeout left x) f =
      let p = and_parts (is_word32 left) (nat_lt x (length m.actors)) f in
      spaced (decimal left) (script_name m x) (number32 left p.0) (task_bytes m named 10 refl x p.1)
  froze_clean (froze.Wakeup left x) f =
      let p = and_parts (is_word32 left) (nat_lt x (length m.actors)) f in
      spaced (decimal left) (script_name m x) (number32 left p.0) (task_bytes m named 10 refl x p.1)

  -- what an entry says has no newline
  pub body_clean : (k : Kind) → fits_kind m k ≡ true → is_clean (body m k) ≡ true
  body_clean kind.Frozen f = refl
  body_clean kind.ReadWait f = refl
  body_clean (kind.Read c) f = number32 c f
  body_clean kind.ReadIntr f = refl
  body_clean (kind.SaveWait c) f = join (decimal c) (codes " wait") (number32 c f) refl
  body_clean (kind.Saved c) f = join (decimal c) (codes " ok") (number32 c f) refl
  body_clean (kind.SaveErr c r) f = spaced (decimal c) (name_of r) (number32 c f) (errno_clean r)
  body_clean kind.StateWait f = refl
  body_clean (kind.StateErr r) f = errno_clean r
  body_clean kind.StateUnsaved f = refl
  body_clean kind.AutoBad f = refl
  body_clean (kind.AutoSet state.Mem) f = refl
  body_clean (kind.AutoSet state.Off) f = refl
  body_clean kind.AutoDone f = refl
  body_clean (kind.Sleep t) f = number64 t f
  body_clean (kind.SleepD t) f = number64 t f
  body_clean kind.Slept f = refl
  body_clean kind.Pass f = refl
  body_clean (kind.Post x) f = mark_bytes m named 10 refl x f
  body_clean (kind.Got x) f = mark_bytes m named 10 refl x f
  body_clean kind.Exit f = refl
  body_clean (kind.RuntimeAsk d to r) f = spaced (device m d ++ space ++ runtime_word to) (answer_text r) (spaced (device m d) (runtime_word to) (device_bytes m named 10 refl d f) (runtime_clean to)) (answer_clean r)
  body_clean (kind.LinkAdd s c r) f =
      let p = and_parts (nat_lt s (length m.devices)) (nat_lt c (length m.devices)) f in
      spaced (device m s ++ space ++ device m c) (answer_text r) (spaced (device m s) (device m c) (device_bytes m named 10 refl s p.0) (device_bytes m named 10 refl c p.1)) (answer_clean r)
  body_clean (kind.LinkState s c to r) f =
      let p = and_parts (nat_lt s (length m.devices)) (nat_lt c (length m.devices)) f in
      let ends = spaced (device m s) (device m c) (device_bytes m named 10 refl s p.0) (device_bytes m named 10 refl c p.1) in
      spaced (device m s ++ space ++ device m c ++ space ++ link_word to) (answer_text r)
      (spaced (device m s ++ space ++ device m c) (link_word to) ends (link_clean to)) (answer_clean r)
  body_clean kind.AutoRun f = refl
  body_clean (kind.AutoSaved c) f = number32 c f
  body_clean (kind.AutoUnsaved c) f = number32 c f
  body_clean (kind.AutoAfter (Some c)) f = number32 c f
  body_clean (kind.AutoAfter None) f = refl
  body_clean kind.AutoAgain f = refl
  body_clean kind.AutoOff f = refl
  body_clean (kind.Awake s) f = source_bytes m named 10 refl s f
  body_clean (kind.Relax s) f = source_bytes m named 10 refl s f
  body_clean (kind.Event s ms hard) f =
      let p = and_parts (nat_le s (length m.sources)) (is_word32 ms) f in
      spaced (source m s ++ space ++ decimal ms) (hard_word hard) (spaced (source m s) (decimal ms) (source_bytes m named 10 refl s p.0) (number32 ms p.1)) (hard_clean hard)
  body_clean (kind.Expire s) f = source_bytes m named 10 refl s f
  body_clean (kind.Start s) f = source_bytes m named 10 refl s f
  body_clean (kind.Finish s) f = source_bytes m named 10 refl s f
  body_clean (kind.Hard s) f = source_bytes m named 10 refl s f
  body_clean kind.Jump f = refl
  body_clean (kind.Attempt n guarded) f =
      let p = and_parts (is_word32 n) (is_word32_if guarded) f in
      spaced (decimal n) (guard_text guarded) (number32 n p.0) (guard_clean guarded p.1)
  body_clean (kind.Over n r) f = spaced (decimal n) (answer_text r) (number32 n f) (answer_clean r)
  body_clean (kind.NotifyPrepare x r) f = join (notifier m x ++ codes " prepare ") (answer_text r) (join (notifier m x) (codes " prepare ") (notifier_bytes m named 10 refl x f) refl) (answer_clean r)
  body_clean (kind.NotifyPost x) f = join (notifier m x) (codes " post") (notifier_bytes m named 10 refl x f) refl
  body_clean (kind.Freeze g) f = group_clean g
  body_clean (kind.Froze g end) f = spaced (group_word g) (froze_text m end) (group_clean g) (froze_clean end f)
  body_clean (kind.Thaw thaw.Kernel) f = refl
  body_clean (kind.Thaw thaw.All) f = refl
  body_clean (kind.PlatformDo what r) f = spaced (down_word what) (answer_text r) (down_clean what) (answer_clean r)
  body_clean (kind.PlatformUndo up.Recover) f = refl
  body_clean (kind.PlatformUndo up.Wake) f = refl
  body_clean (kind.PlatformUndo up.Finish) f = refl
  body_clean (kind.PlatformUndo up.End) f = refl
  body_clean (kind.Prepare d r) f =
      let p = and_parts (nat_lt d (length m.devices)) (is_answer r) f in
      spaced (device m d) (prepare_text r) (device_bytes m named 10 refl d p.0) (prepare_clean r p.1)
  body_clean (kind.Complete d) f = device_bytes m named 10 refl d f
  body_clean (kind.Schedule p d) f = spaced (phase_name p) (device m d) (phase_clean p) (device_bytes m named 10 refl d f)
  body_clean (kind.Begin p d) f = spaced (phase_name p) (device m d) (phase_clean p) (device_bytes m named 10 refl d f)
  body_clean (kind.End p d r) f = spaced (phase_name p ++ space ++ device m d) (answer_text r) (spaced (phase_name p) (device m d) (phase_clean p) (device_bytes m named 10 refl d f)) (answer_clean r)
  body_clean (kind.Skip p d c) f = spaced (phase_name p ++ space ++ device m d) (cause_text c) (spaced (phase_name p) (device m d) (phase_clean p) (device_bytes m named 10 refl d f)) (cause_clean c)
  body_clean (kind.Done p r) f = spaced (phase_name p) (answer_text r) (phase_clean p) (answer_clean r)
  body_clean (kind.CpuOff k) f = number32 k f
  body_clean (kind.CpuBusy k) f = number32 k f
  body_clean (kind.CpuOn k) f = number32 k f
  body_clean (kind.Irqs true) f = refl
  body_clean (kind.Irqs false) f = refl
  body_clean (kind.SyscoreCheck r) f = answer_clean r
  body_clean (kind.SyscoreSuspend x r) f = spaced (syscore m x) (answer_text r) (syscore_bytes m named 10 refl x f) (answer_clean r)
  body_clean (kind.SyscoreResume x) f = syscore_bytes m named 10 refl x f
  body_clean (kind.Enter true) f = refl
  body_clean (kind.Enter false) f = refl
  body_clean (kind.Wake true) f = refl
  body_clean (kind.Wake false) f = refl
  body_clean kind.Clear f = refl

  script_clean : (k : TaskKind) (n : List ℕ) → is_clean n ≡ true → is_clean (script_word k ++ n) ≡ true
  script_clean task.Irq n h = h
  script_clean _ n h = h

  -- who makes it has none
  pub actor_clean : (a : Actor) → fits_actor m a ≡ true → is_clean (actor_text m a) ≡ true
  actor_clean (actor.Script i) f =
      let s = within m.actors i (less i (length m.actors) f) in
      ap (λ (o : Option Script). is_clean (script_text o)) s.1
      ∙ script_clean s.0.kind s.0.name (ap (λ (o : Option Script). is_clean (task_name o)) (sym s.1) ∙ task_bytes m named 10 refl i f)
  actor_clean actor.Auto f = refl
  actor_clean (actor.Dev d) f = device_bytes m named 10 refl d f
  actor_clean (actor.Timer s) f = source_bytes m named 10 refl s f
  actor_clean actor.Time f = refl

  word_clean : (now : EventNow) → fits_word now ≡ true → is_clean (word_text now) ≡ true
  word_clean now f =
      let p = and_parts (is_word32 now.inpr && is_word32 now.count) (is_word32 now.hard) f in
      let q = and_parts (is_word32 now.inpr) (is_word32 now.count) p.0 in
      join (decimal now.inpr ++ codes "/" ++ decimal now.count ++ codes "/") (decimal now.hard)
      (join (decimal now.inpr ++ codes "/" ++ decimal now.count) (codes "/")
      (join (decimal now.inpr ++ codes "/") (decimal now.count) (join (decimal now.inpr) (codes "/") (number32 now.inpr q.0) refl) (number32 now.count q.1)) refl) (number32 now.hard p.1)

  -- an entry's line has none but its own
  pub entry_clean : (e : Entry) → fits_entry m e ≡ true → is_clean (decimal e.time ++ space ++ word_text e.now ++ space ++ actor_text m e.actor ++ space ++ body m e.kind) ≡ true
  entry_clean e f =
      let r = and_parts (is_word64 e.time && fits_word e.now && fits_actor m e.actor) (fits_kind m e.kind) f in
      let q = and_parts (is_word64 e.time && fits_word e.now) (fits_actor m e.actor) r.0 in
      let p = and_parts (is_word64 e.time) (fits_word e.now) q.0 in
      spaced (decimal e.time ++ space ++ word_text e.now ++ space ++ actor_text m e.actor) (body m e.kind)
      (spaced (decimal e.time ++ space ++ word_text e.now) (actor_text m e.actor)
      (spaced (decimal e.time) (word_text e.now) (number64 e.time p.0) (word_clean e.now p.1)) (actor_clean e.actor q.1)) (body_clean e.kind r.1)

  waiting_clean : (w : Why) → fits_cause m w ≡ true → is_clean (waiting_text m w) ≡ true
  waiting_clean why.InProgress f = refl
  waiting_clean (why.Mark x) f = mark_bytes m named 10 refl x f
  waiting_clean _ f = absurd (cc)

  script_fits : (a : Actor) → fits_script m a ≡ true → fits_actor m a ≡ true
  script_fits (actor.Script i) f = f
  script_fits _ f = absurd (cc)

  -- nor a stuck script's
  pub stuck_clean : (w : Waiting) → fits_script m w.actor ≡ true → fits_cause m w.why ≡ true → is_clean (codes "stuck " ++ actor_text m w.actor ++ space ++ waiting_text m w.why) ≡ true
  stuck_clean w f g = spaced (codes "stuck " ++ actor_text m w.actor) (waiting_text m w.why) (actor_clean w.actor (script_fits w.actor f)) (waiting_clean w.why g)

-- nor a source's
pub source_clean : (name : List ℕ) (s : Stats) → is_clean name ≡ true → fits_stats s ≡ true → is_clean (codes "source " ++ name ++ counts_text s ++ times_text s) ≡ true
source_clean name s h f =
    let g = and_parts _ (is_word64 s.last_time) f in
    let e = and_parts _ (is_word64 s.max_time) g.0 in
    let d = and_parts _ (is_word64 s.total_time) e.0 in
    let c = and_parts _ (is_word64 s.active_time) d.0 in
    let b = and_parts _ (is_word32 s.expire_count) c.0 in
    let a = and_parts (is_word32 s.active_count) (is_word32 s.event_count) b.0 in
    join (codes "source " ++ name ++ counts_text s) (times_text s)
    (join (codes "source " ++ name) (counts_text s) h
    (spaced (space ++ decimal s.active_count ++ space ++ decimal s.event_count) (decimal s.expire_count) (spaced (space ++ decimal s.active_count) (decimal s.event_count) (number32 s.active_count a.0) (number32 s.event_count a.1)) (number32 s.expire_count b.1)))
    (spaced (space ++ decimal s.active_time ++ space ++ decimal s.total_time ++ space ++ decimal s.max_time) (decimal s.last_time)
    (spaced (space ++ decimal s.active_time ++ space ++ decimal s.total_time) (decimal s.max_time)
    (spaced (space ++ decimal s.active_time) (decimal s.total_time) (number64 s.active_time c.1) (number64 s.total_time d.1)) (number64 s.max_time e.1)) (number64 s.last_time g.1))
