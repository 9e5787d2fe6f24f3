-- What an entry says is read back.
use Rattle.std.proofs.Common.{◌≡◌, ◌∙◌, ℕ, zero, suc, ◌<◌, ◌≤◌, Bool, true, false, nat_lt, nat_le, List, [], ◌∷◌, ◌++◌, codes, decimal, length, map, Option, Some, None, refl, sym, ap, arith, append_assoc}
use Rattle.std.specs.Prelude.{slice_get, option_map, ℤ}
use Rattle.std.specs.Str.{bytes_eq}
use Rattle.std.proofs.lemmas.Bool.{and_parts}
use Rattle.std.proofs.lemmas.Bool.Decides.{nat_tests}
use Rattle.std.proofs.lemmas.List.{length-append, length-map}
use Rattle.sleep_base.specs.declared.errno.Errno.{Errno}
use Rattle.sleep_base.specs.Errno.{name_of}
use Rattle.phase_table.specs.declared.phase.Phase.{Phase}
use Rattle.phase_table.specs.Phases.{phase_name}
use Rattle.sleep_model.specs.declared.entry.FrozeEnd.{FrozeEnd}
use Rattle.sleep_model.specs.declared.entry.FrozeEnd.TheVariants as froze
use Rattle.sleep_model.specs.declared.entry.Kind.{Kind}
use Rattle.sleep_model.specs.declared.entry.Kind.TheVariants as kind
use Rattle.sleep_model.specs.declared.entry.SkipCause.{SkipCause}
use Rattle.sleep_model.specs.declared.entry.State.TheVariants as state
use Rattle.sleep_model.specs.declared.entry.Group.{Group}
use Rattle.sleep_model.specs.declared.entry.Thaw.TheVariants as thaw
use Rattle.sleep_model.specs.declared.machine.Device.{Device}
use Rattle.sleep_model.specs.declared.machine.Machine.{Machine}
use Rattle.sleep_model.specs.declared.machine.Notifier.{Notifier}
use Rattle.sleep_model.specs.declared.machine.PlatDo.{PlatDo}
use Rattle.sleep_model.specs.declared.machine.PlatDo.TheVariants as down
use Rattle.sleep_model.specs.declared.machine.PlatUndo.TheVariants as up
use Rattle.sleep_model.specs.declared.machine.Script.{Script}
use Rattle.sleep_model.specs.Fits.{fits_kind, fits_froze, is_answer, is_word32, is_word32_if}
use Rattle.sleep_model.specs.Text.{body, space, device, device_name, source, source_names, notifier, notifier_name, syscore, mark, task, task_name, name_in, answer_text, cause_text, guard_text, froze_text, down_word, group_word, runtime_word, link_word, hard_word, prepare_text}
use Rattle.sleep_model.specs.NameBytes.{is_name_byte}
use Rattle.log_text.specs.Named.{AreNamed, device_names, notifier_names, script_names}
use Rattle.log_text.specs.Cutting.{word, rest, word32}
use Rattle.log_text.specs.Reading.{kind_in, device_in, source_in, mark_in, notifier_in, syscore_in, script_in, read_kind, save_kind, runtime_kind, link_kind, link_state_kind, link_state_to, event_kind, prepare_kind, schedule_kind, begin_kind, end_kind, skip_kind, attempt_kind, over_kind, notify_kind, failed_in, failed_end, froze_in, froze_kind, kind_by, task_by, platform_kind, syscore_down}
use Rattle.log_text.specs.Words.{answer_in, cause_in, phase_in, group_in}
use Rattle.log_words.specs.declared.verb.Verb.TheVariants as verb
use Rattle.log_text.proofs.Cuts.{is_without, before_at, after_at, decimal_no_space, name_without}
use Rattle.log_text.proofs.NumbersBack.{word32_back, word64_back, below32}
use Rattle.log_text.proofs.Finds.{place_back, bytes_of}
use Rattle.log_text.proofs.WordsBack.{answer_back, phase_back, cause_back, group_back, phase_plain, group_plain, save_err, state_err, prepare_back}

-- the first word of two
pub first : (w x : List ℕ) → is_without 32 w ≡ true → word (w ++ 32 ∷ x) ≡ w
first w x h = before_at 32 w x h

-- what follows it
pub second : (w x : List ℕ) → is_without 32 w ≡ true → rest (w ++ 32 ∷ x) ≡ x
second w x h = after_at 32 w x h

-- two texts with a space between them
pub two : (a b : List ℕ) → a ++ space ++ b ≡ a ++ 32 ∷ b
two a b = append_assoc a space b

-- three
pub three : (a b c : List ℕ) → a ++ space ++ b ++ space ++ c ≡ a ++ 32 ∷ (b ++ 32 ∷ c)
three a b c = append_assoc (a ++ space ++ b) space c ∙ append_assoc (a ++ space) b (32 ∷ c) ∙ append_assoc a space (b ++ 32 ∷ c)

four : (a b c d : List ℕ) → a ++ space ++ b ++ space ++ c ++ space ++ d ≡ a ++ 32 ∷ (b ++ 32 ∷ (c ++ 32 ∷ d))
four a b c d = append_assoc (a ++ space ++ b ++ space ++ c) space d ∙ append_assoc (a ++ space ++ b ++ space) c (32 ∷ d) ∙ three a b (c ++ 32 ∷ d)

device_is : (xs : List Device) (i : ℕ) → name_in (slice_get (map (λ d. d.name) xs) i) ≡ device_name (slice_get xs i)
device_is [] i = refl
device_is (x ∷ xs) zero = refl
device_is (x ∷ xs) (suc i) = device_is xs i

notifier_is : (xs : List Notifier) (i : ℕ) → name_in (slice_get (map (λ d. d.name) xs) i) ≡ notifier_name (slice_get xs i)
notifier_is [] i = refl
notifier_is (x ∷ xs) zero = refl
notifier_is (x ∷ xs) (suc i) = notifier_is xs i

task_is : (xs : List Script) (i : ℕ) → name_in (slice_get (map (λ d. d.name) xs) i) ≡ task_name (slice_get xs i)
task_is [] i = refl
task_is (x ∷ xs) zero = refl
task_is (x ∷ xs) (suc i) = task_is xs i

pub less : (a b : ℕ) → nat_lt a b ≡ true → a < b
less a b h = grind (arith, nat_tests)

no_more : (a b : ℕ) → nat_le a b ≡ true → a ≤ b
no_more a b h = grind (arith, nat_tests)

module _ (m : Machine) (named : AreNamed m) where
  -- ---- names

  device_within : (d : ℕ) → nat_lt d (length m.devices) ≡ true → d < length (device_names m)
  device_within d f = simp length-map (less d (length m.devices) f)

  pub device_back : (d : ℕ) → nat_lt d (length m.devices) ≡ true → device_in m (device m d) ≡ Some d
  device_back d f = ap (device_in m) (sym (device_is m.devices d)) ∙ place_back (device_names m) named.devices d (device_within d f)

  pub device_bytes : (mark : ℕ) → is_name_byte mark ≡ false → (d : ℕ) → nat_lt d (length m.devices) ≡ true → is_without mark (device m d) ≡ true
  device_bytes mark n d f = ap (is_without mark) (sym (device_is m.devices d)) ∙ name_without mark n (name_in (slice_get (device_names m) d)) (bytes_of (device_names m) named.devices d (device_within d f))

  notifier_within : (d : ℕ) → nat_lt d (length m.notifiers) ≡ true → d < length (notifier_names m)
  notifier_within d f = simp length-map (less d (length m.notifiers) f)

  pub notifier_back : (d : ℕ) → nat_lt d (length m.notifiers) ≡ true → notifier_in m (notifier m d) ≡ Some d
  notifier_back d f = ap (notifier_in m) (sym (notifier_is m.notifiers d)) ∙ place_back (notifier_names m) named.notifiers d (notifier_within d f)

  pub notifier_bytes : (mark : ℕ) → is_name_byte mark ≡ false → (d : ℕ) → nat_lt d (length m.notifiers) ≡ true → is_without mark (notifier m d) ≡ true
  notifier_bytes mark n d f = ap (is_without mark) (sym (notifier_is m.notifiers d)) ∙ name_without mark n (name_in (slice_get (notifier_names m) d)) (bytes_of (notifier_names m) named.notifiers d (notifier_within d f))

  task_within : (d : ℕ) → nat_lt d (length m.actors) ≡ true → d < length (script_names m)
  task_within d f = simp length-map (less d (length m.actors) f)

  pub task_back : (d : ℕ) → nat_lt d (length m.actors) ≡ true → script_in m (task m d) ≡ Some d
  task_back d f = ap (script_in m) (sym (task_is m.actors d)) ∙ place_back (script_names m) named.scripts d (task_within d f)

  pub task_bytes : (mark : ℕ) → is_name_byte mark ≡ false → (d : ℕ) → nat_lt d (length m.actors) ≡ true → is_without mark (task m d) ≡ true
  task_bytes mark n d f = ap (is_without mark) (sym (task_is m.actors d)) ∙ name_without mark n (name_in (slice_get (script_names m) d)) (bytes_of (script_names m) named.scripts d (task_within d f))

  source_within : (s : ℕ) → nat_le s (length m.sources) ≡ true → s < length (source_names m)
  source_within s f = let l = no_more s (length m.sources) f in simp length-append (omega arith)

  pub source_back : (s : ℕ) → nat_le s (length m.sources) ≡ true → source_in m (source m s) ≡ Some s
  source_back s f = place_back (source_names m) named.sources s (source_within s f)

  pub source_bytes : (mark : ℕ) → is_name_byte mark ≡ false → (s : ℕ) → nat_le s (length m.sources) ≡ true → is_without mark (source m s) ≡ true
  source_bytes mark n s f = name_without mark n (source m s) (bytes_of (source_names m) named.sources s (source_within s f))

  pub mark_back : (x : ℕ) → nat_lt x (length m.marks) ≡ true → mark_in m (mark m x) ≡ Some x
  mark_back x f = place_back m.marks named.marks x (less x (length m.marks) f)

  pub mark_bytes : (b : ℕ) → is_name_byte b ≡ false → (x : ℕ) → nat_lt x (length m.marks) ≡ true → is_without b (mark m x) ≡ true
  mark_bytes b n x f = name_without b n (mark m x) (bytes_of m.marks named.marks x (less x (length m.marks) f))

  pub syscore_back : (x : ℕ) → nat_lt x (length m.syscore) ≡ true → syscore_in m (syscore m x) ≡ Some x
  syscore_back x f = place_back m.syscore named.syscore x (less x (length m.syscore) f)

  pub syscore_bytes : (b : ℕ) → is_name_byte b ≡ false → (x : ℕ) → nat_lt x (length m.syscore) ≡ true → is_without b (syscore m x) ≡ true
  syscore_bytes b n x f = name_without b n (syscore m x) (bytes_of m.syscore named.syscore x (less x (length m.syscore) f))

  -- ---- what follows a verb

  count_plain : (c : ℕ) → is_word32 c ≡ true → is_without 32 (decimal c) ≡ true
  count_plain c f = decimal_no_space c (below32 c f)

  runtime_back : (d : ℕ) (to : Bool) (r : Option Errno) → nat_lt d (length m.devices) ≡ true → runtime_kind m (device m d ++ 32 ∷ (runtime_word to ++ 32 ∷ answer_text r)) ≡ Some (kind.RuntimeAsk d to r)
  runtime_back d true r f =
      let x = codes "suspended" ++ 32 ∷ answer_text r in
      rw (first (device m d) x (device_bytes 32 refl d f), second (device m d) x (device_bytes 32 refl d f), device_back d f) (ap (λ (q : Option Errno). Some (kind.RuntimeAsk d true q)) (answer_back r))
  runtime_back d false r f =
      let x = codes "active" ++ 32 ∷ answer_text r in
      rw (first (device m d) x (device_bytes 32 refl d f), second (device m d) x (device_bytes 32 refl d f), device_back d f) (ap (λ (q : Option Errno). Some (kind.RuntimeAsk d false q)) (answer_back r))

  link_back : (s c : ℕ) (r : Option Errno) → nat_lt s (length m.devices) ≡ true → nat_lt c (length m.devices) ≡ true →
      link_kind m (device m s ++ 32 ∷ (device m c ++ 32 ∷ answer_text r)) ≡ Some (kind.LinkAdd s c r)
  link_back s c r f g =
      let y = answer_text r in
      let x = device m c ++ 32 ∷ y in
      rw (first (device m s) x (device_bytes 32 refl s f), second (device m s) x (device_bytes 32 refl s f), device_back s f, first (device m c) y (device_bytes 32 refl c g), second (device m c) y (device_bytes 32 refl c g), device_back c g)
      (ap (λ (q : Option Errno). Some (kind.LinkAdd s c q)) (answer_back r))

  link_to_back : (s c : ℕ) (to : Bool) (r : Option Errno) → link_state_to (link_word to ++ 32 ∷ answer_text r) s c ≡ kind.LinkState s c to r
  link_to_back s c true r = ap (kind.LinkState s c true) (answer_back r)
  link_to_back s c false r = ap (kind.LinkState s c false) (answer_back r)

  link_state_back : (s c : ℕ) (to : Bool) (r : Option Errno) → nat_lt s (length m.devices) ≡ true → nat_lt c (length m.devices) ≡ true →
      link_state_kind m (device m s ++ 32 ∷ (device m c ++ 32 ∷ (link_word to ++ 32 ∷ answer_text r))) ≡ Some (kind.LinkState s c to r)
  link_state_back s c to r f g =
      let y = link_word to ++ 32 ∷ answer_text r in
      let x = device m c ++ 32 ∷ y in
      rw (first (device m s) x (device_bytes 32 refl s f), second (device m s) x (device_bytes 32 refl s f), device_back s f, first (device m c) y (device_bytes 32 refl c g), second (device m c) y (device_bytes 32 refl c g), device_back c g)
      (ap Some (link_to_back s c to r))

  hard_back : (s ms : ℕ) (h : Bool) → Some (kind.Event s ms (bytes_eq (hard_word h) (codes "hard"))) ≡ Some (kind.Event s ms h)
  hard_back s ms true = refl
  hard_back s ms false = refl

  event_back : (s ms : ℕ) (hard : Bool) → nat_le s (length m.sources) ≡ true → is_word32 ms ≡ true → event_kind m (source m s ++ 32 ∷ (decimal ms ++ 32 ∷ hard_word hard)) ≡ Some (kind.Event s ms hard)
  event_back s ms hard f g =
      let y = hard_word hard in
      let x = decimal ms ++ 32 ∷ y in
      rw (first (source m s) x (source_bytes 32 refl s f), second (source m s) x (source_bytes 32 refl s f), source_back s f, first (decimal ms) y (count_plain ms g), second (decimal ms) y (count_plain ms g), word32_back ms g) (hard_back s ms hard)

  prepared_back : (d : ℕ) (r : ℤ) → nat_lt d (length m.devices) ≡ true → is_answer r ≡ true → prepare_kind m (device m d ++ 32 ∷ prepare_text r) ≡ Some (kind.Prepare d r)
  prepared_back d r f g =
      let x = prepare_text r in
      rw (first (device m d) x (device_bytes 32 refl d f), second (device m d) x (device_bytes 32 refl d f), device_back d f) (ap (λ (q : ℤ). Some (kind.Prepare d q)) (prepare_back r g))

  scheduled_back : (p : Phase) (d : ℕ) → nat_lt d (length m.devices) ≡ true → schedule_kind m (phase_name p ++ 32 ∷ device m d) ≡ Some (kind.Schedule p d)
  scheduled_back p d f =
      let x = device m d in
      rw (first (phase_name p) x (phase_plain p), second (phase_name p) x (phase_plain p), device_back d f) (ap (λ (q : Phase). Some (kind.Schedule q d)) (phase_back p))

  begun_back : (p : Phase) (d : ℕ) → nat_lt d (length m.devices) ≡ true → begin_kind m (phase_name p ++ 32 ∷ device m d) ≡ Some (kind.Begin p d)
  begun_back p d f =
      let x = device m d in
      rw (first (phase_name p) x (phase_plain p), second (phase_name p) x (phase_plain p), device_back d f) (ap (λ (q : Phase). Some (kind.Begin q d)) (phase_back p))

  ended_back : (p : Phase) (d : ℕ) (r : Option Errno) → nat_lt d (length m.devices) ≡ true → end_kind m (phase_name p ++ 32 ∷ (device m d ++ 32 ∷ answer_text r)) ≡ Some (kind.End p d r)
  ended_back p d r f =
      let y = answer_text r in
      let x = device m d ++ 32 ∷ y in
      rw (first (phase_name p) x (phase_plain p), second (phase_name p) x (phase_plain p), first (device m d) y (device_bytes 32 refl d f), second (device m d) y (device_bytes 32 refl d f), device_back d f)
      (ap (λ (q : Phase). Some (kind.End q d (answer_in y))) (phase_back p) ∙ ap (λ (q : Option Errno). Some (kind.End p d q)) (answer_back r))

  skipped_back : (p : Phase) (d : ℕ) (c : SkipCause) → nat_lt d (length m.devices) ≡ true → skip_kind m (phase_name p ++ 32 ∷ (device m d ++ 32 ∷ cause_text c)) ≡ Some (kind.Skip p d c)
  skipped_back p d c f =
      let y = cause_text c in
      let x = device m d ++ 32 ∷ y in
      rw (first (phase_name p) x (phase_plain p), second (phase_name p) x (phase_plain p), first (device m d) y (device_bytes 32 refl d f), second (device m d) y (device_bytes 32 refl d f), device_back d f)
      (ap (λ (q : Phase). Some (kind.Skip q d (cause_in y))) (phase_back p) ∙ ap (λ (q : SkipCause). Some (kind.Skip p d q)) (cause_back c))

  done_back : (p : Phase) (r : Option Errno) → Some (kind.Done (phase_in (word (phase_name p ++ 32 ∷ answer_text r))) (answer_in (rest (phase_name p ++ 32 ∷ answer_text r)))) ≡ Some (kind.Done p r)
  done_back p r =
      let x = answer_text r in
      ap (λ (w : List ℕ). Some (kind.Done (phase_in w) (answer_in (rest (phase_name p ++ 32 ∷ x))))) (first (phase_name p) x (phase_plain p))
      ∙ ap (λ (w : List ℕ). Some (kind.Done (phase_in (phase_name p)) (answer_in w))) (second (phase_name p) x (phase_plain p))
      ∙ ap (λ (q : Phase). Some (kind.Done q (answer_in x))) (phase_back p) ∙ ap (λ (q : Option Errno). Some (kind.Done p q)) (answer_back r)

  attempted_back : (n : ℕ) (guarded : Option ℕ) → is_word32 n ≡ true → is_word32_if guarded ≡ true → attempt_kind (decimal n ++ 32 ∷ guard_text guarded) ≡ Some (kind.Attempt n guarded)
  attempted_back n None f g =
      let x = codes "plain" in
      rw (first (decimal n) x (count_plain n f), second (decimal n) x (count_plain n f), word32_back n f) refl
  attempted_back n (Some c) f g =
      let x = codes "guarded " ++ decimal c in
      rw (first (decimal n) x (count_plain n f), second (decimal n) x (count_plain n f), word32_back n f) (ap (λ (o : Option ℕ). Some (kind.Attempt n o)) (word32_back c g))

  over_back : (n : ℕ) (r : Option Errno) → is_word32 n ≡ true → over_kind (decimal n ++ 32 ∷ answer_text r) ≡ Some (kind.Over n r)
  over_back n r f =
      let x = answer_text r in
      rw (first (decimal n) x (count_plain n f), second (decimal n) x (count_plain n f), word32_back n f) (ap (λ (q : Option Errno). Some (kind.Over n q)) (answer_back r))

  preserved_back : (c : ℕ) (x : List ℕ) → is_word32 c ≡ true → option_map (save_kind (rest (decimal c ++ 32 ∷ x))) (word32 (word (decimal c ++ 32 ∷ x))) ≡ Some (save_kind x c)
  preserved_back c x f =
      ap (λ (w : List ℕ). option_map (save_kind (rest (decimal c ++ 32 ∷ x))) (word32 w)) (first (decimal c) x (count_plain c f))
      ∙ ap (λ (w : List ℕ). option_map (save_kind w) (word32 (decimal c))) (second (decimal c) x (count_plain c f))
      ∙ ap (option_map (save_kind x)) (word32_back c f)

  notified_back : (x : ℕ) (r : Option Errno) → nat_lt x (length m.notifiers) ≡ true → notify_kind m (notifier m x ++ 32 ∷ (codes "prepare " ++ answer_text r)) ≡ Some (kind.NotifyPrepare x r)
  notified_back x r f =
      let y = codes "prepare " ++ answer_text r in
      rw (first (notifier m x) y (notifier_bytes 32 refl x f), second (notifier m x) y (notifier_bytes 32 refl x f), notifier_back x f) (ap (λ (q : Option Errno). Some (kind.NotifyPrepare x q)) (answer_back r))

  posted_back : (x : ℕ) → nat_lt x (length m.notifiers) ≡ true → notify_kind m (notifier m x ++ 32 ∷ codes "post") ≡ Some (kind.NotifyPost x)
  posted_back x f =
      let y = codes "post" in
      rw (first (notifier m x) y (notifier_bytes 32 refl x f), second (notifier m x) y (notifier_bytes 32 refl x f), notifier_back x f) refl

  left_back : (w : List ℕ) (left x : ℕ) → is_without 32 w ≡ true → is_word32 left ≡ true → nat_lt x (length m.actors) ≡ true → failed_in m (w ++ 32 ∷ (decimal left ++ 32 ∷ task m x)) ≡ Some (failed_end w left x)
  left_back w left x h f g =
      let z = task m x in
      let y = decimal left ++ 32 ∷ z in
      rw (first w y h, second w y h, first (decimal left) z (count_plain left f), second (decimal left) z (count_plain left f), word32_back left f, task_back x g) refl

  frozen_in : (end : FrozeEnd) → fits_froze m end ≡ true → froze_in m (froze_text m end) ≡ Some end
  frozen_in froze.AllFrozen f = refl
  frozen_in (froze.Timeout left x) f =
      let p = and_parts (is_word32 left) (nat_lt x (length m.actors)) f in
      ap (λ (t : List ℕ). failed_in m (codes "timeout " ++ t)) (two (decimal left) (task m x)) ∙ left_back (codes "timeout") left x refl p.0 p.1
  frozen_in (froze.Wakeup left x) f =
      let p = and_parts (is_word32 left) (nat_lt x (length m.actors)) f in
      ap (λ (t : List ℕ). failed_in m (codes "wakeup " ++ t)) (two (decimal left) (task m x)) ∙ left_back (codes "wakeup") left x refl p.0 p.1

  froze_back : (g : Group) (end : FrozeEnd) → fits_froze m end ≡ true → froze_kind m (group_word g ++ 32 ∷ froze_text m end) ≡ Some (kind.Froze g end)
  froze_back g end f =
      let x = froze_text m end in
      ap (λ (w : List ℕ). option_map (kind.Froze (group_in w)) (froze_in m (rest (group_word g ++ 32 ∷ x)))) (first (group_word g) x (group_plain g))
      ∙ ap (λ (w : List ℕ). option_map (kind.Froze (group_in (group_word g))) (froze_in m w)) (second (group_word g) x (group_plain g))
      ∙ ap (λ (h : Group). option_map (kind.Froze h) (froze_in m x)) (group_back g)
      ∙ ap (option_map (kind.Froze g)) (frozen_in end f)

  suspended_back : (x : ℕ) (r : Option Errno) → nat_lt x (length m.syscore) ≡ true → syscore_down m (syscore m x ++ 32 ∷ answer_text r) ≡ Some (kind.SyscoreSuspend x r)
  suspended_back x r f =
      let y = answer_text r in
      rw (first (syscore m x) y (syscore_bytes 32 refl x f), second (syscore m x) y (syscore_bytes 32 refl x f), syscore_back x f) (ap (λ (q : Option Errno). Some (kind.SyscoreSuspend x q)) (answer_back r))

  platform_back : (what : PlatDo) (r : Option Errno) → platform_kind (down_word what ++ space ++ answer_text r) ≡ kind.PlatformDo what r
  platform_back down.Begin r = ap (kind.PlatformDo down.Begin) (answer_back r)
  platform_back what r = ap (kind.PlatformDo what) (answer_back r)

  -- ---- by kind

  pub kind_back : (k : Kind) → fits_kind m k ≡ true → kind_in m (body m k) ≡ Some k
  kind_back kind.Frozen f = refl
  kind_back kind.ReadWait f = refl
  kind_back (kind.Read c) f = ap (λ (o : Option ℕ). Some (read_kind (decimal c) o)) (word32_back c f)
  kind_back kind.ReadIntr f = refl
  kind_back (kind.SaveWait c) f = preserved_back c (codes "wait") f
  kind_back (kind.Saved c) f = preserved_back c (codes "ok") f
  kind_back (kind.SaveErr c r) f = ap (task_by m verb.Save) (two (decimal c) (name_of r)) ∙ preserved_back c (name_of r) f ∙ ap Some (save_err r c)
  kind_back kind.StateWait f = refl
  kind_back (kind.StateErr r) f = ap Some (state_err r)
  kind_back kind.StateUnsaved f = refl
  kind_back kind.AutoBad f = refl
  kind_back (kind.AutoSet state.Mem) f = refl
  kind_back (kind.AutoSet state.Off) f = refl
  kind_back kind.AutoDone f = refl
  kind_back (kind.Sleep t) f = ap (option_map kind.Sleep) (word64_back t f)
  kind_back (kind.SleepD t) f = ap (option_map kind.SleepD) (word64_back t f)
  kind_back kind.Slept f = refl
  kind_back kind.Pass f = refl
  kind_back (kind.Post x) f = ap (option_map kind.Post) (mark_back x f)
  kind_back (kind.Got x) f = ap (option_map kind.Got) (mark_back x f)
  kind_back kind.Exit f = refl
  kind_back (kind.RuntimeAsk d to r) f = ap (runtime_kind m) (three (device m d) (runtime_word to) (answer_text r)) ∙ runtime_back d to r f
  kind_back (kind.LinkAdd s c r) f =
      let p = and_parts (nat_lt s (length m.devices)) (nat_lt c (length m.devices)) f in
      ap (link_kind m) (three (device m s) (device m c) (answer_text r)) ∙ link_back s c r p.0 p.1
  kind_back (kind.LinkState s c to r) f =
      let p = and_parts (nat_lt s (length m.devices)) (nat_lt c (length m.devices)) f in
      ap (link_state_kind m) (four (device m s) (device m c) (link_word to) (answer_text r)) ∙ link_state_back s c to r p.0 p.1
  kind_back kind.AutoRun f = refl
  kind_back (kind.AutoSaved c) f = ap (option_map kind.AutoSaved) (word32_back c f)
  kind_back (kind.AutoUnsaved c) f = ap (option_map kind.AutoUnsaved) (word32_back c f)
  kind_back (kind.AutoAfter (Some c)) f = ap (λ (o : Option ℕ). Some (kind.AutoAfter o)) (word32_back c f)
  kind_back (kind.AutoAfter None) f = refl
  kind_back kind.AutoAgain f = refl
  kind_back kind.AutoOff f = refl
  kind_back (kind.Awake s) f = ap (option_map kind.Awake) (source_back s f)
  kind_back (kind.Relax s) f = ap (option_map kind.Relax) (source_back s f)
  kind_back (kind.Event s ms hard) f = let p = and_parts (nat_le s (length m.sources)) (is_word32 ms) f in ap (event_kind m) (three (source m s) (decimal ms) (hard_word hard)) ∙ event_back s ms hard p.0 p.1
  kind_back (kind.Expire s) f = ap (option_map kind.Expire) (source_back s f)
  kind_back (kind.Start s) f = ap (option_map kind.Start) (source_back s f)
  kind_back (kind.Finish s) f = ap (option_map kind.Finish) (source_back s f)
  kind_back (kind.Hard s) f = ap (option_map kind.Hard) (source_back s f)
  kind_back kind.Jump f = refl
  kind_back (kind.Attempt n guarded) f = let p = and_parts (is_word32 n) (is_word32_if guarded) f in ap attempt_kind (two (decimal n) (guard_text guarded)) ∙ attempted_back n guarded p.0 p.1
  kind_back (kind.Over n r) f = ap over_kind (two (decimal n) (answer_text r)) ∙ over_back n r f
  kind_back (kind.NotifyPrepare x r) f = ap (notify_kind m) (append_assoc (notifier m x) (codes " prepare ") (answer_text r)) ∙ notified_back x r f
  kind_back (kind.NotifyPost x) f = posted_back x f
  kind_back (kind.Freeze g) f = ap (λ (h : Group). Some (kind.Freeze h)) (group_back g)
  kind_back (kind.Froze g end) f = ap (froze_kind m) (two (group_word g) (froze_text m end)) ∙ froze_back g end f
  kind_back (kind.Thaw thaw.Kernel) f = refl
  kind_back (kind.Thaw thaw.All) f = refl
  kind_back (kind.PlatformDo what r) f = ap Some (platform_back what r)
  kind_back (kind.PlatformUndo up.Recover) f = refl
  kind_back (kind.PlatformUndo up.Wake) f = refl
  kind_back (kind.PlatformUndo up.Finish) f = refl
  kind_back (kind.PlatformUndo up.End) f = refl
  kind_back (kind.Prepare d r) f = let p = and_parts (nat_lt d (length m.devices)) (is_answer r) f in ap (prepare_kind m) (two (device m d) (prepare_text r)) ∙ prepared_back d r p.0 p.1
  kind_back (kind.Complete d) f = ap (option_map kind.Complete) (device_back d f)
  kind_back (kind.Schedule p d) f = ap (schedule_kind m) (two (phase_name p) (device m d)) ∙ scheduled_back p d f
  kind_back (kind.Begin p d) f = ap (begin_kind m) (two (phase_name p) (device m d)) ∙ begun_back p d f
  kind_back (kind.End p d r) f = ap (end_kind m) (three (phase_name p) (device m d) (answer_text r)) ∙ ended_back p d r f
  kind_back (kind.Skip p d c) f = ap (skip_kind m) (three (phase_name p) (device m d) (cause_text c)) ∙ skipped_back p d c f
  kind_back (kind.Done p r) f = ap (kind_by m verb.Done) (two (phase_name p) (answer_text r)) ∙ done_back p r
  kind_back (kind.CpuOff k) f = ap (option_map kind.CpuOff) (word32_back k f)
  kind_back (kind.CpuBusy k) f = ap (option_map kind.CpuBusy) (word32_back k f)
  kind_back (kind.CpuOn k) f = ap (option_map kind.CpuOn) (word32_back k f)
  kind_back (kind.Irqs true) f = refl
  kind_back (kind.Irqs false) f = refl
  kind_back (kind.SyscoreCheck r) f = ap (λ (q : Option Errno). Some (kind.SyscoreCheck q)) (answer_back r)
  kind_back (kind.SyscoreSuspend x r) f = ap (syscore_down m) (two (syscore m x) (answer_text r)) ∙ suspended_back x r f
  kind_back (kind.SyscoreResume x) f = ap (option_map kind.SyscoreResume) (syscore_back x f)
  kind_back (kind.Enter true) f = refl
  kind_back (kind.Enter false) f = refl
  kind_back (kind.Wake true) f = refl
  kind_back (kind.Wake false) f = refl
  kind_back kind.Clear f = refl
