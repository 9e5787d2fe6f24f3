-- The line of an entry is read back.
use Rattle.std.proofs.Common.{◌≡◌, ◌∙◌, ℕ, zero, suc, ◌<◌, true, ◌&&◌, List, [], ◌∷◌, ◌++◌, codes, decimal, length, Option, Some, refl, sym, ap, arith, append_assoc}
use Rattle.std.specs.Prelude.{slice_get, option_map}
use Rattle.std.proofs.lemmas.Bool.{and_parts}
use Rattle.sleep_model.specs.declared.entry.Actor.{Actor}
use Rattle.sleep_model.specs.declared.entry.Actor.TheVariants as actor
use Rattle.sleep_model.specs.declared.entry.Entry.{Entry}
use Rattle.sleep_model.specs.declared.entry.Kind.{Kind}
use Rattle.sleep_model.specs.declared.machine.Machine.{Machine}
use Rattle.sleep_model.specs.declared.machine.Script.{Script}
use Rattle.sleep_model.specs.declared.machine.TaskKind.{TaskKind}
use Rattle.sleep_model.specs.declared.machine.TaskKind.TheVariants as task
use Rattle.sleep_model.specs.declared.word.EventNow.{EventNow}
use Rattle.sleep_model.specs.Fits.{fits_entry, fits_actor, fits_word, fits_kind, is_word32, is_word64}
use Rattle.sleep_model.specs.Text.{body, space, newline, actor_text, script_text, script_word, task_name, word_text, entry_line}
use Rattle.log_text.specs.Named.{AreNamed}
use Rattle.log_text.specs.Cutting.{without_last}
use Rattle.log_text.specs.Reading.{now_in, actor_in, entry_by_text, entry_in, script_in}
use Rattle.log_text.proofs.Cuts.{is_without, before_at, after_at, without_append, decimal_no_space, decimal_no_slash, last_off}
use Rattle.log_text.proofs.NumbersBack.{word32_back, word64_back, below32, below64}
use Rattle.log_text.proofs.KindsBack.{less, three, first, second, device_back, device_bytes, source_back, source_bytes, task_back, task_bytes, kind_back}

-- three numbers with slashes between them
slashes : (a b c : List ℕ) → a ++ codes "/" ++ b ++ codes "/" ++ c ≡ a ++ 47 ∷ (b ++ 47 ∷ c)
slashes a b c = append_assoc (a ++ codes "/" ++ b) (codes "/") c ∙ append_assoc (a ++ codes "/") b (47 ∷ c) ∙ append_assoc a (codes "/") (b ++ 47 ∷ c)

-- the numbers of a word fit
record AreFit (now : EventNow) : Type 0 where
  inpr : is_word32 now.inpr ≡ true
  count : is_word32 now.count ≡ true
  hard : is_word32 now.hard ≡ true

fit : (now : EventNow) → fits_word now ≡ true → AreFit now
fit now f =
    let p = and_parts (is_word32 now.inpr && is_word32 now.count) (is_word32 now.hard) f in
    let q = and_parts (is_word32 now.inpr) (is_word32 now.count) p.0 in
    record { inpr = q.0; count = q.1; hard = p.1 }

-- the word is read back
now_back : (now : EventNow) → fits_word now ≡ true → now_in (word_text now) ≡ Some now
now_back now f =
    let p = fit now f in
    let y = decimal now.hard in
    let x = decimal now.count ++ 47 ∷ y in
    let a = decimal_no_slash now.inpr (below32 now.inpr p.inpr) in
    let b = decimal_no_slash now.count (below32 now.count p.count) in
    ap now_in (slashes (decimal now.inpr) (decimal now.count) y)
    ∙ rw (before_at 47 (decimal now.inpr) x a, after_at 47 (decimal now.inpr) x a, before_at 47 (decimal now.count) y b, after_at 47 (decimal now.count) y b, word32_back now.inpr p.inpr, word32_back now.count p.count, word32_back now.hard p.hard) refl

-- and has no space
now_plain : (now : EventNow) → fits_word now ≡ true → is_without 32 (word_text now) ≡ true
now_plain now f =
    let p = fit now f in
    let a = decimal_no_space now.inpr (below32 now.inpr p.inpr) in
    let b = decimal_no_space now.count (below32 now.count p.count) in
    let c = decimal_no_space now.hard (below32 now.hard p.hard) in
    ap (is_without 32) (slashes (decimal now.inpr) (decimal now.count) (decimal now.hard))
    ∙ without_append 32 (decimal now.inpr) (47 ∷ (decimal now.count ++ 47 ∷ decimal now.hard)) a
    (without_append 32 (decimal now.count) (47 ∷ decimal now.hard) b c)

-- there is a script with each of the numbers
pub within : (xs : List Script) (i : ℕ) → i < length xs → (s : Script) × (slice_get xs i ≡ Some s)
within [] i h = absurd (omega arith)
within (x ∷ xs) zero h = (x, refl)
within (x ∷ xs) (suc i) h = within xs i (omega arith)

-- four texts with spaces between them, and a fifth after
four : (a b c d e : List ℕ) → a ++ space ++ b ++ space ++ c ++ space ++ d ++ e ≡ (a ++ 32 ∷ (b ++ 32 ∷ (c ++ 32 ∷ d))) ++ e
four a b c d e = ap (λ (x : List ℕ). x ++ e) (three (a ++ space ++ b) c d ∙ append_assoc (a ++ space) b (32 ∷ (c ++ 32 ∷ d)) ∙ append_assoc a space (b ++ 32 ∷ (c ++ 32 ∷ d)))

pub script_plain : (k : TaskKind) (n : List ℕ) → is_without 32 n ≡ true → is_without 32 (script_word k ++ n) ≡ true
script_plain task.Irq n h = h
script_plain _ n h = h

module _ (m : Machine) (named : AreNamed m) where
  script_by : (k : TaskKind) (n : List ℕ) (i : ℕ) → script_in m n ≡ Some i → actor_in m (script_word k ++ n) ≡ Some (actor.Script i)
  script_by task.Irq n i e = ap (option_map actor.Script) e
  script_by _ n i e = ap (option_map actor.Script) e

  -- who makes an entry is read back
  actor_back : (a : Actor) → fits_actor m a ≡ true → actor_in m (actor_text m a) ≡ Some a
  actor_back (actor.Script i) f =
      let s = within m.actors i (less i (length m.actors) f) in
      ap (λ (o : Option Script). actor_in m (script_text o)) s.1
      ∙ script_by s.0.kind s.0.name i (ap (λ (o : Option Script). script_in m (task_name o)) (sym s.1) ∙ task_back m named i f)
  actor_back actor.Auto f = refl
  actor_back (actor.Dev d) f = ap (option_map actor.Dev) (device_back m named d f)
  actor_back (actor.Timer s) f = ap (option_map actor.Timer) (source_back m named s f)
  actor_back actor.Time f = refl

  -- and has no space
  actor_plain : (a : Actor) → fits_actor m a ≡ true → is_without 32 (actor_text m a) ≡ true
  actor_plain (actor.Script i) f =
      let s = within m.actors i (less i (length m.actors) f) in
      ap (λ (o : Option Script). is_without 32 (script_text o)) s.1
      ∙ script_plain s.0.kind s.0.name (ap (λ (o : Option Script). is_without 32 (task_name o)) (sym s.1) ∙ task_bytes m named 32 refl i f)
  actor_plain actor.Auto f = refl
  actor_plain (actor.Dev d) f = device_bytes m named 32 refl d f
  actor_plain (actor.Timer s) f = source_bytes m named 32 refl s f
  actor_plain actor.Time f = refl

  -- the text of a line without its newline
  entry_text_back : (time : ℕ) (now : EventNow) (a : Actor) (k : Kind) → fits_actor m a ≡ true → fits_kind m k ≡ true → entry_by_text m time now (actor_text m a ++ 32 ∷ body m k) ≡ Some (record { time = time; now = now; actor = a; kind = k })
  entry_text_back time now a k f g =
      let x = body m k in
      let p = actor_plain a f in
      rw (first (actor_text m a) x p, second (actor_text m a) x p, actor_back a f, kind_back m named k g) refl

  text_back : (e : Entry) → fits_entry m e ≡ true → entry_in m (decimal e.time ++ 32 ∷ (word_text e.now ++ 32 ∷ (actor_text m e.actor ++ 32 ∷ body m e.kind))) ≡ Some e
  text_back e f =
      let r = and_parts (is_word64 e.time && fits_word e.now && fits_actor m e.actor) (fits_kind m e.kind) f in
      let q = and_parts (is_word64 e.time && fits_word e.now) (fits_actor m e.actor) r.0 in
      let p = and_parts (is_word64 e.time) (fits_word e.now) q.0 in
      let y = actor_text m e.actor ++ 32 ∷ body m e.kind in
      let x = word_text e.now ++ 32 ∷ y in
      let a = decimal_no_space e.time (below64 e.time p.0) in
      let b = now_plain e.now p.1 in
      rw (first (decimal e.time) x a, second (decimal e.time) x a, first (word_text e.now) y b, second (word_text e.now) y b, word64_back e.time p.0, now_back e.now p.1) (entry_text_back e.time e.now e.actor e.kind q.1 r.1)

  whole : (e : Entry) → entry_line m e ≡ (decimal e.time ++ 32 ∷ (word_text e.now ++ 32 ∷ (actor_text m e.actor ++ 32 ∷ body m e.kind))) ++ newline
  whole e = four (decimal e.time) (word_text e.now) (actor_text m e.actor) (body m e.kind) newline

  -- an entry's line is read back
  pub entry_back : (e : Entry) → fits_entry m e ≡ true → entry_in m (without_last (entry_line m e)) ≡ Some e
  entry_back e f =
      let x = decimal e.time ++ 32 ∷ (word_text e.now ++ 32 ∷ (actor_text m e.actor ++ 32 ∷ body m e.kind)) in
      ap (λ (t : List ℕ). entry_in m (without_last t)) (whole e) ∙ ap (entry_in m) (last_off x 10) ∙ text_back e f
