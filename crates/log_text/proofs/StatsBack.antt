-- The lines of sources and of stuck scripts are read back.
use Rattle.std.proofs.Common.{◌≡◌, ◌∙◌, ℕ, true, List, ◌∷◌, ◌++◌, codes, decimal, length, drop, Option, Some, refl, sym, ap, append_assoc}
use Rattle.std.specs.Prelude.{option_map, nat_lt}
use Rattle.std.proofs.lemmas.Bool.{and_parts}
use Rattle.std.proofs.Math.Seq.{drop-append_seam}
use Rattle.sleep_model.specs.declared.entry.Actor.{Actor}
use Rattle.sleep_model.specs.declared.entry.Actor.TheVariants as actor
use Rattle.sleep_model.specs.declared.log.Stats.{Stats}
use Rattle.sleep_model.specs.declared.log.Waiting.{Waiting}
use Rattle.sleep_model.specs.declared.log.Why.{Why}
use Rattle.sleep_model.specs.declared.log.Why.TheVariants as why
use Rattle.sleep_model.specs.declared.machine.Machine.{Machine}
use Rattle.sleep_model.specs.declared.machine.Script.{Script}
use Rattle.sleep_model.specs.declared.machine.TaskKind.{TaskKind}
use Rattle.sleep_model.specs.declared.machine.TaskKind.TheVariants as task
use Rattle.sleep_model.specs.Fits.{fits_stats, fits_script, fits_cause, is_word32, is_word64}
use Rattle.sleep_model.specs.Text.{space, newline, actor_text, script_text, script_word, task_name, times_text, source_line, waiting_text, waiting_line}
use Rattle.log_text.specs.Named.{AreNamed}
use Rattle.sleep_base.specs.Cutting.{after_first}
use Rattle.log_text.specs.Cutting.{without_last}
use Rattle.log_text.specs.Reading.{times_in, stats_in, why_in, waiting_in, script_in}
use Rattle.log_text.proofs.Cuts.{is_without, decimal_no_space, last_off}
use Rattle.log_text.proofs.NumbersBack.{word32_back, word64_back, below32, below64}
use Rattle.log_text.proofs.KindsBack.{less, two, three, first, second, mark_back, task_back, task_bytes}
use Rattle.log_text.proofs.EntriesBack.{within, script_plain}

-- the numbers of a source with spaces between them
abbrev spaced_times : Stats → List ℕ
spaced_times s = decimal s.active_time ++ 32 ∷ (decimal s.total_time ++ 32 ∷ (decimal s.max_time ++ 32 ∷ decimal s.last_time))

abbrev numbers_of : Stats → List ℕ
numbers_of s = decimal s.active_count ++ 32 ∷ (decimal s.event_count ++ 32 ∷ (decimal s.expire_count ++ 32 ∷ spaced_times s))

-- what fits, one by one
record AreFit (s : Stats) : Type 0 where
  active : is_word32 s.active_count ≡ true
  event : is_word32 s.event_count ≡ true
  expire : is_word32 s.expire_count ≡ true
  active_time : is_word64 s.active_time ≡ true
  total_time : is_word64 s.total_time ≡ true
  max_time : is_word64 s.max_time ≡ true
  last_time : is_word64 s.last_time ≡ true

fit : (s : Stats) → fits_stats s ≡ true → AreFit s
fit s f =
    let g = and_parts _ (is_word64 s.last_time) f in
    let e = and_parts _ (is_word64 s.max_time) g.0 in
    let d = and_parts _ (is_word64 s.total_time) e.0 in
    let c = and_parts _ (is_word64 s.active_time) d.0 in
    let b = and_parts _ (is_word32 s.expire_count) c.0 in
    let a = and_parts (is_word32 s.active_count) (is_word32 s.event_count) b.0 in
    record { active = a.0; event = a.1; expire = b.1; active_time = c.1; total_time = d.1; max_time = e.1; last_time = g.1 }

times_back : (s : Stats) → AreFit s → times_in s.active_count s.event_count s.expire_count (spaced_times s) ≡ Some s
times_back s f =
    let z = decimal s.last_time in
    let y = decimal s.max_time ++ 32 ∷ z in
    let x = decimal s.total_time ++ 32 ∷ y in
    let a = decimal_no_space s.active_time (below64 s.active_time f.active_time) in
    let b = decimal_no_space s.total_time (below64 s.total_time f.total_time) in
    let c = decimal_no_space s.max_time (below64 s.max_time f.max_time) in
    rw (first (decimal s.active_time) x a, second (decimal s.active_time) x a, first (decimal s.total_time) y b, second (decimal s.total_time) y b, first (decimal s.max_time) z c, second (decimal s.max_time) z c, word64_back s.active_time f.active_time, word64_back s.total_time f.total_time, word64_back s.max_time f.max_time, word64_back s.last_time f.last_time) refl

stats_back : (s : Stats) → AreFit s → stats_in (numbers_of s) ≡ Some s
stats_back s f =
    let z = spaced_times s in
    let y = decimal s.expire_count ++ 32 ∷ z in
    let x = decimal s.event_count ++ 32 ∷ y in
    let a = decimal_no_space s.active_count (below32 s.active_count f.active) in
    let b = decimal_no_space s.event_count (below32 s.event_count f.event) in
    let c = decimal_no_space s.expire_count (below32 s.expire_count f.expire) in
    rw (first (decimal s.active_count) x a, second (decimal s.active_count) x a, first (decimal s.event_count) y b, second (decimal s.event_count) y b, first (decimal s.expire_count) z c, second (decimal s.expire_count) z c, word32_back s.active_count f.active, word32_back s.event_count f.event, word32_back s.expire_count f.expire) (times_back s f)

-- what comes before the numbers
abbrev pub head_of : List ℕ → List ℕ
head_of name = codes "source " ++ name ++ space

-- three and four texts, each after a space
spaced : (n a b c : List ℕ) → n ++ (space ++ a ++ space ++ b ++ space ++ c) ≡ n ++ 32 ∷ (a ++ 32 ∷ (b ++ 32 ∷ c))
spaced n a b c = ap (λ (x : List ℕ). n ++ x) (three (space ++ a) b c)

spaced_more : (a b c d : List ℕ) → space ++ a ++ space ++ b ++ space ++ c ++ space ++ d ≡ 32 ∷ (a ++ 32 ∷ (b ++ 32 ∷ (c ++ 32 ∷ d)))
spaced_more a b c d = three (space ++ a ++ space ++ b) c d ∙ append_assoc (space ++ a ++ space) b (32 ∷ (c ++ 32 ∷ d)) ∙ two (space ++ a) (b ++ 32 ∷ (c ++ 32 ∷ d))

-- what comes before other things is put together first
onto : (h a b c t z : List ℕ) → h ++ 32 ∷ (a ++ 32 ∷ (b ++ 32 ∷ c)) ++ 32 ∷ t ++ z ≡ (h ++ space) ++ ((a ++ 32 ∷ (b ++ 32 ∷ (c ++ 32 ∷ t))) ++ z)
onto h a b c t z = simp append_assoc

source_is : (name : List ℕ) (s : Stats) → source_line name s ≡ head_of name ++ (numbers_of s ++ newline)
source_is name s =
    ap (λ (x : List ℕ). x ++ times_text s ++ newline) (spaced (codes "source " ++ name) (decimal s.active_count) (decimal s.event_count) (decimal s.expire_count))
    ∙ ap (λ (x : List ℕ). codes "source " ++ name ++ 32 ∷ (decimal s.active_count ++ 32 ∷ (decimal s.event_count ++ 32 ∷ decimal s.expire_count)) ++ x ++ newline) (spaced_more (decimal s.active_time) (decimal s.total_time) (decimal s.max_time) (decimal s.last_time))
    ∙ onto (codes "source " ++ name) (decimal s.active_count) (decimal s.event_count) (decimal s.expire_count) (spaced_times s) newline

-- a source's line is read back
pub source_back : (name : List ℕ) (s : Stats) → fits_stats s ≡ true → stats_in (without_last (drop (length (head_of name)) (source_line name s))) ≡ Some s
source_back name s f =
    ap (λ (t : List ℕ). stats_in (without_last (drop (length (head_of name)) t))) (source_is name s)
    ∙ ap (λ (t : List ℕ). stats_in (without_last t)) (drop-append_seam (head_of name) (numbers_of s ++ newline))
    ∙ ap stats_in (last_off (numbers_of s) 10)
    ∙ stats_back s (fit s f)

module _ (m : Machine) (named : AreNamed m) where
  why_back : (w : Why) → fits_cause m w ≡ true → why_in m (waiting_text m w) ≡ Some w
  why_back why.InProgress f = refl
  why_back (why.Mark x) f = ap (option_map why.Mark) (mark_back m named x f)
  why_back _ f = absurd (cc)

  after_word : (k : TaskKind) (n : List ℕ) → after_first 58 (script_word k ++ n) ≡ n
  after_word task.Irq n = refl
  after_word _ n = refl

  waited : (i : ℕ) (w : Why) → nat_lt i (length m.actors) ≡ true → fits_cause m w ≡ true → waiting_in m (actor_text m (actor.Script i) ++ 32 ∷ waiting_text m w) ≡ Some (record { actor = actor.Script i; why = w })
  waited i w f g =
      let s = within m.actors i (less i (length m.actors) f) in
      let x = waiting_text m w in
      let t = script_word s.0.kind ++ s.0.name in
      let plain = script_plain s.0.kind s.0.name (ap (λ (o : Option Script). is_without 32 (task_name o)) (sym s.1) ∙ task_bytes m named 32 refl i f) in
      let at : script_in m s.0.name ≡ Some i = ap (λ (o : Option Script). script_in m (task_name o)) (sym s.1) ∙ task_back m named i f in
      ap (λ (o : Option Script). waiting_in m (script_text o ++ 32 ∷ x)) s.1
      ∙ rw (first t x plain, second t x plain, after_word s.0.kind s.0.name, at, why_back w g) refl

  stuck_is : (w : Waiting) → waiting_line m w ≡ codes "stuck " ++ ((actor_text m w.actor ++ 32 ∷ waiting_text m w.why) ++ newline)
  stuck_is w = ap (λ (x : List ℕ). codes "stuck " ++ x) (parted (actor_text m w.actor) (waiting_text m w.why) newline)
    where
      parted : (a b z : List ℕ) → a ++ space ++ b ++ z ≡ (a ++ 32 ∷ b) ++ z
      parted a b z = ap (λ (x : List ℕ). x ++ z) (two a b)

  -- a stuck script's line is read back
  pub waiting_back : (w : Waiting) → fits_script m w.actor ≡ true → fits_cause m w.why ≡ true → waiting_in m (without_last (drop 6 (waiting_line m w))) ≡ Some w
  waiting_back w f g = by_actor w.actor w.why f g
    where
      by_actor : (a : Actor) (c : Why) → fits_script m a ≡ true → fits_cause m c ≡ true → waiting_in m (without_last (drop 6 (waiting_line m (record { actor = a; why = c })))) ≡ Some (record { actor = a; why = c })
      by_actor (actor.Script i) c f g =
          ap (λ (t : List ℕ). waiting_in m (without_last (drop 6 t))) (stuck_is (record { actor = actor.Script i; why = c }))
          ∙ ap (waiting_in m) (last_off (actor_text m (actor.Script i) ++ 32 ∷ waiting_text m c) 10)
          ∙ waited i c f g
      by_actor _ c f g = absurd (cc)
