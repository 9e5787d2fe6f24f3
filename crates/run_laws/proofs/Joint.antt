-- If each actor and each jump is legal by itself, the merged entries fit together.
use Rattle.std.proofs.Common.{◌≡◌, ◌∙◌, ◌≤◌, ◌<◌, ◌+◌, ℕ, nat_lt, Bool, true, false, List, [], ◌∷◌, length, cond, refl, sym, ap, subst, arith}
use Rattle.std.proofs.lemmas.Bool.Decides.{nat_tests}
use Rattle.std.specs.List.{list_all}
use Rattle.sleep_model.specs.declared.word.EventNow.{EventNow}
use Rattle.sleep_model.specs.declared.entry.Actor.{Actor}
use Rattle.sleep_model.specs.declared.entry.Actor.TheVariants as actor
use Rattle.sleep_model.specs.declared.entry.Entry.{Entry}
use Rattle.sleep_model.specs.declared.entry.Kind.{Kind}
use Rattle.sleep_model.specs.declared.machine.Machine.{Machine}
use Rattle.sleep_model.specs.Calls.{calls_of, made, notes_of}
use Rattle.sleep_model.specs.Legal.{IsOutside, IsOwnCall, JointPart, JointStep, JumpStep, is_there}
use Rattle.sleep_model.specs.Numbers.{time_of}
use Rattle.sleep_model.specs.EntryClasses.{EntryClass, OfJournal, Notes, Moves, OfTime, class_of, is_in_journal, journal}
use Rattle.sleep_model.specs.Path.{is_same}
use Rattle.sleep_model.specs.Sources.{history, is_of}
use Rattle.run_laws.specs.Apart.{ActorStep, AreJumps, AreActorSteps, IsCall, IsSource, JumpIsLegal, before, calls_after, is_inside, own_of}
use Rattle.run_laws.proofs.Lists.{all_more, all_tail, filter_all}
use Rattle.run_laws.proofs.Calling.{CallsPreserved, InsidePreserved, after_own, calls_preserved, calls_own, filter_twice, inside_preserved, inside_own, made_own, same_actor}
use Rattle.run_laws.proofs.Placing.{Clocked, IsClock, Numbered, clock_rises, clock_time}

-- ---- the time of a point

pub less : (a b : ℕ) → a < b → nat_lt a b ≡ true
less a b h = grind (arith, nat_tests)

no_less : (a b : ℕ) → b ≤ a → nat_lt a b ≡ false
no_less a b h = grind (arith, nat_tests)

-- no entry is later than the time at its point
all_before : (past : List Entry) (time : ℕ) → Clocked past → time_of past < time → list_all (λ e. nat_lt e.time time) past ≡ true
all_before [] time c l = refl
all_before (e ∷ past) time c l =
    let now : time_of (e ∷ past) ≡ e.time = clock_time e past c.0 in
    let rise : time_of past ≤ e.time = clock_rises e past c.0 in
    all_more (λ e. nat_lt e.time time) e past (less e.time time (omega arith)) (all_before past time c.1 (omega arith))

-- what is earlier than a moment is so among all entries as among those before a point of that moment
abbrev TimesPreserved : List Entry → List Entry → Type 0
TimesPreserved whole past = (time : ℕ) → time ≤ time_of past → before time whole ≡ before time past

times_preserved : (whole : List Entry) (e : Entry) (past : List Entry) → Clocked (e ∷ past) → TimesPreserved whole (e ∷ past) → TimesPreserved whole past
times_preserved whole e past c h time l =
    let now : time_of (e ∷ past) ≡ e.time = clock_time e past c.0 in
    let rise : time_of past ≤ e.time = clock_rises e past c.0 in
    h time (omega arith) ∙ ap (λ (b : Bool). cond b (e ∷ before time past) (before time past)) (no_less e.time time (omega arith))

-- before a jump come the entries of earlier times
before_jump : (whole : List Entry) (e : Entry) (past : List Entry) → Clocked (e ∷ past) → TimesPreserved whole (e ∷ past) → time_of past < e.time → before e.time whole ≡ past
before_jump whole e past c h l =
    let now : time_of (e ∷ past) ≡ e.time = clock_time e past c.0 in
    h e.time (omega arith)
    ∙ ap (λ (b : Bool). cond b (e ∷ before e.time past) (before e.time past)) (no_less e.time e.time (omega arith))
    ∙ filter_all (λ x. nat_lt x.time e.time) past (all_before past e.time c.1 l)

-- ---- one entry

-- what is known at a point, of all entries and of those before it
record Walk (m : Machine) (whole past : List Entry) : Type 0 where
  actors : (who : Actor) → AreActorSteps who (λ k. calls_after m who k (journal whole)) (is_inside (length m.sources + 1) (λ s. history s whole) who) (own_of who past)
  calls : CallsPreserved m (journal whole) past
  inside : InsidePreserved whole past
  sources : (s : ℕ) → IsSource (history s past)
  jumps : AreJumps m (journal past) (λ s. history s whole)
  times : TimesPreserved whole past
  clock : Clocked past
  words : Numbered past
  there : list_all (λ e. is_there m (class_of e.kind)) past ≡ true

walk_on : (m : Machine) (whole : List Entry) (e : Entry) (past : List Entry) → Walk m whole (e ∷ past) → Walk m whole past
walk_on m whole e past w = record {
  actors = λ who. rest who (is_same e.actor who) (w.actors who);
  calls = calls_preserved m (journal whole) e past w.calls;
  inside = inside_preserved whole e past w.sources w.inside;
  sources = λ s. source_on s (is_of s (class_of e.kind)) (w.sources s);
  jumps = jumps_on (is_in_journal (class_of e.kind)) w.jumps;
  times = times_preserved whole e past w.clock w.times;
  clock = w.clock.1;
  words = w.words.1;
  there = all_tail (λ e. is_there m (class_of e.kind)) e past w.there;
}
  where
    rest : (who : Actor) (b : Bool) → AreActorSteps who (λ k. calls_after m who k (journal whole)) (is_inside (length m.sources + 1) (λ s. history s whole) who) (cond b (e ∷ own_of who past) (own_of who past))
        → AreActorSteps who (λ k. calls_after m who k (journal whole)) (is_inside (length m.sources + 1) (λ s. history s whole) who) (own_of who past)
    rest who true h = h.1
    rest who false h = h

    source_on : (s : ℕ) (b : Bool) → IsSource (cond b (e ∷ history s past) (history s past)) → IsSource (history s past)
    source_on s true h = h.1
    source_on s false h = h

    jumps_on : (b : Bool) → AreJumps m (cond b (e ∷ journal past) (journal past)) (λ s. history s whole) → AreJumps m (journal past) (λ s. history s whole)
    jumps_on true h = h.1
    jumps_on false h = h

own_call : (m : Machine) (past : List Entry) (of : ℕ → List Entry) (who : Actor) (k : Kind)
    → IsCall who (calls_of m who past) (made (length m.sources + 1) of who) k → IsOwnCall m past of who k
own_call m past of (actor.Script i) k h = h
own_call m past of actor.Auto k h = h
own_call m past of (actor.Dev d) k h = h
own_call m past of (actor.Timer s) k h = h
own_call m past of actor.Time k h = h

joint_step : (m : Machine) (whole : List Entry) (e : Entry) (past : List Entry) → Walk m whole (e ∷ past) → JointStep m past e (class_of e.kind)
joint_step m whole e past w = by (class_of e.kind) refl here
  where
    calls : ℕ → List Kind
    calls = λ k. calls_after m e.actor k (journal whole)

    here : ActorStep e.actor (λ k. calls_after m e.actor k (journal whole)) (is_inside (length m.sources + 1) (λ s. history s whole) e.actor) (own_of e.actor past) e (class_of e.kind)
    here = (subst (λ (b : Bool). AreActorSteps e.actor (λ k. calls_after m e.actor k (journal whole)) (is_inside (length m.sources + 1) (λ s. history s whole) e.actor) (cond b (e ∷ own_of e.actor past) (own_of e.actor past))) (same_actor e.actor) (w.actors e.actor)).0

    due : calls_after m e.actor (length (journal (own_of e.actor past))) (journal whole) ≡ calls_of m e.actor (journal past)
    due = calls_own m (journal whole) past e.actor (calls_preserved m (journal whole) e past w.calls)

    there : list_all (λ e. is_there m (class_of e.kind)) past ≡ true
    there = all_tail (λ e. is_there m (class_of e.kind)) e past w.there

    did : made (length m.sources + 1) (λ s. history s past) e.actor ≡ notes_of e.actor (own_of e.actor past)
    did = made_own m e.actor past there

    outside : is_inside (length m.sources + 1) (λ s. history s whole) e.actor (own_of e.actor past) ≡ false → IsOutside m (λ s. history s past) e.actor
    outside h = sym (inside_own (length m.sources + 1) whole past e.actor (inside_preserved whole e past w.sources w.inside)) ∙ h

    by : (p : EntryClass) → class_of e.kind ≡ p → ActorStep e.actor (λ k. calls_after m e.actor k (journal whole)) (is_inside (length m.sources + 1) (λ s. history s whole) e.actor) (own_of e.actor past) e p → JointStep m past e p
    by OfJournal is h = (did ∙ h.0 ∙ ap length due, outside h.1)
    by (Notes s c) is h = (
      own_call m (journal past) (λ t. history t past) e.actor e.kind
          (subst (λ (n : ℕ). IsCall e.actor (calls_of m e.actor (journal past)) n e.kind) (sym did)
          (subst (λ (l : List Kind). IsCall e.actor l (notes_of e.actor (own_of e.actor past)) e.kind) due h.0)),
      outside h.1,
    )
    by (Moves s x) is h = after_own s e.actor past ∙ h
    by OfTime is h =
        let more : journal (e ∷ past) ≡ e ∷ journal past = ap (λ (b : Bool). cond b (e ∷ journal past) (journal past)) (ap is_in_journal is) in
        let both : AreJumps m (e ∷ journal past) (λ s. history s whole) = subst (λ (j : List Entry). AreJumps m j (λ s. history s whole)) more w.jumps in
        let held : JumpStep m (journal past) (λ s. before e.time (history s whole)) e.now e.time = subst (JumpIsLegal m (journal past) (λ s. history s whole) e) is both.0 in
        let later : time_of past < e.time = subst (IsClock past e.time) is w.clock.0 in
        let own : (s : ℕ) → before e.time (history s whole) ≡ history s past = λ s.
        filter_twice (λ (x : Entry). nat_lt x.time e.time) (λ x. is_of s (class_of x.kind)) whole ∙ ap (history s) (before_jump whole e past w.clock w.times later) in
        subst (λ (n : EventNow). JumpStep m (journal past) (λ s. history s past) n e.time) w.words.0
        (subst (λ (of : ℕ → List Entry). JumpStep m (journal past) of e.now e.time) (λ i s. own s i) held)

-- ---- all entries

joint_on : (m : Machine) (whole past : List Entry) → Walk m whole past → JointPart m past
joint_on m whole [] w = tt
joint_on m whole (e ∷ past) w = (joint_step m whole e past w, joint_on m whole past (walk_on m whole e past w))

pub joint : (m : Machine) (whole : List Entry)
    → ((who : Actor) → AreActorSteps who (λ k. calls_after m who k (journal whole)) (is_inside (length m.sources + 1) (λ s. history s whole) who) (own_of who whole)) → ((s : ℕ) → IsSource (history s whole)) → AreJumps m (journal whole) (λ s. history s whole)
    → Clocked whole → Numbered whole → list_all (λ e. is_there m (class_of e.kind)) whole ≡ true → JointPart m whole
joint m whole actors sources jumps clock words there = joint_on m whole whole (record {
  actors = actors;
  calls = λ who k l. refl;
  inside = λ who s k l. refl;
  sources = sources;
  jumps = jumps;
  times = λ time l. refl;
  clock = clock;
  words = words;
  there = there;
})
