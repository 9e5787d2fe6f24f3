-- A burst's acts have an order.
use Rattle.std.proofs.Common.{◌≡◌, ◌<◌, ◌≤◌, ◌+◌, ◌==◌, ◌∙◌, ◌⊎◌, inl, inr, ⊎_elim, ℕ, Bool, false, cond, List, [], ◌∷◌, ◌++◌, length, get_or, set, slice_get, Some, refl, sym, ap, subst, arith}
use Rattle.std.proofs.lemmas.Bool.{cases_lt}
use Rattle.std.proofs.lemmas.Bool.Decides.{nat_tests}
use Rattle.std.proofs.lemmas.List.{get_or_past}
use mathlib.Core.Option.{some}
use lib.ListN.{get_elem?}
use Rattle.sleep_model.specs.declared.entry.JournalEntry.{JournalEntry}
use Rattle.turn_lock.specs.declared.view.Made.{Made}
use Rattle.turn_lock.specs.Bookings.{AreBelow, empty, made_by, of_object, placed}
use Rattle.turn_lock.proofs.Booking.{made_by_new}
use Rattle.turn_lock.proofs.Invariance.{there, within}
use Rattle.run_laws.specs.Passes.{Noted}
use Rattle.run_objects.specs.Objects.{SeatedCoreState, SeatedSourceState, sources_of}
use Rattle.run_world.specs.declared.object.WorldObject.{WorldObject}
use Rattle.run_world.specs.Objects.{journal_of}
use Rattle.run_world.specs.Roots.{notes_on}
use Rattle.run_world.proofs.Adding.{items_count}
use Rattle.run_world.specs.declared.task.Task.{Task}
use Rattle.run_world.specs.Acts.{Does}
use Rattle.run_world.specs.Bursts.{IsBurst}
use Rattle.running_laws.specs.Courses.{Begins, Course, Goes, IsAct, lists_of}
use Rattle.running_laws.specs.Serial.{BurstsAreSerial, IsSerial, burst_state_of}
use Rattle.running_laws.proofs.SerialNotes.{Follows, ascends, ascends_low, behind, gained_follows, newest}
use Rattle.running_laws.proofs.SerialBooks.{same_number}
use Rattle.running_laws.proofs.SerialPlans.{Plan, flat, gains_of}
use Rattle.running_laws.proofs.SerialOrder.{Fits, ObjectFits, in_turn, landed}
use Rattle.running_laws.proofs.SerialClimbs.{AreMadeFresh, AreWithin, fresh_log, fresh_of}
use Rattle.running_laws.proofs.SerialActs.{HaveAllPlans, have_all_plans}
use Rattle.running_laws.proofs.SerialWorld.{list_is, no_list, object_count}

-- ---- passes and objects that are not there

below_more : (n k : ℕ) (es : List (ℕ × Noted)) → n ≤ k → AreBelow n es → AreBelow k es
below_more n k [] l h = tt
below_more n k (e ∷ es) l h = let less : e.0 < n = h.0 in (omega arith, below_more n k es l h.1)

none_outside : (count i : ℕ) (ms : List (Made Noted)) → AreWithin count ms → count ≤ i → of_object i ms ≡ []
none_outside count i [] h l = refl
none_outside count i (m ∷ ms) h l =
    let less : m.object < count = h.0 in
    ap (λ (b : Bool). cond b (m ∷ of_object i ms) (of_object i ms)) (differ m.object i (omega arith)) ∙ none_outside count i ms h.1 l
  where
    differ : (a b : ℕ) → a < b → (a == b) ≡ false
    differ a b l = grind (arith, nat_tests)

module _ (moment : ℕ) (machine machine_then : SeatedCoreState) (sources sources_then : List SeatedSourceState) (tasks tasks_then : List Task)
    (b : IsBurst moment machine sources tasks machine_then sources_then tasks_then) where
  abbrev lists : ℕ → List JournalEntry
  lists = lists_of machine.core.past (sources_of sources)

  abbrev final : ℕ → List JournalEntry
  final = lists_of machine_then.core.past (sources_of sources_then)

  plans : HaveAllPlans (length sources) moment tasks b.passes tasks_then
  plans = have_all_plans (length sources) moment tasks b.passes tasks_then b.played

  -- ---- the log of each object

  -- an object that is there, or none past the last
  abbrev Stands : ℕ → List (ℕ × Noted) → Type 0
  Stands i log =
      ((u : WorldObject) × (get_elem? b.first i ≡ some u) × (log ≡ b.closed.closed.log i)) ⊎ ((1 + length sources ≤ i) × (log ≡ []))

  record HasLog (i : ℕ) : Type 0 where
    log : List (ℕ × Noted)
    stands : Stands i log

  has_log : (i : ℕ) → HasLog i
  has_log i = ⊎_elim
      (λ (l : i < length b.first). let u = there b.first i l in record { log = b.closed.closed.log i; stands = inl (u.0, u.1, refl) })
      (λ (l : length b.first ≤ i).
      let n : length b.first ≡ 1 + length sources = object_count moment machine sources b.first b.opened in
      record { log = []; stands = inr (omega arith, refl) })
      (cases_lt i (length b.first))

  passes_count : (k i : ℕ) (u : WorldObject) → get_elem? b.first i ≡ some u
      → of_object i (get_or b.passes k []) ≡ made_by k i (length (lists i)) (b.closed.closed.log i)
  passes_count k i u at = ⊎_elim
      (λ (l : k < length b.passes).
      b.closed.closed.booked k l i u at ∙ ap (λ (n : ℕ). made_by k i n (b.closed.closed.log i))
      (items_count (journal_of u) ∙ ap length (list_is moment machine sources b.first b.opened i u at)))
      (λ (l : length b.passes ≤ k).
      ap (of_object i) (get_or_past b.passes k [] l)
      ∙ sym (made_by_new k i (length (lists i)) (b.closed.closed.log i) (below_more (length b.passes) k (b.closed.closed.log i) l (b.closed.closed.makers i))))
      (cases_lt k (length b.passes))

  booked : (k i : ℕ) → of_object i (flat (get_or plans.left k [])) ≡ made_by k i (length (lists i)) (has_log i).log
  booked k i = by (has_log i).log (has_log i).stands
    where
      by : (log : List (ℕ × Noted)) → Stands i log → of_object i (flat (get_or plans.left k [])) ≡ made_by k i (length (lists i)) log
      by log (inl s) =
          ap (of_object i) (sym (plans.are k)) ∙ passes_count k i s.0 s.1 ∙ ap (made_by k i (length (lists i))) (sym s.2)
      by log (inr s) =
          none_outside (1 + length sources) i (flat (get_or plans.left k [])) (plans.within k) s.0
          ∙ ap (made_by k i (length (lists i))) (sym s.1)

  -- what an object's log leaves
  abbrev Leaves : ℕ → List (ℕ × Noted) → Type 0
  Leaves i log = Follows (lists i) (empty log) × (behind (lists i) (empty log) ≡ final i)

  gained : (i : ℕ) (u : WorldObject) → get_elem? b.first i ≡ some u → Leaves i (b.closed.closed.log i)
  gained i u at =
      let n : length b.closed.values ≡ length b.first = b.closed.closed.counted in
      let l : i < length b.first = within b.first i u at in
      let y = there b.closed.values i (omega arith) in
      let o = b.closed.closed.objects i y.0 y.1 in
      let same : o.0 ≡ u = let both : some o.0 ≡ some u = sym o.1 ∙ at in cc in
      let before : journal_of o.0 ≡ lists i = ap journal_of same ∙ list_is moment machine sources b.first b.opened i u at in
      let after : journal_of y.0 ≡ final i = list_is b.closed.moment machine_then sources_then b.closed.values b.closed.are i y.0 y.1 in
      let g = gained_follows (journal_of o.0) (journal_of y.0) (empty (b.closed.closed.log i)) o.3 in
      subst (λ (l : List JournalEntry). Follows l (empty (b.closed.closed.log i)) × (behind l (empty (b.closed.closed.log i)) ≡ final i)) before (g.0, g.1 ∙ after)

  leaves : (i : ℕ) → Leaves i (has_log i).log
  leaves i = by (has_log i).log (has_log i).stands
    where
      by : (log : List (ℕ × Noted)) → Stands i log → Leaves i log
      by log (inl s) = subst (Leaves i) (sym s.2) (gained i s.0 s.1)
      by log (inr s) =
          let was : length b.first ≡ 1 + length sources = object_count moment machine sources b.first b.opened in
          let is : length b.closed.values ≡ 1 + length sources_then = object_count b.closed.moment machine_then sources_then b.closed.values b.closed.are in
          let n : length b.closed.values ≡ length b.first = b.closed.closed.counted in
          let l : 1 + length sources ≤ i = s.0 in
          subst (Leaves i) (sym s.1)
          (tt, no_list moment machine sources b.first b.opened i s.0 ∙ sym (no_list b.closed.moment machine_then sources_then b.closed.values b.closed.are i (omega arith)))

  object_fits : (i : ℕ) → ObjectFits (lists i) (has_log i).log (final i)
  object_fits i =
      let l = leaves i in
      record {
        follows = l.0;
        leaves = l.1;
        rises = ascends_low (newest 0 (lists i)) 0 (empty (has_log i).log) (omega arith)
            (ascends (lists i) (empty (has_log i).log) l.0
            (fresh_log i (length (lists i)) (has_log i).log (λ k. subst AreMadeFresh (booked k i) (fresh_of i (flat (get_or plans.left k [])) (plans.fresh k)))));
      }

  fits : Fits (Does (length sources) moment) final tasks_then lists tasks plans.left (λ i. (has_log i).log)
  fits = record { all = plans.go; objects = object_fits; booked = booked; rises = plans.rises }

  -- ---- the course

  abbrev Reached : (ℕ → List JournalEntry) → List Task → Type 0
  Reached l t = Course (length sources) moment (burst_state_of machine sources tasks) (record { lists = l; tasks = t })

  is_act : (l : ℕ → List JournalEntry) (ts : List Task) (k : ℕ) (t u : Task) (p : Plan) → slice_get ts k ≡ Some t → Does (length sources) moment t (gains_of p) u
      → p.past ≡ l p.object → IsAct (length sources) moment (record { lists = l; tasks = ts }) (record { lists = landed l p; tasks = set ts k u })
  is_act l ts k t u p at does past = record {
    place = k;
    was = t;
    is = u;
    gains = gains_of p;
    there = at;
    does = does;
    tasks = refl;
    lands = record {
      object = p.object;
      added = p.entry ∷ p.others;
      gained = ap (λ (x : List JournalEntry). placed p.object (length x) (notes_on x (p.entry ∷ p.others))) past;
      grown = ap (λ (c : Bool). cond c ((p.entry ∷ p.others) ++ l p.object) (l p.object)) (same_number p.object);
      others = λ i h. ap (λ (c : Bool). cond c ((p.entry ∷ p.others) ++ l p.object) (l i)) h;
    };
  }

  land : (l : ℕ → List JournalEntry) (ts : List Task) (k : ℕ) (t u : Task) (p : Plan) → Reached l ts → slice_get ts k ≡ Some t
      → Does (length sources) moment t (gains_of p) u → p.past ≡ l p.object → Reached (landed l p) (set ts k u)
  land l ts k t u p reached at does past =
      Goes (record { lists = l; tasks = ts }) (record { lists = landed l p; tasks = set ts k u }) reached (is_act l ts k t u p at does past)

  serial : IsSerial moment machine sources tasks machine_then sources_then tasks_then
  serial =
      let e = in_turn (Does (length sources) moment) final tasks_then Reached land lists tasks plans.left (λ i. (has_log i).log) Begins fits in
      record {
        last = record { lists = e.0; tasks = tasks_then };
        course = e.1;
        tasks_are = refl;
        lists_are = e.2;
      }

pub bursts_are_serial : BurstsAreSerial
bursts_are_serial moment machine machine_then sources sources_then tasks tasks_then b = serial moment machine machine_then sources sources_then tasks tasks_then b
