-- The machine and its sources that come back from a world may go into another.
use Rattle.std.proofs.Common.{◌≡◌, ◌∙◌, ◌+◌, ℕ, suc, List, length, Some, None, sym, ap, subst, arith}
use Rattle.std.proofs.lemmas.List.{length-map}
use mathlib.Core.Option.{some}
use lib.ListN.{get_elem?}
use Rattle.sleep_model.specs.declared.machine.Machine.{Machine}
use Rattle.atomic_table.specs.Seated.{TableId}
use Rattle.event_word.specs.Seats.{WordToken}
use Rattle.turn_lock.specs.declared.view.Made.{Made}
use Rattle.run_laws.specs.Passes.{Noted}
use Rattle.run_objects.specs.Objects.{SourcesInvariant, SeatedCoreState, SeatedSourceState}
use Rattle.run_world.specs.declared.object.WorldObject.{WorldObject}
use Rattle.run_world.specs.declared.object.WorldObject.TheVariants as object
use Rattle.run_world.specs.ObjectLists.{IsClosedWorld}
use Rattle.run_world.specs.Roots.{WorldRoot, machine_root, source_root}
use Rattle.run_world.specs.Objects.{AreObjects}
use Rattle.run_world.specs.declared.task.Task.{Task}
use Rattle.world_workers.specs.Bursts.{AreReady, AreTasksIn}
use Rattle.world_workers.proofs.Opening.{preserved_at, seat_at, that_at, those_count}

machines_same : (a b : Machine) → Some a ≡ Some b → a ≡ b
machines_same a b e = cc

module _ (m : Machine) (table : TableId) (moment : ℕ) (first : List WorldObject) (passes : List (List (Made Noted))) (core : SeatedCoreState) (sources : List SeatedSourceState)
    (world : AreObjects m table moment first) (closed : IsClosedWorld first passes core sources) where
  machine_back : machine_root core ≡ record { machine = Some m; table = table; number = length m.sources + 1; moment = 0 }
  machine_back =
      let o = closed.closed.objects 0 (object.Machine core) (ap (λ (l : List WorldObject). get_elem? l 0) closed.are.are) in
      o.2 ∙ world.machine o.0 o.1

  source_back : (s : ℕ) (x : SeatedSourceState) → get_elem? sources s ≡ some x → source_root x closed.moment ≡ record { machine = None; table = table; number = s; moment = moment }
  source_back s x at =
      let u = that_at closed.moment sources closed.are.rest closed.are.those closed.are.at s x at in
      let o = closed.closed.objects (suc s) u.0 (ap (λ (l : List WorldObject). get_elem? l (suc s)) closed.are.are ∙ u.1) in
      let plus : suc s ≡ 1 + s = omega arith in
      sym u.2 ∙ o.2 ∙ world.source s o.0 (ap (λ (n : ℕ). get_elem? first n) (sym plus) ∙ o.1)

  sources_count : length sources ≡ length m.sources + 1
  sources_count =
      let all = those_count sources closed.are.rest closed.are.those in
      let values = ap (λ (l : List WorldObject). length l) closed.are.are in
      omega (arith, all, values, closed.closed.counted, world.count)

  -- what comes back may go in again
  pub ready_again : SourcesInvariant sources → (tasks : List Task) → AreTasksIn m tasks → AreReady m table core sources tasks
  ready_again kept tasks tasks_in = record {
    machine = machines_same core.core.machine m (ap (λ (r : WorldRoot). r.machine) machine_back);
    table_is = ap (λ (r : WorldRoot). r.table) machine_back;
    seats = record {
      counted = length-map sources (λ s. s.seat) ∙ sources_count ∙ sym (ap (λ (r : WorldRoot). r.number) machine_back);
      each_is = λ k t at.
          let x = seat_at sources k t at in
          let back = source_back k x.0 x.1 in
          let place : x.0.seat.table_id ≡ core.seat.table_id = ap (λ (r : WorldRoot). r.table) back ∙ sym (ap (λ (r : WorldRoot). r.table) machine_back) in
          let number = (preserved_at sources kept k x.0 x.1).number ∙ ap (λ (r : WorldRoot). Some r.number) back in
          subst (λ (y : WordToken). (y.table_id ≡ core.seat.table_id) × (y.me.0.number ≡ Some k)) (sym x.2) (place, number);
    };
    count = sources_count;
    tasks_in = tasks_in;
  }
