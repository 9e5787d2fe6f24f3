-- A whole burst, from what goes into it to what comes out.
use Rattle.std.proofs.Common.{◌≡◌, ◌∙◌, ◌+◌, ℕ, suc, List, ◌++◌, Result, Ok, Err, IfOk, length, take, drop, sym, ap, subst, arith}
use Rattle.std.proofs.lemmas.List.{drop_all, take_all}
use Rattle.atomic_table.specs.Seated.{TableId}
use Rattle.turn_lock.specs.declared.table.Pass.{Pass}
use Rattle.turn_lock.specs.Passes.{AreAll, LockToken, first_of}
use Rattle.turn_lock.specs.Passing.{made_lists, tokens}
use Rattle.run_laws.specs.Passes.{Noted}
use Rattle.run_objects.specs.Objects.{SourcesInvariant, SeatedCoreState, SeatedSourceState}
use Rattle.run_world.specs.declared.object.WorldObject.{WorldObject}
use Rattle.run_world.specs.ObjectLists.{AreObjectsOf as AreAllObjects, IsClosedWorld}
use Rattle.run_world.specs.Objects.{AreObjects}
use Rattle.run_world.specs.declared.task.Task.{Task}
use Rattle.run_world.specs.Bursts.{AllPlayed}
use Rattle.world_workers.specs.declared.worker.Worker.{Worker}
use Rattle.world_workers.specs.Opened.{Began, HasEnded, HasRun, IsOpened}
use Rattle.world_workers.specs.Workers.{AreContents, AreWorkersOf, HaveTurned}
use Rattle.world_workers.proofs.Pools.{AreSame, actors_same, all_back, all_played, append_nil, fresh_workers, new_passes, tasks_back}
use Rattle.world_workers.proofs.Opening.{objects_are, those_count}
use Rattle.world_workers.proofs.Closing.{ready_again}

-- what a vector of that length has, once all of it was written over
pub written : {A : Type 0} (len : ℕ) (new old : List A) → length new ≡ length old → len ≡ length old → take len (new ++ drop (length new) old) ≡ new
written len new old same is =
    ap (λ (l : List _). take len (new ++ l)) (drop_all (length new) old (omega (arith, same))) ∙ ap (λ (l : List _). take len l) (append_nil new) ∙ take_all len new (omega (arith, same, is))

-- how many objects there are
pub world_count : (moment : ℕ) (core : SeatedCoreState) (sources : List SeatedSourceState) (objects : List WorldObject) → AreAllObjects moment core sources objects → length objects ≡ suc (length sources)
world_count moment core sources objects all = ap (λ (l : List WorldObject). length l) all.are ∙ ap (λ (n : ℕ). suc n) (those_count sources all.rest all.those)

module _ (b : Began) (own : LockToken WorldObject Noted) (locks : TableId) (workers : List Worker) (o : IsOpened b own locks workers) where
  world : AreObjects b.machine b.table b.moment o.objects
  world = objects_are b.machine b.table b.moment b.core b.sources b.tasks o.ready o.kept o.objects o.all

  -- they are a machine's, as the table has them
  pub world_first : AreObjects b.machine b.table b.moment (first_of own)
  world_first = subst (AreObjects b.machine b.table b.moment) (sym o.first) world

  -- the workers go with the world
  pub start : AreWorkersOf b.machine b.table locks b.moment workers
  start = fresh_workers b.machine b.table locks b.moment workers o.passes b.tasks o.contents o.fresh (new_passes b.machine b.table locks b.moment own o.objects o.passes o.place o.first world o.new) o.ready.tasks_in

module _ (b : Began) (own : LockToken WorldObject Noted) (locks : TableId) (workers : List Worker) (r : HasRun b own locks workers) (backs : List (Pass WorldObject Noted)) (thens : List Task)
    (after : AreContents workers backs thens) where
  played : AllPlayed (length b.machine.sources + 1) b.moment b.tasks (made_lists backs) thens × AreSame r.opened.passes backs
  played = all_played b.machine b.table locks b.moment r.before workers r.did r.opened.passes backs b.tasks thens r.gone r.opened.contents r.opened.fresh
      (new_passes b.machine b.table locks b.moment own r.opened.objects r.opened.passes r.opened.place r.opened.first (world b own locks r.before r.opened) r.opened.new) after

  -- all passes come back
  pub passes_back : AreAll own (tokens backs)
  passes_back = all_back b.machine b.table locks b.moment own r.opened.passes backs workers thens r.opened.place r.opened.new played.1 after r.goes

  -- what comes back with them makes a burst
  pub ended : (core : SeatedCoreState) (sources : List SeatedSourceState) → IsClosedWorld (first_of own) (made_lists backs) core sources → SourcesInvariant sources → HasEnded b core sources thens
  ended core sources closed kept = record {
    burst = record {
      first = r.opened.objects;
      passes = made_lists backs;
      timed = r.opened.timed;
      opened = r.opened.all;
      closed = subst (λ (l : List WorldObject). IsClosedWorld l (made_lists backs) core sources) r.opened.first closed;
      played = subst (λ (n : ℕ). AllPlayed n b.moment b.tasks (made_lists backs) thens) (sym r.opened.ready.count) played.0;
    };
    ready = ready_again b.machine b.table b.moment (first_of own) (made_lists backs) core sources (world_first b own locks r.before r.opened) closed kept thens
        (tasks_back b.machine b.table locks b.moment workers backs thens after r.goes);
    actors = actors_same (length b.machine.sources + 1) b.moment b.tasks (made_lists backs) thens played.0;
  }

-- ---- a burst from its parts

-- the workers of a burst that was opened have run, all written over in their vector
pub has_run : (b : Began) (own : LockToken WorldObject Noted) (locks : TableId) (len : ℕ) (given new olds : List Worker) (did : ℕ) → IsOpened b own locks olds
    → given ≡ olds → length new ≡ length given → len ≡ length olds → HaveTurned given new did → AreWorkersOf b.machine b.table locks b.moment new
    → HasRun b own locks (take len (new ++ drop (length new) olds))
has_run b own locks len given new olds did o same many count gone goes =
    let long : length new ≡ length olds = many ∙ ap (λ (l : List Worker). length l) same in
    subst (λ (l : List Worker). HasRun b own locks l) (sym (written len new olds long count)) (record {
      before = olds;
      opened = o;
      did = did;
      gone = subst (λ (l : List Worker). HaveTurned l new did) same gone;
      goes = goes;
    })

-- what holds of a value holds of one that it says more of
pub if_ok : {A E : Type 0} (P Q : A → Type 0) → ((a : A) → P a → Q a) → (r : Result A E) → IfOk r P → IfOk r Q
if_ok P Q more (Ok a) h = more a h
if_ok P Q more (Err e) h = tt
