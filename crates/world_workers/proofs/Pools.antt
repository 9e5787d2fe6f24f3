-- The workers of a burst, as they go into it and come out.
use Rattle.std.proofs.Common.{◌≡◌, ◌∙◌, ◌≤◌, ◌<◌, ◌+◌, ℕ, zero, suc, List, [], ◌∷◌, ◌++◌, length, map, Some, refl, sym, ap, subst, arith, slice_index_or, length-append}
use mathlib.Core.Option.{some, none}
use lib.ListN.{get_elem?}
use Rattle.sleep_model.specs.declared.entry.Actor.{Actor}
use Rattle.sleep_model.specs.declared.machine.Machine.{Machine}
use Rattle.atomic_table.specs.Seated.{TableId}
use Rattle.sleep_pool.specs.declared.turns.Turn.{Turn}
use Rattle.turn_lock.specs.declared.table.Pass.{Pass}
use Rattle.turn_lock.specs.declared.view.Made.{Made}
use Rattle.turn_lock.specs.Passes.{AreAll, AreNew, IsPass, IsPassOf, LockToken, first_of, made_of, number_of}
use Rattle.turn_lock.specs.Passing.{made_lists, tokens}
use Rattle.run_laws.specs.Passes.{Noted}
use Rattle.run_world.specs.declared.object.WorldObject.{WorldObject}
use Rattle.run_world.specs.Objects.{AreObjects, IsWorldPass}
use Rattle.run_world.specs.declared.task.Task.{Task}
use Rattle.run_world.specs.Acts.{Does, Plays, actor_of, all_gains}
use Rattle.run_world.specs.Bursts.{AllPlayed}
use Rattle.world_workers.specs.declared.worker.Worker.{Worker}
use Rattle.world_workers.specs.Tries.{HasMade, IsTaskIn}
use Rattle.world_workers.specs.Bursts.{AreTasksIn}
use Rattle.world_workers.specs.Workers.{AreFresh, AreOneMore, AreContents, AreWorkersOf, HaveTurned, IsWorkerOf, Moment, Since, WorkerWentOn}
use Rattle.world_workers.proofs.Acting.{append_none}

abbrev WorldPass : Type 0
WorldPass = Pass WorldObject Noted

pub append_nil : {A : Type 0} (l : List A) → l ++ [] ≡ l
append_nil [] = refl
append_nil {A} (x ∷ l) = ap (λ (k : List A). x ∷ k) (append_nil l)

pub no_length : {A : Type 0} (l : List A) → length l ≡ 0 → l ≡ []
no_length [] h = refl
no_length (x ∷ l) h = absurd (omega (arith, h))

pass_same : (p q : WorldPass) → Some p ≡ Some q → p ≡ q
pass_same p q e = cc

token_same : (p q : LockToken WorldObject Noted) → some p ≡ some q → p ≡ q
token_same p q e = cc

-- ---- one worker more

pub contents_more : (workers : List Worker) (passes : List WorldPass) (tasks : List Task) (w : Worker) (p : WorldPass) (t : Task)
    → AreContents workers passes tasks → w.pass ≡ Some p → w.task ≡ t → AreContents (workers ++ w ∷ []) (passes ++ p ∷ []) (tasks ++ t ∷ [])
contents_more [] [] [] w p t are has is = ((has, is), tt)
contents_more [] [] (u ∷ tasks) w p t are has is = absurd are
contents_more [] (q ∷ passes) tasks w p t are has is = absurd are
contents_more (v ∷ workers) [] tasks w p t are has is = absurd are
contents_more (v ∷ workers) (q ∷ passes) [] w p t are has is = absurd are
contents_more (v ∷ workers) (q ∷ passes) (u ∷ tasks) w p t are has is = (are.0, contents_more workers passes tasks w p t are.1 has is)

-- those that one worker brings come after the others
pub parts_pushed : (workers : List Worker) (passes passes' : List WorldPass) (tasks tasks' : List Task) (w : Worker)
    → AreContents workers passes tasks → AreOneMore w.pass passes passes' → tasks' ≡ tasks ++ w.task ∷ [] → AreContents (workers ++ w ∷ []) passes' tasks'
parts_pushed workers passes passes' tasks tasks' w are more is =
    subst (λ (ts : List Task). AreContents (workers ++ w ∷ []) passes' ts) (sym is)
    (subst (λ (ps : List WorldPass). AreContents (workers ++ w ∷ []) ps (tasks ++ w.task ∷ [])) (sym more.2) (contents_more workers passes tasks w more.0 w.task are more.1 refl))

pub fresh_more : (moment : ℕ) (workers : List Worker) (w : Worker) → AreFresh moment workers → w.moment ≡ moment → w.left ≡ 1000 → AreFresh moment (workers ++ w ∷ [])
fresh_more moment [] w are time left = ((time, left), tt)
fresh_more moment (v ∷ workers) w are time left = (are.0, fresh_more moment workers w are.1 time left)

-- there are as many tasks, and passes, as workers
pub contents_count : (workers : List Worker) (passes : List WorldPass) (tasks : List Task) → AreContents workers passes tasks → (length tasks ≡ length workers) × (length passes ≡ length workers)
contents_count [] [] [] are = (refl, refl)
contents_count [] [] (t ∷ tasks) are = absurd are
contents_count [] (p ∷ passes) tasks are = absurd are
contents_count (w ∷ workers) [] tasks are = absurd are
contents_count (w ∷ workers) (p ∷ passes) [] are = absurd are
contents_count (w ∷ workers) (p ∷ passes) (t ∷ tasks) are =
    let less = contents_count workers passes tasks are.1 in
    (ap (λ (n : ℕ). suc n) less.0, ap (λ (n : ℕ). suc n) less.1)

-- ---- while passes are given to tasks

module _ (passes lent left : List WorldPass) (tasks yielded rest : List Task) (workers : List Worker) (passes_are : passes ≡ lent ++ left) (counted : length passes ≡ length tasks)
    (tasks_are : tasks ≡ yielded ++ rest) (contents : AreContents workers lent yielded) where
  -- there are more tasks than workers
  pub fewer : (t : Task) (more : List Task) → rest ≡ t ∷ more → length workers < length tasks
  fewer t more is =
      let n = contents_count workers lent yielded contents in
      let all = ap (λ (l : List Task). length l) tasks_are in
      let behind : length rest ≡ 1 + length more = ap (λ (l : List Task). length l) is ∙ omega arith in
      omega (arith, n.0, all, length-append yielded rest, behind)

  -- so a pass is left
  pub one_left : (t : Task) (more : List Task) → rest ≡ t ∷ more → length left ≡ 0 → ⊥
  one_left t more is none_left =
      let n = contents_count workers lent yielded contents in
      let less = fewer t more is in
      let all = ap (λ (l : List WorldPass). length l) passes_are in
      absurd (omega (arith, n.1, less, all, counted, none_left, length-append lent left))

  -- each pass is with a worker if no task is left
  pub all_lent : rest ≡ [] → AreContents workers passes tasks
  all_lent none_left =
      let n = contents_count workers lent yielded contents in
      let whole : tasks ≡ yielded = tasks_are ∙ ap (λ (l : List Task). yielded ++ l) none_left ∙ append_nil yielded in
      let many = ap (λ (l : List Task). length l) whole in
      let all = ap (λ (l : List WorldPass). length l) passes_are in
      let left_none : left ≡ [] = no_length left (omega (arith, n.0, n.1, many, all, counted, length-append lent left)) in
      subst (λ (l : List Task). AreContents workers passes l) (sym whole)
      (subst (λ (l : List WorldPass). AreContents workers l yielded) (sym (passes_are ∙ ap (λ (l : List WorldPass). lent ++ l) left_none ∙ append_nil lent)) contents)

-- ---- passes that come back

-- each pass that is brought back is the one that was taken
abbrev pub AreSame : List WorldPass → List WorldPass → Type 0
AreSame [] [] = Unit {0}
AreSame [] (q ∷ backs) = ⊥
AreSame (p ∷ passes) [] = ⊥
AreSame (p ∷ passes) (q ∷ backs) = ((number_of q.token ≡ number_of p.token) × (first_of q.token ≡ first_of p.token)) × AreSame passes backs

same_count : (passes backs : List WorldPass) → AreSame passes backs → length (tokens backs) ≡ length (tokens passes)
same_count [] [] are = refl
same_count [] (q ∷ backs) are = absurd are
same_count (p ∷ passes) [] are = absurd are
same_count (p ∷ passes) (q ∷ backs) are = ap (λ (n : ℕ). suc n) (same_count passes backs are.1)

same_at : (passes backs : List WorldPass) → AreSame passes backs → (k : ℕ) (q : LockToken WorldObject Noted) → get_elem? (tokens backs) k ≡ some q
    → (p : LockToken WorldObject Noted) × (get_elem? (tokens passes) k ≡ some p) × (number_of q ≡ number_of p) × (first_of q ≡ first_of p)
same_at passes [] are k q at = absurd (let e : none ≡ some q = at in cc)
same_at [] (b ∷ backs) are k q at = absurd are
same_at (p ∷ passes) (b ∷ backs) are zero q at =
    let same = token_same b.token q at in
    (p.token, refl, sym (ap number_of same) ∙ are.0.0, sym (ap first_of same) ∙ are.0.1)
same_at (p ∷ passes) (b ∷ backs) are (suc k) q at = same_at passes backs are.1 k q at

-- ---- workers go with the world

module _ (m : Machine) (table locks : TableId) (moment : ℕ) where
  pub each_worker : (workers : List Worker) → AreWorkersOf m table locks moment workers → (k : ℕ) (d : Worker) → k < length workers → IsWorkerOf m table locks moment (slice_index_or workers k d)
  each_worker [] are k d inside = absurd (omega (arith, inside))
  each_worker (w ∷ workers) are zero d inside = are.0
  each_worker (w ∷ workers) are (suc k) d inside = each_worker workers are.1 k d (omega (arith, inside))

  pub all_workers : (workers : List Worker) → ((k : ℕ) (d : Worker) → k < length workers → IsWorkerOf m table locks moment (slice_index_or workers k d)) → AreWorkersOf m table locks moment workers
  all_workers [] each = tt
  all_workers (w ∷ workers) each = (each 0 w (omega arith), all_workers workers (λ k d inside. each (suc k) d (omega (arith, inside))))

  pub each_left : (workers : List Worker) → AreFresh moment workers → (k : ℕ) (d : Worker) → k < length workers → 1000 ≤ (slice_index_or workers k d).left
  each_left [] are k d inside = absurd (omega (arith, inside))
  each_left (w ∷ workers) are zero d inside = let n : w.left ≡ 1000 = are.0.1 in omega (arith, n)
  each_left (w ∷ workers) are (suc k) d inside = each_left workers are.1 k d (omega (arith, inside))

  -- passes of the world that made nothing yet
  abbrev pub AreLent : List WorldPass → Type 0
  AreLent [] = Unit {0}
  AreLent (p ∷ passes) = (IsWorldPass m table locks moment p.token × (made_of p.token ≡ [])) × AreLent passes

  lent_all : (passes : List WorldPass) → ((k : ℕ) (p : LockToken WorldObject Noted) → get_elem? (tokens passes) k ≡ some p → IsWorldPass m table locks moment p × (made_of p ≡ [])) → AreLent passes
  lent_all [] each = tt
  lent_all (p ∷ passes) each = (each 0 p.token refl, lent_all passes (λ k q at. each (suc k) q at))

  -- the passes of a new table of the world's objects
  pub new_passes : (own : LockToken WorldObject Noted) (objects : List WorldObject) (passes : List WorldPass) → own.table_id ≡ locks → first_of own ≡ objects → AreObjects m table moment objects
      → AreNew own (tokens passes) → AreLent passes
  new_passes own objects passes place first_is world are = lent_all passes (λ k p at.
      let is : IsPassOf own p = (are.all_are.each_is k p at).0 in
      let same : first_of own ≡ first_of p = sym is.first_is in (
        record {
          pass = subst (λ (t : TableId). IsPass t (first_of p) p) place (subst (λ (l : List WorldObject). IsPass own.table_id l p) same is);
          objects = subst (AreObjects m table moment) (sym first_is ∙ same) world;
        },
        are.empty k p at,
      ))

  -- workers with such passes go with the world
  pub fresh_workers : (workers : List Worker) (passes : List WorldPass) (tasks : List Task) → AreContents workers passes tasks → AreFresh moment workers → AreLent passes → AreTasksIn m tasks
      → AreWorkersOf m table locks moment workers
  fresh_workers [] passes tasks are fresh lent in_all = tt
  fresh_workers (w ∷ workers) [] tasks are fresh lent in_all = absurd are
  fresh_workers (w ∷ workers) (p ∷ passes) [] are fresh lent in_all = absurd are
  fresh_workers (w ∷ workers) (p ∷ passes) (t ∷ tasks) are fresh lent in_all = (
    record {
      pass = p;
      has = are.0.0;
      time = fresh.0.0;
      goes = record { pass = lent.0.0; is_in = subst (IsTaskIn m) (sym are.0.1) in_all.0 };
    },
    fresh_workers workers passes tasks are.1 fresh.1 lent.1 in_all.1,
  )

  -- ---- what they bring back

  pub tasks_back : (workers : List Worker) (passes : List WorldPass) (tasks : List Task) → AreContents workers passes tasks → AreWorkersOf m table locks moment workers → AreTasksIn m tasks
  tasks_back [] [] [] are go = tt
  tasks_back [] [] (t ∷ tasks) are go = absurd are
  tasks_back [] (p ∷ passes) tasks are go = absurd are
  tasks_back (w ∷ workers) [] tasks are go = absurd are
  tasks_back (w ∷ workers) (p ∷ passes) [] are go = absurd are
  tasks_back (w ∷ workers) (p ∷ passes) (t ∷ tasks) are go = (subst (IsTaskIn m) are.0.1 go.0.goes.is_in, tasks_back workers passes tasks are.1 go.1)

  -- a pass that is brought back is one of the world
  pass_back : (workers : List Worker) (passes : List WorldPass) (tasks : List Task) → AreContents workers passes tasks → AreWorkersOf m table locks moment workers
      → (k : ℕ) (q : LockToken WorldObject Noted) → get_elem? (tokens passes) k ≡ some q → IsWorldPass m table locks moment q
  pass_back workers [] tasks are go k q at = absurd (let e : none ≡ some q = at in cc)
  pass_back [] (p ∷ passes) tasks are go k q at = absurd are
  pass_back (w ∷ workers) (p ∷ passes) [] are go k q at = absurd are
  pass_back (w ∷ workers) (p ∷ passes) (t ∷ tasks) are go zero q at =
      let same : go.0.pass ≡ p = pass_same go.0.pass p (sym go.0.has ∙ are.0.0) in
      subst (IsWorldPass m table locks moment) (ap (λ (x : WorldPass). x.token) same ∙ token_same p.token q at) go.0.goes.pass
  pass_back (w ∷ workers) (p ∷ passes) (t ∷ tasks) are go (suc k) q at = pass_back workers passes tasks are.1 go.1 k q at

  -- so they are all passes of the table
  pub all_back : (own : LockToken WorldObject Noted) (passes backs : List WorldPass) (workers : List Worker) (tasks : List Task) → own.table_id ≡ locks → AreNew own (tokens passes) → AreSame passes backs
      → AreContents workers backs tasks → AreWorkersOf m table locks moment workers → AreAll own (tokens backs)
  all_back own passes backs workers tasks place are same contents go = record {
    counted = same_count passes backs same ∙ are.all_are.counted;
    unused = are.all_are.unused;
    each_is = λ k q at.
        let was = same_at passes backs same k q at in
        let old = are.all_are.each_is k was.0 was.1 in
        let is = (pass_back workers backs tasks contents go k q at).pass in
        let first_same : first_of q ≡ first_of own = was.3 ∙ old.0.first_is in (
          subst (λ (l : List WorldObject). IsPass own.table_id l q) first_same (subst (λ (t : TableId). IsPass t (first_of q) q) (sym place) is),
          was.2 ∙ old.1,
        );
  }

  -- ---- what each did

  module _ (old new : Worker) (p q : WorldPass) (t u : Task) (has : old.pass ≡ Some p) (is : old.task ≡ t) (has_now : new.pass ≡ Some q) (is_now : new.task ≡ u) (time : old.moment ≡ moment)
      (lent : IsWorldPass m table locks moment p.token) (empty : made_of p.token ≡ []) (turns : List Turn) (went : WorkerWentOn old turns new) where
    begun : Moment
    begun = record { sources = length m.sources + 1; time = moment; task = t; token = p.token }

    at_first : Since begun old
    unfolding begun
    at_first = record {
      acts = [];
      pass = p;
      has = has;
      made = record { made = sym (append_none (made_of p.token)); number = refl; first = refl };
      count = omega (arith, lent.objects.count);
      time = time;
      plays = is;
    }

    at_last : Since begun new
    at_last = went begun at_first

    same_pass : at_last.pass ≡ q
    same_pass = pass_same at_last.pass q (sym at_last.has ∙ has_now)

    one_same : (number_of q.token ≡ number_of p.token) × (first_of q.token ≡ first_of p.token)
    unfolding begun
    one_same =
        let made = subst (λ (x : WorldPass). HasMade begun.token x.token (all_gains at_last.acts)) same_pass at_last.made in
        (made.number, made.first)

    one_played : (acts : List (List (Made Noted))) × (made_of q.token ≡ all_gains acts) × Plays (length m.sources + 1) moment t acts u
    unfolding begun
    one_played =
        let made = subst (λ (x : WorldPass). HasMade begun.token x.token (all_gains at_last.acts)) same_pass at_last.made in
        (at_last.acts, made.made ∙ ap (λ (l : List (Made Noted)). l ++ all_gains at_last.acts) empty, subst (λ (x : Task). Plays (length m.sources + 1) moment t at_last.acts x) is_now at_last.plays)

  -- each task went on by acts of its own, and its pass made just what they added
  pub all_played : (olds news : List Worker) (did : ℕ) (passes backs : List WorldPass) (tasks thens : List Task) → HaveTurned olds news did
      → AreContents olds passes tasks → AreFresh moment olds → AreLent passes → AreContents news backs thens
      → AllPlayed (length m.sources + 1) moment tasks (made_lists backs) thens × AreSame passes backs
  all_played [] [] did [] [] [] [] gone contents fresh lent after = (tt, tt)
  all_played [] [] did [] [] [] (u ∷ thens) gone contents fresh lent after = absurd after
  all_played [] [] did [] (q ∷ backs) [] thens gone contents fresh lent after = absurd after
  all_played [] [] did [] backs (t ∷ tasks) thens gone contents fresh lent after = absurd contents
  all_played [] [] did (p ∷ passes) backs tasks thens gone contents fresh lent after = absurd contents
  all_played [] (new ∷ news) did passes backs tasks thens gone contents fresh lent after = absurd gone
  all_played (old ∷ olds) [] did passes backs tasks thens gone contents fresh lent after = absurd gone
  all_played (old ∷ olds) (new ∷ news) did [] backs tasks thens gone contents fresh lent after = absurd contents
  all_played (old ∷ olds) (new ∷ news) did (p ∷ passes) backs [] thens gone contents fresh lent after = absurd contents
  all_played (old ∷ olds) (new ∷ news) did (p ∷ passes) [] (t ∷ tasks) thens gone contents fresh lent after = absurd after
  all_played (old ∷ olds) (new ∷ news) did (p ∷ passes) (q ∷ backs) (t ∷ tasks) [] gone contents fresh lent after = absurd after
  all_played (old ∷ olds) (new ∷ news) did (p ∷ passes) (q ∷ backs) (t ∷ tasks) (u ∷ thens) gone contents fresh lent after =
      let rest = all_played olds news gone.1 passes backs tasks thens gone.3 contents.1 fresh.1 lent.1 after.1 in
      let went : WorkerWentOn old gone.0 new = gone.2.0 in
      let played = one_played old new p q t u contents.0.0 contents.0.1 after.0.0 after.0.1 fresh.0.0 lent.0.0 lent.0.1 gone.0 went in
      let same = one_same old new p q t u contents.0.0 contents.0.1 after.0.0 after.0.1 fresh.0.0 lent.0.0 lent.0.1 gone.0 went in
      ((played, rest.0), (same, rest.1))

-- ---- whose tasks they are

does_same : (count moment : ℕ) (old new : Task) (gains : List (Made Noted)) → Does count moment old gains new → actor_of new ≡ actor_of old
does_same count moment old new gains (Does.Nothing t) = refl
does_same count moment old new gains (Does.Turns job stamp k attempt g wants ranged turn) = refl
does_same count moment old new gains (Does.Calls job s call stamp g there wants ranged report) = refl
does_same count moment old new gains (Does.Expires timer stamp g there report) = refl

plays_same : (count moment : ℕ) (old new : Task) (acts : List (List (Made Noted))) → Plays count moment old acts new → actor_of new ≡ actor_of old
plays_same count moment old new [] plays = ap actor_of plays
plays_same count moment old new (gains ∷ acts) plays = does_same count moment plays.0 new gains plays.2 ∙ plays_same count moment old plays.0 acts plays.1

-- they are of the same actors
pub actors_same : (count moment : ℕ) (tasks : List Task) (made : List (List (Made Noted))) (thens : List Task) → AllPlayed count moment tasks made thens → map actor_of thens ≡ map actor_of tasks
actors_same count moment [] [] [] all = refl
actors_same count moment [] [] (u ∷ thens) all = absurd all
actors_same count moment [] (g ∷ made) thens all = absurd all
actors_same count moment (t ∷ tasks) [] thens all = absurd all
actors_same count moment (t ∷ tasks) (g ∷ made) [] all = absurd all
actors_same count moment (t ∷ tasks) (g ∷ made) (u ∷ thens) all =
    ap (λ (a : Actor). a ∷ map actor_of thens) (plays_same count moment t u all.0.0 all.0.2) ∙ ap (λ (l : List Actor). actor_of t ∷ l) (actors_same count moment tasks made thens all.1)
