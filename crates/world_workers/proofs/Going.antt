-- A worker goes on by one turn.
use Rattle.std.proofs.Common.{◌≡◌, ◌∙◌, ◌+◌, ℕ, List, ◌∷◌, ◌++◌, length, Some, sym, ap, subst, append_assoc, arith}
use Rattle.sleep_model.specs.declared.machine.Machine.{Machine}
use Rattle.atomic_table.specs.Seated.{TableId}
use Rattle.turn_lock.specs.declared.table.Pass.{Pass}
use Rattle.turn_lock.specs.declared.view.Made.{Made}
use Rattle.turn_lock.specs.Passes.{first_of, made_of}
use Rattle.run_laws.specs.Passes.{Noted}
use Rattle.run_world.specs.declared.object.WorldObject.{WorldObject}
use Rattle.run_world.specs.Acts.{Does, all_gains}
use Rattle.world_workers.specs.declared.worker.Worker.{Worker}
use Rattle.world_workers.specs.Tries.{HasActed, HasMade}
use Rattle.world_workers.specs.Workers.{IsWorkerOf, Moment, Since}

module _ (m : Machine) (table locks : TableId) (moment : ℕ) (old new : Worker) (before after : Pass WorldObject Noted) (is : IsWorkerOf m table locks moment old) (has : old.pass ≡ Some before)
    (has_now : new.pass ≡ Some after) (same_time : new.moment ≡ old.moment) (a : HasActed m table locks moment old.task new.task before.token after.token) where
  pub went_on : (s : Moment) → Since s old → Since s new
  went_on s h =
      let same : h.pass ≡ before = let e : Some h.pass ≡ Some before = sym h.has ∙ has in cc in
      let mine : is.pass ≡ before = let e : Some is.pass ≡ Some before = sym is.has ∙ has in cc in
      let was : HasMade s.token before.token (all_gains h.acts) = subst (λ (p : Pass WorldObject Noted). HasMade s.token p.token (all_gains h.acts)) same h.made in
      let wide : length (first_of before.token) ≡ s.sources + 1 = subst (λ (p : Pass WorldObject Noted). length (first_of p.token) ≡ s.sources + 1) same h.count in
      let there : length (first_of before.token) ≡ length m.sources + 2 = subst (λ (p : Pass WorldObject Noted). length (first_of p.token) ≡ length m.sources + 2) mine is.goes.pass.objects.count in
      let many : length m.sources + 1 ≡ s.sources = omega (arith, wide, there) in
      record {
        acts = a.gains ∷ h.acts;
        pass = after;
        has = has_now;
        made = record {
          made = a.made.made ∙ ap (λ (l : List (Made Noted)). l ++ a.gains) was.made ∙ append_assoc (made_of s.token) (all_gains h.acts) a.gains;
          number = a.made.number ∙ was.number;
          first = a.made.first ∙ was.first;
        };
        count = ap (λ (l : List WorldObject). length l) a.made.first ∙ wide;
        time = same_time ∙ h.time;
        plays = (
          old.task,
          h.plays,
          subst (λ (n : ℕ). Does n s.time old.task a.gains new.task) many
              (subst (λ (t : ℕ). Does (length m.sources + 1) t old.task a.gains new.task) (sym is.time ∙ h.time) a.does),
        );
      }
