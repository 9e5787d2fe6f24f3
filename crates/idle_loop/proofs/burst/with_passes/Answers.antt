-- Proof by hand of `with_passes`: its loop, its casts and what it returns, by the lemmas of `Crewing`.
use Rattle.std.proofs.Common.{rules, ◌≡◌, ◌∙◌, ◌≤◌, ⊎_elim, inl, inr, [], ℕ, Some, length, sym, ap, arith}
use Rattle.idle_loop.proofs.Crewing.{manning_none, manning_more, manning_low, manning_all, none_left}
use Rattle.idle_loop.proofs.burst.with_passes.Goals as goal

pub loop-role-init : goal.loop-role-init
loop-role-init c =
    let same : c.into_iter-role-iterator.result.a.rest.items ≡ c.args.roles.items = search rules in
    let same' : c.into_iter-role-iterator.result.b.rest.items ≡ c.args.passes.items = search rules in
    record {
      workers = manning_none _ _ _ _ c.in-Ok.workers.items c.in-Ok.ensures.items same same';
      room = search rules;
    }

pub overflow_cast-who : goal.overflow_cast-who
overflow_cast-who c = let low : length c.loop-role.workers.items ≤ length c.args.roles.items = manning_low _ _ _ _ c.loop-role.workers.items c.loop-role.invariant.workers in omega (arith, low, c.requires.few, c.len-who.ensures, c.loop-role.workers.ok.0)

pub push_reserved-requires : goal.push_reserved-requires
push_reserved-requires c = omega (arith, c.loop-role.invariant.room, c.in-Some.ensures.steps.0.1)

pub loop-role-preserved : goal.loop-role-preserved
loop-role-preserved c =
    let s = c.in-Some.ensures.steps in
    let who : c.len-who.result ≡ length c.loop-role.workers.items = c.len-who.ensures ∙ c.loop-role.workers.ok.0 in
    record {
      workers = manning_more _ _ _ _ _ _ c.loop-role.workers.items _ c.in-Some.role c.in-Some.pass _ c.loop-role.invariant.workers s.0.0 s.1.0 c.push_reserved.ensures.items
          (ap (λ (n : ℕ). record { who = n; pass = Some c.in-Some.pass; role = c.in-Some.role; left = 1000 }) who);
      room = omega (arith, c.loop-role.invariant.room, s.0.1, c.push_reserved.ensures.len, c.push_reserved.ensures.capacity);
    }

pub returns : goal.returns
returns c =
    let s = c.in-None.ensures.steps in
    let a = c.loop-role.role-iterator.a.rest in
    let b = c.loop-role.role-iterator.b.rest in
    let none : a.len ≡ 0 → a.items ≡ [] = λ e. none_left a.items (sym a.ok.0 ∙ e) in
    let none' : b.len ≡ 0 → b.items ≡ [] = λ e. none_left b.items (sym b.ok.0 ∙ e) in
    manning_all _ _ _ _ c.loop-role.workers.items c.loop-role.invariant.workers c.requires.same (⊎_elim (λ l. inl (none l.1.0)) (λ r. inr (none' r.1.0)) s)
