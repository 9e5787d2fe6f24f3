-- A generated machine is one that a file may spell, and its calls need little room.
use Rattle.std.proofs.Common.{◌≡◌, ◌<◌, ◌≤◌, ◌+◌, ◌*◌, ◌/◌, ◌%◌, ◌==◌, ◌||◌, ◌&&◌, not, ◌∙◌, cond, ℕ, zero, suc, Bool, true, false, nat_lt, List, [], ◌∷◌, ◌++◌, length, map, reverse, Option, Some, None, IfSome, refl, sym, ap, subst, arith, length-append}
use Rattle.std.specs.List.{list_any, range_with_len}
use Rattle.std.proofs.lemmas.Bool.{eqb-false, ltb-true, and_parts, not-true}
use Rattle.std.proofs.lemmas.List.{reverse-append}
use Rattle.std.proofs.lemmas.List.Folds.{list_any-append}
use Rattle.std.proofs.lemmas.List.FromFn.{length-map-range_with_len}
use Rattle.sleep_model.specs.declared.machine.Link.{Link}
use Rattle.sleep_model.specs.declared.machine.Op.TheVariants.{Event}
use Rattle.sleep_model.specs.declared.machine.Step.{Step}
use Rattle.sleep_model.specs.Accepted.{IsAccepted, AreScripts, AreSteps}
use Rattle.sleep_model.specs.Links.{AreLinks, is_linked}
use Rattle.sleep_model.specs.Order.{EachAfterParent, parents_of}
use Rattle.sleep_model.specs.Places.{places, op_places, all_operations, link_steps, most_attempts}
use Rattle.sleep_script.specs.Generated.{drawn, draw, drawn_parent, drawn_device, drawn_links, sleeper, drawn_event, after_links, generated}
use Rattle.sleep_script.proofs.Rising.{AreRising, not_below}

less : (x n : ℕ) → 0 < n → x % n < n
less x n h = omega arith

pub drawn_less : (seed k n : ℕ) → 0 < n → draw seed k n < n
drawn_less seed k n h = less (drawn seed k) n h

-- ---- devices

parent_before : (seed i : ℕ) → IfSome (drawn_parent seed i) (λ q. q < i)
parent_before seed zero = tt
parent_before seed (suc i) = by_test (draw seed (suc i) (suc i + 1)) (drawn_less seed (suc i) (suc i + 1) (omega arith)) (draw seed (suc i) (suc i + 1) == suc i) refl
  where
    by_test : (d : ℕ) → d < suc i + 1 → (b : Bool) → (d == suc i) ≡ b → IfSome (cond b None (Some d)) (λ q. q < suc i)
    by_test d l true e = tt
    by_test d l false e = let other : d ≡ suc i → ⊥ = eqb-false d (suc i) e in omega arith

each_after : (seed k n : ℕ) → EachAfterParent k (map (drawn_parent seed) (range_with_len k n))
each_after seed k zero = tt
each_after seed k (suc n) =
    let e : suc k ≡ k + 1 = omega arith in
    (parent_before seed k, subst (λ (j : ℕ). EachAfterParent (suc k) (map (drawn_parent seed) (range_with_len j n))) e (each_after seed (suc k) n))

parents_same : (seed devices k n : ℕ) → parents_of (map (drawn_device seed devices) (range_with_len k n)) ≡ map (drawn_parent seed) (range_with_len k n)
parents_same seed devices k zero = refl
parents_same seed devices k (suc n) = ap (λ ps. drawn_parent seed k ∷ ps) (parents_same seed devices (k + 1) n)

-- ---- links

swapped : (a b : Bool) → (a || (b || false)) ≡ (b || a)
swapped true true = refl
swapped true false = refl
swapped false true = refl
swapped false false = refl

any_reverse : (p : Link → Bool) (ls : List Link) → list_any p (reverse ls) ≡ list_any p ls
any_reverse p [] = refl
any_reverse p (l ∷ ls) =
    ap (list_any p) (reverse-append (l ∷ []) ls) ∙ (list_any-append p (reverse ls) (l ∷ []) ∙ (ap (λ b. b || (p l || false)) (any_reverse p ls) ∙ swapped (list_any p ls) (p l)))

linked_any : (u v : ℕ) (ls : List Link) → is_linked ls u v ≡ list_any (λ (l : Link). l.supplier == u && l.consumer == v) ls
linked_any u v [] = refl
linked_any u v (l ∷ ls) = ap (λ b. (l.supplier == u && l.consumer == v) || b) (linked_any u v ls)

module _ (ps : List (Option ℕ)) (after : EachAfterParent 0 ps) where
  -- links that may be added in turn, each rising
  record PhaseState (ls : List Link) : Type 0 where
    pub linked : AreLinks ps (reverse ls)
    pub rising : AreRising (reverse ls)

  one_more : (u v : ℕ) (ls : List Link) → u < length ps → v < length ps → PhaseState ls → (b : Bool) → (nat_lt u v && not (list_any (λ (l : Link). l.supplier == u && l.consumer == v) ls)) ≡ b
      → PhaseState (cond b (ls ++ record { supplier = u; consumer = v; active = true } ∷ []) ls)
  one_more u v ls hu hv s false e = s
  one_more u v ls hu hv s true e =
      let both = and_parts (nat_lt u v) (not (list_any (λ (l : Link). l.supplier == u && l.consumer == v) ls)) e in
      let up : u < v = ltb-true u v both.0 in
      let apart : is_linked (reverse ls) u v ≡ false = linked_any u v (reverse ls) ∙ (any_reverse (λ (l : Link). l.supplier == u && l.consumer == v) ls ∙ not-true _ both.1) in
      let back : reverse (ls ++ record { supplier = u; consumer = v; active = true } ∷ []) ≡ record { supplier = u; consumer = v; active = true } ∷ reverse ls = reverse-append ls (record { supplier = u; consumer = v; active = true } ∷ []) in
      record {
        linked = subst (AreLinks ps) (sym back) (hu, hv, apart, not_below ps after (reverse ls) s.rising (length ps) u v up, s.linked);
        rising = subst AreRising (sym back) (up, s.rising);
      }

  stand : (seed devices : ℕ) → length ps ≡ devices → 1 ≤ devices → (n : ℕ) → PhaseState (drawn_links seed devices n)
  stand seed devices l h zero = record { linked = tt; rising = tt }
  stand seed devices l h (suc n) =
      let u = draw seed (2 * devices + 2 * n) devices in
      let v = draw seed (2 * devices + 2 * n + 1) devices in
      let hu : u < devices = drawn_less seed (2 * devices + 2 * n) devices (omega arith) in
      let hv : v < devices = drawn_less seed (2 * devices + 2 * n + 1) devices (omega arith) in
      one_more u v (drawn_links seed devices n) (subst (λ (m : ℕ). u < m) (sym l) hu) (subst (λ (m : ℕ). v < m) (sym l) hv) (stand seed devices l h n) _ refl

few_more : (b : Bool) (ls : List Link) (l : Link) (n : ℕ) → length ls ≤ n → length (cond b (ls ++ l ∷ []) ls) ≤ suc n
few_more true ls l n h = omega (arith, length-append ls (l ∷ []))
few_more false ls l n h = omega arith

few_links : (seed devices n : ℕ) → length (drawn_links seed devices n) ≤ n
few_links seed devices zero = omega arith
few_links seed devices (suc n) = few_more _ (drawn_links seed devices n) _ n (few_links seed devices n)

-- ---- scripts

event_steps : (seed devices k : ℕ) (rest : List Step) → AreSteps (generated seed devices) rest → AreSteps (generated seed devices) (drawn_event seed k ++ rest)
event_steps seed devices k rest h =
    let pause : draw seed k 900 < 900 = drawn_less seed k 900 (omega arith) in
    let source : draw seed (k + 1) 3 < 3 = drawn_less seed (k + 1) 3 (omega arith) in
    let long : draw seed (k + 2) 2 < 2 = drawn_less seed (k + 2) 2 (omega arith) in
    (omega arith, omega arith, omega arith, (omega arith, omega arith, (source, omega arith), h))

scripts : (seed devices : ℕ) → AreScripts (generated seed devices) (generated seed devices).actors
scripts seed devices =
    let k = after_links devices in
    let event = λ (n : ℕ). drawn_event seed (k + 3 * n) in
    let calls : AreSteps (generated seed devices) (event 0 ++ (event 1 ++ (event 2 ++ (event 3 ++ [])))) =
    event_steps seed devices (k + 3 * 0) (event 1 ++ (event 2 ++ (event 3 ++ [])))
    (event_steps seed devices (k + 3 * 1) (event 2 ++ (event 3 ++ [])) (event_steps seed devices (k + 3 * 2) (event 3 ++ []) (event_steps seed devices (k + 3 * 3) [] tt))) in
    let own : AreSteps (generated seed devices) sleeper.steps = (omega arith, omega arith, tt, (omega arith, omega arith, tt, (omega arith, omega arith, omega arith, tt))) in
    (omega arith, omega arith, own, (omega arith, omega arith, calls, tt))

-- ---- the machine

pub accepted : (seed devices : ℕ) → 1 ≤ devices → devices ≤ 1000 → IsAccepted (generated seed devices)
accepted seed devices some few =
    let count : length (generated seed devices).devices ≡ devices = length-map-range_with_len (drawn_device seed devices) 0 devices in
    let same = parents_same seed devices 0 devices in
    let after = each_after seed 0 devices in
    let links = stand (map (drawn_parent seed) (range_with_len 0 devices)) after seed devices (length-map-range_with_len (drawn_parent seed) 0 devices) some (devices / 4) in
    let tries = few_links seed devices (devices / 4) in
    let added : link_steps (generated seed devices).actors ≡ 0 = refl in
    let attempts : most_attempts (generated seed devices) ≡ 4 = refl in
    let steps : length (all_operations (generated seed devices).actors) ≡ 20 = refl in
    record {
      alarm_least = omega arith;
      alarm_most = omega arith;
      cpus_least = omega arith;
      cpus_most = omega arith;
      cycles_most = omega arith;
      devices = omega (arith, count);
      parents = subst (EachAfterParent 0) (sym same) after;
      few_links = omega (arith, tries, added);
      links = subst (λ (ps : List (Option ℕ)). AreLinks ps (reverse (generated seed devices).links)) (sym same) links.linked;
      syscore = omega arith;
      notifiers = omega arith;
      sources = omega arith;
      actors = omega arith;
      scripts = scripts seed devices;
      steps = omega (arith, steps);
      answers = tt;
      few_answers = omega arith;
      attempts = subst (λ (n : ℕ). n * (length (generated seed devices).devices + 50) ≤ 100000) (sym attempts) (omega (arith, count));
    }

-- ---- room

event_places : (s source ms : ℕ) → op_places 3 s (Event source ms false) ≤ 4
event_places s source ms = by_test (source == s) (ms == 0)
  where
    by_test : (b c : Bool) → cond b (cond c 3 4 + 0) 0 ≤ 4
    by_test true true = omega arith
    by_test true false = omega arith
    by_test false c = omega arith

pub few_places : (seed devices s : ℕ) → places (generated seed devices) s ≤ 16
few_places seed devices s =
    let k = after_links devices in
    let a = event_places s (draw seed (k + 3 * 0 + 1) 3) (50 * draw seed (k + 3 * 0 + 2) 2) in
    let b = event_places s (draw seed (k + 3 * 1 + 1) 3) (50 * draw seed (k + 3 * 1 + 2) 2) in
    let d = event_places s (draw seed (k + 3 * 2 + 1) 3) (50 * draw seed (k + 3 * 2 + 2) 2) in
    let e = event_places s (draw seed (k + 3 * 3 + 1) 3) (50 * draw seed (k + 3 * 3 + 2) 2) in
    omega (arith, a, b, d, e)
