-- What is drawn, one after another.
use Rattle.std.proofs.Common.{◌≡◌, ◌≤◌, ◌<◌, ◌+◌, ◌*◌, ◌/◌, ◌%◌, ◌++◌, ◌==◌, ◌∙◌, cond, ℕ, zero, suc, Bool, true, false, List, [], ◌∷◌, Option, Some, None, map, get_or, codes, decimal, refl, sym, ap, arith}
use Rattle.std.specs.List.{range_with_len}
use Rattle.std.proofs.lemmas.Bool.{eqb-true, eqb-false}
use Rattle.std.proofs.lemmas.List.FromFn.{map-range_with_len_more, get_or-map-range_with_len}
use Rattle.sleep_model.specs.declared.machine.Step.{Step}
use Rattle.sleep_model.specs.declared.machine.Answer.{Answer}
use Rattle.sleep_model.specs.declared.machine.Device.{Device}
use Rattle.sleep_model.specs.declared.machine.Link.{Link}
use Rattle.sleep_model.specs.declared.machine.Machine.{Machine}
use Rattle.sleep_model.specs.declared.machine.Notifier.{Notifier}
use Rattle.sleep_model.specs.declared.machine.Script.{Script}
use Rattle.sleep_model.specs.declared.machine.TaskKind.TheVariants.{Irq}
use Rattle.sleep_script.specs.declared.draws.Draws.{Draws}
use Rattle.sleep_script.specs.Generated.{drawn, draw, drawn_parent, drawn_device, drawn_links, sleeper, drawn_event, line, after_links, generated}

-- one device more
pub more_parents : (seed i : ℕ) → 1 ≤ i →
    map (drawn_parent seed) (range_with_len 0 (i + 1)) ≡ map (drawn_parent seed) (range_with_len 0 i) ++ cond (draw seed i (i + 1) == i) None (Some (draw seed i (i + 1))) ∷ []
more_parents seed zero h = absurd (omega arith)
more_parents seed (suc i) h = map-range_with_len_more (drawn_parent seed) 0 (suc i) (suc i) (omega arith)

-- the steps of a line's first n events
abbrev pub events : ℕ → ℕ → ℕ → List Step
events seed k zero = []
events seed k (suc n) = events seed k n ++ drawn_event seed (k + 3 * n)

pub more_events : (seed k n : ℕ) → events seed k (n + 1) ≡ events seed k n ++ drawn_event seed (k + 3 * n)
more_events seed k n = ap (events seed k) (let e : n + 1 ≡ suc n = omega arith in e)

-- the line of four events
pub line_is : (seed k n : ℕ) (name : List ℕ) (steps : List Step) → name ≡ codes "line" → steps ≡ events seed k n → n ≡ 4 →
    record { name = name; kind = Irq; repeat = 1; steps = steps } ≡ line seed k
line_is seed k n name steps e f four =
    ap (λ x. script x steps) e ∙ ap (script (codes "line")) (f ∙ ap (events seed k) four)
  where
    script : List ℕ → List Step → Script
    script x xs = record { name = x; kind = Irq; repeat = 1; steps = xs }

abbrev draws_at : ℕ → ℕ → Draws
draws_at seed k = record { seed = seed; next = k }

-- one draw more
pub one_draw : (old new : Draws) (seed k n : ℕ) → old ≡ record { seed = seed; next = k + n } → new ≡ record { seed = old.seed; next = old.next + 1 } →
    new ≡ record { seed = seed; next = k + (n + 1) }
one_draw old new seed k n e f =
    f ∙ (ap (λ (d : Draws). draws_at d.seed (d.next + 1)) e ∙ ap (draws_at seed) (let g : k + n + 1 ≡ k + (n + 1) = omega arith in g))

pub next_is : (seed j k : ℕ) → j ≡ k → draws_at seed j ≡ draws_at seed k
next_is seed j k e = ap (draws_at seed) e

-- whether a number below two is one
pub bit_is : (x seed k : ℕ) → x ≡ draw seed k 2 → cond (x == 1) 1 0 ≡ draw seed k 2
bit_is x seed k e = by_test (below (drawn seed k) x e) (x == 1) refl ∙ e
  where
    below : (n y : ℕ) → y ≡ n % 2 → y < 2
    below n y f = omega arith

    by_test : x < 2 → (b : Bool) → (x == 1) ≡ b → cond b 1 0 ≡ x
    by_test l true f = sym (eqb-true x 1 f)
    by_test l false f = let other : x ≡ 1 → ⊥ = eqb-false x 1 f in omega arith

-- one device more
pub one_device : (seed devices i bit : ℕ) (parents : List (Option ℕ)) (old new : List Device) (d : Device) → i < devices →
    parents ≡ map (drawn_parent seed) (range_with_len 0 devices) → bit ≡ draw seed (devices + i) 2 →
    d ≡ record { name = codes "d" ++ decimal i; parent = get_or parents i None; flags = record { 0 = bit } } →
    old ≡ map (drawn_device seed devices) (range_with_len 0 i) → new ≡ old ++ d ∷ [] → new ≡ map (drawn_device seed devices) (range_with_len 0 (i + 1))
one_device seed devices i bit parents old new d l e b f g h =
    let at : get_or parents i None ≡ drawn_parent seed i = ap (λ (ps : List (Option ℕ)). get_or ps i None) e ∙ get_or-map-range_with_len (drawn_parent seed) 0 devices i i None l (omega arith) in
    let is : d ≡ drawn_device seed devices i = f ∙ (ap (λ (p : Option ℕ). device p bit) at ∙ ap (device (drawn_parent seed i)) b) in
    h
    ∙ (ap (λ (ds : List Device). ds ++ d ∷ []) g
    ∙ (ap (λ (x : Device). map (drawn_device seed devices) (range_with_len 0 i) ++ x ∷ []) is
    ∙ sym (map-range_with_len_more (drawn_device seed devices) 0 i i (omega arith))))
  where
    device : Option ℕ → ℕ → Device
    device p x = record { name = codes "d" ++ decimal i; parent = p; flags = record { 0 = x } }

-- the machine from its parts, each of which drew after the one before
pub machine_is : (seed count : ℕ) (a b c : Draws) (devices : List Device) (links : List Link) (task irq : Script) (actors : List Script) (x y z : List ℕ) (sources syscore marks : List (List ℕ)) (notifiers : List Notifier) (answers : List Answer) →
    a ≡ draws_at seed 1 → devices ≡ map (drawn_device a.seed count) (range_with_len 0 count) → b ≡ draws_at a.seed (2 * count) → links ≡ drawn_links b.seed count (count / 4) →
    c ≡ draws_at b.seed (after_links count) → task ≡ sleeper → irq ≡ line c.seed c.next → actors ≡ task ∷ irq ∷ [] →
    x ≡ codes "s0" → y ≡ codes "s1" → z ≡ codes "s2" → sources ≡ x ∷ y ∷ z ∷ [] → syscore ≡ [] → notifiers ≡ [] → marks ≡ [] → answers ≡ [] →
    record { alarm_ms = 1000; cpus = 1; auto_cycles = 16; devices = devices; links = links; syscore = syscore; notifiers = notifiers; sources = sources; marks = marks; actors = actors; answers = answers } ≡ generated seed count
machine_is seed count a b c devices links task irq actors x y z sources syscore marks notifiers answers ea ed eb el ec et ei eac ex ey ez es esy en em ean =
    let sa : a.seed ≡ seed = ap (λ (d : Draws). d.seed) ea in
    let sb : b.seed ≡ seed = ap (λ (d : Draws). d.seed) eb ∙ sa in
    let sc : c.seed ≡ seed = ap (λ (d : Draws). d.seed) ec ∙ sb in
    let nc : c.next ≡ after_links count = ap (λ (d : Draws). d.next) ec in
    let ds : devices ≡ map (drawn_device seed count) (range_with_len 0 count) = ed ∙ ap (λ (s : ℕ). map (drawn_device s count) (range_with_len 0 count)) sa in
    let ls : links ≡ drawn_links seed count (count / 4) = el ∙ ap (λ (s : ℕ). drawn_links s count (count / 4)) sb in
    let ln : irq ≡ line seed (after_links count) = ei ∙ (ap (λ (s : ℕ). line s c.next) sc ∙ ap (line seed) nc) in
    let acs : actors ≡ sleeper ∷ line seed (after_links count) ∷ [] = eac ∙ (ap (λ (s : Script). s ∷ irq ∷ []) et ∙ ap (λ (s : Script). sleeper ∷ s ∷ []) ln) in
    let srcs : sources ≡ codes "s0" ∷ codes "s1" ∷ codes "s2" ∷ [] = es ∙ (ap (λ (n : List ℕ). n ∷ y ∷ z ∷ []) ex ∙ (ap (λ (n : List ℕ). codes "s0" ∷ n ∷ z ∷ []) ey ∙ ap (λ (n : List ℕ). codes "s0" ∷ codes "s1" ∷ n ∷ []) ez)) in
    ap (λ (v : List Device). machine v links syscore notifiers sources marks actors answers) ds
    ∙ (ap (λ (v : List Link). machine (generated seed count).devices v syscore notifiers sources marks actors answers) ls
    ∙ (ap (λ (v : List (List ℕ)). machine (generated seed count).devices (generated seed count).links v notifiers sources marks actors answers) esy
    ∙ (ap (λ (v : List Notifier). machine (generated seed count).devices (generated seed count).links [] v sources marks actors answers) en
    ∙ (ap (λ (v : List (List ℕ)). machine (generated seed count).devices (generated seed count).links [] [] v marks actors answers) srcs
    ∙ (ap (λ (v : List (List ℕ)). machine (generated seed count).devices (generated seed count).links [] [] (generated seed count).sources v actors answers) em
    ∙ (ap (λ (v : List Script). machine (generated seed count).devices (generated seed count).links [] [] (generated seed count).sources [] v answers) acs
    ∙ ap (λ (v : List Answer). machine (generated seed count).devices (generated seed count).links [] [] (generated seed count).sources [] (generated seed count).actors v) ean))))))
  where
    machine : List Device → List Link → List (List ℕ) → List Notifier → List (List ℕ) → List (List ℕ) → List Script → List Answer → Machine
    machine ds ls sy ns ss ms acs given = record { alarm_ms = 1000; cpus = 1; auto_cycles = 16; devices = ds; links = ls; syscore = sy; notifiers = ns; sources = ss; marks = ms; actors = acs; answers = given }
