-- The acts that are left to each task, and the task that has the first entry of all.
use Rattle.std.proofs.Common.{◌≡◌, ◌≢◌, ◌<◌, ◌≤◌, ◌+◌, ◌∙◌, ◌⊎◌, inl, inr, ⊎_elim, ℕ, zero, suc, List, [], ◌∷◌, ◌++◌, length, get_or, set, slice_get, Some, refl, sym, ap, subst, arith}
use Rattle.std.proofs.lemmas.Bool.{cases_lt}
use Rattle.sleep_model.specs.declared.entry.JournalEntry.{JournalEntry}
use Rattle.turn_lock.specs.declared.view.Made.{Made}
use Rattle.turn_lock.specs.Bookings.{made, of_object, placed}
use Rattle.turn_lock.proofs.Booking.{of_object_both, of_object_other, of_object_own}
use Rattle.run_laws.specs.Passes.{Noted}
use Rattle.run_world.specs.Roots.{notes_on}
use Rattle.running_laws.proofs.SerialNotes.{has_first}

-- an act that is left: the object, its list then, and the entries that it adds, the newest and the others
pub record Plan : Type 0 where
  pub object : ℕ
  pub past : List JournalEntry
  pub entry : JournalEntry
  pub others : List JournalEntry

abbrev pub notes : Plan → List Noted
notes p = notes_on p.past (p.entry ∷ p.others)

abbrev pub gains_of : Plan → List (Made Noted)
gains_of p = placed p.object (length p.past) (notes p)

-- what all of them add
abbrev pub flat : List Plan → List (Made Noted)
flat [] = []
flat (p ∷ plans) = gains_of p ++ flat plans

-- ---- what they add

-- the oldest of them, and those after it
abbrev pub first_note : Plan → Noted
first_note p = (has_first p.past p.entry p.others).0

abbrev pub more_notes : Plan → List Noted
more_notes p = (has_first p.past p.entry p.others).1

pub gains_first : (p : Plan) (rest : List (Made Noted))
    → gains_of p ++ rest ≡ made p.object (length p.past) (first_note p) ∷ (placed p.object (length p.past + 1) (more_notes p) ++ rest)
gains_first p rest = ap (λ (l : List Noted). placed p.object (length p.past) l ++ rest) (has_first p.past p.entry p.others).2

pub plans_are : (plans : List Plan) (m : Made Noted) (ms : List (Made Noted)) → flat plans ≡ m ∷ ms → (p : Plan) × (rest : List Plan) × (plans ≡ p ∷ rest)
plans_are [] m ms h = absurd (let bad : [] ≡ m ∷ ms = h in cc)
plans_are (p ∷ plans) m ms h = (p, plans, refl)

pub no_plans : (plans : List Plan) → flat plans ≡ [] → plans ≡ []
no_plans [] h = refl
no_plans (p ∷ plans) h =
    absurd (let bad : made p.object (length p.past) (first_note p) ∷ (placed p.object (length p.past + 1) (more_notes p) ++ flat plans) ≡ [] = sym (gains_first p (flat plans)) ∙ h in cc)

pub of_own : (p : Plan) (plans : List Plan) → of_object p.object (flat (p ∷ plans)) ≡ gains_of p ++ of_object p.object (flat plans)
of_own p plans =
    of_object_both p.object (gains_of p) (flat plans)
    ∙ ap (λ (l : List (Made Noted)). l ++ of_object p.object (flat plans)) (of_object_own p.object (length p.past) (notes p))

pub of_other : (p : Plan) (plans : List Plan) (j : ℕ) → p.object ≢ j → of_object j (flat (p ∷ plans)) ≡ of_object j (flat plans)
of_other p plans j other =
    of_object_both j (gains_of p) (flat plans)
    ∙ ap (λ (l : List (Made Noted)). l ++ of_object j (flat plans)) (of_object_other p.object j (length p.past) (notes p) other)

-- ---- the first of all

-- the task with that number has the first entry of all
pub record IsFirst (left : List (List Plan)) : Type 0 where
  pub number : ℕ
  pub head : Made Noted
  pub more : List (Made Noted)
  pub is : flat (get_or left number []) ≡ head ∷ more
  pub least : (j : ℕ) (x : Made Noted) (xs : List (Made Noted)) → flat (get_or left j []) ≡ x ∷ xs → head.entry.entry.stamp.tick ≤ x.entry.entry.stamp.tick

abbrev pub AllDone : List (List Plan) → Type 0
AllDone left = (k : ℕ) → flat (get_or left k []) ≡ []

-- there is one, or all is done
pub find_first : (left : List (List Plan)) → AllDone left ⊎ IsFirst left
find_first [] = inl (λ k. refl)
find_first (plans ∷ left) = by (flat plans) refl (find_first left)
  where
    done : flat plans ≡ [] → AllDone left → AllDone (plans ∷ left)
    done h g zero = h
    done h g (suc k) = g k

    later : (f : IsFirst left) → ((x : Made Noted) (xs : List (Made Noted)) → flat plans ≡ x ∷ xs → f.head.entry.entry.stamp.tick ≤ x.entry.entry.stamp.tick)
        → (j : ℕ) (x : Made Noted) (xs : List (Made Noted)) → flat (get_or (plans ∷ left) j []) ≡ x ∷ xs → f.head.entry.entry.stamp.tick ≤ x.entry.entry.stamp.tick
    later f g zero x xs h = g x xs h
    later f g (suc j) x xs h = f.least j x xs h

    sooner : (m : Made Noted) (ms : List (Made Noted)) → flat plans ≡ m ∷ ms
        → ((j : ℕ) (x : Made Noted) (xs : List (Made Noted)) → flat (get_or left j []) ≡ x ∷ xs → m.entry.entry.stamp.tick ≤ x.entry.entry.stamp.tick)
        → (j : ℕ) (x : Made Noted) (xs : List (Made Noted)) → flat (get_or (plans ∷ left) j []) ≡ x ∷ xs → m.entry.entry.stamp.tick ≤ x.entry.entry.stamp.tick
    sooner m ms is g zero x xs h =
        let both : m ∷ ms ≡ x ∷ xs = sym is ∙ h in
        let same : m ≡ x = cc in
        let at : m.entry.entry.stamp.tick ≡ x.entry.entry.stamp.tick = ap (λ (y : Made Noted). y.entry.entry.stamp.tick) same in omega arith
    sooner m ms is g (suc j) x xs h = g j x xs h

    by : (ms : List (Made Noted)) → flat plans ≡ ms → AllDone left ⊎ IsFirst left → AllDone (plans ∷ left) ⊎ IsFirst (plans ∷ left)
    by [] is (inl g) = inl (done is g)
    by [] is (inr f) = inr (record {
      number = suc f.number;
      head = f.head;
      more = f.more;
      is = f.is;
      least = later f (λ x xs h. absurd (let bad : [] ≡ x ∷ xs = sym is ∙ h in cc));
    })
    by (m ∷ ms) is (inl g) = inr (record {
      number = 0;
      head = m;
      more = ms;
      is = is;
      least = sooner m ms is (λ j x xs h. absurd (let bad : [] ≡ x ∷ xs = sym (g j) ∙ h in cc));
    })
    by (m ∷ ms) is (inr f) = ⊎_elim
        (λ (l : f.head.entry.entry.stamp.tick < m.entry.entry.stamp.tick). inr (record {
          number = suc f.number;
          head = f.head;
          more = f.more;
          is = f.is;
          least = later f (λ x xs h.
              let both : m ∷ ms ≡ x ∷ xs = sym is ∙ h in
              let same : m ≡ x = cc in
              let at : m.entry.entry.stamp.tick ≡ x.entry.entry.stamp.tick = ap (λ (y : Made Noted). y.entry.entry.stamp.tick) same in omega arith);
        }))
        (λ (l : m.entry.entry.stamp.tick ≤ f.head.entry.entry.stamp.tick). inr (record {
          number = 0;
          head = m;
          more = ms;
          is = is;
          least = sooner m ms is (λ j x xs h. let low : f.head.entry.entry.stamp.tick ≤ x.entry.entry.stamp.tick = f.least j x xs h in omega arith);
        }))
        (cases_lt f.head.entry.entry.stamp.tick m.entry.entry.stamp.tick)

-- ---- how many are left

abbrev pub total : List (List Plan) → ℕ
total [] = 0
total (plans ∷ left) = length plans + total left

pub one_less : (left : List (List Plan)) (k : ℕ) (p : Plan) (plans : List Plan) → get_or left k [] ≡ p ∷ plans → total left ≡ suc (total (set left k plans))
one_less [] k p plans h = absurd (let bad : [] ≡ p ∷ plans = h in cc)
one_less (x ∷ left) zero p plans h = let count : length x ≡ suc (length plans) = ap length h in omega arith
one_less (x ∷ left) (suc k) p plans h = let rest : total left ≡ suc (total (set left k plans)) = one_less left k p plans h in omega arith

pub none_of_none : (left : List (List Plan)) → total left ≡ 0 → (k : ℕ) → get_or left k [] ≡ []
none_of_none [] h k = refl
none_of_none ([] ∷ left) h zero = refl
none_of_none ((p ∷ plans) ∷ left) h zero = absurd (omega arith)
none_of_none (plans ∷ left) h (suc k) = none_of_none left (omega arith) k

pub number_within : (left : List (List Plan)) (k : ℕ) (p : Plan) (plans : List Plan) → get_or left k [] ≡ p ∷ plans → k < length left
number_within [] k p plans h = absurd (let bad : [] ≡ p ∷ plans = h in cc)
number_within (x ∷ left) zero p plans h = omega arith
number_within (x ∷ left) (suc k) p plans h = let l : k < length left = number_within left k p plans h in omega arith

-- ---- the tasks

module _ {T : Type 0} (Step : T → List (Made Noted) → T → Type 0) where
  -- acts one after another bring a task on
  abbrev pub Goes : T → List Plan → T → Type 0
  Goes t [] last = t ≡ last
  Goes t (p ∷ plans) last = (u : T) × Step t (gains_of p) u × Goes u plans last

  -- so does each task
  abbrev pub AllGo : List T → List (List Plan) → List T → Type 0
  AllGo [] [] [] = Unit {0}
  AllGo (t ∷ tasks) (plans ∷ left) (last ∷ lasts) = Goes t plans last × AllGo tasks left lasts
  AllGo tasks left lasts = ⊥

  pub all_done : (tasks : List T) (left : List (List Plan)) (lasts : List T) → AllGo tasks left lasts → AllDone left → tasks ≡ lasts
  all_done [] [] [] go done = refl
  all_done (t ∷ tasks) (plans ∷ left) (last ∷ lasts) go done =
      let none : plans ≡ [] = no_plans plans (done 0) in
      let one : t ≡ last = subst (λ (l : List Plan). Goes t l last) none go.0 in
      let rest : tasks ≡ lasts = all_done tasks left lasts go.1 (λ k. done (suc k)) in
      λ i. one i ∷ rest i
  all_done tasks left lasts go done = absurd go

  -- the task with that number goes on by its next act
  abbrev pub GoesOn : List T → List (List Plan) → List T → ℕ → Plan → List Plan → Type 0
  GoesOn tasks left lasts k p plans =
      (t : T) × (u : T) × (slice_get tasks k ≡ Some t) × Step t (gains_of p) u × AllGo (set tasks k u) (set left k plans) lasts

  pub one_goes : (tasks : List T) (left : List (List Plan)) (lasts : List T) (k : ℕ) (p : Plan) (plans : List Plan) → AllGo tasks left lasts → get_or left k [] ≡ p ∷ plans
      → GoesOn tasks left lasts k p plans
  one_goes [] [] [] k p plans go h = absurd (let bad : [] ≡ p ∷ plans = h in cc)
  one_goes (t ∷ tasks) (x ∷ left) (last ∷ lasts) zero p plans go h =
      let one = subst (λ (l : List Plan). Goes t l last) h go.0 in (t, one.0, refl, one.1, (one.2, go.1))
  one_goes (t ∷ tasks) (x ∷ left) (last ∷ lasts) (suc k) p plans go h =
      let rest = one_goes tasks left lasts k p plans go.1 h in (rest.0, rest.1, rest.2, rest.3, (go.0, rest.4))
  one_goes tasks left lasts k p plans go h = absurd go
