-- While an act is left, the one with the first entry of all can be made.
use Rattle.std.proofs.Common.{◌≡◌, ◌≢◌, ◌≤◌, ◌+◌, ◌==◌, ◌∙◌, ⊎_elim, ℕ, zero, suc, Bool, true, false, cond, List, [], ◌∷◌, ◌++◌, length, get_or, set, slice_get, Some, refl, sym, ap, subst, arith, length-append, get_or-set_other, get_or-set_same}
use Rattle.std.proofs.lemmas.Bool.Decides.{nat_tests}
use mathlib.Core.Logic.{dite}
use native.Mathlib.Decide.{ℕ_discrete}
use Rattle.sleep_model.specs.declared.entry.JournalEntry.{JournalEntry}
use Rattle.turn_lock.specs.declared.view.Made.{Made}
use Rattle.turn_lock.specs.Bookings.{all_by, empty, made, made_by, of_object, placed}
use Rattle.turn_lock.proofs.Booking.{unstamped_all, unstamped_both, made_by_both, made_by_other}
use Rattle.run_laws.specs.Passes.{Noted}
use Rattle.running_laws.proofs.SerialNotes.{Ascends, Follows, ascends_rest, behind, after_both, after_notes, count_notes, follows_front, follows_rest, past_is}
use Rattle.running_laws.proofs.SerialBooks.{Rises, first_low, none_left, number_is, ready, rises_rest, taken}
use Rattle.running_laws.proofs.SerialPlans.{AllDone, AllGo, IsFirst, Plan, all_done, find_first, first_note, flat, gains_first, gains_of, more_notes, none_of_none, notes, number_within, of_other, of_own, one_goes, one_less, plans_are, total}

count_all : (k : ℕ) (xs : List Noted) → length (all_by k xs) ≡ length xs
count_all k [] = refl
count_all k (x ∷ xs) = ap suc (count_all k xs)

numbers_differ : (m n : ℕ) → (m == n) ≡ false → m ≢ n
numbers_differ m n h e = grind (arith, nat_tests)

-- the lists once an act has landed
abbrev pub landed : (ℕ → List JournalEntry) → Plan → ℕ → List JournalEntry
landed lists p i = cond (p.object == i) ((p.entry ∷ p.others) ++ lists p.object) (lists i)

-- what is left of an object's log follows its list, rises, and leaves its last list
pub record ObjectFits (list : List JournalEntry) (log : List (ℕ × Noted)) (last : List JournalEntry) : Type 0 where
  pub follows : Follows list (empty log)
  pub leaves : behind list (empty log) ≡ last
  pub rises : Ascends 0 (empty log)

module _ {T : Type 0} (Step : T → List (Made Noted) → T → Type 0) (final : ℕ → List JournalEntry) (lasts : List T) where
  -- the acts that are left bring the tasks to the last ones, and they are what is left of the objects' logs
  pub record Fits (lists : ℕ → List JournalEntry) (tasks : List T) (left : List (List Plan)) (log : ℕ → List (ℕ × Noted)) : Type 0 where
    pub all : AllGo Step tasks left lasts
    pub objects : (i : ℕ) → ObjectFits (lists i) (log i) (final i)
    pub booked : (k i : ℕ) → of_object i (flat (get_or left k [])) ≡ made_by k i (length (lists i)) (log i)
    pub rises : (k : ℕ) → Rises 0 (flat (get_or left k []))

  -- ---- the next act

  module _ (lists : ℕ → List JournalEntry) (tasks : List T) (left : List (List Plan)) (log : ℕ → List (ℕ × Noted)) (fits : Fits lists tasks left log)
      (k : ℕ) (p : Plan) (plans : List Plan) (is : get_or left k [] ≡ p ∷ plans)
      (least : (j : ℕ) (x : Made Noted) (xs : List (Made Noted)) → flat (get_or left j []) ≡ x ∷ xs → (first_note p).entry.stamp.tick ≤ x.entry.entry.stamp.tick) where
    its : made_by k p.object (length (lists p.object)) (log p.object) ≡ gains_of p ++ of_object p.object (flat plans)
    its = sym (fits.booked k p.object) ∙ ap (λ (l : List Plan). of_object p.object (flat l)) is ∙ of_own p plans

    -- no other pass's entry is the log's first
    place_is : length p.past ≡ length (lists p.object)
    place_is =
        ready k p.object (length (lists p.object)) (length p.past) (log p.object) (first_note p)
        (placed p.object (length p.past + 1) (more_notes p) ++ of_object p.object (flat plans)) (fits.objects p.object).rises
        (its ∙ gains_first p (of_object p.object (flat plans)))
        (λ j x xs h.
        let g = first_low p.object 0 (flat (get_or left j [])) x xs (fits.rises j) (fits.booked j p.object ∙ h) in
        let low : (first_note p).entry.stamp.tick ≤ g.0.entry.entry.stamp.tick = least j g.0 g.1 g.2 in
        let next : g.0.entry.entry.stamp.tick ≤ x.entry.entry.stamp.tick = g.3 in
        omega arith)

    -- so the log begins with the act's entries
    abbrev Begun : Type 0
    Begun = (rest : List (ℕ × Noted)) × (log p.object ≡ all_by k (notes p) ++ rest)
        × (made_by k p.object (length (lists p.object) + length (notes p)) rest ≡ of_object p.object (flat plans))

    begun : Begun
    begun = taken k p.object (notes p) (length (lists p.object)) (log p.object) (of_object p.object (flat plans))
        (its ∙ ap (λ (n : ℕ). placed p.object n (notes p) ++ of_object p.object (flat plans)) place_is)

    module _ (b : Begun) where
      unstamped_is : empty (log p.object) ≡ notes p ++ empty b.0
      unstamped_is = ap (λ (l : List (ℕ × Noted)). empty l) b.1 ∙ unstamped_both (all_by k (notes p)) b.0 ∙ ap (λ (l : List Noted). l ++ empty b.0) (unstamped_all k (notes p))

      all_follow : Follows (lists p.object) (notes p ++ empty b.0)
      all_follow = subst (Follows (lists p.object)) unstamped_is (fits.objects p.object).follows

      -- and its list is the object's
      pub past_now : p.past ≡ lists p.object
      past_now = past_is (lists p.object) p.past p.entry p.others (follows_front (lists p.object) (notes p) (empty b.0) all_follow)

      abbrev new : List JournalEntry
      new = (p.entry ∷ p.others) ++ lists p.object

      new_is : behind (lists p.object) (notes p) ≡ new
      new_is = after_notes (lists p.object) p.past (p.entry ∷ p.others)

      count_new : length (lists p.object) + length (notes p) ≡ length new
      count_new = omega (arith, length-append (p.entry ∷ p.others) (lists p.object), count_notes p.past (p.entry ∷ p.others))

      fits_here : ObjectFits new b.0 (final p.object)
      fits_here = record {
        follows = subst (λ (l : List JournalEntry). Follows l (empty b.0)) new_is (follows_rest (lists p.object) (notes p) (empty b.0) all_follow);
        leaves =
            ap (λ (l : List JournalEntry). behind l (empty b.0)) (sym new_is) ∙ sym (after_both (lists p.object) (notes p) (empty b.0))
            ∙ ap (behind (lists p.object)) (sym unstamped_is) ∙ (fits.objects p.object).leaves;
        rises = ascends_rest 0 (notes p) (empty b.0) (subst (Ascends 0) unstamped_is (fits.objects p.object).rises);
      }

      -- ---- all that is left fits again

      abbrev log_then : ℕ → List (ℕ × Noted)
      log_then j = cond (p.object == j) b.0 (log j)

      objects_then : (j : ℕ) → ObjectFits (landed lists p j) (log_then j) (final j)
      objects_then j = by (p.object == j) refl
        where
          by : (c : Bool) → (p.object == j) ≡ c → ObjectFits (cond c new (lists j)) (cond c b.0 (log j)) (final j)
          by true same = subst (λ (x : ℕ). ObjectFits new b.0 (final x)) (number_is p.object j same) fits_here
          by false other = fits.objects j

      own_here : of_object p.object (flat plans) ≡ made_by k p.object (length new) b.0
      own_here = sym b.2 ∙ ap (λ (n : ℕ). made_by k p.object n b.0) count_new

      own_then : (j : ℕ) → of_object j (flat plans) ≡ made_by k j (length (landed lists p j)) (log_then j)
      own_then j = by (p.object == j) refl
        where
          by : (c : Bool) → (p.object == j) ≡ c → of_object j (flat plans) ≡ made_by k j (length (cond c new (lists j))) (cond c b.0 (log j))
          by true same = subst (λ (x : ℕ). of_object x (flat plans) ≡ made_by k x (length new) b.0) (number_is p.object j same) own_here
          by false other =
              sym (of_other p plans j (numbers_differ p.object j other)) ∙ ap (λ (l : List Plan). of_object j (flat l)) (sym is) ∙ fits.booked k j

      other_here : (m : ℕ) → m ≢ k → of_object p.object (flat (get_or left m [])) ≡ made_by m p.object (length new) b.0
      other_here m n =
          fits.booked m p.object ∙ ap (made_by m p.object (length (lists p.object))) b.1
          ∙ made_by_both m p.object (length (lists p.object)) (all_by k (notes p)) b.0
          ∙ ap (λ (l : List (Made Noted)). l ++ made_by m p.object (length (lists p.object) + length (all_by k (notes p))) b.0)
          (made_by_other k m p.object (length (lists p.object)) (notes p) (λ e. n (sym e)))
          ∙ ap (λ (x : ℕ). made_by m p.object x b.0) (ap (λ (x : ℕ). length (lists p.object) + x) (count_all k (notes p)) ∙ count_new)

      other_then : (m j : ℕ) → m ≢ k → of_object j (flat (get_or left m [])) ≡ made_by m j (length (landed lists p j)) (log_then j)
      other_then m j n = by (p.object == j) refl
        where
          by : (c : Bool) → (p.object == j) ≡ c → of_object j (flat (get_or left m [])) ≡ made_by m j (length (cond c new (lists j))) (cond c b.0 (log j))
          by true same = subst (λ (x : ℕ). of_object x (flat (get_or left m [])) ≡ made_by m x (length new) b.0) (number_is p.object j same) (other_here m n)
          by false other = fits.booked m j

      own_left : get_or (set left k plans) k [] ≡ plans
      own_left = get_or-set_same left k plans [] (number_within left k p plans is)

      booked_then : (m j : ℕ) → of_object j (flat (get_or (set left k plans) m [])) ≡ made_by m j (length (landed lists p j)) (log_then j)
      booked_then m j = dite (ℕ_discrete m k)
          (λ (e : m ≡ k). subst (λ (x : ℕ). of_object j (flat (get_or (set left k plans) x [])) ≡ made_by x j (length (landed lists p j)) (log_then j)) (sym e)
          (ap (λ (l : List Plan). of_object j (flat l)) own_left ∙ own_then j))
          (λ (n : m ≢ k). ap (λ (l : List Plan). of_object j (flat l)) (get_or-set_other left k m plans [] n) ∙ other_then m j n)

      rises_then : (m : ℕ) → Rises 0 (flat (get_or (set left k plans) m []))
      rises_then m = dite (ℕ_discrete m k)
          (λ (e : m ≡ k). subst (λ (x : ℕ). Rises 0 (flat (get_or (set left k plans) x []))) (sym e)
          (subst (λ (l : List Plan). Rises 0 (flat l)) (sym own_left) (rises_rest 0 (gains_of p) (flat plans) (subst (λ (l : List Plan). Rises 0 (flat l)) is (fits.rises k)))))
          (λ (n : m ≢ k). subst (λ (l : List Plan). Rises 0 (flat l)) (sym (get_or-set_other left k m plans [] n)) (fits.rises m))

      pub fits_then : (tasks_then : List T) → AllGo Step tasks_then (set left k plans) lasts → Fits (landed lists p) tasks_then (set left k plans) log_then
      fits_then tasks_then go = record { all = go; objects = objects_then; booked = booked_then; rises = rises_then }

  -- ---- one after another

  module _ (Reached : (ℕ → List JournalEntry) → List T → Type 0)
      (land : (lists : ℕ → List JournalEntry) (tasks : List T) (k : ℕ) (t u : T) (p : Plan) → Reached lists tasks → slice_get tasks k ≡ Some t → Step t (gains_of p) u
      → p.past ≡ lists p.object → Reached (landed lists p) (set tasks k u)) where
    -- a state that was reached, with so many acts left
    record Onward (count : ℕ) : Type 0 where
      pub lists : ℕ → List JournalEntry
      pub tasks : List T
      pub left : List (List Plan)
      pub log : ℕ → List (ℕ × Noted)
      pub reached : Reached lists tasks
      pub fits : Fits lists tasks left log
      pub fewer : total left ≡ count

    -- if nothing is left
    abbrev pub Ending : Type 0
    Ending = (ending : ℕ → List JournalEntry) × Reached ending lasts × ((i : ℕ) → ending i ≡ final i)

    ended : {count : ℕ} (o : Onward count) → AllDone o.left → Ending
    ended o done = (
      o.lists,
      subst (Reached o.lists) (all_done Step o.tasks o.left lasts o.fits.all done) o.reached,
      λ i. let none : o.log i ≡ [] = none_left i (length (o.lists i)) (o.log i) (λ k. sym (o.fits.booked k i) ∙ ap (of_object i) (done k)) in
          sym (ap (λ (l : List (ℕ × Noted)). behind (o.lists i) (empty l)) none) ∙ (o.fits.objects i).leaves,
    )

    onward : (count : ℕ) (o : Onward (suc count)) → IsFirst o.left → Onward count
    onward count o f =
        let a = plans_are (get_or o.left f.number []) f.head f.more f.is in
        let both : f.head ∷ f.more ≡ made a.0.object (length a.0.past) (first_note a.0) ∷ (placed a.0.object (length a.0.past + 1) (more_notes a.0) ++ flat a.1) =
        sym f.is ∙ ap (λ (l : List Plan). flat l) a.2 ∙ gains_first a.0 (flat a.1) in
        let head : f.head ≡ made a.0.object (length a.0.past) (first_note a.0) = cc in
        let tick : f.head.entry.entry.stamp.tick ≡ (first_note a.0).entry.stamp.tick = ap (λ (m : Made Noted). m.entry.entry.stamp.tick) head in
        let least : (j : ℕ) (x : Made Noted) (xs : List (Made Noted)) → flat (get_or o.left j []) ≡ x ∷ xs → (first_note a.0).entry.stamp.tick ≤ x.entry.entry.stamp.tick =
        λ j x xs h. let low : f.head.entry.entry.stamp.tick ≤ x.entry.entry.stamp.tick = f.least j x xs h in omega arith in
        let b = begun o.lists o.tasks o.left o.log o.fits f.number a.0 a.1 a.2 least in
        let go = one_goes Step o.tasks o.left lasts f.number a.0 a.1 o.fits.all a.2 in
        let less : total o.left ≡ suc (total (set o.left f.number a.1)) = one_less o.left f.number a.0 a.1 a.2 in
        let had : total o.left ≡ suc count = o.fewer in
        record {
          lists = landed o.lists a.0;
          tasks = set o.tasks f.number go.1;
          left = set o.left f.number a.1;
          log = log_then o.lists o.tasks o.left o.log o.fits f.number a.0 a.1 a.2 least b;
          reached = land o.lists o.tasks f.number go.0 go.1 a.0 o.reached go.2 go.3 (past_now o.lists o.tasks o.left o.log o.fits f.number a.0 a.1 a.2 least b);
          fits = fits_then o.lists o.tasks o.left o.log o.fits f.number a.0 a.1 a.2 least b (set o.tasks f.number go.1) go.4;
          fewer = omega arith;
        }

    from : (count : ℕ) → Onward count → Ending
    from zero o = ended o (λ k. ap flat (none_of_none o.left o.fewer k))
    from (suc count) o = ⊎_elim (λ (done : AllDone o.left). ended o done) (λ (f : IsFirst o.left). from count (onward count o f)) (find_first o.left)

    -- all acts have an order
    pub in_turn : (lists : ℕ → List JournalEntry) (tasks : List T) (left : List (List Plan)) (log : ℕ → List (ℕ × Noted)) → Reached lists tasks → Fits lists tasks left log → Ending
    in_turn lists tasks left log reached fits =
        from (total left) (record { lists = lists; tasks = tasks; left = left; log = log; reached = reached; fits = fits; fewer = refl })
