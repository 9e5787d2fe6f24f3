-- What the order says of links, and what a link leaves of it.
use Rattle.std.proofs.Common.{◌≡◌, ◌<◌, ◌≤◌, ◌+◌, ◌-◌, ◌∙◌, ℕ, zero, suc, Bool, true, false, not, ◌==◌, ◌||◌, List, [], ◌∷◌, ◌++◌, ◌⊎◌, inl, inr, length, take, drop, filter, get_or, slice_get, reverse, Option, Some, Result, Ok, Err, Vec, IfOk, refl, sym, ap, subst, cond, arith}
use Rattle.std.specs.Bool.{OnTrue}
use Rattle.std.specs.List.{flat_map}
use Rattle.std.specs.declared.alloc.Global.{Global}
use Rattle.sleep_base.specs.declared.outside.Mem.{Mem}
use Rattle.std.proofs.lemmas.Bool.{true≢false, false≢true, eqb-true, or_cases, or_right, cases_lt, false_from_ne_true}
use Rattle.std.proofs.Math.Bool.{or-false}
use Rattle.std.proofs.lemmas.List.{append-nil, take_all, take_more, take-append-drop}
use Rattle.std.proofs.lemmas.List.Elements.{filter-append}
use Rattle.std.proofs.lemmas.Option.{slice_get_within, get_or_from_slice_get}
use Rattle.sleep_model.specs.declared.machine.Link.{Link}
use Rattle.sleep_model.specs.Order.{is_among, dependents, moved, last_occurrences, order_by, EachAfterParent}
use Rattle.sleep_model.specs.Links.{AreLinks, IsOrder, is_dependent}
use Rattle.sleep_model.proofs.Acyclic.{order_ranked, order_covers, order_within, links_descend, nothing_below, moved_before, among_last}
use Rattle.sleep_model.proofs.Dependents.{Within, among_app, among_first, among_rest, within_of, among_onto, Descends, IsClosed, visited}
use Rattle.sleep_model.proofs.Walks.{among_drop, same_eq}
use Rattle.device_links.specs.Walks.{IsWalked}
use Rattle.device_links.specs.Moves.{Precedes, LeavesOrder}
use Rattle.device_links.proofs.Walking.{no_path}
use Rattle.device_links.proofs.Invariant.{by_marks}
use Rattle.device_links.proofs.Tabulating.{newest}

-- ---- which of two devices comes first

-- what is among one more of the first
pub among_more : (xs : List ℕ) (i y : ℕ) → i < length xs → is_among (take (i + 1) xs) y ≡ (is_among (take i xs) y || (get_or xs i 0 == y))
among_more xs i y l =
    ap (λ ys. is_among ys y) (take_more xs i 0 l)
    ∙ (among_app (take i xs) (get_or xs i 0 ∷ []) y ∙ ap (λ b. is_among (take i xs) y || b) (or-false (get_or xs i 0 == y)))

-- at an index that holds one, up to which none holds the other
pub first_at : (xs : List ℕ) (i one other : ℕ) → i < length xs → is_among (take i xs) other ≡ false → get_or xs i 0 ≡ one → (get_or xs i 0 == other) ≡ false → Precedes xs one other
first_at xs i one other l h e n = record {
  place = i + 1;
  here = among_more xs i one l ∙ or_right (is_among (take i xs) one) (get_or xs i 0 == one) (ap (λ y. y == one) e ∙ same_eq one);
  not_yet = among_more xs i other l ∙ (ap (λ b. b || (get_or xs i 0 == other)) h ∙ n);
}

module _ (dependents_of : ℕ → List ℕ) where
  -- from any index of an order on it has all that depend on its devices
  order_drop : (xs : List ℕ) (k : ℕ) → IsOrder dependents_of xs → IsOrder dependents_of (drop k xs)
  order_drop xs zero h = h
  order_drop [] (suc k) h = tt
  order_drop (x ∷ xs) (suc k) h = order_drop xs k h.2

  order_closed : (xs : List ℕ) → IsOrder dependents_of xs → IsClosed dependents_of xs
  order_closed [] h d m = absurd (false≢true m)
  order_closed (x ∷ xs) h d m = by_place (λ e. order_closed xs h.2 d e) (or_cases (x == d) (is_among xs d) m)
    where
      by_place : (is_among xs d ≡ true → Within (dependents_of d) xs) → ((x == d) ≡ true) ⊎ (is_among xs d ≡ true) → (y : ℕ) → is_among (dependents_of d) y ≡ true → is_among (x ∷ xs) y ≡ true
      by_place rest (inl e) y n = among_rest x xs y (within_of xs (dependents_of x) h.1 y (subst (λ (z : ℕ). is_among (dependents_of z) y ≡ true) (sym (eqb-true x d e)) n))
      by_place rest (inr e) y n = among_rest x xs y (rest e y n)

  -- each device is there once
  order_once : (xs : List ℕ) (k s : ℕ) → IsOrder dependents_of xs → is_among (take k xs) s ≡ true → is_among (drop k xs) s ≡ false
  order_once xs zero s h m = absurd (false≢true m)
  order_once [] (suc k) s h m = absurd (false≢true m)
  order_once (x ∷ xs) (suc k) s h m = by_place (order_once xs k s h.2) (or_cases (x == s) (is_among (take k xs) s) m)
    where
      by_place : (is_among (take k xs) s ≡ true → is_among (drop k xs) s ≡ false) → ((x == s) ≡ true) ⊎ (is_among (take k xs) s ≡ true) → is_among (drop k xs) s ≡ false
      by_place rest (inl e) = false_from_ne_true _ (λ n. true≢false (sym (subst (λ (z : ℕ). is_among xs z ≡ true) (sym (eqb-true x s e)) (among_drop xs k s n)) ∙ h.0))
      by_place rest (inr e) = rest e

module _ (ps : List (Option ℕ)) (after : EachAfterParent 0 ps) (ls : List Link) (linked : AreLinks ps ls) where
  fix : Descends (dependents ps ls) (moved (length ps) (dependents ps ls))
  fix = links_descend ps after ls linked (order_ranked ps after ls linked)

  -- what comes before a device does not depend on it
  pub stands_apart : (s c : ℕ) → Precedes (order_by ps ls) s c → is_dependent ps ls c s ≡ false
  stands_apart s c f = by_place (cases_lt c (length ps))
    where
      rest : List ℕ
      rest = drop f.place (order_by ps ls)

      gone : is_among rest s ≡ false
      gone = order_once (dependents ps ls) (order_by ps ls) f.place s (order_ranked ps after ls linked) f.here

      other : (c == s) ≡ false
      other = false_from_ne_true _ (λ e. true≢false (sym f.here ∙ (ap (is_among (take f.place (order_by ps ls))) (sym (eqb-true c s e)) ∙ f.not_yet)))

      here : c < length ps → is_among rest c ≡ true
      here l = by_part (or_cases (is_among (take f.place (order_by ps ls)) c) (is_among rest c)
          (sym (among_app (take f.place (order_by ps ls)) rest c) ∙ (ap (λ xs. is_among xs c) (take-append-drop f.place (order_by ps ls)) ∙ order_covers ps after ls c l)))
        where
          by_part : (is_among (take f.place (order_by ps ls)) c ≡ true) ⊎ (is_among rest c ≡ true) → is_among rest c ≡ true
          by_part (inl e) = absurd (true≢false (sym e ∙ f.not_yet))
          by_part (inr e) = e

      none : is_among rest s ≡ (is_among (moved (length ps) (dependents ps ls) c) s || is_among rest s) → is_among (moved (length ps) (dependents ps ls) c) s ≡ false
      none e = sym (or-false (is_among (moved (length ps) (dependents ps ls) c) s)) ∙ (ap (λ b. is_among (moved (length ps) (dependents ps ls) c) s || b) (sym gone) ∙ (sym e ∙ gone))

      by_place : (c < length ps) ⊎ (length ps ≤ c) → is_dependent ps ls c s ≡ false
      by_place (inl l) = none (
          ap (λ xs. is_among xs s) (sym (visited (dependents ps ls) (moved (length ps) (dependents ps ls)) fix rest (order_closed (dependents ps ls) rest (order_drop (dependents ps ls) (order_by ps ls) f.place (order_ranked ps after ls linked))) c (here l)))
          ∙ among_onto (moved (length ps) (dependents ps ls) c) rest s)
      by_place (inr l) =
          ap (λ xs. is_among xs s) (fix c)
          ∙ (ap (λ xs. is_among (c ∷ flat_map (moved (length ps) (dependents ps ls)) xs) s) (nothing_below ps after ls linked c l) ∙ ap (λ b. b || false) other)

  pub apart_by : (s c : ℕ) (b : Bool) → OnTrue b (Precedes (order_by ps ls) s c) → b ≡ true → is_dependent ps ls c s ≡ false
  apart_by s c true h e = stands_apart s c h
  apart_by s c false h e = absurd (false≢true e)

-- ---- what a link leaves of the order

filter_again : (p : ℕ → Bool) (xs : List ℕ) → filter p (filter p xs) ≡ filter p xs
filter_again p [] = refl
filter_again p (x ∷ xs) = by_test (filter_again p xs) (p x) refl
  where
    by_test : filter p (filter p xs) ≡ filter p xs → (b : Bool) → p x ≡ b → filter p (cond b (x ∷ filter p xs) (filter p xs)) ≡ cond b (x ∷ filter p xs) (filter p xs)
    by_test rest true e = ap (λ b. cond b (x ∷ filter p (filter p xs)) (filter p (filter p xs))) e ∙ ap (λ ys. x ∷ ys) rest
    by_test rest false e = rest

filter_none : (p : ℕ → Bool) (xs : List ℕ) → ((d : ℕ) → is_among xs d ≡ true → p d ≡ false) → filter p xs ≡ []
filter_none p [] h = refl
filter_none p (x ∷ xs) h =
    ap (λ b. cond b (x ∷ filter p xs) (filter p xs)) (h x (among_first x xs)) ∙ filter_none p xs (λ d m. h d (among_rest x xs d m))

module _ (ps : List (Option ℕ)) (after : EachAfterParent 0 ps) where
  -- what was moved to the end stays there when it is moved again
  moved_again : (M O : List ℕ) → filter (λ d. not (is_among M d)) (filter (λ d. not (is_among M d)) O ++ last_occurrences M) ++ last_occurrences M ≡ filter (λ d. not (is_among M d)) O ++ last_occurrences M
  moved_again M O =
      ap (λ xs. xs ++ last_occurrences M) (
      filter-append (λ d. not (is_among M d)) (filter (λ d. not (is_among M d)) O) (last_occurrences M)
      ∙ (ap (λ xs. xs ++ filter (λ d. not (is_among M d)) (last_occurrences M)) (filter_again (λ d. not (is_among M d)) O)
      ∙ (ap (λ xs. filter (λ d. not (is_among M d)) O ++ xs) (filter_none (λ d. not (is_among M d)) (last_occurrences M) (λ d m. ap not (sym (among_last ps after M d) ∙ m)))
      ∙ append-nil (filter (λ d. not (is_among M d)) O))))

  -- a link whose consumer the newest one has moved leaves the order as it is
  pub order_stays : (l newest : Link) (ls : List Link) → AreLinks ps (newest ∷ ls) → newest.consumer ≡ l.consumer → is_dependent ps (newest ∷ ls) l.consumer l.supplier ≡ false
      → order_by ps (newest ∷ ls) ≡ order_by ps (l ∷ newest ∷ ls)
  order_stays l newest ls linked same missing =
      sym (
      ap (λ m. filter (λ d. not (is_among m d)) (order_by ps (newest ∷ ls)) ++ last_occurrences m)
      (moved_before ps after l (newest ∷ ls) missing ∙ ap (λ c. moved (length ps) (dependents ps (newest ∷ ls)) c) (sym same))
      ∙ moved_again (moved (length ps) (dependents ps (newest ∷ ls)) newest.consumer) (order_by ps ls))

  -- what a walk found moves its consumer
  pub order_moved : (ls : List Link) → AreLinks ps ls → (l : Link) (order found : List ℕ) (marks : List Bool) → order ≡ order_by ps ls → IsWalked (length ps) (dependents ps ls) l.consumer l.supplier found marks
      → filter (λ d. not (get_or marks d false)) order ++ found ≡ order_by ps (l ∷ ls)
  order_moved ls linked l order found marks ordered w =
      ap (λ xs. filter (λ d. not (get_or marks d false)) xs ++ found) ordered
      ∙ (ap (λ xs. xs ++ found) (by_marks (length ps) marks (moved (length ps) (dependents ps ls) l.consumer) w.marked (order_by ps ls) (order_within ps after ls linked))
      ∙ (ap (λ xs. filter (λ d. not (is_among (moved (length ps) (dependents ps ls) l.consumer) d)) (order_by ps ls) ++ xs) w.places
      ∙ ap (λ m. filter (λ d. not (is_among m d)) (order_by ps ls) ++ last_occurrences m) (sym (moved_before ps after l ls w.missing))))

-- the newest link, which was added last
pub newest_link : (links : List Link) (l : Link) → Some l ≡ slice_get links (length links - 1) → reverse links ≡ l ∷ reverse (take (length links - 1) links)
newest_link links l e =
    let within : length links - 1 < length links = slice_get_within links (length links - 1) l (sym e) in
    let all : length links ≤ (length links - 1) + 1 = omega arith in
    ap reverse (sym (take_all ((length links - 1) + 1) links all))
    ∙ newest links (length links - 1) l within (sym (get_or_from_slice_get links (length links - 1) l l (sym e)))

module _ (ps : List (Option ℕ)) (after : EachAfterParent 0 ps) (ls : List Link) (linked : AreLinks ps ls) (l : Link) where
  -- if the test of the order holds, no path leads from the consumer to the supplier
  pub stays : (new : Link) (earlier : List Link) → ls ≡ new ∷ earlier → new.consumer ≡ l.consumer → (b : Bool) → OnTrue b (Precedes (order_by ps ls) l.supplier l.consumer)
      → OnTrue b (LeavesOrder (record { parents = ps; links = ls }) l (order_by ps ls))
  stays new earlier e same false h = tt
  stays new earlier e same true h = record {
    no_path = no_path (dependents ps ls) (moved (length ps) (dependents ps ls)) (fix ps after ls linked) l.consumer l.supplier missing;
    missing = missing;
    ordered = subst (λ (xs : List Link). order_by ps xs ≡ order_by ps (l ∷ xs)) (sym e)
        (order_stays ps after l new earlier (subst (AreLinks ps) e linked) same (subst (λ (xs : List Link). is_dependent ps xs l.consumer l.supplier ≡ false) e missing));
  }
    where
      missing : is_dependent ps ls l.consumer l.supplier ≡ false
      missing = stands_apart ps after ls linked l.supplier l.consumer h

  pub leaves_moved : (order found : List ℕ) (marks : List Bool) → order ≡ order_by ps ls → IsWalked (length ps) (dependents ps ls) l.consumer l.supplier found marks
      → (r : Result (Vec ℕ Global) Mem) → IfOk r (λ v. v.items ≡ filter (λ d. not (get_or marks d false)) order ++ found) → IfOk r (λ v. LeavesOrder (record { parents = ps; links = ls }) l v.items)
  leaves_moved order found marks e w (Err m) h = tt
  leaves_moved order found marks e w (Ok v) h = record {
    no_path = w.no_path;
    missing = w.missing;
    ordered = h ∙ order_moved ps after ls linked l order found marks e w;
  }
