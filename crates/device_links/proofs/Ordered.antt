-- The order that walks from the last link to the first leave.
use Rattle.std.proofs.Common.{◌≡◌, ◌<◌, ◌+◌, ◌∙◌, ℕ, Bool, true, false, not, ◌==◌, List, [], ◌∷◌, ◌++◌, ◌⊎◌, inl, inr, length, take, reverse, filter, get_or, replicate, Option, Some, None, refl, sym, ap, subst, cond, arith}
use Rattle.std.specs.List.{range_with_len}
use Rattle.std.proofs.lemmas.List.{take_all, get_or-replicate, length-replicate}
use Rattle.std.proofs.lemmas.Bool.{false≢true, or_cases}
use Rattle.sleep_model.specs.declared.machine.Link.{Link}
use Rattle.sleep_model.specs.Order.{is_among, consumers_of, dependents, EachAfterParent, moved, order_by}
use Rattle.sleep_model.specs.Links.{AreLinks, IsOrder}
use Rattle.sleep_model.proofs.Acyclic.{order_within}
use Rattle.sleep_model.proofs.Dependents.{among_app}
use Rattle.device_rows.specs.Table.{Table, row_at}
use Rattle.link_rows.specs.Rows.{IsTableOf}
use Rattle.device_links.specs.declared.seen.Tables.{Tables}
use Rattle.device_links.specs.declared.visits.Visits.{Visits}
use Rattle.device_links.specs.Walks.{AreMarks}
use Rattle.device_links.specs.Passes.{AreApart, AreVisits, IsVisited, Goes, CanBeAdded, Tabulates}
use Rattle.device_links.proofs.Invariant.{dependents_is, by_marks}
use Rattle.device_links.proofs.Passing.{passed, onto_new, order_at_once}
use Rattle.device_links.proofs.Acyclicly.{one_consumer, visited_links, links_acyclic, apart_within}
use Rattle.device_links.proofs.Tabulating.{newest}

-- what the walks of the later links left, and what the links that are left will
pub record AreWalked (ps : List (Option ℕ)) (all left : List Link) (v : Visits) : Type 0 where
  pub visits : AreVisits (length ps) (dependents ps all) v
  pub known : (d x : ℕ) → is_among (consumers_of d all) x ≡ true → (is_among (consumers_of d left) x ≡ true) ⊎ (is_among v.out x ≡ true)
  pub ends : AreLinks ps all → passed (moved (length ps) (dependents ps all)) left v.out ≡ passed (moved (length ps) (dependents ps all)) all []

no_marks : (n : ℕ) → AreMarks (replicate n false) n []
no_marks n = record { count = length-replicate n false; marked = λ d i. get_or-replicate n d false false i }

module _ (ps : List (Option ℕ)) (after : EachAfterParent 0 ps) (links : List Link) where
  -- before the first walk
  pub not_walked : (i : ℕ) → i ≡ length links → (v : Visits) → v.entered.items ≡ replicate (length ps) false → v.left.items ≡ replicate (length ps) false → v.out ≡ [] → AreWalked ps (reverse links) (reverse (take i links)) v
  not_walked i e v s m o = record {
    visits = record {
      ordered = subst (λ (ds : List ℕ). IsOrder (dependents ps (reverse links)) ds) (sym o) tt;
      within = λ d h. absurd (false≢true (sym (ap (λ ds. is_among ds d) o) ∙ h));
      entered = subst (λ (ms : List Bool). AreMarks ms (length ps) v.out) (sym s) (subst (λ (ds : List ℕ). AreMarks (replicate (length ps) false) (length ps) ds) (sym o) (no_marks (length ps)));
      left = subst (λ (ms : List Bool). AreMarks ms (length ps) v.out) (sym m) (subst (λ (ds : List ℕ). AreMarks (replicate (length ps) false) (length ps) ds) (sym o) (no_marks (length ps)));
    };
    known = λ d x h. inl (ap (λ (ls : List Link). is_among (consumers_of d ls) x) all ∙ h);
    ends = λ linked. ap (λ (ls : List Link). passed (moved (length ps) (dependents ps (reverse links))) ls v.out) all ∙ ap (passed (moved (length ps) (dependents ps (reverse links))) (reverse links)) o;
  }
    where
      all : reverse (take i links) ≡ reverse links
      all = ap reverse (take_all i links (omega (arith, e)))

  -- a link's walk
  pub walked_next : (i : ℕ) (l : Link) → i < length links → l ≡ get_or links i l → (old new : Visits) → AreWalked ps (reverse links) (reverse (take (i + 1) links)) old → IsVisited (length ps) (dependents ps (reverse links)) l.consumer old new → AreWalked ps (reverse links) (reverse (take i links)) new
  walked_next i l within at old new w v = by (subst (λ (ls : List Link). AreWalked ps (reverse links) ls old) (newest links i l within at) w)
    where
      by : AreWalked ps (reverse links) (l ∷ reverse (take i links)) old → AreWalked ps (reverse links) (reverse (take i links)) new
      by u = record {
        visits = v.visits;
        known = λ d x m. by_place d x (u.known d x m);
        ends = λ linked. ap (passed (moved (length ps) (dependents ps (reverse links))) (reverse (take i links))) (v.placed (links_acyclic ps after (reverse links) linked) ∙ sym (onto_new (moved (length ps) (dependents ps (reverse links)) l.consumer) old.out)) ∙ u.ends linked;
      }
        where
          by_link : (d x : ℕ) → (is_among (consumers_of d (reverse (take i links))) x ≡ true) ⊎ (is_among (cond (l.supplier == d) (l.consumer ∷ []) []) x ≡ true) → (is_among (consumers_of d (reverse (take i links))) x ≡ true) ⊎ (is_among new.out x ≡ true)
          by_link d x (inl e) = inl e
          by_link d x (inr e) = inr (subst (λ (y : ℕ). is_among new.out y ≡ true) (one_consumer (l.supplier == d) l.consumer x e) v.here)

          by_place : (d x : ℕ) → (is_among (consumers_of d (l ∷ reverse (take i links))) x ≡ true) ⊎ (is_among old.out x ≡ true) → (is_among (consumers_of d (reverse (take i links))) x ≡ true) ⊎ (is_among new.out x ≡ true)
          by_place d x (inl e) = by_link d x (or_cases (is_among (consumers_of d (reverse (take i links))) x) (is_among (cond (l.supplier == d) (l.consumer ∷ []) []) x) (sym (among_app (consumers_of d (reverse (take i links))) (cond (l.supplier == d) (l.consumer ∷ []) []) x) ∙ e))
          by_place d x (inr e) = inr (v.kept x e)

  -- after the last walk
  module _ (apart : AreApart ps (reverse links)) (v : Visits) (w : AreWalked ps (reverse links) [] v) where
    consumers : (d x : ℕ) → is_among (consumers_of d (reverse links)) x ≡ true → is_among v.out x ≡ true
    consumers d x m = by_place (w.known d x m)
      where
        by_place : (is_among (consumers_of d []) x ≡ true) ⊎ (is_among v.out x ≡ true) → is_among v.out x ≡ true
        by_place (inl e) = absurd (false≢true e)
        by_place (inr e) = e

    pub walked_links : AreLinks ps (reverse links)
    walked_links = visited_links ps after (reverse links) apart v.out w.visits.ordered w.visits.within consumers

    pub walked_order : filter (λ d. not (get_or v.left.items d false)) (range_with_len 0 (length ps)) ++ v.out ≡ order_by ps (reverse links)
    walked_order =
        ap (λ xs. xs ++ v.out) (by_marks (length ps) v.left.items v.out w.visits.left (range_with_len 0 (length ps)) (order_within ps after [] tt))
        ∙ (ap (λ ys. filter (λ d. not (is_among ys d)) (range_with_len 0 (length ps)) ++ ys) (w.ends walked_links)
        ∙ order_at_once ps after (reverse links) walked_links)

-- what the table says is what the links say
module _ (ps : List (Option ℕ)) (ls : List Link) (t : Table) (h : IsTableOf (length ps) (dependents ps ls) t.rows) where
  pub goes_as : (from : ℕ) (old new : Visits) (b : Bool) → Goes (length t.rows) (row_at t) from old new b → Goes (length ps) (dependents ps ls) from old new b
  goes_as from old new b g =
      subst (λ (k : ℕ). Goes k (dependents ps ls) from old new b) h.count
      (subst (λ (dependents_of : ℕ → List ℕ). Goes (length t.rows) dependents_of from old new b) (dependents_is ps ls t h) g)

  pub visits_as : (v : Visits) → AreVisits (length ps) (dependents ps ls) v → AreVisits (length t.rows) (row_at t) v
  visits_as v g =
      subst (λ (k : ℕ). AreVisits k (row_at t) v) (sym h.count)
      (subst (λ (dependents_of : ℕ → List ℕ). AreVisits (length ps) dependents_of v) (sym (dependents_is ps ls t h)) g)

  pub within_as : EachAfterParent 0 ps → AreApart ps ls → (d x : ℕ) → is_among (row_at t d) x ≡ true → x < length t.rows
  within_as after apart d x m =
      let r : x < length ps = apart_within ps after ls apart d x (ap (λ (dependents_of : ℕ → List ℕ). is_among (dependents_of d) x) (sym (dependents_is ps ls t h)) ∙ m) in
      omega (arith, h.count)

-- ---- if no links are made

pub linked_apart : (ps : List (Option ℕ)) (ls : List Link) → AreLinks ps ls → AreApart ps ls
linked_apart ps [] h = tt
linked_apart ps (l ∷ ls) h = (h.0, h.1, h.2, linked_apart ps ls h.4)

pub no_tables : (ps : List (Option ℕ)) (links : List Link) (o : Option Tables) → ((t : Tables) → o ≡ Some t → ⊥) → Tabulates ps (reverse links) o → CanBeAdded ps links → ⊥
no_tables ps links None f h s = h (linked_apart ps (reverse links) s.linked)
no_tables ps links (Some t) f h s = f t refl
