-- What is made of parents and links, and of the same with one link more, or another state.
use Rattle.std.proofs.Common.{◌≡◌, ◌<◌, ◌∙◌, ℕ, zero, suc, true, false, ◌||◌, List, [], ◌∷◌, ◌++◌, length, map, reverse, get_or, Option, refl, sym, ap, subst, arith}
use Rattle.std.proofs.lemmas.List.{reverse-append}
use Rattle.std.proofs.lemmas.Bool.{or_left, or_right}
use Rattle.std.proofs.Math.Bool.{or_assoc}
use Rattle.sleep_model.specs.declared.machine.Link.{Link}
use Rattle.sleep_model.specs.Order.{active_of, is_among, is_link, dependents, superiors, moved, EachAfterParent}
use Rattle.sleep_model.specs.Links.{AreLinks, is_linked, is_dependent}
use Rattle.sleep_model.proofs.Acyclic.{among_last}
use Rattle.device_rows.specs.Table.{Table, row_at}
use Rattle.check_order.specs.declared.walk.VisitedDevices.{VisitedDevices}
use Rattle.check_order.specs.Visited.{visited, Leaves}
use Rattle.check_order.specs.Graphs.{AreActive, IsTableOf, GraphState}
use Rattle.check_order.proofs.Ordering.{table_walk}

-- ---- the same parents and links

-- these parents and links
abbrev pub graph : List (Option ℕ) → List Link → GraphState
graph ps ls = record { parents = ps; links = ls }

pub graph_as : {ps qs : List (Option ℕ)} {ls ms : List Link} → ps ≡ qs → ls ≡ ms → graph ps ls ≡ graph qs ms
graph_as p l = λ i. record { parents = p i; links = l i }

pub below_as : {ps qs : List (Option ℕ)} {ls ms : List Link} (rows : List (List ℕ)) → ps ≡ qs → ls ≡ ms → IsTableOf (length ps) (dependents ps ls) rows → IsTableOf (length qs) (dependents qs ms) rows
below_as {qs = qs} {ls = ls} rows p l h = subst (λ (xs : List Link). IsTableOf (length qs) (dependents qs xs) rows) l (subst (λ (xs : List (Option ℕ)). IsTableOf (length xs) (dependents xs ls) rows) p h)

pub above_as : {ps qs : List (Option ℕ)} {ls ms : List Link} (rows : List (List ℕ)) → ps ≡ qs → ls ≡ ms → IsTableOf (length ps) (superiors ps ls) rows → IsTableOf (length qs) (superiors qs ms) rows
above_as {qs = qs} {ls = ls} rows p l h = subst (λ (xs : List Link). IsTableOf (length qs) (superiors qs xs) rows) l (subst (λ (xs : List (Option ℕ)). IsTableOf (length xs) (superiors xs ls) rows) p h)

pub active_as : {ps qs : List (Option ℕ)} {ls ms : List Link} (rows_below rows_above : List (List ℕ)) → ps ≡ qs → ls ≡ ms → AreActive ps ls rows_below rows_above → AreActive qs ms rows_below rows_above
active_as rows_below rows_above p l h = record { below = below_as rows_below p (ap active_of l) h.below; above = above_as rows_above p (ap active_of l) h.above }

-- ---- lists of links

linked_app : (xs ys : List Link) (s c : ℕ) → is_linked (xs ++ ys) s c ≡ (is_linked xs s c || is_linked ys s c)
linked_app [] ys s c = refl
linked_app (x ∷ xs) ys s c = ap (λ b. is_link s c x || b) (linked_app xs ys s c) ∙ sym (or_assoc (is_link s c x) (is_linked xs s c) (is_linked ys s c))

-- a link that is between these two is found
pub linked_at : (ls : List Link) (k : ℕ) (d : Link) (s c : ℕ) → k < length ls → is_link s c (get_or ls k d) ≡ true → is_linked (reverse ls) s c ≡ true
linked_at [] k d s c l e = absurd (omega arith)
linked_at (x ∷ ls) zero d s c l e =
    ap (λ xs. is_linked xs s c) (reverse-append (x ∷ []) ls) ∙ (linked_app (reverse ls) (x ∷ []) s c
    ∙ or_right (is_linked (reverse ls) s c) (is_linked (x ∷ []) s c) (ap (λ b. b || false) e))
linked_at (x ∷ ls) (suc k) d s c l e =
    ap (λ xs. is_linked xs s c) (reverse-append (x ∷ []) ls) ∙ (linked_app (reverse ls) (x ∷ []) s c
    ∙ or_left (is_linked (reverse ls) s c) (is_linked (x ∷ []) s c) (linked_at ls k d s c (omega arith) e))

-- the newest first, as they were
pub reversed_map : (f : Link → Link) (xs : List Link) → reverse (map f xs) ≡ map f (reverse xs)
reversed_map f [] = refl
reversed_map f (x ∷ xs) =
    reverse-append (f x ∷ []) (map f xs) ∙ (ap (λ ys. ys ++ f x ∷ []) (reversed_map f xs) ∙ (sym (mapped (reverse xs)) ∙ ap (map f) (sym (reverse-append (x ∷ []) xs))))
  where
    mapped : (ys : List Link) → map f (ys ++ x ∷ []) ≡ map f ys ++ f x ∷ []
    mapped [] = refl
    mapped (y ∷ ys) = ap (λ zs. f y ∷ zs) (mapped ys)

-- ---- what depends on a device

-- a device is marked by a walk exactly if it depends on the walk's first
pub dependent_is : (ps : List (Option ℕ)) → EachAfterParent 0 ps → (ls : List Link) → AreLinks ps ls → (t : Table) → IsTableOf (length ps) (dependents ps ls) t.rows → (consumer supplier : ℕ) → consumer < length ps → supplier < length ps → (v : VisitedDevices) → Leaves (length t.rows) (visited (length t.rows) (row_at t) consumer []) v → get_or v.marks supplier false ≡ is_dependent ps ls consumer supplier
dependent_is ps after ls linked t h consumer supplier c s v l =
    l.marked.marked supplier (subst (λ (n : ℕ). supplier < n) (sym h.count) s)
    ∙ (ap (λ out. is_among out supplier) (l.visited ∙ table_walk ps after ls linked t h consumer c)
    ∙ among_last ps after (moved (length ps) (dependents ps ls) consumer) supplier)
