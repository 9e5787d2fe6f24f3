-- The invariant of links that are made and grow.
use Rattle.std.proofs.Common.{◌≡◌, ◌<◌, ◌≤◌, ◌+◌, ◌^◌, ◌∙◌, ◌==◌, ℕ, Bool, true, false, not, List, [], ◌∷◌, ◌++◌, length, map, filter, get_or, slice_get, option_to_list, replicate, Option, Some, None, refl, sym, ap, subst, cond, arith, length-append}
use Rattle.std.specs.List.{range_with_len}
use Rattle.std.proofs.lemmas.Bool.{eqb-true}
use Rattle.std.proofs.lemmas.List.{append-nil, length-map, length-replicate}
use Rattle.sleep_model.specs.declared.machine.Link.{Link}
use Rattle.sleep_model.specs.Order.{is_among, children_from, suppliers_of, parent_of, dependents, superiors, EachAfterParent, order_by}
use Rattle.sleep_model.specs.Links.{AreLinks, is_dependent}
use Rattle.sleep_model.proofs.Dependents.{among_first, among_rest}
use Rattle.sleep_model.proofs.Acyclic.{order_ranked, links_descend, dependents_within, others_same}
use Rattle.sleep_model.proofs.FirstOccurrences.{dependents_new, holding_new, holding_other, suppliers_new, suppliers_other}
use Rattle.device_rows.specs.Table.{Table, row_at, room_at, with_number}
use Rattle.link_rows.specs.Rows.{IsTableOf, is_left_out}
use Rattle.device_links.specs.Walks.{IsWalkable, AreMarks}
use Rattle.device_links.specs.Invariant.{LinksInvariant, IsWhole, HaveRoomForAll, active_below, active_above}
use Rattle.device_links.specs.Adds.{IsOpen}
use Rattle.device_links.proofs.ActiveLinks.{below_none, above_none, below_here, below_other, above_here, above_other}
use Rattle.link_rows.proofs.RowsMade.{table_push, table_same, table_unless, parent_rows, empty_rows}

-- without links
pub preserved_new : (ps : List (Option ℕ)) → length ps < 2 ^ 32 → EachAfterParent 0 ps → (hangs below suppliers above : List (List ℕ)) (order : List ℕ)
    → IsTableOf (length ps) (λ d. children_from d 0 ps) hangs → IsTableOf (length ps) (λ d. children_from d 0 ps) below → suppliers ≡ replicate (length ps) [] → above ≡ map option_to_list ps → order ≡ range_with_len 0 (length ps)
    → LinksInvariant ps [] hangs below suppliers above order
preserved_new ps l after hangs below suppliers above order h b s a o = record {
  numbered = l;
  after = after;
  few = omega arith;
  linked = tt;
  all_dependents = table_same (length ps) (λ d. children_from d 0 ps) (dependents ps []) hangs h (λ d. append-nil (children_from d 0 ps));
  once_below = table_same (length ps) (λ d. children_from d 0 ps) (active_below ps []) below b (λ d. below_none ps d);
  all_suppliers = record {
    count = ap length s ∙ length-replicate (length ps) [];
    each = λ d. ap (λ rows. get_or rows d []) s ∙ empty_rows (length ps) d;
  };
  once_above = record {
    count = ap length a ∙ length-map ps option_to_list;
    each = λ d. ap (λ rows. get_or rows d []) a ∙ (parent_rows ps d ∙ sym (above_none ps d));
  };
  ordered = o;
}

-- what depends directly on a device, as the table has it
pub dependents_is : (ps : List (Option ℕ)) (ls : List Link) (t : Table) → IsTableOf (length ps) (dependents ps ls) t.rows → row_at t ≡ dependents ps ls
dependents_is ps ls t h = λ i d. h.each d i

pub walkable_of : (ps : List (Option ℕ)) (ls : List Link) → EachAfterParent 0 ps → AreLinks ps ls → IsWalkable (length ps) (dependents ps ls)
walkable_of ps ls after linked = record {
  descends = links_descend ps after ls linked (order_ranked ps after ls linked);
  within = dependents_within ps after ls linked;
}

pub walkable : (ps : List (Option ℕ)) (ls : List Link) → EachAfterParent 0 ps → AreLinks ps ls → (t : Table) → IsTableOf (length ps) (dependents ps ls) t.rows → IsWalkable (length t.rows) (row_at t)
walkable ps ls after linked t h =
    subst (λ k. IsWalkable k (row_at t)) (sym h.count)
    (subst (λ (dependents_of : ℕ → List ℕ). IsWalkable (length ps) dependents_of) (sym (dependents_is ps ls t h)) (walkable_of ps ls after linked))

-- the others of the order, by their marks
pub by_marks : (n : ℕ) (marks : List Bool) (ds : List ℕ) → AreMarks marks n ds → (xs : List ℕ) → ((d : ℕ) → is_among xs d ≡ true → d < n) → filter (λ d. not (get_or marks d false)) xs ≡ filter (λ d. not (is_among ds d)) xs
by_marks n marks ds m [] h = refl
by_marks n marks ds m (x ∷ xs) h =
    ap (λ b. cond (not b) (x ∷ filter (λ d. not (get_or marks d false)) xs) (filter (λ d. not (get_or marks d false)) xs)) (m.marked x (h x (among_first x xs)))
    ∙ ap (λ ys. cond (not (is_among ds x)) (x ∷ ys) ys) (by_marks n marks ds m xs (λ d i. h d (among_rest x xs d i)))

-- with one more link
pub preserved_more : (ps : List (Option ℕ)) (ls : List Link) (hangs below suppliers above : List (List ℕ)) (order : List ℕ) → LinksInvariant ps ls hangs below suppliers above order
    → (l : Link) → IsOpen (record { parents = ps; links = ls }) l.supplier l.consumer → is_dependent ps ls l.consumer l.supplier ≡ false → (order' : List ℕ) → order' ≡ order_by ps (l ∷ ls)
    → (left_out : Bool) → left_out ≡ is_left_out ps l
    → LinksInvariant ps (l ∷ ls) (with_number hangs (Some l.supplier) l.consumer) (cond left_out below (with_number below (Some l.supplier) l.consumer)) (with_number suppliers (Some l.consumer) l.supplier) (cond left_out above (with_number above (Some l.consumer) l.supplier))
    order'
preserved_more ps ls hangs below suppliers above order k l open' missing order' ordered' left_out is = record {
  numbered = k.numbered;
  after = k.after;
  few = omega (arith, open'.few);
  linked = (open'.stand.0, open'.stand.1, open'.new, missing, k.linked);
  all_dependents = table_push (length ps) (dependents ps ls) (dependents ps (l ∷ ls)) hangs k.all_dependents l.supplier l.consumer open'.stand.0 (dependents_new ps l ls) (λ d e. others_same ps k.after l ls d e);
  once_below = table_unless (length ps) (active_below ps ls) (active_below ps (l ∷ ls)) below k.once_below left_out l.supplier l.consumer open'.stand.0
      (below_here ps l ls open'.stand.1 open'.new ∙ ap (λ b. cond b (active_below ps ls l.supplier) (active_below ps ls l.supplier ++ l.consumer ∷ [])) (sym is))
      (λ d e. below_other ps l ls d e);
  all_suppliers = table_push (length ps) (λ d. suppliers_of d ls) (λ d. suppliers_of d (l ∷ ls)) suppliers k.all_suppliers l.consumer l.supplier open'.stand.1 (suppliers_new l ls) (λ d e. suppliers_other l ls d e);
  once_above = table_unless (length ps) (active_above ps ls) (active_above ps (l ∷ ls)) above k.once_above left_out l.consumer l.supplier open'.stand.1
      (above_here ps l ls open'.new ∙ ap (λ b. cond b (active_above ps ls l.consumer) (active_above ps ls l.consumer ++ l.supplier ∷ [])) (sym is))
      (λ d e. above_other ps l ls d e);
  ordered = ordered';
}

-- the room, if the tables have no less
pub room_new : (ps : List (Option ℕ)) (below above : Table) → IsTableOf (length ps) (active_below ps []) below.rows → IsTableOf (length ps) (active_above ps []) above.rows → HaveRoomForAll ps [] below above
room_new ps below above b a = record {
  below = λ d. let e = ap length (b.each d ∙ below_none ps d ∙ sym (append-nil (children_from d 0 ps))) in omega (arith, e);
  above = λ d. let e = ap length (a.each d ∙ above_none ps d ∙ sym (append-nil (parent_of (slice_get ps d)))) in omega (arith, e);
}

-- and with one more link, if the rows of its ends have room for all that they may hold
pub room_more : (ps : List (Option ℕ)) → EachAfterParent 0 ps → (l : Link) (ls : List Link) (below above below' above' : Table) → HaveRoomForAll ps ls below above
    → ((d : ℕ) → room_at below d ≤ room_at below' d) → length (dependents ps (l ∷ ls) l.supplier) ≤ room_at below' l.supplier
    → ((d : ℕ) → room_at above d ≤ room_at above' d) → length (superiors ps (l ∷ ls) l.consumer) ≤ room_at above' l.consumer
    → HaveRoomForAll ps (l ∷ ls) below' above'
room_more ps after l ls below above below' above' h b s a c = record {
  below = λ d. by_supplier d (l.supplier == d) refl;
  above = λ d. by_consumer d (l.consumer == d) refl;
}
  where
    by_supplier : (d : ℕ) (t : Bool) → (l.supplier == d) ≡ t → length (dependents ps (l ∷ ls) d) ≤ room_at below' d
    by_supplier d true e = subst (λ (x : ℕ). length (dependents ps (l ∷ ls) x) ≤ room_at below' x) (eqb-true l.supplier d e) s
    by_supplier d false e = let same = ap length (others_same ps after l ls d e) in let had = h.below d in let more = b d in omega (arith, same, had, more)

    by_consumer : (d : ℕ) (t : Bool) → (l.consumer == d) ≡ t → length (superiors ps (l ∷ ls) d) ≤ room_at above' d
    by_consumer d true e = subst (λ (x : ℕ). length (superiors ps (l ∷ ls) x) ≤ room_at above' x) (eqb-true l.consumer d e) c
    by_consumer d false e = let same = ap length (holding_other ps l ls d e) in let had = h.above d in let more = a d in omega (arith, same, had, more)

-- what depends on the supplier, and is above the consumer, counted by the tables
pub dependents_count : (ps : List (Option ℕ)) (l : Link) (ls : List Link) → length (dependents ps (l ∷ ls) l.supplier) ≡ length (dependents ps ls l.supplier) + 1
dependents_count ps l ls = ap length (dependents_new ps l ls) ∙ length-append (dependents ps ls l.supplier) (l.consumer ∷ [])

pub holding_count : (ps : List (Option ℕ)) (l : Link) (ls : List Link) → length (superiors ps (l ∷ ls) l.consumer) ≤ length (suppliers_of l.consumer ls) + 2
holding_count ps l ls =
    let whole = ap length (holding_new ps l ls) ∙ length-append (superiors ps ls l.consumer) (l.supplier ∷ []) in
    let parts = length-append (parent_of (slice_get ps l.consumer)) (suppliers_of l.consumer ls) in
    let one = one_parent (slice_get ps l.consumer) in
    omega (arith, whole, parts, one)
  where
    one_parent : (o : Option (Option ℕ)) → length (parent_of o) ≤ 1
    one_parent None = omega arith
    one_parent (Some None) = omega arith
    one_parent (Some (Some p)) = omega arith

pub kept_as : {ps qs : List (Option ℕ)} {ls ms : List Link} {h i b c s t a e : List (List ℕ)} {o p : List ℕ} → ps ≡ qs → ls ≡ ms → h ≡ i → b ≡ c → s ≡ t → a ≡ e → o ≡ p → LinksInvariant ps ls h b s a o → LinksInvariant qs ms i c t e p
kept_as {ps} {qs} {ls} {ms} {h} {i} {b} {c} {s} {t} {a} {e} {o} {p} w1 w2 w3 w4 w5 w6 w7 k =
    subst (λ (x : List (Option ℕ)). LinksInvariant x ms i c t e p) w1
    (subst (λ (x : List Link). LinksInvariant ps x i c t e p) w2
    (subst (λ (x : List (List ℕ)). LinksInvariant ps ls x c t e p) w3
    (subst (λ (x : List (List ℕ)). LinksInvariant ps ls h x t e p) w4
    (subst (λ (x : List (List ℕ)). LinksInvariant ps ls h b x e p) w5
    (subst (λ (x : List (List ℕ)). LinksInvariant ps ls h b s x p) w6
    (subst (λ (x : List ℕ). LinksInvariant ps ls h b s a x) w7 k))))))

pub whole_as : {ps qs : List (Option ℕ)} {ls ms : List Link} {h : List (List ℕ)} {b : Table} {s : List (List ℕ)} {a : Table} {n m : List (List ℕ)} {o : List ℕ} → ps ≡ qs → ls ≡ ms → IsWhole ps ls h b s a n m o → IsWhole qs ms h b s a n m o
whole_as {ps} {qs} {ls} {ms} {h} {b} {s} {a} {n} {m} {o} w1 w2 k =
    subst (λ (x : List (Option ℕ)). IsWhole x ms h b s a n m o) w1 (subst (λ (x : List Link). IsWhole ps x h b s a n m o) w2 k)
