-- All that is made of parents and links, after a link was added, and after a state was set.
use Rattle.std.proofs.Common.{◌≡◌, ◌<◌, ◌∙◌, ℕ, true, ◌^◌, List, [], ◌∷◌, ◌++◌, append_assoc, length, map, replicate, set, slice_get, option_to_list, Option, Some, sym, ap, subst, cond}
use Rattle.std.specs.List.{range_with_len}
use Rattle.sleep_model.specs.declared.machine.Link.{Link}
use Rattle.sleep_model.specs.Links.{AreLinks, is_linked}
use Rattle.sleep_model.specs.Order.{EachAfterParent, active_of, children_from, consumers_of, suppliers_of, dependents, superiors, parent_of, order_by, with_state}
use Rattle.sleep_model.proofs.Changing.{same_supplier, same_consumer, dependents_preserved, links_kept, order_preserved}
use Rattle.device_rows.specs.Table.{with_number}
use Rattle.check_order.specs.Graphs.{AreShown, IsMade, IsTableOf, links_with}
use Rattle.check_order.proofs.Placing.{consumers_past, consumers_stay, linked_within, placed_preserved, placed_more, placed_none, suppliers_past, suppliers_stay, consumers_next, suppliers_next}
use Rattle.check_order.proofs.Tabling.{link_below, no_links_above, no_links_below, same_number, table_set}
use Rattle.check_order.proofs.Tying.{graph}

-- without links
pub made_none : (ps : List (Option ℕ)) (hanging supplied consumed below above : List (List ℕ)) (order : List ℕ) → length ps < 2 ^ 32 → EachAfterParent 0 ps → IsTableOf (length ps) (λ d. children_from d 0 ps) hanging
    → supplied ≡ replicate (length ps) [] → consumed ≡ replicate (length ps) [] → below ≡ hanging → above ≡ map option_to_list ps → order ≡ range_with_len 0 (length ps) → IsMade (graph ps []) hanging supplied consumed below above order
made_none ps hanging supplied consumed below above order numbered after h s c b a o = record {
  graph = record { numbered = numbered; after = after; linked = tt };
  hanging = no_links_below ps hanging h;
  placed = placed_none (length ps) supplied consumed s c;
  active = record { below = subst (IsTableOf (length ps) (dependents ps [])) (sym b) (no_links_below ps hanging h); above = no_links_above ps above a };
  order = o;
}

-- the rows of a link that was added
pub longer_below : (ps : List (Option ℕ)) (l : Link) (ls : List Link) → dependents ps (active_of (l ∷ ls)) l.supplier ≡ dependents ps (active_of ls) l.supplier ++ cond l.active (l.consumer ∷ []) []
longer_below ps l ls = ap (λ xs. children_from l.supplier 0 ps ++ xs) (consumers_next l.supplier l ls (same_number l.supplier)) ∙ sym (append_assoc (children_from l.supplier 0 ps) (consumers_of l.supplier (active_of ls)) (cond l.active (l.consumer ∷ []) []))

pub longer_above : (ps : List (Option ℕ)) (l : Link) (ls : List Link) → superiors ps (active_of (l ∷ ls)) l.consumer ≡ superiors ps (active_of ls) l.consumer ++ cond l.active (l.supplier ∷ []) []
longer_above ps l ls = ap (λ xs. parent_of (slice_get ps l.consumer) ++ xs) (suppliers_next l.consumer l ls (same_number l.consumer)) ∙ sym (append_assoc (parent_of (slice_get ps l.consumer)) (suppliers_of l.consumer (active_of ls)) (cond l.active (l.supplier ∷ []) []))

module _ (ps : List (Option ℕ)) (ls : List Link) (hanging supplied consumed below above : List (List ℕ)) (order : List ℕ) (made : IsMade (graph ps ls) hanging supplied consumed below above order) where
  -- with one more link
  pub made_more : (l : Link) → AreLinks ps (l ∷ ls) → (k : ℕ) → k ≡ length ls → (row_below row_above now : List ℕ) → AreShown ps (l ∷ ls) l row_below row_above → now ≡ order_by ps (l ∷ ls)
      → IsMade (graph ps (l ∷ ls)) (with_number hanging (Some l.supplier) l.consumer) (with_number supplied (Some l.supplier) k) (with_number consumed (Some l.consumer) k) (set below l.supplier row_below) (set above l.consumer row_above) now
  made_more l linked k count row_below row_above now shown is = record {
    graph = record { numbered = made.graph.numbered; after = made.graph.after; linked = linked };
    hanging = link_below ps made.graph.after l ls hanging linked.0 made.hanging;
    placed = placed_more (length ps) l ls k supplied consumed made.placed linked.0 linked.1 count;
    active = record {
      below =
          table_set (length ps) (dependents ps (active_of ls)) (dependents ps (active_of (l ∷ ls))) below made.active.below l.supplier row_below linked.0 shown.below
          (λ d e. ap (λ xs. children_from d 0 ps ++ xs) (consumers_past d l.active l (active_of ls) e));
      above =
          table_set (length ps) (superiors ps (active_of ls)) (superiors ps (active_of (l ∷ ls))) above made.active.above l.consumer row_above linked.1 shown.above
          (λ d e. ap (λ xs. parent_of (slice_get ps d) ++ xs) (suppliers_past d l.active l (active_of ls) e));
    };
    order = is;
  }

  -- with another state of a link
  pub made_set : (l : Link) → is_linked ls l.supplier l.consumer ≡ true → (row_below row_above : List ℕ) → AreShown ps (links_with l ls) l row_below row_above
      → IsMade (graph ps (links_with l ls)) hanging supplied consumed (set below l.supplier row_below) (set above l.consumer row_above) order
  made_set l is_among_links row_below row_above shown =
      let s = l.supplier in
      let c = l.consumer in
      let f = with_state s c l.active in
      let within = linked_within ps s c ls made.graph.linked is_among_links in
      record {
        graph = record { numbered = made.graph.numbered; after = made.graph.after; linked = links_kept f (same_supplier s c l.active) (same_consumer s c l.active) ps ls made.graph.linked };
        hanging = subst (λ (g : ℕ → List ℕ). IsTableOf (length ps) g hanging) (sym (dependents_preserved f (same_supplier s c l.active) (same_consumer s c l.active) ps ls)) made.hanging;
        placed = placed_preserved f (same_supplier s c l.active) (same_consumer s c l.active) (length ps) ls supplied consumed made.placed;
        active = record {
          below =
              table_set (length ps) (dependents ps (active_of ls)) (dependents ps (active_of (links_with l ls))) below made.active.below s row_below within.0 shown.below
              (λ d e. ap (λ xs. children_from d 0 ps ++ xs) (consumers_stay s c l.active d e ls));
          above =
              table_set (length ps) (superiors ps (active_of ls)) (superiors ps (active_of (links_with l ls))) above made.active.above c row_above within.1 shown.above
              (λ d e. ap (λ xs. parent_of (slice_get ps d) ++ xs) (suppliers_stay s c l.active d e ls));
        };
        order = made.order ∙ sym (order_preserved f (same_supplier s c l.active) (same_consumer s c l.active) ps ls);
      }

-- the same, of equal links and rows
pub made_as : {ps : List (Option ℕ)} {ls ms : List Link} {hanging hanging' supplied supplied' consumed consumed' below below' above above' : List (List ℕ)} (order : List ℕ)
    → ls ≡ ms → hanging ≡ hanging' → supplied ≡ supplied' → consumed ≡ consumed' → below ≡ below' → above ≡ above' → IsMade (graph ps ls) hanging supplied consumed below above order → IsMade (graph ps ms) hanging' supplied' consumed' below' above' order
made_as {ps} {ls} {ms} {hanging} {hanging'} {supplied} {supplied'} {consumed} {consumed'} {below} {below'} {above} {above'} order l h s c b a made =
    subst (λ (x : List Link). IsMade (graph ps x) hanging' supplied' consumed' below' above' order) l
    (subst (λ (x : List (List ℕ)). IsMade (graph ps ls) x supplied' consumed' below' above' order) h
    (subst (λ (x : List (List ℕ)). IsMade (graph ps ls) hanging x consumed' below' above' order) s
    (subst (λ (x : List (List ℕ)). IsMade (graph ps ls) hanging supplied x below' above' order) c
    (subst (λ (x : List (List ℕ)). IsMade (graph ps ls) hanging supplied consumed x above' order) b
    (subst (λ (x : List (List ℕ)). IsMade (graph ps ls) hanging supplied consumed below x order) a made)))))
