-- The tables of links that are made at once.
use Rattle.std.proofs.Common.{◌≡◌, ◌<◌, ◌+◌, ◌^◌, ◌∙◌, ℕ, Bool, true, false, not, List, [], ◌∷◌, ◌++◌, length, map, take, drop, reverse, get_or, option_to_list, replicate, Option, refl, sym, ap, subst, arith, length-append}
use Rattle.std.specs.List.{range_with_len}
use Rattle.std.proofs.lemmas.List.{take_more, take-append-drop, reverse-append}
use Rattle.std.proofs.lemmas.Bool.{true≢false}
use Rattle.sleep_model.specs.declared.machine.Link.{Link}
use Rattle.sleep_model.specs.Order.{is_among, children_from, suppliers_of, dependents, EachAfterParent}
use Rattle.sleep_model.specs.Links.{is_linked}
use Rattle.sleep_model.proofs.Acyclic.{others_same}
use Rattle.sleep_model.proofs.FirstOccurrences.{dependents_new, suppliers_new, suppliers_other, suppliers_linked}
use Rattle.device_rows.specs.Table.{Table, row_at}
use Rattle.link_rows.specs.Rows.{IsTableOf, is_left_out}
use Rattle.device_links.specs.declared.seen.Tables.{Tables}
use Rattle.device_links.specs.Invariant.{active_below, active_above}
use Rattle.device_links.specs.Passes.{AreApart, AreTables, HaveRows, IsHung, IsNew, Decides}
use Rattle.device_links.proofs.Invariant.{preserved_new, room_new, room_more, holding_count}
use Rattle.device_links.proofs.ActiveLinks.{below_here, below_other, above_here, above_other}
use Rattle.link_rows.proofs.RowsMade.{table_push, table_unless}

-- without links
pub tables_new : (ps : List (Option ℕ)) → length ps < 2 ^ 32 → EachAfterParent 0 ps → (t : Tables)
    → IsTableOf (length ps) (λ d. children_from d 0 ps) t.dependents.rows → IsTableOf (length ps) (λ d. children_from d 0 ps) t.below.rows → t.suppliers.rows ≡ replicate (length ps) [] → t.above.rows ≡ map option_to_list ps → AreTables ps [] t
tables_new ps l after t h b s a =
    let k = preserved_new ps l after t.dependents.rows t.below.rows t.suppliers.rows t.above.rows (range_with_len 0 (length ps)) h b s a refl in
    record { all_dependents = k.all_dependents; once_below = k.once_below; all_suppliers = k.all_suppliers; once_above = k.once_above; places = room_new ps t.below t.above k.once_below k.once_above }

pub rows_of : (ps : List (Option ℕ)) (ls : List Link) (t : Tables) → AreTables ps ls t → HaveRows (length ps) t
rows_of ps ls t h = record { dependents = h.all_dependents.count; below = h.once_below.count; suppliers = h.all_suppliers.count; above = h.once_above.count }

-- whether there is that link, as the row of its consumer says
stands_as : (ps : List (Option ℕ)) (ls : List Link) (t : Tables) → AreTables ps ls t → (s c : ℕ) → is_among (row_at t.suppliers c) s ≡ is_linked ls s c
stands_as ps ls t h s c = ap (λ row. is_among row s) (h.all_suppliers.each c) ∙ suppliers_linked ls s c

-- what passes the test is apart from the links
pub apart_more : (ps : List (Option ℕ)) (ls : List Link) (t : Tables) → AreApart ps ls → AreTables ps ls t → (l : Link) → IsNew (length ps) t.suppliers l → AreApart ps (l ∷ ls)
apart_more ps ls t apart h l n = (n.supplier, n.consumer, sym (stands_as ps ls t h l.supplier l.consumer) ∙ n.new, apart)

-- and the other way round
pub new_of : (ps : List (Option ℕ)) (ls : List Link) (t : Tables) → AreTables ps ls t → (l : Link) → AreApart ps (l ∷ ls) → IsNew (length ps) t.suppliers l
new_of ps ls t h l a = record { supplier = a.0; consumer = a.1; new = stands_as ps ls t h l.supplier l.consumer ∙ a.2 }

-- with one more link
pub tables_more : (ps : List (Option ℕ)) → EachAfterParent 0 ps → (ls : List Link) (old new : Tables) → AreTables ps ls old → (l : Link) → AreApart ps (l ∷ ls) → IsHung ps l old new → AreTables ps (l ∷ ls) new
tables_more ps after ls old new k l apart u = record {
  all_dependents = hangs;
  once_below =
      subst (IsTableOf (length ps) (active_below ps (l ∷ ls))) (sym u.below.rows)
      (table_unless (length ps) (active_below ps ls) (active_below ps (l ∷ ls)) old.below.rows k.once_below (is_left_out ps l) l.supplier l.consumer apart.0
      (below_here ps l ls apart.1 apart.2) (λ d e. below_other ps l ls d e));
  all_suppliers = supplies;
  once_above =
      subst (IsTableOf (length ps) (active_above ps (l ∷ ls))) (sym u.above.rows)
      (table_unless (length ps) (active_above ps ls) (active_above ps (l ∷ ls)) old.above.rows k.once_above (is_left_out ps l) l.consumer l.supplier apart.1
      (above_here ps l ls apart.2) (λ d e. above_other ps l ls d e));
  places =
      room_more ps after l ls old.below old.above new.below new.above k.places u.below.kept
      (let made = u.below.made in let is = ap length (hangs.each l.supplier) in omega (arith, made, is)) u.above.kept
      (let made = u.above.made in let is = ap length (supplies.each l.consumer ∙ suppliers_new l ls) ∙ length-append (suppliers_of l.consumer ls) (l.supplier ∷ []) in let most = holding_count ps l ls in omega (arith, made, is, most));
}
  where
    hangs : IsTableOf (length ps) (dependents ps (l ∷ ls)) new.dependents.rows
    hangs =
        subst (IsTableOf (length ps) (dependents ps (l ∷ ls))) (sym u.dependents)
        (table_push (length ps) (dependents ps ls) (dependents ps (l ∷ ls)) old.dependents.rows k.all_dependents l.supplier l.consumer apart.0 (dependents_new ps l ls) (λ d e. others_same ps after l ls d e))

    supplies : IsTableOf (length ps) (λ d. suppliers_of d (l ∷ ls)) new.suppliers.rows
    supplies =
        subst (IsTableOf (length ps) (λ d. suppliers_of d (l ∷ ls))) (sym u.suppliers)
        (table_push (length ps) (λ d. suppliers_of d ls) (λ d. suppliers_of d (l ∷ ls)) old.suppliers.rows k.all_suppliers l.consumer l.supplier apart.1 (suppliers_new l ls) (λ d e. suppliers_other l ls d e))

-- the links up to number i with the next one, the newest first
pub newest : (links : List Link) (i : ℕ) (l : Link) → i < length links → l ≡ get_or links i l → reverse (take (i + 1) links) ≡ l ∷ reverse (take i links)
newest links i l within at = ap reverse (take_more links i l within ∙ ap (λ x. take i links ++ x ∷ []) (sym at)) ∙ reverse-append (take i links) (l ∷ [])

apart_part : (ps : List (Option ℕ)) (later ls : List Link) → AreApart ps (later ++ ls) → AreApart ps ls
apart_part ps [] ls h = h
apart_part ps (l ∷ later) ls h = apart_part ps later ls h.3

-- what is apart as a whole is so up to each of its links
pub apart_all : (ps : List (Option ℕ)) (links : List Link) (i : ℕ) → AreApart ps (reverse links) → AreApart ps (reverse (take i links))
apart_all ps links i h =
    apart_part ps (reverse (drop i links)) (reverse (take i links))
    (subst (AreApart ps) (sym (ap reverse (take-append-drop i links)) ∙ reverse-append (take i links) (drop i links)) h)

-- a link that does not pass is not apart from those before it
pub not_apart : (ps : List (Option ℕ)) (links : List Link) (i : ℕ) (l : Link) → i < length links → l ≡ get_or links i l → (t : Tables) → AreTables ps (reverse (take i links)) t → (IsNew (length ps) t.suppliers l → ⊥) → AreApart ps (reverse links) → ⊥
not_apart ps links i l within at t h old apart = old (new_of ps (reverse (take i links)) t h l (subst (AreApart ps) (newest links i l within at) (apart_all ps links (i + 1) apart)))

-- a link that passes, and its tables
pub with_next : (ps : List (Option ℕ)) → EachAfterParent 0 ps → (links : List Link) (i : ℕ) (l : Link) → i < length links → l ≡ get_or links i l → (old new : Tables) → AreApart ps (reverse (take i links)) × AreTables ps (reverse (take i links)) old
    → IsNew (length ps) old.suppliers l → IsHung ps l old new → AreApart ps (reverse (take (i + 1) links)) × AreTables ps (reverse (take (i + 1) links)) new
with_next ps after links i l within at old new h n u =
    let apart = apart_more ps (reverse (take i links)) old h.0 h.1 l n in
    subst (λ (ls : List Link). AreApart ps ls × AreTables ps ls new) (sym (newest links i l within at)) (apart, tables_more ps after (reverse (take i links)) old new h.1 l apart u)

-- what is read past the end
abbrev pub no_link : Link
no_link = record { supplier = 0; consumer = 0; active = false }

pub decides_new : (n : ℕ) (t : Table) (l : Link) → l.supplier < n → l.consumer < n → (r : Bool) → r ≡ is_among (row_at t l.consumer) l.supplier → Decides (not r) (IsNew n t l)
decides_new n t l s c true e = λ new. true≢false (e ∙ new.new)
decides_new n t l s c false e = record { supplier = s; consumer = c; new = sym e }

-- the consumer of a link is a device
pub consumer_at : (ps : List (Option ℕ)) (links : List Link) (i : ℕ) (l : Link) → i < length links → l ≡ get_or links i l → AreApart ps (reverse links) → l.consumer < length ps
consumer_at ps links i l within at apart = (subst (AreApart ps) (newest links i l within at) (apart_all ps links (i + 1) apart)).1

-- and so is its supplier
pub supplier_at : (ps : List (Option ℕ)) (links : List Link) (i : ℕ) (l : Link) → i < length links → l ≡ get_or links i l → AreApart ps (reverse links) → l.supplier < length ps
supplier_at ps links i l within at apart = (subst (AreApart ps) (newest links i l within at) (apart_all ps links (i + 1) apart)).0
