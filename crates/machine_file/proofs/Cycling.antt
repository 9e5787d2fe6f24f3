-- Links that are added in turn.
use Rattle.std.proofs.Common.{◌≡◌, ◌<◌, ◌≤◌, ◌+◌, ◌++◌, ◌∙◌, ◌⊎◌, inl, inr, ℕ, suc, cond, List, [], ◌∷◌, length, take, get_or, reverse, not, true, false, Option, Some, None, refl, Ok, Err, sym, ap, subst, arith}
use Rattle.std.proofs.lemmas.List.{append-nil, append_assoc, take_more, reverse-append, length-reverse, length-take-le}
use Rattle.std.proofs.lemmas.Bool.{true≢false}
use Rattle.sleep_model.specs.declared.machine.Link.{Link}
use Rattle.sleep_model.specs.Order.{EachAfterParent, is_among, dependents, moved}
use Rattle.sleep_model.specs.Links.{AreLinks}
use Rattle.sleep_model.proofs.Acyclic.{links_descend, order_ranked}
use Rattle.sleep_model.proofs.Paths.{no_path_moved, path_below}
use Rattle.device_links.specs.Adds.{Adds}
use Rattle.device_links.specs.Linked.{Linked}
use Rattle.device_links.specs.declared.fault.LinkFault.{LinkFault}
use Rattle.device_links.specs.declared.fault.LinkFault.TheVariants as link
use Rattle.file_rules.specs.Fresh.{closes_nothing, IsFresh, AreFresh, no_link}
use Rattle.file_rules.specs.Places.{first_not_after}
use Rattle.file_rules.proofs.Placing.{later_from, later_here, later_next}

-- what is added up to number i, and that no cycle is found so far
pub record Adding (ps : List (Option ℕ)) (ls : List Link) (i : ℕ) (added : Linked) : Type 0 where
  pub is : added ≡ record { parents = ps; links = reverse (take i ls) }
  pub linked : AreLinks ps (reverse (take i ls))
  pub search : later_from (closes_nothing ps) ls 0 ≡ later_from (closes_nothing ps) ls i

-- a fault that is neither a cycle nor out of memory
abbrev pub IsOther : LinkFault → Type 0
IsOther (link.Cycle path) = ⊥
IsOther link.Mem = ⊥
IsOther f = Unit {0}

module _ (ps : List (Option ℕ)) (after : EachAfterParent 0 ps) (ls : List Link) (fresh : AreFresh ps ls) (i : ℕ) (within : i < length ls) (l : Link) (at : l ≡ get_or ls i l) (same : l ≡ get_or ls i no_link) where
  abbrev earlier : List Link
  earlier = reverse (take i ls)

  abbrev linked_so : Linked
  linked_so = record { parents = ps; links = earlier }

  ready : IsFresh ps earlier l
  ready = subst (IsFresh ps earlier) (sym same) (fresh.each i within)

  more : reverse (take (i + 1) ls) ≡ l ∷ earlier
  more = ap reverse (take_more ls i l within ∙ ap (λ x. take i ls ++ x ∷ []) (sym at)) ∙ reverse-append (take i ls) (l ∷ [])

  -- a link that was added closes nothing
  pub is_added : (v w : Linked) → Adding ps ls i v → Adds v l.supplier l.consumer (Ok tt) →
      w ≡ record { parents = v.parents; links = record { supplier = l.supplier; consumer = l.consumer; active = l.active } ∷ v.links } → Adding ps ls (i + 1) w
  is_added v w a h e =
      let answer : Adds linked_so l.supplier l.consumer (Ok tt) = subst (λ (u : Linked). Adds u l.supplier l.consumer (Ok tt)) a.is h in
      let apart : is_among (moved (length ps) (dependents ps earlier) l.consumer) l.supplier ≡ false = no_path_moved (dependents ps earlier) (length ps) l.consumer l.supplier answer.1 in
      record {
        is = e ∙ ap (λ (u : Linked). record { parents = u.parents; links = l ∷ u.links }) a.is ∙ ap (λ (ks : List Link). record { parents = ps; links = ks }) (sym more);
        linked = subst (AreLinks ps) (sym more) (ready.supplier, ready.consumer, ready.new, apart, a.linked);
        search = a.search ∙ later_next (closes_nothing ps) ls i l within at (ap not apart);
      }

  -- one that closes a cycle is the first
  pub is_cycle : (v : Linked) (path : List ℕ) → Adding ps ls i v → Adds v l.supplier l.consumer (Err (link.Cycle path)) → Some i ≡ later_from (closes_nothing ps) ls 0
  is_cycle v path a h =
      let answer : Adds linked_so l.supplier l.consumer (Err (link.Cycle path)) = subst (λ (u : Linked). Adds u l.supplier l.consumer (Err (link.Cycle path))) a.is h in
      let below : is_among (moved (length ps) (dependents ps earlier) l.consumer) l.supplier ≡ true =
      path_below (dependents ps earlier) (moved (length ps) (dependents ps earlier)) (links_descend ps after earlier a.linked (order_ranked ps after earlier a.linked)) path l.consumer l.supplier answer.1 in
      later_here (closes_nothing ps) ls i l within at (ap not below) ∙ sym a.search

  -- no other fault comes
  pub no_fault : (v : Linked) (f : LinkFault) → Adding ps ls i v → Adds v l.supplier l.consumer (Err f) → IsOther f → ⊥
  no_fault v link.NoDevice a h o =
      let answer : (length ps ≤ l.supplier) ⊎ (length ps ≤ l.consumer) = subst (λ (u : Linked). Adds u l.supplier l.consumer (Err link.NoDevice)) a.is h in
      by answer
    where
      by : (length ps ≤ l.supplier) ⊎ (length ps ≤ l.consumer) → ⊥
      by (inl k) = let s = ready.supplier in omega arith
      by (inr k) = let s = ready.consumer in omega arith
  no_fault v link.TooMany a h o =
      let answer : Adds linked_so l.supplier l.consumer (Err link.TooMany) = subst (λ (u : Linked). Adds u l.supplier l.consumer (Err link.TooMany)) a.is h in
      let count : length earlier ≡ i = length-reverse (take i ls) ∙ length-take-le i ls (omega arith) in
      let over = answer.1 in let few = fresh.few in omega (arith, count, over, few)
  no_fault v link.Twice a h o =
      let answer : Adds linked_so l.supplier l.consumer (Err link.Twice) = subst (λ (u : Linked). Adds u l.supplier l.consumer (Err link.Twice)) a.is h in
      true≢false (sym answer.2 ∙ ready.new)
  no_fault v link.NoLink a h o =
      let answer : Adds linked_so l.supplier l.consumer (Err link.NoLink) = subst (λ (u : Linked). Adds u l.supplier l.consumer (Err link.NoLink)) a.is h in answer
  no_fault v (link.Cycle path) a h o = o
  no_fault v link.Mem a h o = o

-- ---- links that are made at once

-- those before are links that may be added, too
pub older : (ps : List (Option ℕ)) (later ls : List Link) → AreLinks ps (later ++ ls) → AreLinks ps ls
older ps [] ls h = h
older ps (l ∷ later) ls h = older ps later ls h.4

none_from : (ps : List (Option ℕ)) (before : List Link) (n : ℕ) (ls : List Link) → AreLinks ps (reverse ls ++ before) → first_not_after (closes_nothing ps) before n ls ≡ None
none_from ps before n [] h = refl
none_from ps before n (l ∷ ls) h =
    let turned : reverse (l ∷ ls) ++ before ≡ reverse ls ++ l ∷ before = ap (λ ks. ks ++ before) (reverse-append (l ∷ []) ls) ∙ append_assoc (reverse ls) (l ∷ []) before in
    let with_it = subst (AreLinks ps) turned h in
    ap (λ b. cond b (first_not_after (closes_nothing ps) (l ∷ before) (suc n) ls) (Some n)) (ap not (older ps (reverse ls) (l ∷ before) with_it).3)
    ∙ none_from ps (l ∷ before) (suc n) ls with_it

-- none of links that may be added in turn closes a cycle
pub closes_none : (ps : List (Option ℕ)) (ls : List Link) → AreLinks ps (reverse ls) → None ≡ first_not_after (closes_nothing ps) [] 0 ls
closes_none ps ls h = sym (none_from ps [] 0 ls (subst (AreLinks ps) (sym (append-nil (reverse ls))) h))
