-- What links show at either end.
use Rattle.std.proofs.Common.{◌≡◌, ◌<◌, ◌≤◌, ℕ, false, ◌==◌, List, [], ◌∷◌, ◌++◌, length, filter, take, reverse, Option, cond}
use Rattle.sleep_model.specs.declared.machine.Link.{Link}
use Rattle.sleep_model.specs.Links.{is_linked}
use Rattle.sleep_model.proofs.FirstOccurrences.{dependents_new, holding_new}
use Rattle.link_rows.specs.Rows.{is_left_out}
use Rattle.device_links.specs.Ends.{device_at, device_across, in_tree, beside, active_beside}
use Rattle.device_links.specs.declared.states.LinkEnd.{LinkEnd}
use Rattle.device_links.specs.declared.states.LinkEnd.TheVariants as at
use Rattle.device_links.proofs.ActiveLinks.{below_here, above_here, below_none, above_none, below_few, above_few, dependents_part, holding_part}
use Rattle.device_links.proofs.Numbering.{below_here_as, dependents_here, above_here_as, superiors_here}

-- without links
pub none_shown : (end : LinkEnd) (ps : List (Option ℕ)) (d : ℕ) → active_beside end ps [] d ≡ in_tree end ps d
none_shown at.Supplier ps d = above_none ps d
none_shown at.Consumer ps d = below_none ps d

-- one more link of d
pub next_shown : (end : LinkEnd) (ps : List (Option ℕ)) (l : Link) (ls : List Link) → l.consumer < length ps → is_linked ls l.supplier l.consumer ≡ false
    → active_beside end ps (l ∷ ls) (device_across end l) ≡ cond (is_left_out ps l) (active_beside end ps ls (device_across end l)) (active_beside end ps ls (device_across end l) ++ device_at end l ∷ [])
next_shown at.Supplier ps l ls within new = above_here ps l ls new
next_shown at.Consumer ps l ls within new = below_here ps l ls within new

pub next_beside : (end : LinkEnd) (ps : List (Option ℕ)) (l : Link) (ls : List Link) → beside end ps (l ∷ ls) (device_across end l) ≡ beside end ps ls (device_across end l) ++ device_at end l ∷ []
next_beside at.Supplier ps l ls = holding_new ps l ls
next_beside at.Consumer ps l ls = dependents_new ps l ls

-- those of active links are no more than those of all, and those of some links no more than those of all
pub few_shown : (end : LinkEnd) (ps : List (Option ℕ)) (ls : List Link) (d : ℕ) → length (active_beside end ps ls d) ≤ length (beside end ps ls d)
few_shown at.Supplier ps ls d = above_few ps ls d
few_shown at.Consumer ps ls d = below_few ps ls d

pub part_beside : (end : LinkEnd) (ps : List (Option ℕ)) (links : List Link) (i d : ℕ) → length (beside end ps (reverse (take i links)) d) ≤ length (beside end ps (reverse links) d)
part_beside at.Supplier ps links i d = holding_part ps links i d
part_beside at.Consumer ps links i d = dependents_part ps links i d

-- the links of d show as much as all
pub own_shown : (end : LinkEnd) (d : ℕ) (ps : List (Option ℕ)) (ls : List Link) → active_beside end ps (filter (λ l. device_across end l == d) ls) d ≡ active_beside end ps ls d
own_shown at.Supplier d ps ls = above_here_as d ps ls
own_shown at.Consumer d ps ls = below_here_as d ps ls

pub own_beside : (end : LinkEnd) (d : ℕ) (ps : List (Option ℕ)) (ls : List Link) → beside end ps (filter (λ l. device_across end l == d) ls) d ≡ beside end ps ls d
own_beside at.Supplier d ps ls = superiors_here d ps ls
own_beside at.Consumer d ps ls = dependents_here d ps ls
