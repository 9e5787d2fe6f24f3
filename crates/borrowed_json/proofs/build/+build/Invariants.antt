-- The invariants of the loops that read what a list and an object have, and why reading ends.
use Rattle.std.proofs.Common.{◌≡◌, ℕ, List, ◌+◌, ◌*◌, ◌≤◌, ◌++◌, length}
use Rattle.json.specs.Json.{items, members, value, parse_map}
use Rattle.serde_json.specs.Data.{no_members}
use Rattle.serde_json.specs.Read.{of_items, of_members, converted}
use Rattle.borrowed_json.specs.View.{Value, Member, members_view}
use Rattle.borrowed_json.proofs.Reading.{items_before}
use Rattle.borrowed_json.proofs.build.+build.Given as goal

abbrev pub decreases-value_in : goal.decreases-value_in
decreases-value_in l = 2 * l.depth

abbrev pub decreases-items_in : goal.decreases-items_in
decreases-items_in l = 2 * l.depth + 1

abbrev pub decreases-members_in : goal.decreases-members_in
decreases-members_in l = 2 * l.depth + 1

abbrev pub invariant-items_in-items : goal.invariant-items_in-items
invariant-items_in-items l =
    (n : ℕ) × (found : List Value) × (length l.reader ≤ n)
    × (converted of_items (items (value l.depth) (length l.initial.reader) l.initial.reader) ≡ parse_map (items_before found) (converted of_items (items (value l.depth) n l.reader)))
    × (length l.reader ≤ length l.initial.reader)
    × (l.pending.items.items ≡ l.initial.pending.items.items ++ found)
    × (l.pending.members.items ≡ l.initial.pending.members.items)

abbrev pub decreases-items_in-items : goal.decreases-items_in-items
decreases-items_in-items l = length l.reader

abbrev pub invariant-members_in-members : goal.invariant-members_in-members
invariant-members_in-members l =
    (n : ℕ) × (found : List Member) × (length l.reader ≤ n)
    × (converted (λ ms. of_members ms no_members) (members (value l.depth) (length l.initial.reader) l.initial.reader) ≡ converted (λ ms. of_members ms (members_view found)) (members (value l.depth) n l.reader))
    × (length l.reader ≤ length l.initial.reader)
    × (l.pending.members.items ≡ l.initial.pending.members.items ++ found)
    × (l.pending.items.items ≡ l.initial.pending.items.items)

abbrev pub decreases-members_in-members : goal.decreases-members_in-members
decreases-members_in-members l = length l.reader
