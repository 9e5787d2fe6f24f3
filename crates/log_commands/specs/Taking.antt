-- The links that a log adds, each tried after those that there are (drivers/base/core.c, device_link_add).
use Rattle.std.specs.Prelude.{◌≡◌, ◌≤◌, ◌<◌, ℕ, nat_le, List, [], ◌∷◌, length, reverse, if◌then◌else◌, Option, Some, None}
use Rattle.std.specs.Option.{option_or}
use Rattle.sleep_model.specs.declared.entry.Entry.{Entry}
use Rattle.sleep_model.specs.declared.entry.Kind.{Kind}
use Rattle.sleep_model.specs.declared.entry.Kind.TheVariants as kind
use Rattle.sleep_model.specs.declared.machine.Link.{Link}
use Rattle.sleep_model.specs.Links.{AreLinks, is_dependent, is_linked}
use Rattle.sleep_model.specs.Order.{EachAfterParent}
use Rattle.device_links.specs.Linked.{Linked}
use Rattle.sleep_stats.specs.Linked.{added_after}
use Rattle.program_ending.specs.declared.refusal.Refusal.{Refusal}
use Rattle.program_ending.specs.declared.refusal.Refusal.TheVariants.{TooManyLinks, LinkCycle}

-- why a link is refused after these, the oldest first: there are as many as may be, or it closes a cycle; one that is there is passed over
-- (device_link_add; the number is own)
abbrev pub link_refusal : List (Option ℕ) → List Link → ℕ → ℕ → Option Refusal
link_refusal parents links supplier consumer =
    if nat_le 4000 (length links) then Some TooManyLinks
    else if is_linked links supplier consumer then None
    else if is_dependent parents (reverse links) consumer supplier then Some LinkCycle
    else None

-- why the link that an entry adds is refused after these, if it is
abbrev pub refusal_at : List (Option ℕ) → List Link → Kind → Option Refusal
refusal_at parents links (kind.LinkAdd supplier consumer None) = link_refusal parents links supplier consumer
refusal_at parents links what = None

-- why the first of these entries' links that is refused is, if one is
abbrev pub refusal_of : List (Option ℕ) → List Link → List Entry → Option Refusal
refusal_of parents links [] = None
refusal_of parents links (e ∷ later) =
    option_or (refusal_at parents links e.kind) (refusal_of parents (added_after e.kind links) later)

-- ---- as they are taken

-- the links are in order, each device after its parent
pub record LinksAreOrdered (l : Linked) : Type 0 where
  pub after : EachAfterParent 0 l.parents
  pub few : length l.links ≤ 4000
  pub linked : AreLinks l.parents l.links

-- the link that an entry adds is between two of n devices
abbrev pub AddsWithin : ℕ → Kind → Type 0
AddsWithin n (kind.LinkAdd supplier consumer r) = (supplier < n) × (consumer < n)
AddsWithin n what = Unit {0}

-- so is each of these entries'
abbrev pub AllWithin : ℕ → List Entry → Type 0
AllWithin n [] = Unit {0}
AllWithin n (e ∷ later) = AddsWithin n e.kind × AllWithin n later

-- the link that an entry adds was not refused, and was taken
pub record IsTaken (old new : Linked) (what : Kind) : Type 0 where
  pub good : refusal_at old.parents (reverse old.links) what ≡ None
  pub parents : new.parents ≡ old.parents
  pub links : reverse new.links ≡ added_after what (reverse old.links)
  pub stands : LinksAreOrdered new
