-- What an entry adds, by the ends of its link.
use Rattle.std.proofs.Common.{◌≡◌, List, Option, Some, None, refl, ap, unwrap_or}
use Rattle.sleep_model.specs.declared.entry.Kind.{Kind}
use Rattle.sleep_model.specs.declared.entry.Kind.TheVariants as kind
use Rattle.sleep_model.specs.declared.machine.Link.{Link}
use Rattle.sleep_stats.specs.declared.linked.Ends.{Ends}
use Rattle.sleep_stats.specs.Linked.{added_after, added_ends}

-- an entry with ends adds the link between them
pub some_added : (what : Kind) (ends : Ends) → added_ends what ≡ Some ends → what ≡ kind.LinkAdd ends.supplier ends.consumer None
some_added (kind.LinkAdd supplier consumer None) ends h = ap (λ (o : Option Ends). kind.LinkAdd (unwrap_or o ends).supplier (unwrap_or o ends).consumer None) h
some_added (kind.LinkAdd supplier consumer (Some error)) ends h = absurd (let no : None ≡ Some ends = h in cc)
some_added what ends h = absurd (let no : None ≡ Some ends = h in cc)

-- an entry without ends adds none
pub none_added : (what : Kind) (before : List Link) → added_ends what ≡ None → added_after what before ≡ before
none_added (kind.LinkAdd supplier consumer None) before h = absurd (cc)
none_added (kind.LinkAdd supplier consumer (Some error)) before h = refl
none_added what before h = refl
