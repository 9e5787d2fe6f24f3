-- What a task that changes links is answered.
use Rattle.std.specs.Prelude.{◌≡◌, List}
use Rattle.sleep_model.specs.declared.entry.Entry.{Entry}
use Rattle.sleep_model.specs.declared.entry.Kind.{Kind}
use Rattle.sleep_model.specs.declared.entry.Kind.TheVariants as kind
use Rattle.sleep_model.specs.declared.machine.Machine.{Machine}
use Rattle.sleep_model.specs.Links.{link_add_due, link_state_due}

-- a link, or a state of one, is answered by the links that there are and by whether an attempt is open (device_link_add,
-- device_links_driver_bound)
abbrev pub KeepsLinks : Machine → List Entry → Kind → Type 0
KeepsLinks m past (kind.LinkAdd supplier consumer r) = r ≡ link_add_due m past supplier consumer
KeepsLinks m past (kind.LinkState supplier consumer active r) = r ≡ link_state_due m past supplier consumer
KeepsLinks m past _ = Unit {0}
