-- What the fields of the passed entries are.
use Rattle.std.specs.Prelude.{◌≡◌}
use Rattle.std.specs.List.{list_any}
use Rattle.sleep_model.specs.Notifiers.{call_order}
use Rattle.sleep_model.specs.Runtime.{is_async}
use Rattle.check_past.specs.declared.passed.Passed.TheInside.{Inside}
use Rattle.check_past.specs.Passing.{Passage, Holds, IsPassage, past_of}

-- they are seen as the machine, the entries and how many were passed (own)
abbrev pub passage : Inside → Passage
passage p = record { machine = p.machine.now; entries = p.entries.now; passed = p.passed }

-- the fields are what the passed entries leave (own)
pub record PassedInvariant (p : Inside) : Type 0 where
  pub holds : Holds p.machine.now (past_of (passage p)) p.past_state.value
  pub call_order : p.call_order.items ≡ call_order p.machine.now
  pub has_async : p.has_async ≡ list_any is_async p.machine.now.devices
  pub passage : IsPassage (passage p)

-- the fields are what the passed entries leave (own)
abbrev pub passed_invariant : Inside → Type 0
passed_invariant p = PassedInvariant p
