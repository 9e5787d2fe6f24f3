-- What `Held` ends as while its value is borrowed.
use Rattle.std.specs.Borrow.{Lends, Fml, RattleType, MutBor}
use Rattle.turn_lock.specs.declared.table.Held.{Held}
use Rattle.turn_lock.specs.contracts.table.Held.{the_row}

-- the same, with this value
abbrev pub with_value : {V I : Type 0} → Held V I → V → Held V I
with_value h y = record h { value = y }

module _ (V I : RattleType) (h : MutBor (Held V.Denot I.Denot)) where
  -- once the borrow ends, it holds the last value written through it
  abbrev pub LendsValue : MutBor V.Denot → Fml
  LendsValue r = Lends (the_row V I) V h r (with_value h.now)
