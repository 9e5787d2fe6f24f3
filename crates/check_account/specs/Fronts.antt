-- A freeze or a thaw under way: it has reached the first tasks, and the others are as before.
use Rattle.std.specs.Prelude.{ℕ, suc, List, ◌∷◌}
use Rattle.sleep_model.specs.declared.entry.Actor.{Actor}
use Rattle.sleep_model.specs.declared.entry.Group.{Group}
use Rattle.sleep_model.specs.declared.entry.Thaw.{Thaw}
use Rattle.sleep_model.specs.declared.machine.Script.{Script}
use Rattle.sleep_model.specs.declared.progress.Freezing.{Freezing}
use Rattle.sleep_model.specs.Freezer.{asked_by, let_go}

-- the tasks, from number i on, of which a freeze has asked the first k
abbrev pub asked_front : ℕ → Group → Actor → ℕ → List Script → List Freezing → List Freezing
asked_front (suc k) g who i (s ∷ ss) (f ∷ fs) = asked_by g who i s.kind f ∷ asked_front k g who (suc i) ss fs
asked_front k g who i _ fs = fs

-- the tasks of which a thaw has let the first k go
abbrev pub front_let_go : ℕ → Thaw → List Script → List Freezing → List Freezing
front_let_go (suc k) those (s ∷ ss) (f ∷ fs) = let_go those s.kind f ∷ front_let_go k those ss fs
front_let_go k those _ fs = fs
