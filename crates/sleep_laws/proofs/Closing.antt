-- No attempt is open at the end of a legal log.
use Rattle.std.proofs.Common.{◌≡◌, Bool, true, false, ◌&&◌, List, ◌⊎◌, inl, inr, reverse, is_none, Option, Some, None, refl}
use Rattle.sleep_model.specs.declared.entry.Entry.{Entry}
use Rattle.sleep_model.specs.declared.entry.Actor.{Actor}
use Rattle.sleep_model.specs.declared.log.Log.{Log}
use Rattle.sleep_model.specs.declared.machine.Machine.{Machine}
use Rattle.sleep_model.specs.Accepted.{IsAccepted}
use Rattle.sleep_model.specs.Due.{have_all_exited}
use Rattle.sleep_model.specs.Legal.{IsLegal, IsLegalLog, IsFinishedLog, IsStuckLog, is_idle}
use Rattle.sleep_model.specs.Numbers.{numbers}
use Rattle.sleep_model.specs.EntryClasses.{journal}
use Rattle.sleep_model.specs.Path.{maker}
use Rattle.sleep_model.specs.Sources.{history}
use Rattle.sleep_laws.specs.Ends.{IsOrdered, IsClosedIfIdle}
use Rattle.sleep_laws.proofs.Ending.{no_attempt}
use Rattle.sleep_laws.proofs.Linking.{links_stand}
use Rattle.sleep_laws.proofs.Ranks.{ranked}
use Rattle.sleep_laws.proofs.Turning.{never}

pub closed_if_idle : (m : Machine) → IsOrdered m → (past : List Entry) → IsLegal m past → IsClosedIfIdle m past
closed_if_idle m o past h idle timeless = no_attempt m (journal past) (ranked m (journal past) o.parents (links_stand m o.scripts o.links (journal past) h.journal)) h.journal (λ s. history s past) (numbers past) idle timeless

-- a finished log has no open attempt by what finished means
none_there : (o : Option Actor) (a b : Bool) → (a && is_none o && b) ≡ true → o ≡ None
none_there None a b e = refl
none_there (Some w) true b e = never e
none_there (Some w) false b e = never e

pub ends_closed : (m : Machine) → IsAccepted m → (log : Log) → IsLegalLog m log → (IsFinishedLog m log) ⊎ (IsStuckLog m log) → maker (journal (reverse log.entries)) ≡ None
ends_closed m acc log h (inl f) = none_there (maker (journal (reverse log.entries))) (have_all_exited m (journal (reverse log.entries))) (is_idle m (journal (reverse log.entries)) (λ s. history s (reverse log.entries)) (numbers (reverse log.entries))) f.finished
ends_closed m acc log h (inr s) = closed_if_idle m (record { parents = acc.parents; links = acc.links; scripts = acc.scripts }) (reverse log.entries) h.legal s.stuck.idle s.stuck.timeless
