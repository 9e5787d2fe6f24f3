-- An entry that is none of a group's says what the groups after it say.
use Rattle.std.proofs.Common.{◌≡◌, ◌≢◌, ℕ, Bool, Option, refl}
use Rattle.sleep_base.specs.declared.errno.Errno.{Errno}
use Rattle.sleep_model.specs.declared.machine.Machine.{Machine}
use Rattle.sleep_model.specs.declared.entry.Kind.{Kind}
use Rattle.sleep_model.specs.declared.entry.Kind.TheVariants as kind
use Rattle.sleep_model.specs.declared.entry.State.{State}
use Rattle.sleep_model.specs.Text.{body, step_body, auto_body}

pub no_write : (m : Machine) (k : Kind) → k ≢ kind.Frozen → k ≢ kind.ReadWait → ((a : ℕ) → k ≢ kind.Read a) → k ≢ kind.ReadIntr → ((a : ℕ) → k ≢ kind.SaveWait a) → ((a : ℕ) → k ≢ kind.Saved a) → ((a : ℕ) (b : Errno) → k ≢ kind.SaveErr a b) → k ≢ kind.StateWait → ((a : Errno) → k ≢ kind.StateErr a) → k ≢ kind.StateUnsaved → k ≢ kind.AutoBad → ((a : State) → k ≢ kind.AutoSet a) → k ≢ kind.AutoDone → step_body m k ≡ body m k
no_write m kind.Frozen is _ _ _ _ _ _ _ _ _ _ _ _ = absurd (is refl)
no_write m kind.ReadWait _ is _ _ _ _ _ _ _ _ _ _ _ = absurd (is refl)
no_write m (kind.Read a) _ _ is _ _ _ _ _ _ _ _ _ _ = absurd (is a refl)
no_write m kind.ReadIntr _ _ _ is _ _ _ _ _ _ _ _ _ = absurd (is refl)
no_write m (kind.SaveWait a) _ _ _ _ is _ _ _ _ _ _ _ _ = absurd (is a refl)
no_write m (kind.Saved a) _ _ _ _ _ is _ _ _ _ _ _ _ = absurd (is a refl)
no_write m (kind.SaveErr a b) _ _ _ _ _ _ is _ _ _ _ _ _ = absurd (is a b refl)
no_write m kind.StateWait _ _ _ _ _ _ _ is _ _ _ _ _ = absurd (is refl)
no_write m (kind.StateErr a) _ _ _ _ _ _ _ _ is _ _ _ _ = absurd (is a refl)
no_write m kind.StateUnsaved _ _ _ _ _ _ _ _ _ is _ _ _ = absurd (is refl)
no_write m kind.AutoBad _ _ _ _ _ _ _ _ _ _ is _ _ = absurd (is refl)
no_write m (kind.AutoSet a) _ _ _ _ _ _ _ _ _ _ _ is _ = absurd (is a refl)
no_write m kind.AutoDone _ _ _ _ _ _ _ _ _ _ _ _ is = absurd (is refl)
no_write m _ _ _ _ _ _ _ _ _ _ _ _ _ _ = refl

pub no_step : (m : Machine) (k : Kind) → ((a : ℕ) → k ≢ kind.Sleep a) → ((a : ℕ) → k ≢ kind.SleepD a) → k ≢ kind.Slept → k ≢ kind.Pass → ((a : ℕ) → k ≢ kind.Post a) → ((a : ℕ) → k ≢ kind.Got a) → k ≢ kind.Exit → ((a : ℕ) (b : Bool) (c : Option Errno) → k ≢ kind.RuntimeAsk a b c) → ((a : ℕ) (b : ℕ) (c : Option Errno) → k ≢ kind.LinkAdd a b c) → ((a : ℕ) (b : ℕ) (c : Bool) (d : Option Errno) → k ≢ kind.LinkState a b c d) → auto_body m k ≡ step_body m k
no_step m (kind.Sleep a) is _ _ _ _ _ _ _ _ _ = absurd (is a refl)
no_step m (kind.SleepD a) _ is _ _ _ _ _ _ _ _ = absurd (is a refl)
no_step m kind.Slept _ _ is _ _ _ _ _ _ _ = absurd (is refl)
no_step m kind.Pass _ _ _ is _ _ _ _ _ _ = absurd (is refl)
no_step m (kind.Post a) _ _ _ _ is _ _ _ _ _ = absurd (is a refl)
no_step m (kind.Got a) _ _ _ _ _ is _ _ _ _ = absurd (is a refl)
no_step m kind.Exit _ _ _ _ _ _ is _ _ _ = absurd (is refl)
no_step m (kind.RuntimeAsk a b c) _ _ _ _ _ _ _ is _ _ = absurd (is a b c refl)
no_step m (kind.LinkAdd a b c) _ _ _ _ _ _ _ _ is _ = absurd (is a b c refl)
no_step m (kind.LinkState a b c d) _ _ _ _ _ _ _ _ _ is = absurd (is a b c d refl)
no_step m _ _ _ _ _ _ _ _ _ _ _ = refl
