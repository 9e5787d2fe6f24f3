-- A verb that is none of a group's is read as the verbs after that group are.
use Rattle.std.proofs.Common.{◌≡◌, ◌≢◌, ℕ, List, None, refl}
use Rattle.sleep_model.specs.declared.machine.Machine.{Machine}
use Rattle.log_words.specs.declared.verb.Verb.{Verb}
use Rattle.log_words.specs.declared.verb.Verb.TheVariants as verb
use Rattle.log_text.specs.Reading.{kind_by, task_by, auto_by, source_by, attempt_by}

pub no_device : (m : Machine) (v : Verb) (t : List ℕ) → v ≢ verb.Begin → v ≢ verb.End → v ≢ verb.Prepare → v ≢ verb.Complete → v ≢ verb.Schedule → v ≢ verb.Skip → v ≢ verb.Done → task_by m v t ≡ kind_by m v t
no_device m verb.Begin t is _ _ _ _ _ _ = absurd (is refl)
no_device m verb.End t _ is _ _ _ _ _ = absurd (is refl)
no_device m verb.Prepare t _ _ is _ _ _ _ = absurd (is refl)
no_device m verb.Complete t _ _ _ is _ _ _ = absurd (is refl)
no_device m verb.Schedule t _ _ _ _ is _ _ = absurd (is refl)
no_device m verb.Skip t _ _ _ _ _ is _ = absurd (is refl)
no_device m verb.Done t _ _ _ _ _ _ is = absurd (is refl)
no_device m _ t _ _ _ _ _ _ _ = refl

pub no_task : (m : Machine) (v : Verb) (t : List ℕ) → v ≢ verb.Frozen → v ≢ verb.Read → v ≢ verb.Save → v ≢ verb.State → v ≢ verb.Autosleep → v ≢ verb.Sleep → v ≢ verb.SleepD → v ≢ verb.Slept → v ≢ verb.Pass → v ≢ verb.Post → v ≢ verb.Got → v ≢ verb.Exit → v ≢ verb.Runtime → v ≢ verb.Link → v ≢ verb.LinkState → auto_by m v t ≡ task_by m v t
no_task m verb.Frozen t is _ _ _ _ _ _ _ _ _ _ _ _ _ _ = absurd (is refl)
no_task m verb.Read t _ is _ _ _ _ _ _ _ _ _ _ _ _ _ = absurd (is refl)
no_task m verb.Save t _ _ is _ _ _ _ _ _ _ _ _ _ _ _ = absurd (is refl)
no_task m verb.State t _ _ _ is _ _ _ _ _ _ _ _ _ _ _ = absurd (is refl)
no_task m verb.Autosleep t _ _ _ _ is _ _ _ _ _ _ _ _ _ _ = absurd (is refl)
no_task m verb.Sleep t _ _ _ _ _ is _ _ _ _ _ _ _ _ _ = absurd (is refl)
no_task m verb.SleepD t _ _ _ _ _ _ is _ _ _ _ _ _ _ _ = absurd (is refl)
no_task m verb.Slept t _ _ _ _ _ _ _ is _ _ _ _ _ _ _ = absurd (is refl)
no_task m verb.Pass t _ _ _ _ _ _ _ _ is _ _ _ _ _ _ = absurd (is refl)
no_task m verb.Post t _ _ _ _ _ _ _ _ _ is _ _ _ _ _ = absurd (is refl)
no_task m verb.Got t _ _ _ _ _ _ _ _ _ _ is _ _ _ _ = absurd (is refl)
no_task m verb.Exit t _ _ _ _ _ _ _ _ _ _ _ is _ _ _ = absurd (is refl)
no_task m verb.Runtime t _ _ _ _ _ _ _ _ _ _ _ _ is _ _ = absurd (is refl)
no_task m verb.Link t _ _ _ _ _ _ _ _ _ _ _ _ _ is _ = absurd (is refl)
no_task m verb.LinkState t _ _ _ _ _ _ _ _ _ _ _ _ _ _ is = absurd (is refl)
no_task m _ t _ _ _ _ _ _ _ _ _ _ _ _ _ _ _ = refl

pub no_auto : (m : Machine) (v : Verb) (t : List ℕ) → v ≢ verb.Run → v ≢ verb.Saved → v ≢ verb.Unsaved → v ≢ verb.After → v ≢ verb.Again → v ≢ verb.Off → source_by m v t ≡ auto_by m v t
no_auto m verb.Run t is _ _ _ _ _ = absurd (is refl)
no_auto m verb.Saved t _ is _ _ _ _ = absurd (is refl)
no_auto m verb.Unsaved t _ _ is _ _ _ = absurd (is refl)
no_auto m verb.After t _ _ _ is _ _ = absurd (is refl)
no_auto m verb.Again t _ _ _ _ is _ = absurd (is refl)
no_auto m verb.Off t _ _ _ _ _ is = absurd (is refl)
no_auto m _ t _ _ _ _ _ _ = refl

pub no_source : (m : Machine) (v : Verb) (t : List ℕ) → v ≢ verb.Awake → v ≢ verb.Relax → v ≢ verb.Event → v ≢ verb.Expire → v ≢ verb.Start → v ≢ verb.Finish → v ≢ verb.Hard → v ≢ verb.Jump → attempt_by m v t ≡ source_by m v t
no_source m verb.Awake t is _ _ _ _ _ _ _ = absurd (is refl)
no_source m verb.Relax t _ is _ _ _ _ _ _ = absurd (is refl)
no_source m verb.Event t _ _ is _ _ _ _ _ = absurd (is refl)
no_source m verb.Expire t _ _ _ is _ _ _ _ = absurd (is refl)
no_source m verb.Start t _ _ _ _ is _ _ _ = absurd (is refl)
no_source m verb.Finish t _ _ _ _ _ is _ _ = absurd (is refl)
no_source m verb.Hard t _ _ _ _ _ _ is _ = absurd (is refl)
no_source m verb.Jump t _ _ _ _ _ _ _ is = absurd (is refl)
no_source m _ t _ _ _ _ _ _ _ _ = refl

pub no_attempt : (m : Machine) (v : Verb) (t : List ℕ) → v ≢ verb.Attempt → v ≢ verb.Over → v ≢ verb.Notify → v ≢ verb.Freeze → v ≢ verb.Froze → v ≢ verb.Thaw → v ≢ verb.Platform → v ≢ verb.Cpu → v ≢ verb.Irqs → v ≢ verb.Syscore → v ≢ verb.Enter → v ≢ verb.Wake → v ≢ verb.Clear → None ≡ attempt_by m v t
no_attempt m verb.Attempt t is _ _ _ _ _ _ _ _ _ _ _ _ = absurd (is refl)
no_attempt m verb.Over t _ is _ _ _ _ _ _ _ _ _ _ _ = absurd (is refl)
no_attempt m verb.Notify t _ _ is _ _ _ _ _ _ _ _ _ _ = absurd (is refl)
no_attempt m verb.Freeze t _ _ _ is _ _ _ _ _ _ _ _ _ = absurd (is refl)
no_attempt m verb.Froze t _ _ _ _ is _ _ _ _ _ _ _ _ = absurd (is refl)
no_attempt m verb.Thaw t _ _ _ _ _ is _ _ _ _ _ _ _ = absurd (is refl)
no_attempt m verb.Platform t _ _ _ _ _ _ is _ _ _ _ _ _ = absurd (is refl)
no_attempt m verb.Cpu t _ _ _ _ _ _ _ is _ _ _ _ _ = absurd (is refl)
no_attempt m verb.Irqs t _ _ _ _ _ _ _ _ is _ _ _ _ = absurd (is refl)
no_attempt m verb.Syscore t _ _ _ _ _ _ _ _ _ is _ _ _ = absurd (is refl)
no_attempt m verb.Enter t _ _ _ _ _ _ _ _ _ _ is _ _ = absurd (is refl)
no_attempt m verb.Wake t _ _ _ _ _ _ _ _ _ _ _ is _ = absurd (is refl)
no_attempt m verb.Clear t _ _ _ _ _ _ _ _ _ _ _ _ is = absurd (is refl)
no_attempt m _ t _ _ _ _ _ _ _ _ _ _ _ _ _ = refl
