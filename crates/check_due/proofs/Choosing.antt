-- What is due for any event word and script position is due at the present ones.
use Rattle.std.proofs.Common.{◌≡◌, Bool, IfOk, Ok, Err, Result}
use Rattle.sleep_model.specs.declared.progress.Due.{Due}
use Rattle.sleep_model.specs.declared.progress.ScriptPosition.{ScriptPosition}
use Rattle.sleep_model.specs.declared.word.EventNow.{EventNow}

pub ok_at : {E : Type 0} (r : Result Due E) (f : EventNow → Due) (n : EventNow) → IfOk r (λ (d : Due). (now : EventNow) → d ≡ f now) → IfOk r (λ (d : Due). d ≡ f n)
ok_at (Ok d) f n h = h n
ok_at (Err e) f n h = tt

pub ok_for : {E : Type 0} (r : Result Due E) (f : EventNow → ScriptPosition → Bool → Due) (n : EventNow) (s : ScriptPosition) (a : Bool)
    → IfOk r (λ (d : Due). (now : EventNow) (position : ScriptPosition) (asked : Bool) → d ≡ f now position asked) → IfOk r (λ (d : Due). d ≡ f n s a)
ok_for (Ok d) f n s a h = h n s a
ok_for (Err e) f n s a h = tt
