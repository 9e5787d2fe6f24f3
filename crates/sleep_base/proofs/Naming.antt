-- The error of a name.
use Rattle.std.proofs.Common.{◌≡◌, ◌≢◌, ◌∙◌, ℕ, List, Option, Some, None, IfNone, refl, ap}
use Rattle.sleep_base.specs.declared.errno.Errno.{Errno}
use Rattle.sleep_base.specs.declared.errno.Errno.TheVariants.{EINTR, EIO, EAGAIN, EACCES, EBUSY, ENODEV, EINVAL}
use Rattle.sleep_base.specs.Errno.{error_named, name_of}

-- an error has its name
read_back : (e : Errno) → error_named (name_of e) ≡ Some e
read_back EINTR = refl
read_back EIO = refl
read_back EAGAIN = refl
read_back EACCES = refl
read_back EBUSY = refl
read_back ENODEV = refl
read_back EINVAL = refl

-- if no error has that name, the search finds none
pub none_named : (w : List ℕ) (r : Option Errno) → r ≡ error_named w → IfNone r ((e : Errno) → w ≢ name_of e)
none_named w None e = λ x h. absurd (let f : None ≡ Some x = e ∙ (ap error_named h ∙ read_back x) in cc)
none_named w (Some q) e = tt
