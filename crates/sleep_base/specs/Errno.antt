-- The numbers and names of errors (include/uapi/asm-generic/errno-base.h).
use Rattle.std.specs.Prelude.{ℕ, suc, ◌==◌, List, [], ◌∷◌, ℤ, pos, negsuc, if◌then◌else◌, Option, Some, None, bytes_eq, codes, find}
use Rattle.sleep_base.specs.declared.errno.Errno.{Errno}
use Rattle.sleep_base.specs.declared.errno.Errno.TheVariants.{EINTR, EIO, EAGAIN, EACCES, EBUSY, ENODEV, EINVAL}

-- an error's number, and its name as the log spells it (include/uapi/asm-generic/errno-base.h)
abbrev pub row_of : Errno → ℕ × List ℕ
row_of EINTR = (4, codes "EINTR")
row_of EIO = (5, codes "EIO")
row_of EAGAIN = (11, codes "EAGAIN")
row_of EACCES = (13, codes "EACCES")
row_of EBUSY = (16, codes "EBUSY")
row_of ENODEV = (19, codes "ENODEV")
row_of EINVAL = (22, codes "EINVAL")

-- all errors
abbrev pub errors : List Errno
errors = EINTR ∷ EIO ∷ EAGAIN ∷ EACCES ∷ EBUSY ∷ ENODEV ∷ EINVAL ∷ []

-- the number that Linux gives an error
abbrev pub number_of : Errno → ℕ
number_of e = (row_of e).0

-- its name
abbrev pub name_of : Errno → List ℕ
name_of e = (row_of e).1

-- the error of that name
abbrev pub error_named : List ℕ → Option Errno
error_named w = find (λ e. bytes_eq w (name_of e)) errors

-- the error with that number (include/uapi/asm-generic/errno-base.h)
abbrev pub errno_with : ℕ → List Errno → Option Errno
errno_with n [] = None
errno_with n (r ∷ rest) = if number_of r == n then Some r else errno_with n rest

-- the error that a callback's number means: one below 0 (include/uapi/asm-generic/errno-base.h)
abbrev pub error_of_number : ℤ → Option Errno
error_of_number (pos n) = None
error_of_number (negsuc n) = errno_with (suc n) errors
