-- What a read answers, also as one number that tells its failure from its bytes by a sign.
use Rattle.std.specs.Prelude.{ℕ, ◌≡◌, ◌≤◌, Bool, true, false, ℤ, pos, negsuc, Result, Ok, Err}
use Rattle.std.specs.declared.io.ErrorKind.{ErrorKind}
use Rattle.std.specs.declared.io.ErrorKind.TheVariants.{Interrupted}

-- what a read that is lent n bytes may answer: how many bytes it moved, at most n, or -1 if it failed
abbrev pub Moved : ℕ → ℤ → Type 0
Moved n (pos k) = k ≤ n
Moved n (negsuc k) = k ≡ 0

-- that number, of what a read gave
abbrev pub moved_of : Result ℕ ErrorKind → ℤ
moved_of (Ok read) = pos read
moved_of (Err kind) = negsuc 0

-- the read failed, and was interrupted
abbrev pub interrupted_of : Result ℕ ErrorKind → Bool
interrupted_of (Err Interrupted) = true
interrupted_of _ = false
