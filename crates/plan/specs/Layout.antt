-- How the code lays a plan's bursts: all of one length, but for the first and for the last of each stretch. What is promised goes
-- by `cut` alone.
use Rattle.std.specs.Prelude.{ℕ, zero, suc, ◌+◌, ◌*◌, ◌/◌, ◌%◌, min, List, [], ◌∷◌, ◌++◌, eqb}
use Rattle.kit.specs.Choice.{when}
use Rattle.cut.specs.declared.Burst.{Burst}
use Rattle.cut.specs.Cut.{page}

-- how far apart the bursts of a stretch start
abbrev pub stride_of : ℕ → ℕ → ℕ
stride_of w l = min (w * l) page

-- n bursts of s bytes each, one after the other from a on
abbrev pub even_of : ℕ → ℕ → ℕ → List Burst
even_of s zero a = []
even_of s (suc n) a = record { start = a; bytes = s } ∷ even_of s n (a + s)

-- n bytes from a on in bursts of s bytes; what is left of them is the last
abbrev pub laid_of : ℕ → ℕ → ℕ → List Burst
laid_of s a n = even_of s (n / s) a ++ when (eqb (n % s) 0) [] (record { start = a + s * (n / s); bytes = n % s } ∷ [])
