-- RULES.md, "Cutting a transfer": each burst reaches as far as is legal or to the end of the transfer.
use Rattle.std.specs.Prelude.{ℕ, zero, suc, ◌+◌, ◌-◌, ◌*◌, ◌/◌, ◌%◌, min, true, false, List, [], ◌∷◌, ltb}
use Rattle.cut.specs.declared.Burst.{Burst}

abbrev pub page : ℕ
page = 4096

-- as far as a legal burst from a can reach (specs/Legal.antt says why it is the farthest)
unfoldable pub reach : ℕ → ℕ → ℕ → ℕ
reach w l a = min ((a / page + 1) * page) ((a / w + l) * w)

-- where the first burst of a transfer from a up to e ends
unfoldable pub burst_end : ℕ → ℕ → ℕ → ℕ → ℕ
burst_end w l a e = min (reach w l a) e

-- the bytes of the first burst of a transfer that has n bytes to go from a
abbrev pub burst_bytes : ℕ → ℕ → ℕ → ℕ → ℕ
burst_bytes w l a n = burst_end w l a (a + n) - a

-- the least of: what is left of a's page, `words` bytes, and the n bytes to go
abbrev pub bytes_within : ℕ → ℕ → ℕ → ℕ
bytes_within words a n = min (page - a % page) (min words n)

-- the burst from a up to, not including, b
abbrev pub burst : ℕ → ℕ → Burst
burst a b = record { start = a; bytes = b - a }

-- the cut of the bytes from a up to e, in at most k bursts
unfoldable pub cut_within : ℕ → ℕ → ℕ → ℕ → ℕ → List Burst
cut_within zero w l a e = []
cut_within (suc k) w l a e =
    elim (ltb a e) [ true ↦ burst a (burst_end w l a e) ∷ cut_within k w l (burst_end w l a e) e | false ↦ [] ]

-- the cut of the bytes from a up to e; each burst has a byte at least, so e - a bursts are enough
unfoldable pub cut : ℕ → ℕ → ℕ → ℕ → List Burst
cut w l a e = cut_within (e - a) w l a e
