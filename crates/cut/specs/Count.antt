-- RULES.md 3.4: the number of bursts of a transfer, from pages and words by division.
use Rattle.std.specs.Prelude.{ℕ, zero, suc, ◌+◌, ◌-◌, ◌*◌, ◌/◌, eqb, ltb}
use Rattle.kit.specs.Choice.{when}
use Rattle.cut.specs.Cut.{page}

-- the aligned words that the bytes from x up to, not including, y touch; there is one at least: x < y
abbrev pub words : ℕ → ℕ → ℕ → ℕ
words w x y = (y - 1) / w - x / w + 1

-- the bursts that they take if they are bytes of one page: l words a burst, rounded up
unfoldable pub bursts_in_page : ℕ → ℕ → ℕ → ℕ → ℕ
bursts_in_page w l x y = (words w x y + l - 1) / l

-- those of n whole pages, from page p on
unfoldable pub bursts_in_pages : ℕ → ℕ → ℕ → ℕ → ℕ
bursts_in_pages w l zero p = 0
bursts_in_pages w l (suc n) p = bursts_in_page w l (p * page) ((p + 1) * page) + bursts_in_pages w l n (p + 1)

-- those of a transfer from a up to e: of its first page, of the whole pages between, and of its last page
unfoldable pub count_of : ℕ → ℕ → ℕ → ℕ → ℕ
count_of w l a e =
    let first = a / page in
    let last = (e - 1) / page in
    when (ltb a e)
    (when (eqb first last) (bursts_in_page w l a e)
    (bursts_in_page w l a ((first + 1) * page) + bursts_in_pages w l (last - first - 1) (first + 1) + bursts_in_page w l (last * page) e))
    0
