-- What the definitions of this crate have to imply: proved in proofs/Claims.antt.
use Rattle.std.specs.Prelude.{ℕ, ◌-◌, ◌*◌, ◌%◌, ◌≤◌, ◌<◌, min, ◌≡◌, length}
use Rattle.cut.specs.Cut.{page, cut, bytes_within, burst_bytes}
use Rattle.cut.specs.Count.{bursts_in_page, bursts_in_pages, count_of}
use Rattle.cut.specs.Legal.{WellCut}

pub record Claims : Type 0 where
  -- for every width and number of beats above 0 the cut is legal, tiles its bytes, and no legal list that covers them is shorter
  pub well-cut : (w l : ℕ) → 0 < w → 0 < l → (a e : ℕ) → a ≤ e → WellCut w l a e (cut w l a e)
  -- a burst's bytes are the least of: what is left of the page, of the words that a burst may touch, and of the transfer
  pub lengths : (w l a n : ℕ) → bytes_within (w * l - a % w) a n ≡ burst_bytes w l a n
  -- the number of bursts follows from pages and words, for every width and number of beats above 0
  pub counted : (w l : ℕ) → 0 < w → 0 < l → (a e : ℕ) → length (cut w l a e) ≡ count_of w l a e
  -- and if a page has whole words, as with every legal width, all whole pages take the same number: one product for all of them
  pub whole-pages : (w l : ℕ) → 0 < w → page % w ≡ 0 → (n p : ℕ) → bursts_in_pages w l n p ≡ n * bursts_in_page w l 0 page

-- two results that one contract allows are equal
pub record Unique : Type 0 where
  pub least : (a b r s : ℕ) → r ≡ min a b → s ≡ min a b → r ≡ s
  pub span : (w l r s : ℕ) → r ≡ w * l → s ≡ w * l → r ≡ s
  pub words_left : (w l a r s : ℕ) → r ≡ w * l - a % w → s ≡ w * l - a % w → r ≡ s
  pub bytes-within : (words a n r s : ℕ) → r ≡ bytes_within words a n → s ≡ bytes_within words a n → r ≡ s
  pub burst-bytes : (w l a n r s : ℕ) → r ≡ burst_bytes w l a n → s ≡ burst_bytes w l a n → r ≡ s
