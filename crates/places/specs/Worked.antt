-- Groups whose place and window were worked out by hand, in a memory of 64 bytes: the cases of RULES.md 4 at their edges.
use Rattle.std.specs.Prelude.{◌≡◌, true, false, List, [], ◌∷◌, ℕ, replicate, Some, None}
use Rattle.memory.specs.declared.window.Window.{Window}
use Rattle.memory.specs.declared.verdict.Verdict.{Verdict}
use Rattle.memory.specs.declared.verdict.Verdict.TheVariants.{Slave, Decode}
use Rattle.sides.specs.Sides.{place_of}
use Rattle.places.specs.Places.{lowest_of, fault_of}
use Rattle.places.specs.Locate.{Location, told_alone, location_of, located_of}

abbrev pub window : ℕ → ℕ → Window
window start length = record { start = start; length = length }

abbrev pub answered : Verdict → ℕ → ℕ → Location
answered v place number = record { answer = 0; verdict = v; place = place; window = number }

-- the window that is declared first starts higher
abbrev pub crossed : List Window
crossed = window 8 8 ∷ window 4 8 ∷ []

pub record Worked : Type 0 where
  -- no byte is sick or past the end: OKAY, up to the last byte of memory, and of no bytes
  pub fits : location_of 64 crossed 16 48 ≡ told_alone 0
  pub empty : location_of 64 crossed 8 0 ≡ told_alone 0
  -- byte 4 lies in window 1 alone; byte 8 in both, and window 0 is the first
  pub lowest-byte : location_of 64 crossed 0 64 ≡ answered Slave 4 1
  pub first-window : location_of 64 crossed 8 4 ≡ answered Slave 8 0
  -- a window that starts before the group; one that runs past the end; an empty one, which has its number and no byte
  pub started-before : location_of 64 crossed 6 2 ≡ answered Slave 6 1
  pub past_the_end : location_of 64 (window 62 100 ∷ []) 60 4 ≡ answered Slave 62 0
  pub empty-window : location_of 64 (window 10 0 ∷ window 12 1 ∷ []) 8 8 ≡ answered Slave 12 1
  -- a decode error is told before a lower slave error; its place is the memory's end, or the start of a group past that
  pub decode-first : location_of 64 crossed 0 65 ≡ answered Decode 64 0
  pub all_past : location_of 64 crossed 70 2 ≡ answered Decode 70 0
  -- the 4 bytes from byte 2 on of a side that is fixed at 8 with a width of 4: 10, 11, 8, 9. The lowest, not the first, is told
  pub wrapped : lowest_of 64 (window 11 1 ∷ window 9 1 ∷ []) Slave (place_of true 4 8) 2 4 ≡ Some 9
  pub part-of-word : lowest_of 64 (window 8 1 ∷ []) Slave (place_of true 4 8) 2 2 ≡ None
  -- a burst of 8 bytes from 40 to 16: both sides are sick, and the source's byte is told although the destination's is lower
  pub source_first : fault_of 64 (window 17 1 ∷ window 45 1 ∷ []) Slave (place_of false 4 40) (place_of false 4 16) 0 8 ≡ Some 45
  pub destination : fault_of 64 (window 17 1 ∷ []) Slave (place_of false 4 40) (place_of false 4 16) 0 8 ≡ Some 17
  -- both sides past the end; and a sick source beside a destination past the end: the decode error wins, and is the destination's
  pub both-past : fault_of 64 [] Decode (place_of false 4 80) (place_of false 4 60) 0 8 ≡ Some 80
  pub decode-wins : fault_of 64 (window 45 1 ∷ []) Decode (place_of false 4 40) (place_of false 4 60) 0 8 ≡ Some 64
  -- 2 before 6; an empty window counts, an odd last number does not
  pub two-first : located_of 16777217 (replicate 34 0) 0 1 ≡ told_alone 2
  pub six : located_of 64 (replicate 34 0) 0 1 ≡ told_alone 6
  pub odd-last : located_of 64 (replicate 33 0) 63 1 ≡ told_alone 0
