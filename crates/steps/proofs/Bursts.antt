-- The burst that a move takes: it has a byte at least, is no longer than a page, and does not pass the transfer's end; and
-- where both sides increment it is the copy of one group of bytes to another.
use mathlib.Core.Path.{◌≡◌, ap, ap₂, ◌∙◌}
use Prim.Native.Nat.{ℕ, ◌+◌, ◌-◌, ◌*◌, ◌/◌, ◌≤◌, ◌<◌, min}
use mathlib.Core.Bool.{Bool, true, false}
use mathlib.Core.List.{List}
use lib.ListN.{length}
use native.Mathlib.Nat.{mul-pos, mul-le-mul}
use native.Mathlib.Omega.{arith}
use Rattle.kit.specs.Settings.{legal_of}
use Rattle.kit.specs.declared.settings.Settings.{Settings}
use Rattle.kit.proofs.Legal.{legal}
use Rattle.cut.specs.Cut.{page, reach}
use Rattle.cut.proofs.Reach.{ends}
use Rattle.memory.specs.declared.window.Window.{Window}
use Rattle.memory.specs.declared.verdict.Verdict.{Verdict}
use Rattle.memory.specs.declared.verdict.Verdict.TheVariants.{Okay}
use Rattle.memory.specs.Verdict.{worse, pair_of}
use Rattle.memory.specs.Burst.{longest_burst, copied}
use Rattle.memory.proofs.Verdicts.{worse-okay}
use Rattle.sides.specs.Sides.{Inside, side_answer}
use Rattle.sides.proofs.Claims.{claims}
use Rattle.state.specs.declared.engine.Engine.{Engine}
use Rattle.state.specs.declared.engine.Transfer.{Transfer}
use Rattle.state.specs.State.{transfer_fits}
use Rattle.state.proofs.WellFormed.{transfer-fits}
use Rattle.steps.specs.Step.{reads_at, writes_at, read_place, write_place, most_fixed_beats, bytes_by, answer_by, moved_by, next_bytes, burst_answer, move_burst_by, move_burst_of}

-- ---- its length

reach_page : (w l a : ℕ) → reach w l a ≤ (a / page + 1) * page
unfolding reach
reach_page w l a = omega arith

-- n bytes are some, no more than a page, and not past the transfer's end
pub record BurstFits (t : Transfer) (n : ℕ) : Type 0 where
  pub some : 0 < n
  pub page : n ≤ longest_burst
  pub within : t.moved + n ≤ t.total

pub bytes_fit : (x : Settings) (writes : Bool) (t : Transfer) → legal_of x ≡ true → transfer_fits t ≡ true → BurstFits t (bytes_by x writes t)
bytes_fit x true t e f =
    let g = legal x.width x.beats e in
    let h = transfer-fits t f in
    let some = mul-pos {n = min x.beats most_fixed_beats} g.width_positive (omega (arith, g.beats-positive)) in
    let small = mul-le-mul {m₁ = min x.beats most_fixed_beats} {m₂ = most_fixed_beats} g.width_small (omega arith) in
    record { some = omega (arith, h.moved-less, some); page = omega (arith, small); within = omega (arith, h.moved-less) }
bytes_fit x false t e f =
    let g = legal x.width x.beats e in
    let h = transfer-fits t f in
    let p = ends x.width x.beats g.width_positive g.beats-positive (writes_at t) (writes_at t + (t.total - t.moved)) (omega arith) in
    let near = reach_page x.width x.beats (writes_at t) in
    record { some = omega arith; page = omega arith; within = omega arith }

pub burst-fits : (s : Engine) (t : Transfer) → legal_of s.settings ≡ true → transfer_fits t ≡ true → BurstFits t (next_bytes s t)
burst-fits s t e f = bytes_fit s.settings s.control.keyholewrite t e f

-- a move by its burst's bytes n and what they answered
pub move-judged : (s : Engine) (t : Transfer) (m : List ℕ) (windows : List Window) {n : ℕ} {v : Verdict} → n ≡ next_bytes s t
    → v ≡ burst_answer s t (length m) windows n → move_burst_by s t m windows n v ≡ move_burst_of s t m windows
move-judged s t m windows {n} e f =
    ap (move_burst_by s t m windows n) f ∙ ap (λ (k : ℕ). move_burst_by s t m windows k (burst_answer s t (length m) windows k)) e

-- ---- its bytes

module _ (x : Settings) (reads writes : Bool) (t : Transfer) (size : ℕ) (windows : List Window) (n : ℕ) where
  -- all of them lie in the memory
  pub record Fit : Type 0 where
    pub source : Inside size (read_place x reads t) t.moved n
    pub destination : Inside size (write_place x writes t) t.moved n

  -- as they do if they answer OKAY
  pub answer-fit : answer_by x reads writes t size windows n ≡ Okay → Fit
  answer-fit e =
      let each = worse-okay (side_answer size windows (read_place x reads t) t.moved n) (side_answer size windows (write_place x writes t) t.moved n) e in
      record {
        source = claims.okay-inside size windows (read_place x reads t) t.moved n each.0;
        destination = claims.okay-inside size windows (write_place x writes t) t.moved n each.1;
      }

  -- and so do both starts
  pub answer-low : answer_by x reads writes t size windows n ≡ Okay → 0 < n → (t.source < size) × (t.destination < size)
  answer-low e some = let f = answer-fit e in (omega (arith, f.source 0 some), omega (arith, f.destination 0 some))

-- ---- where both sides increment

pub answer-incrementing : (x : Settings) (t : Transfer) (size : ℕ) (windows : List Window) (n : ℕ)
    → answer_by x false false t size windows n ≡ pair_of size windows (reads_at t) (writes_at t) n
answer-incrementing x t size windows n =
    ap₂ worse (claims.incrementing-answer size windows x.width t.source t.moved n) (claims.incrementing-answer size windows x.width t.destination t.moved n)

pub moved-incrementing : (x : Settings) (t : Transfer) (m : List ℕ) (n : ℕ) → reads_at t + n ≤ length m
    → moved_by x false false t m n ≡ copied m (reads_at t) (writes_at t) n
moved-incrementing x t m n fits = claims.incrementing-moved m x.width t.source t.destination t.moved n fits
