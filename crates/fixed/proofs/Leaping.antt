-- Pieces in a row to a fixed destination from which no byte is read: each overwrites the one before, so all of them leave what the last one does.
use mathlib.Core.Path.{◌≡◌, refl, sym, ap, subst, subst₂, ◌∙◌}
use Prim.Native.Nat.{ℕ, zero, suc, ◌+◌, ◌-◌, ◌*◌, ◌≤◌, ◌<◌, min}
use mathlib.Core.Bool.{Bool, true, false}
use mathlib.Core.List.{List}
use native.Mathlib.Nat.{suc-mul, zero-mul, mul-le-mul_left}
use native.Mathlib.Omega.{arith}
use lib.ListN.{length}
use Rattle.kit.specs.Limits.{most_memory}
use Rattle.kit.specs.Settings.{legal_of}
use Rattle.kit.specs.declared.settings.Settings.{Settings}
use Rattle.kit.proofs.Choice.{never}
use Rattle.kit.proofs.Legal.{legal}
use Rattle.cut.specs.declared.Burst.{Burst}
use Rattle.memory.specs.declared.window.Window.{Window}
use Rattle.sides.specs.Sides.{side_bytes, Apart}
use Rattle.sides.proofs.Overwritten.{moved-over}
use Rattle.sides.proofs.Ranges.{within, disjoint}
use Rattle.state.specs.declared.engine.Transfer.{Transfer}
use Rattle.state.specs.State.{transfer_fits}
use Rattle.state.proofs.WellFormed.{transfer-fits}
use Rattle.steps.specs.Step.{most_fixed_beats, read_place, write_place, bytes_by, moved_by}
use Rattle.steps.proofs.Bursts.{bytes_fit, Fit, answer-fit}
use Rattle.moves.specs.Moves.{moved_to}
use Rattle.moves.proofs.Gliding.{Gliding, gliding-begin, gliding-step}
use Rattle.fixed.specs.Fixed.{good_sides, PiecesAhead}
use Rattle.fixed.proofs.GoodSides.{sides-okay, good_turn}

module _ (settings : Settings) (reads : Bool) (t : Transfer) (windows : List Window) (m₀ : List ℕ) (legals : legal_of settings ≡ true)
    (small : length m₀ ≤ most_memory) (fits : transfer_fits t ≡ true)
    (apart : Apart t.source (side_bytes reads settings.width t.total) t.destination settings.width)
    (n : ℕ) (bytes : n ≡ bytes_by settings true t) where
  -- k pieces on
  abbrev at : ℕ → ℕ
  at k = t.moved + k * n

  abbrev copy : ℕ → List ℕ → List ℕ
  copy k m = moved_by settings reads true (moved_to t (at k)) m n

  abbrev last : Burst
  last = record { start = t.destination; bytes = n }

  some : 0 < n
  some = omega (arith, bytes, (bytes_fit settings true t legals fits).some)

  -- all but a transfer's only piece are whole
  next : (k : ℕ) → at (suc k) ≤ t.total → n ≡ bytes_by settings true (moved_to t (at k))
  next zero h = omega (arith, bytes, zero-mul n)
  next (suc k) h = omega (arith, bytes, h, some, suc-mul k n, suc-mul (suc k) n)

  long : (k : ℕ) → at (suc (suc k)) ≤ t.total → settings.width ≤ n
  long k h =
      let g = legal settings.width settings.beats legals in
      let word = mul-le-mul_left {m = 1} {n = min settings.beats most_fixed_beats} settings.width (omega (arith, g.beats-positive)) in
      omega (arith, bytes, h, some, word, suc-mul k n, suc-mul (suc k) n)

  overwrites : (k : ℕ) → at (suc (suc k)) ≤ t.total → copy (suc k) (copy k m₀) ≡ copy (suc k) m₀
  overwrites k h =
      let w = settings.width in
      let word = (legal w settings.beats legals).width_positive in
      moved-over w t.destination word m₀ (read_place settings reads t) (at k) n (at (suc k)) n (long k h)
      (λ i j l o e. disjoint t.source (side_bytes reads w t.total) t.destination w (read_place settings reads t (at (suc k) + i)) (write_place settings true t (at k + j)) apart
      (within w word reads t.source t.total (at (suc k) + i) (omega (arith, l, h, suc-mul (suc k) n)))
      (within w word true t.destination t.total (at k + j) (omega (arith, o, h, suc-mul k n, suc-mul (suc k) n)))
      (sym e))

  -- k + 1 pieces that are whole and good
  abbrev Good : ℕ → Type 0
  Good k = (at (suc k) ≤ t.total) × (suc k * n ≤ good_sides (length m₀) windows settings.width reads true t)

  step : (k : ℕ) (m : List ℕ) (before : Burst) → Gliding settings reads true t windows m₀ m (at k) before k → Good k
      → copy k m ≡ copy k m₀ → Gliding settings reads true t windows m₀ (copy k m₀) (at (suc k)) last (suc k)
  step k m before g h e =
      let turn = good_turn settings reads true t windows m₀ legals g some (next k h.0) (omega (arith, h.1, suc-mul k n)) in
      let there : at k + n ≡ at (suc k) = omega (arith, suc-mul k n) in
      let counted : k + 1 ≡ suc k = omega arith in
      subst₂ (λ (x y : ℕ). Gliding settings reads true t windows m₀ (copy k m₀) x last y) there counted
      (gliding-step settings reads true t windows m₀ legals small g (omega (arith, h.0, some, suc-mul k n)) turn refl (sym e))

  -- leave what the last one does
  leaps : (k : ℕ) → Good k → Gliding settings reads true t windows m₀ (copy k m₀) (at (suc k)) last (suc k)
  leaps zero h =
      let here : t.moved ≡ at 0 = omega (arith, zero-mul n) in
      step 0 m₀ last (subst (λ (x : ℕ). Gliding settings reads true t windows m₀ m₀ x last 0) here (gliding-begin settings reads true t windows m₀ fits last)) h refl
  leaps (suc k) h =
      let less = suc-mul (suc k) n in
      step (suc k) (copy k m₀) last (leaps k (omega (arith, h.0), omega (arith, h.1))) h (overwrites k h.0)

-- some pieces, of n bytes each and up to byte `moved`, are the last one alone
pub record Leap (settings : Settings) (reads writes : Bool) (t : Transfer) (windows : List Window) (m₀ : List ℕ) (n moved steps : ℕ) : Type 0 where
  pub enough : n ≤ moved
  pub within : moved ≤ t.total
  pub inside : Fit settings reads writes (moved_to t (moved - n)) (length m₀) windows n
  pub glides : {after : List ℕ} → after ≡ moved_by settings reads writes (moved_to t (moved - n)) m₀ n
      → Gliding settings reads writes t windows m₀ after moved (record { start = t.destination; bytes = n }) steps

pub leap : (settings : Settings) (reads writes : Bool) (t : Transfer) (windows : List Window) (m₀ : List ℕ) → legal_of settings ≡ true
    → length m₀ ≤ most_memory → transfer_fits t ≡ true → (most steps n : ℕ) → 0 < steps
    → PiecesAhead settings reads writes t (length m₀) windows most steps → n ≡ bytes_by settings writes t
    → Leap settings reads writes t windows m₀ n (t.moved + steps * n) steps
leap settings reads false t windows m₀ legals small fits most steps n h p e = absurd (never p.fixed)
leap settings reads true t windows m₀ legals small fits most zero n h p e = absurd (omega (arith, h))
leap settings reads true t windows m₀ legals small fits most (suc k) n h p e =
    let some = (bytes_fit settings true t legals fits).some in
    let less = (transfer-fits t fits).moved-less in
    let next = suc-mul k n in
    let same : suc k * n ≡ suc k * bytes_by settings true t = ap (λ (x : ℕ). suc k * x) e in
    let whole : t.moved + suc k * n ≤ t.total = omega (arith, p.whole, same, less) in
    let good : suc k * n ≤ good_sides (length m₀) windows settings.width reads true t = omega (arith, p.good, same) in
    let from : t.moved + k * n ≡ t.moved + suc k * n - n = omega arith in
    record {
      enough = omega arith;
      within = whole;
      inside = answer-fit settings reads true (moved_to t (t.moved + suc k * n - n)) (length m₀) windows n
          (sym (sides-okay settings reads true t windows (length m₀) legals (omega arith) (omega (arith, e)) (omega arith)));
      glides = λ {after} copy. subst (λ (m : List ℕ). Gliding settings reads true t windows m₀ m (t.moved + suc k * n) (record { start = t.destination; bytes = n }) (suc k))
          (ap (λ (x : ℕ). moved_by settings reads true (moved_to t x) m₀ n) from ∙ sym copy)
          (leaps settings reads t windows m₀ legals small fits p.apart n e k (whole, good));
    }
