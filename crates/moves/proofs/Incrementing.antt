-- Bursts of a transfer in a row whose sides both increment: how far memory is good, and the words that a burst may touch.
use mathlib.Core.Path.{◌≡◌, refl, sym, ap, ap₂, ◌∙◌}
use Prim.Native.Nat.{ℕ, ◌+◌, ◌-◌, ◌*◌, ◌%◌, ◌≤◌, ◌<◌, min}
use mathlib.Core.Bool.{true, false}
use mathlib.Core.List.{List}
use native.Mathlib.Nat.{sub-zero}
use native.Mathlib.Omega.{arith}
use lib.ListN.{length}
use Rattle.kit.specs.Limits.{most_memory}
use Rattle.kit.specs.Settings.{legal_of}
use Rattle.kit.specs.declared.settings.Settings.{Settings}
use Rattle.kit.proofs.Legal.{legal}
use Rattle.cut.specs.declared.Burst.{Burst}
use Rattle.cut.specs.Cut.{burst_end, bytes_within}
use Rattle.cut.proofs.Reach.{burst-bytes, end-aligned, ends}
use Rattle.memory.specs.declared.window.Window.{Window}
use Rattle.memory.specs.Good.{good_bytes}
use Rattle.memory.specs.Verdict.{worse}
use Rattle.memory.specs.Burst.{longest_burst, copied}
use Rattle.memory.proofs.Groups.{pair-okay-fits}
use Rattle.memory.proofs.GoodBytes.{good-okay}
use Rattle.state.specs.declared.engine.Transfer.{Transfer}
use Rattle.state.specs.State.{transfer_fits}
use Rattle.state.proofs.WellFormed.{transfer-fits}
use Rattle.steps.specs.Step.{reads_at, writes_at, bytes_by, answer_by}
use Rattle.steps.proofs.Bursts.{bytes_fit, answer-incrementing, moved-incrementing}
use Rattle.moves.specs.Moves.{moved_to, good_ahead}
use Rattle.moves.proofs.Gliding.{Gliding, gliding-begin, Turn, gliding-step}

-- within the lesser of two lengths is within each, wherever they start
within_first : (a b k x y : ℕ) → k ≤ b + min x y → a + k ≤ a + b + x
within_first a b k x y h = omega (arith, h)

within-second : (a b k x y : ℕ) → k ≤ b + min x y → a + k ≤ a + b + y
within-second a b k x y h = omega (arith, h)

farther : (a b k : ℕ) → b ≤ k → a + b ≤ a + k
farther a b k h = omega (arith, h)

sum : (a k n x : ℕ) → a + (k + n) ≤ x → a + k + n ≤ x
sum a k n x h = omega (arith, h)

module _ (settings : Settings) (t : Transfer) (windows : List Window) (m₀ : List ℕ) where
  -- some bursts were moved; the words that the next one may touch have `words` bytes left
  pub record Plain (m : List ℕ) (moved words : ℕ) (last : Burst) (steps : ℕ) : Type 0 where
    pub sofar : Gliding settings false false t windows m₀ m moved last steps
    pub touch : moved < t.total → words ≡ settings.width * settings.beats - (t.destination + moved) % settings.width

  pub plain-begin : transfer_fits t ≡ true → {words : ℕ} → (last : Burst) → words ≡ settings.width * settings.beats - writes_at t % settings.width
      → Plain m₀ t.moved words last 0
  plain-begin fits last e = record { sofar = gliding-begin settings false false t windows m₀ fits last; touch = λ _. e }

  module _ (legals : legal_of settings ≡ true) (small : length m₀ ≤ most_memory) where
    -- one burst of n bytes
    pub record PlainTurn (m : List ℕ) (moved n : ℕ) : Type 0 where
      pub turn : Turn settings false false t windows m₀ m moved n
      pub page : n ≤ longest_burst
      pub within : moved + n ≤ t.total
      pub source : t.source + moved + n ≤ length m
      pub destination : t.destination + moved + n ≤ length m

    pub plain_turn : {m : List ℕ} {moved words : ℕ} {last : Burst} {steps : ℕ} → Plain m moved words last steps → moved < t.total
        → {n : ℕ} → n ≡ bytes_within words (t.destination + moved) (t.total - moved) → moved + n ≤ t.moved + good_ahead (length m₀) windows t
        → PlainTurn m moved n
    plain_turn {m} {moved} {words} h less {n} e good =
        let g = h.sofar in
        let w = settings.width in
        let l = settings.beats in
        let to = t.destination + moved in
        let left = t.total - moved in
        let p = bytes_fit settings false (moved_to t moved) legals (g.fits less) in
        let bytes : n ≡ bytes_by settings false (moved_to t moved) = e ∙ ap (λ (k : ℕ). bytes_within k to left) (h.touch less) ∙ burst-bytes w l to left in
        let some : 0 < n = omega (arith, bytes, p.some) in
        let reads = good_bytes (length m₀) windows (reads_at t) in
        let writes = good_bytes (length m₀) windows (writes_at t) in
        let first = good-okay (length m₀) windows (reads_at t) (t.source + moved) n (farther t.source t.moved moved g.from)
        (sum t.source moved n (reads_at t + reads) (within_first t.source t.moved (moved + n) reads writes good)) some in
        let second = good-okay (length m₀) windows (writes_at t) (t.destination + moved) n (farther t.destination t.moved moved g.from)
        (sum t.destination moved n (writes_at t + writes) (within-second t.destination t.moved (moved + n) reads writes good)) some in
        let okay = ap₂ worse first second in
        let f = pair-okay-fits (length m₀) windows (t.source + moved) (t.destination + moved) n (sym okay) some in
        record {
          turn = record {
            bytes = bytes;
            okay = okay ∙ sym (answer-incrementing settings (moved_to t moved) (length m₀) windows n)
                ∙ ap (λ (k : ℕ). answer_by settings false false (moved_to t moved) k windows n) (sym g.size);
          };
          page = omega (arith, bytes, p.page);
          within = omega (arith, bytes, p.within);
          source = omega (arith, f.0, g.size);
          destination = omega (arith, f.1, g.size);
        }

    -- a word starts where a burst ends that is not the last
    next-words : (moved n : ℕ) → transfer_fits (moved_to t moved) ≡ true → n ≡ bytes_by settings false (moved_to t moved) → moved + n < t.total
        → settings.width * settings.beats ≡ settings.width * settings.beats - (t.destination + (moved + n)) % settings.width
    next-words moved n fits e short =
        let w = settings.width in
        let l = settings.beats in
        let g = legal w l legals in
        let to = t.destination + moved in
        let end = to + (t.total - moved) in
        let less = (transfer-fits (moved_to t moved) fits).moved-less in
        let p = ends w l g.width_positive g.beats-positive to end (omega (arith, less)) in
        let stop : t.destination + (moved + n) ≡ burst_end w l to end = omega (arith, e, p.past) in
        let word : (t.destination + (moved + n)) % w ≡ 0 =
        ap (λ (x : ℕ). x % w) stop ∙ end-aligned w l g.width_positive g.width-pages to end (omega (arith, stop, short)) in
        sym (ap (λ (x : ℕ). w * l - x) word ∙ sub-zero (w * l))

    pub plain_step : {m : List ℕ} {moved words : ℕ} {last : Burst} {steps : ℕ} → Plain m moved words last steps → (less : moved < t.total)
        → {n : ℕ} → PlainTurn m moved n → {full : ℕ} → full ≡ settings.width * settings.beats → {after : List ℕ} → after ≡ copied m (t.source + moved) (t.destination + moved) n
        → Plain after (moved + n) full (record { start = t.destination + moved; bytes = n }) (steps + 1)
    plain_step {m} {moved} h less {n} u f copy = record {
      sofar = gliding-step settings false false t windows m₀ legals small h.sofar less u.turn refl
          (copy ∙ sym (moved-incrementing settings (moved_to t moved) m n u.source));
      touch = λ short. f ∙ next-words moved n (h.sofar.fits less) u.turn.bytes short;
    }
