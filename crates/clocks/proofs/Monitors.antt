-- What is stored reads back as the same monitor.
use mathlib.Core.Path.{◌≡◌, refl}
use Prim.Native.Nat.{ℕ, ◌+◌, ◌/◌, ◌%◌, ◌≤◌}
use mathlib.Core.Bool.{Bool, true, false}
use native.Mathlib.Omega.{arith}
use lib.Dec.{eqb}
use Rattle.monitor.specs.declared.monitor.Monitor.{Monitor}
use Rattle.words.specs.EngineWords.{word}
use Rattle.clocks.specs.MonitorWords.{bit_if, low_of, high_of, flags_from, monitor_words_of, monitor_from}

flags-back : (flags : ℕ) → flags_from (low_of flags) (high_of flags) ≡ flags
flags-back flags = omega arith

-- three truths as a number of three bits
packed : Bool → Bool → Bool → ℕ
packed a b c = bit_if a 1 + bit_if b 2 + bit_if c 4

unpacked : (a b c : Bool)
    → (eqb (packed a b c % 2) 1 ≡ a) × (eqb (packed a b c / 2 % 2) 1 ≡ b) × (eqb (packed a b c / 4 % 2) 1 ≡ c) × (packed a b c ≤ 7)
unfolding packed
unpacked true true true = (refl, refl, refl, omega arith)
unpacked true true false = (refl, refl, refl, omega arith)
unpacked true false true = (refl, refl, refl, omega arith)
unpacked true false false = (refl, refl, refl, omega arith)
unpacked false true true = (refl, refl, refl, omega arith)
unpacked false true false = (refl, refl, refl, omega arith)
unpacked false false true = (refl, refl, refl, omega arith)
unpacked false false false = (refl, refl, refl, omega arith)

-- what is stored reads back as the same monitor, and is a monitor's words
pub monitor-back : (m : Monitor) → (monitor_from (monitor_words_of m) ≡ m) × (word (monitor_words_of m) 4 ≤ 7)
unfolding packed
monitor-back m =
    let b = m.before in
    let bits = unpacked b.aresetn b.valid b.ready in (
      λ i. record {
        flags = flags-back m.flags i;
        snapshot = flags-back m.snapshot i;
        before = record {
          aresetn = bits.0 i;
          valid = bits.1 i;
          ready = bits.2 i;
          address = b.address;
          length = b.length;
          size = b.size;
          burst = b.burst;
          cache = b.cache;
          prot = b.prot;
          qos = b.qos;
          region = b.region;
          id = b.id;
        };
      },
      bits.3,
    )
