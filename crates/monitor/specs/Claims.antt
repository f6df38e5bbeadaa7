-- What the definitions of this crate have to imply: proved in proofs/Claims.antt.
use Rattle.std.specs.Prelude.{◌≡◌, Result, Bool, true, false, ◌&&◌, List, [], ◌∷◌, ℕ, zero, suc, ◌+◌, ◌^◌, ◌<◌, max, eqb}
use Rattle.kit.specs.Choice.{when}
use Rattle.kit.specs.Settings.{among}
use Rattle.kit.specs.declared.answer.Refusal.{Refusal}
use Rattle.monitor.specs.declared.clock.Clock.{Clock}
use Rattle.monitor.specs.declared.monitor.Monitor.{Monitor}
use Rattle.monitor.specs.declared.monitor.Clocked.{Clocked}
use Rattle.monitor.specs.Clock.{in_range}
use Rattle.monitor.specs.Rules.{bit}
use Rattle.monitor.specs.Flags.{Line, raise}
use Rattle.monitor.specs.Monitor.{fresh_of, flags_of, clock_of, count_of, lowest_of, seen, bus_clock_of}

-- flag n stands in the word, or does not
abbrev pub Up : ℕ → ℕ → Type 0
Up n word = bit n word ≡ 1

abbrev pub Down : ℕ → ℕ → Type 0
Down n word = bit n word ≡ 0

-- the monitor after some clocks
abbrev pub after : Monitor → ℕ → List Clock → Monitor
after m width [] = m
after m width (c ∷ cs) = after (clock_of m width c) width cs

-- no clock among them is in reset
abbrev pub all_out_of_reset : List Clock → Bool
all_out_of_reset [] = true
all_out_of_reset (c ∷ cs) = c.aresetn && all_out_of_reset cs

-- the numbers of RULES.md's flags
abbrev pub flag_numbers : List ℕ
flag_numbers = 37 ∷ 38 ∷ 39 ∷ 41 ∷ 42 ∷ 43 ∷ 44 ∷ 45 ∷ 46 ∷ 47 ∷ 48 ∷ 49 ∷ 50 ∷ 52 ∷ 53 ∷ 54 ∷ 55 ∷ 56 ∷ []

-- 1 where the table has a broken rule for flag n, else 0
abbrev pub struck : ℕ → List Line → ℕ
struck n [] = 0
struck n (line ∷ lines) = max (when (eqb n line.0 && line.1) 1 0) (struck n lines)

-- how many of the flags below n stand
abbrev pub standing : ℕ → ℕ → ℕ
standing zero word = 0
standing (suc n) word = bit n word + standing n word

pub record Claims : Type 0 where
  -- a flag is up after the rules exactly if it was before or its rule is broken
  pub raised : (n flags : ℕ) (lines : List Line) → bit n (raise flags lines) ≡ max (bit n flags) (struck n lines)
  -- a flag once up stays up until a clock in reset
  pub stays : (m : Monitor) (width : ℕ) (cs : List Clock) (n : ℕ) → all_out_of_reset cs ≡ true → Up n m.flags → Up n (after m width cs).flags
  -- a clock in reset clears all flags and the snapshot
  pub clears : (m : Monitor) (width : ℕ) (c : Clock) → c.aresetn ≡ false → ((clock_of m width c).flags ≡ 0) × ((clock_of m width c).snapshot ≡ 0)
  -- the snapshot is the flags after the clock that takes them from none to any, and changes no more until reset
  pub keeps : (m : Monitor) (width : ℕ) (c : Clock) (cs : List Clock) → all_out_of_reset (c ∷ cs) ≡ true → m.flags ≡ 0 → (flags_of m width c ≡ 0 → ⊥)
      → (after m width (c ∷ cs)).snapshot ≡ flags_of m width c
  -- while no flag is up a clock out of reset leaves the snapshot
  pub waits : (m : Monitor) (width : ℕ) (c : Clock) → c.aresetn ≡ true → flags_of m width c ≡ 0 → (clock_of m width c).snapshot ≡ m.snapshot
  -- no other flag is ever up
  pub known : (width : ℕ) (cs : List Clock) (n : ℕ) → among n flag_numbers ≡ false → Down n (after fresh_of width cs).flags
  -- 40 and 51 stay 0
  pub unused : (width : ℕ) (cs : List Clock) → Down 40 (after fresh_of width cs).flags × Down 51 (after fresh_of width cs).flags
  -- the flags fit the word
  pub fits : (width : ℕ) (cs : List Clock) → (after fresh_of width cs).flags < 2 ^ 64
  -- the count is the number of flags that stand
  pub counts : (m : Monitor) → m.flags < 2 ^ 64 → count_of m ≡ standing 64 m.flags
  -- the lowest flag found is up, and none below it is
  pub lowest-up : (m : Monitor) → m.flags < 2 ^ 64 → (m.flags ≡ 0 → ⊥) → Up (lowest_of m) m.flags
  pub lowest-first : (m : Monitor) (n : ℕ) → n < lowest_of m → Down n m.flags
  -- it is 0 exactly where there is none
  pub lowest-none : (m : Monitor) → m.flags ≡ 0 → lowest_of m ≡ 0
  pub lowest-some : (width : ℕ) (cs : List Clock) → lowest_of (after fresh_of width cs) ≡ 0 → (after fresh_of width cs).flags ≡ 0

-- two results that one contract allows are equal
pub record Unique : Type 0 where
  pub in-range : (c : Clock) (r s : Bool) → r ≡ in_range c → s ≡ in_range c → r ≡ s
  pub fresh : (r s : Monitor) → r ≡ fresh_of → s ≡ fresh_of → r ≡ s
  pub count : (m : Monitor) (r s : ℕ) → r ≡ count_of m → s ≡ count_of m → r ≡ s
  pub lowest : (m : Monitor) (r s : ℕ) → r ≡ lowest_of m → s ≡ lowest_of m → r ≡ s
  pub bus-clock : (m : Monitor) (width beats : ℕ) (c : Clock) (r s : Result Clocked Refusal) → seen m r ≡ bus_clock_of m width beats c
      → seen m s ≡ bus_clock_of m width beats c → r ≡ s
