-- RULES.md, "Memory that answers badly": which of the bytes that are judged gave the answer, and the window that holds it.
use Rattle.std.specs.Prelude.{ℕ, zero, suc, min, Bool, true, false, List, [], ◌∷◌, Option, Some, None}
use Rattle.std.specs.Option.{option_or, unwrap_or}
use Rattle.kit.specs.Choice.{when}
use Rattle.memory.specs.declared.window.Window.{Window}
use Rattle.memory.specs.declared.verdict.Verdict.{Verdict}
use Rattle.memory.specs.declared.verdict.Verdict.TheVariants.{Okay, Slave, Decode}
use Rattle.memory.specs.Windows.{inside}
use Rattle.memory.specs.Verdict.{byte_of}

-- two answers are the same error
abbrev pub same_error : Verdict → Verdict → Bool
same_error Okay v = false
same_error Slave Okay = false
same_error Slave Slave = true
same_error Slave Decode = false
same_error Decode Okay = false
same_error Decode Slave = false
same_error Decode Decode = true

-- the byte at a, if it gives the error v
abbrev pub given_by : ℕ → List Window → Verdict → ℕ → Option ℕ
given_by size windows v a = when (same_error (byte_of size windows a) v) (Some a) None

-- the lower of two places
abbrev pub lower : Option ℕ → Option ℕ → Option ℕ
lower None p = p
lower (Some a) None = Some a
lower (Some a) (Some b) = Some (min a b)

-- of the n bytes of a transfer from byte k on, byte i of which lies at `place i`: the lowest address that gives v
unfoldable pub lowest_of : ℕ → List Window → Verdict → (ℕ → ℕ) → ℕ → ℕ → Option ℕ
lowest_of size windows v place k zero = None
lowest_of size windows v place k (suc n) = lower (given_by size windows v (place k)) (lowest_of size windows v place (suc k) n)

-- of a group, the n bytes from a on
abbrev pub lowest_in : ℕ → List Window → Verdict → ℕ → ℕ → Option ℕ
lowest_in size windows v a n = lowest_of size windows v (λ x. x) a n

-- the first of two places if there is one, else the second
abbrev pub first_found : Option ℕ → Option ℕ → Option ℕ
first_found p q = option_or p q

-- a burst of n bytes that gave v: its source's place, if a source byte gave v, else its destination's
abbrev pub fault_of : ℕ → List Window → Verdict → (ℕ → ℕ) → (ℕ → ℕ) → ℕ → ℕ → Option ℕ
fault_of size windows v reads writes k n = first_found (lowest_of size windows v reads k n) (lowest_of size windows v writes k n)

-- the address, or 0 where there is no place
abbrev pub address_of : Option ℕ → ℕ
address_of p = unwrap_or p 0

-- the number, from 0, of the first window that the byte at a lies in
unfoldable pub holder_of : List Window → ℕ → ℕ
holder_of [] a = 0
holder_of (w ∷ more) a = when (inside w a) 0 (suc (holder_of more a))

-- the window beside an answer: a slave error's alone
abbrev pub window_by : List Window → Verdict → ℕ → ℕ
window_by windows Okay a = 0
window_by windows Slave a = holder_of windows a
window_by windows Decode a = 0
