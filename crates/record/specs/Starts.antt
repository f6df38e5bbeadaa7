-- RULES.md, "Trace and listing": what a trace starts with, and the converter of traces that relied on 16 beats.
use Rattle.std.specs.Prelude.{Some, ℕ, ◌+◌, ◌≤◌, ◌≡◌, Bool, true, false, List, [], ◌∷◌, ◌++◌, eqb, leb, length, drop}
use Rattle.kit.specs.Choice.{when, both, either}
use Rattle.kit.specs.Word.{half_at}
use Rattle.record.specs.declared.reading.Body.TheVariants.{Settings}
use Rattle.record.specs.Mark.{letters}
use Rattle.record.specs.Reading.{reading_of}

-- the mark is CF or C2
abbrev pub settings_mark : ℕ → Bool
settings_mark m = either (eqb m (letters 67 70)) (eqb m (letters 67 50))

-- the two letters of CF or C2 stand at `at`, whatever comes after them
abbrev pub settings_at : List ℕ → ℕ → Bool
settings_at s at = both (leb (at + 2) (length s)) (settings_mark (half_at s at))

-- the trace starts with this mark
abbrev pub starts_with : ℕ → List ℕ → Bool
starts_with m t = both (leb 2 (length t)) (eqb (half_at t 0) m)

-- CF, for one engine; C2, for two
abbrev pub starts_one : List ℕ → Bool
starts_one = starts_with (letters 67 70)

abbrev pub starts_two : List ℕ → Bool
starts_two = starts_with (letters 67 50)

-- the record CF 0 (4,16)
abbrev pub older_settings : List ℕ
older_settings = 67 ∷ 70 ∷ 0 ∷ 0 ∷ 0 ∷ 0 ∷ 4 ∷ 0 ∷ 16 ∷ 0 ∷ []

-- a trace that starts with CF or C2 is copied as it is; any other, the empty one too, gets CF 0 (4,16) before it
abbrev pub converted_of : List ℕ → List ℕ
converted_of t = when (settings_at t 0) t (older_settings ++ t)

-- Proved in proofs/Starting.antt.
pub record Starts : Type 0 where
  -- only the two bytes at `at` matter: not those before them, and where both are there, not those after them
  pub dropped : (s : List ℕ) (at : ℕ) → at ≤ length s → settings_at s at ≡ settings_at (drop at s) 0
  pub settled : (s more : List ℕ) (at : ℕ) → at + 2 ≤ length s → settings_at (s ++ more) at ≡ settings_at s at
  -- what the converter puts before a trace is read as CF 0 (4,16), and the trace follows
  pub put : (t : List ℕ) → reading_of (older_settings ++ t) 0 true false ≡ Some (record { sequence = 0; body = Settings false 4 16 }, 10)
  -- a converted trace starts with CF, so twice converted is once converted
  pub starts : (t : List ℕ) → settings_at (converted_of t) 0 ≡ true
  pub twice : (t : List ℕ) → converted_of (converted_of t) ≡ converted_of t
