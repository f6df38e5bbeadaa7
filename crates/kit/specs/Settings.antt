-- RULES.md, answer 1: width 4, 8, 16, 32, 64 or 128 bytes; beats 2, 4, 8, 16, 32, 64, 128 or 256.
use Rattle.std.specs.Prelude.{ℕ, Bool, false, List, [], ◌∷◌, eqb}
use Rattle.kit.specs.Choice.{both, either}
use Rattle.kit.specs.declared.settings.Settings.{Settings}

-- x stands in the list
abbrev pub among : ℕ → List ℕ → Bool
among x [] = false
among x (y ∷ ys) = either (eqb x y) (among x ys)

abbrev pub widths : List ℕ
widths = 4 ∷ 8 ∷ 16 ∷ 32 ∷ 64 ∷ 128 ∷ []

abbrev pub beat_counts : List ℕ
beat_counts = 2 ∷ 4 ∷ 8 ∷ 16 ∷ 32 ∷ 64 ∷ 128 ∷ 256 ∷ []

unfoldable pub legal_width : ℕ → Bool
legal_width w = among w widths

unfoldable pub legal_beats : ℕ → Bool
legal_beats l = among l beat_counts

abbrev pub legal_settings : ℕ → ℕ → Bool
legal_settings w l = both (legal_width w) (legal_beats l)

abbrev pub legal_of : Settings → Bool
legal_of s = legal_settings s.width s.beats
