-- RULES.md, "Cutting a transfer": which bursts are legal; what it is to cover bytes once, rising; and that no list
-- of legal bursts that covers the same bytes is shorter.
use Rattle.std.specs.Prelude.{ℕ, ◌+◌, ◌-◌, ◌/◌, ◌≤◌, ◌<◌, ◌≡◌, length}
use mathlib.Core.List.{List, [], ◌∷◌, Memᴰ}
use Rattle.cut.specs.declared.Burst.{Burst}
use Rattle.cut.specs.Cut.{page}

-- the bytes of b, from its start up to, not including, its stop
abbrev pub stop : Burst → ℕ
stop b = b.start + b.bytes

-- a burst from byte a up to b is legal: a < b, one page, at most l aligned words of w bytes
pub record Legal (w l a b : ℕ) : Type 0 where
  pub some : a < b
  pub same_page : (b - 1) / page ≡ a / page
  pub words : (b - 1) / w - a / w + 1 ≤ l

-- every burst of the list is legal
abbrev pub AllLegal : ℕ → ℕ → List Burst → Type 0
AllLegal w l bursts = (b : Burst) → Memᴰ b bursts → Legal w l b.start (stop b)

-- the bursts follow each other from a to e: each byte from a up to e is covered once, in rising order
abbrev pub Tiles : ℕ → ℕ → List Burst → Type 0
Tiles a e [] = a ≡ e
Tiles a e (b ∷ more) = (b.start ≡ a) × (0 < b.bytes) × Tiles (stop b) e more

-- each byte from a up to e lies in some burst of the list; order and overlap do not matter
abbrev pub Covers : ℕ → ℕ → List Burst → Type 0
Covers a e bursts = (x : ℕ) → a ≤ x → x < e → (b : Burst) × Memᴰ b bursts × (b.start ≤ x) × (x < stop b)

-- the bursts are legal, tile the bytes from a up to e, and are no more than those of any legal list that covers them
pub record WellCut (w l a e : ℕ) (bursts : List Burst) : Type 0 where
  pub legal : AllLegal w l bursts
  pub tiles : Tiles a e bursts
  pub shortest : (others : List Burst) → AllLegal w l others → Covers a e others → length bursts ≤ length others
