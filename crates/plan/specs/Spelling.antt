-- How bursts are spelled in a lent slice: what the code that writes them goes by. What is promised goes by `places_of` and
-- `little_of` alone.
use Rattle.std.specs.Prelude.{ℕ, ◌*◌, ◌≡◌, List, [], ◌∷◌, ◌++◌, length, refl}
use Rattle.std.proofs.Common.{ap, arith}
use Rattle.cut.specs.declared.Burst.{Burst}
use Rattle.plan.specs.Plan.{places_of, little_of}

-- one burst
abbrev pub burst_of : ℕ → ℕ → List Burst
burst_of start bytes = record { start = start; bytes = bytes } ∷ []

-- each burst as two little-endian words
abbrev pub little : List Burst → List ℕ
little bursts = little_of (places_of bursts)

-- each burst takes `size` places, and what is spelled behind each other is spelled as one
pub record Spelling {P : Type 0} (spelled : List Burst → List P) (size : ℕ) : Type 0 where
  pub sized : (bursts : List Burst) → length (spelled bursts) ≡ size * length bursts
  pub none : spelled [] ≡ []
  pub joins : (one other : List Burst) → spelled (one ++ other) ≡ spelled one ++ spelled other

places-length : (bursts : List Burst) → length (places_of bursts) ≡ 2 * length bursts
places-length [] = refl
places-length (b ∷ more) = let p = places-length more in omega arith

little-length : (bursts : List Burst) → length (little bursts) ≡ 8 * length bursts
little-length [] = refl
little-length (b ∷ more) = let p = little-length more in omega arith

places-join : (one other : List Burst) → places_of (one ++ other) ≡ places_of one ++ places_of other
places-join [] other = refl
places-join (b ∷ more) other = ap (λ (ns : List ℕ). b.start ∷ b.bytes ∷ ns) (places-join more other)

little-join : (one other : List Burst) → little (one ++ other) ≡ little one ++ little other
little-join [] other = refl
little-join (b ∷ more) other = ap (λ (ns : List ℕ). little (b ∷ []) ++ ns) (little-join more other)

pub places_spelling : Spelling places_of 2
places_spelling = record { sized = places-length; none = refl; joins = places-join }

pub little_spelling : Spelling little 8
little_spelling = record { sized = little-length; none = refl; joins = little-join }
