-- What the definitions of specs/Places.antt imply: proved in proofs/Claims.antt.
use Rattle.std.specs.Prelude.{◌≡◌, ◌⊎◌, ℕ, suc, ◌+◌, ◌≤◌, ◌<◌, true, false, List, ◌∷◌, Some, None, Result}
use Rattle.kit.specs.declared.answer.Refusal.{Refusal}
use Rattle.memory.specs.declared.window.Window.{Window}
use Rattle.memory.specs.declared.verdict.Verdict.{Verdict}
use Rattle.memory.specs.declared.verdict.Verdict.TheVariants.{Okay, Slave, Decode}
use Rattle.memory.specs.Windows.{inside}
use Rattle.memory.specs.Verdict.{byte_of, group_of}
use Rattle.sides.specs.Sides.{side_answer, sides_answer}
use Rattle.places.specs.declared.locate.Located.{Located}
use Rattle.places.specs.Places.{lowest_of, fault_of, address_of}
use Rattle.places.specs.Locate.{Location, told_alone, located_seen, location_of}

-- a is where one of the n bytes from byte k on lies
pub record Used (place : ℕ → ℕ) (k n a : ℕ) : Type 0 where
  pub byte : ℕ
  pub within : byte < n
  pub lies : place (k + byte) ≡ a

-- none of them gives v
abbrev pub Without : ℕ → List Window → Verdict → (ℕ → ℕ) → ℕ → ℕ → Type 0
Without size windows v place k n = (i : ℕ) → i < n → byte_of size windows (place (k + i)) ≡ v → ⊥

-- a is where one of them lies that gives v, and none that gives v lies lower
pub record Lowest (size : ℕ) (windows : List Window) (v : Verdict) (place : ℕ → ℕ) (k n a : ℕ) : Type 0 where
  pub used : Used place k n a
  pub gives : byte_of size windows a ≡ v
  pub least : (i : ℕ) → i < n → byte_of size windows (place (k + i)) ≡ v → a ≤ place (k + i)

-- a is where a burst failed: on the source side, or on the destination side if no source byte gives v
abbrev pub Fails : ℕ → List Window → Verdict → (ℕ → ℕ) → (ℕ → ℕ) → ℕ → ℕ → ℕ → Type 0
Fails size windows v reads writes k n a =
    Lowest size windows v reads k n a ⊎ (Without size windows v reads k n × Lowest size windows v writes k n a)

-- the byte at a lies in window i of these, counted from 0, and in none before
pub data Holder : List Window → ℕ → ℕ → Type 0 where
  here : {w : Window} {more : List Window} {a : ℕ} → inside w a ≡ true → Holder (w ∷ more) a 0
  later : {w : Window} {more : List Window} {a i : ℕ} → inside w a ≡ false → Holder more a i → Holder (w ∷ more) a (suc i)

pub record Claims : Type 0 where
  -- OKAY has no place
  pub okay-nowhere : (size : ℕ) (windows : List Window) (place : ℕ → ℕ) (k n : ℕ) → lowest_of size windows Okay place k n ≡ None
  -- an error that none of the bytes gives has none either
  pub absent : (size : ℕ) (windows : List Window) (v : Verdict) (place : ℕ → ℕ) (k n : ℕ) → (v ≡ Okay → ⊥)
      → lowest_of size windows v place k n ≡ None → Without size windows v place k n
  -- a place that is found is the lowest
  pub found : (size : ℕ) (windows : List Window) (v : Verdict) (place : ℕ → ℕ) (k n a : ℕ)
      → lowest_of size windows v place k n ≡ Some a → Lowest size windows v place k n a
  -- and there is no other
  pub only : (size : ℕ) (windows : List Window) (v : Verdict) (place : ℕ → ℕ) (k n a b : ℕ)
      → Lowest size windows v place k n a → Lowest size windows v place k n b → a ≡ b
  -- bytes that answer with an error have a place: it is the lowest that gives it
  pub error : (size : ℕ) (windows : List Window) (v : Verdict) (place : ℕ → ℕ) (k n : ℕ) → (v ≡ Okay → ⊥)
      → side_answer size windows place k n ≡ v → Lowest size windows v place k n (address_of (lowest_of size windows v place k n))
  -- and so has a burst: the source's place wins
  pub fault : (size : ℕ) (windows : List Window) (v : Verdict) (reads writes : ℕ → ℕ) (k n : ℕ) → (v ≡ Okay → ⊥)
      → sides_answer size windows reads writes k n ≡ v
      → Fails size windows v reads writes k n (address_of (fault_of size windows v reads writes k n))
  -- a group: its bytes are those from a on; OKAY has no place and no window, a decode error no window
  pub group-okay : (size : ℕ) (windows : List Window) (a n : ℕ) → group_of size windows a n ≡ Okay
      → location_of size windows a n ≡ told_alone 0
  pub group-slave : (size : ℕ) (windows : List Window) (a n : ℕ) → group_of size windows a n ≡ Slave
      → let r = location_of size windows a n in
      (r.verdict ≡ Slave) × Lowest size windows Slave (λ x. x) a n r.place × Holder windows r.place r.window
  pub group-decode : (size : ℕ) (windows : List Window) (a n : ℕ) → group_of size windows a n ≡ Decode
      → let r = location_of size windows a n in
      (r.verdict ≡ Decode) × Lowest size windows Decode (λ x. x) a n r.place × (r.window ≡ 0)
  -- two results that the contract of `locate` allows are equal
  pub unique : (x : Location) (r q : Result Located Refusal) → located_seen r ≡ x → located_seen q ≡ x → r ≡ q
