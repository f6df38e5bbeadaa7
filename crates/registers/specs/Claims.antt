-- What is proved of every write: proofs/Claims.antt.
use Rattle.std.specs.Prelude.{◌≡◌, ℕ, ◌^◌, ◌<◌, true, Result, ⊤}
use Rattle.kit.specs.Limits.{address_end}
use Rattle.kit.specs.declared.answer.Refusal.{Refusal}
use Rattle.state.specs.declared.engine.Engine.{Engine}
use Rattle.state.specs.declared.engine.Simple.{Simple}
use Rattle.state.specs.State.{well_formed_of}
use Rattle.registers.specs.Write.{AfterWrite, write_of, write_seen, left}
use Rattle.registers.specs.Changes.{Write}

-- SA and DA are 32-bit registers
pub record WordsOf (x : Simple) : Type 0 where
  pub source-word : x.sa < address_end
  pub destination-word : x.da < address_end

abbrev pub Words : Engine → Type 0
Words s = WordsOf s.simple

pub record Claims : Type 0 where
  -- two results that one contract allows are equal
  pub write-unique : (s : Engine) {r q : Result Engine Refusal} {x : AfterWrite} → write_seen s r ≡ x → write_seen s q ≡ x → r ≡ q
  -- and of a lent engine the answers and the engines
  pub left-unique : {r q : Result ⊤ Refusal} {s t : Engine} {x : AfterWrite} → left r s ≡ x → left q t ≡ x → (r ≡ q) × (s ≡ t)
  -- a write is refused and leaves the state, or is one of the changes of specs/Changes.antt
  pub writes : (s : Engine) (offset v : ℕ) → Write s offset v (write_of s offset v)
  pub write-refused : (s : Engine) (offset v : ℕ) {n : ℕ} → (write_of s offset v).answer ≡ n → (n ≡ 0 → ⊥) → (write_of s offset v).engine ≡ s
  -- a write keeps the settings, registers of 32 bits, and the state well formed, also where it is refused
  pub write-keeps-settings : (s : Engine) (offset v : ℕ) → (write_of s offset v).engine.settings ≡ s.settings
  pub write-keeps-words : (s : Engine) (offset v : ℕ) → v < 2 ^ 32 → Words s → Words (write_of s offset v).engine
  pub write-keeps-well-formed : (s : Engine) (offset v : ℕ) → Words s → well_formed_of s ≡ true → well_formed_of (write_of s offset v).engine ≡ true
