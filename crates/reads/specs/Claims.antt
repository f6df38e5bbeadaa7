-- What is proved of every read: proofs/Claims.antt.
use Rattle.std.specs.Prelude.{◌≡◌, ℕ, true, Result}
use Rattle.kit.specs.Settings.{legal_of}
use Rattle.kit.specs.declared.answer.Refusal.{Refusal}
use Rattle.kit.specs.declared.settings.Settings.{Settings}
use Rattle.state.specs.State.{fresh_of}
use Rattle.reads.specs.Read.{Value, gives, read_of, read_seen}

pub record Claims : Type 0 where
  -- two results that one contract allows are equal
  pub read-unique : {r q : Result ℕ Refusal} {x : Value} → read_seen r ≡ x → read_seen q ≡ x → r ≡ q
  -- a fresh engine: CDMACR reads 0x00010002, CDMASR 0x0001000A
  pub fresh-control : (x : Settings) → legal_of x ≡ true → read_of (fresh_of x) 0x00 ≡ gives 0x00010002
  pub fresh-status : (x : Settings) → legal_of x ≡ true → read_of (fresh_of x) 0x04 ≡ gives 0x0001000A
