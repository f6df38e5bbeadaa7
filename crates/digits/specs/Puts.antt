-- What a function leaves that puts bytes into a lent buffer.
use Rattle.std.specs.Prelude.{ℕ, ◌+◌, ◌≤◌, ◌≡◌, List, ◌++◌, length}
use Rattle.std.proofs.lemmas.List.Edits.{sets}

-- the bytes are there from `at` on and no other byte changed; the result is the place past them
pub record Puts (before after : List ℕ) (at result : ℕ) (bytes : List ℕ) : Type 0 where
  pub past : result ≡ at + length bytes
  pub stored : after ≡ sets before at bytes

-- the same, but up to three bytes past them may have changed too: a put of four bytes from there on covers them
pub record Starts (before after : List ℕ) (at result : ℕ) (bytes : List ℕ) : Type 0 where
  pub past : result ≡ at + length bytes
  pub surplus : List ℕ
  pub few : length surplus ≤ 3
  pub stored : after ≡ sets before at (bytes ++ surplus)
