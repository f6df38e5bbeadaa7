-- RULES.md, "Descriptor and steps", move: the memory after a burst whose source bytes were all read before any was written.
use Rattle.std.specs.Prelude.{ℕ, List, take, drop}
use Rattle.std.proofs.lemmas.List.Edits.{sets}

-- no burst is longer: a legal one stays in one page
abbrev pub longest_burst : ℕ
longest_burst = 4096

-- m, with the n bytes from `to` on as m's n bytes from `from` on were
abbrev pub copied : List ℕ → ℕ → ℕ → ℕ → List ℕ
copied m from to n = sets m to (take n (drop from m))
