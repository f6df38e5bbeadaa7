-- Bytes of a descriptor that have no error bit lie in the memory.
use mathlib.Core.Path.{◌≡◌, refl}
use Prim.Native.Nat.{ℕ, ◌+◌, ◌≤◌, ◌<◌}
use mathlib.Core.List.{List}
use Rattle.std.proofs.Common.{None}
use Rattle.std.proofs.lemmas.Option.{none-some}
use Rattle.memory.specs.declared.window.Window.{Window}
use Rattle.memory.specs.declared.verdict.Verdict.{Verdict}
use Rattle.memory.specs.declared.verdict.Verdict.TheVariants.{Okay, Slave, Decode}
use Rattle.memory.specs.Verdict.{group_of}
use Rattle.memory.proofs.Groups.{group-okay-fits}
use Rattle.steps.specs.Step.{chain_error_of}

okay : (v : Verdict) → None ≡ chain_error_of v → v ≡ Okay
okay Okay e = refl
okay Slave e = absurd (none-some _ e)
okay Decode e = absurd (none-some _ e)

pub taken-fits : (size : ℕ) (ws : List Window) (a n : ℕ) → None ≡ chain_error_of (group_of size ws a n) → 0 < n → a + n ≤ size
taken-fits size ws a n e h = group-okay-fits size ws a n (okay (group_of size ws a n) e) h
