-- No refusal has the number of a call that is done.
use mathlib.Core.Path.{◌≡◌}
use Rattle.std.specs.Prelude.{Ok, Err}
use Rattle.kit.specs.Answer.{number_of}
use Rattle.kit.specs.declared.answer.Refusal.{Refusal}
use Rattle.kit.proofs.Numbers.{number-tells}

pub refused : (r : Refusal) → 0 ≡ number_of r → ⊥
refused r e = let same = number-tells {a = Ok tt} {b = Err r} e in cc
