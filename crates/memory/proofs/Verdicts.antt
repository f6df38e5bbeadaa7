-- Laws of `worse`: a verdict that two tests decide, and what an OKAY of two verdicts says of each.
use mathlib.Core.Path.{◌≡◌, refl}
use mathlib.Core.Bool.{Bool, true, false}
use Rattle.kit.specs.Choice.{when, either}
use Rattle.memory.specs.declared.verdict.Verdict.{Verdict}
use Rattle.memory.specs.declared.verdict.Verdict.TheVariants.{Okay, Slave, Decode}
use Rattle.memory.specs.Verdict.{worse}

-- decode error where the first test holds, else slave error where the second does
abbrev pub verdict_by : Bool → Bool → Verdict
verdict_by decode slave = when decode Decode (when slave Slave Okay)

-- the worse of two is decided by either's tests
pub worse-by : (d s d' s' : Bool) → worse (verdict_by d s) (verdict_by d' s') ≡ verdict_by (either d d') (either s s')
worse-by true s d' s' = refl
worse-by false true true s' = refl
worse-by false true false true = refl
worse-by false true false false = refl
worse-by false false d' s' = refl

pub worse-right-okay : (v : Verdict) → worse v Okay ≡ v
worse-right-okay Okay = refl
worse-right-okay Slave = refl
worse-right-okay Decode = refl

slave-bad : Slave ≡ Okay → ⊥
slave-bad e = cc

decode-bad : Decode ≡ Okay → ⊥
decode-bad e = cc

pub worse-okay : (u v : Verdict) → worse u v ≡ Okay → (u ≡ Okay) × (v ≡ Okay)
worse-okay Okay v e = (refl, e)
worse-okay Slave Okay e = absurd (slave-bad e)
worse-okay Slave Slave e = absurd (slave-bad e)
worse-okay Slave Decode e = absurd (decode-bad e)
worse-okay Decode v e = absurd (decode-bad e)

-- an OKAY was not decided by its first test
pub okay-no-decode : (d s : Bool) → verdict_by d s ≡ Okay → d ≡ false
okay-no-decode true s e = absurd (decode-bad e)
okay-no-decode false s e = refl
