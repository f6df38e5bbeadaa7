-- A record that was found has its data in the input.
use mathlib.Core.Path.{◌≡◌, refl}
use Prim.Native.Nat.{ℕ, ◌≤◌, ◌<◌}
use mathlib.Core.Bool.{Bool}
use mathlib.Core.List.{List}
use native.Mathlib.Omega.{arith}
use lib.ListN.{length}
use Rattle.record.specs.declared.reading.Body.{Body}
use Rattle.record.specs.declared.reading.Body.TheVariants.{Settings, Memory, Window, Write, Read, Steps, Astray, Clock}
use Rattle.record.specs.declared.reading.Record.{Record}
use Rattle.std.specs.Prelude.{Some}
use Rattle.record.specs.Reading.{reading_of}
use Rattle.record.proofs.Claims.{claims}
use Rattle.session.specs.Turn.{DataFits}

module _ (input : List ℕ) (at : ℕ) (first two : Bool) (r : Record) (next : ℕ) (e : reading_of input at first two ≡ Some (r, next)) where
  pub data-fits : DataFits input at r.body
  data-fits = go r.body refl
    where
      go : (b : Body) → r.body ≡ b → DataFits input at b
      go (Settings two width beats) f = tt
      go (Memory address count) f =
          let p = claims.memory input at first two r next address count e f in
          let q = claims.inside input at first two r next e in
          omega arith
      go (Window start count) f = tt
      go (Write offset value) f = tt
      go (Read offset) f = tt
      go (Steps count) f = tt
      go Astray f = tt
      go (Clock bits clock) f = tt

  pub inside : (at < next) × (next ≤ length input)
  inside = let q = claims.inside input at first two r next e in (q.0, q.1)
