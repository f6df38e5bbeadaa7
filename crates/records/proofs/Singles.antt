-- A record that is a turn by itself.
use mathlib.Core.Path.{◌≡◌, sym, ap, subst, ◌∙◌}
use mathlib.Core.Bool.{Bool, true, false}
use mathlib.Core.List.{List}
use Prim.Native.Nat.{ℕ, ◌+◌, ◌-◌, ◌≤◌}
use lib.Dec.{eqb}
use lib.ListN.{length}
use Rattle.record.specs.Reading.{Reading, reading_of}
use Rattle.session.specs.declared.Mode.TheVariants as modes
use Rattle.session.specs.declared.Session.{Session}
use Rattle.session.specs.declared.Effect.{Effect}
use Rattle.session.specs.declared.Passed.{Passed}
use Rattle.session.specs.Chosen.{two_of, called_of}
use Rattle.session.specs.Effect.{Lent, after}
use Rattle.session.specs.Turn.{turn_as, record_by}
use Rattle.session.specs.Pass.{ready_of, line_room, Takes}
use Rattle.session.proofs.RecordTurns.{takes-record}
use Rattle.records.specs.Tells.{Tells}

-- its line is what is told by what the reading gave
pub takes-single : {base : ℕ} {input : List ℕ} {ended : Bool} {s : Session} {at : ℕ} {lent lent' : Lent} {e : Effect} {at' : ℕ} {out : List ℕ} {put : ℕ} {r : Passed} {out' : List ℕ} {v : Reading}
    → (s.mode ≡ modes.Records) × (ready_of modes.Records (length input - at) ended ≡ true) × (called_of s.chosen input at ≡ false)
    → put + line_room ≤ length out → Tells e at' out put r out' → reading_of input at (eqb (base + at) 0) (two_of s.chosen) ≡ v
    → turn_as (after e lent') at' ≡ record_by s (base + at) input at lent v → Takes base input ended s at lent out put r lent' out'
takes-single {base} {input} {ended} {s} {at} {lent} {lent'} {e} {at'} {out} {put} {r} {out'} pre free t read seen =
    subst (λ (x : Passed). Takes base input ended s at lent out put x lent' out') (sym t.passed)
    (takes-record base input s at lent e at' lent' pre.0 pre.2 (seen ∙ sym (ap (record_by s (base + at) input at lent) read)) ended pre.1 free t.puts t.short)
