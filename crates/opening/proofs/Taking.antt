-- What comes before the first record is a turn.
use mathlib.Core.Path.{◌≡◌, sym, ap, subst}
use mathlib.Core.Bool.{Bool, true}
use mathlib.Core.List.{List, []}
use Prim.Native.Nat.{ℕ, ◌+◌, ◌-◌, ◌≤◌}
use native.Mathlib.Omega.{arith}
use lib.ListN.{length}
use borrow.Author.Tests.{le-leb}
use Rattle.kit.proofs.Choice.{both-join}
use Rattle.record.specs.Starts.{settings_at}
use Rattle.session.specs.declared.Mode.TheVariants as modes
use Rattle.session.specs.declared.Session.{Session}
use Rattle.session.specs.declared.Passed.{Passed}
use Rattle.session.specs.Effect.{Lent, opening_of}
use Rattle.session.specs.Pass.{ready_of, replay_as, turn_by, turn_on, turns_of, line_room, goes_on, Takes}
use Rattle.opening.specs.Opens.{Opens}

pub takes-opening : {base : ℕ} {input : List ℕ} {ended : Bool} {s : Session} {at : ℕ} {lent : Lent} {out : List ℕ} {put : ℕ} {r : Passed} {out' : List ℕ}
    → s.mode ≡ modes.Start → ready_of s.mode (length input - at) ended ≡ true → put + line_room ≤ length out → Opens s input at out put r out'
    → Takes base input ended s at lent out put r lent out'
unfolding turns_of turn_on
takes-opening {base} {input} {ended} {s} {at} {lent} {out} {put} {out' = out'} mode ready free o =
    subst (λ (x : Passed). Takes base input ended s at lent out put x lent out') (sym o.passed)
    (record {
      turns = 1;
      text = opening_of s (settings_at input at);
      some = omega arith;
      goes = λ k h. let same : 0 ≡ k = omega (arith, h) in
          subst (λ (n : ℕ). goes_on (length out - put) input ended (turns_of n base input (replay_as s at lent [])) ≡ true) same
          (both-join (le-leb (0 + line_room) (length out - put) (omega arith)) ready);
      ends = sym (ap (turn_by base input (replay_as s at lent [])) mode);
      puts = o.puts;
      fits = omega (arith, o.short);
    })
