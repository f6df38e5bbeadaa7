use mathlib.Core.Path.{refl, sym, ap, ◌∙◌}
use Prim.Native.Nat.{ℕ, ◌+◌, ◌-◌, ◌≤◌}
use mathlib.Core.Bool.{false}
use mathlib.Core.List.{List}
use native.Mathlib.Omega.{arith}
use lib.ListN.{length, take, drop}
use lib.IntN.{pos}
use borrow.Author.Rules.{rules}
use borrow.Rule.Slice.PartMut.{put_mid}
use Rattle.kit.specs.Reading.{moved_of, interrupted_of}
use Rattle.kit.proofs.Choice.{yes, no}
use Rattle.flow.specs.declared.flow.Flow.{Flow}
use Rattle.flow.specs.Flow.{left_of}
use Rattle.flow.proofs.Pending.{front_kept, read-front}
use Rattle.flow.proofs.input.refill.Goals as goal

pub returns-then-not-wants : goal.returns-then-not-wants
returns-then-not-wants c =
    record {
      answer = pos 0;
      interrupted = false;
      moved = omega arith;
      is = no _ (sym c.wants.ensures ∙ c.if-not-wants.true) refl;
      kept = refl;
      size = c.requires.size;
    }

pub returns : goal.returns
returns c =
    let f = c.args.flow in
    let b : List ℕ = c.args.buffer.now in
    let fits = c.requires in
    let b₁ : List ℕ = c.copy.new.memory in
    let got = c.map_err.result in
    let inside : f.at + left_of f ≤ length b = omega (arith, fits.begins, fits.within, fits.size) in
    let after : List ℕ = put_mid (left_of f) (length b₁ - left_of f) b₁ c.read-got.new.buf in
    record {
      answer = moved_of got;
      interrupted = interrupted_of got;
      moved = search rules;
      is = yes _ (sym c.wants.ensures ∙ c.if-not-wants.false) c.after_read.ensures;
      kept = ap (λ (k : ℕ). take (left_of f) (drop k after)) (ap (λ (x : Flow). x.at) c.after_read.ensures ∙ read-front f (moved_of got) (interrupted_of got))
          ∙ front_kept b b₁ f.at (left_of f) inside c.copy.ensures (length b₁ - left_of f) c.read-got.new.buf;
      size = search rules;
    }
