-- The claims of specs/Transfers.antt: every transfer that ends without error or reset covers, copies, and takes its steps.
use mathlib.Core.Path.{◌≡◌, sym, ap, subst, ◌∙◌}
use mathlib.Core.Bool.{Bool, true, false}
use mathlib.Core.Logic.{◌⊎◌, inl, inr}
use mathlib.Core.List.{List, ◌∷◌}
use Prim.Native.Nat.{ℕ, ◌+◌, ◌≤◌}
use native.Mathlib.Nat.{add-zero}
use native.Mathlib.Omega.{arith}
use lib.ListN.{length}
use Rattle.kit.specs.Choice.{when}
use Rattle.kit.proofs.Choice.{decide}
use Rattle.kit.proofs.Legal.{legal}
use Rattle.cut.specs.declared.Burst.{Burst}
use Rattle.cut.specs.Cut.{cut}
use Rattle.cut.specs.Legal.{AllLegal, Tiles}
use Rattle.cut.proofs.Shortest.{well-cut}
use Rattle.state.specs.declared.engine.Engine.{Engine}
use Rattle.state.specs.declared.engine.Transfer.{Transfer}
use Rattle.state.specs.State.{error_set_of}
use Rattle.claims.specs.Transfers.{Act, act, after, bursts, steps, Completes, Own, left, Begin, Empty, Cover, Steps}
use Rattle.claims.proofs.Bytes.{Clear, held_none, Arrived}
use Rattle.claims.proofs.Progress.{remains_by, remains, Goes, settle, progress}
use Rattle.claims.proofs.Starts.{Started, started, barren}

-- all that is known of a transfer that ends well
module _ (s : Engine) (t : Transfer) (first : Act) (rest : List Act) (c : Completes s t first rest) where
  pub begun : Started s t first
  begun = started s t first rest c

  pub whole : Goes s t 0 (act s first) rest
  whole = let b = begun in progress s t c.legal rest (act s first) 0 b.suited.some b.now c.runs c.good

  pub moved : bursts s (first ∷ rest) ≡ remains s t 0
  moved = begun.moves rest ∙ whole.moves

  -- a fetch and an update in chain mode
  taken : steps (first ∷ rest) ≡ when s.control.sgmode 1 0 + (length (bursts s (first ∷ rest)) + when s.control.sgmode 1 0)
  taken = begun.takes rest ∙ ap (λ (n : ℕ). when s.control.sgmode 1 0 + n) (whole.takes ∙ ap (λ (b : List Burst). length b + when s.control.sgmode 1 0) (sym moved))

  -- where only its own steps touch the memory, and no byte is written where one is read
  pub arrives : (m : List ℕ) → Own m s (first ∷ rest) → Clear s t → Arrived s t m (left m s (first ∷ rest))
  arrives m own clear =
      subst (Arrived s t m) (sym (begun.leaves m rest own)) (whole.copies m m (begun.owned m rest own) (held_none s t clear m))

pub begin : Begin
begin s t first rest c = (begun s t first rest c).start

pub empty : Empty
empty s o first rest well out e runs = go (decide (error_set_of (after (act s first) rest).status.fault))
  where
    go : (error_set_of (after (act s first) rest).status.fault ≡ true) ⊎ (error_set_of (after (act s first) rest).status.fault ≡ false)
        → error_set_of (after (act s first) rest).status.fault ≡ true
    go (inl error) = error
    go (inr good) =
        let b = barren s o well out first e in
        let t : Transfer = record { source = 0; destination = 0; total = 0; moved = 0 } in
        let complete = (settle s t b.chain rest (act s first) o (b.now t) runs good).0 in
        absurd (let z : ◌≡◌ {A = ℕ} 0 1 = cc (b.internal ∙ complete) in omega arith)

pub cover : Cover
cover s t first rest c plain =
    let w = s.settings.width in
    let l = s.settings.beats in
    let g = legal w l c.legal in
    let cuts = moved s t first rest c ∙ ap (λ (b : Bool). remains_by s t b 0) plain
    ∙ ap (λ (a : ℕ). cut w l a (t.destination + t.total)) (add-zero t.destination) in
    let e = sym cuts in
    let p = well-cut w l g.width_positive g.beats-positive t.destination (t.destination + t.total) (omega arith) in
    record {
      cuts = cuts;
      legal = subst (AllLegal w l) e p.legal;
      tiles = subst (Tiles t.destination (t.destination + t.total)) e p.tiles;
      shortest = λ others a h. subst (λ (b : List Burst). length b ≤ length others) e (p.shortest others a h);
    }

pub count : Steps
count s t first rest c =
    let e = taken s t first rest c in
    record {
      chain = λ chain. omega (arith, e, ap (λ (x : Bool). when {A = ℕ} x 1 0) chain);
      simple = λ simple. omega (arith, e, ap (λ (x : Bool). when {A = ℕ} x 1 0) simple);
    }
