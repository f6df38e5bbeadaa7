-- What a pass used.
use mathlib.Core.Path.{◌≡◌, refl, sym, ap, subst, ◌∙◌}
use Prim.Native.Nat.{ℕ, zero, suc, ◌≤◌, ◌<◌}
use mathlib.Core.Bool.{Bool, true, false}
use mathlib.Core.List.{List}
use native.Mathlib.Omega.{arith}
use lib.ListN.{length}
use Rattle.kit.proofs.Choice.{never}
use Rattle.session.specs.declared.Session.{Session}
use Rattle.session.specs.declared.AfterPass.{AfterPass}
use Rattle.state.specs.declared.engine.Engine.{Engine}
use Rattle.session.specs.Pass.{Replay, begin, turns_of, goes_on, Passes}
use Rattle.whole.proofs.Parts.{turns-within}

module _ (size base : ℕ) (input : List ℕ) (ended : Bool) (q : Replay) where
  none-taken : (n : ℕ) → ((k : ℕ) → k < n → goes_on size input ended (turns_of k base input q) ≡ true) → goes_on size input ended q ≡ false → n ≡ 0
  unfolding turns_of
  none-taken zero goes e = refl
  none-taken (suc n) goes e = absurd (never (sym e ∙ goes 0 (omega arith)))

module _ {s : Session} {o : Engine} {base : ℕ} {input : List ℕ} {ended : Bool} {m w out : List ℕ} {r : AfterPass} {m' w' out' : List ℕ}
    (p : Passes s o base input ended m w out r m' w' out') where
  pub pass-within : r.at ≤ length input
  pass-within = subst (λ (x : Replay). x.at ≤ length input) (sym p.ends) (turns-within base input (begin s m w o) p.turns (omega arith))

  -- a pass that cannot take a turn leaves all as it was
  pub pass-idle : goes_on (length out) input ended (begin s m w o) ≡ false → (r.session ≡ s) × (r.at ≡ 0)
  unfolding turns_of
  pass-idle e =
      let same = p.ends ∙ ap (λ (n : ℕ). turns_of n base input (begin s m w o)) (none-taken (length out) base input ended (begin s m w o) p.turns p.goes e) in
      (ap (λ (x : Replay). x.session) same, ap (λ (x : Replay). x.at) same)
