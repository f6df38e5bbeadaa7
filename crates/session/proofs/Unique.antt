-- `Passes` leaves nothing open: two results that it allows are equal.
use mathlib.Core.Path.{◌≡◌, sym, ap, ◌∙◌}
use mathlib.Core.Logic.{⊎_elim}
use Prim.Native.Nat.{ℕ, ◌<◌}
use mathlib.Core.Bool.{Bool, true, false}
use mathlib.Core.List.{List, ◌++◌}
use native.Mathlib.Omega.{arith}
use lib.ListN.{length, drop}
use lib.Dec.{ltb}
use borrow.Author.Tests.{ltb-true, ltb-false}
use Rattle.kit.proofs.Choice.{decide, never}
use Rattle.session.specs.declared.Session.{Session}
use Rattle.session.specs.declared.AfterPass.{AfterPass}
use Rattle.state.specs.declared.engine.Engine.{Engine}
use Rattle.session.specs.Effect.{lend}
use Rattle.session.specs.Pass.{Replay, replay_as, begin, goes_on, turns_of, Passes, PassUnique}

-- the first number at which a test fails is one number
first-unique : (p : ℕ → Bool) (n k : ℕ) → ((j : ℕ) → j < n → p j ≡ true) → p n ≡ false → ((j : ℕ) → j < k → p j ≡ true) → p k ≡ false → n ≡ k
first-unique p n k below-n at_n below-k at-k =
    ⊎_elim {C = n ≡ k} (λ e. absurd (never (sym at_n ∙ below-k n (ltb-true n k e))))
    (λ e. ⊎_elim {C = n ≡ k} (λ f. absurd (never (sym at-k ∙ below-n k (ltb-true k n f))))
    (λ f. omega (arith, ltb-false n k e, ltb-false k n f))
    (decide (ltb k n)))
    (decide (ltb n k))

module _ (s : Session) (o : Engine) (base : ℕ) (input : List ℕ) (ended : Bool) (m w out : List ℕ) where
  -- the result and the buffer, from the replay after the turns
  result_of : Replay → AfterPass
  result_of x = record { session = x.session; other = x.lent.other; at = x.at; put = length x.text }

  out_of : Replay → List ℕ
  out_of x = x.text ++ drop (length x.text) out

  module _ {r : AfterPass} {m' w' out' : List ℕ} (p : Passes s o base input ended m w out r m' w' out') where
    end_of : Replay
    end_of = replay_as r.session r.at (lend m' w' r.other) p.text

    result-is : r ≡ result_of end_of
    unfolding result_of end_of
    result-is = ap {B = AfterPass} (λ (n : ℕ). record { session = r.session; other = r.other; at = r.at; put = n }) p.put

    out-is : out' ≡ out_of end_of
    unfolding out_of end_of
    out-is = p.stored ∙ ap (λ (n : ℕ). p.text ++ drop n out) p.put

  module _ {r r' : AfterPass} {m₁ w₁ out₁ m₂ w₂ out₂ : List ℕ} (p : Passes s o base input ended m w out r m₁ w₁ out₁) (q : Passes s o base input ended m w out r' m₂ w₂ out₂) where
    same_end : end_of p ≡ end_of q
    unfolding end_of
    same_end =
        p.ends
        ∙ ap (λ (n : ℕ). turns_of n base input (begin s m w o))
        (first-unique (λ (n : ℕ). goes_on (length out) input ended (turns_of n base input (begin s m w o))) p.turns q.turns p.goes p.stops q.goes q.stops)
        ∙ sym q.ends

    same : (r ≡ r') × (m₁ ≡ m₂) × (w₁ ≡ w₂) × (out₁ ≡ out₂)
    unfolding end_of
    same = (
      result-is p ∙ ap result_of same_end ∙ sym (result-is q),
      ap (λ (x : Replay). x.lent.memory) same_end,
      ap (λ (x : Replay). x.lent.windows) same_end,
      out-is p ∙ ap out_of same_end ∙ sym (out-is q),
    )

pub pass-unique : PassUnique
pass-unique s o base input ended m w out r r' m₁ w₁ out₁ m₂ w₂ out₂ p q = same s o base input ended m w out p q
