-- Laws of `cut`: it stops at the end, it takes one burst and goes on, and what each step keeps holds of the whole.
use mathlib.Core.Path.{◌≡◌, refl, sym, ap, subst, ◌∙◌}
use Prim.Native.Nat.{ℕ, zero, suc, ◌-◌, ◌%◌, ◌≤◌, ◌<◌}
use mathlib.Core.Bool.{true, false}
use mathlib.Core.List.{List, [], ◌∷◌, ◌++◌}
use mathlib.Core.Logic.{◌⊎◌, inl, inr}
use lib.Dec.{ltb}
use lib.ListN.{length}
use native.Mathlib.Omega.{arith}
use borrow.Author.Tests.{lt-ltb, le-ltb, ltb-true, ltb-false}
use Rattle.kit.proofs.Choice.{decide}
use Rattle.cut.specs.declared.Burst.{Burst}
use Rattle.cut.specs.Cut.{page, reach, burst_end, burst, cut_within, cut}
use Rattle.cut.proofs.Reach.{ends}

module _ (w l : ℕ) where
  within-stop : (k a e : ℕ) → e ≤ a → cut_within k w l a e ≡ []
  unfolding cut_within
  within-stop zero a e h = refl
  within-stop (suc k) a e h = rw (le-ltb a e h, cut_within)

  within_step : (k a e : ℕ) → a < e → cut_within (suc k) w l a e ≡ burst a (burst_end w l a e) ∷ cut_within k w l (burst_end w l a e) e
  unfolding cut_within
  within_step k a e h = rw (lt-ltb a e h, cut_within)

  pub cut-stop : (a e : ℕ) → e ≤ a → cut w l a e ≡ []
  unfolding cut
  cut-stop a e h = within-stop (e - a) a e h

  module _ (pw : 0 < w) (pl : 0 < l) where
    -- more bursts than bytes change nothing
    enough : (k j a e : ℕ) → e - a ≤ k → e - a ≤ j → cut_within k w l a e ≡ cut_within j w l a e
    enough zero j a e hk hj = within-stop zero a e (omega arith) ∙ sym (within-stop j a e (omega arith))
    enough (suc k) zero a e hk hj = within-stop (suc k) a e (omega arith) ∙ sym (within-stop zero a e (omega arith))
    enough (suc k) (suc j) a e hk hj = go (λ i m. enough k j (burst_end w l a e) e i m) (decide (ltb a e))
      where
        go : (e - burst_end w l a e ≤ k → e - burst_end w l a e ≤ j → cut_within k w l (burst_end w l a e) e ≡ cut_within j w l (burst_end w l a e) e)
            → (ltb a e ≡ true) ⊎ (ltb a e ≡ false) → cut_within (suc k) w l a e ≡ cut_within (suc j) w l a e
        go f (inl t) =
            let h = ltb-true a e t in
            let p = ends w l pw pl a e h in
            within_step k a e h ∙ ap (λ (r : List Burst). burst a (burst_end w l a e) ∷ r) (f (omega arith) (omega arith)) ∙ sym (within_step j a e h)
        go f (inr t) =
            let h = ltb-false a e t in
            within-stop (suc k) a e h ∙ sym (within-stop (suc j) a e h)

    pub cut_step : (a e : ℕ) → a < e → cut w l a e ≡ burst a (burst_end w l a e) ∷ cut w l (burst_end w l a e) e
    unfolding cut
    cut_step a e h =
        let p = ends w l pw pl a e h in
        enough (e - a) (suc (e - a)) a e (omega arith) (omega arith) ∙ within_step (e - a) a e h
        ∙ ap (λ (r : List Burst). burst a (burst_end w l a e) ∷ r) (enough (e - a) (e - burst_end w l a e) (burst_end w l a e) e (omega arith) (omega arith))

    -- what holds where nothing is left, and of a burst before what it holds of, holds of every cut
    pub cut-ind : (e : ℕ) (P : ℕ → List Burst → Type 0)
        → ((a : ℕ) → e ≤ a → P a [])
        → ((a : ℕ) → a < e → P (burst_end w l a e) (cut w l (burst_end w l a e) e) → P a (burst a (burst_end w l a e) ∷ cut w l (burst_end w l a e) e))
        → (a : ℕ) → P a (cut w l a e)
    cut-ind e P stop step a = go (e - a) a (omega arith)
      where
        go : (k a : ℕ) → e - a ≤ k → P a (cut w l a e)
        go zero a h = subst (P a) (sym (cut-stop a e (omega arith))) (stop a (omega arith))
        go (suc k) a h = turn (λ b i. go k b i) (decide (ltb a e))
          where
            turn : ((b : ℕ) → e - b ≤ k → P b (cut w l b e)) → (ltb a e ≡ true) ⊎ (ltb a e ≡ false) → P a (cut w l a e)
            turn f (inl t) =
                let i = ltb-true a e t in
                let p = ends w l pw pl a e i in
                subst (P a) (sym (cut_step a e i)) (step a i (f (burst_end w l a e) (omega arith)))
            turn f (inr t) =
                let i = ltb-false a e t in
                subst (P a) (sym (cut-stop a e i)) (stop a i)

    -- no burst crosses the start of a page: the bytes before it and those from it on are cut apart
    pub cut-join : (p e : ℕ) → p % page ≡ 0 → p ≤ e → (a : ℕ) → a ≤ p → cut w l a e ≡ cut w l a p ++ cut w l p e
    unfolding burst_end reach
    cut-join p e start h = cut-ind p (λ a bs. a ≤ p → cut w l a e ≡ bs ++ cut w l p e)
        (λ a i j. ap (λ (x : ℕ). cut w l x e) (omega arith))
        λ a i below j.
        let q = ends w l pw pl a p i in
        let same : burst_end w l a e ≡ burst_end w l a p = omega arith in
        cut_step a e (omega arith) ∙ ap (λ (x : ℕ). burst a x ∷ cut w l x e) same
        ∙ ap (λ (bs : List Burst). burst a (burst_end w l a p) ∷ bs) (below q.within)

    -- each burst has a byte at least
    pub cut-few : (a e : ℕ) → length (cut w l a e) ≤ e - a
    cut-few a e = cut-ind e (λ x bs. length bs ≤ e - x) (λ x h. omega arith) (λ x h below. let p = ends w l pw pl x e h in omega arith) a
