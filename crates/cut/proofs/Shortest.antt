-- The cut is legal, tiles its bytes, and no legal list that covers them is shorter.
use mathlib.Core.Path.{◌≡◌, refl, sym, ap, subst, ◌∙◌}
use Prim.Native.Nat.{ℕ, suc, ◌+◌, ◌-◌, ◌≤◌, ◌<◌, zero-le, suc-le-suc}
use mathlib.Core.List.Memᴰ
use mathlib.Core.List.{List, ◌∷◌, Memᴰ}
use mathlib.Core.Logic.{◌⊎◌, inl, inr}
use lib.ListN.{length}
use native.Mathlib.Omega.{arith}
use Rattle.cut.specs.declared.Burst.{Burst}
use Rattle.cut.specs.Cut.{burst_end, burst, cut}
use Rattle.cut.specs.Legal.{Legal, AllLegal, Tiles, Covers, WellCut, stop}
use Rattle.cut.proofs.Reach.{ends, reach-legal, legal-reach, reach-mono}
use Rattle.cut.proofs.Cutting.{cut-ind}

-- the list without the burst at a position
without : {b : Burst} {bs : List Burst} → Memᴰ b bs → List Burst
without (Memᴰ.head {xs = xs} e) = xs
without (Memᴰ.tail {x = x} m) = x ∷ without m

without-length : {b : Burst} {bs : List Burst} (m : Memᴰ b bs) → suc (length (without m)) ≡ length bs
unfolding without
without-length (Memᴰ.head e) = refl
without-length (Memᴰ.tail m) = ap suc (without-length m)

-- a burst of the list is the one taken out, or still there
kept : {b c : Burst} {bs : List Burst} (m : Memᴰ b bs) → Memᴰ c bs → (c ≡ b) ⊎ Memᴰ c (without m)
unfolding without
kept (Memᴰ.head e) (Memᴰ.head f) = inl (f ∙ sym e)
kept (Memᴰ.head e) (Memᴰ.tail n) = inr n
kept (Memᴰ.tail m) (Memᴰ.head f) = inr (Memᴰ.head f)
kept {b} {c} (Memᴰ.tail {x = x} m) (Memᴰ.tail n) = later (kept m n)
  where
    later : (c ≡ b) ⊎ Memᴰ c (without m) → (c ≡ b) ⊎ Memᴰ c (x ∷ without m)
    later (inl f) = inl f
    later (inr n) = inr (Memᴰ.tail n)

-- what is still there was in the list
back : {b c : Burst} {bs : List Burst} (m : Memᴰ b bs) → Memᴰ c (without m) → Memᴰ c bs
unfolding without
back (Memᴰ.head e) n = Memᴰ.tail n
back (Memᴰ.tail m) (Memᴰ.head f) = Memᴰ.head f
back (Memᴰ.tail m) (Memᴰ.tail n) = Memᴰ.tail (back m n)

module _ (w l : ℕ) (pw : 0 < w) (pl : 0 < l) (e : ℕ) where
  cut-legal : (a : ℕ) → AllLegal w l (cut w l a e)
  cut-legal = cut-ind w l pw pl e (λ a bs. AllLegal w l bs) (λ a h b m. absurd (Memᴰ.not-nil m)) λ a h below b m. either_way a h b (below b) (Memᴰ.cases_cons m)
    where
      first : (a : ℕ) → a < e → Legal w l a (a + (burst_end w l a e - a))
      first a h = let p = ends w l pw pl a e h in reach-legal w l pw pl a (a + (burst_end w l a e - a)) (omega arith) (omega arith)

      either_way : (a : ℕ) → a < e → (b : Burst) → (Memᴰ b (cut w l (burst_end w l a e) e) → Legal w l b.start (stop b))
          → (b ≡ burst a (burst_end w l a e)) ⊎ Memᴰ b (cut w l (burst_end w l a e) e) → Legal w l b.start (stop b)
      either_way a h b below (inl f) = subst (λ (x : Burst). Legal w l x.start (stop x)) (sym f) (first a h)
      either_way a h b below (inr m) = below m

  cut-tiles : (a : ℕ) → a ≤ e → Tiles a e (cut w l a e)
  cut-tiles = cut-ind w l pw pl e (λ a bs. a ≤ e → Tiles a e bs) (λ a h i. omega arith) λ a h below i.
      let p = ends w l pw pl a e h in
      (refl, omega arith, subst (λ (x : ℕ). Tiles x e (cut w l (burst_end w l a e) e)) (omega arith) (below (omega arith)))

  -- a burst that covers a reaches no farther than a's own burst: without it the others still cover what is left
  rest-covers : (a : ℕ) (others : List Burst) → AllLegal w l others → Covers a e others → a < e
      → (b : Burst) (m : Memᴰ b others) → b.start ≤ a → Covers (burst_end w l a e) e (without m)
  unfolding burst_end
  rest-covers a others legal covers h b m i x j k =
      let p = ends w l pw pl a e h in
      let (c, n, s, t) = covers x (omega arith) k in
      pick c s t (kept m n)
    where
      pick : (c : Burst) → c.start ≤ x → x < stop c → (c ≡ b) ⊎ Memᴰ c (without m)
          → (d : Burst) × Memᴰ d (without m) × (d.start ≤ x) × (x < stop d)
      pick c s t (inl f) =
          let t' : x < stop b = subst (λ (d : Burst). x < stop d) f t in
          absurd (omega (arith, legal-reach w l pw b.start (stop b) (legal b m), reach-mono w l pw b.start a i))
      pick c s t (inr n) = (c, n, s, t)

  cut-shortest : (a : ℕ) (others : List Burst) → AllLegal w l others → Covers a e others → length (cut w l a e) ≤ length others
  cut-shortest = cut-ind w l pw pl e (λ a bs. (others : List Burst) → AllLegal w l others → Covers a e others → length bs ≤ length others)
      (λ a h others legal covers. zero-le) λ a h below others legal covers.
      let (b, m, i, _) = covers a (omega arith) h in
      subst (λ (n : ℕ). suc (length (cut w l (burst_end w l a e) e)) ≤ n) (without-length m)
      (suc-le-suc (below (without m) (λ c n. legal c (back m n)) (rest-covers a others legal covers h b m i)))

module _ (w l : ℕ) (pw : 0 < w) (pl : 0 < l) (a e : ℕ) (h : a ≤ e) where
  pub well-cut : WellCut w l a e (cut w l a e)
  well-cut = record { legal = cut-legal w l pw pl e a; tiles = cut-tiles w l pw pl e a h; shortest = cut-shortest w l pw pl e a }
