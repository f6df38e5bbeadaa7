-- How a transfer lies: the cut is its first burst, bursts a stride apart to the end of its page, and bursts a stride apart from
-- there on.
use mathlib.Core.Path.{◌≡◌, sym, ap, ap₂, subst, ◌∙◌}
use Prim.Native.Nat.{ℕ, suc, ◌+◌, ◌-◌, ◌*◌, ◌/◌, ◌%◌, ◌≤◌, ◌<◌, ◌∣◌, min}
use mathlib.Core.Bool.{true, false}
use mathlib.Core.List.{List, ◌∷◌, ◌++◌, append-nil}
use mathlib.Core.Logic.{◌⊎◌, inl, inr}
use lib.Dec.{leb}
use lib.ListN.{length, length-append}
use native.Mathlib.Nat.{mod-lt, mod-le, mod-mod_of_dvd, dvd_of_mod-eq-zero, dvd-mul_left_of_dvd, le_of_dvd}
use native.Mathlib.Omega.{arith}
use borrow.Author.Tests.{leb-true, leb-false}
use Rattle.kit.specs.Settings.{legal_settings}
use Rattle.kit.proofs.Choice.{decide}
use Rattle.kit.proofs.Legal.{Legal, legal}
use Rattle.cut.specs.declared.Burst.{Burst}
use Rattle.cut.specs.Cut.{page, reach, burst_end, burst_bytes, burst, cut}
use Rattle.cut.proofs.Reach.{burst-bytes, ends, end-aligned}
use Rattle.cut.proofs.Cutting.{cut-stop, cut_step, cut-join, cut-few}
use Rattle.plan.specs.Layout.{stride_of, laid_of}
use Rattle.plan.proofs.Strides.{Stride, stride, laid, laid-length, first_piece}
use Rattle.plan.proofs.Going.{page_end, Goes, burst-is, cut-laid}

sum_less : (a b c : ℕ) → 0 < b - c → a + c < a + b
sum_less a b c h = omega arith

rejoined : (a b c : ℕ) → a + c ≤ a + b → a + b ≡ a + c + (b - c)
rejoined a b c h = omega arith

stays : (a b c : ℕ) → a + c ≤ a + b → a + b ≤ page_end a → a + c + (b - c) ≤ page_end (a + c)
stays a b c h i = omega arith

module _ (w l : ℕ) (e : legal_settings w l ≡ true) where
  abbrev s : ℕ
  s = stride_of w l

  -- the cut of a transfer: its first burst, what is left of its page, and the pages behind
  cut-lies : (start count : ℕ) → 0 < count
      → let first = burst_bytes w l start count in
      let here = min (page - start % page) count in
      cut w l start (start + count)
      ≡ laid start first ∷ laid_of s (start + first) (here - first) ++ laid_of s (start + here) (count - here)
  unfolding burst_end reach
  cut-lies start count h =
      let (halved, goes) = halves (decide (leb count (page - start % page))) in
      halved
      ∙ ap₂ (λ (xs ys : List Burst). xs ++ ys) first-page (ap (cut w l turn) (omega arith) ∙ cut-laid w l e turn (count - here) goes)
    where
      g : Legal w l
      g = legal w l e

      first : ℕ
      first = burst_bytes w l start count

      here : ℕ
      here = min (page - start % page) count

      turn : ℕ
      turn = start + here

      -- the bytes of the first page and those behind are cut apart, and those behind start at a page
      halves : (leb count (page - start % page) ≡ true) ⊎ (leb count (page - start % page) ≡ false)
          → (cut w l start (start + count) ≡ cut w l start turn ++ cut w l turn (start + count)) × Goes w l e turn (count - here)
      halves (inl t) =
          let i = leb-true count (page - start % page) t in (
            ap (cut w l start) (omega arith) ∙ sym (append-nil (cut w l start turn))
                ∙ ap (λ (bs : List Burst). cut w l start turn ++ bs) (sym (cut-stop w l turn (start + count) (omega arith))),
            record { word = λ j. absurd (omega arith); lies = inr (omega arith) },
          )
      halves (inr t) =
          let i = leb-false count (page - start % page) t in
          let at : page_end start ≡ turn = omega arith in
          let pages : (k : ℕ) → k ∣ page → k ∣ turn = λ k d. subst (λ (x : ℕ). k ∣ x) at (dvd-mul_left_of_dvd k d (start / page + 1)) in (
            cut-join w l g.width_positive g.beats-positive turn (start + count) (omega arith) (omega arith) start (omega arith),
            record { word = λ _. pages w (dvd_of_mod-eq-zero w g.width-pages); lies = inl (pages s (stride w l e).pages) },
          )

      first-page : cut w l start turn ≡ laid start first ∷ laid_of s (start + first) (here - first)
      first-page =
          let p = ends w l g.width_positive g.beats-positive start turn (omega arith) in
          let stop : burst_end w l start turn ≡ start + first = omega arith in
          let fewer : start + first ≤ turn = subst (λ (x : ℕ). x ≤ turn) stop p.within in
          let aligned : 0 < here - first → w ∣ start + first =
          λ i.
          let short = subst (λ (x : ℕ). x < turn) (sym stop) (sum_less start here first i) in
          dvd_of_mod-eq-zero w (ap (λ (x : ℕ). x % w) (sym stop) ∙ end-aligned w l g.width_positive g.width-pages start turn short) in
          cut_step w l g.width_positive g.beats-positive start turn (omega arith)
          ∙ ap (λ (x : ℕ). burst start x ∷ cut w l x turn) stop
          ∙ ap₂ (λ (b : Burst) (bs : List Burst). b ∷ bs) (burst-is w l e start first)
          (ap (cut w l (start + first)) (rejoined start here first fewer)
          ∙ cut-laid w l e (start + first) (here - first) (record { word = aligned; lies = inr (stays start here first fewer (omega arith)) }))

  -- the first burst's bytes, those of its page and the stride, as the code has them
  pub record Lies (start count first here each : ℕ) : Type 0 where
    pub by : Stride w each
    pub within : first ≤ here
    pub fewer : here ≤ count
    pub bursts : cut w l start (start + count) ≡ laid start first ∷ laid_of each (start + first) (here - first) ++ laid_of each (start + here) (count - here)
    pub parts : length (cut w l start (start + count)) ≡ 1 + length (laid_of each (start + first) (here - first)) + length (laid_of each (start + here) (count - here))
    pub number : {o : ℕ} → o ≡ start % w → length (cut w l start (start + count)) ≡ (o + here + (each - 1)) / each + (count - here + (each - 1)) / each
    pub few : length (cut w l start (start + count)) ≤ count

  first-within : (start count : ℕ) → burst_bytes w l start count ≤ min (page - start % page) count
  unfolding burst_end reach
  first-within start count = omega arith

  -- the first burst ends a stride past the start of its first word, or with the page's bytes
  first-is : (start count : ℕ) → burst_bytes w l start count ≡ min (s - start % w) (min (page - start % page) count)
  first-is start count =
      let g = legal w l e in
      let near : start % w ≤ start % page =
      subst (λ (x : ℕ). x ≤ start % page) (mod-mod_of_dvd w start (dvd_of_mod-eq-zero w g.width-pages)) (mod-le (start % page) w) in
      sym (burst-bytes w l start count) ∙ go (page - start % page) (omega (arith, near)) (decide (leb (w * l) page))
    where
      o : ℕ
      o = start % w

      swap : (x y z : ℕ) → min x (min y z) ≡ min y (min x z)
      swap x y z = omega arith

      skip : (x y z : ℕ) → x ≤ y → min y (min x z) ≡ min x z
      skip x y z h = omega arith

      go : (p : ℕ) → p ≤ page - o → (leb (w * l) page ≡ true) ⊎ (leb (w * l) page ≡ false) → min p (min (w * l - o) count) ≡ min (s - o) (min p count)
      go p i (inl t) =
          let j = leb-true (w * l) page t in
          let same : w * l ≡ s = omega arith in
          ap (λ (x : ℕ). min p (min (x - o) count)) same ∙ swap p (s - o) count
      go p i (inr t) =
          let j = leb-false (w * l) page t in
          let same : page ≡ s = omega arith in
          swap p (w * l - o) count ∙ skip p (w * l - o) count (omega arith) ∙ sym (skip p (s - o) count (subst (λ (x : ℕ). p ≤ x - o) same i))

  first-page-length : (start count : ℕ) → 0 < count
      → let first = burst_bytes w l start count in
      let here = min (page - start % page) count in
      1 + (here - first + (s - 1)) / s ≡ (start % w + here + (s - 1)) / s
  first-page-length start count h =
      let q = stride w l e in
      let word = mod-lt start (legal w l e).width_positive in
      first_piece s (start % w) (min (page - start % page) count) (burst_bytes w l start count) q.some
      (omega (arith, word, le_of_dvd q.some q.words)) (omega arith) (first-is start count)

  lie : (start count : ℕ) → 0 < count → Lies start count (burst_bytes w l start count) (min (page - start % page) count) s
  lie start count h =
      let first = burst_bytes w l start count in
      let here = min (page - start % page) count in
      let near = laid_of s (start + first) (here - first) in
      let far = laid_of s (start + here) (count - here) in
      let bursts = cut-lies start count h in
      let parts : length (cut w l start (start + count)) ≡ 1 + length near + length far = ap length bursts ∙ ap suc (length-append near far) ∙ omega arith in
      let g = legal w l e in
      record {
        by = stride w l e;
        within = first-within start count;
        fewer = omega arith;
        bursts = bursts;
        few = omega (arith, cut-few w l g.width_positive g.beats-positive start (start + count));
        parts = parts;
        number = λ {o} i. parts
            ∙ ap₂ (λ (m n : ℕ). m + n) (ap (λ (m : ℕ). 1 + m) (laid-length s (stride w l e).some (start + first) (here - first)) ∙ first-page-length start count h ∙ ap (λ (x : ℕ). (x + here + (s - 1)) / s) (sym i))
            (laid-length s (stride w l e).some (start + here) (count - here));
      }

  pub lies : {start count first here each : ℕ} → 0 < count → first ≡ burst_bytes w l start count → here ≡ min (page - start % page) count → each ≡ s
      → Lies start count first here each
  lies {start} {count} {first} {here} {each} h i j k =
      subst (λ (x : ℕ). Lies start count x here each) (sym i)
      (subst (λ (x : ℕ). Lies start count (burst_bytes w l start count) x each) (sym j)
      (subst (Lies start count (burst_bytes w l start count) (min (page - start % page) count)) (sym k) (lie start count h)))
