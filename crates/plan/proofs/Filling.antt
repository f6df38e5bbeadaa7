-- What the functions share that write bursts: `code` says how bursts are spelled, in `size` places each.
use mathlib.Core.Path.{◌≡◌, sym, ap, ◌∙◌}
use Prim.Native.Nat.{ℕ, ◌+◌, ◌-◌, ◌*◌, ◌≤◌, ◌<◌}
use mathlib.Core.Bool.{true}
use mathlib.Core.List.{List, [], ◌∷◌, ◌++◌}
use lib.ListN.{length}
use lib.Seq.{sets, length-sets}
use native.Mathlib.Nat.{mul-suc, mul-le-mul_left}
use native.Mathlib.Numerals.{add-one}
use native.Mathlib.Omega.{arith}
use Rattle.kit.specs.Limits.{address_end}
use Rattle.kit.specs.Settings.{legal_settings}
use Rattle.kit.proofs.Stores.{sets-append}
use Rattle.cut.specs.declared.Burst.{Burst}
use Rattle.cut.specs.Cut.{cut}
use Rattle.plan.specs.Layout.{even_of, laid_of}
use Rattle.plan.specs.Spelling.{Spelling, burst_of}
use Rattle.plan.proofs.Strides.{laid, even-length, even-suc, Stretch}
use Rattle.plan.proofs.Lying.{Lies}

module _ {P : Type 0} {code : List Burst → List P} {size : ℕ} (c : Spelling code size) where
  -- bursts written behind others are all of them written
  pub written_behind : (m : List P) (i : ℕ) (one other : List Burst) {j : ℕ} → j ≡ i + size * length one
      → sets (sets m i (code one)) j (code other) ≡ sets m i (code (one ++ other))
  written_behind m i one other {j} e =
      ap (λ (k : ℕ). sets (sets m i (code one)) k (code other)) (e ∙ ap (λ (k : ℕ). i + k) (sym (c.sized one)))
      ∙ sym (sets-append m i (code one) (code other)) ∙ ap (sets m i) (sym (c.joins one other))

  -- ---- a transfer: its first burst is written, then what is left of its page, then the pages behind

  module _ {w l : ℕ} {legal : legal_settings w l ≡ true} {start count first here each : ℕ} (p : Lies w l legal start count first here each)
      (m : List P) (fits : size * length (cut w l start (start + count)) ≤ length m) where
    -- how many places each stretch takes
    abbrev near-size : ℕ
    near-size = size * length (laid_of each (start + first) (here - first))

    abbrev far-size : ℕ
    far-size = size * length (laid_of each (start + here) (count - here))

    pub sizes : size + near-size + far-size ≤ length m
    sizes = omega (arith, fits, ap (λ (n : ℕ). size * n) p.parts)

    pub filled : {one two three : List P} {second next : ℕ} → second ≡ 0 + size → one ≡ sets m 0 (code (burst_of start first))
        → two ≡ sets one second (code (laid_of each (start + first) (here - first))) → next ≡ second + near-size
        → three ≡ sets two next (code (laid_of each (start + here) (count - here)))
        → three ≡ sets m 0 (code (cut w l start (start + count)))
    filled {second = second} {next} s e f g h =
        let b = laid start first in
        let near = laid_of each (start + first) (here - first) in
        let far = laid_of each (start + here) (count - here) in
        h
        ∙ ap (λ (x : List P). sets x next (code far))
        (f ∙ ap (λ (x : List P). sets x second (code near)) e ∙ written_behind m 0 (b ∷ []) near (omega (arith, s)))
        ∙ written_behind m 0 (b ∷ near) far (omega (arith, g, s, mul-suc size (length near)))
        ∙ ap (λ (bs : List Burst). sets m 0 (code bs)) (sym p.bursts)

  -- ---- a stretch: its whole strides are written, and then what is left

  module _ {each at bytes k : ℕ} (t : Stretch each at bytes k) (m : List P) (i : ℕ) where
    module _ (fits : i + size * length (laid_of each at bytes) ≤ length m) where
      pub even-fits : i + size * k ≤ length m
      even-fits = omega (arith, fits, mul-le-mul_left size t.room)

      pub last-fits : (bytes - each * k ≡ 0 → ⊥) → i + size * k + size ≤ length m
      last-fits z = omega (arith, fits, mul-suc size k, ap (λ (n : ℕ). size * n) (t.longer z))

    module _ {even : List P} (e : even ≡ sets m i (code (even_of each k at))) {next : ℕ} (n : next ≡ i + size * k) where
      pub exactly : bytes - each * k ≡ 0 → (next ≡ i + size * length (laid_of each at bytes)) × (even ≡ sets m i (code (laid_of each at bytes)))
      exactly z =
          let same = sym (t.exact z) in
          (n ∙ ap (λ (x : ℕ). i + size * x) (sym (even-length each k at) ∙ ap length same), e ∙ ap (λ (bs : List Burst). sets m i (code bs)) same)

      pub and-more : (bytes - each * k ≡ 0 → ⊥) → {out : List P} → out ≡ sets even next (code (burst_of (at + each * k) (bytes - each * k)))
          → {end : ℕ} → end ≡ next + size → (end ≡ i + size * length (laid_of each at bytes)) × (out ≡ sets m i (code (laid_of each at bytes)))
      and-more z f s =
          let last = burst_of (at + each * k) (bytes - each * k) in (
            omega (arith, n, s, mul-suc size k, ap (λ (x : ℕ). size * x) (t.longer z)),
            f ∙ ap (λ (l : List P). sets l next (code last)) e
                ∙ written_behind m i (even_of each k at) last (n ∙ ap (λ (x : ℕ). i + size * x) (sym (even-length each k at)))
                ∙ ap (λ (bs : List Burst). sets m i (code bs)) (sym (t.more z)),
          )

  -- ---- the loop over bursts of one length

  -- k bursts are written from `start` on, and the next one goes to `place`
  pub record Even (each start from : ℕ) (lent : List P) (k : ℕ) (places : List P) (at place : ℕ) : Type 0 where
    pub reached : at ≡ start + each * k
    pub next : place ≡ from + size * k
    pub written : places ≡ sets lent from (code (even_of each k start))

  module _ {each start from : ℕ} {lent : List P} where
    pub even_none : Even each start from lent 0 lent start from
    even_none = record { reached = omega arith; next = omega arith; written = ap (sets lent from) (sym c.none) }

    module _ {k : ℕ} {places : List P} {at place : ℕ} (v : Even each start from lent k places at place) where
      pub even_more : {after : List P} → after ≡ sets places place (code (burst_of at each)) → {following : ℕ} → following ≡ place + size
          → Even each start from lent (k + 1) after (at + each) following
      even_more e f = record {
        reached = omega (arith, v.reached, mul-suc each k);
        next = omega (arith, f, v.next, mul-suc size k);
        written = e
            ∙ ap (λ (m : List P). sets m place (code (burst_of at each))) v.written
            ∙ written_behind lent from (even_of each k start) (burst_of at each) (v.next ∙ ap (λ (x : ℕ). from + size * x) (sym (even-length each k start)))
            ∙ ap (λ (bs : List Burst). sets lent from (code bs)) (ap (λ (a : ℕ). even_of each k start ++ burst_of a each) v.reached ∙ sym (even-suc each k start) ∙ ap (λ (x : ℕ). even_of each x start) (sym (add-one k)));
      }
