-- A group of bytes by its ends: the lowest byte past the memory's end, and the lowest that a window holds.
use mathlib.Core.Path.{◌≡◌, refl, sym, ◌∙◌}
use mathlib.Core.Bool.{true}
use mathlib.Core.Logic.{◌⊎◌, inl, inr, ⊎_elim}
use mathlib.Core.List.{List}
use Prim.Native.Nat.{ℕ, ◌+◌, ◌-◌, ◌≤◌, ◌<◌, max}
use native.Mathlib.Omega.{arith}
use lib.Dec.{leb, ltb}
use borrow.Author.Tests.{le-leb, lt-leb, leb-true, leb-false, ltb-true, ltb-false}
use Rattle.kit.proofs.Choice.{yes, no, decide}
use Rattle.memory.specs.declared.window.Window.{Window}
use Rattle.memory.specs.declared.verdict.Verdict.TheVariants.{Okay, Slave, Decode}
use Rattle.memory.specs.Windows.{sick}
use Rattle.memory.specs.Verdict.{byte_of, group_of}
use Rattle.memory.specs.Good.{good_bytes}
use Rattle.memory.proofs.Verdicts.{worse-right-okay}
use Rattle.memory.proofs.GoodBytes.{good-okay, good-stops}
use Rattle.std.proofs.Common.{Some, None}
use Rattle.places.specs.Places.{lowest_in}
use Rattle.places.proofs.Lows.{at, none, lowest-at}

pub decode-bad : Decode ≡ Okay → ⊥
decode-bad e = cc

pub slave-bad : Slave ≡ Okay → ⊥
slave-bad e = cc

module _ (size : ℕ) (ws : List Window) where
  -- ---- one byte

  byte_past : (a : ℕ) → size ≤ a → byte_of size ws a ≡ Decode
  byte_past a h = sym (yes _ (le-leb size a h) refl)

  byte-sick : (a : ℕ) → a < size → sick ws a ≡ true → byte_of size ws a ≡ Slave
  byte-sick a h e = sym (no _ (lt-leb size a h) (yes _ e refl))

  -- a decode error is past the end, and a slave error is not
  decode-past : (a : ℕ) → byte_of size ws a ≡ Decode → size ≤ a
  decode-past a e = ⊎_elim (λ t. leb-true size a t)
      (λ t. ⊎_elim
      (λ u. let s : byte_of size ws a ≡ Slave = byte-sick a (leb-false size a t) u in absurd (cc))
      (λ u. let s : byte_of size ws a ≡ Okay = sym (no _ t (no _ u refl)) in absurd (cc))
      (decide (sick ws a)))
      (decide (leb size a))

  slave-inside : (a : ℕ) → byte_of size ws a ≡ Slave → a < size
  slave-inside a e = ⊎_elim
      (λ t. let s : byte_of size ws a ≡ Decode = byte_past a (leb-true size a t) in absurd (cc))
      (λ t. leb-false size a t)
      (decide (leb size a))

  -- a byte that gives a slave error lies in a window
  pub slave-sick : (a : ℕ) → byte_of size ws a ≡ Slave → sick ws a ≡ true
  slave-sick a e = ⊎_elim (λ u. u)
      (λ u. let s : byte_of size ws a ≡ Okay = sym (no _ (lt-leb size a (slave-inside a e)) (no _ u refl)) in absurd (slave-bad (sym e ∙ s)))
      (decide (sick ws a))

  -- a good byte gives no slave error
  good-not-sick : (a i : ℕ) → i < good_bytes size ws a → byte_of size ws (a + i) ≡ Slave → ⊥
  unfolding group_of
  good-not-sick a i l e =
      let okay : Okay ≡ group_of size ws (a + i) 1 = good-okay size ws a (a + i) 1 (omega arith) (omega arith) (omega arith) in
      let one : byte_of size ws (a + i) ≡ Okay = sym (okay ∙ worse-right-okay (byte_of size ws (a + i))) in
      slave-bad (sym e ∙ one)

  -- ---- n of them, from a on

  module _ (a n : ℕ) where
    pub past-none : (n ≡ 0) ⊎ (a + n ≤ size) → None ≡ lowest_in size ws Decode a n
    past-none (inl e) = lowest-at size ws Decode (λ x. x) a n decode-bad (none (λ i l g. omega arith))
    past-none (inr h) = lowest-at size ws Decode (λ x. x) a n decode-bad (none (λ i l g. omega (arith, decode-past (a + i) g)))

    pub past-first : 0 < n → size < a + n → Some (max a size) ≡ lowest_in size ws Decode a n
    past-first some l = lowest-at size ws Decode (λ x. x) a n decode-bad
        (at (max a size) (record {
          used = record { byte = max a size - a; within = omega arith; lies = omega arith };
          gives = byte_past (max a size) (omega arith);
          least = λ i m g. omega (arith, decode-past (a + i) g);
        }))

    pub sick-none : (n ≤ good_bytes size ws a) ⊎ (size ≤ a + good_bytes size ws a) → None ≡ lowest_in size ws Slave a n
    sick-none (inl h) = lowest-at size ws Slave (λ x. x) a n slave-bad (none (λ i l g. good-not-sick a i (omega arith) g))
    sick-none (inr h) = lowest-at size ws Slave (λ x. x) a n slave-bad (none (λ i l g. good-not-sick a i (omega (arith, slave-inside (a + i) g)) g))

    pub sick-first : good_bytes size ws a < n → a + good_bytes size ws a < size → Some (a + good_bytes size ws a) ≡ lowest_in size ws Slave a n
    sick-first h l = lowest-at size ws Slave (λ x. x) a n slave-bad
        (at (a + good_bytes size ws a) (record {
          used = record { byte = good_bytes size ws a; within = h; lies = refl };
          gives = byte-sick (a + good_bytes size ws a) l (good-stops size ws a l);
          least = λ i m g. not-before i g;
        }))
      where
        not-before : (i : ℕ) → byte_of size ws (a + i) ≡ Slave → a + good_bytes size ws a ≤ a + i
        not-before i g = ⊎_elim (λ t. absurd (good-not-sick a i (ltb-true i (good_bytes size ws a) t) g)) (λ t. omega (arith, ltb-false i (good_bytes size ws a) t))
            (decide (ltb i (good_bytes size ws a)))
