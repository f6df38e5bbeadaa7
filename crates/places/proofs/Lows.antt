-- Laws of `lowest_of`: what it finds is the lowest place, and there is one lowest place only.
use mathlib.Core.Path.{◌≡◌, refl, sym, ap, ap₂, subst, ◌∙◌}
use mathlib.Core.Bool.{Bool, true, false}
use mathlib.Core.List.{List}
use Prim.Native.Nat.{ℕ, zero, suc, ◌+◌, ◌≤◌, ◌<◌}
use native.Mathlib.Omega.{arith, min_cases}
use native.Mathlib.Nat.{not-suc-le-zero, add-zero}
use Rattle.kit.specs.Choice.{when}
use Rattle.kit.proofs.Choice.{cases, never}
use Rattle.memory.specs.declared.window.Window.{Window}
use Rattle.memory.specs.declared.verdict.Verdict.{Verdict}
use Rattle.memory.specs.declared.verdict.Verdict.TheVariants.{Okay, Slave, Decode}
use Rattle.memory.specs.Verdict.{byte_of}
use Rattle.sides.proofs.Places.{Along, over, along-head, along-tail}
use Rattle.std.proofs.Common.{Option, Some, None}
use Rattle.places.specs.Places.{same_error, given_by, lower, lowest_of}
use Rattle.places.specs.Claims.{Used, Without, Lowest}

pub same_true : (u v : Verdict) → same_error u v ≡ true → u ≡ v
same_true Okay v e = absurd (never e)
same_true Slave Okay e = absurd (never e)
same_true Slave Slave e = refl
same_true Slave Decode e = absurd (never e)
same_true Decode Okay e = absurd (never e)
same_true Decode Slave e = absurd (never e)
same_true Decode Decode e = refl

pub same_false : (u v : Verdict) → (v ≡ Okay → ⊥) → same_error u v ≡ false → u ≡ v → ⊥
same_false Okay v some e f = some (sym f)
same_false Slave Okay some e f = some refl
same_false Slave Slave some e f = never (sym e)
same_false Slave Decode some e f = cc
same_false Decode Okay some e f = some refl
same_false Decode Slave some e f = cc
same_false Decode Decode some e f = never (sym e)

same-okay : (u : Verdict) → same_error u Okay ≡ false
same-okay Okay = refl
same-okay Slave = refl
same-okay Decode = refl

module _ (size : ℕ) (ws : List Window) (v : Verdict) where
  -- what may be found of n bytes from byte k on
  pub data Finds (place : ℕ → ℕ) (k n : ℕ) : Option ℕ → Type 0 where
    at : (a : ℕ) → Lowest size ws v place k n a → Finds place k n (Some a)
    none : Without size ws v place k n → Finds place k n None

  module _ (place : ℕ → ℕ) (k n : ℕ) where
    -- one byte more, in front
    first-used : Used place k (suc n) (place k)
    first-used = record { byte = 0; within = omega arith; lies = ap place (add-zero k) }

    later-used : {a : ℕ} → Used place (suc k) n a → Used place k (suc n) a
    later-used u = record { byte = suc u.byte; within = omega (arith, u.within); lies = ap place (sym (over k u.byte)) ∙ u.lies }

    -- what holds of the first byte and of the later ones holds of all
    each : (P : ℕ → Type 0) → P (place k) → ((i : ℕ) → i < n → P (place (suc k + i))) → (i : ℕ) → i < suc n → P (place (k + i))
    each P first later zero l = subst (λ (x : ℕ). P (place x)) (sym (add-zero k)) first
    each P first later (suc i) l = subst (λ (x : ℕ). P (place x)) (over k i) (later i (omega arith))

    module _ (some : v ≡ Okay → ⊥) where
      first_gives : same_error (byte_of size ws (place k)) v ≡ true → {p : Option ℕ} → Finds place (suc k) n p → Finds place k (suc n) (lower (Some (place k)) p)
      first_gives e (at b h) =
          min_cases (place k) b _
          (λ l q. subst (λ (x : ℕ). Finds place k (suc n) (Some x)) (sym q)
          (at (place k) (record {
            used = first-used;
            gives = same_true (byte_of size ws (place k)) v e;
            least = each (λ (x : ℕ). byte_of size ws x ≡ v → place k ≤ x) (λ _. omega arith) (λ i m g. omega (arith, h.least i m g));
          })))
          (λ l q. subst (λ (x : ℕ). Finds place k (suc n) (Some x)) (sym q)
          (at b (record {
            used = later-used h.used;
            gives = h.gives;
            least = each (λ (x : ℕ). byte_of size ws x ≡ v → b ≤ x) (λ _. l) h.least;
          })))
      first_gives e (none h) =
          at (place k) (record {
            used = first-used;
            gives = same_true (byte_of size ws (place k)) v e;
            least = each (λ (x : ℕ). byte_of size ws x ≡ v → place k ≤ x) (λ _. omega arith) (λ i m g. absurd (h i m g));
          })

      first-gives-not : same_error (byte_of size ws (place k)) v ≡ false → {p : Option ℕ} → Finds place (suc k) n p → Finds place k (suc n) p
      first-gives-not e (at b h) =
          at b (record {
            used = later-used h.used;
            gives = h.gives;
            least = each (λ (x : ℕ). byte_of size ws x ≡ v → b ≤ x) (λ g. absurd (same_false (byte_of size ws (place k)) v some e g)) h.least;
          })
      first-gives-not e (none h) =
          none (each (λ (x : ℕ). byte_of size ws x ≡ v → ⊥) (same_false (byte_of size ws (place k)) v some e) h)

  pub finds : (place : ℕ → ℕ) (k n : ℕ) → (v ≡ Okay → ⊥) → Finds place k n (lowest_of size ws v place k n)
  unfolding lowest_of
  finds place k zero some = none (λ i l. absurd (not-suc-le-zero l))
  finds place k (suc n) some =
      let rest = finds place (suc k) n some in
      cases (λ (p : Option ℕ). Finds place k (suc n) (lower p (lowest_of size ws v place (suc k) n))) (same_error (byte_of size ws (place k)) v)
      (λ e. first_gives place k n some e rest) (λ e. first-gives-not place k n some e rest)

  pub only-lowest : (place : ℕ → ℕ) (k n a b : ℕ) → Lowest size ws v place k n a → Lowest size ws v place k n b → a ≡ b
  only-lowest place k n a b g h =
      let below : a ≤ b = subst (λ (x : ℕ). a ≤ x) h.used.lies (g.least h.used.byte h.used.within (ap (byte_of size ws) h.used.lies ∙ h.gives)) in
      let above : b ≤ a = subst (λ (x : ℕ). b ≤ x) g.used.lies (h.least g.used.byte g.used.within (ap (byte_of size ws) g.used.lies ∙ g.gives)) in
      omega arith

  -- bytes without v have no lowest that gives it
  pub without-none : (place : ℕ → ℕ) (k n a : ℕ) → Without size ws v place k n → Lowest size ws v place k n a → ⊥
  without-none place k n a h g = h g.used.byte g.used.within (ap (byte_of size ws) g.used.lies ∙ g.gives)

  -- one place fits only
  pub finds-one : (place : ℕ → ℕ) (k n : ℕ) {p q : Option ℕ} → Finds place k n p → Finds place k n q → p ≡ q
  finds-one place k n (at a g) (at b h) = ap Some (only-lowest place k n a b g h)
  finds-one place k n (at a g) (none h) = absurd (without-none place k n a h g)
  finds-one place k n (none g) (at b h) = absurd (without-none place k n b g h)
  finds-one place k n (none g) (none h) = refl

  pub lowest-at : (place : ℕ → ℕ) (k n : ℕ) {p : Option ℕ} → (v ≡ Okay → ⊥) → Finds place k n p → p ≡ lowest_of size ws v place k n
  lowest-at place k n some h = finds-one place k n h (finds place k n some)

  -- the same places
  pub lowest-along : (place : ℕ → ℕ) (k : ℕ) (other : ℕ → ℕ) (j n : ℕ) → Along place k other j n
      → lowest_of size ws v place k n ≡ lowest_of size ws v other j n
  unfolding lowest_of
  lowest-along place k other j zero h = refl
  lowest-along place k other j (suc n) h =
      ap₂ (λ (x : ℕ) (p : Option ℕ). lower (given_by size ws v x) p) (along-head place k other j n h) (lowest-along place (suc k) other (suc j) n (along-tail place k other j n h))

pub okay-nothing : (size : ℕ) (ws : List Window) (place : ℕ → ℕ) (k n : ℕ) → lowest_of size ws Okay place k n ≡ None
unfolding lowest_of
okay-nothing size ws place k zero = refl
okay-nothing size ws place k (suc n) =
    ap₂ (λ (t : Bool) (p : Option ℕ). lower (when t (Some (place k)) None) p) (same-okay (byte_of size ws (place k))) (okay-nothing size ws place (suc k) n)
