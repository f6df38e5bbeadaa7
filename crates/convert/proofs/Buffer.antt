-- The pending bytes in the buffer.
use mathlib.Core.Path.{◌≡◌, refl, sym, ap, subst, ◌∙◌}
use Prim.Native.Nat.{ℕ, ◌+◌, ◌-◌, ◌≤◌}
use mathlib.Core.Bool.{Bool, true, false}
use mathlib.Core.List.{List, ◌++◌, append-nil}
use native.Mathlib.Omega.{arith}
use lib.ListN.{length, take, drop, length-drop}
use lib.Seq.{length-take-le, take-take, take-add, drop-drop, drop_at}
use lib.IntN.{ℤ, pos, negsuc}
use Rattle.kit.specs.Choice.{when}
use Rattle.kit.specs.Reading.{Moved}
use Rattle.record.specs.Starts.{settings_at, older_settings}
use Rattle.convert.specs.declared.copying.Copying.{Copying}
use Rattle.convert.specs.Copying.{room, front, pending_of, Fits, after_read, going_of, first_of}
use Rattle.convert.specs.Turn.{Refills, delivered_by}

pub pending-length : {s : Copying} {b : List ℕ} → Fits s b → length (pending_of s b) ≡ s.waiting
pending-length {s} {b} fits = length-take-le s.waiting (drop front b) (omega (arith, fits.within, fits.size, length-drop front b))

-- ---- a read

read-within : (s : Copying) (answer : ℤ) (interrupted : Bool) → front + s.waiting ≤ room → Moved (room - (front + s.waiting)) answer
    → front + (after_read s answer interrupted).waiting ≤ room
read-within s (pos n) interrupted h moved = omega (arith, moved)
read-within s (negsuc n) interrupted h moved = h

pub read-decided : (s : Copying) (answer : ℤ) (interrupted : Bool) → (after_read s answer interrupted).decided ≡ s.decided
read-decided s (pos n) interrupted = refl
read-decided s (negsuc n) interrupted = refl

-- the bytes after the front of the buffer's first
after_front : (n : ℕ) (l : List ℕ) → front ≤ length l → drop front (take (front + n) l) ≡ take n (drop front l)
after_front n l h = ap (drop front) (take-add front n l) ∙ drop_at (take front l) (take n (drop front l)) front (length-take-le front l h)

module _ {s : Copying} {b : List ℕ} {r : Copying} {b' : List ℕ} (fits : Fits s b) (t : Refills s b r b') where
  pub refill-fits : Fits r b'
  refill-fits =
      record {
        size = t.size;
        older = sym (take-take front (front + s.waiting) b' (omega arith)) ∙ ap (take front) t.kept
            ∙ take-take front (front + s.waiting) b (omega arith) ∙ fits.older;
        within = subst (λ (x : Copying). front + x.waiting ≤ room) (sym t.is) (read-within s t.answer t.interrupted fits.within t.moved);
      }

  kept-pending : take s.waiting (drop front b') ≡ pending_of s b
  kept-pending =
      sym (after_front s.waiting b' (omega (arith, t.size))) ∙ ap (drop front) t.kept
      ∙ after_front s.waiting b (omega (arith, fits.size))

  -- the bytes that were read come after those that were pending
  pub refill-pending : pending_of r b' ≡ pending_of s b ++ delivered_by t.answer s b'
  refill-pending = ap (λ (x : Copying). pending_of x b') t.is ∙ go t.answer
    where
      go : (answer : ℤ) → pending_of (after_read s answer t.interrupted) b' ≡ pending_of s b ++ delivered_by answer s b'
      go (pos n) =
          take-add s.waiting n (drop front b')
          ∙ ap (λ (l : List ℕ). take s.waiting (drop front b') ++ take n l) (drop-drop s.waiting front b')
          ∙ ap (λ (l : List ℕ). l ++ take n (drop (front + s.waiting) b')) kept-pending
      go (negsuc n) = kept-pending ∙ sym (append-nil (pending_of s b))

-- ---- a write

-- the buffer's part from the first byte on holds the bytes that go
pub going-part : {s : Copying} {b : List ℕ} → Fits s b
    → let p = pending_of s b in take (front + s.waiting - first_of s p) (drop (first_of s p) b) ≡ going_of s p
going-part {s} {b} fits = decided s.decided
  where
    p : List ℕ
    p = pending_of s b

    part : ℕ → List ℕ
    part from = take (front + s.waiting - from) (drop from b)

    without : part front ≡ p
    without = let same : front + s.waiting - front ≡ s.waiting = omega arith in ap (λ (n : ℕ). take n (drop front b)) same

    with-older : part 0 ≡ older_settings ++ p
    with-older =
        let same : front + s.waiting - 0 ≡ front + s.waiting = omega arith in
        ap (λ (n : ℕ). take n b) same ∙ take-add front s.waiting b ∙ ap (λ (l : List ℕ). l ++ p) fits.older

    starts : (v : Bool) → part (when v front 0) ≡ when v p (older_settings ++ p)
    starts true = without
    starts false = with-older

    decided : (v : Bool) → part (when v front (when (settings_at p 0) front 0)) ≡ when v p (when (settings_at p 0) p (older_settings ++ p))
    decided true = without
    decided false = starts (settings_at p 0)
