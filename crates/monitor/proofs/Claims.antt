-- The claims of specs/Claims.antt.
use mathlib.Core.Path.{◌≡◌, refl, sym, ap, ap₂, subst, ◌∙◌}
use mathlib.Core.Bool.{Bool, true, false, ◌&&◌, not, and-false}
use mathlib.Core.List.{List, [], ◌∷◌}
use mathlib.Core.Logic.{◌⊎◌, inl, inr}
use Prim.Native.Nat.{ℕ, ◌^◌, ◌<◌}
use native.Mathlib.Nat.{eq-zero-or-pos, not-suc-le-zero}
use native.Mathlib.Omega.{arith}
use lib.Dec.{eqb, lit<}
use borrow.Author.Tests.{eq-eqb, ne_eqb, eqb-true}
use Rattle.kit.specs.Settings.{among}
use Rattle.kit.proofs.Choice.{yes, no, cases, never}
use Rattle.std.specs.Prelude.{Result, Ok, Err, ⊤}
use Rattle.kit.specs.Answer.{number_of}
use Rattle.kit.specs.declared.answer.Refusal.{Refusal}
use Rattle.kit.proofs.Numbers.{number-tells, refusal-tells}
use Rattle.monitor.specs.declared.clock.Clock.{Clock}
use Rattle.monitor.specs.declared.monitor.Monitor.{Monitor}
use Rattle.monitor.specs.declared.monitor.Clocked.{Clocked}
use Rattle.monitor.specs.Monitor.{fresh_of, flags_of, snapshot_of, clock_of, lowest_of, seen}
use Rattle.monitor.specs.Claims.{Up, Down, after, all_out_of_reset, flag_numbers, Claims, Unique}
use Rattle.monitor.proofs.Bits.{bit-none, ones-standing, trailing-up, trailing-first}
use Rattle.monitor.proofs.Tables.{raise-bit, raised, flags-cases, raised-le, raised-up, raised-known, raised_lt}

-- what each clock keeps, all clocks keep
always : (P : Monitor → Type 0) (width : ℕ) → ((m : Monitor) (c : Clock) → P m → P (clock_of m width c)) → (m : Monitor) (cs : List Clock) → P m → P (after m width cs)
always P width step m [] h = h
always P width step m (c ∷ cs) h = always P width step (clock_of m width c) cs (step m c h)

apart : (t u : Bool) → (t && u) ≡ true → (t ≡ true) × (u ≡ true)
apart true u e = (refl, e)
apart false u e = absurd (never e)

-- what each clock out of reset keeps, clocks out of reset keep
meanwhile : (P : Monitor → Type 0) (width : ℕ) → ((m : Monitor) (c : Clock) → c.aresetn ≡ true → P m → P (clock_of m width c)) → (m : Monitor) (cs : List Clock)
    → all_out_of_reset cs ≡ true → P m → P (after m width cs)
meanwhile P width step m [] e h = h
meanwhile P width step m (c ∷ cs) e h =
    let r = apart c.aresetn (all_out_of_reset cs) e in
    meanwhile P width step (clock_of m width c) cs r.1 (step m c r.0 h)

-- ---- one clock

module _ (m : Monitor) (width : ℕ) (c : Clock) where
  module _ (e : c.aresetn ≡ true) where
    out-of-reset : (P : ℕ → Type 0) → P (raised m width c) → P (flags_of m width c)
    out-of-reset P h = flags-cases P m width c (λ f. absurd (never (sym f ∙ e))) (λ _. h)

    stay : (n : ℕ) → Up n m.flags → Up n (flags_of m width c)
    stay n h = out-of-reset (λ f. Up n f) (raised-up n m width c h)

    some_stay : (m.flags ≡ 0 → ⊥) → flags_of m width c ≡ 0 → ⊥
    some_stay n = out-of-reset (λ f. f ≡ 0 → ⊥) (λ z. n (omega (arith, raised-le m width c)))

    take : (f : ℕ) → m.flags ≡ 0 → (f ≡ 0 → ⊥) → snapshot_of m f c ≡ f
    unfolding snapshot_of
    take f z n = sym (yes _ e (yes _ (ap₂ ◌&&◌ (eq-eqb m.flags 0 z) (ap not (ne_eqb f 0 n))) refl))

    keep : (f : ℕ) → (m.flags ≡ 0 → ⊥) → snapshot_of m f c ≡ m.snapshot
    unfolding snapshot_of
    keep f n = sym (yes _ e (no _ (ap (λ t. t && not (eqb f 0)) (ne_eqb m.flags 0 n)) refl))

    wait : (f : ℕ) → f ≡ 0 → snapshot_of m f c ≡ m.snapshot
    unfolding snapshot_of
    wait f z = sym (yes _ e (no _ (ap (λ t. eqb m.flags 0 && not t) (eq-eqb f 0 z) ∙ and-false (eqb m.flags 0)) refl))

  clear : c.aresetn ≡ false → (flags_of m width c ≡ 0) × (snapshot_of m (flags_of m width c) c ≡ 0)
  unfolding flags_of snapshot_of
  clear e = (sym (no _ e refl), sym (no _ e refl))

snap : (m : Monitor) (width : ℕ) (c : Clock) (cs : List Clock) → all_out_of_reset (c ∷ cs) ≡ true → m.flags ≡ 0 → (flags_of m width c ≡ 0 → ⊥)
    → (after m width (c ∷ cs)).snapshot ≡ flags_of m width c
snap m width c cs e z n =
    let r = apart c.aresetn (all_out_of_reset cs) e in
    (meanwhile (λ k. (k.flags ≡ 0 → ⊥) × (k.snapshot ≡ flags_of m width c)) width
    (λ k d f h. (some_stay k width d f h.0, keep k width d f (flags_of k width d) h.0 ∙ h.1)) (clock_of m width c) cs r.1
    (n, take m width c r.0 (flags_of m width c) z n)).1

-- ---- clocks from a fresh monitor on

know : (width : ℕ) (cs : List Clock) (n : ℕ) → among n flag_numbers ≡ false → Down n (after fresh_of width cs).flags
know width cs n a =
    always (λ m. Down n m.flags) width
    (λ m c h. flags-cases (λ f. Down n f) m width c (λ _. bit-none n) (λ _. raised-known n m width c a h)) fresh_of cs (bit-none n)

fit : (width : ℕ) (cs : List Clock) → (after fresh_of width cs).flags < 2 ^ 64
fit width cs =
    always (λ m. m.flags < 2 ^ 64) width (λ m c h. flags-cases (λ f. f < 2 ^ 64) m width c (λ _. lit< tt) (λ _. raised_lt m width c h)) fresh_of cs (lit< tt)

-- ---- the lowest flag

low_up : (m : Monitor) → m.flags < 2 ^ 64 → (m.flags ≡ 0 → ⊥) → Up (lowest_of m) m.flags
low_up m h n =
    cases (λ l. Up l m.flags) (eqb m.flags 0) (λ e. absurd (n (eqb-true m.flags 0 e))) (λ _. trailing-up 64 m.flags h n)

low_first : (m : Monitor) (n : ℕ) → n < lowest_of m → Down n m.flags
low_first m n =
    cases (λ l. n < l → Down n m.flags) (eqb m.flags 0) (λ _ l. absurd (not-suc-le-zero l)) (λ _ l. trailing-first 64 m.flags n l)

low-some : (width : ℕ) (cs : List Clock) → lowest_of (after fresh_of width cs) ≡ 0 → (after fresh_of width cs).flags ≡ 0
low-some width cs e = go (eq-zero-or-pos (after fresh_of width cs).flags)
  where
    m : Monitor
    m = after fresh_of width cs

    go : (m.flags ≡ 0) ⊎ (0 < m.flags) → m.flags ≡ 0
    go (inl z) = z
    go (inr p) =
        let up : Up 0 m.flags = subst (λ (l : ℕ). Up l m.flags) e (low_up m (fit width cs) (λ z. omega arith)) in
        omega (arith, know width cs 0 refl)

pub claims : Claims
claims = record {
  raised = raise-bit;
  stays = λ m width cs n e h. meanwhile (λ k. Up n k.flags) width (λ k c f u. stay k width c f n u) m cs e h;
  clears = clear;
  keeps = snap;
  waits = λ m width c e z. wait m width c e (flags_of m width c) z;
  known = know;
  unused = λ width cs. (know width cs 40 refl, know width cs 51 refl);
  fits = fit;
  counts = λ m h. ones-standing 64 m.flags h;
  lowest-up = low_up;
  lowest-first = low_first;
  lowest-none = λ m z. sym (yes _ (eq-eqb m.flags 0 z) refl);
  lowest-some = low-some;
}

-- ---- one result to a contract

one {ℓ} : {A : Type ℓ} {x r s : A} → r ≡ x → s ≡ x → r ≡ s
one p q = p ∙ sym q

-- done has the number 0, and no refusal has
done : (refusal : Refusal) → 0 ≡ number_of refusal → ⊥
done refusal e = let no-refusal : ◌≡◌ {A = Result ⊤ Refusal} (Ok tt) (Err refusal) = number-tells {a = Ok tt} {b = Err refusal} e in cc

one-clocked : (m : Monitor) (r s : Result Clocked Refusal) → seen m r ≡ seen m s → r ≡ s
one-clocked m (Ok a) (Ok b) e = λ i. Ok (record { count = (e i).count; monitor = (e i).monitor })
one-clocked m (Ok a) (Err b) e = absurd (done b (λ i. (e i).number))
one-clocked m (Err a) (Ok b) e = absurd (done a (λ i. (sym e i).number))
one-clocked m (Err a) (Err b) e = ap Err (refusal-tells (λ i. (e i).number))

pub unique : Unique
unique = record {
  in-range = λ c r s. one;
  fresh = λ r s. one;
  count = λ m r s. one;
  lowest = λ m r s. one;
  bus-clock = λ m width beats c r s p q. one-clocked m r s (one p q);
}
