-- The claims of specs/Claims.antt.
use Rattle.std.specs.Prelude.{Result, Ok, Err}
use mathlib.Core.Path.{◌≡◌, refl, sym, ap, ap₂, subst, ◌∙◌}
use Prim.Native.Nat.{ℕ, ◌+◌, ◌*◌, ◌/◌, ◌%◌, ◌≤◌, ◌<◌, ◌^◌}
use mathlib.Core.List.{List, [], ◌∷◌, ◌++◌}
use lib.ListN.{length, drop}
use lib.Seq.{sets, sets-eq, length-sets, drop-append_seam}
use native.Mathlib.Nat.{zero-add}
use native.Mathlib.Omega.{arith}
use borrow.Author.Tests.{ne_eqb, eqb-false}
use Rattle.kit.specs.Word.{joined}
use Rattle.kit.proofs.Choice.{no}
use Rattle.kit.proofs.Legal.{legal}
use Rattle.kit.specs.declared.answer.Refusal.{Refusal}
use Rattle.kit.proofs.Numbers.{refusal-tells, refusal-some}
use Rattle.cut.specs.declared.Burst.{Burst}
use Rattle.cut.specs.Cut.{cut}
use Rattle.cut.specs.Legal.{Tiles, stop, WellCut}
use Rattle.cut.proofs.Shortest.{well-cut}
use Rattle.plan.specs.Plan.{Measured, measure_of, places_of, Plan, written, seen}
use Rattle.plan.specs.Spelling.{little, places_spelling, little_spelling}
use Rattle.plan.specs.Claims.{bursts_in, bursts_in_bytes, WellPlanned, Unchanged, Claims, Unique}
use Rattle.plan.proofs.Planning.{Planable, planable, refused_none}
use Rattle.plan.proofs.Counting.{count_fits}

-- ---- bursts read back from what is written

places-back : (bursts : List Burst) (after : List ℕ) → bursts_in (length bursts) (places_of bursts ++ after) ≡ bursts
places-back [] after = refl
places-back (b ∷ more) after = ap (λ (r : List Burst). b ∷ r) (places-back more after)

word_back : (v : ℕ) → v < 2 ^ 32 → joined (v % 256) (v / 256 % 256) (v / 65536 % 256) (v / 16777216 % 256) ≡ v
word_back v h =
    let p : v / 65536 ≡ v / 256 / 256 = omega arith in
    let q : v / 16777216 ≡ v / 65536 / 256 = omega arith in
    let r : v / 16777216 % 256 ≡ v / 16777216 = omega arith in
    let s : v / 65536 % 256 + 256 * (v / 16777216) ≡ v / 65536 = omega arith in
    let t : v / 256 % 256 + 256 * (v / 65536) ≡ v / 256 = omega arith in
    omega arith

tiles-rise : (a e : ℕ) (bursts : List Burst) → Tiles a e bursts → a ≤ e
tiles-rise a e [] t = omega arith
tiles-rise a e (b ∷ more) (s, _, t) = let p = tiles-rise (stop b) e more t in omega arith

little-back : (a e : ℕ) → e ≤ 2 ^ 32 → e < a + 2 ^ 32 → (bursts : List Burst) → Tiles a e bursts → (after : List ℕ) → bursts_in_bytes (length bursts) (little bursts ++ after) ≡ bursts
little-back a e h i [] t after = refl
little-back a e h i (b ∷ more) (s, some, t) after =
    let p = tiles-rise (stop b) e more t in
    let first : bursts_in_bytes 1 (little (b ∷ [])) ≡ b ∷ [] =
    λ k. record { start = word_back b.start (omega arith) k; bytes = word_back b.bytes (omega arith) k } ∷ [] in
    ap₂ (λ (x y : List Burst). x ++ y) first (little-back (stop b) e h (omega arith) more t after)

-- ---- what is written, and what is not

module _ (code : List Burst → List ℕ) (read : ℕ → List ℕ → List Burst) (size w l start count room : ℕ) (places : List ℕ) where
  well-planned : Planable w l start count room
      → ((bursts : List Burst) → length (code bursts) ≡ size * length bursts)
      → (Tiles start (start + count) (cut w l start (start + count)) → (after : List ℕ)
      → read (length (cut w l start (start + count))) (code (cut w l start (start + count)) ++ after) ≡ cut w l start (start + count))
      → size * length (cut w l start (start + count)) ≤ length places
      → let p = written (measure_of w l start count room) (code (cut w l start (start + count))) places in
      WellPlanned w l start count (size * p.bursts) (read p.bursts p.places) places p.places
  well-planned p sized back fits =
      let bursts = cut w l start (start + count) in
      let g = legal w l p.legal in
      let c = well-cut w l g.width_positive g.beats-positive start (start + count) (omega arith) in
      let values = code bursts in
      let n : length values ≡ size * length bursts = sized bursts in
      let laid : sets places 0 values ≡ values ++ drop (length values) places =
      sets-eq values places 0 (omega arith) ∙ ap (λ (k : ℕ). values ++ drop k places) (zero-add (length values)) in
      let same : read (length bursts) (sets places 0 values) ≡ bursts =
      ap (read (length bursts)) laid ∙ back c.tiles (drop (length values) places) in
      subst (λ (m : Measured). WellPlanned w l start count (size * m.bursts) (read m.bursts (written m values places).places) places (written m values places).places)
      (sym p.counted)
      (record {
        well-cut = subst (WellCut w l start (start + count)) (sym same) c;
        room = fits;
        kept = length-sets places 0 values;
        others = ap (drop (size * length bursts)) laid
            ∙ ap (λ (k : ℕ). drop k (values ++ drop (length values) places)) (sym n)
            ∙ drop-append_seam values (drop (length values) places) ∙ ap (λ (k : ℕ). drop k places) n;
      })

module _ (w l start count room : ℕ) (values places : List ℕ) where
  unchanged : ((measure_of w l start count room).answer ≡ 0 → ⊥) → Unchanged (written (measure_of w l start count room) values places) places
  unchanged h = record {
    none = refused_none w l start count room h;
    kept = sym (no (sets places 0 values) (ne_eqb (measure_of w l start count room).answer 0 h) refl);
  }

pub plan-claims : Claims
plan-claims = record {
  plan = λ w l start count places e.
      let p = planable w l start count (length places) e in
      well-planned places_of bursts_in 2 w l start count (length places) places p places_spelling.sized
      (λ _ after. places-back (cut w l start (start + count)) after) p.fits;
  plan-bytes = λ w l start count places e.
      let p = planable w l start count (length places / 4) e in
      well-planned little bursts_in_bytes 8 w l start count (length places / 4) places p little_spelling.sized
      (λ t after. little-back start (start + count) p.range.inside (let r = p.range in omega arith) (cut w l start (start + count)) t after) (let f = p.fits in omega arith);
  plan-refused = λ w l start count places h. unchanged w l start count (length places) (places_of (cut w l start (start + count))) places h;
  plan-bytes-refused = λ w l start count places h. unchanged w l start count (length places / 4) (little (cut w l start (start + count))) places h;
  count = λ w l start count room. count_fits w l start count room;
}

-- ---- uniqueness

same-plan : {p q : Result ℕ Refusal} {a b : List ℕ} {x : Plan} → seen p a ≡ x → seen q b ≡ x → (p ≡ q) × (a ≡ b)
same-plan {p} {q} {a} {b} e f = let same : seen p a ≡ seen q b = e ∙ sym f in (go p q same, ap (λ (y : Plan). y.places) same)
  where
    go : (p q : Result ℕ Refusal) → seen p a ≡ seen q b → p ≡ q
    go (Ok n) (Ok k) e = ap Ok (ap (λ (y : Plan). y.bursts) e)
    go (Err r) (Err t) e = ap Err (refusal-tells (ap (λ (y : Plan). y.answer) e))
    go (Ok n) (Err t) e = absurd (eqb-false _ 0 (refusal-some t) (sym (ap (λ (y : Plan). y.answer) e)))
    go (Err r) (Ok k) e = absurd (eqb-false _ 0 (refusal-some r) (ap (λ (y : Plan). y.answer) e))

-- a measure, as the plan of an empty slice
bare : Measured → Plan
bare m = record { answer = m.answer; bursts = m.bursts; places = [] }

pub plan-unique : Unique
unfolding bare
plan-unique = record {
  measure = λ w l start count room p q e f. (same-plan (ap bare e) (ap bare f)).0;
  count = λ w l start count p q e f. (same-plan (ap bare e) (ap bare f)).0;
  plan = λ w l start count places a b p q e f. same-plan e f;
  plan-bytes = λ w l start count places a b p q e f. same-plan e f;
}
