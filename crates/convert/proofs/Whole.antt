-- The turns of the converter make the converted trace.
use mathlib.Core.Path.{◌≡◌, refl, sym, ap, subst, ◌∙◌}
use mathlib.Core.Logic.{◌⊎◌, inl, inr}
use Prim.Native.Nat.{ℕ, ◌<◌}
use mathlib.Core.Bool.{Bool, true, false}
use mathlib.Core.List.{List, [], ◌++◌, append_assoc, append-nil}
use native.Mathlib.Omega.{arith}
use lib.ListN.{length}
use lib.Dec.{leb}
use borrow.Author.Tests.{leb-true, leb-false, not-false}
use Rattle.kit.specs.Choice.{when, either}
use Rattle.kit.proofs.Choice.{yes, no, never, neither, both_left, both_right}
use Rattle.record.specs.Starts.{settings_at, older_settings, converted_of}
use Rattle.record.proofs.Starting.{starts}
use Rattle.convert.specs.declared.copying.Copying.{Copying}
use Rattle.convert.specs.Copying.{pending_of, Fits, over_of, ready_of, going_of}
use Rattle.convert.specs.Turn.{Begins, Turn, read_in, sent_in}
use Rattle.convert.specs.Whole.{Turns, begun, turned, Taken, Converts, Reached, Complete}
use Rattle.convert.proofs.Buffer.{pending-length, read-decided, refill-fits, refill-pending}

-- ---- the converted trace, by its first bytes

converted-more : (p rest : List ℕ) → settings_at (p ++ rest) 0 ≡ settings_at p 0 → converted_of (p ++ rest) ≡ converted_of p ++ rest
converted-more p rest e = ap (λ (v : Bool). when v (p ++ rest) (older_settings ++ (p ++ rest))) e ∙ go (settings_at p 0)
  where
    go : (v : Bool) → when v (p ++ rest) (older_settings ++ (p ++ rest)) ≡ when v p (older_settings ++ p) ++ rest
    go true = refl
    go false = sym (append_assoc older_settings p rest)

-- ---- a state that cannot go, and one that goes

module _ (s : Copying) (e : ready_of s ≡ false) where
  pub waits-undecided : s.decided ≡ false
  waits-undecided = (neither s.decided _ e).0

  pub waits-unended : s.ended ≡ false
  waits-unended = (neither s.ended _ (neither s.decided _ e).1).0

  pub waits-few : s.waiting < 2
  waits-few = leb-false 2 s.waiting (neither s.ended _ (neither s.decided _ e).1).1

-- the first bytes, once they can go, convert as every trace does that starts with them
first-bytes : (s : Copying) (p rest : List ℕ) → length p ≡ s.waiting → (s.ended ≡ true → rest ≡ []) → s.decided ≡ false → ready_of s ≡ true
    → settings_at (p ++ rest) 0 ≡ settings_at p 0
first-bytes s p rest long last d e =
    go s.ended refl (subst (λ (v : Bool). either v (either s.ended (leb 2 s.waiting)) ≡ true) d e)
  where
    go : (v : Bool) → s.ended ≡ v → either v (leb 2 s.waiting) ≡ true → settings_at (p ++ rest) 0 ≡ settings_at p 0
    go true k h = ap (λ (l : List ℕ). settings_at (p ++ l) 0) (last k) ∙ ap (λ (l : List ℕ). settings_at l 0) (append-nil p)
    go false k h = starts.settled p rest 0 (omega (arith, long, leb-true 2 s.waiting h))

-- ---- over a turn

-- what holds between two turns: too little is pending to go, or nothing is
pub record Stands (s : Copying) (b read sent : List ℕ) : Type 0 where
  pub fits : Fits s b
  pub rests : (ready_of s ≡ false) ⊎ ((s.decided ≡ true) × (s.waiting ≡ 0))
  pub converts : Converts s b read sent

pub few-waiting : {s : Copying} {b read sent : List ℕ} → Stands s b read sent → s.waiting < 2
few-waiting {s} h = go h.rests
  where
    go : (ready_of s ≡ false) ⊎ ((s.decided ≡ true) × (s.waiting ≡ 0)) → s.waiting < 2
    go (inl e) = waits-few s e
    go (inr e) = omega (arith, e.1)

stands-begun : {s : Copying} {b : List ℕ} → Begins s b → Stands s b [] []
stands-begun {s} {b} t =
    record {
      fits = t.fits;
      rests = inl (ap ready_of t.is);
      converts = subst (λ (x : Copying). Converts x b [] []) (sym t.is)
          (record { before = λ _. (refl, refl); after = λ e. absurd (never e); ends = λ e. absurd (never e) });
    }

module _ {s : Copying} {b read sent : List ℕ} {r : Copying} {b' : List ℕ} (h : Stands s b read sent) (going : over_of s ≡ false) (t : Turn s b r b') where
  middle-fits : Fits t.middle b'
  middle-fits = refill-fits h.fits t.refills

  same-decided : t.middle.decided ≡ s.decided
  same-decided = ap (λ (x : Copying). x.decided) t.refills.is ∙ read-decided s t.refills.answer t.refills.interrupted

  joined : pending_of t.middle b' ≡ pending_of s b ++ read_in t
  joined = refill-pending h.fits t.refills

  unsent : t.middle.decided ≡ false → (sent ≡ []) × (read ++ read_in t ≡ pending_of t.middle b')
  unsent d =
      let e = h.converts.before (sym same-decided ∙ d) in
      (e.0, ap (λ (l : List ℕ). l ++ read_in t) e.1 ∙ sym joined)

  sent-on : t.middle.decided ≡ true → (rest : List ℕ) → converted_of ((read ++ read_in t) ++ rest) ≡ sent ++ (pending_of t.middle b' ++ rest)
  sent-on d rest =
      ap converted_of (append_assoc read (read_in t) rest)
      ∙ h.converts.after (sym same-decided ∙ d) (read_in t ++ rest) (λ k. absurd (never (sym (neither s.ended _ going).0 ∙ k)))
      ∙ ap (λ (l : List ℕ). sent ++ l) (sym (append_assoc (pending_of s b) (read_in t) rest) ∙ ap (λ (l : List ℕ). l ++ rest) (sym joined))

  waited : ready_of t.middle ≡ false → Stands r b' (read ++ read_in t) (sent ++ sent_in t)
  waited e =
      let undecided = waits-undecided t.middle e in
      let nothing : sent_in t ≡ [] = sym (no _ e refl) in
      subst (λ (x : Copying). Stands x b' (read ++ read_in t) (sent ++ sent_in t)) (sym (t.waits e))
      (record {
        fits = middle-fits;
        rests = inl e;
        converts = record {
          before = λ d. (ap (λ (l : List ℕ). l ++ sent_in t) (unsent d).0 ∙ nothing, (unsent d).1);
          after = λ d. absurd (never (sym undecided ∙ d));
          ends = λ d. absurd (never (sym (waits-unended t.middle e) ∙ d));
        };
      })

  going_on : (rest : List ℕ) → (t.middle.ended ≡ true → rest ≡ []) → ready_of t.middle ≡ true
      → converted_of ((read ++ read_in t) ++ rest) ≡ (sent ++ going_of t.middle (pending_of t.middle b')) ++ rest
  going_on rest last e = go t.middle.decided refl
    where
      p : List ℕ
      p = pending_of t.middle b'

      go : (v : Bool) → t.middle.decided ≡ v → converted_of ((read ++ read_in t) ++ rest) ≡ (sent ++ when v p (converted_of p)) ++ rest
      go true d = sent-on d rest ∙ sym (append_assoc sent p rest)
      go false d =
          ap (λ (l : List ℕ). converted_of (l ++ rest)) (unsent d).1
          ∙ converted-more p rest (first-bytes t.middle p rest (pending-length middle-fits) last d e)
          ∙ ap (λ (l : List ℕ). (l ++ converted_of p) ++ rest) (sym (unsent d).0)

  went : ready_of t.middle ≡ true → Stands r b' (read ++ read_in t) (sent ++ sent_in t)
  went e =
      let all : going_of t.middle (pending_of t.middle b') ≡ sent_in t = yes _ e refl in
      subst (λ (x : Copying). Stands x b' (read ++ read_in t) (sent ++ sent_in t)) (sym (t.goes e).is)
      (record {
        fits = record { size = middle-fits.size; older = middle-fits.older; within = omega arith };
        rests = inr (refl, refl);
        converts = record {
          before = λ d. absurd (never (sym d));
          after = λ _ rest last. going_on rest last e ∙ ap (λ (l : List ℕ). (sent ++ l) ++ rest) all;
          ends = λ _. (refl, refl);
        };
      })

  stands-turned : Stands r b' (read ++ read_in t) (sent ++ sent_in t)
  stands-turned = go (ready_of t.middle) refl
    where
      go : (v : Bool) → ready_of t.middle ≡ v → Stands r b' (read ++ read_in t) (sent ++ sent_in t)
      go true e = went e
      go false e = waited e

pub stands : {s : Copying} {b read sent : List ℕ} → Turns s b read sent → Stands s b read sent
stands (begun t) = stands-begun t
stands (turned h going t) = stands-turned (stands h) going t

-- ---- the whole

-- what the loop keeps: its turns
pub record Runs (s : Copying) (b : List ℕ) : Type 0 where
  pub read : List ℕ
  pub sent : List ℕ
  pub turns : Turns s b read sent

pub runs-reached : {s : Copying} {b : List ℕ} → Runs s b → Reached s b
runs-reached h = record { read = h.read; sent = h.sent; turns = h.turns; converts = (stands h.turns).converts }

-- a turn follows only if the writes before it were taken
all-taken : {s : Copying} {b read sent : List ℕ} (h : Turns s b read sent) → s.taken ≡ true → Taken h
all-taken (begun t) e = tt
all-taken (turned {s} h going t) e =
    let before : s.taken ≡ true = not-false s.taken (neither s.failed _ (neither s.ended _ going).1).1 in
    (all-taken h before, λ k. sym (ap (λ (x : Copying). x.taken) (t.goes k).is) ∙ e)

pub complete : Complete
complete s b h done =
    let last = h.converts.ends (both_right s.taken s.ended done) in
    let whole =
    ap converted_of (sym (append-nil h.read)) ∙ h.converts.after last.0 [] (λ _. refl)
    ∙ ap (λ (l : List ℕ). h.sent ++ (l ++ [])) last.1 ∙ append-nil h.sent in
    (sym whole, all-taken h.turns (both_left s.taken s.ended done))
