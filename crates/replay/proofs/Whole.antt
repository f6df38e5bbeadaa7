-- The turns of the program are a replay of the trace.
use mathlib.Core.Path.{◌≡◌, refl, sym, ap, subst, ◌∙◌}
use Prim.Native.Nat.{ℕ, ◌+◌, ◌-◌, ◌*◌, ◌^◌, ◌≤◌, ◌<◌}
use mathlib.Core.Bool.{Bool, true, false}
use mathlib.Core.List.{List, [], ◌++◌, append_assoc}
use native.Mathlib.Omega.{arith}
use lib.ListN.{length, take, drop, length-append, length-drop}
use lib.Seq.{length-take-le, drop_at, take-add, drop-drop}
use lib.IntN.{ℤ, pos, negsuc}
use lib.Dec.{eqb, ltb}
use borrow.Author.Tests.{eqb-true, le-ltb}
use Rattle.kit.specs.Choice.{when}
use Rattle.kit.proofs.Choice.{never}
use Rattle.session.specs.declared.Mode.{Mode}
use Rattle.session.specs.declared.Mode.TheVariants.{Start, Records, Steps, Over}
use Rattle.session.specs.declared.Session.{Session}
use Rattle.state.specs.declared.engine.Engine.{Engine}
use Rattle.session.specs.Pass.{ready_of}
use Rattle.listing.specs.Line.{header_of}
use Rattle.whole.specs.Listing.{start_memory, start_windows, Replays, begun, passed}
use Rattle.whole.proofs.Listing.{listing}
use Rattle.record.specs.Claims.{longest}
use Rattle.flow.specs.declared.flow.Flow.{Flow}
use Rattle.flow.specs.Flow.{room, left_of, pending, Fits, opened_of, wants_of, after_read, finished_of, after_pass}
use Rattle.flow.specs.Input.{Refills}
use Rattle.replay.specs.Turn.{Begins, Forwards, Flows}
use Rattle.replay.specs.Whole.{Reached, Complete}
use Rattle.flow.proofs.Pending.{pending-length, read-front, refill-fits}
use Rattle.replay.proofs.Places.{used-within, flow-fits, flow-place}

pub opened-reached : (sent : Bool) (b : List ℕ) → Reached (opened_of sent) b start_memory start_windows
opened-reached sent b = record { used = []; text = header_of; place = refl; replays = λ rest last. begun }

-- more bytes pending: the replay is of each trace that starts with them too
more-reached : {f : Flow} {b m w : List ℕ} (r : Flow) (b' more : List ℕ) → Reached f b m w → f.ended ≡ false
    → r.session ≡ f.session → r.other ≡ f.other → r.position ≡ f.position → pending r b' ≡ pending f b ++ more → Reached r b' m w
more-reached {f} {b} {m} {w} r b' more h going session other place e =
    record {
      used = h.used;
      text = h.text;
      place = h.place ∙ sym place;
      replays = λ rest last. subst (λ (s : Session). Replays (h.used ++ (pending r b' ++ rest)) r.position s r.other m w h.text) (sym session)
          (subst (λ (o : Engine). Replays (h.used ++ (pending r b' ++ rest)) r.position f.session o m w h.text) (sym other)
          (subst (λ (n : ℕ). Replays (h.used ++ (pending r b' ++ rest)) n f.session f.other m w h.text) (sym place)
          (subst (λ (l : List ℕ). Replays (h.used ++ l) f.position f.session f.other m w h.text)
          (sym (append_assoc (pending f b) more rest) ∙ ap (λ (l : List ℕ). l ++ rest) (sym e))
          (h.replays (more ++ rest) (λ k. absurd (never (sym going ∙ k)))))));
    }

-- the same bytes pending
same-reached : {f : Flow} {b m w : List ℕ} (r : Flow) (b' : List ℕ) → Reached f b m w
    → r.session ≡ f.session → r.other ≡ f.other → r.position ≡ f.position → r.ended ≡ f.ended → pending r b' ≡ pending f b → Reached r b' m w
same-reached {f} {b} {m} {w} r b' h session other place ended e =
    record {
      used = h.used;
      text = h.text;
      place = h.place ∙ sym place;
      replays = λ rest last. subst (λ (s : Session). Replays (h.used ++ (pending r b' ++ rest)) r.position s r.other m w h.text) (sym session)
          (subst (λ (o : Engine). Replays (h.used ++ (pending r b' ++ rest)) r.position f.session o m w h.text) (sym other)
          (subst (λ (n : ℕ). Replays (h.used ++ (pending r b' ++ rest)) n f.session f.other m w h.text) (sym place)
          (subst (λ (l : List ℕ). Replays (h.used ++ (l ++ rest)) f.position f.session f.other m w h.text) (sym e) (h.replays rest (λ k. last (ended ∙ k))))));
    }

refill-reached : {f : Flow} {b m w : List ℕ} {r : Flow} {b' : List ℕ} → Refills f b r b' → Reached f b m w → Reached r b' m w
refill-reached {f} {b} {m} {w} {r} {b'} t h = subst (λ (x : Flow). Reached x b' m w) (sym t.is) (go (wants_of f) refl t.is)
  where
    whole : (k : ℕ) → k - 0 ≡ k
    whole k = omega arith

    goes_on : (v : Bool) → f.ended ≡ v → when v false (ltb (left_of f) longest) ≡ true → f.ended ≡ false
    goes_on true k e = absurd (never e)
    goes_on false k e = k

    asked : (answer : ℤ) → wants_of f ≡ true → take (left_of f) (drop 0 b') ≡ pending f b → Reached (after_read f answer t.interrupted) b' m w
    asked (pos n) e kept =
        more-reached (after_read f (pos n) t.interrupted) b' (take n (drop (left_of f) b')) h (goes_on f.ended refl e) refl refl refl
        (ap (λ (k : ℕ). take k b') (whole (left_of f + n)) ∙ take-add (left_of f) n b' ∙ ap (λ (l : List ℕ). l ++ take n (drop (left_of f) b')) kept)
    asked (negsuc n) e kept = same-reached (after_read f (negsuc n) t.interrupted) b' h refl refl refl refl (ap (λ (k : ℕ). take k b') (whole (left_of f)) ∙ kept)

    go : (v : Bool) → wants_of f ≡ v → r ≡ when v (after_read f t.answer t.interrupted) f → Reached (when v (after_read f t.answer t.interrupted) f) b' m w
    go true e i = asked t.answer e (ap (λ (k : ℕ). take (left_of f) (drop k b')) (sym (ap (λ (x : Flow). x.at) i ∙ read-front f t.answer t.interrupted)) ∙ t.kept)
    go false e i = same-reached f b' h refl refl refl refl (ap (λ (k : ℕ). take (left_of f) (drop k b')) (sym (ap (λ (x : Flow). x.at) i)) ∙ t.kept)

forward-reached : {f : Flow} {b m w out : List ℕ} {r : Flow} {m' w' out' : List ℕ} → Fits f b → Forwards f b m w out r m' w' out'
    → Reached f b m w → Reached r b m' w'
forward-reached {f} {b} {m} {w} {out} {r} {m'} {w'} {out'} fits t h =
    let p = t.passed in
    let front = take p.at (drop f.at b) in
    let next = after_pass f p t.sent in
    let inside : p.at ≤ left_of f = used-within fits t in
    let parted : left_of f ≡ p.at + (f.filled - (f.at + p.at)) = omega (arith, inside) in
    let split : pending f b ≡ front ++ pending next b =
    ap (λ (k : ℕ). take k (drop f.at b)) parted ∙ take-add p.at (f.filled - (f.at + p.at)) (drop f.at b)
    ∙ ap (λ (l : List ℕ). front ++ take (f.filled - (f.at + p.at)) l) (drop-drop p.at f.at b) in
    subst (λ (x : Flow). Reached x b m' w') (sym t.is)
    (record {
      used = h.used ++ front;
      text = h.text ++ take p.put out';
      place = length-append h.used front
          ∙ omega (arith, h.place, length-take-le p.at (drop f.at b) (omega (arith, inside, fits.begins, fits.within, fits.size, length-drop f.at b)));
      replays = λ rest last.
          subst (λ (l : List ℕ). Replays l (f.position + p.at) p.session p.other m' w' (h.text ++ take p.put out'))
          (ap (λ (l : List ℕ). h.used ++ (l ++ rest)) split ∙ ap (λ (l : List ℕ). h.used ++ l) (append_assoc front (pending next b) rest)
          ∙ sym (append_assoc h.used front (pending next b ++ rest)))
          (passed (h.replays rest last) (pending f b) rest f.ended (drop_at h.used (pending f b ++ rest) f.position h.place) last out p m' w' out' t.passes);
    })

pub flow-reached : {f : Flow} {b m w out : List ℕ} {r : Flow} {b' m' w' out' : List ℕ} → Fits f b → Flows f b m w out r b' m' w' out'
    → Reached f b m w → Reached r b' m' w'
flow-reached {f} {b} {m} {w} {out} {r} {b'} {m'} {w'} fits t h = go t.middle.over refl
  where
    go : (v : Bool) → t.middle.over ≡ v → Reached r b' m' w'
    go true e =
        subst (λ (x : Flow). Reached x b' m' w') (sym (t.stops e).0)
        (subst (λ (l : List ℕ). Reached t.middle b' l w') (sym (t.stops e).1)
        (subst (λ (l : List ℕ). Reached t.middle b' m l) (sym (t.stops e).2) (refill-reached t.refills h)))
    go false e = forward-reached (refill-fits fits t.refills) (t.goes e) (refill-reached t.refills h)

pub complete : Complete
complete f b m w fits h done rest last =
    listing.whole (h.used ++ (pending f b ++ rest)) f.position f.session f.other m w h.text (h.replays rest last)
    (go f.session.mode f.ended refl done)
  where
    size : f.ended ≡ true → length (h.used ++ (pending f b ++ rest)) - f.position ≡ left_of f
    size e =
        let none : length rest ≡ 0 = ap length (last e) in
        omega (arith, length-append h.used (pending f b ++ rest), length-append (pending f b) rest, pending-length f b fits, h.place, none)

    none : f.ended ≡ true → eqb (left_of f) 0 ≡ true → ltb 0 (length (h.used ++ (pending f b ++ rest)) - f.position) ≡ false
    none e d = le-ltb 0 (length (h.used ++ (pending f b ++ rest)) - f.position) (omega (arith, size e, eqb-true (left_of f) 0 d))

    go : (mode : Mode) (ended : Bool) → f.ended ≡ ended → finished_of mode (left_of f) ended ≡ true
        → ready_of mode (length (h.used ++ (pending f b ++ rest)) - f.position) true ≡ false
    go Over ended e d = refl
    go (Steps n taken) ended e d = absurd (never d)
    go Start true e d = none e d
    go Start false e d = absurd (never d)
    go Records true e d = none e d
    go Records false e d = absurd (never d)

-- what holds whenever the loop's test is reached: no sum can wrap in the turns that are left
pub record Runs (m w b : List ℕ) (f : Flow) (turns : ℕ) : Type 0 where
  pub fits : Fits f b
  pub small : f.position + room * turns ≤ 2 ^ 63
  pub reached : Reached f b m w

module _ {m w b : List ℕ} (zeros : m ≡ start_memory) (none : w ≡ start_windows) (size : length b ≡ room) where
  pub runs-begin : {r : Flow} {out : List ℕ} → Begins r out → (turns : ℕ) → room * turns ≤ 2 ^ 63 → Runs m w b r turns
  runs-begin {r} {out} t turns h =
      let at-start : Fits (opened_of t.sent) b = record { begins = omega arith; within = omega arith; size = size } in
      let opened : Reached (opened_of t.sent) b m w =
      subst (λ (l : List ℕ). Reached (opened_of t.sent) b l w) (sym zeros)
      (subst (λ (l : List ℕ). Reached (opened_of t.sent) b start_memory l) (sym none) (opened-reached t.sent b)) in
      record {
        fits = subst (λ (x : Flow). Fits x b) (sym t.is) at-start;
        small = omega (arith, ap (λ (x : Flow). x.position) t.is, h);
        reached = subst (λ (x : Flow). Reached x b m w) (sym t.is) opened;
      }

pub runs-turn : {m w b out : List ℕ} {f : Flow} {turns : ℕ} {m' w' b' out' : List ℕ} {r : Flow} → Runs m w b f turns
    → Flows f b m w out r b' m' w' out' → 0 < turns → Runs m' w' b' r (turns - 1)
runs-turn {turns = turns} h t some = record {
  fits = flow-fits h.fits t;
  small = omega (arith, flow-place h.fits t, h.small);
  reached = flow-reached h.fits t h.reached;
}
