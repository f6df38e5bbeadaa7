-- An ST in its midst: the lines that were put so far, and what its next line does to them.
use mathlib.Core.Path.{◌≡◌, refl, sym, ap, ap₂, subst, ◌∙◌}
use mathlib.Core.Bool.{Bool, true, false, not}
use mathlib.Core.List.{List}
use Prim.Native.Nat.{ℕ, ◌+◌, ◌-◌, ◌≤◌, ◌<◌, min}
use native.Mathlib.Omega.{arith}
use lib.ListN.{length, take}
use lib.Dec.{eqb, leb}
use borrow.Author.Tests.{eqb-true, eqb-false, leb-false}
use Rattle.std.specs.Prelude.{Result, Ok, Err, is_ok, ⊤}
use Rattle.kit.specs.declared.answer.Refusal.{Refusal}
use Rattle.kit.specs.Answer.{answer_number}
use Rattle.kit.specs.Choice.{either}
use Rattle.kit.specs.Limits.{most_windows}
use Rattle.kit.proofs.Choice.{never, neither}
use Rattle.kit.proofs.Numbers.{refusal-some}
use Rattle.memory.specs.Windows.{windows_of}
use Rattle.state.specs.declared.engine.Engine.{Engine}
use Rattle.state.specs.declared.engine.Phase.{Phase}
use Rattle.state.specs.declared.engine.Simple.{Simple}
use Rattle.kit.specs.declared.settings.Settings.{Settings}
use Rattle.state.specs.State.{busy_of}
use Rattle.steps.specs.declared.event.Advanced.{Advanced}
use Rattle.steps.specs.Claims.{Bytes}
use Rattle.steps.specs.Step.{AfterAdvance, advance_seen, advance_of}
use Rattle.steps.proofs.Keeps.{advance-keeps}
use Rattle.runs.specs.Run.{refusal_of}
use Rattle.runs.specs.Claims.{Acceptable}
use Rattle.runs.proofs.Acceptable.{unrefused-acceptable}
use Rattle.listing.specs.declared.line.Line.{Line}
use Rattle.listing.specs.Line.{line_of}
use Rattle.digits.specs.Puts.{Puts}
use Rattle.listing.proofs.Lines.{line-some}
use Rattle.digits.proofs.Puts.{puts-length}
use Rattle.session.specs.declared.Mode.{Mode}
use Rattle.session.specs.declared.Mode.TheVariants as modes
use Rattle.session.specs.declared.Session.{Session}
use Rattle.session.specs.Effect.{lend, with_mode}
use Rattle.session.specs.Stepping.{most_steps, used_of, stops_of, accepted_of, stop_line_of, event_line_of}
use Rattle.session.specs.Pass.{line_room, TakesSteps}
use Rattle.session.proofs.Passing.{Passing, passing-begin, passing-turn, takes-by}
use Rattle.session.proofs.StepLines.{stepping, stop-turn, step-turn, accepted-on}

-- a refusal's number is not 0
pub accepts : (r : Result ⊤ Refusal) → is_ok r ≡ eqb (answer_number r) 0
accepts (Ok done) = refl
accepts (Err refusal) = sym (refusal-some refusal)

-- an ST that goes on: each test failed
pub record Goes (left taken : ℕ) (accepted : Bool) : Type 0 where
  pub some : 0 < left
  pub fewer : taken < most_steps
  pub judged : accepted ≡ true

was-true : (t : Bool) → not t ≡ false → t ≡ true
was-true true e = refl
was-true false e = absurd (never (sym e))

above : (n : ℕ) → eqb n 0 ≡ false → 0 < n
above n e = let h = eqb-false n 0 e in omega (arith, h)

pub goes_on : (phase : Phase) (left taken : ℕ) (accepted : Bool) → stops_of phase left taken accepted ≡ false → Goes left taken accepted
goes_on phase left taken accepted e =
    let p = neither (eqb left 0) (either (leb most_steps taken) (either (not accepted) (not (busy_of phase)))) e in
    let q = neither (leb most_steps taken) (either (not accepted) (not (busy_of phase))) p.1 in
    let r = neither (not accepted) (not (busy_of phase)) q.1 in
    record { some = above left p.0; fewer = leb-false most_steps taken q.0; judged = was-true accepted r.0 }

pub record Telling (s₀ : Session) (at : ℕ) (m₀ w out₀ : List ℕ) (put₀ : ℕ) (accepted : Bool) (e : Engine) (left taken : ℕ) (m out : List ℕ) (put : ℕ) : Type 0 where
  pub turning : (base : ℕ) (input : List ℕ) (ended : Bool) → at ≤ length input → (o : Engine)
      → Passing (length out₀ - put₀) base input ended s₀ at (lend m₀ w o) out₀ put₀ (stepping s₀ e left taken) at (lend m w o) out put
  pub start : put₀ ≤ put
  pub same : length out ≡ length out₀
  pub memory : length m ≡ length m₀
  pub judged : accepted ≡ accepted_of e s₀.windows (length m)
  pub bytes : Bytes m

pub telling-begin : (s : Session) (at : ℕ) (m w out : List ℕ) (put : ℕ) (accepted : Bool) (left taken : ℕ) → s.mode ≡ modes.Steps left taken → put + line_room ≤ length out
    → accepted ≡ accepted_of s.engine s.windows (length m) → Bytes m → Telling s at m w out put accepted s.engine left taken m out put
telling-begin s at m w out put accepted left taken mode free judged bytes = record {
  turning = λ base input ended within o.
      subst (λ (x : Mode). Passing (length out - put) base input ended s at (lend m w o) out put (with_mode s x) at (lend m w o) out put) mode
      (passing-begin (length out - put) base input ended s at (lend m w o) out put (omega arith) within);
  start = omega arith;
  same = refl;
  memory = refl;
  judged = judged;
  bytes = bytes;
}

module _ {s₀ : Session} {at : ℕ} {m₀ w out₀ : List ℕ} {put₀ : ℕ} {accepted : Bool} {e : Engine} {left taken : ℕ} {m out : List ℕ} {put : ℕ}
    (t : Telling s₀ at m₀ w out₀ put₀ accepted e left taken m out put) where
  -- the test that the code makes is the definition's
  test : stops_of e.phase left taken accepted ≡ stops_of e.phase left taken (accepted_of e s₀.windows (length m))
  test = ap (stops_of e.phase left taken) t.judged

  -- the line that stops it is the last
  pub telling-stop : stops_of e.phase left taken accepted ≡ true → {l : Line} {out' : List ℕ} {put' : ℕ} → l ≡ stop_line_of s₀.sequence taken e.phase → Puts out out' put put' (line_of l)
      → put + line_room ≤ length out₀ → put' ≤ put + line_room
      → TakesSteps s₀ at m₀ w out₀ put₀ (record { session = record { engine = e; monitor = s₀.monitor; sequence = s₀.sequence; windows = s₀.windows; chosen = s₀.chosen; mode = modes.Records }; at = at; put = put' }) m out'
  telling-stop stop {l} {out'} {put'} is puts free short base input ended within o =
      takes-by
      (passing-turn (t.turning base input ended within o) (line_of (stop_line_of s₀.sequence taken e.phase))
      (stop-turn s₀ e left taken (lend m w o) base input at (sym test ∙ stop)) refl free
      (subst (λ (x : Line). Puts out out' put put' (line_of x)) is puts) (omega arith) within (record { memory = refl; windows = refl }))
      (omega (arith, t.start, puts.past, line-some l))

  module _ (go : stops_of e.phase left taken accepted ≡ false) where
    going : Goes left taken accepted
    going = goes_on e.phase left taken accepted go

    pub telling-acceptable : Acceptable e m (min s₀.windows most_windows)
    telling-acceptable =
        unrefused-acceptable e m (min s₀.windows most_windows)
        (eqb-true (refusal_of e (length m) (min s₀.windows most_windows)) 0 (sym t.judged ∙ going.judged)) t.bytes

    -- a step's line
    pub telling-step : {a : Advanced} {m' : List ℕ} → advance_seen a m' ≡ advance_of e m (windows_of (take (used_of s₀.windows) w)) → Bytes m'
        → {l : Line} {out' : List ℕ} {put' : ℕ} → l ≡ event_line_of s₀.sequence a.event → Puts out out' put put' (line_of l)
        → put + line_room ≤ length out₀ → put' ≤ put + line_room
        → Telling s₀ at m₀ w out₀ put₀ accepted a.engine (left - 1) (taken + 1) m' out' put'
    telling-step {a} {m'} ens bytes {l} {out'} {put'} is puts free short =
        let windows = windows_of (take (used_of s₀.windows) w) in
        let long : length m' ≡ length m = ap (λ (x : AfterAdvance). length x.memory) ens ∙ (advance-keeps e m windows).length in
        record {
          turning = λ base input ended within o.
              passing-turn (t.turning base input ended within o) (line_of (event_line_of s₀.sequence a.event))
              (step-turn s₀ e left taken (lend m w o) base input at (sym test ∙ go) ens) refl free
              (subst (λ (x : Line). Puts out out' put put' (line_of x)) is puts) (omega arith) within (record { memory = long; windows = refl });
          start = omega (arith, t.start, puts.past);
          same = puts-length puts ∙ t.same;
          memory = long ∙ t.memory;
          judged = going.judged
              ∙ sym (subst (λ (x : AfterAdvance). accepted_of x.engine s₀.windows (length x.memory) ≡ true) (sym ens)
              (accepted-on e s₀.windows m windows t.bytes (sym t.judged ∙ going.judged)));
          bytes = bytes;
        }

  -- settings and SA, DA and BTT may be taken from elsewhere, if they are the same
  pub telling-same : {settings : Settings} {simple : Simple} → e.settings ≡ settings → e.simple ≡ simple
      → Telling s₀ at m₀ w out₀ put₀ accepted (record { settings = settings; control = e.control; status = e.status; pointers = e.pointers; simple = simple; phase = e.phase }) left taken m out put
  telling-same p q =
      subst (λ (x : Engine). Telling s₀ at m₀ w out₀ put₀ accepted x left taken m out put)
      (ap₂ {C = Engine} (λ (x : Settings) (y : Simple). record { settings = x; control = e.control; status = e.status; pointers = e.pointers; simple = y; phase = e.phase }) p q) t

  -- the buffer is full
  pub telling-full : put₀ < put
      → TakesSteps s₀ at m₀ w out₀ put₀ (record { session = stepping s₀ e left taken; at = at; put = put }) m out
  telling-full some base input ended within o = takes-by (t.turning base input ended within o) some
