-- Records of one kind in their midst: what a loop over them has taken and put so far, and what the next one does to it.
use mathlib.Core.Path.{◌≡◌, refl, sym, ap, subst, ◌∙◌}
use mathlib.Core.Bool.{Bool, false}
use mathlib.Core.List.{List}
use Prim.Native.Nat.{ℕ, ◌+◌, ◌-◌, ◌≤◌, ◌<◌}
use native.Mathlib.Omega.{arith}
use lib.Dec.{eqb}
use lib.ListN.{length}
use Rattle.kit.proofs.Choice.{never}
use Rattle.record.specs.declared.reading.Body.{Body}
use Rattle.listing.specs.declared.line.Line.{Line}
use Rattle.listing.specs.Line.{line_of}
use Rattle.digits.specs.Puts.{Puts}
use Rattle.listing.proofs.Lines.{line-some}
use Rattle.session.specs.declared.Mode.{Mode}
use Rattle.session.specs.declared.Mode.TheVariants as modes
use Rattle.session.specs.declared.Session.{Session}
use Rattle.session.specs.declared.Effect.{Effect}
use Rattle.session.specs.Chosen.{two_of}
use Rattle.session.specs.Effect.{Lent, After, after, text_of, under_way}
use Rattle.session.specs.Turn.{turn_as, apply_of, record_turn_of}
use Rattle.session.specs.Pass.{line_room, InOrder, TakesOnly}
use Rattle.session.proofs.Following.{in-order-turn}
use Rattle.session.proofs.Passing.{Passing, passing-begin, takes-by}
use Rattle.session.proofs.Records.{inside}
use Rattle.session.proofs.RecordTurns.{passing-record}

-- turns taken so far, whatever is lent
abbrev pub Turning : ℕ → List ℕ → Bool → Session → ℕ → List ℕ → ℕ → Session → ℕ → List ℕ → ℕ → Type 0
Turning base input ended s₀ at₀ out₀ put₀ s at out put = (lent : Lent) → Passing (length out₀ - put₀) base input ended s₀ at₀ lent out₀ put₀ s at lent out put

-- the record at `at` is in order, there is room for its line, and the turns before it were taken
pub record Midst (base : ℕ) (input : List ℕ) (ended : Bool) (s₀ : Session) (at₀ : ℕ) (out₀ : List ℕ) (put₀ : ℕ) (s : Session) (sequence : ℕ) (body : Body) (at next : ℕ) (out : List ℕ) (put : ℕ) : Type 0 where
  pub order : InOrder base input ended s at sequence body next
  pub free : put + line_room ≤ length out₀
  pub start : put₀ ≤ put
  pub same : length out ≡ length out₀
  pub turning : Turning base input ended s₀ at₀ out₀ put₀ s at out put

pub midst-begin : {base : ℕ} {input : List ℕ} {ended : Bool} {s : Session} {at sequence : ℕ} {body : Body} {next : ℕ} {out : List ℕ} {put : ℕ}
    → InOrder base input ended s at sequence body next → put + line_room ≤ length out → Midst base input ended s at out put s sequence body at next out put
midst-begin {base} {input} {ended} {s} {at} {next = next} {out} {put} o free =
    let here = inside input at (eqb (base + at) 0) (two_of s.chosen) _ next o.read in
    record {
      order = o;
      free = free;
      start = omega arith;
      same = refl;
      turning = λ lent. passing-begin (length out - put) base input ended s at lent out put (omega arith) (omega (arith, here.0, here.1));
    }

-- a line that is not an ST's is the record's text
told : (m : Mode) {l k : Line} → under_way m ≡ false → l ≡ k → {out out' : List ℕ} {put put' : ℕ} → Puts out out' put put' (line_of l) → Puts out out' put put' (text_of m k)
told m {l} {k} e is {out} {out'} {put} {put'} p = subst (Puts out out' put put') (ap line_of is ∙ by m e) p
  where
    by : (m : Mode) → under_way m ≡ false → line_of k ≡ text_of m k
    by modes.Start e = refl
    by modes.Records e = refl
    by (modes.Steps left taken) e = absurd (never (sym e))
    by modes.Over e = refl

module _ {base : ℕ} {input : List ℕ} {ended : Bool} {s₀ : Session} {at₀ : ℕ} {out₀ : List ℕ} {put₀ : ℕ} {s : Session} {sequence : ℕ} {body : Body} {at next : ℕ} {out : List ℕ} {put : ℕ}
    (k : Midst base input ended s₀ at₀ out₀ put₀ s sequence body at next out put) where
  pub midst-inside : (at < next) × (next ≤ length input)
  midst-inside = inside input at (eqb (base + at) 0) (two_of s.chosen) _ next k.order.read

  module _ (e : Effect) (is : (lent : Lent) → after e lent ≡ apply_of s sequence (base + at) input at lent body) (way : under_way e.session.mode ≡ false)
      {l : Line} (same : l ≡ e.line) {out' : List ℕ} {put' : ℕ} (puts : Puts out out' put put' (line_of l)) (short : put' ≤ put + line_room) where
    seen : (lent : Lent) → turn_as (after e lent) next ≡ record_turn_of s (base + at) input at lent
    seen lent = ap (λ (a : After). turn_as a next) (is lent) ∙ sym (in-order-turn k.order lent)

    -- its turn is one more
    pub midst-turn : Turning base input ended s₀ at₀ out₀ put₀ e.session next out' put'
    midst-turn lent = passing-record base input s at lent e next lent k.order.mode k.order.hand (seen lent) ended k.order.ready (k.turning lent) k.free (told e.session.mode way same puts) short

    -- and may be the last
    pub midst-last : TakesOnly base input ended s₀ at₀ out₀ put₀ (record { session = e.session; at = next; put = put' }) out'
    midst-last lent = takes-by (midst-turn lent) (omega (arith, k.start, puts.past, line-some l))
