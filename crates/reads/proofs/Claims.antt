-- What specs/Claims.antt says, inhabited.
use mathlib.Core.Path.{◌≡◌, refl, sym, ap, ◌∙◌}
use mathlib.Core.Bool.{true}
use Prim.Native.Nat.{ℕ}
use Rattle.std.specs.Prelude.{Result, Ok, Err}
use Rattle.kit.specs.Settings.{legal_of}
use Rattle.kit.specs.declared.answer.Refusal.{Refusal}
use Rattle.kit.specs.declared.settings.Settings.{Settings}
use Rattle.kit.proofs.Choice.{yes}
use Rattle.kit.proofs.Numbers.{refusal-tells}
use Rattle.state.specs.State.{fresh_of}
use Rattle.state.proofs.WellFormed.{fresh-well-formed}
use Rattle.reads.specs.Read.{Value, gives, register_of, read_of, read_seen}
use Rattle.reads.specs.Claims.{Claims}
use Rattle.reads.proofs.Refused.{refused}

pub read-unique : {r q : Result ℕ Refusal} {x : Value} → read_seen r ≡ x → read_seen q ≡ x → r ≡ q
read-unique {r} {q} e f = tells r q (e ∙ sym f)
  where
    tells : (r q : Result ℕ Refusal) → read_seen r ≡ read_seen q → r ≡ q
    tells (Ok a) (Ok b) s = ap (λ (n : ℕ). Ok n) (ap (λ (y : Value). y.value) s)
    tells (Err a) (Err b) s = ap (λ (x : Refusal). Err x) (refusal-tells (ap (λ (y : Value). y.answer) s))
    tells (Ok a) (Err b) s = absurd (refused b (ap (λ (y : Value). y.answer) s))
    tells (Err a) (Ok b) s = absurd (refused a (sym (ap (λ (y : Value). y.answer) s)))

fresh-control : (x : Settings) → legal_of x ≡ true → read_of (fresh_of x) 0x00 ≡ gives 0x00010002
unfolding register_of
fresh-control x e = sym (yes _ e (yes _ (fresh-well-formed x) refl))

fresh-status : (x : Settings) → legal_of x ≡ true → read_of (fresh_of x) 0x04 ≡ gives 0x0001000A
unfolding register_of
fresh-status x e = sym (yes _ e (yes _ (fresh-well-formed x) refl))

pub claims : Claims
claims = record { read-unique = read-unique; fresh-control = fresh-control; fresh-status = fresh-status }
