-- What specs/Claims.antt says, inhabited.
use mathlib.Core.Path.{◌≡◌, sym, ap, ◌∙◌}
use Rattle.std.specs.Prelude.{Result, Ok, Err, ⊤}
use Rattle.kit.specs.declared.answer.Refusal.{Refusal}
use Rattle.kit.proofs.Numbers.{number-tells, refusal-tells}
use Rattle.state.specs.declared.engine.Engine.{Engine}
use Rattle.reads.proofs.Refused.{refused}
use Rattle.registers.specs.Write.{AfterWrite, write_seen, left}
use Rattle.registers.specs.Claims.{Claims}
use Rattle.registers.proofs.Writes.{writes, write-refused, write-keeps-settings, write-keeps-words, write-keeps-well-formed}

pub write-unique : (s : Engine) {r q : Result Engine Refusal} {x : AfterWrite} → write_seen s r ≡ x → write_seen s q ≡ x → r ≡ q
write-unique s {r} {q} e f = tells r q (e ∙ sym f)
  where
    tells : (r q : Result Engine Refusal) → write_seen s r ≡ write_seen s q → r ≡ q
    tells (Ok a) (Ok b) same = ap (λ (t : Engine). Ok t) (ap (λ (y : AfterWrite). y.engine) same)
    tells (Err a) (Err b) same = ap (λ (t : Refusal). Err t) (refusal-tells (ap (λ (y : AfterWrite). y.answer) same))
    tells (Ok a) (Err b) same = absurd (refused b (ap (λ (y : AfterWrite). y.answer) same))
    tells (Err a) (Ok b) same = absurd (refused a (sym (ap (λ (y : AfterWrite). y.answer) same)))

pub left-unique : {r q : Result ⊤ Refusal} {s t : Engine} {x : AfterWrite} → left r s ≡ x → left q t ≡ x → (r ≡ q) × (s ≡ t)
left-unique e f =
    let same = e ∙ sym f in
    (number-tells (ap (λ (y : AfterWrite). y.answer) same), ap (λ (y : AfterWrite). y.engine) same)

pub claims : Claims
claims = record {
  write-unique = write-unique;
  left-unique = left-unique;
  writes = writes;
  write-refused = write-refused;
  write-keeps-settings = write-keeps-settings;
  write-keeps-words = write-keeps-words;
  write-keeps-well-formed = write-keeps-well-formed;
}
