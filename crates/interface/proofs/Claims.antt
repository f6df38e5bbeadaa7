-- The claims of specs/Claims.antt.
use mathlib.Core.Path.{sym, ◌∙◌}
use Rattle.interface.specs.Claims.{Unique}

pub unique : Unique
unique = record {
  plan = λ x r q a b e f.
      let same = e ∙ sym f in
      (λ i. record { answer = (same i).answer; bursts = (same i).bursts }, λ i. (same i).places);
  count = λ x r q e f.
      let same = e ∙ sym f in
      λ i. record { answer = (same i).answer; bursts = (same i).bursts };
  value = λ x r q e f.
      let same = e ∙ sym f in
      λ i. record { answer = (same i).answer; value = (same i).value };
  write = λ x n k v w e f.
      let same = e ∙ sym f in
      (λ i. (same i).answer, λ i. (same i).words);
  step = λ x r q v w a b e f.
      let same = e ∙ sym f in
      (λ i. (same i).report, λ i. (same i).words, λ i. (same i).memory);
  run = λ x r q v w a b e f.
      let same = e ∙ sym f in
      (λ i. record { answer = (same i).answer; steps = (same i).steps }, λ i. (same i).words, λ i. (same i).memory);
  bus-clock = λ x r q v w e f.
      let same = e ∙ sym f in
      (λ i. (same i).told, λ i. (same i).words);
}
