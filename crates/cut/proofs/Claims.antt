-- The claims of specs/Claims.antt.
use mathlib.Core.Path.{sym, ◌∙◌}
use Rattle.cut.specs.Claims.{Claims, Unique}
use Rattle.cut.proofs.Reach.{burst-bytes}
use Rattle.cut.proofs.Shortest.{well-cut}
use Rattle.cut.proofs.Count.{counted, whole-pages}

pub cut-claims : Claims
cut-claims = record {
  well-cut = λ w l pw pl a e h. well-cut w l pw pl a e h;
  lengths = λ w l a n. burst-bytes w l a n;
  counted = λ w l pw pl a e. counted w l pw pl a e;
  whole-pages = λ w l pw d n p. whole-pages w l pw d n p;
}

pub cut-unique : Unique
cut-unique = record {
  least = λ a b r s e f. e ∙ sym f;
  span = λ w l r s e f. e ∙ sym f;
  words_left = λ w l a r s e f. e ∙ sym f;
  bytes-within = λ words a n r s e f. e ∙ sym f;
  burst-bytes = λ w l a n r s e f. e ∙ sym f;
}
