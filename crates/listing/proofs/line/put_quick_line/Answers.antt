use Rattle.listing.proofs.Lines.{line-put}
use Rattle.listing.proofs.line.put_quick_line.Goals as goal

pub returns : goal.returns
returns g c =
    line-put c.args.line c.put_quick-after_sequence.ensures c.put_word-after_word.ensures.0 c.put_word-after_word.ensures.1 c.put_quick-after_first.ensures c.put_quick.ensures
