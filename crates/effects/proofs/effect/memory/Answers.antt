use mathlib.Core.Path.{ap}
use Prim.Native.Nat.{ℕ}
use mathlib.Core.List.{List}
use borrow.Author.Tests.{le-ltb}
use Rattle.kit.proofs.Choice.{no}
use Rattle.session.specs.Effect.{lend, After, after, with_sequence}
use Rattle.session.proofs.Parts.{copied-part}
use Rattle.listing.specs.declared.word.Word.TheVariants as words
use Rattle.effects.proofs.effect.memory.Goals as goal

pub returns : goal.returns
returns c =
    let a = c.args in
    λ w o. no _ (le-ltb _ _ c.if-memory-end.false)
    (ap {B = After} (λ (m : List ℕ). after (record { session = with_sequence a.session a.sequence; line = record { sequence = a.sequence; word = words.Memory; first = a.address; second = a.count } }) (lend m w o))
    (copied-part a.input.now a.memory.now a.from a.address a.count c.requires c.if-memory-end.false c.copy_from_slice.new.self c.copy_from_slice.ensures.after))
