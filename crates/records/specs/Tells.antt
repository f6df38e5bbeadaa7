-- RULES.md, "Trace and listing": a record's text put.
use Rattle.std.specs.Prelude.{ℕ, ◌+◌, ◌≤◌, ◌≡◌, List}
use Rattle.digits.specs.Puts.{Puts}
use Rattle.session.specs.declared.Effect.{Effect}
use Rattle.session.specs.declared.Passed.{Passed}
use Rattle.session.specs.Effect.{text_of}
use Rattle.session.specs.Pass.{line_room}

-- the effect's session, the place of the next record, and the effect's text put from `put` on
pub record Tells (e : Effect) (at : ℕ) (out : List ℕ) (put : ℕ) (r : Passed) (out' : List ℕ) : Type 0 where
  pub passed : r ≡ record { session = e.session; at = at; put = r.put }
  pub puts : Puts out out' put r.put (text_of e.session.mode e.line)
  pub short : r.put ≤ put + line_room
