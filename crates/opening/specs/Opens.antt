-- RULES.md, "Trace and listing": what comes before the first record, put.
use Rattle.std.specs.Prelude.{ℕ, ◌+◌, ◌≤◌, ◌≡◌, List}
use Rattle.digits.specs.Puts.{Puts}
use Rattle.record.specs.Starts.{settings_at}
use Rattle.session.specs.declared.Mode.TheVariants.{Records}
use Rattle.session.specs.declared.Session.{Session}
use Rattle.session.specs.declared.Passed.{Passed}
use Rattle.session.specs.Effect.{with_mode, opening_of}
use Rattle.session.specs.Pass.{line_room}

-- records come next, from the same place on, and the settings were put from `put` on unless a CF stands there
pub record Opens (s : Session) (input : List ℕ) (at : ℕ) (out : List ℕ) (put : ℕ) (r : Passed) (out' : List ℕ) : Type 0 where
  pub passed : r ≡ record { session = with_mode s Records; at = at; put = r.put }
  pub puts : Puts out out' put r.put (opening_of s (settings_at input at))
  pub short : r.put ≤ put + line_room
