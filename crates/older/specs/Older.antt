-- RULES.md, "Trace and listing": how a trace was listed while 16 beats were the default, and how it is listed now, converted
-- or not. Proved in proofs/Claims.antt.
use Rattle.std.specs.Prelude.{ℕ, ◌+◌, ◌*◌, ◌<◌, ◌≡◌, Bool, true, false, List, [], ◌∷◌, ◌++◌, map, eqb, leb, length}
use Rattle.kit.specs.Choice.{when, both}
use Rattle.kit.specs.declared.answer.Refusal.TheVariants as answers
use Rattle.kit.specs.Answer.{number_of}
use Rattle.kit.specs.Word.{word_at}
use Rattle.listing.specs.declared.line.Line.{Line}
use Rattle.listing.specs.declared.word.Word.{Word}
use Rattle.listing.specs.declared.word.Word.TheVariants as words
use Rattle.listing.specs.Line.{header_of}
use Rattle.record.specs.Starts.{settings_at, starts_one, starts_two, converted_of}
use Rattle.session.specs.declared.Mode.TheVariants.{Records}
use Rattle.session.specs.Effect.{start_with, start_of, with_mode, settings_line_of, bad_line_of}
use Rattle.session.specs.Pass.{Replay, begin}
use Rattle.whole.specs.Listing.{start_memory, start_windows, most_turns, listing_of}
use Rattle.older.specs.Lines.{texts_of, lines_from, lines_of}

-- the replay of a trace whose settings without CF are W=4 and these beats, and are not told
abbrev pub silent : ℕ → Replay
silent beats = begin (with_mode (start_with beats) Records) start_memory start_windows start_of.engine

-- the lines of its records
abbrev pub records_of : ℕ → List ℕ → List Line
records_of beats input = lines_from (most_turns * length input) 0 input (silent beats)

-- a whole CF that carries 0, which was out of sequence
abbrev pub carries_zero : List ℕ → Bool
carries_zero t = both (starts_one t) (both (leb 10 (length t)) (eqb (word_at t 2) 0))

-- the older listing: today's records, but without CF L=16, and no line says so; CF could not carry 0, and C2 was no mark
abbrev pub older_lines_of : List ℕ → List Line
older_lines_of t =
    when (starts_two t) (bad_line_of 0 (number_of answers.Record) 0 ∷ [])
    (when (carries_zero t) (bad_line_of 0 (number_of answers.Sequence) 0 ∷ []) (records_of 16 t))

abbrev pub older_listing_of : List ℕ → List ℕ
older_listing_of t = header_of ++ texts_of (older_lines_of t)

-- the line is a `bad` line
abbrev pub is_bad : Word → Bool
is_bad words.Set = false
is_bad words.Memory = false
is_bad words.Window = false
is_bad words.Write = false
is_bad words.Read = false
is_bad words.NoRead = false
is_bad words.Bus = false
is_bad words.Fetch = false
is_bad words.Move = false
is_bad words.Fault = false
is_bad words.Update = false
is_bad words.Halt = false
is_bad words.Stop = false
is_bad words.Bad = true

-- the line, the position on a `bad` line d bytes on
abbrev pub grown : ℕ → Line → Line
grown d l = when (is_bad l.word) (record { sequence = l.sequence; word = l.word; first = l.first; second = d + l.second }) l

pub record Older : Type 0 where
  -- a listing is its lines
  pub lines : (t : List ℕ) → listing_of t ≡ header_of ++ texts_of (lines_of t)
  -- a trace that is not empty and starts with neither CF nor C2: `0 set 4 64`, and then its records with W=4, L=64
  pub defaulted : (t : List ℕ) → 0 < length t → settings_at t 0 ≡ false → lines_of t ≡ settings_line_of 0 4 64 ∷ records_of 64 t
  -- an older trace without CF or C2, converted: `0 set 4 16`, and then its older lines, where the position on a `bad` line is 10 more
  pub converted : (t : List ℕ) → settings_at t 0 ≡ false
      → listing_of (converted_of t) ≡ header_of ++ texts_of (settings_line_of 0 4 16 ∷ map (grown 10) (older_lines_of t))
  -- an older trace with CF is copied, and lists as before, unless its CF carries 0
  pub copied : (t : List ℕ) → starts_one t ≡ true → carries_zero t ≡ false → listing_of (converted_of t) ≡ older_listing_of t
