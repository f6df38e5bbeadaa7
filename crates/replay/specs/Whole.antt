-- What the turns together have handed over: the listing of the trace, as far as it was read.
use Rattle.std.specs.Prelude.{ℕ, ◌≡◌, true, List, [], ◌++◌, length}
use Rattle.whole.specs.Listing.{Replays, listing_of}
use Rattle.flow.specs.declared.flow.Flow.{Flow}
use Rattle.flow.specs.Flow.{left_of, pending, Fits, finished_of}

-- the bytes used and the text handed over are those of a replay of every trace that starts with the bytes read; if the trace
-- has ended, of this one
pub record Reached (f : Flow) (b m w : List ℕ) : Type 0 where
  pub used : List ℕ
  pub text : List ℕ
  pub place : length used ≡ f.position
  pub replays : (rest : List ℕ) → (f.ended ≡ true → rest ≡ []) → Replays (used ++ (pending f b ++ rest)) f.position f.session f.other m w text

-- a replay that is finished has handed over the trace's listing, whole
abbrev pub Complete : Type 0
Complete = (f : Flow) (b m w : List ℕ) → Fits f b → (h : Reached f b m w) → finished_of f.session.mode (left_of f) f.ended ≡ true
    → (rest : List ℕ) → (f.ended ≡ true → rest ≡ []) → h.text ≡ listing_of (h.used ++ (pending f b ++ rest))
