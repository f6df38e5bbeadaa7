-- include/belikumba.h, "Engine": a step in the midst of a transfer whose sides both increment, over the words alone.
use Rattle.std.specs.Prelude.{ℕ, ◌≡◌, Bool, ◌&&◌, List, eqb, leb, Option, Some, None}
use Rattle.kit.specs.Limits.{most_memory, most_windows}
use Rattle.kit.specs.Settings.{legal_of}
use Rattle.cut.specs.declared.Burst.{Burst}
use Rattle.steps.specs.declared.event.Event.TheVariants.{Move}
use Rattle.words.specs.EngineWords.{word, settings_from}
use Rattle.spelling.specs.Spelling.{moves_of}
use Rattle.interface.specs.Calls.{step_report_of, step_words_seen, step_words_of}

-- a step is not refused, and the engine is in the midst of such a transfer
abbrev pub goes_on_of : List ℕ → ℕ → ℕ → Bool
goes_on_of w size windows =
    legal_of (settings_from w) && leb size most_memory && leb windows most_windows && moves_of w && eqb (word w 20) 0 && eqb (word w 21) 0

-- a burst: with its event, what a step leaves. None: words and memory are as they were
abbrev pub MovesWords : List ℕ → List ℕ → List ℕ → Option Burst → List ℕ → List ℕ → Type 0
MovesWords w m windows (Some b) left after = step_words_seen (step_report_of 0 (Move b)) left after ≡ step_words_of w m windows
MovesWords w m windows None left after = (left ≡ w) × (after ≡ m)
