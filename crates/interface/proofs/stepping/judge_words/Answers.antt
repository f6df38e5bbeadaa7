use native.Mathlib.Omega.{arith}
use Rattle.interface.proofs.Judges.{words-settings, words-memory, words-windows, words-state, words-done}
use Rattle.interface.proofs.stepping.judge_words.Goals as goal

pub returns-then-not-legal : goal.returns-then-not-legal
returns-then-not-legal c = let a = c.args in words-settings a.words.now a.size a.windows (cc)

pub returns-then-size-gt-MOST_MEMORY : goal.returns-then-size-gt-MOST_MEMORY
returns-then-size-gt-MOST_MEMORY c = let a = c.args in words-memory a.words.now a.size a.windows (cc) (omega arith)

pub returns-then-windows-gt-MOST_WINDOWS : goal.returns-then-windows-gt-MOST_WINDOWS
returns-then-windows-gt-MOST_WINDOWS c = let a = c.args in words-windows a.words.now a.size a.windows (cc) (omega arith) (omega arith)

pub returns-then-not-sound : goal.returns-then-not-sound
returns-then-not-sound c = let a = c.args in words-state a.words.now a.size a.windows (cc) (omega arith) (omega arith) (cc)

pub returns : goal.returns
returns c = let a = c.args in words-done a.words.now a.size a.windows (cc) (omega arith) (omega arith) (cc)
