-- RULES.md, "Two engines": if neither of two engines, run alone from the starting memory, writes a byte that the other, run
-- alone, reads or writes, then in every interleaving each has what it has alone, and the final memory is one. Proved in
-- proofs/Independence.antt; that callers' steps are these: proofs/Calls.antt.
use Rattle.std.specs.Prelude.{◌≡◌, ℕ, suc, ◌^◌, ◌≤◌, ◌<◌, Bool, true, not, List, [], ◌∷◌, ◌++◌, length, get_or}
use Rattle.kit.specs.Choice.{when, both}
use Rattle.kit.specs.Limits.{most_memory, most_windows}
use Rattle.kit.specs.Settings.{among}
use Rattle.memory.specs.declared.window.Window.{Window}
use Rattle.state.specs.declared.engine.Engine.{Engine}
use Rattle.reads.specs.Read.{Value, read_of}
use Rattle.registers.specs.Write.{write_of}
use Rattle.steps.specs.declared.event.Event.{Event}
use Rattle.steps.specs.Step.{advance_of}
use Rattle.steps.specs.Claims.{Bytes}
use Rattle.runs.specs.Run.{refusal_of}
use Rattle.claims.specs.Calls.{Sound}
use Rattle.independence.specs.Footprint.{reads_of, writes_of}

-- ---- one engine alone

-- what is asked of an engine: a step, a register write of any value to any offset, a register read
pub data Act : Type 0 where
  step : Act
  write : ℕ → ℕ → Act
  read : ℕ → Act

-- what it tells: a step's event, which is none of an idle engine; the answer of a write; the answer and the value of a read
pub data Told : Type 0 where
  event : Event → Told
  answer : ℕ → Told
  value : Value → Told

-- what an act leaves
pub record After : Type 0 where
  pub told : Told
  pub engine : Engine
  pub memory : List ℕ

-- registers are an engine's own: only a step looks at the memory
abbrev pub act_of : Act → Engine → List ℕ → List Window → After
act_of step s m windows =
    let r = advance_of s m windows in
    record { told = event r.event; engine = r.engine; memory = r.memory }
act_of (write offset number) s m windows =
    let r = write_of s offset number in
    record { told = answer r.answer; engine = r.engine; memory = m }
act_of (read offset) s m windows = record { told = value (read_of s offset); engine = s; memory = m }

-- the bytes that an act reads, and those that it writes
abbrev pub act_reads : Act → Engine → ℕ → List Window → List ℕ
act_reads step s size windows = reads_of s size windows
act_reads (write offset number) s size windows = []
act_reads (read offset) s size windows = []

abbrev pub act_writes : Act → Engine → ℕ → List Window → List ℕ
act_writes step s size windows = writes_of s size windows
act_writes (write offset number) s size windows = []
act_writes (read offset) s size windows = []

-- what some acts tell, one after the other, and the state they leave
pub record Course : Type 0 where
  pub told : List Told
  pub engine : Engine

-- the same with the memory, and with all bytes read and written on the way
pub record Alone : Type 0 where
  pub course : Course
  pub memory : List ℕ
  pub reads : List ℕ
  pub writes : List ℕ

-- what is told first, and then a course
abbrev pub telling : Told → Course → Course
telling t c = record { told = t ∷ c.told; engine = c.engine }

unfoldable pub alone_of : List Act → Engine → List ℕ → List Window → Alone
alone_of [] s m windows = record { course = record { told = []; engine = s }; memory = m; reads = []; writes = [] }
alone_of (a ∷ more) s m windows =
    let r = act_of a s m windows in
    let later = alone_of more r.engine r.memory windows in
    record {
      course = telling r.told later.course;
      memory = later.memory;
      reads = act_reads a s (length m) windows ++ later.reads;
      writes = act_writes a s (length m) windows ++ later.writes;
    }

-- ---- two engines in turn

-- engine numbers
pub data Number : Type 0 where
  one : Number
  two : Number

-- what both have in the end, and the one memory
pub record Pair : Type 0 where
  pub first : Course
  pub second : Course
  pub memory : List ℕ

-- each number in turn makes that engine do its next act, on the memory as it stands; one that has none left does nothing
unfoldable pub together_of : List Number → List Act → List Act → Engine → Engine → List ℕ → List Window → Pair
together_of [] acts others p q m windows =
    record { first = record { told = []; engine = p }; second = record { told = []; engine = q }; memory = m }
together_of (one ∷ order) [] others p q m windows = together_of order [] others p q m windows
together_of (one ∷ order) (a ∷ acts) others p q m windows =
    let r = act_of a p m windows in
    let later = together_of order acts others r.engine q r.memory windows in
    record { first = telling r.told later.first; second = later.second; memory = later.memory }
together_of (two ∷ order) acts [] p q m windows = together_of order acts [] p q m windows
together_of (two ∷ order) acts (b ∷ others) p q m windows =
    let r = act_of b q m windows in
    let later = together_of order acts others p r.engine r.memory windows in
    record { first = later.first; second = telling r.told later.second; memory = later.memory }

-- how often each is in turn
abbrev pub ones : List Number → ℕ
ones [] = 0
ones (one ∷ order) = suc (ones order)
ones (two ∷ order) = ones order

abbrev pub twos : List Number → ℕ
twos [] = 0
twos (one ∷ order) = twos order
twos (two ∷ order) = suc (twos order)

-- an interleaving of a acts of the one and b of the other: any list of engine numbers that has them so often
pub record Interleaves (order : List Number) (a b : ℕ) : Type 0 where
  pub firsts : ones order ≡ a
  pub seconds : twos order ≡ b

-- ---- the claim

-- no byte of the first list is in the second
abbrev pub misses : List ℕ → List ℕ → Bool
misses [] ys = true
misses (x ∷ more) ys = both (not (among x ys)) (misses more ys)

module _ (p q : Engine) (acts others : List Act) (m : List ℕ) (windows : List Window) where
  -- each alone from the starting memory
  abbrev pub first : Alone
  first = alone_of acts p m windows

  abbrev pub second : Alone
  second = alone_of others q m windows

  -- the premise
  abbrev pub apart : Bool
  apart = both (misses first.writes (second.reads ++ second.writes)) (misses second.writes (first.reads ++ first.writes))

  -- a pair has what each has alone, and the memory has the bytes that each wrote alone, all others as they were
  pub record Independent (r : Pair) : Type 0 where
    pub first_course : r.first ≡ first.course
    pub second_course : r.second ≡ second.course
    pub size : length r.memory ≡ length m
    pub bytes : (x : ℕ) → get_or r.memory x 0
        ≡ when (among x first.writes) (get_or first.memory x 0) (when (among x second.writes) (get_or second.memory x 0) (get_or m x 0))

-- in every interleaving; and by any two the final memory is the same list
abbrev pub Independence : Type 0
Independence = (p q : Engine) (acts others : List Act) (m : List ℕ) (windows : List Window) → apart p q acts others m windows ≡ true
    → (order : List Number) → Interleaves order (length acts) (length others) → Independent p q acts others m windows (together_of order acts others p q m windows)

abbrev pub OneMemory : Type 0
OneMemory = (p q : Engine) (acts others : List Act) (m : List ℕ) (windows : List Window) → apart p q acts others m windows ≡ true
    → (order order' : List Number) → Interleaves order (length acts) (length others) → Interleaves order' (length acts) (length others)
    → together_of order acts others p q m windows ≡ together_of order' acts others p q m windows

-- ---- callers

-- register writes have 32-bit values
abbrev pub Proper : List Act → Type 0
Proper [] = Unit {0}
Proper (step ∷ more) = Proper more
Proper (write offset number ∷ more) = (number < 2 ^ 32) × Proper more
Proper (read offset ∷ more) = Proper more

-- the refusal of a step, by the memory's bytes and the number of windows
abbrev pub refused_by : Act → Engine → ℕ → ℕ → ℕ
refused_by step s size windows = refusal_of s size windows
refused_by (write offset number) s size windows = 0
refused_by (read offset) s size windows = 0

-- no step on the way is refused
abbrev pub Taken : List Number → List Act → List Act → Engine → Engine → List ℕ → List Window → Type 0
Taken [] acts others p q m windows = Unit {0}
Taken (one ∷ order) [] others p q m windows = Taken order [] others p q m windows
Taken (one ∷ order) (a ∷ acts) others p q m windows =
    let r = act_of a p m windows in
    (refused_by a p (length m) (length windows) ≡ 0) × Taken order acts others r.engine q r.memory windows
Taken (two ∷ order) acts [] p q m windows = Taken order acts [] p q m windows
Taken (two ∷ order) acts (b ∷ others) p q m windows =
    let r = act_of b q m windows in
    (refused_by b q (length m) (length windows) ≡ 0) × Taken order acts others p r.engine r.memory windows

-- from two sound states (legal settings, well formed), on memory and windows within the limits, whatever the order and
-- whether or not the bytes meet: so each step of an interleaving is a step that a caller can take
abbrev pub Unrefused : Type 0
Unrefused = (order : List Number) (acts others : List Act) (p q : Engine) (m : List ℕ) (windows : List Window) → Sound p → Sound q → Proper acts → Proper others
    → Bytes m → length m ≤ most_memory → length windows ≤ most_windows → Taken order acts others p q m windows
