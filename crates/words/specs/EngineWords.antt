-- include/belikumba.h, "Engine": the words of an engine, and the engine that a list of words holds.
use Rattle.std.specs.Prelude.{ℕ, Bool, true, false, List, [], ◌∷◌, get_or, eqb}
use Rattle.kit.specs.Choice.{when, both}
use Rattle.kit.specs.declared.settings.Settings.{Settings}
use Rattle.state.specs.declared.engine.Control.{Control}
use Rattle.state.specs.declared.engine.Status.{Status}
use Rattle.state.specs.declared.engine.Pointers.{Pointers}
use Rattle.state.specs.declared.engine.Simple.{Simple}
use Rattle.state.specs.declared.engine.Transfer.{Transfer}
use Rattle.state.specs.declared.engine.Engine.{Engine}
use Rattle.state.specs.declared.engine.ErrorBit.{ErrorBit}
use Rattle.state.specs.declared.engine.ErrorBit.TheVariants.{Clear, DmaIntErr, DmaSlvErr, DmaDecErr, SgIntErr, SgSlvErr, SgDecErr}
use Rattle.state.specs.declared.engine.Outcome.{Outcome}
use Rattle.state.specs.declared.engine.Outcome.TheVariants.{Complete, Internal, Slave, Decode}
use Rattle.state.specs.declared.engine.Phase.{Phase}
use Rattle.state.specs.declared.engine.Phase.TheVariants.{Idle, Fetch, Move, Update}
use Rattle.state.specs.State.{fresh_of, with_pointers}
use Rattle.state.specs.Bits.{error_bit_of}

abbrev pub truth : Bool → ℕ
truth true = 1
truth false = 0

-- the bit of the status word that an update is to write
abbrev pub outcome_number_of : Outcome → ℕ
outcome_number_of Internal = 28
outcome_number_of Slave = 29
outcome_number_of Decode = 30
outcome_number_of Complete = 31

abbrev pub phase_number_of : Phase → ℕ
phase_number_of Idle = 0
phase_number_of Fetch = 1
phase_number_of (Move t) = 2
phase_number_of (Update o) = outcome_number_of o

abbrev pub none : Transfer
none = record { source = 0; destination = 0; total = 0; moved = 0 }

-- the transfer that moves; zeros in any other phase
abbrev pub moving_of : Phase → Transfer
moving_of Idle = none
moving_of Fetch = none
moving_of (Move t) = t
moving_of (Update o) = none

-- an engine's words
abbrev pub words_of : Engine → List ℕ
words_of s =
    let t = moving_of s.phase in
    s.settings.width ∷ s.settings.beats
    ∷ truth s.control.sgmode ∷ truth s.control.iocen ∷ truth s.control.erren
    ∷ error_bit_of s.status.fault ∷ truth s.status.ioc ∷ truth s.status.err
    ∷ s.pointers.current ∷ s.pointers.tail ∷ s.pointers.next ∷ s.pointers.heldnext
    ∷ s.simple.sa ∷ s.simple.da ∷ s.simple.btt
    ∷ phase_number_of s.phase ∷ t.source ∷ t.destination ∷ t.total ∷ t.moved
    ∷ truth s.control.keyholeread ∷ truth s.control.keyholewrite
    ∷ []

-- word i
abbrev pub word : List ℕ → ℕ → ℕ
word w i = get_or w i 0

-- after some steps: what only a register write changes is as it was in w
abbrev pub stepped_words_of : Engine → List ℕ → List ℕ
stepped_words_of s w =
    let t = moving_of s.phase in
    word w 0 ∷ word w 1
    ∷ word w 2 ∷ word w 3 ∷ word w 4
    ∷ error_bit_of s.status.fault ∷ truth s.status.ioc ∷ truth s.status.err
    ∷ s.pointers.current ∷ word w 9 ∷ s.pointers.next ∷ s.pointers.heldnext
    ∷ word w 12 ∷ word w 13 ∷ word w 14
    ∷ phase_number_of s.phase ∷ t.source ∷ t.destination ∷ t.total ∷ t.moved
    ∷ word w 20 ∷ word w 21
    ∷ []

unfoldable pub error_bit_from : ℕ → ErrorBit
error_bit_from n =
    when (eqb n 4) DmaIntErr (when (eqb n 5) DmaSlvErr (when (eqb n 6) DmaDecErr
    (when (eqb n 8) SgIntErr (when (eqb n 9) SgSlvErr (when (eqb n 10) SgDecErr Clear)))))

unfoldable pub phase_from : ℕ → Transfer → Phase
phase_from n t =
    when (eqb n 1) Fetch (when (eqb n 2) (Move t)
    (when (eqb n 28) (Update Internal) (when (eqb n 29) (Update Slave) (when (eqb n 30) (Update Decode) (when (eqb n 31) (Update Complete) Idle)))))

abbrev pub settings_from : List ℕ → Settings
settings_from w = record { width = word w 0; beats = word w 1 }

abbrev pub control_from : List ℕ → Control
control_from w = record {
  sgmode = eqb (word w 2) 1;
  keyholeread = eqb (word w 20) 1;
  keyholewrite = eqb (word w 21) 1;
  iocen = eqb (word w 3) 1;
  erren = eqb (word w 4) 1;
}

abbrev pub status_from : List ℕ → Status
status_from w = record { fault = error_bit_from (word w 5); ioc = eqb (word w 6) 1; err = eqb (word w 7) 1 }

abbrev pub pointers_from : List ℕ → Pointers
pointers_from w = record { current = word w 8; tail = word w 9; next = word w 10; heldnext = word w 11 }

abbrev pub simple_from : List ℕ → Simple
simple_from w = record { sa = word w 12; da = word w 13; btt = word w 14 }

abbrev pub transfer_from : List ℕ → Transfer
transfer_from w = record { source = word w 16; destination = word w 17; total = word w 18; moved = word w 19 }

-- the engine that the words spell
abbrev pub engine_from : List ℕ → Engine
engine_from w = record {
  settings = settings_from w;
  control = control_from w;
  status = status_from w;
  pointers = pointers_from w;
  simple = simple_from w;
  phase = phase_from (word w 15) (transfer_from w);
}

abbrev pub same_words : List ℕ → List ℕ → Bool
same_words [] [] = true
same_words [] (y ∷ ys) = false
same_words (x ∷ xs) [] = false
same_words (x ∷ xs) (y ∷ ys) = both (eqb x y) (same_words xs ys)

-- an engine of these settings that is not well formed: its current pointer is no multiple of 64
abbrev pub ill_formed_of : Settings → Engine
ill_formed_of settings = with_pointers (fresh_of settings) (record { current = 1; tail = 0; next = 0; heldnext = 0 })

-- the engine of any numbers: those that are not the words of the engine they spell are one that is not well formed
unfoldable pub engine_of : List ℕ → Engine
engine_of w = when (same_words w (words_of (engine_from w))) (engine_from w) (ill_formed_of (settings_from w))
