-- RULES.md, "Trace and listing": the marks, and the bytes that each kind of record has.
use Rattle.std.specs.Prelude.{ℕ, Bool, true, false, eqb, leb}
use Rattle.kit.specs.Choice.{when, both}
use Rattle.kit.specs.Word.{joined}

-- a record's kind, named after its mark; WR, RD and ST of a trace of two engines, which carry an engine number, are kinds
-- of their own; a mark that RULES.md does not have is unknown
pub data Kind : Type 0 where
  CF : Kind
  C2 : Kind
  MM : Kind
  SW : Kind
  WR : Kind
  RD : Kind
  ST : Kind
  AR : Kind
  WR2 : Kind
  RD2 : Kind
  ST2 : Kind
  unknown : Kind

-- a mark as a half word: its two letters, the first in the lower byte
abbrev pub letters : ℕ → ℕ → ℕ
letters a b = joined a b 0 0

-- the kind that a mark names, of a trace of one engine: ASCII has 2 = 50, A = 65, C = 67, D = 68, F = 70, M = 77, R = 82, S = 83, T = 84, W = 87
unfoldable pub kind_of : ℕ → Kind
kind_of m =
    when (eqb m (letters 67 70)) CF
    (when (eqb m (letters 67 50)) C2
    (when (eqb m (letters 77 77)) MM
    (when (eqb m (letters 83 87)) SW
    (when (eqb m (letters 87 82)) WR
    (when (eqb m (letters 82 68)) RD
    (when (eqb m (letters 83 84)) ST
    (when (eqb m (letters 65 82)) AR
    unknown)))))))

-- the kind in a trace of two engines, or of one
abbrev pub of_trace : Bool → Kind → Kind
of_trace false k = k
of_trace true CF = CF
of_trace true C2 = C2
of_trace true MM = MM
of_trace true SW = SW
of_trace true WR = WR2
of_trace true RD = RD2
of_trace true ST = ST2
of_trace true AR = AR
of_trace true WR2 = WR2
of_trace true RD2 = RD2
of_trace true ST2 = ST2
of_trace true unknown = unknown

-- the bytes of a body: CF and C2 u16, u16; MM u32, u16 and its data; SW u32, u32; WR u16, u32; RD u16; ST u16; AR eight of u8, u32, u32;
-- with an engine number, a u8, before it
abbrev pub body_length : Kind → ℕ
body_length CF = 4
body_length C2 = 4
body_length MM = 6
body_length SW = 8
body_length WR = 6
body_length RD = 2
body_length ST = 2
body_length AR = 16
body_length WR2 = 7
body_length RD2 = 3
body_length ST2 = 3
body_length unknown = 0

-- the bytes of mark and sequence number
abbrev pub header_length : ℕ
header_length = 6

-- the most bytes of data that an MM record has
abbrev pub most_data : ℕ
most_data = 1024

-- the lengths that an MM record can have: 1..1024
abbrev pub data_allowed : ℕ → Bool
data_allowed n = both (leb 1 n) (leb n most_data)
