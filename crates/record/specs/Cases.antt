-- RULES.md, "Trace and listing": the records of the whole case, and of a trace of two engines, one after the other. Proved in proofs/Cases.antt.
use Rattle.std.specs.Prelude.{Some, None, ◌≡◌, true, false, List, [], ◌∷◌, ℕ, take}
use Rattle.record.specs.declared.reading.Body.{Body}
use Rattle.record.specs.declared.reading.Body.TheVariants.{Settings, Write, Read, Steps, Astray}
use Rattle.record.specs.Reading.{Reading, reading_of}
use Rattle.record.specs.Names.{names_of}

-- CF 1 (4,16); WR 2 (24,256); WR 9 (32,4088); WR 10 (40,16); ST 11 (5)
abbrev pub whole_case : List ℕ
whole_case =
    67 ∷ 70 ∷ 1 ∷ 0 ∷ 0 ∷ 0 ∷ 4 ∷ 0 ∷ 16 ∷ 0
    ∷ 87 ∷ 82 ∷ 2 ∷ 0 ∷ 0 ∷ 0 ∷ 24 ∷ 0 ∷ 0 ∷ 1 ∷ 0 ∷ 0
    ∷ 87 ∷ 82 ∷ 9 ∷ 0 ∷ 0 ∷ 0 ∷ 32 ∷ 0 ∷ 248 ∷ 15 ∷ 0 ∷ 0
    ∷ 87 ∷ 82 ∷ 10 ∷ 0 ∷ 0 ∷ 0 ∷ 40 ∷ 0 ∷ 16 ∷ 0 ∷ 0 ∷ 0
    ∷ 83 ∷ 84 ∷ 11 ∷ 0 ∷ 0 ∷ 0 ∷ 5 ∷ 0 ∷ []

abbrev pub numbered : ℕ → Body → ℕ → Reading
numbered sequence body next = Some (record { sequence = sequence; body = body }, next)

-- C2 0 (4,16); WR 1 engine 2 (24,256); RD 2 engine 1 (4); ST 3 engine 2 (5); ST 4 engine 3 (5)
abbrev pub pair_case : List ℕ
pair_case =
    67 ∷ 50 ∷ 0 ∷ 0 ∷ 0 ∷ 0 ∷ 4 ∷ 0 ∷ 16 ∷ 0
    ∷ 87 ∷ 82 ∷ 1 ∷ 0 ∷ 0 ∷ 0 ∷ 2 ∷ 24 ∷ 0 ∷ 0 ∷ 1 ∷ 0 ∷ 0
    ∷ 82 ∷ 68 ∷ 2 ∷ 0 ∷ 0 ∷ 0 ∷ 1 ∷ 4 ∷ 0
    ∷ 83 ∷ 84 ∷ 3 ∷ 0 ∷ 0 ∷ 0 ∷ 2 ∷ 5 ∷ 0
    ∷ 83 ∷ 84 ∷ 4 ∷ 0 ∷ 0 ∷ 0 ∷ 3 ∷ 5 ∷ 0 ∷ []

pub record Cases : Type 0 where
  pub first : reading_of whole_case 0 true false ≡ numbered 1 (Settings false 4 16) 10
  pub second : reading_of whole_case 10 false false ≡ numbered 2 (Write 24 256) 22
  pub third : reading_of whole_case 22 false false ≡ numbered 9 (Write 32 4088) 34
  pub fourth : reading_of whole_case 34 false false ≡ numbered 10 (Write 40 16) 46
  pub fifth : reading_of whole_case 46 false false ≡ numbered 11 (Steps 5) 54
  -- at the end; CF not first; no mark
  pub ended : reading_of whole_case 54 false false ≡ None
  pub late : reading_of whole_case 0 false false ≡ None
  pub astray : reading_of whole_case 1 false false ≡ None
  -- two engines: the settings, a record for each, one for an engine that is not there
  pub pair-first : reading_of pair_case 0 true false ≡ numbered 0 (Settings true 4 16) 10
  pub pair-second : reading_of pair_case 10 false true ≡ numbered 1 (Write 24 256) 23
  pub pair-third : reading_of pair_case 23 false true ≡ numbered 2 (Read 4) 32
  pub pair-fourth : reading_of pair_case 32 false true ≡ numbered 3 (Steps 5) 41
  pub pair-fifth : reading_of pair_case 41 false true ≡ numbered 4 Astray 50
  pub engines : (names_of pair_case 10 2 ≡ true) × (names_of pair_case 23 1 ≡ true) × (names_of pair_case 32 2 ≡ true) × (names_of pair_case 41 2 ≡ false)
  -- C2 not first; one that ends before its engine number; and for one engine the number is a part of the body
  pub pair-late : reading_of pair_case 0 false true ≡ None
  pub pair-short : reading_of (take 49 pair_case) 41 false true ≡ None
  pub pair-alone : reading_of pair_case 32 false false ≡ numbered 3 (Steps 1282) 40
