-- RULES.md's worked cases, one list under one claim. Each is computed through the definition that a contract cites:
-- `plan_of` (plan), `run_of` (run), `read_of` (read) and `bus_clock_of` (bus_clock).
use Rattle.std.specs.Prelude.{◌≡◌, List, [], ◌∷◌, ◌++◌, ℕ, ◌^◌, replicate}
use Rattle.kit.specs.Word.{bytes_of}
use Rattle.plan.specs.Plan.{Plan, plan_of}
use Rattle.state.specs.declared.engine.Engine.{Engine}
use Rattle.state.specs.State.{fresh_of}
use Rattle.reads.specs.Read.{read_of, gives}
use Rattle.registers.specs.Write.{write_of}
use Rattle.runs.specs.Run.{AfterRun, run_of}
use Rattle.monitor.specs.Cases.{on_bus, shown}

-- what a plan leaves: its answer, the number of bursts and the lent places
abbrev pub planned : ℕ → ℕ → List ℕ → Plan
planned answer bursts places = record { answer = answer; bursts = bursts; places = places }

-- W=4, L=16, and five places that hold 9 before
abbrev pub plan : ℕ → ℕ → Plan
plan start count = plan_of 4 16 start count (replicate 5 9)

-- a fresh engine of W=4, L=16, and an engine after a write
abbrev pub fresh : Engine
fresh = fresh_of (record { width = 4; beats = 16 })

abbrev pub write : Engine → ℕ → ℕ → Engine
write s offset value = (write_of s offset value).engine

-- chain mode, started at the descriptor at `at`, which is the tail
abbrev pub chain_at : ℕ → Engine
chain_at at = write (write (write fresh 0x00 0x08) 0x08 at) 0x10 at

-- a descriptor's 32 bytes; the upper halves are 0
abbrev pub descriptor : ℕ → ℕ → ℕ → ℕ → ℕ → List ℕ
descriptor next source destination control status =
    bytes_of next ++ replicate 4 0
    ++ bytes_of source ++ replicate 4 0
    ++ bytes_of destination ++ replicate 4 0
    ++ bytes_of control ++ bytes_of status

-- S1: a stale descriptor at 0
abbrev pub stale_run : AfterRun
stale_run = run_of 100 (chain_at 0) (descriptor 0 0 64 4 0x80000000) []

-- S2: a descriptor at 128 in a memory of 288 bytes: 65 bytes from 192 to 0
abbrev pub chain_run : AfterRun
chain_run = run_of 100 (chain_at 128) (replicate 128 0 ++ descriptor 128 192 0 65 0 ++ replicate 128 5) []

-- S3: simple mode, 3 bytes from 0 to 1
abbrev pub overlap_run : AfterRun
overlap_run = run_of 100 (write (write (write fresh 0x18 0) 0x20 1) 0x28 3) (1 ∷ 2 ∷ 3 ∷ 0 ∷ []) []

pub record Cases : Type 0 where
  -- 0,1 gives (0,1)
  pub p1 : plan 0 1 ≡ planned 0 1 (0 ∷ 1 ∷ replicate 3 9)
  -- 0,64 gives (0,64)
  pub p2 : plan 0 64 ≡ planned 0 1 (0 ∷ 64 ∷ replicate 3 9)
  -- 0,65 gives (0,64),(64,1); with three places: answer 8; four: 0
  pub p3 : plan 0 65 ≡ planned 0 2 (0 ∷ 64 ∷ 64 ∷ 1 ∷ replicate 1 9)
  pub p3-three-places : plan_of 4 16 0 65 (replicate 3 9) ≡ planned 8 0 (replicate 3 9)
  pub p3-four-places : plan_of 4 16 0 65 (replicate 4 9) ≡ planned 0 2 (0 ∷ 64 ∷ 64 ∷ 1 ∷ [])
  -- 3,64 gives (3,61),(64,3)
  pub p4 : plan 3 64 ≡ planned 0 2 (3 ∷ 61 ∷ 64 ∷ 3 ∷ replicate 1 9)
  -- 4088,16 gives (4088,8),(4096,8)
  pub p5 : plan 4088 16 ≡ planned 0 2 (4088 ∷ 8 ∷ 4096 ∷ 8 ∷ replicate 1 9)
  -- 4294967295,1 gives itself; with count 2, answer 7
  pub p6 : plan 4294967295 1 ≡ planned 0 1 (4294967295 ∷ 1 ∷ replicate 3 9)
  pub p6-count-two : plan 4294967295 2 ≡ planned 7 0 (replicate 5 9)
  -- count 0, answer 7
  pub p7 : plan 0 0 ≡ planned 7 0 (replicate 5 9)
  -- W=128, L=256: 0,8192 gives (0,4096),(4096,4096)
  pub p8 : plan_of 128 256 0 8192 (replicate 5 9) ≡ planned 0 2 (0 ∷ 4096 ∷ 4096 ∷ 4096 ∷ replicate 1 9)
  -- stale first descriptor at 0, tail 0: one step, CDMASR 0x0001410A
  pub s1-steps : stale_run.steps ≡ 1
  pub s1-status : read_of stale_run.engine 0x04 ≡ gives 0x0001410A
  -- chain of one, W=4, L=16, destination 0, count 65, all in good memory: 4 steps; the bytes moved and the word written
  pub s2-steps : chain_run.steps ≡ 4
  pub s2-memory : chain_run.memory ≡ replicate 65 5 ++ replicate 63 0 ++ descriptor 128 192 0 65 0x80000000 ++ replicate 128 5
  -- bytes 1,2,3 at 0, copy 3 from 0 to 1, one burst: memory 1,1,2,3
  pub s3-steps : overlap_run.steps ≡ 1
  pub s3-memory : overlap_run.memory ≡ 1 ∷ 1 ∷ 2 ∷ 3 ∷ []
  -- burst 1, length 15, size 2, address 0xFC0: none; 0xFC1: none
  pub m1 : shown (on_bus 1 15 2 0xFC0) ≡ (0, 0)
  pub m1-unaligned : shown (on_bus 1 15 2 0xFC1) ≡ (0, 0)
  -- as M1 at 0xFC4: 37
  pub m2 : shown (on_bus 1 15 2 0xFC4) ≡ (0, 2 ^ 37)
  -- burst 0, length 15: none; 16: 42
  pub m3 : shown (on_bus 0 15 0 0) ≡ (0, 0)
  pub m3-long : shown (on_bus 0 16 0 0) ≡ (0, 2 ^ 42)
