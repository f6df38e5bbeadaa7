-- The claims of specs/Independence.antt. Between the memory of two engines in turn and that of one alone, after as many acts of
-- its own, only bytes differ that the other writes: it reads none of them, so it goes as alone.
use mathlib.Core.Path.{◌≡◌, refl, sym, ap, ap₂, subst, ◌∙◌}
use mathlib.Core.Logic.{⊎_elim}
use Prim.Native.Nat.{ℕ}
use mathlib.Core.Bool.{Bool, true, false, not}
use mathlib.Core.List.{List, [], ◌∷◌, ◌++◌}
use native.Mathlib.Omega.{arith}
use lib.ListN.{length, get_or}
use lib.Seq.{ext_get_or}
use lib.Dec.{eqb}
use Rattle.kit.specs.Choice.{both, either}
use Rattle.kit.specs.Settings.{among}
use Rattle.kit.proofs.Choice.{yes, cases, decide, both_left, both_right, either-right, neither}
use Rattle.kit.proofs.Lists.{each, among-each}
use Rattle.memory.specs.declared.window.Window.{Window}
use Rattle.state.specs.declared.engine.Engine.{Engine}
use Rattle.steps.proofs.Keeps.{advance-keeps}
use Rattle.independence.specs.Footprint.{writes_of}
use Rattle.independence.specs.Independence.{Act, step, write, read, event, After, act_of, act_reads, act_writes, Alone, telling, alone_of, Number, one, two, Pair, together_of, ones, twos, misses, Independence, OneMemory}
use Rattle.independence.proofs.Footprint.{Agree, changes-only, depends-only}

-- ---- lists of bytes

nested : (t u v : Bool) → either t (either u v) ≡ either (either t u) v
nested true u v = refl
nested false u v = refl

-- what a test implies fails, so it fails
failing : (t u : Bool) → (t ≡ true → u ≡ true) → u ≡ false → t ≡ false
failing true u f e = sym (f refl) ∙ e
failing false u f e = refl

-- a byte of two lists joined is one of either
among-append : (x : ℕ) (xs ys : List ℕ) → among x (xs ++ ys) ≡ either (among x xs) (among x ys)
among-append x [] ys = refl
among-append x (y ∷ xs) ys = ap (either (eqb x y)) (among-append x xs ys) ∙ nested (eqb x y) (among x xs) (among x ys)

among-left : (x : ℕ) (xs ys : List ℕ) → among x xs ≡ true → among x (xs ++ ys) ≡ true
among-left x xs ys h = among-append x xs ys ∙ sym (yes _ h refl)

among-right : (x : ℕ) (xs ys : List ℕ) → among x ys ≡ true → among x (xs ++ ys) ≡ true
among-right x xs ys h = among-append x xs ys ∙ sym (either-right (among x xs) (sym h))

-- each byte of the first is tested
misses-each : (xs ys : List ℕ) → misses xs ys ≡ each (λ x. not (among x ys)) xs
misses-each [] ys = refl
misses-each (x ∷ xs) ys = ap (both (not (among x ys))) (misses-each xs ys)

-- a list that misses another has none of its bytes
missed : (xs ys : List ℕ) → misses xs ys ≡ true → (x : ℕ) → among x ys ≡ true → among x xs ≡ false
missed xs ys h x here =
    failing (among x xs) (not (among x ys)) (among-each (λ y. not (among y ys)) x xs (sym (misses-each xs ys) ∙ h)) (ap not here)

module _ (windows : List Window) where
  -- ---- one act

  -- it keeps the memory's length, and changes only what it writes
  act-length : (a : Act) (s : Engine) (m : List ℕ) → length (act_of a s m windows).memory ≡ length m
  act-length step s m = (advance-keeps s m windows).length
  act-length (write offset number) s m = refl
  act-length (read offset) s m = refl

  act-changes : (a : Act) (s : Engine) (m : List ℕ) (x : ℕ) → among x (act_writes a s (length m) windows) ≡ false → get_or (act_of a s m windows).memory x 0 ≡ get_or m x 0
  act-changes step s m x none = changes-only s m windows x none
  act-changes (write offset number) s m x none = refl
  act-changes (read offset) s m x none = refl

  -- two acts tell the same, leave the same state, and leave bytes equal that were equal
  record Alike (m m' : List ℕ) (r r' : After) : Type 0 where
    told : r.told ≡ r'.told
    engine : r.engine ≡ r'.engine
    bytes : (x : ℕ) → get_or m x 0 ≡ get_or m' x 0 → get_or r.memory x 0 ≡ get_or r'.memory x 0

  act-agrees : (a : Act) (s : Engine) (m m' : List ℕ) → length m ≡ length m' → Agree m m' (act_reads a s (length m) windows)
      → Alike m m' (act_of a s m windows) (act_of a s m' windows)
  act-agrees step s m m' e h =
      let same = depends-only s m m' windows e h in
      record {
        told = ap event same.event;
        engine = same.engine;
        bytes = λ x before. ⊎_elim (same.written x)
            (λ none. changes-only s m windows x none ∙ before ∙ sym (changes-only s m' windows x (subst (λ (size : ℕ). among x (writes_of s size windows) ≡ false) e none)))
            (decide (among x (writes_of s (length m) windows)));
      }
  act-agrees (write offset number) s m m' e h = record { told = refl; engine = refl; bytes = λ x before. before }
  act-agrees (read offset) s m m' e h = record { told = refl; engine = refl; bytes = λ x before. before }

  -- ---- one engine alone

  -- so do all its acts
  alone-length : (acts : List Act) (s : Engine) (m : List ℕ) → length (alone_of acts s m windows).memory ≡ length m
  unfolding alone_of
  alone-length [] s m = refl
  alone-length (a ∷ acts) s m = let r = act_of a s m windows in alone-length acts r.engine r.memory ∙ act-length a s m

  alone-changes : (acts : List Act) (s : Engine) (m : List ℕ) (x : ℕ) → among x (alone_of acts s m windows).writes ≡ false
      → get_or (alone_of acts s m windows).memory x 0 ≡ get_or m x 0
  unfolding alone_of
  alone-changes [] s m x none = refl
  alone-changes (a ∷ acts) s m x none =
      let r = act_of a s m windows in
      let now = act_writes a s (length m) windows in
      let later = (alone_of acts r.engine r.memory windows).writes in
      let (here, there) = neither (among x now) (among x later) (sym (among-append x now later) ∙ none) in
      alone-changes acts r.engine r.memory x there ∙ act-changes a s m x here

  -- ---- one of two engines

  -- the memory that it has alone and the one that it shares differ only where the other writes; of that it reads nothing
  record Side (mine others : List ℕ) (acts : List Act) (s : Engine) (alone shared : List ℕ) : Type 0 where
    size : length alone ≡ length shared
    same : (x : ℕ) → among x others ≡ false → get_or alone x 0 ≡ get_or shared x 0
    reads : (x : ℕ) → among x (alone_of acts s alone windows).reads ≡ true → among x others ≡ false
    writes : (x : ℕ) → among x (alone_of acts s alone windows).writes ≡ true → among x mine ≡ true

  module _ (mine others : List ℕ) (a : Act) (acts : List Act) (s : Engine) (alone shared : List ℕ) (h : Side mine others (a ∷ acts) s alone shared) where
    abbrev own : After
    own = act_of a s alone windows

    abbrev later : Alone
    later = alone_of acts own.engine own.memory windows

    -- its own act goes as alone
    alike : Alike alone shared own (act_of a s shared windows)
    unfolding alone_of
    alike = act-agrees a s alone shared h.size
        (λ x here. h.same x (h.reads x (among-left x (act_reads a s (length alone) windows) later.reads here)))

    goes_on : Side mine others acts own.engine own.memory (act_of a s shared windows).memory
    unfolding alone_of
    goes_on = record {
      size = act-length a s alone ∙ h.size ∙ sym (act-length a s shared);
      same = λ x none. alike.bytes x (h.same x none);
      reads = λ x here. h.reads x (among-right x (act_reads a s (length alone) windows) later.reads here);
      writes = λ x here. h.writes x (among-right x (act_writes a s (length alone) windows) later.writes here);
    }

    -- and changes only what it writes
    spares : (x : ℕ) → among x mine ≡ false → get_or (act_of a s shared windows).memory x 0 ≡ get_or shared x 0
    unfolding alone_of
    spares x none = act-changes a s shared x
        (subst (λ (size : ℕ). among x (act_writes a s size windows) ≡ false) h.size
        (failing (among x (act_writes a s (length alone) windows)) (among x mine) (λ here. h.writes x (among-left x (act_writes a s (length alone) windows) later.writes here)) none))

    -- so the other is where it was
    waits : (rest : List Act) (q : Engine) (m : List ℕ) → Side others mine rest q m shared → Side others mine rest q m (act_of a s shared windows).memory
    waits rest q m k = record {
      size = k.size ∙ sym (act-length a s shared);
      same = λ x none. k.same x none ∙ sym (spares x none);
      reads = k.reads;
      writes = k.writes;
    }

  -- ---- both

  -- a pair has the courses of both alone, and each memory but for what the other wrote
  record Ends (firsts seconds : List ℕ) (c d : Alone) (r : Pair) : Type 0 where
    first : r.first ≡ c.course
    second : r.second ≡ d.course
    size : length c.memory ≡ length r.memory
    from_first : (x : ℕ) → among x seconds ≡ false → get_or c.memory x 0 ≡ get_or r.memory x 0
    from_second : (x : ℕ) → among x firsts ≡ false → get_or d.memory x 0 ≡ get_or r.memory x 0

  module _ (firsts seconds : List ℕ) where
    -- by each act in turn
    together : (order : List Number) (acts others : List Act) (p q : Engine) (pm qm m : List ℕ) → Side firsts seconds acts p pm m → Side seconds firsts others q qm m
        → ones order ≡ length acts → twos order ≡ length others
        → Ends firsts seconds (alone_of acts p pm windows) (alone_of others q qm windows) (together_of order acts others p q m windows)
    unfolding alone_of together_of
    together [] [] [] p q pm qm m h k e f = record { first = refl; second = refl; size = h.size; from_first = h.same; from_second = k.same }
    together [] (a ∷ acts) others p q pm qm m h k e f = absurd (omega arith)
    together [] [] (b ∷ others) p q pm qm m h k e f = absurd (omega arith)
    together (one ∷ order) [] others p q pm qm m h k e f = absurd (omega arith)
    together (one ∷ order) (a ∷ acts) others p q pm qm m h k e f =
        let own = act_of a p pm windows in
        let now = act_of a p m windows in
        let same = alike firsts seconds a acts p pm m h in
        let next = subst (λ (s : Engine). Ends firsts seconds (alone_of acts own.engine own.memory windows) (alone_of others q qm windows) (together_of order acts others s q now.memory windows)) same.engine
        (together order acts others own.engine q own.memory qm now.memory (goes_on firsts seconds a acts p pm m h) (waits firsts seconds a acts p pm m h others q qm k) (omega arith) f) in
        record {
          first = ap₂ telling (sym same.told) next.first;
          second = next.second;
          size = next.size;
          from_first = next.from_first;
          from_second = next.from_second;
        }
    together (two ∷ order) acts [] p q pm qm m h k e f = absurd (omega arith)
    together (two ∷ order) acts (b ∷ others) p q pm qm m h k e f =
        let own = act_of b q qm windows in
        let now = act_of b q m windows in
        let same = alike seconds firsts b others q qm m k in
        let next = subst (λ (s : Engine). Ends firsts seconds (alone_of acts p pm windows) (alone_of others own.engine own.memory windows) (together_of order acts others p s now.memory windows)) same.engine
        (together order acts others p own.engine pm own.memory now.memory (waits seconds firsts b others q qm m k acts p pm h) (goes_on seconds firsts b others q qm m k) e (omega arith)) in
        record {
          first = next.first;
          second = ap₂ telling (sym same.told) next.second;
          size = next.size;
          from_first = next.from_first;
          from_second = next.from_second;
        }

  -- an engine that reads and writes nothing that the other writes starts so
  starts : (acts : List Act) (s : Engine) (m others : List ℕ) → misses others ((alone_of acts s m windows).reads ++ (alone_of acts s m windows).writes) ≡ true
      → Side (alone_of acts s m windows).writes others acts s m m
  starts acts s m others h =
      let alone = alone_of acts s m windows in
      record {
        size = refl;
        same = λ x none. refl;
        reads = λ x here. missed others (alone.reads ++ alone.writes) h x (among-left x alone.reads alone.writes here);
        writes = λ x here. here;
      }

pub independence : Independence
independence p q acts others m windows e order i =
    let c = alone_of acts p m windows in
    let d = alone_of others q m windows in
    let forth = misses c.writes (d.reads ++ d.writes) in
    let back = misses d.writes (c.reads ++ c.writes) in
    let r = together_of order acts others p q m windows in
    let ends = together windows c.writes d.writes order acts others p q m m m
    (starts windows acts p m d.writes (both_right forth back e)) (starts windows others q m c.writes (both_left forth back e)) i.firsts i.seconds in
    record {
      first_course = ends.first;
      second_course = ends.second;
      size = sym ends.size ∙ alone-length windows acts p m;
      bytes = λ x. cases (λ (v : ℕ). get_or r.memory x 0 ≡ v) (among x c.writes)
          (λ here. sym (ends.from_first x (missed d.writes (c.reads ++ c.writes) (both_right forth back e) x (among-right x c.reads c.writes here))))
          (λ none. cases (λ (v : ℕ). get_or r.memory x 0 ≡ v) (among x d.writes)
          (λ _. sym (ends.from_second x none))
          (λ neither. sym (ends.from_first x neither) ∙ alone-changes windows acts p m x none));
    }

pub one-memory : OneMemory
one-memory p q acts others m windows e order order' i i' =
    let a = independence p q acts others m windows e order i in
    let b = independence p q acts others m windows e order' i' in
    let same = ext_get_or 0 (together_of order acts others p q m windows).memory (together_of order' acts others p q m windows).memory
    (a.size ∙ sym b.size) (λ x _. a.bytes x ∙ sym (b.bytes x)) in
    λ j. record { first = (a.first_course ∙ sym b.first_course) j; second = (a.second_course ∙ sym b.second_course) j; memory = same j }
