-- No step of an interleaving is refused: both states stay sound, and the memory's length and bytes stay.
use mathlib.Core.Path.{◌≡◌, refl, sym, subst}
use Prim.Native.Nat.{ℕ, ◌≤◌}
use mathlib.Core.List.{List, [], ◌∷◌}
use lib.ListN.{length}
use Rattle.kit.specs.Limits.{most_memory, most_windows}
use Rattle.memory.specs.declared.window.Window.{Window}
use Rattle.state.specs.declared.engine.Engine.{Engine}
use Rattle.steps.specs.Claims.{Bytes}
use Rattle.steps.proofs.Keeps.{advance-keeps}
use Rattle.claims.specs.Transfers.{step as takes, write as stores}
use Rattle.claims.specs.Calls.{Sound}
use Rattle.claims.proofs.Calls.{accept}
use Rattle.independence.specs.Independence.{Act, step, write, read, act_of, one, two, Proper, refused_by, Unrefused}

-- an act is not refused, and what it needs is there for the next
record Goes (a : Act) (more : List Act) (s : Engine) (m : List ℕ) (windows : List Window) : Type 0 where
  taken : refused_by a s (length m) (length windows) ≡ 0
  sound : Sound (act_of a s m windows).engine
  proper : Proper more
  bytes : Bytes (act_of a s m windows).memory
  small : length (act_of a s m windows).memory ≤ most_memory

goes : (a : Act) (more : List Act) (s : Engine) (m : List ℕ) (windows : List Window) → Sound s → Proper (a ∷ more)
    → Bytes m → length m ≤ most_memory → length windows ≤ most_windows → Goes a more s m windows
goes step more s m windows h p bytes small few =
    let ((taken, _), sound) = accept s (takes m windows ∷ []) h (bytes, small, few, tt) in
    let keeps = advance-keeps s m windows in
    record { taken = taken; sound = sound; proper = p; bytes = keeps.bytes bytes; small = subst (λ (n : ℕ). n ≤ most_memory) (sym keeps.length) small }
goes (write offset number) more s m windows h (word, p) bytes small few =
    let (_, sound) = accept s (stores offset number ∷ []) h (word, tt) in
    record { taken = refl; sound = sound; proper = p; bytes = bytes; small = small }
goes (read offset) more s m windows h p bytes small few = record { taken = refl; sound = h; proper = p; bytes = bytes; small = small }

pub unrefused : Unrefused
unrefused [] acts others p q m windows h k f g bytes small few = tt
unrefused (one ∷ order) [] others p q m windows h k f g bytes small few = unrefused order [] others p q m windows h k f g bytes small few
unrefused (one ∷ order) (a ∷ acts) others p q m windows h k f g bytes small few =
    let now = goes a acts p m windows h f bytes small few in
    let r = act_of a p m windows in
    (now.taken, unrefused order acts others r.engine q r.memory windows now.sound k now.proper g now.bytes now.small few)
unrefused (two ∷ order) acts [] p q m windows h k f g bytes small few = unrefused order acts [] p q m windows h k f g bytes small few
unrefused (two ∷ order) acts (b ∷ others) p q m windows h k f g bytes small few =
    let now = goes b others q m windows k g bytes small few in
    let r = act_of b q m windows in
    (now.taken, unrefused order acts others p r.engine r.memory windows h now.sound f now.proper now.bytes now.small few)
