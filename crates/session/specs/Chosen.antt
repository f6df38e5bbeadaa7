-- RULES.md, "Trace and listing": a trace has one engine, or two, of which one is chosen: the one that the last WR, RD or ST
-- was for.
use Rattle.std.specs.Prelude.{ℕ, Bool, true, false, List}
use Rattle.kit.specs.Choice.{when}
use Rattle.kit.specs.declared.settings.Settings.{Settings}
use Rattle.state.specs.declared.engine.Engine.{Engine}
use Rattle.record.specs.Names.{names_of}
use Rattle.session.specs.declared.chosen.Chosen.{Chosen}
use Rattle.session.specs.declared.chosen.Chosen.TheVariants.{Only, First, Second}

-- CF sets up one engine, C2 two
abbrev pub chosen_at : Bool → Chosen
chosen_at two = when two First Only

abbrev pub two_of : Chosen → Bool
two_of Only = false
two_of First = true
two_of Second = true

-- the other one of two
abbrev pub turned_of : Chosen → Chosen
turned_of Only = Only
turned_of First = Second
turned_of Second = First

-- the record at `at` is for the other one
abbrev pub called_of : Chosen → List ℕ → ℕ → Bool
called_of Only input at = false
called_of First input at = names_of input at 2
called_of Second input at = names_of input at 1

-- an engine with the settings that both have
abbrev pub with_settings : Settings → Engine → Engine
with_settings x e =
    record { settings = x; control = e.control; status = e.status; pointers = e.pointers; simple = e.simple; phase = e.phase }
