-- `active_count`, asked after each of many events. Definitions only.
use Rattle.std.specs.Prelude.{ℕ, zero, suc, ◌+◌, ◌%◌, ◌^◌, Bool, true}
use Rattle.sequences.specs.Pick.{pick}
use Rattle.sequences.specs.Times.{iterate}
use Rattle.floats.specs.Names.{f32, one}
use Rattle.state.specs.declared.Engine.{Engine}
use Rattle.engine.specs.New.{new_engine_of}
use Rattle.engine_sources.specs.Slots.{set_source_of}
use Rattle.engine_triggers.specs.Triggers.{triggered_of}

-- a new engine at 48,000 with one source, of 440 Hz, in slot 0
unfoldable pub sounding : Engine
sounding = (set_source_of (new_engine_of (f32 0x473b8000)).engine 0 (record { frequency_hz = f32 0x43dc0000; strength = one; eligible = true })).engine

-- a trigger of it
abbrev pub fired : Engine → Engine
fired e = (triggered_of e 0).engine

-- the answers after each of n triggers, added up as words of 64 bits
unfoldable pub asked_of : Bool → ℕ → ℕ
asked_of asked zero = 0
asked_of asked (suc n) = pick asked ((asked_of asked n + (iterate fired (suc n) sounding).tally.held) % 2 ^ 64) (asked_of asked n)
