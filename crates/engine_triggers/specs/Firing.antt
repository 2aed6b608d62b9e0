-- A trigger in the parts that its code works out. Definitions only.
use Rattle.std.specs.Prelude.{ℕ, Bool, false, ◌==◌, Ok}
use Rattle.sequences.specs.Pick.{pick}
use Rattle.settings.specs.Settings.{is_sprinkle}
use Rattle.settings.specs.declared.Config.{Config}
use Rattle.sources.specs.Sources.{is_eligible}
use Rattle.sources.specs.declared.Source.{Source}
use Rattle.engine_triggers.specs.declared.Outcome.TheVariants.{Born, Dropped}
use Rattle.engine_triggers.specs.Triggers.{Fired}

abbrev pub permits : Config → Source → Bool
permits config source = pick config.enabled (pick (is_sprinkle config.shape) (is_eligible source) false) false

-- dropped where `dropped` grew
abbrev pub became_of : ℕ → ℕ → Fired
became_of before after = pick (after == before) (Ok Born) (Ok Dropped)
