-- THE NUMBER OF PLACES HELD, as it is promised. An engine holds a number, which `active_count` answers and no call works out by walking the places. It is the count over the places all the same:
-- at every moment of every run, after every field of every script, and in every line of a listing.
use Rattle.std.specs.Prelude.{ℕ, ◌≡◌, List, ◌++◌, map}
use Rattle.sequences.specs.Every.{Every}
use Rattle.pool.specs.Vacancies.{active_count}
use Rattle.state.specs.declared.Engine.{Engine}
use Rattle.script_steps.specs.declared.values.Values.{Values}
use Rattle.listing.specs.declared.lines.Line.{Line}
use Rattle.listing.specs.declared.lines.Line.TheVariants as L
use Rattle.listing.specs.declared.turns.Turn.{Turn}
use Rattle.listing.specs.Turns.{turns_of}
use Rattle.listing.specs.Printed.{lines_of}
use Rattle.engine_laws.specs.Acts.{Act, perform, Call}
use Rattle.promises.specs.Runs.{run, history, Begins}

-- the number is self.particles.iter().filter(|p| p.active).count()
abbrev pub Counted : Engine → Type 0
Counted e = e.tally.held ≡ active_count e.particles

-- ---- a line that is told of so many places held
abbrev pub with_active : ℕ → Values → Values
with_active n v =
    record {
      sample = v.sample;
      ms = v.ms;
      active = n;
      births = v.births;
      dropped = v.dropped;
      hash = v.hash;
      activity = v.activity;
    }

abbrev pub telling_of : ℕ → Line → Line
telling_of n L.Nothing = L.Nothing
telling_of n (L.Frame k v) = L.Frame k (with_active n v)
telling_of n (L.Refused k r) = L.Refused k r
telling_of n (L.Bad k r p) = L.Bad k r p
telling_of n (L.End k) = L.End k

-- a turn's line, with the places walked for it
abbrev pub walked_line : Turn → Line
walked_line t = telling_of (active_count t.run.engine.particles) t.line

pub record PlacesHeld : Type 0 where
  -- after every call of a run, whatever the calls are
  pub counted : (start : Engine) → Begins start → (cs : List Call) → Counted (run start cs)
  -- and at every moment within a call, between two births of one sample too
  pub counted_within : (start : Engine) → Begins start → (cs : List Call) → (before after : List Act) → history start cs ≡ before ++ after → Counted (perform start before)
  -- after every field of a script, across its resets
  pub fields : (s : List ℕ) → Every (λ (t : Turn). Counted t.run.engine) (turns_of s)
  -- a listing has the lines that it would have if each walked the places
  pub listed : (s : List ℕ) → map walked_line (turns_of s) ≡ lines_of (turns_of s)
