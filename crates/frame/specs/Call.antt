-- The call `frame` on the engine, line by line as the Rust's, with 01's refusal. Definitions only.
use Rattle.std.specs.Prelude.{ℕ, List, map, Float, Ok, Err}
use Rattle.sequences.specs.Pick.{pick}
use Rattle.sequences.specs.Walk.{count}
use Rattle.floats.specs.Word.{difference}
use Rattle.pitch.specs.Highest.{max_hz_of}
use Rattle.state.specs.declared.Engine.{Engine}
use Rattle.state.specs.declared.Tally.{Tally}
use Rattle.state.specs.State.{with_particles, with_tally}
use Rattle.pool.specs.declared.Particle.{Particle}
use Rattle.refusals.specs.Numbers.{Answer}
use Rattle.refusals.specs.declared.Refusal.TheVariants.{Seconds}
use Rattle.windows.specs.declared.Window.{Window}
use Rattle.windows.specs.Opening.{empty_frame}
use Rattle.windows.specs.declared.Frame.{Frame}
use Rattle.frame.specs.declared.Framed.{Framed}
use Rattle.frame.specs.Freed.{is_freed, sweep_one}
use Rattle.frame.specs.Shown.{shown_of}
use Rattle.frame.specs.Windows.{windows_of}
use Rattle.frame.specs.Frame.{activity_of, accepted}

-- if age >= p.lifetime || retirement >= 1.0 { *p = Particle::default(); }, at each place
unfoldable pub held_of : Engine → List Particle
held_of e = map (sweep_one e.clock.sample e.prepared.sample_rate) e.particles

-- how many places that frees
unfoldable pub freed_of : Engine → ℕ
freed_of e = count (is_freed e.clock.sample e.prepared.sample_rate) e.particles

-- frame.windows, of the places that are still held
unfoldable pub windows_by : Engine → Float → List Window
windows_by e bin_hz =
    let rate = e.prepared.sample_rate in
    windows_of e.prepared.partial_logs bin_hz (max_hz_of rate) (map (shown_of e.clock.sample rate) (held_of e))

-- ---- the engine after it
-- self.attempts = 0; and so many places fewer are held
abbrev pub renewed_tally : Tally → ℕ → Tally
renewed_tally t freed =
    record {
      attempts = 0;
      births = t.births;
      dropped = t.dropped;
      decision_hash = t.decision_hash;
      held = difference t.held freed;
    }

-- self.activity = ..;
abbrev pub with_activity : Engine → Float → Engine
with_activity e x =
    record {
      particles = e.particles;
      sources = e.sources;
      prepared = e.prepared;
      clock = e.clock;
      next = e.next;
      streams = e.streams;
      partial_weights = e.partial_weights;
      tally = e.tally;
      config = e.config;
      activity = x;
    }

unfoldable pub renewed_of : Engine → List Particle → ℕ → Float → Engine
renewed_of e held freed activity = with_tally (with_activity (with_particles e held) activity) (renewed_tally e.tally freed)

-- ---- the call
unfoldable pub taken_of : Engine → Float → Float → Framed
taken_of e bin_hz seconds =
    let activity = activity_of e.activity e.config.enabled seconds in
    record { answer = Ok tt; frame = record { windows = windows_by e bin_hz; activity = activity }; engine = renewed_of e (held_of e) (freed_of e) activity }

-- refusal 7: the engine as it was, and an empty frame
unfoldable pub refused_of : Engine → Framed
refused_of e = record { answer = Err Seconds; frame = empty_frame; engine = e }

unfoldable pub framed_of : Engine → Float → Float → Framed
framed_of e bin_hz seconds = pick (accepted seconds) (taken_of e bin_hz seconds) (refused_of e)

-- what the call answers: the frame, and whether it was taken
abbrev pub shown_by : Framed → Frame × Answer
shown_by f = (f.frame, f.answer)
