-- The ranges of the clock, the streams and the Cloud's opportunity that an engine keeps in a run begun at `new` or a reset: how each call sets them.
-- They are apart from `Sound`, which every later moment needs: these are counted from sample 0, and hold only where a run begins there.
use Prim.Native.Nat.{ℕ, ◌^◌, ◌≤◌, ◌<◌, zero-le}
use native.Mathlib.Omega.{arith}
use mathlib.Core.Path.{◌≡◌, sym, subst}
use mathlib.Core.Bool.{Bool, true, false}
use lib.Dec.{T, lit≤}
use lib.ListN.{get_or, set}
use lib.Ieee.{Float, binary32, binary64, of_bits, le, lt, eq, fits, is_nan}
use lib.Ieee.Bits.{is_false}
use lib.Ieee.Fits.{fits_widens}
use Rattle.floats.specs.Word.{grown}
use Rattle.sequences.specs.Pick.{either}
use Rattle.sequences.specs.Every.{Every, every_at, every_set}
use Rattle.floats.specs.Names.{f32, f64, one, Double}
use Rattle.floats_laws.proofs.Rising.{nought}
use Rattle.floats_laws.proofs.Rules.{finite_number}
use Rattle.floats_laws.proofs.Held.{clamp_mag, clamp-least}
use Rattle.floats_laws.proofs.Spans.{least-upto}
use Rattle.floats_laws.proofs.Mag.{Upto}
use Rattle.floats_laws.proofs.Fractions.{Under}
use Rattle.settings.specs.declared.Config.{Config}
use Rattle.settings.specs.Mending.{finite_or, held_to, rate_held, mended_of}
use Rattle.settings_laws.proofs.Again.{finite_or_lem, phase-within, phase_fits}
use Rattle.settings_laws.proofs.Rates.{rate_above}
use Rattle.timing.specs.Streams.{moved_of, reference_of}
use Rattle.timing_laws.proofs.Lanes.{Streamed, new_streamed, moved_streamed, prepared_streamed}
use Rattle.engine_laws.proofs.Alpha.{alpha_small}
use Rattle.engine_laws.proofs.Clocks.{Clocked, Reach, clocked_ticked, sought_within, start-offset, start-phase, reference_reach}
use Rattle.engine_laws.proofs.Opportunities.{opportunity_most, opportunity-after, opportunity_sought}
use Rattle.state.specs.declared.Clock.{Clock}
use Rattle.state.specs.declared.Engine.{Engine}
use Rattle.state.specs.declared.Done.{Done}
use Rattle.state.specs.declared.Prepared.{Prepared}
use Rattle.state.specs.State.{past_stream, reference_now}
use Rattle.state.specs.Make.{prepared_of, new_on}
use Rattle.engine.specs.New.{new_engine_of, reset_of}
use Rattle.engine_samples.specs.Sample.{opportunity_after, ticked_of}
use Rattle.engine_changes.specs.Changes.{offset_to, prepared_at, prepared_all, sought_phase, sought_clock, sought_next}
use Rattle.engine_laws.proofs.Joins.{grown_small}
use Rattle.engine_laws.proofs.Sound.{Made, Settled, Sound}

pub record Ranged (e : Engine) : Type 0 where
  pub clocked : Clocked e.clock
  pub streamed : Every Streamed e.streams
  pub opportunity : e.next.opportunity ≤ opportunity_most

-- ---- the settings
rate-upto : (x : Float) → Upto (rate_held x) 32
unfolding held_to of_bits
rate-upto x =
    let y = finite_or x one in
    let n = is_false (is_nan y) (finite_number binary32 y (finite_or_lem x one tt)) in
    least-upto (rate_held x) 101 32 (clamp-least y (f32 0x3c23d70a) (f32 0x42000000) 101 n (lit≤ tt) (lit≤ tt)) (clamp_mag y (f32 0x3c23d70a) (f32 0x42000000) 32 n (lit≤ tt) (lit≤ tt))

module _ (c : Config) (h : Settled c) where
  settled-rate : Upto c.rate_hz 32
  unfolding mended_of
  settled-rate = subst (λ (d : Config). Upto d.rate_hz 32) (sym h.is) (rate-upto h.asked.rate_hz)

  settled-phase : T (le nought c.phase) × T (le c.phase one)
  unfolding mended_of
  settled-phase = subst (λ (d : Config). T (le nought d.phase) × T (le d.phase one)) (sym h.is) (phase-within h.asked.phase)

  settled-phase-fits : T (fits binary64 c.phase)
  unfolding mended_of
  settled-phase-fits = fits_widens c.phase (subst (λ (d : Config). T (fits binary32 d.phase)) (sym h.is) (phase_fits h.asked.phase h.singles.phase))

  -- the clock with the settings' phase for its offset
  pub offset_clocked : (k : Clock) → Clocked k → Clocked (offset_to k c.phase)
  unfolding of_bits
  offset_clocked k w =
      record {
        phase_fits = w.phase_fits;
        phase_least = w.phase_least;
        phase_most_lem = w.phase_most_lem;
        offset_fits = settled-phase-fits;
        offset_most_lem = start-offset c.phase k.sample settled-phase.0 settled-phase.1;
      }

made-alpha : (p : Prepared) → Made p → Under p.phase_alpha 3 1024
unfolding prepared_of
made-alpha p m = subst (λ (q : Prepared). Under q.phase_alpha 3 1024) (sym m.is) (alpha_small p.sample_rate m.single m.lawful)

module _ (e : Engine) (s : Sound e) where
  -- ---- a seek
  pub sought_clocked : (cycles : Float) → Double cycles → Clocked (sought_clock e cycles)
  unfolding of_bits
  sought_clocked cycles f =
      let w = sought_within cycles f in
      let p = settled-phase e.config s.settled in
      record {
        phase_fits = w.0;
        phase_least = w.1;
        phase_most_lem = start-phase (sought_phase cycles) e.clock.sample w.2;
        offset_fits = settled-phase-fits e.config s.settled;
        offset_most_lem = start-offset e.config.phase e.clock.sample p.0 p.1;
      }

  pub sought_opportunity_lem : (cycles : Float) → Double cycles → (sought_next e (sought_clock e cycles)).opportunity ≤ opportunity_most
  sought_opportunity_lem cycles f = opportunity_sought (sought_phase cycles) (reference_now (sought_clock e cycles)) (sought_within cycles f).2

  module _ (g : Ranged e) where
    -- ---- a sample
    pub ticked_clocked : e.clock.sample < 2 ^ 40 → Clocked (ticked_of e).clock
    unfolding ticked_of of_bits
    ticked_clocked l =
        let p = settled-phase e.config s.settled in
        clocked_ticked e.clock (grown e.clock.sample) e.config.scheduled e.config.rate_hz e.prepared.sample_rate e.config.phase e.prepared.phase_alpha g.clocked l
        (grown_small e.clock.sample l) (settled-rate e.config s.settled) (rate_above e.prepared.sample_rate s.made.lawful) p.0 p.1 (made-alpha e.prepared s.made)

    pub engine_reach : Reach (reference_now e.clock)
    engine_reach = reference_reach e.clock g.clocked s.time

    lane_streamed : (lane : ℕ) → lane < 3 → Streamed (get_or e.streams lane past_stream)
    lane_streamed lane h = every_at Streamed e.streams lane past_stream (subst (λ (n : ℕ). lane < n) (sym s.lanes) h) g.streamed

    -- a start that has come, at one of the three lanes
    pub moved-lanes : (lane : ℕ) (reference : Float) → lane < 3 → Reach reference → lt reference (get_or e.streams lane past_stream).next ≡ false
        → Every Streamed (set e.streams lane (moved_of (get_or e.streams lane past_stream).index lane reference e.config.sync))
    moved-lanes lane reference h r d =
        let old = get_or e.streams lane past_stream in
        every_set Streamed e.streams lane (moved_of old.index lane reference e.config.sync) (moved_streamed old (lane_streamed lane h) lane reference e.config.sync r.0 r.1 d) g.streamed

    pub moved-opportunity : (reference : Float) → Reach reference → le (reference_of e.next.opportunity) reference ≡ true → opportunity_after e.next.opportunity reference ≤ opportunity_most
    moved-opportunity reference r d = opportunity-after e.next.opportunity reference g.opportunity r d

    -- ---- a change of sync
    lane_prepared : (lane : ℕ) (sync : Bool) → lane < 3 → Streamed (prepared_at e.streams lane sync)
    unfolding prepared_at
    lane_prepared lane sync h = prepared_streamed (get_or e.streams lane past_stream).index lane sync (lane_streamed lane h).most

    pub all-prepared : (sync : Bool) → Every Streamed (prepared_all e.streams sync)
    unfolding prepared_all
    all-prepared sync = (lane_prepared 0 sync (omega arith), (lane_prepared 1 sync (omega arith), (lane_prepared 2 sync (omega arith), tt)))

-- ---- new and reset
start_clocked : Clocked (record { sample = 0; phase = f64 0; phase_offset = f64 0 })
unfolding of_bits fits le lt eq
start_clocked = record { phase_fits = tt; phase_least = tt; phase_most_lem = zero-le; offset_fits = tt; offset_most_lem = zero-le }

ranged_on : (p : Prepared) → Ranged (new_on p)
unfolding new_on
ranged_on p = record { clocked = start_clocked; streamed = (new_streamed 0 false, (new_streamed 1 false, (new_streamed 2 false, tt))); opportunity = zero-le }

pub ranged_new : (rate : Float) → Ranged (new_engine_of rate).engine
unfolding new_engine_of
ranged_new rate = either (λ (d : Done). Ranged d.engine) _ _ _ (ranged_on _) (ranged_on _)

pub ranged_reset : (e : Engine) → Ranged (reset_of e)
unfolding reset_of
ranged_reset e = ranged_on e.prepared
