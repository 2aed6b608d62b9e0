-- THE LAWS THAT THE SCOPE ASKS FOR besides the demands, as they are promised: two spans are one, a range walk is a full scan, log2 never falls, exp at or below 0 lies from 0 to 1.
use Rattle.std.specs.Prelude.{ℕ, ◌+◌, ◌≤◌, ◌<◌, ◌≡◌, true, List, T, length, get_or, Float, Ok}
use Rattle.std.specs.Float.{nan}
use Rattle.std.specs.Float.Ieee.{lt, le}
use Rattle.sequences.specs.Every.{Every}
use Rattle.floats.specs.Names.{f64, zero32, one, Single}
use Rattle.powers.specs.Power.{exp}
use Rattle.powers.specs.Exp64.{exp64}
use Rattle.elementary.specs.Log2.{log2_of}
use Rattle.state.specs.declared.Engine.{Engine}
use Rattle.engine.specs.Advance.{advanced_of}
use Rattle.windows.specs.declared.Window.{Window}
use Rattle.mask_gains.specs.Logs.{lawful_logs}
use Rattle.mask_gains.specs.Opened.{open_at}
use Rattle.windows.specs.Attenuation.{opened_by}
use Rattle.mask_laws.specs.Finite.{Finite}

pub record Asked : Type 0 where
  -- `advance` m then n, both accepted, is `advance` m + n
  pub advance_joins : (e : Engine) (m n : ℕ) → (advanced_of e m).answer ≡ Ok tt → (advanced_of (advanced_of e m).engine n).answer ≡ Ok tt
      → advanced_of (advanced_of e m).engine n ≡ advanced_of e (m + n)
  -- a window opens nothing outside its range: at each bin from 1 on the walk over the ranges opens as much as a scan that asks every window. A radius need not be positive, as that of a window not in use is not.
  pub walk_is_scan : (ws : List Window) → Every Finite ws → (logs : List Float) → ((k : ℕ) → Single (get_or logs k nan)) → lawful_logs logs ≡ true
      → (bin : ℕ) → 1 ≤ bin → bin < length logs → open_at ws logs bin ≡ opened_by ws (get_or logs bin nan)
  -- log2 never falls as its positive argument rises
  pub log2_never_falls : (x y : Float) → Single x → Single y → T (lt zero32 x) → T (le x y) → T (le (log2_of x) (log2_of y))
  -- exp of an argument at or below 0 lies from 0 to 1, in f32 and in f64
  pub exp_to_one : (x : Float) → T (le x zero32) → T (le zero32 (exp x)) × T (le (exp x) one)
  pub exp64_to_one : (x : Float) → T (le x (f64 0)) → T (le (f64 0) (exp64 x)) × T (le (exp64 x) (f64 0x3ff0000000000000))
