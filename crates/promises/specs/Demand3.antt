-- DEMAND 3, as it is promised: of every beginning, every list of typed calls, and every moment of it, between two births of one sample too; and once more over calls alone, as the demand is worded.
-- Its terms (`place`, `Held`, `Life`, `due`, `told`, `story`) are those of Life.antt, runs those of Runs.antt; an act is a part of a call.
use Rattle.std.specs.Prelude.{ℕ, ◌-◌, ◌<◌, ◌≡◌, ◌↔◌, true, false, List, [], ◌∷◌, ◌++◌, T, Float, Option, Some}
use Rattle.std.specs.Float.Ieee.{le}
use Rattle.floats.specs.Names.{f64}
use Rattle.pool.specs.Pool.{free_particle}
use Rattle.state.specs.declared.Engine.{Engine}
use Rattle.floats.specs.Word.{grown}
use Rattle.frame.specs.Freed.{elapsed_of}
use Rattle.frame.specs.Frame.{accepted}
use Rattle.engine_laws.specs.Acts.{Act, birth, frame, act, perform, Call, take_frame, acts_of, applied}
use Rattle.promises.specs.Life.{place, Held, permitted, newborn, Life, life_of, living, freed, due, story}
use Rattle.promises.specs.Runs.{run, history, AllTyped, Begins}

-- place i is free, and every place below it is held
abbrev pub Lowest : Engine → ℕ → Type 0
Lowest e i = ((place e i).active ≡ false) × ((j : ℕ) → j < i → Held e j)

-- Among the acts there is a birth that took place i, the lowest free one, and its particle lives on to the end, as l.
pub record Born (e : Engine) (acts : List Act) (i : ℕ) (l : Life) : Type 0 where
  pub before : List Act
  pub index : ℕ
  pub own : Option ℕ
  pub after : List Act
  pub split : acts ≡ before ++ birth index own ∷ after
  pub lowest : Lowest (perform e before) i
  pub allowed : permitted (perform e before) index own ≡ true
  pub inside : (perform e before).tally.attempts ≡ 64 → ⊥
  pub lives : story (act (perform e before) (birth index own)) after (life_of (newborn (perform e before) index own)) ≡ living l

-- Among the acts there is a first accepted frame that finds the particle due: it lives, as `then`, up to that frame.
pub record FirstDue (e : Engine) (acts : List Act) (l : Life) : Type 0 where
  pub before : List Act
  pub seconds : Float
  pub after : List Act
  pub then : Life
  pub split : acts ≡ before ++ frame seconds ∷ after
  pub lives : story e before l ≡ living then
  pub is_due : due (perform e before) then ≡ true

-- The call is a frame, accepted, and finds the particle due.
pub record DueFrame (e : Engine) (c : Call) (l : Life) : Type 0 where
  pub bin_hz : Float
  pub seconds : Float
  pub is : c ≡ take_frame bin_hz seconds
  pub taken : accepted seconds ≡ true
  pub is_due : due e l ≡ true

-- ---- at a moment
-- the same birth, the same lifetime and, where there was one, the same first retirement
abbrev pub Fixed : Life → Life → Type 0
Fixed l l' = (l'.birth ≡ l.birth) × (l'.lifetime ≡ l.lifetime) × ((r : ℕ) → l.retired ≡ Some r → l'.retired ≡ Some r)

-- Of a moment e of a run: the acts up to it led from the engine `start`, which holds no place.
pub record AtMoment (start : Engine) (acts : List Act) (e : Engine) : Type 0 where
  -- who holds a place was born in this run, and has lived since
  pub born : (i : ℕ) → Held e i → Born start acts i (life_of (place e i))
  pub at_most_ten : (i : ℕ) → Held e i → T (le (place e i).lifetime (f64 0x4024000000000000))
  -- no birth and no retirement lies after the sample: the differences in `age` and `faded` are plain ones
  pub past : (i : ℕ) → Held e i → elapsed_of (place e i).birth e.clock.sample ≡ e.clock.sample - (place e i).birth
  pub faded_since : (i : ℕ) → Held e i → (r : ℕ) → (place e i).retirement ≡ Some r → elapsed_of r e.clock.sample ≡ e.clock.sample - r
  -- nothing changes a birth, a lifetime or a first retirement
  pub fixed : (later : List Act) (l l' : Life) → story e later l ≡ living l' → Fixed l l'
  -- over any later acts it keeps its place as long as no frame found it due
  pub keeps : (i : ℕ) → Held e i → (later : List Act) (l : Life) → story e later (life_of (place e i)) ≡ living l
      → Held (perform e later) i × (life_of (place (perform e later) i) ≡ l)
  -- and otherwise the first frame that found it due freed the place
  pub ends : (i : ℕ) → Held e i → (later : List Act) → story e later (life_of (place e i)) ≡ freed
      → (d : FirstDue e later (life_of (place e i))) × (place (act (perform e d.before) (frame d.seconds)) i ≡ free_particle)
  -- no call but an accepted frame frees
  pub only : (c : Call) (l : Life) → story e (acts_of e c) l ≡ freed → DueFrame e c l
  -- a permitted birth inside the attempt limit is dropped exactly when all 64 places are held, and otherwise has the lowest free place
  pub dropped : (index : ℕ) (own : Option ℕ) → e.tally.attempts < 64 → permitted e index own ≡ true
      → ((act e (birth index own)).tally.dropped ≡ grown e.tally.dropped) ↔ ((i : ℕ) → i < 64 → Held e i)
  pub placed : (index : ℕ) (own : Option ℕ) → e.tally.attempts < 64 → permitted e index own ≡ true → (i : ℕ) → i < 64 → Lowest e i
      → place (act e (birth index own)) i ≡ newborn e index own

-- ---- over calls
-- none of the calls is an accepted frame that finds the particle at place i due
abbrev pub NoneDue : Engine → List Call → ℕ → Type 0
NoneDue e [] i = Unit {0}
NoneDue e (c ∷ cs) i = (DueFrame e c (life_of (place e i)) → ⊥) × NoneDue (applied e c) cs i

-- Of the engine e between two calls of a run, and the particle that holds place i.
pub record OverCalls (e : Engine) (i : ℕ) : Type 0 where
  pub at_most_ten : T (le (place e i).lifetime (f64 0x4024000000000000))
  -- it holds its place, with its birth, its lifetime and its first retirement, over any calls of which none is an accepted frame that finds it due
  pub until : (later : List Call) → NoneDue e later i → Held (run e later) i × Fixed (life_of (place e i)) (life_of (place (run e later) i))
  -- the first accepted frame that finds it due frees its place, and no other call does
  pub frees : (later : List Call) → NoneDue e later i → (c : Call)
      → (place (applied (run e later) c) i ≡ free_particle) ↔ DueFrame (run e later) c (life_of (place (run e later) i))

-- ---- the promise
pub record Demand3 : Type 0 where
  -- performing a call's acts is what the call's contract says; so a run of calls is the acts of its history
  pub calls_are_acts : (e : Engine) (c : Call) → perform e (acts_of e c) ≡ applied e c
  pub runs_are_acts : (e : Engine) (cs : List Call) → perform e (history e cs) ≡ run e cs
  -- at every moment of every run
  pub moments : (start : Engine) → Begins start → (cs : List Call) → AllTyped cs → (before after : List Act) → history start cs ≡ before ++ after
      → AtMoment start before (perform start before)
  -- over the calls of every run
  pub calls : (start : Engine) → Begins start → (cs : List Call) → AllTyped cs → (i : ℕ) → Held (run start cs) i → OverCalls (run start cs) i
