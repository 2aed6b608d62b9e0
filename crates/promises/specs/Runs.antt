-- A run: any list of calls from an engine that `new` or a reset has made, and every act of it, in order. Definitions only.
use Rattle.std.specs.Prelude.{List, [], ◌∷◌, ◌++◌, Float}
use Rattle.floats.specs.Names.{Single}
use Rattle.state.specs.declared.Engine.{Engine}
use Rattle.engine.specs.New.{new_engine_of, reset_of}
use Rattle.engine_laws.specs.Acts.{Act, Call, Typed, acts_of, applied}

unfoldable pub run : Engine → List Call → Engine
unfolding applied
run e [] = e
run e (c ∷ cs) = run (applied e c) cs

unfoldable pub history : Engine → List Call → List Act
unfolding acts_of applied
history e [] = []
history e (c ∷ cs) = acts_of e c ++ history (applied e c) cs

abbrev pub AllTyped : List Call → Type 0
AllTyped [] = Unit {0}
AllTyped (c ∷ cs) = Typed c × AllTyped cs

-- where a run begins
pub data Begins : Engine → Type 0 where
  new : (rate : Float) → Single rate → Begins (new_engine_of rate).engine
  reset : (e : Engine) (cs : List Call) → Begins e → AllTyped cs → Begins (reset_of (run e cs))
