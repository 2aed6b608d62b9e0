-- The number of places held: call by call and act by act from where a run begins, and turn by turn over a script.
use Prim.Native.Nat.{ℕ, suc}
use mathlib.Core.Path.{◌≡◌, refl, sym, ap, ◌∙◌, subst}
use mathlib.Core.List.{List, [], ◌∷◌, ◌++◌, map}
use lib.ListN.{length}
use Rattle.sequences.specs.Every.{Every, every_each}
use Rattle.pool.specs.Vacancies.{active_count}
use Rattle.state.specs.declared.Engine.{Engine}
use Rattle.script_steps.specs.declared.values.Values.{Values}
use Rattle.script_steps.specs.Values.{values_of}
use Rattle.listing.specs.declared.lines.Line.{Line}
use Rattle.listing.specs.declared.lines.Line.TheVariants as L
use Rattle.listing.specs.declared.turns.Turn.{Turn}
use Rattle.listing.specs.Turns.{turns_of}
use Rattle.listing.specs.Printed.{lines_of}
use Rattle.engine_laws.specs.Acts.{Call, applied}
use Rattle.engine_laws.proofs.Numbered.{Numbered, numbered-new, numbered-reset, numbered_performed, numbered-applied}
use Rattle.promises.specs.Runs.{run, Begins, new, reset}
use Rattle.promises.specs.Scripts.{course_of}
use Rattle.promises.specs.PlacesHeld.{Counted, with_active, telling_of, walked_line, PlacesHeld}
use Rattle.promises.proofs.Scripts.{scripts}
use Rattle.promises.proofs.Told.{Tells, told}

-- ---- a run
pub begins-numbered : (e : Engine) → Begins e → Numbered e
begins-numbered e (new rate f) = numbered-new rate
begins-numbered e (reset e' cs b t) = numbered-reset (run e' cs)

pub numbered-run : (e : Engine) (cs : List Call) → Numbered e → Numbered (run e cs)
unfolding run
numbered-run e [] w = w
numbered-run e (c ∷ cs) w = numbered-run (applied e c) cs (numbered-applied e c w)

-- ---- a script: each turn is the end of a run, and its line tells of the engine then
counted-turn : (s : List ℕ) (before after : List Turn) (t : Turn) → turns_of s ≡ before ++ t ∷ after → Counted t.run.engine
counted-turn s before after t h =
    let n = suc (length before) in
    let k = course_of s n in
    subst Counted (sym (scripts.turn_is_run s before after t h)) (numbered-run k.start k.calls (begins-numbered k.start (scripts.begins s n))).number

walked : (e : Engine) (l : Line) → Counted e → Tells e l → telling_of (active_count e.particles) l ≡ l
unfolding values_of
walked e L.Nothing c t = refl
walked e (L.Frame n v) c t = ap (λ (a : ℕ). L.Frame n (with_active a v)) (sym (ap (λ (x : Values). x.active) t.1 ∙ c))
walked e (L.Refused n r) c t = refl
walked e (L.Bad n r p) c t = refl
walked e (L.End n) c t = refl

walked_turn : (s : List ℕ) (before after : List Turn) (t : Turn) → turns_of s ≡ before ++ t ∷ after → walked_line t ≡ t.line
walked_turn s before after t h = walked t.run.engine t.line (counted-turn s before after t h) (told s before after t h)

lines_walked : (ts : List Turn) → Every (λ (t : Turn). walked_line t ≡ t.line) ts → map walked_line ts ≡ lines_of ts
lines_walked [] a = refl
lines_walked (t ∷ ts) a = ap (λ (l : Line). l ∷ map walked_line ts) a.0 ∙ ap {B = List Line} (λ ls. t.line ∷ ls) (lines_walked ts a.1)

-- THE PROMISE
pub places-held : PlacesHeld
places-held =
    record {
      counted = λ start b cs. (numbered-run start cs (begins-numbered start b)).number;
      counted_within = λ start b cs before after split. (numbered_performed start before (begins-numbered start b)).number;
      fields = λ s. every_each (λ (t : Turn). Counted t.run.engine) (turns_of s) (counted-turn s);
      listed = λ s. lines_walked (turns_of s) (every_each (λ (t : Turn). walked_line t ≡ t.line) (turns_of s) (walked_turn s));
    }
