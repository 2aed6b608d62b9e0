-- The choice of a birth's source, line by line as the Rust has it. Definitions only.
use Rattle.std.specs.Prelude.{ℕ, suc, ◌-◌, Bool, not, ◌&&◌, List, [], ◌∷◌, pos, eqb, ltb, Float, Option, Some, None}
use Rattle.std.specs.Option.{option_eq}
use Rattle.std.specs.Float.{binary32}
use Rattle.std.specs.Float.Ieee.{of_int, to_unsigned}
use Rattle.sequences.specs.Pick.{pick}
use Rattle.sequences.specs.Walk.{count}
use Rattle.floats.specs.Names.{mul32}
use Rattle.sources.specs.declared.Source.{Source}
use Rattle.sources.specs.Sources.{is_eligible}

-- s.eligible() && Some(*i) != self.last_source
unfoldable pub is_alternative : Option ℕ → ℕ → Source → Bool
is_alternative last i s = is_eligible s && not (option_eq eqb (Some i) last)

-- .filter(eligible).count()
abbrev pub alternatives_of : Option ℕ → List Source → ℕ
alternatives_of last = count (is_alternative last)

-- .filter(eligible).nth(n), of the sources from slot i on
unfoldable pub nth_from : Option ℕ → ℕ → List Source → ℕ → Option ℕ
nth_from last i [] n = None
nth_from last i (s ∷ ss) n = pick (is_alternative last i s) (pick (eqb n 0) (Some i) (nth_from last (suc i) ss (n - 1))) (nth_from last (suc i) ss n)

abbrev pub nth_of : Option ℕ → List Source → ℕ → Option ℕ
nth_of last ss n = nth_from last 0 ss n

-- ((random(index, 1) * alternatives as f32) as usize).min(alternatives - 1)
unfoldable pub choice_of : Float → ℕ → ℕ
choice_of draw n =
    let at = to_unsigned 64 (mul32 draw (of_int binary32 (pos n))) in
    pick (ltb (n - 1) at) (n - 1) at

-- if alternatives == 0 { position(eligible) } else { nth(choice) }
unfoldable pub chosen_of : Option ℕ → List Source → Float → Option ℕ
chosen_of last ss draw =
    let n = alternatives_of last ss in
    pick (eqb n 0) (nth_of None ss 0) (nth_of last ss (choice_of draw n))
