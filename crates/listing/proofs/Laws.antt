-- Laws of the listing: how the text that is left goes on.
use Rattle.std.proofs.Common.{◌≡◌, ℕ, suc, ◌+◌, ◌-◌, ◌<◌, ◌≤◌, List, ◌++◌, length, sym, append-nil, arith, eq-eqb, ne_eqb}
use Rattle.text.specs.Put.{Put}
use Rattle.text.proofs.Laws.{seq}
use Rattle.script_steps.specs.declared.Run.{Run}
use Rattle.listing.specs.Lines.{text_of}
use Rattle.listing.specs.declared.turns.Turn.{Turn}
use Rattle.listing.specs.Turns.{turn_of, turns_from}
use Rattle.listing.specs.Printed.{text_from}

last : (f : ℕ) (run : Run) (n at : ℕ) (s : List ℕ) → (turn_of run n at s).taken ≡ 0 → text_of (turn_of run n at s).line ≡ text_from (suc f) run n at s
unfolding turns_from
last f run n at s h = rw (eq-eqb _ _ h) (sym (append-nil _))

pub more : (f : ℕ) (run : Run) (n at : ℕ) (s : List ℕ) → ((turn_of run n at s).taken ≡ 0 → ⊥)
    → text_of (turn_of run n at s).line ++ text_from f (turn_of run n at s).run (n + 1) (at + (turn_of run n at s).taken) s ≡ text_from (suc f) run n at s
unfolding turns_from
more f run n at s h = rw (ne_eqb _ _ h)

-- whatever writes the text that is left, writes with what is written the whole text
abbrev pub Goes : List ℕ → List ℕ → ℕ → List ℕ → List ℕ → Run → ℕ → ℕ → ℕ → Type 0
Goes script o₀ w₀ whole out run n at w =
    (p : List ℕ) (r : ℕ) → Put out p w r (text_from (length script + 2 - n) run n at script) → Put o₀ p w₀ r whole

module _ (script o₀ : List ℕ) (w₀ : ℕ) (whole out p : List ℕ) (run : Run) (n at w r : ℕ) (t : Turn) (pos : 0 < n) (few : n ≤ at + 1) (in-s : at ≤ length script)
    (g : Goes script o₀ w₀ whole out run n at w) (eq : t ≡ turn_of run n at script) (put : Put out p w r (text_of t.line)) where
  fuel : length script + 2 - n ≡ suc (length script + 2 - (n + 1))
  fuel = omega arith

  pub stop : t.taken ≡ 0 → Put o₀ p w₀ r whole
  stop h = g p r (rw fuel (rw (last (length script + 2 - (n + 1)) run n at script (rw eq at h)) at (rw eq at put)))

  pub go_on : (t.taken ≡ 0 → ⊥) → Goes script o₀ w₀ whole p t.run (n + 1) (at + t.taken) r
  go_on h q u rest =
      g q u (rw fuel (rw (more (length script + 2 - (n + 1)) run n at script (rw eq at h)) at (seq (rw eq at put) (rw eq at rest))))
