-- A script is read step by step: `Reads` is the reading as a derivation, on which laws go by induction, and `onward` is the one reading that has one.
use Rattle.std.specs.Prelude.{Some, None, Ok, Err}
use Prim.Native.Nat.{ℕ, zero, suc, ◌+◌, ◌≤◌, ◌<◌}
use mathlib.Core.Path.{◌≡◌, refl, ap}
use mathlib.Core.List.{List}
use native.Mathlib.Omega.{arith}
use lib.ListN.{length, drop, length-drop}
use lib.Dec.{eqb}
use Rattle.refusals.specs.declared.Refusal.{Refusal}
use Rattle.script.specs.declared.fields.Field.{Field}
use Rattle.script.specs.Field.{Read, read_of}
use Rattle.script.proofs.Taken as T
use Rattle.script.specs.Reading.{Reading, field_at, stopped, in_front, ended, bad, after_read, read_from, onward}

pub data Reads : ℕ → ℕ → List ℕ → Reading → Type 0 where
  field : {n at : ℕ} {s : List ℕ} {f : Field} {k : ℕ} {r : Reading} → read_of s (eqb n 1) ≡ Ok (Some (f, k)) → 3 ≤ k → k ≤ length s
      → Reads (n + 1) (at + k) (drop k s) r → Reads n at s (in_front (field_at at k f) r)
  wrong : {n at : ℕ} {s : List ℕ} {c : Refusal} → read_of s (eqb n 1) ≡ Err c → Reads n at s (stopped at (bad c))
  end : {n at : ℕ} {s : List ℕ} → read_of s (eqb n 1) ≡ Ok None → Reads n at s (stopped at ended)

-- ---- there is one
one-step : (n at : ℕ) (s : List ℕ) (rest : ℕ → Reading) (r : Read) → read_of s (eqb n 1) ≡ r → T.Taken r (length s)
    → ((k : ℕ) → 3 ≤ k → k ≤ length s → Reads (n + 1) (at + k) (drop k s) (rest k)) → Reads n at s (after_read at r rest)
one-step n at s rest (Ok (Some (f, k))) e (T.field lo hi) h = field e lo hi (h k lo hi)
one-step n at s rest (Err c) e T.bad h = wrong e
one-step n at s rest (Ok None) e T.end h = end e

from-reads : (most n at : ℕ) (s : List ℕ) → length s < most → Reads n at s (read_from most n at s)
unfolding read_from
from-reads zero n at s h = absurd (omega arith)
from-reads (suc most) n at s h =
    one-step n at s (λ k. read_from most (n + 1) (at + k) (drop k s)) (read_of s (eqb n 1)) refl (T.taken s (eqb n 1))
    (λ k lo hi. from-reads most (n + 1) (at + k) (drop k s) (omega (arith, length-drop k s)))

pub onward-reads : (n at : ℕ) (s : List ℕ) → Reads n at s (onward n at s)
unfolding onward
onward-reads n at s = from-reads (suc (length s)) n at s (omega arith)

-- ---- and no other
only-from : {n at : ℕ} {s : List ℕ} {r : Reading} → Reads n at s r → (most : ℕ) → length s < most → r ≡ read_from most n at s
unfolding read_from
only-from (field e lo hi d) zero h = absurd (omega arith)
only-from {s = s} (field {at = at} {f = f} {k = k} e lo hi d) (suc most) h =
    rw e (ap (λ (q : Reading). in_front (field_at at k f) q) (only-from d most (omega (arith, length-drop k s))))
only-from (wrong e) zero h = absurd (omega arith)
only-from (wrong e) (suc most) h = rw e
only-from (end e) zero h = absurd (omega arith)
only-from (end e) (suc most) h = rw e

pub only : {n at : ℕ} {s : List ℕ} {r : Reading} → Reads n at s r → r ≡ onward n at s
unfolding onward
only {s = s} d = only-from d (suc (length s)) (omega arith)

-- the same reading, its number, place and bytes written otherwise
pub moved : {n m at to : ℕ} {s t : List ℕ} {r : Reading} → n ≡ m → at ≡ to → s ≡ t → Reads n at s r → Reads m to t r
moved e p q d = rw (← e, ← p, ← q) d
