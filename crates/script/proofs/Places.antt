-- Where the fields of a script stand: each takes three bytes at least, they lie one behind the other, and the rest of the script begins where they stop.
use Rattle.std.specs.Prelude.{Err}
use Prim.Native.Nat.{ℕ, ◌+◌, ◌*◌, ◌≤◌}
use mathlib.Core.Path.{◌≡◌, refl, sym, ap, ◌∙◌}
use mathlib.Core.List.{List, [], ◌∷◌, ◌++◌, append_assoc}
use native.Mathlib.Omega.{arith}
use lib.ListN.{length, take, drop, length-drop, take-append-drop}
use lib.Seq.{drop-drop}
use lib.Dec.{eqb}
use Rattle.refusals.specs.declared.Refusal.{Refusal}
use Rattle.script.specs.Field.{read_of}
use Rattle.script.specs.Reading.{Reading, Placed, sizes, ended, bad}
use Rattle.script.proofs.Steps.{Reads, field, wrong, end}
use Rattle.script.proofs.Whole.{end_is-empty}

-- the bytes of a field, and of fields in a row
abbrev pub own_bytes : List ℕ → Placed → List ℕ
own_bytes s p = take p.size (drop p.place s)

abbrev pub own_all : List ℕ → List Placed → List ℕ
own_all s [] = []
own_all s (p ∷ ps) = own_bytes s p ++ own_all s ps

pub three-each : {n at : ℕ} {s : List ℕ} {r : Reading} → Reads n at s r → 3 * length r.fields ≤ sizes r.fields
three-each (field e lo hi d) = omega (arith, three-each d)
three-each (wrong e) = omega arith
three-each (end e) = omega arith

pub within : {n at : ℕ} {s : List ℕ} {r : Reading} → Reads n at s r → sizes r.fields ≤ length s
within {s = s} (field {k = k} e lo hi d) = omega (arith, within d, length-drop k s)
within (wrong e) = omega arith
within (end e) = omega arith

pub stops_at : {n at : ℕ} {s : List ℕ} {r : Reading} → Reads n at s r → r.stop ≡ at + sizes r.fields
stops_at {at = at} (field {k = k} e lo hi d) = omega (arith, stops_at d)
stops_at (wrong e) = omega arith
stops_at (end e) = omega arith

pub bad_not_ended : {X : Type 0} {c : Refusal} → bad c ≡ ended → X
bad_not_ended e = let z : ◌≡◌ {A = ℕ} 0 1 = cc in absurd (omega arith)

-- a script that is read to its end has no bytes left
pub ends_at : {n at : ℕ} {s : List ℕ} {r : Reading} → Reads n at s r → r.verdict ≡ ended → sizes r.fields ≡ length s
ends_at {s = s} (field {k = k} e lo hi d) v = omega (arith, ends_at d v, length-drop k s)
ends_at (wrong e) v = bad_not_ended v
ends_at {n} {at} {s} (end e) v = sym (end_is-empty s (eqb n 1) e)

-- the fields' own bytes in order, and then the rest, are the script
pub own_and_rest : (script : List ℕ) {n at : ℕ} {s : List ℕ} {r : Reading} → Reads n at s r → own_all script r.fields ++ drop r.stop script ≡ drop at script
own_and_rest script (field {at = at} {k = k} {r = r} e lo hi d) =
    append_assoc (take k (drop at script)) (own_all script r.fields) (drop r.stop script)
    ∙ ap (λ (l : List ℕ). take k (drop at script) ++ l) (own_and_rest script d ∙ sym (drop-drop k at script))
    ∙ take-append-drop k (drop at script)
own_and_rest script (wrong e) = refl
own_and_rest script (end e) = refl

-- where a script goes bad, the reader says so of the rest
pub stops_bad : {n at : ℕ} {s : List ℕ} {r : Reading} {c : Refusal} → Reads n at s r → r.verdict ≡ bad c
    → read_of (drop (sizes r.fields) s) (eqb (n + length r.fields) 1) ≡ Err c
stops_bad {n} {at} {s} {r} {c} (field {k = k} {r = q} e lo hi d) v =
    let m : n + length r.fields ≡ n + 1 + length q.fields = omega arith in
    rw (m, ← drop-drop (sizes q.fields) k s) (stops_bad d v)
stops_bad {n} {at} {s} {r} {c} (wrong {c = b} e) v =
    let m : n + 0 ≡ n = omega arith in
    let same : b ≡ c = cc in
    rw m (e ∙ ap Err same)
stops_bad (end e) v = bad_not_ended (sym v)
