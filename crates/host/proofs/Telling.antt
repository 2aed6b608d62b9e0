-- What a host sees of a write, from what the writer and `told` answer.
use Prim.Native.Nat.{ℕ}
use mathlib.Core.Path.{◌≡◌, ap, ◌∙◌}
use mathlib.Core.List.{List}
use lib.ListN.{length}
use Rattle.text.specs.Put.{buffer_of}
use Rattle.refusals.specs.Numbers.{Answer, answer_of}
use Rattle.script.specs.declared.fields.Field.{Field}
use Rattle.script_writer.specs.Encoded.{encoded}
use Rattle.script_writer.specs.Written.{written_of}
use Rattle.host.specs.Write.{written_at}

pub told-by : (o : List ℕ) (at : ℕ) (f : Field) {w : ℕ × Answer} {number count : ℕ} {p : List ℕ} → (w ≡ written_of (length o) at (encoded f)) × (p ≡ buffer_of o at (encoded f))
    → (number ≡ answer_of w.1) × (count ≡ w.0) → (number, count, p) ≡ written_at o at f
told-by o at f e t =
    let n = t.0 ∙ ap (λ (v : ℕ × Answer). answer_of v.1) e.0 in
    let k = t.1 ∙ ap (λ (v : ℕ × Answer). v.0) e.0 in
    λ i. (n i, k i, e.1 i)
