-- The two ways out of `write_tagged`.
use Rattle.std.specs.Prelude.{Ok, Err}
use Prim.Native.Nat.{ℕ, ◌+◌}
use mathlib.Core.Path.{◌≡◌}
use mathlib.Core.Bool.{true, false}
use mathlib.Core.List.{List}
use lib.ListN.{length}
use lib.Dec.{leb}
use borrow.Author.Tests.{leb-true}
use Rattle.text.specs.Put.{Put, buffer_of}
use Rattle.refusals.specs.Numbers.{Answer}
use Rattle.refusals.specs.declared.Refusal.TheVariants.{Room}
use Rattle.script_writer.specs.Written.{written_of}

module _ (o : List ℕ) (at : ℕ) (w : List ℕ) {n : ℕ} (size : n ≡ length w) where
  pub no_room : leb (at + n) (length o) ≡ false → (◌≡◌ {A = ℕ × Answer} (at, Err Room) (written_of (length o) at w)) × (o ≡ buffer_of o at w)
  unfolding written_of buffer_of
  no_room h = let e = rw size at h in (rw e, rw e)

  pub with_room : {p : List ℕ} {r : ℕ} → leb (at + n) (length o) ≡ true → Put o p at r w
      → (◌≡◌ {A = ℕ × Answer} (r, Ok tt) (written_of (length o) at w)) × (p ≡ buffer_of o at w)
  unfolding written_of buffer_of
  with_room h d =
      let e : leb (at + length w) (length o) ≡ true = rw size at h in
      let f = d.fits (leb-true _ _ e) in
      (rw (e, f.0), rw e f.1)
