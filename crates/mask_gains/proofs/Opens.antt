-- All windows, in order, leave each bin as the definition has it.
use mathlib.Core.Path.{◌≡◌, sym, ◌∙◌}
use mathlib.Core.List.{List}
use Prim.Native.Nat.{ℕ, ◌+◌, ◌≤◌, ◌<◌}
use native.Mathlib.Omega.{arith}
use lib.ListN.{length, get_or}
use lib.Seq.{ext_get_or}
use lib.Ieee.{Float, nan}
use Rattle.sequences.specs.Table.{table, length_table, table_at}
use Rattle.sequences.specs.Walk.{Walked, walked_none, walked_more, walked_all}
use Rattle.windows.specs.declared.Window.{Window}
use Rattle.floats.specs.Names.{zero32}
use Rattle.mask_gains.specs.Opened.{raising, open_at}
use Rattle.mask_gains.specs.Walk.{Raised}

-- every bin is as the first j windows leave it
pub record Opened (ws : List Window) (logs : List Float) (j : ℕ) (ys : List Float) : Type 0 where
  pub same : length ys ≡ length logs
  pub at : (i : ℕ) → i < length logs → Walked (raising i (get_or logs i nan)) 192 ws zero32 j (get_or ys i nan)

module _ (ws : List Window) (logs : List Float) where
  pub opened-none : (xs : List Float) → length ws ≡ 192 → xs ≡ table (length logs) (λ i. zero32) → Opened ws logs 0 xs
  opened-none xs l e =
      rw e
      (record {
        same = length_table (length logs) (λ i. zero32);
        at = λ i h. rw (table_at (length logs) (λ i. zero32) i nan h) (walked_none (raising i (get_or logs i nan)) 192 ws zero32 l);
      })

  pub opened-more : (j : ℕ) (d : Window) (ys zs : List Float) → Opened ws logs j ys → j < 192 → Raised (get_or ws j d) logs ys zs → Opened ws logs (j + 1) zs
  opened-more j d ys zs m h r =
      record {
        same = r.same ∙ m.same;
        at = λ i l. walked_more (m.at i l) d (get_or zs i nan) h (r.at i (omega (arith, m.same)));
      }

  pub opened-all : (j : ℕ) (ys : List Float) → Opened ws logs j ys → 192 ≤ j → ys ≡ table (length logs) (open_at ws logs)
  unfolding open_at
  opened-all j ys m h =
      ext_get_or nan ys (table (length logs) (open_at ws logs)) (m.same ∙ sym (length_table (length logs) (open_at ws logs)))
      (λ i l.
      let k : i < length logs = omega (arith, m.same) in
      walked_all (m.at i k) h ∙ sym (table_at (length logs) (open_at ws logs) i nan k))
