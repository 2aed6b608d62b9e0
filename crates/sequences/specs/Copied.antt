-- A loop that makes one list of another, place by place: `ys[i] = f(xs[i])` for i from 0 to n.
use Rattle.std.specs.Prelude.{◌≡◌, refl, List, [], ◌∷◌, map, ℕ, zero, suc, ◌+◌, ◌≤◌, ◌<◌, length, get_or, set}
use Rattle.std.proofs.Common.{sym, ap, ◌∙◌, arith, ext_get_or}
use Rattle.sequences.specs.Default.{get_d_any}
use Rattle.sequences.specs.Table.{table, table_at, length_table, Filled, filled_none, filled_more, filled-all}

module _ {A B : Type 0} (f : A → B) where
  pub length_map : (xs : List A) → length (map f xs) ≡ length xs
  length_map [] = refl
  length_map (x ∷ xs) = ap suc (length_map xs)

  pub get_d_map : (xs : List A) (i : ℕ) (d : A) → get_or (map f xs) i (f d) ≡ f (get_or xs i d)
  get_d_map [] i d = refl
  get_d_map (x ∷ xs) zero d = refl
  get_d_map (x ∷ xs) (suc i) d = get_d_map xs i d

  table_maps : (n : ℕ) (xs : List A) (d : A) → length xs ≡ n → table n (λ i. f (get_or xs i d)) ≡ map f xs
  table_maps n xs d e =
      ext_get_or (f d) (table n (λ i. f (get_or xs i d))) (map f xs) (length_table n (λ i. f (get_or xs i d)) ∙ sym e ∙ sym (length_map xs))
      (λ j l. table_at n (λ i. f (get_or xs i d)) j (f d) (omega (arith, length_table n (λ i. f (get_or xs i d)))) ∙ sym (get_d_map xs j d))

-- the invariant of such a loop
pub record Copied {A B : Type 0} (f : A → B) (d : A) (n : ℕ) (xs : List A) (i : ℕ) (ys : List B) : Type 0 where
  pub long : length xs ≡ n
  pub filled : Filled (λ j. f (get_or xs j d)) n i ys

module _ {A B : Type 0} (f : A → B) (d : A) (n : ℕ) (xs : List A) where
  pub copied_none : (ys : List B) → length xs ≡ n → length ys ≡ n → Copied f d n xs 0 ys
  copied_none ys e l = record { long = e; filled = filled_none (λ j. f (get_or xs j d)) n ys l }

  pub copied_more : (i : ℕ) (ys : List B) → Copied f d n xs i ys → (o : A) (y : B) → i < n → y ≡ f (get_or xs i o) → Copied f d n xs (i + 1) (set ys i y)
  copied_more i ys c o y h p = record { long = c.long; filled = filled_more c.filled y h (p ∙ ap f (get_d_any xs i o d (omega (arith, c.long)))) }

  pub copied_all : (i : ℕ) (ys : List B) → Copied f d n xs i ys → n ≤ i → ys ≡ map f xs
  copied_all i ys c h = filled-all c.filled h ∙ table_maps f n xs d c.long
