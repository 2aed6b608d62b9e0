-- The lowest free place: it is free, and every place below it is held.
use Prim.Native.Nat.{ℕ, ◌<◌}
use mathlib.Core.Path.{◌≡◌, refl, sym}
use mathlib.Core.Bool.{Bool, true, false, not, true≢false}
use mathlib.Core.List.{List}
use lib.ListN.{length, get_or}
use Rattle.sequences.specs.First.{first-fails, first_passes, first_or_len, found_none}
use Rattle.pool.specs.declared.Particle.{Particle}
use Rattle.pool.specs.Pool.{free_particle}
use Rattle.pool.specs.Vacancies.{is_free, free_place, vacant_place}
use Rattle.std.specs.Prelude.{Some, None, position}
use Rattle.std.specs.List.{position_or_len}
use Rattle.sequences.specs.Pick.{picked, passed, by-case}
use Rattle.std.proofs.lemmas.Option.{none-some, same_Some}
use Rattle.std.proofs.Common.{ltb, ltb-true, lt-ltb, le-ltb, ◌∙◌, ap, arith}

module _ (ps : List Particle) where
  pub lowest-free : free_place ps < length ps → (get_or ps (free_place ps) free_particle).active ≡ false
  lowest-free h = back (get_or ps (free_place ps) free_particle).active (first_passes is_free free_particle ps h)
    where
      back : (b : Bool) → not b ≡ true → b ≡ false
      back true q = absurd (true≢false (sym q))
      back false q = refl

  pub held_below : (j : ℕ) → j < free_place ps → (get_or ps j free_particle).active ≡ true
  held_below j h = back (get_or ps j free_particle).active (first-fails is_free free_particle ps j h)
    where
      back : (b : Bool) → not b ≡ false → b ≡ true
      back true q = refl
      back false q = absurd (true≢false q)

-- ---- and as an answer
module _ (ps : List Particle) where
  pub vacant : (i : ℕ) → i ≡ free_place ps → i < 64 → Some i ≡ vacant_place ps
  unfolding vacant_place
  vacant i e h = ap (λ (k : ℕ). Some k) e ∙ picked _ _ _ (lt-ltb (free_place ps) 64 (omega (arith, e)))

  pub none_vacant : 64 ≡ free_place ps → None ≡ vacant_place ps
  unfolding vacant_place
  none_vacant e = passed _ _ _ (le-ltb (free_place ps) 64 (omega (arith, e)))

  -- the library's `position` answers it
  pub vacant-sought : length ps ≡ 64 → position (λ p. not p.active) ps ≡ vacant_place ps
  vacant-sought l =
      let P : Particle → Bool = λ p. not p.active in
      by-case (ltb (position_or_len P ps) (length ps))
      (λ e.
      let q : position P ps ≡ Some (position_or_len P ps) = rw e refl in
      q ∙ vacant (position_or_len P ps) (sym (first_or_len P ps)) (let h = ltb-true _ _ e in omega (arith, l, h)))
      (λ e. let q : position P ps ≡ None = rw e refl in q ∙ none_vacant (sym l ∙ found_none P ps (sym q)))

  -- an answer says where it is, or that all are held
  pub vacant-is : (i : ℕ) → Some i ≡ vacant_place ps → (ltb (free_place ps) 64 ≡ true) × (i ≡ free_place ps)
  unfolding vacant_place
  vacant-is i e =
      by-case (ltb (free_place ps) 64) (λ h. (h, same_Some _ _ (e ∙ sym (picked _ _ _ h))))
      (λ h. absurd (none-some i (passed _ _ _ h ∙ sym e)))

  pub none-is : None ≡ vacant_place ps → ltb (free_place ps) 64 ≡ false
  unfolding vacant_place
  none-is e = by-case (ltb (free_place ps) 64) (λ h. absurd (none-some _ (e ∙ sym (picked _ _ _ h)))) (λ h. h)
