-- The n-th alternative, as the library's iterators have it: `sources.iter().enumerate().filter(..).nth(n)`.
use Rattle.std.specs.Prelude.{◌≡◌, ℕ, zero, suc, ◌+◌, ◌-◌, eqb, Bool, true, false, None, Some, List, [], ◌∷◌, filter, MatchOption, Option}
use Rattle.std.specs.List.{slice_get, enumerate_from}
use Rattle.std.proofs.Common.{refl, sym, subst, add-one, ne_eqb, arith}
use Rattle.sequences.specs.Pick.{pick}
use Rattle.sources.specs.declared.Source.{Source}
use Rattle.sources.specs.Choosing.{is_alternative, nth_from, nth_of}

module _ (last : Option ℕ) where
  abbrev pub among : ℕ → List Source → List (ℕ × Source)
  among i ss = filter (λ p. is_alternative last p.0 p.1) (enumerate_from i ss)

  abbrev Agrees : ℕ → List Source → ℕ → Option (ℕ × Source) → Type 0
  Agrees i ss n r = MatchOption r (None ≡ nth_from last i ss n) (λ p. Some p.0 ≡ nth_from last i ss n)

  agrees-more : (i : ℕ) (s : Source) (ss : List Source) (n : ℕ) (b : Bool) → is_alternative last i s ≡ b
      → ((m : ℕ) → Agrees (suc i) ss m (slice_get (among (i + 1) ss) m))
      → Agrees i (s ∷ ss) n (slice_get (among i (s ∷ ss)) n)
  unfolding nth_from pick
  agrees-more i s ss zero true e on = rw e refl
  agrees-more i s ss (suc n) true e on =
      let z : eqb (suc n) 0 ≡ false = ne_eqb (suc n) 0 (λ q. omega arith) in
      let k : suc n - 1 ≡ n = omega arith in
      rw (e, z, k) (on n)
  agrees-more i s ss zero false e on = rw e (on zero)
  agrees-more i s ss (suc n) false e on = rw e (on (suc n))

  agrees : (i : ℕ) (ss : List Source) (n : ℕ) → Agrees i ss n (slice_get (among i ss) n)
  unfolding nth_from
  agrees i [] n = refl
  agrees i (s ∷ ss) n =
      agrees-more i s ss n (is_alternative last i s) refl
      (λ m. subst (λ j. Agrees (suc i) ss m (slice_get (among j ss) m)) (sym (add-one i)) (agrees (suc i) ss m))

  -- what the iterator answers is the definition's
  pub nth_some : (ss : List Source) (n : ℕ) (p : ℕ × Source) → Some p ≡ slice_get (among 0 ss) n → Some p.0 ≡ nth_of last ss n
  nth_some ss n p e = subst (λ r. Agrees 0 ss n r) (sym e) (agrees 0 ss n)

  pub nth_none : (ss : List Source) (n : ℕ) → None ≡ slice_get (among 0 ss) n → None ≡ nth_of last ss n
  nth_none ss n e = subst (λ r. Agrees 0 ss n r) (sym e) (agrees 0 ss n)
