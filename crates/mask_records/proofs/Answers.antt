-- What the record of open bins answers, by what its placing answered.
use Rattle.std.specs.Prelude.{Ok, Err}
use Prim.Native.Nat.{ℕ, ◌+◌}
use mathlib.Core.Path.{◌≡◌, refl, sym, ap, ◌∙◌}
use mathlib.Core.Bool.{Bool, true, false, false≢true}
use mathlib.Core.List.{List}
use lib.Dec.{leb}
use lib.ListN.{length, get_or}
use lib.Ieee.{Float, nan}
use Rattle.sequences.specs.All.{all}
use Rattle.sequences.specs.Pick.{pick, took, skipped}
use Rattle.sequences.specs.Table.{length_table}
use Rattle.text.specs.Put.{splice}
use Rattle.refusals.specs.declared.Refusal.{Refusal}
use Rattle.refusals.specs.declared.Refusal.TheVariants.{Room, Attenuation}
use Rattle.mask_records.specs.Placed.{Written, record_size, placed_of}
use Rattle.mask_records.specs.Bytes.{record_of}
use Rattle.mask_records.specs.Entries.{entry_attenuation, is_number}
use Rattle.mask_records.specs.Finished.{filled_of, finished_of}

is-placed : Written → Bool
is-placed (Ok p) = true
is-placed (Err k) = false

pub apart : (p : ℕ) (k : Refusal) → Ok p ≡ Err k → ⊥
unfolding is-placed
apart p k e = false≢true (sym (ap is-placed e))

abbrev pub One : Type 0
One = Written × List ℕ

abbrev pub Both : Type 0
Both = Written × List Float × List ℕ

module _ (r : Written) (u t o : List ℕ) (q : ℕ) (x s x₀ : List Float) where
  on-placed : (l : Bool) (p : ℕ) → (r, u) ≡ pick {A = One} l (Ok q, t) (Err Room, o) → r ≡ Ok p → x ≡ x₀ → (Ok p, x, u) ≡ pick {A = Both} l (Ok q, x₀, t) (Err Room, s, o)
  unfolding pick
  on-placed true p e a f =
      let h : (Ok p) ≡ (Ok q) = sym a ∙ ap (λ (w : One). w.0) e in
      let g : u ≡ t = ap (λ (w : One). w.1) e in
      rw (h, f, g)
  on-placed false p e a f = absurd (apart p Room (sym a ∙ ap (λ (w : One). w.0) e))

  on-refused : (l : Bool) (k : Refusal) → (r, u) ≡ pick {A = One} l (Ok q, t) (Err Room, o) → r ≡ Err k → (Err k, s, u) ≡ pick {A = Both} l (Ok q, x₀, t) (Err Room, s, o)
  unfolding pick
  on-refused true k e a = absurd (apart q k (sym (ap (λ (w : One). w.0) e) ∙ a))
  on-refused false k e a =
      let h : (Err k) ≡ (Err Room) = sym a ∙ ap (λ (w : One). w.0) e in
      let g : u ≡ o = ap (λ (w : One). w.1) e in
      rw (h, g)

module _ (sample : ℕ) (level : Float) (opened scratch : List Float) (out : List ℕ) (at : ℕ) where
  pub finished_nan : all (λ i. is_number (entry_attenuation level (get_or opened i nan))) (length opened) ≡ false → (Err Attenuation, scratch, out) ≡ finished_of sample level opened scratch out at
  unfolding finished_of
  finished_nan h = skipped _ _ _ _ h refl

  module _ (es : List ℕ) (r : Written) (u : List ℕ) (h : all (λ i. is_number (entry_attenuation level (get_or opened i nan))) (length opened) ≡ true) (f : es ≡ filled_of level opened) (e : (r, u) ≡ placed_of sample es out at) where
    long : length es ≡ length opened
    unfolding filled_of
    long = ap length f ∙ length_table _ _

    room : (r, u) ≡ pick {A = One} (leb (at + record_size (length opened)) (length out)) (Ok (at + record_size (length opened)), splice out at (record_of sample (filled_of level opened))) (Err Room, out)
    unfolding placed_of
    room = e ∙ rw (long, f)

    pub finished_placed : (p : ℕ) (x : List Float) → r ≡ Ok p → x ≡ opened → (Ok p, x, u) ≡ finished_of sample level opened scratch out at
    unfolding finished_of
    finished_placed p x a g = took _ _ _ _ h (on-placed r u _ _ _ x scratch opened _ p room a g)

    pub finished_refused : (k : Refusal) → r ≡ Err k → (Err k, scratch, u) ≡ finished_of sample level opened scratch out at
    unfolding finished_of
    finished_refused k a = took _ _ _ _ h (on-refused r u _ _ _ scratch scratch opened _ k room a)
