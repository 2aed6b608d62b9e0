-- The laws of windows ask for nothing that an engine of ours lacks: a lawful rate, the logarithms of the harmonics, and the particle that a birth makes from
-- mended settings, of a voice whose strength lies from 0 to 1 and whose frequency is above 0 and finite.
use Prim.Native.Nat.{ℕ, ◌+◌, ◌*◌, ◌%◌, ◌≤◌, ◌<◌}
use native.Mathlib.Nat.{le_trans, le_of_eq, mul-one, mul-le-mul_right, zero-lt-suc}
use native.Mathlib.Omega.{arith}
use mathlib.Core.Path.{◌≡◌, refl, sym, ◌∙◌, subst}
use mathlib.Core.Bool.{false, not, ◌&&◌}
use mathlib.Core.List.{List}
use lib.IntN.{pos}
use lib.Dec.{T, eqb, lit≤}
use lib.Ieee.{Float, nan, inf, fin, binary32, up, down, round, of_bits, of_int, add, sub, mul, neg, lt, le, eq, fits, is_nan}
use lib.Ieee as Ieee
use lib.Ieee.Bits.{is_false, is_true, of_bits-fits}
use lib.Ieee.Fits.{add-fits, mul-fits, div-fits, round-fits, and_l, and_r}
use lib.Ieee.Order.{round_mono}
use lib.Ieee.Scale.{finite}
use Rattle.sequences.specs.Pick.{either}
use Rattle.sequences.specs.Table.{table_at}
use Rattle.floats.specs.Names.{f32, one, half}
use Rattle.floats.specs.Choose.{clamp}
use Rattle.floats_laws.proofs.Bounds.{add_mag, mul_mag}
use Rattle.floats_laws.proofs.Choosing.{clamp-least, clamp-fits}
use Rattle.floats_laws.proofs.Held.{clamp_mag}
use Rattle.floats_laws.proofs.Mag.{Mag, mag_finite, within}
use Rattle.floats_laws.proofs.Numbers.{mul_number}
use Rattle.floats_laws.proofs.Products.{product-from_zero, mul_rises-right}
use Rattle.floats_laws.proofs.Rising.{nought, add_rises-right, mul_rises}
use Rattle.floats_laws.proofs.Rules.{finite_number, add_number, lt→le, le_trans as float-trans}
use Rattle.floats_laws.proofs.Spans.{lt_le}
use Rattle.floats_laws.proofs.Proportions.{Proportion, one_unit, unit_finite, unit_mag, product_unit}
use Rattle.floats_laws.proofs.Units.{one as i, one-fits, zero_fits}
use Rattle.draws.specs.Draws.{random_of}
use Rattle.draws.proofs.Drawn.{random_in}
use Rattle.elementary.specs.Log2.{log2_of}
use Rattle.elementary_laws.proofs.LogRises.{log2-within}
use Rattle.pitch.specs.Octave.{register_of}
use Rattle.pitch.specs.Register as register
use Rattle.pitch_laws.proofs.Octaves.{WholeUpto, octave-whole, root_log_lem}
use Rattle.pitch_laws.proofs.Ranges.{strength_in}
use Rattle.pitch_laws.proofs.Tops.{Top, rate-top}
use Rattle.settings.specs.declared.Config.{Config}
use Rattle.settings.specs.declared.Direction.{Direction}
use Rattle.settings.specs.declared.Direction.TheVariants.{Forward, Reverse, Alternate}
use Rattle.settings.specs.declared.Shape.{Shape}
use Rattle.settings.specs.declared.Shape.TheVariants.{Sprinkle, Cloud}
use Rattle.settings.specs.Envelope.{sprinkle_contour, cloud_contour, cloud_attack_of, contour_by, contour_of}
use Rattle.settings.specs.Settings.{max_hop, lawful_rate}
use Rattle.settings.specs.Mending.{finite_or, held_to, mended_of}
use Rattle.settings_laws.proofs.Again.{finite_or_lem, or_fits}
use Rattle.settings_laws.proofs.Lifetimes.{FormedConfig, envelope_sound}
use Rattle.births.specs.declared.voices.Voice.{Voice}
use Rattle.births.specs.Births.{register_by, width_of, opening_of, strength_of, newborn_of}
use Rattle.state.specs.Make.{partial_logs_of}
use Rattle.frame_laws.proofs.Strengths.{Rated}
use Rattle.frame_laws.proofs.Shapes.{Logs}
use Rattle.frame_laws.proofs.Windowed.{Fair}
use Rattle.pitch.specs.Highest.{max_hz_of, rate32}

-- ---- the rate and the logarithms
pub lawful_rated : (rate : Float) → T (fits binary32 rate) → T (lawful_rate rate) → Rated rate
unfolding lawful_rate of_bits lt
lawful_rated rate p h =
    let lowest = f32 0x45fa0000 in
    let bounds = le lowest rate && le rate (f32 0x48bb8000) in
    record {
      rate_finite = and_l (finite rate) bounds h;
      rate_above = lt_le nought lowest rate tt (and_l (le lowest rate) (le rate (f32 0x48bb8000)) (and_r (finite rate) bounds h));
    }

pub top_of : (rate : Float) → T (lawful_rate (rate32 rate)) → Top (max_hz_of rate)
unfolding max_hz_of
top_of rate r = rate-top (rate32 rate) r

one-above : T (lt nought (round binary32 false 1 1))
unfolding lt round Ieee.units Ieee.odd Ieee.size Ieee.span Ieee.climb
one-above = tt

harmonic_log : (n : ℕ) → n < 24 → Mag (log2_of (of_int binary32 (pos (n + 1)))) 149
unfolding of_int lt
harmonic_log n h =
    let x = round binary32 false (n + 1) 1 in
    root_log_lem x (round-fits binary32 false (n + 1) 1)
    (lt_le nought (round binary32 false 1 1) x one-above (round_mono binary32 1 1 (n + 1) 1 (zero-lt-suc 0) (zero-lt-suc 0) (omega arith)))
    (mag_finite x 24 (within binary32 false (n + 1) 1 24 (zero-lt-suc 0) (lit≤ tt) (omega arith)))

pub engine_logs : Logs partial_logs_of
unfolding partial_logs_of
engine_logs j h = subst (λ (x : Float). Mag x 149) (sym (table_at 24 (λ n. log2_of (of_int binary32 (pos (n + 1)))) j nan h)) (harmonic_log j h)

-- ---- the particle
-- what a birth is given
pub record Voiced (v : Voice) : Type 0 where
  pub strength : Proportion v.strength
  pub hz_fits : T (fits binary32 v.frequency_hz)
  pub hz_above : T (lt nought v.frequency_hz)
  pub hz_finite : T (finite v.frequency_hz)

-- ---- a draw lies from 0 to 1
draw_unit : (index stream : ℕ) → Proportion (random_of index stream)
unfolding random_of
draw_unit index stream =
    let h = random_in index stream in
    record { held = div-fits binary32 _ _; least = h.0; most = lt→le (random_of index stream) i (is_true (lt (random_of index stream) i) h.1) }

-- ---- low + rest * draw, where rest is from 0 to 1 and low at most 1
module _ (low rest draw : Float) (l : Mag low 1) (r : Mag rest 1) (h : T (le nought rest)) (d : Proportion draw) where
  abbrev drawn : Float
  drawn = add binary32 low (mul binary32 rest draw)

  part_mag : Mag (mul binary32 rest draw) 1
  part_mag = mul_mag binary32 rest draw 1 1 (lit≤ tt) r (unit_mag d)

  drawn_mag : Mag drawn 2
  drawn_mag = add_mag binary32 low (mul binary32 rest draw) 1 1 (lit≤ tt) l part_mag

  drawn-least : T (le (add binary32 low nought) drawn)
  unfolding is_nan
  drawn-least =
      let fl = finite_number binary32 low (mag_finite low 1 l) in
      add_rises-right binary32 low nought (mul binary32 rest draw) (product-from_zero binary32 rest draw (mag_finite rest 1 r) (unit_finite d) h d.least) (add_number binary32 low nought fl tt)
      (add_number binary32 low (mul binary32 rest draw) fl (mag_finite (mul binary32 rest draw) 1 part_mag))

  drawn_most : T (le drawn (add binary32 low (mul binary32 rest i)))
  drawn_most =
      let fl = finite_number binary32 low (mag_finite low 1 l) in
      add_rises-right binary32 low (mul binary32 rest draw) (mul binary32 rest i) (mul_rises-right binary32 draw i (unit_finite d) tt rest (mag_finite rest 1 r) h d.most)
      (add_number binary32 low (mul binary32 rest draw) fl (mag_finite (mul binary32 rest draw) 1 part_mag)) (add_number binary32 low (mul binary32 rest i) fl (mag_finite (mul binary32 rest i) 1 (mul_mag binary32 rest i 1 1 (lit≤ tt) r (lit≤ tt))))

-- ---- strength
opening_unit : (shape : Shape) (index : ℕ) → Proportion (opening_of shape index)
unfolding opening_of of_bits sub add neg mul Ieee.sum Ieee.round Ieee.units Ieee.odd Ieee.size Ieee.span Ieee.climb le lt eq
opening_unit Cloud index = one_unit
opening_unit Sprinkle index =
    let low = f32 0x3f59999a in
    let rest = sub binary32 i low in
    let r = random_of index 10 in
    let d = draw_unit index 10 in
    record {
      held = add-fits binary32 low (mul binary32 rest r);
      least = float-trans binary32 nought (add binary32 low nought) (add binary32 low (mul binary32 rest r)) (zero_fits binary32 false) (add-fits binary32 low nought) (add-fits binary32 low (mul binary32 rest r)) tt (drawn-least low rest r (lit≤ tt) (lit≤ tt) tt d);
      most = float-trans binary32 (add binary32 low (mul binary32 rest r)) (add binary32 low (mul binary32 rest i)) i (add-fits binary32 low (mul binary32 rest r)) (add-fits binary32 low (mul binary32 rest i)) (one-fits binary32) (drawn_most low rest r (lit≤ tt) (lit≤ tt) tt d) tt;
    }

strength_unit : (l : Float) → T (not (is_nan l)) → Proportion (register.register_strength l)
unfolding register.register_strength of_bits le lt eq
strength_unit l u =
    let b = strength_in l u in
    record { held = add-fits binary32 _ _; least = float-trans binary32 nought register.low_opening (register.register_strength l) (zero_fits binary32 false) (of_bits-fits binary32 0x3dcccccd) (add-fits binary32 _ _) tt b.0; most = b.1 }

whole_mag : (x : Float) → WholeUpto 256 x → Mag x 256
whole_mag nan w = w.is
whole_mag (inf s) w = w.is
whole_mag (fin s m e) w = le_trans (le_of_eq (sym (mul-one (m * up e)) ∙ w.is.1)) (mul-le-mul_right (down e) w.most)

module _ (index : ℕ) (hz maxHz : Float) (direction : Direction) (f : T (fits binary32 hz)) (h : T (lt nought hz)) (k : T (finite hz)) (t : Top maxHz) where
  octave_mag : (shape : Shape) → Mag (register_by shape index hz maxHz direction).octave 256
  unfolding register_by of_bits
  octave_mag Sprinkle = whole_mag (register_of index hz maxHz direction).octave (octave-whole hz maxHz f h k t.held t.from index direction)
  octave_mag Cloud = lit≤ tt

  register_unit : (shape : Shape) → Proportion (register_by shape index hz maxHz direction).strength
  unfolding register_by register_of
  register_unit Sprinkle =
      strength_unit _ (add_number binary32 (log2_of hz) (register_of index hz maxHz direction).octave (finite_number binary32 (log2_of hz) (log2-within hz f h k).finite) (mag_finite (register_of index hz maxHz direction).octave 256 (octave_mag Sprinkle)))
  register_unit Cloud = strength_unit (log2_of hz) (finite_number binary32 (log2_of hz) (log2-within hz f h k).finite)

-- ---- width
abbrev eighth : Float
eighth = f32 0x3e000000

abbrev low : Float
low = f32 0x3f266666

abbrev sixteenth : Float
sixteenth = mul binary32 eighth half

-- a half of a size from 0.125 on, times a factor of 0.65 or more
module _ (size factor : Float) (sf : T (fits binary32 size)) (s : Mag size 8) (sl : T (le eighth size)) (fits-factor : T (fits binary32 factor)) (m : Mag factor 2) (fl : T (le low factor)) where
  abbrev halved : Float
  halved = mul binary32 size half

  wide : T (lt nought (mul binary32 halved factor)) × T (finite (mul binary32 halved factor))
  unfolding of_bits mul Ieee.round Ieee.units Ieee.odd Ieee.size Ieee.span Ieee.climb le lt eq
  wide =
      let h = mul_mag binary32 size half 8 1 (lit≤ tt) s (lit≤ tt) in
      let p = mul_mag binary32 halved factor 8 2 (lit≤ tt) h m in
      let fs = mag_finite size 8 s in
      let fh = mag_finite halved 8 h in
      let ff = mag_finite factor 2 m in
      let least : T (le sixteenth halved) = mul_rises binary32 eighth size half tt tt sl (mul_number binary32 eighth half tt tt) (mul_number binary32 size half fs tt) in (
        lt_le nought (mul binary32 sixteenth low) (mul binary32 halved factor) tt
            (float-trans binary32 (mul binary32 sixteenth low) (mul binary32 sixteenth factor) (mul binary32 halved factor) (mul-fits binary32 sixteenth low) (mul-fits binary32 sixteenth factor) (mul-fits binary32 halved factor)
            (mul_rises-right binary32 low factor tt ff sixteenth tt tt fl)
            (mul_rises binary32 sixteenth halved factor ff (float-trans binary32 nought low factor (zero_fits binary32 false) (of_bits-fits binary32 0x3f266666) fits-factor tt fl) least (mul_number binary32 sixteenth factor tt ff) (mul_number binary32 halved factor fh ff))),
        mag_finite (mul binary32 halved factor) 16 p,
      )

width_fits : (shape : Shape) (size : Float) (index : ℕ) → T (fits binary32 (width_of shape size index))
unfolding width_of
width_fits Sprinkle size index = mul-fits binary32 _ _
width_fits Cloud size index = mul-fits binary32 _ _

low_alone : add binary32 low nought ≡ low
unfolding of_bits add Ieee.sum Ieee.round Ieee.units Ieee.odd Ieee.size Ieee.span Ieee.climb
low_alone = refl

abbrev spread : Float
spread = sub binary32 (f32 0x3fa00000) low

wide_of : (shape : Shape) (index : ℕ) (size : Float) → T (fits binary32 size) → Mag size 8 → T (le eighth size) → T (lt nought (width_of shape size index)) × T (finite (width_of shape size index))
unfolding width_of of_bits sub add neg Ieee.sum Ieee.round Ieee.units Ieee.odd Ieee.size Ieee.span Ieee.climb le lt eq
wide_of Cloud index size p m h = wide size i p m h (one-fits binary32) (lit≤ tt) tt
wide_of Sprinkle index size p m h =
    let r = random_of index 7 in
    let d = draw_unit index 7 in
    wide size (add binary32 low (mul binary32 spread r)) p m h (add-fits binary32 low (mul binary32 spread r)) (drawn_mag low spread r (lit≤ tt) (lit≤ tt) tt d)
    (subst (λ (x : Float). T (le x (add binary32 low (mul binary32 spread r)))) low_alone (drawn-least low spread r (lit≤ tt) (lit≤ tt) tt d))

wide-size : (shape : Shape) (c : Config) → FormedConfig c → (index : ℕ) → T (lt nought (width_of shape (mended_of c).size_octaves index)) × T (finite (width_of shape (mended_of c).size_octaves index))
unfolding mended_of held_to of_bits le lt eq
wide-size shape c w index =
    let x = finite_or c.size_octaves one in
    let eight = f32 0x41000000 in
    let f = or_fits c.size_octaves one w.size (of_bits-fits binary32 0x3f800000) in
    let n = finite_number binary32 x (finite_or_lem c.size_octaves one tt) in
    let p = of_bits-fits binary32 0x3e000000 in
    let q = of_bits-fits binary32 0x41000000 in
    wide_of shape index (clamp x eighth eight) (clamp-fits binary32 x eighth eight f p q) (clamp_mag x eighth eight 8 (is_false (is_nan x) n) (lit≤ tt) (lit≤ tt)) (clamp-least binary32 x eighth eight f p q n tt)

-- ---- attack
attack_fits : (shape : Shape) (c : Config) (index : ℕ) (floor : Float) → T (fits binary32 (contour_by shape c index floor).attack)
unfolding contour_by sprinkle_contour cloud_contour cloud_attack_of
attack_fits Sprinkle c index floor = div-fits binary32 _ _
attack_fits Cloud c index floor = by-direction c.direction
  where
    by-direction : (d : Direction) → T (fits binary32 (cloud_attack_of d index))
    by-direction Forward = of_bits-fits binary32 0x3f000000
    by-direction Reverse = of_bits-fits binary32 0x3f59999a
    by-direction Alternate = either (λ (x : Float). T (fits binary32 x)) (eqb (index % 2) 0) (f32 0x3f000000) (f32 0x3f59999a) (of_bits-fits binary32 0x3f000000) (of_bits-fits binary32 0x3f59999a)

-- ---- THE CLAIM
module _ (c : Config) (w : FormedConfig c) (hop : c.hop_samples ≤ max_hop) (index : ℕ) (v : Voice) (o : Voiced v) (rate : Float) (r : T (lawful_rate (rate32 rate))) (sample : ℕ) (weights : List Float) where
  pub newborn_fair : Fair (newborn_of index v (mended_of c) rate sample weights)
  unfolding newborn_of strength_of contour_of of_bits
  newborn_fair =
      let d = mended_of c in
      let hz = v.frequency_hz in
      let e = envelope_sound c index (rate32 rate) w hop r in
      record {
        timed =
            record {
              strength = product_unit (product_unit o.strength (register_unit index hz (max_hz_of rate) d.direction o.hz_fits o.hz_above o.hz_finite (top_of rate r) d.shape)) (opening_unit d.shape index);
              attack_fits = attack_fits d.shape d index _;
              attack_above = e.part.0;
              attack_below = e.part.1;
              lifetime_finite = e.finite_life;
              lifetime_above = e.above;
            };
        pitched =
            record {
              hz_fits = o.hz_fits;
              hz_above = o.hz_above;
              hz_finite = o.hz_finite;
              octave = octave_mag index hz (max_hz_of rate) d.direction o.hz_fits o.hz_above o.hz_finite (top_of rate r) d.shape;
              width_fits = width_fits d.shape d.size_octaves index;
              width_above = (wide-size d.shape c w index).0;
              width_finite = (wide-size d.shape c w index).1;
            };
      }
