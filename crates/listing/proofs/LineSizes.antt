-- How long a line can be.
use Rattle.std.proofs.Common.{ℕ, ◌≤◌, length, arith, length-append}
use Rattle.text.proofs.Sizes.{dec-size, hex-size}
use Rattle.text.specs.Put.{joined}
use Rattle.refusals.specs.declared.Refusal.{Refusal}
use Rattle.refusals.specs.Numbers.{number_of}
use Rattle.script_steps.specs.declared.values.Values.{Values}
use Rattle.listing.specs.declared.lines.Line.{Line}
use Rattle.listing.specs.declared.lines.Line.TheVariants as L
use Rattle.listing.specs.Lines.{times_pieces, counts_pieces, marks_pieces, frame_pieces, field_pieces, refused_pieces, bad_pieces, end_pieces, text_of}

frame-size : (n : ℕ) (v : Values) → length (joined (frame_pieces n v)) ≤ 204
unfolding frame_pieces times_pieces counts_pieces marks_pieces
frame-size n v =
    simp length-append
    (omega (arith, dec-size n, dec-size v.sample, dec-size v.ms, dec-size v.active, dec-size v.births, dec-size v.dropped, hex-size 16 v.hash, hex-size 8 v.activity))

refused-size : (n : ℕ) (r : Refusal) → length (joined (refused_pieces n r)) ≤ 204
unfolding refused_pieces field_pieces
refused-size n r = simp length-append (omega (arith, dec-size n, dec-size (number_of r)))

bad-size : (n : ℕ) (r : Refusal) (place : ℕ) → length (joined (bad_pieces n r place)) ≤ 204
unfolding bad_pieces field_pieces
bad-size n r place = simp length-append (omega (arith, dec-size n, dec-size (number_of r), dec-size place))

end_size : (n : ℕ) → length (joined (end_pieces n)) ≤ 204
unfolding end_pieces
end_size n = simp length-append (omega (arith, dec-size n))

pub line_size : (l : Line) → length (text_of l) ≤ 204
line_size L.Nothing = omega arith
line_size (L.Frame n v) = frame-size n v
line_size (L.Refused n r) = refused-size n r
line_size (L.Bad n r p) = bad-size n r p
line_size (L.End n) = end_size n
