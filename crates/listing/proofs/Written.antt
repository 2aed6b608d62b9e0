-- A line that is put is its text.
use Rattle.std.proofs.Common.{◌≡◌, ℕ, List}
use Rattle.text.specs.Put.{Put, place_after, buffer_after}
use Rattle.text.proofs.Laws.{row, whole}
use Rattle.listing.specs.declared.lines.Line.{Line}
use Rattle.listing.specs.Lines.{pieces_of, text_of}

pub written : (l : Line) {o p : List ℕ} {at r : ℕ} → (r ≡ place_after o at (pieces_of l)) × (p ≡ buffer_after o at (pieces_of l)) → Put o p at r (text_of l)
written l e = whole (row e)
