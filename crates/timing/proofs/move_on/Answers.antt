-- `move_on` meets its contract: the callees' answers, put together.
use Rattle.sequences.specs.Pick.{by-case, picked, passed}
use Rattle.std.proofs.Common.{◌≡◌, ℕ, max, ◌∙◌, arith, ltb, ltb-true, ltb-false}
use Rattle.timing.specs.Streams.{larger, moved_of}
use Rattle.timing.proofs.move_on.Goals as goal

larger-is : (a b : ℕ) → max a b ≡ larger a b
unfolding larger
larger-is a b =
    by-case (ltb a b) (λ t. let h = ltb-true a b t in let e : max a b ≡ b = omega arith in e ∙ picked _ _ _ t)
    (λ t. let h = ltb-false a b t in let e : max a b ≡ a = omega arith in e ∙ passed _ _ _ t)

pub returns : goal.returns
unfolding moved_of
returns c = rw (c.at.ensures, c.max.ensures, c.group.ensures, larger-is)
