-- Each arm's numbers are the entries of its place.
use mathlib.Core.Path.{◌≡◌, refl}
use Prim.Native.Nat.{ℕ, ◌≤◌, ◌<◌}
use native.Mathlib.Omega.{arith}
use Rattle.floats_laws.proofs.Tables.{past}
use Rattle.elementary.specs.LogCells.{log_tops, log_slopes, log_bends, log_top, log_slope, log_bend}
use Rattle.elementary.proofs.log_cells.cell_of.Goals as goal

last : (i : ℕ) → 63 ≤ i → i < 64 → i ≡ 63
last i h k = omega arith

pub returns-in-0 : goal.returns-in-0
unfolding log_top log_slope log_bend log_tops log_slopes log_bends
returns-in-0 c = rw c.in-0.is (refl, refl, refl)

pub returns-in-1 : goal.returns-in-1
unfolding log_top log_slope log_bend log_tops log_slopes log_bends
returns-in-1 c = rw c.in-1.is (refl, refl, refl)

pub returns-in-2 : goal.returns-in-2
unfolding log_top log_slope log_bend log_tops log_slopes log_bends
returns-in-2 c = rw c.in-2.is (refl, refl, refl)

pub returns-in-3 : goal.returns-in-3
unfolding log_top log_slope log_bend log_tops log_slopes log_bends
returns-in-3 c = rw c.in-3.is (refl, refl, refl)

pub returns-in-4 : goal.returns-in-4
unfolding log_top log_slope log_bend log_tops log_slopes log_bends
returns-in-4 c = rw c.in-4.is (refl, refl, refl)

pub returns-in-5 : goal.returns-in-5
unfolding log_top log_slope log_bend log_tops log_slopes log_bends
returns-in-5 c = rw c.in-5.is (refl, refl, refl)

pub returns-in-6 : goal.returns-in-6
unfolding log_top log_slope log_bend log_tops log_slopes log_bends
returns-in-6 c = rw c.in-6.is (refl, refl, refl)

pub returns-in-7 : goal.returns-in-7
unfolding log_top log_slope log_bend log_tops log_slopes log_bends
returns-in-7 c = rw c.in-7.is (refl, refl, refl)

pub returns-in-8 : goal.returns-in-8
unfolding log_top log_slope log_bend log_tops log_slopes log_bends
returns-in-8 c = rw c.in-8.is (refl, refl, refl)

pub returns-in-9 : goal.returns-in-9
unfolding log_top log_slope log_bend log_tops log_slopes log_bends
returns-in-9 c = rw c.in-9.is (refl, refl, refl)

pub returns-in-10 : goal.returns-in-10
unfolding log_top log_slope log_bend log_tops log_slopes log_bends
returns-in-10 c = rw c.in-10.is (refl, refl, refl)

pub returns-in-11 : goal.returns-in-11
unfolding log_top log_slope log_bend log_tops log_slopes log_bends
returns-in-11 c = rw c.in-11.is (refl, refl, refl)

pub returns-in-12 : goal.returns-in-12
unfolding log_top log_slope log_bend log_tops log_slopes log_bends
returns-in-12 c = rw c.in-12.is (refl, refl, refl)

pub returns-in-13 : goal.returns-in-13
unfolding log_top log_slope log_bend log_tops log_slopes log_bends
returns-in-13 c = rw c.in-13.is (refl, refl, refl)

pub returns-in-14 : goal.returns-in-14
unfolding log_top log_slope log_bend log_tops log_slopes log_bends
returns-in-14 c = rw c.in-14.is (refl, refl, refl)

pub returns-in-15 : goal.returns-in-15
unfolding log_top log_slope log_bend log_tops log_slopes log_bends
returns-in-15 c = rw c.in-15.is (refl, refl, refl)

pub returns-in-16 : goal.returns-in-16
unfolding log_top log_slope log_bend log_tops log_slopes log_bends
returns-in-16 c = rw c.in-16.is (refl, refl, refl)

pub returns-in-17 : goal.returns-in-17
unfolding log_top log_slope log_bend log_tops log_slopes log_bends
returns-in-17 c = rw c.in-17.is (refl, refl, refl)

pub returns-in-18 : goal.returns-in-18
unfolding log_top log_slope log_bend log_tops log_slopes log_bends
returns-in-18 c = rw c.in-18.is (refl, refl, refl)

pub returns-in-19 : goal.returns-in-19
unfolding log_top log_slope log_bend log_tops log_slopes log_bends
returns-in-19 c = rw c.in-19.is (refl, refl, refl)

pub returns-in-20 : goal.returns-in-20
unfolding log_top log_slope log_bend log_tops log_slopes log_bends
returns-in-20 c = rw c.in-20.is (refl, refl, refl)

pub returns-in-21 : goal.returns-in-21
unfolding log_top log_slope log_bend log_tops log_slopes log_bends
returns-in-21 c = rw c.in-21.is (refl, refl, refl)

pub returns-in-22 : goal.returns-in-22
unfolding log_top log_slope log_bend log_tops log_slopes log_bends
returns-in-22 c = rw c.in-22.is (refl, refl, refl)

pub returns-in-23 : goal.returns-in-23
unfolding log_top log_slope log_bend log_tops log_slopes log_bends
returns-in-23 c = rw c.in-23.is (refl, refl, refl)

pub returns-in-24 : goal.returns-in-24
unfolding log_top log_slope log_bend log_tops log_slopes log_bends
returns-in-24 c = rw c.in-24.is (refl, refl, refl)

pub returns-in-25 : goal.returns-in-25
unfolding log_top log_slope log_bend log_tops log_slopes log_bends
returns-in-25 c = rw c.in-25.is (refl, refl, refl)

pub returns-in-26 : goal.returns-in-26
unfolding log_top log_slope log_bend log_tops log_slopes log_bends
returns-in-26 c = rw c.in-26.is (refl, refl, refl)

pub returns-in-27 : goal.returns-in-27
unfolding log_top log_slope log_bend log_tops log_slopes log_bends
returns-in-27 c = rw c.in-27.is (refl, refl, refl)

pub returns-in-28 : goal.returns-in-28
unfolding log_top log_slope log_bend log_tops log_slopes log_bends
returns-in-28 c = rw c.in-28.is (refl, refl, refl)

pub returns-in-29 : goal.returns-in-29
unfolding log_top log_slope log_bend log_tops log_slopes log_bends
returns-in-29 c = rw c.in-29.is (refl, refl, refl)

pub returns-in-30 : goal.returns-in-30
unfolding log_top log_slope log_bend log_tops log_slopes log_bends
returns-in-30 c = rw c.in-30.is (refl, refl, refl)

pub returns-in-31 : goal.returns-in-31
unfolding log_top log_slope log_bend log_tops log_slopes log_bends
returns-in-31 c = rw c.in-31.is (refl, refl, refl)

pub returns-in-32 : goal.returns-in-32
unfolding log_top log_slope log_bend log_tops log_slopes log_bends
returns-in-32 c = rw c.in-32.is (refl, refl, refl)

pub returns-in-33 : goal.returns-in-33
unfolding log_top log_slope log_bend log_tops log_slopes log_bends
returns-in-33 c = rw c.in-33.is (refl, refl, refl)

pub returns-in-34 : goal.returns-in-34
unfolding log_top log_slope log_bend log_tops log_slopes log_bends
returns-in-34 c = rw c.in-34.is (refl, refl, refl)

pub returns-in-35 : goal.returns-in-35
unfolding log_top log_slope log_bend log_tops log_slopes log_bends
returns-in-35 c = rw c.in-35.is (refl, refl, refl)

pub returns-in-36 : goal.returns-in-36
unfolding log_top log_slope log_bend log_tops log_slopes log_bends
returns-in-36 c = rw c.in-36.is (refl, refl, refl)

pub returns-in-37 : goal.returns-in-37
unfolding log_top log_slope log_bend log_tops log_slopes log_bends
returns-in-37 c = rw c.in-37.is (refl, refl, refl)

pub returns-in-38 : goal.returns-in-38
unfolding log_top log_slope log_bend log_tops log_slopes log_bends
returns-in-38 c = rw c.in-38.is (refl, refl, refl)

pub returns-in-39 : goal.returns-in-39
unfolding log_top log_slope log_bend log_tops log_slopes log_bends
returns-in-39 c = rw c.in-39.is (refl, refl, refl)

pub returns-in-40 : goal.returns-in-40
unfolding log_top log_slope log_bend log_tops log_slopes log_bends
returns-in-40 c = rw c.in-40.is (refl, refl, refl)

pub returns-in-41 : goal.returns-in-41
unfolding log_top log_slope log_bend log_tops log_slopes log_bends
returns-in-41 c = rw c.in-41.is (refl, refl, refl)

pub returns-in-42 : goal.returns-in-42
unfolding log_top log_slope log_bend log_tops log_slopes log_bends
returns-in-42 c = rw c.in-42.is (refl, refl, refl)

pub returns-in-43 : goal.returns-in-43
unfolding log_top log_slope log_bend log_tops log_slopes log_bends
returns-in-43 c = rw c.in-43.is (refl, refl, refl)

pub returns-in-44 : goal.returns-in-44
unfolding log_top log_slope log_bend log_tops log_slopes log_bends
returns-in-44 c = rw c.in-44.is (refl, refl, refl)

pub returns-in-45 : goal.returns-in-45
unfolding log_top log_slope log_bend log_tops log_slopes log_bends
returns-in-45 c = rw c.in-45.is (refl, refl, refl)

pub returns-in-46 : goal.returns-in-46
unfolding log_top log_slope log_bend log_tops log_slopes log_bends
returns-in-46 c = rw c.in-46.is (refl, refl, refl)

pub returns-in-47 : goal.returns-in-47
unfolding log_top log_slope log_bend log_tops log_slopes log_bends
returns-in-47 c = rw c.in-47.is (refl, refl, refl)

pub returns-in-48 : goal.returns-in-48
unfolding log_top log_slope log_bend log_tops log_slopes log_bends
returns-in-48 c = rw c.in-48.is (refl, refl, refl)

pub returns-in-49 : goal.returns-in-49
unfolding log_top log_slope log_bend log_tops log_slopes log_bends
returns-in-49 c = rw c.in-49.is (refl, refl, refl)

pub returns-in-50 : goal.returns-in-50
unfolding log_top log_slope log_bend log_tops log_slopes log_bends
returns-in-50 c = rw c.in-50.is (refl, refl, refl)

pub returns-in-51 : goal.returns-in-51
unfolding log_top log_slope log_bend log_tops log_slopes log_bends
returns-in-51 c = rw c.in-51.is (refl, refl, refl)

pub returns-in-52 : goal.returns-in-52
unfolding log_top log_slope log_bend log_tops log_slopes log_bends
returns-in-52 c = rw c.in-52.is (refl, refl, refl)

pub returns-in-53 : goal.returns-in-53
unfolding log_top log_slope log_bend log_tops log_slopes log_bends
returns-in-53 c = rw c.in-53.is (refl, refl, refl)

pub returns-in-54 : goal.returns-in-54
unfolding log_top log_slope log_bend log_tops log_slopes log_bends
returns-in-54 c = rw c.in-54.is (refl, refl, refl)

pub returns-in-55 : goal.returns-in-55
unfolding log_top log_slope log_bend log_tops log_slopes log_bends
returns-in-55 c = rw c.in-55.is (refl, refl, refl)

pub returns-in-56 : goal.returns-in-56
unfolding log_top log_slope log_bend log_tops log_slopes log_bends
returns-in-56 c = rw c.in-56.is (refl, refl, refl)

pub returns-in-57 : goal.returns-in-57
unfolding log_top log_slope log_bend log_tops log_slopes log_bends
returns-in-57 c = rw c.in-57.is (refl, refl, refl)

pub returns-in-58 : goal.returns-in-58
unfolding log_top log_slope log_bend log_tops log_slopes log_bends
returns-in-58 c = rw c.in-58.is (refl, refl, refl)

pub returns-in-59 : goal.returns-in-59
unfolding log_top log_slope log_bend log_tops log_slopes log_bends
returns-in-59 c = rw c.in-59.is (refl, refl, refl)

pub returns-in-60 : goal.returns-in-60
unfolding log_top log_slope log_bend log_tops log_slopes log_bends
returns-in-60 c = rw c.in-60.is (refl, refl, refl)

pub returns-in-61 : goal.returns-in-61
unfolding log_top log_slope log_bend log_tops log_slopes log_bends
returns-in-61 c = rw c.in-61.is (refl, refl, refl)

pub returns-in-62 : goal.returns-in-62
unfolding log_top log_slope log_bend log_tops log_slopes log_bends
returns-in-62 c = rw c.in-62.is (refl, refl, refl)

pub returns-in_default : goal.returns-in_default
unfolding log_top log_slope log_bend log_tops log_slopes log_bends
returns-in_default c = rw (last c.args.i (past 63 c.args.i c.in_default.in_default-own.rest) c.requires) (refl, refl, refl)
