-- `first_past` meets its contract: the library's search, from bin 1 on.
use Rattle.std.proofs.Common.{rules, tests}
use lib.Ieee.{le}
use Rattle.std.proofs.lemmas.List.{take_rest}
use Rattle.std.proofs.lemmas.List.Sorted.{IsPartitionPoint-from_clause}
use Rattle.mask_gains.proofs.Point.{partitioned, first_at}
use Rattle.mask_gains.proofs.search.first_past.Goals as goal

pub returns : goal.returns
returns c =
    first_at (λ y. le y c.args.x) c.args.logs.now (take_rest c.args.logs.now 1) _ c.requires.0 c.partition_point.ensures.bound
    (IsPartitionPoint-from_clause (λ y. le y c.args.x) _ _ c.partition_point.ensures.partitioned (partitioned (λ y. le y c.args.x) c.args.logs.now (take_rest c.args.logs.now 1) c.requires.1) (λ a r q k. search (rules, tests)))
