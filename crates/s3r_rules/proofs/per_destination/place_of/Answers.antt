use Rattle.std.proofs.Common.{None, rules}
use Rattle.std.proofs.lemmas.List.Sorted.{IsPartitionPoint-from_clause}
use Rattle.s3r_names.specs.Tags.{is_key_below}
use Rattle.s3r_rules.specs.Choices.{name_of}
use Rattle.s3r_rules.proofs.Searching.{low-first, place-is}
use Rattle.s3r_rules.proofs.per_destination.place_of.Goals as goal

pub returns-clause-at : goal.returns-clause-at
returns-clause-at c =
    let names = name_of c.args.rules.now in
    let name = c.args.name.now in
    let choices = c.args.choices.now in
    let found = c.partition_point.ensures in
    let parted = low-first names name choices c.requires in
    let point = IsPartitionPoint-from_clause (λ choice. is_key_below (names choice) name) _ _ found.partitioned parted (λ a r q k. search rules) in
    place-is names name choices c.partition_point.result (record { first = 0; chosen = None }) found.bound point
