use Rattle.s3r_names.proofs.TagLaws.{in_key_order-permutation, in_key_order-set, set-in_key_order}
use Rattle.s3r_names.proofs.laws.tags_are_put_in_order.Goals as goal

pub returns-clause-keeps_tags : goal.returns-clause-keeps_tags
returns-clause-keeps_tags c = in_key_order-permutation

pub returns-clause-makes_sets : goal.returns-clause-makes_sets
returns-clause-makes_sets c = in_key_order-set

pub returns-clause-keeps_sets : goal.returns-clause-keeps_sets
returns-clause-keeps_sets c = set-in_key_order
