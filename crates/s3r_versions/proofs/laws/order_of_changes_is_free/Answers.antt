use Rattle.s3r_versions.proofs.Choosing.{adding_commutes_with_choice}
use Rattle.s3r_versions.proofs.Changing.{adding_commutes_with_change, removal_commutes_with_change}
use Rattle.s3r_versions.proofs.laws.order_of_changes_is_free.Goals as goal

pub returns-clause-adding_and_change : goal.returns-clause-adding_and_change
returns-clause-adding_and_change g c = λ f row rows keeps. adding_commutes_with_change f row rows keeps

pub returns-clause-adding_and_choice : goal.returns-clause-adding_and_choice
returns-clause-adding_and_choice g c = λ p row rows up. adding_commutes_with_choice p row rows up

pub returns-clause-removal_and_change : goal.returns-clause-removal_and_change
returns-clause-removal_and_change g c = λ f key id rows keeps. removal_commutes_with_change f keeps key id rows
