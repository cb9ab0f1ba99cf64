use Rattle.s3r_versions.proofs.ListingOrder.{before_asym, before_trans, ranks_versions}
use Rattle.s3r_versions.proofs.Latest.{latest_is_greatest, latest_is_there}
use Rattle.s3r_versions.proofs.Adding.{stays_listed, stays_once, adds_one, finds_it, finds_others}
use Rattle.s3r_versions.proofs.laws.rows_are_ordered.Goals as goal

pub returns-clause-strict : goal.returns-clause-strict
returns-clause-strict g c = (λ a b. before_asym a b, λ a b d. before_trans a b d)

pub returns-clause-ranks_versions : goal.returns-clause-ranks_versions
returns-clause-ranks_versions g c = λ a b. ranks_versions a b

pub returns-clause-latest_is_greatest : goal.returns-clause-latest_is_greatest
returns-clause-latest_is_greatest g c = λ key rows. latest_is_greatest key rows

pub returns-clause-latest_is_there : goal.returns-clause-latest_is_there
returns-clause-latest_is_there g c = λ key rows. latest_is_there key rows

pub returns-clause-stays_listed : goal.returns-clause-stays_listed
returns-clause-stays_listed g c = λ row rows. stays_listed row rows

pub returns-clause-stays_once : goal.returns-clause-stays_once
returns-clause-stays_once g c = λ row rows. stays_once row rows

pub returns-clause-adds_one : goal.returns-clause-adds_one
returns-clause-adds_one g c = λ row rows. adds_one row rows

pub returns-clause-finds_it : goal.returns-clause-finds_it
returns-clause-finds_it g c = λ row rows. finds_it row rows

pub returns-clause-finds_others : goal.returns-clause-finds_others
returns-clause-finds_others g c = λ row rows key id. finds_others row rows key id
