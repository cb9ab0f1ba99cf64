use Rattle.s3r_versions.proofs.RemovedIds.{stays_rising, keeps_id, keeps_id_once, least_is_found}
use Rattle.s3r_versions.proofs.laws.removed_ids_rise.Goals as goal

pub returns-clause-stays_rising : goal.returns-clause-stays_rising
returns-clause-stays_rising c = λ id ids. stays_rising id ids

pub returns-clause-keeps_id : goal.returns-clause-keeps_id
returns-clause-keeps_id c = λ id other ids. keeps_id id other ids

pub returns-clause-keeps_id_once : goal.returns-clause-keeps_id_once
returns-clause-keeps_id_once c = λ id ids. keeps_id_once id ids

pub returns-clause-least_is_found : goal.returns-clause-least_is_found
returns-clause-least_is_found c = λ id ids. least_is_found id ids
