use Rattle.s3r_versions.proofs.Choosing.{removal_keeps_order, removal_finds, removal_empties}
use Rattle.s3r_versions.proofs.Changing.{change_keeps_order, change_finds}
use Rattle.s3r_versions.proofs.laws.changes_keep_order.Goals as goal

pub returns-clause-removal_keeps_order : goal.returns-clause-removal_keeps_order
returns-clause-removal_keeps_order g c = λ key id rows. removal_keeps_order key id rows

pub returns-clause-removal_finds : goal.returns-clause-removal_finds
returns-clause-removal_finds g c = λ key k id i rows. removal_finds key k id i rows

pub returns-clause-removal_empties : goal.returns-clause-removal_empties
returns-clause-removal_empties g c = λ key id rows. removal_empties key id rows

pub returns-clause-change_keeps_order : goal.returns-clause-change_keeps_order
returns-clause-change_keeps_order g c = λ key id f rows keeps. change_keeps_order key id f rows keeps

pub returns-clause-change_finds : goal.returns-clause-change_finds
returns-clause-change_finds g c = λ key k id i f rows keeps. change_finds key k id i f rows keeps
