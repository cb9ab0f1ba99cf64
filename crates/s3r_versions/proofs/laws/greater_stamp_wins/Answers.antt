use Rattle.s3r_versions.proofs.Writes.{greater_tags_win, greater_hold_wins, first_tags_stay, first_hold_stays}
use Rattle.s3r_versions.proofs.laws.greater_stamp_wins.Goals as goal

pub returns-clause-tags : goal.returns-clause-tags
returns-clause-tags g c = λ key id s t a b rows less. greater_tags_win key id s t a b rows less

pub returns-clause-hold : goal.returns-clause-hold
returns-clause-hold g c = λ key id s t a b rows less. greater_hold_wins key id s t a b rows less

pub returns-clause-first_tags : goal.returns-clause-first_tags
returns-clause-first_tags g c = λ key id s a b rows. first_tags_stay key id s a b rows

pub returns-clause-first_hold : goal.returns-clause-first_hold
returns-clause-first_hold g c = λ key id s a b rows. first_hold_stays key id s a b rows
