use Rattle.s3r_history.proofs.FirstGreatest.{one_first}
use Rattle.s3r_history.proofs.HistoryRows.{rows_listed}
use Rattle.s3r_history.proofs.LatestRows.{ids_given, next_new, put_latest, marker_latest, removed_gone}
use Rattle.s3r_history.proofs.Written.{rows_written, put_rows_written}
use Rattle.s3r_history.proofs.laws.rows_are_listed.Goals as goal

pub returns-clause-listed : goal.returns-clause-listed
returns-clause-listed c = rows_listed

pub returns-clause-given : goal.returns-clause-given
returns-clause-given c = ids_given

pub returns-clause-put_is_latest : goal.returns-clause-put_is_latest
returns-clause-put_is_latest c = put_latest

pub returns-clause-new : goal.returns-clause-new
returns-clause-new c = next_new

pub returns-clause-marker_is_latest : goal.returns-clause-marker_is_latest
returns-clause-marker_is_latest c = marker_latest

pub returns-clause-removed_is_gone : goal.returns-clause-removed_is_gone
returns-clause-removed_is_gone c = removed_gone

pub returns-clause-written : goal.returns-clause-written
returns-clause-written c = rows_written

pub returns-clause-put_written : goal.returns-clause-put_written
returns-clause-put_written c = put_rows_written

pub returns-clause-one_write : goal.returns-clause-one_write
returns-clause-one_write c = (one_first, one_first)
