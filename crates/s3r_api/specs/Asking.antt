-- What the code's parts of a request stand for.
use Rattle.s3r_api.specs.declared.request.Asked.{Asked as Parts}
use Rattle.s3r_api.specs.Request.{Asked}

abbrev pub asked_seen : Parts → Asked
asked_seen parts = record { words = parts.words; route = parts.route }
