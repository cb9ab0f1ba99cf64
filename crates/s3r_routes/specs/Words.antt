-- The words that rows of the table have, as they are written.
use Rattle.std.specs.Prelude.{ℕ, List, codes}
use Rattle.s3r_routes.specs.declared.words.Word.{Word}
use Rattle.s3r_routes.specs.declared.words.Word.TheVariants as word

abbrev pub word_text : Word → List ℕ
word_text word.Versioning = codes "versioning"
word_text word.Replication = codes "replication"
word_text word.Versions = codes "versions"
word_text word.Tagging = codes "tagging"
word_text word.LegalHold = codes "legal-hold"
word_text word.VersionId = codes "versionId"
word_text word.Prefix = codes "prefix"
word_text word.KeyMarker = codes "key-marker"
word_text word.VersionIdMarker = codes "version-id-marker"
word_text word.MaxKeys = codes "max-keys"
word_text word.Priority = codes "priority"
word_text word.RequestedJobStatus = codes "requestedJobStatus"
word_text word.From = codes "from"
word_text word.To = codes "to"
word_text word.Region = codes "region"
word_text word.Rounds = codes "rounds"
