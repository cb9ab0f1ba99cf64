-- The request table: at which place, by which method and with which words what is asked for.
use Rattle.std.specs.Prelude.{ℕ, List, [], ◌∷◌, codes}
use Rattle.s3r_routes.specs.declared.rows.Route.{Route}
use Rattle.s3r_routes.specs.declared.rows.Route.TheVariants as route
use Rattle.s3r_routes.specs.Target.{Target, bucket, object, jobs, job, job_priority, job_status, copy, job_turn, work, check}

-- a row of a place
pub record TableRow : Type 0 where
  pub method : List ℕ
  -- each of these words has to be there
  pub needs : List (List ℕ)
  -- each of these may be there beside them
  pub takes : List (List ℕ)
  pub asks : Route

abbrev pub row : List ℕ → List (List ℕ) → List (List ℕ) → Route → TableRow
row method needs takes asks = record { method = method; needs = needs; takes = takes; asks = asks }

-- no word, or one
abbrev pub none : List (List ℕ)
none = []

abbrev pub one : List ℕ → List (List ℕ)
one word = word ∷ []

-- the words of a page
abbrev pub page : List (List ℕ)
page = codes "prefix" ∷ codes "key-marker" ∷ codes "version-id-marker" ∷ codes "max-keys" ∷ []

abbrev pub bucket_rows : List TableRow
bucket_rows =
    row (codes "PUT") none none route.CreateBucket
    ∷ row (codes "HEAD") none none route.HeadBucket
    ∷ row (codes "DELETE") none none route.DeleteBucket
    ∷ row (codes "PUT") (one (codes "versioning")) none route.PutVersioning
    ∷ row (codes "GET") (one (codes "versioning")) none route.GetVersioning
    ∷ row (codes "PUT") (one (codes "replication")) none route.PutReplication
    ∷ row (codes "GET") (one (codes "replication")) none route.GetReplication
    ∷ row (codes "DELETE") (one (codes "replication")) none route.DeleteReplication
    ∷ row (codes "GET") (one (codes "versions")) page route.ListVersions
    ∷ []

abbrev pub object_rows : List TableRow
object_rows =
    row (codes "PUT") none none route.PutObject
    ∷ row (codes "GET") none (one (codes "versionId")) route.GetObject
    ∷ row (codes "HEAD") none (one (codes "versionId")) route.GetObject
    ∷ row (codes "DELETE") none none route.DeleteObject
    ∷ row (codes "DELETE") (one (codes "versionId")) none route.DeleteVersion
    ∷ row (codes "PUT") (one (codes "tagging")) (one (codes "versionId")) route.PutTags
    ∷ row (codes "GET") (one (codes "tagging")) (one (codes "versionId")) route.GetTags
    ∷ row (codes "DELETE") (one (codes "tagging")) (one (codes "versionId")) route.DeleteTags
    ∷ row (codes "PUT") (one (codes "legal-hold")) (one (codes "versionId")) route.PutHold
    ∷ row (codes "GET") (one (codes "legal-hold")) (one (codes "versionId")) route.GetHold
    ∷ []

abbrev pub rows_at : Target → List TableRow
rows_at (bucket name) = bucket_rows
rows_at (object name key) = object_rows
rows_at jobs = row (codes "POST") none none route.CreateJob ∷ []
rows_at (job id) = row (codes "GET") none none route.DescribeJob ∷ []
rows_at (job_priority id) = row (codes "POST") none (one (codes "priority")) route.SetJobPriority ∷ []
rows_at (job_status id) = row (codes "POST") none (one (codes "requestedJobStatus")) route.SetJobStatus ∷ []
rows_at copy = row (codes "POST") none (codes "from" ∷ codes "to" ∷ []) route.Copy ∷ []
rows_at job_turn = row (codes "POST") none (one (codes "region")) route.JobTurn ∷ []
rows_at work = row (codes "POST") none (one (codes "rounds")) route.Work ∷ []
rows_at check = row (codes "GET") none none route.Check ∷ []
