-- What a body is read as.
use Rattle.std.specs.Prelude.{ℕ, List, Result}
use Rattle.serde_json.specs.Data.{Data}
use Rattle.s3r_json.specs.Bodies.{body_value}
use Rattle.s3r_jobs.specs.declared.spec.JobSpec.{JobSpec}
use Rattle.s3r_jobs_json.specs.declared.fault.JobFault.{JobFault}
use Rattle.s3r_jobs_json.specs.Faults.{◌>>=◌, or_malformed}
use Rattle.s3r_jobs_json.specs.Form.{draft_of}
use Rattle.s3r_jobs_json.specs.Limits.{spec_from}

-- the job of a value: its form, then what is wrong first
abbrev pub job_in : Data → Result JobSpec JobFault
job_in value = draft_of value >>= spec_from

-- the job that a body asks for
abbrev pub job_body : List ℕ → Result JobSpec JobFault
job_body body = or_malformed (body_value body) >>= job_in
