use Rattle.std.proofs.Common.{◌≡◌, [], map, take}
use Rattle.form_urlencoded.specs.Form as form
use Rattle.s3r_names.specs.Query.{pair_of}
use Rattle.s3r_names.proofs.tags.query_text.Given as goal

abbrev pub invariant-loop-tag : goal.invariant-loop-tag
invariant-loop-tag l = record {
  prefix : l.form.prefix ≡ [];
  form : l.form.form ≡ form.extend_pairs [] (map pair_of (take l.tag-index l.tags));
}
