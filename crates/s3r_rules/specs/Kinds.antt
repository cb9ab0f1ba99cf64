-- The kinds as answers write them.
use Rattle.std.specs.Prelude.{ℕ, List, codes}
use Rattle.s3r_rules.specs.declared.fault.Kind.{Kind}
use Rattle.s3r_rules.specs.declared.fault.Kind.TheVariants as kind

abbrev pub kind_text : Kind → List ℕ
kind_text kind.NoRule = codes "NoRule"
kind_text kind.TooManyRules = codes "TooManyRules"
kind_text kind.IdTooLong = codes "IdTooLong"
kind_text kind.BadPriority = codes "BadPriority"
kind_text kind.PrefixTooLong = codes "PrefixTooLong"
kind_text kind.BadTags = codes "BadTags"
kind_text kind.BadArn = codes "BadArn"
kind_text kind.BadClass = codes "BadClass"
kind_text kind.TagWithMarkers = codes "TagWithMarkers"
kind_text kind.SameId = codes "SameId"
kind_text kind.SamePriority = codes "SamePriority"
kind_text kind.SameBucket = codes "SameBucket"
kind_text kind.NoDestination = codes "NoDestination"
kind_text kind.DestinationNotVersioned = codes "DestinationNotVersioned"
kind_text kind.Token = codes "Token"
kind_text kind.Priority = codes "Priority"
kind_text kind.Report = codes "Report"
kind_text kind.Target = codes "Target"
