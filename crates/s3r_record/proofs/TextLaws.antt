-- The law of a text that need not be there.
use Rattle.std.proofs.Common.{ℕ, Bool, true, false, List, [], Option, Some, None}
use Rattle.s3r_record.specs.Fields.{option_text}
use Rattle.s3r_record.specs.ReadingTexts.{text_if, option_text_at}
use Rattle.s3r_record.specs.Fields.{flag}
use Rattle.s3r_record.proofs.ReaderLaws.{Reads}
use Rattle.s3r_record.proofs.FieldLaws.{IsText, flag_law, any_text_law}
use Rattle.s3r_record.proofs.SeveralFields.{TakesBehind, ReadBehind, take_then, take_end, again_then, again_end, reads}

abbrev pub IsOptionText : Option (List ℕ) → Type 0
IsOptionText None = Unit {0}
IsOptionText (Some bytes) = IsText bytes

text_if_takes : (given : Bool) → TakesBehind option_text IsOptionText (flag given) (text_if given)
text_if_takes false = take_end None tt
text_if_takes true = take_then _ any_text_law (λ bytes is. take_end (Some bytes) is)

option_text_again : (x : Option (List ℕ)) → IsOptionText x → ReadBehind option_text [] x option_text_at
unfolding option_text_at
option_text_again None is = again_then _ flag_law false tt (again_end None)
option_text_again (Some bytes) is = again_then _ flag_law true tt (again_then _ any_text_law bytes is (again_end (Some bytes)))

pub option_text_law : Reads option_text_at option_text IsOptionText
unfolding option_text_at
option_text_law = reads (take_then _ flag_law (λ given _. text_if_takes given)) option_text_again
