-- Output formats, and the requests whose replies have them.
use Rattle.std.proofs.Common.{◌≡◌, ◌≢◌, List, Option, arith, false, refl, true}
use Rattle.std.proofs.lemmas.Grind.{common_steps}
use Rattle.clap.specs.Words.{Text}
use Rattle.snap_order.specs.declared.order.OutputFormat.TheVariants.{Lines, Text as AsText, Json}
use Rattle.snap_order.specs.Order.{lists_segments}
use Rattle.snap_order.specs.declared.order.{CallRequest.CallRequest, OutputFormat.OutputFormat}
use Rattle.snap_args.specs.{Numbers.IsLayoutOf, Requests.IsQuestionOf}

-- flags that ask for another format don't ask for lines
pub not_lines : (text json : Option Text) (l : OutputFormat) → l ≢ Lines → IsLayoutOf text json l
    → IsLayoutOf text json Lines → ⊥
not_lines text json Lines other is lines = other refl
not_lines text json AsText other is lines = lines.0 is.0
not_lines text json Json other is lines = lines.1 is.0

-- the arguments are those of a request whose reply lists segments, or those of another one
pub one_listing : (words : List Text) (value after : Option Text) (q r : CallRequest) → IsQuestionOf words value after q
    → IsQuestionOf words value after r → lists_segments q ≡ false → lists_segments r ≡ true → ⊥
one_listing words value after q r is was unlisted listed = grind (arith, common_steps)
