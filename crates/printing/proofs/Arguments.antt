-- What a program is asked for, worked.
use Rattle.laws.proofs.Basics.{refl}
use Rattle.printing.specs.Argument.{ArgumentExample}

-- § 19.1 The argument 7 or 8 chooses the estimate.
pub argument_example : ArgumentExample
argument_example = record { digits = (refl, refl, refl); none = refl; seven = refl; eight = refl; another = refl; longer = refl; empty = refl; two = refl }
