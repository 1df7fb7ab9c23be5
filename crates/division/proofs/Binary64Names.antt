-- The names of binary64 that proofs share: the format, rounding, and what is computed of them. Nothing is defined here.
pub use Rattle.division.specs.Format.{IsFinite, FiniteNonzero, class_of, field, fraction, inexact_flag, invalid_flag, magnitude, negative, overflow_flag, quiet_nan, sign_bit, sign_of, signalling, underflow_flag}
pub use Rattle.division.specs.computed.Format.{binary64_values, binary64_zeros, direction_rules}
pub use Rattle.division.specs.Rounding.{AwayFromZero, Rounds, ToNearest, TowardZero, mode_of}
pub use Rattle.division.specs.Rounded.{IsExponent, Rounded, flags_of_result, overflow_of}
pub use Rattle.division.specs.computed.Rounding.{assembled, by_class, case_of, decided, finite_quotient, flags_of, nan_flags, or_rounded, quotient_of, rounded_at, rounded_result, rounded_to, rounded_units, tail_at, units_at}
unfoldable pub use Rattle.division.specs.computed.Rounding.{finite_rounded, greatest, largest}
pub use Rattle.division.specs.computed.Significands.{Normalized, significand_of}
pub use Rattle.division.specs.Ieee.{Ieee, RoundedQuotient, quotient_place, quotient_scale}
pub use Rattle.division.specs.Roots.{IeeeRoot, RootPlain, RoundedRoot, root_place, root_scale}
pub use Rattle.division.specs.declared.format.Class.{Class}
pub use Rattle.division.specs.declared.format.Class.TheVariants.{Infinite, Nan, Normal, Subnormal, Zero}
pub use Rattle.division.specs.declared.rounding.Mode.{Mode}
pub use Rattle.division.specs.declared.rounding.Mode.TheVariants.{Away, Nearest, Toward}
pub use Rattle.division.specs.declared.format.Binary64Result.{Binary64Result}
pub use Rattle.division.specs.declared.format.Scaled.{Scaled}
pub use Rattle.division.specs.computed.Rounding.{Case, ByZero, Finite, Invalid, NotANumber, ToInfinity, ToZero}
pub use Rattle.division.specs.computed.Binary64Steps.{aligned_of, binary64_through, scaled_through, sticky}
unfoldable pub use Rattle.division.specs.computed.Binary64Steps.{ratio_through, rounded_quotient}
pub use Rattle.division.specs.computed.RootSteps.{DigitsTaken, finite_root, root_by_class, root_of, root_of_class}
unfoldable pub use Rattle.division.specs.computed.RootSteps.{whole_root}
pub use Rattle.division.specs.declared.rounding.Aligned.{Aligned}
