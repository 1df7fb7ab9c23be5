-- The kept table is the one made for eight bits: antt computes the rule over the constant.
use Rattle.std.proofs.Common.{◌≡◌, refl}
use Rattle.selection.specs.{computed.Allowed.{allows_of}, computed.Outcomes.{made_of, made_table}, declared.Estimate.TheVariants.{EightBits}, declared.kept.TheConstants.{KEPT}}
use Rattle.selection.proofs.{KeptLaws.{right, made_table as is_made}, MadeTables.{made_bytes}}

-- § 5.4 The kept table is the one made for eight bits.
pub kept_is : KEPT ≡ made_table EightBits
unfolding right made_of allows_of
kept_is = made_bytes EightBits (is_made EightBits refl tt)
