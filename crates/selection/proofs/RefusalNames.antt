-- The names that the proofs of a call's refusals share. Nothing is defined here. (The types that the code declares are imported where they are used: a crate hands them on from where they are declared alone.)
pub use Rattle.selection.specs.Answer.{refusal}
pub use Rattle.selection.specs.computed.Answer.{refusal_of, first_of, answer_by}
pub use Rattle.selection.specs.computed.Refusals.{Condition, below, belowℤ, at_most, either_of, Holds, Rule, Wrongs, first_refusal, IsFirstRefusal, RefusedBy, Refuses}
unfoldable pub use Rattle.selection.specs.computed.Refusals.{rank}
unfoldable pub use Rattle.selection.specs.computed.Table.{table_rules}
pub use Rattle.selection.proofs.ConditionTests.{holds_decides}
pub use Rattle.selection.proofs.OneRule.{found, not_found}
pub use Rattle.selection.proofs.Rules.{WellFormed, first_is, clear, admits, refused_by, refused_one, refuses_one, refuses}
pub use Rattle.selection.proofs.RuleByRule.{none_clear, cleared, clear_admits, refused_at}
pub use Rattle.selection.proofs.TableRefusals.{lent, passed_last}
