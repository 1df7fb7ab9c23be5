-- One step of the recurrence, in numbers: the specification, section 6.
use Rattle.std.specs.Prelude.{◌≡◌, ℕ, ◌+◌, ◌*◌, ◌%◌, ◌^◌, pos, ◌-ℤ◌, ◌*ℤ◌, neg_ℤ, ◌≤ℤ◌}
use Rattle.selection.specs.Answer.{refusal}
use Rattle.selection.specs.Cell.{digit}
use Rattle.selection.specs.Word.{signed, Within}
use Rattle.recurrence.specs.CarrySave.{sum3, maj3, multiple, lowest_carry}
use Rattle.recurrence.specs.declared.step.Stepped.{Stepped}

-- what the answer x to PS = s, PC = k and D says where nothing is refused; d is the table's byte at their cell
-- § 7.1 One step answers the digit and the next two words.
pub record StepTaken (s k D d : ℕ) (x : Stepped) : Type 0 where
  pub done : x.refusal ≡ refusal 0 0
  -- q is the byte's digit, from −2 to 2
  pub selected : x.digit ≡ digit d
  pub least : (neg_ℤ (pos 2)) ≤ℤ x.digit
  pub most : x.digit ≤ℤ (pos 2)
  -- the next words: exclusive or and majority of PS, PC and the multiple, as the run forms them
  pub sum : x.sum ≡ sum3 s k (multiple d D) * 4 % 2 ^ 64
  pub carry : x.carry ≡ (maj3 s k (multiple d D) * 2 + lowest_carry d) * 4 % 2 ^ 64
  -- they make P′ = 4(P − qD), in range again
  pub next : signed (x.sum + x.carry) ≡ pos 4 *ℤ (signed (s + k) -ℤ x.digit *ℤ pos D)
  pub range : Within 8 D (pos 3 *ℤ signed (x.sum + x.carry))
