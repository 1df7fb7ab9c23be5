-- A line of the vector files, 56 bytes: operands a and b, direction, expected pattern (hexadecimal) and flags (two decimal digits), parted by spaces, and the end of line.
-- Of a root, which has one operand, b is blank.
use Rattle.std.specs.Prelude.{◌≡◌, Bool, true, false, cond, not, ◌&&◌, List, ℕ, ◌+◌, ◌*◌, ◌-◌, ◌/◌, ltb, leb, eqb, length, get_or, take, drop, Option, Some, None}
use Rattle.std.specs.List.{fold, list_all, enumerate_from, slice_range}
use Prim.Native.Char.{code}
use Rattle.laws.specs.Counting.{count_below}
use Rattle.division.specs.declared.format.Binary64.{Binary64}
use Rattle.selection.specs.computed.Outcomes.{made_table}
use Rattle.division.specs.computed.Binary64.{binary64_of}
use Rattle.division.specs.computed.RootCalls.{root_binary64_of}
use Rattle.vectors.specs.declared.Vector.{Vector}
use Rattle.vectors.specs.declared.Operation.{Operation}
use Rattle.vectors.specs.declared.Operation.TheVariants.{Quotient, Root}
use Rattle.vectors.specs.declared.Counts.{Counts}
use Rattle.selection.specs.declared.Estimate.TheVariants.{EightBits}

-- the value of a hexadecimal digit, 0 to 9 and a to f; of another byte 0
abbrev pub nibble_of : ℕ → ℕ
nibble_of c = cond (ltb c (code "0")) 0 (cond (leb c (code "9")) (c - code "0") (cond (ltb c (code "a")) 0 (cond (leb c (code "f")) (c - code "a" + 10) 0)))

-- the number that hexadecimal digits spell
abbrev pub hex_of : List ℕ → ℕ
hex_of s = fold (λ v c. 16 * v + nibble_of c) 0 s

-- a line is a root's
abbrev pub is_root : List ℕ → Bool
is_root s = eqb (get_or s 17 0) (code " ")

-- what a line asks for
abbrev pub operation_of : List ℕ → Operation
operation_of s = cond (is_root s) (Root (hex_of (slice_range s 0 16))) (Quotient (hex_of (slice_range s 0 16)) (hex_of (slice_range s 17 33)))

-- the case that a line holds
abbrev pub vector_of : List ℕ → Vector
vector_of s = record { operation = operation_of s; direction = hex_of (slice_range s 34 35); pattern = hex_of (slice_range s 36 52); flags = 10 * hex_of (slice_range s 53 54) + hex_of (slice_range s 54 55) }

-- 0 to 9
abbrev pub is_decimal : ℕ → Bool
is_decimal c = cond (ltb c (code "0")) false (leb c (code "9"))

-- 0 to 9 and a to f
abbrev pub is_hex : ℕ → Bool
is_hex c = cond (is_decimal c) true (cond (ltb c (code "a")) false (leb c (code "f")))

-- the indices between two fields
abbrev pub parts : ℕ → Bool
parts i = cond (eqb i 16) true (cond (eqb i 33) true (cond (eqb i 35) true (eqb i 52)))

-- the indices of the direction and of the flags
abbrev pub decimals : ℕ → Bool
decimals i = cond (eqb i 34) true (cond (ltb i 53) false (ltb i 55))

-- a line of two operands may have the byte c at index i: a space between two fields, a decimal digit in direction and flags, an end of line at the end, elsewhere a hexadecimal digit
abbrev pub fits_at : ℕ → ℕ → Bool
fits_at i c = cond (parts i) (eqb c (code " ")) (cond (decimals i) (is_decimal c) (cond (eqb i 55) (eqb c (code "\n")) (is_hex c)))

-- a line may: of a root the second operand is blank
abbrev pub blank_at : Bool → ℕ → Bool
blank_at root i = root && (ltb 16 i && ltb i 33)

abbrev pub line_fits : Bool → ℕ → ℕ → Bool
line_fits root i c = cond (blank_at root i) (eqb c (code " ")) (fits_at i c)

-- each byte fits
abbrev pub formed : List ℕ → Bool
formed s = list_all (λ p. line_fits (is_root s) p.0 p.1) (enumerate_from 0 s)

-- an answer differs from a case: it is a refusal, or in the pattern, or in the flags
abbrev pub differs_from : Vector → Binary64 → Bool
differs_from v x = cond (eqb x.refusal.number 0) (cond (eqb x.pattern v.pattern) (not (eqb x.flags v.flags)) true) true

-- the unit's answer: a root, or a quotient through the kept table
abbrev pub answer_of : Operation → ℕ → Binary64
answer_of (Quotient a b) direction = binary64_of (made_table EightBits) direction a b
answer_of (Root a) direction = root_binary64_of direction a

-- the unit's answer differs from a case
abbrev pub differs_in : Vector → Bool
differs_in v = differs_from v (answer_of v.operation v.direction)

-- a line differs: it is cut short, or not in the form, or the unit's answer differs from its case
-- § 19.6 `vectors` counts the lines that differ and prints all counts.
abbrev pub line_differs : List ℕ → Bool
line_differs s = cond (eqb (length s) 56) (cond (formed s) (differs_in (vector_of s)) true) true

-- line k of a file's bytes; the last may be cut short
abbrev pub line_at : List ℕ → ℕ → List ℕ
line_at s k = take 56 (drop (56 * k) s)

-- line k differs
abbrev pub differs_at : List ℕ → ℕ → Bool
differs_at s k = line_differs (line_at s k)

-- how many lines there are
abbrev pub lines_in : List ℕ → ℕ
lines_in s = (length s + 55) / 56

-- how many lines there are, and how many of them differ
unfoldable pub counts_of : List ℕ → Counts
counts_of s = record { run = lines_in s; differ = count_below (differs_at s) (lines_in s) }

-- what is told of a file of which n bytes were read to the start of the buffer s: nothing where a read failed, for which n is None, or where there are more than 16,000 lines, and otherwise its counts
abbrev pub run_of : List ℕ → Option ℕ → Option Counts
run_of s None = None
run_of s (Some n) = cond (leb 896001 n) None (Some (counts_of (take n s)))

-- f is what is told of a file. No contract says which bytes a read gives
pub record Ran (f : Option Counts) : Type 0 where
  pub buffer : List ℕ
  pub count : Option ℕ
  pub told : f ≡ run_of buffer count
