-- Text as the list of its bytes: the specification, section 19.1: values in decimal, and the two lines of a refusal.
use Rattle.std.specs.Prelude.{◌≡◌, cond, List, [], ◌∷◌, ◌++◌, ℕ, zero, suc, ◌+◌, ◌*◌, ◌-◌, ◌/◌, ◌%◌, ◌≤◌, ◌<◌, ltb, ℤ, pos, negsuc, length, get_or, drop}
use Prim.Native.Char.{code}
use Prim.Native.String.{String, [] as []ˢ, ◌∷◌ as ◌∷ˢ◌}
use Rattle.selection.specs.declared.Refusal.{Refusal}

-- a text's bytes. Every text here is ASCII, so a character is a byte
abbrev pub ascii : String → List ℕ
ascii []ˢ = []
ascii (c ∷ˢ s) = code c ∷ ascii s

-- a buffer with a text at its start: the text, and the bytes behind it
pub record Filled : Type 0 where
  pub text : List ℕ
  pub rest : List ℕ

-- no text, and room for n bytes
pub record Empty (s : Filled) (n : ℕ) : Type 0 where
  pub none : s.text ≡ []
  pub room : n ≤ length s.rest

-- the buffer s with the bytes x behind its text, in the place of as many bytes. All other bytes stay as they were
abbrev pub pushed : Filled → List ℕ → Filled
pushed s x = record { text = s.text ++ x; rest = drop (length x) s.rest }

-- s' is the buffer s with the text x, of at most `most` bytes, behind its text
pub record Adds (s : Filled) (x : List ℕ) (most : ℕ) (s' : Filled) : Type 0 where
  pub is : s' ≡ pushed s x
  pub room : length s.rest ≤ length s'.rest + most

-- the decimal digits of n, if there are at most `most`: of a number below 10 its one digit, and of another those of n / 10 and then n % 10
unfoldable pub decimal_upto : ℕ → ℕ → List ℕ
decimal_upto zero n = []
decimal_upto (suc most) n = cond (ltb n 10) ((code "0" + n) ∷ []) (decimal_upto most (n / 10) ++ ((code "0" + n % 10) ∷ []))

-- n in decimal. A number below 2^64 has at most 20 digits
-- § 19.1 Numbers are printed in decimal.
unfoldable pub decimal_of : ℕ → List ℕ
decimal_of n = decimal_upto 20 n

-- the number that the decimal digits cs spell after those of a
abbrev pub spelled_after : ℕ → List ℕ → ℕ
spelled_after a [] = a
spelled_after a (c ∷ cs) = spelled_after (10 * a + (c - 48)) cs

-- the bytes x are n in decimal, and no other bytes are: each is from 48 to 57, they spell n, and none but 0 itself begins with 48
-- § 19.1 Numbers are printed in decimal.
pub record DecimalText (n : ℕ) (x : List ℕ) : Type 0 where
  pub some : 1 ≤ length x
  pub digits : (i : ℕ) → i < length x → (48 ≤ get_or x i 0) × (get_or x i 0 ≤ 57)
  pub spells : spelled_after 0 x ≡ n
  pub zero_alone : get_or x 0 0 ≡ 48 → x ≡ 48 ∷ []

-- a number in decimal, with a minus sign if it is below zero
-- § 19.1 Numbers are printed in decimal.
abbrev pub signed_of : ℤ → List ℕ
signed_of (pos n) = decimal_of n
signed_of (negsuc n) = ascii "-" ++ decimal_of (suc n)

-- two lines: `refusal place`, and the two numbers below
abbrev pub refusal_text : Refusal → List ℕ
refusal_text f = ascii "refusal place\n" ++ ((decimal_of f.number ++ ascii " ") ++ (decimal_of f.place ++ ascii "\n"))
