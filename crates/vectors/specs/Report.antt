-- What the vector program prints: a line of names, a line for each file of which all was read, in the order below, and a line for all of them, which says how many were not read.
use Rattle.std.specs.Prelude.{◌≡◌, cond, List, [], ◌∷◌, ◌++◌, ℕ, ◌+◌, eqb, length, fold, Option, Some, None, All, zip, flat_map}
use Rattle.printing.specs.Text.{ascii, decimal_of}
use Rattle.vectors.specs.Vectors.{Ran}
use Rattle.vectors.specs.declared.Counts.{Counts}

-- the files
abbrev pub file_names : List (List ℕ)
file_names = ascii "div-testfloat.txt" ∷ ascii "div-glibc.txt" ∷ ascii "div-llvm.txt" ∷ ascii "div-mpfr.txt" ∷ ascii "div-nan.txt" ∷ ascii "sqrt-testfloat.txt" ∷ ascii "sqrt-glibc.txt" ∷ []

-- a name, the number of lines and how many of them differ, parted by one space, and what follows them
abbrev pub counts_text : List ℕ → Counts → List ℕ → List ℕ
counts_text name n end = name ++ ascii " " ++ (decimal_of n.run ++ ascii " ") ++ (decimal_of n.differ ++ end)

-- a file's line; there is none where not all of it was read
abbrev pub file_text : List ℕ → Option Counts → List ℕ
file_text name None = []
file_text name (Some n) = counts_text name n (ascii "\n")

-- the lines of the files, of each what is told of it
abbrev pub files_text : List (Option Counts) → List ℕ
files_text runs = flat_map (λ p. file_text p.0 p.1) (zip file_names runs)

-- the line for all files, of which u were not read
abbrev pub total_text : Counts → ℕ → List ℕ
total_text n u = cond (eqb u 0) (counts_text (ascii "total") n (ascii "\n")) (counts_text (ascii "total") n (ascii ", files not read: ") ++ (decimal_of u ++ ascii "\n"))

-- the counts with those of one file more
abbrev pub with_run : Counts → Option Counts → Counts
with_run m None = m
with_run m (Some n) = record { run = m.run + n.run; differ = m.differ + n.differ }

abbrev pub total : List (Option Counts) → Counts
total runs = fold with_run (record { run = 0; differ = 0 }) runs

-- how many files were not read, with one file more
abbrev pub with_unread : ℕ → Option Counts → ℕ
with_unread u None = u + 1
with_unread u (Some n) = u

abbrev pub unread : List (Option Counts) → ℕ
unread runs = fold with_unread 0 runs

-- x is a report: the line of names, the files' lines and that of their sum
-- § 19.6 `vectors` counts the lines that differ and prints all counts.
pub record Reports (x : List ℕ) : Type 0 where
  pub runs : List (Option Counts)
  pub each : length runs ≡ length file_names
  pub ran : All Ran runs
  pub text : x ≡ ascii "file run differ\n" ++ files_text runs ++ total_text (total runs) (unread runs)
