-- The report grows by a file's line.
use Rattle.laws.proofs.Basics.{◌≡◌, refl, sym, ap, ◌∙◌, Bool, true, false, cond, List, [], ◌∷◌, ◌++◌, append-nil, append_assoc, ℕ, ◌+◌, ◌*◌, ◌≤◌, ◌<◌, leb, arith, length, get_or, take, length-append, length-take, leb-true, leb-false}
use Rattle.laws.proofs.Counting.{count_most}
use Rattle.std.proofs.Common.{All, Option, Some, None, map, zip, Bor}
use Rattle.std.proofs.lemmas.List.{length-map, get_or-map, Elements.{All-push}, Sums.{fold-append, AllPass-from_list_all}}
use Rattle.std.proofs.lemmas.Grind.{flat_map-append}
use Rattle.printing.specs.Text.{ascii, Filled}
use Rattle.vectors.specs.Vectors.{Ran, run_of, counts_of, differs_at, lines_in}
use Rattle.vectors.specs.Report.{file_names, file_text, files_text, with_run, with_unread, total, unread}
use Rattle.vectors.specs.declared.Counts.{Counts}

-- ---- what is told of a file is small

few : (s : List ℕ) → length s ≤ 896000 → ((counts_of s).run ≤ 16000) × ((counts_of s).differ ≤ 16000)
unfolding counts_of
few s h = (omega arith, omega (arith, count_most (differs_at s) (lines_in s)))

-- counts are told of a file that is not too long
counted : (b : Bool) {n m : Counts} → Some n ≡ cond b None (Some m) → (b ≡ false) × (n ≡ m)
counted true e = cc
counted false e = (cc, cc)

few_of : {n : Counts} (s : List ℕ) (count : Option ℕ) → Some n ≡ run_of s count → (n.run ≤ 16000) × (n.differ ≤ 16000)
few_of s None e = cc
few_of s (Some k) e = let t = counted (leb 896001 k) e in rw t.1 (few (take k s) (simp length-take (omega (arith, leb-false 896001 k t.0))))

pub few_told : {n : Counts} → Ran (Some n) → (n.run ≤ 16000) × (n.differ ≤ 16000)
few_told r = few_of r.buffer r.count r.told

-- ---- the files so far

-- the first k files are in the report: n are their counts together, u of them were not read, and there is room for the others
pub record Listed (k : ℕ) (out : Filled) (n : Counts) (u : ℕ) : Type 0 where
  pub runs : List (Option Counts)
  pub each : length runs ≡ k
  pub ran : All Ran runs
  pub text : out.text ≡ ascii "file run differ\n" ++ files_text runs
  pub room : 529 ≤ length out.rest + (16 + 61 * k)
  pub sums : n ≡ total runs
  pub missing : u ≡ unread runs
  pub few : (n.run ≤ 16000 * k) × (n.differ ≤ 16000 * k) × (u ≤ k)

zip_none : {A B : Type 0} (ns : List A) → zip {X = B} ns [] ≡ []
zip_none [] = refl
zip_none (n ∷ ns) = refl

-- a pair more, of a list that is shorter than the other
zip_more : {A B : Type 0} (ns : List A) (rs : List B) (n : A) (r : B) → length rs < length ns → zip ns (rs ++ r ∷ []) ≡ zip ns rs ++ (get_or ns (length rs) n, r) ∷ []
zip_more [] rs n r h = absurd (omega arith)
zip_more (m ∷ ns) [] n r h = ap (λ xs. (m, r) ∷ xs) (zip_none ns)
zip_more (m ∷ ns) (q ∷ rs) n r h = ap (λ xs. (m, q) ∷ xs) (zip_more ns rs n r (omega arith))

files_more : (rs : List (Option Counts)) (r : Option Counts) → length rs < 7 → files_text (rs ++ r ∷ []) ≡ files_text rs ++ file_text (get_or file_names (length rs) []) r
files_more rs r h = rw (zip_more file_names rs [] r h, flat_map-append, append-nil)

-- no name is longer than 18 bytes
pub name_most : {k : ℕ} → k < 7 → length (get_or file_names k []) ≤ 18
name_most {k} h = leb-true _ _ (AllPass-from_list_all (λ n. leb (length n) 18) file_names refl k [] h)

-- the names that are lent are the files'
module _ (ns : List (Bor (List ℕ))) (e : map (λ n. n.now) ns ≡ file_names) where
  pub seven : length ns ≡ 7
  seven = sym (length-map ns (λ n. n.now)) ∙ ap length e

  pub name_is : (k : ℕ) (d : Bor (List ℕ)) → k < length ns → (get_or ns k d).now ≡ get_or file_names k []
  name_is k d h = sym (get_or-map (λ n. n.now) ns k d [] h) ∙ ap (λ xs. get_or xs k []) e

module _ {k u : ℕ} {out : Filled} {n : Counts} (r : Option Counts) (l : Listed k out n u) where
  more_few : Ran r → ((with_run n r).run ≤ 16000 * (k + 1)) × ((with_run n r).differ ≤ 16000 * (k + 1)) × (with_unread u r ≤ k + 1)
  more_few = elim r as (λ q. Ran q → ((with_run n q).run ≤ 16000 * (k + 1)) × ((with_run n q).differ ≤ 16000 * (k + 1)) × (with_unread u q ≤ k + 1)) [
    | None ↦ λ t. (omega (arith, l.few), omega (arith, l.few), omega (arith, l.few))
    | Some m ↦ λ t. let few = few_told t in (omega (arith, l.few), omega (arith, l.few), omega (arith, l.few))
  ]

  pub one_file : {more : Filled} → k < 7 → Ran r → more.text ≡ out.text ++ file_text (get_or file_names k []) r → length out.rest ≤ length more.rest + 61 → Listed (k + 1) more (with_run n r) (with_unread u r)
  one_file h t e w =
      let line = rw l.each at (files_more l.runs r (omega (arith, l.each))) in
      record {
        runs = l.runs ++ r ∷ [];
        each = simp length-append (omega (arith, l.each));
        ran = All-push Ran l.runs r l.ran t;
        text = e ∙ rw (l.text, line) (append_assoc (ascii "file run differ\n") (files_text l.runs) (file_text (get_or file_names k []) r));
        room = omega (arith, l.room);
        sums = rw (l.sums, fold-append);
        missing = rw (l.missing, fold-append);
        few = more_few t;
      }
