-- Words that Calls cites, said once more in numbers.
use Rattle.laws.{proofs.Basics.{◌≡◌, refl, Bool, true, false, cond, ℕ, ◌+◌, ◌%◌, ◌^◌, arith, T, lt-ltb, le-ltb}, proofs.Tests.{is_true}, specs.Counting.{Tally, none, one, other}}
use Rattle.laws.specs.Sums.{sum_below}
use Rattle.selection.specs.{Word.{signed}, Cell.{digit}}
use Rattle.recurrence.specs.Recurrence.{value}
use Rattle.demands.specs.computed.WordsInNumbers.{WordsInNumbers}

module _ (f : ℕ → Bool) where
  counts : (m n : ℕ) → Tally (λ k. T (f k)) m n → n ≡ sum_below (λ k. cond (f k) 1 0) m
  unfolding sum_below
  counts _ _ none = refl
  counts _ _ (one {m} {n} p t) = rw (is_true (f m) p, ← counts m n t) (omega arith)
  counts _ _ (other {m} {n} q t) = rw (is_false (f m) q, ← counts m n t) (omega arith)
    where
      is_false : (b : Bool) → (T b → ⊥) → b ≡ false
      is_false true h = absurd (h tt)
      is_false false h = refl

pub words_in_numbers : WordsInNumbers
unfolding signed sum_below digit value
words_in_numbers = record {
  not_negative = λ n h. let e : n % 2 ^ 64 ≡ n = omega arith in rw (e, lt-ltb _ _ h) refl;
  negative = λ n h k. let e : n % 2 ^ 64 ≡ n = omega arith in rw (e, le-ltb _ _ h) refl;
  modulo = λ n. let e : (n + 2 ^ 64) % 2 ^ 64 ≡ n % 2 ^ 64 = omega arith in rw e refl;
  within = λ k D z. (λ w. (w.low, w.high), λ w. record { low = w.0; high = w.1 });
  kept = λ n o l k. (k.size, k.rest);
  no_sum = λ f. refl;
  sum_more = λ f n. refl;
  tally = counts;
  row_is = λ D. refl;
  column_of_seven = λ s k. refl;
  column_of_eight = λ s k. refl;
  digits = (refl, refl, refl, refl, refl);
  limits = λ l c. record {
    first = λ h. rw (lt-ltb _ _ h) refl;
    minus_two = λ a h. rw (le-ltb _ _ a, lt-ltb _ _ h) refl;
    minus_one = λ a b h. rw (le-ltb _ _ a, le-ltb _ _ b, lt-ltb _ _ h) refl;
    zero = λ a b d h. rw (le-ltb _ _ a, le-ltb _ _ b, le-ltb _ _ d, lt-ltb _ _ h) refl;
    one = λ a b d e h. rw (le-ltb _ _ a, le-ltb _ _ b, le-ltb _ _ d, le-ltb _ _ e, lt-ltb _ _ h) refl;
    two = λ a b d e f h. rw (le-ltb _ _ a, le-ltb _ _ b, le-ltb _ _ d, le-ltb _ _ e, le-ltb _ _ f, lt-ltb _ _ h) refl;
    last = λ a b d e f g. rw (le-ltb _ _ a, le-ltb _ _ b, le-ltb _ _ d, le-ltb _ _ e, le-ltb _ _ f, le-ltb _ _ g) refl;
  };
  sum_word = λ a b x. refl;
  carry_word = λ a b x. refl;
  multiples = λ D. (refl, refl, refl, refl, refl);
  carries = (refl, refl, refl, refl, refl);
  no_digits = refl;
  digits_more = λ d ds. refl;
  operand = λ p N o. (o.low, o.high, (o.exp, o.same));
}
