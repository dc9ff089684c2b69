-- The places of words and slots: different lanes have different places.
use Rattle.std.proofs.Common.{◌≡◌, ◌≢◌, ℕ, suc, ◌+◌, ◌*◌, ◌-◌, ◌%◌, ◌<◌, ◌≤◌, sym, ap, ◌∙◌, mul-le-mul_right, suc-mul, lt_of_not-le, mod-lt, arith}
use native.Mathlib.Decide.{dec_le}
use Rattle.atomic_table.proofs.Lists.{one_turn}
use Rattle.chart.specs.Histories.{AreTwo}
use Rattle.board_table.specs.Layout.{row_length, put_word, taken_word, word_count, slot_of, slot_count}

-- in rows of length r, a later row begins after an earlier one
rows : (r x y i : ℕ) → i < r → x < y → x * r + i < y * r
rows r x y i within less = let a : suc x * r ≤ y * r = mul-le-mul_right r less in omega (arith, suc-mul x r)

-- a place is in only one row
one_row : (r x y i j : ℕ) → i < r → j < r → x * r + i ≡ y * r + j → x ≡ y
one_row r x y i j here there same = go (dec_le x y) (dec_le y x)
  where
    go : Dec (x ≤ y) → Dec (y ≤ x) → x ≡ y
    go (yes a) (yes b) = omega arith
    go (no a) b = let less : y < x = lt_of_not-le a in let l = rows r y x j there less in absurd (omega (arith, same))
    go (yes a) (no b) = let less : x < y = lt_of_not-le b in let l = rows r x y i here less in absurd (omega (arith, same))

one_place : (r x y i j : ℕ) → i < r → j < r → x * r + i ≡ y * r + j → (x ≡ y) × (i ≡ j)
one_place r x y i j here there same = let row = one_row r x y i j here there same in (row, let same' : y * r + i ≡ y * r + j = ap (λ (z : ℕ). z * r + i) (sym row) ∙ same in omega arith)

-- numbers in rows of n each, below n rows
below_rows : (n m a b : ℕ) → a < m → b < n → a * n + b < m * n
below_rows n m a b row place = rows n a m b place row

pub words_some : (n : ℕ) → 1 ≤ n → 0 < word_count n
words_some n some = let l = rows (row_length n) 0 n 0 (omega arith) (omega arith) in omega (arith, l)

pub put_within : (n q p : ℕ) → AreTwo n q p → put_word n q p < word_count n
put_within n q p two = let low = two.0 in let high = two.1 in let r = row_length n in let l = rows r (q - 1) n (p - 1) (omega (arith, two.2, two.3)) (omega arith) in l

pub taken_within : (n q p : ℕ) → AreTwo n q p → taken_word n q p < word_count n
taken_within n q p two = let l = rows (row_length n) (p - 1) n (n + (q - 1)) (omega (arith, two.0, two.1)) (omega (arith, two.2, two.3)) in omega (arith, l)

-- each word belongs to one lane
pub put_apart : (n a b q p : ℕ) → AreTwo n a b → AreTwo n q p → put_word n a b ≡ put_word n q p → (a ≡ q) × (b ≡ p)
put_apart n a b q p two these same =
    let o = one_place (row_length n) (a - 1) (q - 1) (b - 1) (p - 1) (omega (arith, two.2, two.3)) (omega (arith, these.2, these.3)) same in
    (omega (arith, o.0, two.0, these.0), omega (arith, o.1, two.2, these.2))

pub taken_apart : (n a b q p : ℕ) → AreTwo n a b → AreTwo n q p → taken_word n a b ≡ taken_word n q p → (a ≡ q) × (b ≡ p)
taken_apart n a b q p two these same =
    let o = one_place (row_length n) (b - 1) (p - 1) (n + (a - 1)) (n + (q - 1)) (omega (arith, two.0, two.1)) (omega (arith, these.0, these.1)) (omega (arith, same)) in
    (omega (arith, o.1, two.0, these.0), omega (arith, o.0, two.2, these.2))

pub put_taken : (n a b q p : ℕ) → AreTwo n a b → AreTwo n q p → put_word n a b ≢ taken_word n q p
put_taken n a b q p two these same =
    let o = one_place (row_length n) (a - 1) (p - 1) (b - 1) (n + (q - 1)) (omega (arith, two.2, two.3)) (omega (arith, these.0, these.1)) (omega (arith, same)) in
    absurd (omega (arith, o.1, two.2, two.3))

pub slot_within : (n k q p c : ℕ) → AreTwo n q p → 0 < k → slot_of n k q p c < slot_count n k
slot_within n k q p c two some = rows k ((q - 1) * n + (p - 1)) (n * n) (c % k) (mod-lt c some) (rows n (q - 1) n (p - 1) (omega (arith, two.2, two.3)) (omega (arith, two.0, two.1)))

-- a slot belongs to one lane, and to one place in its ring
slot_apart : (n k a b q p c d : ℕ) → AreTwo n a b → AreTwo n q p → 0 < k → slot_of n k a b c ≡ slot_of n k q p d → (a ≡ q) × (b ≡ p) × (c % k ≡ d % k)
slot_apart n k a b q p c d two these some same =
    let o = one_place k ((a - 1) * n + (b - 1)) ((q - 1) * n + (p - 1)) (c % k) (d % k) (mod-lt c some) (mod-lt d some) same in
    let l = one_place n (a - 1) (q - 1) (b - 1) (p - 1) (omega (arith, two.2, two.3)) (omega (arith, these.2, these.3)) o.0 in
    (omega (arith, l.0, two.0, these.0), omega (arith, l.1, two.2, these.2), o.1)

-- the slots of counts that differ by less than a capacity
pub slot_other : (n k q p c d : ℕ) → AreTwo n q p → c < d → d < c + k → slot_of n k q p c ≢ slot_of n k q p d
slot_other n k q p c d two less near same =
    let e = one_turn c d k (omega arith) near (slot_apart n k q p q p c d two two (omega arith) same).2 in absurd (omega (arith, e))

-- a slot of another lane
pub slot_beside : (n k a b q p c d : ℕ) → AreTwo n a b → AreTwo n q p → 0 < k → (a ≡ q → b ≡ p → ⊥) → slot_of n k a b c ≢ slot_of n k q p d
slot_beside n k a b q p c d two these some ne same = let o = slot_apart n k a b q p c d two these some same in ne o.0 o.1
