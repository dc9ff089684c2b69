-- The places of a board's words and slots (this project's profile). The words are grouped by who writes them. Between
-- two groups are seven unused words, so that no cache line has words of two writers.
use Rattle.std.specs.Prelude.{◌≡◌, ℕ, ◌+◌, ◌-◌, ◌*◌, ◌%◌}
use Rattle.atomic_table.specs.Seated.{TableId}
use Rattle.board_table.specs.declared.shape.Shape.{Shape}

-- a lane of a board: the board's size and capacity, the lane's sender, and its receiver
pub record LaneView : Type 0 where
  pub instances : ℕ
  pub capacity : ℕ
  pub sender : ℕ
  pub receiver : ℕ

-- the lane from q to p on a board of n instances, whose lanes have k slots each
abbrev pub board_lane : ℕ → ℕ → ℕ → ℕ → LaneView
board_lane n k q p = record { instances = n; capacity = k; sender = q; receiver = p }

-- how many words a writer has, with the unused ones after them
abbrev pub row_length : ℕ → ℕ
row_length n = 2 * n + 7

-- the word that has twice the number of messages sent from q to p, and one more when the lane is closed
abbrev pub put_word : ℕ → ℕ → ℕ → ℕ
put_word n q p = (q - 1) * row_length n + (p - 1)

-- the word that has how many of q's messages p received
abbrev pub taken_word : ℕ → ℕ → ℕ → ℕ
taken_word n q p = (p - 1) * row_length n + n + (q - 1)

abbrev pub word_count : ℕ → ℕ
word_count n = n * row_length n

-- the slot of the c-th message from q to p, counted from 0
abbrev pub slot_of : ℕ → ℕ → ℕ → ℕ → ℕ → ℕ
slot_of n k q p c = ((q - 1) * n + (p - 1)) * k + c % k

abbrev pub slot_count : ℕ → ℕ → ℕ
slot_count n k = n * n * k

-- the table is that of a board of n instances, whose lanes have k slots each
pub record IsBoard (n k : ℕ) (key : Shape) (table : TableId) : Type 0 where
  pub instances : key.instances ≡ n
  pub capacity : key.capacity ≡ k
  pub words : table.words ≡ word_count n
  pub slots : table.slots ≡ slot_count n k
