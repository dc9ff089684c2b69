-- Running a chart: the first events of each line were made, and each next one comes as soon as it can (ITU-T Z.120: a
-- message's input comes after its output).
use Rattle.std.specs.Prelude.{ℕ, suc, ◌<◌, ◌≤◌, ◌⊎◌, length, slice_index}
use Rattle.chart.specs.Words.{Counts}
use Rattle.chart.specs.Charts.{Chart, Place, at, IsSendTo, BelongsTo}
use Rattle.closure.specs.Links.{HasSameName}

-- the next event of the line at p, after those that were made
abbrev pub next_of : Counts → ℕ → Place
next_of made p = at (suc p) (suc (slice_index made p))

-- the next event of the line at p can be made: it is a send, or a receive whose send was made
pub record IsReady (c : Chart) (n : ℕ) (made : Counts) (p : ℕ) : Type 0 where
  pub within : slice_index made p < length (c (suc p))
  pub partner : ((q : ℕ) × (q < n) × IsSendTo c (suc q) (next_of made p))
      ⊎ ((q j : ℕ) × (q < n) × BelongsTo c (at (suc q) j) (next_of made p) × HasSameName c (at (suc q) j)
      (next_of made p) × (j ≤ slice_index made q))

-- all events of the line at p were made, or the next is a receive whose send wasn't
abbrev pub IsStopped : Chart → ℕ → Counts → ℕ → Type 0
IsStopped c n made p = (length (c (suc p)) ≤ slice_index made p)
    ⊎ ((q j : ℕ) × (q < n) × BelongsTo c (at (suc q) j) (next_of made p) × (slice_index made q < j))

-- no event can be made
abbrev pub AreStopped : Chart → ℕ → Counts → Type 0
AreStopped c n made = (p : ℕ) → p < n → IsStopped c n made p
