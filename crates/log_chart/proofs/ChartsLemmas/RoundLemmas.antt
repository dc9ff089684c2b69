-- If a line of a log comes before itself, so does a receive that takes a logged send.
use Rattle.std.proofs.Common.{◌≡◌, ℕ, ◌<◌, ◌⊎◌, inl, inr, List, Some, refl, sym, subst, arith}
use Rattle.std.specs.Prelude.{Contains}
use Rattle.log_chart.specs.declared.matching.LogLine.{LogLine}
use Rattle.log_chart.specs.Cycles.Freeing.{IsOnCycle, HasNone}
use Rattle.log_chart.specs.Cycles.Order.{Comes}
use Rattle.log_chart.specs.Cycles.Order.Follows.{host, message}
use Rattle.log_chart.specs.Cycles.Order.Comes.{direct, through}

module _ (lines : List LogLine) where
  -- the same line, or one that comes before it
  abbrev IsUpTo : ℕ → ℕ → Type 0
  IsUpTo a b = (a ≡ b) ⊎ Comes lines a b

  -- the way from a to b goes by a message
  record ByMessage (a b : ℕ) : Type 0 where
    pub line : LogLine
    pub among : Contains lines line
    pub send : ℕ
    pub takes : line.send ≡ Some send
    pub before : IsUpTo a send
    pub behind : IsUpTo line.number b

  then_comes : (a d b : ℕ) → IsUpTo a d → Comes lines d b → Comes lines a b
  then_comes a d b (inl same) way = subst (λ x. Comes lines x b) (sym same) way
  then_comes a d b (inr first) way = through first way

  -- it does, or it goes along one host's line
  by_message : (a b : ℕ) → Comes lines a b → (a < b) ⊎ ByMessage a b
  by_message a b (direct (host x y x_in y_in x_is y_is same less)) = inl less
  by_message a b (direct (message y y_in y_is takes)) = inr (record { line = y; among = y_in; send = a; takes = takes; before = inl refl; behind = inl y_is })
  by_message a b (through {d = d} first rest) = go (by_message a d first) (by_message d b rest)
    where
      go : (a < d) ⊎ ByMessage a d → (d < b) ⊎ ByMessage d b → (a < b) ⊎ ByMessage a b
      go (inr way) after = inr (record { line = way.line; among = way.among; send = way.send; takes = way.takes; before = way.before; behind = inr (then_comes way.line.number d b way.behind rest) })
      go (inl less) (inr way) =
          inr (record { line = way.line; among = way.among; send = way.send; takes = way.takes; before = inr (before_it way.send way.before); behind = way.behind })
        where
          before_it : (s : ℕ) → IsUpTo d s → Comes lines a s
          before_it s (inl same) = subst (Comes lines a) same first
          before_it s (inr more) = through first more
      go (inl less) (inl more) = inl (omega (arith, less, more))

  pub on_cycle : (a : ℕ) → Comes lines a a → (k : ℕ) × IsOnCycle lines k
  on_cycle a way = go (by_message a a way)
    where
      go : (a < a) ⊎ ByMessage a a → (k : ℕ) × IsOnCycle lines k
      go (inl less) = absurd (omega (arith, less))
      go (inr by) = (
        by.line.number,
        record {
          line = by.line;
          among = by.among;
          number = refl;
          send = by.send;
          takes = by.takes;
          cycle = then_comes by.line.number a by.line.number by.behind (then_comes a by.send by.line.number by.before (direct (message by.line by.among refl by.takes)));
        },
      )

  pub no_cycle : HasNone lines → (a : ℕ) → Comes lines a a → ⊥
  no_cycle none a way = let found = on_cycle a way in none found.0 found.1
