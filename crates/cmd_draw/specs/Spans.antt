-- The range of events to draw, as a word of a command line gives it (this project's profile).
use Rattle.std.specs.Prelude.{◌≡◌, ℕ, ◌^◌, ◌<◌, ◌≤◌, List, ◌∷◌, ◌++◌}
use Rattle.cmd_base.specs.Numbers.{IsNumber, number_of}
use Rattle.cmd_draw.specs.declared.events.Events.{Events}

-- the word gives this range: two numbers of decimal digits only, joined by two dots (byte 46)
pub record AreEvents (word : List ℕ) (events : Events) : Type 0 where
  pub first : List ℕ
  pub last : List ℕ
  pub joined : word ≡ first ++ (46 ∷ 46 ∷ last)
  pub first_digits : IsNumber first
  pub last_digits : IsNumber last
  pub first_is : events.first ≡ number_of first
  pub last_is : events.last ≡ number_of last
  pub begins : 1 ≤ events.first
  pub ends : events.first ≤ events.last
  pub limit : events.last < 2 ^ 32
