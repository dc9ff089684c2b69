-- What a message carries: its name is that of ITU-T Z.120, its body this project's profile.
use Rattle.chart.specs.Words.{Name, Text}

-- a name and a body, as bytes
pub record Content : Type 0 where
  pub name : Name
  pub body : Text
