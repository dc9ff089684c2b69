-- Names for numbers and lists of numbers, by their meaning. Each name unfolds to the plain type.
use Rattle.std.specs.Prelude.{ℕ, List}

-- the number of an instance, from 1
abbrev pub Instance : Type 0
Instance = ℕ

-- an event's number on its line, from 1
abbrev pub Index : Type 0
Index = ℕ

-- numbers of events of one line
abbrev pub Indices : Type 0
Indices = List Index

-- the bytes of a name
abbrev pub Name : Type 0
Name = List ℕ

-- the bytes of a text, or of a part of it
abbrev pub Text : Type 0
Text = List ℕ

-- vector time: an entry for each instance (Fidge 1988, Mattern 1989)
abbrev pub Clock : Type 0
Clock = List ℕ

-- a number for each line, by instance
abbrev pub Counts : Type 0
Counts = List ℕ
