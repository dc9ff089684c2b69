-- The instances of a text by their names: the addition of a name, the instance with a name, and the name of an
-- instance.
use Rattle.std.specs.Prelude.{ℕ, zero, suc, ◌==◌, List, [], ◌∷◌, ◌++◌, length, slice_get, Option, None, Some, unwrap_or, Result, Ok, Err, bytes_eq, if◌then◌else◌}
use Rattle.std.specs.List.{list_any}
use Rattle.chart.specs.Words.{Name}
use Rattle.chart.specs.Names.{instance_of}
use Rattle.chart.specs.declared.instance.TheConstants.{MAX_INSTANCES}
use Rattle.texts.specs.declared.fault.Cause.{Cause}
use Rattle.texts.specs.declared.fault.Cause.TheVariants.{Instances, Duplicate, UnknownInstance}

-- a new name is added after the earlier names
abbrev pub with_name : List Name → Name → Result (List Name) Cause
with_name names name =
    if list_any (bytes_eq name) names then Err Duplicate else (
    if length names == MAX_INSTANCES then Err Instances else Ok (names ++ name ∷ []))

-- an instance that a look-up found
abbrev pub known : Option ℕ → Result ℕ Cause
known None = Err UnknownInstance
known (Some p) = Ok p

-- the instance of the name
unfoldable pub known_of : List Name → Name → Result ℕ Cause
known_of names name = known (instance_of names name)

-- the name of an instance, by its number from 1
abbrev pub name_at : List Name → ℕ → Name
name_at names zero = []
name_at names (suc place) = unwrap_or (slice_get names place) []
