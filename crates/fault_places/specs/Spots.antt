-- Where in a line its fault is, by the cause of the fault, and what may be there.
use Rattle.std.specs.Prelude.{ℕ, zero, suc, ◌+◌, ◌-◌, ◌==◌, Bool, true, false, not, ◌||◌, ◌&&◌, List, [], ◌∷◌, length, min, codes, bytes_eq, is_err, unwrap_or, Option, None, Some, if◌then◌else◌}
use Rattle.chart.specs.declared.instance.TheConstants.{MAX_INSTANCES}
use Rattle.chart.specs.declared.name.NameError.TheVariants.{BadByte}
use Rattle.fault_places.specs.declared.spot.Spot.{Spot}
use Rattle.fault_places.specs.declared.want.Want.{Want}
use Rattle.fault_places.specs.declared.want.Want.TheVariants as wants
use Rattle.fault_places.specs.Wants.{next}
use Rattle.msc_text.specs.Reader.Steps.{name_part}
use Rattle.texts.specs.Lines.{words_of, name_or_cause}
use Rattle.texts.specs.declared.fault.Cause.{Cause}
use Rattle.texts.specs.declared.fault.Cause.TheVariants as causes

abbrev pub first_of : List (List ℕ) → List ℕ
first_of [] = []
first_of (word ∷ words) = word

abbrev pub behind_first : List (List ℕ) → List (List ℕ)
behind_first [] = []
behind_first (word ∷ words) = words

-- the word is among the first n
abbrev pub is_among : List ℕ → ℕ → List (List ℕ) → Bool
is_among word zero words = false
is_among word (suc n) [] = false
is_among word (suc n) (other ∷ words) = bytes_eq word other || is_among word n words

-- the part before the semicolon of NAME;, or the whole of another word
unfoldable pub name_in : List ℕ → List ℕ
name_in word = unwrap_or (name_part word) word

-- the part of a word that has to be a name: the last word of a chart's line has a semicolon after it
abbrev pub named_by : Want → List ℕ → List ℕ
named_by wants.InstanceName word = name_in word
named_by wants.Receiver word = name_in word
named_by wants.Sender word = name_in word
named_by _ word = word

-- a name is wanted
abbrev pub is_name : Want → Bool
is_name wants.FirstName = true
is_name wants.OtherName = true
is_name wants.Actor = true
is_name wants.SendTo = true
is_name wants.Partner = true
is_name wants.Message = true
is_name wants.InstanceName = true
is_name wants.Sent = true
is_name wants.Receiver = true
is_name wants.Received = true
is_name wants.Sender = true
is_name _ = false

-- no instance of a schedule's first line has this name; in a chart's line the partner is the unknown instance
unfoldable pub is_unknown : List (List ℕ) → Want → List ℕ → Bool
is_unknown known wants.Actor word = not (is_among word MAX_INSTANCES (behind_first known))
is_unknown known wants.SendTo word = not (is_among word MAX_INSTANCES (behind_first known))
is_unknown known wants.Partner word = not (is_among word MAX_INSTANCES (behind_first known))
is_unknown known wants.Receiver word = true
is_unknown known wants.Sender word = true
is_unknown known _ word = false

-- the partner of the acting instance is wanted
abbrev pub is_partner : Want → Bool
is_partner wants.SendTo = true
is_partner wants.Partner = true
is_partner wants.Receiver = true
is_partner wants.Sender = true
is_partner _ = false

-- an earlier instance of the line has this name; in a chart's line the instance that begins has it again
unfoldable pub is_again : List (List ℕ) → Want → ℕ → List ℕ → Bool
is_again line wants.OtherName index word = is_among word (index - 1) (behind_first line)
is_again line wants.InstanceName index word = true
is_again line _ index word = false

-- it is the instance that is one too many; in a chart it is the line that begins it, or that ends a chart with too few
unfoldable pub is_too_many : Want → ℕ → Bool
is_too_many wants.OtherName index = index == MAX_INSTANCES + 1
is_too_many wants.InstanceOrEnd index = true
is_too_many _ index = false

-- what may be in the place of the line that begins one instance too many, or that ends a chart with too few
abbrev pub other_line : List ℕ → Want
other_line word = if bytes_eq word (codes "endmsc;") then wants.NextInstance else wants.End

-- what may be in the place of a word that is one instance too many, or of a line that is
abbrev pub instead_of : Want → List ℕ → Want
instead_of wants.OtherName word = wants.LineEnd
instead_of wants.InstanceOrEnd word = other_line word
instead_of want word = want

-- what may be in the place of a word that has a fault of this cause
unfoldable pub instead : Cause → Want → List ℕ → Want
instead (causes.Name fault) want word = want
instead causes.UnknownInstance want word = want
instead causes.ToItself want word = want
instead causes.Duplicate want word = want
instead causes.Instances want word = instead_of want word
instead causes.Capacity want word = want
instead causes.LineFull want word = want
instead causes.Syntax want word = want

-- the number of slots of a lane is wanted
abbrev pub is_slots : Want → Bool
is_slots wants.Slots = true
is_slots _ = false

-- the word with this number in a line, from 0, has a fault of this cause
unfoldable pub is_wrong : Cause → List (List ℕ) → List (List ℕ) → Want → ℕ → List ℕ → Bool
is_wrong (causes.Name fault) known line want index word = is_name want && is_err (name_or_cause (named_by want word))
is_wrong causes.UnknownInstance known line want index word = is_unknown known want word
is_wrong causes.ToItself known line want index word = is_partner want
is_wrong causes.Duplicate known line want index word = is_again line want index word
is_wrong causes.Instances known line want index word = is_too_many want index
is_wrong causes.Capacity known line want index word = is_slots want
is_wrong causes.LineFull known line want index word = true
is_wrong causes.Syntax known line want index word = false

-- the number of bytes of a word before its fault
abbrev pub inner : Cause → ℕ
inner (causes.Name (BadByte place)) = place - 1
inner _ = 0

-- the spot at a word that can't be where it is, or at the line's end, or that of the next words
abbrev pub passed : ℕ → ℕ → Want → Option Want → List (List ℕ) → (Want → Spot) → Spot
passed place width want None words go_on = record { place = place; want = want }
passed place width want (Some behind) [] go_on = record { place = place + width; want = behind }
passed place width want (Some behind) (word ∷ words) go_on = go_on behind

-- The spot among these words. The first of them has this number and this place. The spot is the first word that has the
-- fault, or that can't be where it is, or the line's end.
abbrev pub spot_from : Cause → List (List ℕ) → List (List ℕ) → Want → ℕ → ℕ → List (List ℕ) → Spot
spot_from cause known line want index place [] = record { place = place; want = want }
spot_from cause known line want index place (word ∷ words) =
    if is_wrong cause known line want index word
    then record { place = place + min (inner cause) (length word); want = instead cause want word }
    else passed place (length word) want (next want word) words
    (λ behind. spot_from cause known line behind (index + 1) (place + (length word + 1)) words)

-- the spot of a fault in a line that may begin with this
unfoldable pub spot_of : Cause → List ℕ → List ℕ → Want → Spot
spot_of cause known line begin = spot_from cause (words_of known) (words_of line) begin 0 0 (words_of line)
