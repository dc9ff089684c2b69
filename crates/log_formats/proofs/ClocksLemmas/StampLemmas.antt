-- Entries of a clock, part by part.
use Rattle.std.proofs.Common.{◌≡◌, ℕ, List, [], ◌∷◌, ◌++◌, refl}
use Rattle.log_formats.specs.Clocks.Stamps.{StampView, stamp_in, with_stamp, with_parts}

-- one more part
pub parts_more : (stamps : List StampView) (parts : List (List ℕ)) (part : List ℕ) → with_parts stamps (parts ++ part ∷ []) ≡ with_stamp (with_parts stamps parts) (stamp_in part)
parts_more stamps [] part = refl
parts_more stamps (p ∷ parts) part = parts_more (with_stamp stamps (stamp_in p)) parts part
