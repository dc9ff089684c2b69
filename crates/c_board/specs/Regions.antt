-- What coregions over a handle answer (this project's profile).
use Rattle.std.specs.Prelude.{◌≡◌, ℕ, ◌+◌, ◌<◌, Option, Result, Ok, Err}
use Rattle.chart.specs.Events.{greatest_region}
use Rattle.board.specs.declared.error.RegionError.TheVariants.{CoregionOpen, CoregionNotOpen}
use Rattle.board.specs.Views.{line_of}
use Rattle.c_board.specs.declared.kept.Kept.{Kept}
use Rattle.c_board.specs.declared.misuse.Misuse.TheVariants.{NoPost}
use Rattle.c_board.specs.declared.misuse.Numbering.{Numbering}
use Rattle.c_board.specs.declared.regions.RegionRefusal.{RegionRefusal}
use Rattle.c_board.specs.declared.regions.RegionRefusal.TheVariants as why
use Rattle.c_board.specs.Contents.{post_in, OverPost}
use Rattle.c_board.specs.PostStates.{PostStateView}
use Rattle.c_board.specs.Refusals.{of_misuse, of_region}

-- opening a coregion: none was open, and a new one is open now; or one is open already
abbrev pub PostOpens : PostStateView → Result (Unit {0}) RegionRefusal → PostStateView → Type 0
PostOpens old (Ok done) new = (old.post.region ≡ 0)
    × (new ≡ record old { post = record old.post { region = greatest_region (line_of old.post) + 1 } })
PostOpens old (Err (why.Misuse _)) new = ⊥
PostOpens old (Err (why.Post CoregionOpen)) new = (0 < old.post.region) × (new ≡ old)
PostOpens old (Err (why.Post CoregionNotOpen)) new = ⊥

-- closing it: one was open, and none is open now; or none is open
abbrev pub PostShuts : PostStateView → Result (Unit {0}) RegionRefusal → PostStateView → Type 0
PostShuts old (Ok done) new = (0 < old.post.region) × (new ≡ record old { post = record old.post { region = 0 } })
PostShuts old (Err (why.Misuse _)) new = ⊥
PostShuts old (Err (why.Post CoregionNotOpen)) new = (old.post.region ≡ 0) × (new ≡ old)
PostShuts old (Err (why.Post CoregionOpen)) new = ⊥

abbrev pub HandleOpens : Option Kept → Result (Unit {0}) RegionRefusal → Option Kept → Type 0
HandleOpens old result new = OverPost (post_in old) old new (result ≡ Err (why.Misuse NoPost))
    (λ state after. PostOpens state result after)

abbrev pub HandleShuts : Option Kept → Result (Unit {0}) RegionRefusal → Option Kept → Type 0
HandleShuts old result new = OverPost (post_in old) old new (result ≡ Err (why.Misuse NoPost))
    (λ state after. PostShuts state result after)

-- the numbers of these refusals
abbrev pub of_unchanged : Numbering → RegionRefusal → ℕ
of_unchanged misuses (why.Misuse how) = of_misuse misuses how
of_unchanged misuses (why.Post refused) = of_region refused
