-- What holds of a builder after one more event, and that there is room for an instance.
use Rattle.std.proofs.Common.{◌≡◌, suc, ◌<◌, Bool, true, false, cond, eqb, [], ◌∷◌, ◌++◌, length, Some, Ok, Err, refl, sym, subst, ◌⊎◌, inl, inr}
use Rattle.std.specs.Prelude.{nat_le}
use Rattle.std.proofs.lemmas.Bool.{eqb-false, leb-false}
use Rattle.chart.specs.Charts.{LineView}
use Rattle.chart.specs.Events.{partner_of, region_of, MayHaveRegion}
use Rattle.chart.specs.declared.event.Event.{Event}
use Rattle.chart.specs.declared.instance.TheConstants.{MAX_INSTANCES}
use Rattle.chart.specs.declared.line.TheConstants.{MAX_EVENTS}
use Rattle.chart.proofs.Regions.{may-again}
use Rattle.texts.specs.declared.fault.Cause.TheVariants.{Instances, ToItself, LineFull}
use Rattle.texts.proofs.Results.{guard_ok}
use Rattle.msc_text.specs.Reader.Builders.{BuilderView, IsBuilder, IsNextLine, IsRight, pushed, with_head}

-- an event that a line accepts is its last event then, and there was room
pub record HasPushed (line more : LineView) (m : Event) : Type 0 where
  pub is : more ≡ record line { events = line.events ++ m ∷ [] }
  pub other : partner_of m ≡ line.instance → ⊥
  pub room : length line.events ≡ MAX_EVENTS → ⊥

pub pushed_ok : (line more : LineView) (m : Event) → pushed line m ≡ Ok more → HasPushed line more m
unfolding pushed
pushed_ok line more m e =
    let a = guard_ok (eqb (partner_of m) line.instance) ToItself (cond (eqb (length line.events) MAX_EVENTS) (Err LineFull) (Ok (record line { events = line.events ++ m ∷ [] }))) more e in
    let b = guard_ok (eqb (length line.events) MAX_EVENTS) LineFull (Ok (record line { events = line.events ++ m ∷ [] })) more a.1 in
    let same = b.1 in
    record { is = cc; other = eqb-false _ _ a.0; room = eqb-false _ _ b.0 }

-- a builder with one more event is a builder
pub IsBuilder-event : (d : BuilderView) (line more : LineView) (m : Event) → IsBuilder d → d.line ≡ Some line → (region_of m ≡ 0) ⊎ (region_of m ≡ d.open_region) → pushed line m ≡ Ok more
    → IsBuilder (record { lines = d.lines; line = Some more; open_region = region_of m })
IsBuilder-event d line more m builder there region e =
    let push = pushed_ok line more m e in
    let old : IsNextLine (length d.lines) d.open_region line = rw there at builder.line in
    let next : IsNextLine (length d.lines) (region_of m) (record line { events = line.events ++ m ∷ [] }) = record { next = old.next; coregion = may-again line.events m (may_have old region) } in
    let family : LineView → Type 0 = λ l. IsBuilder (record { lines = d.lines; line = Some l; open_region = region_of m }) in
    subst family (sym push.is) (record { numbered = builder.numbered; line = next })
  where
    may_have : IsNextLine (length d.lines) d.open_region line → (region_of m ≡ 0) ⊎ (region_of m ≡ d.open_region) → MayHaveRegion line.events (region_of m)
    may_have old (inl none) = inl none
    may_have old (inr same) = subst (MayHaveRegion line.events) (sym same) old.coregion

-- if one more instance may begin, there is room for it
pub room_for : (d : BuilderView) → IsRight (with_head d) → length d.lines < MAX_INSTANCES
room_for d right = go (nat_le MAX_INSTANCES (length d.lines)) refl right
  where
    go : (full : Bool) → nat_le MAX_INSTANCES (length d.lines) ≡ full → IsRight {A = BuilderView} (cond full (Err Instances) (Ok (record { lines = d.lines; line = Some (record { instance = suc (length d.lines); events = [] }); open_region = 0 }))) → length d.lines < MAX_INSTANCES
    go true e right = absurd right
    go false e right = leb-false MAX_INSTANCES (length d.lines) e
