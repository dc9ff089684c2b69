-- The lines of a chart's text, as both looks pass them: the text of a chart is read.
use Rattle.std.proofs.Common.{◌≡◌, ◌≢◌, ℕ, zero, suc, ◌+◌, ◌<◌, ◌≤◌, cond, List, [], ◌∷◌, ◌++◌, length, map, take, All, Contains, Some, None, Ok, Err, refl, sym, ap, ◌∙◌, subst, arith, append_assoc, append-nil, length-append}
use Rattle.std.specs.Prelude.{slice_get, unwrap_or}
use Rattle.std.specs.List.{flat_map, AllByRecursion}
use Rattle.std.proofs.Math.Seq.{take-append_seam}
use Rattle.std.proofs.lemmas.Bool.{lt-leb, le-ltb}
use Rattle.std.proofs.lemmas.Option.{slice_get-get_or, slice_get_within, get_or_from_slice_get}
use Rattle.chart.proofs.Places.{slice_get-append}
use Rattle.chart.specs.Charts.{LineView, IsLine}
use Rattle.chart.specs.Events.{partner_of, region_of, MayHaveRegion, HasRegionsInOrder}
use Rattle.chart.specs.Names.{IsName, instance_of}
use Rattle.chart.specs.NameSets.{AreNames}
use Rattle.chart.specs.declared.event.Event.{Event}
use Rattle.chart.specs.declared.instance.TheConstants.{MAX_INSTANCES}
use Rattle.chart.specs.declared.line.TheConstants.{MAX_EVENTS}
use Rattle.msc_text.specs.ChartText.{chart_text}
use Rattle.texts.specs.Instances.{name_at}
use Rattle.texts.specs.Faults.{◌>>=◌}
use Rattle.texts.specs.Lines.{lines_of, end_of}
use Rattle.texts.specs.declared.fault.Cause.TheVariants.{Instances}
use Rattle.texts.proofs.Lookups.{instance_again, name_at_all}
use Rattle.texts.proofs.Parts.{lines_again, end_again}
use Rattle.texts.proofs.Results.{bind_at}
use Rattle.msc_text.specs.Reader.Builders.{BuilderView, blank}
use Rattle.msc_text.specs.Reader.HasText.{HasText, CanBeSpelled}
use Rattle.msc_text.specs.Reader.Reading.{look_from, build_from, names_in, lines_in, chart_of}
use Rattle.msc_text.specs.declared.reader.state.State.TheVariants as states
use Rattle.msc_text.specs.declared.reader.state.Region.TheVariants as regions
use Rattle.msc_text.specs.declared.reader.state.Saying.TheVariants as sayings
use Rattle.msc_text.proofs.ReaderLemmas.EventPaths.{IsSpelled, MayFollow, spot_in, spot_behind, body_path, close_path}
use Rattle.msc_text.proofs.ReaderLemmas.Moves.Moves.{begins, heads, ends, leaves}
use Rattle.texts.proofs.NewNames.{with_name-ok}
use Rattle.msc_text.proofs.ReaderLemmas.Paths.{Spot, Passes, Path, one_pass, path_then, look_path, build_path, path_lacks}
use Rattle.msc_text.proofs.ReaderLemmas.Paths.Path.{stay, pass}
use Rattle.msc_text.proofs.ReaderLemmas.SayingsAgain.{saying_line}
use Rattle.msc_text.proofs.ReaderLemmas.TextSayings.{body, closing, last_from, part, chart_sayings, chart_text-is}

-- ---- one instance

-- outside of an instance, after these lines
abbrev spot_outside : List (List ℕ) → List LineView → Spot
spot_outside begun lines = record { begun = begun; state = states.Outside; builder = record { lines = lines; line = None; open_region = 0 } }

-- a line that has a text, after this number of lines
record IsPart (names : List (List ℕ)) (own : List ℕ) (done : ℕ) (line : LineView) : Type 0 where
  pub next : line.instance ≡ suc done
  pub owner : name_at names line.instance ≡ own
  pub name : IsName own
  pub spelled : AllByRecursion (IsSpelled names own line.instance) line.events
  pub follow : MayFollow [] line.events
  pub short : length line.events ≤ MAX_EVENTS

head_pass : (names begun : List (List ℕ)) (own : List ℕ) (lines : List LineView) → IsName own → (Contains begun own → ⊥) → length begun < MAX_INSTANCES → length begun ≡ length lines
    → Passes names (spot_outside begun lines) (sayings.Head own) (spot_behind (begun ++ own ∷ []) own (suc (length lines)) lines [])
head_pass names begun own lines name absent room many =
    let e : BuilderView = record { lines = lines; line = Some (record { instance = suc (length lines); events = [] }); open_region = 0 } in
    record {
      moves = heads name;
      adds = with_name-ok begun own absent (omega arith);
      builds = ap (λ b. cond b (Err Instances) (Ok e)) (lt-leb MAX_INSTANCES (length lines) (omega arith));
    }

foot_pass : (names begun : List (List ℕ)) (own : List ℕ) (events : ℕ) (lines : List LineView) (line : LineView) → Passes names (spot_in begun own events regions.Closed lines line 0) sayings.Foot (spot_outside begun (lines ++ line ∷ []))
foot_pass names begun own events lines line = record { moves = leaves; adds = refl; builds = refl }

part_path : (names begun : List (List ℕ)) (own : List ℕ) (lines : List LineView) (line : LineView) → IsPart names own (length lines) line → (Contains begun own → ⊥) → length begun < MAX_INSTANCES → length begun ≡ length lines
    → Path names (spot_outside begun lines) (part names line) (spot_outside (begun ++ own ∷ []) (lines ++ line ∷ []))
part_path names begun own lines line h absent room many =
    let more = begun ++ own ∷ [] in
    let p = line.instance in
    let head0 = head_pass names begun own lines h.name absent room many in
    let head = subst (λ k. Passes names (spot_outside begun lines) (sayings.Head own) (spot_behind more own k lines [])) (sym h.next) head0 in
    let events = body_path names more own p lines [] line.events h.spelled h.follow (omega (arith, h.short)) in
    let close = close_path names more own p lines line.events in
    let foot = foot_pass names more own (length line.events) lines line in
    let all = pass head (path_then events (path_then close (one_pass foot))) in
    subst (λ w. Path names (spot_outside begun lines) (sayings.Head w ∷ (body names 0 line.events ++ (closing (last_from 0 line.events) 0 ++ sayings.Foot ∷ []))) (spot_outside more (lines ++ line ∷ []))) (sym h.owner) all

-- ---- all instances

-- the lines after this number of lines, with the names of their instances
abbrev AreParts : List (List ℕ) → ℕ → List (List ℕ) → List LineView → Type 0
AreParts names done [] [] = Unit {0}
AreParts names done [] (line ∷ lines) = ⊥
AreParts names done (own ∷ back) [] = ⊥
AreParts names done (own ∷ back) (line ∷ lines) = IsPart names own done line × AreParts names (suc done) back lines

slice_get-seam : {X : Type 0} (xs : List X) (x : X) (ys : List X) → slice_get (xs ++ x ∷ ys) (length xs) ≡ Some x
slice_get-seam [] x ys = refl
slice_get-seam (y ∷ xs) x ys = slice_get-seam xs x ys

-- a name isn't among the names before it
absent_before : (names front : List (List ℕ)) (own : List ℕ) (back : List (List ℕ)) → AreNames names → front ++ own ∷ back ≡ names → Contains front own → ⊥
absent_before names front own back are is there =
    let i = there.0 in
    let below : i < length front = there.1 in
    let here : slice_get names i ≡ Some own = ap (λ l. slice_get l i) (sym is) ∙ slice_get-append front (own ∷ back) i below ∙ slice_get-get_or front i own below ∙ ap Some there.2 in
    let last : slice_get names (length front) ≡ Some own = ap (λ l. slice_get l (length front)) (sym is) ∙ slice_get-seam front own back in
    let same = are.distinct i (length front) own here last in
    omega arith

parts_path : (names front : List (List ℕ)) (done : List LineView) (back : List (List ℕ)) (rest : List LineView) → AreNames names → front ++ back ≡ names → length front ≡ length done → AreParts names (length done) back rest
    → Path names (spot_outside front done) (flat_map (part names) rest) (spot_outside (front ++ back) (done ++ rest))
parts_path names front done [] [] are is many h =
    subst (λ x. Path names (spot_outside front done) [] (spot_outside x (done ++ []))) (sym (append-nil front)) (subst (λ x. Path names (spot_outside front done) [] (spot_outside front x)) (sym (append-nil done)) stay)
parts_path names front done [] (line ∷ rest) are is many h = absurd h
parts_path names front done (own ∷ back) [] are is many h = absurd h
parts_path names front done (own ∷ back) (line ∷ rest) are is many h =
    let limit = are.limit in
    let long : length front + suc (length back) ≡ length names = sym (length-append front (own ∷ back)) ∙ ap length is in
    let first = part_path names front own done line h.0 (absent_before names front own back are is) (omega arith) many in
    let count : length (done ++ line ∷ []) ≡ suc (length done) = omega (arith, length-append done (line ∷ [])) in
    let parts = subst (λ k. AreParts names k back rest) (sym count) h.1 in
    let others = parts_path names (front ++ own ∷ []) (done ++ line ∷ []) back rest are (append_assoc front (own ∷ []) back ∙ is) (omega (arith, length-append front (own ∷ []), length-append done (line ∷ []))) parts in
    let whole = path_then first others in
    subst (λ x. Path names (spot_outside front done) (part names line ++ flat_map (part names) rest) (spot_outside x (done ++ line ∷ rest))) (append_assoc front (own ∷ []) back)
    (subst (λ x. Path names (spot_outside front done) (part names line ++ flat_map (part names) rest) (spot_outside ((front ++ own ∷ []) ++ back) x)) (append_assoc done (line ∷ []) rest) whole)

-- ---- the whole text

abbrev spot_start : Spot
spot_start = record { begun = []; state = states.Start; builder = blank }

abbrev spot_done : List (List ℕ) → List LineView → Spot
spot_done names lines = record { begun = names; state = states.Done; builder = record { lines = lines; line = None; open_region = 0 } }

-- ---- names and lines that have a text have such parts

each-index : {X : Type 0} (P : X → Type 0) (xs : List X) → ((i : ℕ) (x : X) → slice_get xs i ≡ Some x → P x) → AllByRecursion P xs
each-index P [] f = tt
each-index P (x ∷ xs) f = (f zero x refl, each-index P xs (λ i y e. f (suc i) y e))

all-at : {X : Type 0} (P : X → Type 0) (xs : List X) (i : ℕ) (x : X) → All P xs → slice_get xs i ≡ Some x → P x
all-at P xs i x h e = subst P (get_or_from_slice_get xs i x x e) (h i x (slice_get_within xs i x e))

may-follow : (all front rest : List Event) → front ++ rest ≡ all → HasRegionsInOrder all → MayFollow front rest
may-follow all front [] is h = tt
may-follow all front (m ∷ rest) is h =
    let here : slice_get all (length front) ≡ Some m = ap (λ l. slice_get l (length front)) (sym is) ∙ slice_get-seam front m rest in
    let before : take (length front) all ≡ front = ap (take (length front)) (sym is) ∙ take-append_seam front (m ∷ rest) in
    (subst (λ l. MayHaveRegion l (region_of m)) before (h (length front) m here), may-follow all (front ++ m ∷ []) rest (append_assoc front (m ∷ []) rest ∙ is) h)

some_is : (x y : ℕ) → Some x ≡ Some y → x ≡ y
some_is x y e = cc

-- an event of the line of the instance p
spelled-event : (names : List (List ℕ)) (own : List ℕ) (p : ℕ) (m : Event) → AreNames names → All IsName names → 1 ≤ p → p ≤ length names → name_at names p ≡ own → CanBeSpelled m → partner_of m ≤ length names → partner_of m ≢ p → IsSpelled names own p m
spelled-event names own p m are each first last owner can within other =
    let found = instance_again names (partner_of m) are can.0 within in
    let own_found : instance_of names own ≡ Some p = ap (instance_of names) (sym owner) ∙ instance_again names p are first last in
    record {
      partner_name = name_at_all IsName names (partner_of m) each can.0 within;
      message_name = can.1;
      other_name = λ same. other (some_is (partner_of m) p (sym found ∙ ap (instance_of names) same ∙ own_found));
      found = found;
      other = other;
    }

is_part : (names : List (List ℕ)) (lines : List LineView) (i : ℕ) (own : List ℕ) (line : LineView) → HasText names lines → slice_get names i ≡ Some own → slice_get lines i ≡ Some line → IsPart names own i line
is_part names lines i own line h here there =
    let next : line.instance ≡ suc i = h.chart.numbered i line there in
    let below : i < length names = slice_get_within names i own here in
    let owner : name_at names line.instance ≡ own = ap (name_at names) next ∙ ap (λ o. unwrap_or o []) here in
    let line_is = all-at IsLine lines i line h.chart.each there in
    let within = all-at (λ l. All (λ m. partner_of m ≤ length lines) l.events) lines i line h.chart.partners there in
    let can = all-at (λ l. All CanBeSpelled l.events) lines i line h.events there in
    let same : length names ≡ length lines = h.same in
    let line_event : (k : ℕ) (m : Event) → slice_get line.events k ≡ Some m → IsSpelled names own line.instance m = λ k m e.
    (let limit : partner_of m ≤ length lines = all-at (λ x. partner_of x ≤ length lines) line.events k m within e in
    spelled-event names own line.instance m h.names_are h.each (omega arith) (omega arith) owner (all-at CanBeSpelled line.events k m can e) (omega arith) (line_is.partners k m e)) in
    record {
      next = next;
      owner = owner;
      name = all-at IsName names i own h.each here;
      spelled = each-index (IsSpelled names own line.instance) line.events line_event;
      follow = may-follow line.events [] line.events refl line_is.regions;
      short = line_is.short;
    }

are_parts : (names : List (List ℕ)) (lines : List LineView) (front back : List (List ℕ)) (done rest : List LineView) → HasText names lines → front ++ back ≡ names → done ++ rest ≡ lines → length front ≡ length done → AreParts names (length done) back rest
are_parts names lines front [] done [] h is there many = tt
are_parts names lines front [] done (line ∷ rest) h is there many =
    let same : length names ≡ length lines = h.same in
    absurd (omega (arith, ap length is, ap length there, length-append front [], length-append done (line ∷ rest)))
are_parts names lines front (own ∷ back) done [] h is there many =
    let same : length names ≡ length lines = h.same in
    absurd (omega (arith, ap length is, ap length there, length-append front (own ∷ back), length-append done []))
are_parts names lines front (own ∷ back) done (line ∷ rest) h is there many =
    let here : slice_get names (length done) ≡ Some own = ap (slice_get names) (sym many) ∙ ap (λ l. slice_get l (length front)) (sym is) ∙ slice_get-seam front own back in
    let at : slice_get lines (length done) ≡ Some line = ap (λ l. slice_get l (length done)) (sym there) ∙ slice_get-seam done line rest in
    let count : length (done ++ line ∷ []) ≡ suc (length done) = omega (arith, length-append done (line ∷ [])) in
    let others = are_parts names lines (front ++ own ∷ []) back (done ++ line ∷ []) rest h (append_assoc front (own ∷ []) back ∙ is) (append_assoc done (line ∷ []) rest ∙ there) (omega (arith, length-append front (own ∷ []), length-append done (line ∷ []))) in
    (is_part names lines (length done) own line h here at, subst (λ k. AreParts names k back rest) count others)

-- both looks pass the whole text
chart_path : (names : List (List ℕ)) (lines : List LineView) → HasText names lines → Path names spot_start (chart_sayings names lines) (spot_done names lines)
chart_path names lines h =
    let start : Passes names spot_start sayings.Begin (spot_outside [] []) = record { moves = begins; adds = refl; builds = refl } in
    let parts = parts_path names [] [] names lines h.names_are refl refl (are_parts names lines [] names [] lines h refl refl refl) in
    let several = h.chart.several in
    let same = h.same in
    let end : Passes names (spot_outside names lines) sayings.End (spot_done names lines) = record { moves = ends; adds = ap (λ b. cond b (Err Instances) (Ok names)) (le-ltb (length names) 2 (omega arith)); builds = refl } in
    pass start (path_then parts (one_pass end))

lines_of-text : (names : List (List ℕ)) (lines : List LineView) → HasText names lines → lines_of (chart_text names lines) ≡ map saying_line (chart_sayings names lines)
lines_of-text names lines h = ap lines_of (chart_text-is names lines) ∙ lines_again (map saying_line (chart_sayings names lines)) (path_lacks (chart_path names lines h))

end_of-text : (names : List (List ℕ)) (lines : List LineView) → HasText names lines → end_of (chart_text names lines) ≡ []
end_of-text names lines h = ap end_of (chart_text-is names lines) ∙ end_again (map saying_line (chart_sayings names lines)) (path_lacks (chart_path names lines h))

names-again : (names : List (List ℕ)) (lines : List LineView) → HasText names lines → names_in (chart_text names lines) ≡ Ok names
unfolding names_in
names-again names lines h =
    ap (λ l. look_from [] states.Start 1 l (end_of (chart_text names lines))) (lines_of-text names lines h)
    ∙ ap (look_from [] states.Start 1 (map saying_line (chart_sayings names lines))) (end_of-text names lines h)
    ∙ look_path 1 [] (chart_path names lines h)

built-again : (names : List (List ℕ)) (lines : List LineView) → HasText names lines → lines_in names (chart_text names lines) ≡ Ok lines
unfolding lines_in
built-again names lines h = ap (build_from names states.Start blank 1) (lines_of-text names lines h) ∙ build_path 1 (chart_path names lines h)

-- the text of a chart is read
pub chart-again : (names : List (List ℕ)) (lines : List LineView) → HasText names lines → chart_of (chart_text names lines) ≡ Ok (names, lines)
unfolding chart_of
chart-again names lines h =
    let bytes = chart_text names lines in
    bind_at (names_in bytes) (λ ns. lines_in ns bytes >>= λ ls. Ok (ns, ls)) names (names-again names lines h) ∙ bind_at (lines_in names bytes) (λ ls. Ok (names, ls)) lines (built-again names lines h)
