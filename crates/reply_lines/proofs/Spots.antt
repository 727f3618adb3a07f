-- What is so on the legal fronts of a life's histories where a command asks.
use Rattle.std.proofs.Common.{◌≡◌, ◌↔◌, ℕ, zero, suc, ◌<◌, ◌≤◌, Bool, List, [], ◌∷◌, ◌++◌, Option, Some, length, map, take, refl, ap, sym, subst, ◌∙◌, arith, append_assoc}
use Rattle.std.specs.Global.{Vec}
use Rattle.std.specs.Prelude.{IsTrue, Contains}
use Rattle.std.specs.List.{flat_map, slice_get}
use Rattle.std.proofs.lemmas.List.{length-map}
use Rattle.tx_events.specs.declared.event.By.{By}
use Rattle.tx_events.specs.declared.event.Event.{Event}
use Rattle.tx_events.specs.declared.multi.MultiEvent.{MultiEvent}
use Rattle.tx_events.specs.declared.record.Counters.{Counters}
use Rattle.tx_events.specs.Events.{by_of}
use Rattle.tx_events.specs.Multis.{multi_by}
use Rattle.tx_model.specs.declared.report.Line.{Line}
use Rattle.tx_model.specs.declared.report.Step.{Step}
use Rattle.tx_model.specs.Replies.{taken_by}
use Rattle.tx_model.specs.Rounds.{lines_in}
use Rattle.place_columns.specs.declared.lines.LineAt.{LineAt}
use Rattle.place_columns.specs.Lined.{Numbered, bys_of, line_by, lines_from, number_of, numbered, places_of}
use Rattle.place_columns.proofs.LineSteps.{bys_are}
use Rattle.place_columns.proofs.Numbering.{number_is}
use Rattle.place_columns.proofs.LinePlaces.{its_places}
use Rattle.history_places.specs.IdMarks.{AreMarks}
use Rattle.history_places.specs.SnapMarks.{AreSnapMarks}
use Rattle.history_places.specs.declared.mark.IdMark.{IdMark}
use Rattle.history_places.specs.declared.snaps.SnapMark.{SnapMark}
use Rattle.place_rules.specs.Readings.{IsReading}
use Rattle.multi_rules.specs.MultiReadings.{IsMultiReading}
use Rattle.multi_rules.specs.Own.{AreReadMultis}
use Rattle.place_columns.specs.OwnPlaces.{ArePlacesOf}
use Rattle.report_law.specs.Steps.{lines_of}
use Rattle.event_rules.proofs.Judging.{few_steps}
use Rattle.event_rules.proofs.Standing.{in_order, size_is, within}
use Rattle.report_law.proofs.FrontsAtEvents.{AreWithin}
use Rattle.report_law.proofs.FrontsOfMultis.{AreMultisWithin}
use Rattle.report_law.proofs.Theirs.{multis_within, theirs_within}
use Rattle.reply_lines.specs.At.{IsAsking, IsLineOfSnap, IsSnapAsked, IsSpot, SnapSpot, Spot, base_of, history_of, lines_at, multi_round_of, multis_of_life, round_of, rounds_at}
use Rattle.event_rules.specs.SnapsTold.{told_by}
use Rattle.place_rules.specs.Runs.{AreItsPlaces, AreReadPlaces}
use Rattle.multi_rules.specs.Snapped.{AreTaken, taken_in}
use Rattle.multi_rules.specs.declared.taken.Taken.{Taken}
use Rattle.reply_lines.specs.declared.known.Known.{Known}
use Rattle.reply_lines.specs.declared.reading.Asking.{Asking}

-- ---- lists

module _ {A B : Type 0} (f : A → B) where
  mapped_front : (n p : ℕ) (xs : List A) (y : B) → slice_get (map f (take n xs)) p ≡ Some y → slice_get (map f xs) p ≡ Some y
  mapped_front zero p xs y e = absurd cc
  mapped_front (suc n) p [] y e = absurd cc
  mapped_front (suc n) zero (x ∷ xs) y e = e
  mapped_front (suc n) (suc p) (x ∷ xs) y e = mapped_front n p xs y e

  front_mapped : (n p : ℕ) (xs : List A) (y : B) → p < n → slice_get (map f xs) p ≡ Some y → slice_get (map f (take n xs)) p ≡ Some y
  front_mapped zero p xs y l e = absurd (omega arith)
  front_mapped (suc n) p [] y l e = absurd cc
  front_mapped (suc n) zero (x ∷ xs) y l e = e
  front_mapped (suc n) (suc p) (x ∷ xs) y l e = front_mapped n p xs y (omega arith) e

  unmapped : (p : ℕ) (xs : List A) (y : B) → slice_get (map f xs) p ≡ Some y → (x : A) × (slice_get xs p ≡ Some x) × (f x ≡ y)
  unmapped p [] y e = absurd cc
  unmapped zero (x ∷ xs) y e = (x, refl, cc)
  unmapped (suc p) (x ∷ xs) y e = unmapped p xs y e

module _ {A : Type 0} where
  get_left : (xs ys : List A) (n : ℕ) (x : A) → slice_get xs n ≡ Some x → slice_get (xs ++ ys) n ≡ Some x
  get_left [] ys n x e = absurd cc
  get_left (y ∷ xs) ys zero x e = e
  get_left (y ∷ xs) ys (suc n) x e = get_left xs ys n x e

  pub behind : (xs ys zs : List A) (x : A) → ((n : ℕ) → slice_get ys n ≡ Some x → slice_get zs n ≡ Some x) → (n : ℕ) → slice_get (xs ++ ys) n ≡ Some x → slice_get (xs ++ zs) n ≡ Some x
  behind [] ys zs x f n e = f n e
  behind (y ∷ xs) ys zs x f zero e = e
  behind (y ∷ xs) ys zs x f (suc n) e = behind xs ys zs x f n e

-- the lines up to a round's end are a front of all
pub front_line : (steps : List Step) (r : ℕ) (st : Step) (l : Line) → slice_get steps r ≡ Some st → (n : ℕ) → slice_get (flat_map lines_in (take r steps) ++ lines_in st) n ≡ Some l → slice_get (flat_map lines_in steps) n ≡ Some l
front_line [] r st l at n e = absurd cc
front_line (t ∷ steps) zero st l at n e =
    let same : t ≡ st = cc in
    get_left (lines_in t) (flat_map lines_in steps) n l (ap (λ (x : Step). slice_get (lines_in x) n) same ∙ e)
front_line (t ∷ steps) (suc r) st l at n e =
    behind (lines_in t) (flat_map lines_in (take r steps) ++ lines_in st) (flat_map lines_in steps) l (front_line steps r st l at) n
    (ap (λ (x : List Line). slice_get x n) (sym (append_assoc (lines_in t) (flat_map lines_in (take r steps)) (lines_in st))) ∙ e)

pub by_at : (lines : List Line) (n : ℕ) (l : Line) → slice_get lines n ≡ Some l → slice_get (map line_by lines) n ≡ Some l.by
by_at [] n l e = absurd cc
by_at (x ∷ lines) zero l e = let same : x ≡ l = cc in ap (λ (y : Line). Some y.by) same
by_at (x ∷ lines) (suc n) l e = by_at lines n l e

-- ---- a command that asks

-- one that has a line up to the end of the round
abbrev pub StandsUpTo : Spot → By → Type 0
StandsUpTo s b = (i : ℕ) × (l : Line) × (slice_get (rounds_at s.at ++ lines_at s.at) i ≡ Some l) × (l.by ≡ b)

module _ (s : Spot) (k : Known) (a : Asking) (is : IsSpot s k a) where
  pub asked : IsAsking s.at k a
  asked = subst (λ (x : Asking). IsAsking s.at k x) is.asking_is (subst (λ (x : Known). IsAsking s.at x s.asking) is.known_is is.asked)

  pub by_is : s.asking.by ≡ a.by
  by_is = ap (λ (x : Asking). x.by) is.asking_is

  -- ---- the history

  pub fits : (round_of s).to ≤ length k.places.events
  fits = let t = asked.to in let w = asked.within in omega arith

  pub reading_here : IsReading k.places.events (round_of s) s.asking.by a.reading
  reading_here = subst (λ (b : By). IsReading k.places.events (round_of s) b a.reading) (sym by_is) asked.reading

  pub reading_within : a.reading.to ≤ length k.places.events
  reading_within = let t = asked.reading.to in let f = fits in omega arith

  pub read_places : AreReadPlaces k.places.events (round_of s) s.asking.by a.reading.from a.reading.to
  read_places = λ p. reading_here.read p

  -- the snapshots of a line's command
  pub taken_there : (line : ℕ) (by : By) (lists : List (Vec Taken)) (taken : List Taken) → slice_get (bys_of (lines_from 0 s.at.j.steps)) line ≡ Some by → lists ≡ k.taken.items → taken ≡ taken_in lists line → AreTaken k.places.base.next k.places.events by taken
  taken_there line by lists taken at is same =
      subst (λ (t : List Taken). AreTaken k.places.base.next k.places.events by t) (sym (same ∙ ap (λ (ls : List (Vec Taken)). taken_in ls line) is))
      (subst (λ (b : Counters). AreTaken b.next k.places.events by (taken_in k.taken.items line)) (sym asked.known.front.base_is) (asked.known.taken line by at))

  pub lift : (D : Counters → List Event → Type 0) (t : Bool) → D (base_of s) (take (length k.places.events) (history_of s)) ↔ D (base_of s) (history_of s)
      → IsTrue t ↔ D k.places.base k.places.events → IsTrue t ↔ D (base_of s) (history_of s)
  lift D t whole front =
      let f = asked.known.front in
      let here : IsTrue t ↔ D (base_of s) (take (length k.places.events) (history_of s)) =
      subst (λ (b : Counters). IsTrue t ↔ D b (take (length k.places.events) (history_of s))) f.base_is
      (subst (λ (h : List Event). IsTrue t ↔ D k.places.base h) f.events_are front) in
      (λ x. whole.0 (here.0 x), λ x. here.1 (whole.1 x))

  pub lift_both : (D : Counters → List Event → Type 0) (W : Type 0) (t : Bool) → D (base_of s) (take (length k.places.events) (history_of s)) ↔ W → IsTrue t ↔ D k.places.base k.places.events → IsTrue t ↔ W
  lift_both D W t whole front =
      let f = asked.known.front in
      let here : IsTrue t ↔ D (base_of s) (take (length k.places.events) (history_of s)) =
      subst (λ (b : Counters). IsTrue t ↔ D b (take (length k.places.events) (history_of s))) f.base_is
      (subst (λ (h : List Event). IsTrue t ↔ D k.places.base h) f.events_are front) in
      (λ x. whole.0 (here.0 x), λ x. here.1 (whole.1 x))

  pub snap_marks : (marks : List (Option SnapMark)) → marks ≡ k.snaps.items → AreSnapMarks k.places.base.next k.places.events (told_by s.at.j) marks
  snap_marks marks same =
      subst (λ (t : List (Option SnapMark)). AreSnapMarks k.places.base.next k.places.events (told_by s.at.j) t) (sym same)
      (subst (λ (b : Counters). AreSnapMarks b.next k.places.events (told_by s.at.j) k.snaps.items) (sym asked.known.front.base_is) asked.known.snaps)

  pub id_marks_here : (marks : List IdMark) → marks ≡ k.marks.items → AreMarks k.places.events marks
  id_marks_here marks same = subst (λ (t : List IdMark). AreMarks k.places.events t) (sym same) asked.known.marks

  -- all events of a command that stands there are in the front
  pub within_of : (b : By) → StandsUpTo s b → AreWithin (history_of s) (length k.places.events) b
  within_of b stands p e at its =
      let l : p < (round_of s).to = theirs_within (rounds_at s.at ++ lines_at s.at) (history_of s) asked.judged.0.these stands.0 stands.1 stands.2 p e at (its ∙ sym stands.3) in
      let f = fits in omega arith

  pub its_within : AreWithin (history_of s) (length k.places.events) s.asking.by
  its_within = let w = asked.its in within_of s.asking.by (w.0, w.1, w.2, w.3 ∙ sym by_is)

  -- the places of a line's command
  pub places_at : (line : ℕ) (b : By) (run : List ℕ) → slice_get (bys_of (lines_from 0 s.at.j.steps)) line ≡ Some b → AreWithin (history_of s) (length k.places.events) b
      → run ≡ places_of line k.events.numbers → AreItsPlaces k.places.events b run
  places_at line b run at inside runs p =
      let n = length k.places.events in
      let f = asked.known.front in
      let whole = its_places (lines_from 0 s.at.j.steps) line b (in_order s.at.j asked.known.order) at (map by_of (history_of s)) p in
      let same : run ≡ places_of line (numbered (lines_from 0 s.at.j.steps) (map by_of (history_of s))).numbers = runs ∙ ap (λ (o : Numbered). places_of line o.numbers) asked.known.events in
      let events : map by_of k.places.events ≡ map by_of (take n (history_of s)) = ap (λ (t : List Event). map by_of t) f.events_are in (
        λ e. subst (λ (t : List ℕ). Contains t p) (sym same) (whole.0 (mapped_front by_of n p (history_of s) b (ap (λ (t : List By). slice_get t p) (sym events) ∙ e))),
        λ c.
            let e = whole.1 (subst (λ (t : List ℕ). Contains t p) same c) in
            let x = unmapped by_of p (history_of s) b e in
            ap (λ (t : List By). slice_get t p) events ∙ front_mapped by_of n p (history_of s) b (inside p x.0 x.1 x.2) e,
      )

  pub its_places_here : (run : List ℕ) → run ≡ places_of a.number k.events.numbers → AreItsPlaces k.places.events s.asking.by run
  its_places_here run runs =
      places_at a.number s.asking.by run (asked.number ∙ ap (λ (b : By). Some b) (sym by_is)) its_within runs

  pub line_within : (line : ℕ) (b : By) → slice_get (bys_of (lines_from 0 s.at.j.steps)) line ≡ Some b → line < length (lines_from 0 s.at.j.steps)
  line_within line b at =
      let l = within (bys_of (lines_from 0 s.at.j.steps)) line b at in
      let m = length-map (lines_from 0 s.at.j.steps) (λ (x : LineAt). x.by) in
      omega arith

  pub few_events : (line : ℕ) (b : By) → slice_get (bys_of (lines_from 0 s.at.j.steps)) line ≡ Some b → line ≤ length k.events.steps
  few_events line b at =
      let l = line_within line b at in
      let m = size_is s.at.j in
      few_steps s.at.j line k.events (map by_of (history_of s)) asked.known.events (omega arith)

  -- the line of a command that stands up to the round's end
  pub by_stands : (b : By) → StandsUpTo s b → slice_get (bys_of (lines_from 0 s.at.j.steps)) (number_of (lines_from 0 s.at.j.steps) b) ≡ Some b
  by_stands b stands =
      let line = front_line s.at.j.steps s.at.round s.at.step stands.1 asked.told stands.0 stands.2 in
      let at : slice_get (bys_of (lines_from 0 s.at.j.steps)) stands.0 ≡ Some b =
      ap (λ (t : List By). slice_get t stands.0) (bys_are 0 s.at.j.steps) ∙ by_at (lines_of s.at.j) stands.0 stands.1 line ∙ ap (λ (x : By). Some x) stands.3 in
      subst (λ n. slice_get (bys_of (lines_from 0 s.at.j.steps)) n ≡ Some b) (sym (number_is (lines_from 0 s.at.j.steps) stands.0 b (in_order s.at.j asked.known.order) at)) at

  -- ---- the multixacts

  pub multi_fits : (multi_round_of s).to ≤ length k.multi_places.events
  multi_fits = let t = asked.multi_to in let w = asked.multi_within in omega arith

  pub multis_here : IsMultiReading k.multi_places.events (multi_round_of s) s.asking.by a.multis
  multis_here = subst (λ (b : By). IsMultiReading k.multi_places.events (multi_round_of s) b a.multis) (sym by_is) asked.multi_reading

  pub multis_reading_within : a.multis.to ≤ length k.multi_places.events
  multis_reading_within = let t = asked.multi_reading.to in let f = multi_fits in omega arith

  pub read_multis : AreReadMultis k.multi_places.events (multi_round_of s) s.asking.by a.multis.from a.multis.to
  read_multis = λ p. multis_here.read p

  pub lift_multis : (D : Counters → List MultiEvent → Type 0) (t : Bool) → D (base_of s) (take (length k.multi_places.events) (multis_of_life s)) ↔ D (base_of s) (multis_of_life s)
      → IsTrue t ↔ D k.multi_places.base k.multi_places.events → IsTrue t ↔ D (base_of s) (multis_of_life s)
  lift_multis D t whole front =
      let f = asked.known.multi_front in
      let here : IsTrue t ↔ D (base_of s) (take (length k.multi_places.events) (multis_of_life s)) =
      subst (λ (b : Counters). IsTrue t ↔ D b (take (length k.multi_places.events) (multis_of_life s))) f.base_is
      (subst (λ (h : List MultiEvent). IsTrue t ↔ D k.multi_places.base h) f.events_are front) in
      (λ x. whole.0 (here.0 x), λ x. here.1 (whole.1 x))

  pub its_multis_within : AreMultisWithin (multis_of_life s) (length k.multi_places.events) s.asking.by
  its_multis_within p e at its =
      let w = asked.its in
      let l : p < (multi_round_of s).to = multis_within (rounds_at s.at ++ lines_at s.at) (multis_of_life s) asked.judged.1.these w.0 w.1 w.2 p e at (its ∙ by_is ∙ sym w.3) in
      let f = multi_fits in omega arith

  pub few_multis : a.number ≤ length k.multis.steps
  few_multis =
      let l = line_within a.number a.by asked.number in
      let m = size_is s.at.j in
      few_steps s.at.j a.number k.multis (map multi_by (multis_of_life s)) asked.known.multis (omega arith)

  -- the places of its events, of all
  pub multi_places_all : (run : List ℕ) → run ≡ places_of a.number k.multis.numbers → ArePlacesOf s.asking.by (map multi_by (multis_of_life s)) run
  multi_places_all run runs p =
      let at = asked.number ∙ ap (λ (b : By). Some b) (sym by_is) in
      let whole = its_places (lines_from 0 s.at.j.steps) a.number s.asking.by (in_order s.at.j asked.known.order) at (map multi_by (multis_of_life s)) p in
      let same : run ≡ places_of a.number (numbered (lines_from 0 s.at.j.steps) (map multi_by (multis_of_life s))).numbers = runs ∙ ap (λ (o : Numbered). places_of a.number o.numbers) asked.known.multis in (
        λ e. subst (λ (t : List ℕ). Contains t p) (sym same) (whole.0 e),
        λ c. whole.1 (subst (λ (t : List ℕ). Contains t p) same c),
      )

  -- and in the front
  pub multi_places_here : (run : List ℕ) → run ≡ places_of a.number k.multis.numbers → ArePlacesOf s.asking.by (map multi_by k.multi_places.events) run
  multi_places_here run runs p =
      let n = length k.multi_places.events in
      let f = asked.known.multi_front in
      let all = multi_places_all run runs p in
      let events : map multi_by k.multi_places.events ≡ map multi_by (take n (multis_of_life s)) = ap (λ (t : List MultiEvent). map multi_by t) f.events_are in (
        λ e. all.0 (mapped_front multi_by n p (multis_of_life s) s.asking.by (ap (λ (t : List By). slice_get t p) (sym events) ∙ e)),
        λ c.
            let e = all.1 c in
            let x = unmapped multi_by p (multis_of_life s) s.asking.by e in
            ap (λ (t : List By). slice_get t p) events ∙ front_mapped multi_by n p (multis_of_life s) s.asking.by (its_multis_within p x.0 x.1 x.2) e,
      )

pub line_of_snap : (s : SnapSpot) (k : Known) (a : Asking) → IsSpot s.spot k a → (number : ℕ) → number ≡ s.number → IsSnapAsked s → (line : ℕ) → line ≡ number_of k.table (record { session = a.by.session; command = number }) → IsLineOfSnap s line
line_of_snap s k a is number same asks line told =
    let x = asked s.spot k a is in
    let by : By = record { session = a.by.session; command = number } in
    let its : by ≡ taken_by s.spot.asking.by s.number =
    ap (λ n. taken_by a.by n) same ∙ ap (λ (b : By). taken_by b s.number) (sym (by_is s.spot k a is)) in
    let where_ : line ≡ number_of (lines_from 0 s.spot.at.j.steps) (taken_by s.spot.asking.by s.number) =
    told ∙ ap (λ (t : List LineAt). number_of t by) x.known.table ∙ ap (λ (b : By). number_of (lines_from 0 s.spot.at.j.steps) b) its in
    subst (λ n. slice_get (bys_of (lines_from 0 s.spot.at.j.steps)) n ≡ Some (taken_by s.spot.asking.by s.number)) (sym where_) (by_stands s.spot k a is (taken_by s.spot.asking.by s.number) asks)
