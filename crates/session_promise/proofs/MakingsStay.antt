-- What is unfinished by the lines of some rounds stays so, while the life goes on.
use Rattle.std.proofs.Common.{Bool, List, Some, ap, append-nil, arith, false, refl, subst, sym, true, ℕ, ⊎_elim, ◌+◌, ◌++◌, ◌<◌, ◌≡◌, ◌≤◌, ◌∙◌, length}
use Rattle.std.specs.List.{AllByRecursion, slice_get}
use Rattle.std.proofs.lemmas.Grind.{flat_map-append}
use Rattle.std.proofs.lemmas.List.Elements.{filter-append}
use Rattle.notes.specs.Lists.{Grows}
use Rattle.tx_events.specs.declared.multi.MultiEvent.{MultiEvent}
use Rattle.tx_events.specs.Events.{same_by}
use Rattle.tx_events.specs.Multis.{multi_by}
use Rattle.tx_events.proofs.ListSteps.{below_not, filter_none, le_or_over}
use Rattle.tx_events.proofs.Membership.{all_from, has_place}
use Rattle.tx_events.proofs.PlaceLemmas.{slice_get-grows}
use Rattle.tx_model.specs.declared.report.Line.{Line}
use Rattle.tx_model.specs.Lines.{is_line_of}
use Rattle.life_law.specs.MultiPlaces.{multis_of}
use Rattle.life_law.specs.MultiStanding as making
use Rattle.life_law.specs.MultiStanding.{unfinished, unfinished_from}
use Rattle.tx_core.specs.declared.entry.Entry.{Entry}
use Rattle.tx_core.specs.declared.entry.Start.{Start}
use Rattle.tx_core.specs.MultiEntries.{multi_history}
use Rattle.tx_core.proofs.Rising.{multis_grow}
use Rattle.engine_parts.specs.declared.session.Session.{Session}
use Rattle.session_promise.specs.Promise.{Promise}
use Rattle.session_promise.specs.SoFar.{IsSoFar}
use Rattle.session_promise.specs.Told.{Told, ToldRound, all_lines, lines_of, told_by, told_of}
use Rattle.session_promise.proofs.Growing.{all_lines_of, all_places}
use Rattle.session_promise.proofs.LawfulSteps.{filter_twice}
use Rattle.session_promise.proofs.MakingFollows.{unfinished_same}
use Rattle.session_promise.proofs.PendingStays.{front_of, place_behind, there}
use Rattle.session_promise.proofs.Sides.{same_is}
use Rattle.session_promise.proofs.Telling.{lines_told}

-- of one session, which promised of these lines, and then of more
module _ (tells : Bool) (start : Start) (before after : List (List Entry)) (n : ℕ) (told more : List Told) (s s' : Session)
    (g : Grows before after) (p : Promise tells start before n told s) (q : Promise tells start after n (told ++ more) s') where
  abbrev old : List MultiEvent
  old = multi_history before

  abbrev ms : List MultiEvent
  ms = (multis_grow before after g).0

  grown : old ++ ms ≡ multi_history after
  grown = (multis_grow before after g).1

  -- an event that is new is of none of the lines, whose rounds are over
  beside : (place : ℕ) (t : Told) → slice_get told place ≡ Some t → AllByRecursion (λ e. same_by (multi_by e) t.line.by ≡ false) ms
  beside place t at = all_from (λ (e : MultiEvent). same_by (multi_by e) t.line.by ≡ false) ms (λ e h.
      let x = has_place ms e h in
      let low = (p.each place t at).multi_within.1 in
      let there : slice_get (multi_history after) (length old + x.0) ≡ Some e = subst (λ (t : List MultiEvent). slice_get t (length old + x.0) ≡ Some e) grown (place_behind old ms x.0 e x.1) in
      step e (same_by (multi_by e) t.line.by) refl (λ same.
      let inside = ((q.each place t (slice_get-grows told more t place at)).multi_place (length old + x.0) e there (same_is (multi_by e) t.line.by same)).1 in
      absurd (omega (arith, low, inside))))
    where
      step : (e : MultiEvent) (b : Bool) → same_by (multi_by e) t.line.by ≡ b → (same_by (multi_by e) t.line.by ≡ true → ⊥) → same_by (multi_by e) t.line.by ≡ false
      step e true same not = absurd (not same)
      step e false same not = same

  same_events : (place : ℕ) (t : Told) → slice_get told place ≡ Some t → multis_of t.line.by (multi_history after) ≡ multis_of t.line.by old
  same_events place t at =
      ap (multis_of t.line.by) (sym grown)
      ∙ (filter-append (λ (e : MultiEvent). same_by (multi_by e) t.line.by) old ms
      ∙ (ap (λ (es : List MultiEvent). multis_of t.line.by old ++ es) (filter_none (λ (e : MultiEvent). same_by (multi_by e) t.line.by ≡ false) (λ e. same_by (multi_by e) t.line.by) ms (λ e k. k) (beside place t at))
      ∙ append-nil (multis_of t.line.by old)))

  -- so by the first of them
  own_stays : (front behind : List Told) → told ≡ front ++ behind → unfinished (multi_history after) (lines_of front) n ≡ unfinished old (lines_of front) n
  own_stays front behind split =
      unfinished_same old (multi_history after) (lines_of front) n
      (all_lines_of (λ (l : Line). multis_of l.by (multi_history after) ≡ multis_of l.by old) front
      (front_of (λ (t : Told). multis_of t.line.by (multi_history after) ≡ multis_of t.line.by old) front behind
      (subst (AllByRecursion (λ (t : Told). multis_of t.line.by (multi_history after) ≡ multis_of t.line.by old)) split (all_places (λ (t : Told). multis_of t.line.by (multi_history after) ≡ multis_of t.line.by old) told same_events))))

-- by all lines a session's own are meant
pub own_making : (h : List MultiEvent) (rounds : List ToldRound) (n : ℕ) → unfinished h (lines_of (told_by n rounds)) n ≡ unfinished h (all_lines rounds) n
own_making h rounds n =
    ap (λ (ls : List Line). unfinished h ls n) (lines_told n rounds)
    ∙ ap (unfinished_from h making.none) (filter_twice (is_line_of n) (all_lines rounds))

-- nothing is unfinished of a session that isn't of the life
pub nothing_beyond : (h : List MultiEvent) (sessions : ℕ) (rounds : List ToldRound) (n : ℕ) → sessions ≤ n → AllByRecursion (λ l. l.by.session < sessions) (all_lines rounds) → unfinished h (all_lines rounds) n ≡ making.none
nothing_beyond h sessions rounds n past known =
    ap (unfinished_from h making.none) (filter_none (λ (l : Line). l.by.session < sessions) (is_line_of n) (all_lines rounds) (λ l low. below_not l.by.session n (omega (arith, low, past))) known)

-- between two rounds, and between two later ones
pub makings_stay : (tells : Bool) (start : Start) (before after : List (List Entry)) (old new : List Session) (rounds added : List ToldRound) → Grows before after
    → IsSoFar tells start before old rounds → IsSoFar tells start after new (rounds ++ added) → (front behind : List ToldRound) → rounds ≡ front ++ behind → (n : ℕ) → unfinished (multi_history after) (all_lines front) n ≡ unfinished (multi_history before) (all_lines front) n
makings_stay tells start before after old new rounds added g a b front behind split n =
    ⊎_elim
    (λ (past : start.sessions ≤ n).
    let known : AllByRecursion (λ (l : Line). l.by.session < start.sessions) (all_lines front) = front_of (λ (l : Line). l.by.session < start.sessions) (all_lines front) (all_lines behind)
    (subst (AllByRecursion (λ (l : Line). l.by.session < start.sessions)) (ap all_lines split ∙ flat_map-append (λ (r : ToldRound). r.lines) front behind) a.lines) in
    nothing_beyond (multi_history after) start.sessions front n past known ∙ sym (nothing_beyond (multi_history before) start.sessions front n past known))
    (λ (low : n < start.sessions).
    let was = there old n (let c = a.count in omega (arith, c, low)) in
    let is = there new n (let c = b.count in omega (arith, c, low)) in
    let first : Promise tells start before n (told_by n rounds) was.0 = a.each n was.0 was.1 in
    let last : Promise tells start after n (told_by n rounds ++ told_by n added) is.0 = subst (λ (t : List Told). Promise tells start after n t is.0) (flat_map-append (told_of n) rounds added) (b.each n is.0 is.1) in
    sym (own_making (multi_history after) front n)
    ∙ (own_stays tells start before after n (told_by n rounds) (told_by n added) was.0 is.0 g first last (told_by n front) (told_by n behind) (ap (told_by n) split ∙ flat_map-append (told_of n) front behind)
    ∙ own_making (multi_history before) front n))
    (le_or_over start.sessions n)
