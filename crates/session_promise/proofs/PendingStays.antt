-- What is pending by the lines of some rounds stays so, while the life goes on.
use Rattle.std.proofs.Common.{Bool, List, None, Some, [], ap, arith, false, length, refl, subst, suc, sym, zero, ℕ, ⊎_elim, ◌+◌, ◌++◌, ◌<◌, ◌∙◌, ◌∷◌, ◌≡◌, ◌≤◌, inl, inr}
use Rattle.std.specs.List.{AllByRecursion, slice_get}
use Rattle.std.proofs.lemmas.Bool.{false_from_ne_true}
use Rattle.std.proofs.lemmas.Grind.{flat_map-append}
use Rattle.notes.specs.Lists.{Grows}
use Rattle.tx_events.specs.declared.event.Event.{Event}
use Rattle.tx_events.specs.declared.record.Rec.{Rec}
use Rattle.tx_events.specs.Events.{by_of, same_by}
use Rattle.tx_events.proofs.ListSteps.{below_not, filter_none, le_or_over}
use Rattle.tx_events.proofs.Membership.{all_from, has_place}
use Rattle.tx_events.proofs.OwnEvents.{AreOthers}
use Rattle.tx_events.proofs.PlaceLemmas.{slice_get-grows}
use Rattle.tx_model.specs.declared.report.Line.{Line}
use Rattle.tx_model.specs.Lines.{is_line_of}
use Rattle.tx_model.specs.Stance.{nothing_yet}
use Rattle.life_law.specs.Pending.{pending, pending_from}
use Rattle.tx_core.specs.declared.entry.Entry.{Entry}
use Rattle.tx_core.specs.declared.entry.Start.{Start}
use Rattle.tx_core.specs.EngineInvariant.{EngineInvariant}
use Rattle.tx_core.specs.Entries.{history}
use Rattle.tx_core.proofs.Lasting.{history_grows}
use Rattle.engine_parts.specs.declared.session.Session.{Session}
use Rattle.session_promise.specs.Promise.{Promise, recs_of}
use Rattle.session_promise.specs.SoFar.{IsSoFar}
use Rattle.session_promise.specs.Told.{Told, ToldRound, all_lines, lines_of, told_by, told_of}
use Rattle.session_promise.proofs.Growing.{all_lines_of, all_places}
use Rattle.session_promise.proofs.LawfulSteps.{filter_twice}
use Rattle.session_promise.proofs.PendingGrowth.{AreSettled, IsNotDown, pending_grows}
use Rattle.session_promise.proofs.Settling.{settled_of}
use Rattle.session_promise.proofs.Sides.{same_is}
use Rattle.session_promise.proofs.Telling.{lines_of_both, lines_told}

pub place_behind : {X : Type 0} (xs ys : List X) (i : ℕ) (x : X) → slice_get ys i ≡ Some x → slice_get (xs ++ ys) (length xs + i) ≡ Some x
place_behind {X} [] ys i x e = let n : i ≡ 0 + i = omega arith in subst (λ k. slice_get ys k ≡ Some x) n e
place_behind {X} (y ∷ xs) ys i x e = let n : suc (length xs + i) ≡ length (y ∷ xs) + i = omega arith in subst (λ k. slice_get (y ∷ (xs ++ ys)) k ≡ Some x) n (place_behind xs ys i x e)

pub front_of : {X : Type 0} (P : X → Type 0) (xs ys : List X) → AllByRecursion P (xs ++ ys) → AllByRecursion P xs
front_of P [] ys a = tt
front_of P (x ∷ xs) ys a = (a.0, front_of P xs ys a.1)

-- of one session, which promised of these lines, and then of more
module _ (tells : Bool) (start : Start) (before after : List (List Entry)) (n : ℕ) (told more : List Told) (s s' : Session)
    (k : EngineInvariant start after) (g : Grows before after) (p : Promise tells start before n told s) (q : Promise tells start after n (told ++ more) s') where
  abbrev es : List Event
  es = (history_grows before after g).0

  grown : history before ++ es ≡ history after
  grown = (history_grows before after g).1

  -- an event that is new is of none of the lines, whose rounds are over
  beside : (place : ℕ) (t : Told) → slice_get told place ≡ Some t → AreOthers t.line.by es
  beside place t at = all_from (λ (e : Event). same_by (by_of e) t.line.by ≡ false) es (λ e h.
      let x = has_place es e h in
      let low = (p.each place t at).within.1 in
      let there : slice_get (history after) (length (history before) + x.0) ≡ Some e = subst (λ (t : List Event). slice_get t (length (history before) + x.0) ≡ Some e) grown (place_behind (history before) es x.0 e x.1) in
      false_from_ne_true (same_by (by_of e) t.line.by) (λ same.
      let inside = ((q.each place t (slice_get-grows told more t place at)).place (length (history before) + x.0) e there (same_is (by_of e) t.line.by same)).1 in
      absurd (omega (arith, low, inside))))

  -- so by the first of them
  own_stays : (front behind : List Told) → told ≡ front ++ behind → pending (recs_of after) (history after) (lines_of front) n ≡ pending (recs_of before) (history before) (lines_of front) n
  own_stays front behind split =
      let others : AllByRecursion (λ (l : Line). AreOthers l.by es) (lines_of front) = all_lines_of (λ (l : Line). AreOthers l.by es) front
      (front_of (λ (t : Told). AreOthers t.line.by es) front behind (subst (AllByRecursion (λ (t : Told). AreOthers t.line.by es)) split (all_places (λ (t : Told). AreOthers t.line.by es) told beside))) in
      let settled : AreSettled (recs_of before) (recs_of after) (lines_of front) = ⊎_elim
      (λ (same : recs_of after ≡ recs_of before). inl same)
      (λ (none : AllByRecursion IsNotDown (lines_of told)). inr (front_of IsNotDown (lines_of front) (lines_of behind) (subst (AllByRecursion IsNotDown) (ap lines_of split ∙ lines_of_both front behind) none)))
      (settled_of tells start n before after told k g p.each) in
      ap (λ (h : List Event). pending (recs_of after) h (lines_of front) n) (sym grown)
      ∙ pending_grows (recs_of before) (recs_of after) (history before) es (lines_of front) n others settled

-- by all lines a session's own are meant
pub own_pending : (recs : List Rec) (h : List Event) (rounds : List ToldRound) (n : ℕ) → pending recs h (lines_of (told_by n rounds)) n ≡ pending recs h (all_lines rounds) n
own_pending recs h rounds n =
    ap (λ (ls : List Line). pending recs h ls n) (lines_told n rounds)
    ∙ ap (pending_from recs h nothing_yet None) (filter_twice (is_line_of n) (all_lines rounds))

-- nothing is pending of a session that isn't of the life
pub none_beyond : (recs : List Rec) (h : List Event) (sessions : ℕ) (rounds : List ToldRound) (n : ℕ) → sessions ≤ n → AllByRecursion (λ l. l.by.session < sessions) (all_lines rounds) → pending recs h (all_lines rounds) n ≡ None
none_beyond recs h sessions rounds n past known =
    ap (pending_from recs h nothing_yet None) (filter_none (λ (l : Line). l.by.session < sessions) (is_line_of n) (all_lines rounds) (λ l low. below_not l.by.session n (omega (arith, low, past))) known)

-- the session of a number
pub there : (ss : List Session) (n : ℕ) → n < length ss → (s : Session) × (slice_get ss n ≡ Some s)
there [] n l = absurd (omega (arith, l))
there (s ∷ ss) zero l = (s, refl)
there (s ∷ ss) (suc n) l = there ss n (omega (arith, l))

-- between two rounds, and between two later ones
pub rounds_stay : (tells : Bool) (start : Start) (before after : List (List Entry)) (old new : List Session) (rounds added : List ToldRound) → ((n : ℕ) → n < start.sessions → EngineInvariant start after) → Grows before after
    → IsSoFar tells start before old rounds → IsSoFar tells start after new (rounds ++ added) → (front behind : List ToldRound) → rounds ≡ front ++ behind → (n : ℕ) → pending (recs_of after) (history after) (all_lines front) n ≡ pending (recs_of before) (history before) (all_lines front) n
rounds_stay tells start before after old new rounds added kept g a b front behind split n =
    ⊎_elim
    (λ (past : start.sessions ≤ n).
    let known : AllByRecursion (λ (l : Line). l.by.session < start.sessions) (all_lines front) = front_of (λ (l : Line). l.by.session < start.sessions) (all_lines front) (all_lines behind)
    (subst (AllByRecursion (λ (l : Line). l.by.session < start.sessions)) (ap all_lines split ∙ flat_map-append (λ (r : ToldRound). r.lines) front behind) a.lines) in
    none_beyond (recs_of after) (history after) start.sessions front n past known ∙ sym (none_beyond (recs_of before) (history before) start.sessions front n past known))
    (λ (low : n < start.sessions).
    let was = there old n (let c = a.count in omega (arith, c, low)) in
    let is = there new n (let c = b.count in omega (arith, c, low)) in
    let first : Promise tells start before n (told_by n rounds) was.0 = a.each n was.0 was.1 in
    let last : Promise tells start after n (told_by n rounds ++ told_by n added) is.0 = subst (λ (t : List Told). Promise tells start after n t is.0) (flat_map-append (told_of n) rounds added) (b.each n is.0 is.1) in
    sym (own_pending (recs_of after) (history after) front n)
    ∙ (own_stays tells start before after n (told_by n rounds) (told_by n added) was.0 is.0 (kept n low) g first last (told_by n front) (told_by n behind) (ap (told_by n) split ∙ flat_map-append (told_of n) front behind)
    ∙ own_pending (recs_of before) (history before) front n))
    (le_or_over start.sessions n)
