-- A life goes on by a round.
use Rattle.std.proofs.Common.{Contains, List, Some, [], ap, append-nil, append_assoc, arith, inl, inr, length, refl, subst, sym, true, false, Bool, ℕ, ⊎_elim, ◌+◌, ◌++◌, ◌<◌, ◌==◌, ◌≡◌, ◌≤◌, ◌∙◌, ◌∷◌, ◌⊎◌, eq-eqb, eqb-true, get_or, zero, suc}
use Rattle.std.specs.List.{AllByRecursion, list_any, slice_get}
use Rattle.std.proofs.lemmas.Grind.{flat_map-append}
use Rattle.std.proofs.lemmas.List.{length-append}
use Rattle.std.proofs.lemmas.Option.{slice_get-get_or, slice_get_within}
use Rattle.notes.specs.Lists.{Grows, Knows, at, own}
use Rattle.notes.proofs.Growing.{begins_same}
use Rattle.tx_events.proofs.ListSteps.{both_all, not_both}
use Rattle.tx_events.proofs.Membership.{Has, all_at, all_from, any_has, contains_has, has_any, has_contains, has_flat_map, has_map, has_place}
use Rattle.tx_events.proofs.PlaceLemmas.{each_place_none, each_place_push}
use Rattle.tx_model.specs.declared.command.Command.{Command}
use Rattle.tx_model.specs.declared.report.Line.{Line}
use Rattle.tx_core.specs.declared.entry.Entry.{Entry}
use Rattle.tx_core.specs.declared.entry.Start.{Start}
use Rattle.tx_core.specs.EngineInvariant.{EngineInvariant}
use Rattle.tx_core.specs.Entries.{events_in, history, session_of}
use Rattle.tx_core.specs.Locks.{multi_lock, proc_lock}
use Rattle.tx_core.specs.MultiEntries.{multi_history, multis_in}
use Rattle.tx_core.proofs.Rising.{multis_grow}
use Rattle.tx_model.specs.Replies.{RoundSpan}
use Rattle.tx_core.proofs.Opening.{opens}
use Rattle.tx_core.proofs.Lasting.{history_grows}
use Rattle.engine_parts.specs.declared.session.Session.{Session}
use Rattle.engine_parts.specs.Holds.{Knowledge}
use Rattle.engine_parts.specs.Sessions.{by_at}
use Rattle.engine_parts.proofs.Leaving.{grows_then}
use Rattle.session_promise.specs.Promise.{Answered, IsMadeFor, Promise}
use Rattle.session_promise.specs.Rounds.{ArePut, RoundPart, lines_of_parts, sessions_of}
use Rattle.session_promise.specs.SoFar.{AnsweredLines, IsSoFar, PromiseThroughRound, SoFarGoesOn, TookPart, SoFarBegins, SoFarEnds, WentRound, round_of}
use Rattle.session_promise.specs.Told.{Follow, IsNoLater, Place, Told, ToldRound, all_lines, between, in_events, in_multis, lines_by, place_of, told_by, told_in, told_of}
use Rattle.session_promise.specs.Closing.{MayCallIn}
use Rattle.session_promise.proofs.Beginning.{promise_begins}
use Rattle.session_promise.proofs.GoingOn.{promise_goes_on}
use Rattle.session_promise.proofs.Parting.{own_parts, parts_make_round}
use Rattle.session_promise.proofs.Standing.{told_has}
use Rattle.session_promise.proofs.Staying.{promise_stays}

grown_length : (lists more : List (List Entry)) → Grows lists more → length (history lists) ≤ length (history more)
grown_length lists more g = let b = history_grows lists more g in let q : length (history lists) + length b.0 ≡ length (history more) = sym (length-append (history lists) b.0) ∙ ap length b.1 in omega (arith, q)

-- a place comes no earlier in longer lists
later_place : (lists more : List (List Entry)) → Grows lists more → IsNoLater (place_of lists) (place_of more)
later_place lists more g =
    let b = multis_grow lists more g in
    let q : length (multi_history lists) + length b.0 ≡ length (multi_history more) = sym (length-append (multi_history lists) b.0) ∙ ap length b.1 in
    record { grown = g; events = grown_length lists more g; multis = omega (arith, q) }

no_later : (a b c : Place) → IsNoLater a b → IsNoLater b c → IsNoLater a c
no_later a b c x y = let u = x.events in let v = y.events in let m = x.multis in let n = y.multis in record { grown = grows_then a.lists b.lists c.lists x.grown y.grown; events = omega (arith, u, v); multis = omega (arith, m, n) }

place_same : (a b : Place) → a ≡ b → IsNoLater a b
place_same a b q = subst (IsNoLater a) q (record { grown = record { begins = λ place. begins_same (at a.lists place) }; events = omega arith; multis = omega arith })

-- through the commands of a round
record Through (tells : Bool) (start : Start) (w : Knowledge) (n : ℕ) (past : List Told) (from : Place) (lines : List Line) (s : Session) : Type 0 where
  last : Place
  within : IsNoLater last (place_of w.seen)
  promise : Promise tells start w.seen n (past ++ told_in (between from last) lines) s

through : (tells : Bool) (start : Start) (n : ℕ) (past : List Told) (from to : Place) (done lines : List Line) (v w : Knowledge) (s s' : Session) → IsNoLater from (place_of v.seen) → IsNoLater to (place_of v.seen) → AnsweredLines tells start v w n s s' lines → Promise tells start v.seen n (past ++ told_in (between from to) done) s
    → Through tells start w n past from (done ++ lines) s'
through tells start n past from to done [] v w s s' low within ran p = record {
  last = to;
  within = subst (λ (ls : List (List Entry)). IsNoLater to (place_of ls)) (sym ran.0) within;
  promise = subst (λ (x : (List (List Entry) × Session) × List Line). Promise tells start x.0.0 n (past ++ told_in (between from to) x.1) x.0.1) (λ j. ((sym ran.0 j, sym ran.1 j), sym (append-nil done) j)) p;
}
through tells start n past from to done (l ∷ lines) v w s s' low within ran p =
    let u : Knowledge = ran.0 in
    let t : Session = ran.1 in
    let a : Answered tells start v u n l.command l.reply s t = ran.3 in
    let line : Line = record { by = by_at n (s.levels.commands + 1); command = l.command; reply = l.reply } in
    let same : line ≡ l = λ j. record { by = sym ran.2 j; command = l.command; reply = l.reply } in
    let next = promise_goes_on tells start v u n past from to done l.command l.reply s t a low p in
    let longer = later_place v.seen u.seen a.acted.grows in
    let r = through tells start n past from (place_of u.seen) (done ++ l ∷ []) lines u w t s' (no_later from (place_of v.seen) (place_of u.seen) low longer) (place_same (place_of u.seen) (place_of u.seen) refl) ran.4
    (subst (λ (x : Line). Promise tells start u.seen n (past ++ told_in (between from (place_of u.seen)) (done ++ x ∷ [])) t) same next) in
    subst (λ ls. Through tells start w n past from ls s') (append_assoc done (l ∷ []) lines) r

pub promise_through : PromiseThroughRound
promise_through tells start before after n past old new lines took kept p =
    let from : Place = place_of before in
    let first : Promise tells start took.first.seen n (past ++ told_in (between from from) []) old = subst (λ (x : List (List Entry) × List Told). Promise tells start x.0 n x.1 old) (λ j. (sym took.told j, sym (append-nil past) j)) p in
    let here : from ≡ place_of took.first.seen = ap place_of (sym took.told) in
    let r = through tells start n past from from [] lines took.first took.last old new (place_same from (place_of took.first.seen) here) (place_same from (place_of took.first.seen) here) took.ran first in
    promise_stays tells start took.last.seen after n past from r.last (place_of after) lines new kept took.known
    (no_later r.last (place_of took.last.seen) (place_of after) r.within (later_place took.last.seen after took.known.grows)) (place_same (place_of after) (place_of after) refl) r.promise

-- a session that took no part
pub through_idle : (tells : Bool) (start : Start) (before after : List (List Entry)) (n : ℕ) (past : List Told) (s : Session) → EngineInvariant start after → Knows session_of n before after → Promise tells start before n past s → Promise tells start after n past s
through_idle tells start before after n past s kept knows p =
    let nowhere : Place = record { lists = []; events = 0; multis = 0 } in
    let none : past ++ told_in (between nowhere nowhere) [] ≡ past = append-nil past in
    subst (λ (x : List Told). Promise tells start after n x s) none
    (promise_stays tells start before after n past nowhere nowhere nowhere [] s kept knows (place_same nowhere nowhere refl) (record { grown = record { begins = λ place. (at after place, refl) }; events = omega arith; multis = omega arith }) (subst (λ (x : List Told). Promise tells start before n x s) (sym none) p))

-- ---- rounds

item_at : {X : Type 0} (xs : List X) (n : ℕ) → n < length xs → (x : X) × (slice_get xs n ≡ Some x)
item_at [] n l = absurd (omega (arith, l))
item_at (x ∷ xs) zero l = (x, refl)
item_at (x ∷ xs) (suc n) l = item_at xs n (omega (arith, l))

told_push : (n : ℕ) (rounds : List ToldRound) (r : ToldRound) → told_by n (rounds ++ r ∷ []) ≡ told_by n rounds ++ told_in r.span (lines_by n r.lines)
told_push n rounds r = flat_map-append (told_of n) rounds (r ∷ []) ∙ ap (λ (x : List Told). told_by n rounds ++ x) (append-nil (told_of n r))

follow_push : (span : ToldRound → RoundSpan) (from : ℕ) (rounds : List ToldRound) (r : ToldRound) → Follow span from rounds (span r).from → (span r).from ≤ (span r).to → Follow span from (rounds ++ r ∷ []) (span r).to
follow_push span from [] r f l = (sym f, omega (arith, f, l), refl)
follow_push span from (x ∷ rounds) r f l = (f.0, f.1, follow_push span (span x).to rounds r f.2 l)

-- the part of a session, or that it has none
record PartOrNone (parts : List RoundPart) (n : ℕ) : Type 0 where
  is : ((p : RoundPart) × Has parts p × (p.session ≡ n)) ⊎ (Contains (sessions_of parts) n → ⊥)

part_or_none : (parts : List RoundPart) (n : ℕ) → PartOrNone parts n
part_or_none parts n = step (list_any (λ (p : RoundPart). p.session == n) parts) refl
  where
    step : (b : Bool) → list_any (λ (p : RoundPart). p.session == n) parts ≡ b → PartOrNone parts n
    step true q = let f = has_any (λ (p : RoundPart). p.session == n) parts q in record { is = inl (f.0, f.1, eqb-true f.0.session n f.2) }
    step false q = record {
      is = inr (λ c.
          let m = has_map (λ (p : RoundPart). p.session) parts n (contains_has (sessions_of parts) n c) in
          not_both (list_any (λ (p : RoundPart). p.session == n) parts) (any_has (λ (p : RoundPart). p.session == n) parts m.0 m.1 (eq-eqb m.0.session n m.2)) q);
    }

module _ (tells : Bool) (start : Start) (before after : List (List Entry)) (old new : List Session) (turns : List (ℕ × Command)) (parts : List RoundPart) (rounds : List ToldRound)
    (so_far : IsSoFar tells start before old rounds) (went : WentRound tells start before after old new turns parts) where
  abbrev round : ToldRound
  round = round_of before after parts

  put : ArePut turns parts
  put = parts_make_round turns parts went.parts_of

  each_then : (n : ℕ) (s : Session) → slice_get new n ≡ Some s → Promise tells start after n (told_by n (rounds ++ round ∷ [])) s
  each_then n s at_n =
      let low_new = slice_get_within new n s at_n in
      let same_count = went.count in
      let all = so_far.count in
      let low : n < start.sessions = omega (arith, low_new, same_count, all) in
      let was_at = slice_get-get_or old n s (omega (arith, low_new, same_count)) in
      let was : Session = get_or old n s in
      let kept = went.kept n low in
      subst (λ (x : List Told). Promise tells start after n x s) (sym (told_push n rounds round))
      (⊎_elim
      (λ (k : (p : RoundPart) × Has parts p × (p.session ≡ n)).
      let p : RoundPart = k.0 in
      let mine : lines_by n (lines_of_parts parts) ≡ p.lines = subst (λ z. lines_by z (lines_of_parts parts) ≡ p.lines) k.2 (put.part p (has_contains parts p k.1)) in
      let took : TookPart tells start before after n was s p.lines = subst (λ z. TookPart tells start before after z was s p.lines) k.2
      (went.took p was s (has_contains parts p k.1) (ap (slice_get old) k.2 ∙ was_at) (ap (slice_get new) k.2 ∙ at_n)) in
      subst (λ ls. Promise tells start after n (told_by n rounds ++ told_in round.span ls) s) (sym mine) (promise_through tells start before after n (told_by n rounds) was s p.lines took kept (so_far.each n was was_at)))
      (λ (none : Contains (sessions_of parts) n → ⊥).
      let idle : lines_by n (lines_of_parts parts) ≡ [] = put.idle n none in
      let still : slice_get old n ≡ Some s = sym (went.same n none) ∙ at_n in
      subst (λ (x : List Told). Promise tells start after n x s) (sym (ap (λ ls. told_by n rounds ++ told_in round.span ls) idle ∙ append-nil (told_by n rounds)))
      (through_idle tells start before after n (told_by n rounds) s kept (went.idle n low none) (so_far.each n s still)))
      (part_or_none parts n).is)

  lines_known : AllByRecursion (λ (l : Line). l.by.session < start.sessions) (lines_of_parts parts)
  lines_known = all_from (λ (l : Line). l.by.session < start.sessions) (lines_of_parts parts) (λ l k.
      let f = has_flat_map (λ (p : RoundPart). p.lines) parts l k in
      let own : l.by.session ≡ f.0.session = all_at (λ (l : Line). l.by.session ≡ f.0.session) f.0.lines l (all_at (λ (p : RoundPart). AllByRecursion (λ (l : Line). l.by.session ≡ p.session) p.lines) parts f.0 (own_parts turns parts went.parts_of.each) f.1) f.2 in
      subst (λ z. z < start.sessions) (sym own) (all_at (λ (p : RoundPart). p.session < start.sessions) parts f.0 went.known f.1))

  -- what the lines so far made is done where the round begins
  made_before : AllByRecursion (λ (l : Line). IsMadeFor start before l.by.session l.reply) (all_lines rounds)
  made_before = all_from (λ (l : Line). IsMadeFor start before l.by.session l.reply) (all_lines rounds) (λ l k.
      let n : ℕ = l.by.session in
      let low : n < start.sessions = all_at (λ (l : Line). l.by.session < start.sessions) (all_lines rounds) l so_far.lines k in
      let all = so_far.count in
      let s = item_at old n (omega (arith, low, all)) in
      let r = has_flat_map (λ (r : ToldRound). r.lines) rounds l k in
      let t : Told = record { line = l; span = r.0.span } in
      let place = has_place (told_by n rounds) t (told_has n rounds r.0 l r.1 r.2 refl) in
      ((so_far.each n s.0 s.1).each place.0 t place.1).made)

  pub so_far_then : IsSoFar tells start after new (rounds ++ round ∷ [])
  so_far_then = record {
    count = went.count ∙ so_far.count;
    each = each_then;
    places = follow_push in_events 0 rounds round so_far.places (later_place before after went.grows).events;
    multi_places = follow_push in_multis 0 rounds round so_far.multi_places (later_place before after went.grows).multis;
    made = each_place_push (λ earlier r. AllByRecursion (λ (l : Line). IsMadeFor start r.span.begun l.by.session l.reply) (all_lines earlier)) rounds round so_far.made made_before;
    lines = subst (AllByRecursion (λ (l : Line). l.by.session < start.sessions)) (sym (flat_map-append (λ (r : ToldRound). r.lines) rounds (round ∷ []) ∙ ap (λ ls. all_lines rounds ++ ls) (append-nil (lines_of_parts parts))))
        (both_all (λ (l : Line). l.by.session < start.sessions) (all_lines rounds) (lines_of_parts parts) so_far.lines lines_known);
  }

pub so_far_goes_on : SoFarGoesOn
so_far_goes_on tells start before after old new turns parts rounds so_far went = so_far_then tells start before after old new turns parts rounds so_far went

-- before the first round
pub so_far_begins : SoFarBegins
so_far_begins tells start lists sessions empty count new = record {
  count = count;
  each = λ n s at_n.
      let fresh = new n s at_n in
      promise_begins tells start lists n s (record { kept = opens start lists empty; empty = λ place. ap (own session_of n) (empty place); fresh = fresh.0; stage = fresh.1; making = fresh.2 });
  places = sym (ap (λ (es : List Entry). length (events_in es)) (empty proc_lock));
  multi_places = sym (ap (λ (es : List Entry). length (multis_in es)) (empty multi_lock));
  made = each_place_none (λ earlier r. AllByRecursion (λ (l : Line). IsMadeFor start r.span.begun l.by.session l.reply) (all_lines earlier));
  lines = tt;
}

-- and when all is over
pub so_far_ends : SoFarEnds
so_far_ends tells start lists sessions rounds so_far kept calls = record {
  kept = kept;
  lines = so_far.lines;
  places = so_far.places;
  multi_places = so_far.multi_places;
  made = so_far.made;
  each = λ n low. ended n low (item_at sessions n (let c = so_far.count in omega (arith, c, low)));
}
  where
    ended : (n : ℕ) → n < start.sessions → (s : Session) × (slice_get sessions n ≡ Some s) → (s : Session) × Promise tells start lists n (told_by n rounds) s × MayCallIn start lists n s
    ended n low s = (s.0, so_far.each n s.0 s.1, calls n s.0 s.1)
