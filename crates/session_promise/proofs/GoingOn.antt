-- Behind its next command a session promises of one line more.
use Rattle.std.proofs.Common.{Bool, Contains, IsTrue, List, [], eqb-true, nat_lt, ap, append-nil, append_assoc, arith, cond, eq-eqb, get_or, inl, inr, length, refl, subst, sym, ℕ, ⊎_elim, ◌+◌, ◌++◌, ◌<◌, ◌==◌, ◌||◌, ◌≡◌, ◌≤◌, ◌∙◌, ◌∷◌, ◌⊎◌}
use Rattle.std.specs.List.{AllByRecursion, count_by, filter, slice_get}
use Rattle.std.proofs.Math.Bool.{or-true}
use Rattle.std.proofs.lemmas.List.{append_cancel_left, length-append, length-map, map-append}
use Rattle.std.proofs.lemmas.List.Elements.{Contains-append_left, Contains-push, filter-append, filter_map-append}
use Rattle.std.proofs.lemmas.List.Sums.{sum_by-append}
use Rattle.std.proofs.lemmas.Option.{same_Some, slice_get-get_or, slice_get_within}
use Rattle.notes.specs.Lists.{at, own}
use Rattle.notes.proofs.Growing.{begins_same}
use Rattle.tx_events.specs.declared.event.By.{By}
use Rattle.tx_events.specs.declared.event.Event.{Event}
use Rattle.tx_events.specs.declared.multi.MultiEvent.{MultiEvent}
use Rattle.tx_events.specs.declared.multi.MultiEvent.TheVariants as multi_events
use Rattle.tx_events.specs.Multis.{made, made_by, multi_by}
use Rattle.tx_events.specs.Running.{open_ids}
use Rattle.tx_events.specs.Events.{by_of, events_of, given, given_by, given_to, is_of, same_by}
use Rattle.tx_events.proofs.ListSteps.{all_weaker, below_not, filter_all, filter_in_turn, filter_none, le_or_over, list_any-push}
use Rattle.tx_events.proofs.Membership.{Has, all_at, all_from, contains_has, filter_has, has_cases, has_contains, has_filter, place_has}
use Rattle.tx_events.proofs.OwnEvents.{same_by_refl}
use Rattle.tx_events.proofs.PlaceLemmas.{each_place_push, slice_get-grows}
use Rattle.tx_model.specs.declared.command.Command.{Command}
use Rattle.tx_model.specs.declared.reply.Reply.{Reply}
use Rattle.tx_model.specs.declared.report.Line.{Line}
use Rattle.tx_model.specs.CommandEvents.{HasEvents}
use Rattle.tx_model.specs.Lines.{has_line, stance}
use Rattle.tx_model.specs.Replies.{alone}
use Rattle.tx_model.specs.Stance.{Stance, after, lacking}
use Rattle.tx_model.proofs.LineGrowth.{stance_push}
use Rattle.life_law.specs.MultiLines.{HasMultiEvents}
use Rattle.life_law.specs.MultiPlaces.{has_multi_line, multis_of}
use Rattle.life_law.specs.MultiStanding.{Unfinished, unfinished, unfinished_behind}
use Rattle.life_law.specs.Pending.{pending, pending_after}
use Rattle.life_law.specs.Refused.{refused_by}
use Rattle.life_law.proofs.IdSteps.{bounds_of}
use Rattle.life_law.proofs.PendingSteps.{pending_push}
use Rattle.tx_core.specs.declared.entry.Entry.{Entry}
use Rattle.tx_core.specs.declared.entry.Kind.TheVariants as kinds
use Rattle.tx_core.specs.declared.entry.Start.{Start}
use Rattle.tx_core.specs.EngineInvariant.{EngineInvariant}
use Rattle.tx_core.specs.Entries.{history, session_of}
use Rattle.tx_core.specs.Locks.{log_lock, multi_lock}
use Rattle.tx_core.specs.MultiEntries.{AreFewMultis, multi_history}
use Rattle.tx_core.specs.OwnMultis.{is_multi_of, own_multis}
use Rattle.tx_core.proofs.Asking.{has_all}
use Rattle.tx_core.proofs.Rising.{multis_grow}
use Rattle.tx_core.proofs.Lasting.{history_grows}
use Rattle.engine_parts.specs.declared.session.Session.{Session}
use Rattle.engine_parts.specs.Adding.{AddsTo, MayLeave}
use Rattle.engine_parts.specs.Holds.{Knowledge}
use Rattle.engine_parts.specs.Sessions.{by_at, stance_of}
use Rattle.engine_parts.specs.Stages.{pending_in}
use Rattle.engine_parts.specs.Makings.{IsToldMaking, has_more_multis}
use Rattle.session_promise.specs.Told.{IsNoLater, Place, Told, between, lines_of, place_of, told_in}
use Rattle.session_promise.specs.Promise.{Answered, IsInRound, IsMadeFor, IsRecordedIn, IsToldWell, MayAnswerIn, Promise, PromiseGoesOn, SaysLogFault, is_made_level, is_made_multi, recs_of}
use Rattle.session_promise.specs.MultiGrowth.{IsLaterThan}
use Rattle.session_promise.proofs.Growing.{all_lines_of, all_places, answer_stays, each_grows, IsUpTo, making_same, pending_same, stance_same}
use Rattle.session_promise.proofs.Known.{known_of}
use Rattle.session_promise.proofs.PendingFollows.{IsKnownOf, by_reply}
use Rattle.session_promise.proofs.PendingGrowth.{AreSettled}
use Rattle.session_promise.proofs.MakingFollows.{gave, more_given, unfinished_push}
use Rattle.session_promise.proofs.MultiEvents.{events_grow}
use Rattle.session_promise.proofs.MultiKinds.{made_most, raised_told, raises_alone}
use Rattle.session_promise.proofs.MultiStaying.{few_multis}
use Rattle.session_promise.proofs.OwnNone.{entry_of}
use Rattle.session_promise.proofs.Settling.{settled_of, up_to, within_all}
use Rattle.session_promise.proofs.Widening.{AreWider, IsWithin, wider_both, wider_lines, wider_same, wider_to}
use Rattle.session_promise.proofs.OneCommand.{all_back, all_front, answered_in, none_behind, of_session, trim_is}

-- the session's next command, and its line
module _ (tells : Bool) (start : Start) (v w : Knowledge) (n : ℕ) (past : List Told) (from to : Place) (lines : List Line) (command : Command) (reply : Reply) (s s' : Session)
    (a : Answered tells start v w n command reply s s') (low : IsNoLater from (place_of v.seen)) (p : Promise tells start v.seen n (past ++ told_in (between from to) lines) s) where
  abbrev by : By
  by = by_at n (s.levels.commands + 1)

  abbrev l : Line
  l = record { by = by; command = command; reply = reply }

  abbrev told : List Told
  told = past ++ told_in (between from to) lines

  abbrev hv : List Event
  hv = history v.seen

  abbrev hw : List Event
  hw = history w.seen

  abbrev wide : List Told
  wide = past ++ told_in (between from (place_of w.seen)) lines

  abbrev mv : List MultiEvent
  mv = multi_history v.seen

  abbrev mw : List MultiEvent
  mw = multi_history w.seen

  abbrev multis : List MultiEvent
  multis = a.acted.multis

  abbrev t : Told
  t = record { line = l; span = between from (place_of w.seen) }

  abbrev added : List Event
  added = a.acted.added

  kept : EngineInvariant start w.seen
  kept = a.may.ready.at.kept

  allowed : MayAnswerIn tells start v.seen w.seen (between (place_of v.seen) (place_of w.seen)) by (stance_of s) s.stage command reply
  allowed = answered_in tells start v.seen w.seen by (stance_of s) s.stage command reply a.acted.allowed

  turn : AllByRecursion (λ e. (by_of e).command ≤ s.levels.commands) (filter (is_of n) hv)
  turn = a.might.ready.at.stands.turn

  -- of multixacts too
  multi_turn : AllByRecursion (λ e. (multi_by e).command ≤ s.levels.commands) (filter (is_multi_of n) mv)
  multi_turn = all_from (λ e. (multi_by e).command ≤ s.levels.commands) (filter (is_multi_of n) mv) (λ e k.
      let there = has_filter (is_multi_of n) mv e k in
      let f = entry_of start v.seen e a.might.ready.at.kept there.0 in
      let mine : f.0.by.session ≡ n = ap (λ (b : By). b.session) (sym f.3) ∙ eqb-true (multi_by e).session n there.1 in
      let low = has_all (λ (f : Entry). f.by.command ≤ s.levels.commands) (filter (λ (f : Entry). f.by.session == n) (at v.seen multi_lock)) (a.might.ready.at.turns multi_lock).after f.0 (filter_has (λ (f : Entry). f.by.session == n) (at v.seen multi_lock) f.0 f.1 (eq-eqb f.0.by.session n mine)) in
      let number : (multi_by e).command ≡ f.0.by.command = ap (λ (b : By). b.command) f.3 in
      omega (arith, low, number))

  -- an event of the session is one of those before, or of the command
  own_new : (rest : List Event) → hv ++ rest ≡ hw → filter (is_of n) rest ≡ added
  own_new rest q = append_cancel_left (filter (is_of n) hv) (filter (is_of n) rest) added (sym (filter-append (is_of n) hv rest) ∙ (ap (filter (is_of n)) q ∙ a.acted.own))

  later : (rest : List Event) → hv ++ rest ≡ hw → AllByRecursion (λ e. (by_of e).session ≡ n → length told < (by_of e).command) rest
  later rest q = all_from (λ e. (by_of e).session ≡ n → length told < (by_of e).command) rest (λ e k o.
      let there : Has added e = subst (λ (es : List Event). Has es e) (own_new rest q) (filter_has (is_of n) rest e k (eq-eqb (by_of e).session n o)) in
      let whose : by_of e ≡ by = all_at (λ e. by_of e ≡ by) added e a.acted.each there in
      let number : (by_of e).command ≡ s.levels.commands + 1 = ap (λ (b : By). b.command) whose in
      let count = p.count in
      omega (arith, number, count))

  multi_new : (rest : List MultiEvent) → mv ++ rest ≡ mw → filter (is_multi_of n) rest ≡ multis
  multi_new rest q = append_cancel_left (filter (is_multi_of n) mv) (filter (is_multi_of n) rest) multis (sym (filter-append (is_multi_of n) mv rest) ∙ (ap (filter (is_multi_of n)) q ∙ a.acted.own_multi))

  multi_later : (rest : List MultiEvent) → mv ++ rest ≡ mw → AllByRecursion (λ e. (multi_by e).session ≡ n → length told < (multi_by e).command) rest
  multi_later rest q = all_from (λ e. (multi_by e).session ≡ n → length told < (multi_by e).command) rest (λ e k o.
      let there : Has multis e = subst (λ (es : List MultiEvent). Has es e) (multi_new rest q) (filter_has (is_multi_of n) rest e k (eq-eqb (multi_by e).session n o)) in
      let whose : multi_by e ≡ by = all_at (λ e. multi_by e ≡ by) multis e a.acted.each_multi there in
      let number : (multi_by e).command ≡ s.levels.commands + 1 = ap (λ (b : By). b.command) whose in
      let count = p.count in
      omega (arith, number, count))

  multis_are : multis_of by mw ≡ multis
  multis_are =
      filter_in_turn (is_multi_of n) (λ e. (multi_by e).command == by.command) mw
      ∙ (ap (filter (λ e. (multi_by e).command == by.command)) a.acted.own_multi
      ∙ (filter-append (λ e. (multi_by e).command == by.command) (filter (is_multi_of n) mv) multis
      ∙ ((λ j. none j ++ all j))))
    where
      none : filter (λ e. (multi_by e).command == by.command) (filter (is_multi_of n) mv) ≡ []
      none = filter_none (λ (e : MultiEvent). (multi_by e).command ≤ s.levels.commands) (λ e. (multi_by e).command == by.command) (filter (is_multi_of n) mv) (λ e k. below_not (multi_by e).command by.command (omega (arith, k))) multi_turn

      all : filter (λ e. (multi_by e).command == by.command) multis ≡ multis
      all = filter_all (λ (e : MultiEvent). multi_by e ≡ by) (λ e. (multi_by e).command == by.command) multis (λ e q. eq-eqb (multi_by e).command by.command (ap (λ (b : By). b.command) q)) a.acted.each_multi

  events_are : events_of by hw ≡ added
  events_are =
      filter_in_turn (is_of n) (λ e. (by_of e).command == by.command) hw
      ∙ (ap (filter (λ e. (by_of e).command == by.command)) a.acted.own
      ∙ (filter-append (λ e. (by_of e).command == by.command) (filter (is_of n) hv) added
      ∙ ((λ j. none j ++ all j))))
    where
      none : filter (λ e. (by_of e).command == by.command) (filter (is_of n) hv) ≡ []
      none = filter_none (λ (e : Event). (by_of e).command ≤ s.levels.commands) (λ e. (by_of e).command == by.command) (filter (is_of n) hv) (λ e k. below_not (by_of e).command by.command (omega (arith, k))) turn

      all : filter (λ e. (by_of e).command == by.command) added ≡ added
      all = filter_all (λ (e : Event). by_of e ≡ by) (λ e. (by_of e).command == by.command) added (λ e q. eq-eqb (by_of e).command by.command (ap (λ (b : By). b.command) q)) a.acted.each

  longer : length hv ≤ length hw
  longer = let g = history_grows v.seen w.seen a.acted.grows in let q : length hv + length g.0 ≡ length hw = sym (length-append hv g.0) ∙ ap length g.1 in omega (arith, q)

  multi_longer : length mv ≤ length mw
  multi_longer = let g = multis_grow v.seen w.seen a.acted.grows in let q : length mv + length g.0 ≡ length mw = sym (length-append mv g.0) ∙ ap length g.1 in omega (arith, q)

  wider : AreWider (place_of w.seen) told wide
  wider =
      let within : AllByRecursion (IsWithin (place_of w.seen)) told = all_weaker (IsWithin (place_of v.seen)) (IsWithin (place_of w.seen)) (λ t f. (let g = longer in omega (arith, f.0, g), let g = multi_longer in omega (arith, f.1, g))) told (within_all tells start n v.seen told p.each) in
      wider_both (place_of w.seen) past past (told_in (between from to) lines) (told_in (between from (place_of w.seen)) lines)
      (wider_same (place_of w.seen) past (all_front (IsWithin (place_of w.seen)) past (told_in (between from to) lines) within))
      (wider_to (place_of w.seen) from to lines (all_back (IsWithin (place_of w.seen)) past (told_in (between from to) lines) within))

  same_lines : lines_of wide ≡ lines_of told
  same_lines = wider_lines (place_of w.seen) told wide wider

  up : AllByRecursion (λ t. IsUpTo n (length told) t.line) told
  up = up_to tells start n v.seen told p.each

  lines_up : AllByRecursion (IsUpTo n (length told)) (lines_of told)
  lines_up = all_lines_of (IsUpTo n (length told)) told up

  settled : AreSettled (recs_of v.seen) (recs_of w.seen) (lines_of told)
  settled = settled_of tells start n v.seen w.seen told kept a.acted.grows p.each

  stance_before : stance hw (lines_of told) n ≡ stance_of s
  stance_before = stance_same tells start n (length told) v.seen w.seen a.acted.grows later multi_later (lines_of told) lines_up ∙ p.stance_is

  pending_before : pending (recs_of w.seen) hw (lines_of told) n ≡ pending_in s.stage
  pending_before = pending_same tells start n (length told) v.seen w.seen a.acted.grows later multi_later (lines_of told) lines_up settled ∙ p.pending_is

  place_is : IsInRound by_of hw (between from (place_of w.seen)).events by
  place_is q e at is = (⊎_elim (λ up. let b = low.events in omega (arith, up, b)) (λ below. absurd (before below)) (le_or_over (length hv) q), slice_get_within hw q e at)
    where
      before : q < length hv → ⊥
      before below =
          let g = history_grows v.seen w.seen a.acted.grows in
          let there = slice_get-get_or hv q e below in
          let same : get_or hv q e ≡ e = same_Some _ e (sym (slice_get-grows hv g.0 _ q there) ∙ (ap (λ h. slice_get h q) g.1 ∙ at)) in
          let old : Has hv e = subst (λ (x : Event). Has hv x) same (place_has hv q _ there) in
          let number : (by_of e).command ≡ s.levels.commands + 1 = ap (λ (b : By). b.command) is in
          let least : (by_of e).command ≤ s.levels.commands = all_at (λ (e : Event). (by_of e).command ≤ s.levels.commands) (filter (is_of n) hv) e turn (filter_has (is_of n) hv e old (eq-eqb (by_of e).session n (ap (λ (b : By). b.session) is))) in
          omega (arith, number, least)

  multi_place_is : IsInRound multi_by mw (between from (place_of w.seen)).multis by
  multi_place_is q e at is = (⊎_elim (λ up. let b = low.multis in omega (arith, up, b)) (λ below. absurd (before below)) (le_or_over (length mv) q), slice_get_within mw q e at)
    where
      before : q < length mv → ⊥
      before below =
          let g = multis_grow v.seen w.seen a.acted.grows in
          let there = slice_get-get_or mv q e below in
          let same : get_or mv q e ≡ e = same_Some _ e (sym (slice_get-grows mv g.0 _ q there) ∙ (ap (λ h. slice_get h q) g.1 ∙ at)) in
          let old : Has mv e = subst (λ (x : MultiEvent). Has mv x) same (place_has mv q _ there) in
          let number : (multi_by e).command ≡ s.levels.commands + 1 = ap (λ (b : By). b.command) is in
          let least : (multi_by e).command ≤ s.levels.commands = all_at (λ (e : MultiEvent). (multi_by e).command ≤ s.levels.commands) (filter (is_multi_of n) mv) e multi_turn (filter_has (is_multi_of n) mv e old (eq-eqb (multi_by e).session n (ap (λ (b : By). b.session) is))) in
          omega (arith, number, least)

  -- the command has no multixact event before it
  unheard_before : (e : MultiEvent) → Contains mv e → multi_by e ≡ by → ⊥
  unheard_before e c is =
      let own : (multi_by e).session ≡ n = ap (λ (b : By). b.session) is in
      let number : (multi_by e).command ≡ s.levels.commands + 1 = ap (λ (b : By). b.command) is in
      let least : (multi_by e).command ≤ s.levels.commands = all_at (λ (e : MultiEvent). (multi_by e).command ≤ s.levels.commands) (filter (is_multi_of n) mv) e multi_turn (filter_has (is_multi_of n) mv e (contains_has mv e c) (eq-eqb (multi_by e).session n own)) in
      omega (arith, number, least)

  -- and finds done what the session made before
  made_before : AllByRecursion (λ (l : Line). IsMadeFor start v.seen n l.reply) (lines_of told)
  made_before = all_lines_of (λ (l : Line). IsMadeFor start v.seen n l.reply) told (all_places (λ (t : Told). IsMadeFor start v.seen n t.line.reply) told (λ q t at. (p.each q t at).made))

  is_told : IsToldWell tells start w.seen n (lines_of told) t
  is_told = record {
    own = refl;
    number = let c = p.count in let m = length-map told (λ (t : Told). t.line) in omega (arith, c, m);
    events = subst (λ z. HasEvents by z command reply (events_of by hw)) (sym stance_before) (subst (λ es. HasEvents by (stance_of s) command reply es) (sym events_are) a.acted.fitting);
    multis = subst (λ (es : List MultiEvent). HasMultiEvents start.base hw (between from (place_of w.seen)).events mw by command reply es) (sym multis_are)
        (subst (λ (z : List Event × List MultiEvent). HasMultiEvents start.base z.0 (between from (place_of w.seen)).events z.1 by command reply multis) (λ j. (append-nil hw j, append-nil mw j))
        (events_grow start.base hw [] mw [] by (alone hv hw) (between from (place_of w.seen)).events low.events (omega arith) (omega arith) command reply multis a.acted.fitting_multi));
    place = place_is;
    multi_place = multi_place_is;
    behind = none_behind (λ e. IsLaterThan by (by_of e)) hw;
    multi_behind = none_behind (λ e. IsLaterThan by (multi_by e)) mw;
    within = (let g = longer in let b = low.events in omega (arith, b, g), omega arith);
    multi_within = (let g = multi_longer in let b = low.multis in omega (arith, b, g), omega arith);
    stage = s.stage;
    pending_is = sym pending_before;
    standing = a.acted.standing ∙ ap (λ z. refused_by command z (pending_in s.stage)) (sym stance_before);
    members = a.members;
    begun = v.seen;
    began = record { kept = a.might.ready.at.kept; in_round = low.grown; unheard = unheard_before; made = made_before };
    answer = subst (λ z. MayAnswerIn tells start v.seen w.seen (between from (place_of w.seen)) by z s.stage command reply) (sym stance_before)
        (answer_stays tells start v.seen w.seen w.seen (record { begins = λ q. begins_same (at w.seen q) }) (between (place_of v.seen) (place_of w.seen)) (between from (place_of w.seen)) by (stance_of s) s.stage
        (record { from = low.events; to = omega arith; within = omega arith; later = none_behind (λ e. IsLaterThan by (by_of e)) hw })
        (record { from = low.multis; to = omega arith; within = omega arith; later = none_behind (λ e. IsLaterThan by (multi_by e)) mw })
        (λ rest q. subst (AllByRecursion (λ e. (by_of e).session ≡ n → by.command < (by_of e).command)) (append_cancel_left hw [] rest (append-nil hw ∙ sym q)) tt) command reply allowed);
    made = a.made;
    trimmed = λ e. let q = trim_is by command reply e in a.trimmed q.0 q.1;
    fits = a.fits;
  }

  abbrev all : List Line
  all = lines_of told ++ l ∷ []

  all_are : lines_of (wide ++ t ∷ []) ≡ all
  all_are = map-append (λ (t : Told). t.line) wide (t ∷ []) ∙ ap (λ ls. ls ++ l ∷ []) same_lines

  stance_then : stance hw all n ≡ stance_of s'
  stance_then = stance_push hw (lines_of told) l ∙ (ap (λ z. after z by.command command reply (given (events_of by hw))) stance_before ∙ (ap (λ es. after (stance_of s) by.command command reply (given es)) events_are ∙ a.acted.left))

  -- the session stands as before where the log is down, so its stage tells of its record
  known : IsKnownOf (recs_of w.seen) (stance_of s') s'.stage
  known = known_of start w n s' a.may

  pending_then : pending (recs_of w.seen) hw all n ≡ pending_in s'.stage
  pending_then = pending_push (recs_of w.seen) hw (lines_of told) l ∙ (ap (λ z. pending_after (recs_of w.seen) z (pending (recs_of w.seen) hw (lines_of told) n) command reply) stance_before ∙ (ap (λ o. pending_after (recs_of w.seen) (stance_of s) o command reply) pending_before
      ∙ by_reply tells start v.seen w.seen (between (place_of v.seen) (place_of w.seen)) by (recs_of w.seen) (stance_of s) (stance_of s') s.stage s'.stage command reply (given added) allowed a.fits a.stage a.acted.left known))

  ids_then : length (given_to n hw) + lacking (stance_of s').levels ≤ count_by is_made_level all
  ids_then =
      let split : length (given_to n hw) ≡ length (given_to n hv) + length (given added) = ap (λ es. length (given es)) a.acted.own ∙ (ap length (filter_map-append given_by (filter (is_of n) hv) added) ∙ length-append (given_to n hv) (given added)) in
      let bound = bounds_of by by.command (stance_of s) command reply added a.acted.fitting in
      let left : lacking (after (stance_of s) by.command command reply (given added)).levels ≡ lacking (stance_of s').levels = ap (λ (z : Stance). lacking z.levels) a.acted.left in
      let more = sum_by-append (λ (x : Line). cond (is_made_level x) 1 0) (lines_of told) (l ∷ []) in
      let before = p.ids in
      omega (arith, split, bound, left, more, before)

  -- the multixact that it makes is as the lines tell
  gave_is : gave mw l ≡ has_more_multis n v.seen w.seen
  gave_is =
      ap (λ (es : List MultiEvent). nat_lt 0 (length es)) multis_are
      ∙ (sym (more_given (length (own_multis n v.seen)) (length multis)) ∙ ap (nat_lt (length (own_multis n v.seen))) (sym (ap length a.acted.own_multi ∙ length-append (own_multis n v.seen) multis)))

  making_then : IsToldMaking (unfinished mw all n) s'.making
  making_then =
      let before : unfinished mw (lines_of told) n ≡ unfinished mv (lines_of told) n = making_same tells start n (length told) v.seen w.seen a.acted.grows later multi_later (lines_of told) lines_up in
      subst (λ (u : Unfinished). IsToldMaking u s'.making)
      (sym (unfinished_push mw (lines_of told) l ∙ (λ j. unfinished_behind (before j) (gave_is j) command reply)))
      (a.making (unfinished mv (lines_of told) n) p.making)

  -- an own event of multixacts was there, or is of the command
  multi_cases : (e : MultiEvent) → (multi_by e).session ≡ n → Contains mw e → Contains mv e ⊎ Has multis e
  multi_cases e own c =
      ⊎_elim
      (λ k. inl (has_contains mv e (has_filter (is_multi_of n) mv e k).0))
      inr
      (has_cases (filter (is_multi_of n) mv) multis e (subst (λ (es : List MultiEvent). Has es e) a.acted.own_multi (filter_has (is_multi_of n) mw e (contains_has mw e c) (eq-eqb (multi_by e).session n own))))

  raises_then : IsTrue tells → AreFewMultis w.seen → (b : By) (multi offset : ℕ) → b.session ≡ n → Contains mw (multi_events.Raise b multi offset) → multi < start.base.multi → IsRecordedIn start multi offset
  raises_then t few b multi offset own c below = ⊎_elim
      (λ old. p.raises t (few_multis v.seen w.seen a.acted.grows few) b multi offset own old below)
      (λ new.
      let whose : b ≡ by = all_at (λ e. multi_by e ≡ by) multis (multi_events.Raise b multi offset) a.acted.each_multi new in
      raised_told tells start w.seen by multi offset command reply (raises_alone start.base hw (alone hv hw) mw by b multi offset command reply multis a.acted.fitting_multi new) a.raised t few below
      (subst (λ (x : By). Contains mw (multi_events.Raise x multi offset)) whose c))
      (multi_cases (multi_events.Raise b multi offset) own c)

  gens_then : length (made (own_multis n w.seen)) ≤ count_by is_made_multi all
  gens_then =
      let split : length (made (own_multis n w.seen)) ≡ length (made (own_multis n v.seen)) + length (made multis) = ap (λ es. length (made es)) a.acted.own_multi ∙ (ap length (filter_map-append made_by (own_multis n v.seen) multis) ∙ length-append (made (own_multis n v.seen)) (made multis)) in
      let bound = made_most start.base hw (alone hv hw) mw by command reply multis a.acted.fitting_multi in
      let more = sum_by-append (λ (x : Line). cond (is_made_multi x) 1 0) (lines_of told) (l ∷ []) in
      let before = p.gens in
      omega (arith, split, bound, more, before)

  -- what the command added to the log
  abbrev mine : AddsTo by (MayLeave command (stance_of s) s.stage (open_ids n hv) reply log_lock) (at v.seen log_lock) (at w.seen log_lock)
  mine = a.acted.adds.each log_lock

  abbrev IsMine : Entry → Type 0
  IsMine e = (e.by ≡ by) × MayLeave command (stance_of s) s.stage (open_ids n hv) reply log_lock e.kind

  -- an own entry of the log was there, or is of the command
  log_cases : (e : Entry) → e.by.session ≡ n → Contains (at w.seen log_lock) e → Contains (at v.seen log_lock) e ⊎ Has mine.added e
  log_cases e own c =
      ⊎_elim
      (λ k. inl (has_contains (at v.seen log_lock) e (has_filter (λ (f : Entry). session_of f == n) (at v.seen log_lock) e k).0))
      inr
      (has_cases (filter (λ (f : Entry). session_of f == n) (at v.seen log_lock)) mine.added e
      (subst (λ (es : List Entry). Has es e) mine.grown (filter_has (λ (f : Entry). session_of f == n) (at w.seen log_lock) e (contains_has (at w.seen log_lock) e c) (eq-eqb e.by.session n own))))

  promise_then : Promise tells start w.seen n (wide ++ t ∷ []) s'
  promise_then = record {
    each = each_place_push (λ before t. IsToldWell tells start w.seen n (lines_of before) t) wide t (each_grows tells start n (length told) v.seen w.seen a.acted.grows later multi_later told wide wider up settled p.each) (subst (λ ls. IsToldWell tells start w.seen n ls t) (sym same_lines) is_told);
    no_other = λ e c own.
        subst (λ ls. IsTrue (has_line ls e)) (sym all_are) (list_any-push (λ (j : Line). same_by j.by (by_of e)) (lines_of told) l ∙ ⊎_elim
        (λ k. ap (λ b. b || same_by by (by_of e)) (p.no_other e (has_contains hv e (has_filter (is_of n) hv e k).0) own))
        (λ k. ap (λ b. has_line (lines_of told) e || b) (ap (same_by by) (all_at (λ e. by_of e ≡ by) added e a.acted.each k) ∙ same_by_refl by) ∙ or-true (has_line (lines_of told) e))
        (has_cases (filter (is_of n) hv) added e (subst (λ (es : List Event). Has es e) a.acted.own (filter_has (is_of n) hw e (contains_has hw e c) (eq-eqb (by_of e).session n own)))));
    no_multi = λ e c own.
        subst (λ ls. IsTrue (has_multi_line ls e)) (sym all_are) (list_any-push (λ (j : Line). same_by j.by (multi_by e)) (lines_of told) l ∙ ⊎_elim
        (λ k. ap (λ b. b || same_by by (multi_by e)) (p.no_multi e k own))
        (λ k. ap (λ b. has_multi_line (lines_of told) e || b) (ap (same_by by) (all_at (λ e. multi_by e ≡ by) multis e a.acted.each_multi k) ∙ same_by_refl by) ∙ or-true (has_multi_line (lines_of told) e))
        (multi_cases e own c));
    stance_is = ap (λ ls. stance hw ls n) all_are ∙ stance_then;
    pending_is = ap (λ ls. pending (recs_of w.seen) hw ls n) all_are ∙ pending_then;
    making = subst (λ ls. IsToldMaking (unfinished mw ls n) s'.making) (sym all_are) making_then;
    count =
        let c = p.count in let d = a.count in
        let m = length-map told (λ (t : Told). t.line) in
        let o = length-map (wide ++ t ∷ []) (λ (t : Told). t.line) in
        let q = ap length all_are in
        let r = length-append (lines_of told) (l ∷ []) in
        omega (arith, c, d, m, o, q, r);
    ids = subst (λ ls. length (given_to n hw) + lacking (stance_of s').levels ≤ count_by is_made_level ls) (sym all_are) ids_then;
    raises = raises_then;
    gens = subst (λ ls. length (made (own_multis n w.seen)) ≤ count_by is_made_multi ls) (sym all_are) gens_then;
    faults = λ b asked count own c.
        subst (λ ls. SaysLogFault ls b) (sym all_are) (⊎_elim
        (λ old. let f = p.faults b asked count own old in (f.0, Contains-append_left (lines_of told) (l ∷ []) f.0 f.1, f.2, f.3))
        (λ new. let k = all_at IsMine mine.added (record { by = b; kind = kinds.LogFault asked count }) mine.each new in (l, Contains-push (lines_of told) l, sym k.0, k.1.1))
        (log_cases (record { by = b; kind = kinds.LogFault asked count }) own c));
    ends = λ b rec own c.
        ⊎_elim
        (λ old. p.ends b rec own old)
        (λ new. of_session command (stance_of s) s.stage (open_ids n hv) rec (all_at IsMine mine.added (record { by = b; kind = kinds.Append rec }) mine.each new).1)
        (log_cases (record { by = b; kind = kinds.Append rec }) own c);
  }

  shape : wide ++ t ∷ [] ≡ past ++ told_in (between from (place_of w.seen)) (lines ++ l ∷ [])
  shape = append_assoc past (told_in (between from (place_of w.seen)) lines) (t ∷ []) ∙ ap (λ ts. past ++ ts) (sym (map-append (λ (x : Line). record { line = x; span = between from (place_of w.seen) }) lines (l ∷ [])))

  pub goes_on : Promise tells start w.seen n (past ++ told_in (between from (place_of w.seen)) (lines ++ l ∷ [])) s'
  goes_on = subst (λ (ts : List Told). Promise tells start w.seen n ts s') shape promise_then

pub promise_goes_on : PromiseGoesOn
promise_goes_on tells start v w n past from to lines command reply s s' a low p = goes_on tells start v w n past from to lines command reply s s' a low p
