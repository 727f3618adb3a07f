-- Told lines stay told well while lists grow.
use Rattle.std.proofs.Common.{◌≡◌, ℕ, zero, suc, ◌<◌, ◌≤◌, Bool, List, [], ◌∷◌, ◌++◌, Some, ap, sym, subst, ◌∙◌, arith, inl, inr, ⊎_elim, drop, length, take}
use Rattle.std.specs.List.{AllByRecursion, slice_get}
use Rattle.notes.specs.Lists.{Grows, at}
use Rattle.tx_events.specs.declared.event.By.{By}
use Rattle.tx_events.specs.declared.event.Event.{Event}
use Rattle.tx_events.specs.Events.{by_of, events_of}
use Rattle.tx_events.specs.Places.{EachPlace}
use Rattle.tx_events.proofs.ListSteps.{all_weaker}
use Rattle.tx_events.proofs.Membership.{all_from, all_at, has_take, has_place, place_has}
use Rattle.tx_events.proofs.OwnEvents.{AreLater, AreOthers, events_of_grows, later_are_others}
use Rattle.tx_events.proofs.PlaceLemmas.{slice_get-append_cases}
use Rattle.tx_model.specs.declared.report.Line.{Line}
use Rattle.tx_model.specs.CommandEvents.{HasEvents}
use Rattle.tx_model.specs.Lines.{stance}
use Rattle.tx_model.proofs.Growth.{stance_grows}
use Rattle.life_law.specs.Pending.{pending}
use Rattle.life_law.specs.Refused.{refused_by}
use Rattle.tx_core.specs.declared.entry.Entry.{Entry}
use Rattle.tx_core.specs.declared.entry.Start.{Start}
use Rattle.tx_core.specs.Entries.{appended, history, records_of}
use Rattle.tx_core.proofs.Growing.{begins_filter_map, slice_get_begins}
use Rattle.tx_core.proofs.Lasting.{history_grows, stands_grows}
use Rattle.engine_parts.specs.Stages.{pending_in}
use Rattle.engine_parts.proofs.Answering.{answer_grows}
use Rattle.session_promise.specs.Told.{Span, Told, lines_of, place_of}
use Rattle.session_promise.specs.MultiGrowth.{IsLaterThan, Widens}
use Rattle.session_promise.proofs.MakingFollows.{unfinished_same}
use Rattle.session_promise.proofs.MultiEvents.{events_grow}
use Rattle.session_promise.proofs.MultiStaying.{multi_answer_grows}
use Rattle.session_promise.proofs.Sides.{behind_more, own_same}
use Rattle.tx_events.specs.declared.multi.MultiEvent.{MultiEvent}
use Rattle.tx_events.specs.declared.record.Rec.TheVariants as records
use Rattle.tx_events.specs.Multis.{multi_by}
use Rattle.tx_core.specs.declared.entry.Kind.TheVariants as kinds
use Rattle.tx_core.specs.Locks.{log_lock}
use Rattle.tx_core.specs.MultiEntries.{multi_history}
use Rattle.tx_core.proofs.OwnMultis.{done_grows}
use Rattle.tx_core.proofs.Rising.{multis_grow}
use Rattle.tx_model.specs.declared.command.Command.{Command}
use Rattle.tx_model.specs.declared.command.Command.TheVariants as commands
use Rattle.tx_model.specs.declared.reply.Reply.{Reply}
use Rattle.tx_model.specs.declared.reply.Reply.TheVariants as replies
use Rattle.tx_model.specs.Replies.{RoundSpan}
use Rattle.tx_model.specs.Stance.{Stance}
use Rattle.life_law.specs.MultiLines.{HasMultiEvents}
use Rattle.life_law.specs.MultiPlaces.{multis_of}
use Rattle.life_law.specs.MultiStanding.{unfinished}
use Rattle.engine_parts.specs.declared.session.Stage.{Stage}
use Rattle.engine_parts.specs.MultiAnswers.{MayAnswerMulti}
use Rattle.session_promise.specs.Promise.{HasTrimmed, IsInRound, IsMadeFor, IsToldWell, MayAnswerIn, recs_of}
use Rattle.session_promise.proofs.PendingGrowth.{AreSettled, IsNotDown, pending_grows}
use Rattle.session_promise.proofs.Widening.{AreWider, stretched, wider_at}

-- what holds of the lines of all
pub all_lines_of : (P : Line → Type 0) (told : List Told) → AllByRecursion (λ t. P t.line) told → AllByRecursion P (lines_of told)
all_lines_of P [] a = tt
all_lines_of P (t ∷ told) a = (a.0, all_lines_of P told a.1)

pub all_take : {X : Type 0} (P : X → Type 0) (n : ℕ) (xs : List X) → AllByRecursion P xs → AllByRecursion P (take n xs)
all_take P n xs a = all_from P (take n xs) (λ x k. all_at P xs x a (has_take n xs x k))

pub all_places : {X : Type 0} (P : X → Type 0) (xs : List X) → ((p : ℕ) (x : X) → slice_get xs p ≡ Some x → P x) → AllByRecursion P xs
all_places P xs f = all_from P xs (λ x k. let r = has_place xs x k in f r.0 x r.1)

-- the lines are of this session's commands up to a number
abbrev pub IsUpTo : ℕ → ℕ → Line → Type 0
IsUpTo n number l = (l.by.session ≡ n) × (l.by.command ≤ number)

-- ---- what a command was answered

-- whichever the command
module _ (tells : Bool) (start : Start) (begun lists more : List (List Entry)) (g : Grows lists more) (span wider : Span) (by : By) (s : Stance) (stage : Stage)
    (events : Widens by_of by (history lists) (history more) span.events wider.events) (multis : Widens multi_by by (multi_history lists) (multi_history more) span.multis wider.multis)
    (rest_later : (rest : List Event) → history lists ++ rest ≡ history more → AllByRecursion (λ e. (by_of e).session ≡ by.session → by.command < (by_of e).command) rest) where
  multi_stays : (command : Command) (reply : Reply) → MayAnswerMulti tells start begun lists span.events span.multis by s stage command reply → MayAnswerMulti tells start begun more wider.events wider.multis by s stage command reply
  multi_stays command reply a = multi_answer_grows tells start begun lists more span.events wider.events span.multis wider.multis by s stage command reply g events multis a

  pub answer_stays : (command : Command) (reply : Reply) → MayAnswerIn tells start begun lists span by s stage command reply → MayAnswerIn tells start begun more wider by s stage command reply
  answer_stays (commands.Multi pairs) reply a = multi_stays (commands.Multi pairs) reply a
  answer_stays (commands.SeeMulti name m) reply a = multi_stays (commands.SeeMulti name m) reply a
  answer_stays (commands.MultiFreeze multi) reply a = multi_stays (commands.MultiFreeze multi) reply a
  answer_stays commands.Trim reply a = multi_stays commands.Trim reply a
  answer_stays command reply a = answer_grows tells start lists more span.events wider.events by s stage command reply events.from events.to events.within g rest_later a

pub made_stays : (start : Start) (lists more : List (List Entry)) (n : ℕ) (reply : Reply) → Grows lists more → IsMadeFor start lists n reply → IsMadeFor start more n reply
made_stays start lists more n (replies.Multi multi offset warn) g m = (m.0, done_grows start lists more n multi offset m.0 g m.1)
made_stays start lists more n reply g m = m

pub trimmed_stays : (start : Start) (lists more : List (List Entry)) (by : By) → Grows lists more → HasTrimmed start lists by → HasTrimmed start more by
trimmed_stays start lists more by g t = record {
  place = t.place;
  to = t.to;
  oldest = t.oldest;
  multi = t.multi;
  offset = t.offset;
  stands = slice_get_begins (records_of lists) (records_of more) t.place (by, records.Truncate t.oldest t.multi t.offset) (begins_filter_map appended (at lists log_lock) (at more log_lock) (g.begins log_lock)) t.stands;
  past = t.past;
  flushed = stands_grows lists more log_lock (kinds.Flush t.to) g t.flushed;
}

-- The lists grew; each event that is more of the session is of a later command.
module _ (tells : Bool) (start : Start) (n number : ℕ) (lists more : List (List Entry)) (g : Grows lists more)
    (later : (rest : List Event) → history lists ++ rest ≡ history more → AllByRecursion (λ e. (by_of e).session ≡ n → number < (by_of e).command) rest)
    (multi_later : (rest : List MultiEvent) → multi_history lists ++ rest ≡ multi_history more → AllByRecursion (λ e. (multi_by e).session ≡ n → number < (multi_by e).command) rest) where
  pub is_later : (by : By) → by.session ≡ n → by.command ≤ number → (rest : List Event) → history lists ++ rest ≡ history more → AreLater by rest
  is_later by own low rest q = all_weaker (λ e. (by_of e).session ≡ n → number < (by_of e).command) (λ e. (by_of e).session ≡ by.session → by.command < (by_of e).command) (λ e f s. let i = f (s ∙ own) in omega (arith, i, low)) rest (later rest q)

  abbrev es : List Event
  es = (history_grows lists more g).0

  grown : history lists ++ es ≡ history more
  grown = (history_grows lists more g).1

  abbrev ms : List MultiEvent
  ms = (multis_grow lists more g).0

  multi_grown : multi_history lists ++ ms ≡ multi_history more
  multi_grown = (multis_grow lists more g).1

  multis_later : (by : By) → by.session ≡ n → by.command ≤ number → AllByRecursion (λ e. IsLaterThan by (multi_by e)) ms
  multis_later by own low = all_weaker (λ e. (multi_by e).session ≡ n → number < (multi_by e).command) (λ e. IsLaterThan by (multi_by e)) (λ e f s. let i = f (s ∙ own) in omega (arith, i, low)) ms (multi_later ms multi_grown)

  pub are_others : (lines : List Line) → AllByRecursion (IsUpTo n number) lines → AllByRecursion (λ l. AreOthers l.by es) lines
  are_others lines a = all_weaker (IsUpTo n number) (λ l. AreOthers l.by es) (λ l u. later_are_others l.by es (is_later l.by u.0 u.1 es grown)) lines a

  pub stance_same : (lines : List Line) → AllByRecursion (IsUpTo n number) lines → stance (history more) lines n ≡ stance (history lists) lines n
  stance_same lines a = ap (λ h. stance h lines n) (sym grown) ∙ stance_grows (history lists) es lines n (are_others lines a)

  pub pending_same : (lines : List Line) → AllByRecursion (IsUpTo n number) lines → AreSettled (recs_of lists) (recs_of more) lines → pending (recs_of more) (history more) lines n ≡ pending (recs_of lists) (history lists) lines n
  pending_same lines a settled = ap (λ h. pending (recs_of more) h lines n) (sym grown) ∙ pending_grows (recs_of lists) (recs_of more) (history lists) es lines n (are_others lines a) settled

  events_same : (by : By) → by.session ≡ n → by.command ≤ number → events_of by (history more) ≡ events_of by (history lists)
  events_same by own low = ap (events_of by) (sym grown) ∙ events_of_grows by (history lists) es (later_are_others by es (is_later by own low es grown))

  multis_same : (by : By) → by.session ≡ n → by.command ≤ number → multis_of by (multi_history more) ≡ multis_of by (multi_history lists)
  multis_same by own low = ap (multis_of by) (sym multi_grown) ∙ own_same multi_by by (multi_history lists) ms (multis_later by own low)

  pub making_same : (lines : List Line) → AllByRecursion (IsUpTo n number) lines → unfinished (multi_history more) lines n ≡ unfinished (multi_history lists) lines n
  making_same lines a = unfinished_same (multi_history lists) (multi_history more) lines n (all_weaker (IsUpTo n number) (λ l. multis_of l.by (multi_history more) ≡ multis_of l.by (multi_history lists)) (λ l u. multis_same l.by u.0 u.1) lines a)

  -- a round that came further has the same events of a command
  place_grows : {X : Type 0} (whose : X → By) (h rest : List X) (by : By) (round : RoundSpan) (to : ℕ) → round.to ≤ to → AllByRecursion (λ e. IsLaterThan by (whose e)) rest → IsInRound whose h round by → IsInRound whose (h ++ rest) (record { from = round.from; to = to }) by
  place_grows whose h rest by round to wide beside old p e at is =
      ⊎_elim
      (λ q. let r = old p e q is in (r.0, omega (arith, r.1, wide)))
      (λ q. absurd (not_it (all_at (λ e. IsLaterThan by (whose e)) rest e beside (place_has rest _ e q)) is))
      (slice_get-append_cases h rest e p at)
    where
      not_it : IsLaterThan by (whose e) → whose e ≡ by → ⊥
      not_it past same =
          let number : (whose e).command ≡ by.command = ap (λ (b : By). b.command) same in
          let least = past (ap (λ (b : By). b.session) same) in
          absurd (omega (arith, number, least))

  line_grows : (before : List Line) (t : Told) (to : Span) → t.span.events.to ≤ to.events.to → to.events.to ≤ length (history more) → t.span.multis.to ≤ to.multis.to → to.multis.to ≤ length (multi_history more) → t.line.by.command ≤ number → AllByRecursion (IsUpTo n number) before → AreSettled (recs_of lists) (recs_of more) before
      → IsToldWell tells start lists n before t → IsToldWell tells start more n before (record { line = t.line; span = stretched t.span to })
  line_grows before t to wide inside multi_wide multi_inside low up settled k =
      let l : Line = t.line in
      let wider : Span = stretched t.span to in
      let beside = is_later l.by k.own low es grown in
      let multi_beside = multis_later l.by k.own low in
      let past : AllByRecursion (λ e. IsLaterThan l.by (by_of e)) (drop t.span.events.to (history more))
      = subst (λ (h : List Event). AllByRecursion (λ e. IsLaterThan l.by (by_of e)) (drop t.span.events.to h)) grown (behind_more (λ e. IsLaterThan l.by (by_of e)) (history lists) es t.span.events.to t.span.events.to (k.within).1 (omega arith) k.behind beside) in
      let multi_past : AllByRecursion (λ e. IsLaterThan l.by (multi_by e)) (drop t.span.multis.to (multi_history more))
      = subst (λ (h : List MultiEvent). AllByRecursion (λ e. IsLaterThan l.by (multi_by e)) (drop t.span.multis.to h)) multi_grown (behind_more (λ e. IsLaterThan l.by (multi_by e)) (multi_history lists) ms t.span.multis.to t.span.multis.to (k.multi_within).1 (omega arith) k.multi_behind multi_beside) in
      let same = stance_same before up in record {
        own = k.own;
        number = k.number;
        events = subst (λ s. HasEvents l.by s l.command l.reply (events_of l.by (history more))) (sym same) (subst (λ x. HasEvents l.by (stance (history lists) before n) l.command l.reply x) (sym (events_same l.by k.own low)) k.events);
        multis = subst (λ (z : (List Event × List MultiEvent) × List MultiEvent). HasMultiEvents start.base z.0.0 wider.events z.0.1 l.by l.command l.reply z.1) (λ j. ((grown j, multi_grown j), sym (multis_same l.by k.own low) j))
            (events_grow start.base (history lists) es (multi_history lists) ms l.by t.span.events wider.events (omega arith) wide (k.within).1 l.command l.reply (multis_of l.by (multi_history lists)) k.multis);
        place = subst (λ (h : List Event). IsInRound by_of h wider.events l.by) grown (place_grows by_of (history lists) es l.by t.span.events to.events.to wide beside k.place);
        multi_place = subst (λ (h : List MultiEvent). IsInRound multi_by h wider.multis l.by) multi_grown (place_grows multi_by (multi_history lists) ms l.by t.span.multis to.multis.to multi_wide multi_beside k.multi_place);
        behind = subst (λ (h : List Event). AllByRecursion (λ e. IsLaterThan l.by (by_of e)) (drop to.events.to h)) grown (behind_more (λ e. IsLaterThan l.by (by_of e)) (history lists) es t.span.events.to to.events.to (k.within).1 wide k.behind beside);
        multi_behind = subst (λ (h : List MultiEvent). AllByRecursion (λ e. IsLaterThan l.by (multi_by e)) (drop to.multis.to h)) multi_grown (behind_more (λ e. IsLaterThan l.by (multi_by e)) (multi_history lists) ms t.span.multis.to to.multis.to (k.multi_within).1 multi_wide k.multi_behind multi_beside);
        within = (let w = k.within in omega (arith, w.0, wide), inside);
        multi_within = (let w = k.multi_within in omega (arith, w.0, multi_wide), multi_inside);
        stage = k.stage;
        pending_is = k.pending_is ∙ sym (pending_same before up settled);
        standing = k.standing ∙ ap (λ s. refused_by l.command s (pending_in k.stage)) (sym same);
        members = k.members;
        begun = k.begun;
        began = record { kept = k.began.kept; in_round = k.began.in_round; unheard = k.began.unheard; made = k.began.made };
        answer = subst (λ s. MayAnswerIn tells start k.begun more wider l.by s k.stage l.command l.reply) (sym same)
            (answer_stays tells start k.begun lists more g t.span wider l.by (stance (history lists) before n) k.stage
            (record { from = omega arith; to = wide; within = (k.within).1; later = past })
            (record { from = omega arith; to = multi_wide; within = (k.multi_within).1; later = multi_past })
            (λ rest q. is_later l.by k.own low rest q) l.command l.reply k.answer);
        made = made_stays start lists more n l.reply g k.made;
        trimmed = λ e. trimmed_stays start lists more l.by g (k.trimmed e);
        fits = k.fits;
      }

  pub each_grows : (told wider : List Told) → AreWider (place_of more) told wider → AllByRecursion (λ t. IsUpTo n number t.line) told → AreSettled (recs_of lists) (recs_of more) (lines_of told)
      → EachPlace told (λ before t. IsToldWell tells start lists n (lines_of before) t) → EachPlace wider (λ before t. IsToldWell tells start more n (lines_of before) t)
  each_grows told wider w up settled each p u e =
      let r = wider_at (place_of more) told wider p u w e in
      let t : Told = r.was in
      let front = all_take (λ t. IsUpTo n number t.line) p told up in
      let low : IsUpTo n number t.line = all_at (λ t. IsUpTo n number t.line) told t up (place_has told p t r.at) in
      let now = line_grows (lines_of (take p told)) t u.span r.is.to.0 r.is.to.1 r.is.multi_to.0 r.is.multi_to.1 low.1 (all_lines_of (IsUpTo n number) (take p told) front) (settled_front p told settled) (each p t r.at) in
      subst (λ (x : Told). IsToldWell tells start more n (lines_of (take p wider)) x)
      (λ j. record { line = sym r.is.line j; span = record { begun = sym r.is.begun j; events = record { from = sym r.is.from j; to = u.span.events.to }; multis = record { from = sym r.is.multi_from j; to = u.span.multis.to } } })
      (subst (λ ls. IsToldWell tells start more n ls (record { line = t.line; span = stretched t.span u.span })) (sym r.before) now)
    where
      settled_front : (p : ℕ) (told : List Told) → AreSettled (recs_of lists) (recs_of more) (lines_of told) → AreSettled (recs_of lists) (recs_of more) (lines_of (take p told))
      settled_front p told s = ⊎_elim inl (λ a. inr (front p told a)) s
        where
          front : (p : ℕ) (told : List Told) → AllByRecursion IsNotDown (lines_of told) → AllByRecursion IsNotDown (lines_of (take p told))
          front zero told a = tt
          front (suc p) [] a = tt
          front (suc p) (t ∷ told) a = (a.0, front p told a.1)
