-- What a run's lines and events say fits a report.
use Rattle.std.proofs.Common.{◌≡◌, ℕ, zero, suc, ◌-◌, ◌^◌, ◌<◌, ◌≤◌, List, [], ◌∷◌, true, Option, Some, None, refl, sym, ap, subst, inr, ◌∙◌, inl, IsTrue, slice_get, ⊎_elim, arith, length, take, eqb-true, ◌==◌, ◌&&◌, nat_le, cond, false}
use Rattle.std.proofs.lemmas.Bool.{and_parts, false≢true}
use Rattle.std.proofs.lemmas.Grind.{common_steps}
use Rattle.std.specs.List.{AllByRecursion}
use Rattle.tx_events.specs.declared.event.By.{By}
use Rattle.tx_events.specs.declared.event.Event.{Event}
use Rattle.tx_events.specs.declared.event.Event.TheVariants as events
use Rattle.tx_events.specs.declared.record.Counters.{Counters}
use Rattle.tx_events.specs.declared.refusal.Lock.{Lock}
use Rattle.tx_events.specs.declared.refusal.Lock.TheVariants as locks
use Rattle.tx_events.specs.declared.refusal.Refusal.{Refusal}
use Rattle.tx_events.specs.declared.refusal.Refusal.TheVariants as refusals
use Rattle.tx_model.specs.declared.command.Command.{Command}
use Rattle.tx_model.specs.declared.command.Command.TheVariants as commands
use Rattle.tx_model.specs.declared.reply.Reply.{Reply}
use Rattle.tx_model.specs.declared.reply.Reply.TheVariants as replies
use Rattle.tx_model.specs.declared.report.Line.{Line}
use Rattle.tx_events.specs.Base.{IsBase}
use Rattle.tx_events.specs.Events.{by_of, events_of, given, same_by}
use Rattle.tx_events.specs.History.{IsLegal}
use Rattle.tx_events.specs.Horizon.{oldest_id}
use Rattle.tx_events.proofs.GivenIds.{legal_take}
use Rattle.tx_events.proofs.ListSteps.{all_filter}
use Rattle.tx_events.proofs.Membership.{Has, all_at, all_from, filter_has, has_any, has_filter, place_has}
use Rattle.tx_events.specs.Multis.{multi_by, oldest_offset}
use Rattle.tx_events.specs.declared.multi.MultiEvent.{MultiEvent}
use Rattle.tx_events.specs.declared.multi.MultiEvent.TheVariants as multis
use Rattle.life_law.specs.Answering.{IsLawfulAnswer, IsLawfulMultiReply}
use Rattle.life_law.specs.MultiLines.{HasMultiEvents, IsNotYet, MayCarry}
use Rattle.life_law.specs.MultiPlaces.{has_multi_line, multis_of}
use Rattle.life_law.specs.MultiReplies.{MayReplyMulti}
use Rattle.life_law.specs.MultiStanding.{gave_multi}
use Rattle.run_report.proofs.MultiFits.{GoodMultis, MadeFits, MultiNamed, first_fits, limit_fits, made_fit, member_to, multi_stop_fits, next_made_fits, oldest_multi_fits}
use Rattle.tx_events.proofs.OwnEvents.{same_by_swap}
use Rattle.tx_model.specs.CommandEvents.{HasEvents, MayHaveGiven, abort_event, ask_event, commit_event, giving, innermost, level_events, undo_event, was_asked}
use Rattle.tx_model.specs.Lines.{has_line}
use Rattle.tx_model.specs.Replies.{MayFindOldest, MayReply, RoundSpan}
use Rattle.tx_model.specs.Stance.{Stance, lacking, top_level}
use Rattle.tx_events.specs.Names.{IsName}
use Rattle.life_law.specs.Facts.{Facts}
use Rattle.life_law.specs.Replies.{IsBank, IsLawfulReply}
use Rattle.report_words.specs.Fits.{FitsBy, FitsId, FitsLock, FitsMulti, FitsPair, FitsReply, FitsSnap, FitsCommand, FitsEvent, FitsMultiEvent}
use Rattle.report_words.specs.Replies.{kind_of}
use Rattle.run_report.proofs.Ids.{AnnouncesFit, IdsFit, all_ids_fit, announced_fits, next_fits, oldest_fits, oldest_xmin_fits, snap_fits, stop_fits}

-- ---- replies

given_one : (by : By) (p : Option ℕ) (id : ℕ) (es : List Event) → given (giving by p id ∷ es) ≡ id ∷ given es
given_one by None id es = refl
given_one by (Some q) id es = refl

-- the ids that go to the levels
level_given : (by : By) (p : Option ℕ) (levels : List (Option ℕ)) (ids : List ℕ) → length ids ≡ lacking levels → given (level_events by p levels ids) ≡ ids
level_given by p [] [] e = refl
level_given by p [] (x ∷ ids) e = absurd (omega arith)
level_given by p (Some x ∷ levels) ids e = level_given by (Some x) levels ids e
level_given by p (None ∷ levels) [] e = refl
level_given by p (None ∷ levels) (id ∷ ids) e = given_one by p id (level_events by (Some id) levels ids) ∙ ap (λ t. id ∷ t) (level_given by (Some id) levels ids (grind (arith, common_steps)))

given_of_fit : (es : List Event) → AllByRecursion IdsFit es → AllByRecursion FitsId (given es)
given_of_fit [] a = tt
given_of_fit (events.Id by id ∷ es) a = (a.0, given_of_fit es a.1)
given_of_fit (events.Sub by parent id ∷ es) a = (a.0.1, given_of_fit es a.1)
given_of_fit (e ∷ es) a = given_of_fit es a.1

wrote_fits : (base : Counters) (h : List Event) (by : By) (s : Stance) (ids : List ℕ) → IsBase base → IsLegal base h → events_of by h ≡ level_events by None s.levels ids → length ids ≡ lacking s.levels → AllByRecursion FitsId ids
wrote_fits base h by s ids b l e n =
    subst (AllByRecursion FitsId) (ap given e ∙ level_given by None s.levels ids n) (given_of_fit (events_of by h) (all_filter IdsFit (λ x. same_by (by_of x) by) h (all_ids_fit base h b l)))

all_taken : {X : Type 0} (P : X → Type 0) (n : ℕ) (xs : List X) → AllByRecursion P xs → AllByRecursion P (take n xs)
all_taken P zero xs a = tt
all_taken P (suc n) [] a = tt
all_taken P (suc n) (x ∷ xs) a = (a.0, all_taken P n xs a.1)

-- the oldest id that is announced at a place
pub oldest_after : (base : Counters) (n : ℕ) (h : List Event) → IsBase base → AllByRecursion AnnouncesFit h → FitsId (oldest_id base.oldest (take n h))
oldest_after base n h b p = announced_fits base.oldest (take n h) (oldest_fits base b) (all_taken AnnouncesFit n h p)

-- an oldest id that a command may find
found_fits : (base : Counters) (h : List Event) (round : RoundSpan) (by : By) (oldest : ℕ) → IsBase base → AllByRecursion AnnouncesFit h → MayFindOldest base h round by oldest → FitsId oldest
found_fits base h round by oldest b p f = subst FitsId (sym f.oldest_is) (oldest_after base (f.place - f.lag) h b p)

-- a reply of the history
history_reply_fits : (base : Counters) (committed : List ℕ) (h : List Event) (round : RoundSpan) (by : By) (s : Stance) (c : Command) (r : Reply) → IsBase base → IsLegal base h → AllByRecursion AnnouncesFit h → MayReply base committed h round by s c r → HasEvents by s c r (events_of by h) → FitsReply (kind_of c) r
history_reply_fits base committed h round by s commands.Begin replies.Done b l p m e = refl
history_reply_fits base committed h round by s commands.Begin (replies.Refused refusals.AlreadyOpen) b l p m e = tt
history_reply_fits base committed h round by s commands.Save replies.Done b l p m e = refl
history_reply_fits base committed h round by s commands.Save (replies.Refused refusals.NoTransaction) b l p m e = tt
history_reply_fits base committed h round by s commands.Save (replies.Refused refusals.DepthLimit) b l p m e = tt
history_reply_fits base committed h round by s commands.Write (replies.Wrote warn ids) b l p m e = (refl, wrote_fits base h by s ids b l e.0 e.1)
history_reply_fits base committed h round by s commands.Write (replies.Refused refusals.NoTransaction) b l p m e = tt
history_reply_fits base committed h round by s commands.Write (replies.Refused (refusals.Stop next stop)) b l p m e =
    (subst FitsId (sym m.1.next_is) (next_fits base (take m.1.place h) b (legal_take base h m.1.place l)), subst FitsId (sym m.1.stop_is) (stop_fits _))
history_reply_fits base committed h round by s commands.Release replies.Done b l p m e = refl
history_reply_fits base committed h round by s commands.Release (replies.Refused refusals.NoSavepoint) b l p m e = tt
history_reply_fits base committed h round by s commands.Undo replies.Done b l p m e = refl
history_reply_fits base committed h round by s commands.Undo (replies.Refused refusals.NoSavepoint) b l p m e = tt
history_reply_fits base committed h round by s commands.Commit replies.Done b l p m e = refl
history_reply_fits base committed h round by s commands.Commit (replies.Refused refusals.NoTransaction) b l p m e = tt
history_reply_fits base committed h round by s commands.Abort replies.Done b l p m e = refl
history_reply_fits base committed h round by s commands.Abort (replies.Refused refusals.NoTransaction) b l p m e = tt
history_reply_fits base committed h round by s commands.Horizon (replies.Horizon xmin) b l p m e =
    (refl, subst FitsId (sym m.xmin_is) (oldest_xmin_fits base (take m.place h) b (legal_take base h m.place l)))
history_reply_fits base committed h round by s (commands.Snap name) (replies.Snapped lists) b l p m e = (refl, subst FitsSnap (sym m.4) (snap_fits base (take m.2 h) b (legal_take base h m.2 l)))
history_reply_fits base committed h round by s (commands.Snap name) (replies.Refused refusals.NameTaken) b l p m e = tt
history_reply_fits base committed h round by s (commands.Snap name) (replies.Refused refusals.SnapLimit) b l p m e = tt
history_reply_fits base committed h round by s (commands.DropSnap name) replies.Done b l p m e = refl
history_reply_fits base committed h round by s (commands.DropSnap name) (replies.Refused refusals.NoSnapshot) b l p m e = tt
history_reply_fits base committed h round by s (commands.See name x) (replies.Seen visible) b l p m e = refl
history_reply_fits base committed h round by s (commands.See name x) (replies.Refused (refusals.TooOld oldest)) b l p m e =
    found_fits base h round by oldest b p m.2.found
history_reply_fits base committed h round by s (commands.See name x) (replies.Refused refusals.NoSnapshot) b l p m e = tt
history_reply_fits base committed h round by s (commands.Status x) (replies.Known status) b l p m e = refl
history_reply_fits base committed h round by s (commands.Status x) (replies.Refused (refusals.TooOld oldest)) b l p m e = found_fits base h round by oldest b p m.2
history_reply_fits base committed h round by s (commands.Status x) (replies.Refused (refusals.Future next)) b l p m e =
    subst FitsId (sym m.next_is) (next_fits base (take m.place h) b (legal_take base h m.place l))
history_reply_fits base committed h round by s (commands.Did x) (replies.Refused (refusals.TooOld oldest)) b l p m e = found_fits base h round by oldest b p m.found
history_reply_fits base committed h round by s (commands.Freeze oldest) replies.Done b l p m e = refl
history_reply_fits base committed h round by s (commands.Freeze oldest) (replies.Refused (refusals.Backward now)) b l p m e =
    subst (λ n. n < 2 ^ 64) (sym m.now_is) (oldest_after base m.place h b p).0
history_reply_fits base committed h round by s (commands.Freeze oldest) (replies.Refused (refusals.TooNew limit)) b l p m e =
    subst FitsId (sym m.limit_is) (oldest_xmin_fits base (take m.place h) b (legal_take base h m.place l))
history_reply_fits base committed h round by s c r b l p m e = absurd m

-- what a life tells with which its replies can be told
pub record CanTell (f : Facts) : Type 0 where
  pub base : IsBase f.base
  pub history : IsLegal f.base f.events
  pub announced : AllByRecursion AnnouncesFit f.events
  pub banks : f.banks ≤ 16
  pub flushed : f.flushed < 2 ^ 64
  pub multis : GoodMultis f.base f.multis
  pub named : AllByRecursion MultiNamed f.multis

pub bank_fits : (banks : ℕ) (lock : Lock) → banks ≤ 16 → IsBank banks lock → FitsLock lock
bank_fits banks (locks.Xact bank) b i = omega arith
bank_fits banks (locks.Subtrans bank) b i = omega arith
bank_fits banks (locks.Offsets bank) b i = omega arith
bank_fits banks (locks.Members bank) b i = omega arith
bank_fits banks lock b i = absurd i

-- a lawful reply to a command on no multixact
plain_reply_fits : (f : Facts) (round : RoundSpan) (by : By) (s : Stance) (o : Option Refusal) (c : Command) (r : Reply) → CanTell f → IsLawfulReply f round by s o c r → HasEvents by s c r (events_of by f.events) → FitsReply (kind_of c) r
plain_reply_fits f round by s o c (replies.Refused refusals.Memory) t m e = tt
plain_reply_fits f round by s o c (replies.Refused (refusals.DiskFault lock)) t m e = bank_fits f.banks lock t.banks m.1
plain_reply_fits f round by s o c (replies.Refused refusals.LogFault) t m e = tt
plain_reply_fits f round by s o c (replies.Refused refusals.Full) t m e = tt
plain_reply_fits f round by s o c (replies.Refused (refusals.LogDown at)) t m e = subst (λ n. n < 2 ^ 64) (sym m.1) t.flushed
plain_reply_fits f round by s o c (replies.Refused refusals.CommitPending) t m e = tt
plain_reply_fits f round by s o c (replies.Refused refusals.AbortPending) t m e = tt
plain_reply_fits f round by s o c (replies.Refused refusals.UndoPending) t m e = tt
plain_reply_fits f round by s o (commands.See name x) (replies.Seen visible) t m e = refl
plain_reply_fits f round by s o c (replies.Seen visible) t m e = absurd (false≢true m.0)
plain_reply_fits f round by s o (commands.Status x) (replies.Known status) t m e = refl
plain_reply_fits f round by s o (commands.Did x) (replies.Did answer) t m e = refl
plain_reply_fits f round by s o c r t m e = history_reply_fits f.base f.committed f.events round by s c r t.base t.history t.announced m e

-- an oldest id that a command may carry
carried_fits : (base : Counters) (h : List Event) (round : RoundSpan) (oldest : ℕ) → IsBase base → AllByRecursion AnnouncesFit h → MayCarry base h round oldest → FitsId oldest
carried_fits base h round oldest b p c = ⊎_elim
    (λ (e : oldest ≡ base.oldest). subst FitsId (sym e) (oldest_fits base b))
    (λ (e : (place : ℕ) × (by : By) × (place < round.to) × (slice_get h place ≡ Some (events.Oldest by oldest))). all_at AnnouncesFit h (events.Oldest e.1 oldest) p (place_has h e.0 (events.Oldest e.1 oldest) e.3))
    c

-- a reply to a command on multixacts
multi_reply_fits : (NotYet : ℕ → Type 0) (f : Facts) (round span : RoundSpan) (by : By) (s : Stance) (c : Command) (r : Reply) → CanTell f → FitsCommand c → HasMultiEvents f.base f.events round f.multis by c r (multis_of by f.multis) → MayReplyMulti (IsTrue f.tells) NotYet f.base f.committed f.recorded f.events f.multis round span by s c r → FitsReply (kind_of c) r
multi_reply_fits NotYet f round span by s (commands.Multi pairs) (replies.Multi multi offset warn) t k e m =
    let gen : MultiEvent = multis.Gen by multi offset e.0.0 in
    let own : Has (multis_of by f.multis) gen = subst (λ es. Has es gen) (sym e.0.1) (inl refl) in
    let made = all_at MadeFits f.multis gen (made_fit f.base f.multis t.multis) (has_filter (λ x. same_by (multi_by x) by) f.multis gen own).0 in
    let low = made.1 in
    (refl, made.0, omega (arith, low))
multi_reply_fits NotYet f round span by s (commands.Multi pairs) (replies.Refused (refusals.NotGiven x)) t k e m = let p = all_at FitsPair pairs m.pair k (place_has pairs m.number m.pair m.stands) in subst (λ n. n < 2 ^ 32) m.its p
multi_reply_fits NotYet f round span by s (commands.Multi pairs) (replies.Refused (refusals.TooOld oldest)) t k e m = carried_fits f.base f.events round oldest t.base t.announced m.carried
multi_reply_fits NotYet f round span by s (commands.Multi pairs) (replies.Refused (refusals.MultiStop next stop)) t k e m = (subst FitsMulti (sym m.next_is) (next_made_fits f.base f.multis m.place t.multis), subst FitsMulti (sym m.stop_is) (multi_stop_fits _))
multi_reply_fits NotYet f round span by s (commands.Multi pairs) (replies.Refused (refusals.MemberStop next stop)) t k e m = (subst (λ n. n < 2 ^ 64) (sym m.next_is) (first_fits f.base f.multis m.place t.multis), let to = member_to (oldest_offset f.base.oldest_offset (take m.place f.multis)) in let is = m.stop_is in omega (arith, to, is))
multi_reply_fits NotYet f round span by s (commands.Multi pairs) (replies.Refused refusals.MemberCount) t k e m = tt
multi_reply_fits NotYet f round span by s (commands.Multi pairs) (replies.Refused refusals.TwoUpdaters) t k e m = tt
multi_reply_fits NotYet f round span by s (commands.SeeMulti name x) (replies.Verdicts verdicts) t k e m = (refl, m.0)
multi_reply_fits NotYet f round span by s (commands.SeeMulti name x) (replies.Refused (refusals.NotYet multi)) t k e m = m.0
multi_reply_fits NotYet f round span by s (commands.SeeMulti name x) (replies.Refused (refusals.MultiTooOld oldest)) t k e m = subst FitsMulti (sym m.oldest_is) (oldest_multi_fits f.base f.multis m.place t.multis t.named)
multi_reply_fits NotYet f round span by s (commands.SeeMulti name x) (replies.Refused (refusals.MultiFuture next)) t k e m = subst FitsMulti (sym m.next_is) (next_made_fits f.base f.multis m.place t.multis)
multi_reply_fits NotYet f round span by s (commands.SeeMulti name x) (replies.Refused refusals.NoSnapshot) t k e m = tt
multi_reply_fits NotYet f round span by s (commands.MultiFreeze multi) replies.Done t k e m = refl
multi_reply_fits NotYet f round span by s (commands.MultiFreeze multi) (replies.Refused (refusals.Backward now)) t k e m = subst (λ n. n < 2 ^ 64) (sym m.now_is) (oldest_multi_fits f.base f.multis m.place t.multis t.named).0
multi_reply_fits NotYet f round span by s (commands.MultiFreeze multi) (replies.Refused (refusals.Held limit)) t k e m = subst FitsMulti (sym m.limit_is) (limit_fits f.base f.multis m.place t.multis t.named)
multi_reply_fits NotYet f round span by s (commands.MultiFreeze multi) (replies.Refused (refusals.NotYet next)) t k e m = m.0
multi_reply_fits NotYet f round span by s commands.Trim replies.Done t k e m = refl
multi_reply_fits NotYet f round span by s c r t k e m = absurd m

-- a lawful one
lawful_multi_fits : (f : Facts) (before : List Line) (round span : RoundSpan) (by : By) (s : Stance) (o : Option Refusal) (c : Command) (r : Reply) → CanTell f → FitsCommand c → HasMultiEvents f.base f.events round f.multis by c r (multis_of by f.multis) → IsLawfulMultiReply f before round span by s o c r → FitsReply (kind_of c) r
lawful_multi_fits f before round span by s o c (replies.Refused refusals.Memory) t k e m = tt
lawful_multi_fits f before round span by s o c (replies.Refused (refusals.DiskFault lock)) t k e m = bank_fits f.banks lock t.banks m.1
lawful_multi_fits f before round span by s o c (replies.Refused refusals.LogFault) t k e m = tt
lawful_multi_fits f before round span by s o c (replies.Refused refusals.Full) t k e m = tt
lawful_multi_fits f before round span by s o c (replies.Refused (refusals.LogDown at)) t k e m = subst (λ n. n < 2 ^ 64) (sym m.1) t.flushed
lawful_multi_fits f before round span by s o c r t k e m = multi_reply_fits (IsNotYet f.base f.recorded f.multis span (gave_multi before) by) f round span by s c r t k e m

-- a lawful reply
pub reply_fits : (f : Facts) (before : List Line) (round span : RoundSpan) (by : By) (s : Stance) (o : Option Refusal) (c : Command) (r : Reply) → CanTell f → FitsCommand c → HasMultiEvents f.base f.events round f.multis by c r (multis_of by f.multis) → IsLawfulAnswer f before round span by s o c r → HasEvents by s c r (events_of by f.events) → FitsReply (kind_of c) r
reply_fits f before round span by s o (commands.Multi pairs) r t k e m h = lawful_multi_fits f before round span by s o (commands.Multi pairs) r t k e m
reply_fits f before round span by s o (commands.SeeMulti name x) r t k e m h = lawful_multi_fits f before round span by s o (commands.SeeMulti name x) r t k e m
reply_fits f before round span by s o (commands.MultiFreeze multi) r t k e m h = lawful_multi_fits f before round span by s o (commands.MultiFreeze multi) r t k e m
reply_fits f before round span by s o commands.Trim r t k e m h = lawful_multi_fits f before round span by s o commands.Trim r t k e m
reply_fits f before round span by s o c r t k e m h = plain_reply_fits f round by s o c r t m h

-- ---- events

-- the names of snapshots, and the ids that are asked for or announced
abbrev pub NamesFit : Event → Type 0
NamesFit (events.Snap name by) = IsName name
NamesFit (events.SnapDrop name by) = IsName name
NamesFit (events.Oldest by oldest) = FitsId oldest
NamesFit (events.Ask by id) = FitsId id
NamesFit _ = Unit {0}

pub announces_fit : (e : Event) → NamesFit e → AnnouncesFit e
announces_fit (events.Oldest by oldest) n = n
announces_fit e n = tt

giving_named : (by : By) (p : Option ℕ) (id : ℕ) → NamesFit (giving by p id)
giving_named by None id = tt
giving_named by (Some q) id = tt

levels_named : (by : By) (p : Option ℕ) (levels : List (Option ℕ)) (ids : List ℕ) → AllByRecursion NamesFit (level_events by p levels ids)
levels_named by p [] ids = tt
levels_named by p (Some x ∷ levels) ids = levels_named by (Some x) levels ids
levels_named by p (None ∷ levels) [] = tt
levels_named by p (None ∷ levels) (id ∷ ids) = (giving_named by p id, levels_named by (Some id) levels ids)

undo_named : (by : By) (o : Option ℕ) → AllByRecursion NamesFit (undo_event by o)
undo_named by None = tt
undo_named by (Some id) = (tt, tt)

commit_named : (by : By) (o : Option ℕ) → AllByRecursion NamesFit (commit_event by o)
commit_named by None = tt
commit_named by (Some id) = (tt, tt)

abort_named : (by : By) (o : Option ℕ) → AllByRecursion NamesFit (abort_event by o)
abort_named by None = tt
abort_named by (Some id) = (tt, tt)

ask_named : (by : By) (x : ℕ) (r : Reply) → FitsCommand (commands.Status x) → AllByRecursion NamesFit (ask_event by x r)
ask_named by x r f = elim (was_asked r && nat_le 3 x) as (λ b. AllByRecursion NamesFit (cond b (events.Ask by x ∷ []) [])) [ true ↦ (asked_fits x f, tt) | false ↦ tt ]
  where
    asked_fits : (x : ℕ) → FitsCommand (commands.Status x) → FitsId x
    asked_fits x f = (let to = f.1 in omega arith, f.0)

-- the events of a command
pub own_named : (by : By) (s : Stance) (c : Command) (r : Reply) (es : List Event) → FitsCommand c → HasEvents by s c r es → AllByRecursion NamesFit es
own_named by s commands.Write (replies.Wrote warn ids) es f e = subst (AllByRecursion NamesFit) (sym e.0) (levels_named by None s.levels ids)
own_named by s commands.Write (replies.Refused refusal) es f e = ⊎_elim
    (λ (a : es ≡ []). subst (AllByRecursion NamesFit) (sym a) tt)
    (λ (a : (ids : List ℕ) × (es ≡ level_events by None s.levels ids) × MayHaveGiven refusal (lacking s.levels) (length ids)). subst (AllByRecursion NamesFit) (sym a.1) (levels_named by None s.levels a.0))
    e
own_named by s commands.Undo replies.Done es f e = subst (AllByRecursion NamesFit) (sym e) (undo_named by (innermost s.levels))
own_named by s commands.Commit replies.Done es f e = subst (AllByRecursion NamesFit) (sym e) (commit_named by (top_level s.levels))
own_named by s commands.Abort replies.Done es f e = subst (AllByRecursion NamesFit) (sym e) (abort_named by (top_level s.levels))
own_named by s (commands.Snap name) (replies.Snapped lists) es f e = subst (AllByRecursion NamesFit) (sym e) (f, tt)
own_named by s (commands.DropSnap name) replies.Done es f e = subst (AllByRecursion NamesFit) (sym e) (f, tt)
own_named by s (commands.Status x) r es f e = subst (AllByRecursion NamesFit) (sym e) (ask_named by x r f)
own_named by s (commands.Freeze oldest) replies.Done es f e = subst (AllByRecursion NamesFit) (sym e) ((let to = f.1 in omega arith, inr f.0), tt)
own_named by s c r es f e = subst (AllByRecursion NamesFit) (sym e) tt

-- a line whose number and events fit
pub record LineFits (names : List (List ℕ)) (h : List Event) (all : List MultiEvent) (l : Line) : Type 0 where
  pub by : FitsBy names l.by
  pub events : AllByRecursion NamesFit (events_of l.by h)
  pub multis : AllByRecursion MultiNamed (multis_of l.by all)

pub record EventFits (names : List (List ℕ)) (e : Event) : Type 0 where
  pub by : FitsBy names (by_of e)
  pub named : NamesFit e

-- an event of one of these lines
event_of_line : (names : List (List ℕ)) (h : List Event) (all : List MultiEvent) (lines : List Line) → AllByRecursion (LineFits names h all) lines → (e : Event) → Has h e → has_line lines e ≡ true → EventFits names e
event_of_line names h all lines a e k t =
    let one = has_any (λ l. same_by l.by (by_of e)) lines t in
    let fits = all_at (LineFits names h all) lines one.0 a one.1 in
    let parts = and_parts (one.0.by.session == (by_of e).session) (one.0.by.command == (by_of e).command) one.2 in
    record {
      by = record {
        session = subst (λ n. n < length names) (eqb-true one.0.by.session (by_of e).session parts.0) fits.by.session;
        command = subst (λ n. n < 2 ^ 64) (eqb-true one.0.by.command (by_of e).command parts.1) fits.by.command;
      };
      named = all_at NamesFit (events_of one.0.by h) e fits.events (filter_has (λ x. same_by (by_of x) one.0.by) h e k (same_by_swap one.0.by (by_of e) one.2));
    }

pub all_event_fit : (names : List (List ℕ)) (h : List Event) (all : List MultiEvent) (lines : List Line) → AllByRecursion (LineFits names h all) lines → AllByRecursion (λ e. has_line lines e ≡ true) h → AllByRecursion (EventFits names) h
all_event_fit names h all lines a t = all_from (EventFits names) h (λ e k. event_of_line names h all lines a e k (all_at (λ x. has_line lines x ≡ true) h e t k))

event_fits : (names : List (List ℕ)) (e : Event) → FitsBy names (by_of e) → NamesFit e → IdsFit e → FitsEvent names e
event_fits names (events.Id by id) f n i = (f, i)
event_fits names (events.Sub by parent id) f n i = (f, i.0, i.1)
event_fits names (events.Undo by id) f n i = (f, i)
event_fits names (events.Commit by top) f n i = (f, i)
event_fits names (events.Abort by top) f n i = (f, i)
event_fits names (events.Snap name by) f n i = (f, n)
event_fits names (events.SnapDrop name by) f n i = (f, n)
event_fits names (events.Oldest by oldest) f n i = (f, n)
event_fits names (events.Ask by id) f n i = (f, n)

pub events_fit : (names : List (List ℕ)) (h : List Event) → AllByRecursion (EventFits names) h → AllByRecursion IdsFit h → AllByRecursion (FitsEvent names) h
events_fit names [] a i = tt
events_fit names (e ∷ h) a i = (event_fits names e a.0.by a.0.named i.0, events_fit names h a.1 i.1)

pub fits_by : (names : List (List ℕ)) (e : Event) → FitsEvent names e → FitsBy names (by_of e)
fits_by names (events.Id by id) f = f.0
fits_by names (events.Sub by parent id) f = f.0
fits_by names (events.Undo by id) f = f.0
fits_by names (events.Commit by top) f = f.0
fits_by names (events.Abort by top) f = f.0
fits_by names (events.Snap name by) f = f.0
fits_by names (events.SnapDrop name by) f = f.0
fits_by names (events.Oldest by oldest) f = f.0
fits_by names (events.Ask by id) f = f.0

-- ---- multixact events

-- an event of one of these lines
multi_of_line : (names : List (List ℕ)) (h : List Event) (all : List MultiEvent) (lines : List Line) → AllByRecursion (LineFits names h all) lines → (e : MultiEvent) → Has all e → has_multi_line lines e ≡ true → FitsBy names (multi_by e) × MultiNamed e
multi_of_line names h all lines a e k t =
    let one = has_any (λ l. same_by l.by (multi_by e)) lines t in
    let fits = all_at (LineFits names h all) lines one.0 a one.1 in
    let parts = and_parts (one.0.by.session == (multi_by e).session) (one.0.by.command == (multi_by e).command) one.2 in (
      record {
        session = subst (λ n. n < length names) (eqb-true one.0.by.session (multi_by e).session parts.0) fits.by.session;
        command = subst (λ n. n < 2 ^ 64) (eqb-true one.0.by.command (multi_by e).command parts.1) fits.by.command;
      },
      all_at MultiNamed (multis_of one.0.by all) e fits.multis (filter_has (λ x. same_by (multi_by x) one.0.by) all e k (same_by_swap one.0.by (multi_by e) one.2)),
    )

-- what the lines say of a multixact event
pub record MultiSaid (names : List (List ℕ)) (e : MultiEvent) : Type 0 where
  pub by : FitsBy names (multi_by e)
  pub named : MultiNamed e

pub all_multi_said : (names : List (List ℕ)) (h : List Event) (all : List MultiEvent) (lines : List Line) → AllByRecursion (LineFits names h all) lines → AllByRecursion (λ e. has_multi_line lines e ≡ true) all → AllByRecursion (MultiSaid names) all
all_multi_said names h all lines a t = all_from (MultiSaid names) all (λ e k. let s = multi_of_line names h all lines a e k (all_at (λ x. has_multi_line lines x ≡ true) all e t k) in record { by = s.0; named = s.1 })

multi_fits : (names : List (List ℕ)) (e : MultiEvent) → FitsBy names (multi_by e) → MultiNamed e → MadeFits e → FitsMultiEvent names e
multi_fits names (multis.Gen by multi offset members) f n m = (f, m.0, (let k = m.1 in omega (arith, k)), n)
multi_fits names (multis.Hold by multi) f n m = (f, n)
multi_fits names (multis.Unhold by multi) f n m = (f, n)
multi_fits names (multis.Raise by multi offset) f n m = (f, n, omega (arith, m))

pub multis_fit : (names : List (List ℕ)) (all : List MultiEvent) → AllByRecursion (MultiSaid names) all → AllByRecursion MadeFits all → AllByRecursion (FitsMultiEvent names) all
multis_fit names [] a m = tt
multis_fit names (e ∷ all) a m = (multi_fits names e a.0.by a.0.named m.0, multis_fit names all a.1 m.1)

pub multi_fits_by : (names : List (List ℕ)) (e : MultiEvent) → FitsMultiEvent names e → FitsBy names (multi_by e)
multi_fits_by names (multis.Gen by multi offset members) f = f.0
multi_fits_by names (multis.Hold by multi) f = f.0
multi_fits_by names (multis.Unhold by multi) f = f.0
multi_fits_by names (multis.Raise by multi offset) f = f.0
