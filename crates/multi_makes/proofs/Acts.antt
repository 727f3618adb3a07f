-- What a `multi` did.
use Rattle.std.proofs.Common.{◌≡◌, ◌≢◌, ◌⊎◌, ⊎_elim, inl, inr, ℕ, Bool, true, false, IsTrue, List, [], ◌∷◌, IfOk, None, Some, Result, Ok, Err, append-nil, length, refl, sym, ap, subst, ◌∙◌}
use Rattle.std.specs.Bool.{then_some}
use Rattle.std.specs.Option.{option_or}
use Rattle.std.specs.List.{AllByRecursion, filter}
use Rattle.disk_core.specs.declared.log_disk.LogDisk as logs
use Rattle.disk_core.specs.declared.page_disk.PageDisk as disks
use Rattle.hall.specs.declared.hall.Hall.{Hall}
use Rattle.hall.specs.Calls.{IsOf, start_of, view}
use Rattle.tx_events.specs.declared.multi.MultiEvent.{MultiEvent}
use Rattle.tx_events.specs.declared.refusal.Refusal.{Refusal}
use Rattle.tx_events.specs.declared.refusal.Refusal.TheVariants as refusals
use Rattle.tx_events.specs.declared.event.By.{By}
use Rattle.tx_events.specs.Events.{is_of}
use Rattle.tx_events.specs.History.{next_given}
use Rattle.tx_events.specs.Horizon.{oldest_id}
use Rattle.tx_events.specs.Multis.{multi_by}
use Rattle.tx_events.specs.Running.{open_ids}
use Rattle.tx_model.specs.declared.command.Command.TheVariants as commands
use Rattle.tx_model.specs.declared.command.Pair.{Pair}
use Rattle.tx_model.specs.declared.reply.Reply.{Reply}
use Rattle.tx_model.specs.declared.reply.Reply.TheVariants as replies
use Rattle.tx_model.specs.Replies.{alone}
use Rattle.tx_model.specs.Stance.{Stance}
use Rattle.life_law.specs.MultiLines.{HasMultiEvents, may_have_given}
use Rattle.life_law.specs.Refused.{by_members, by_standing, is_by_members, is_by_standing, refused_by_members}
use Rattle.multi_store.specs.declared.answers.MultiGiven.{MultiGiven}
use Rattle.tx_core.specs.declared.entry.Entry.{Entry}
use Rattle.tx_core.specs.declared.entry.Kind.{Kind}
use Rattle.tx_core.specs.declared.entry.Start.{Start}
use Rattle.tx_core.specs.Entries.{history}
use Rattle.tx_core.specs.MultiEntries.{multi_history}
use Rattle.tx_core.proofs.Nearness.{multis_are_legal}
use Rattle.engine_parts.specs.declared.part.Part.{Part}
use Rattle.engine_parts.specs.declared.session.Caller.{Caller}
use Rattle.engine_parts.specs.declared.session.Session.{Session}
use Rattle.engine_parts.specs.declared.session.Stage.{Stage}
use Rattle.engine_parts.specs.Adding.{Adds, IsOfMulti, IsRecordBy, IsToldBy, MayAdd, MayLeave}
use Rattle.engine_parts.specs.Answers.{alone_multis, reply_of}
use Rattle.engine_parts.specs.Calls.{IsHeldBehind, MayStep, Ran}
use Rattle.engine_parts.specs.Makings.{KeepsMaking, has_more_multis}
use Rattle.engine_parts.specs.MultiAnswers.{MayAnswerMulti}
use Rattle.engine_parts.specs.Sessions.{MayCall, by_at, stance_of}
use Rattle.engine_parts.specs.Standing.{flushes}
use Rattle.engine_parts.specs.Steps.{WentMulti}
use Rattle.engine_parts.proofs.Adding.{adds_nothing, adds_wider, may_wider}
use Rattle.engine_parts.proofs.Beholding.{not_standing}
use Rattle.engine_parts.proofs.Refusing.{keeps_stage}
use Rattle.multi_sections.specs.Takings.{taken_event}
use Rattle.multi_makes.specs.Makes.{IsHeldUp, IsMade, IsMadeNew, IsNoneGiven, IsStopped, LeavesMaking, MakesNew, MakesNext, given_reply}
use Rattle.multi_makes.specs.Pending.{StopsMaking}
use Rattle.multi_makes.proofs.Going.{went_nothing}
use Rattle.multi_makes.proofs.Told.{Refuses, are_given, gave_none, gave_one, is_warned, keeps_given, keeps_held, keeps_made, keeps_none, keeps_refused, none_refuse, stops_refuse}

-- ---- what it adds

told_reply : (result : Result MultiGiven Refusal) (r : Refusal) → IsToldBy result r → reply_of given_reply result ≡ replies.Refused r
told_reply (Ok x) r told = absurd told
told_reply (Err e) r told = ap replies.Refused told

multi_leaves : (pairs : List Pair) (s : Stance) (stage : Stage) (opened : List ℕ) (result : Result MultiGiven Refusal) (lock : ℕ) (kind : Kind) → MayAdd IsOfMulti ⊥ (IsToldBy result) lock kind → MayLeave (commands.Multi pairs) s stage opened (reply_of given_reply result) lock kind
multi_leaves pairs s stage opened result =
    may_wider IsOfMulti (IsRecordBy (commands.Multi pairs) s stage opened) ⊥ (IsTrue (flushes (commands.Multi pairs) s stage)) (IsToldBy result) (λ r. reply_of given_reply result ≡ replies.Refused r)
    (λ rec m. m) (λ m. absurd m) (told_reply result)

-- ---- its words

pub words_are : (pairs : List Pair) (r : Refusal) → refused_by_members (commands.Multi pairs) ≡ Some r → (r ≡ refusals.MemberCount) ⊎ (r ≡ refusals.TwoUpdaters)
words_are pairs r = of _ _ r
  where
    of : (a b : Bool) (r : Refusal) → option_or (then_some a refusals.MemberCount) (option_or (then_some b refusals.TwoUpdaters) None) ≡ Some r → (r ≡ refusals.MemberCount) ⊎ (r ≡ refusals.TwoUpdaters)
    of true b r q = inl (let e : Some refusals.MemberCount ≡ Some r = q in cc)
    of false true r q = inr (let e : Some refusals.TwoUpdaters ≡ Some r = q in cc)
    of false false r q = absurd cc

pub words_by : (pairs : List Pair) (r : Refusal) → refused_by_members (commands.Multi pairs) ≡ Some r → is_by_members r ≡ true
words_by pairs r q = ⊎_elim (λ e. ap is_by_members e) (λ e. ap is_by_members e) (words_are pairs r q)

words_else : (pairs : List Pair) (r : Refusal) → refused_by_members (commands.Multi pairs) ≡ Some r → is_by_standing r ≡ false
words_else pairs r q = ⊎_elim (λ e. ap is_by_standing e) (λ e. ap is_by_standing e) (words_are pairs r q)

pub words_told : (r : Refusal) → is_by_members r ≡ true → by_members (replies.Refused r) ≡ Some r
words_told r q = ap (λ (b : Bool). then_some b r) q

pub words_free : (r : Refusal) → is_by_members r ≡ false → by_members (replies.Refused r) ≡ None
words_free r q = ap (λ (b : Bool). then_some b r) q

-- ---- the call

stops_gave : (start : Start) (lists : List (List Entry)) (by : By) (r : Refusal) → StopsMaking start lists by r → IsTrue (may_have_given r)
stops_gave start lists by (refusals.LogDown down) c = refl
stops_gave start lists by refusals.Full c = refl
stops_gave start lists by refusals.Memory c = refl
stops_gave start lists by (refusals.DiskFault lock) c = refl
stops_gave start lists by _ c = absurd c

module _ {H L P : Type 0} {l : logs.Ghosts L} {p : disks.Ghosts P} (hall : Hall H (Part L P l p) Entry Start) (u new : Caller L P l p) (pairs : List Pair) where
  abbrev start_now : Start
  start_now = start_of hall

  abbrev before_now : List (List Entry)
  before_now = (view u.pass).seen

  abbrev after_now : List (List Entry)
  after_now = (view new.pass).seen

  abbrev by_now : By
  by_now = by_at u.number u.session.levels.commands

  ran_multi : (reply : Reply) (events : List MultiEvent) → IsOf hall new.pass → MayCall start_now (view new.pass) new.number new.session → LeavesMaking u new → WentMulti u.number events before_now after_now → AllByRecursion (λ e. multi_by e ≡ by_now) events
      → Adds by_now (MayLeave (commands.Multi pairs) (stance_of u.session) u.session.stage (open_ids u.number (history before_now)) reply) before_now after_now
      → HasMultiEvents start_now.base (history after_now) (alone (history before_now) (history after_now)) (multi_history after_now) by_now (commands.Multi pairs) reply events
      → MayAnswerMulti (p.tells) start_now before_now after_now (alone (history before_now) (history after_now)) (alone_multis before_now after_now) by_now (stance_of u.session) u.session.stage (commands.Multi pairs) reply
      → by_standing reply ≡ None → IsHeldBehind start_now after_now (commands.Multi pairs) reply new.session.stage
      → KeepsMaking (commands.Multi pairs) reply (has_more_multis u.number before_now after_now) u.session.making new.session.making
      → Ran hall u.session.levels.commands (commands.Multi pairs) reply u new
  ran_multi reply events own may left went each adds fitting allowed apart held keeps = record {
    own = own;
    may = may;
    acted = record {
      grows = went.grows;
      added = [];
      own = went.own ∙ sym (append-nil (filter (is_of u.number) (history before_now)));
      each = tt;
      fitting = refl;
      multis = events;
      own_multi = went.multis;
      each_multi = each;
      fitting_multi = fitting;
      adds = adds;
      allowed = allowed;
      standing = apart;
      left = sym (ap stance_of left.session);
    };
    stage = keeps_stage (commands.Multi pairs) reply u.session.stage new.session.stage refl (ap (λ (z : Session). z.stage) left.session);
    held = held;
    still = λ q is. not_standing (by_standing reply) q apart is;
    making = keeps;
    count = (ap (λ (z : Session). z.levels.commands) left.session, left.number);
  }

  -- it was refused behind its words
  ran_refusal : (r : Refusal) (events : List MultiEvent) → IsOf hall new.pass → MayCall start_now (view new.pass) new.number new.session → LeavesMaking u new → WentMulti u.number events before_now after_now → AllByRecursion (λ e. multi_by e ≡ by_now) events
      → Adds by_now (MayAdd IsOfMulti ⊥ (λ q. r ≡ q)) before_now after_now
      → HasMultiEvents start_now.base (history after_now) (alone (history before_now) (history after_now)) (multi_history after_now) by_now (commands.Multi pairs) (replies.Refused r) events
      → Refuses (p.tells) start_now before_now after_now by_now (stance_of u.session) u.session.stage pairs r
      → KeepsMaking (commands.Multi pairs) (replies.Refused r) (has_more_multis u.number before_now after_now) u.session.making new.session.making
      → Ran hall u.session.levels.commands (commands.Multi pairs) (replies.Refused r) u new
  ran_refusal r events own may left went each adds fitting refuses keeps =
      ran_multi (replies.Refused r) events own may left went each
      (adds_wider by_now (MayAdd IsOfMulti ⊥ (λ q. r ≡ q)) _ before_now after_now (multi_leaves pairs (stance_of u.session) u.session.stage (open_ids u.number (history before_now)) (Err r)) adds)
      fitting refuses.allowed (ap (λ (b : Bool). then_some b r) refuses.apart) (refuses.held new.session.stage) keeps

  -- it came to its end, or stopped
  pub makes_ran : {banks : ℕ} (result : Result MultiGiven Refusal) → MayStep hall banks new → LeavesMaking u new → Adds by_now (MayAdd IsOfMulti ⊥ (IsToldBy result)) before_now after_now
      → MakesNext start_now u.number u.session new.session pairs before_now after_now result → Ran hall u.session.levels.commands (commands.Multi pairs) (reply_of given_reply result) u new
  makes_ran (Ok g) m left adds f =
      let made : IsMadeNew start_now u.number u.session pairs before_now after_now g = f.1 in
      let legal = multis_are_legal start_now after_now m.may.ready.at.kept in
      ran_multi (given_reply g) (taken_event u.number u.session made.members g ∷ []) m.own m.may left made.event.went (refl, tt)
      (adds_wider by_now (MayAdd IsOfMulti ⊥ (λ q. ⊥)) _ before_now after_now (multi_leaves pairs (stance_of u.session) u.session.stage (open_ids u.number (history before_now)) (Ok g)) adds)
      ((made.members, refl), are_given start_now before_now after_now pairs u.number u.session made.members g made.read)
      (is_warned start_now u.number u.session made.members g before_now after_now legal made.event)
      refl tt (keeps_made pairs (has_more_multis u.number before_now after_now) u.session.making new.session.making g f.0)
  makes_ran (Err r) m left adds f =
      ⊎_elim
      (λ (h : IsHeldUp start_now u.number u.session new.session before_now after_now r).
      ran_refusal r [] m.own m.may left h.went tt adds (inl refl) (stops_refuse p.tells start_now before_now after_now by_now (stance_of u.session) u.session.stage pairs h.went.grows r h.stops)
      (keeps_held pairs (has_more_multis u.number before_now after_now) u.session.making new.session.making start_now after_now by_now r (gave_none u.number before_now after_now h.went.multis) h.old h.new h.stops))
      (λ (n : MakesNew start_now u.number u.session new.session pairs before_now after_now (Err r)).
      ⊎_elim
      (λ (x : (new.session.making ≡ None) × WentMulti u.number [] before_now after_now × IsNoneGiven start_now after_now pairs r).
      ran_refusal r [] m.own m.may left x.1 tt adds (inl refl) (none_refuse p.tells start_now before_now after_now by_now (stance_of u.session) u.session.stage pairs x.1.grows r x.2)
      (keeps_none pairs (has_more_multis u.number before_now after_now) u.session.making new.session.making start_now.base (multi_history after_now) (next_given start_now.base.next (history after_now)) (oldest_id start_now.base.oldest (history after_now)) (length pairs) r (gave_none u.number before_now after_now x.1.multis) x.0 x.2))
      (λ (x : (new.session.making ≢ None) × IsStopped start_now u.number u.session pairs before_now after_now r).
      let s = x.1 in
      ran_refusal r (taken_event u.number u.session s.members s.given ∷ []) m.own m.may left s.event.went (refl, tt) adds
      (inr (stops_gave start_now after_now by_now r s.stops, are_given start_now before_now after_now pairs u.number u.session s.members s.given s.read))
      (stops_refuse p.tells start_now before_now after_now by_now (stance_of u.session) u.session.stage pairs s.event.went.grows r s.stops)
      (keeps_given pairs (has_more_multis u.number before_now after_now) u.session.making new.session.making r (gave_one u.number before_now after_now _ s.event.went.multis) x.0))
      n)
      f

  -- a refusal behind the words isn't one of them
  pub makes_words : (result : Result MultiGiven Refusal) → MakesNext start_now u.number u.session new.session pairs before_now after_now result → by_members (reply_of given_reply result) ≡ None
  makes_words (Ok g) f = refl
  makes_words (Err r) f =
      ⊎_elim
      (λ (h : IsHeldUp start_now u.number u.session new.session before_now after_now r). words_free r (stops_refuse p.tells start_now before_now after_now by_now (stance_of u.session) u.session.stage pairs h.went.grows r h.stops).words)
      (λ (n : MakesNew start_now u.number u.session new.session pairs before_now after_now (Err r)).
      ⊎_elim
      (λ (x : (new.session.making ≡ None) × WentMulti u.number [] before_now after_now × IsNoneGiven start_now after_now pairs r). words_free r (none_refuse p.tells start_now before_now after_now by_now (stance_of u.session) u.session.stage pairs x.1.grows r x.2).words)
      (λ (x : (new.session.making ≢ None) × IsStopped start_now u.number u.session pairs before_now after_now r). words_free r (stops_refuse p.tells start_now before_now after_now by_now (stance_of u.session) u.session.stage pairs x.1.event.went.grows r x.1.stops).words)
      n)
      f

-- its words refused it
module _ {H L P : Type 0} {l : logs.Ghosts L} {p : disks.Ghosts P} (hall : Hall H (Part L P l p) Entry Start) (u : Caller L P l p) (pairs : List Pair) where
  pub words_ran : {banks : ℕ} (r : Refusal) → MayStep hall banks u → refused_by_members (commands.Multi pairs) ≡ Some r → Ran hall u.session.levels.commands (commands.Multi pairs) (replies.Refused r) u u
  words_ran r m words =
      let lists = (view u.pass).seen in
      let went = went_nothing u.number lists in
      ran_multi hall u u pairs (replies.Refused r) [] m.own m.may (record { session = refl; number = refl }) went tt
      (adds_nothing (by_at u.number u.session.levels.commands) _ lists) (inl refl) (allowed r (words_are pairs r words)) (ap (λ (b : Bool). then_some b r) (words_else pairs r words)) (held r (words_are pairs r words))
      (keeps_refused pairs (has_more_multis u.number lists lists) u.session.making u.session.making r (gave_none u.number lists lists went.multis) refl (words_by pairs r words))
    where
      allowed : (r : Refusal) → (r ≡ refusals.MemberCount) ⊎ (r ≡ refusals.TwoUpdaters) → MayAnswerMulti (p.tells) (start_of hall) (view u.pass).seen (view u.pass).seen (alone (history (view u.pass).seen) (history (view u.pass).seen)) (alone_multis (view u.pass).seen (view u.pass).seen) (by_at u.number u.session.levels.commands) (stance_of u.session) u.session.stage (commands.Multi pairs) (replies.Refused r)
      allowed refusals.MemberCount q = tt
      allowed refusals.TwoUpdaters q = tt
      allowed _ q = absurd (⊎_elim (λ e. cc) (λ e. cc) q)

      held : (r : Refusal) → (r ≡ refusals.MemberCount) ⊎ (r ≡ refusals.TwoUpdaters) → IsHeldBehind (start_of hall) (view u.pass).seen (commands.Multi pairs) (replies.Refused r) u.session.stage
      held refusals.MemberCount q = tt
      held refusals.TwoUpdaters q = tt
      held _ q = absurd (⊎_elim (λ e. cc) (λ e. cc) q)

-- one that was answered is made whole
pub makes_done : (start : Start) (n : ℕ) (s s' : Session) (pairs : List Pair) (lists more : List (List Entry)) (result : Result MultiGiven Refusal) → MakesNext start n s s' pairs lists more result → IfOk result (IsMade start more n)
makes_done start n s s' pairs lists more (Ok g) f = record { members = f.1.members; done = f.1.done }
makes_done start n s s' pairs lists more (Err r) f = tt

-- by the members as they were passed
pub makes_items : (start : Start) (n : ℕ) (s s' : Session) (items pairs : List Pair) (lists more : List (List Entry)) (result : Result MultiGiven Refusal) → items ≡ pairs → MakesNext start n s s' items lists more result → MakesNext start n s s' pairs lists more result
makes_items start n s s' items pairs lists more result same m = subst (λ (l : List Pair). MakesNext start n s s' l lists more result) same m
