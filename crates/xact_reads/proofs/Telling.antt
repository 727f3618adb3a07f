-- What is told of an id that is asked for by the stores alone.
use Rattle.std.proofs.Common.{Bool, false, not, nat_eq, ◌≡◌, ℕ, zero, suc, ◌<◌, ◌≤◌, List, [], ◌++◌, None, Some, Option, IfSome, IsTrue, length, length-append, take_all, inl, inr, refl, sym, ap, subst, ◌∙◌, ⊎_elim, arith, le-leb}
use Rattle.std.proofs.lemmas.Bool.{false≢true, false_from_ne_true}
use Rattle.notes.specs.Lists.{Grows, at}
use Rattle.tx_events.specs.declared.order.Xid.{Xid}
use Rattle.tx_events.specs.Nearest.{IsNearest, near_id}
use Rattle.tx_events.specs.declared.event.By.{By}
use Rattle.tx_events.specs.declared.event.Event.{Event}
use Rattle.tx_events.specs.declared.record.Rec.{Rec}
use Rattle.tx_events.specs.declared.refusal.Lock.TheVariants as locks
use Rattle.tx_events.specs.declared.refusal.Refusal.{Refusal}
use Rattle.tx_events.specs.declared.refusal.Refusal.TheVariants as refusals
use Rattle.tx_events.specs.Events.{given}
use Rattle.tx_events.specs.History.{next_given}
use Rattle.tx_events.specs.Visible.{is_visible}
use Rattle.tx_model.specs.declared.command.Command.TheVariants as commands
use Rattle.tx_model.specs.declared.reply.Reply.TheVariants as replies
use Rattle.tx_model.specs.Replies.{IsNearNext, MayFindOldest, MayReadAt, MayReply, RoundSpan, alone}
use Rattle.tx_model.proofs.Growth.{may_reply_grows, near_next_grows}
use Rattle.life_law.specs.DidCommit.{IsDid, special_did}
use Rattle.life_law.specs.Refused.{by_standing}
use Rattle.life_law.proofs.DidGrowth.{did_grows}
use Rattle.tx_core.specs.declared.entry.Entry.{Entry}
use Rattle.tx_core.specs.declared.entry.Start.{Start}
use Rattle.tx_core.specs.Entries.{AreFewIds, history, recs_in}
use Rattle.tx_core.specs.Locks.{log_lock}
use Rattle.session_levels.proofs.ActsLemmas.{reads_last}
use Rattle.proc_sections.specs.declared.looking.Horizons.{Horizons}
use Rattle.proc_sections.specs.Horizons.{AreHorizonsOf}
use Rattle.bank_sections.specs.Faults.{IsSubtransFault}
use Rattle.engine_parts.specs.declared.session.Session.{Session}
use Rattle.engine_parts.specs.Answers.{MayAnswer}
use Rattle.engine_parts.specs.Holds.{Knowledge}
use Rattle.engine_parts.specs.Sessions.{IsAt, by_at, stance_of}
use Rattle.engine_parts.specs.Stand.{IsInUse}
use Rattle.engine_parts.specs.Steps.{WentOn}
use Rattle.engine_parts.proofs.Answering.{few_before}
use Rattle.engine_parts.proofs.Unmoved.{went_longer}
use Rattle.xact_reads.specs.Ancestors.{StoresSay, StoresTell}
use Rattle.xact_reads.specs.Readings.{IsStateUnread, IsUnread}
use Rattle.xact_reads.specs.Stores.{DidAsTold}
use Rattle.xact_reads.proofs.Going.{others_went}
use Rattle.xact_reads.proofs.Replying.{finds_oldest, oldest_from}
use Rattle.xact_reads.proofs.Storing.{visible_given}
use Rattle.bank_sections.proofs.Nearing.{nth_near}

-- a special id has its fixed answer
pub special_told : (x : ℕ) → not (nat_eq x 0) ≡ special_did x
special_told zero = refl
special_told (suc x) = refl

-- ---- what was read

-- an id that wasn't given is asked of no store
pub tells_ungiven : (start : Start) (lists look : List (List Entry)) (x id : ℕ) (found : Horizons) → AreHorizonsOf start.base (history look) found → Grows lists look → near_id found.next x ≡ Some id → found.next ≤ id → StoresTell start lists look x false
tells_ungiven start lists look x id found is g near past = record {
  id = id;
  look = look;
  since = g;
  near = ap (λ z. near_id z x) (sym is.next) ∙ near;
  said = inl (subst (λ z. z ≤ id) is.next past, refl);
}

-- and of any other one the stores say it
pub tells_read : (start : Start) (lists look more : List (List Entry)) (x id : ℕ) (found : Horizons) (answer : Bool) → AreHorizonsOf start.base (history look) found → Grows lists look → near_id found.next x ≡ Some id → StoresSay start look more found.oldest_xmin id answer → StoresTell start lists more x answer
tells_read start lists look more x id found answer is g near said = record {
  id = id;
  look = look;
  since = g;
  near = ap (λ z. near_id z x) (sym is.next) ∙ near;
  said = inr (subst (λ z. StoresSay start look more z id answer) is.xmin said);
}

-- ---- what is told

-- The horizons were read at one look, behind a beginning of the call; then the stores were read.
module _ (start : Start) (v u w : Knowledge) (n : ℕ) (s : Session) (x : Xid) (found : Horizons) (a : IsAt start u n s) (b : IsAt start w n s) (first : WentOn n [] v.seen u.seen) (second : WentOn n [] u.seen w.seen) (normal : 3 ≤ x.number) (is : AreHorizonsOf start.base (history u.seen) found) where
  abbrev by : By
  by = by_at n s.levels.commands

  abbrev h : List Event
  h = history u.seen

  abbrev span : RoundSpan
  span = alone (history v.seen) h

  longer : length (history v.seen) ≤ length h
  longer = went_longer n v.seen u.seen first

  reads_here : MayReadAt h span by (length h)
  reads_here = reads_last by (history v.seen) h longer a.stands.turn

  near_here : (o : Option ℕ) → near_id found.next x.number ≡ o → IsNearNext start.base h span by x.number o
  near_here o near = record {
    place = length h;
    read = reads_here;
    near = ap (λ (t : List Event). near_id (next_given start.base.next t) x.number) (take_all (length h) h (omega arith)) ∙ (ap (λ z. near_id z x.number) (sym is.next) ∙ near);
  }

  near_later : (o : Option ℕ) → near_id found.next x.number ≡ o → IsNearNext start.base (history w.seen) (alone (history v.seen) (history w.seen)) by x.number o
  near_later o near =
      let others = others_went by u.seen w.seen second in
      let long = longer in
      subst (λ (t : List Event). IsNearNext start.base t (alone (history v.seen) t) by x.number o) others.split
      (near_next_grows start.base h others.rest span (alone (history v.seen) (h ++ others.rest)) by x.number o (omega arith) (omega (arith, length-append h others.rest)) (omega arith) others.later (near_here o near))

  oldest_here : MayFindOldest start.base h span by found.oldest
  oldest_here = subst (MayFindOldest start.base h span by) (sym is.oldest) (finds_oldest start.base by (history v.seen) h longer a.stands.turn)

  -- behind the reads of the stores, in which others went on
  later : (r : Refusal) → MayReply start.base start.committed h span by (stance_of s) (commands.Did x) (replies.Refused r) → MayReply start.base start.committed (history w.seen) (alone (history v.seen) (history w.seen)) by (stance_of s) (commands.Did x) (replies.Refused r)
  later r m =
      let others = others_went by u.seen w.seen second in
      let long = longer in
      subst (λ (t : List Event). MayReply start.base start.committed t (alone (history v.seen) t) by (stance_of s) (commands.Did x) (replies.Refused r)) others.split
      (may_reply_grows start.base start.committed h others.rest span (alone (history v.seen) (h ++ others.rest)) by (stance_of s) (commands.Did x) (replies.Refused r) (omega arith) (omega (arith, length-append h others.rest)) (omega arith) others.later m)

  -- that there is no such id, or it is before the oldest one
  pub told_too_old : (tells : Bool) (o : Option ℕ) → near_id found.next x.number ≡ o → IfSome o (λ id. id < found.oldest)
      → MayAnswer tells start w.seen (alone (history v.seen) (history w.seen)) by (stance_of s) s.stage (commands.Did x) (replies.Refused (refusals.TooOld found.oldest))
  told_too_old tells o near older = later (refusals.TooOld found.oldest) (record { normal = normal; id = o; near = near_here o near; older = older; found = oldest_here })

  -- what is answered of an id that isn't too old
  pub told_answer : (tells : Bool) (id : ℕ) (answer : Bool) → near_id found.next x.number ≡ Some id → found.oldest ≤ id
      → (IsTrue tells × AreFewIds w.seen → DidAsTold start u.seen w.seen id answer)
      → MayAnswer tells start w.seen (alone (history v.seen) (history w.seen)) by (stance_of s) s.stage (commands.Did x) (replies.Did answer)
  told_answer tells id answer near young told =
      let others = others_went by u.seen w.seen second in
      let long = longer in
      let recs : List Rec = start.logged ++ recs_in (at w.seen log_lock) in
      let now : IsDid (IsTrue tells × AreFewIds w.seen) start.base start.committed h recs span by x.number answer = (
        λ small. absurd (omega arith),
        λ _. record {
          id = id;
          near = near_here (Some id) near;
          young = record { oldest = found.oldest; found = oldest_here; young = young };
          for_yes = λ t q. (told t).for_yes q;
          for_no = λ t q. record { place = length h; read = reads_here; hidden = ap (λ (l : List Event). is_visible start.committed l id) (take_all (length h) h (omega arith)) ∙ (told t).for_no q };
        },
      ) in
      subst (λ (t : List Event). IsDid (IsTrue tells × AreFewIds w.seen) start.base start.committed t recs (alone (history v.seen) t) by x.number answer) others.split
      (did_grows (IsTrue tells × AreFewIds w.seen) (IsTrue tells × AreFewIds w.seen) start.base start.committed h others.rest recs recs span (alone (history v.seen) (h ++ others.rest)) by x.number answer (λ t. t) (omega arith) (omega (arith, length-append h others.rest)) (omega arith) others.later (λ rec c. c) now)

  -- one that wasn't given hasn't committed
  pub not_given : (id : ℕ) → 3 ≤ id → found.next ≤ id → DidAsTold start u.seen w.seen id false
  not_given id normal past = record {
    for_yes = λ q. absurd (false≢true q);
    for_no = λ _. false_from_ne_true (is_visible start.committed h id) (λ seen. let new = visible_given start h id normal a.kept.events.legal (λ y c. (a.before y c).1) seen in let next = is.next in omega arith);
  }

  -- an id in use, in a life of few ids
  pub used_here : (id : ℕ) → IsNearest found.next x.number id → found.oldest ≤ id → id < found.next → AreFewIds w.seen → IsInUse start id
  used_here id near young new few =
      let few_then : length (given h) < 2900000 = few_before u.seen w.seen second.on.grows few in
      let upto = nth_near start.base.next (length (given h)) a.base.full few_then in
      let from = oldest_from start u.seen a.kept in
      let oldest = is.oldest in
      let next = is.next in
      let low = near.low in
      (omega arith, omega arith, omega arith)

  -- nothing was read of it
  pub told_nothing : (tells : Bool) (id : ℕ) (r : Refusal) → near_id found.next x.number ≡ Some id → IsUnread start w.seen by id r
      → MayAnswer tells start w.seen (alone (history v.seen) (history w.seen)) by (stance_of s) s.stage (commands.Did x) (replies.Refused r) × (by_standing (replies.Refused r) ≡ None)
  told_nothing tells id r near unread = ⊎_elim (state r) (parent r) unread
    where
      state : (r : Refusal) → IsStateUnread start w.seen by id r → MayAnswer tells start w.seen (alone (history v.seen) (history w.seen)) by (stance_of s) s.stage (commands.Did x) (replies.Refused r) × (by_standing (replies.Refused r) ≡ None)
      state (refusals.DiskFault (locks.Xact bank)) m = ((le-leb 3 x.number normal, m), refl)
      state (refusals.TooOld oldest) m =
          let all = went_longer n v.seen u.seen first in
          let more = went_longer n u.seen w.seen second in (
            record {
              normal = normal;
              id = Some id;
              near = near_later (Some id) near;
              older = m.1;
              found = subst (MayFindOldest start.base (history w.seen) (alone (history v.seen) (history w.seen)) by) (sym m.0) (finds_oldest start.base by (history v.seen) (history w.seen) (omega arith) b.stands.turn);
            },
            refl,
          )
      state r m = absurd m

      parent : (r : Refusal) → IsSubtransFault w.seen by r → MayAnswer tells start w.seen (alone (history v.seen) (history w.seen)) by (stance_of s) s.stage (commands.Did x) (replies.Refused r) × (by_standing (replies.Refused r) ≡ None)
      parent (refusals.DiskFault (locks.Subtrans bank)) m = ((le-leb 3 x.number normal, m), refl)
      parent r m = absurd m
