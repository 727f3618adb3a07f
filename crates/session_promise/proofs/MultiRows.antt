-- The rows of replies on multixacts, once more was added.
use Rattle.std.proofs.Common.{◌≡◌, ℕ, ◌<◌, ◌≤◌, List, [], ◌∷◌, ◌++◌, length, take, refl, ap, sym, subst, ◌∙◌, arith, inl, inr, ⊎_elim, Option, Some, None, IfSome, Contains, unwrap_or}
use Rattle.std.specs.List.{AllByRecursion, AllZip, slice_get}
use Rattle.tx_events.specs.Ids.{low_half}
use Rattle.tx_events.specs.Nearest.{near_id}
use Rattle.tx_events.specs.declared.event.By.{By}
use Rattle.tx_events.specs.declared.event.Event.{Event}
use Rattle.tx_events.specs.declared.event.Event.TheVariants as events
use Rattle.tx_events.specs.declared.multi.Member.{Member}
use Rattle.tx_events.specs.declared.multi.MultiEvent.{MultiEvent}
use Rattle.tx_events.specs.declared.multi.MultiEvent.TheVariants as multi_events
use Rattle.tx_events.specs.declared.record.Counters.{Counters}
use Rattle.tx_events.specs.declared.refusal.Refusal.TheVariants as refusals
use Rattle.tx_events.specs.Events.{by_of}
use Rattle.tx_events.specs.History.{next_given}
use Rattle.tx_events.specs.Limits.{member_stop, multi_stop_limit, multi_warn_limit}
use Rattle.tx_events.specs.Multis.{first_member, free_offset, multi_by, next_made, oldest_multi, oldest_offset, pin_limit}
use Rattle.tx_events.specs.Snapshots.{snapshot_xmax}
use Rattle.tx_events.specs.Visible.{is_visible}
use Rattle.tx_events.proofs.PlaceLemmas.{slice_get-grows, take-grows}
use Rattle.tx_model.specs.declared.command.Command.{Command}
use Rattle.tx_model.specs.declared.command.Command.TheVariants as commands
use Rattle.tx_model.specs.declared.command.Pair.{Pair}
use Rattle.tx_model.specs.declared.reply.MemberVerdict.{MemberVerdict}
use Rattle.tx_model.specs.declared.reply.Reply.{Reply}
use Rattle.tx_model.specs.declared.reply.Reply.TheVariants as replies
use Rattle.tx_model.specs.declared.reply.Verdict.{Verdict}
use Rattle.tx_model.specs.declared.reply.Verdict.TheVariants as verdicts
use Rattle.tx_model.specs.Replies.{RoundSpan, taken_by}
use Rattle.tx_model.specs.Stance.{Stance}
use Rattle.life_law.specs.MultiLines.{AreVerdicts, HasMembers, IsGenOf, IsHeldBack, IsMemberStop, IsMemberVerdict, IsMultiBackward, IsMultiFuture, IsMultiStop, IsMultiTooOld, IsMultiWarned, IsNotGiven, IsOldMember, IsPinnedOrNext, IsTold, IsUngiven, MayCarry}
use Rattle.life_law.specs.MultiPlaces.{IsPinAt, Recorded}
use Rattle.life_law.specs.MultiReplies.{MayReplyMulti}
use Rattle.std.proofs.lemmas.Bool.{cases_lt}
use Rattle.std.proofs.lemmas.List.{take-append-le}
use Rattle.session_promise.specs.MultiGrowth.{IsLaterThan, Widens}
use Rattle.session_promise.proofs.MultiWidening.{all_behind, front_item, front_of, multis_front, reads_before, reads_in, reads_multis}

-- ---- by the multixacts' events

module _ (base : Counters) (by : By) (all rest : List MultiEvent) where
  warned_less : (multi : ℕ) → IsMultiWarned base all by multi → IsMultiWarned base (all ++ rest) by multi
  warned_less multi w = record {
    place = w.place;
    offset = w.offset;
    members = w.members;
    given = slice_get-grows all rest (multi_events.Gen by multi w.offset w.members) w.place w.given;
    late = subst (λ (h : List MultiEvent). multi_warn_limit (oldest_multi base.oldest_multi h) ≤ multi) (sym (take-grows all rest (multi_events.Gen by multi w.offset w.members) w.place w.given)) w.late;
  }

  -- later events are of no command before
  warned_more : (multi : ℕ) (span wider : RoundSpan) → Widens multi_by by all (all ++ rest) span wider → IsMultiWarned base (all ++ rest) by multi → IsMultiWarned base all by multi
  warned_more multi span wider v w =
      let within = v.within in
      let low : w.place < length all = ⊎_elim
      (λ (l : w.place < length all). l)
      (λ (l : length all ≤ w.place).
      let later = all_behind (λ e. IsLaterThan by (multi_by e)) (all ++ rest) span.to w.place (multi_events.Gen by multi w.offset w.members) v.later (omega arith) w.given in
      let less : by.command < by.command = later refl in
      absurd (omega arith))
      (cases_lt w.place (length all)) in
      record {
        place = w.place;
        offset = w.offset;
        members = w.members;
        given = sym (front_item all rest w.place low) ∙ w.given;
        late = subst (λ (h : List MultiEvent). multi_warn_limit (oldest_multi base.oldest_multi h) ≤ multi) (take-append-le w.place all rest (omega arith)) w.late;
      }

  raised_next : (multi : ℕ) → IsPinnedOrNext base all by multi → IsPinnedOrNext base (all ++ rest) by multi
  raised_next multi p = ⊎_elim
      (λ (pin : (place : ℕ) × IsPinAt all by place). inl (pin.0, (pin.1.0, slice_get-grows all rest (multi_events.Hold by pin.1.0) pin.0 pin.1.1)))
      (λ (raise : (place raised offset : ℕ) × (slice_get all place ≡ Some (multi_events.Raise by raised offset)) × (multi ≡ next_made base.multi (take place all))).
      inr (
        raise.0,
        raise.1,
        raise.2,
        slice_get-grows all rest (multi_events.Raise by raise.1 raise.2) raise.0 raise.3,
        raise.4 ∙ ap (next_made base.multi) (sym (take-grows all rest (multi_events.Raise by raise.1 raise.2) raise.0 raise.3)),
      ))
      p

  module _ (span wider : RoundSpan) (w : Widens multi_by by all (all ++ rest) span wider) where
    multi_stops : (next stop : ℕ) → IsMultiStop base all span by next stop → IsMultiStop base (all ++ rest) wider by next stop
    multi_stops next stop s =
        let front = multis_front by all rest span wider w s.place s.read.not_past in record {
          place = s.place;
          read = reads_multis by all rest span wider w s.place s.read;
          next_is = s.next_is ∙ ap (next_made base.multi) front;
          stop_is = s.stop_is ∙ ap (λ (h : List MultiEvent). multi_stop_limit (oldest_multi base.oldest_multi h)) front;
          reached = s.reached;
        }

    member_stops : (count next stop : ℕ) → IsMemberStop base all span by count next stop → IsMemberStop base (all ++ rest) wider by count next stop
    member_stops count next stop s =
        let front = multis_front by all rest span wider w s.place s.read.not_past in record {
          place = s.place;
          read = reads_multis by all rest span wider w s.place s.read;
          next_is = s.next_is ∙ ap (λ (h : List MultiEvent). first_member (free_offset base.offset h)) front;
          stop_is = s.stop_is ∙ ap (λ (h : List MultiEvent). member_stop (oldest_offset base.oldest_offset h)) front;
          reached = s.reached;
        }

    goes_back : (multi now : ℕ) → IsMultiBackward base all span by multi now → IsMultiBackward base (all ++ rest) wider by multi now
    goes_back multi now s = record {
      place = s.place;
      read = reads_multis by all rest span wider w s.place s.read;
      now_is = s.now_is ∙ ap (oldest_multi base.oldest_multi) (multis_front by all rest span wider w s.place s.read.not_past);
      older = s.older;
    }

    held : (multi limit : ℕ) → IsHeldBack base all span by multi limit → IsHeldBack base (all ++ rest) wider by multi limit
    held multi limit s = record {
      place = s.place;
      read = reads_before by all rest span wider w s.place s.read;
      limit_is = s.limit_is ∙ ap (pin_limit base.multi) (multis_front by all rest span wider w s.place s.read.not_past);
      past = s.past;
    }

    too_old : (m oldest : ℕ) → IsMultiTooOld base all span by m oldest → IsMultiTooOld base (all ++ rest) wider by m oldest
    too_old m oldest s =
        let front = multis_front by all rest span wider w s.place s.read.not_past in record {
          place = s.place;
          read = reads_multis by all rest span wider w s.place s.read;
          oldest_is = s.oldest_is ∙ ap (oldest_multi base.oldest_multi) front;
          older = subst (λ (h : List MultiEvent). IfSome (near_id (next_made base.multi h) m) (λ multi. multi < oldest)) front s.older;
        }

    future : (m next : ℕ) → IsMultiFuture base all span by m next → IsMultiFuture base (all ++ rest) wider by m next
    future m next s =
        let front = multis_front by all rest span wider w s.place s.read.not_past in record {
          place = s.place;
          read = reads_multis by all rest span wider w s.place s.read;
          multi = s.multi;
          near = ap (λ (h : List MultiEvent). near_id (next_made base.multi h) m) (sym front) ∙ s.near;
          next_is = s.next_is ∙ ap (next_made base.multi) front;
          past = s.past;
        }

-- ---- by the history

module _ (base : Counters) (by : By) (h rest : List Event) (span wider : RoundSpan) (w : Widens by_of by h (h ++ rest) span wider) where
  carries : (oldest : ℕ) → MayCarry base h span oldest → MayCarry base (h ++ rest) wider oldest
  carries oldest m = ⊎_elim
      (λ (first : oldest ≡ base.oldest). inl first)
      (λ (told : (place : ℕ) × (giver : By) × (place < span.to) × (slice_get h place ≡ Some (events.Oldest giver oldest))).
      let up = w.to in let low = told.2 in
      inr (told.0, told.1, omega arith, slice_get-grows h rest (events.Oldest told.1 oldest) told.0 told.3))
      m

  not_given : (pairs : List Pair) (x : ℕ) → IsNotGiven base h span by pairs x → IsNotGiven base (h ++ rest) wider by pairs x
  not_given pairs x s =
      let front = front_of by h rest span wider w s.place s.read.not_past in record {
        place = s.place;
        read = reads_in by h rest span wider w s.place s.read;
        number = s.number;
        pair = s.pair;
        stands = s.stands;
        its = s.its;
        others = subst (λ (t : List Event). AllByRecursion (λ (p : Pair). IsUngiven (next_given base.next t) p.x.number → ⊥) (take s.number pairs)) front s.others;
        ungiven = subst (λ (t : List Event). IsUngiven (next_given base.next t) x) front s.ungiven;
      }

  old_member : (pairs : List Pair) (oldest : ℕ) → IsOldMember base h span by pairs oldest → IsOldMember base (h ++ rest) wider by pairs oldest
  old_member pairs oldest s =
      let front = front_of by h rest span wider w s.place s.read.not_past in record {
        place = s.place;
        read = reads_in by h rest span wider w s.place s.read;
        number = s.number;
        pair = s.pair;
        stands = s.stands;
        others = subst (λ (t : List Event). AllByRecursion (λ (p : Pair). IsUngiven (next_given base.next t) p.x.number → ⊥) (take s.number pairs)) front s.others;
        normal = s.normal;
        older = subst (λ (t : List Event). IfSome (near_id (next_given base.next t) s.pair.x.number) (λ id. id < oldest)) front s.older;
        carried = carries oldest s.carried;
      }

  module _ (committed : List ℕ) (taken : ℕ) (name : List ℕ) (number : ℕ) (snap : slice_get h taken ≡ Some (events.Snap name (taken_by by number))) where
    same : take taken h ≡ take taken (h ++ rest)
    same = sym (take-grows h rest (events.Snap name (taken_by by number)) taken snap)

    verdict_on : (near : Option ℕ) (v : Verdict) → IsMemberVerdict base committed h span taken near v → IsMemberVerdict base committed (h ++ rest) wider taken near v
    verdict_on None verdicts.TooOld m = m
    verdict_on (Some id) verdicts.TooOld m = (m.0, carries m.0 m.1, m.2)
    verdict_on (Some id) verdicts.Visible m = ap (λ (t : List Event). is_visible committed t id) (sym same) ∙ m
    verdict_on (Some id) verdicts.Hidden m = ap (λ (t : List Event). is_visible committed t id) (sym same) ∙ m
    verdict_on None verdicts.Visible m = absurd m
    verdict_on None verdicts.Hidden m = absurd m

    told : (member : Member) (v : MemberVerdict) → IsTold base committed h span taken member v → IsTold base committed (h ++ rest) wider taken member v
    told member v t = record {
      mode = t.mode;
      id = t.id ∙ ap (λ (f : List Event). unwrap_or (near_id (snapshot_xmax base.next f) (low_half member.id)) (low_half member.id)) same;
      verdict = subst (λ (f : List Event). IsMemberVerdict base committed (h ++ rest) wider taken (near_id (snapshot_xmax base.next f) (low_half member.id)) v.verdict) same
          (verdict_on (near_id (snapshot_xmax base.next (take taken h)) (low_half member.id)) v.verdict t.verdict);
    }

    all_told : (members : List Member) (vs : List MemberVerdict) → AllZip (IsTold base committed h span taken) members vs → AllZip (IsTold base committed (h ++ rest) wider taken) members vs
    all_told [] [] a = a
    all_told [] (v ∷ vs) a = a
    all_told (m ∷ ms) [] a = a
    all_told (m ∷ ms) (v ∷ vs) a = (told m v a.0, all_told ms vs a.1)

has_more : (recorded : List Recorded) (all rest : List MultiEvent) (pinned multi : ℕ) (members : List Member) → HasMembers recorded all pinned multi members → HasMembers recorded (all ++ rest) pinned multi members
has_more recorded all rest pinned multi members m = ⊎_elim
    (λ (gen : (place : ℕ) × (place < pinned) × IsGenOf all multi members place).
    let g = gen.2 in
    inl (gen.0, gen.1, record { by = g.by; offset = g.offset; stands = slice_get-grows all rest (multi_events.Gen g.by multi g.offset members) gen.0 g.stands }))
    (λ (rec : (offset : ℕ) × Contains recorded (multi, offset, members)). inr rec)
    m

verdicts_stay : (base : Counters) (committed : List ℕ) (recorded : List Recorded) (h rest : List Event) (all more : List MultiEvent) (span wider : RoundSpan) (by : By) (number : ℕ) (vs : List MemberVerdict) → Widens by_of by h (h ++ rest) span wider
    → AreVerdicts base committed recorded h all span by number vs → AreVerdicts base committed recorded (h ++ rest) (all ++ more) wider by number vs
verdicts_stay base committed recorded h rest all more span wider by number vs w v = record {
  taken = v.taken;
  snapshot = (v.snapshot.0, slice_get-grows h rest (events.Snap v.snapshot.0 (taken_by by number)) v.taken v.snapshot.1);
  multi = v.multi;
  pinned = v.pinned;
  pin = slice_get-grows all more (multi_events.Hold by v.multi) v.pinned v.pin;
  members = v.members;
  has = has_more recorded all more v.pinned v.multi v.members v.has;
  each = all_told base by h rest span wider w committed v.taken v.snapshot.0 number v.snapshot.1 v.members vs v.each;
}

-- ---- all rows

pub rows_stay : (told told' : Type 0) (NotYet NotYet' : ℕ → Type 0) (base : Counters) (committed : List ℕ) (recorded : List Recorded) (h rest : List Event) (all more : List MultiEvent) (span wider multis multis' : RoundSpan) (by : By) (s : Stance) (command : Command) (reply : Reply)
    → (told' → told) → ((m : ℕ) → NotYet m → NotYet' m) → Widens by_of by h (h ++ rest) span wider → Widens multi_by by all (all ++ more) multis multis'
    → MayReplyMulti told NotYet base committed recorded h all span multis by s command reply → MayReplyMulti told' NotYet' base committed recorded (h ++ rest) (all ++ more) wider multis' by s command reply
rows_stay t t' N N' base committed recorded h rest all more r r' q q' by s (commands.Multi pairs) (replies.Multi multi offset warn) less yet w v a =
    (λ t. warned_less base by all more multi (a.0 t), λ u. a.1 (warned_more base by all more multi q q' v u))
rows_stay t t' N N' base committed recorded h rest all more r r' q q' by s (commands.Multi pairs) (replies.Refused (refusals.NotGiven x)) less yet w v a = not_given base by h rest r r' w pairs x.number a
rows_stay t t' N N' base committed recorded h rest all more r r' q q' by s (commands.Multi pairs) (replies.Refused (refusals.TooOld oldest)) less yet w v a = old_member base by h rest r r' w pairs oldest a
rows_stay t t' N N' base committed recorded h rest all more r r' q q' by s (commands.Multi pairs) (replies.Refused (refusals.MultiStop next stop)) less yet w v a = multi_stops base by all more q q' v next stop a
rows_stay t t' N N' base committed recorded h rest all more r r' q q' by s (commands.Multi pairs) (replies.Refused (refusals.MemberStop next stop)) less yet w v a = member_stops base by all more q q' v (length pairs) next stop a
rows_stay t t' N N' base committed recorded h rest all more r r' q q' by s (commands.Multi pairs) (replies.Refused refusals.MemberCount) less yet w v a = tt
rows_stay t t' N N' base committed recorded h rest all more r r' q q' by s (commands.Multi pairs) (replies.Refused refusals.TwoUpdaters) less yet w v a = tt
rows_stay t t' N N' base committed recorded h rest all more r r' q q' by s (commands.SeeMulti name m) (replies.Verdicts vs) less yet w v a =
    (a.0, λ d. let x = a.1 (less d) in (x.0, x.1, verdicts_stay base committed recorded h rest all more r r' by x.0 vs w x.2))
rows_stay t t' N N' base committed recorded h rest all more r r' q q' by s (commands.SeeMulti name m) (replies.Refused (refusals.NotYet multi)) less yet w v a = (a.0, λ d. yet multi (a.1 (less d)))
rows_stay t t' N N' base committed recorded h rest all more r r' q q' by s (commands.SeeMulti name m) (replies.Refused (refusals.MultiTooOld oldest)) less yet w v a = too_old base by all more q q' v m.number oldest a
rows_stay t t' N N' base committed recorded h rest all more r r' q q' by s (commands.SeeMulti name m) (replies.Refused (refusals.MultiFuture next)) less yet w v a = future base by all more q q' v m.number next a
rows_stay t t' N N' base committed recorded h rest all more r r' q q' by s (commands.SeeMulti name m) (replies.Refused refusals.NoSnapshot) less yet w v a = a
rows_stay t t' N N' base committed recorded h rest all more r r' q q' by s (commands.MultiFreeze multi) replies.Done less yet w v a = raised_next base by all more multi a
rows_stay t t' N N' base committed recorded h rest all more r r' q q' by s (commands.MultiFreeze multi) (replies.Refused (refusals.Backward now)) less yet w v a = goes_back base by all more q q' v multi now a
rows_stay t t' N N' base committed recorded h rest all more r r' q q' by s (commands.MultiFreeze multi) (replies.Refused (refusals.Held limit)) less yet w v a = held base by all more q q' v multi limit a
rows_stay t t' N N' base committed recorded h rest all more r r' q q' by s (commands.MultiFreeze multi) (replies.Refused (refusals.NotYet next)) less yet w v a = (a.0, λ d. yet next (a.1 (less d)))
rows_stay t t' N N' base committed recorded h rest all more r r' q q' by s commands.Trim replies.Done less yet w v a = tt
rows_stay t t' N N' base committed recorded h rest all more r r' q q' by s command reply less yet w v a = absurd a
