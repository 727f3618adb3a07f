-- What a `multi` is answered, and what it leaves of the one that its session makes.
use Rattle.std.proofs.Common.{◌≡◌, ◌≢◌, ◌⊎◌, ◌↔◌, ⊎_elim, inl, inr, ℕ, ◌+◌, ◌<◌, ◌≤◌, Bool, true, false, IsTrue, List, [], ◌∷◌, ◌++◌, Option, None, Some, IfSome, Contains, length, take, refl, sym, ap, subst, ◌∙◌, arith}
use Rattle.std.proofs.lemmas.Bool.Decides.{nat_tests}
use Rattle.std.specs.List.{AllByRecursion, AllZip, slice_get}
use Rattle.notes.specs.Lists.{Grows}
use Rattle.tx_events.specs.declared.event.By.{By}
use Rattle.tx_events.specs.declared.event.Event.{Event}
use Rattle.tx_events.specs.declared.event.Event.TheVariants as events
use Rattle.tx_events.specs.declared.multi.Member.{Member}
use Rattle.tx_events.specs.declared.multi.MultiEvent.{MultiEvent}
use Rattle.tx_events.specs.declared.record.Counters.{Counters}
use Rattle.tx_events.specs.declared.refusal.Lock.TheVariants as locks
use Rattle.tx_events.specs.declared.refusal.Refusal.{Refusal}
use Rattle.tx_events.specs.declared.refusal.Refusal.TheVariants as refusals
use Rattle.tx_events.specs.History.{next_given}
use Rattle.tx_events.specs.Horizon.{oldest_id}
use Rattle.tx_events.specs.Limits.{member_stop, multi_stop_limit, multi_warn_limit}
use Rattle.tx_events.specs.Multis.{AreLegalMultis, InBase, first_member, free_offset, next_made, oldest_multi, oldest_offset}
use Rattle.tx_events.specs.Nearest.{near_id}
use Rattle.tx_model.specs.declared.command.Command.TheVariants as commands
use Rattle.tx_model.specs.declared.command.Pair.{Pair}
use Rattle.tx_model.specs.declared.reply.Reply.TheVariants as replies
use Rattle.tx_model.specs.Replies.{alone}
use Rattle.tx_model.specs.Stance.{Stance}
use Rattle.life_law.specs.MultiLines.{AreGiven, IsMemberOf, IsMultiWarned, IsUngiven, MayCarry}
use Rattle.life_law.specs.MultiStanding.{Unfinished, none, perhaps, still, sure}
use Rattle.life_law.specs.Refused.{is_by_members, is_by_standing}
use Rattle.multi_store.specs.declared.answers.MultiGiven.{MultiGiven}
use Rattle.tx_core.specs.declared.entry.Entry.{Entry}
use Rattle.tx_core.specs.declared.entry.Start.{Start}
use Rattle.tx_core.specs.Entries.{history}
use Rattle.tx_core.specs.MultiEntries.{multi_history}
use Rattle.tx_core.specs.OwnMultis.{own_multis}
use Rattle.tx_core.proofs.StopLimits.{found_announced}
use Rattle.engine_parts.specs.declared.session.Making.{Making}
use Rattle.engine_parts.specs.declared.session.Session.{Session}
use Rattle.engine_parts.specs.declared.session.Stage.{Stage}
use Rattle.engine_parts.specs.Answers.{alone_multis}
use Rattle.engine_parts.specs.Calls.{IsHeldBehind}
use Rattle.engine_parts.specs.Makings.{IsToldMaking, KeepsMaking, has_more_multis}
use Rattle.engine_parts.specs.MultiAnswers.{MayAnswerMulti}
use Rattle.engine_parts.specs.Sessions.{by_at}
use Rattle.multi_sections.specs.Takings.{IsNotTaken, taken_event}
use Rattle.multi_makes.specs.Full.{AreFullOf, AreNotFull, IsBeforeOldest, IsFullOf}
use Rattle.multi_makes.specs.Makes.{AreRead, IsGivenIn, IsNoneGiven}
use Rattle.multi_makes.specs.Pending.{StopsMaking}
use Rattle.multi_makes.proofs.Places.{has_at, multis_longer, one_place, reads_end, reads_multis_end, seen_place, split_at, split_take, take_all}

-- ---- events

member_of : (base : Counters) (h : List Event) (from place next : ℕ) (by : By) (pair : Pair) (member : Member) → next_given base.next (take place h) ≡ next → from ≤ place → place ≤ length h → IsFullOf next pair member → IsMemberOf base h (record { from = from; to = length h }) by pair member
member_of base h from place next by pair member is le within f = record {
  mode = f.mode;
  place = place;
  read = (le, within);
  near = subst (λ z. near_id z pair.x.number ≡ Some member.id) (sym is) f.id.near;
  normal = f.id.normal;
  given = subst (λ z. member.id < z) (sym is) f.id.given;
}

members_of : (base : Counters) (h : List Event) (from place next : ℕ) (by : By) → next_given base.next (take place h) ≡ next → from ≤ place → place ≤ length h → (pairs : List Pair) (members : List Member) → AreFullOf next pairs members → AllZip (IsMemberOf base h (record { from = from; to = length h }) by) pairs members
members_of base h from place next by is le within [] [] z = tt
members_of base h from place next by is le within [] (m ∷ members) z = absurd z
members_of base h from place next by is le within (p ∷ pairs) [] z = absurd z
members_of base h from place next by is le within (p ∷ pairs) (m ∷ members) z = (member_of base h from place next by p m is le within z.0, members_of base h from place next by is le within pairs members z.1)

-- the members that were read in between are those that the script wrote
pub are_given : (start : Start) (lists more : List (List Entry)) (pairs : List Pair) (n : ℕ) (s : Session) (members : List Member) (g : MultiGiven) → AreRead start lists more pairs members
    → AreGiven start.base (history more) (alone (history lists) (history more)) (by_at n s.levels.commands) pairs (taken_event n s members g ∷ [])
are_given start lists more pairs n s members g r =
    let upto = seen_place r.seen more r.upto in
    let from = (seen_place lists r.seen r.from).0 in
    record {
      multi = g.multi;
      offset = g.offset;
      members = members;
      events_are = refl;
      told = members_of start.base (history more) (length (history lists)) (length (history r.seen)) (next_given start.base.next (history r.seen)) (by_at n s.levels.commands) (ap (next_given start.base.next) upto.1) from upto.0 pairs members r.full;
    }

-- a warning is told exactly of a late one
pub is_warned : (start : Start) (n : ℕ) (s : Session) (members : List Member) (g : MultiGiven) (lists more : List (List Entry)) → AreLegalMultis start.base (InBase start.base) (multi_history more) → IsGivenIn start n s members g lists more
    → IsTrue g.warn ↔ IsMultiWarned start.base (multi_history more) (by_at n s.levels.commands) g.multi
is_warned start n s members g lists more legal e =
    let all : List MultiEvent = multi_history more in
    let gen : MultiEvent = taken_event n s members g in
    let here : slice_get all (length e.before) ≡ Some gen = subst (λ (t : List MultiEvent). slice_get t (length e.before) ≡ Some gen) (sym e.split) (split_at e.before e.rest gen) in
    let front : take (length e.before) all ≡ e.before = subst (λ (t : List MultiEvent). take (length e.before) t ≡ e.before) (sym e.split) (split_take e.before (gen ∷ e.rest)) in (
      λ w. record {
        place = length e.before;
        offset = g.offset;
        members = members;
        given = here;
        late = subst (λ (t : List MultiEvent). multi_warn_limit (oldest_multi start.base.oldest_multi t) ≤ g.multi) (sym front) (e.taken.warn.0 w);
      },
      λ (w : IsMultiWarned start.base all (by_at n s.levels.commands) g.multi).
          let same = one_place start.base all legal (by_at n s.levels.commands) (by_at n s.levels.commands) g.multi w.offset g.offset w.members members w.place (length e.before) w.given here in
          e.taken.warn.1 (subst (λ (t : List MultiEvent). multi_warn_limit (oldest_multi start.base.oldest_multi t) ≤ g.multi) (ap (λ z. take z all) same ∙ front) w.late),
    )

-- ---- refusals

-- what a refusal needs, however the session stands
pub record Refuses (tells : Bool) (start : Start) (lists more : List (List Entry)) (by : By) (s : Stance) (stage : Stage) (pairs : List Pair) (r : Refusal) : Type 0 where
  pub allowed : MayAnswerMulti tells start lists more (alone (history lists) (history more)) (alone_multis lists more) by s stage (commands.Multi pairs) (replies.Refused r)
  pub apart : is_by_standing r ≡ false
  pub words : is_by_members r ≡ false
  pub held : (new : Stage) → IsHeldBehind start more (commands.Multi pairs) (replies.Refused r) new

module _ (tells : Bool) (start : Start) (lists more : List (List Entry)) (by : By) (s : Stance) (stage : Stage) (pairs : List Pair) (grows : Grows lists more) where
  abbrev Refused : Refusal → Type 0
  Refused r = Refuses tells start lists more by s stage pairs r

  pub stops_refuse : (r : Refusal) → StopsMaking start more by r → Refused r
  stops_refuse (refusals.LogDown down) c = record { allowed = (refl, c); apart = refl; words = refl; held = λ new. tt }
  stops_refuse refusals.Full c = record { allowed = refl; apart = refl; words = refl; held = λ new. tt }
  stops_refuse refusals.Memory c = record { allowed = refl; apart = refl; words = refl; held = λ new. tt }
  stops_refuse (refusals.DiskFault (locks.Offsets bank)) c = record { allowed = (refl, c); apart = refl; words = refl; held = λ new. tt }
  stops_refuse (refusals.DiskFault (locks.Members bank)) c = record { allowed = (refl, c); apart = refl; words = refl; held = λ new. tt }
  stops_refuse _ c = absurd c

  longer : length (history lists) ≤ length (history more)
  longer = (seen_place lists more grows).0

  -- the oldest id that is found was announced, or the life began with it
  carried : MayCarry start.base (history more) (alone (history lists) (history more)) (oldest_id start.base.oldest (history more))
  carried = ⊎_elim inl
      (λ (z : (by : By) × Contains (history more) (events.Oldest by (oldest_id start.base.oldest (history more)))). let p = has_at (history more) (events.Oldest z.0 (oldest_id start.base.oldest (history more))) z.1 in inr (p.0, z.0, p.1, p.2))
      (found_announced start.base.oldest (history more))

  abbrev next_now : ℕ
  next_now = next_given start.base.next (history more)

  at_end : (P : ℕ → Type 0) → P next_now → P (next_given start.base.next (take (length (history more)) (history more)))
  at_end P = subst (λ (t : List Event). P (next_given start.base.next t)) (sym (take_all (history more)))

  pub full_refuse : (r : Refusal) → AreNotFull next_now (oldest_id start.base.oldest (history more)) pairs r → Refused r
  full_refuse refusals.Memory c = record { allowed = refl; apart = refl; words = refl; held = λ new. tt }
  full_refuse (refusals.NotGiven x) c = record {
    allowed = record {
      place = length (history more);
      read = reads_end (history more) (length (history lists)) by longer;
      number = c.number;
      pair = c.pair;
      stands = c.stands;
      its = sym c.refused.0;
      others = at_end (λ z. AllByRecursion (λ (p : Pair). IsUngiven z p.x.number → ⊥) (take c.number pairs)) c.others;
      ungiven = at_end (λ z. IsUngiven z x.number) (subst (λ z. IsUngiven next_now z) (sym c.refused.0) c.refused.1);
    };
    apart = refl;
    words = refl;
    held = λ new. tt;
  }
  full_refuse (refusals.TooOld oldest) c =
      let old : IsBeforeOldest next_now (oldest_id start.base.oldest (history more)) c.pair.x.number = c.refused.1 in
      record {
        allowed = record {
          place = length (history more);
          read = reads_end (history more) (length (history lists)) by longer;
          number = c.number;
          pair = c.pair;
          stands = c.stands;
          others = at_end (λ z. AllByRecursion (λ (p : Pair). IsUngiven z p.x.number → ⊥) (take c.number pairs)) c.others;
          normal = old.normal;
          older = at_end (λ z. IfSome (near_id z c.pair.x.number) (λ id. id < oldest)) (subst (λ o. IfSome (near_id next_now c.pair.x.number) (λ id. id < o)) (sym c.refused.0) old.older);
          carried = subst (MayCarry start.base (history more) (alone (history lists) (history more))) (sym c.refused.0) carried;
        };
        apart = refl;
        words = refl;
        held = λ new. tt;
      }
  full_refuse _ c = absurd c.refused

  pub taken_refuse : (r : Refusal) → IsNotTaken start.base (multi_history more) (length pairs) r → Refused r
  taken_refuse (refusals.MultiStop next stop) c =
      let all : List MultiEvent = multi_history more in
      let whole = sym (take_all all) in
      record {
        allowed = record {
          place = length all;
          read = reads_multis_end all (length (multi_history lists)) by (multis_longer lists more grows);
          next_is = c.0 ∙ ap (next_made start.base.multi) whole;
          stop_is = c.1 ∙ ap (λ (t : List MultiEvent). multi_stop_limit (oldest_multi start.base.oldest_multi t)) whole;
          reached = c.2;
        };
        apart = refl;
        words = refl;
        held = λ new. tt;
      }
  taken_refuse (refusals.MemberStop next stop) c =
      let all : List MultiEvent = multi_history more in
      let whole = sym (take_all all) in
      record {
        allowed = record {
          place = length all;
          read = reads_multis_end all (length (multi_history lists)) by (multis_longer lists more grows);
          next_is = c.0 ∙ ap (λ (t : List MultiEvent). first_member (free_offset start.base.offset t)) whole;
          stop_is = c.1 ∙ ap (λ (t : List MultiEvent). member_stop (oldest_offset start.base.oldest_offset t)) whole;
          reached = c.2;
        };
        apart = refl;
        words = refl;
        held = λ new. tt;
      }
  taken_refuse refusals.Memory c = record { allowed = refl; apart = refl; words = refl; held = λ new. tt }
  taken_refuse _ c = absurd c

  pub none_refuse : (r : Refusal) → IsNoneGiven start more pairs r → Refused r
  none_refuse r c = ⊎_elim (full_refuse r) (taken_refuse r) c

-- ---- what it leaves

-- one event more is one more
pub gave_none : (n : ℕ) (lists more : List (List Entry)) → own_multis n more ≡ own_multis n lists ++ [] → has_more_multis n lists more ≡ false
gave_none n lists more same = let long : length (own_multis n more) ≡ length (own_multis n lists) = ap length same ∙ same_length (own_multis n lists) in grind (arith, nat_tests)
  where
    same_length : (xs : List MultiEvent) → length (xs ++ []) ≡ length xs
    same_length [] = refl
    same_length (x ∷ xs) = let r = same_length xs in omega arith

pub gave_one : (n : ℕ) (lists more : List (List Entry)) (e : MultiEvent) → own_multis n more ≡ own_multis n lists ++ e ∷ [] → has_more_multis n lists more ≡ true
gave_one n lists more e same = let long : length (own_multis n more) ≡ length (own_multis n lists) + 1 = ap length same ∙ one_longer (own_multis n lists) in grind (arith, nat_tests)
  where
    one_longer : (xs : List MultiEvent) → length (xs ++ e ∷ []) ≡ length xs + 1
    one_longer [] = refl
    one_longer (x ∷ xs) = let r = one_longer xs in omega arith

module _ (pairs : List Pair) (gave : Bool) (old new : Option Making) where
  pub keeps_made : (g : MultiGiven) → new ≡ None → KeepsMaking (commands.Multi pairs) (replies.Multi g.multi g.offset g.warn) gave old new
  keeps_made g is = λ u told. is

  -- one that was given is still made
  pub keeps_given : (r : Refusal) → gave ≡ true → new ≢ None → KeepsMaking (commands.Multi pairs) (replies.Refused r) gave old new
  keeps_given r is some = subst (λ b. KeepsMaking (commands.Multi pairs) (replies.Refused r) b old new) (sym is) (λ u told. some)

  -- none is
  pub keeps_none : (base : Counters) (all : List MultiEvent) (next oldest count : ℕ) (r : Refusal) → gave ≡ false → new ≡ None → AreNotFull next oldest pairs r ⊎ IsNotTaken base all count r → KeepsMaking (commands.Multi pairs) (replies.Refused r) gave old new
  keeps_none base all next oldest count r is empty c = subst (λ b. KeepsMaking (commands.Multi pairs) (replies.Refused r) b old new) (sym is) (of r c)
    where
      memory : KeepsMaking (commands.Multi pairs) (replies.Refused refusals.Memory) false old new
      memory none told = empty
      memory perhaps told = tt
      memory sure told = tt

      of : (r : Refusal) → AreNotFull next oldest pairs r ⊎ IsNotTaken base all count r → KeepsMaking (commands.Multi pairs) (replies.Refused r) false old new
      of (refusals.NotGiven x) c = λ u told. empty
      of (refusals.TooOld x) c = λ u told. empty
      of (refusals.MultiStop x y) c = λ u told. empty
      of (refusals.MemberStop x y) c = λ u told. empty
      of refusals.Memory c = memory
      of _ c = absurd (⊎_elim (λ f. f.refused) (λ t. t) c)

  -- the one before still is
  pub keeps_held : (start : Start) (lists : List (List Entry)) (by : By) (r : Refusal) → gave ≡ false → old ≢ None → new ≢ None → StopsMaking start lists by r → KeepsMaking (commands.Multi pairs) (replies.Refused r) gave old new
  keeps_held start lists by r is some kept c = subst (λ b. KeepsMaking (commands.Multi pairs) (replies.Refused r) b old new) (sym is) (of r c)
    where
      memory : KeepsMaking (commands.Multi pairs) (replies.Refused refusals.Memory) false old new
      memory none told = absurd (some told)
      memory perhaps told = tt
      memory sure told = tt

      kept_still : (u : Unfinished) → IsToldMaking u old → IsToldMaking (still u) new
      kept_still none told = absurd (some told)
      kept_still perhaps told = kept
      kept_still sure told = kept

      of : (r : Refusal) → StopsMaking start lists by r → KeepsMaking (commands.Multi pairs) (replies.Refused r) false old new
      of (refusals.LogDown down) c = kept_still
      of refusals.Full c = kept_still
      of refusals.Memory c = memory
      of (refusals.DiskFault lock) c = kept_still
      of _ c = absurd c

  -- it was refused by its members, and all stands as before
  pub keeps_refused : (r : Refusal) → gave ≡ false → new ≡ old → is_by_members r ≡ true → KeepsMaking (commands.Multi pairs) (replies.Refused r) gave old new
  keeps_refused r is same words = subst (λ b. KeepsMaking (commands.Multi pairs) (replies.Refused r) b old new) (sym is) (of r words)
    where
      stays : (u : Unfinished) → IsToldMaking u old → IsToldMaking u new
      stays u told = subst (IsToldMaking u) (sym same) told

      of : (r : Refusal) → is_by_members r ≡ true → KeepsMaking (commands.Multi pairs) (replies.Refused r) false old new
      of refusals.MemberCount words = stays
      of refusals.TwoUpdaters words = stays
      of _ words = absurd cc
