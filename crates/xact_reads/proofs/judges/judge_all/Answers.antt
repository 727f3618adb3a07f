use Rattle.std.proofs.Common.{◌≤◌, List, [], arith, inl, subst, sym, take, take_all, ◌∙◌}
use Rattle.std.specs.List.{AllByRecursion, filter_map}
use Rattle.hall.specs.Calls.{view, start_of}
use Rattle.bank_stores.specs.declared.slot.Slot.{Slot}
use Rattle.tx_model.specs.declared.reply.MemberVerdict.{MemberVerdict}
use Rattle.life_law.specs.MultiReplies.{IsOfId}
use Rattle.tx_core.specs.Locks.{proc_lock}
use Rattle.engine_parts.specs.Adding.{IsPlain, MayMeet}
use Rattle.engine_parts.specs.Sessions.{by_at}
use Rattle.engine_parts.proofs.Adding.{adds_wider, plain_meets}
use Rattle.engine_parts.proofs.Answering.{few_before}
use Rattle.engine_parts.specs.declared.session.Session.{Session}
use Rattle.xact_reads.specs.Glances.{IsNamed}
use Rattle.xact_reads.specs.Multis.{AreJudged, IsCarried, IsStoredIn, pair_in}
use Rattle.xact_reads.proofs.Aparting.{met_then, met_wider, nothing_still}
use Rattle.xact_reads.proofs.Asking.{stored_at}
use Rattle.xact_reads.proofs.Going.{read_adds, went_both}
use Rattle.xact_reads.proofs.Judging.{all_later, carried_later}
use Rattle.xact_reads.proofs.Replying.{named_at}
use Rattle.xact_reads.proofs.Verdicts.{has_room, judged_slot, next_place}
use Rattle.xact_reads.proofs.WordReading.{word_carried, word_from}
use Rattle.xact_reads.proofs.judges.judge_all.Goals as goal

pub loop-place-init : goal.loop-place-init
loop-place-init g c =
    let start = start_of c.args.hall.now in
    let old = c.args.caller.now in
    let u = c.read_oldest_word.new.caller in
    let e = c.read_oldest_word.ensures in
    record {
      own = e.own;
      ready = e.ready;
      went = e.went;
      same = e.same;
      oldest = subst (IsCarried start (view u.pass).seen) (sym c.number-oldest.ensures.value) (word_carried start (view old.pass).seen (view u.pass).seen c.read_oldest_word.result e.shown);
      from = subst (λ n. start.base.oldest ≤ n) (sym c.number-oldest.ensures.value) (word_from start (view old.pass).seen (view u.pass).seen c.read_oldest_word.result e.ready.at.kept e.shown);
      within = omega arith;
      room = c.requires.room;
      said = λ told few fits k named. subst (λ (xs : List MemberVerdict). AreJudged start (view u.pass).seen k [] xs) (sym c.requires.none) tt;
      ranges = subst (AllByRecursion IsOfId) (sym c.requires.none) tt;
      adds = adds_wider (by_at old.number old.session.levels.commands) (λ lock kind. ⊥) IsPlain (view old.pass).seen (view u.pass).seen (λ lock kind no. absurd no) e.adds;
      apart = inl (nothing_still (by_at old.number old.session.levels.commands) (view old.pass).seen (view u.pass).seen proc_lock e.adds);
    }

pub returns-in-Err-clause-went : goal.returns-in-Err-clause-went
returns-in-Err-clause-went g c =
    let u = c.loop-place.caller in
    let i = c.loop-place.invariant in
    went_both c.args.caller.now.number u.number (view c.args.caller.now.pass).seen (view u.pass).seen (view c.judge_slot.new.caller.pass).seen i.same.1 i.went c.in-Err.ensures.went

pub returns-in-Err-clause-ranges : goal.returns-in-Err-clause-ranges
returns-in-Err-clause-ranges g c = c.in-Err.ensures.ranges c.loop-place.invariant.ranges

pub returns-in-Err-clause-adds : goal.returns-in-Err-clause-adds
returns-in-Err-clause-adds g c =
    let old = c.args.caller.now in
    let u = c.loop-place.caller in
    let i = c.loop-place.invariant in
    read_adds old.number u.number old.session u.session (MayMeet c.in-Err.refusal) (view old.pass).seen (view u.pass).seen (view c.judge_slot.new.caller.pass).seen i.same.1 i.same.0 (plain_meets c.in-Err.refusal) i.adds c.in-Err.ensures.adds

pub loop-place-preserved : goal.loop-place-preserved
loop-place-preserved g c =
    let start = start_of c.args.hall.now in
    let old = c.args.caller.now in
    let u = c.loop-place.caller in
    let w = c.judge_slot.new.caller in
    let i = c.loop-place.invariant in
    let e = c.in-Ok.ensures in
    let inside = c.loop-place-test.true in
    record {
      own = e.own;
      ready = e.ready;
      went = went_both old.number u.number (view old.pass).seen (view u.pass).seen (view w.pass).seen i.same.1 i.went e.went;
      same = (e.same.0 ∙ i.same.0, e.same.1 ∙ i.same.1);
      oldest = carried_later start (view u.pass).seen (view w.pass).seen _ e.went.on.grows i.oldest;
      from = i.from;
      within = omega arith;
      room = (let room = i.room in let cap = e.room in omega (arith, room, cap));
      said = λ told few fits k named.
          let few_then = few_before (view u.pass).seen (view w.pass).seen e.went.on.grows few in
          let here = named_at start (view u.pass) u.number u.session c.args.name.now k i.ready.at (subst (λ (s : Session). IsNamed s.levels c.args.name.now k) (sym i.same.0) named) in
          let first = i.said told few_then fits k named in
          let before = all_later start (view u.pass).seen (view w.pass).seen e.went.on.grows u.number k here.0 (filter_map pair_in (take c.loop-place.place c.args.slots.now)) c.loop-place.into.items first in
          let one = e.said told few (has_room start (view u.pass).seen k c.args.slots.now c.loop-place.place _ c.loop-place.into.items inside fits first) k (subst (λ (s : Session). IsNamed s.levels c.args.name.now k) (sym i.same.0) named) in
          subst (λ (t : List Slot). AreJudged start (view w.pass).seen k (filter_map pair_in t) c.judge_slot.new.into.items) (sym (next_place c.args.slots.now c.loop-place.place _ inside))
          (judged_slot start (view w.pass).seen k (take c.loop-place.place c.args.slots.now) _ c.loop-place.into.items c.judge_slot.new.into.items before one);
      ranges = e.ranges i.ranges;
      adds = read_adds old.number u.number old.session u.session IsPlain (view old.pass).seen (view u.pass).seen (view w.pass).seen i.same.1 i.same.0 (λ lock kind m. m) i.adds e.adds;
      apart = met_then start old.number u.number old.session u.session c.args.name.now (IsStoredIn c.args.slots.now) (view old.pass).seen (view u.pass).seen (view w.pass).seen i.same.1 i.same.0 i.went.on.grows e.went.on.grows i.apart
          (met_wider start (by_at u.number u.session.levels.commands) u.session.levels c.args.name.now _ (IsStoredIn c.args.slots.now) (view u.pass).seen (view w.pass).seen (stored_at c.args.slots.now c.loop-place.place _ inside) e.apart);
    }

pub returns-clause-said : goal.returns-clause-said
returns-clause-said g c told few fits k named =
    let start = start_of c.args.hall.now in
    let i = c.loop-place.invariant in
    let past = c.loop-place-test.false in
    let within = i.within in
    subst (λ (t : List Slot). AreJudged start (view c.loop-place.caller.pass).seen k (filter_map pair_in t) c.loop-place.into.items) (take_all c.loop-place.place c.args.slots.now (omega (arith, past, within))) (i.said told few fits k named)

pub returns-in-Err-clause-apart : goal.returns-in-Err-clause-apart
returns-in-Err-clause-apart g c =
    let old = c.args.caller.now in
    let u = c.loop-place.caller in
    let i = c.loop-place.invariant in
    let e = c.in-Err.ensures in
    let start = start_of c.args.hall.now in
    let w = (view c.judge_slot.new.caller.pass).seen in
    met_then start old.number u.number old.session u.session c.args.name.now (IsStoredIn c.args.slots.now) (view old.pass).seen (view u.pass).seen w i.same.1 i.same.0 i.went.on.grows e.went.on.grows i.apart
    (met_wider start (by_at u.number u.session.levels.commands) u.session.levels c.args.name.now _ (IsStoredIn c.args.slots.now) (view u.pass).seen w (stored_at c.args.slots.now c.loop-place.place _ c.loop-place-test.true) e.apart)

pub returns-clause-apart : goal.returns-clause-apart
returns-clause-apart g c = c.loop-place.invariant.apart
