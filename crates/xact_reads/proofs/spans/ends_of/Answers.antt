use Rattle.std.proofs.Common.{Some, arith, inl, inr, refl, subst, sym, ◌∙◌}
use Rattle.std.proofs.lemmas.Bool.{false≢true}
use Rattle.hall.specs.Calls.{view, start_of}
use Rattle.tx_events.specs.declared.refusal.Refusal.TheVariants as refusals
use Rattle.life_law.specs.MultiReplies.{IsMultiNumber}
use Rattle.engine_parts.specs.Adding.{IsPlain, MayMeet}
use Rattle.engine_parts.proofs.Adding.{adds_wider, plain_meets}
use Rattle.engine_parts.specs.Sessions.{by_at}
use Rattle.multi_banks.specs.Offsets.{IsOffsetRead}
use Rattle.xact_reads.proofs.Aparting.{apart_then}
use Rattle.xact_reads.proofs.Ending.{first_found, first_wanting, next_number, next_read, next_unread, pinned_small}
use Rattle.xact_reads.proofs.Going.{read_adds}
use Rattle.xact_reads.proofs.Once.{few_multis_before}
use Rattle.xact_reads.proofs.Pinning.{multi_both, pinned_from, pinned_later, pins_kept}
use Rattle.xact_reads.proofs.Standings.{has_later}
use Rattle.xact_reads.proofs.spans.ends_of.Goals as goal

pub returns-in-Ok-None-clause-adds : goal.returns-in-Ok-None-clause-adds
returns-in-Ok-None-clause-adds g c =
    let old = c.args.caller.now in
    adds_wider (by_at old.number old.session.levels.commands) IsPlain (MayMeet (refusals.NotYet c.args.held.now.multi)) (view old.pass).seen (view c.offset_of.new.caller.pass).seen (plain_meets (refusals.NotYet c.args.held.now.multi)) c.in-Ok-None.ensures.adds

pub returns-in-Ok-None-clause-unread : goal.returns-in-Ok-None-clause-unread
returns-in-Ok-None-clause-unread g c =
    let start = start_of c.args.hall.now in
    let old = c.args.caller.now in
    let u = (view c.offset_of.new.caller.pass).seen in
    let e = c.in-Ok-None.ensures in
    let p = pinned_later start (view old.pass).seen u c.args.held.now e.went.grows c.requires.pinned in
    let from = pinned_from start u old.number c.args.held.now.multi e.ready.at.kept (pins_kept old.number c.args.held.now.multi (view old.pass).seen u e.went c.requires.pins) in
    let small = pinned_small start u c.args.held.now e.ready.at.base e.ready.at.kept p in (
      (omega (arith, small), p.full),
      λ told few. first_wanting start u e.ready.at.kept e.ready.at.base few c.args.held.now p from (subst (IsOffsetRead start u c.args.held.now.multi) c.in-Ok-None.field-0-is (e.offset told from)),
    )

pub returns-then-held-clause-ends : goal.returns-then-held-clause-ends
returns-then-held-clause-ends g c told few =
    let start = start_of c.args.hall.now in
    let old = c.args.caller.now in
    let u = (view c.offset_of.new.caller.pass).seen in
    let e = c.in-Ok-Some.ensures in
    let p = pinned_later start (view old.pass).seen u c.args.held.now e.went.grows c.requires.pinned in
    let from = pinned_from start u old.number c.args.held.now.multi e.ready.at.kept (pins_kept old.number c.args.held.now.multi (view old.pass).seen u e.went c.requires.pins) in
    let found = first_found start u e.ready.at.kept e.ready.at.base few c.args.held.now p (Some c.in-Ok-Some.low) from (subst (IsOffsetRead start u c.args.held.now.multi) c.in-Ok-Some.field-0-is (e.offset told from)) in
    record {
      begun = e.begun told few;
      offset = found.0;
      begin = found.1;
      stands = found.2;
      end = inl (c.if-held.true, refl);
    }

pub returns-in-Ok-Some-offset_of-clause-went : goal.returns-in-Ok-Some-offset_of-clause-went
returns-in-Ok-Some-offset_of-clause-went g c =
    let u = c.offset_of.new.caller in
    let e = c.in-Ok-Some.ensures in
    multi_both c.args.caller.now.number u.number (view c.args.caller.now.pass).seen (view u.pass).seen (view c.offset_of-2.new.caller.pass).seen e.same.1 e.went c.in-Ok-Some-offset_of.ensures.went

pub returns-in-Ok-None-offset_of-clause-went : goal.returns-in-Ok-None-offset_of-clause-went
returns-in-Ok-None-offset_of-clause-went g c =
    let u = c.offset_of.new.caller in
    let e = c.in-Ok-Some.ensures in
    multi_both c.args.caller.now.number u.number (view c.args.caller.now.pass).seen (view u.pass).seen (view c.offset_of-2.new.caller.pass).seen e.same.1 e.went c.in-Ok-None-offset_of.ensures.went

pub returns-in-Err-offset_of-clause-went : goal.returns-in-Err-offset_of-clause-went
returns-in-Err-offset_of-clause-went g c =
    let u = c.offset_of.new.caller in
    let e = c.in-Ok-Some.ensures in
    multi_both c.args.caller.now.number u.number (view c.args.caller.now.pass).seen (view u.pass).seen (view c.offset_of-2.new.caller.pass).seen e.same.1 e.went c.in-Err-offset_of.ensures.went

pub returns-in-Ok-Some-offset_of-clause-adds : goal.returns-in-Ok-Some-offset_of-clause-adds
returns-in-Ok-Some-offset_of-clause-adds g c =
    let old = c.args.caller.now in
    let u = c.offset_of.new.caller in
    let e = c.in-Ok-Some.ensures in
    read_adds old.number u.number old.session u.session IsPlain (view old.pass).seen (view u.pass).seen (view c.offset_of-2.new.caller.pass).seen e.same.1 e.same.0 (λ lock kind m. m) e.adds c.in-Ok-Some-offset_of.ensures.adds

pub returns-in-Ok-None-offset_of-clause-adds : goal.returns-in-Ok-None-offset_of-clause-adds
returns-in-Ok-None-offset_of-clause-adds g c =
    let old = c.args.caller.now in
    let u = c.offset_of.new.caller in
    let e = c.in-Ok-Some.ensures in
    let told = refusals.NotYet c.advance-next.result in
    read_adds old.number u.number old.session u.session (MayMeet told) (view old.pass).seen (view u.pass).seen (view c.offset_of-2.new.caller.pass).seen e.same.1 e.same.0 (plain_meets told) e.adds
    (adds_wider (by_at u.number u.session.levels.commands) IsPlain (MayMeet told) (view u.pass).seen (view c.offset_of-2.new.caller.pass).seen (plain_meets told) c.in-Ok-None-offset_of.ensures.adds)

pub returns-in-Err-offset_of-clause-adds : goal.returns-in-Err-offset_of-clause-adds
returns-in-Err-offset_of-clause-adds g c =
    let old = c.args.caller.now in
    let u = c.offset_of.new.caller in
    let e = c.in-Ok-Some.ensures in
    read_adds old.number u.number old.session u.session (MayMeet c.in-Err-offset_of.refusal) (view old.pass).seen (view u.pass).seen (view c.offset_of-2.new.caller.pass).seen e.same.1 e.same.0 (plain_meets c.in-Err-offset_of.refusal) e.adds c.in-Err-offset_of.ensures.adds

pub advance-next-requires : goal.advance-next-requires
advance-next-requires g c = pinned_small (start_of c.args.hall.now) (view c.offset_of.new.caller.pass).seen c.args.held.now c.in-Ok-Some.ensures.ready.at.base c.in-Ok-Some.ensures.ready.at.kept (pinned_later (start_of c.args.hall.now) (view c.args.caller.now.pass).seen (view c.offset_of.new.caller.pass).seen c.args.held.now c.in-Ok-Some.ensures.went.grows c.requires.pinned)

pub returns-in-Ok-Some-offset_of-clause-ends : goal.returns-in-Ok-Some-offset_of-clause-ends
returns-in-Ok-Some-offset_of-clause-ends g c told few =
    let start = start_of c.args.hall.now in
    let held = c.args.held.now in
    let old = c.args.caller.now in
    let v = (view old.pass).seen in
    let u = (view c.offset_of.new.caller.pass).seen in
    let w = (view c.offset_of-2.new.caller.pass).seen in
    let e = c.in-Ok-Some.ensures in
    let f = c.in-Ok-Some-offset_of.ensures in
    let few_then = few_multis_before u w f.went.grows few in
    let went = multi_both old.number c.offset_of.new.caller.number v u w e.same.1 e.went f.went in
    let p = pinned_later start v u held e.went.grows c.requires.pinned in
    let q = pinned_later start v w held went.grows c.requires.pinned in
    let kept = pins_kept old.number held.multi v u e.went c.requires.pins in
    let from = pinned_from start u old.number held.multi e.ready.at.kept kept in
    let later = pinned_from start w old.number held.multi f.ready.at.kept (pins_kept old.number held.multi v w went c.requires.pins) in
    let found = first_found start u e.ready.at.kept e.ready.at.base few_then held p (Some c.in-Ok-Some.low) from (subst (IsOffsetRead start u held.multi) c.in-Ok-Some.field-0-is (e.offset told from)) in
    let has = has_later start u w held.multi found.0 f.went.grows found.2 in
    let begun = e.begun told few_then in
    let behind = next_read start w f.ready.at.kept f.ready.at.base few held q begun found.0 (Some c.in-Ok-Some-offset_of.end) c.advance-next.result c.advance-next.ensures.value later has (λ last. false≢true (sym c.if-held.false ∙ last)) (λ at. subst (IsOffsetRead start w c.advance-next.result) c.in-Ok-Some-offset_of.field-0-is (f.offset told at)) in
    record {
      begun = begun;
      offset = found.0;
      begin = found.1;
      stands = has;
      end = inr (behind.0, behind.1, behind.2);
    }

pub returns-in-Ok-None-offset_of-clause-unread : goal.returns-in-Ok-None-offset_of-clause-unread
returns-in-Ok-None-offset_of-clause-unread g c =
    let start = start_of c.args.hall.now in
    let held = c.args.held.now in
    let old = c.args.caller.now in
    let v = (view old.pass).seen in
    let u = (view c.offset_of.new.caller.pass).seen in
    let w = (view c.offset_of-2.new.caller.pass).seen in
    let e = c.in-Ok-Some.ensures in
    let f = c.in-Ok-None-offset_of.ensures in
    let went = multi_both old.number c.offset_of.new.caller.number v u w e.same.1 e.went f.went in
    let p = pinned_later start v u held e.went.grows c.requires.pinned in
    let q = pinned_later start v w held went.grows c.requires.pinned in
    let from = pinned_from start u old.number held.multi e.ready.at.kept (pins_kept old.number held.multi v u e.went c.requires.pins) in
    let later = pinned_from start w old.number held.multi f.ready.at.kept (pins_kept old.number held.multi v w went c.requires.pins) in (
      subst IsMultiNumber (sym c.advance-next.ensures.value) (next_number held.multi (pinned_small start u held e.ready.at.base e.ready.at.kept p)),
      λ told few.
          let few_then = few_multis_before u w f.went.grows few in
          let found = first_found start u e.ready.at.kept e.ready.at.base few_then held p (Some c.in-Ok-Some.low) from (subst (IsOffsetRead start u held.multi) c.in-Ok-Some.field-0-is (e.offset told from)) in
          let has = has_later start u w held.multi found.0 f.went.grows found.2 in
          next_unread start w f.ready.at.kept f.ready.at.base few held q (e.begun told few_then) found.0 c.advance-next.result c.advance-next.ensures.value later has (λ last. false≢true (sym c.if-held.false ∙ last)) (λ at. subst (IsOffsetRead start w c.advance-next.result) c.in-Ok-None-offset_of.field-0-is (f.offset told at)),
    )

pub returns-in-Ok-Some-offset_of-clause-apart : goal.returns-in-Ok-Some-offset_of-clause-apart
returns-in-Ok-Some-offset_of-clause-apart g c =
    let u = c.offset_of.new.caller in
    let e = c.in-Ok-Some.ensures in
    apart_then c.args.caller.now.number u.number (view c.args.caller.now.pass).seen (view u.pass).seen (view c.offset_of-2.new.caller.pass).seen e.same.1 e.apart c.in-Ok-Some-offset_of.ensures.apart

pub returns-in-Ok-None-offset_of-clause-apart : goal.returns-in-Ok-None-offset_of-clause-apart
returns-in-Ok-None-offset_of-clause-apart g c =
    let u = c.offset_of.new.caller in
    let e = c.in-Ok-Some.ensures in
    apart_then c.args.caller.now.number u.number (view c.args.caller.now.pass).seen (view u.pass).seen (view c.offset_of-2.new.caller.pass).seen e.same.1 e.apart c.in-Ok-None-offset_of.ensures.apart

pub returns-in-Err-offset_of-clause-apart : goal.returns-in-Err-offset_of-clause-apart
returns-in-Err-offset_of-clause-apart g c =
    let u = c.offset_of.new.caller in
    let e = c.in-Ok-Some.ensures in
    apart_then c.args.caller.now.number u.number (view c.args.caller.now.pass).seen (view u.pass).seen (view c.offset_of-2.new.caller.pass).seen e.same.1 e.apart c.in-Err-offset_of.ensures.apart
