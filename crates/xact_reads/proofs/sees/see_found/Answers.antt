use Rattle.std.proofs.Common.{[], None, Some, inl, arith, subst, ◌∙◌}
use Rattle.std.proofs.lemmas.Bool.Decides.{nat_tests}
use Rattle.hall.specs.Calls.{view, start_of}
use Rattle.tx_events.specs.declared.event.By.{By}
use Rattle.tx_events.specs.declared.refusal.Refusal.TheVariants as refusals
use Rattle.tx_core.specs.Locks.{proc_lock}
use Rattle.engine_parts.specs.declared.session.Session.{Session}
use Rattle.engine_parts.specs.Adding.{IsPlain, MayMeet}
use Rattle.engine_parts.specs.Sessions.{by_at}
use Rattle.engine_parts.specs.Steps.{WentOn}
use Rattle.engine_parts.proofs.Adding.{adds_wider, plain_meets}
use Rattle.engine_parts.proofs.Sectioning.{same_command}
use Rattle.engine_parts.proofs.Unmoved.{at_same}
use Rattle.xact_reads.specs.Apart.{FoundCut, FoundMeantCut}
use Rattle.xact_reads.specs.Glances.{IsGlance, Shows}
use Rattle.xact_reads.specs.Readings.{IsShown, IsUnread}
use Rattle.xact_reads.proofs.Aparting.{apart_then, apart_unless, found_later, nothing_still}
use Rattle.xact_reads.proofs.Going.{read_adds, went_both}
use Rattle.xact_reads.proofs.Replying.{old_answer, seen_answer, unread_answer}
use Rattle.xact_reads.proofs.WordReading.{finds_word}
use Rattle.xact_reads.proofs.sees.see_found.Goals as goal

pub returns-in-None-clause-allowed : goal.returns-in-None-clause-allowed
returns-in-None-clause-allowed g c =
    let old = c.args.caller.now in
    let u = c.read_oldest_word-published.new.caller in
    let e = c.read_oldest_word-published.ensures in
    let h = c.requires.glanced in
    let start = start_of c.args.hall.now in
    let a = at_same start (view u.pass) old.number u.number old.session u.session e.same.1 e.same.0 e.ready in
    old_answer start (view old.pass) (view u.pass) old.number old.session c.args.name.now c.args._x h.registered a e.went h.named (g.P.PageDisk.tells) None c.read_oldest_word-published.result c.requires.normal
    (subst (IsGlance h.registered.snapshot c.args._x.number) c.in-None.is h.glance) tt
    (finds_word start (view old.pass) (view u.pass) old.number old.session c.read_oldest_word-published.result a e.went e.shown)

pub returns-in-None-clause-adds : goal.returns-in-None-clause-adds
returns-in-None-clause-adds g c =
    let old = c.args.caller.now in
    adds_wider (by_at old.number old.session.levels.commands) (λ lock kind. ⊥) (MayMeet (refusals.TooOld c.read_oldest_word-published.result)) (view old.pass).seen (view c.read_oldest_word-published.new.caller.pass).seen (λ lock kind no. absurd no) c.read_oldest_word-published.ensures.adds

pub returns-in-None-clause-apart : goal.returns-in-None-clause-apart
returns-in-None-clause-apart g c =
    let old = c.args.caller.now in
    inl (nothing_still (by_at old.number old.session.levels.commands) (view old.pass).seen (view c.read_oldest_word-published.new.caller.pass).seen proc_lock c.read_oldest_word-published.ensures.adds)

pub returns-then-lt-clause-allowed : goal.returns-then-lt-clause-allowed
returns-then-lt-clause-allowed g c =
    let old = c.args.caller.now in
    let u = c.read_oldest_word-published.new.caller in
    let e = c.read_oldest_word-published.ensures in
    let h = c.requires.glanced in
    let start = start_of c.args.hall.now in
    let glance = c.in-Some.glance in
    let shows : Shows h.registered.snapshot c.args._x.number glance = subst (IsGlance h.registered.snapshot c.args._x.number) c.in-Some.is h.glance in
    let a = at_same start (view u.pass) old.number u.number old.session u.session e.same.1 e.same.0 e.ready in
    old_answer start (view old.pass) (view u.pass) old.number old.session c.args.name.now c.args._x h.registered a e.went h.named (g.P.PageDisk.tells) (Some glance.id) c.read_oldest_word-published.result c.requires.normal shows.near
    (grind (arith, nat_tests, c.if-lt.true, c.lt.ensures))
    (finds_word start (view old.pass) (view u.pass) old.number old.session c.read_oldest_word-published.result a e.went e.shown)

pub returns-then-lt-clause-adds : goal.returns-then-lt-clause-adds
returns-then-lt-clause-adds g c =
    let old = c.args.caller.now in
    adds_wider (by_at old.number old.session.levels.commands) (λ lock kind. ⊥) (MayMeet (refusals.TooOld c.read_oldest_word-published.result)) (view old.pass).seen (view c.read_oldest_word-published.new.caller.pass).seen (λ lock kind no. absurd no) c.read_oldest_word-published.ensures.adds

pub returns-then-lt-clause-apart : goal.returns-then-lt-clause-apart
returns-then-lt-clause-apart g c =
    let old = c.args.caller.now in
    inl (nothing_still (by_at old.number old.session.levels.commands) (view old.pass).seen (view c.read_oldest_word-published.new.caller.pass).seen proc_lock c.read_oldest_word-published.ensures.adds)

pub returns-in-Ok-clause-apart : goal.returns-in-Ok-clause-apart
returns-in-Ok-clause-apart g c =
    let old = c.args.caller.now in
    let u = c.read_oldest_word-published.new.caller in
    let e = c.read_oldest_word-published.ensures in
    apart_then old.number u.number (view old.pass).seen (view u.pass).seen (view c.show.new.caller.pass).seen e.same.1 (nothing_still (by_at old.number old.session.levels.commands) (view old.pass).seen (view u.pass).seen proc_lock e.adds) c.in-Ok.ensures.apart

pub returns-in-Err-clause-apart : goal.returns-in-Err-clause-apart
returns-in-Err-clause-apart g c =
    let old = c.args.caller.now in
    let u = c.read_oldest_word-published.new.caller in
    let w = view c.show.new.caller.pass in
    let e = c.read_oldest_word-published.ensures in
    let h = c.requires.glanced in
    let start = start_of c.args.hall.now in
    let glance = c.in-Some.glance in
    let shows : Shows h.registered.snapshot c.args._x.number glance = subst (IsGlance h.registered.snapshot c.args._x.number) c.in-Some.is h.glance in
    let by = by_at old.number old.session.levels.commands in
    let by' = by_at u.number u.session.levels.commands in
    let v = (view old.pass).seen in
    let v' = (view u.pass).seen in
    apart_unless (FoundCut start by' v' w.seen glance.id) (FoundMeantCut start by v w.seen old.session.levels c.args.name.now c.args._x.number) old.number u.number v v' w.seen c.in-Err.refusal e.same.1
    (λ (found : FoundCut start by' v' w.seen glance.id). record {
      registered = h.registered;
      named = h.named;
      id = glance.id;
      near = shows.near;
      found = found_later start by by' v v' w.seen glance.id (same_command old.number u.number old.session u.session e.same.1 e.same.0) e.went.on.grows (λ lock. nothing_still by v v' lock e.adds) found;
    })
    (nothing_still by v v' proc_lock e.adds) c.in-Err.ensures.apart

pub returns-in-Ok-clause-went : goal.returns-in-Ok-clause-went
returns-in-Ok-clause-went g c =
    let u = c.read_oldest_word-published.new.caller in
    let e = c.read_oldest_word-published.ensures in
    went_both c.args.caller.now.number u.number (view c.args.caller.now.pass).seen (view u.pass).seen (view c.show.new.caller.pass).seen e.same.1 e.went c.in-Ok.ensures.went

pub returns-in-Ok-clause-allowed : goal.returns-in-Ok-clause-allowed
returns-in-Ok-clause-allowed g c =
    let old = c.args.caller.now in
    let u = c.read_oldest_word-published.new.caller in
    let w = c.show.new.caller in
    let e = c.read_oldest_word-published.ensures in
    let f = c.in-Ok.ensures in
    let h = c.requires.glanced in
    let start = start_of c.args.hall.now in
    let glance = c.in-Some.glance in
    let shows : Shows h.registered.snapshot c.args._x.number glance = subst (IsGlance h.registered.snapshot c.args._x.number) c.in-Some.is h.glance in
    seen_answer (g.P.PageDisk.tells) start (view old.pass) (view u.pass) (view w.pass) old.number old.session c.args.name.now c.args._x h.registered glance c.read_oldest_word-published.result c.in-Ok.shown (at_same start (view u.pass) old.number u.number old.session u.session e.same.1 e.same.0 e.ready) e.went
    (subst (λ z. WentOn z [] (view u.pass).seen (view w.pass).seen) e.same.1 f.went) h.named c.requires.normal shows e.shown
    (grind (arith, nat_tests, c.if-lt.false, c.lt.ensures))
    (λ told. subst (λ (z : Session). IsShown start (view w.pass).seen z.levels c.args.name.now glance.id c.in-Ok.shown) e.same.0 (f.shown told))

pub returns-in-Ok-clause-adds : goal.returns-in-Ok-clause-adds
returns-in-Ok-clause-adds g c =
    let old = c.args.caller.now in
    let u = c.read_oldest_word-published.new.caller in
    let e = c.read_oldest_word-published.ensures in
    read_adds old.number u.number old.session u.session IsPlain (view old.pass).seen (view u.pass).seen (view c.show.new.caller.pass).seen e.same.1 e.same.0 (λ lock kind m. m)
    (adds_wider (by_at old.number old.session.levels.commands) (λ lock kind. ⊥) IsPlain (view old.pass).seen (view u.pass).seen (λ lock kind no. absurd no) e.adds) c.in-Ok.ensures.adds

pub returns-in-Err-clause-went : goal.returns-in-Err-clause-went
returns-in-Err-clause-went g c =
    let u = c.read_oldest_word-published.new.caller in
    let e = c.read_oldest_word-published.ensures in
    went_both c.args.caller.now.number u.number (view c.args.caller.now.pass).seen (view u.pass).seen (view c.show.new.caller.pass).seen e.same.1 e.went c.in-Err.ensures.went

pub returns-in-Err-clause-allowed : goal.returns-in-Err-clause-allowed
returns-in-Err-clause-allowed g c =
    let old = c.args.caller.now in
    let u = c.read_oldest_word-published.new.caller in
    let w = c.show.new.caller in
    let e = c.read_oldest_word-published.ensures in
    let f = c.in-Err.ensures in
    let h = c.requires.glanced in
    let start = start_of c.args.hall.now in
    let glance = c.in-Some.glance in
    let went = went_both old.number u.number (view old.pass).seen (view u.pass).seen (view w.pass).seen e.same.1 e.went f.went in
    (unread_answer start (view old.pass) (view w.pass) old.number old.session c.args.name.now c.args._x h.registered (at_same start (view w.pass) old.number w.number old.session w.session (f.same.1 ∙ e.same.1) (f.same.0 ∙ e.same.0) f.ready) went h.named (g.P.PageDisk.tells) glance c.in-Err.refusal c.requires.normal
    (subst (IsGlance h.registered.snapshot c.args._x.number) c.in-Some.is h.glance)
    (subst (λ (b : By). IsUnread start (view w.pass).seen b glance.id c.in-Err.refusal) (same_command old.number u.number old.session u.session e.same.1 e.same.0) f.unread)).0

pub returns-in-Err-clause-standing : goal.returns-in-Err-clause-standing
returns-in-Err-clause-standing g c =
    let old = c.args.caller.now in
    let u = c.read_oldest_word-published.new.caller in
    let w = c.show.new.caller in
    let e = c.read_oldest_word-published.ensures in
    let f = c.in-Err.ensures in
    let h = c.requires.glanced in
    let start = start_of c.args.hall.now in
    let glance = c.in-Some.glance in
    let went = went_both old.number u.number (view old.pass).seen (view u.pass).seen (view w.pass).seen e.same.1 e.went f.went in
    (unread_answer start (view old.pass) (view w.pass) old.number old.session c.args.name.now c.args._x h.registered (at_same start (view w.pass) old.number w.number old.session w.session (f.same.1 ∙ e.same.1) (f.same.0 ∙ e.same.0) f.ready) went h.named (g.P.PageDisk.tells) glance c.in-Err.refusal c.requires.normal
    (subst (IsGlance h.registered.snapshot c.args._x.number) c.in-Some.is h.glance)
    (subst (λ (b : By). IsUnread start (view w.pass).seen b glance.id c.in-Err.refusal) (same_command old.number u.number old.session u.session e.same.1 e.same.0) f.unread)).1

pub returns-in-Err-clause-adds : goal.returns-in-Err-clause-adds
returns-in-Err-clause-adds g c =
    let old = c.args.caller.now in
    let u = c.read_oldest_word-published.new.caller in
    let e = c.read_oldest_word-published.ensures in
    read_adds old.number u.number old.session u.session (MayMeet c.in-Err.refusal) (view old.pass).seen (view u.pass).seen (view c.show.new.caller.pass).seen e.same.1 e.same.0 (plain_meets c.in-Err.refusal)
    (adds_wider (by_at old.number old.session.levels.commands) (λ lock kind. ⊥) IsPlain (view old.pass).seen (view u.pass).seen (λ lock kind no. absurd no) e.adds) c.in-Err.ensures.adds
