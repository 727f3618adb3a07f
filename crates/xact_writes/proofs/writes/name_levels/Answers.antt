use Rattle.std.proofs.Common.{◌≡◌, ℕ, ◌≤◌, ◌∷◌, ◌++◌, List, ◌||◌, arith, ap, ◌∙◌, subst, sym, refl, [], false}
use Rattle.std.specs.List.{AllByRecursion, filter}
use Rattle.hall.specs.Calls.{view, start_of}
use Rattle.tx_events.specs.declared.event.By.{By}
use Rattle.tx_events.specs.declared.refusal.Refusal.TheVariants as refusals
use Rattle.tx_events.specs.Events.{by_of, is_of}
use Rattle.tx_model.specs.declared.command.Command.TheVariants as commands
use Rattle.tx_model.specs.declared.reply.Reply.TheVariants as replies
use Rattle.tx_core.specs.Entries.{history}
use Rattle.bank_sections.specs.Faults.{IsSubtransFault}
use Rattle.engine_parts.specs.Adding.{IsPlain, MayMeet}
use Rattle.engine_parts.specs.Calls.{Ran}
use Rattle.engine_parts.specs.Sessions.{by_at}
use Rattle.engine_parts.specs.Steps.{WentOn}
use Rattle.engine_parts.proofs.Adding.{adds_after, plain_meets}
use Rattle.xact_writes.specs.Writes.{IsGivenLater, IsWithout, Writing}
use Rattle.xact_writes.proofs.Calls.{ran_write}
use Rattle.xact_writes.proofs.Writing.{acted_at_once, acted_unlinked, acted_without, acted_wrote, levels_alike, levels_linked, levels_same, not_refused, positive, writing_none, writing_on, writing_step}
use Rattle.std.proofs.lemmas.Bool.{false≢true}
use Rattle.xact_writes.proofs.Filing.{filed_fault, filed_none}
use Rattle.xact_writes.proofs.writes.name_levels.Goals as goal

pub returns-in_default-clause-ran : goal.returns-in_default-clause-ran
returns-in_default-clause-ran g c =
    let old = c.args.caller.now in
    ran_write c.args.hall.now old old (replies.Refused refusals.Memory) c.requires.step.own c.requires.step.may refl refl refl refl (not_refused c.args.caller.now.session c.requires.clear c.requires.some)
    (acted_at_once g.P.PageDisk.tells (start_of c.args.hall.now) old.number old.session (view old.pass).seen c.requires.clear c.requires.some (positive old.session.levels.unnamed (λ none. false≢true (c.in_default.ensures.succeeds none))))

pub returns-in-Err-clause-ran : goal.returns-in-Err-clause-ran
returns-in-Err-clause-ran g c =
    let start = start_of c.args.hall.now in
    let old = c.args.caller.now in
    let n = old.number in
    let s = old.session in
    let v = (view old.pass).seen in
    let u = c.record_parent.new.caller in
    let w = (view u.pass).seen in
    let e = c.in-Err.ensures in
    let m = e.recorded in
    let k = writing_on start n s s u.session [] false v v w (writing_none start n s v c.requires.fresh) e.went (levels_same s u.session m.0) in
    ran_write c.args.hall.now old u (replies.Refused c.in-Err.refusal) e.own e.may k.stage k.making k.count e.number (not_refused c.args.caller.now.session c.requires.clear c.requires.some)
    (acted_unlinked g.P.PageDisk.tells start n s u.session [] false v w k c.requires.clear c.requires.some c.in-Err.refusal m.1 e.adds)

pub loop-caller-init : goal.loop-caller-init
loop-caller-init g c =
    let start = start_of c.args.hall.now in
    let old = c.args.caller.now in
    let n = old.number in
    let s = old.session in
    let v = (view old.pass).seen in
    let u = c.record_parent.new.caller in
    let w = (view u.pass).seen in
    let e = c.in-Ok-record_parent.ensures in
    let q = e.recorded in
    let k = writing_on start n s s u.session [] false v v w (writing_none start n s v c.requires.fresh) e.went (levels_linked s u.session q) in
    let r = c.in-Ok.ensures in
    let unnamed : u.session.levels.unnamed ≡ s.levels.unnamed = ap (λ z. z.levels.unnamed) q in
    (record { own = e.own; laid = c.requires.step.laid; each = c.requires.step.each; may = e.may }, subst (λ (l : List ℕ). Writing start n s u.session l false v w) (sym r.items) k, (e.number, ap (λ z. z.unlinked) q), (let a = r.len in let b = r.exact in omega arith), e.adds)

pub name_level-requires-clause-clear : goal.name_level-requires-clause-clear
name_level-requires-clause-clear g c = c.loop-caller.invariant.1.stage ∙ c.requires.clear

pub returns-in-Err-name_level-clause-ran : goal.returns-in-Err-name_level-clause-ran
returns-in-Err-name_level-clause-ran g c =
    let start = start_of c.args.hall.now in
    let old = c.args.caller.now in
    let n = old.number in
    let s = old.session in
    let v = (view old.pass).seen in
    let l = c.loop-caller in
    let i = l.invariant in
    let u = (view l.caller.pass).seen in
    let x = c.name_level.new.caller in
    let w = (view x.pass).seen in
    let t = x.session in
    let e = c.in-Err-name_level.ensures in
    let m = e.gives in
    let a = m.1 in
    let number = i.2.0 in
    let k = writing_on start n s l.caller.session t l.ids.items l.warn v u w i.1 (subst (λ z. WentOn z [] u w) number m.0) (levels_alike l.caller.session t a) in
    ran_write c.args.hall.now old x (replies.Refused c.in-Err-name_level.refusal) e.step.own e.step.may k.stage k.making k.count (e.number ∙ number) (not_refused c.args.caller.now.session c.requires.clear c.requires.some)
    (acted_without g.P.PageDisk.tells start n s t l.ids.items l.warn v w k c.requires.clear c.requires.some c.in-Err-name_level.refusal (let o = c.loop-caller-test.true in let p = a.levels.unnamed in omega arith)
    (subst (λ (z : ℕ × ℕ). AllByRecursion (λ f. (by_of f).command ≤ z.1) (filter (is_of z.0) (history w))) (λ j. ((e.number ∙ number) j, k.count j)) e.step.may.ready.at.stands.turn)
    (subst (λ (b : By). IsWithout start w b c.in-Err-name_level.refusal) (λ j. by_at (number j) (i.1.count j)) m.2)
    (adds_after (by_at n s.levels.commands) (by_at l.caller.number l.caller.session.levels.commands) (MayMeet c.in-Err-name_level.refusal) v u w (λ j. by_at (number j) (i.1.count j)) (plain_meets c.in-Err-name_level.refusal) i.4 e.adds))

pub loop-caller-preserved : goal.loop-caller-preserved
loop-caller-preserved g c =
    let start = start_of c.args.hall.now in
    let old = c.args.caller.now in
    let n = old.number in
    let s = old.session in
    let v = (view old.pass).seen in
    let l = c.loop-caller in
    let i = l.invariant in
    let u = (view l.caller.pass).seen in
    let x = (view c.name_level.new.caller.pass).seen in
    let y = c.name_level.new.caller.session in
    let w = (view c.record_parent-in-loop-caller.new.caller.pass).seen in
    let t = c.record_parent-in-loop-caller.new.caller.session in
    let number = i.2.0 in
    let o = c.in-Ok-name_level.ensures in
    let id = c.in-Ok-name_level.given.0 in
    let late = c.in-Ok-name_level.given.1 in
    let given = subst (λ z. IsGivenLater start z l.caller.session y id late u x) number o.gives in
    let one = writing_step start n s l.caller.session y l.ids.items id l.warn late v u x i.1 given in
    let e = c.in-Ok-record_parent-2.ensures in
    let q = e.recorded in
    let went = subst (λ z. WentOn z [] x w) (o.number ∙ number) e.went in
    let two = writing_on start n s y t (l.ids.items ++ id ∷ []) (l.warn || late) v x w one went (levels_linked y t q) in
    let unnamed : t.levels.unnamed ≡ y.levels.unnamed = ap (λ z. z.levels.unnamed) q in
    let z = c.name_level.new.caller in
    let by = by_at n s.levels.commands in
    let named = adds_after by (by_at l.caller.number l.caller.session.levels.commands) IsPlain v u x (λ j. by_at (number j) (i.1.count j)) (λ lock kind m. m) i.4 o.adds in
    let less = given.given.2.unnamed in (
      record { own = e.own; laid = c.requires.step.laid; each = c.requires.step.each; may = e.may },
      subst (λ (z : List ℕ). Writing start n s t z (l.warn || late) v w) (sym c.push_reserved.ensures.items) two,
      (e.number ∙ (o.number ∙ number), ap (λ z. z.unlinked) q),
      (let a = i.3 in let b = c.push_reserved.ensures.len in let r = c.push_reserved.ensures.capacity in omega arith),
      adds_after by (by_at z.number y.levels.commands) IsPlain v x w (λ j. by_at ((o.number ∙ number) j) (one.count j)) (λ lock kind m. m) named e.adds,
    )

pub returns-in-Err-record_parent-clause-ran : goal.returns-in-Err-record_parent-clause-ran
returns-in-Err-record_parent-clause-ran g c =
    let start = start_of c.args.hall.now in
    let old = c.args.caller.now in
    let n = old.number in
    let s = old.session in
    let v = (view old.pass).seen in
    let l = c.loop-caller in
    let i = l.invariant in
    let u = (view l.caller.pass).seen in
    let x = (view c.name_level.new.caller.pass).seen in
    let y = c.name_level.new.caller.session in
    let z = c.record_parent-in-loop-caller.new.caller in
    let w = (view z.pass).seen in
    let t = z.session in
    let number = i.2.0 in
    let o = c.in-Ok-name_level.ensures in
    let id = c.in-Ok-name_level.given.0 in
    let late = c.in-Ok-name_level.given.1 in
    let given = subst (λ z. IsGivenLater start z l.caller.session y id late u x) number o.gives in
    let one = writing_step start n s l.caller.session y l.ids.items id l.warn late v u x i.1 given in
    let e = c.in-Err-record_parent.ensures in
    let q = e.recorded in
    let went = subst (λ z. WentOn z [] x w) (o.number ∙ number) e.went in
    let two = writing_on start n s y t (l.ids.items ++ id ∷ []) (l.warn || late) v x w one went (levels_same y t q.0) in
    let by = by_at n s.levels.commands in
    ran_write c.args.hall.now old z (replies.Refused c.in-Err-record_parent.refusal) e.own e.may two.stage two.making two.count (e.number ∙ (o.number ∙ number)) (not_refused c.args.caller.now.session c.requires.clear c.requires.some)
    (acted_unlinked g.P.PageDisk.tells start n s t (l.ids.items ++ id ∷ []) (l.warn || late) v w two c.requires.clear c.requires.some c.in-Err-record_parent.refusal
    (subst (λ (b : By). IsSubtransFault w b c.in-Err-record_parent.refusal) (λ j. by_at ((o.number ∙ number) j) (one.count j)) q.1)
    (adds_after by (by_at c.name_level.new.caller.number y.levels.commands) (MayMeet c.in-Err-record_parent.refusal) v x w (λ j. by_at ((o.number ∙ number) j) (one.count j)) (plain_meets c.in-Err-record_parent.refusal)
    (adds_after by (by_at l.caller.number l.caller.session.levels.commands) IsPlain v u x (λ j. by_at (number j) (i.1.count j)) (λ lock kind m. m) i.4 o.adds) e.adds))

pub returns-clause-ran : goal.returns-clause-ran
returns-clause-ran g c =
    let start = start_of c.args.hall.now in
    let old = c.args.caller.now in
    let s = old.session in
    let l = c.loop-caller in
    let i = l.invariant in
    subst (λ (z : List ℕ). Ran c.args.hall.now s.levels.commands commands.Write (replies.Wrote l.warn z) old l.caller) (sym c.of.ensures)
    (ran_write c.args.hall.now old l.caller (replies.Wrote l.warn l.ids.items) i.0.own i.0.may i.1.stage i.1.making i.1.count i.2.0 (not_refused c.args.caller.now.session c.requires.clear c.requires.some)
    (acted_wrote g.P.PageDisk.tells start old.number s l.caller.session l.ids.items l.warn (view old.pass).seen (view l.caller.pass).seen i.1 c.requires.clear c.requires.some (let f = c.loop-caller-test.false in omega arith) i.4))

pub returns-clause-linked : goal.returns-clause-linked
returns-clause-linked g c = c.loop-caller.invariant.2.1

pub returns-in-Err-clause-filed : goal.returns-in-Err-clause-filed
returns-in-Err-clause-filed g c =
    let n = c.args.caller.now.number in
    let m = c.in-Err.ensures.recorded in
    filed_fault (view c.record_parent.new.caller.pass).seen (by_at n c.args.caller.now.session.levels.commands) c.args.caller.now.session.unlinked c.record_parent.new.caller.session.unlinked c.in-Err.refusal m.1

pub returns-in-Err-name_level-clause-filed : goal.returns-in-Err-name_level-clause-filed
returns-in-Err-name_level-clause-filed g c =
    let a = c.in-Err-name_level.ensures.gives.1 in
    filed_none c.args.caller.now.session.unlinked c.name_level.new.caller.session.unlinked c.in-Err-name_level.refusal (a.unlinked ∙ c.loop-caller.invariant.2.1)

pub returns-in-Err-record_parent-clause-filed : goal.returns-in-Err-record_parent-clause-filed
returns-in-Err-record_parent-clause-filed g c =
    let x = c.name_level.new.caller in
    let z = c.record_parent-in-loop-caller.new.caller in
    filed_fault (view z.pass).seen (by_at x.number x.session.levels.commands) c.args.caller.now.session.unlinked z.session.unlinked c.in-Err-record_parent.refusal c.in-Err-record_parent.ensures.recorded.1
