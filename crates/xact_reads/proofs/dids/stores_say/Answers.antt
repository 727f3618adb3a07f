use Rattle.std.proofs.Common.{subst}
use Rattle.hall.specs.Calls.{view, start_of}
use Rattle.bank_sections.specs.Reads.{IsStateRead}
use Rattle.engine_parts.specs.Adding.{IsPlain, MayMeet}
use Rattle.engine_parts.proofs.Adding.{plain_meets}
use Rattle.engine_parts.proofs.Answering.{few_before}
use Rattle.xact_reads.specs.Ancestors.{IsStep}
use Rattle.xact_reads.proofs.Ascending.{grows_nowhere, say_above, say_state}
use Rattle.xact_reads.proofs.Going.{read_adds, went_both}
use Rattle.xact_reads.proofs.Storing.{did_decided, did_either}
use Rattle.xact_reads.proofs.dids.stores_say.Goals as goal

pub returns-in-Ends-clause-did : goal.returns-in-Ends-clause-did
returns-in-Ends-clause-did g c told used few =
    let old = view c.args.caller.now.pass in
    let u = view c.state_of.new.caller.pass in
    let e = c.in-Ok.ensures in
    let says = subst (IsStep c.in-Ok.state c.args.x) c.in-Ends.is c.step_of.ensures.said in
    did_decided (start_of c.args.hall.now) old.seen u.seen u.seen c.args.x c.in-Ok.state c.requires.ready.at.kept e.ready.at.kept e.went.on.grows (grows_nowhere u.seen) used few (e.state told used few) c.in-Ends.committed says.1

pub returns-in-Ends-clause-said : goal.returns-in-Ends-clause-said
returns-in-Ends-clause-said g c told =
    let old = view c.args.caller.now.pass in
    let u = view c.state_of.new.caller.pass in
    let e = c.in-Ok.ensures in
    let says = subst (IsStep c.in-Ok.state c.args.x) c.in-Ends.is c.step_of.ensures.said in
    say_state (start_of c.args.hall.now) old.seen u.seen c.args.xmin c.args.x c.in-Ok.state c.in-Ends.committed e.went.on.grows (e.state told) says.0 says.1

pub returns-in-Ok-ancestors_did-clause-went : goal.returns-in-Ok-ancestors_did-clause-went
returns-in-Ok-ancestors_did-clause-went g c =
    let u = c.state_of.new.caller in
    went_both c.args.caller.now.number u.number (view c.args.caller.now.pass).seen (view u.pass).seen (view c.ancestors_did.new.caller.pass).seen c.in-Ok.ensures.same.1 c.in-Ok.ensures.went c.in-Ok-ancestors_did.ensures.went

pub returns-in-Ok-ancestors_did-clause-adds : goal.returns-in-Ok-ancestors_did-clause-adds
returns-in-Ok-ancestors_did-clause-adds g c =
    let old = c.args.caller.now in
    let u = c.state_of.new.caller in
    let e = c.in-Ok.ensures in
    read_adds old.number u.number old.session u.session IsPlain (view old.pass).seen (view u.pass).seen (view c.ancestors_did.new.caller.pass).seen e.same.1 e.same.0 (λ lock kind m. m) e.adds c.in-Ok-ancestors_did.ensures.adds

pub returns-in-Ok-ancestors_did-clause-did : goal.returns-in-Ok-ancestors_did-clause-did
returns-in-Ok-ancestors_did-clause-did g c told used few =
    let old = view c.args.caller.now.pass in
    let u = view c.state_of.new.caller.pass in
    let w = view c.ancestors_did.new.caller.pass in
    let e = c.in-Ok.ensures in
    let grows = c.in-Ok-ancestors_did.ensures.went.on.grows in
    let few_then = few_before u.seen w.seen grows few in
    let says = subst (IsStep c.in-Ok.state c.args.x) c.in-Further.is c.step_of.ensures.said in
    did_either (start_of c.args.hall.now) old.seen u.seen w.seen c.args.x c.in-Ok.state c.requires.ready.at.kept e.ready.at.kept e.went.on.grows grows used few_then (e.state told used few_then) c.in-Ok-ancestors_did.committed says.1

pub returns-in-Ok-ancestors_did-clause-said : goal.returns-in-Ok-ancestors_did-clause-said
returns-in-Ok-ancestors_did-clause-said g c told =
    let old = view c.args.caller.now.pass in
    let u = view c.state_of.new.caller.pass in
    let w = view c.ancestors_did.new.caller.pass in
    let start = start_of c.args.hall.now in
    let e = c.in-Ok.ensures in
    let f = c.in-Ok-ancestors_did.ensures in
    let says = subst (IsStep c.in-Ok.state c.args.x) c.in-Further.is c.step_of.ensures.said in
    say_above start old.seen u.seen w.seen c.args.xmin c.args.x c.in-Ok-ancestors_did.committed e.went.on.grows f.went.on.grows (subst (IsStateRead start u.seen c.args.x) says.1 (e.state told)) (f.said told)

pub returns-in-Err-ancestors_did-clause-went : goal.returns-in-Err-ancestors_did-clause-went
returns-in-Err-ancestors_did-clause-went g c =
    let u = c.state_of.new.caller in
    went_both c.args.caller.now.number u.number (view c.args.caller.now.pass).seen (view u.pass).seen (view c.ancestors_did.new.caller.pass).seen c.in-Ok.ensures.same.1 c.in-Ok.ensures.went c.in-Err-ancestors_did.ensures.went

pub returns-in-Err-ancestors_did-clause-adds : goal.returns-in-Err-ancestors_did-clause-adds
returns-in-Err-ancestors_did-clause-adds g c =
    let old = c.args.caller.now in
    let u = c.state_of.new.caller in
    let e = c.in-Ok.ensures in
    let refusal = c.in-Err-ancestors_did.refusal in
    read_adds old.number u.number old.session u.session (MayMeet refusal) (view old.pass).seen (view u.pass).seen (view c.ancestors_did.new.caller.pass).seen e.same.1 e.same.0 (plain_meets refusal) e.adds c.in-Err-ancestors_did.ensures.adds
