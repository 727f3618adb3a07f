use Rattle.std.proofs.Common.{◌≡◌, List, Some, sym, ap, ◌∙◌, ⊎_elim}
use Rattle.hall.specs.Calls.{view, start_of}
use Rattle.tx_events.specs.declared.refusal.Refusal.TheVariants as refusals
use Rattle.tx_model.specs.declared.command.Command.TheVariants as commands
use Rattle.tx_model.specs.declared.command.Pair.{Pair}
use Rattle.tx_model.specs.declared.reply.Reply.TheVariants as replies
use Rattle.life_law.specs.Refused.{refused_by_members}
use Rattle.engine_parts.specs.Answers.{reply_of}
use Rattle.engine_parts.specs.Calls.{next_command}
use Rattle.engine_parts.specs.Sessions.{by_at}
use Rattle.engine_parts.proofs.Calling.{ran_counted, step_counted}
use Rattle.log_sections.proofs.Rooms.{counted_by, met_for_then}
use Rattle.multi_makes.specs.Makes.{given_reply}
use Rattle.multi_makes.specs.Pending.{IsPending}
use Rattle.multi_makes.proofs.Acts.{makes_items, makes_ran, words_are, words_ran}
use Rattle.multi_makes.proofs.makes.multi.Goals as goal

pub make_next-requires-clause-step : goal.make_next-requires-clause-step
make_next-requires-clause-step g c = step_counted c.args.hall.now c.args.caller.now c.count.new.caller c.count.ensures c.requires

pub returns-in-Some-clause-ran : goal.returns-in-Some-clause-ran
returns-in-Some-clause-ran g c =
    let hall = c.args.hall.now in
    let old = c.args.caller.now in
    let u = c.count.new.caller in
    let r = c.in-Some.refusal in
    let words : refused_by_members (commands.Multi c.args.members.now) ≡ Some r = ap (λ (l : List Pair). refused_by_members (commands.Multi l)) (sym c.items.ensures) ∙ (sym c.refused_pairs.ensures ∙ c.in-Some.is) in
    ran_counted hall old u u (commands.Multi c.args.members.now) (replies.Refused r) c.count.ensures
    (words_ran hall u c.args.members.now r (step_counted hall old u c.count.ensures c.requires) words)

pub returns-in-None-clause-ran : goal.returns-in-None-clause-ran
returns-in-None-clause-ran g c =
    let hall = c.args.hall.now in
    let old = c.args.caller.now in
    let u = c.count.new.caller in
    let m = c.make_next in
    let x = m.new.caller in
    let pairs = c.args.members.now in
    let e = m.ensures in
    ran_counted hall old u x (commands.Multi pairs) (reply_of given_reply m.result) c.count.ensures
    (makes_ran hall u x pairs m.result e.step e.left e.adds (makes_items (start_of hall) u.number u.session x.session _ pairs (view u.pass).seen (view x.pass).seen m.result c.items-in-None.ensures e.makes))

-- the log was full
pub returns-in-None-clause-full : goal.returns-in-None-clause-full
returns-in-None-clause-full g c =
    let old = c.args.caller.now in
    let u = c.count.new.caller in
    let x = c.make_next.new.caller in
    met_for_then (start_of c.args.hall.now) (view x.pass).seen (by_at u.number u.session.levels.commands) (by_at old.number (next_command old)) (IsPending x.session.making) (IsPending x.session.making) c.make_next.result
    (counted_by old u c.count.ensures) (λ z of. of) c.make_next.ensures.full

pub returns-in-Some-clause-full : goal.returns-in-Some-clause-full
returns-in-Some-clause-full g c = λ is.
    let r = c.in-Some.refusal in
    let words : refused_by_members (commands.Multi c.args.members.now) ≡ Some r = ap (λ (l : List Pair). refused_by_members (commands.Multi l)) (sym c.items.ensures) ∙ (sym c.refused_pairs.ensures ∙ c.in-Some.is) in
    ⊎_elim (λ m. let two : refusals.MemberCount ≡ refusals.Full = sym m ∙ is in absurd cc) (λ m. let two : refusals.TwoUpdaters ≡ refusals.Full = sym m ∙ is in absurd cc) (words_are c.args.members.now r words)
