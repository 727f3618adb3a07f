use Rattle.std.proofs.Common.{◌≡◌, ap, subst, sym, ◌∙◌, false, length}
use Rattle.std.specs.List.{All}
use Rattle.engine_host.specs.declared.cluster.Cluster.{Cluster}
use Rattle.engine_host.specs.Hosts.{HoldsAllBut}
use Rattle.session_run.specs.declared.member.Member.{Member}
use Rattle.session_run.specs.Rounds.{AreApart, AreSent, StayBehind, is_among, with_members}
use Rattle.session_run.proofs.Joining.{back_same, may_same, numbers_same}
use Rattle.session_run.proofs.Rounding.{are_apart, both_ok, may_all, may_return, none_kept, numbers_are, others_rest, round_kept, went}
use Rattle.session_run.proofs.TurnLemmas.{Keeps}
use Rattle.session_run.proofs.round.run_round.Goals as goal

pub let_in-requires-clause-apart : goal.let_in-requires-clause-apart
let_in-requires-clause-apart g c = subst AreApart (sym c.as_slice-numbers.ensures.value) (are_apart c.args.round.now c.args.plan.now c.requires.plan.0)

pub run_members-requires-clause-may : goal.run_members-requires-clause-may
run_members-requires-clause-may g c κs within =
    let h = c.args.hall.now in
    let sent : AreSent g.K.LineKeeper h c.args.host.now c.args.sessions.now c.args.plan.now.sessions.items c.let_in.new.members.items = subst (λ ns. AreSent g.K.LineKeeper h c.args.host.now c.args.sessions.now ns c.let_in.new.members.items) c.as_slice-numbers.ensures.value c.let_in.ensures.sent in
    may_all g.K.LineKeeper h c.args.host.now c.args.sessions.now c.args.plan.now c.args.round.now c.let_in.new.members.items sent c.requires.plan.0 c.requires.plan.1 c.requires.room

pub run_members-requires-clause-none : goal.run_members-requires-clause-none
run_members-requires-clause-none g c κs within =
    let h = c.args.hall.now in
    let sent : AreSent g.K.LineKeeper h c.args.host.now c.args.sessions.now c.args.plan.now.sessions.items c.let_in.new.members.items = subst (λ ns. AreSent g.K.LineKeeper h c.args.host.now c.args.sessions.now ns c.let_in.new.members.items) c.as_slice-numbers.ensures.value c.let_in.ensures.sent in
    none_kept g.K.LineKeeper h c.args.host.now c.args.sessions.now c.args.plan.now c.args.round.now c.let_in.new.members.items sent c.requires.plan.0 c.requires.plan.1

pub take_back-requires-clause-names : goal.take_back-requires-clause-names
take_back-requires-clause-names g c =
    let h = c.args.hall.now in
    let sent : AreSent g.K.LineKeeper h c.args.host.now c.args.sessions.now c.args.plan.now.sessions.items c.let_in.new.members.items = subst (λ ns. AreSent g.K.LineKeeper h c.args.host.now c.args.sessions.now ns c.let_in.new.members.items) c.as_slice-numbers.ensures.value c.let_in.ensures.sent in
    let numbers = numbers_are g.K.LineKeeper h c.args.host.now c.args.sessions.now c.args.plan.now c.args.round.now c.let_in.new.members.items sent c.requires.plan.0 c.requires.plan.1 c.args.names.now c.run_members.ensures.ran c.run_members.ensures.all in
    let joined = numbers_same c.run_members.ensures.ran c.join_members-joined.new.members.items (c.join_members-joined.ensures.callers ∙ c.run_members.ensures.callers) in
    subst (HoldsAllBut c.let_in.new.host) (c.as_slice-numbers.ensures.value ∙ sym numbers ∙ sym joined) c.let_in.ensures.names

pub take_back-requires-clause-may : goal.take_back-requires-clause-may
take_back-requires-clause-may g c =
    let h = c.args.hall.now in
    let sent : AreSent g.K.LineKeeper h c.args.host.now c.args.sessions.now c.args.plan.now.sessions.items c.let_in.new.members.items = subst (λ ns. AreSent g.K.LineKeeper h c.args.host.now c.args.sessions.now ns c.let_in.new.members.items) c.as_slice-numbers.ensures.value c.let_in.ensures.sent in
    may_same c.run_members.ensures.ran c.join_members-joined.new.members.items (c.join_members-joined.ensures.callers ∙ c.run_members.ensures.callers)
    h c.let_in.new.host.cluster.banks (length c.let_in.new.sessions)
    (may_return g.K.LineKeeper h c.args.host.now c.args.sessions.now c.args.plan.now c.args.round.now c.let_in.new.members.items sent c.requires.plan.0 c.requires.plan.1 c.args.names.now c.run_members.ensures.ran c.run_members.ensures.all
    c.let_in.new.host.cluster.banks (length c.let_in.new.sessions) (ap (λ (k : Cluster). k.banks) c.let_in.ensures.cluster) c.let_in.ensures.stay.count)

pub take_back-requires-clause-apart : goal.take_back-requires-clause-apart
take_back-requires-clause-apart g c =
    let h = c.args.hall.now in
    let sent : AreSent g.K.LineKeeper h c.args.host.now c.args.sessions.now c.args.plan.now.sessions.items c.let_in.new.members.items = subst (λ ns. AreSent g.K.LineKeeper h c.args.host.now c.args.sessions.now ns c.let_in.new.members.items) c.as_slice-numbers.ensures.value c.let_in.ensures.sent in
    let numbers = numbers_are g.K.LineKeeper h c.args.host.now c.args.sessions.now c.args.plan.now c.args.round.now c.let_in.new.members.items sent c.requires.plan.0 c.requires.plan.1 c.args.names.now c.run_members.ensures.ran c.run_members.ensures.all in
    let joined = numbers_same c.run_members.ensures.ran c.join_members-joined.new.members.items (c.join_members-joined.ensures.callers ∙ c.run_members.ensures.callers) in
    subst AreApart (sym numbers ∙ sym joined) (are_apart c.args.round.now c.args.plan.now c.requires.plan.0)

pub take_back-requires-clause-others : goal.take_back-requires-clause-others
take_back-requires-clause-others g c =
    let h = c.args.hall.now in
    let sent : AreSent g.K.LineKeeper h c.args.host.now c.args.sessions.now c.args.plan.now.sessions.items c.let_in.new.members.items = subst (λ ns. AreSent g.K.LineKeeper h c.args.host.now c.args.sessions.now ns c.let_in.new.members.items) c.as_slice-numbers.ensures.value c.let_in.ensures.sent in
    let stay : StayBehind h c.let_in.new.host c.args.plan.now.sessions.items c.args.sessions.now c.let_in.new.sessions = subst (λ ns. StayBehind h c.let_in.new.host ns c.args.sessions.now c.let_in.new.sessions) c.as_slice-numbers.ensures.value c.let_in.ensures.stay in
    let joined = numbers_same c.run_members.ensures.ran c.join_members-joined.new.members.items (c.join_members-joined.ensures.callers ∙ c.run_members.ensures.callers) in
    λ n d low e.
    others_rest g.K.LineKeeper h c.args.host.now c.args.sessions.now c.args.plan.now c.args.round.now c.let_in.new.members.items sent c.requires.plan.0 c.requires.plan.1 c.args.names.now c.run_members.ensures.ran c.run_members.ensures.all
    c.let_in.new.host c.let_in.new.sessions stay n d low (ap (λ t. is_among t n) (sym joined) ∙ e)

pub returns-clause-went : goal.returns-clause-went
returns-clause-went g c =
    let keep = g.K.LineKeeper in
    let h = c.args.hall.now in
    let names = c.args.names.now in
    let laws : Keeps keep names = record { none = c.keeper_laws.ensures.none; then = c.keeper_laws.ensures.then; join = c.keeper_laws.ensures.join } in
    let ran = c.run_members.ensures.ran in
    let sent : AreSent keep h c.args.host.now c.args.sessions.now c.args.plan.now.sessions.items c.let_in.new.members.items = subst (λ ns. AreSent keep h c.args.host.now c.args.sessions.now ns c.let_in.new.members.items) c.as_slice-numbers.ensures.value c.let_in.ensures.sent in
    let stay : StayBehind h c.let_in.new.host c.args.plan.now.sessions.items c.args.sessions.now c.let_in.new.sessions = subst (λ ns. StayBehind h c.let_in.new.host ns c.args.sessions.now c.let_in.new.sessions) c.as_slice-numbers.ensures.value c.let_in.ensures.stay in
    let joined = c.join_members-joined.new.members.items in
    let back = back_same ran joined (c.join_members-joined.ensures.callers ∙ c.run_members.ensures.callers) c.let_in.new.host c.take_back.new.host c.let_in.new.sessions c.take_back.new.sessions c.take_back.ensures.back in
    let told = c.run_members.ensures in
    let sent_back = c.run_members.new.members.items in
    both_ok (All (λ (m : Member _ _ _ _ _). m.lost ≡ false) sent_back) (c.join_members-joined.new.kept ≡ with_members keep c.run_members.new.kept sent_back) _ c.join_members-joined.result
    (λ each put. (
      _,
      went keep h c.args.host.now c.args.sessions.now c.args.plan.now c.args.round.now c.let_in.new.members.items sent c.requires.plan.0 c.requires.plan.1 names ran told.all
          c.let_in.new.host c.take_back.new.host c.let_in.new.sessions c.take_back.new.sessions c.let_in.ensures.cluster c.let_in.ensures.seen stay back (told.sufficed each),
      round_kept keep h c.args.host.now c.args.sessions.now c.args.plan.now c.args.round.now c.let_in.new.members.items sent c.requires.plan.0 c.requires.plan.1 names ran told.all
          laws c.args.kept.now c.join_members-joined.new.kept (told.sufficed each) (put ∙ told.kept_is each),
    ))
    c.join_members-joined.ensures.sufficed c.join_members-joined.ensures.kept
