use Rattle.std.proofs.Common.{◌≡◌, [], ◌++◌, Some, None, Option, sym, ap, ◌∙◌, append-nil}
use Rattle.std.specs.List.{cons_option}
use Rattle.history_places.specs.declared.start.Start.{Start}
use Rattle.report_check.specs.Keeping.{kept_home}
use Rattle.report_check.proofs.Homes.{start_none, start_some}
use Rattle.report_check.proofs.keep.add_multi.Goals as goal

pub returns-in_ok-push-in-Some-2-clause-starts : goal.returns-in_ok-push-in-Some-2-clause-starts
returns-in_ok-push-in-Some-2-clause-starts c = λ recs are.
    let home : kept_home recs c.args.life c.args.place c.args.event.now ≡ Some c.in-Some.home = sym (c.home_of.ensures recs are) ∙ c.in-Some.is in
    let start = start_some recs c.args.life c.args.place c.args.event.now c.in-Some.home home in
    c.in_ok-push-in-Some.ensures.items ∙ ap (λ (o : Option Start). c.args.starts.now.items ++ cons_option o []) (sym start)

pub returns-in-None-clause-starts : goal.returns-in-None-clause-starts
returns-in-None-clause-starts c = λ recs are.
    let home : kept_home recs c.args.life c.args.place c.args.event.now ≡ None = sym (c.home_of.ensures recs are) ∙ c.in-None.is in
    let start = start_none recs c.args.life c.args.place c.args.event.now home in
    sym (append-nil c.args.starts.now.items) ∙ ap (λ (o : Option Start). c.args.starts.now.items ++ cons_option o []) (sym start)
