use Rattle.std.proofs.Common.{◌≡◌, ◌<◌, ◌≤◌, length, sym, ◌∙◌, ap, arith, true, false}
use Rattle.std.specs.List.{slice_index_or}
use Rattle.std.specs.Prelude.{nat_lt}
use Rattle.std.proofs.lemmas.Bool.Decides.{nat_tests}
use Rattle.proc_table.specs.Lives.{xmin_under}
use Rattle.proc_table.proofs.LiveSteps.{kept_at, kept_past}
use Rattle.proc_table.proofs.live.LiveSnapshots.xmin_of.Goals as goal

pub returns-in-Some : goal.returns-in-Some
returns-in-Some c = λ ss h.
    let test : true ≡ nat_lt c.args.session (length c.deref.result.now) = c.in-Some.ensures.lookup.0 in
    let same : length c.deref.result.now ≡ length c.args.self.now.sessions.items = ap length c.deref.ensures.value in
    let within : c.args.session < length c.args.self.now.sessions.items = grind (arith, nat_tests) in
    c.get-in-Some.ensures
    ∙ ap (xmin_under c.args.name.now) (c.in-Some.ensures.lookup.1 ∙ ap (λ l. slice_index_or l c.args.session c.in-Some.names.now) c.deref.ensures.value)
    ∙ sym (kept_at c.args.self.now.sessions.items c.args.session c.in-Some.names.now c.args.name.now within)
    ∙ h.names c.args.session c.args.name.now

pub returns-in-None : goal.returns-in-None
returns-in-None c = λ ss h.
    let test : false ≡ nat_lt c.args.session (length c.deref.result.now) = c.in-None.ensures.lookup.0 in
    let same : length c.deref.result.now ≡ length c.args.self.now.sessions.items = ap length c.deref.ensures.value in
    let past : length c.args.self.now.sessions.items ≤ c.args.session = grind (arith, nat_tests) in
    sym (kept_past c.args.self.now.sessions.items c.args.session c.args.name.now past) ∙ h.names c.args.session c.args.name.now
