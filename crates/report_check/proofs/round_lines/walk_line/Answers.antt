use Rattle.std.proofs.Common.{◌≡◌, ◌<◌, ◌++◌, ◌∷◌, [], ◌∙◌, Some, length, ap, refl, subst, sym, arith}
use Rattle.std.specs.List.{slice_get}
use Rattle.tx_model.specs.declared.report.Line.{Line}
use Rattle.report_law.specs.Steps.{IsLawfulCommand}
use Rattle.event_rules.specs.Told.{AreToldEvents}
use Rattle.standing_rules.specs.Sessions.{AreBehind}
use Rattle.reply_lines.specs.At.{StandsThere, before_at, earlier_at, lines_at, lived_at, rounds_at}
use Rattle.report_check.specs.Passing.{IsPassed}
use Rattle.report_check.proofs.Judging.{never_both, never_true, same_line, true_both}
use Rattle.report_check.proofs.Rounding.{behind_slice, line_few, line_there, passed_more, stands_there}
use Rattle.report_check.proofs.round_lines.walk_line.Goals as goal

pub session_of-requires : goal.session_of-requires
session_of-requires g c =
    let r = c.requires in
    let there : slice_get (lines_at g.at) g.at.place ≡ Some c.in_ok-line.line = line_there (lines_at g.at) c.args.lines.now c.args.place g.at.place c.index-lines-place.result r.1.1.1.1.0 r.1.1.1.1.1.1.1.0 r.1.1.1.1.1.1.1.1 c.index-lines-place.is ∙ ap (λ (x : Line). Some x) (sym c.in_ok-line.ensures) in
    let few : c.in_ok-line.line.by.session < 64 = line_few g.at.j g.at.round g.at.step r.1.1.1.0 r.1.1.0.few g.at.place c.in_ok-line.line there in
    let size : length c.args.passed.now.sessions.items ≡ 64 = r.1.1.1.1.1.1.0.sessions.size in
    let slice : length c.as_slice.result.now ≡ length c.args.passed.now.sessions.items = ap length c.as_slice.ensures.value in
    omega arith

pub is_lawful_command-requires : goal.is_lawful_command-requires
is_lawful_command-requires g c =
    let r = c.requires in
    let p = r.1.1.1.1.1.1.0 in
    let there : slice_get (lines_at g.at) g.at.place ≡ Some c.in_ok-line.line = line_there (lines_at g.at) c.args.lines.now c.args.place g.at.place c.index-lines-place.result r.1.1.1.1.0 r.1.1.1.1.1.1.1.0 r.1.1.1.1.1.1.1.1 c.index-lines-place.is ∙ ap (λ (x : Line). Some x) (sym c.in_ok-line.ensures) in
    let stands : StandsThere g.at c.args.passed.now.lines c.in_ok-line.line = stands_there g.at c.args.passed.now.lines c.in_ok-line.line c.args.passed.now r.1.1.1.0 there p refl in
    let behind : AreBehind (lived_at g.at) (length c.as_slice.result.now) c.as_slice.result.now = behind_slice (lived_at g.at) c.args.passed.now.sessions.items c.as_slice.result.now c.as_slice.ensures.value p.sessions in
    (r.0, (r.1.0, (r.1.1.0, (r.1.1.1.1.1.0, (stands, (c.session_of.ensures (lived_at g.at) behind, (p.trims, subst (λ n. AreToldEvents g.at.j n c.args.passed.now.told.items) (sym p.size) p.told)))))))

pub returns-then-not-lawful-clause-lawful : goal.returns-then-not-lawful-clause-lawful
returns-then-not-lawful-clause-lawful g c = λ l at.
    let r = c.requires in
    let there : slice_get (lines_at g.at) g.at.place ≡ Some c.in_ok-line.line = line_there (lines_at g.at) c.args.lines.now c.args.place g.at.place c.index-lines-place.result r.1.1.1.1.0 r.1.1.1.1.1.1.1.0 r.1.1.1.1.1.1.1.1 c.index-lines-place.is ∙ ap (λ (x : Line). Some x) (sym c.in_ok-line.ensures) in
    let same : c.in_ok-line.line ≡ l = same_line (lines_at g.at) g.at.place c.in_ok-line.line l there at in
    never_both (IsLawfulCommand g.at.j (rounds_at g.at) (lines_at g.at) (earlier_at g.at) l)
    (subst (λ (x : Line). IsLawfulCommand g.at.j (rounds_at g.at) (lines_at g.at) (earlier_at g.at) x → ⊥) same
    (never_true c.in_ok-lawful.lawful (IsLawfulCommand g.at.j (rounds_at g.at) (lines_at g.at) (earlier_at g.at) c.in_ok-line.line) c.if-not-lawful.true c.in_ok-lawful.ensures.lawful))

pub pass_line-requires : goal.pass_line-requires
pass_line-requires g c =
    let r = c.requires in
    let p = r.1.1.1.1.1.1.0 in
    let there : slice_get (lines_at g.at) g.at.place ≡ Some c.in_ok-line.line = line_there (lines_at g.at) c.args.lines.now c.args.place g.at.place c.index-lines-place.result r.1.1.1.1.0 r.1.1.1.1.1.1.1.0 r.1.1.1.1.1.1.1.1 c.index-lines-place.is ∙ ap (λ (x : Line). Some x) (sym c.in_ok-line.ensures) in
    let stands : StandsThere g.at c.args.passed.now.lines c.in_ok-line.line = stands_there g.at c.args.passed.now.lines c.in_ok-line.line c.args.passed.now r.1.1.1.0 there p refl in
    (r.0, (r.1.1.0, (stands, (p.sessions.size, p.sessions))))

pub returns-clause-lawful : goal.returns-clause-lawful
returns-clause-lawful g c = λ l at.
    let r = c.requires in
    let there : slice_get (lines_at g.at) g.at.place ≡ Some c.in_ok-line.line = line_there (lines_at g.at) c.args.lines.now c.args.place g.at.place c.index-lines-place.result r.1.1.1.1.0 r.1.1.1.1.1.1.1.0 r.1.1.1.1.1.1.1.1 c.index-lines-place.is ∙ ap (λ (x : Line). Some x) (sym c.in_ok-line.ensures) in
    let same : c.in_ok-line.line ≡ l = same_line (lines_at g.at) g.at.place c.in_ok-line.line l there at in
    true_both (IsLawfulCommand g.at.j (rounds_at g.at) (lines_at g.at) (earlier_at g.at) l)
    (subst (λ (x : Line). IsLawfulCommand g.at.j (rounds_at g.at) (lines_at g.at) (earlier_at g.at) x) same (c.in_ok-lawful.ensures.lawful.0 c.if-not-lawful.false))

pub returns-clause-passed : goal.returns-clause-passed
returns-clause-passed g c = λ l at t.
    let r = c.requires in
    let p = r.1.1.1.1.1.1.0 in
    let there : slice_get (lines_at g.at) g.at.place ≡ Some c.in_ok-line.line = line_there (lines_at g.at) c.args.lines.now c.args.place g.at.place c.index-lines-place.result r.1.1.1.1.0 r.1.1.1.1.1.1.1.0 r.1.1.1.1.1.1.1.1 c.index-lines-place.is ∙ ap (λ (x : Line). Some x) (sym c.in_ok-line.ensures) in
    let same : c.in_ok-line.line ≡ l = same_line (lines_at g.at) g.at.place c.in_ok-line.line l there at in
    subst (λ (x : Line). IsPassed g.at.j (before_at g.at ++ x ∷ []) (record { sessions = c.pass_line.new.sessions; told = c.is_lawful_command.new.told; lines = c.in_ok-next.next; trims = c.in_ok-trims.trims })) same
    (passed_more g.at c.in_ok-line.line c.args.passed.now (record { sessions = c.pass_line.new.sessions; told = c.is_lawful_command.new.told; lines = c.in_ok-next.next; trims = c.in_ok-trims.trims }) c.args.passed.now.lines p refl c.in_ok-pass_line.ensures c.in_ok-lawful.ensures.told c.in_ok-next.ensures c.in_ok-trims.ensures)
