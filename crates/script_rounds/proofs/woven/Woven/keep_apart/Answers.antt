use Rattle.std.proofs.Common.{List, ap, length, subst, sym, ℕ, ◌++◌, ◌-◌, ◌∙◌, ◌≤◌}
use Rattle.std.specs.Result.{is_ok}
use Rattle.report_text.specs.ReportText.{snapshot_end}
use Rattle.script_rounds.proofs.Weaving.{one_pushed, stands_piece, told_piece}
use Rattle.script_rounds.specs.Woven.{Piece, pieces_in}
use Rattle.script_rounds.proofs.woven.Woven.keep_apart.Goals as goal

pub invariant_of-self-2 : goal.invariant_of-self-2
invariant_of-self-2 c =
    let s = c.self.inside in
    let m : Piece = (length c.bytes-length.result.now - s.before, snapshot_end c.args.lists.now) in
    let long = ap (λ (t : List ℕ). length t) c.bytes-length.ensures in
    let more = one_pushed s.runs.items c.end_last.new.runs c.push.new.self.items c.add.new.self c.in-Ok.end m s.runs.len (is_ok c.push.result) s.runs.ok.0 (c.end_last.ensures ∙ c.deref_mut.ensures.value) c.in-Ok.ensures
    c.if-not-add.ensures c.if-is_err.ensures.negation c.push.ensures.items in
    let stands = stands_piece s.before (pieces_in s.runs.items) (pieces_in c.push.new.self.items) s.own m c.self.invariant (ap (λ (t : List ℕ). length t - s.before) c.bytes-length.ensures) more in
    (long ∙ stands.0, subst (λ n. n ≤ length s.own) (sym long) stands.1)

pub returns : goal.returns
returns c =
    let s = c.self.inside in
    let m : Piece = (length c.bytes-length.result.now - s.before, snapshot_end c.args.lists.now) in
    let more = one_pushed s.runs.items c.end_last.new.runs c.push.new.self.items c.add.new.self c.in-Ok.end m s.runs.len (is_ok c.push.result) s.runs.ok.0 (c.end_last.ensures ∙ c.deref_mut.ensures.value) c.in-Ok.ensures
    c.if-not-add.ensures c.if-is_err.ensures.negation c.push.ensures.items in
    told_piece s.before (pieces_in s.runs.items) (pieces_in c.push.new.self.items) s.own m c.self.invariant (ap (λ (t : List ℕ). length t - s.before) c.bytes-length.ensures) more
    ∙ ap (λ (t : List ℕ). t ++ snapshot_end c.args.lists.now) c.self.view_is
