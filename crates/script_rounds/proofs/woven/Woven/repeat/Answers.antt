use Rattle.std.proofs.Common.{List, ap, length, refl, subst, sym, ℕ, ◌++◌, ◌-◌, ◌∙◌, ◌≤◌}
use Rattle.report_text.specs.ReportText.{snapshot_end}
use Rattle.script_rounds.proofs.Weaving.{last_longer, stands_piece, told_piece}
use Rattle.script_rounds.specs.Woven.{Piece, pieces_in}
use Rattle.script_rounds.proofs.woven.Woven.repeat.Goals as goal

pub invariant_of-self-2 : goal.invariant_of-self-2
invariant_of-self-2 c =
    let s = c.self.inside in
    let m : Piece = (length c.bytes-length.result.now - s.before, snapshot_end c.args.lists.now) in
    let long = ap (λ (t : List ℕ). length t) c.bytes-length.ensures in
    let more = last_longer s.runs.items _ c.in-Some.last.now c.add.new.self m s.runs.len s.runs.ok.0 (c.in-Some.ensures.variant.0 refl) c.in-Some.ensures.value c.if-not-add.ensures refl in
    let stands = stands_piece s.before (pieces_in s.runs.items) _ s.own m c.self.invariant (ap (λ (t : List ℕ). length t - s.before) c.bytes-length.ensures) more in
    (long ∙ stands.0, subst (λ n. n ≤ length s.own) (sym long) stands.1)

pub returns : goal.returns
returns c =
    let s = c.self.inside in
    let m : Piece = (length c.bytes-length.result.now - s.before, snapshot_end c.args.lists.now) in
    let more = last_longer s.runs.items _ c.in-Some.last.now c.add.new.self m s.runs.len s.runs.ok.0 (c.in-Some.ensures.variant.0 refl) c.in-Some.ensures.value c.if-not-add.ensures refl in
    told_piece s.before (pieces_in s.runs.items) _ s.own m c.self.invariant (ap (λ (t : List ℕ). length t - s.before) c.bytes-length.ensures) more
    ∙ ap (λ (t : List ℕ). t ++ snapshot_end c.args.lists.now) c.self.view_is
